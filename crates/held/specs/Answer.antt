-- What is answered of an arc held at a count, in document 01's words, and what is left in the lent buffer.
use Rattle.std.specs.Prelude.{ℕ, ◌≤◌, ◌≡◌, List, leb, ltb, ℤ, pos, length, Result, Ok, Err}
use Rattle.rooms.specs.Room.{at}
use Rattle.plan.specs.Plan.{Plan, Set}
use Rattle.plan.specs.Verdict.{verdict, number_of, asking_rules, Verdict, Accepted}
use Rattle.plan.specs.Flow.{OutsideRange, FirstWith}
use Rattle.plan.specs.Shortage.{ShortBy}
use Rattle.held.specs.declared.Unheld.{Unheld}
use Rattle.held.specs.declared.Unheld.TheVariants.{Short, Outside, Refused}

-- there is such a flow; or why not
abbrev pub Answer : Type 0
Answer = Result Unit Unheld

-- the number that document 01 gives each answer, 0 for a flow
abbrev pub number : Answer → ℕ
number (Ok u) = 0
number (Err (Short value)) = 9
number (Err Outside) = 10
number (Err (Refused refusal)) = number_of refusal.fault

-- the place that goes with it, or 0
abbrev pub place : Answer → ℕ
place (Ok u) = 0
place (Err (Short value)) = 0
place (Err Outside) = 0
place (Err (Refused refusal)) = refusal.place

-- the value that it carries, or 0
abbrev pub carried : Answer → ℤ
carried (Ok u) = pos 0
carried (Err (Short value)) = value
carried (Err Outside) = pos 0
carried (Err (Refused refusal)) = pos 0

-- what is said of the input: an entry for each arc may be written, and the arc must be there
abbrev pub judged : Plan → (arc : ℕ) → (arcs : List ℕ) → Verdict
judged p arc arcs = verdict (asking_rules p (ltb (length arcs) p.arcs) (leb p.arcs arc))

-- the first flow with the count on the arc, in the arc buffer
pub record Flowing (p : Plan) (k count : ℕ) (arcs arcs' : List ℕ) : Type 0 where
  pub first : FirstWith p k count (at arcs')
  pub past : (i : ℕ) → p.arcs ≤ i → at arcs' i ≡ at arcs i

-- what is told of an accepted request, and how the buffer is left: as it was, unless there is such a flow
abbrev pub Told : Plan → (k count : ℕ) → (arcs arcs' : List ℕ) → Answer → Type 0
Told p k count arcs arcs' (Ok u) = Flowing p k count arcs arcs'
Told p k count arcs arcs' (Err (Short value)) = ((S : Set) × ShortBy p value S) × (arcs' ≡ arcs)
Told p k count arcs arcs' (Err Outside) = OutsideRange p k count × (arcs' ≡ arcs)
Told p k count arcs arcs' (Err (Refused refusal)) = ⊥

-- what is answered, and how the buffer is left, for every input
abbrev pub Says : Plan → (arc count : ℕ) → (arcs arcs' : List ℕ) → Answer → Type 0
Says p arc count arcs arcs' (Ok u) = (judged p arc arcs ≡ Accepted) × Told p arc count arcs arcs' (Ok u)
Says p arc count arcs arcs' (Err (Short value)) = (judged p arc arcs ≡ Accepted) × Told p arc count arcs arcs' (Err (Short value))
Says p arc count arcs arcs' (Err Outside) = (judged p arc arcs ≡ Accepted) × Told p arc count arcs arcs' (Err Outside)
Says p arc count arcs arcs' (Err (Refused refusal)) = (judged p arc arcs ≡ Err refusal) × (arcs' ≡ arcs)

pub record HeldAnswers (p : Plan) (arc count : ℕ) (arcs arcs' : List ℕ) (answer : Answer) : Type 0 where
  pub says : Says p arc count arcs arcs' answer
  pub arcs_length : length arcs' ≡ length arcs

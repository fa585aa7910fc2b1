-- What narrowing answers, in document 01's words, and what it leaves in the two lent buffers.
use Rattle.std.specs.Prelude.{ℕ, ◌≤◌, ◌<◌, ◌≡◌, List, length, Result, Ok, Err}
use Rattle.rooms.specs.Room.{at}
use Rattle.plan.specs.Plan.{Plan, Set}
use Rattle.plan.specs.Verdict.{verdict, network_rules, lent_short, Verdict, Accepted}
use Rattle.plan.specs.declared.No.TheVariants.{Short, Refused}
use Rattle.plan.specs.Flow.{HasFlow, Occurs, Narrowed}
use Rattle.plan.specs.Shortage.{ShortBy}
use Rattle.stand.specs.declared.Shortage.{Shortage}
use Rattle.flow.specs.Answer.{Answer}

-- what is said of the input: narrowing may write an entry for each arc to either buffer
abbrev pub judged : Plan → (lows highs : List ℕ) → Verdict
judged p lows highs = verdict (network_rules p (lent_short lows p.arcs highs p.arcs))

-- the plan has a flow, and each arc its narrowed range, in which every count occurs
pub record Ranges (p : Plan) (lows highs lows' highs' : List ℕ) : Type 0 where
  pub has_flow : HasFlow p
  pub narrowed : (k : ℕ) → k < p.arcs → Narrowed p k (at lows' k) (at highs' k)
  pub every_count : (k : ℕ) → k < p.arcs → (count : ℕ) → at lows' k ≤ count → count ≤ at highs' k → Occurs p k count
  pub lows_past : (i : ℕ) → p.arcs ≤ i → at lows' i ≡ at lows i
  pub highs_past : (i : ℕ) → p.arcs ≤ i → at highs' i ≡ at highs i

-- what a plan that is accepted is told, and how the buffers are left: where there is no flow, as they were
abbrev pub Told : Plan → (lows highs lows' highs' : List ℕ) → Result Unit Shortage → Type 0
Told p lows highs lows' highs' (Ok u) = Ranges p lows highs lows' highs'
Told p lows highs lows' highs' (Err shortage) = ((S : Set) × ShortBy p shortage.value S) × (lows' ≡ lows) × (highs' ≡ highs)

-- what narrowing answers of a plan, and how it leaves the buffers, for every input
abbrev pub Says : Plan → (lows highs lows' highs' : List ℕ) → Answer → Type 0
Says p lows highs lows' highs' (Ok u) = (judged p lows highs ≡ Accepted) × Ranges p lows highs lows' highs'
Says p lows highs lows' highs' (Err (Short value)) =
    (judged p lows highs ≡ Accepted) × (((S : Set) × ShortBy p value S) × (lows' ≡ lows) × (highs' ≡ highs))
Says p lows highs lows' highs' (Err (Refused refusal)) =
    (judged p lows highs ≡ Err refusal) × (lows' ≡ lows) × (highs' ≡ highs)

pub record NarrowAnswers (p : Plan) (lows highs lows' highs' : List ℕ) (answer : Answer) : Type 0 where
  pub says : Says p lows highs lows' highs' answer
  pub lows_length : length lows' ≡ length lows
  pub highs_length : length highs' ≡ length highs

-- What is answered of one end of one arc, in document 01's words, and what is left in the two lent buffers.
use Rattle.std.specs.Prelude.{ℕ, ◌≡◌, Bool, ◌||◌, List, leb, ltb, eqb, ℤ, pos, length, Option, Some, None, Result, Ok, Err}
use Rattle.numbers.specs.Sums.{only}
use Rattle.plan.specs.Plan.{Plan, Set}
use Rattle.plan.specs.Verdict.{verdict, number_of, asking_rules, lent_short, Verdict, Accepted}
use Rattle.plan.specs.declared.No.{No}
use Rattle.plan.specs.declared.No.TheVariants.{Short, Refused}
use Rattle.plan.specs.Shortage.{ShortBy}
use Rattle.plan.specs.Reason.{own_end, NarrowedEnd, EndReason, end_marks}
use Rattle.lists.specs.Written.{Written}
use Rattle.stand.specs.declared.Shortage.{Shortage}

-- the end stands, or it moved to a value; or why nothing is said of it
abbrev pub Answer : Type 0
Answer = Result (Option ℕ) No

-- the number that document 01 gives each answer, 0 where the end stands or has a reason
abbrev pub number : Answer → ℕ
number (Ok moved) = 0
number (Err (Short value)) = 9
number (Err (Refused refusal)) = number_of refusal.fault

-- the place that goes with it, or 0; an end that moved is told by 1
abbrev pub place : Answer → ℕ
place (Ok None) = 0
place (Ok (Some value)) = 1
place (Err (Short value)) = 0
place (Err (Refused refusal)) = refusal.place

-- the value that it carries, or 0
abbrev pub carried : Answer → ℤ
carried (Ok None) = pos 0
carried (Ok (Some value)) = pos value
carried (Err (Short value)) = value
carried (Err (Refused refusal)) = pos 0

-- there is no such arc, or the end is neither 0 nor 1
abbrev pub missing : Plan → (arc end : ℕ) → Bool
missing p arc end = leb p.arcs arc || ltb 1 end

-- end 1 is the high one
abbrev pub is_high : ℕ → Bool
is_high end = eqb end 1

-- what is said of the input: an entry for each arc may be written, and one for each node
abbrev pub judged : Plan → (arc end : ℕ) → (arcs nodes : List ℕ) → Verdict
judged p arc end arcs nodes = verdict (asking_rules p (lent_short arcs p.arcs nodes p.nodes) (missing p arc end))

-- an end that moved: the narrowed value, the marks of the reason's set, and the marks of the bounds that its sum cites
pub record Cited (p : Plan) (k : ℕ) (upper : Bool) (value : ℕ) (arcs nodes arcs' nodes' : List ℕ) : Type 0 where
  pub set : Set
  pub reason : EndReason p k upper value set
  pub node_marks : Written (λ v. only (set v) 1) p.nodes nodes nodes'
  pub arc_marks : Written (end_marks p k upper set) p.arcs arcs arcs'

-- what is told of an end of arc k, and how the buffers are left: as they were, unless the end moved
abbrev pub Told : Plan → ℕ → (upper : Bool) → (arcs nodes arcs' nodes' : List ℕ) → Result (Option ℕ) Shortage → Type 0
Told p k upper arcs nodes arcs' nodes' (Ok None) =
    NarrowedEnd p k upper (own_end p k upper) × (arcs' ≡ arcs) × (nodes' ≡ nodes)
Told p k upper arcs nodes arcs' nodes' (Ok (Some value)) = Cited p k upper value arcs nodes arcs' nodes'
Told p k upper arcs nodes arcs' nodes' (Err shortage) =
    ((S : Set) × ShortBy p shortage.value S) × (arcs' ≡ arcs) × (nodes' ≡ nodes)

-- what is answered, and how the buffers are left, for every input
abbrev pub Says : Plan → (arc end : ℕ) → (arcs nodes arcs' nodes' : List ℕ) → Answer → Type 0
Says p arc end arcs nodes arcs' nodes' (Ok moved) =
    (judged p arc end arcs nodes ≡ Accepted) × Told p arc (is_high end) arcs nodes arcs' nodes' (Ok moved)
Says p arc end arcs nodes arcs' nodes' (Err (Short value)) =
    (judged p arc end arcs nodes ≡ Accepted) × (((S : Set) × ShortBy p value S) × (arcs' ≡ arcs) × (nodes' ≡ nodes))
Says p arc end arcs nodes arcs' nodes' (Err (Refused refusal)) =
    (judged p arc end arcs nodes ≡ Err refusal) × (arcs' ≡ arcs) × (nodes' ≡ nodes)

pub record ReasonAnswers (p : Plan) (arc end : ℕ) (arcs nodes arcs' nodes' : List ℕ) (answer : Answer) : Type 0 where
  pub says : Says p arc end arcs nodes arcs' nodes' answer
  pub arcs_length : length arcs' ≡ length arcs
  pub nodes_length : length nodes' ≡ length nodes

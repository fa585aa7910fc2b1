-- What the flow question answers, in document 01's words, and what it leaves in the two lent buffers.
use Rattle.std.specs.Prelude.{ℕ, ◌≤◌, ◌≡◌, List, ℤ, pos, length, Result, Ok, Err}
use Rattle.numbers.specs.Sums.{only}
use Rattle.rooms.specs.Room.{at}
use Rattle.plan.specs.Plan.{Plan, Set}
use Rattle.plan.specs.Verdict.{verdict, number_of, network_rules, lent_short, Verdict, Accepted}
use Rattle.plan.specs.declared.No.{No}
use Rattle.plan.specs.declared.No.TheVariants.{Short, Refused}
use Rattle.plan.specs.Flow.{FirstFlow}
use Rattle.plan.specs.Shortage.{ShortBy}
use Rattle.plan.specs.Reason.{no_marks}
use Rattle.lists.specs.Written.{Written}
use Rattle.stand.specs.declared.Shortage.{Shortage}

-- there is a flow; or why not
abbrev pub Answer : Type 0
Answer = Result Unit No

-- the number that document 01 gives each answer, 0 for a flow
abbrev pub number : Answer → ℕ
number (Ok u) = 0
number (Err (Short value)) = 9
number (Err (Refused refusal)) = number_of refusal.fault

-- the place that goes with it, or 0
abbrev pub place : Answer → ℕ
place (Ok u) = 0
place (Err (Short value)) = 0
place (Err (Refused refusal)) = refusal.place

-- the value that it carries, or 0
abbrev pub carried : Answer → ℤ
carried (Ok u) = pos 0
carried (Err (Short value)) = value
carried (Err (Refused refusal)) = pos 0

-- what is said of the input: the question may write an entry for each arc, and one for each node
abbrev pub judged : Plan → (arcs nodes : List ℕ) → Verdict
judged p arcs nodes = verdict (network_rules p (lent_short arcs p.arcs nodes p.nodes))

-- a "no": the greatest shortfall, the marks of the shortage set, and the marks of the bounds that its sum cites
pub record Lacking (p : Plan) (value : ℤ) (arcs nodes arcs' nodes' : List ℕ) : Type 0 where
  pub set : Set
  pub short : ShortBy p value set
  pub node_marks : Written (λ v. only (set v) 1) p.nodes nodes nodes'
  pub arc_marks : Written (no_marks p set) p.arcs arcs arcs'

-- a flow: the first one in the arc buffer
pub record Flowing (p : Plan) (arcs arcs' : List ℕ) : Type 0 where
  pub first : FirstFlow p (at arcs')
  pub past : (i : ℕ) → p.arcs ≤ i → at arcs' i ≡ at arcs i

-- what a plan that is accepted is told, and how the buffers are left
abbrev pub Told : Plan → (arcs nodes arcs' nodes' : List ℕ) → Result Unit Shortage → Type 0
Told p arcs nodes arcs' nodes' (Ok u) = Flowing p arcs arcs' × (nodes' ≡ nodes)
Told p arcs nodes arcs' nodes' (Err shortage) = Lacking p shortage.value arcs nodes arcs' nodes'

-- what the question answers of a plan, and how it leaves the buffers, for every input
abbrev pub Says : Plan → (arcs nodes arcs' nodes' : List ℕ) → Answer → Type 0
Says p arcs nodes arcs' nodes' (Ok u) =
    (judged p arcs nodes ≡ Accepted) × (Flowing p arcs arcs' × (nodes' ≡ nodes))
Says p arcs nodes arcs' nodes' (Err (Short value)) =
    (judged p arcs nodes ≡ Accepted) × Lacking p value arcs nodes arcs' nodes'
Says p arcs nodes arcs' nodes' (Err (Refused refusal)) =
    (judged p arcs nodes ≡ Err refusal) × (arcs' ≡ arcs) × (nodes' ≡ nodes)

pub record FlowAnswers (p : Plan) (arcs nodes arcs' nodes' : List ℕ) (answer : Answer) : Type 0 where
  pub says : Says p arcs nodes arcs' nodes' answer
  pub arcs_length : length arcs' ≡ length arcs
  pub nodes_length : length nodes' ≡ length nodes

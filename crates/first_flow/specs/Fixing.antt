-- The plan while its first flow is looked for: one arc may be held from the start, and the arcs so far are held.
use Rattle.std.specs.Prelude.{ℕ, ◌/◌, ◌<◌, ◌≡◌, List, ℤ, length, Option, Some, None}
use Rattle.numbers.specs.Sums.{put}
use Rattle.plan.specs.Limits.{arc_entries}
use Rattle.plan.specs.declared.Network.{Network}
use Rattle.plan.specs.Plan.{Plan, WellFormed, plan_of}
use Rattle.plan.specs.Flow.{fixed}
use Rattle.stand.specs.State.{Ready}

-- the plan that two lists hold, but that arc k is held at a count; where k is no arc, none is held
pub record Listed (arcs : List ℕ) (supplies : List ℤ) (k count : ℕ) (p : Plan) : Type 0 where
  pub nodes_are : p.nodes ≡ length supplies
  pub arcs_are : p.arcs ≡ length arcs / arc_entries
  pub from_is : (i : ℕ) → i < p.arcs → p.from i ≡ (plan_of arcs supplies).from i
  pub to_is : (i : ℕ) → i < p.arcs → p.to i ≡ (plan_of arcs supplies).to i
  pub low_is : (i : ℕ) → i < p.arcs → p.low i ≡ put (plan_of arcs supplies).low k count i
  pub high_is : (i : ℕ) → i < p.arcs → p.high i ≡ put (plan_of arcs supplies).high k count i

-- the arcs before i of a listed plan are held at f, and the plan stands ready so
pub record Fixing (arcs : List ℕ) (supplies : List ℤ) (k count i : ℕ) (p : Plan) (f : ℕ → ℕ) (room : ℕ → ℕ → ℕ) : Type 0 where
  pub listed : Listed arcs supplies k count p
  pub well_formed : WellFormed (fixed p f i)
  pub ready : Ready (fixed p f i) room

-- the arc that is held from the start, and its count; where none is, the arc count stands for it, which is no arc
abbrev pub held_arc : List ℕ → Option (ℕ × ℕ) → ℕ
held_arc arcs (Some held) = held.0
held_arc arcs None = length arcs / arc_entries

abbrev pub held_count : Option (ℕ × ℕ) → ℕ
held_count (Some held) = held.1
held_count None = 0

-- the two of a lent network, with an arc that is held from the start, or none
abbrev pub ListedWith : Network → Option (ℕ × ℕ) → Plan → Type 0
ListedWith network held = Listed network.arcs.now network.supplies.now (held_arc network.arcs.now held) (held_count held)

abbrev pub FixingWith : Network → Option (ℕ × ℕ) → ℕ → Plan → (ℕ → ℕ) → (ℕ → ℕ → ℕ) → Type 0
FixingWith network held = Fixing network.arcs.now network.supplies.now (held_arc network.arcs.now held) (held_count held)

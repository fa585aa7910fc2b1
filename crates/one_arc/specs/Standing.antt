-- One arc of a plan that stands ready, and the counts that it may be held at.
use Rattle.std.specs.Prelude.{ℕ, ◌-◌, ◌≤◌, ◌<◌, ◌≡◌, Bool, List}
use Rattle.rooms.specs.Room.{seen}
use Rattle.plan.specs.Plan.{Plan, WellFormed}
use Rattle.plan.specs.Flow.{Occurs}
use Rattle.stand.specs.State.{Ready}

-- arc k of a plan that stands ready: it runs from a to b, and its range is low..high
pub record Standing (p : Plan) (k n a b low high : ℕ) (room : ℕ → ℕ → ℕ) : Type 0 where
  pub well_formed : WellFormed p
  pub arc : k < p.arcs
  pub nodes_are : p.nodes ≡ n
  pub from_is : p.from k ≡ a
  pub to_is : p.to k ≡ b
  pub low_is : p.low k ≡ low
  pub high_is : p.high k ≡ high
  pub ready : Ready p room

-- the count lies in the arc's range, and some flow has it on the arc
pub record Possible (p : Plan) (k count : ℕ) : Type 0 where
  pub least : p.low k ≤ count
  pub most : count ≤ p.high k
  pub occurs : Occurs p k count

-- how much of an arc's width its room lacks for the low end to stand, or with `upper` for the high end
abbrev pub lacking : Plan → ℕ → Bool → List ℕ → ℕ
lacking p k upper rooms = (p.high k - p.low k) - seen rooms upper (p.from k) (p.to k)

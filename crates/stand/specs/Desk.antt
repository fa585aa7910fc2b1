-- The desk that a plan is worked out on: rooms with their words that are lent, for the plan that two lists hold. It is empty before
-- the plan is asked; afterwards the plan may stand ready on it.
use Rattle.std.specs.Prelude.{ℕ, ◌+◌, ◌*◌, ◌≤◌, ◌≡◌, false, List, ℤ, length}
use Rattle.rooms.specs.Room.{side, at, seen}
use Rattle.ways.specs.Ways.{Desk}
use Rattle.plan.specs.Plan.{WellFormed, plan_of}
use Rattle.stand.specs.State.{Ready}

-- rooms and words hold zeros
pub record EmptyDesk (arcs : List ℕ) (supplies : List ℤ) (rooms ways : List ℕ) : Type 0 where
  pub plan : WellFormed (plan_of arcs supplies)
  pub rooms_whole : side * side ≤ length rooms
  pub ways_whole : side + side ≤ length ways
  pub empty : (i : ℕ) → (at rooms i ≡ 0) × (at ways i ≡ 0)

-- the plan stands ready on it
pub record ReadyDesk (arcs : List ℕ) (supplies : List ℤ) (rooms ways : List ℕ) : Type 0 where
  pub plan : WellFormed (plan_of arcs supplies)
  pub desk : Desk (length supplies) rooms ways
  pub ready : Ready (plan_of arcs supplies) (seen rooms false)

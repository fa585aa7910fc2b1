-- A plan in the engine's numbers. For each pair of nodes the rooms both ways are the widths of the arcs between them; and for
-- every set its shortfall, with the room that leads out of it and what is under in it, is what is over in it.
use Rattle.std.specs.Prelude.{ℕ, ◌+◌, ◌-◌, ◌<◌, ◌≡◌, ◌&&◌, eqb, pos, ◌+ℤ◌}
use Rattle.numbers.specs.Sums.{sum_in}
use Rattle.rooms.specs.Room.{crossing}
use Rattle.plan.specs.Plan.{Plan, Set}
use Rattle.plan.specs.Flow.{total}
use Rattle.plan.specs.Shortage.{shortfall}

-- the widths of the arcs from x to y, added up
abbrev pub widths : Plan → ℕ → ℕ → ℕ
widths p x y = total p (λ k. p.high k - p.low k) (λ k. eqb (p.from k) x && eqb (p.to k) y)

-- the rooms of each pair are its widths
pub record Paired (p : Plan) (room : ℕ → ℕ → ℕ) : Type 0 where
  pub pairs : (x y : ℕ) → x < p.nodes → y < p.nodes → (x ≡ y → ⊥) → room x y + room y x ≡ widths p x y + widths p y x

pub record Represents (p : Plan) (room : ℕ → ℕ → ℕ) (over under : ℕ → ℕ) : Type 0 where
  pub account : (S : Set) → shortfall p S +ℤ pos (crossing p.nodes room S + sum_in p.nodes S under) ≡ pos (sum_in p.nodes S over)
  pub paired : Paired p room

-- a plan that has a flow, in balance: nothing is over, nothing is under
pub record Ready (p : Plan) (room : ℕ → ℕ → ℕ) : Type 0 where
  pub account : (S : Set) → shortfall p S +ℤ pos (crossing p.nodes room S) ≡ pos 0
  pub paired : Paired p room

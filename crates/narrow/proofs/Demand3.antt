-- Demand 3, for two plans that are narrowed: a second plan with the same network whose ranges all lie within the first's has
-- flows of the first alone, so its narrowed ranges lie within the first's.
use Prim.Native.Nat.{ℕ, ◌≤◌, ◌<◌}
use mathlib.Core.List.{List}
use native.Mathlib.Omega.{arith}
use Rattle.std.specs.Prelude.{Ok}
use Rattle.rooms.specs.Room.{at}
use Rattle.plan.specs.Plan.{Plan}
use Rattle.plan.specs.Keeping.{SameNetwork, RangesWithin}
use Rattle.plan.proofs.Demand3.{demand_3_ranges}
use Rattle.narrow.specs.Answer.{NarrowAnswers}

pub narrowed_ranges_within : (p q : Plan) → SameNetwork p q → RangesWithin p q → {lows highs l h lows' highs' l' h' : List ℕ}
    → NarrowAnswers p lows highs l h (Ok tt) → NarrowAnswers q lows' highs' l' h' (Ok tt)
    → (k : ℕ) → k < p.arcs → (at l k ≤ at l' k) × (at h' k ≤ at h k)
narrowed_ranges_within p q same inside {l = l} {h} {l' = l'} {h'} x y k lk =
    demand_3_ranges p q same inside k (at l k) (at h k) (at l' k) (at h' k)
    (x.says.1.narrowed k lk) (y.says.1.narrowed k (omega (arith, same.arcs)))

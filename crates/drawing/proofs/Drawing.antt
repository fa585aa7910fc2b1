-- The arcs that are drawn are those of the network, where the values are counted by w.
use Prim.Native.Nat.{ℕ, ◌+◌, ◌*◌, ◌<◌}
use mathlib.Core.Path.{◌≡◌}
use native.Mathlib.Omega.{arith}
use Rattle.numbers.specs.Sums.{only}
use Rattle.plan.specs.declared.Arc.{Arc}
use Rattle.lists.proofs.Arcs.{arc_of}
use Rattle.counting.specs.Counting.{Counting}
use Rattle.counting.specs.Network.{network}
use Rattle.counting.proofs.Assigned.{pair_from, pair_to, pair_low, pair_high, end_from, end_to, end_low, end_high}

-- from variable i to value j
abbrev pub pair_arc : Counting → (i j : ℕ) → Arc
pair_arc c i j = record { from = i; to = c.variables + j; low = 0; high = only (c.allowed i j) 1 }

pub pair_arc_is : (c : Counting) (w : ℕ) → w ≡ c.values → (i j : ℕ) → i < c.variables → j < w
    → pair_arc c i j ≡ arc_of (network c) (i * w + j)
pair_arc_is c w e i j row column =
    let below : j < c.values = omega (arith, e, column) in
    rw (e, pair_from c i j row below, pair_to c i j row below, pair_low c i j row below, pair_high c i j row below)

-- from value j to the last node
abbrev pub end_arc : Counting → (w j : ℕ) → Arc
end_arc c w j = record { from = c.variables + j; to = c.variables + w; low = c.low j; high = c.high j }

pub end_arc_is : (c : Counting) (w : ℕ) → w ≡ c.values → (j : ℕ) → end_arc c w j ≡ arc_of (network c) (c.variables * w + j)
end_arc_is c w e j = rw (e, end_from c j, end_to c j, end_low c j, end_high c j)

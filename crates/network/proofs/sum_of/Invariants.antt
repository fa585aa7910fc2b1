-- The sum so far is that of the supplies passed, and at most 1,000,000 in magnitude for each.
use Prim.Native.Nat.{◌*◌, ◌≤◌}
use mathlib.Core.Path.{◌≡◌}
use lib.IntN.{pos, nat_abs}
use lib.ListN.{get_or}
use Rattle.numbers.specs.Sums.{sumℤ}
use Rattle.plan.specs.Limits.{most_supply}
use Rattle.network.proofs.sum_of.Given as goal

abbrev pub invariant-loop-supply : goal.invariant-loop-supply
invariant-loop-supply l = (l.sum ≡ sumℤ l.supply-index (λ u. get_or l.supplies u (pos 0))) × (nat_abs l.sum ≤ l.supply-index * most_supply)

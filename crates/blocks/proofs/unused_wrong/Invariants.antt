-- No byte passed is other than 0.
use Prim.Native.Nat.{ℕ, ◌<◌}
use mathlib.Core.Path.{◌≡◌}
use mathlib.Core.Bool.{false, not, ◌&&◌}
use lib.Dec.{leb, eqb}
use Rattle.format.specs.Held.{byte}
use Rattle.blocks.proofs.unused_wrong.Given as goal

abbrev pub invariant-loop-i : goal.invariant-loop-i
invariant-loop-i l = (j : ℕ) → j < l.i → (leb l.end j && not (eqb (byte l.file l.b j) 0)) ≡ false

-- Two's complement: the bits of a number, and the number that bits are, as the definitions have them and as the machine does.
use Prim.Native.Nat.{ℕ, suc, ◌-◌, ◌^◌}
use mathlib.Core.Path.{◌≡◌, refl}
use mathlib.Core.Bool.{Bool, true, false, cond}
use lib.Dec.{ltb}
use lib.IntN.{ℤ, pos, negsuc}
use mir.Syntax.{w32}
use mir.Val.{to_z, of_z, sel}
use Rattle.format.specs.Format.{unsigned}
use Rattle.format.specs.Held.{signed}

pub signed_is : (n : ℕ) → to_z w32 n ≡ signed n
signed_is n = by (ltb n (2 ^ 31))
  where
    by : (t : Bool) → sel t (pos n) (negsuc (2 ^ 32 - suc n)) ≡ cond t (pos n) (negsuc (2 ^ 32 - suc n))
    by true = refl
    by false = refl

pub unsigned_is : (z : ℤ) → of_z w32 z ≡ unsigned z
unsigned_is (pos n) = refl
unsigned_is (negsuc n) = refl

-- The two parts of a signed number: z is `plus z` less `minus z`, two natural numbers of which one is 0.
use Rattle.std.specs.Prelude.{ℕ, suc, ℤ, pos, negsuc}

abbrev pub plus : ℤ → ℕ
plus (pos n) = n
plus (negsuc n) = 0

abbrev pub minus : ℤ → ℕ
minus (pos n) = 0
minus (negsuc n) = suc n

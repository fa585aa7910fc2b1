-- A number in decimal: its digits, the highest first, as few as hold it; and the number that digits say.
use Rattle.std.specs.Prelude.{ℕ, zero, suc, ◌+◌, ◌-◌, ◌*◌, ◌/◌, Bool, true, cond, ◌&&◌, [], ◌∷◌, ltb, leb}
use Rattle.io.specs.Digits.{last_digits}
use Rattle.text.specs.Words.{Text}

abbrev pub base : ℕ
base = 10

-- how many digits a number has that is at most `most`
unfoldable pub places : (most x : ℕ) → ℕ
places zero x = 1
places (suc most) x = cond (ltb x base) 1 (suc (places most (x / base)))

unfoldable pub decimal : (x : ℕ) → Text
decimal x = last_digits base (places x x) x

-- ---- read back

-- the digit 0, and the others in order after it
abbrev pub first_digit : ℕ
first_digit = 48

abbrev pub is_digit : (byte : ℕ) → Bool
is_digit byte = leb first_digit byte && ltb byte (first_digit + base)

-- every byte is a digit
abbrev pub all_digits : Text → Bool
all_digits [] = true
all_digits (byte ∷ rest) = is_digit byte && all_digits rest

-- the value of digits that stand after digits worth `before`
abbrev pub value_after : (before : ℕ) → Text → ℕ
value_after before [] = before
value_after before (byte ∷ rest) = value_after (before * base + (byte - first_digit)) rest

abbrev pub value : Text → ℕ
value text = value_after 0 text

-- A signed number z is `plus z` less `minus z`, two natural numbers of which one is 0. Each operation of ℤ has one
-- equation between parts, and each relation of ℤ is one relation between parts, both ways. With `whole` in its list and
-- the equations of the operations that occur, `omega` proves what is linear over ℤ:  `omega (whole, add a b, sub (a +ℤ b) c)`.
use Prim.Native.Nat.{ℕ, zero, suc, ◌+◌, min, ◌≤◌, ◌<◌}
use mathlib.Core.Path.{◌≡◌, refl, ap}
use mathlib.Core.Bool.{Bool, true, false}
use native.Mathlib.Omega.{arith}
use native.Mathlib.Decide.{ℕ_discrete, dec_le, map_dec}
use lib.Dec.{ltb, ltb→lt, leb→le, le→leb, lt→ltb}
use lib.IntN.{ℤ, pos, negsuc, neg_ℤ, nat_abs, sub_ℕ, ◌+ℤ◌, ◌-ℤ◌}
use lib.Signed.{◌≤ℤ◌, ◌<ℤ◌, mag}
use borrow.Author.Tests.{ltb-true, ltb-false}
use Rattle.numbers.specs.Parts.{plus, minus}

-- one of the two is 0
pub one_part : (z : ℤ) → min (plus z) (minus z) ≡ 0
one_part (pos n) = omega arith
one_part (negsuc n) = omega arith

-- a difference of two natural numbers
difference : (a b : ℕ) → plus (sub_ℕ a b) + b ≡ a + minus (sub_ℕ a b)
difference a b = by (ltb a b) refl
  where
    by : (t : Bool) → ltb a b ≡ t → plus (sub_ℕ a b) + b ≡ a + minus (sub_ℕ a b)
    by true e = rw e (omega (arith, ltb-true a b e))
    by false e = rw e (omega (arith, ltb-false a b e))

pub add : (a b : ℤ) → plus (a +ℤ b) + (minus a + minus b) ≡ plus a + plus b + minus (a +ℤ b)
add (pos a) (pos b) = omega arith
add (pos a) (negsuc b) = omega (arith, difference a (suc b))
add (negsuc a) (pos b) = omega (arith, difference b (suc a))
add (negsuc a) (negsuc b) = omega arith

pub neg_plus : (a : ℤ) → plus (neg_ℤ a) ≡ minus a
neg_plus (pos zero) = refl
neg_plus (pos (suc n)) = refl
neg_plus (negsuc n) = refl

pub neg_minus : (a : ℤ) → minus (neg_ℤ a) ≡ plus a
neg_minus (pos zero) = refl
neg_minus (pos (suc n)) = refl
neg_minus (negsuc n) = refl

pub sub : (a b : ℤ) → plus (a -ℤ b) + (minus a + plus b) ≡ plus a + minus b + minus (a -ℤ b)
sub a b = omega (arith, add a (neg_ℤ b), neg_plus b, neg_minus b)

-- relations, from ℤ to the parts
pub le_parts : (a b : ℤ) → a ≤ℤ b → plus a + minus b ≤ plus b + minus a
le_parts (pos a) (pos b) h = omega (arith, leb→le a b h.le)
le_parts (pos a) (negsuc b) h = absurd h.le
le_parts (negsuc a) (pos b) h = omega arith
le_parts (negsuc a) (negsuc b) h = omega (arith, leb→le b a h.le)

pub lt_parts : (a b : ℤ) → a <ℤ b → plus a + minus b < plus b + minus a
lt_parts (pos a) (pos b) h = omega (arith, ltb→lt a b h.lt)
lt_parts (pos a) (negsuc b) h = absurd h.lt
lt_parts (negsuc a) (pos b) h = omega arith
lt_parts (negsuc a) (negsuc b) h = omega (arith, ltb→lt b a h.lt)

pub eq_parts : (a b : ℤ) → a ≡ b → plus a + minus b ≡ plus b + minus a
eq_parts a b e = omega (arith, ap plus e, ap minus e)

-- and from the parts to ℤ
pub parts_le : (a b : ℤ) → plus a + minus b ≤ plus b + minus a → a ≤ℤ b
parts_le (pos a) (pos b) h = record { le = le→leb a b (omega arith) }
parts_le (pos a) (negsuc b) h = absurd (omega arith)
parts_le (negsuc a) (pos b) h = record { le = tt }
parts_le (negsuc a) (negsuc b) h = record { le = le→leb b a (omega arith) }

pub parts_lt : (a b : ℤ) → plus a + minus b < plus b + minus a → a <ℤ b
parts_lt (pos a) (pos b) h = record { lt = lt→ltb a b (omega arith) }
parts_lt (pos a) (negsuc b) h = absurd (omega arith)
parts_lt (negsuc a) (pos b) h = record { lt = tt }
parts_lt (negsuc a) (negsuc b) h = record { lt = lt→ltb b a (omega arith) }

pub parts_eq : (a b : ℤ) → plus a + minus b ≡ plus b + minus a → a ≡ b
parts_eq (pos a) (pos b) h = ap pos (omega arith)
parts_eq (pos a) (negsuc b) h = absurd (omega arith)
parts_eq (negsuc a) (pos b) h = absurd (omega arith)
parts_eq (negsuc a) (negsuc b) h = ap negsuc (omega arith)

-- so both relations are decided, by their parts
abbrev pub equalℤ : (a b : ℤ) → Dec (a ≡ b)
equalℤ a b = map_dec (parts_eq a b) (eq_parts a b) (ℕ_discrete (plus a + minus b) (plus b + minus a))

abbrev pub at_mostℤ : (a b : ℤ) → Dec (a ≤ℤ b)
at_mostℤ a b = map_dec (parts_le a b) (le_parts a b) (dec_le (plus a + minus b) (plus b + minus a))

-- the magnitude of a number is its two parts, of which one is 0
pub magnitude : (a : ℤ) → nat_abs a ≡ plus a + minus a
magnitude (pos n) = omega arith
magnitude (negsuc n) = omega arith

pub magnitude_add : (a b : ℤ) → nat_abs (a +ℤ b) ≤ nat_abs a + nat_abs b
magnitude_add a b =
    omega (arith, add a b, magnitude a, magnitude b, magnitude (a +ℤ b), one_part (a +ℤ b))

-- what bounds the magnitude bounds the number's range
pub magnitude_range : (a : ℤ) → mag a ≤ nat_abs a
magnitude_range (pos n) = omega arith
magnitude_range (negsuc n) = omega arith

pub ruleset whole = (arith, le_parts, lt_parts, eq_parts, parts_le, parts_lt, parts_eq)

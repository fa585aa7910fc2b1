-- The digits of a number: one digit, or those of its tenth part and one more. The kit's count of digits is ours, and the digits
-- read back as the number.
use Prim.Native.Nat.{ℕ, zero, suc, ◌+◌, ◌-◌, ◌*◌, ◌/◌, ◌%◌, ◌^◌, ◌≤◌, ◌<◌}
use mathlib.Core.Path.{◌≡◌, refl, sym, ap, ◌∙◌}
use mathlib.Core.Bool.{true}
use mathlib.Core.List.{[], ◌∷◌, ◌++◌}
use mathlib.Core.Logic.{by_cases}
use native.Mathlib.Omega.{arith}
use native.Mathlib.Decide.{dec_lt}
use native.Mathlib.Numerals.{unary_clauses}
use native.Mathlib.Nat.{pow-suc, pow-le-pow_right}
use borrow.Author.Tests.{lt-ltb, le-ltb, le-leb}
use lib.ListN.{length, length-append}
use Rattle.numbers.proofs.Truth.{both_true}
use Rattle.io.specs.Digits.{last_digits, hex_digit_ascii, IsDigitCount}
use Rattle.text.specs.Words.{Text}
use Rattle.text.specs.Decimal.{base, places, decimal, first_digit, is_digit, all_digits, value_after, value}

places_small : (most x : ℕ) → x < base → places most x ≡ 1
unfolding places
places_small zero x small = refl
places_small (suc most) x small = simp (lt-ltb x base small)

places_more : (most x : ℕ) → base ≤ x → places (suc most) x ≡ suc (places most (x / base))
unfolding places
places_more most x large = simp (le-ltb x base large)

-- more steps than are needed change nothing
places_enough : (a b x : ℕ) → x ≤ a → x ≤ b → places a x ≡ places b x
places_enough zero b x la lb = places_small 0 x (omega arith) ∙ sym (places_small b x (omega arith))
places_enough (suc a) zero x la lb = places_small (suc a) x (omega arith) ∙ sym (places_small 0 x (omega arith))
places_enough (suc a) (suc b) x la lb = by_cases (dec_lt x base)
    (λ small. places_small (suc a) x small ∙ sym (places_small (suc b) x small))
    (λ no. let large : base ≤ x = omega arith in
    places_more a x large ∙ ap suc (places_enough a b (x / base) (omega arith) (omega arith)) ∙ sym (places_more b x large))

-- the last digit
last_glyph : (x : ℕ) → hex_digit_ascii (x % base) ≡ first_digit + x % base
last_glyph x = let digit : x % base < base = omega arith in simp (lt-ltb (x % base) base digit)

decimal_small : (x : ℕ) → x < base → decimal x ≡ (first_digit + x) ∷ []
unfolding decimal
decimal_small x small = rw (places_small x x small) (ap (λ d. d ∷ []) (last_glyph x ∙ omega arith))

decimal_more : (x : ℕ) → base ≤ x → decimal x ≡ decimal (x / base) ++ ((first_digit + x % base) ∷ [])
unfolding decimal
decimal_more zero large = absurd (omega arith)
decimal_more (suc n) large =
    rw (places_more n (suc n) large, places_enough n (suc n / base) (suc n / base) (omega arith) (omega arith), last_glyph (suc n)) refl

-- what holds of a digit, and of a number where it holds of its tenth part, holds of all
module _ (P : ℕ → Type 0) (small : (x : ℕ) → x < base → P x) (more : (x : ℕ) → base ≤ x → P (x / base) → P x) where
  upto : (n x : ℕ) → x < n → P x
  upto zero x l = absurd (omega arith)
  upto (suc n) x l = by_cases (dec_lt x base) (small x) (λ no. more x (omega arith) (upto n (x / base) (omega arith)))

  by_digits : (x : ℕ) → P x
  by_digits x = upto (suc x) x (omega arith)

-- as few digits as hold the number are its decimal
pub fewest_decimal : (k x : ℕ) → IsDigitCount base 1 x k → last_digits base k x ≡ decimal x
fewest_decimal zero x few = absurd (omega (arith, few.0))
fewest_decimal (suc zero) x few =
    let small : x < base = few.1 in
    ap (λ d. d ∷ []) (last_glyph x ∙ omega arith) ∙ sym (decimal_small x small)
fewest_decimal (suc (suc k)) x few =
    let least : base ^ k * base ≤ x = simp unary_clauses at (few.2 (omega arith)) in
    let ten : 0 < base = omega arith in
    let any : 0 ≤ k = omega arith in
    let large : base ≤ x = omega (arith, least, pow-le-pow_right ten any) in
    let tenth : IsDigitCount base 1 (x / base) (suc k) =
    (omega arith, omega (arith, few.1, pow-suc base (suc k)), λ more. simp unary_clauses (omega (arith, least))) in
    rw (fewest_decimal (suc k) (x / base) tenth, last_glyph x) (sym (decimal_more x large))

-- a number below a power of ten has at most so many digits
pub decimal_short : (k x : ℕ) → x < base ^ suc k → length (decimal x) ≤ suc k
decimal_short zero x small = rw (decimal_small x (omega arith)) (omega arith)
decimal_short (suc k) x small = by_cases (dec_lt x base)
    (λ little. rw (decimal_small x little) (omega arith))
    (λ no. let large : base ≤ x = omega arith in
    rw (decimal_more x large) (omega (arith, length-append (decimal (x / base)) ((first_digit + x % base) ∷ []), decimal_short k (x / base) (omega (arith, pow-suc base (suc k))))))

-- ---- a number is read back from its digits

value_snoc : (v : ℕ) (s : Text) (b : ℕ) → value_after v (s ++ (b ∷ [])) ≡ value_after v s * base + (b - first_digit)
value_snoc v [] b = refl
value_snoc v (a ∷ s) b = value_snoc (v * base + (a - first_digit)) s b

pub decimal_value : (x : ℕ) → value (decimal x) ≡ x
decimal_value = by_digits (λ x. value (decimal x) ≡ x)
    (λ x small. rw (decimal_small x small) (omega arith))
    (λ x large tenth. rw (decimal_more x large) (value_snoc 0 (decimal (x / base)) (first_digit + x % base) ∙ omega (arith, tenth)))

digit_is : (d : ℕ) → d < base → is_digit (first_digit + d) ≡ true
digit_is d l = let high : first_digit + d < first_digit + base = omega arith in let low : first_digit ≤ first_digit + d = omega arith in
    simp (le-leb first_digit (first_digit + d) low, lt-ltb (first_digit + d) (first_digit + base) high)

digits_snoc : (s : Text) (b : ℕ) → all_digits s ≡ true → is_digit b ≡ true → all_digits (s ++ (b ∷ [])) ≡ true
digits_snoc [] b all here = simp here
digits_snoc (a ∷ s) b all here =
    let parts = both_true (is_digit a) (all_digits s) all in simp (parts.0, digits_snoc s b parts.1 here)

pub decimal_digits : (x : ℕ) → all_digits (decimal x) ≡ true
decimal_digits = by_digits (λ x. all_digits (decimal x) ≡ true)
    (λ x small. rw (decimal_small x small) (simp (digit_is x small)))
    (λ x large tenth. rw (decimal_more x large) (digits_snoc (decimal (x / base)) (first_digit + x % base) tenth (digit_is (x % base) (omega arith))))

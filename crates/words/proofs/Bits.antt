-- The bits of a word: of a word cut in half, of the empty set, of one number, of two words joined, met and of one without
-- the other, and the lowest. The bits say which word it is.
use Prim.Native.Nat.{ℕ, zero, suc, ◌+◌, ◌-◌, ◌*◌, ◌/◌, ◌%◌, ◌^◌, ◌≤◌, ◌<◌}
use mathlib.Core.Path.{◌≡◌, refl, ap, sym, ◌∙◌}
use mathlib.Core.Bool.{Bool, true, false, not, ◌&&◌, ◌||◌, and-true, and_self, false≢true}
use mathlib.Core.Logic.{by_cases}
use native.Mathlib.Omega.{arith}
use native.Mathlib.Decide.{ℕ_discrete, dec_lt}
use native.Mathlib.Nat.{div-one, zero-div, mod-lt, div-eq_of_lt, two-pow-succ}
use lib.Dec.{eqb}
use lib.Pow.{pow_mono, shr-shr}
use lib.Bits.{bit_and, bit_or, and_shr, and_mod, and_le_r, or_shr, or_mod, shifted_half, shifted_even}
use lib.Count.{count_trailing_zeros, under}
use borrow.Author.Tests.{eqb-true, eqb-false, eq-eqb, ne_eqb}
use Rattle.numbers.specs.Sums.{only}
use Rattle.numbers.proofs.Sums.{eqb_cases}
use Rattle.words.specs.Word.{holds, SplitOf}

-- the bits of a word past w are those of the word shifted by w
pub holds_shifted : (word w y : ℕ) → holds word (w + y) ≡ holds (word / 2 ^ w) y
holds_shifted word w y =
    ap (λ x. eqb (x % 2) 1) (sym (shr-shr word w y))

pub holds_half : (word y : ℕ) → holds word (suc y) ≡ holds (word / 2) y
holds_half word y = ap (holds word) (omega arith) ∙ holds_shifted word 1 y

-- the last bit
pub holds_last : (word : ℕ) → holds word 0 ≡ eqb (word % 2) 1
holds_last word = ap (λ x. eqb (x % 2) 1) (div-one word)

pub zero_holds : (y : ℕ) → holds 0 y ≡ false
zero_holds y = rw (zero-div (2 ^ y))

-- a set that has a number is not the empty one
pub some_holds : (word y : ℕ) → holds word y ≡ true → 0 < word
some_holds zero y e = absurd (false≢true (sym (zero_holds y) ∙ e))
some_holds (suc word) y e = omega arith

-- a bit is 1 where the number is in the set, else 0
pub bit_holds : (word y : ℕ) → word / 2 ^ y % 2 ≡ only (holds word y) 1
bit_holds word y = eqb_cases (λ t. word / 2 ^ y % 2 ≡ only t 1) (word / 2 ^ y % 2) 1 (λ e. e) (λ ne. omega arith)

-- and so it tells which
pub one_told : (t : Bool) → eqb (only t 1) 1 ≡ t
one_told true = refl
one_told false = refl

-- ---- the word of one number

same_suc : (a b : ℕ) → eqb a b ≡ eqb (suc a) (suc b)
same_suc a b = by_cases (ℕ_discrete a b)
    (λ e. eq-eqb a b e ∙ sym (eq-eqb (suc a) (suc b) (omega arith)))
    (λ ne. ne_eqb a b ne ∙ sym (ne_eqb (suc a) (suc b) (λ e. ne (omega arith))))

pub one_holds : (y z : ℕ) → holds (1 * 2 ^ y) z ≡ eqb z y
one_holds zero zero = refl
one_holds zero (suc z) = holds_half 1 z ∙ zero_holds z ∙ sym (ne_eqb (suc z) 0 (λ e. omega arith))
one_holds (suc y) zero =
    holds_last (1 * 2 ^ suc y) ∙ ap (λ (x : ℕ). eqb x 1) (shifted_even 1 y) ∙ sym (ne_eqb 0 (suc y) (λ e. omega arith))
one_holds (suc y) (suc z) =
    holds_half (1 * 2 ^ suc y) z ∙ ap (λ (x : ℕ). holds x z) (shifted_half 1 y) ∙ one_holds y z ∙ same_suc z y

-- ---- bit by bit: two words joined, and one without the other

module _ (op : ℕ → ℕ → ℕ) (test : Bool → Bool → Bool)
    (none : eqb (op 0 0) 1 ≡ test false false) (second : eqb (op 0 1) 1 ≡ test false true)
    (first : eqb (op 1 0) 1 ≡ test true false) (both : eqb (op 1 1) 1 ≡ test true true)
    (shifted : (a b k : ℕ) → op a b / 2 ^ k ≡ op (a / 2 ^ k) (b / 2 ^ k))
    (ended : (a b k : ℕ) → op a b % 2 ^ k ≡ op (a % 2 ^ k) (b % 2 ^ k)) where
  at_bits : (d e : ℕ) → d < 2 → e < 2 → eqb (op d e) 1 ≡ test (eqb d 1) (eqb e 1)
  at_bits zero zero p q = none
  at_bits zero (suc zero) p q = second
  at_bits (suc zero) zero p q = first
  at_bits (suc zero) (suc zero) p q = both
  at_bits (suc (suc d)) e p q = absurd (omega arith)
  at_bits zero (suc (suc e)) p q = absurd (omega arith)
  at_bits (suc zero) (suc (suc e)) p q = absurd (omega arith)

  bitwise_holds : (a b y : ℕ) → holds (op a b) y ≡ test (holds a y) (holds b y)
  bitwise_holds a b y =
      ap (λ (x : ℕ). eqb (x % 2) 1) (shifted a b y)
      ∙ ap (λ (x : ℕ). eqb x 1) (ended (a / 2 ^ y) (b / 2 ^ y) 1)
      ∙ at_bits (a / 2 ^ y % 2) (b / 2 ^ y % 2) (mod-lt (a / 2 ^ y) (omega arith)) (mod-lt (b / 2 ^ y) (omega arith))

pub either_holds : (a b y : ℕ) → holds (bit_or a b) y ≡ (holds a y || holds b y)
either_holds = bitwise_holds bit_or ◌||◌ refl refl refl refl or_shr or_mod

pub both_holds : (a b y : ℕ) → holds (bit_and a b) y ≡ (holds a y && holds b y)
both_holds = bitwise_holds bit_and ◌&&◌ refl refl refl refl and_shr and_mod

-- past the bits of a number there is none
pub past_holds : (k word y : ℕ) → word < 2 ^ k → k ≤ y → holds word y ≡ false
past_holds k word y l h = let below : word < 2 ^ y = omega (arith, pow_mono h) in rw (div-eq_of_lt below)

-- the complement, at the bits of the word
not_bit : (d : ℕ) → d < 2 → eqb (1 - d) 1 ≡ not (eqb d 1)
not_bit zero l = refl
not_bit (suc zero) l = refl
not_bit (suc (suc d)) l = absurd (omega arith)

not_halves : (k word : ℕ) → word < 2 ^ suc k
    → ((2 ^ suc k - 1 - word) / 2 ≡ 2 ^ k - 1 - word / 2) × ((2 ^ suc k - 1 - word) % 2 ≡ 1 - word % 2)
not_halves k word l = (omega (arith, two-pow-succ k), omega (arith, two-pow-succ k))

not_holds : (k word y : ℕ) → word < 2 ^ k → y < k → holds (2 ^ k - 1 - word) y ≡ not (holds word y)
not_holds zero word y l h = absurd (omega arith)
not_holds (suc k) word zero l h =
    holds_last (2 ^ suc k - 1 - word)
    ∙ ap (λ (x : ℕ). eqb x 1) (not_halves k word l).1
    ∙ not_bit (word % 2) (mod-lt word (omega arith))
    ∙ ap not (sym (holds_last word))
not_holds (suc k) word (suc y) l h =
    holds_half (2 ^ suc k - 1 - word) y
    ∙ ap (λ (x : ℕ). holds x y) (not_halves k word l).0
    ∙ not_holds k (word / 2) y (omega (arith, two-pow-succ k)) (omega arith)
    ∙ ap not (sym (holds_half word y))

pub but_holds : (k a b y : ℕ) → a < 2 ^ k → b < 2 ^ k → holds (bit_and a (2 ^ k - 1 - b)) y ≡ (holds a y && not (holds b y))
but_holds k a b y la lb = both_holds a (2 ^ k - 1 - b) y ∙ by_cases (dec_lt y k)
    (λ l. ap (λ t. holds a y && t) (not_holds k b y lb l))
    (λ no. rw (past_holds k a y la (omega arith)))

-- ---- the least number of a set that is not empty, and the rest: a word and the number below it differ from there down

record First (k word first : ℕ) : Type 0 where
  in_word : first < k
  there : holds word first ≡ true
  none_before : (z : ℕ) → z < first → holds word z ≡ false
  rest_is : (z : ℕ) → (holds word z && holds (word - 1) z) ≡ (holds word z && not (eqb z first))

first_odd : (k word : ℕ) → word % 2 ≡ 1 → First (suc k) word 0
first_odd k word odd = record { in_word = omega arith; there = last; none_before = λ z before. absurd (omega arith); rest_is = rest }
  where
    last : holds word 0 ≡ true
    last = holds_last word ∙ eq-eqb (word % 2) 1 odd

    rest : (z : ℕ) → (holds word z && holds (word - 1) z) ≡ (holds word z && not (eqb z 0))
    rest zero = ap (λ t. holds word 0 && t) (holds_last (word - 1) ∙ ne_eqb ((word - 1) % 2) 1 (λ e. omega arith))
    rest (suc z) =
        let half : (word - 1) / 2 ≡ word / 2 = omega arith in
        ap (λ t. holds word (suc z) && t) (holds_half (word - 1) z ∙ ap (λ (x : ℕ). holds x z) half ∙ sym (holds_half word z))
        ∙ and_self (holds word (suc z))
        ∙ sym (and-true (holds word (suc z)))
        ∙ ap (λ t. holds word (suc z) && not t) (sym (ne_eqb (suc z) 0 (λ e. omega arith)))

first_even : (k word first : ℕ) → word % 2 ≡ 0 → 0 < word → First k (word / 2) first → First (suc k) word (suc first)
first_even k word first even some f = record {
  in_word = omega (arith, f.in_word);
  there = holds_half word first ∙ f.there;
  none_before = before;
  rest_is = rest;
}
  where
    last : holds word 0 ≡ false
    last = holds_last word ∙ ne_eqb (word % 2) 1 (λ e. omega arith)

    before : (z : ℕ) → z < suc first → holds word z ≡ false
    before zero l = last
    before (suc z) l = holds_half word z ∙ f.none_before z (omega arith)

    rest : (z : ℕ) → (holds word z && holds (word - 1) z) ≡ (holds word z && not (eqb z (suc first)))
    rest zero = rw last
    rest (suc z) =
        let half : (word - 1) / 2 ≡ word / 2 - 1 = omega arith in
        rw (holds_half word z, holds_half (word - 1) z, half) (f.rest_is z)
        ∙ ap (λ t. holds word (suc z) && not t) (same_suc z first)

first_of : (k word : ℕ) → word < 2 ^ k → 0 < word → First k word (count_trailing_zeros k word)
unfolding count_trailing_zeros
first_of zero word l some = absurd (omega arith)
first_of (suc k) word l some = by (λ more. first_of k (word / 2) (omega (arith, two-pow-succ k)) more) (word % 2) refl
  where
    by : (0 < word / 2 → First k (word / 2) (count_trailing_zeros k (word / 2))) → (d : ℕ) → word % 2 ≡ d → First (suc k) word (under d (count_trailing_zeros k (word / 2)))
    by rest zero even = first_even k word (count_trailing_zeros k (word / 2)) even some (rest (omega arith))
    by rest (suc zero) odd = first_odd k word odd
    by rest (suc (suc d)) e = absurd (omega arith)

pub first_taken : (word : ℕ) → word < 2 ^ 64 → 0 < word → SplitOf word (count_trailing_zeros 64 word) (bit_and word (word - 1))
first_taken word l some =
    let f = first_of 64 word l some in
    record {
      in_word = f.in_word;
      there = f.there;
      none_before = f.none_before;
      rest_is = λ z. both_holds word (word - 1) z ∙ f.rest_is z;
      less = omega (arith, and_le_r word (word - 1));
    }

-- ---- a word is known by its bits

same_last : (a b : ℕ) → eqb (a % 2) 1 ≡ eqb (b % 2) 1 → a % 2 ≡ b % 2
same_last a b e = by_cases (ℕ_discrete (a % 2) 1)
    (λ one. omega (arith, eqb-true (b % 2) 1 (sym e ∙ eq-eqb (a % 2) 1 one)))
    (λ no. let other = eqb-false (b % 2) 1 (sym e ∙ ne_eqb (a % 2) 1 no) in
    by_cases (ℕ_discrete (b % 2) 1) (λ one. absurd (other one)) (λ no'. omega arith))

same_below : (most a b : ℕ) → a ≤ most → b ≤ most → ((y : ℕ) → holds a y ≡ holds b y) → a ≡ b
same_below zero a b la lb same = omega arith
same_below (suc most) a b la lb same =
    let halves = same_below most (a / 2) (b / 2) (omega arith) (omega arith)
    (λ y. sym (holds_half a y) ∙ same (suc y) ∙ holds_half b y) in
    let lasts = same_last a b (sym (holds_last a) ∙ same 0 ∙ holds_last b) in
    omega arith

pub same_word : (a b : ℕ) → ((y : ℕ) → holds a y ≡ holds b y) → a ≡ b
same_word a b = same_below (a + b) a b (omega arith) (omega arith)

-- The word of a new domain, built bit by bit from the last value down.
use Prim.Native.Nat.{ℕ, zero, suc, ◌+◌, ◌-◌, ◌*◌, ◌/◌, ◌%◌, ◌^◌, ◌≤◌, ◌<◌}
use mathlib.Core.Path.{◌≡◌, refl, ap, subst, ◌∙◌}
use mathlib.Core.Bool.{Bool, true, false, ◌&&◌}
use mathlib.Core.List.{List}
use native.Mathlib.Omega.{arith}
use native.Mathlib.Nat.{one-le-pow, two-pow-succ, zero-add, add-zero}
use lib.Dec.{eqb, ltb}
use mir.Val.{bool_byte}
use borrow.Author.Tests.{lt-ltb, le-ltb, eq-eqb, ne_eqb}
use Rattle.numbers.specs.Sums.{only}
use Rattle.rooms.specs.Room.{at}
use Rattle.words.specs.Word.{holds}
use Rattle.count.specs.Narrowed.{DomainOf}
use Rattle.counting.proofs.Grid.{only_most}
use Rattle.words.proofs.Bits.{holds_half, holds_last, zero_holds}

-- the bits of the values from j on stand
pub record Built (highs : List ℕ) (start values j word : ℕ) : Type 0 where
  pub bits : (t : ℕ) → holds word t ≡ (ltb (j + t) values && ltb 0 (at highs (start + (j + t))))
  pub small : word < 2 ^ (values - j)

pub built_none : {highs : List ℕ} {start : ℕ} (w : ℕ) → Built highs start w w 0
built_none w = record {
  bits = λ t. zero_holds t ∙ rw (le-ltb (w + t) w (omega arith));
  small = one-le-pow (w - w) 2 (omega arith);
}

-- a test as a number
pub test_number : (t : Bool) → bool_byte t ≡ only t 1
test_number true = refl
test_number false = refl

built_next : {highs : List ℕ} {start w j word : ℕ} → j < w → Built highs start w (suc j) word
    → Built highs start w j (word * 2 + only (ltb 0 (at highs (start + j))) 1)
built_next {highs} {start} {w} {j} {word} l b = record { bits = bits; small = small }
  where
    test : Bool
    test = ltb 0 (at highs (start + j))

    half : (t : Bool) → (word * 2 + only t 1) / 2 ≡ word
    half true = omega arith
    half false = omega arith

    last : (t : Bool) → eqb ((word * 2 + only t 1) % 2) 1 ≡ t
    last true = eq-eqb ((word * 2 + 1) % 2) 1 (omega arith)
    last false = ne_eqb ((word * 2 + 0) % 2) 1 (λ e. omega arith)

    bits : (t : ℕ) → holds (word * 2 + only test 1) t ≡ (ltb (j + t) w && ltb 0 (at highs (start + (j + t))))
    bits zero = rw (add-zero j, lt-ltb j w l) (holds_last (word * 2 + only test 1) ∙ last test)
    bits (suc t) =
        let next : suc j + t ≡ j + suc t = omega arith in
        holds_half (word * 2 + only test 1) t ∙ ap (λ x. holds x t) (half test) ∙ b.bits t
        ∙ ap (λ n. ltb n w && ltb 0 (at highs (start + n))) next

    small : word * 2 + only test 1 < 2 ^ (w - j)
    small =
        let next : w - j ≡ suc (w - suc j) = omega arith in
        rw (next) (omega (arith, b.small, two-pow-succ (w - suc j), only_most test))

pub built_on : {highs : List ℕ} {start w j word : ℕ} → 1 ≤ j → j ≤ w → Built highs start w j word
    → Built highs start w (j - 1) (word * 2 + only (ltb 0 (at highs (start + (j - 1)))) 1)
built_on {highs} {start} {w} {j} {word} some l b =
    let back : j ≡ suc (j - 1) = omega arith in
    built_next (omega arith) (subst (λ i. Built highs start w i word) back b)

pub built_whole : {highs : List ℕ} {start w word : ℕ} → Built highs start w 0 word → DomainOf highs start w word
built_whole {highs} {start} {w} b = record { bits = λ j. b.bits j ∙ ap (λ t. ltb t w && ltb 0 (at highs (start + t))) (zero-add j) }

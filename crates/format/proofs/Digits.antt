-- Numbers and their bytes, both ways: the bytes of a number that was put together are those it was made of, and what is put together
-- of a number's bytes is the number.
use Prim.Native.Nat.{ℕ, zero, suc, ◌+◌, ◌*◌, ◌/◌, ◌%◌, ◌^◌, ◌<◌}
use mathlib.Core.Path.{◌≡◌, sym, ap, ◌∙◌}
use mathlib.Core.List.{List}
use native.Mathlib.Omega.{arith}
use lib.IntN.{ℤ, pos, negsuc, nat_abs}
use mir.Syntax.{w32}
use mir.Val.{to_z}
use mir.Facts.{to_z-of_z, of_z-to_z}
use Rattle.numbers.proofs.Parts.{magnitude_range}
use Rattle.format.specs.Format.{digit, packed, unsigned}
use Rattle.format.specs.Held.{one, two, four, signed, Bytes}
use Rattle.format.proofs.Complement.{signed_is, unsigned_is}

-- ---- six bytes

-- from a place on stand two numbers of one byte each, then two of two bytes each
pub record Unpacked (l : List ℕ) (at a b c d : ℕ) : Type 0 where
  pub first : one l at ≡ a
  pub second : one l (at + 1) ≡ b
  pub third : two l (at + 2) ≡ c
  pub fourth : two l (at + 4) ≡ d

-- they are the bytes that stand there
pub packed_back : {l : List ℕ} {at a b c d : ℕ} → Bytes l → Unpacked l at a b c d → (i : ℕ) → i < 6 → packed a b c d i ≡ one l (at + i)
packed_back {l} {at} bytes u zero lt =
    let here : at ≡ at + 0 = omega arith in
    sym u.first ∙ ap (one l) here
packed_back {l} {at} bytes u (suc zero) lt = sym u.second
packed_back {l} {at} bytes u (suc (suc zero)) lt = omega (arith, u.third, bytes (at + 2), bytes (at + 2 + 1))
packed_back {l} {at} bytes u (suc (suc (suc zero))) lt =
    let here : at + 2 + 1 ≡ at + 3 = omega arith in
    omega (arith, u.third, bytes (at + 2), bytes (at + 2 + 1), ap (one l) here)
packed_back {l} {at} bytes u (suc (suc (suc (suc zero)))) lt = omega (arith, u.fourth, bytes (at + 4), bytes (at + 4 + 1))
packed_back {l} {at} bytes u (suc (suc (suc (suc (suc zero))))) lt =
    let here : at + 4 + 1 ≡ at + 5 = omega arith in
    omega (arith, u.fourth, bytes (at + 4), bytes (at + 4 + 1), ap (one l) here)
packed_back bytes u (suc (suc (suc (suc (suc (suc i)))))) lt = absurd (omega arith)

-- and where those bytes stand, so do they
pub packed_there : (l : List ℕ) (at a b c d : ℕ) → c < 65536 → d < 65536 → ((i : ℕ) → i < 6 → one l (at + i) ≡ packed a b c d i) → Unpacked l at a b c d
packed_there l at a b c d lc ld there =
    let zeroth : at ≡ at + 0 = omega arith in
    let third_is : at + 2 + 1 ≡ at + 3 = omega arith in
    let fifth_is : at + 4 + 1 ≡ at + 5 = omega arith in record {
      first = ap (one l) zeroth ∙ there 0 (omega arith);
      second = there 1 (omega arith);
      third = omega (arith, there 2 (omega arith), there 3 (omega arith), ap (one l) third_is);
      fourth = omega (arith, there 4 (omega arith), there 5 (omega arith), ap (one l) fifth_is);
    }

-- ---- four bytes of a signed number

unsigned_signed : (n : ℕ) → n < 2 ^ 32 → unsigned (signed n) ≡ n
unsigned_signed n l =
    ap unsigned (sym (signed_is n)) ∙ sym (unsigned_is (to_z w32 n)) ∙ of_z-to_z {w = w32} {n = n} (record { fits = l })

signed_unsigned : (z : ℤ) → nat_abs z < 2 ^ 31 → signed (unsigned z) ≡ z
signed_unsigned z l =
    sym (signed_is (unsigned z)) ∙ ap (to_z w32) (sym (unsigned_is z)) ∙ to_z-of_z {w = w32} {z = z} (record { sfits = omega (arith, magnitude_range z) })

unsigned_small : (z : ℤ) → nat_abs z < 2 ^ 31 → unsigned z < 2 ^ 32
unsigned_small (pos n) l = omega arith
unsigned_small (negsuc n) l = omega arith

-- a number below 2 ^ 32 is its four bytes, put together
four_digits : (n : ℕ) → n < 2 ^ 32 → digit n 0 + 256 * digit n 1 + 65536 * (digit n 2 + 256 * digit n 3) ≡ n
four_digits n l =
    let second : n / 65536 ≡ n / 256 / 256 = omega arith in
    let third : n / 16777216 ≡ n / 65536 / 256 = omega arith in
    let a : n / 1 % 256 + 256 * (n / 256) ≡ n = omega arith in
    let b : n / 256 % 256 + 256 * (n / 65536) ≡ n / 256 = omega arith in
    let c : n / 65536 % 256 + 256 * (n / 16777216) ≡ n / 65536 = omega arith in
    let d : n / 16777216 % 256 ≡ n / 16777216 = omega arith in
    omega arith

pub supply_back : (l : List ℕ) (at : ℕ) → Bytes l → (i : ℕ) → i < 4 → digit (unsigned (signed (four l at))) i ≡ one l (at + i)
supply_back l at bytes i lt =
    let small : four l at < 2 ^ 32 = omega (arith, bytes at, bytes (at + 1), bytes (at + 2), bytes (at + 2 + 1)) in
    rw (unsigned_signed (four l at) small) (by i lt)
  where
    by : (j : ℕ) → j < 4 → digit (four l at) j ≡ one l (at + j)
    by zero m =
        let here : at ≡ at + 0 = omega arith in
        omega (arith, bytes at, bytes (at + 1), bytes (at + 2), bytes (at + 2 + 1), ap (one l) here)
    by (suc zero) m = omega (arith, bytes at, bytes (at + 1), bytes (at + 2), bytes (at + 2 + 1))
    by (suc (suc zero)) m = omega (arith, bytes at, bytes (at + 1), bytes (at + 2), bytes (at + 2 + 1))
    by (suc (suc (suc zero))) m =
        let here : at + 2 + 1 ≡ at + 3 = omega arith in
        omega (arith, bytes at, bytes (at + 1), bytes (at + 2), bytes (at + 2 + 1), ap (one l) here)
    by (suc (suc (suc (suc j)))) m = absurd (omega arith)

pub supply_there : (l : List ℕ) (at : ℕ) (z : ℤ) → nat_abs z < 2 ^ 31 → ((i : ℕ) → i < 4 → one l (at + i) ≡ digit (unsigned z) i) → signed (four l at) ≡ z
supply_there l at z small there =
    let zeroth : at ≡ at + 0 = omega arith in
    let third : at + 2 + 1 ≡ at + 3 = omega arith in
    let whole : four l at ≡ unsigned z = omega (
      arith,
      four_digits (unsigned z) (unsigned_small z small),
      there 0 (omega arith),
      there 1 (omega arith),
      there 2 (omega arith),
      there 3 (omega arith),
      ap (one l) zeroth,
      ap (one l) third,
    ) in
    ap signed whole ∙ signed_unsigned z small

-- The weighted sum under a check, one byte more at a time.
use Prim.Native.Nat.{ℕ, ◌+◌, ◌*◌, ◌≤◌, ◌<◌}
use mathlib.Core.Path.{◌≡◌, refl, ap}
use native.Mathlib.Omega.{arith}
use native.Mathlib.Numerals.{add-one}
use native.Mathlib.Nat.{mul-le-mul}
use Rattle.numbers.specs.Sums.{sum}
use Rattle.numbers.proofs.Sums.{sum_same}
use Rattle.format.specs.Format.{weighted}

pub weighted_none : (bytes : ℕ → ℕ) → weighted bytes 0 ≡ 0
unfolding weighted
weighted_none bytes = refl

pub weighted_more : (bytes : ℕ → ℕ) (n : ℕ) → weighted bytes (n + 1) ≡ weighted bytes n + (n + 1) * bytes n
unfolding weighted
weighted_more bytes n = ap (λ k. sum k (λ i. (i + 1) * bytes i)) (add-one n)

pub weighted_same : (f g : ℕ → ℕ) (n : ℕ) → ((i : ℕ) → i < n → f i ≡ g i) → weighted f n ≡ weighted g n
unfolding weighted
weighted_same f g n same = sum_same n (λ i. (i + 1) * f i) (λ i. (i + 1) * g i) (λ i l. ap (λ x. (i + 1) * x) (same i l))

-- what one byte adds is at most 510 times 255
pub term_small : (i x : ℕ) → i < 510 → x < 256 → (i + 1) * x ≤ 130050
term_small i x li lx =
    let n : i + 1 ≤ 510 = omega arith in
    let m : x ≤ 255 = omega arith in
    mul-le-mul n m

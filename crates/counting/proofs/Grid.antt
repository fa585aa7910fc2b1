-- The numbering of pairs. With w columns the pair of row i and column j has number i * w + j, so a number below v * w is one pair
-- of a row below v and a column below w: its quotient by w and its remainder. A sum over the numbers is one over the pairs.
use Prim.Native.Nat.{ℕ, zero, suc, ◌+◌, ◌*◌, ◌/◌, ◌%◌, ◌≤◌, ◌<◌}
use mathlib.Core.Path.{◌≡◌, refl, ap, sym, ◌∙◌}
use mathlib.Core.Bool.{Bool, true, false}
use native.Mathlib.Omega.{arith}
use native.Mathlib.Nat.{add-zero, add-suc, mul-zero, suc-mul, zero-mul, mod-lt, mul-le-mul, le_refl, div-add-mod', div-lt_iff_lt-mul}
use lib.Arith.{digits_lt, digits_div, digits_mod}
use Rattle.numbers.specs.Sums.{sum, only, sum_in}
use Rattle.numbers.proofs.Sums.{sum_zero, sum_change}

-- ---- sums

-- a sum over the first n numbers and then over m more
pub sum_split : (n m : ℕ) (g : ℕ → ℕ) → sum (n + m) g ≡ sum n g + sum m (λ j. g (n + j))
sum_split n zero g = omega (arith, ap (λ k. sum k g) (add-zero n))
sum_split n (suc m) g = omega (arith, sum_split n m g, ap (λ k. sum k g) (add-suc n m))

pub sum_grid : (v w : ℕ) (g : ℕ → ℕ) → sum (v * w) g ≡ sum v (λ i. sum w (λ j. g (i * w + j)))
sum_grid zero w g = ap (λ n. sum n g) (zero-mul w)
sum_grid (suc v) w g =
    ap (λ n. sum n g) (suc-mul v w) ∙ sum_split (v * w) w g ∙ ap (λ n. n + sum w (λ j. g (v * w + j))) (sum_grid v w g)

-- a sum over a set that has one number alone
pub sum_in_one : (n : ℕ) (A : ℕ → Bool) (g : ℕ → ℕ) (a : ℕ) → a < n → A a ≡ true
    → ((i : ℕ) → i < n → (i ≡ a → ⊥) → A i ≡ false) → sum_in n A g ≡ g a
sum_in_one n A g a l there others = omega (
  arith,
  sum_change n (λ i. only (A i) (g i)) (λ i. 0) a l (λ i m ne. ap (λ t. only t (g i)) (others i m ne)),
  sum_zero n (λ i. 0) (λ i m. refl),
  ap (λ t. only t (g a)) there,
)

-- a sum over a set that has no number
pub sum_in_none : (n : ℕ) (A : ℕ → Bool) (g : ℕ → ℕ) → ((i : ℕ) → i < n → A i ≡ false) → sum_in n A g ≡ 0
sum_in_none n A g none = sum_zero n (λ i. only (A i) (g i)) (λ i l. ap (λ t. only t (g i)) (none i l))

-- a sum over a set that has every number
pub sum_in_all : (n : ℕ) {t : Bool} (g : ℕ → ℕ) → t ≡ true → sum_in n (λ i. t) g ≡ sum n g
sum_in_all n g e = ap (λ t. sum_in n (λ i. t) g) e

-- what counts once at most
pub only_most : (t : Bool) → only t 1 ≤ 1
only_most true = omega arith
only_most false = omega arith

-- a few times a few are few
pub few_pairs : {a b : ℕ} → a ≤ 64 → b ≤ 64 → a * b ≤ 4096
few_pairs l m = mul-le-mul l m

-- a whole row stands among the rows
pub row_within : {i v : ℕ} (w : ℕ) → i < v → i * w + w ≤ v * w
row_within {i} w l = omega (arith, mul-le-mul l (le_refl w), suc-mul i w)

pub sum_ones : (n : ℕ) → sum n (λ i. 1) ≡ n
sum_ones zero = refl
sum_ones (suc n) = omega (arith, sum_ones n)

-- ---- numbers and pairs

-- a pair's number is in the grid, and its quotient and remainder are the pair
pub pair_below : {i j v w : ℕ} → i < v → j < w → i * w + j < v * w
pair_below l m = digits_lt l m

pub pair_row : (i : ℕ) {j w : ℕ} → j < w → (i * w + j) / w ≡ i
pair_row i l = digits_div i l

pub pair_column : (i : ℕ) {j w : ℕ} → j < w → (i * w + j) % w ≡ j
pair_column i l = digits_mod i l

-- a number of the grid is the number of a pair
module _ (k v w : ℕ) (l : k < v * w) where
  some_column : 0 < w
  some_column = by w l
    where
      by : (n : ℕ) → k < v * n → 0 < n
      by zero m = absurd (omega (arith, mul-zero v))
      by (suc n) m = omega arith

  pub row_below : k / w < v
  row_below = (div-lt_iff_lt-mul some_column).1 l

  pub column_below : k % w < w
  column_below = mod-lt k some_column

pub pair_number : (k w : ℕ) → k ≡ k / w * w + k % w
pair_number k w = sym (div-add-mod' k w)

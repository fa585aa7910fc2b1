-- The laws of sums over an index. Each says what a fact at every index makes of the sums; `sum_picked` and `sum_swap`
-- turn a sum over nodes of sums over arcs into one sum over arcs. Before them stand a few facts of numbers and of tests.
use Prim.Native.Nat.{ℕ, zero, suc, ◌+◌, ◌≤◌, ◌<◌}
use mathlib.Core.Path.{◌≡◌, refl, ap, sym, ◌∙◌}
use mathlib.Core.Bool.{Bool, true, false, not, ◌&&◌, and-true, cond}
use mathlib.Core.Logic.{◌⊎◌, ⊎_elim, by_cases}
use native.Mathlib.Omega.{arith}
use native.Mathlib.Nat.{le_refl, eq-or-lt_of_le, le_of_suc-le-suc}
use native.Mathlib.Decide.{ℕ_discrete, dec_lt}
use lib.Dec.{eqb}
use lib.IntN.{ℤ, pos}
use borrow.Author.Tests.{ne_eqb, eq-eqb}
use Rattle.numbers.specs.Sums.{sum, sumℤ, only, onlyℤ, sum_in, sum_inℤ, put}
use Rattle.numbers.specs.Parts.{plus, minus}
use Rattle.numbers.proofs.Parts.{add}

-- ---- numbers and tests

-- a number up to n is n or below it
pub last_or_before : {i n : ℕ} → i < suc n → (i ≡ n) ⊎ (i < n)
last_or_before l = eq-or-lt_of_le (le_of_suc-le-suc l)

-- what gets smaller at every turn until it is done gets done
pub descend : {A : Type 0} {Done : A → Type 0} (size : A → ℕ)
    → ((a : A) → Done a ⊎ ((next : A) × (size next < size a))) → A → (a : A) × Done a
descend {A} {Done} size turn a = go (size a) a (le_refl (size a))
  where
    go : (n : ℕ) (a : A) → size a ≤ n → (a : A) × Done a
    go zero a l = ⊎_elim (λ d. (a, d)) (λ m. absurd (omega (arith, m.1))) (turn a)
    go (suc n) a l = ⊎_elim (λ d. (a, d)) (λ m. go n m.0 (omega (arith, m.1))) (turn a)

-- two tests are equal where each passes if the other does
pub same_truth : (s t : Bool) → (s ≡ true → t ≡ true) → (t ≡ true → s ≡ true) → s ≡ t
same_truth true t to back = sym (to refl)
same_truth false true to back = back refl
same_truth false false to back = refl

-- what is true of a test whether two numbers are equal, where they are and where they are not
pub eqb_cases : (C : Bool → Type 0) (i k : ℕ) → (i ≡ k → C true) → ((i ≡ k → ⊥) → C false) → C (eqb i k)
eqb_cases C i k same other = by_cases (ℕ_discrete i k)
    (λ e. rw (eq-eqb i k e) (same e))
    (λ ne. rw (ne_eqb i k ne) (other ne))

-- one more counts as one more where the test holds
pub only_suc : (t : Bool) (m n : ℕ) → n ≡ suc m → only t n ≡ only t m + only t 1
only_suc true m n e = omega arith
only_suc false m n e = refl

-- what is so of two numbers where the test holds, and of 0 and 0, is so of what they count as
only_cases : (R : ℕ → ℕ → Type 0) → R 0 0 → (t : Bool) (x y : ℕ) → (t ≡ true → R x y) → R (only t x) (only t y)
only_cases R none true x y some = some refl
only_cases R none false x y some = none

-- ---- sums over an index

pub sum_same : (n : ℕ) (f g : ℕ → ℕ) → ((i : ℕ) → i < n → f i ≡ g i) → sum n f ≡ sum n g
sum_same zero f g h = refl
sum_same (suc n) f g h = omega (arith, sum_same n f g (λ i l. h i (omega arith)), h n (omega arith))

pub sum_zero : (n : ℕ) (f : ℕ → ℕ) → ((i : ℕ) → i < n → f i ≡ 0) → sum n f ≡ 0
sum_zero zero f h = refl
sum_zero (suc n) f h = omega (arith, sum_zero n f (λ i l. h i (omega arith)), h n (omega arith))

pub sum_add : (n : ℕ) (f g : ℕ → ℕ) → sum n (λ i. f i + g i) ≡ sum n f + sum n g
sum_add zero f g = refl
sum_add (suc n) f g = omega (arith, sum_add n f g)

pub sum_le : (n : ℕ) (f g : ℕ → ℕ) → ((i : ℕ) → i < n → f i ≤ g i) → sum n f ≤ sum n g
sum_le zero f g h = omega arith
sum_le (suc n) f g h = omega (arith, sum_le n f g (λ i l. h i (omega arith)), h n (omega arith))

-- two functions that balance two others at each index balance them in sum
pub sum_balance : (n : ℕ) (f g h k : ℕ → ℕ) → ((i : ℕ) → i < n → f i + g i ≡ h i + k i) → sum n f + sum n g ≡ sum n h + sum n k
sum_balance n f g h k e =
    sym (sum_add n f g) ∙ sum_same n (λ i. f i + g i) (λ i. h i + k i) e ∙ sum_add n h k

pub sum_member : (n : ℕ) (f : ℕ → ℕ) (i : ℕ) → i < n → f i ≤ sum n f
sum_member zero f i l = absurd (omega arith)
sum_member (suc n) f i l =
    ⊎_elim (λ e. omega (arith, ap f e)) (λ l'. omega (arith, sum_member n f i l')) (last_or_before l)

pub sum_swap : (n m : ℕ) (f : ℕ → ℕ → ℕ) → sum n (λ i. sum m (λ j. f i j)) ≡ sum m (λ j. sum n (λ i. f i j))
sum_swap zero m f = sym (sum_zero m (λ j. 0) (λ i l. refl))
sum_swap (suc n) m f =
    omega (arith, sum_swap n m f, sum_add m (λ j. sum n (λ i. f i j)) (λ j. f n j))

-- two functions that agree but at one index: their sums differ by what they differ there
pub sum_change : (n : ℕ) (f g : ℕ → ℕ) (j : ℕ) → j < n → ((i : ℕ) → i < n → (i ≡ j → ⊥) → f i ≡ g i) → sum n f + g j ≡ sum n g + f j
sum_change zero f g j l h = absurd (omega arith)
sum_change (suc n) f g j l h = ⊎_elim
    (λ e. omega (arith, ap f e, ap g e, sum_same n f g (λ i l'. h i (omega arith) (λ e'. omega arith))))
    (λ l'. omega (arith, sum_change n f g j l' (λ i l''. h i (omega arith)), h n (omega arith) (λ e'. omega arith)))
    (last_or_before l)

-- a sum that is below another has a term that is
pub sum_below : (n : ℕ) (f g : ℕ → ℕ) → sum n f < sum n g → (i : ℕ) × (i < n) × (f i < g i)
sum_below zero f g h = absurd (omega arith)
sum_below (suc n) f g h = by_cases (dec_lt (f n) (g n))
    (λ l. (n, omega arith, l))
    (λ l. let w = sum_below n f g (omega arith) in (w.0, omega arith, w.2))

-- a sum in which the index a alone counts
pub sum_picked : (n a : ℕ) (f : ℕ → ℕ) → a < n → sum n (λ i. only (eqb a i) (f i)) ≡ f a
sum_picked zero a f l = absurd (omega arith)
sum_picked (suc n) a f l = ⊎_elim
    (λ e. rw (eq-eqb a n e) (omega (arith, ap f e, sum_zero n (λ i. only (eqb a i) (f i)) (before e))))
    (λ l'. rw (ne_eqb a n (λ e'. omega arith)) (omega (arith, sum_picked n a f l')))
    (last_or_before l)
  where
    before : a ≡ n → (i : ℕ) → i < n → only (eqb a i) (f i) ≡ 0
    before e i l' = rw (ne_eqb a i (λ e'. omega arith))

pub sumℤ_same : (n : ℕ) (f g : ℕ → ℤ) → ((i : ℕ) → i < n → f i ≡ g i) → sumℤ n f ≡ sumℤ n g
sumℤ_same zero f g h = refl
sumℤ_same (suc n) f g h = rw (sumℤ_same n f g (λ i l. h i (omega arith)), h n (omega arith))

-- the two parts of a signed sum
pub sumℤ_parts : (n : ℕ) (f : ℕ → ℤ) → plus (sumℤ n f) + sum n (λ i. minus (f i)) ≡ sum n (λ i. plus (f i)) + minus (sumℤ n f)
sumℤ_parts zero f = refl
sumℤ_parts (suc n) f = omega (arith, sumℤ_parts n f, add (sumℤ n f) (f n))

-- ---- a function with one value put

pub put_there : (f : ℕ → ℕ) (k x : ℕ) → put f k x k ≡ x
put_there f k x = rw (eq-eqb k k refl)

pub put_elsewhere : (f : ℕ → ℕ) (k x i : ℕ) → (i ≡ k → ⊥) → put f k x i ≡ f i
put_elsewhere f k x i ne = rw (ne_eqb i k ne)

-- what is true of a function with one value put: of the value at its index, of the function elsewhere
pub put_cases : {A : Type 0} (C : A → Type 0) (f : ℕ → A) (k : ℕ) (x : A) (i : ℕ)
    → (i ≡ k → C x) → ((i ≡ k → ⊥) → C (f i)) → C (cond (eqb i k) x (f i))
put_cases C f k x i = eqb_cases (λ t. C (cond t x (f i))) i k

-- ---- sums over a set of indices

-- each index either counts, with a proof that it does, or adds nothing
module _ (n : ℕ) (A : ℕ → Bool) where
  pub sum_in_same : (a b : ℕ → ℕ) → ((i : ℕ) → i < n → A i ≡ true → a i ≡ b i) → sum_in n A a ≡ sum_in n A b
  sum_in_same a b h = sum_same n (λ i. only (A i) (a i)) (λ i. only (A i) (b i))
      (λ i l. only_cases (λ x y. x ≡ y) refl (A i) (a i) (b i) (h i l))

  pub sum_in_zero : (a : ℕ → ℕ) → ((i : ℕ) → i < n → A i ≡ true → a i ≡ 0) → sum_in n A a ≡ 0
  sum_in_zero a h =
      sum_zero n (λ i. only (A i) (a i)) (λ i l. only_cases (λ x y. x ≡ 0) refl (A i) (a i) 0 (h i l))

  pub sum_in_le : (a b : ℕ → ℕ) → ((i : ℕ) → i < n → A i ≡ true → a i ≤ b i) → sum_in n A a ≤ sum_in n A b
  sum_in_le a b h = sum_le n (λ i. only (A i) (a i)) (λ i. only (A i) (b i))
      (λ i l. only_cases (λ x y. x ≤ y) (le_refl 0) (A i) (a i) (b i) (h i l))

  -- a term of a sum over a set is at most the sum
  pub sum_in_member : (f : ℕ → ℕ) (i : ℕ) → i < n → A i ≡ true → f i ≤ sum_in n A f
  sum_in_member f i l a = rw a at (sum_member n (λ j. only (A j) (f j)) i l)

  -- a sum over a set that is not 0 has a term that is not
  pub sum_in_some : (f : ℕ → ℕ) → 0 < sum_in n A f → (i : ℕ) × (i < n) × (A i ≡ true) × (0 < f i)
  sum_in_some f h =
      let (i, l, more) = sum_below n (λ j. 0) (λ j. only (A j) (f j)) (omega (arith, sum_zero n (λ j. 0) (λ j l. refl))) in
      by i l (A i) refl more
    where
      by : (i : ℕ) → i < n → (t : Bool) → A i ≡ t → 0 < only t (f i) → (i : ℕ) × (i < n) × (A i ≡ true) × (0 < f i)
      by i l true e more = (i, l, e, more)
      by i l false e more = absurd (omega arith)

  pub sum_in_add : (a b : ℕ → ℕ) → sum_in n A (λ i. a i + b i) ≡ sum_in n A a + sum_in n A b
  sum_in_add a b =
      sum_same n (λ i. only (A i) (a i + b i)) (λ i. only (A i) (a i) + only (A i) (b i)) (λ i l. by (A i) (a i) (b i))
      ∙ sum_add n (λ i. only (A i) (a i)) (λ i. only (A i) (b i))
    where
      by : (t : Bool) (x y : ℕ) → only t (x + y) ≡ only t x + only t y
      by true x y = refl
      by false x y = refl

  -- two functions that balance two others at each index balance them in sum
  pub sum_in_balance : (a b c d : ℕ → ℕ) → ((i : ℕ) → i < n → A i ≡ true → a i + b i ≡ c i + d i)
      → sum_in n A a + sum_in n A b ≡ sum_in n A c + sum_in n A d
  sum_in_balance a b c d h =
      sym (sum_in_add a b) ∙ sum_in_same (λ i. a i + b i) (λ i. c i + d i) h ∙ sum_in_add c d

  -- a number put at k changes the sum by what changed there, where k counts
  pub sum_in_put : (f : ℕ → ℕ) (k x : ℕ) → k < n
      → sum_in n A (put f k x) + only (A k) (f k) ≡ sum_in n A f + only (A k) x
  sum_in_put f k x l = omega (
    arith,
    sum_change n (λ i. only (A i) (put f k x i)) (λ i. only (A i) (f i)) k l
        (λ i l' ne. ap (only (A i)) (put_elsewhere f k x i ne)),
    ap (only (A k)) (put_there f k x),
  )

  -- one index of the set beside the others
  pub sum_in_apart : (f : ℕ → ℕ) (k : ℕ) → k < n → A k ≡ true
      → sum_in n A f ≡ sum_in n (λ i. A i && not (eqb i k)) f + f k
  sum_in_apart f k l a = omega (
    arith,
    sum_change n (λ i. only (A i) (f i)) (λ i. only (A i && not (eqb i k)) (f i)) k l
        (λ i l' ne. rw (ne_eqb i k ne, and-true)),
    ap (λ t. only t (f k)) a,
    none,
  )
    where
      none : only (A k && not (eqb k k)) (f k) ≡ 0
      none = rw (eq-eqb k k refl, a)

  -- the whole sum is what the set has and what the rest has
  pub sum_in_rest : (f : ℕ → ℕ) → sum_in n A f + sum_in n (λ i. not (A i)) f ≡ sum n f
  sum_in_rest f =
      sym (sum_add n (λ i. only (A i) (f i)) (λ i. only (not (A i)) (f i)))
      ∙ sum_same n (λ i. only (A i) (f i) + only (not (A i)) (f i)) f (λ i l. by (A i) (f i))
    where
      by : (t : Bool) (x : ℕ) → only t x + only (not t) x ≡ x
      by true x = omega arith
      by false x = omega arith

  -- the two parts of a signed sum over a set
  pub sum_inℤ_parts : (f : ℕ → ℤ)
      → plus (sum_inℤ n A f) + sum_in n A (λ i. minus (f i)) ≡ sum_in n A (λ i. plus (f i)) + minus (sum_inℤ n A f)
  sum_inℤ_parts f = omega (
    arith,
    sumℤ_parts n (λ i. onlyℤ (A i) (f i)),
    sum_same n (λ i. minus (onlyℤ (A i) (f i))) (λ i. only (A i) (minus (f i))) (λ i l. by minus refl (A i) (f i)),
    sum_same n (λ i. plus (onlyℤ (A i) (f i))) (λ i. only (A i) (plus (f i))) (λ i l. by plus refl (A i) (f i)),
  )
    where
      by : (part : ℤ → ℕ) → part (pos 0) ≡ 0 → (t : Bool) (z : ℤ) → part (onlyℤ t z) ≡ only t (part z)
      by part none true z = refl
      by part none false z = none

-- equal sets of indices give equal sums
module _ (n : ℕ) (A B : ℕ → Bool) (agree : (i : ℕ) → i < n → A i ≡ B i) where
  pub sum_in_agree : (f : ℕ → ℕ) → sum_in n A f ≡ sum_in n B f
  sum_in_agree f = sum_same n (λ i. only (A i) (f i)) (λ i. only (B i) (f i)) (λ i l. rw (agree i l))

  pub sum_inℤ_agree : (f : ℕ → ℤ) → sum_inℤ n A f ≡ sum_inℤ n B f
  sum_inℤ_agree f = sumℤ_same n (λ i. onlyℤ (A i) (f i)) (λ i. onlyℤ (B i) (f i)) (λ i l. rw (agree i l))

-- what counts as a whole counts in each of its parts, and two tests can be made in either order
only_sum : (m : ℕ) (t : Bool) (g : ℕ → ℕ) → only t (sum m g) ≡ sum m (λ k. only t (g k))
only_sum m true g = refl
only_sum m false g = sym (sum_zero m (λ k. 0) (λ k l. refl))

only_swap : (a b : Bool) (x : ℕ) → only a (only b x) ≡ only b (only a x)
only_swap true b x = refl
only_swap false true x = refl
only_swap false false x = refl

-- sums over two sets can be added up in either order
pub sum_in_swap : (n m : ℕ) (A B : ℕ → Bool) (f : ℕ → ℕ → ℕ)
    → sum_in n A (λ i. sum_in m B (f i)) ≡ sum_in m B (λ j. sum_in n A (λ i. f i j))
sum_in_swap n m A B f =
    sum_same n (λ i. only (A i) (sum_in m B (f i))) (λ i. sum m (λ j. only (A i) (only (B j) (f i j))))
    (λ i l. only_sum m (A i) (λ j. only (B j) (f i j)))
    ∙ sum_swap n m (λ i j. only (A i) (only (B j) (f i j)))
    ∙ sum_same m (λ j. sum n (λ i. only (A i) (only (B j) (f i j)))) (λ j. only (B j) (sum_in n A (λ i. f i j)))
    (λ j l. sum_same n (λ i. only (A i) (only (B j) (f i j))) (λ i. only (B j) (only (A i) (f i j))) (λ i l'. only_swap (A i) (B j) (f i j))
    ∙ sym (only_sum n (B j) (λ i. only (A i) (f i j))))

-- a sum over a set of nodes of what the arcs bring to each is one sum over the arcs whose node is in the set
pub sum_in_gathered : (n m : ℕ) (S : ℕ → Bool) (at f : ℕ → ℕ) → ((k : ℕ) → k < m → at k < n)
    → sum_in n S (λ v. sum_in m (λ k. eqb (at k) v) f) ≡ sum_in m (λ k. S (at k)) f
sum_in_gathered n m S at f ends =
    sum_same n (λ v. only (S v) (sum_in m (λ k. eqb (at k) v) f)) (λ v. sum m (λ k. only (S v) (only (eqb (at k) v) (f k))))
    (λ v l. only_sum m (S v) (λ k. only (eqb (at k) v) (f k)))
    ∙ sum_swap n m (λ v k. only (S v) (only (eqb (at k) v) (f k)))
    ∙ sum_same m (λ k. sum n (λ v. only (S v) (only (eqb (at k) v) (f k)))) (λ k. only (S (at k)) (f k)) picked
  where
    picked : (k : ℕ) → k < m → sum n (λ v. only (S v) (only (eqb (at k) v) (f k))) ≡ only (S (at k)) (f k)
    picked k l =
        sum_same n (λ v. only (S v) (only (eqb (at k) v) (f k))) (λ v. only (eqb (at k) v) (only (S v) (f k)))
        (λ v l'. only_swap (S v) (eqb (at k) v) (f k))
        ∙ sum_picked n (at k) (λ v. only (S v) (f k)) (ends k l)

-- Sums over an index: `sum n f` is f 0 + .. + f (n - 1), in ℕ; `sumℤ` is the same in ℤ.
-- A set of indices is a test of them, and `sum_in` adds up over the set: `only b x` is x where the test b holds, and else 0.
use Rattle.std.specs.Prelude.{ℕ, zero, suc, ◌+◌, Bool, true, false, cond, eqb, ℤ, pos, ◌+ℤ◌}

abbrev pub sum : ℕ → (ℕ → ℕ) → ℕ
sum zero f = 0
sum (suc n) f = sum n f + f n

abbrev pub sumℤ : ℕ → (ℕ → ℤ) → ℤ
sumℤ zero f = pos 0
sumℤ (suc n) f = sumℤ n f +ℤ f n

abbrev pub only : Bool → ℕ → ℕ
only true x = x
only false x = 0

abbrev pub onlyℤ : Bool → ℤ → ℤ
onlyℤ true x = x
onlyℤ false x = pos 0

abbrev pub sum_in : ℕ → (ℕ → Bool) → (ℕ → ℕ) → ℕ
sum_in n A f = sum n (λ i. only (A i) (f i))

abbrev pub sum_inℤ : ℕ → (ℕ → Bool) → (ℕ → ℤ) → ℤ
sum_inℤ n A f = sumℤ n (λ i. onlyℤ (A i) (f i))

-- the function f with x at one index
abbrev pub put : (ℕ → ℕ) → ℕ → ℕ → ℕ → ℕ
put f k x j = cond (eqb j k) x (f j)

-- Counting plans. Each variable has a domain of values, and each value a range of how often it may be used.
use Rattle.std.specs.Prelude.{ℕ, ◌+◌, ◌*◌, ◌/◌, ◌≤◌, ◌<◌, ◌≡◌, Bool, true, List, eqb, length, get_or}
use Rattle.numbers.specs.Sums.{sum_in}
use Rattle.words.specs.Word.{holds}

pub record Counting : Type 0 where
  pub variables : ℕ
  pub values : ℕ
  pub allowed : ℕ → ℕ → Bool
  pub low : ℕ → ℕ
  pub high : ℕ → ℕ

-- a count range is two numbers of the list: low, high
abbrev pub range_entries : ℕ
range_entries = 2

-- the counting plan that two lists hold: for each variable the word of its domain, and two numbers for each value
abbrev pub counting_of : (domains counts : List ℕ) → Counting
counting_of domains counts = record {
  variables = length domains;
  values = length counts / range_entries;
  allowed = λ i j. holds (get_or domains i 0) j;
  low = λ j. get_or counts (j * range_entries) 0;
  high = λ j. get_or counts (j * range_entries + 1) 0;
}

-- how often a value is used
abbrev pub uses : Counting → (ℕ → ℕ) → ℕ → ℕ
uses c a j = sum_in c.variables (λ i. eqb (a i) j) (λ i. 1)

-- an assignment gives each variable a value of its domain, and uses each value as often as its range says
pub record Assignment (c : Counting) (a : ℕ → ℕ) : Type 0 where
  pub value : (i : ℕ) → i < c.variables → a i < c.values
  pub in_domain : (i : ℕ) → i < c.variables → c.allowed i (a i) ≡ true
  pub least : (j : ℕ) → j < c.values → c.low j ≤ uses c a j
  pub most : (j : ℕ) → j < c.values → uses c a j ≤ c.high j

-- some assignment gives the variable the value
pub record Taken (c : Counting) (i j : ℕ) : Type 0 where
  pub values : ℕ → ℕ
  pub assignment : Assignment c values
  pub there : values i ≡ j

-- the least and the greatest count of a value over all assignments
pub record FewestUses (c : Counting) (j count : ℕ) : Type 0 where
  pub values : ℕ → ℕ
  pub assignment : Assignment c values
  pub there : uses c values j ≡ count
  pub fewest : (a : ℕ → ℕ) → Assignment c a → count ≤ uses c a j

pub record MostUses (c : Counting) (j count : ℕ) : Type 0 where
  pub values : ℕ → ℕ
  pub assignment : Assignment c values
  pub there : uses c values j ≡ count
  pub most : (a : ℕ → ℕ) → Assignment c a → uses c a j ≤ count

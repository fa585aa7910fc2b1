-- Lent lists that are written from the front: the first entries, arcs or supplies are these, and the rest is as it was.
use Rattle.std.specs.Prelude.{ℕ, ◌+◌, ◌*◌, ◌≤◌, ◌<◌, ◌≡◌, List, ℤ, pos, length, get_or}
use Rattle.plan.specs.Limits.{arc_entries}
use Rattle.plan.specs.Plan.{Plan, arc_in}
use Rattle.plan.specs.declared.Arc.{Arc}

-- a number for each of the first n entries, and nothing at or past them; the length is said by who uses it
pub record Written (values : ℕ → ℕ) (n : ℕ) (buffer buffer' : List ℕ) : Type 0 where
  pub there : (i : ℕ) → i < n → get_or buffer' i 0 ≡ values i
  pub past : (i : ℕ) → n ≤ i → get_or buffer' i 0 ≡ get_or buffer i 0

-- something holds of each of the first n entries; `other` is what is read past the end
pub record EntriesHold {A : Type 0} (other : A) (holds : ℕ → A → Type 0) (n : ℕ) (list list' : List A) : Type 0 where
  pub same_length : length list' ≡ length list
  pub there : (i : ℕ) → i < n → holds i (get_or list' i other)
  pub past : (i : ℕ) → n ≤ i → get_or list' i other ≡ get_or list i other

-- the first n entries are these
abbrev pub EntriesWritten : {A : Type 0} (other : A) (values : ℕ → A) → ℕ → (list list' : List A) → Type 0
EntriesWritten other values = EntriesHold other (λ i x. x ≡ values i)

-- the first n supplies are the plan's
abbrev pub SuppliesWritten : Plan → ℕ → (supplies supplies' : List ℤ) → Type 0
SuppliesWritten p = EntriesWritten (pos 0) p.supply

-- arc k is these four numbers now
pub record ArcWritten (k from to low high : ℕ) (arcs arcs' : List ℕ) : Type 0 where
  pub from_is : get_or arcs' (k * arc_entries) 0 ≡ from
  pub to_is : get_or arcs' (k * arc_entries + 1) 0 ≡ to
  pub low_is : get_or arcs' (k * arc_entries + 2) 0 ≡ low
  pub high_is : get_or arcs' (k * arc_entries + 3) 0 ≡ high
  pub before : (i : ℕ) → i < k * arc_entries → get_or arcs' i 0 ≡ get_or arcs i 0
  pub past : (i : ℕ) → k * arc_entries + arc_entries ≤ i → get_or arcs' i 0 ≡ get_or arcs i 0

-- something holds of each of so many arcs from arc `first` on, and the rest is as it was
pub record ArcsHold (holds : ℕ → Arc → Type 0) (first count : ℕ) (arcs arcs' : List ℕ) : Type 0 where
  pub same_length : length arcs' ≡ length arcs
  pub there : (j : ℕ) → j < count → holds j (arc_in arcs' (first + j))
  pub before : (i : ℕ) → i < first * arc_entries → get_or arcs' i 0 ≡ get_or arcs i 0
  pub past : (i : ℕ) → (first + count) * arc_entries ≤ i → get_or arcs' i 0 ≡ get_or arcs i 0

-- the first m arcs are the plan's
pub record ArcsWritten (p : Plan) (m : ℕ) (arcs arcs' : List ℕ) : Type 0 where
  pub same_length : length arcs' ≡ length arcs
  pub from_is : (k : ℕ) → k < m → get_or arcs' (k * arc_entries) 0 ≡ p.from k
  pub to_is : (k : ℕ) → k < m → get_or arcs' (k * arc_entries + 1) 0 ≡ p.to k
  pub low_is : (k : ℕ) → k < m → get_or arcs' (k * arc_entries + 2) 0 ≡ p.low k
  pub high_is : (k : ℕ) → k < m → get_or arcs' (k * arc_entries + 3) 0 ≡ p.high k
  pub past : (i : ℕ) → m * arc_entries ≤ i → get_or arcs' i 0 ≡ get_or arcs i 0

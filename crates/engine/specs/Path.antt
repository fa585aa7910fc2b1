-- A path through the rooms, the least room along it, and what moving along it does.
use Rattle.std.specs.Prelude.{ℕ, ◌+◌, ◌≤◌, ◌<◌, ◌≡◌, Bool}
use Rattle.numbers.specs.Sums.{only}
use Rattle.rooms.specs.Room.{side, crossing, SamePairs}

-- nodes one after the other, none of them twice
pub record Track (n : ℕ) (path : ℕ → ℕ) (depth : ℕ) : Type 0 where
  pub node : (i : ℕ) → i ≤ depth → path i < n
  pub once : (i j : ℕ) → i < j → j ≤ depth → path i ≡ path j → ⊥

-- the least room along a path, at most a number
pub record LeastOf (room : ℕ → ℕ → ℕ) (path : ℕ → ℕ) (depth most r : ℕ) : Type 0 where
  pub at_most : r ≤ most
  pub fits : (i : ℕ) → i < depth → r ≤ room (path i) (path (i + 1))
  pub reached : r < most → (i : ℕ) × (i < depth) × (r ≡ room (path i) (path (i + 1)))

-- d is moved along the first steps of a path: it left the first node and has arrived at the last, whichever of them a set holds
pub record Moved (n : ℕ) (room room' : ℕ → ℕ → ℕ) (path : ℕ → ℕ) (depth d : ℕ) : Type 0 where
  pub across : (S : ℕ → Bool) → crossing n room' S + only (S (path 0)) d ≡ crossing n room S + only (S (path depth)) d
  pub same : SamePairs room room'
  pub elsewhere : (x z : ℕ) → x < side → z < side → ((i : ℕ) → i < depth → x ≡ path i → z ≡ path (i + 1) → ⊥)
      → ((i : ℕ) → i < depth → x ≡ path (i + 1) → z ≡ path i → ⊥) → room' x z ≡ room x z

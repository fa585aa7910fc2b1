-- What settling leaves: every account kept, and the reach of what is still over, in which nothing lacks any more.
use Rattle.std.specs.Prelude.{ℕ, ◌+◌, ◌≤◌, ◌<◌, ◌≡◌, Bool, true, false, ◌&&◌, ltb}
use Rattle.numbers.specs.Sums.{sum}
use Rattle.words.specs.Word.{holds}
use Rattle.rooms.specs.Room.{side, Kept}
use Rattle.reach.specs.Reach.{Reach}
use Rattle.reach.specs.Search.{Reached, Path}
use Rattle.engine.specs.Path.{Track}

pub record Settled (n : ℕ) (room : ℕ → ℕ → ℕ) (over under : ℕ → ℕ) (room' : ℕ → ℕ → ℕ) (over' under' : ℕ → ℕ) (S : ℕ → Bool) : Type 0 where
  pub kept : Kept n room over under room' over' under'
  pub reach : Reach n room' over' n n S
  pub none_under : (x : ℕ) → x < n → S x ≡ true → under' x ≡ 0

-- a word of the nodes among the first n that have some
pub record Shows (n : ℕ) (number : ℕ → ℕ) (word : ℕ) : Type 0 where
  pub shown : (x : ℕ) → holds word x ≡ (ltb x n && ltb 0 (number x))

-- a path from a node with some over to one where it lacks
pub record Errand (way : ℕ → ℕ → Bool) (spare lack : ℕ) (path : ℕ → ℕ) (depth : ℕ) : Type 0 where
  pub fits : depth ≤ side
  pub way_there : (levels : ℕ → ℕ) × (met : ℕ) × Path way side side spare met levels path depth × ((y : ℕ) → holds met y ≡ true → holds lack y ≡ true)

-- there is none: the reach of the nodes with some over, in which none lacks
pub record NoErrand (way : ℕ → ℕ → Bool) (spare lack set : ℕ) : Type 0 where
  pub all_reached : Reached way side side spare (holds set)
  pub clear : (x : ℕ) → holds set x ≡ true → holds lack x ≡ false

-- a path that something can be delivered on
pub record Delivery (n : ℕ) (room : ℕ → ℕ → ℕ) (over under path : ℕ → ℕ) (depth : ℕ) : Type 0 where
  pub track : Track n path depth
  pub rooms_there : (i : ℕ) → i < depth → 0 < room (path i) (path (i + 1))
  pub some_over : 0 < over (path 0)
  pub some_under : 0 < under (path depth)

-- some of what is over is delivered
pub record Delivered (n : ℕ) (room : ℕ → ℕ → ℕ) (over under : ℕ → ℕ) (room' : ℕ → ℕ → ℕ) (over' under' : ℕ → ℕ) : Type 0 where
  pub kept : Kept n room over under room' over' under'
  pub falls : sum n over' < sum n over

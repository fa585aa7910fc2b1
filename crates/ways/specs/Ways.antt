-- Beside the rooms stand words: for each node where room leads from it, and where room comes to it from. Looked at backwards the
-- two change places.
use Rattle.std.specs.Prelude.{ℕ, ◌+◌, ◌*◌, ◌≤◌, ◌<◌, ◌≡◌, Bool, false, cond, List, length, ltb}
use Rattle.words.specs.Word.{holds}
use Rattle.rooms.specs.Room.{side, at, seen, Fitting}

-- the place of a node's word
abbrev pub row : Bool → ℕ → ℕ
row back x = cond back (side + x) x

-- room leads from x to y, by the words
abbrev pub leads : List ℕ → Bool → ℕ → ℕ → Bool
leads ways back x y = holds (at ways (row back x)) y

-- the words show the rooms
pub record Ways (rooms ways : List ℕ) : Type 0 where
  pub rooms_whole : side * side ≤ length rooms
  pub ways_whole : side + side ≤ length ways
  pub shown : (back : Bool) (x y : ℕ) → x < side → y < side → leads ways back x y ≡ ltb 0 (seen rooms back x y)

-- the same, and the rooms lie between the first n nodes
pub record Desk (n : ℕ) (rooms ways : List ℕ) : Type 0 where
  pub ways_show : Ways rooms ways
  pub fitting : Fitting n (seen rooms false)

-- node y is put into the word at a place, or out of it
pub record Marked (ways ways' : List ℕ) (place y : ℕ) (on : Bool) : Type 0 where
  pub there : holds (at ways' place) y ≡ on
  pub elsewhere : (i j : ℕ) → (i ≡ place → j ≡ y → ⊥) → holds (at ways' i) j ≡ holds (at ways i) j

-- Rooms and accounts. For each pair of nodes there is a room: how much can still move from the one to the other. At each node
-- something may be over and something under. What the engine does keeps, for every set, one account: the room that leads out
-- of it, with what is under in it, less what is over in it.
use Rattle.std.specs.Prelude.{ℕ, ◌+◌, ◌*◌, ◌^◌, ◌≤◌, ◌<◌, ◌≡◌, Bool, cond, not, List, get_or}
use Rattle.numbers.specs.Sums.{sum_in}

-- the rooms stand in rows of 64
abbrev pub side : ℕ
side = 64

-- a number of each node
abbrev pub at : List ℕ → ℕ → ℕ
at numbers v = get_or numbers v 0

-- the room from x to y in a list of rows; looked at backwards, the room from y to x
abbrev pub cell : Bool → ℕ → ℕ → ℕ
cell back x y = cond back (y * side + x) (x * side + y)

abbrev pub seen : List ℕ → Bool → ℕ → ℕ → ℕ
seen rooms back x y = get_or rooms (cell back x y) 0

-- the room that leads out of a set of the first n nodes
abbrev pub crossing : ℕ → (ℕ → ℕ → ℕ) → (ℕ → Bool) → ℕ
crossing n room S = sum_in n S (λ x. sum_in n (λ y. not (S y)) (room x))

-- rooms that lie between the first n nodes, and are small enough to be moved about in 32 bits
pub record Fitting (n : ℕ) (room : ℕ → ℕ → ℕ) : Type 0 where
  pub few : n ≤ side
  pub inside : (x y : ℕ) → x < side → y < side → 0 < room x y → (x < n) × (y < n)
  pub small : (x y : ℕ) → x < side → y < side → (x ≡ y → ⊥) → room x y + room y x < 2 ^ 32

-- each pair of nodes has as much room in all
pub record SamePairs (room room' : ℕ → ℕ → ℕ) : Type 0 where
  pub pairs : (x y : ℕ) → x < side → y < side → room x y + room y x ≡ room' x y + room' y x

-- from one state to the next every set's account stays, and so does the room of each pair
pub record Kept (n : ℕ) (room : ℕ → ℕ → ℕ) (over under : ℕ → ℕ) (room' : ℕ → ℕ → ℕ) (over' under' : ℕ → ℕ) : Type 0 where
  pub account : (S : ℕ → Bool)
      → crossing n room S + sum_in n S under + sum_in n S over' ≡ crossing n room' S + sum_in n S under' + sum_in n S over
  pub same : SamePairs room room'

-- the same with nothing over and nothing under: as much room leads out of every set
pub record Still (n : ℕ) (room room' : ℕ → ℕ → ℕ) : Type 0 where
  pub across : (S : ℕ → Bool) → crossing n room S ≡ crossing n room' S
  pub same : SamePairs room room'

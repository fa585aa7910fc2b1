-- What lacks is moved on from node to node against the rooms: every set's account stays, and so does the room of each pair.
use Rattle.std.specs.Prelude.{ℕ, ◌+◌, ◌≡◌, Bool, List}
use Rattle.numbers.specs.Sums.{sum_in}
use Rattle.rooms.specs.Room.{at, seen, crossing, SamePairs}
use Rattle.across.specs.declared.flood.Flooding.{Flooding}

pub record Drawn (n : ℕ) (room : ℕ → ℕ → ℕ) (lack : ℕ → ℕ) (room' : ℕ → ℕ → ℕ) (lack' : ℕ → ℕ) : Type 0 where
  pub account : (S : ℕ → Bool) → crossing n room S + sum_in n S lack ≡ crossing n room' S + sum_in n S lack'
  pub same : SamePairs room room'

-- of a flood under way nothing but the numbers of what comes and can come change
pub record Stays (f f' : Flooding) : Type 0 where
  pub same_n : f'.n ≡ f.n
  pub same_lack : f'.lack ≡ f.lack

-- it goes on, looked at one way: what lacks is moved on
pub record Goes (back : Bool) (f f' : Flooding) (rooms rooms' : List ℕ) : Type 0 where
  pub same_n : f'.n ≡ f.n
  pub drawn : Drawn f.n (seen rooms back) (at f.lack) (seen rooms' back) (at f'.lack)

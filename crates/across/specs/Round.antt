-- Going round from a to b and straight back: every set keeps the room that leads out of it, and the room from a to b is wider,
-- until it is as wide as asked for or a set is in the way.
use Rattle.std.specs.Prelude.{ℕ, ◌+◌, ◌≤◌, ◌<◌, ◌≡◌, Bool, true, false, eqb, Result, Ok, Err}
use Rattle.words.specs.Word.{holds}
use Rattle.rooms.specs.Room.{side, Still}
use Rattle.reach.specs.Search.{Open, Reached}
use Rattle.engine.specs.Path.{Track}
use Rattle.across.specs.Free.{Tight, Free}

-- two nodes that are not one
abbrev pub TwoNodes : (n a b : ℕ) → Type 0
TwoNodes n a b = (a < n) × (b < n) × (b ≡ a → ⊥)

-- a way round from a to b besides the direct step
pub record WayRound (way : ℕ → ℕ → Bool) (a b : ℕ) (path : ℕ → ℕ) (depth : ℕ) : Type 0 where
  pub track : Track side path depth
  pub starts : path 0 ≡ a
  pub ends : path depth ≡ b
  pub steps : (i : ℕ) → i < depth → Open way a b (path i) (path (i + 1))

-- there is none: the least set with a inside that no other step leaves, and b is outside
pub record NoWay (way : ℕ → ℕ → Bool) (a b set : ℕ) : Type 0 where
  pub all_reached : (start : ℕ) × ((z : ℕ) → holds start z ≡ eqb z a) × Reached way a b start (holds set)
  pub outside : holds set b ≡ false

-- the same with rooms
pub record Round (n : ℕ) (room : ℕ → ℕ → ℕ) (a b : ℕ) (path : ℕ → ℕ) (depth : ℕ) : Type 0 where
  pub track : Track n path depth
  pub starts : path 0 ≡ a
  pub ends : path depth ≡ b
  pub rooms_there : (i : ℕ) → i < depth → 0 < room (path i) (path (i + 1))
  pub not_direct : (i : ℕ) → i < depth → path i ≡ a → path (i + 1) ≡ b → ⊥

-- some is brought round: the room from a to b is wider by it
pub record Turned (n : ℕ) (room room' : ℕ → ℕ → ℕ) (a b most : ℕ) : Type 0 where
  pub still : Still n room room'
  pub wider : room a b < room' a b
  pub at_most : room' a b ≤ room a b + most

-- whether some was brought round, and if not, the set that is in the way
abbrev pub turned : Result Unit ℕ → Bool
turned (Ok done) = true
turned (Err set) = false

abbrev pub in_the_way : Result Unit ℕ → ℕ → Bool
in_the_way (Ok done) v = false
in_the_way (Err set) v = holds set v

-- one round: some is brought round, or nothing can be, and the direct room is all there is across; `far`: by a flood alone, of
-- which it is not said that the direct room is wider
pub record WentRound (n : ℕ) (far : Bool) (room room' : ℕ → ℕ → ℕ) (a b : ℕ) (turned : Bool) (set : ℕ → Bool) : Type 0 where
  pub still : Still n room room'
  pub wider : far ≡ false → turned ≡ true → room a b < room' a b
  pub stuck : turned ≡ false → Tight n room a b (room a b) set
  pub unmoved : turned ≡ false → room' a b ≡ room a b

-- what of a width is free; so much room is there
pub record Measured (n : ℕ) (room room' : ℕ → ℕ → ℕ) (a b width free : ℕ) (set : ℕ → Bool) : Type 0 where
  pub still : Still n room room'
  pub amount : Free n room a b width free set
  pub there : free ≤ room' a b

-- the direct room is no wider than it was or was asked for
abbrev pub Bounded : (before after width : ℕ) → Type 0
Bounded before after width = (m : ℕ) → before ≤ m → width ≤ m → after ≤ m

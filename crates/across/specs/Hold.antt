-- An arc's share is taken out of the rooms of its pair.
use Rattle.std.specs.Prelude.{ℕ, ◌+◌, ◌≤◌, ◌<◌, ◌≡◌, Bool, not}
use Rattle.numbers.specs.Sums.{only}
use Rattle.rooms.specs.Room.{side, crossing, Still}
use Rattle.across.specs.Free.{Splits}

-- so much can be brought across each way
pub record CanGive (n : ℕ) (room : ℕ → ℕ → ℕ) (a b out home : ℕ) : Type 0 where
  pub pair : out + home ≤ room a b + room b a
  pub out_can : (S : ℕ → Bool) → Splits a b S → out ≤ crossing n room S
  pub home_can : (S : ℕ → Bool) → Splits b a S → home ≤ crossing n room S

-- the two rooms of a pair are made wide enough
pub record MadeRoom (n : ℕ) (room room' : ℕ → ℕ → ℕ) (a b out home : ℕ) : Type 0 where
  pub still : Still n room room'
  pub out_fits : out ≤ room' a b
  pub home_fits : home ≤ room' b a

-- so much of the room from a to b is taken out, so much of the room back
pub record HeldOut (n : ℕ) (room room' : ℕ → ℕ → ℕ) (a b out home : ℕ) : Type 0 where
  pub account : (S : ℕ → Bool)
      → crossing n room S ≡ crossing n room' S + (only (S a) (only (not (S b)) out) + only (S b) (only (not (S a)) home))
  pub pair : room a b + room b a ≡ room' a b + room' b a + (out + home)
  pub pairs : (x y : ℕ) → x < side → y < side → (x ≡ a → y ≡ b → ⊥) → (x ≡ b → y ≡ a → ⊥) → room x y + room y x ≡ room' x y + room' y x

-- What the engine does to one room or one number.
use Rattle.std.specs.Prelude.{ℕ, ◌+◌, ◌<◌, ◌≡◌}
use Rattle.rooms.specs.Room.{side}

-- the room from x to y is r now
pub record Put (room room' : ℕ → ℕ → ℕ) (x y r : ℕ) : Type 0 where
  pub there : room' x y ≡ r
  pub elsewhere : (i j : ℕ) → i < side → j < side → (i ≡ x → j ≡ y → ⊥) → room' i j ≡ room i j

-- d of the room from x to y goes over to the room from y to x
pub record Pushed (room room' : ℕ → ℕ → ℕ) (x y d : ℕ) : Type 0 where
  pub there : room' x y + d ≡ room x y
  pub back : room' y x ≡ room y x + d
  pub elsewhere : (i j : ℕ) → i < side → j < side → (i ≡ x → j ≡ y → ⊥) → (i ≡ y → j ≡ x → ⊥) → room' i j ≡ room i j

-- d is taken off the room from x to y
pub record Taken (room room' : ℕ → ℕ → ℕ) (x y d : ℕ) : Type 0 where
  pub there : room' x y + d ≡ room x y
  pub elsewhere : (i j : ℕ) → i < side → j < side → (i ≡ x → j ≡ y → ⊥) → room' i j ≡ room i j

-- d is taken off the number at a node
pub record Less (number number' : ℕ → ℕ) (at d : ℕ) : Type 0 where
  pub given : number' at + d ≡ number at
  pub elsewhere : (i : ℕ) → (i ≡ at → ⊥) → number' i ≡ number i

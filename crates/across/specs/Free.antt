-- How much room there is across. In a balanced state take the sets with a inside and b outside: the least room that leads out
-- of such a set is what can be brought from a to b.
use Rattle.std.specs.Prelude.{ℕ, ◌≤◌, ◌<◌, ◌≡◌, Bool, true, false}
use Rattle.rooms.specs.Room.{crossing}

-- a set with a inside and b outside
pub record Splits (a b : ℕ) (S : ℕ → Bool) : Type 0 where
  pub inside : S a ≡ true
  pub outside : S b ≡ false

-- a set that splits a from b with just so much room leading out, contained in every other such set
pub record Tight (n : ℕ) (room : ℕ → ℕ → ℕ) (a b free : ℕ) (S : ℕ → Bool) : Type 0 where
  pub splits : Splits a b S
  pub across : crossing n room S ≡ free
  pub least : (R : ℕ → Bool) → Splits a b R → crossing n room R ≡ free → (v : ℕ) → v < n → S v ≡ true → R v ≡ true

-- how much of a width is free from a to b, and where that is not all of it, the set that is in the way
pub record Free (n : ℕ) (room : ℕ → ℕ → ℕ) (a b width free : ℕ) (S : ℕ → Bool) : Type 0 where
  pub fits : free ≤ width
  pub enough : (R : ℕ → Bool) → Splits a b R → free ≤ crossing n room R
  pub tight : free < width → Tight n room a b free S

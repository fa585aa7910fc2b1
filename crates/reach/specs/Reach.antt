-- The reach of the nodes that have something over: the least set that holds them and that no step leaves. One direct step,
-- from u to v, is shut; where u is no node, none is.
use Rattle.std.specs.Prelude.{ℕ, ◌<◌, ◌≡◌, Bool, true}

-- there is room to go from x to y, and the step is not shut
pub record Step (room : ℕ → ℕ → ℕ) (u v x y : ℕ) : Type 0 where
  pub room_there : 0 < room x y
  pub not_shut : x ≡ u → y ≡ v → ⊥

-- a set of the first n nodes holds all that have something over
pub record Holds (n : ℕ) (over : ℕ → ℕ) (S : ℕ → Bool) : Type 0 where
  pub holds : (x : ℕ) → x < n → 0 < over x → S x ≡ true

-- no step leaves it
pub record Closed (n : ℕ) (room : ℕ → ℕ → ℕ) (u v : ℕ) (S : ℕ → Bool) : Type 0 where
  pub closed : (x y : ℕ) → x < n → y < n → S x ≡ true → Step room u v x y → S y ≡ true

-- the reach: such a set, contained in every other
pub record Reach (n : ℕ) (room : ℕ → ℕ → ℕ) (over : ℕ → ℕ) (u v : ℕ) (S : ℕ → Bool) : Type 0 where
  pub holds : Holds n over S
  pub closed : Closed n room u v S
  pub least : (R : ℕ → Bool) → Holds n over R → Closed n room u v R → (x : ℕ) → x < n → S x ≡ true → R x ≡ true

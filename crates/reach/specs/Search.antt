-- Steps by the words, one of them shut; the least set that holds the starts and that no step leaves; and the layers of a search.
use Rattle.std.specs.Prelude.{ℕ, ◌+◌, ◌≤◌, ◌<◌, ◌≡◌, Bool, true, false, ◌&&◌, Result, Ok, Err}
use Rattle.rooms.specs.Room.{side}
use Rattle.words.specs.Word.{holds}
use Rattle.reach.specs.declared.Found.{Found}
use Rattle.reach.specs.declared.Spread.{Spread}

-- a way leads from x to y, and the step is not shut
pub record Open (way : ℕ → ℕ → Bool) (u v x y : ℕ) : Type 0 where
  pub leads : way x y ≡ true
  pub node : y < side
  pub not_shut : x ≡ u → y ≡ v → ⊥

-- where steps lead from the nodes of a word
pub record Widened (way : ℕ → ℕ → Bool) (u v front next : ℕ) : Type 0 where
  pub found : (y : ℕ) → holds next y ≡ true → (x : ℕ) × (x < side) × (holds front x ≡ true) × Open way u v x y
  pub all : (x y : ℕ) → holds front x ≡ true → Open way u v x y → holds next y ≡ true

-- the least set that holds the starts and that no step leaves
pub record Reached (way : ℕ → ℕ → Bool) (u v start : ℕ) (S : ℕ → Bool) : Type 0 where
  pub starts_in : (x : ℕ) → holds start x ≡ true → S x ≡ true
  pub closed : (x y : ℕ) → S x ≡ true → Open way u v x y → S y ≡ true
  pub least : (R : ℕ → Bool) → ((x : ℕ) → holds start x ≡ true → R x ≡ true)
      → ((x y : ℕ) → R x ≡ true → Open way u v x y → R y ≡ true) → (x : ℕ) → S x ≡ true → R x ≡ true

-- layers: the starts, and then each node of a layer with a step to it from the layer before; no node is in two of them
pub record Layers (way : ℕ → ℕ → Bool) (u v start : ℕ) (levels : ℕ → ℕ) (depth : ℕ) : Type 0 where
  pub first : levels 0 ≡ start
  pub found : (i y : ℕ) → i < depth → holds (levels (i + 1)) y ≡ true → (x : ℕ) × (x < side) × (holds (levels i) x ≡ true) × Open way u v x y
  pub apart : (i j y : ℕ) → i < j → j ≤ depth → holds (levels i) y ≡ true → holds (levels j) y ≡ true → ⊥

-- layers up to a depth, and what the last of them has of the goal
pub record Layered (way : ℕ → ℕ → Bool) (u v start goal : ℕ) (levels : ℕ → ℕ) (depth met : ℕ) : Type 0 where
  pub layers : Layers way u v start levels depth
  pub depth_fits : depth ≤ side
  pub met_is : (y : ℕ) → holds met y ≡ (holds (levels depth) y && holds goal y)

-- the last of the layers meets the goal, and none before it does
pub record Met (way : ℕ → ℕ → Bool) (u v start goal : ℕ) (levels : ℕ → ℕ) (depth met : ℕ) : Type 0 where
  pub layered : Layered way u v start goal levels depth met
  pub some : 0 < met
  pub none_before : (i y : ℕ) → i < depth → holds (levels i) y ≡ true → holds goal y ≡ false

-- the reach of the starts, in which none of the goal is, with layers of which the last meets nothing
pub record Missed (way : ℕ → ℕ → Bool) (u v start goal : ℕ) (levels : ℕ → ℕ) (depth reached : ℕ) : Type 0 where
  pub layered : Layered way u v start goal levels depth 0
  pub all_reached : Reached way u v start (holds reached)
  pub clear : (x : ℕ) → holds reached x ≡ true → holds goal x ≡ false

-- a level is the last that was reached: all that was reached is in the levels up to it, and it has a node, unless it is the starts'
pub record LastLevel (levels : ℕ → ℕ) (depth reached : ℕ) : Type 0 where
  pub all_in : (x : ℕ) → holds reached x ≡ true → (i : ℕ) × (i ≤ depth) × (holds (levels i) x ≡ true)
  pub some : 0 < depth → 0 < levels depth

-- what a search leaves: layers, and in the last of them what was looked for; or the reach of the starts, in which none of it is
abbrev pub Sought : (ℕ → ℕ → Bool) → ℕ → ℕ → ℕ → ℕ → (ℕ → ℕ) → Result Found Spread → Type 0
Sought way u v start goal levels (Ok found) = Met way u v start goal levels found.depth found.met
Sought way u v start goal levels (Err spread) = Missed way u v start goal levels spread.depth spread.reached

-- nodes one after the other, each with a step to the next, none of them twice
pub record Path (way : ℕ → ℕ → Bool) (u v start goal : ℕ) (levels path : ℕ → ℕ) (depth : ℕ) : Type 0 where
  pub node : (i : ℕ) → i ≤ depth → path i < side
  pub layer : (i : ℕ) → i ≤ depth → holds (levels i) (path i) ≡ true
  pub step : (i : ℕ) → i < depth → Open way u v (path i) (path (i + 1))
  pub once : (i j : ℕ) → i < j → j ≤ depth → path i ≡ path j → ⊥
  pub starts : holds start (path 0) ≡ true
  pub ends : holds goal (path depth) ≡ true

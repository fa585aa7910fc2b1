-- What a change of one number does to a sum over a set, and what a change of one room or of a pair's two rooms does to the room
-- that leads out of a set.
use Prim.Native.Nat.{ℕ, ◌+◌, ◌≤◌, ◌<◌}
use mathlib.Core.Path.{◌≡◌, refl, sym, ap, ◌∙◌}
use mathlib.Core.Bool.{Bool, true, false, cond, not, ◌&&◌}
use mathlib.Core.Logic.{by_cases}
use native.Mathlib.Omega.{arith}
use native.Mathlib.Decide.{ℕ_discrete}
use lib.Dec.{eqb}
use borrow.Author.Tests.{eq-eqb, eqb-true}
use Rattle.numbers.specs.Sums.{only, sum_in}
use Rattle.numbers.proofs.Sums.{sum_same, sum_change}
use Rattle.rooms.specs.Room.{side, crossing}
use Rattle.rooms.specs.Move.{Pushed, Less}

only_add : (t : Bool) (a b : ℕ) → only t (a + b) ≡ only t a + only t b
only_add true a b = refl
only_add false a b = refl

-- two functions that agree but at one index, summed over a set
sum_in_change : (n : ℕ) (S : ℕ → Bool) (f g : ℕ → ℕ) (j : ℕ) → j < n → ((i : ℕ) → i < n → (i ≡ j → ⊥) → f i ≡ g i)
    → sum_in n S f + only (S j) (g j) ≡ sum_in n S g + only (S j) (f j)
sum_in_change n S f g j l h =
    sum_change n (λ i. only (S i) (f i)) (λ i. only (S i) (g i)) j l (λ i li ne. ap (only (S i)) (h i li ne))

-- ---- numbers at nodes

module _ (n : ℕ) (S : ℕ → Bool) where
  pub sum_in_less : (u u' : ℕ → ℕ) (y d : ℕ) → y < n → Less u u' y d → sum_in n S u' + only (S y) d ≡ sum_in n S u
  sum_in_less u u' y d l h = omega (
    arith,
    sum_in_change n S u' u y l (λ i li ne. h.elsewhere i ne),
    ap (only (S y)) h.given,
    only_add (S y) (u' y) d,
  )

-- ---- rooms

-- two rooms that agree but at one pair
pub cell_change : (n : ℕ) (S : ℕ → Bool) (room room' : ℕ → ℕ → ℕ) (x y : ℕ) → x < n → y < n
    → ((i j : ℕ) → i < n → j < n → (i ≡ x → j ≡ y → ⊥) → room' i j ≡ room i j)
    → crossing n room' S + only (S x) (only (not (S y)) (room x y)) ≡ crossing n room S + only (S x) (only (not (S y)) (room' x y))
cell_change n S room room' x y lx ly h = by (S x) (S y) (sum_in_change n S (row room') (row room) x lx other) here
  where
    row : (ℕ → ℕ → ℕ) → ℕ → ℕ
    row r i = sum_in n (λ j. not (S j)) (r i)

    other : (i : ℕ) → i < n → (i ≡ x → ⊥) → row room' i ≡ row room i
    other i li ne = sum_same n (λ j. only (not (S j)) (room' i j)) (λ j. only (not (S j)) (room i j))
        (λ j lj. ap (only (not (S j))) (h i j li lj (λ e. absurd (ne e))))

    here : row room' x + only (not (S y)) (room x y) ≡ row room x + only (not (S y)) (room' x y)
    here = sum_in_change n (λ j. not (S j)) (room' x) (room x) y ly (λ j lj ne. h x j lx lj (λ e. ne))

    by : (s t : Bool) → sum_in n S (row room') + only s (row room x) ≡ sum_in n S (row room) + only s (row room' x)
        → row room' x + only (not t) (room x y) ≡ row room x + only (not t) (room' x y)
        → sum_in n S (row room') + only s (only (not t) (room x y)) ≡ sum_in n S (row room) + only s (only (not t) (room' x y))
    by true t outer inner = omega arith
    by false t outer inner = omega arith

-- the rooms with one room put
pub put_room : (ℕ → ℕ → ℕ) → ℕ → ℕ → ℕ → ℕ → ℕ → ℕ
put_room room x y r i j = cond (eqb i x && eqb j y) r (room i j)

pub put_room_there : (room : ℕ → ℕ → ℕ) (x y r : ℕ) → put_room room x y r x y ≡ r
unfolding put_room
put_room_there room x y r = rw (eq-eqb x x refl, eq-eqb y y refl)

pub put_room_elsewhere : (room : ℕ → ℕ → ℕ) (x y r i j : ℕ) → (i ≡ x → j ≡ y → ⊥) → put_room room x y r i j ≡ room i j
unfolding put_room
put_room_elsewhere room x y r i j away = by (eqb i x) (eqb j y) refl refl
  where
    by : (s t : Bool) → eqb i x ≡ s → eqb j y ≡ t → cond (s && t) r (room i j) ≡ room i j
    by true true e f = absurd (away (eqb-true i x e) (eqb-true j y f))
    by true false e f = refl
    by false t e f = refl

module _ (n : ℕ) (few : n ≤ side) {room room' : ℕ → ℕ → ℕ} {x y d : ℕ} (lx : x < n) (ly : y < n) (ne : x ≡ y → ⊥) (h : Pushed room room' x y d) where
  -- the rooms with only the first of the two pairs changed
  abbrev half : ℕ → ℕ → ℕ
  half = put_room room x y (room' x y)

  pub crossing_pushed : (S : ℕ → Bool)
      → crossing n room' S + only (S x) (only (not (S y)) d) ≡ crossing n room S + only (S y) (only (not (S x)) d)
  crossing_pushed S = by (S x) (S y) (cell_change n S room half x y lx ly (λ i j li lj. put_room_elsewhere room x y (room' x y) i j))
      (cell_change n S half room' y x ly lx second)
    where
      second : (i j : ℕ) → i < n → j < n → (i ≡ y → j ≡ x → ⊥) → room' i j ≡ half i j
      second i j li lj away = by_cases (ℕ_discrete i x)
          (λ ei. by_cases (ℕ_discrete j y)
          (λ ej. rw (ei, ej) (sym (put_room_there room x y (room' x y))))
          (λ nj. h.elsewhere i j (omega arith) (omega arith) (λ e. nj) away ∙ sym (put_room_elsewhere room x y (room' x y) i j (λ e. nj))))
          (λ ni. h.elsewhere i j (omega arith) (omega arith) (λ e. absurd (ni e)) away ∙ sym (put_room_elsewhere room x y (room' x y) i j (λ e. absurd (ni e))))

      by : (s t : Bool)
          → crossing n half S + only s (only (not t) (room x y)) ≡ crossing n room S + only s (only (not t) (half x y))
          → crossing n room' S + only t (only (not s) (half y x)) ≡ crossing n half S + only t (only (not s) (room' y x))
          → crossing n room' S + only s (only (not t) d) ≡ crossing n room S + only t (only (not s) d)
      by true true a b = omega arith
      by true false a b = omega (arith, put_room_there room x y (room' x y), h.there)
      by false true a b = omega (arith, put_room_elsewhere room x y (room' x y) y x (λ e. absurd (ne (sym e))), h.back)
      by false false a b = omega arith

  -- each pair keeps its room
  pub pairs_pushed : (i j : ℕ) → i < n → j < n → room i j + room j i ≡ room' i j + room' j i
  pairs_pushed i j li lj = by_cases (ℕ_discrete i x)
      (λ ei. by_cases (ℕ_discrete j y)
      (λ ej. rw (ei, ej) (omega (arith, h.there, h.back)))
      (λ nj. plain (λ e. nj) (λ e f. ne (sym ei ∙ e))))
      (λ ni. by_cases (ℕ_discrete i y)
      (λ ei. by_cases (ℕ_discrete j x)
      (λ ej. rw (ei, ej) (omega (arith, h.there, h.back)))
      (λ nj. plain (λ e. absurd (ni e)) (λ e. nj)))
      (λ ny. plain (λ e. absurd (ni e)) (λ e. absurd (ny e))))
    where
      plain : (i ≡ x → j ≡ y → ⊥) → (i ≡ y → j ≡ x → ⊥) → room i j + room j i ≡ room' i j + room' j i
      plain a b = omega (
        arith,
        h.elsewhere i j (omega arith) (omega arith) a b,
        h.elsewhere j i (omega arith) (omega arith) (λ e f. b f e) (λ e f. a f e),
      )

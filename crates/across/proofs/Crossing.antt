-- The room that leads out of a set: of what it is made up, what leads out of a set that no step leaves, of the whole, and of the
-- complement when it is looked at backwards.
use Prim.Native.Nat.{ℕ, ◌+◌, ◌≤◌, ◌<◌}
use mathlib.Core.Path.{◌≡◌, refl, sym, ap, ◌∙◌}
use mathlib.Core.Bool.{Bool, true, false, not, true≢false, not-not}
use mathlib.Core.Logic.{by_cases}
use native.Mathlib.Omega.{arith}
use native.Mathlib.Decide.{ℕ_discrete, dec_lt}
use borrow.Author.Tests.{not-true}
use Rattle.numbers.specs.Sums.{only, sum_in}
use Rattle.numbers.proofs.Sums.{sum_in_same, sum_in_agree, sum_in_swap, sum_in_zero, sum_in_member}
use Rattle.rooms.specs.Room.{side, crossing}
use Rattle.rooms.specs.Move.{Taken}
use Rattle.reach.specs.Reach.{Closed}
use Rattle.engine.proofs.Account.{cell_change, put_room, put_room_there, put_room_elsewhere}

module _ (n : ℕ) (room : ℕ → ℕ → ℕ) (S : ℕ → Bool) where
  crossing_none : ((x y : ℕ) → x < n → y < n → S x ≡ true → S y ≡ false → room x y ≡ 0) → crossing n room S ≡ 0
  crossing_none h = sum_in_zero n S (λ x. sum_in n (λ y. not (S y)) (room x))
      (λ x lx sx. sum_in_zero n (λ y. not (S y)) (room x) (λ y ly ny. h x y lx ly sx (not-true (S y) ny)))

  pub crossing_member : (x y : ℕ) → x < n → y < n → S x ≡ true → S y ≡ false → room x y ≤ crossing n room S
  crossing_member x y lx ly sx sy = omega (
    arith,
    sum_in_member n S (λ i. sum_in n (λ j. not (S j)) (room i)) x lx sx,
    sum_in_member n (λ j. not (S j)) (room x) y ly (rw sy),
  )

-- two pairs that lead out of a set have together at most the room that does
pub crossing_two : (n : ℕ) (room : ℕ → ℕ → ℕ) (S : ℕ → Bool) (u v x y : ℕ) → u < n → v < n → x < n → y < n
    → S u ≡ true → S v ≡ false → S x ≡ true → S y ≡ false → (x ≡ u → y ≡ v → ⊥) → room u v + room x y ≤ crossing n room S
crossing_two n room S u v x y lu lv lx ly su sv sx sy away = omega (
  arith,
  rw (su, sv) at (cell_change n S (put_room room u v 0) room u v lu lv (λ i j li lj ne. sym (put_room_elsewhere room u v 0 i j ne))),
  put_room_there room u v 0,
  put_room_elsewhere room u v 0 x y away,
  crossing_member n (put_room room u v 0) S x y lx ly sx sy,
)

-- across a closed set nothing leads but the step that is shut
pub crossing_shut : (n : ℕ) (room : ℕ → ℕ → ℕ) (S : ℕ → Bool) (u v : ℕ) → u < n → v < n → Closed n room u v S
    → crossing n room S ≡ only (S u) (only (not (S v)) (room u v))
crossing_shut n room S u v lu lv c = omega (
  arith,
  cell_change n S (put_room room u v 0) room u v lu lv (λ i j li lj away. sym (put_room_elsewhere room u v 0 i j away)),
  crossing_none n (put_room room u v 0) S none,
  ap (λ r. only (S u) (only (not (S v)) r)) (put_room_there room u v 0),
  zero (S u) (S v),
)
  where
    zero : (s t : Bool) → only s (only (not t) 0) ≡ 0
    zero true true = refl
    zero true false = refl
    zero false t = refl

    none : (x y : ℕ) → x < n → y < n → S x ≡ true → S y ≡ false → put_room room u v 0 x y ≡ 0
    none x y lx ly sx sy = by_cases (ℕ_discrete x u)
        (λ ex. by_cases (ℕ_discrete y v) (λ ey. rw (ex, ey) (put_room_there room u v 0)) (λ ny. unshut (λ e. ny)))
        (λ nx. unshut (λ e. absurd (nx e)))
      where
        unshut : (x ≡ u → y ≡ v → ⊥) → put_room room u v 0 x y ≡ 0
        unshut away = by_cases (dec_lt 0 (room x y))
            (λ more. absurd (true≢false (sym (c.closed x y lx ly sx (record { room_there = more; not_shut = away })) ∙ sy)))
            (λ less. omega (arith, put_room_elsewhere room u v 0 x y away))

pub crossing_closed : (n : ℕ) (room : ℕ → ℕ → ℕ) (S : ℕ → Bool) (v : ℕ) → Closed n room n v S → crossing n room S ≡ 0
crossing_closed n room S v c = crossing_none n room S (λ x y lx ly sx sy. by_cases (dec_lt 0 (room x y))
    (λ more. absurd (true≢false (sym (c.closed x y lx ly sx (record { room_there = more; not_shut = λ e f. omega arith })) ∙ sy)))
    (λ less. omega arith))

pub crossing_all : (n : ℕ) (room : ℕ → ℕ → ℕ) → crossing n room (λ v. true) ≡ 0
crossing_all n room = crossing_none n room (λ v. true) (λ x y lx ly sx sy. absurd (true≢false sy))

-- looked at backwards, the room that leads out of a set is the room that leads out of its complement
pub crossing_turned : (n : ℕ) (room : ℕ → ℕ → ℕ) (S : ℕ → Bool) → crossing n (λ x y. room y x) S ≡ crossing n room (λ v. not (S v))
crossing_turned n room S =
    sum_in_swap n n S (λ y. not (S y)) (λ x y. room y x)
    ∙ sum_in_same n (λ y. not (S y)) (λ x. sum_in n S (room x)) (λ x. sum_in n (λ y. not (not (S y))) (room x))
    (λ x l s. sum_in_agree n S (λ y. not (not (S y))) (λ y l'. sym (not-not (S y))) (room x))

-- one room less by d: what leads out of a set that it crosses is less by d
pub crossing_taken : (n : ℕ) → n ≤ side → {room room' : ℕ → ℕ → ℕ} {x y d : ℕ} → x < n → y < n → Taken room room' x y d
    → (S : ℕ → Bool) → crossing n room S ≡ crossing n room' S + only (S x) (only (not (S y)) d)
crossing_taken n few {room} {room'} {x} {y} {d} lx ly h S =
    by (S x) (S y) (cell_change n S room room' x y lx ly (λ i j li lj. h.elsewhere i j (omega arith) (omega arith)))
  where
    by : (s t : Bool) → crossing n room' S + only s (only (not t) (room x y)) ≡ crossing n room S + only s (only (not t) (room' x y))
        → crossing n room S ≡ crossing n room' S + only s (only (not t) d)
    by true true e = omega arith
    by true false e = omega (arith, h.there)
    by false t e = omega arith

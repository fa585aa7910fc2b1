-- A flood keeps the account of every set; once all is settled, nothing is over and nothing lacks, as at the start.
use Prim.Native.Nat.{ℕ, ◌+◌, ◌≤◌, ◌<◌}
use mathlib.Core.Path.{◌≡◌, refl, ◌∙◌}
use mathlib.Core.Bool.{Bool, true, false, not}
use mathlib.Core.Logic.{by_cases}
use native.Mathlib.Omega.{arith}
use native.Mathlib.Decide.{dec_lt}
use Rattle.numbers.specs.Sums.{only, sum_in}
use Rattle.numbers.proofs.Sums.{sum_in_zero, sum_in_member}
use Rattle.rooms.specs.Room.{side, crossing, Still}
use Rattle.rooms.specs.Move.{Pushed, Less}
use Rattle.engine.specs.Settle.{Settled}
use Rattle.engine.proofs.Account.{sum_in_less, crossing_pushed, pairs_pushed}
use Rattle.across.specs.Flood.{Drawn}
use Rattle.across.proofs.Crossing.{crossing_closed, crossing_all}

-- ---- drawing

-- d is pushed from x to y, and lacks at x where it lacked at y
pub drawn_push : {n : ℕ} {room room' : ℕ → ℕ → ℕ} (lack lack₁ lack' : ℕ → ℕ) {x y d : ℕ} → n ≤ side → x < n → y < n → (x ≡ y → ⊥)
    → Pushed room room' x y d → Less lack lack₁ y d → Less lack' lack₁ x d → Drawn n room lack room' lack'
drawn_push {n} {room} {room'} lack lack₁ lack' {x} {y} {d} few lx ly ne h l m = record {
  account = λ S. by S (S x) (S y) (crossing_pushed n few lx ly ne h S) (sum_in_less n S lack lack₁ y d ly l) (sum_in_less n S lack' lack₁ x d lx m);
  same = record { pairs = pairs_pushed side (omega arith) (omega arith) (omega arith) ne h };
}
  where
    by : (S : ℕ → Bool) (s t : Bool)
        → crossing n room' S + only s (only (not t) d) ≡ crossing n room S + only t (only (not s) d)
        → sum_in n S lack₁ + only t d ≡ sum_in n S lack → sum_in n S lack₁ + only s d ≡ sum_in n S lack'
        → crossing n room S + sum_in n S lack ≡ crossing n room' S + sum_in n S lack'
    by S true true a b e = omega arith
    by S true false a b e = omega arith
    by S false true a b e = omega arith
    by S false false a b e = omega arith

-- ---- settled again: at the start as much was over at each node as lacked there

module _ {n : ℕ} {room room₁ room' : ℕ → ℕ → ℕ} {over lack over' under' : ℕ → ℕ} {S : ℕ → Bool}
    (k : Drawn n room over room₁ lack) (s : Settled n room₁ over lack room' over' under' S) where
  account : (R : ℕ → Bool) → crossing n room R + sum_in n R over' ≡ crossing n room' R + sum_in n R under'
  account R = omega (arith, k.account R, s.kept.account R)

  nothing_over : (x : ℕ) → x < n → over' x ≡ 0
  nothing_over x l = by_cases (dec_lt 0 (over' x))
      (λ more. absurd (omega (
        arith,
        account S,
        crossing_closed n room' S n s.reach.closed,
        sum_in_zero n S under' s.none_under,
        sum_in_member n S over' x l (s.reach.holds.holds x l more),
      )))
      (λ less. omega arith)

  none_over : (R : ℕ → Bool) → sum_in n R over' ≡ 0
  none_over R = sum_in_zero n R over' (λ x l e. nothing_over x l)

  nothing_under : (x : ℕ) → x < n → under' x ≡ 0
  nothing_under x l = omega (
    arith,
    sum_in_member n (λ v. true) under' x l refl,
    account (λ v. true),
    crossing_all n room,
    crossing_all n room',
    none_over (λ v. true),
  )

  pub flood_still : Still n room room'
  flood_still = record {
    across = λ R. omega (arith, account R, none_over R, sum_in_zero n R under' (λ x l e. nothing_under x l));
    same = record { pairs = λ x y lx ly. k.same.pairs x y lx ly ∙ s.kept.same.pairs x y lx ly };
  }

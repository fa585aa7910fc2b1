-- Holding: once the rooms of a pair are wide enough, an arc's share is taken out.
use Prim.Native.Nat.{ℕ, ◌≤◌, ◌<◌}
use mathlib.Core.Path.{◌≡◌, sym}
use native.Mathlib.Omega.{arith}
use Rattle.rooms.specs.Room.{side}
use Rattle.rooms.specs.Move.{Taken}
use Rattle.across.specs.Hold.{MadeRoom, HeldOut}
use Rattle.across.proofs.Crossing.{crossing_taken}

pub holds_out : {n : ℕ} {room room₁ room₂ room' : ℕ → ℕ → ℕ} {a b out home : ℕ} → n ≤ side → a < n → b < n → (b ≡ a → ⊥)
    → MadeRoom n room room₁ a b out home → Taken room₁ room₂ a b out → Taken room₂ room' b a home → HeldOut n room room' a b out home
holds_out {n} {a = a} {b = b} few la lb ne m t u = record {
  account = λ S. omega (arith, m.still.across S, crossing_taken n few la lb t S, crossing_taken n few lb la u S);
  pair = omega (
    arith,
    m.still.same.pairs a b (omega arith) (omega arith),
    t.there,
    u.there,
    t.elsewhere b a (omega arith) (omega arith) (λ e. absurd (ne e)),
    u.elsewhere a b (omega arith) (omega arith) (λ e. absurd (ne (sym e))),
  );
  pairs = λ x y lx ly nab nba. omega (
    arith,
    m.still.same.pairs x y lx ly,
    t.elsewhere x y lx ly nab,
    t.elsewhere y x ly lx (λ e f. nba f e),
    u.elsewhere x y lx ly nba,
    u.elsewhere y x ly lx (λ e f. nab f e),
  );
}

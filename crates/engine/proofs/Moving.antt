-- One push after the other along a path: what left the first node has arrived at the last, whichever of them a set holds.
use Prim.Native.Nat.{ℕ, min, ◌+◌, ◌≤◌, ◌<◌}
use mathlib.Core.Path.{◌≡◌, ◌∙◌}
use mathlib.Core.Bool.{Bool, true, false, not}
use mathlib.Core.Logic.{by_cases}
use native.Mathlib.Omega.{arith}
use native.Mathlib.Decide.{dec_lt}
use borrow.Author.Count.{below_more}
use Rattle.numbers.specs.Sums.{only}
use Rattle.rooms.specs.Room.{side, crossing}
use Rattle.rooms.specs.Move.{Pushed}
use Rattle.engine.proofs.Account.{crossing_pushed, pairs_pushed}
use Rattle.engine.specs.Path.{Track, LeastOf, Moved}

-- ---- the least room

pub least_more : {room : ℕ → ℕ → ℕ} {path : ℕ → ℕ} {i most r : ℕ} → LeastOf room path i most r → (here r' : ℕ)
    → here ≡ room (path i) (path (i + 1)) → r' ≡ min r here → LeastOf room path (i + 1) most r'
least_more {room} {path} {i} {most} {r} l here r' e m = record {
  at_most = omega (arith, l.at_most);
  fits = below_more _ i (λ j h. omega (arith, l.fits j h)) (omega arith);
  reached = λ less. by_cases (dec_lt r' r)
      (λ here_less. (i, omega arith, omega arith))
      (λ no. let (j, lj, is) = l.reached (omega arith) in (j, omega arith, omega arith));
}

-- where there is some room on each step, there is some on the path
pub least_some : {room : ℕ → ℕ → ℕ} {path : ℕ → ℕ} {depth most r : ℕ} → LeastOf room path depth most r → 0 < most
    → ((i : ℕ) → i < depth → 0 < room (path i) (path (i + 1))) → 0 < r
least_some {most = most} {r = r} l more there = by_cases (dec_lt r most)
    (λ less. let (i, li, is) = l.reached less in rw is (there i li))
    (λ no. omega arith)

-- ---- moving

module _ {n : ℕ} {room₀ room room' : ℕ → ℕ → ℕ} {path : ℕ → ℕ} {depth d i : ℕ} (few : n ≤ side) (t : Track n path depth) (l : i < depth)
    (m : Moved n room₀ room path i d) (h : Pushed room room' (path i) (path (i + 1)) d) where
  apart : path i ≡ path (i + 1) → ⊥
  apart = t.once i (i + 1) (omega arith) (omega arith)

  pub moved_more : Moved n room₀ room' path (i + 1) d
  moved_more = record {
    across = λ S. by S (S (path i)) (S (path (i + 1)))
        (crossing_pushed n few (t.node i (omega arith)) (t.node (i + 1) (omega arith)) apart h S) (m.across S);
    same = record {
      pairs = λ x y lx ly. m.same.pairs x y lx ly
          ∙ pairs_pushed side (omega arith) (omega (arith, t.node i (omega arith))) (omega (arith, t.node (i + 1) (omega arith))) apart h x y lx ly;
    };
    elsewhere = λ x z lx lz off turned.
        h.elsewhere x z lx lz (off i (omega arith)) (turned i (omega arith))
        ∙ m.elsewhere x z lx lz (λ j lj. off j (omega arith)) (λ j lj. turned j (omega arith));
  }
    where
      by : (S : ℕ → Bool) (s t : Bool)
          → crossing n room' S + only s (only (not t) d) ≡ crossing n room S + only t (only (not s) d)
          → crossing n room S + only (S (path 0)) d ≡ crossing n room₀ S + only s d
          → crossing n room' S + only (S (path 0)) d ≡ crossing n room₀ S + only t d
      by S true true a b = omega arith
      by S true false a b = omega arith
      by S false true a b = omega arith
      by S false false a b = omega arith

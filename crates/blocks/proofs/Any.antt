-- A test of some index, one index more at a time.
use Prim.Native.Nat.{ℕ, zero, suc, ◌<◌}
use mathlib.Core.Path.{◌≡◌, refl}
use mathlib.Core.Bool.{Bool, true, false, ◌||◌}
use mathlib.Core.Logic.{⊎_elim}
use native.Mathlib.Omega.{arith}
use Rattle.numbers.proofs.Sums.{last_or_before}
use Rattle.plan.proofs.Refusals.{neither}
use Rattle.blocks.specs.Rules.{any}

pub any_none : (n : ℕ) (test : ℕ → Bool) → ((i : ℕ) → i < n → test i ≡ false) → any n test ≡ false
unfolding any
any_none zero test none = refl
any_none (suc n) test none = rw (any_none n test (λ i l. none i (omega arith)), none n (omega arith))

pub any_some : (n : ℕ) (test : ℕ → Bool) (i : ℕ) → i < n → test i ≡ true → any n test ≡ true
unfolding any
any_some zero test i l here = absurd (omega arith)
any_some (suc n) test i l here = ⊎_elim
    (λ e. rw (← e, here) (or_true (any i test)))
    (λ below. rw (any_some n test i below here))
    (last_or_before l)
  where
    or_true : (t : Bool) → (t || true) ≡ true
    or_true true = refl
    or_true false = refl

pub none_any : (n : ℕ) (test : ℕ → Bool) → any n test ≡ false → (i : ℕ) → i < n → test i ≡ false
unfolding any
none_any zero test e i l = absurd (omega arith)
none_any (suc n) test e i l =
    let both = neither (any n test) (test n) e in
    ⊎_elim (λ same. rw same both.1) (none_any n test both.0 i) (last_or_before l)

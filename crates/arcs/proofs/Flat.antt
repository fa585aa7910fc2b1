-- What is taken apart is the flat list of the arcs: entry by entry, number m of arc k stands at place k * 4 + m of both.
use Prim.Native.Nat.{ℕ, zero, suc, ◌+◌, ◌*◌, ◌/◌, ◌%◌, ◌≤◌, ◌<◌}
use mathlib.Core.Path.{◌≡◌, refl, sym, subst, ◌∙◌}
use mathlib.Core.List.{List, [], ◌∷◌}
use native.Mathlib.Nat.{mod-lt, div-add-mod', div-lt_iff_lt-mul}
use native.Mathlib.Omega.{arith}
use lib.ListN.{length, get_or, take}
use lib.Seq.{get_or-take, ext_get_or, length-take-le}
use Rattle.plan.specs.Limits.{most_arcs}
use Rattle.arcs.specs.Taken.{flattened, no_arc, taken_apart}
use Rattle.plan.specs.declared.Arc.{Arc}
use Rattle.arcs.proofs.Taking.{taken_length, taken_written}

-- number m of an arc
abbrev number : Arc → ℕ → ℕ
number a zero = a.from
number a (suc zero) = a.to
number a (suc (suc zero)) = a.low
number a (suc (suc (suc m))) = a.high

pub flattened_length : (arcs : List Arc) → length (flattened arcs) ≡ length arcs * 4
flattened_length [] = refl
flattened_length (a ∷ arcs) = omega (arith, flattened_length arcs)

nothing_at : (m : ℕ) → number no_arc m ≡ 0
nothing_at zero = refl
nothing_at (suc zero) = refl
nothing_at (suc (suc zero)) = refl
nothing_at (suc (suc (suc m))) = refl

first_at : (a : Arc) (arcs : List Arc) (m : ℕ) → m < 4 → get_or (flattened (a ∷ arcs)) m 0 ≡ number a m
first_at a arcs zero l = refl
first_at a arcs (suc zero) l = refl
first_at a arcs (suc (suc zero)) l = refl
first_at a arcs (suc (suc (suc zero))) l = refl
first_at a arcs (suc (suc (suc (suc m)))) l = absurd (omega arith)

flattened_at : (arcs : List Arc) (k m : ℕ) → m < 4 → get_or (flattened arcs) (k * 4 + m) 0 ≡ number (get_or arcs k no_arc) m
flattened_at [] k m l = sym (nothing_at m)
flattened_at (a ∷ arcs) zero m l = let e : 0 * 4 + m ≡ m = omega arith in rw e (first_at a arcs m l)
flattened_at (a ∷ arcs) (suc k) m l =
    let e : suc k * 4 + m ≡ suc (suc (suc (suc (k * 4 + m)))) = omega arith in rw e (flattened_at arcs k m l)

module _ (arcs : List Arc) where
  taken_at : (n : ℕ) → n ≤ most_arcs + 1 → (k m : ℕ) → k < n → m < 4 → get_or (taken_apart arcs n) (k * 4 + m) 0 ≡ number (get_or arcs k no_arc) m
  taken_at n few k zero l lm = let e : k * 4 + 0 ≡ k * 4 = omega arith in rw e ((taken_written arcs n few).from_is k l)
  taken_at n few k (suc zero) l lm = (taken_written arcs n few).to_is k l
  taken_at n few k (suc (suc zero)) l lm = (taken_written arcs n few).low_is k l
  taken_at n few k (suc (suc (suc zero))) l lm = (taken_written arcs n few).high_is k l
  taken_at n few k (suc (suc (suc (suc m)))) l lm = absurd (omega arith)

  -- a list that is not cut: what is taken is its flat list
  pub taken_flat : length arcs ≤ most_arcs + 1 → take (length arcs * 4) (taken_apart arcs (length arcs)) ≡ flattened arcs
  taken_flat few = ext_get_or 0 (take (length arcs * 4) (taken_apart arcs (length arcs))) (flattened arcs) (long ∙ sym (flattened_length arcs)) same
    where
      long : length (take (length arcs * 4) (taken_apart arcs (length arcs))) ≡ length arcs * 4
      long = length-take-le (length arcs * 4) (taken_apart arcs (length arcs)) (omega (arith, taken_length arcs (length arcs)))

      same : (j : ℕ) → j < length (take (length arcs * 4) (taken_apart arcs (length arcs)))
          → get_or (take (length arcs * 4) (taken_apart arcs (length arcs))) j 0 ≡ get_or (flattened arcs) j 0
      same j l =
          let small : j < length arcs * 4 = omega (arith, long) in
          get_or-take (length arcs * 4) (taken_apart arcs (length arcs)) j 0 small
          ∙ subst (λ (p : ℕ). get_or (taken_apart arcs (length arcs)) p 0 ≡ get_or (flattened arcs) p 0) (div-add-mod' j 4)
          (taken_at (length arcs) few (j / 4) (j % 4) ((div-lt_iff_lt-mul (omega arith)).1 small) (mod-lt j (omega arith))
          ∙ sym (flattened_at arcs (j / 4) (j % 4) (mod-lt j (omega arith))))

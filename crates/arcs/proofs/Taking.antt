-- How a list of arcs is taken apart: its arcs stand in the room, one after another, and nothing else does.
use Prim.Native.Nat.{ℕ, zero, suc, ◌+◌, ◌*◌, ◌≤◌, ◌<◌}
use mathlib.Core.Path.{◌≡◌, refl, sym, ◌∙◌}
use mathlib.Core.List.{List}
use native.Mathlib.Omega.{arith}
use Rattle.std.proofs.lemmas.Bool.Decides.{nat_tests}
use lib.IntN.{pos}
use lib.ListN.{length, get_or, replicate, length-set, length-replicate}
use lib.Seq.{get_or-set_same, get_or-set_other}
use Rattle.plan.specs.Limits.{most_arcs, arc_entries}
use Rattle.plan.specs.Plan.{Plan}
use Rattle.plan.specs.declared.Arc.{Arc}
use Rattle.lists.specs.Written.{ArcWritten, ArcsHold, ArcsWritten}
use Rattle.lists.proofs.Arcs.{arcs_none, arc_holds, arcs_follow, arcs_unique}
use Rattle.arcs.specs.Taken.{cut_at, no_arc, placed, room, taken_apart}

-- what is taken is there, and has room
pub cut_within : (count : ℕ) → (cut_at count ≤ count) × (cut_at count ≤ most_arcs + 1)
cut_within count = (grind (arith, nat_tests), grind (arith, nat_tests))

-- what is placed is written
placed_written : (flat : List ℕ) (i : ℕ) (a : Arc) → i * arc_entries + 3 < length flat
    → ArcWritten i a.from a.to a.low a.high flat (placed flat i a)
unfolding placed
placed_written flat i a fits = grind (arith, length-set {A = ℕ}, get_or-set_same, get_or-set_other)

-- the arcs of a list, as a plan has its arcs
abbrev pub of_list : List Arc → Plan
of_list arcs = record {
  nodes = 0;
  arcs = length arcs;
  supply = λ v. pos 0;
  from = λ k. (get_or arcs k no_arc).from;
  to = λ k. (get_or arcs k no_arc).to;
  low = λ k. (get_or arcs k no_arc).low;
  high = λ k. (get_or arcs k no_arc).high;
}

module _ (arcs : List Arc) where
  pub taken_length : (i : ℕ) → length (taken_apart arcs i) ≡ room
  unfolding taken_apart placed
  taken_length zero = length-replicate {A = ℕ} room 0
  taken_length (suc i) = simp length-set (taken_length i)

  taken_holds : (n : ℕ) → n ≤ most_arcs + 1
      → ArcsHold (λ j a. a ≡ get_or arcs j no_arc) 0 n (replicate room 0) (taken_apart arcs n)
  unfolding taken_apart
  taken_holds zero few = grind arith
  taken_holds (suc n) few =
      let next : suc n ≡ n + 1 = omega arith in
      let here : 0 + n ≡ n = omega arith in
      rw next (arc_holds (get_or arcs n no_arc) (taken_length (suc n) ∙ sym (taken_length n))
      (rw here (placed_written (taken_apart arcs n) n (get_or arcs n no_arc) (omega (arith, taken_length n))))
      refl (taken_holds n (omega arith)))

  written : {holds : ℕ → Arc → Type 0} {n : ℕ} {before flat : List ℕ} → ArcsHold holds 0 n before flat
      → ((j : ℕ) (a : Arc) → j < n → holds j a → a ≡ get_or arcs j no_arc) → ArcsWritten (of_list arcs) n before flat
  written {n = n} w agree =
      let all : 0 + n ≡ n = omega arith in
      rw all at (arcs_follow w
      (λ j a l e. let here : 0 + j ≡ j = omega arith in rw here (agree j a l e))
      (arcs_none (of_list arcs)))

  -- the first arcs are taken, one after another
  pub taken_written : (n : ℕ) → n ≤ most_arcs + 1 → ArcsWritten (of_list arcs) n (replicate room 0) (taken_apart arcs n)
  taken_written n few = written (taken_holds n few) (λ j a l e. e)

  -- and nothing else is
  pub taken_only : {holds : ℕ → Arc → Type 0} {n : ℕ} {flat : List ℕ} → n ≤ most_arcs + 1
      → ArcsHold holds 0 n (replicate room 0) flat
      → ((j : ℕ) (a : Arc) → j < n → holds j a → a ≡ get_or arcs j no_arc) → flat ≡ taken_apart arcs n
  taken_only {n = n} few w agree = arcs_unique (written w agree) (taken_written n few)

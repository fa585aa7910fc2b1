-- No arc of a plan is written, then those that follow, as far as what holds of them makes them the plan's; and there is one such
-- content.
use Prim.Native.Nat.{ℕ, zero, suc, ◌+◌, ◌-◌, ◌*◌, ◌/◌, ◌%◌, ◌≤◌, ◌<◌}
use mathlib.Core.Path.{◌≡◌, sym, ap, ◌∙◌}
use mathlib.Core.List.{List}
use mathlib.Core.Logic.{by_cases}
use native.Mathlib.Omega.{arith}
use native.Mathlib.Decide.{dec_lt}
use lib.ListN.{length, get_or}
use Rattle.plan.specs.Limits.{arc_entries}
use Rattle.plan.specs.Plan.{Plan, arc_in}
use Rattle.plan.specs.declared.Arc.{Arc}
use Rattle.lists.specs.Written.{ArcWritten, ArcsHold, ArcsWritten}
use Rattle.lists.proofs.Entries.{one_content}

-- ---- one arc after another

pub arcs_none : (p : Plan) {arcs : List ℕ} → ArcsWritten p 0 arcs arcs
arcs_none p = grind arith

-- one arc more
pub arc_holds : {holds : ℕ → Arc → Type 0} {first n : ℕ} {before arcs arcs' : List ℕ} (a : Arc) → length arcs' ≡ length arcs
    → ArcWritten (first + n) a.from a.to a.low a.high arcs arcs' → holds n a → ArcsHold holds first n before arcs
    → ArcsHold holds first (n + 1) before arcs'
arc_holds a same w is x = grind arith

-- arc k of the plan
abbrev pub arc_of : Plan → ℕ → Arc
arc_of p k = record { from = p.from k; to = p.to k; low = p.low k; high = p.high k }

-- where what holds of the arcs that follow makes them the plan's, so many more of the plan stand there
pub arcs_follow : {p : Plan} {holds : ℕ → Arc → Type 0} {first count : ℕ} {before arcs arcs' : List ℕ}
    → ArcsHold holds first count arcs arcs' → ((j : ℕ) (a : Arc) → j < count → holds j a → a ≡ arc_of p (first + j))
    → ArcsWritten p first before arcs → ArcsWritten p (first + count) before arcs'
arcs_follow {p} {first = first} {count} {arcs = arcs} {arcs'} w agree x = record {
  same_length = w.same_length ∙ x.same_length;
  from_is = entry (λ k. k * arc_entries) p.from (λ k l. omega arith) x.from_is (λ k l r. ap (λ (a : Arc). a.from) (arc k l r));
  to_is = entry (λ k. k * arc_entries + 1) p.to (λ k l. omega arith) x.to_is (λ k l r. ap (λ (a : Arc). a.to) (arc k l r));
  low_is = entry (λ k. k * arc_entries + 2) p.low (λ k l. omega arith) x.low_is (λ k l r. ap (λ (a : Arc). a.low) (arc k l r));
  high_is = entry (λ k. k * arc_entries + 3) p.high (λ k l. omega arith) x.high_is
      (λ k l r. ap (λ (a : Arc). a.high) (arc k l r));
  past = λ i l. w.past i l ∙ x.past i (omega arith);
}
  where
    arc : (k : ℕ) → k < first + count → first ≤ k → arc_in arcs' k ≡ arc_of p k
    arc k l late =
        let there : first + (k - first) ≡ k = omega arith in
        rw there at (agree (k - first) (arc_in arcs' (first + (k - first))) (omega arith) (w.there (k - first) (omega arith)))

    -- one of the four numbers of every arc
    entry : (place of : ℕ → ℕ) → ((k : ℕ) → k < first → place k < first * arc_entries)
        → ((k : ℕ) → k < first → get_or arcs (place k) 0 ≡ of k)
        → ((k : ℕ) → k < first + count → first ≤ k → get_or arcs' (place k) 0 ≡ of k)
        → (k : ℕ) → k < first + count → get_or arcs' (place k) 0 ≡ of k
    entry place of within earlier later k l = by_cases (dec_lt k first)
        (λ early. w.before (place k) (within k early) ∙ earlier k early)
        (λ no. later k l (omega arith))

-- ---- one content

module _ {p : Plan} {m : ℕ} {arcs a b : List ℕ} (x : ArcsWritten p m arcs a) (y : ArcsWritten p m arcs b) where
  -- an entry is one of the four of its arc
  entry_unique : (k d : ℕ) → k < m → d < arc_entries → get_or a (k * arc_entries + d) 0 ≡ get_or b (k * arc_entries + d) 0
  entry_unique k zero l few = ap (λ i. get_or a i 0) (omega arith) ∙ x.from_is k l ∙ sym (y.from_is k l) ∙ ap (λ i. get_or b i 0) (omega arith)
  entry_unique k (suc zero) l few = x.to_is k l ∙ sym (y.to_is k l)
  entry_unique k (suc (suc zero)) l few = x.low_is k l ∙ sym (y.low_is k l)
  entry_unique k (suc (suc (suc zero))) l few = x.high_is k l ∙ sym (y.high_is k l)
  entry_unique k (suc (suc (suc (suc d)))) l few = absurd (omega arith)

  pub arcs_unique : a ≡ b
  arcs_unique = one_content 0 (m * arc_entries) arcs a b x.same_length y.same_length
      (λ i l. let parts : i ≡ i / arc_entries * arc_entries + i % arc_entries = omega arith in
      ap (λ j. get_or a j 0) parts ∙ entry_unique (i / arc_entries) (i % arc_entries) (omega arith) (omega arith)
      ∙ sym (ap (λ j. get_or b j 0) parts))
      x.past y.past

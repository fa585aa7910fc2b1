-- From what narrowing answers of the network to what the counting request answers: where it runs, the words and counts that are
-- read off it tell of assignments; where it is short, nothing was written.
use Prim.Native.Nat.{ℕ, ◌+◌, ◌*◌, ◌≤◌, ◌<◌}
use mathlib.Core.Path.{◌≡◌, refl, sym, ◌∙◌}
use mathlib.Core.Bool.{true, false}
use mathlib.Core.List.{List}
use mathlib.Core.Logic.{◌↔◌}
use mathlib.Mathlib.Data.Bool.Basic.{and_elim_left, and_elim_right}
use native.Mathlib.Omega.{arith}
use lib.Dec.{ltb}
use lib.ListN.{length}
use borrow.Author.Tests.{ltb-true, ltb-false, lt-ltb}
use Rattle.rooms.specs.Room.{at}
use Rattle.plan.specs.Plan.{WellFormed}
use Rattle.plan.specs.Flow.{Narrowed}
use Rattle.std.specs.Prelude.{Err}
use Rattle.plan.specs.declared.Fault.TheVariants.{Buffer}
use Rattle.plan.specs.declared.No.{No}
use Rattle.plan.specs.declared.No.TheVariants.{Short, Refused}
use Rattle.plan.specs.Verdict.{verdict, Accepted}
use Rattle.plan.proofs.Refusals.{last_accepted, neither}
use Rattle.lists.specs.Written.{Written}
use Rattle.narrow.specs.Answer.{Ranges, NarrowAnswers}
use Rattle.words.specs.Word.{holds}
use Rattle.counting.specs.Counting.{Counting, counting_of, Taken}
use Rattle.counting.specs.Network.{pairs, network}
use Rattle.count.specs.Narrowed.{DomainsOf}
use Rattle.counting.specs.Rules.{counting_rules}
use Rattle.count.specs.Answer.{Buffers, buffers_short, judged, Counted, CountAnswers}
use Rattle.counting.proofs.Grid.{pair_below}
use Rattle.counting.proofs.Counted.{assignment_exactly_if_flow, taken_exactly, fewest_uses, most_uses}
use Rattle.counting.proofs.Refused.{accepted_network}
use Rattle.count.proofs.Asked.{not_refused}

-- ---- what acceptance says

module _ (domains counts : List ℕ) (b : Buffers) (accepted : judged domains counts b ≡ Accepted) where
  passed : (verdict (counting_rules domains (counting_of domains counts)) ≡ Accepted)
      × (buffers_short (counting_of domains counts) b ≡ false)
  passed = last_accepted (counting_rules domains (counting_of domains counts)) Buffer (buffers_short (counting_of domains counts) b) accepted

  pub judged_network : WellFormed (network (counting_of domains counts))
  judged_network = accepted_network domains (counting_of domains counts) passed.0

  counts_fit : (ltb (length b.lows) (counting_of domains counts).values ≡ false)
      × (ltb (length b.highs) (counting_of domains counts).values ≡ false)
  counts_fit = neither _ _ (neither (ltb (length b.domains) (counting_of domains counts).variables) _ passed.1).1

  pub domains_fit : (counting_of domains counts).variables ≤ length b.domains
  domains_fit = ltb-false (length b.domains) _ (neither _ _ passed.1).0

  pub lows_fit : (counting_of domains counts).values ≤ length b.lows
  lows_fit = ltb-false (length b.lows) _ counts_fit.0

  pub highs_fit : (counting_of domains counts).values ≤ length b.highs
  highs_fit = ltb-false (length b.highs) _ counts_fit.1

-- ---- what is read off the network's ranges

module _ (c : Counting) (b b' : Buffers) {lows highs lows' highs' : List ℕ} (ranges : Ranges (network c) lows highs lows' highs')
    (domains : DomainsOf highs' c.values c.variables b.domains b'.domains)
    (fewest : Written (λ j. at lows' (pairs c + j)) c.values b.lows b'.lows)
    (most : Written (λ j. at highs' (pairs c + j)) c.values b.highs b'.highs) where
  pair_range : (i j : ℕ) → i < c.variables → j < c.values
      → Narrowed (network c) (i * c.values + j) (at lows' (i * c.values + j)) (at highs' (i * c.values + j))
  pair_range i j l m = ranges.narrowed (i * c.values + j) (omega (arith, pair_below l m))

  end_range : (j : ℕ) → j < c.values → Narrowed (network c) (pairs c + j) (at lows' (pairs c + j)) (at highs' (pairs c + j))
  end_range j m = ranges.narrowed (pairs c + j) (omega arith)

  stays : (i : ℕ) → i < c.variables → (j : ℕ) → (holds (at b'.domains i) j ≡ true) ↔ Taken c i j
  stays i l j = (
    λ e. let bit = sym ((domains.there i l).bits j) ∙ e in
        let m = ltb-true j c.values (and_elim_left _ _ bit) in
        (taken_exactly c i j l m (pair_range i j l m).high_end).1 (ltb-true 0 (at highs' (i * c.values + j)) (and_elim_right (ltb j c.values) _ bit)),
    λ taken. let m : j < c.values = omega (arith, taken.assignment.value i l, taken.there) in
        let some = (taken_exactly c i j l m (pair_range i j l m).high_end).0 taken in
        (domains.there i l).bits j ∙ rw (lt-ltb j c.values m, lt-ltb 0 (at highs' (i * c.values + j)) some),
  )

  pub counted : Counted c b b'
  counted = record {
    values = ((assignment_exactly_if_flow c).1 ranges.has_flow).0;
    assignment = ((assignment_exactly_if_flow c).1 ranges.has_flow).1;
    domain = stays;
    fewest = λ j m. rw (fewest.there j m) (fewest_uses c j (at lows' (pairs c + j)) m (end_range j m).low_end);
    most = λ j m. rw (most.there j m) (most_uses c j (at highs' (pairs c + j)) m (end_range j m).high_end);
    domains_past = domains.past;
    lows_past = fewest.past;
    highs_past = most.past;
  }

-- ---- the way out

module _ (domains counts : List ℕ) (b : Buffers) (accepted : judged domains counts b ≡ Accepted) {lows highs lows' highs' : List ℕ} where
  -- narrowing answered that the network does not run
  pub left_early : (no : No) → (network (counting_of domains counts)).arcs ≤ length lows → (network (counting_of domains counts)).arcs ≤ length highs
      → NarrowAnswers (network (counting_of domains counts)) lows highs lows' highs' (Err no) → CountAnswers domains counts b b (Err no)
  left_early (Short value) low_fits high_fits said =
      record { says = (accepted, said.says.1.0, refl); domains_length = refl; lows_length = refl; highs_length = refl }
  left_early (Refused refusal) low_fits high_fits said =
      absurd (not_refused (judged_network domains counts b accepted) low_fits high_fits said)

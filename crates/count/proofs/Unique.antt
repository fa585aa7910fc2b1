-- For every input the promises of the two requests admit one answer and one content of each buffer: a word is known by its bits,
-- fewest and most uses are unique, and where the network is short there is no assignment.
use Prim.Native.Nat.{ℕ}
use mathlib.Core.Path.{◌≡◌, refl, sym, ap, ◌∙◌}
use mathlib.Core.Bool.{Bool, true, false}
use mathlib.Core.List.{List}
use mathlib.Core.Logic.{◌↔◌}
use native.Mathlib.Omega.{arith}
use lib.IntN.{ℤ}
use lib.ListN.{length}
use Rattle.rooms.specs.Room.{at}
use Rattle.plan.specs.Plan.{Set}
use Rattle.plan.specs.Shortage.{ShortBy}
use Rattle.plan.specs.Verdict.{Verdict, Accepted}
use Rattle.plan.proofs.Refusals.{accepted_or_refused}
use Rattle.plan.proofs.Unique.{short_by_unique, short_or_flow}
use Rattle.lists.proofs.Entries.{one_content, entries_unique}
use Rattle.lists.proofs.Arcs.{arcs_unique}
use Rattle.std.specs.Prelude.{Ok, Err}
use Rattle.plan.specs.declared.No.TheVariants.{Short, Refused}
use Rattle.flow.specs.Answer.{Answer, number}
use Rattle.counting.specs.Counting.{Counting, counting_of, Assignment, FewestUses, MostUses}
use Rattle.counting.specs.Network.{network}
use Rattle.count.specs.Answer.{NetworkAnswers, Handed, Buffers, judged, Counted, CountAnswers}
use Rattle.words.proofs.Bits.{same_word}
use Rattle.counting.proofs.Assigned.{assignment_flows}
use Rattle.count.proofs.Answering.{judged_network}

-- ---- what one promise says, another says too

-- two tests that pass exactly where the same holds
same_test : {P : Type 0} (s t : Bool) → ((s ≡ true) ↔ P) → ((t ≡ true) ↔ P) → s ≡ t
same_test true true f g = refl
same_test true false f g = sym (g.1 (f.0 refl))
same_test false true f g = f.1 (g.0 refl)
same_test false false f g = refl

fewest_unique : {c : Counting} {j x y : ℕ} → FewestUses c j x → FewestUses c j y → x ≡ y
fewest_unique f g =
    omega (arith, f.fewest g.values g.assignment, g.there, g.fewest f.values f.assignment, f.there)

most_unique : {c : Counting} {j x y : ℕ} → MostUses c j x → MostUses c j y → x ≡ y
most_unique f g = omega (arith, f.most g.values g.assignment, g.there, g.most f.values f.assignment, f.there)

abbrev made : (domains lows highs : List ℕ) → Buffers
made domains lows highs = record { domains = domains; lows = lows; highs = highs }

same_buffers : {a b : Buffers} → a.domains ≡ b.domains → a.lows ≡ b.lows → a.highs ≡ b.highs → a ≡ b
same_buffers {a} {b} d l h =
    ap (λ x. made x a.lows a.highs) d ∙ ap (λ x. made b.domains x a.highs) l ∙ ap (made b.domains b.lows) h

module _ {c : Counting} {b x y : Buffers} (f : Counted c b x) (g : Counted c b y) where
  counted_unique : length x.domains ≡ length b.domains → length y.domains ≡ length b.domains
      → length x.lows ≡ length b.lows → length y.lows ≡ length b.lows
      → length x.highs ≡ length b.highs → length y.highs ≡ length b.highs → x ≡ y
  counted_unique dx dy lx ly hx hy = same_buffers
      (one_content 0 c.variables b.domains x.domains y.domains dx dy
      (λ i l. same_word (at x.domains i) (at y.domains i) (λ j. same_test _ _ (f.domain i l j) (g.domain i l j)))
      f.domains_past g.domains_past)
      (one_content 0 c.values b.lows x.lows y.lows lx ly (λ j l. fewest_unique (f.fewest j l) (g.fewest j l))
      f.lows_past g.lows_past)
      (one_content 0 c.values b.highs x.highs y.highs hx hy (λ j l. most_unique (f.most j l) (g.most j l))
      f.highs_past g.highs_past)

-- ---- the counting request

module _ (domains counts : List ℕ) (b : Buffers) where
  -- where the network is short there is no assignment
  assigned_or_short : judged domains counts b ≡ Accepted → {a : ℕ → ℕ} → Assignment (counting_of domains counts) a
      → {value : ℤ} → (S : Set) × ShortBy (network (counting_of domains counts)) value S → ⊥
  assigned_or_short e {a} s short =
      short_or_flow (judged_network domains counts b e) short.1 (assignment_flows (counting_of domains counts) a s)

  pub count_answers_unique : {x y : Buffers} (r r' : Answer)
      → CountAnswers domains counts b x r → CountAnswers domains counts b y r' → (r ≡ r') × (x ≡ y)
  count_answers_unique (Ok u) (Ok u') f g = (
    refl,
    counted_unique f.says.1 g.says.1 f.domains_length g.domains_length f.lows_length g.lows_length
        f.highs_length g.highs_length,
  )
  count_answers_unique (Ok u) (Err (Short v)) f g = absurd (assigned_or_short f.says.0 f.says.1.assignment g.says.1)
  count_answers_unique (Ok u) (Err (Refused r)) f g = absurd (accepted_or_refused f.says.0 g.says.0)
  count_answers_unique (Err (Short v)) (Ok u) f g = absurd (assigned_or_short f.says.0 g.says.1.assignment f.says.1)
  count_answers_unique (Err (Short v)) (Err (Short v')) f g =
      (ap (λ v. Err (Short v)) (short_by_unique f.says.1.1 g.says.1.1), f.says.2 ∙ sym g.says.2)
  count_answers_unique (Err (Short v)) (Err (Refused r)) f g = absurd (accepted_or_refused f.says.0 g.says.0)
  count_answers_unique (Err (Refused r)) (Ok u) f g = absurd (accepted_or_refused g.says.0 f.says.0)
  count_answers_unique (Err (Refused r)) (Err (Short v)) f g = absurd (accepted_or_refused g.says.0 f.says.0)
  count_answers_unique (Err (Refused r)) (Err (Refused r')) f g = (cc (f.says.0, g.says.0), f.says.1 ∙ sym g.says.1)

  -- an accepted counting plan gets number 9 exactly if it has no assignment
  pub count_no_exactly_if_no_assignment : {x : Buffers} (r : Answer) → judged domains counts b ≡ Accepted
      → CountAnswers domains counts b x r → (number r ≡ 9) ↔ ((a : ℕ → ℕ) → Assignment (counting_of domains counts) a → ⊥)
  count_no_exactly_if_no_assignment (Ok u) e f =
      (λ no. absurd (omega arith), λ none. absurd (none f.says.1.values f.says.1.assignment))
  count_no_exactly_if_no_assignment (Err (Short v)) e f = (λ no a s. assigned_or_short e s f.says.1, λ none. refl)
  count_no_exactly_if_no_assignment (Err (Refused r)) e f = absurd (accepted_or_refused e f.says.0)

-- ---- the network, handed out

module _ (domains counts : List ℕ) (supplies : List ℤ) (arcs : List ℕ) where
  handed_unique : {s s' : List ℤ} {a a' : List ℕ} (v : Verdict) → Handed (counting_of domains counts) supplies arcs s a v
      → Handed (counting_of domains counts) supplies arcs s' a' v → (s ≡ s') × (a ≡ a')
  handed_unique (Ok u) f g = (entries_unique f.0 g.0, arcs_unique f.1 g.1)
  handed_unique (Err r) f g = (f.0 ∙ sym g.0, f.1 ∙ sym g.1)

  pub network_answers_unique : {s s' : List ℤ} {a a' : List ℕ} {r r' : Verdict} → NetworkAnswers domains counts supplies arcs s a r
      → NetworkAnswers domains counts supplies arcs s' a' r' → (r ≡ r') × (s ≡ s') × (a ≡ a')
  network_answers_unique {r = r} {r'} f g =
      let same : r ≡ r' = sym f.answer_is ∙ g.answer_is in
      let (one_supplies, one_arcs) = handed_unique r f.handed (rw (← same) at g.handed) in
      (same, one_supplies, one_arcs)

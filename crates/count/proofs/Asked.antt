-- From the lists that the network is drawn into to the network itself: a plan of the two lists is the network below its counts, so
-- what narrowing answers of the one it answers of the other.
use Prim.Native.Nat.{ℕ, ◌*◌, ◌≤◌}
use mathlib.Core.Path.{◌≡◌}
use mathlib.Core.List.{List}
use native.Mathlib.Omega.{arith}
use lib.IntN.{ℤ}
use lib.ListN.{length, take}
use Rattle.plan.specs.Limits.{arc_entries}
use Rattle.plan.specs.Plan.{Plan, WellFormed, plan_of}
use Rattle.plan.specs.Verdict.{Accepted}
use Rattle.plan.specs.Keeping.{SamePlan}
use Rattle.plan.proofs.Alike.{alike_back, alike_has_flow, alike_occurs, alike_narrowed, alike_short_by, alike_well_formed}
use Rattle.plan.proofs.Refusals.{accepted_or_refused}
use Rattle.plan.proofs.Checked.{well_formed_judged, both_long}
use Rattle.lists.specs.Written.{ArcsWritten, SuppliesWritten}
use Rattle.lists.proofs.Same.{written_plan}
use Rattle.std.specs.Prelude.{Ok, Err}
use Rattle.plan.specs.declared.No.TheVariants.{Short, Refused}
use Rattle.plan.specs.declared.Refusal.{Refusal}
use Rattle.flow.specs.Answer.{Answer}
use Rattle.narrow.specs.Answer.{judged, Says, NarrowAnswers}

-- the network stands in the first entries of the lists that it was drawn into
pub drawn_alike : {p : Plan} {arcs₀ arcs : List ℕ} {supplies₀ supplies : List ℤ}
    → ArcsWritten p p.arcs arcs₀ arcs → SuppliesWritten p p.nodes supplies₀ supplies
    → p.arcs * arc_entries ≤ length arcs → p.nodes ≤ length supplies
    → SamePlan (plan_of (take (p.arcs * arc_entries) arcs) (take p.nodes supplies)) p
drawn_alike = written_plan

-- a well-formed plan whose buffers are long enough is accepted
accepted : (p : Plan) (lows highs : List ℕ) → WellFormed p → p.arcs ≤ length lows → p.arcs ≤ length highs
    → judged p lows highs ≡ Accepted
accepted p lows highs w low_fits high_fits = well_formed_judged p w (both_long lows highs low_fits high_fits)

pub not_refused : {p : Plan} {lows highs lows' highs' : List ℕ} {r : Refusal} → WellFormed p → p.arcs ≤ length lows
    → p.arcs ≤ length highs → NarrowAnswers p lows highs lows' highs' (Err (Refused r)) → ⊥
not_refused {p} {lows} {highs} w low_fits high_fits said =
    accepted_or_refused (accepted p lows highs w low_fits high_fits) said.says.0

module _ {p q : Plan} (a : SamePlan q p) (w : WellFormed p) (lows highs lows' highs' : List ℕ)
    (low_fits : p.arcs ≤ length lows) (high_fits : p.arcs ≤ length highs) where
  asked_alike : (r : Answer) → Says q lows highs lows' highs' r → Says p lows highs lows' highs' r
  asked_alike (Ok u) said = (
    accepted p lows highs w low_fits high_fits,
    record {
      has_flow = alike_has_flow (alike_back a) said.1.has_flow;
      narrowed = λ k l. alike_narrowed (alike_back a) (said.1.narrowed k (omega (arith, a.network.arcs)));
      every_count = λ k l count low high. alike_occurs (alike_back a) (said.1.every_count k (omega (arith, a.network.arcs)) count low high);
      lows_past = λ i l. said.1.lows_past i (omega (arith, a.network.arcs));
      highs_past = λ i l. said.1.highs_past i (omega (arith, a.network.arcs));
    },
  )
  asked_alike (Err (Short value)) said = (
    accepted p lows highs w low_fits high_fits,
    ((said.1.0.0, alike_short_by (alike_back a) said.1.0.1), said.1.1, said.1.2),
  )
  asked_alike (Err (Refused r)) said = absurd (accepted_or_refused
      (accepted q lows highs (alike_well_formed a w) (omega (arith, a.network.arcs)) (omega (arith, a.network.arcs))) said.0)

  pub narrow_answers_alike : {r : Answer} → NarrowAnswers q lows highs lows' highs' r → NarrowAnswers p lows highs lows' highs' r
  narrow_answers_alike {r} said = record {
    says = asked_alike r said.says;
    lows_length = said.lows_length;
    highs_length = said.highs_length;
  }

-- For every input the promise of narrowing admits one answer and one content of each buffer: narrowed ranges are unique, and a
-- plan that is short has no flow and is short by one value.
use Prim.Native.Nat.{ℕ, ◌≤◌}
use mathlib.Core.Path.{◌≡◌, refl, sym, ap, ◌∙◌}
use mathlib.Core.List.{List}
use mathlib.Core.Logic.{◌↔◌}
use native.Mathlib.Omega.{arith}
use lib.IntN.{ℤ}
use lib.ListN.{length}
use Rattle.std.specs.Prelude.{Ok, Err}
use Rattle.plan.specs.Plan.{Plan, Set, WellFormed}
use Rattle.plan.specs.Flow.{Flow}
use Rattle.plan.specs.Shortage.{ShortBy}
use Rattle.plan.specs.Verdict.{Accepted}
use Rattle.plan.specs.declared.No.TheVariants.{Short, Refused}
use Rattle.plan.proofs.Refusals.{accepted_or_refused}
use Rattle.plan.proofs.Checked.{accepted_plan, well_formed_judged, both_long}
use Rattle.plan.proofs.Unique.{narrowed_unique, short_by_unique, short_or_flow}
use Rattle.lists.proofs.Entries.{one_content}
use Rattle.flow.specs.Answer.{Answer, number}
use Rattle.narrow.specs.Answer.{judged, NarrowAnswers}

module _ (p : Plan) (lows highs : List ℕ) where
  -- a plan that is short has no flow
  flow_or_short : judged p lows highs ≡ Accepted → {f : ℕ → ℕ} → Flow p f → {value : ℤ} → (S : Set) × ShortBy p value S → ⊥
  flow_or_short e c short = short_or_flow (accepted_plan p lows highs p.arcs p.arcs e) short.1 c

  pub narrow_answers_unique : {l h l' h' : List ℕ} (r r' : Answer)
      → NarrowAnswers p lows highs l h r → NarrowAnswers p lows highs l' h' r' → (r ≡ r') × (l ≡ l') × (h ≡ h')
  narrow_answers_unique {l} {h} {l'} {h'} (Ok u) (Ok u') x y = (
    refl,
    one_content 0 p.arcs lows l l' x.lows_length y.lows_length
        (λ k lk. (narrowed_unique (x.says.1.narrowed k lk) (y.says.1.narrowed k lk)).0)
        x.says.1.lows_past y.says.1.lows_past,
    one_content 0 p.arcs highs h h' x.highs_length y.highs_length
        (λ k lk. (narrowed_unique (x.says.1.narrowed k lk) (y.says.1.narrowed k lk)).1)
        x.says.1.highs_past y.says.1.highs_past,
  )
  narrow_answers_unique (Ok u) (Err (Short v)) x y =
      absurd (flow_or_short x.says.0 x.says.1.has_flow.flow y.says.1.0)
  narrow_answers_unique (Ok u) (Err (Refused r)) x y = absurd (accepted_or_refused x.says.0 y.says.0)
  narrow_answers_unique (Err (Short v)) (Ok u) x y =
      absurd (flow_or_short x.says.0 y.says.1.has_flow.flow x.says.1.0)
  narrow_answers_unique (Err (Short v)) (Err (Short v')) x y = (
    ap (λ v. Err (Short v)) (short_by_unique x.says.1.0.1 y.says.1.0.1),
    x.says.1.1 ∙ sym y.says.1.1,
    x.says.1.2 ∙ sym y.says.1.2,
  )
  narrow_answers_unique (Err (Short v)) (Err (Refused r)) x y = absurd (accepted_or_refused x.says.0 y.says.0)
  narrow_answers_unique (Err (Refused r)) (Ok u) x y = absurd (accepted_or_refused y.says.0 x.says.0)
  narrow_answers_unique (Err (Refused r)) (Err (Short v)) x y = absurd (accepted_or_refused y.says.0 x.says.0)
  narrow_answers_unique (Err (Refused r)) (Err (Refused r')) x y = (
    cc (x.says.0, y.says.0),
    x.says.1 ∙ sym y.says.1,
    x.says.2 ∙ sym y.says.2,
  )

  -- a well-formed plan with long enough buffers gets number 9 exactly if no flow exists
  module _ (w : WellFormed p) (lows_long : p.arcs ≤ length lows) (highs_long : p.arcs ≤ length highs) where
    accepted : judged p lows highs ≡ Accepted
    accepted = well_formed_judged p w (both_long lows highs lows_long highs_long)

    pub narrow_no_exactly_if_no_flow : {l h : List ℕ} (r : Answer) → NarrowAnswers p lows highs l h r
        → (number r ≡ 9) ↔ ((f : ℕ → ℕ) → Flow p f → ⊥)
    narrow_no_exactly_if_no_flow (Ok u) x =
        (λ no. absurd (omega arith), λ none. absurd (none x.says.1.has_flow.counts x.says.1.has_flow.flow))
    narrow_no_exactly_if_no_flow (Err (Short v)) x = (λ no f c. flow_or_short accepted c x.says.1.0, λ none. refl)
    narrow_no_exactly_if_no_flow (Err (Refused r)) x = absurd (accepted_or_refused accepted x.says.0)

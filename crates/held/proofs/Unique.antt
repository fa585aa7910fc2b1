-- For every input the promise of an arc held at a count admits one answer and one content of the buffer: there is one first flow
-- with the count, a count that occurs is not outside the narrowed range, and a plan that is short has no flow.
use Prim.Native.Nat.{ℕ, ◌≤◌, ◌<◌}
use mathlib.Core.Path.{◌≡◌, refl, sym, ap, ◌∙◌}
use mathlib.Core.List.{List}
use mathlib.Core.Logic.{◌↔◌}
use native.Mathlib.Omega.{arith}
use lib.IntN.{ℤ}
use lib.ListN.{length}
use Rattle.std.specs.Prelude.{Ok, Err}
use borrow.Author.Tests.{lt-leb, le-ltb}
use Rattle.rooms.specs.Room.{at}
use Rattle.plan.specs.Plan.{Plan, Set, WellFormed}
use Rattle.plan.specs.Flow.{Flow, Occurs, Narrowed, OutsideRange, FirstWith}
use Rattle.plan.specs.Shortage.{ShortBy}
use Rattle.plan.specs.Verdict.{Accepted}
use Rattle.plan.proofs.Refusals.{accepted_or_refused}
use Rattle.plan.proofs.Checked.{well_formed_asked}
use Rattle.plan.proofs.Ends.{smallest_least, largest_most}
use Rattle.plan.proofs.Between.{every_count_occurs}
use Rattle.plan.proofs.Unique.{short_by_unique, short_or_flow}
use Rattle.plan.proofs.HeldCounts.{first_with_unique, outside_never}
use Rattle.lists.proofs.Entries.{one_content}
use Rattle.held.specs.Answer.{Answer, number, judged, HeldAnswers}
use Rattle.held.specs.declared.Unheld.TheVariants.{Short, Outside, Refused}
use Rattle.held.proofs.Answering.{request_accepted}

module _ (p : Plan) (arc count : ℕ) (arcs : List ℕ) where
  -- a plan that is short has no flow
  flow_or_short : judged p arc arcs ≡ Accepted → {f : ℕ → ℕ} → Flow p f → {value : ℤ} → (S : Set) × ShortBy p value S → ⊥
  flow_or_short e c short = short_or_flow (request_accepted p arc arcs e).0 short.1 c

  -- a first flow with the count has the count
  first_occurs : {f : ℕ → ℕ} → FirstWith p arc count f → Occurs p arc count
  first_occurs {f} x = record { counts = f; flow = x.flow; there = x.there }

  pub held_answers_unique : {a a' : List ℕ} (r r' : Answer)
      → HeldAnswers p arc count arcs a r → HeldAnswers p arc count arcs a' r' → (r ≡ r') × (a ≡ a')
  held_answers_unique {a} {a'} (Ok u) (Ok u') x y = (
    refl,
    one_content 0 p.arcs arcs a a' x.arcs_length y.arcs_length
        (first_with_unique p arc count (at a) (at a') x.says.1.first y.says.1.first)
        x.says.1.past y.says.1.past,
  )
  held_answers_unique (Ok u) (Err (Short v)) x y = absurd (flow_or_short x.says.0 x.says.1.first.flow y.says.1.0)
  held_answers_unique (Ok u) (Err Outside) x y = absurd (outside_never y.says.1.0 (first_occurs x.says.1.first))
  held_answers_unique (Ok u) (Err (Refused r)) x y = absurd (accepted_or_refused x.says.0 y.says.0)
  held_answers_unique (Err (Short v)) (Ok u) x y = absurd (flow_or_short x.says.0 y.says.1.first.flow x.says.1.0)
  held_answers_unique (Err (Short v)) (Err (Short v')) x y =
      (ap (λ v. Err (Short v)) (short_by_unique x.says.1.0.1 y.says.1.0.1), x.says.1.1 ∙ sym y.says.1.1)
  held_answers_unique (Err (Short v)) (Err Outside) x y =
      absurd (flow_or_short x.says.0 y.says.1.0.narrowed.low_end.occurs.flow x.says.1.0)
  held_answers_unique (Err (Short v)) (Err (Refused r)) x y = absurd (accepted_or_refused x.says.0 y.says.0)
  held_answers_unique (Err Outside) (Ok u) x y = absurd (outside_never x.says.1.0 (first_occurs y.says.1.first))
  held_answers_unique (Err Outside) (Err (Short v)) x y =
      absurd (flow_or_short x.says.0 x.says.1.0.narrowed.low_end.occurs.flow y.says.1.0)
  held_answers_unique (Err Outside) (Err Outside) x y = (refl, x.says.1.1 ∙ sym y.says.1.1)
  held_answers_unique (Err Outside) (Err (Refused r)) x y = absurd (accepted_or_refused x.says.0 y.says.0)
  held_answers_unique (Err (Refused r)) (Ok u) x y = absurd (accepted_or_refused y.says.0 x.says.0)
  held_answers_unique (Err (Refused r)) (Err (Short v)) x y = absurd (accepted_or_refused y.says.0 x.says.0)
  held_answers_unique (Err (Refused r)) (Err Outside) x y = absurd (accepted_or_refused y.says.0 x.says.0)
  held_answers_unique (Err (Refused r)) (Err (Refused r')) x y = (cc (x.says.0, y.says.0), x.says.1 ∙ sym y.says.1)

  -- a well-formed plan with a long enough buffer, asked about an arc that it has
  module _ (w : WellFormed p) (there : arc < p.arcs) (long : p.arcs ≤ length arcs) where
    accepted : judged p arc arcs ≡ Accepted
    accepted = well_formed_asked p w (le-ltb (length arcs) p.arcs long) (lt-leb p.arcs arc there)

    -- gets number 0 exactly if some flow has the count
    pub held_exactly_if_occurs : {a : List ℕ} (r : Answer) → HeldAnswers p arc count arcs a r → (number r ≡ 0) ↔ Occurs p arc count
    held_exactly_if_occurs (Ok u) x = (λ yes. first_occurs x.says.1.first, λ o. refl)
    held_exactly_if_occurs (Err (Short v)) x = (λ yes. absurd (omega arith), λ o. absurd (flow_or_short accepted o.flow x.says.1.0))
    held_exactly_if_occurs (Err Outside) x = (λ yes. absurd (omega arith), λ o. absurd (outside_never x.says.1.0 o))
    held_exactly_if_occurs (Err (Refused r)) x = absurd (accepted_or_refused accepted x.says.0)

    -- so exactly if the count lies in the arc's narrowed range
    pub held_exactly_in_range : {a : List ℕ} (r : Answer) → HeldAnswers p arc count arcs a r
        → {low high : ℕ} → Narrowed p arc low high → (number r ≡ 0) ↔ ((low ≤ count) × (count ≤ high))
    held_exactly_in_range r x {low} {high} n =
        let (to, back) = held_exactly_if_occurs r x in (
          λ yes. (smallest_least n.low_end (to yes), largest_most n.high_end (to yes)),
          λ inside. back (every_count_occurs p w arc there low high n count inside.0 inside.1),
        )

    -- number 9 exactly if no flow exists
    pub held_no_exactly_if_no_flow : {a : List ℕ} (r : Answer) → HeldAnswers p arc count arcs a r
        → (number r ≡ 9) ↔ ((f : ℕ → ℕ) → Flow p f → ⊥)
    held_no_exactly_if_no_flow {a} (Ok u) x = (λ no. absurd (omega arith), λ none. absurd (none (at a) x.says.1.first.flow))
    held_no_exactly_if_no_flow (Err (Short v)) x = (λ no f c. flow_or_short accepted c x.says.1.0, λ none. refl)
    held_no_exactly_if_no_flow (Err Outside) x =
        let o = x.says.1.0.narrowed.low_end.occurs in
        (λ no. absurd (omega arith), λ none. absurd (none o.counts o.flow))
    held_no_exactly_if_no_flow (Err (Refused r)) x = absurd (accepted_or_refused accepted x.says.0)

    -- and number 10 exactly if the arc has a narrowed range and the count lies outside it
    pub held_ten_exactly_if_outside : {a : List ℕ} (r : Answer) → HeldAnswers p arc count arcs a r
        → (number r ≡ 10) ↔ OutsideRange p arc count
    held_ten_exactly_if_outside (Ok u) x =
        (λ ten. absurd (omega arith), λ out. absurd (outside_never out (first_occurs x.says.1.first)))
    held_ten_exactly_if_outside (Err (Short v)) x =
        (λ ten. absurd (omega arith), λ out. absurd (flow_or_short accepted out.narrowed.low_end.occurs.flow x.says.1.0))
    held_ten_exactly_if_outside (Err Outside) x = (λ ten. x.says.1.0, λ out. refl)
    held_ten_exactly_if_outside (Err (Refused r)) x = absurd (accepted_or_refused accepted x.says.0)

-- For every input the promise about an end's reason admits one answer and one content of each buffer: an end is narrowed to
-- one value, by one set; where it has a reason it does not stand; and a plan that is short has no narrowed end.
use Prim.Native.Nat.{ℕ, ◌≤◌, ◌<◌}
use mathlib.Core.Path.{◌≡◌, refl, sym, ap, ◌∙◌}
use mathlib.Core.Bool.{Bool}
use mathlib.Core.List.{List}
use mathlib.Core.Logic.{◌↔◌}
use native.Mathlib.Omega.{arith}
use lib.IntN.{ℤ}
use lib.ListN.{length}
use Rattle.std.specs.Prelude.{Some, None, Ok, Err}
use borrow.Author.Tests.{lt-leb, le-ltb}
use Rattle.numbers.specs.Sums.{only}
use Rattle.plan.specs.Plan.{Plan, Set, WellFormed}
use Rattle.plan.specs.Flow.{Flow}
use Rattle.plan.specs.Shortage.{ShortBy}
use Rattle.plan.specs.Reason.{own_end, NarrowedEnd}
use Rattle.plan.specs.Verdict.{Accepted}
use Rattle.plan.specs.declared.No.TheVariants.{Short, Refused}
use Rattle.plan.proofs.Refusals.{accepted_or_refused}
use Rattle.plan.proofs.Checked.{well_formed_asked, both_long}
use Rattle.plan.proofs.Unique.{short_by_unique, short_or_flow}
use Rattle.plan.proofs.EitherEnd.{end_unique, end_occurs, end_or_short, reason_end, reason_moved, end_set_unique, end_marks_alike}
use Rattle.lists.proofs.Writing.{written_unique}
use Rattle.reason.specs.Answer.{Answer, number, missing, is_high, judged, Cited, ReasonAnswers}
use Rattle.reason.proofs.Answering.{request_accepted}

module _ (p : Plan) (k : ℕ) (high_end : Bool) where
  -- an end with a reason is narrowed to its value
  cited_end : {v : ℕ} {arcs nodes a n : List ℕ} → Cited p k high_end v arcs nodes a n → NarrowedEnd p k high_end v
  cited_end {v} x = reason_end p k high_end v x.set x.reason

  -- and does not stand
  stands_or_moved : NarrowedEnd p k high_end (own_end p k high_end)
      → {v : ℕ} {arcs nodes a n : List ℕ} → Cited p k high_end v arcs nodes a n → ⊥
  stands_or_moved own {v} x = reason_moved p k high_end v x.set x.reason
      (end_unique p k high_end (own_end p k high_end) v own (cited_end x))

  -- two reasons for an end name the same value and set
  module _ {v v' : ℕ} {arcs nodes a n a' n' : List ℕ}
      (x : Cited p k high_end v arcs nodes a n) (y : Cited p k high_end v' arcs nodes a' n') where
    same_value : v ≡ v'
    same_value = end_unique p k high_end v v' (cited_end x) (cited_end y)

    same_set : (u : ℕ) → u < p.nodes → x.set u ≡ y.set u
    same_set = end_set_unique p k high_end v v' x.set y.set x.reason y.reason

    same_nodes : length n ≡ length nodes → length n' ≡ length nodes → n ≡ n'
    same_nodes l l' = written_unique l l' (λ u lu. ap (λ t. only t 1) (same_set u lu)) x.node_marks y.node_marks

    same_arcs : WellFormed p → length a ≡ length arcs → length a' ≡ length arcs → a ≡ a'
    same_arcs w l l' =
        written_unique l l' (end_marks_alike p k w high_end x.set y.set same_set) x.arc_marks y.arc_marks

module _ (p : Plan) (arc end : ℕ) (arcs nodes : List ℕ) where
  end_or_none : judged p arc end arcs nodes ≡ Accepted → (v : ℕ) → NarrowedEnd p arc (is_high end) v
      → {s : ℤ} → (S : Set) × ShortBy p s S → ⊥
  end_or_none e v narrowed short =
      end_or_short p arc (request_accepted p arc end arcs nodes e).0 (is_high end) v narrowed short.1

  pub reason_answers_unique : {a n a' n' : List ℕ} (r r' : Answer) → ReasonAnswers p arc end arcs nodes a n r
      → ReasonAnswers p arc end arcs nodes a' n' r' → (r ≡ r') × (a ≡ a') × (n ≡ n')
  reason_answers_unique (Ok None) (Ok None) x y = (refl, x.says.1.1 ∙ sym y.says.1.1, x.says.1.2 ∙ sym y.says.1.2)
  reason_answers_unique (Ok None) (Ok (Some v)) x y = absurd (stands_or_moved p arc (is_high end) x.says.1.0 y.says.1)
  reason_answers_unique (Ok None) (Err (Short s)) x y =
      absurd (end_or_none x.says.0 (own_end p arc (is_high end)) x.says.1.0 y.says.1.0)
  reason_answers_unique (Ok None) (Err (Refused r)) x y = absurd (accepted_or_refused x.says.0 y.says.0)
  reason_answers_unique (Ok (Some v)) (Ok None) x y = absurd (stands_or_moved p arc (is_high end) y.says.1.0 x.says.1)
  reason_answers_unique (Ok (Some v)) (Ok (Some v')) x y = (
    ap (λ v. Ok (Some v)) (same_value p arc (is_high end) x.says.1 y.says.1),
    same_arcs p arc (is_high end) x.says.1 y.says.1 (request_accepted p arc end arcs nodes x.says.0).0
        x.arcs_length y.arcs_length,
    same_nodes p arc (is_high end) x.says.1 y.says.1 x.nodes_length y.nodes_length,
  )
  reason_answers_unique (Ok (Some v)) (Err (Short s)) x y =
      absurd (end_or_none x.says.0 v (cited_end p arc (is_high end) x.says.1) y.says.1.0)
  reason_answers_unique (Ok (Some v)) (Err (Refused r)) x y = absurd (accepted_or_refused x.says.0 y.says.0)
  reason_answers_unique (Err (Short s)) (Ok None) x y =
      absurd (end_or_none x.says.0 (own_end p arc (is_high end)) y.says.1.0 x.says.1.0)
  reason_answers_unique (Err (Short s)) (Ok (Some v)) x y =
      absurd (end_or_none x.says.0 v (cited_end p arc (is_high end) y.says.1) x.says.1.0)
  reason_answers_unique (Err (Short s)) (Err (Short s')) x y = (
    ap (λ v. Err (Short v)) (short_by_unique x.says.1.0.1 y.says.1.0.1),
    x.says.1.1 ∙ sym y.says.1.1,
    x.says.1.2 ∙ sym y.says.1.2,
  )
  reason_answers_unique (Err (Short s)) (Err (Refused r)) x y = absurd (accepted_or_refused x.says.0 y.says.0)
  reason_answers_unique (Err (Refused r)) (Ok None) x y = absurd (accepted_or_refused y.says.0 x.says.0)
  reason_answers_unique (Err (Refused r)) (Ok (Some v)) x y = absurd (accepted_or_refused y.says.0 x.says.0)
  reason_answers_unique (Err (Refused r)) (Err (Short s)) x y = absurd (accepted_or_refused y.says.0 x.says.0)
  reason_answers_unique (Err (Refused r)) (Err (Refused r')) x y = (
    cc (x.says.0, y.says.0),
    x.says.1 ∙ sym y.says.1,
    x.says.2 ∙ sym y.says.2,
  )

  -- where an end is narrowed some flow exists
  none_or_end : {A : Type 0} (v : ℕ) → NarrowedEnd p arc (is_high end) v → ((f : ℕ → ℕ) → Flow p f → ⊥) → A
  none_or_end v narrowed none = let o = end_occurs p arc (is_high end) v narrowed in absurd (none o.counts o.flow)

  -- a well-formed plan with long enough buffers, asked about an end that it has, gets number 9 exactly if no flow exists
  module _ (w : WellFormed p) (there : arc < p.arcs) (an_end : end ≤ 1) (arcs_long : p.arcs ≤ length arcs)
      (nodes_long : p.nodes ≤ length nodes) where
    accepted : judged p arc end arcs nodes ≡ Accepted
    accepted = well_formed_asked p w (both_long arcs nodes arcs_long nodes_long) {missing = missing p arc end}
        (rw (lt-leb p.arcs arc there, le-ltb 1 end an_end))

    pub reason_no_exactly_if_no_flow : {a n : List ℕ} (r : Answer) → ReasonAnswers p arc end arcs nodes a n r
        → (number r ≡ 9) ↔ ((f : ℕ → ℕ) → Flow p f → ⊥)
    reason_no_exactly_if_no_flow (Ok None) x =
        (λ no. absurd (omega arith), none_or_end (own_end p arc (is_high end)) x.says.1.0)
    reason_no_exactly_if_no_flow (Ok (Some v)) x =
        (λ no. absurd (omega arith), none_or_end v (cited_end p arc (is_high end) x.says.1))
    reason_no_exactly_if_no_flow (Err (Short s)) x = (λ no f c. short_or_flow w x.says.1.0.1 c, λ none. refl)
    reason_no_exactly_if_no_flow (Err (Refused r)) x = absurd (accepted_or_refused accepted x.says.0)

-- For every input the question's promise admits one answer and one content of each buffer.
use Prim.Native.Nat.{ℕ, ◌≤◌, ◌<◌}
use mathlib.Core.Path.{◌≡◌, refl, sym, ap, ◌∙◌}
use mathlib.Core.List.{List}
use mathlib.Core.Logic.{◌↔◌}
use native.Mathlib.Omega.{arith}
use lib.IntN.{ℤ}
use lib.ListN.{length}
use Rattle.std.specs.Prelude.{Ok, Err}
use Rattle.numbers.specs.Sums.{only}
use Rattle.rooms.specs.Room.{at}
use Rattle.plan.specs.Plan.{Plan, WellFormed}
use Rattle.plan.specs.Flow.{Flow}
use Rattle.plan.specs.Verdict.{Accepted}
use Rattle.plan.specs.declared.No.TheVariants.{Short, Refused}
use Rattle.plan.proofs.Refusals.{accepted_or_refused}
use Rattle.plan.proofs.Checked.{accepted_plan, well_formed_judged, both_long}
use Rattle.plan.proofs.Unique.{first_flow_unique, shortage_unique, short_by_unique, short_or_flow}
use Rattle.plan.proofs.EitherEnd.{no_marks_alike}
use Rattle.lists.proofs.Entries.{one_content}
use Rattle.lists.proofs.Writing.{written_unique}
use Rattle.flow.specs.Answer.{Answer, number, judged, Lacking, FlowAnswers}

module _ (p : Plan) (arcs nodes : List ℕ) where
  -- a plan that is short has no flow
  flow_or_lack : judged p arcs nodes ≡ Accepted → {f : ℕ → ℕ} → Flow p f → {v : ℤ} {a n : List ℕ} → Lacking p v arcs nodes a n → ⊥
  flow_or_lack e c lack = short_or_flow (accepted_plan p arcs nodes p.arcs p.nodes e) lack.short c

  -- two "no"s name the same shortfall and set
  module _ {v v' : ℤ} {a n a' n' : List ℕ} (e : judged p arcs nodes ≡ Accepted)
      (x : Lacking p v arcs nodes a n) (y : Lacking p v' arcs nodes a' n') where
    same_set : (u : ℕ) → u < p.nodes → x.set u ≡ y.set u
    same_set = shortage_unique p x.set y.set x.short.shortage y.short.shortage

    same_value : v ≡ v'
    same_value = short_by_unique x.short y.short

    same_nodes : length n ≡ length nodes → length n' ≡ length nodes → n ≡ n'
    same_nodes l l' = written_unique l l' (λ u lu. ap (λ t. only t 1) (same_set u lu)) x.node_marks y.node_marks

    same_arcs : length a ≡ length arcs → length a' ≡ length arcs → a ≡ a'
    same_arcs l l' = written_unique l l'
        (no_marks_alike p (accepted_plan p arcs nodes p.arcs p.nodes e) x.set y.set same_set)
        x.arc_marks y.arc_marks

  pub flow_answers_unique : {a n a' n' : List ℕ} (r r' : Answer)
      → FlowAnswers p arcs nodes a n r → FlowAnswers p arcs nodes a' n' r' → (r ≡ r') × (a ≡ a') × (n ≡ n')
  flow_answers_unique {a} {a' = a'} (Ok u) (Ok u') x y = (
    refl,
    one_content 0 p.arcs arcs a a' x.arcs_length y.arcs_length
        (first_flow_unique p (at a) (at a') x.says.1.0.first y.says.1.0.first)
        x.says.1.0.past y.says.1.0.past,
    x.says.1.1 ∙ sym y.says.1.1,
  )
  flow_answers_unique (Ok u) (Err (Short v)) x y = absurd (flow_or_lack x.says.0 x.says.1.0.first.flow y.says.1)
  flow_answers_unique (Ok u) (Err (Refused r)) x y = absurd (accepted_or_refused x.says.0 y.says.0)
  flow_answers_unique (Err (Short v)) (Ok u) x y = absurd (flow_or_lack y.says.0 y.says.1.0.first.flow x.says.1)
  flow_answers_unique (Err (Short v)) (Err (Short v')) x y = (
    ap (λ v. Err (Short v)) (same_value x.says.0 x.says.1 y.says.1),
    same_arcs x.says.0 x.says.1 y.says.1 x.arcs_length y.arcs_length,
    same_nodes x.says.0 x.says.1 y.says.1 x.nodes_length y.nodes_length,
  )
  flow_answers_unique (Err (Short v)) (Err (Refused r)) x y = absurd (accepted_or_refused x.says.0 y.says.0)
  flow_answers_unique (Err (Refused r)) (Ok u) x y = absurd (accepted_or_refused y.says.0 x.says.0)
  flow_answers_unique (Err (Refused r)) (Err (Short v)) x y = absurd (accepted_or_refused y.says.0 x.says.0)
  flow_answers_unique (Err (Refused r)) (Err (Refused r')) x y = (
    cc (x.says.0, y.says.0),
    x.says.1 ∙ sym y.says.1,
    x.says.2 ∙ sym y.says.2,
  )

  -- a well-formed plan with long enough buffers gets number 9 exactly if no flow exists
  module _ (w : WellFormed p) (arcs_long : p.arcs ≤ length arcs) (nodes_long : p.nodes ≤ length nodes) where
    accepted : judged p arcs nodes ≡ Accepted
    accepted = well_formed_judged p w (both_long arcs nodes arcs_long nodes_long)

    pub no_exactly_if_no_flow : {a n : List ℕ} (r : Answer) → FlowAnswers p arcs nodes a n r
        → (number r ≡ 9) ↔ ((f : ℕ → ℕ) → Flow p f → ⊥)
    no_exactly_if_no_flow {a} (Ok u) x = (λ no. absurd (omega arith), λ none. absurd (none (at a) x.says.1.0.first.flow))
    no_exactly_if_no_flow (Err (Short v)) x = (λ no f c. flow_or_lack accepted c x.says.1, λ none. refl)
    no_exactly_if_no_flow (Err (Refused r)) x = absurd (accepted_or_refused accepted x.says.0)

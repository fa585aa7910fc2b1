-- From the plan of a list that was taken apart to the plan of the arcs: they are the same plan, or both have too many arcs, and
-- then the numbers 1 and 2 go by the counts alone.
use Prim.Native.Nat.{ℕ, ◌+◌, ◌*◌, ◌/◌, ◌≤◌, ◌<◌}
use mathlib.Core.Path.{◌≡◌, refl, sym, ap, subst, ◌∙◌}
use mathlib.Core.Bool.{Bool, true, false, cond, ◌||◌}
use mathlib.Core.List.{List}
use native.Mathlib.Nat.{mul-div_cancel}
use native.Mathlib.Omega.{arith}
use lib.Dec.{ltb, eqb}
use lib.IntN.{ℤ}
use lib.ListN.{length, take}
use lib.Seq.{length-take-le}
use borrow.Author.Tests.{lt-ltb, ltb-true, ltb-false}
use Rattle.std.specs.Prelude.{Ok, Err}
use Rattle.plan.specs.declared.Fault.TheVariants.{Nodes, Arcs}
use Rattle.plan.specs.declared.No.TheVariants.{Short, Refused}
use Rattle.plan.specs.Limits.{most_nodes, most_arcs, arc_entries}
use Rattle.plan.specs.Plan.{Plan, plan_of}
use Rattle.plan.specs.Verdict.{verdict, network_rules, lent_short, Verdict, Accepted, Refused as TurnedDown}
use Rattle.flow.specs.Answer.{FlowAnswers}
use Rattle.flow.specs.Answer as flow
use Rattle.narrow.specs.Answer.{NarrowAnswers}
use Rattle.arcs.specs.Taken.{flattened, cut_at, taken_apart, OfArcs}
use Rattle.arcs.specs.declared.Arc.{Arc}
use Rattle.arcs.proofs.Taking.{taken_length}
use Rattle.arcs.proofs.Flat.{flattened_length, taken_flat}
use Rattle.crossing.specs.declared.answer.Answer.{Answer}
use Rattle.crossing.specs.Crossing.{Reading, Crosses}

-- ---- too many arcs

-- 1 or 2, by the node count
abbrev counted : ℕ → Verdict
counted nodes = cond (eqb nodes 0 || ltb most_nodes nodes) (TurnedDown Nodes 0) (TurnedDown Arcs 0)

many_judged : (p : Plan) (short : Bool) → most_arcs < p.arcs → verdict (network_rules p short) ≡ counted p.nodes
many_judged p short many = rw (lt-ltb most_arcs p.arcs many)

counted_refuses : (nodes : ℕ) → counted nodes ≡ Accepted → ⊥
counted_refuses nodes = by (eqb nodes 0 || ltb most_nodes nodes)
  where
    by : (t : Bool) → cond t (TurnedDown Nodes 0) (TurnedDown Arcs 0) ≡ Accepted → ⊥
    by true e = let clash : ◌≡◌ {A = ℕ} 0 1 = cc in omega arith
    by false e = let clash : ◌≡◌ {A = ℕ} 0 1 = cc in omega arith

module _ (p q : Plan) (same : p.nodes ≡ q.nodes) (many : most_arcs < p.arcs) (many' : most_arcs < q.arcs) where
  refused : (short : Bool) → verdict (network_rules p short) ≡ Accepted → ⊥
  refused short e = counted_refuses p.nodes (sym (many_judged p short many) ∙ e)

  alike : (short short' : Bool) {v : Verdict} → verdict (network_rules p short) ≡ v → verdict (network_rules q short') ≡ v
  alike short short' e = many_judged q short' many' ∙ ap counted (sym same) ∙ sym (many_judged p short many) ∙ e

  pub flow_many : {arcs nodes a n : List ℕ} (r : flow.Answer) → FlowAnswers p arcs nodes a n r → FlowAnswers q arcs nodes a n r
  flow_many {arcs} {nodes} (Ok u) x = absurd (refused (lent_short arcs p.arcs nodes p.nodes) x.says.0)
  flow_many {arcs} {nodes} (Err (Short v)) x = absurd (refused (lent_short arcs p.arcs nodes p.nodes) x.says.0)
  flow_many {arcs} {nodes} (Err (Refused r)) x = record {
    says = (
      alike (lent_short arcs p.arcs nodes p.nodes) (lent_short arcs q.arcs nodes q.nodes) x.says.0,
      x.says.1,
      x.says.2,
    );
    arcs_length = x.arcs_length;
    nodes_length = x.nodes_length;
  }

  pub narrow_many : {lows highs l h : List ℕ} (r : flow.Answer) → NarrowAnswers p lows highs l h r → NarrowAnswers q lows highs l h r
  narrow_many {lows} {highs} (Ok u) x = absurd (refused (lent_short lows p.arcs highs p.arcs) x.says.0)
  narrow_many {lows} {highs} (Err (Short v)) x = absurd (refused (lent_short lows p.arcs highs p.arcs) x.says.0)
  narrow_many {lows} {highs} (Err (Refused r)) x = record {
    says = (
      alike (lent_short lows p.arcs highs p.arcs) (lent_short lows q.arcs highs q.arcs) x.says.0,
      x.says.1,
      x.says.2,
    );
    lows_length = x.lows_length;
    highs_length = x.highs_length;
  }

-- ---- any request that goes by the counts alone where there are too many arcs

module _ {A : Type 0} (reading : Reading A) (Answers : Plan → A → Type 0)
    (many_same : (p q : Plan) → p.nodes ≡ q.nodes → most_arcs < p.arcs → most_arcs < q.arcs → (r : A) → Answers p r → Answers q r)
    (flat : List ℕ) (count : ℕ) (supplies : List ℤ) (r : Answer) where
  -- the numbers that are asked about
  abbrev used : List ℕ
  used = take (cut_at count * arc_entries) flat

  abbrev Asked : List ℕ → Type 0
  Asked list = Crosses reading (Answers (plan_of list supplies)) r

  module _ (arcs : List Arc) (l : length arcs ≡ count) (e : flat ≡ taken_apart arcs (cut_at count)) (x : Asked used) where
    few_arcs : ltb most_arcs count ≡ false → Asked (flattened arcs)
    few_arcs few = subst Asked (ap (take (cut_at count * arc_entries)) e ∙ ap (λ c. take (c * arc_entries) (taken_apart arcs c)) (whole ∙ sym l) ∙ taken_flat arcs all) x
      where
        whole : cut_at count ≡ count
        whole = rw few

        all : length arcs ≤ most_arcs + 1
        all = omega (arith, ltb-false most_arcs count few)

    many_arcs : ltb most_arcs count ≡ true → Asked (flattened arcs)
    many_arcs many = record {
      answer = x.answer;
      answers = many_same (plan_of used supplies) (plan_of (flattened arcs) supplies) refl (omega (arith, used_arcs)) (omega (arith, all_arcs, ltb-true most_arcs count many)) x.answer x.answers;
      crossed_is = x.crossed_is;
    }
      where
        cut : cut_at count ≡ most_arcs + 1
        cut = rw many

        used_arcs : length used / arc_entries ≡ most_arcs + 1
        used_arcs = ap (λ m. m / arc_entries) (length-take-le (cut_at count * arc_entries) flat (omega (arith, cut, ap length e, taken_length arcs (cut_at count)))) ∙ mul-div_cancel (cut_at count) (omega arith) ∙ cut

        all_arcs : length (flattened arcs) / arc_entries ≡ count
        all_arcs = ap (λ m. m / arc_entries) (flattened_length arcs) ∙ mul-div_cancel (length arcs) (omega arith) ∙ l

  pub of_arcs : Asked used → OfArcs flat count Asked
  of_arcs x = record { of_arcs = λ arcs l e. by arcs l e (ltb most_arcs count) refl }
    where
      by : (arcs : List Arc) → length arcs ≡ count → flat ≡ taken_apart arcs (cut_at count) → (t : Bool) → ltb most_arcs count ≡ t → Asked (flattened arcs)
      by arcs l e false few = few_arcs arcs l e x few
      by arcs l e true many = many_arcs arcs l e x many

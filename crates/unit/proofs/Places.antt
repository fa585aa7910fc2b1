-- The place of a refusal is small: the rules look at few places each, or one before them turns the input down.
use Prim.Native.Nat.{ℕ, zero, suc, ◌+◌, ◌≤◌, ◌<◌}
use mathlib.Core.Path.{◌≡◌, refl}
use mathlib.Core.Bool.{Bool, true, false, cond}
use mathlib.Core.List.{List, [], ◌∷◌, ◌++◌}
use mathlib.Core.Logic.{⊎_elim}
use native.Mathlib.Omega.{arith}
use native.Mathlib.Nat.{eq-or-lt_of_le, le_of_suc-le-suc}
use lib.Dec.{leb, ltb, eqb}
use lib.IntN.{ℤ}
use lib.ListN.{length}
use borrow.Author.Tests.{ltb-false}
use Rattle.std.specs.Prelude.{Ok, Err, None, Some}
use Rattle.plan.specs.declared.Fault.{Fault}
use Rattle.plan.specs.declared.Fault.TheVariants.{Buffer, Missing}
use Rattle.plan.specs.declared.No.TheVariants.{Short, Refused}
use Rattle.plan.specs.declared.Refusal.{Refusal}
use Rattle.plan.specs.Limits.{most_nodes, most_arcs}
use Rattle.plan.specs.Plan.{Plan}
use Rattle.plan.specs.Verdict.{Rule, lowest, verdict, verdict_place, whole, network_rules, asking_rules, lent_short, lists_short, Verdict, Refused as TurnedDown}
use Rattle.plan.proofs.Refusals.{None as Unconcerned, neither}
use Rattle.flow.specs.Answer as flow
use Rattle.flow.specs.Answer.{FlowAnswers}
use Rattle.narrow.specs.Answer.{NarrowAnswers}
use Rattle.reason.specs.Answer as reason
use Rattle.reason.specs.Answer.{ReasonAnswers}
use Rattle.held.specs.Answer as held
use Rattle.held.specs.Answer.{HeldAnswers}
use Rattle.held.specs.declared.Unheld.TheVariants as held-variants
use Rattle.counting.specs.Counting.{Counting, counting_of}
use Rattle.counting.specs.Network.{network}
use Rattle.counting.specs.Rules.{counting_rules}
use Rattle.count.specs.Answer.{Buffers, CountAnswers, NetworkAnswers, buffers_short, counting_verdict}

-- a verdict's place, if it has one, is below the most arcs that a plan can have
abbrev pub Small : Verdict → Type 0
Small (Ok u) = Unit {0}
Small (Err refusal) = refusal.place < most_arcs

-- each rule looks at few places, as far as none of the rules before it turns the input down
abbrev pub Few : List Rule → Type 0
Few [] = Unit {0}
Few (r ∷ rules) = (r.places ≤ most_arcs) × (Unconcerned r.concerns r.places → Few rules)

-- one rule: it gives one of its places, or what comes after where it concerns none
module _ (fault : Fault) (concerns : ℕ → Bool) where
  pub lowest_small : (n : ℕ) (after : Verdict) → n ≤ most_arcs → (Unconcerned concerns n → Small after) → Small (lowest fault concerns n after)
  lowest_small zero after few small = small (λ i l. absurd (omega arith))
  lowest_small (suc n) after few small =
      lowest_small n (cond (concerns n) (TurnedDown fault n) after) (omega arith) (λ none. picked (concerns n) (λ e. small (one_more none e)))
    where
      one_more : Unconcerned concerns n → concerns n ≡ false → Unconcerned concerns (suc n)
      one_more none e i l = ⊎_elim (λ e'. rw e' e) (none i) (eq-or-lt_of_le (le_of_suc-le-suc l))

      picked : (t : Bool) → (t ≡ false → Small after) → Small (cond t (TurnedDown fault n) after)
      picked true s = omega arith
      picked false s = s refl

pub verdict_small : (rules : List Rule) → Few rules → Small (verdict rules)
verdict_small [] few = tt
verdict_small (r ∷ rules) few =
    lowest_small r.fault r.concerns r.places (verdict rules) few.0 (λ none. verdict_small rules (few.1 none))

-- the rules of a network look at its arcs and nodes only where 1 and 2 found few of them
pub network_few : (p : Plan) (short : Bool) (more : List Rule) → Few more → Few (network_rules p short ++ more)
network_few p short more few = (
  omega arith,
  λ nodes. (
    omega arith,
    λ arcs.
        let few_nodes = ltb-false most_nodes p.nodes (neither (eqb p.nodes 0) (ltb most_nodes p.nodes) (nodes 0 (omega arith))).1 in
        let few_arcs = ltb-false most_arcs p.arcs (arcs 0 (omega arith)) in
        (omega arith, λ _. (few_arcs, λ _. (few_arcs, λ _. (omega arith, λ _. (omega arith, λ _. few))))),
  ),
)

pub network_small : (p : Plan) (short : Bool) → Small (verdict (network_rules p short))
network_small p short = verdict_small (network_rules p short) (network_few p short [] tt)

pub asking_small : (p : Plan) (short missing : Bool) → Small (verdict (asking_rules p short missing))
asking_small p short missing =
    verdict_small (asking_rules p short missing) (network_few p short (whole Missing missing ∷ []) (omega arith, λ _. tt))

-- the rules of a counting plan look at its variables and values only where 15 found few of them
pub counting_small : (domains : List ℕ) (c : Counting) (short : Bool) → Small (counting_verdict domains c short)
counting_small domains c short = verdict_small (counting_rules domains c ++ (whole Buffer short ∷ [])) (
  omega arith,
  λ nodes.
      let few_nodes = ltb-false most_nodes (c.variables + c.values + 1) (nodes 0 (omega arith)) in
      (omega arith, λ _. (omega arith, λ _. (omega arith, λ _. (omega arith, λ _. tt)))),
)

-- ---- so the place of each request's answer is small

pub small_place : {v : Verdict} {r : Refusal} → Small v → v ≡ Err r → r.place < most_arcs
small_place small e = rw e at small

pub flow_place : {p : Plan} {arcs nodes a n : List ℕ} (r : flow.Answer) → FlowAnswers p arcs nodes a n r → flow.place r < most_arcs
flow_place (Ok u) x = omega arith
flow_place (Err (Short v)) x = omega arith
flow_place {p} {arcs} {nodes} (Err (Refused r)) x =
    small_place (network_small p (lent_short arcs p.arcs nodes p.nodes)) x.says.0

pub narrow_place : {p : Plan} {lows highs l h : List ℕ} (r : flow.Answer) → NarrowAnswers p lows highs l h r → flow.place r < most_arcs
narrow_place (Ok u) x = omega arith
narrow_place (Err (Short v)) x = omega arith
narrow_place {p} {lows} {highs} (Err (Refused r)) x =
    small_place (network_small p (lent_short lows p.arcs highs p.arcs)) x.says.0

pub reason_place : {p : Plan} {arc end : ℕ} {arcs nodes a n : List ℕ} (r : reason.Answer)
    → ReasonAnswers p arc end arcs nodes a n r → reason.place r < most_arcs
reason_place (Ok None) x = omega arith
reason_place (Ok (Some v)) x = omega arith
reason_place (Err (Short v)) x = omega arith
reason_place {p} {arc} {end} {arcs} {nodes} (Err (Refused r)) x =
    small_place (asking_small p (lent_short arcs p.arcs nodes p.nodes) (reason.missing p arc end)) x.says.0

pub held_place : {p : Plan} {arc count : ℕ} {arcs a : List ℕ} (r : held.Answer)
    → HeldAnswers p arc count arcs a r → held.place r < most_arcs
held_place (Ok u) x = omega arith
held_place (Err (held-variants.Short v)) x = omega arith
held_place (Err held-variants.Outside) x = omega arith
held_place {p} {arc} {arcs = arcs} (Err (held-variants.Refused r)) x =
    small_place (asking_small p (ltb (length arcs) p.arcs) (leb p.arcs arc)) x.says.0

pub count_place : {domains counts : List ℕ} {b b' : Buffers} (r : flow.Answer)
    → CountAnswers domains counts b b' r → flow.place r < most_arcs
count_place (Ok u) x = omega arith
count_place (Err (Short v)) x = omega arith
count_place {domains} {counts} {b} (Err (Refused r)) x =
    small_place (counting_small domains (counting_of domains counts) (buffers_short (counting_of domains counts) b)) x.says.0

pub count_network_place : {domains counts : List ℕ} {supplies s : List ℤ} {arcs a : List ℕ} (r : Verdict)
    → NetworkAnswers domains counts supplies arcs s a r → verdict_place r < most_arcs
count_network_place (Ok u) x = omega arith
count_network_place {domains} {counts} {supplies} {s} {arcs} (Err r) x =
    small_place (counting_small domains (counting_of domains counts) (lists_short (network (counting_of domains counts)) supplies arcs)) x.answer_is

-- The rules of a counting plan, each given way to by those before it; and what acceptance says: its network is well-formed.
use Prim.Native.Nat.{ℕ, ◌+◌, ◌*◌, ◌≤◌, ◌<◌}
use mathlib.Core.Path.{◌≡◌, sym, ◌∙◌}
use mathlib.Core.Bool.{false}
use mathlib.Core.List.{List, [], ◌∷◌}
use native.Mathlib.Omega.{arith}
use lib.Dec.{ltb}
use borrow.Author.Tests.{lt-ltb, le-ltb, ltb-false}
use Rattle.plan.specs.Limits.{most_nodes, most_arcs, widest_high}
use Rattle.plan.specs.Plan.{WellFormed}
use Rattle.std.specs.Prelude.{Ok, Err}
use Rattle.plan.specs.declared.Fault.TheVariants.{CountNodes, CountDomain, CountArcs, CountRange}
use Rattle.plan.specs.declared.Refusal.{Refusal}
use Rattle.plan.specs.Verdict.{Rule, whole, lowest, verdict, Accepted, Refused}
use Rattle.plan.proofs.Refusals.{rule_refuses, rule_passes, Clear, accepted_clear, neither}
use Rattle.counting.specs.Counting.{Counting}
use Rattle.counting.specs.Network.{network}
use Rattle.counting.specs.Rules.{names_beyond, count_wrong, counting_rules}
use Rattle.counting.proofs.Counted.{network_well_formed}

module _ (domains : List ℕ) (c : Counting) where
  abbrev beyond : Rule
  beyond = record { fault = CountDomain; places = c.variables; concerns = names_beyond domains c.values }

  abbrev arcs : Rule
  arcs = whole CountArcs (ltb most_arcs (c.values * (c.variables + 1)))

  abbrev ranges : Rule
  ranges = record { fault = CountRange; places = c.values; concerns = count_wrong c }

  pub too_many_nodes : most_nodes ≤ c.variables + c.values → Refused CountNodes 0 ≡ verdict (counting_rules domains c)
  too_many_nodes many = rw (lt-ltb most_nodes (c.variables + c.values + 1) (omega arith))

  module _ (few : c.variables + c.values < most_nodes) where
    past_nodes : verdict (counting_rules domains c) ≡ verdict (beyond ∷ arcs ∷ ranges ∷ [])
    past_nodes = rw (le-ltb most_nodes (c.variables + c.values + 1) (omega arith))

    pub value_beyond : {r : Refusal} → Err r ≡ lowest CountDomain (names_beyond domains c.values) c.variables Accepted
        → Err r ≡ verdict (counting_rules domains c)
    value_beyond is = rule_refuses beyond (arcs ∷ ranges ∷ []) is ∙ sym past_nodes

    module _ (u : Unit {0}) (none : Ok u ≡ lowest CountDomain (names_beyond domains c.values) c.variables Accepted) where
      past_names : verdict (counting_rules domains c) ≡ verdict (arcs ∷ ranges ∷ [])
      past_names = past_nodes ∙ rule_passes beyond (arcs ∷ ranges ∷ []) u none

      pub too_many_arcs : most_arcs < c.values * (c.variables + 1) → Refused CountArcs 0 ≡ verdict (counting_rules domains c)
      too_many_arcs many = sym (past_names ∙ rw (lt-ltb most_arcs (c.values * (c.variables + 1)) many))

      pub ranges_decide : c.values * (c.variables + 1) ≤ most_arcs → lowest CountRange (count_wrong c) c.values Accepted ≡ verdict (counting_rules domains c)
      ranges_decide few_arcs = sym (past_names ∙ rw (le-ltb most_arcs (c.values * (c.variables + 1)) few_arcs))

  pub accepted_network : verdict (counting_rules domains c) ≡ Accepted → WellFormed (network c)
  accepted_network e =
      network_well_formed c
      (ltb-false most_nodes (c.variables + c.values + 1) (rules.0 0 (omega arith)))
      (ltb-false most_arcs (c.values * (c.variables + 1)) (rules.1.1.0 0 (omega arith)))
      (λ j l. ltb-false (c.high j) (c.low j) (range j l).0)
      (λ j l. ltb-false widest_high (c.high j) (range j l).1)
    where
      rules : Clear (counting_rules domains c)
      rules = accepted_clear (counting_rules domains c) e

      range : (j : ℕ) → j < c.values → (ltb (c.high j) (c.low j) ≡ false) × (ltb widest_high (c.high j) ≡ false)
      range j l = neither (ltb (c.high j) (c.low j)) (ltb widest_high (c.high j)) (rules.1.1.1.0 j l)

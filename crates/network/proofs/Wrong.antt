-- From what the code sees, rule after rule, to the verdict on a network.
use Prim.Native.Nat.{ℕ, ◌≤◌, ◌<◌}
use mathlib.Core.Path.{◌≡◌, sym, ◌∙◌}
use mathlib.Core.Bool.{Bool, true, false}
use mathlib.Core.List.{List, [], ◌∷◌}
use lib.Dec.{ltb, eqb}
use lib.IntN.{pos, nat_abs}
use borrow.Author.Tests.{ltb-false, ne_eqb}
use Rattle.std.specs.Prelude.{Ok, Err}
use Rattle.plan.specs.Limits.{most_nodes, most_supply}
use Rattle.plan.specs.Plan.{Plan}
use Rattle.plan.specs.declared.Fault.TheVariants.{ArcEnd, ArcRange, Supply, SupplySum, Buffer}
use Rattle.plan.specs.declared.Refusal.{Refusal}
use Rattle.plan.specs.Verdict.{Verdict, Accepted, Refused, Rule, lowest, end_wrong, range_wrong, supply_wrong, sum_wrong, verdict, whole, count_rules, limit_rules, network_rules}
use Rattle.plan.proofs.Refusals.{before_refused, before_accepted, rule_refuses, rule_passes, accepted_clear, neither, size_zero}
use Rattle.numbers.specs.Sums.{sumℤ}
use native.Mathlib.Omega.{arith}

-- ---- 3 after the counts

module _ (p : Plan) (short : Bool) {v : Verdict} (counts : v ≡ verdict (count_rules p)) where
  pub counts_turn_down : {r : Refusal} → v ≡ Err r → Err r ≡ verdict (network_rules p short)
  counts_turn_down = before_refused (count_rules p) (whole Buffer short ∷ limit_rules p) counts

  module _ (passed : v ≡ Accepted) where
    after_counts : verdict (network_rules p short) ≡ verdict (whole Buffer short ∷ limit_rules p)
    after_counts = before_accepted (count_rules p) (whole Buffer short ∷ limit_rules p) counts passed

    pub short_turns_down : short ≡ true → Refused Buffer 0 ≡ verdict (network_rules p short)
    short_turns_down is = sym (after_counts ∙ rw is)

    pub limits_decide : short ≡ false → verdict (limit_rules p) ≡ verdict (network_rules p short)
    limits_decide is = sym (after_counts ∙ rw is)

    pub few_nodes : p.nodes ≤ most_nodes
    few_nodes = ltb-false most_nodes p.nodes
        (neither (eqb p.nodes 0) (ltb most_nodes p.nodes) ((accepted_clear (count_rules p) (sym counts ∙ passed)).0 0 (omega arith))).1

-- ---- the limits, each rule given way to by those before it

module _ (p : Plan) where
  abbrev ends : Rule
  ends = record { fault = ArcEnd; places = p.arcs; concerns = end_wrong p }

  abbrev ranges : Rule
  ranges = record { fault = ArcRange; places = p.arcs; concerns = range_wrong p }

  abbrev supplies : Rule
  supplies = record { fault = Supply; places = p.nodes; concerns = supply_wrong p }

  abbrev sums : List Rule
  sums = whole SupplySum (sum_wrong p) ∷ []

  pub end_refused : {r : Refusal} → Err r ≡ lowest ArcEnd (end_wrong p) p.arcs Accepted → Err r ≡ verdict (limit_rules p)
  end_refused = rule_refuses ends (ranges ∷ supplies ∷ sums)

  module _ (e : Unit {0}) (no_end : Ok e ≡ lowest ArcEnd (end_wrong p) p.arcs Accepted) where
    past_ends : verdict (limit_rules p) ≡ verdict (ranges ∷ supplies ∷ sums)
    past_ends = rule_passes ends (ranges ∷ supplies ∷ sums) e no_end

    pub range_refused : {r : Refusal} → Err r ≡ lowest ArcRange (range_wrong p) p.arcs Accepted → Err r ≡ verdict (limit_rules p)
    range_refused is = rule_refuses ranges (supplies ∷ sums) is ∙ sym past_ends

    module _ (r : Unit {0}) (no_range : Ok r ≡ lowest ArcRange (range_wrong p) p.arcs Accepted) where
      past_ranges : verdict (limit_rules p) ≡ verdict (supplies ∷ sums)
      past_ranges = past_ends ∙ rule_passes ranges (supplies ∷ sums) r no_range

      pub supply_refused : {x : Refusal} → Err x ≡ lowest Supply (supply_wrong p) p.nodes Accepted → Err x ≡ verdict (limit_rules p)
      supply_refused is = rule_refuses supplies sums is ∙ sym past_ranges

      module _ (s : Unit {0}) (no_supply : Ok s ≡ lowest Supply (supply_wrong p) p.nodes Accepted) where
        past_supplies : verdict (limit_rules p) ≡ verdict sums
        past_supplies = past_ranges ∙ rule_passes supplies sums s no_supply

        pub supplies_small : (v : ℕ) → v < p.nodes → nat_abs (p.supply v) ≤ most_supply
        supplies_small v l = ltb-false most_supply (nat_abs (p.supply v)) ((accepted_clear (supplies ∷ []) (sym no_supply)).0 v l)

        pub sum_passes : sumℤ p.nodes p.supply ≡ pos 0 → Accepted ≡ verdict (limit_rules p)
        sum_passes zero = sym (past_supplies ∙ rw zero)

        pub sum_refused : (sumℤ p.nodes p.supply ≡ pos 0 → ⊥) → Refused SupplySum 0 ≡ verdict (limit_rules p)
        sum_refused other = sym (past_supplies ∙ rw (ne_eqb (nat_abs (sumℤ p.nodes p.supply)) 0 (λ e. other (size_zero _ e))))

-- A verdict accepts exactly if no rule concerns any of its places; for the rules of a network that is to be well-formed.
-- `lowest_none` and `lowest_found` say what one rule gives: nothing, or its fault with the lowest place concerned.
use Prim.Native.Nat.{ℕ, zero, suc, ◌≤◌, ◌<◌}
use mathlib.Core.Path.{◌≡◌, refl, ap, sym, ◌∙◌}
use mathlib.Core.Bool.{Bool, true, false, cond, ◌||◌, true≢false}
use mathlib.Core.List.{List, [], ◌∷◌, ◌++◌}
use mathlib.Core.Logic.{⊎_elim}
use Rattle.std.specs.Prelude.{Ok, Err}
use native.Mathlib.Omega.{arith}
use native.Mathlib.Nat.{eq-or-lt_of_le, le_of_suc-le-suc}
use lib.Dec.{leb, ltb, eqb}
use lib.IntN.{ℤ, pos, negsuc, nat_abs}
use borrow.Author.Tests.{eqb-true, eqb-false, ltb-false, leb-false, ne_eqb, le-ltb, lt-leb, not-false}
use Rattle.numbers.specs.Sums.{sumℤ}
use Rattle.plan.specs.Limits.{most_nodes, most_arcs, most_supply, widest_high}
use Rattle.plan.specs.Plan.{Plan, WellFormed}
use Rattle.plan.specs.declared.Fault.{Fault}
use Rattle.plan.specs.declared.Fault.TheVariants.{Nodes, Arcs, Buffer, ArcEnd, ArcRange, Supply, SupplySum, Missing, FileLength, FileCheck, FileLabel, FileContent, CountNodes, CountDomain, CountArcs, CountRange}
use Rattle.plan.specs.declared.Refusal.{Refusal}
use Rattle.plan.specs.Verdict.{number_of, Rule, Lowest, lowest, verdict, whole, limit_rules, network_rules, Verdict, Accepted, Refused}

-- a verdict does not both accept and turn down
pub accepted_or_refused : {v : Verdict} {r : Refusal} → v ≡ Accepted → v ≡ Err r → ⊥
accepted_or_refused e f = let clash : ◌≡◌ {A = ℕ} 0 1 = cc in omega arith

-- no fault has the number 0
pub some_number : (f : Fault) → 0 < number_of f
some_number Nodes = omega arith
some_number Arcs = omega arith
some_number Buffer = omega arith
some_number ArcEnd = omega arith
some_number ArcRange = omega arith
some_number Supply = omega arith
some_number SupplySum = omega arith
some_number Missing = omega arith
some_number FileLength = omega arith
some_number FileCheck = omega arith
some_number FileLabel = omega arith
some_number FileContent = omega arith
some_number CountNodes = omega arith
some_number CountDomain = omega arith
some_number CountArcs = omega arith
some_number CountRange = omega arith

-- none of the first n places is concerned
abbrev pub None : (ℕ → Bool) → ℕ → Type 0
None concerns n = (i : ℕ) → i < n → concerns i ≡ false

module _ (fault : Fault) (concerns : ℕ → Bool) where
  -- a rule that concerns none of its places gives way to what comes after
  pub lowest_none : (n : ℕ) (after : Verdict) → None concerns n → lowest fault concerns n after ≡ after
  lowest_none zero after none = refl
  lowest_none (suc n) after none =
      rw (none n (omega arith)) (lowest_none n after (λ i l. none i (omega arith)))

  -- a rule that concerns the place i, and none before it, gives its fault with i
  pub lowest_found : (n : ℕ) (after : Verdict) (i : ℕ) → i < n → concerns i ≡ true → None concerns i
      → lowest fault concerns n after ≡ Refused fault i
  lowest_found zero after i l here none = absurd (omega arith)
  lowest_found (suc n) after i l here none = ⊎_elim
      (λ e. rw (← e, here) (lowest_none i (Refused fault i) none))
      (λ l'. lowest_found n (cond (concerns n) (Refused fault n) after) i l' here none)
      (eq-or-lt_of_le (le_of_suc-le-suc l))

  -- where the outcome is `Accepted`, the rule concerns none of its places, and what comes after is `Accepted`
  lowest_accepted : (n : ℕ) (after : Verdict) → lowest fault concerns n after ≡ Accepted
      → None concerns n × (after ≡ Accepted)
  lowest_accepted zero after e = (λ i l. absurd (omega arith), e)
  lowest_accepted (suc n) after e = last (lowest_accepted n (cond (concerns n) (Refused fault n) after) e)
    where
      passed : (t : Bool) → cond t (Refused fault n) after ≡ Accepted → (t ≡ false) × (after ≡ Accepted)
      passed true e' = let clash : ◌≡◌ {A = ℕ} 0 1 = cc in absurd (omega arith)
      passed false e' = (refl, e')

      last : None concerns n × (cond (concerns n) (Refused fault n) after ≡ Accepted)
          → None concerns (suc n) × (after ≡ Accepted)
      last h = (
        λ i l. ⊎_elim (λ e'. ap concerns e' ∙ (passed (concerns n) h.1).0) (h.0 i) (eq-or-lt_of_le (le_of_suc-le-suc l)),
        (passed (concerns n) h.1).1,
      )

  -- the two at once, for an index that is the lowest place concerned or the number of places
  pub lowest_at : (n i : ℕ) (after : Verdict) → Lowest concerns n i → i < n → Refused fault i ≡ lowest fault concerns n after
  lowest_at n i after h l = sym (lowest_found n after i l (h.there l) h.before)

  pub lowest_past : (n i : ℕ) (after : Verdict) → Lowest concerns n i → n ≤ i → lowest fault concerns n after ≡ after
  lowest_past n i after h l = lowest_none n after (λ j lj. h.before j (omega arith))

-- no rule of the list concerns any of its places
abbrev pub Clear : List Rule → Type 0
Clear [] = Unit {0}
Clear (r ∷ rules) = None r.concerns r.places × Clear rules

pub accepted_clear : (rules : List Rule) → verdict rules ≡ Accepted → Clear rules
accepted_clear [] e = tt
accepted_clear (r ∷ rules) e =
    let h = lowest_accepted r.fault r.concerns r.places (verdict rules) e in
    (h.0, accepted_clear rules h.1)

pub clear_accepted : (rules : List Rule) → Clear rules → verdict rules ≡ Accepted
clear_accepted [] c = refl
clear_accepted (r ∷ rules) c =
    lowest_none r.fault r.concerns r.places (verdict rules) c.0 ∙ clear_accepted rules c.1

-- two tests of which neither passes
pub neither : (a b : Bool) → (a || b) ≡ false → (a ≡ false) × (b ≡ false)
neither true b e = absurd (true≢false e)
neither false b e = (refl, e)

-- the only signed number of size 0
pub size_zero : (z : ℤ) → nat_abs z ≡ 0 → z ≡ pos 0
size_zero (pos n) e = ap pos e
size_zero (negsuc n) e = absurd (omega arith)

module _ (p : Plan) where
  pub accepted_well_formed : (short : Bool) → verdict (network_rules p short) ≡ Accepted → WellFormed p
  accepted_well_formed short e = record {
    some_node = omega (arith, eqb-false p.nodes 0 count.0);
    nodes_fit = omega (arith, ltb-false, count.1);
    arcs_fit = omega (arith, ltb-false, rules.1.0 0 (omega arith));
    from_node = λ k l. omega (arith, leb-false, (ends k l).0);
    to_node = λ k l. omega (arith, leb-false, (ends k l).1);
    uncrossed = λ k l. omega (arith, ltb-false, (range k l).0);
    high_fits = λ k l. omega (arith, ltb-false, (range k l).1);
    supply_fits = λ v l. omega (arith, ltb-false, limits.1.1.0 v l);
    supplies_even = size_zero (sumℤ p.nodes p.supply) (eqb-true _ 0 (not-false _ (limits.1.1.1.0 0 (omega arith))));
  }
    where
      rules : Clear (network_rules p short)
      rules = accepted_clear (network_rules p short) e

      limits : Clear (limit_rules p)
      limits = rules.1.1.1

      count : (eqb p.nodes 0 ≡ false) × (ltb most_nodes p.nodes ≡ false)
      count = neither (eqb p.nodes 0) (ltb most_nodes p.nodes) (rules.0 0 (omega arith))

      ends : (k : ℕ) → k < p.arcs → (leb p.nodes (p.from k) ≡ false) × (leb p.nodes (p.to k) ≡ false)
      ends k l = neither (leb p.nodes (p.from k)) (leb p.nodes (p.to k)) (limits.0 k l)

      range : (k : ℕ) → k < p.arcs → (ltb (p.high k) (p.low k) ≡ false) × (ltb widest_high (p.high k) ≡ false)
      range k l = neither (ltb (p.high k) (p.low k)) (ltb widest_high (p.high k)) (limits.1.0 k l)

  pub accepted_buffers_fit : (short : Bool) → verdict (network_rules p short) ≡ Accepted → short ≡ false
  accepted_buffers_fit short e = (accepted_clear (network_rules p short) e).1.1.0 0 (omega arith)

  pub well_formed_accepted : WellFormed p → verdict (network_rules p false) ≡ Accepted
  well_formed_accepted w = clear_accepted (network_rules p false) (
    λ i l. rw (ne_eqb p.nodes 0 (λ e. omega arith), le-ltb most_nodes p.nodes w.nodes_fit),
    (
      λ i l. le-ltb most_arcs p.arcs w.arcs_fit,
      (
        λ i l. refl,
        (
          λ k l. rw (lt-leb p.nodes (p.from k) (w.from_node k l), lt-leb p.nodes (p.to k) (w.to_node k l)),
          (
            λ k l. rw (le-ltb (p.high k) (p.low k) (w.uncrossed k l), le-ltb widest_high (p.high k) (w.high_fits k l)),
            (
              λ v l. le-ltb most_supply (nat_abs (p.supply v)) (w.supply_fits v l),
              (
                λ i l. rw w.supplies_even,
                tt,
              ),
            ),
          ),
        ),
      ),
    ),
  )

  -- so the limits alone turn nothing of it down
  pub well_formed_limits : WellFormed p → verdict (limit_rules p) ≡ Accepted
  well_formed_limits w = clear_accepted (limit_rules p) (accepted_clear (network_rules p false) (well_formed_accepted w)).1.1.1

-- ---- one rule more, after all the others

-- what comes after counts only where nothing was turned down before
abbrev pub after : Verdict → Verdict → Verdict
after (Ok u) v = v
after (Err r) v = Err r

lowest_after : (fault : Fault) (concerns : ℕ → Bool) (n : ℕ) (u v : Verdict) → lowest fault concerns n (after u v) ≡ after (lowest fault concerns n u) v
lowest_after fault concerns zero u v = refl
lowest_after fault concerns (suc n) u v =
    ap (lowest fault concerns n) (picked (concerns n)) ∙ lowest_after fault concerns n (cond (concerns n) (Refused fault n) u) v
  where
    picked : (t : Bool) → cond t (Refused fault n) (after u v) ≡ after (cond t (Refused fault n) u) v
    picked true = refl
    picked false = refl

pub verdict_after : (rules more : List Rule) → verdict (rules ++ more) ≡ after (verdict rules) (verdict more)
verdict_after [] more = refl
verdict_after (r ∷ rules) more =
    ap (lowest r.fault r.concerns r.places) (verdict_after rules more)
    ∙ lowest_after r.fault r.concerns r.places (verdict rules) (verdict more)

-- two lists of rules, one after the other
module _ (rules more : List Rule) where
  pub before_refused : {v : Verdict} {r : Refusal} → v ≡ verdict rules → v ≡ Err r → Err r ≡ verdict (rules ++ more)
  before_refused {v} {r} is e = sym (verdict_after rules more ∙ ap (λ u. after u (verdict more)) (sym is ∙ e))

  pub before_accepted : {v : Verdict} → v ≡ verdict rules → v ≡ Accepted → verdict (rules ++ more) ≡ verdict more
  before_accepted {v} is e = verdict_after rules more ∙ ap (λ u. after u (verdict more)) (sym is ∙ e)

  pub both_accepted : verdict (rules ++ more) ≡ Accepted → (verdict rules ≡ Accepted) × (verdict more ≡ Accepted)
  both_accepted e = by (verdict rules) (sym (verdict_after rules more) ∙ e)
    where
      by : (v : Verdict) → after v (verdict more) ≡ Accepted → (v ≡ Accepted) × (verdict more ≡ Accepted)
      by (Ok u) h = (refl, h)
      by (Err r) h = let clash : ◌≡◌ {A = ℕ} 0 1 = cc in absurd (omega arith)

  pub accepted_both : verdict rules ≡ Accepted → verdict more ≡ Accepted → verdict (rules ++ more) ≡ Accepted
  accepted_both first then = verdict_after rules more ∙ rw (first, then)

-- one rule before others
module _ (rule : Rule) (rules : List Rule) where
  pub rule_refuses : {r : Refusal} → Err r ≡ lowest rule.fault rule.concerns rule.places Accepted → Err r ≡ verdict (rule ∷ rules)
  rule_refuses is = before_refused (rule ∷ []) rules is refl

  pub rule_passes : (u : Unit {0}) → Ok u ≡ lowest rule.fault rule.concerns rule.places Accepted → verdict (rule ∷ rules) ≡ verdict rules
  rule_passes u is = before_accepted (rule ∷ []) rules is refl

-- and where the second is one fault of the whole
module _ (rules : List Rule) (fault : Fault) (wrong : Bool) where
  at_last : verdict (rules ++ (whole fault wrong ∷ [])) ≡ after (verdict rules) (cond wrong (Refused fault 0) Accepted)
  at_last = verdict_after rules (whole fault wrong ∷ [])

  pub last_refused : {r : Refusal} → verdict rules ≡ Err r → verdict (rules ++ (whole fault wrong ∷ [])) ≡ Err r
  last_refused e = at_last ∙ ap (λ v. after v (cond wrong (Refused fault 0) Accepted)) e

  module _ (accepted : verdict rules ≡ Accepted) where
    pub last_wrong : wrong ≡ true → verdict (rules ++ (whole fault wrong ∷ [])) ≡ Refused fault 0
    last_wrong e = at_last ∙ rw (accepted, e)

    pub last_passes : wrong ≡ false → verdict (rules ++ (whole fault wrong ∷ [])) ≡ Accepted
    last_passes e = at_last ∙ rw (accepted, e)

  -- where all is accepted, the others accept, and nothing is wrong at last
  pub last_accepted : verdict (rules ++ (whole fault wrong ∷ [])) ≡ Accepted → (verdict rules ≡ Accepted) × (wrong ≡ false)
  last_accepted e = by (verdict rules) wrong (sym at_last ∙ e)
    where
      by : (v : Verdict) (t : Bool) → after v (cond t (Refused fault 0) Accepted) ≡ Accepted → (v ≡ Accepted) × (t ≡ false)
      by (Ok u) true h = let clash : ◌≡◌ {A = ℕ} 0 1 = cc in absurd (omega arith)
      by (Ok u) false h = (refl, refl)
      by (Err r) t h = let clash : ◌≡◌ {A = ℕ} 0 1 = cc in absurd (omega arith)

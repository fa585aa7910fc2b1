-- What is tried: a name that ends in ? computes, and gives a proof where all comes out right, else none.
-- It checks counts that it is given, and tries every node set: for one that no flow passes, and for what is least.
-- It enumerates no flows.
use Prim.Native.Nat.{ℕ, zero, suc, ◌≤◌, ◌<◌}
use mathlib.Core.Path.{◌≡◌, refl, ap, sym, ◌∙◌}
use mathlib.Core.Bool.{true, false, Bool-discrete}
use mathlib.Core.List.{List, [], ◌∷◌}
use mathlib.Core.Logic.Dec
use mathlib.Core.Logic.{⊎_elim}
use mathlib.Core.Option.{Option, none, some, or_else, map, bind as ◌>>=◌}
use native.Mathlib.Omega.{arith}
use native.Mathlib.Decide.{ℕ_discrete, dec_le, dec_lt, map_dec}
use lib.IntN.{ℤ, pos, ◌-ℤ◌}
use Rattle.std.specs.Prelude.{Ok, Err}
use Rattle.numbers.proofs.Parts.{whole, equalℤ, at_mostℤ}
use Rattle.numbers.proofs.Sums.{last_or_before, put_cases}
use Rattle.plan.specs.Plan.{Plan, Set, WellFormed}
use Rattle.plan.specs.Verdict.{verdict, network_rules, Verdict, Accepted}
use Rattle.plan.specs.Flow.{out, into, Flow, FirstFlow, Occurs, Smallest, Largest, held}
use Rattle.plan.specs.Shortage.{shortfall, Inside, Shortage}
use Rattle.plan.specs.Reason.{Separates, forces, allows, ReasonSet, LowReason, HighReason}
use Rattle.plan.proofs.Ends.{flow_has_what_is_forced, flow_keeps_to_what_is_allowed}
use Rattle.plan.proofs.Refusals.{accepted_well_formed}
use Rattle.plan.proofs.Sets.{Agree, some_set?, every_set?, shortfall_same, forces_same, allows_same, separates_same}

-- what is decided
abbrev pub decided? : {P : Type 0} → Dec P → Option P
decided? (yes h) = some h
decided? (no n) = none

-- what is to hold only under a condition
abbrev pub if? : {P Q : Type 0} → Dec P → Option Q → Option (P → Q)
if? (yes h) try = map (λ q h'. q) try
if? (no n) try = some (λ h. absurd (n h))

-- what is to hold at each index below n
abbrev pub each? : {P : ℕ → Type 0} (n : ℕ) → ((k : ℕ) → k < n → Option (P k)) → Option ((k : ℕ) → k < n → P k)
each? zero try = some (λ k l. absurd (omega arith))
each? (suc n) try = do
  before ← each? n (λ k l. try k (omega arith))
  last ← try n (omega arith)
  some (λ k l. ⊎_elim (λ e. rw e last) (before k) (last_or_before l))

-- the one set lies inside the other, and so inside one that agrees with it
abbrev pub inside? : (p : Plan) (S R : Set) → Option (Inside p S R)
inside? p S R = do
  inside ← each? p.nodes (λ v l. if? (Bool-discrete (S v) true) (decided? (Bool-discrete (R v) true)))
  some (record { inside = inside })

pub inside_same : {p : Plan} {S Q R : Set} → Agree p.nodes Q R → Inside p S R → Inside p S Q
inside_same agree h = record { inside = λ v l i. agree v l ∙ h.inside v l i }

-- whether a set separates an arc
abbrev pub separates : (p : Plan) (k : ℕ) (S : Set) → Dec (Separates p k S)
separates p k S = map_dec
    (λ h. record { from_inside = h.0; to_outside = h.1 }) (λ s. (s.from_inside, s.to_outside))
    (Dec.and (Bool-discrete (S (p.from k)) true) (Bool-discrete (S (p.to k)) false))

-- the verdict accepts, so the plan is well-formed
abbrev pub accepts? : (v : Verdict) → Option (v ≡ Accepted)
accepts? (Ok u) = some refl
accepts? (Err refusal) = none

abbrev pub well_formed? : (p : Plan) → Option (WellFormed p)
well_formed? p = map (accepted_well_formed p false) (accepts? (verdict (network_rules p false)))

-- the counts are a flow
abbrev pub flow? : (p : Plan) (f : ℕ → ℕ) → Option (Flow p f)
flow? p f = do
  least ← each? p.arcs (λ k l. decided? (dec_le (p.low k) (f k)))
  most ← each? p.arcs (λ k l. decided? (dec_le (f k) (p.high k)))
  balanced ← each? p.nodes (λ v l. decided? (equalℤ (pos (out p f v) -ℤ pos (into p f v)) (p.supply v)))
  some (record { within = record { least = least; most = most }; balanced = balanced })

-- one of the flows has the count x on the arc k
abbrev pub occurs? : (p : Plan) (k x : ℕ) → (flows : List (ℕ → ℕ)) → Option (Occurs p k x)
occurs? p k x [] = none
occurs? p k x (f ∷ flows) = or_else (occurs? p k x flows) (do
  flow ← flow? p f
  there ← decided? (ℕ_discrete (f k) x)
  some (record { counts = f; flow = flow; there = there }))

module _ (p : Plan) (w : WellFormed p) where
  -- the shortage set, by trying every set
  abbrev pub shortage? : (S : Set) → Option (Shortage p S)
  shortage? S = do
    greatest ← every_set? p.nodes (λ R. decided? (at_mostℤ (shortfall p R) (shortfall p S)))
    least ← every_set? p.nodes (λ R. if? (equalℤ (shortfall p R) (shortfall p S)) (inside? p S R))
    some (record {
      greatest = λ Q. let (R, agree, h) = greatest Q in rw (shortfall_same p w Q R agree) h;
      least = λ Q e. let (R, agree, h) = least Q in inside_same agree (h (sym (shortfall_same p w Q R agree) ∙ e));
    })

  module _ (k : ℕ) (l : k < p.arcs) (x : ℕ) where
    -- no flow has less than x on the arc, or none has more: by the arc's own bound, or by some set
    abbrev pub bound? : {Own Bound : Type 0} {Gives : Set → Type 0} → Dec Own → (Own → Bound) → ((S : Set) → Dec (Gives S))
        → ((S : Set) → Separates p k S → Gives S → Bound) → Option Bound
    bound? own by_own gives by_set = or_else (map by_own (decided? own)) (do
      (S, h) ← some_set? p.nodes (λ S. decided? (Dec.and (separates p k S) (gives S)))
      some (by_set S h.0 h.1))

    abbrev pub no_flow_below? : Option ((g : ℕ → ℕ) → Flow p g → x ≤ g k)
    no_flow_below? = bound?
        (dec_le x (p.low k)) (λ own g c. omega (arith, c.within.least k l))
        (λ S. at_mostℤ (pos x) (forces p k S)) (λ S s h g c. omega (whole, flow_has_what_is_forced p w k l S s g c))

    abbrev pub no_flow_above? : Option ((g : ℕ → ℕ) → Flow p g → g k ≤ x)
    no_flow_above? = bound?
        (dec_le (p.high k) x) (λ own g c. omega (arith, c.within.most k l))
        (λ S. at_mostℤ (allows p k S) (pos x)) (λ S s h g c. omega (whole, flow_keeps_to_what_is_allowed p w k l S s g c))

    -- the smallest count, or the largest: a flow has it, and none passes it
    abbrev pub smallest? : (flows : List (ℕ → ℕ)) → Option (Smallest p k x)
    smallest? flows = do
      occurs ← occurs? p k x flows
      below ← no_flow_below?
      some (record { occurs = occurs; smallest = below })

    abbrev pub largest? : (flows : List (ℕ → ℕ)) → Option (Largest p k x)
    largest? flows = do
      occurs ← occurs? p k x flows
      above ← no_flow_above?
      some (record { occurs = occurs; largest = above })

    -- the set of a reason: it separates the arc and gives x, and is the least that does
    abbrev pub reason_set? : (sum : Set → ℤ) → ((R Q : Set) → Agree p.nodes R Q → sum R ≡ sum Q) → (S : Set)
        → Option (ReasonSet p k sum x S)
    reason_set? sum same S = do
      apart ← decided? (separates p k S)
      gives ← decided? (equalℤ (sum S) (pos x))
      least ← every_set? p.nodes (λ R. if? (separates p k R) (if? (equalℤ (sum R) (pos x)) (inside? p S R)))
      some (record {
        separates = apart;
        gives = gives;
        least = λ Q s e.
            let (R, agree, h) = least Q in
            inside_same agree (h (separates_same p w Q R agree k l s) (sym (same Q R agree) ∙ e));
      })

    -- the reason for a moved end
    abbrev pub low_reason? : Smallest p k x → (S : Set) → Option (LowReason p k x S)
    low_reason? smallest S = do
      over ← decided? (dec_lt (p.low k) x)
      set ← reason_set? (forces p k) (λ R Q agree. forces_same p w R Q agree k) S
      some (record { narrowed = smallest; moved = over; set = set })

    abbrev pub high_reason? : Largest p k x → (S : Set) → Option (HighReason p k x S)
    high_reason? largest S = do
      under ← decided? (dec_lt x (p.high k))
      set ← reason_set? (allows p k) (λ R Q agree. allows_same p w R Q agree k) S
      some (record { narrowed = largest; moved = under; set = set })

-- the plan with the arcs before i held at their counts; it keeps every flow with these counts
abbrev pub held_before : Plan → (ℕ → ℕ) → ℕ → Plan
held_before p f zero = p
held_before p f (suc i) = held (held_before p f i) i (f i)

flow_held : {p : Plan} {g : ℕ → ℕ} (k x : ℕ) → g k ≡ x → Flow p g → Flow (held p k x) g
flow_held {p} {g} k x e c = record {
  within = record {
    least = λ j l. put_cases (λ y. y ≤ g j) p.low k x j (λ same. omega (arith, ap g same)) (λ other. c.within.least j l);
    most = λ j l. put_cases (λ y. g j ≤ y) p.high k x j (λ same. omega (arith, ap g same)) (λ other. c.within.most j l);
  };
  balanced = c.balanced;
}

pub flow_held_before : {p : Plan} {f g : ℕ → ℕ} (i : ℕ) → ((j : ℕ) → j < i → g j ≡ f j) → Flow p g → Flow (held_before p f i) g
flow_held_before zero same c = c
flow_held_before {f} (suc i) same c =
    flow_held i (f i) (same i (omega arith)) (flow_held_before i (λ j l. same j (omega arith)) c)

-- the first flow: with the arcs before it held, no flow has less on an arc
abbrev pub first_flow? : (p : Plan) (f : ℕ → ℕ) → Option (FirstFlow p f)
first_flow? p f = do
  flow ← flow? p f
  least ← each? p.arcs (λ i l. do
    w ← well_formed? (held_before p f i)
    exists ← decided? (dec_lt i (held_before p f i).arcs)
    no_flow_below? (held_before p f i) w i exists (f i))
  some (record { flow = flow; first = λ g c i l same. least i l g (flow_held_before i same c) })

-- The first flow, arc by arc. The arcs before i are held at the counts written so far, each the smallest that it had in its turn;
-- one count more changes no plan before it, and makes the next.
use Prim.Native.Nat.{ℕ, suc, ◌+◌, ◌/◌, ◌≤◌, ◌<◌}
use mathlib.Core.Path.{◌≡◌, refl, sym, ap₂, subst, ◌∙◌}
use mathlib.Core.Bool.{Bool, true, false, cond}
use mathlib.Core.List.{List}
use mathlib.Core.Logic.{⊎_elim}
use native.Mathlib.Omega.{arith}
use native.Mathlib.Numerals.{add-one}
use lib.Dec.{ltb}
use lib.IntN.{ℤ}
use lib.ListN.{length, set}
use lib.Seq.{get_or-set_same, get_or-set_other}
use borrow.Author.Tests.{le-ltb, ltb-true}
use Rattle.numbers.specs.Sums.{put}
use Rattle.numbers.proofs.Sums.{last_or_before, put_elsewhere}
use Rattle.rooms.specs.Room.{at}
use Rattle.plan.specs.Limits.{arc_entries}
use Rattle.plan.specs.Plan.{Plan, WellFormed, plan_of}
use Rattle.plan.specs.Flow.{FirstFlow, Smallest, held, limited, fixed}
use Rattle.plan.proofs.First.{fixed_well_formed, fixed_start_plan, fixed_next_plan, first_flow_by_arcs}
use Rattle.stand.specs.State.{Ready}
use Rattle.one_arc.specs.Standing.{Standing, Possible}
use Rattle.first_flow.specs.Fixing.{Listed, Fixing}
use Rattle.stand.proofs.Standing.{ready_flow}

pub smallest_possible : {p : Plan} {k count : ℕ} → k < p.arcs → Smallest p k count → Possible p k count
smallest_possible {p} {k} l s = record {
  least = omega (arith, s.occurs.flow.within.least k l, s.occurs.there);
  most = omega (arith, s.occurs.flow.within.most k l, s.occurs.there);
  occurs = s.occurs;
}

-- an arc that is not yet held has its own range
module _ (p : Plan) (f : ℕ → ℕ) (i : ℕ) where
  own_low : (fixed p f i).low i ≡ p.low i
  own_low = rw (le-ltb i i (omega arith))

  own_high : (fixed p f i).high i ≡ p.high i
  own_high = rw (le-ltb i i (omega arith))

-- the plan that is listed where no arc is held, and where one is
pub listed_whole : (arcs : List ℕ) (supplies : List ℤ) (count : ℕ) → Listed arcs supplies (length arcs / arc_entries) count (plan_of arcs supplies)
listed_whole arcs supplies count = record {
  nodes_are = refl;
  arcs_are = refl;
  from_is = λ i l. refl;
  to_is = λ i l. refl;
  low_is = λ i l. sym (put_elsewhere (plan_of arcs supplies).low (length arcs / arc_entries) count i (λ e. omega arith));
  high_is = λ i l. sym (put_elsewhere (plan_of arcs supplies).high (length arcs / arc_entries) count i (λ e. omega arith));
}

pub listed_held : (arcs : List ℕ) (supplies : List ℤ) (k count : ℕ) → Listed arcs supplies k count (held (plan_of arcs supplies) k count)
listed_held arcs supplies k count = record {
  nodes_are = refl;
  arcs_are = refl;
  from_is = λ i l. refl;
  to_is = λ i l. refl;
  low_is = λ i l. refl;
  high_is = λ i l. refl;
}

pub fixing_standing : {arcs : List ℕ} {supplies : List ℤ} {k count i : ℕ} {p : Plan} {f : ℕ → ℕ} {room : ℕ → ℕ → ℕ}
    → i < length arcs / arc_entries → Fixing arcs supplies k count i p f room
    → Standing (fixed p f i) i (length supplies) ((plan_of arcs supplies).from i) ((plan_of arcs supplies).to i)
    (put (plan_of arcs supplies).low k count i) (put (plan_of arcs supplies).high k count i) room
fixing_standing {i = i} {p = p} {f = f} l x =
    let there : i < p.arcs = omega (arith, l, x.listed.arcs_are) in
    record {
      well_formed = x.well_formed;
      arc = there;
      nodes_are = x.listed.nodes_are;
      from_is = x.listed.from_is i there;
      to_is = x.listed.to_is i there;
      low_is = own_low p f i ∙ x.listed.low_is i there;
      high_is = own_high p f i ∙ x.listed.high_is i there;
      ready = x.ready;
    }

-- counts that agree before i hold the same arcs at the same counts
pub fixed_agree : (p : Plan) (f g : ℕ → ℕ) (i : ℕ) → ((j : ℕ) → j < i → f j ≡ g j) → fixed p f i ≡ fixed p g i
fixed_agree p f g i same = λ t. limited p (λ j. both p.low j t) (λ j. both p.high j t)
  where
    both : (bound : ℕ → ℕ) (j : ℕ) → cond (ltb j i) (f j) (bound j) ≡ cond (ltb j i) (g j) (bound j)
    both bound j = by (ltb j i) refl
      where
        by : (t : Bool) → ltb j i ≡ t → cond t (f j) (bound j) ≡ cond t (g j) (bound j)
        by true e = same j (ltb-true j i e)
        by false e = refl

pub record FirstSoFar (p : Plan) (counts₀ counts : List ℕ) (i : ℕ) (room : ℕ → ℕ → ℕ) : Type 0 where
  pub smallest : (j : ℕ) → j < i → Smallest (fixed p (at counts) j) j (at counts j)
  pub ready : Ready (fixed p (at counts) i) room
  pub past : (j : ℕ) → i ≤ j → at counts j ≡ at counts₀ j

pub first_begins : {p : Plan} {counts : List ℕ} {room : ℕ → ℕ → ℕ} → Ready p room
    → FirstSoFar p counts counts 0 room
first_begins {p} {counts} {room} y = record {
  smallest = λ j l. absurd (omega arith);
  ready = subst (λ q. Ready q room) (sym (fixed_start_plan p (at counts))) y;
  past = λ j l. refl;
}

module _ {p : Plan} {counts₀ counts : List ℕ} {i : ℕ} {room : ℕ → ℕ → ℕ} (w : WellFormed p) (l : i ≤ p.arcs)
    (s : FirstSoFar p counts₀ counts i room) where
  -- each count lies in its arc's own range
  within : (j : ℕ) → j < i → Possible (fixed p (at counts) j) j (at counts j)
  within j lj = smallest_possible (omega arith) (s.smallest j lj)

  pub first_well_formed : WellFormed (fixed p (at counts) i)
  first_well_formed = fixed_well_formed p w (at counts) i
      (λ j lj la. omega (arith, (within j lj).least, own_low p (at counts) j))
      (λ j lj la. omega (arith, (within j lj).most, own_high p (at counts) j))

  module _ {room' : ℕ → ℕ → ℕ} (r : ℕ) (fits : i < length counts)
      (found : Smallest (fixed p (at counts) i) i r) (y : Ready (held (fixed p (at counts) i) i r) room') where
    abbrev more : List ℕ
    more = set counts i r

    before : (j : ℕ) → j < i → at counts j ≡ at more j
    before j lj = sym (get_or-set_other counts i j r 0 (λ e. omega arith))

    here : at more i ≡ r
    here = get_or-set_same counts i r 0 fits

    same_plan : (j : ℕ) → j ≤ i → fixed p (at counts) j ≡ fixed p (at more) j
    same_plan j lj = fixed_agree p (at counts) (at more) j (λ m lm. before m (omega arith))

    each : (j : ℕ) → j < suc i → Smallest (fixed p (at more) j) j (at more j)
    each j lj = ⊎_elim
        (λ e. rw e (rw (← (same_plan i (omega arith)), here) found))
        (λ lj'. rw (← (same_plan j (omega arith)), ← (before j lj')) (s.smallest j lj'))
        (last_or_before lj)

    next : fixed p (at more) (suc i) ≡ held (fixed p (at counts) i) i r
    next = sym (fixed_next_plan p (at more) i) ∙ ap₂ (λ q c. held q i c) (sym (same_plan i (omega arith))) here

    pub first_goes_on : FirstSoFar p counts₀ more (i + 1) room'
    first_goes_on = record {
      smallest = λ j lj. each j (omega arith);
      ready = rw (add-one i, next) y;
      past = λ j lj. get_or-set_other counts i j r 0 (λ e. omega arith) ∙ s.past j (omega arith);
    }

pub first_ends : {p : Plan} {counts₀ counts : List ℕ} {i : ℕ} {room : ℕ → ℕ → ℕ} → WellFormed p → i ≡ p.arcs
    → FirstSoFar p counts₀ counts i room → FirstFlow p (at counts)
first_ends {p} {counts₀} {counts} {i} {room} w all s =
    let done : FirstSoFar p counts₀ counts p.arcs room = subst (λ m. FirstSoFar p counts₀ counts m room) all s in
    let flows = ready_flow (first_well_formed w (omega arith) done) done.ready in
    first_flow_by_arcs p (at counts) done.smallest flows.0 flows.1

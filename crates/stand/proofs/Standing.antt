-- How a plan stands in the engine's numbers, from one state to the next: in balance the room that leads out of a set is what its
-- shortfall is below 0, so the least room across is the room that an arc's count has; and an arc whose share is taken out is held.
use Prim.Native.Nat.{ℕ, ◌+◌, ◌-◌, ◌<◌}
use mathlib.Core.Path.{◌≡◌, sym, ◌∙◌}
use mathlib.Core.Bool.{Bool, true, false, cond, false≢true}
use mathlib.Core.List.{List}
use mathlib.Core.Logic.{◌⊎◌, inl, inr, by_cases}
use native.Mathlib.Omega.{arith}
use native.Mathlib.Decide.{dec_lt}
use lib.IntN.{ℤ, pos, ◌+ℤ◌}
use lib.Signed.{◌≤ℤ◌}
use Rattle.numbers.specs.Sums.{sum, sum_in}
use Rattle.numbers.proofs.Parts.{whole, add}
use Rattle.numbers.proofs.Sums.{sumℤ_parts, sum_in_zero, sum_member}
use Rattle.rooms.specs.Room.{seen, crossing, SamePairs, Kept, Still}
use Rattle.across.specs.Free.{Splits, Free}
use Rattle.across.proofs.Crossing.{crossing_all, crossing_turned}
use Rattle.plan.specs.Plan.{Plan, Set, WellFormed}
use Rattle.plan.specs.Flow.{Flow}
use Rattle.plan.specs.Shortage.{shortfall, Inside}
use Rattle.plan.specs.Reason.{Separates, NarrowedEnd, EndReason}
use Rattle.plan.proofs.Cut.{shortfall_parts}
use Rattle.plan.proofs.Ends.{rest}
use Rattle.plan.proofs.Hoffman.{hoffman}
use Rattle.plan.proofs.Narrowing.{smallest_by_room, low_reason_by_room, largest_by_room, high_reason_by_room}
use Rattle.stand.specs.State.{Paired, Represents, Ready}

-- the set of all nodes is short of nothing: no arc leaves or enters it, and the supplies sum to 0
shortfall_all : (p : Plan) → WellFormed p → shortfall p (λ v. true) ≡ pos 0
shortfall_all p w = omega (
  whole,
  shortfall_parts p (λ v. true),
  sum_in_zero p.arcs (λ k. false) p.high (λ k l e. absurd (false≢true e)),
  sum_in_zero p.arcs (λ k. false) p.low (λ k l e. absurd (false≢true e)),
  w.supplies_even,
  sumℤ_parts p.nodes p.supply,
)

-- pairs that keep their room keep the plan's widths
same_paired : {p : Plan} {room room' : ℕ → ℕ → ℕ} → WellFormed p → SamePairs room room' → Paired p room → Paired p room'
same_paired w same r = record {
  pairs = λ x y lx ly ne. sym (same.pairs x y (omega (arith, w.nodes_fit)) (omega (arith, w.nodes_fit))) ∙ r.pairs x y lx ly ne;
}

-- ---- from one state to the next

module _ {p : Plan} {room : ℕ → ℕ → ℕ} {over under : ℕ → ℕ} (w : WellFormed p) (r : Represents p room over under) where
  -- a state that keeps the accounts and pairs stands for the same plan
  pub kept_represents : {room' : ℕ → ℕ → ℕ} {over' under' : ℕ → ℕ} → Kept p.nodes room over under room' over' under'
      → Represents p room' over' under'
  kept_represents {room'} {over'} {under'} k = record {
    account = λ S. omega (
      whole,
      r.account S,
      k.account S,
      add (shortfall p S) (pos (crossing p.nodes room S + sum_in p.nodes S under)),
      add (shortfall p S) (pos (crossing p.nodes room' S + sum_in p.nodes S under')),
    );
    paired = same_paired w k.same r.paired;
  }

  -- in all as much is over as under
  pub even_in_all : sum p.nodes over ≡ sum p.nodes under
  even_in_all = omega (
    whole,
    r.account (λ v. true),
    add (shortfall p (λ v. true)) (pos (crossing p.nodes room (λ v. true) + sum p.nodes under)),
    shortfall_all p w,
    crossing_all p.nodes room,
  )

  -- where nothing is over, nothing is under, and the plan stands ready
  pub none_over_ready : sum p.nodes over ≡ 0 → Ready p room
  none_over_ready none = record {
    account = λ S. omega (
      whole,
      r.account S,
      add (shortfall p S) (pos (crossing p.nodes room S + sum_in p.nodes S under)),
      add (shortfall p S) (pos (crossing p.nodes room S)),
      sum_in_zero p.nodes S over (λ v l e. omega (arith, sum_member p.nodes over v l)),
      sum_in_zero p.nodes S under (λ v l e. omega (arith, sum_member p.nodes under v l, even_in_all)),
    );
    paired = r.paired;
  }

module _ {p : Plan} {room : ℕ → ℕ → ℕ} (w : WellFormed p) (y : Ready p room) where
  -- with the same room out of every set, the plan stands ready still
  pub still_ready : {room' : ℕ → ℕ → ℕ} → Still p.nodes room room' → Ready p room'
  still_ready {room'} still = record {
    account = λ S. omega (
      whole,
      y.account S,
      still.across S,
      add (shortfall p S) (pos (crossing p.nodes room S)),
      add (shortfall p S) (pos (crossing p.nodes room' S)),
    );
    paired = same_paired w still.same y.paired;
  }

  -- a plan in balance has a flow
  pub ready_flow : (f : ℕ → ℕ) × Flow p f
  ready_flow = (hoffman p w).1 (λ S. omega (whole, y.account S, add (shortfall p S) (pos (crossing p.nodes room S))))

-- ---- the ends of an arc

-- what is free between an arc's ends, where each set is short of what its room out is below 0
module _ (p : Plan) (k : ℕ) {width free : ℕ} {room : ℕ → ℕ → ℕ} {S : Set} (short : Set → ℤ)
    (account : (R : Set) → short R +ℤ pos (crossing p.nodes room R) ≡ pos 0)
    (m : Free p.nodes room (p.from k) (p.to k) width free S) where
  split : {R : Set} → Separates p k R → Splits (p.from k) (p.to k) R
  split s = record { inside = s.from_inside; outside = s.to_outside }

  left_free : (R : Set) → Separates p k R → (short R +ℤ pos free) ≤ℤ pos 0
  left_free R s = omega (
    whole,
    account R,
    add (short R) (pos free),
    add (short R) (pos (crossing p.nodes room R)),
    m.enough R (split s),
  )

  module _ (less : free < width) where
    apart : Separates p k S
    apart = record { from_inside = (m.tight less).splits.inside; to_outside = (m.tight less).splits.outside }

    none_left : short S +ℤ pos free ≡ pos 0
    none_left = omega (
      whole,
      account S,
      (m.tight less).across,
      add (short S) (pos free),
      add (short S) (pos (crossing p.nodes room S)),
    )

    least_such : (R : Set) → Separates p k R → short R +ℤ pos free ≡ pos 0 → Inside p S R
    least_such R s e = record {
      inside = (m.tight less).least R (split s) (omega (
        whole,
        e,
        account R,
        add (short R) (pos free),
        add (short R) (pos (crossing p.nodes room R)),
      ));
    }

  all_or_tight : (free ≡ width) ⊎ ((R : Set) × Separates p k R × (short R +ℤ pos free ≡ pos 0))
  all_or_tight = by_cases (dec_lt free width) (λ less. inr (S, apart less, none_left less)) (λ all. inl (omega (arith, m.fits)))

-- the room that is free takes its low end down from its high, or its high end up from its low
module _ {p : Plan} (w : WellFormed p) (rooms : List ℕ) (y : Ready p (seen rooms false)) (k : ℕ) (l : k < p.arcs) where
  inward : (R : Set) → shortfall p (rest R) +ℤ pos (crossing p.nodes (seen rooms true) R) ≡ pos 0
  inward R = rw (crossing_turned p.nodes (seen rooms false) R) (y.account (rest R))

  pub free_end : (upper : Bool) {free : ℕ} {S : Set} → Free p.nodes (seen rooms upper) (p.from k) (p.to k) (p.high k - p.low k) free S
      → NarrowedEnd p k upper (cond upper (p.low k + free) (p.high k - free))
  free_end false {free} m = smallest_by_room p w (ready_flow w y).0 (ready_flow w y).1 k l free
      (left_free p k (shortfall p) y.account m) m.fits (all_or_tight p k (shortfall p) y.account m)
  free_end true {free} m = largest_by_room p w (ready_flow w y).0 (ready_flow w y).1 k l free
      (left_free p k (λ R. shortfall p (rest R)) inward m) m.fits (all_or_tight p k (λ R. shortfall p (rest R)) inward m)

  -- where not all of the width is free, the set in the way is the reason
  pub free_reason : (upper : Bool) {free : ℕ} {S : Set} → Free p.nodes (seen rooms upper) (p.from k) (p.to k) (p.high k - p.low k) free S
      → free < p.high k - p.low k → EndReason p k upper (cond upper (p.low k + free) (p.high k - free)) S
  free_reason false {free} {S} m less = low_reason_by_room p w (ready_flow w y).0 (ready_flow w y).1 k l free
      (left_free p k (shortfall p) y.account m) less S (apart p k (shortfall p) y.account m less)
      (none_left p k (shortfall p) y.account m less) (least_such p k (shortfall p) y.account m less)
  free_reason true {free} {S} m less = high_reason_by_room p w (ready_flow w y).0 (ready_flow w y).1 k l free
      (left_free p k (λ R. shortfall p (rest R)) inward m) less S (apart p k (λ R. shortfall p (rest R)) inward m less)
      (none_left p k (λ R. shortfall p (rest R)) inward m less) (least_such p k (λ R. shortfall p (rest R)) inward m less)

-- what is still one way is still the other way
pub seen_still : (n : ℕ) (rooms rooms' : List ℕ) (upper : Bool) → Still n (seen rooms upper) (seen rooms' upper) → Still n (seen rooms false) (seen rooms' false)
seen_still n rooms rooms' false still = still
seen_still n rooms rooms' true still = record {
  across = λ S. sym (turned rooms S) ∙ still.across (rest S) ∙ turned rooms' S;
  same = record { pairs = λ x y lx ly. still.same.pairs y x ly lx };
}
  where
    turned : (list : List ℕ) (S : Set) → crossing n (seen list true) (rest S) ≡ crossing n (seen list false) S
    turned list S = sym (crossing_turned n (seen list true) S)

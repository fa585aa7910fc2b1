-- One arc of a plan that stands ready, said in the numbers that the code has: n nodes, the arc from a to b, its range low..high.
use Prim.Native.Nat.{ℕ, ◌+◌, ◌-◌, ◌≤◌, ◌<◌, min}
use mathlib.Core.Path.{◌≡◌, refl, sym, subst, ◌∙◌}
use mathlib.Core.Bool.{Bool, true, false, cond, true≢false}
use mathlib.Core.List.{List}
use mathlib.Core.Logic.{by_cases}
use native.Mathlib.Omega.{arith}
use native.Mathlib.Decide.{ℕ_discrete}
use Rattle.rooms.specs.Room.{seen, Still}
use Rattle.across.specs.Free.{Tight, Free}
use Rattle.across.specs.Hold.{CanGive, HeldOut}
use Rattle.across.proofs.Rounds.{whole_free, stuck_free}
use Rattle.plan.specs.Plan.{Plan, WellFormed}
use Rattle.plan.specs.Flow.{Flow, held}
use Rattle.plan.specs.Reason.{NarrowedEnd, EndReason}
use Rattle.plan.proofs.Narrowing.{loop_smallest, loop_largest}
use Rattle.stand.specs.State.{Ready}
use Rattle.stand.proofs.Standing.{ready_flow, still_ready, free_end, free_reason, seen_still}
use Rattle.one_arc.specs.Standing.{Standing, Possible}
use Rattle.one_arc.proofs.Holding.{width_in_pair, can_give, held_ready, loop_held_ready}

-- ---- what of a width is free, by the direct room

module _ {n : ℕ} {room : ℕ → ℕ → ℕ} {a b width : ℕ} {S : ℕ → Bool} (la : a < n) (lb : b < n) where
  -- the code's number: all of a self-loop's width, else at most the direct room
  module _ {free : ℕ} (loop : b ≡ a → free ≡ width)
      (direct : (b ≡ a → ⊥) → free ≡ min width (room a b)) where
    pub there_whole : width ≤ free → Free n room a b width free S
    there_whole all = by_cases (ℕ_discrete b a)
        (λ e. rw (loop e) (record {
          fits = omega arith;
          enough = λ R s. absurd (true≢false (sym s.inside ∙ rw e at s.outside));
          tight = λ less. absurd (omega arith);
        }))
        (λ ne.
        let same : free ≡ width = omega (arith, direct ne) in
        rw same (whole_free la lb (omega (arith, direct ne))))

    pub there_stuck : free < width → Tight n room a b (room a b) S → Free n room a b width free S
    there_stuck less t =
        let is : free ≡ room a b = omega (arith, direct (λ e. omega (arith, loop e))) in
        rw is (stuck_free la lb (omega arith) t)

-- where all of a range is free, its end is its own
pub whole_end : {low high : ℕ} (upper : Bool) → low ≤ high → cond upper (low + (high - low)) (high - (high - low)) ≡ cond upper high low
whole_end false fits = omega arith
whole_end true fits = omega arith

-- ---- an arc

module _ {p : Plan} {k n a b low high : ℕ} {room : ℕ → ℕ → ℕ} (st : Standing p k n a b low high room) where
  pub standing_from : a < n
  standing_from = omega (arith, st.well_formed.from_node k st.arc, st.from_is, st.nodes_are)

  pub standing_to : b < n
  standing_to = omega (arith, st.well_formed.to_node k st.arc, st.to_is, st.nodes_are)

  pub standing_range : low ≤ high
  standing_range = omega (arith, st.well_formed.uncrossed k st.arc, st.low_is, st.high_is)

  other : (b ≡ a → ⊥) → p.to k ≡ p.from k → ⊥
  other ne e = ne (sym st.to_is ∙ e ∙ st.from_is)

  pub standing_wide : (b ≡ a → ⊥) → high - low ≤ room a b + room b a
  standing_wide ne =
      rw (st.from_is, st.to_is, st.low_is, st.high_is) at
      (width_in_pair p k st.arc 0 st.well_formed st.ready.paired (other ne))

  -- a self-loop's ends stand
  pub standing_loop : (upper : Bool) → b ≡ a → NarrowedEnd p k upper (cond upper high low)
  standing_loop upper e = by upper
    where
      flows : (f : ℕ → ℕ) × Flow p f
      flows = ready_flow st.well_formed st.ready

      loop : p.from k ≡ p.to k
      loop = st.from_is ∙ sym e ∙ sym st.to_is

      by : (t : Bool) → NarrowedEnd p k t (cond t high low)
      by false = rw st.low_is at (loop_smallest p st.well_formed flows.0 flows.1 k st.arc loop)
      by true = rw st.high_is at (loop_largest p st.well_formed flows.0 flows.1 k st.arc loop)

-- an arc in its plan's own words
pub own_standing : {p : Plan} {k : ℕ} {room : ℕ → ℕ → ℕ} → WellFormed p → k < p.arcs → Ready p room
    → Standing p k p.nodes (p.from k) (p.to k) (p.low k) (p.high k) room
own_standing w l y = record {
  well_formed = w;
  arc = l;
  nodes_are = refl;
  from_is = refl;
  to_is = refl;
  low_is = refl;
  high_is = refl;
  ready = y;
}

-- the same arc of the same plan, in another state that is ready
pub standing_on : {p : Plan} {k n a b low high : ℕ} {room room' : ℕ → ℕ → ℕ} → Standing p k n a b low high room → Ready p room'
    → Standing p k n a b low high room'
standing_on st y = record {
  well_formed = st.well_formed;
  arc = st.arc;
  nodes_are = st.nodes_are;
  from_is = st.from_is;
  to_is = st.to_is;
  low_is = st.low_is;
  high_is = st.high_is;
  ready = y;
}

-- ---- whichever way the rooms are looked at

module _ {p : Plan} {k n a b low high : ℕ} (rooms : List ℕ) (st : Standing p k n a b low high (seen rooms false)) where
  pub facing_wide : (upper : Bool) → (b ≡ a → ⊥) → high - low ≤ seen rooms upper a b + seen rooms upper b a
  facing_wide false ne = standing_wide st ne
  facing_wide true ne = omega (arith, standing_wide st ne)

  -- with the same room out of every set, the plan stands ready still
  pub facing_ready : (rooms' : List ℕ) (upper : Bool) → Still n (seen rooms upper) (seen rooms' upper) → Ready p (seen rooms' false)
  facing_ready rooms' upper still = still_ready st.well_formed st.ready (rw st.nodes_are (seen_still n rooms rooms' upper still))

  module _ (upper : Bool) {free : ℕ} {S : ℕ → Bool} (m : Free n (seen rooms upper) a b (high - low) free S) where
    own : Free p.nodes (seen rooms upper) (p.from k) (p.to k) (p.high k - p.low k) free S
    own = rw (st.nodes_are, st.from_is, st.to_is, st.low_is, st.high_is) m

    -- the narrowed end, from the room that is free; and where not all is free, the reason
    pub facing_end : NarrowedEnd p k upper (cond upper (low + free) (high - free))
    facing_end = rw (st.low_is, st.high_is) at (free_end st.well_formed rooms st.ready k st.arc upper own)

    -- where all of the width is free, the end is the arc's own
    pub facing_stands : free ≡ high - low → NarrowedEnd p k upper (cond upper (p.high k) (p.low k))
    facing_stands all = rw (st.low_is, st.high_is) (subst (λ x. NarrowedEnd p k upper x) (rw all (whole_end upper (standing_range st))) facing_end)

    pub facing_reason : free < high - low → EndReason p k upper (cond upper (low + free) (high - free)) S
    facing_reason less = rw (st.low_is, st.high_is) at
        (free_reason st.well_formed rooms st.ready k st.arc upper own (omega (arith, less, st.low_is, st.high_is)))

-- ---- held at a count

module _ {p : Plan} {k n a b low high count : ℕ} {room : ℕ → ℕ → ℕ} (st : Standing p k n a b low high room) (c : Possible p k count) where
  pub standing_can_give : (b ≡ a → ⊥) → CanGive n room a b (high - count) (count - low)
  standing_can_give ne = rw (st.nodes_are, st.from_is, st.to_is, st.low_is, st.high_is) at
      (can_give p k st.arc count st.well_formed st.ready c (other st ne))

  pub standing_held : {room' : ℕ → ℕ → ℕ} → (b ≡ a → ⊥) → HeldOut n room room' a b (high - count) (count - low) → Ready (held p k count) room'
  standing_held {room'} ne h =
      let own : HeldOut p.nodes room room' (p.from k) (p.to k) (p.high k - count) (count - p.low k)
      = rw (st.nodes_are, st.from_is, st.to_is, st.low_is, st.high_is) h in
      held_ready p k st.arc count st.well_formed st.ready c (other st ne) own

  pub standing_held_loop : b ≡ a → Ready (held p k count) room
  standing_held_loop e = loop_held_ready p k st.arc count (st.from_is ∙ sym e ∙ sym st.to_is) st.ready

-- An arc held at a count. Its share of the rooms is taken out: of the room from its start to its end what lay between the count and
-- its high, of the room back what lay between its low and the count. What is left stands for the plan with the arc held.
use Prim.Native.Nat.{ℕ, ◌+◌, ◌-◌, ◌≤◌, ◌<◌}
use mathlib.Core.Path.{◌≡◌, refl, sym, ◌∙◌}
use mathlib.Core.Bool.{Bool, true, false, not, ◌&&◌}
use mathlib.Core.Logic.{by_cases}
use native.Mathlib.Omega.{arith}
use native.Mathlib.Decide.{ℕ_discrete}
use lib.Dec.{eqb}
use lib.IntN.{pos, ◌+ℤ◌}
use borrow.Author.Tests.{eq-eqb, ne_eqb}
use Rattle.numbers.specs.Sums.{only, put}
use Rattle.numbers.specs.Parts.{plus, minus}
use Rattle.numbers.proofs.Parts.{whole, add}
use Rattle.numbers.proofs.Sums.{sum_change, sum_in_put, put_there, put_elsewhere}
use Rattle.rooms.specs.Room.{crossing}
use Rattle.across.specs.Hold.{CanGive, HeldOut}
use Rattle.plan.specs.Plan.{Plan, Set, WellFormed}
use Rattle.plan.specs.Flow.{held}
use Rattle.plan.specs.Shortage.{leaves, enters, shortfall}
use Rattle.plan.proofs.Cut.{shortfall_parts, flow_leaves_no_shortfall}
use Rattle.plan.proofs.Narrowing.{held_well_formed}
use Rattle.plan.proofs.HeldCounts.{held_flow}
use Rattle.stand.specs.State.{widths, Paired, Ready}
use Rattle.one_arc.specs.Standing.{Possible}

module _ (p : Plan) (k : ℕ) (l : k < p.arcs) (c : ℕ) where
  -- the arc runs from x to y
  ends : ℕ → ℕ → Bool
  ends x y = eqb (p.from k) x && eqb (p.to k) y

  -- a held arc has no width
  widths_held : (x y : ℕ) → widths (held p k c) x y + only (ends x y) (p.high k - p.low k) ≡ widths p x y
  unfolding ends
  widths_held x y = omega (
    arith,
    sum_change p.arcs
        (λ j. only (eqb (p.from j) x && eqb (p.to j) y) (put p.high k c j - put p.low k c j))
        (λ j. only (eqb (p.from j) x && eqb (p.to j) y) (p.high j - p.low j)) k l
        (λ j lj ne. rw (put_elsewhere p.high k c j ne, put_elsewhere p.low k c j ne)),
    none (eqb (p.from k) x && eqb (p.to k) y),
  )
    where
      none : (t : Bool) → only t (put p.high k c k - put p.low k c k) ≡ 0
      none true = rw (put_there p.high k c, put_there p.low k c) (omega arith)
      none false = refl

  ends_other : (x y : ℕ) → (x ≡ p.from k → y ≡ p.to k → ⊥) → ends x y ≡ false
  unfolding ends
  ends_other x y away = by_cases (ℕ_discrete (p.from k) x)
      (λ ex. by_cases (ℕ_discrete (p.to k) y)
      (λ ey. absurd (away (sym ex) (sym ey)))
      (λ ny. rw (eq-eqb (p.from k) x ex, ne_eqb (p.to k) y ny)))
      (λ nx. rw (ne_eqb (p.from k) x nx))

  ends_itself : ends (p.from k) (p.to k) ≡ true
  unfolding ends
  ends_itself = rw (eq-eqb (p.from k) (p.from k) refl, eq-eqb (p.to k) (p.to k) refl)

  widths_same : (x y : ℕ) → (x ≡ p.from k → y ≡ p.to k → ⊥) → widths (held p k c) x y ≡ widths p x y
  widths_same x y away = omega (arith, rw (ends_other x y away) at (widths_held x y))

  widths_less : widths (held p k c) (p.from k) (p.to k) + (p.high k - p.low k) ≡ widths p (p.from k) (p.to k)
  widths_less = rw ends_itself at (widths_held (p.from k) (p.to k))

  -- holding takes off each set's shortfall what the bound that it uses gives up
  shortfall_held : (S : Set)
      → plus (shortfall (held p k c) S) + minus (shortfall p S) + (only (leaves p S k) c + only (enters p S k) (p.low k))
      ≡ plus (shortfall p S) + minus (shortfall (held p k c) S) + (only (leaves p S k) (p.high k) + only (enters p S k) c)
  shortfall_held S = omega (
    arith,
    shortfall_parts p S,
    shortfall_parts (held p k c) S,
    sum_in_put p.arcs (leaves p S) p.high k c l,
    sum_in_put p.arcs (enters p S) p.low k c l,
  )

  -- an arc's width lies in the rooms of its pair
  pub width_in_pair : {room : ℕ → ℕ → ℕ} → WellFormed p → Paired p room → (p.to k ≡ p.from k → ⊥)
      → p.high k - p.low k ≤ room (p.from k) (p.to k) + room (p.to k) (p.from k)
  width_in_pair w r ne = omega (
    arith,
    r.pairs (p.from k) (p.to k) (w.from_node k l) (w.to_node k l) (λ e. ne (sym e)),
    widths_less,
  )

  module _ (w : WellFormed p) {room : ℕ → ℕ → ℕ} (y : Ready p room) (possible : Possible p k c) (ne : p.to k ≡ p.from k → ⊥) where
    balance : (S : Set) → plus (shortfall p S) + crossing p.nodes room S ≡ minus (shortfall p S)
    balance S = omega (whole, y.account S, add (shortfall p S) (pos (crossing p.nodes room S)))

    none_short : (S : Set) → plus (shortfall (held p k c) S) ≤ minus (shortfall (held p k c) S)
    none_short S = omega (
      whole,
      flow_leaves_no_shortfall (held p k c) (held_well_formed p k l c possible.least possible.most w)
          possible.occurs.counts (held_flow possible.occurs) S,
    )

    -- held, the plan has a flow: no set is short, so each set that the arc crosses has room for its share
    pub can_give : CanGive p.nodes room (p.from k) (p.to k) (p.high k - c) (c - p.low k)
    can_give = record {
      pair = omega (arith, width_in_pair w y.paired ne, possible.least, possible.most);
      out_can = λ S s. omega (arith, balance S, none_short S, rw (s.inside, s.outside) at (shortfall_held S));
      home_can = λ S s. omega (arith, balance S, none_short S, rw (s.inside, s.outside) at (shortfall_held S));
    }

    pub held_ready : {room' : ℕ → ℕ → ℕ} → HeldOut p.nodes room room' (p.from k) (p.to k) (p.high k - c) (c - p.low k)
        → Ready (held p k c) room'
    held_ready {room'} h = record {
      account = λ S. by S (S (p.from k)) (S (p.to k)) (h.account S) (shortfall_held S);
      paired = record {
        pairs = λ x z lx lz other. by_cases (ℕ_discrete x (p.from k))
            (λ ex. by_cases (ℕ_discrete z (p.to k))
            (λ ez. rw (ex, ez) own)
            (λ nz. plain x z lx lz other (λ e. nz) (λ e f. ne (sym e ∙ ex))))
            (λ nx. by_cases (ℕ_discrete x (p.to k))
            (λ ex. by_cases (ℕ_discrete z (p.from k))
            (λ ez. rw (ex, ez) (omega (arith, own)))
            (λ nz. plain x z lx lz other (λ e. absurd (nx e)) (λ e. nz)))
            (λ ny. plain x z lx lz other (λ e. absurd (nx e)) (λ e. absurd (ny e))));
      };
    }
      where
        own : room' (p.from k) (p.to k) + room' (p.to k) (p.from k) ≡ widths (held p k c) (p.from k) (p.to k) + widths (held p k c) (p.to k) (p.from k)
        own = omega (
          arith,
          h.pair,
          possible.least,
          possible.most,
          y.paired.pairs (p.from k) (p.to k) (w.from_node k l) (w.to_node k l) (λ e. ne (sym e)),
          widths_less,
          widths_same (p.to k) (p.from k) (λ e. absurd (ne e)),
        )

        plain : (x z : ℕ) → x < p.nodes → z < p.nodes → (x ≡ z → ⊥) → (x ≡ p.from k → z ≡ p.to k → ⊥) → (x ≡ p.to k → z ≡ p.from k → ⊥)
            → room' x z + room' z x ≡ widths (held p k c) x z + widths (held p k c) z x
        plain x z lx lz other a b = omega (
          arith,
          h.pairs x z (omega (arith, w.nodes_fit)) (omega (arith, w.nodes_fit)) a b,
          y.paired.pairs x z lx lz other,
          widths_same x z a,
          widths_same z x (λ e f. b f e),
        )

        by : (S : Set) (s t : Bool)
            → crossing p.nodes room S
            ≡ crossing p.nodes room' S + (only s (only (not t) (p.high k - c)) + only t (only (not s) (c - p.low k)))
            → plus (shortfall (held p k c) S) + minus (shortfall p S) + (only (s && not t) c + only (not s && t) (p.low k))
            ≡ plus (shortfall p S) + minus (shortfall (held p k c) S) + (only (s && not t) (p.high k) + only (not s && t) c)
            → shortfall (held p k c) S +ℤ pos (crossing p.nodes room' S) ≡ pos 0
        by S true true a e = omega (whole, balance S, add (shortfall (held p k c) S) (pos (crossing p.nodes room' S)))
        by S true false a e = omega (whole, balance S, possible.most, add (shortfall (held p k c) S) (pos (crossing p.nodes room' S)))
        by S false true a e = omega (whole, balance S, possible.least, add (shortfall (held p k c) S) (pos (crossing p.nodes room' S)))
        by S false false a e = omega (whole, balance S, add (shortfall (held p k c) S) (pos (crossing p.nodes room' S)))

  -- a self-loop crosses no set and has no room between two nodes: held or not, the state is the same
  pub loop_held_ready : {room : ℕ → ℕ → ℕ} → p.from k ≡ p.to k → Ready p room → Ready (held p k c) room
  loop_held_ready {room} loop y = record {
    account = λ S. omega (
      whole,
      y.account S,
      shortfall_held S,
      inside S,
      outside S,
      add (shortfall p S) (pos (crossing p.nodes room S)),
      add (shortfall (held p k c) S) (pos (crossing p.nodes room S)),
    );
    paired = record {
      pairs = λ x z lx lz other. omega (
        arith,
        y.paired.pairs x z lx lz other,
        widths_same x z (λ e f. other (e ∙ loop ∙ sym f)),
        widths_same z x (λ e f. other (f ∙ sym loop ∙ sym e)),
      );
    };
  }
    where
      never : (t : Bool) (x : ℕ) → only (t && not t) x ≡ 0
      never true x = refl
      never false x = refl

      nor : (t : Bool) (x : ℕ) → only (not t && t) x ≡ 0
      nor true x = refl
      nor false x = refl

      inside : (S : Set) → only (leaves p S k) c + only (enters p S k) (p.low k) ≡ 0
      inside S = rw loop (omega (arith, never (S (p.to k)) c, nor (S (p.to k)) (p.low k)))

      outside : (S : Set) → only (leaves p S k) (p.high k) + only (enters p S k) c ≡ 0
      outside S = rw loop (omega (arith, never (S (p.to k)) (p.high k), nor (S (p.to k)) c))

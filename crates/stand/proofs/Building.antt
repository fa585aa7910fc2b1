-- A plan entered one supply and one arc at a time. After k arcs each room is the widths of those arcs from its one node to its
-- other, and what is over and under at a node is what it has and lacks with the lows that come in and go out. Each arc adds
-- one term to these sums; with all arcs entered, the cut identity over the lows gives every set's account, and the rooms lie
-- between the plan's nodes.
use Prim.Native.Nat.{ℕ, zero, suc, ◌+◌, ◌-◌, ◌*◌, ◌^◌, ◌≤◌, ◌<◌}
use mathlib.Core.Path.{◌≡◌, refl, sym, ap, ◌∙◌}
use mathlib.Core.Bool.{Bool, true, false, not, ◌&&◌}
use mathlib.Core.List.{List}
use mathlib.Core.Logic.{⊎_elim}
use native.Mathlib.Omega.{arith}
use native.Mathlib.Nat.{add-sub_of_le}
use lib.Dec.{eqb}
use lib.IntN.{ℤ, pos, negsuc, nat_abs, ◌+ℤ◌}
use lib.ListN.{length, set}
use lib.Seq.{get_or-set_same, get_or-set_other}
use borrow.Author.Tests.{lt-ltb, eqb-true, eqb-false}
use Rattle.std.specs.Int.{int_max, int_min}
use Rattle.std.specs.Int.RustNames.{unsigned_abs}
use mir.Syntax.{w32}
use mir.Val.{SFits, to_z, of_z}
use mir.Facts.{to_z-of_z}
use Rattle.numbers.specs.Sums.{sum, only, sum_in}
use Rattle.numbers.specs.Parts.{plus, minus}
use Rattle.numbers.proofs.Parts.{whole, add, magnitude}
use Rattle.numbers.proofs.Sums.{last_or_before, sum_same, sum_in_same, sum_in_some, sum_in_add, sum_in_gathered}
use Rattle.rooms.specs.Room.{side, crossing, Fitting}
use Rattle.rooms.specs.Move.{Taken, Less}
use Rattle.numbers.proofs.Truth.{both_true}
use Rattle.plan.specs.Limits.{most_supply, widest_high}
use Rattle.plan.specs.Plan.{Plan, Set, WellFormed}
use Rattle.plan.specs.Flow.{total, out, into}
use Rattle.plan.specs.Shortage.{leaves, shortfall}
use Rattle.plan.proofs.Cut.{shortfall_parts, cut_identity, joined}
use Rattle.stand.specs.State.{widths, Represents}
use Rattle.lists.specs.Written.{Written}

-- ---- supplies

-- what a node of this supply has, and what it lacks, in the code's steps
module _ {z : ℤ} (fits : SFits w32 z) where
  pub has_is : {most : ℤ} {has : ℕ} → SFits w32 most → most ≡ int_max (to_z w32 (of_z w32 z)) (pos 0)
      → has ≡ unsigned_abs (to_z w32 (of_z w32 most)) → has ≡ plus z
  has_is small e h = rw (h, to_z-of_z small, e, to_z-of_z fits) (positive z)
    where
      positive : (x : ℤ) → unsigned_abs (int_max x (pos 0)) ≡ plus x
      positive (pos zero) = refl
      positive (pos (suc n)) = rw (lt-ltb 0 (suc n) (omega arith))
      positive (negsuc n) = refl

  pub lacks_is : {least : ℤ} {lacks : ℕ} → SFits w32 least → least ≡ int_min (to_z w32 (of_z w32 z)) (pos 0)
      → lacks ≡ unsigned_abs (to_z w32 (of_z w32 least)) → lacks ≡ minus z
  lacks_is small e h = rw (h, to_z-of_z small, e, to_z-of_z fits) (negative z)
    where
      negative : (x : ℤ) → unsigned_abs (int_min x (pos 0)) ≡ minus x
      negative (pos zero) = refl
      negative (pos (suc n)) = rw (lt-ltb 0 (suc n) (omega arith))
      negative (negsuc n) = refl

module _ {values : ℕ → ℕ} {buffer : List ℕ} where
  pub written_more : {v : ℕ} {buffer' : List ℕ} → v < length buffer' → Written values v buffer buffer'
      → Written values (suc v) buffer (set buffer' v (values v))
  written_more {v} {buffer'} l w = record {
    there = λ i li. ⊎_elim
        (λ e. rw e (get_or-set_same buffer' v (values v) 0 l))
        (λ lt. get_or-set_other buffer' v i (values v) 0 (λ e. omega arith) ∙ w.there i lt)
        (last_or_before li);
    past = λ i li. get_or-set_other buffer' v i (values v) 0 (λ e. omega arith) ∙ w.past i (omega arith);
  }

-- ---- arcs

-- the plan with only its first k arcs
abbrev pub first : ℕ → Plan → Plan
first k p = record {
  nodes = p.nodes;
  arcs = k;
  supply = p.supply;
  from = p.from;
  to = p.to;
  low = p.low;
  high = p.high;
}

-- the first k arcs are entered
pub record Entered (p : Plan) (k : ℕ) (room : ℕ → ℕ → ℕ) (over under : ℕ → ℕ) : Type 0 where
  pub room_is : (x y : ℕ) → x < side → y < side → room x y ≡ widths (first k p) x y
  pub over_is : (v : ℕ) → v < p.nodes → over v ≡ plus (p.supply v) + into (first k p) p.low v
  pub under_is : (v : ℕ) → v < p.nodes → under v ≡ minus (p.supply v) + out (first k p) p.low v

-- what is added at a place, or between two nodes, shows there and nowhere else
added : {number number' : ℕ → ℕ} {place d : ℕ} → Less number' number place d → (i : ℕ) → number' i ≡ number i + only (eqb place i) d
added {number} {number'} {place} {d} h i = by (eqb place i) refl
  where
    by : (t : Bool) → eqb place i ≡ t → number' i ≡ number i + only t d
    by true e = omega (arith, h.given, ap number (eqb-true place i e), ap number' (eqb-true place i e))
    by false e = omega (arith, h.elsewhere i (λ e'. eqb-false place i e (sym e')))

room_added : {room room' : ℕ → ℕ → ℕ} {x y d : ℕ} → Taken room' room x y d → (i j : ℕ) → i < side → j < side
    → room' i j ≡ room i j + only (eqb x i && eqb y j) d
room_added {room} {room'} {x} {y} {d} h i j li lj = by (eqb x i) (eqb y j) refl refl
  where
    by : (s t : Bool) → eqb x i ≡ s → eqb y j ≡ t → room' i j ≡ room i j + only (s && t) d
    by true true e f = rw (← eqb-true x i e, ← eqb-true y j f) (sym h.there)
    by true false e f = omega (arith, h.elsewhere i j li lj (λ e' f'. eqb-false y j f (sym f')))
    by false t e f = omega (arith, h.elsewhere i j li lj (λ e' f'. eqb-false x i e (sym e')))

pub entered_more : {p : Plan} {k : ℕ} {room room' : ℕ → ℕ → ℕ} {over under over' under' : ℕ → ℕ} → Entered p k room over under
    → Taken room' room (p.from k) (p.to k) (p.high k - p.low k)
    → Less over' over (p.to k) (p.low k) → Less under' under (p.from k) (p.low k) → Entered p (suc k) room' over' under'
entered_more e room_more over_more Under-more = record {
  room_is = λ x y lx ly. omega (arith, room_added room_more x y lx ly, e.room_is x y lx ly);
  over_is = λ v lv. omega (arith, added over_more v, e.over_is v lv);
  under_is = λ v lv. omega (arith, added Under-more v, e.under_is v lv);
}

-- ---- bounds

sum_bound : (n : ℕ) (f : ℕ → ℕ) (b : ℕ) → ((i : ℕ) → i < n → f i ≤ b) → sum n f ≤ n * b
sum_bound zero f b h = omega arith
sum_bound (suc n) f b h = omega (arith, sum_bound n f b (λ i l. h i (omega arith)), h n (omega arith))

module _ {p : Plan} (w : WellFormed p) {k : ℕ} (some : k ≤ p.arcs) where
  total_small : (f : ℕ → ℕ) → ((i : ℕ) → i < p.arcs → f i ≤ p.high i) → (A : Set) → total (first k p) f A ≤ k * widest_high
  total_small f least A = sum_bound k (λ i. only (A i) (f i)) widest_high
      (λ i l. by (A i) (omega (arith, least i (omega arith), w.high_fits i (omega arith))))
    where
      by : {x : ℕ} (t : Bool) → x ≤ widest_high → only t x ≤ widest_high
      by true h = h
      by false h = omega arith

  module _ {room : ℕ → ℕ → ℕ} {over under : ℕ → ℕ} (e : Entered p k room over under) where
    room_small : (x y : ℕ) → x < side → y < side → room x y ≤ k * widest_high
    room_small x y lx ly = omega (
      arith,
      e.room_is x y lx ly,
      total_small (λ i. p.high i - p.low i) (λ i l. omega arith) (λ i. eqb (p.from i) x && eqb (p.to i) y),
    )

    over_small : (v : ℕ) → v < p.nodes → over v ≤ most_supply + k * widest_high
    over_small v l = omega (
      arith,
      e.over_is v l,
      w.supply_fits v l,
      magnitude (p.supply v),
      total_small p.low w.uncrossed (λ i. eqb (p.to i) v),
    )

    under_small : (v : ℕ) → v < p.nodes → under v ≤ most_supply + k * widest_high
    under_small v l = omega (
      arith,
      e.under_is v l,
      w.supply_fits v l,
      magnitude (p.supply v),
      total_small p.low w.uncrossed (λ i. eqb (p.from i) v),
    )

-- what the next arc adds fits
module _ {p : Plan} (w : WellFormed p) {k : ℕ} (l : k < p.arcs) where
  pub arc_fits : {room : ℕ → ℕ → ℕ} {over under : ℕ → ℕ} → Entered p k room over under
      → (room (p.from k) (p.to k) + (p.high k - p.low k) < 2 ^ 32)
      × (under (p.from k) + p.low k < 2 ^ 32)
      × (over (p.to k) + p.low k < 2 ^ 32)
  arc_fits e =
      let from = w.from_node k l in
      let to = w.to_node k l in
      omega (
        arith,
        w.arcs_fit,
        w.uncrossed k l,
        w.high_fits k l,
        room_small w (omega arith) e (p.from k) (p.to k) (omega (arith, w.nodes_fit)) (omega (arith, w.nodes_fit)),
        under_small w (omega arith) e (p.from k) from,
        over_small w (omega arith) e (p.to k) to,
      )

-- ---- all arcs

nested : (a b : Bool) (x : ℕ) → only a (only b x) ≡ only (a && b) x
nested true b x = refl
nested false b x = refl

turned : (a b : Bool) (x : ℕ) → only (a && b) x ≡ only b (only a x)
turned true b x = refl
turned false true x = refl
turned false false x = refl

swapped : (a b : Bool) (x : ℕ) → only a (only b x) ≡ only b (only a x)
swapped a b x = nested a b x ∙ turned a b x

module _ {p : Plan} (w : WellFormed p) {room : ℕ → ℕ → ℕ} {over under : ℕ → ℕ} (e : Entered p p.arcs room over under) where
  abbrev width : ℕ → ℕ
  width k = p.high k - p.low k

  node : {x : ℕ} → x < p.nodes → x < side
  node l = omega (arith, w.nodes_fit)

  module _ (S : Set) where
    -- the rooms from a node to those outside a set are the widths of the arcs from it that end outside
    room_outside : (x : ℕ) → x < p.nodes
        → sum_in p.nodes (λ y. not (S y)) (room x) ≡ out p (λ k. only (not (S (p.to k))) (width k)) x
    room_outside x lx =
        sum_in_same p.nodes (λ y. not (S y)) (room x) (into p (λ k. only (eqb (p.from k) x) (width k)))
        (λ y ly i. e.room_is x y (node lx) (node ly) ∙ sum_same p.arcs _ _ (λ k l. turned (eqb (p.from k) x) (eqb (p.to k) y) (width k)))
        ∙ sum_in_gathered p.nodes p.arcs (λ y. not (S y)) p.to (λ k. only (eqb (p.from k) x) (width k)) w.to_node
        ∙ sum_same p.arcs _ _ (λ k l. swapped (not (S (p.to k))) (eqb (p.from k) x) (width k))

    -- and the room that leads out of the set is the widths of the arcs that leave it
    room_leaving : crossing p.nodes room S ≡ total p width (leaves p S)
    room_leaving =
        sum_in_same p.nodes S _ (out p (λ k. only (not (S (p.to k))) (width k))) (λ x lx i. room_outside x lx)
        ∙ sum_in_gathered p.nodes p.arcs S p.from (λ k. only (not (S (p.to k))) (width k)) w.from_node
        ∙ sum_same p.arcs _ _ (λ k l. nested (S (p.from k)) (not (S (p.to k))) (width k))

    entered_account : shortfall p S +ℤ pos (crossing p.nodes room S + sum_in p.nodes S under) ≡ pos (sum_in p.nodes S over)
    entered_account = omega (
      whole,
      add (shortfall p S) (pos (crossing p.nodes room S + sum_in p.nodes S under)),
      shortfall_parts p S,
      cut_identity p (joined w) p.low S,
      room_leaving,
      sum_in_same p.nodes S over (λ v. plus (p.supply v) + into p p.low v) (λ v l i. e.over_is v l),
      sum_in_add p.nodes S (λ v. plus (p.supply v)) (into p p.low),
      sum_in_same p.nodes S under (λ v. minus (p.supply v) + out p p.low v) (λ v l i. e.under_is v l),
      sum_in_add p.nodes S (λ v. minus (p.supply v)) (out p p.low),
      sum_in_add p.arcs (leaves p S) p.low width,
      sum_in_same p.arcs (leaves p S) (λ k. p.low k + width k) p.high (λ k l i. add-sub_of_le (w.uncrossed k l)),
    )

  pub entered_represents : Represents p room over under
  entered_represents = record {
    account = entered_account;
    paired = record { pairs = λ x y lx ly ne. omega (arith, e.room_is x y (node lx) (node ly), e.room_is y x (node ly) (node lx)) };
  }

  -- a room between two nodes is the width of some arc between them
  between : (x y : ℕ) → x < side → y < side → 0 < room x y → (x < p.nodes) × (y < p.nodes)
  between x y lx ly more =
      let (k, l, ends, some) = sum_in_some p.arcs (λ k. eqb (p.from k) x && eqb (p.to k) y) width (omega (arith, e.room_is x y lx ly)) in
      let (from, to) = both_true (eqb (p.from k) x) (eqb (p.to k) y) ends in
      (rw (eqb-true (p.from k) x from) at (w.from_node k l), rw (eqb-true (p.to k) y to) at (w.to_node k l))

  pub entered_fitting : Fitting p.nodes room
  entered_fitting = record {
    few = w.nodes_fit;
    inside = between;
    small = λ x y lx ly ne. omega (arith, w.arcs_fit, room_small w (omega arith) e x y lx ly, room_small w (omega arith) e y x ly lx);
  }

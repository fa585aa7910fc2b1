-- What settling a plan shows. If nothing is over any more, everything balances. Otherwise the reach of what is over holds all of
-- it and nothing that lacks, and no room leads out of it: it is the shortage set, and what is over is its shortfall.
use Prim.Native.Nat.{ℕ, zero, suc, ◌^◌, ◌≤◌, ◌<◌}
use mathlib.Core.Path.{◌≡◌, refl}
use mathlib.Core.Bool.{Bool, true, false}
use native.Mathlib.Omega.{arith}
use native.Mathlib.Numerals.{add-one}
use Rattle.std.proofs.lemmas.List.Elements.{All-from_get_or}
use Rattle.std.proofs.lemmas.List.Sums.{sum_by-le, sum_by_more}
use lib.IntN.{pos}
use lib.ListN.{length, take}
use mathlib.Core.List.{List}
use mir.Syntax.{w32}
use mir.Val.{Fits}
use Rattle.std.specs.List as L
use Rattle.plan.specs.Limits.{most_nodes}
use Rattle.numbers.specs.Sums.{sum}
use Rattle.numbers.proofs.Parts.{whole}
use Rattle.rooms.specs.Room.{at, crossing}
use Rattle.reach.specs.Reach.{Closed}
use Rattle.engine.specs.Settle as E
use Rattle.across.proofs.Crossing.{crossing_closed, crossing_member}
use Rattle.plan.specs.Plan.{Plan, Set, WellFormed}
use Rattle.plan.specs.Shortage.{ShortBy}
use Rattle.plan.proofs.Certificate.{Ledger, Settled, settled_shortage, settled_shortfall}
use Rattle.stand.specs.State.{Represents, Ready}
use Rattle.stand.proofs.Standing.{kept_represents, none_over_ready}

-- ---- what is over, added up

-- at most 64 numbers of 32 bits
pub total_small : (numbers : List ℕ) → length numbers ≤ most_nodes → ((i : ℕ) → Fits w32 (at numbers i)) → L.sum numbers < 2 ^ 63
total_small numbers few fit =
    omega (arith, sum_by-le (λ x. x) 4294967295 numbers (All-from_get_or (λ x. x ≤ 4294967295) numbers 0 (λ i l. omega (arith, fit i))))

-- the numbers of the first n nodes, as a list and as a sum over the nodes
pub total_front : (n : ℕ) (numbers : List ℕ) → n ≤ length numbers → L.sum (take n numbers) ≡ sum n (at numbers)
total_front zero numbers whole = refl
total_front (suc n) numbers whole =
    omega (arith, rw add-one at (sum_by_more (λ x. x) numbers n 0 (omega arith)), total_front n numbers (omega arith))

-- ---- what settling shows

module _ {p : Plan} (w : WellFormed p) {room room' : ℕ → ℕ → ℕ} {over under over' under' : ℕ → ℕ} {S : Set}
    (r : Represents p room over under) (s : E.Settled p.nodes room over under room' over' under' S) where
  after : Represents p room' over' under'
  after = kept_represents w r s.kept

  ledger : Ledger p (crossing p.nodes room') over' under'
  ledger = record { account = after.account }

  settled : Settled p (crossing p.nodes room') over' under' S
  settled = record {
    all_over = record { holds = s.reach.holds.holds };
    none_under = s.none_under;
    closed = crossing_closed p.nodes room' S p.nodes s.reach.closed;
  }

  -- a set out of which no room leads is closed
  shut : (R : Set) → crossing p.nodes room' R ≡ 0 → Closed p.nodes room' p.nodes p.nodes R
  shut R none = record { closed = λ x y lx ly rx st. by x y lx ly rx st.room_there (R y) refl }
    where
      by : (x y : ℕ) → x < p.nodes → y < p.nodes → R x ≡ true → 0 < room' x y → (t : Bool) → R y ≡ t → R y ≡ true
      by x y lx ly rx more true e = e
      by x y lx ly rx more false e = absurd (omega (arith, crossing_member p.nodes room' R x y lx ly rx e))

  pub asked_short : 0 < sum p.nodes over' → ShortBy p (pos (sum p.nodes over')) S
  asked_short more = record {
    shortage = settled_shortage p ledger S settled
        (λ R holds none. record { inside = s.reach.least R (record { holds = holds.holds }) (shut R none) });
    value_is = settled_shortfall p ledger S settled;
    positive = omega whole;
  }

  pub asked_ready : sum p.nodes over' ≡ 0 → Ready p room'
  asked_ready = none_over_ready w after

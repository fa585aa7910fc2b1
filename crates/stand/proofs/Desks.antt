-- The desk, from a new one to what was asked on it.
use Prim.Native.Nat.{ℕ, zero, suc}
use mathlib.Core.Path.{◌≡◌, refl}
use mathlib.Core.List.{List}
use lib.Dec.{lit≤}
use Rattle.std.specs.Prelude.{Ok, Err}
use lib.IntN.{ℤ}
use lib.ListN.{length, replicate}
use mathlib.Core.Bool.{Bool}
use Rattle.rooms.specs.Room.{at, seen, Still}
use Rattle.ways.specs.Ways.{Desk}
use Rattle.words.specs.Word.{holds}
use Rattle.plan.specs.Plan.{WellFormed, plan_of}
use Rattle.plan.specs.Shortage.{ShortBy}
use Rattle.stand.specs.Desk.{EmptyDesk, ReadyDesk}
use Rattle.stand.specs.Ask.{AskedOf}
use Rattle.stand.specs.declared.Shortage.{Shortage}
use Rattle.stand.proofs.Standing.{still_ready, seen_still}

-- a new array holds zeros
zeros : (n i : ℕ) → at (replicate n 0) i ≡ 0
zeros zero i = refl
zeros (suc n) zero = refl
zeros (suc n) (suc i) = zeros n i

module _ {arcs : List ℕ} {supplies : List ℤ} where
  -- a new desk is long enough for 64 nodes, and empty
  pub new_desk : WellFormed (plan_of arcs supplies) → EmptyDesk arcs supplies (replicate 4096 0) (replicate 128 0)
  new_desk w = record {
    plan = w;
    rooms_whole = lit≤ tt;
    ways_whole = lit≤ tt;
    empty = λ i. (zeros 4096 i, zeros 128 i);
  }

  module _ {rooms ways : List ℕ} where
    -- with the same room out of every set, the plan stands ready still
    pub still_desk : {rooms' ways' : List ℕ} → ReadyDesk arcs supplies rooms ways → (upper : Bool) → Desk (length supplies) rooms' ways'
        → Still (length supplies) (seen rooms upper) (seen rooms' upper) → ReadyDesk arcs supplies rooms' ways'
    still_desk {rooms'} y upper desk still = record {
      plan = y.plan;
      desk = desk;
      ready = still_ready y.plan y.ready (seen_still (length supplies) rooms rooms' upper still);
    }

    -- what was asked is one of the two
    pub told_ready : ReadyDesk arcs supplies rooms ways → AskedOf arcs supplies rooms ways (Ok tt)
    told_ready y = record { balances = λ e. y; lacks = λ s e. absurd (cc) }

    pub told_short : {s : Shortage} → ShortBy (plan_of arcs supplies) s.value (holds s.set) → AskedOf arcs supplies rooms ways (Err s)
    told_short {s = s} m = record {
      balances = λ e. absurd (cc);
      lacks = λ other e. let same : s ≡ other = cc in rw same at m;
    }

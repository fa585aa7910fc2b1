-- The two ends of every arc make its narrowed range.
use Prim.Native.Nat.{ℕ, ◌≤◌, ◌<◌}
use mathlib.Core.Path.{◌≡◌}
use mathlib.Core.Bool.{true, false}
use mathlib.Core.List.{List}
use Rattle.rooms.specs.Room.{at}
use Rattle.plan.specs.Plan.{Plan, WellFormed}
use Rattle.plan.specs.Flow.{Narrowed}
use Rattle.plan.specs.Reason.{NarrowedEnd}
use Rattle.plan.proofs.Between.{every_count_occurs}
use Rattle.stand.specs.State.{Ready}
use Rattle.stand.proofs.Standing.{ready_flow}
use Rattle.narrow.specs.Answer.{Ranges}

pub both_ends : {p : Plan} {room : ℕ → ℕ → ℕ} (lows highs lows' highs' : List ℕ) → WellFormed p → Ready p room
    → ((k : ℕ) → k < p.arcs → NarrowedEnd p k false (at lows' k)) → ((i : ℕ) → p.arcs ≤ i → at lows' i ≡ at lows i)
    → ((k : ℕ) → k < p.arcs → NarrowedEnd p k true (at highs' k)) → ((i : ℕ) → p.arcs ≤ i → at highs' i ≡ at highs i)
    → Ranges p lows highs lows' highs'
both_ends {p} lows highs lows' highs' w y low_ends lows_past high_ends highs_past = record {
  has_flow = let (f, flows) = ready_flow w y in record { counts = f; flow = flows };
  narrowed = range;
  every_count = λ k l. every_count_occurs p w k l (at lows' k) (at highs' k) (range k l);
  lows_past = lows_past;
  highs_past = highs_past;
}
  where
    range : (k : ℕ) → k < p.arcs → Narrowed p k (at lows' k) (at highs' k)
    range k l = record { low_end = low_ends k l; high_end = high_ends k l }

-- What is free of an arc's width says where an end lies, and which set moved it there.
use Prim.Native.Nat.{ℕ, ◌-◌, ◌<◌}
use mathlib.Core.Path.{◌≡◌}
use mathlib.Core.Bool.{Bool, false}
use mathlib.Core.List.{List}
use native.Mathlib.Omega.{arith}
use Rattle.rooms.specs.Room.{seen}
use Rattle.across.specs.Free.{Free}
use Rattle.plan.specs.Plan.{Plan, Set, WellFormed}
use Rattle.stand.specs.State.{Ready}
use Rattle.one_arc.proofs.OneArc.{whole_end, own_standing, standing_loop, facing_end, facing_reason}
use Rattle.reason.specs.Freed.{Freed}

module _ {p : Plan} {k : ℕ} (w : WellFormed p) (l : k < p.arcs) where
  -- all of a self-loop's width is free
  pub loop_freed : {room : ℕ → ℕ → ℕ} {S : Set} → Ready p room → p.to k ≡ p.from k → (upper : Bool)
      → Freed p k upper (p.high k - p.low k) S
  loop_freed y loop upper = record {
    fits = omega arith;
    end = rw (whole_end upper (w.uncrossed k l)) (standing_loop (own_standing w l y) upper loop);
    reason = λ less. absurd (omega arith);
  }

  pub free_freed : (rooms : List ℕ) {free : ℕ} {S : Set} → Ready p (seen rooms false) → (upper : Bool)
      → Free p.nodes (seen rooms upper) (p.from k) (p.to k) (p.high k - p.low k) free S → Freed p k upper free S
  free_freed rooms y upper f = record {
    fits = f.fits;
    end = facing_end rooms (own_standing w l y) upper f;
    reason = facing_reason rooms (own_standing w l y) upper f;
  }

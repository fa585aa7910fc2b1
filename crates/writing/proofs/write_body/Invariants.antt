-- The loop writes one byte a turn.
use Prim.Native.Nat.{ℕ, ◌-◌, ◌≤◌}
use mathlib.Core.Path.{◌≡◌}
use mathlib.Core.List.{List}
use lib.ListN.{length}
use Rattle.plan.specs.Plan.{meant}
use Rattle.format.specs.Format.{first_edition, check_at, file_byte}
use Rattle.format.specs.Held.{place}
use Rattle.lists.specs.Written.{EntriesWritten}
use Rattle.writing.proofs.write_body.Given as goal

abbrev pub invariant-loop-i : goal.invariant-loop-i
invariant-loop-i l =
    (l.i ≤ check_at) × (length l.file ≡ length l.initial.file)
    × ((before : List ℕ) → EntriesWritten 0 (file_byte first_edition (meant l.network)) (place l.b 0) before l.initial.file
    → EntriesWritten 0 (file_byte first_edition (meant l.network)) (place l.b l.i) before l.file)

abbrev pub decreases-loop-i : goal.decreases-loop-i
decreases-loop-i l = check_at - l.i

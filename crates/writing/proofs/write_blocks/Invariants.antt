-- Block after block of the network's file stands.
use Prim.Native.Nat.{◌-◌, ◌≤◌}
use mathlib.Core.Path.{◌≡◌}
use lib.ListN.{length}
use Rattle.plan.specs.Plan.{meant}
use Rattle.format.specs.Format.{first_edition, file_byte}
use Rattle.format.specs.Held.{place}
use Rattle.lists.specs.Written.{EntriesWritten}
use Rattle.writing.proofs.write_blocks.Given as goal

abbrev pub invariant-loop-b : goal.invariant-loop-b
invariant-loop-b l =
    (l.b ≤ l.count) × (length l.file ≡ length l.initial.file)
    × EntriesWritten 0 (file_byte first_edition (meant l.network)) (place l.b 0) l.initial.file l.file

abbrev pub decreases-loop-b : goal.decreases-loop-b
decreases-loop-b l = l.count - l.b

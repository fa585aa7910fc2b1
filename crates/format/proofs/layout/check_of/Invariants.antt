-- The sum so far is the weighted sum of the bytes passed, and at most 510 times 255 for each.
use Rattle.std.proofs.Common.{◌≡◌, ◌*◌, ◌≤◌}
use Rattle.format.specs.Format.{weighted}
use Rattle.format.specs.Held.{byte}
use Rattle.format.proofs.layout.check_of.Given as goal

abbrev pub invariant-loop-i : goal.invariant-loop-i
invariant-loop-i l = (l.sum ≡ weighted (byte l.file l.b) l.i) × (l.sum ≤ l.i * 130050)

-- The check's verdict is the definition's; an accepted network's file is written block by block.
use mathlib.Core.Path.{sym, ◌∙◌}
use Prim.Native.Nat.{◌*◌}
use lib.Dec.{ltb}
use lib.ListN.{length}
use Rattle.plan.specs.Plan.{meant}
use Rattle.plan.proofs.Refusals.{accepted_well_formed}
use Rattle.writing.proofs.write.Goals as goal

pub write_blocks-requires-clause-plan : goal.write_blocks-requires-clause-plan
write_blocks-requires-clause-plan c =
    accepted_well_formed (meant c.args.network) (ltb (length c.args.file.now) (c.blocks_of-blocks.result * 512)) (sym c.check.ensures ∙ c.in_ok-check.was)

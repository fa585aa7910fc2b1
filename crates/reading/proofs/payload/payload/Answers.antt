-- An accepted request is for a block that is there; the part from its payload to its check is shown.
use Rattle.format.proofs.Places.{part_long}
use Prim.Native.Nat.{◌<◌}
use mathlib.Core.Path.{sym, ◌∙◌}
use Rattle.format.specs.Format.{first_edition}
use Rattle.blocks.specs.Rules.{blocks_in}
use Rattle.blocks.proofs.Order.{payload_there}
use native.Mathlib.Omega.{arith}
use Rattle.reading.proofs.payload.payload.Goals as goal
use Rattle.reading.proofs.payload.payload.Goals.{In-Ok}

-- the block is there
there : (c : In-Ok) → c.args.block < blocks_in c.args.file.now
there c = payload_there first_edition c.args.file.now c.args.block (sym c.payload_number.ensures ∙ c.in-Ok.is)

pub returns-in_default : goal.returns-in_default
returns-in_default c = rw (sym c.payload_number.ensures ∙ c.in_default.is)

pub overflow_mul-start : goal.overflow_mul-start
overflow_mul-start c = record { fits = omega (arith, there (goal.at.overflow_mul-start c).In-Ok, c.well_formed) }

pub overflow_add-start : goal.overflow_add-start
overflow_add-start c = record { fits = omega (arith, there (goal.at.overflow_add-start c).In-Ok, c.well_formed) }

pub overflow_mul-end : goal.overflow_mul-end
overflow_mul-end c = record { fits = omega (arith, there (goal.at.overflow_mul-end c).In-Ok, c.well_formed) }

pub overflow_add-end : goal.overflow_add-end
overflow_add-end c = record { fits = omega (arith, there (goal.at.overflow_add-end c).In-Ok, c.well_formed) }

pub slice_bounds-result-end-2 : goal.slice_bounds-result-end-2
slice_bounds-result-end-2 c = omega (arith, there (goal.at.slice_bounds-result-end-2 c).In-Ok)

pub returns : goal.returns
returns c = rw (sym c.payload_number.ensures ∙ c.in-Ok.is, part_long)

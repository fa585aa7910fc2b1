-- The part of the block, or nothing; where it starts is small by the requires.
use Prim.Native.Nat.{◌≤◌}
use Rattle.format.specs.Format.{first_edition, payload_at}
use Rattle.format.specs.Held.{place}
use native.Mathlib.Omega.{arith}
use Rattle.crossing.proofs.answer.Answer.of_payload.Goals as goal
use Rattle.crossing.proofs.answer.Answer.of_payload.Goals.{In-Ok}

-- the payload starts within the longest file
within : (c : In-Ok) → place c.args.block payload_at ≤ first_edition.longest
within c = rw c.in-Ok.is at c.requires

pub overflow_mul-block : goal.overflow_mul-block
overflow_mul-block c = record { fits = omega (arith, within (goal.at.overflow_mul-block c).In-Ok) }

pub overflow_add-block : goal.overflow_add-block
overflow_add-block c = record { fits = omega (arith, within (goal.at.overflow_add-block c).In-Ok) }

pub told-requires : goal.told-requires
told-requires c = (within (goal.at.told-requires c).In-Ok, omega arith)

pub returns-in-Ok : goal.returns-in-Ok
returns-in-Ok c = rw c.in-Ok.is c.told.ensures

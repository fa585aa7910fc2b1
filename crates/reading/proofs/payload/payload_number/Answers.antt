-- The file's own number comes first, then 8.
use Rattle.std.proofs.lemmas.Result.{err_from_is_err_and}
use Rattle.format.specs.Format.{first_edition}
use Rattle.blocks.proofs.Order.{file_turns_down, missing_turns_down, block_there}
use Rattle.reading.proofs.payload.payload_number.Goals as goal

pub returns-in_err-check_file : goal.returns-in_err-check_file
returns-in_err-check_file c =
    let e = err_from_is_err_and c.from_residual.result c.from_residual.ensures.1 in
    rw (e.1, e.2) (file_turns_down first_edition c.args.file.now c.args.block c.check_file.ensures c.in_err-check_file.was)

pub returns-then-file-block : goal.returns-then-file-block
returns-then-file-block c = rw c.whole.ensures (missing_turns_down first_edition c.args.file.now c.args.block c.check_file.ensures c.in_ok-check_file.was c.if-file-block.true)

pub returns : goal.returns
returns c = block_there first_edition c.args.file.now c.args.block c.check_file.ensures c.in_ok-check_file.was c.if-file-block.false

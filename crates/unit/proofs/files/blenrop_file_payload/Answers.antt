-- The part is that of the verdict, and it starts within the longest file.
use Rattle.unit.proofs.FilePlaces.{part_small, part_answers}
use Rattle.unit.proofs.files.blenrop_file_payload.Goals as goal

pub of_payload-requires : goal.of_payload-requires
of_payload-requires c = part_small c.args.file.now c.args.block _ c.payload_number.ensures

pub returns : goal.returns
returns c =
    let asked = c.args in record {
      answer = _;
      answers = part_answers asked.file.now asked.block _ c.payload_number.ensures;
      crossed_is = c.of_payload.ensures;
    }

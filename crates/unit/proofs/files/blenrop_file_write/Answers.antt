-- The answer is the request's own, and the numbers in it are small.
use Rattle.unit.proofs.FilePlaces.{write_small}
use Rattle.unit.proofs.files.blenrop_file_write.Goals as goal

pub of_written-requires : goal.of_written-requires
of_written-requires c = let all = write_small _ c.write.ensures in record { place = all.0; value = all.1 }

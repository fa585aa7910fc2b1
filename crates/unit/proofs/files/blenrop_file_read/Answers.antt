-- The answer is the request's own, and the numbers in it are small.
use Rattle.unit.proofs.FilePlaces.{read_small}
use Rattle.unit.proofs.files.blenrop_file_read.Goals as goal

pub of_read-requires : goal.of_read-requires
of_read-requires c = let all = read_small _ c.read.ensures in record { place = all.0; value = all.1 }

-- The lists hold the plan of the file, so what is said of them is said of it.
use mathlib.Core.Path.{◌≡◌}
use native.Mathlib.Omega.{arith}
use Rattle.lists.proofs.Same.{written_limits}
use Rattle.format.specs.Format.{first_edition}
use Rattle.format.specs.Held.{held}
use Rattle.reading.proofs.check_held.Goals as goal

pub returns : goal.returns
returns c =
    let size = c.args.size in
    let p = held first_edition c.args.file.now in
    let nodes : size.nodes ≡ p.nodes = c.requires.counts.0 in
    let count : size.arcs ≡ p.arcs = c.requires.counts.1 in
    let sound = c.requires.file.counts in
    let supplies = rw nodes at c.fill_supplies.ensures in
    let arcs = rw count at c.fill_arcs.ensures in
    written_limits arcs supplies (omega (arith, count, sound.arcs_fit, arcs.same_length)) (omega (arith, nodes, sound.nodes_fit, supplies.same_length))
    (rw (nodes, count) at c.check_limits.ensures)

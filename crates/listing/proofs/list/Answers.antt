-- The plan that was read fits the lists that were lent.
use Rattle.std.proofs.Common.{sym}
use lib.Seq.{length-take-le}
use Rattle.file.proofs.Fitting.{nodes_fit, arcs_fit}
use Rattle.listing.proofs.list.Goals as goal

pub slice_bounds-arcs-end : goal.slice_bounds-arcs-end
slice_bounds-arcs-end g c = arcs_fit c.in-Ok.ensures

pub slice_bounds-network-end : goal.slice_bounds-network-end
slice_bounds-network-end g c = sym (length-take-le _ _ (arcs_fit c.in-Ok.ensures))

pub slice_bounds-supplies-end : goal.slice_bounds-supplies-end
slice_bounds-supplies-end g c = nodes_fit c.in-Ok.ensures

pub slice_bounds-network-end-in-Ok : goal.slice_bounds-network-end-in-Ok
slice_bounds-network-end-in-Ok g c = sym (length-take-le _ _ (nodes_fit c.in-Ok.ensures))

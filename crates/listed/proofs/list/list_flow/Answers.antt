-- Narrowing gives the ranges of a plan that has a flow; then the size, and the arcs.
use Prim.Native.Nat.{ℕ, ◌/◌, ◌<◌}
use lib.ListN.{length, get_or}
use mathlib.Core.List.{◌++◌}
use Rattle.text.specs.Page.{RoomFor}
use Rattle.text.proofs.Printing.{then_printed_on, first_printable, then_printable}
use Rattle.plan.specs.Limits.{arc_entries}
use Rattle.plan.specs.Plan.{meant}
use Rattle.plan.specs.Flow.{Narrowed}
use Rattle.lines.specs.Lines.{size_line}
use Rattle.lines.specs.Rows.{arc_rows}
use Rattle.listed.proofs.Listed.{ranges_told, flow_listing, flow_printable}
use native.Mathlib.Omega.{arith}
use Rattle.listed.proofs.list.list_flow.Goals as goal
use Rattle.listed.proofs.list.list_flow.Goals.{After-size-size}

ranges : (c : After-size-size) → (k : ℕ) → k < length c.args.network.arcs.now / arc_entries
    → Narrowed (meant c.args.network) k (get_or c.narrow.new.lows k 0) (get_or c.narrow.new.highs k 0)
ranges c =
    let w = c.requires.plan in
    ranges_told w c.requires.first (omega (arith, w.arcs_fit)) (omega (arith, w.arcs_fit)) c.narrow.result c.narrow.ensures

page-takes : (c : After-size-size) → RoomFor (size_line c.size-size.result.nodes c.size-size.result.arcs
    ++ arc_rows c.args.network.arcs.now c.args.counts.now c.narrow.new.lows c.narrow.new.highs) c.args.page.now
page-takes c = flow_printable c.requires.plan c.requires.first (ranges c) c.size-size.ensures c.requires.page

pub print_size-requires : goal.print_size-requires
print_size-requires c = first_printable _ (page-takes (goal.at.print_size-requires c).After-size-size)

pub print_arcs-requires-clause-page : goal.print_arcs-requires-clause-page
print_arcs-requires-clause-page c =
    then_printable (page-takes (goal.at.print_arcs-requires-clause-page c).After-size-size) c.print_size.ensures

pub returns : goal.returns
returns c =
    record {
      text = _;
      meant = flow_listing c.requires.plan c.requires.first (ranges (goal.at.returns c).After-size-size) c.size-size.ensures;
      printed = then_printed_on c.print_size.ensures c.print_arcs.ensures;
    }

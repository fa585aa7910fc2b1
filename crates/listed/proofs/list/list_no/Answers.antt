-- The size, the shortfall, the set, and what is cited.
use mathlib.Core.List.{◌++◌}
use lib.ListN.{length}
use Rattle.text.specs.Page.{RoomFor}
use Rattle.text.proofs.Printing.{then_printed_on, first_printable, then_printable}
use Rattle.lines.specs.Lines.{size_line, none_line, set_line}
use Rattle.lines.specs.Rows.{marked, cited_rows}
use Rattle.listed.proofs.Listed.{marked_listing, marked_printable}
use native.Mathlib.Omega.{arith}
use Rattle.listed.proofs.list.list_no.Goals as goal
use Rattle.listed.proofs.list.list_no.Goals.{After-size-size}

page-takes : (c : After-size-size) → RoomFor
    (size_line c.size-size.result.nodes c.size-size.result.arcs ++ none_line c.args.shortfall
    ++ set_line (length c.args.node_marks.now) (marked c.args.node_marks.now)
    ++ cited_rows c.args.network.arcs.now c.args.arc_marks.now) c.args.page.now
page-takes c =
    marked_printable c.requires.plan c.requires.marks c.size-size.ensures (omega (arith, c.ranges.shortfall.fits)) c.requires.page

pub print_size-requires : goal.print_size-requires
print_size-requires c =
    first_printable _ (first_printable _ (first_printable _ (page-takes (goal.at.print_size-requires c).After-size-size)))

pub print_none-requires : goal.print_none-requires
print_none-requires c =
    then_printable (first_printable _ (first_printable _ (page-takes (goal.at.print_none-requires c).After-size-size)))
    c.print_size.ensures

pub print_set-requires : goal.print_set-requires
print_set-requires c =
    then_printable (first_printable _ (page-takes (goal.at.print_set-requires c).After-size-size))
    (then_printed_on c.print_size.ensures c.print_none.ensures)

pub print_all_cited-requires-clause-page : goal.print_all_cited-requires-clause-page
print_all_cited-requires-clause-page c =
    then_printable (page-takes (goal.at.print_all_cited-requires-clause-page c).After-size-size)
    (then_printed_on (then_printed_on c.print_size.ensures c.print_none.ensures) c.print_set.ensures)

pub returns : goal.returns
returns c =
    record {
      text = _;
      meant = marked_listing c.requires.plan c.requires.marks c.size-size.ensures;
      printed =
          then_printed_on (then_printed_on (then_printed_on c.print_size.ensures c.print_none.ensures) c.print_set.ensures)
          c.print_all_cited.ensures;
    }

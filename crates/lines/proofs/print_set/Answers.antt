-- A word, then the nodes, one a turn: a marked node has its field, another nothing. Then a line feed.
use Prim.Native.Nat.{ℕ}
use mathlib.Core.Path.{◌≡◌, refl}
use mathlib.Core.List.{[], ◌∷◌}
use lib.ListN.{length}
use native.Mathlib.Omega.{arith}
use borrow.Author.Tests.{eq-eqb, ne_eqb}
use Rattle.text.specs.Texts.{texts, field, fields}
use Rattle.text.specs.Page.{PrintedOn}
use Rattle.text.proofs.Printing.{nothing_printed, then_printed_on, first_printable, then_printable, none_printed, next_printable, next_printed_on}
use Rattle.lines.specs.Lines.{member}
use Rattle.lines.specs.Rows.{marked}
use Rattle.lines.proofs.print_set.Goals as goal
use Rattle.lines.proofs.print_set.Goals.{then-mark-eq1, else-mark-eq1}

one_field : (x : ℕ) → fields (x ∷ []) ≡ field x
unfolding texts
one_field x = refl

pub loop-v-init : goal.loop-v-init
loop-v-init c = none_printed _

pub print_fields-requires : goal.print_fields-requires
print_fields-requires c =
    let room = then_printable (first_printable _ c.requires) c.print_word.ensures in
    let here = next_printable (member (marked c.args.marks.now)) _ room c.loop-v-test.true c.loop-v.invariant in
    rw (one_field c.loop-v.v) (rw (eq-eqb _ _ c.if-mark-eq1.true) at here)

pub loop-v-preserved : goal.loop-v-preserved
loop-v-preserved c =
    let here : PrintedOn (member (marked c.args.marks.now) c.loop-v.v) c.loop-v.page c.if-mark-eq1.page =
    elim c.if-mark-eq1.branch [
      | then-mark-eq1 w ↦ rw (w.page-is, eq-eqb _ _ w.if-mark-eq1.true) (rw (one_field c.loop-v.v) at w.print_fields.ensures)
      | else-mark-eq1 w ↦ rw (w.page-is, ne_eqb _ _ w.if-mark-eq1.false) nothing_printed
    ] in
    next_printed_on (member (marked c.args.marks.now)) c.loop-v.invariant here

pub returns : goal.returns
returns c =
    let all : c.loop-v.v ≡ length c.args.marks.now = omega arith in
    then_printed_on (then_printed_on c.print_word.ensures (rw all at c.loop-v.invariant)) c.print_word-2.ensures

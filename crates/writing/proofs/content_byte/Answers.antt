-- Block 0 is the head.
use borrow.Author.Rules.{rules}
use lib.IntN.{pos}
use mir.Syntax.{w32}
use mir.Facts.{to_z-of_z}
use Prim.Native.Nat.{◌/◌}
use mathlib.Core.Path.{◌∙◌}
use lib.ListN.{length, get_or}
use borrow.Author.Tests.{eq-eqb, ne_eqb}
use Rattle.format.specs.Format.{first_edition}
use Rattle.format.proofs.Places.{inside_head, inside_arcs}
use native.Mathlib.Omega.{arith}
use Rattle.writing.proofs.content_byte.Goals as goal

pub bounds-network-j : goal.bounds-network-j
bounds-network-j c =
    let a = c.args in
    omega (arith, inside_head first_edition (length a.network.supplies.now) (length a.network.arcs.now / 4) a.b a.j c.requires.place.1 c.if-b-eq0.true)

pub returns-then-b-eq0 : goal.returns-then-b-eq0
returns-then-b-eq0 c =
    let a = c.args in
    let supply = get_or a.network.supplies.now (a.j / 4) (pos 0) in
    c.digit.ensures ∙ rw (c.unsigned-supply.ensures, to_z-of_z {w = w32} {z = supply} (record { sfits = search rules }), eq-eqb a.b 0 c.if-b-eq0.true)

pub record_byte-requires : goal.record_byte-requires
record_byte-requires c =
    let a = c.args in
    let inside = inside_arcs first_edition (length a.network.supplies.now) (length a.network.arcs.now / 4) a.b a.j c.requires.place.1 c.if-b-eq0.false in
    record {
      plan = c.requires.plan;
      place = (omega (arith, inside), omega arith);
    }

pub returns : goal.returns
returns c = c.record_byte.ensures ∙ rw (ne_eqb c.args.b 0 c.if-b-eq0.false)

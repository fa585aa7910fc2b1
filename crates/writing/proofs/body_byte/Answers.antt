-- The tests, one after the other, are the definition's.
use Rattle.format.proofs.Places.{at_label, body_content, body_unused}
use Rattle.format.specs.Format.{first_edition}
use Rattle.plan.specs.Plan.{meant}
use Prim.Native.Nat.{◌+◌, ◌-◌}
use mathlib.Core.Path.{◌≡◌, sym, ap, ◌∙◌}
use native.Mathlib.Omega.{arith}
use Rattle.writing.proofs.body_byte.Goals as goal

pub returns-then-i-lt-PAYLOAD_AT : goal.returns-then-i-lt-PAYLOAD_AT
returns-then-i-lt-PAYLOAD_AT c =
    let a = c.args in
    at_label first_edition (meant a.network) a.b a.i c.if-i-lt-PAYLOAD_AT.true (rw c.requires.block.0 at c.packed.ensures)

pub content_byte-requires : goal.content_byte-requires
content_byte-requires c =
    let back : 6 + (c.args.i - 6) ≡ c.args.i = omega (arith, c.if-i-lt-PAYLOAD_AT.false) in
    record {
      plan = c.requires.plan;
      place = (c.requires.block.1, rw (back, ← ap (λ x. x.end) c.requires.block.0) c.if-i-block.true);
    }

pub returns-then-i-block : goal.returns-then-i-block
returns-then-i-block c =
    let a = c.args in
    let inside = rw (ap (λ x. x.end) c.requires.block.0) at c.if-i-block.true in
    c.content_byte.ensures ∙ sym (body_content first_edition (meant a.network) a.b a.i c.if-i-lt-PAYLOAD_AT.false inside)

pub returns : goal.returns
returns c =
    let a = c.args in
    let past = rw (ap (λ x. x.end) c.requires.block.0) at c.if-i-block.false in
    sym (body_unused first_edition (meant a.network) a.b a.i past)

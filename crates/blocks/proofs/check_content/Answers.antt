-- A wrong number of blocks comes first.
use mathlib.Core.Path.{sym, ◌∙◌}
use borrow.Author.Rules.{rules}
use Rattle.format.specs.Format.{first_edition}
use Rattle.blocks.specs.Rules.{content_wrong}
use Rattle.blocks.proofs.Order.{blocks_refused, contents_decide}
use Rattle.blocks.proofs.check_content.Goals as goal

pub returns-then-count-blocks_of : goal.returns-then-count-blocks_of
returns-then-count-blocks_of c =
    let a = c.args in
    rw c.whole.ensures (blocks_refused first_edition a.nodes a.arcs a.file.now (λ e. c.if-count-blocks_of.true (e ∙ sym c.blocks_of.ensures)))

pub returns : goal.returns
returns c =
    let a = c.args in
    c.refuse.ensures (content_wrong first_edition a.nodes a.arcs a.file.now) (λ b told l h. search rules)
    ∙ contents_decide first_edition a.nodes a.arcs a.file.now (c.if-count-blocks_of.false ∙ c.blocks_of.ensures)

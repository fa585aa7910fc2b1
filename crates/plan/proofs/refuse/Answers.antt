-- The first place that is concerned is the lowest; or none is.
use mathlib.Core.Path.{sym}
use borrow.Author.Rules.{rules}
use Rattle.plan.specs.Verdict.{Accepted}
use Rattle.plan.proofs.Refusals.{lowest_found, lowest_none}
use Rattle.plan.proofs.refuse.Goals as goal

pub returns-then-concerns : goal.returns-then-concerns
returns-then-concerns g c = λ test told. rw c.at.ensures (sym (lowest_found c.args.fault test c.args.places Accepted c.loop-i.i (search rules) (sym (told _ _ (search rules) c.if-concerns.ensures)) (λ k l. sym (told k _ (search rules) (c.loop-i.invariant k l)))))

pub returns : goal.returns
returns g c = λ test told. sym (lowest_none c.args.fault test c.args.places Accepted (λ k l. sym (told k _ l (c.loop-i.invariant k (search rules)))))

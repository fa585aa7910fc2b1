-- The loop writes one entry a turn: below i the entries are what the rule gives, and from i on they are as they were.
use Rattle.lists.specs.Written.{EntriesHold}
use Rattle.lists.proofs.write_first.Given as goal

abbrev pub invariant-loop-i : goal.invariant-loop-i
invariant-loop-i g l = (other : g.row.T.Denot) → EntriesHold other (λ i x. goal.F-post g l.entry i x) l.i l.initial.list l.list

-- The lowest bit that is 1, and the word without it.
use Rattle.words.proofs.Bits.{first_taken}
use native.Mathlib.Omega.{arith}
use Rattle.words.proofs.take_first.Goals as goal

pub overflow_cast-first : goal.overflow_cast-first
overflow_cast-first c = record { fits = omega (arith, (first_taken c.args.word (omega arith) (omega arith)).in_word) }

pub returns : goal.returns
returns c = first_taken c.args.word (omega arith) (omega arith)

-- The payload of a block as C is told of it: where it starts in the file, and how long it is.
use Rattle.std.specs.Prelude.{ℕ, ◌-◌, ◌≡◌, List, take, drop, Ok, Err}
use Rattle.plan.specs.Verdict.{Verdict, Accepted}
use Rattle.format.specs.Format.{Edition, payload_at, check_at}
use Rattle.format.specs.Held.{place}
use Rattle.file.specs.Answer.{judged_block, payload_of}

-- a part of a file, and the verdict that it goes with
pub record Part : Type 0 where
  pub judged : Verdict
  pub start : ℕ
  pub size : ℕ

-- the bytes of the block from its payload to its check; nothing of a file or a block that is turned down
abbrev pub part_of : (block : ℕ) → Verdict → Part
part_of block (Ok u) = record { judged = Accepted; start = place block payload_at; size = check_at - payload_at }
part_of block (Err refusal) = record { judged = Err refusal; start = 0; size = 0 }

-- it is this part, and what stands there is the payload that the request in Rattle shows
pub record PayloadAnswers (e : Edition) (file : List ℕ) (block : ℕ) (part : Part) : Type 0 where
  pub part_is : part ≡ part_of block (judged_block e file block)
  pub shows : take part.size (drop part.start file) ≡ payload_of e file block

-- What reading, writing and the requests for a payload answer, in document 01's words, and what they leave in lent memory.
use Rattle.std.specs.Prelude.{ℕ, ◌-◌, ◌≡◌, List, [], ltb, ℤ, length, take, drop, Result, Ok, Err}
use Rattle.plan.specs.Plan.{Plan}
use Rattle.plan.specs.Verdict.{number_of, verdict, network_rules, lists_short, Verdict, Accepted}
use Rattle.lists.specs.Written.{EntriesWritten, SuppliesWritten, ArcsWritten}
use Rattle.format.specs.Format.{Edition, payload_at, check_at, file_length, file_byte}
use Rattle.format.specs.Held.{place, held}
use Rattle.blocks.specs.Rules.{reading_rules, payload_rules}
use Rattle.plan.specs.declared.Plan as size
use Rattle.plan.specs.declared.Refusal.{Refusal}

-- ---- reading

-- a file that was read has the size of its plan
abbrev pub Answer : Type 0
Answer = Result size.Plan Refusal

-- the number that document 01 gives each answer, 0 for a file that was read; the place that goes with it, or the node count; and
-- the arc count
abbrev pub number : Answer → ℕ
number (Ok plan) = 0
number (Err refusal) = number_of refusal.fault

abbrev pub read_place : Answer → ℕ
read_place (Ok plan) = plan.nodes
read_place (Err refusal) = refusal.place

abbrev pub arcs_read : Answer → ℕ
arcs_read (Ok plan) = plan.arcs
arcs_read (Err refusal) = 0

abbrev pub judged_file : Edition → List ℕ → List ℤ → List ℕ → Verdict
judged_file e file supplies arcs = verdict (reading_rules e file (lists_short (held e file) supplies arcs))

-- an accepted file's plan stands in the first entries; else nothing has changed
abbrev pub SaysRead : Edition → (file : List ℕ) → (supplies supplies' : List ℤ) → (arcs arcs' : List ℕ) → Answer → Type 0
SaysRead e file supplies supplies' arcs arcs' (Ok plan) =
    (judged_file e file supplies arcs ≡ Accepted) × (plan.nodes ≡ (held e file).nodes) × (plan.arcs ≡ (held e file).arcs)
    × SuppliesWritten (held e file) plan.nodes supplies supplies' × ArcsWritten (held e file) plan.arcs arcs arcs'
SaysRead e file supplies supplies' arcs arcs' (Err refusal) =
    (judged_file e file supplies arcs ≡ Err refusal) × (supplies' ≡ supplies) × (arcs' ≡ arcs)

pub record ReadAnswers (e : Edition) (file : List ℕ) (supplies supplies' : List ℤ) (arcs arcs' : List ℕ) (answer : Answer) : Type 0 where
  pub says : SaysRead e file supplies supplies' arcs arcs' answer

-- ---- writing

-- a file that was written has its length
abbrev pub Written : Type 0
Written = Result ℕ Refusal

-- the number, the index and the length, as for reading
abbrev pub written_number : Written → ℕ
written_number (Ok long) = 0
written_number (Err refusal) = number_of refusal.fault

abbrev pub written_index : Written → ℕ
written_index (Ok long) = 0
written_index (Err refusal) = refusal.place

abbrev pub written_length : Written → ℕ
written_length (Ok long) = long
written_length (Err refusal) = 0

-- the buffer is shorter than the file
abbrev pub judged_network : Edition → Plan → (file : List ℕ) → Verdict
judged_network e p file = verdict (network_rules p (ltb (length file) (file_length e p)))

-- the network's file stands in the first bytes; else nothing has changed
abbrev pub SaysWritten : Edition → Plan → (file file' : List ℕ) → Written → Type 0
SaysWritten e p file file' (Ok long) =
    (judged_network e p file ≡ Accepted) × (long ≡ file_length e p) × EntriesWritten 0 (file_byte e p) long file file'
SaysWritten e p file file' (Err refusal) = (judged_network e p file ≡ Err refusal) × (file' ≡ file)

pub record WriteAnswers (e : Edition) (p : Plan) (file file' : List ℕ) (answer : Written) : Type 0 where
  pub says : SaysWritten e p file file' answer

-- ---- payload

abbrev pub judged_block : Edition → List ℕ → (block : ℕ) → Verdict
judged_block e file block = verdict (payload_rules e file block)

-- a part is shown only where the number is 0
abbrev pub shown : Verdict → List ℕ → List ℕ
shown (Ok u) part = part
shown (Err refusal) part = []

-- the bytes of a block from its payload to its check, as they stand in the file
abbrev pub payload_of : Edition → List ℕ → (block : ℕ) → List ℕ
payload_of e file block = shown (judged_block e file block) (take (check_at - payload_at) (drop (place block payload_at) file))

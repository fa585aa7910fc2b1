-- What a file is turned down for: document 01's rules for reading, in their order, and those of a request for a block.
use Rattle.std.specs.Prelude.{ℕ, zero, suc, ◌/◌, ◌%◌, ◌≡◌, Bool, false, ◌||◌, ◌&&◌, not, List, [], ◌∷◌, ◌++◌, leb, ltb, eqb, length}
use Rattle.plan.specs.declared.Fault.TheVariants.{Buffer, Missing, FileLength, FileCheck, FileLabel, FileContent}
use Rattle.plan.specs.Verdict.{Rule, whole, verdict, count_rules, limit_rules, Accepted}
use Rattle.format.specs.Format.{Edition, block_size, kind_at, number_at, first_at, second_at, check_at, blocks_of, kind_of, first_count, second_count, content_end, check_of}
use Rattle.format.specs.Held.{two, place, byte, held}

-- some index below n passes a test
unfoldable pub any : ℕ → (ℕ → Bool) → Bool
any zero test = false
any (suc n) test = any n test || test n

abbrev pub blocks_in : List ℕ → ℕ
blocks_in file = length file / block_size

-- length 0, above the longest, or not a multiple of the block size
abbrev pub length_wrong : Edition → List ℕ → Bool
length_wrong e file = eqb (length file) 0 || (ltb e.longest (length file) || not (eqb (length file % block_size) 0))

abbrev pub check_wrong : List ℕ → (b : ℕ) → Bool
check_wrong file b = not (eqb (two file (place b check_at)) (check_of (byte file b)))

-- the kind or the number of block b is not its own
abbrev pub label_wrong : Edition → List ℕ → (b : ℕ) → Bool
label_wrong e file b = not (eqb (byte file b kind_at) (kind_of e b)) || not (eqb (byte file b number_at) b)

-- the counts of block b are not those of a plan of that many nodes and arcs
abbrev pub counts_wrong : Edition → (nodes arcs : ℕ) → List ℕ → (b : ℕ) → Bool
counts_wrong e nodes arcs file b =
    not (eqb (two file (place b first_at)) (first_count e nodes arcs b)) || not (eqb (two file (place b second_at)) (second_count arcs b))

-- a byte from `end` to the check is not 0
abbrev pub unused_wrong : (end : ℕ) → List ℕ → (b : ℕ) → Bool
unused_wrong end file b = any check_at (λ i. leb end i && not (eqb (byte file b i) 0))

abbrev pub content_wrong : Edition → (nodes arcs : ℕ) → List ℕ → (b : ℕ) → Bool
content_wrong e nodes arcs file b = counts_wrong e nodes arcs file b || unused_wrong (content_end e nodes arcs b) file b

-- 11; 12 and 13 with the lowest block
abbrev pub shape_rules : Edition → List ℕ → List Rule
shape_rules e file =
    whole FileLength (length_wrong e file)
    ∷ record { fault = FileCheck; places = blocks_in file; concerns = check_wrong file }
    ∷ record { fault = FileLabel; places = blocks_in file; concerns = label_wrong e file }
    ∷ []

-- 14: the number of blocks first, then the lowest block with a wrong count or an unused byte
abbrev pub content_rules : Edition → (nodes arcs : ℕ) → List ℕ → List Rule
content_rules e nodes arcs file =
    whole FileContent (not (eqb (blocks_in file) (blocks_of e arcs)))
    ∷ record { fault = FileContent; places = blocks_in file; concerns = content_wrong e nodes arcs file }
    ∷ []

-- what is looked at before the buffers: 11, 12, 13, 1, 2, 14
abbrev pub block_rules : Edition → List ℕ → List Rule
block_rules e file = shape_rules e file ++ (count_rules (held e file) ++ content_rules e (held e file).nodes (held e file).arcs file)

-- for reading: 11, 12, 13, 1, 2, 14, 3, 4, 5, 6, 7
abbrev pub reading_rules : Edition → List ℕ → (short : Bool) → List Rule
reading_rules e file short = block_rules e file ++ (whole Buffer short ∷ limit_rules (held e file))

-- reading it into buffers that are long enough gives no number
pub record FileAccepted (e : Edition) (file : List ℕ) : Type 0 where
  pub accepted : verdict (reading_rules e file false) ≡ Accepted

-- for a request about a block: the file's own number, then 8 where there is no such block
abbrev pub payload_rules : Edition → List ℕ → (block : ℕ) → List Rule
payload_rules e file block = reading_rules e file false ++ (whole Missing (leb (blocks_in file) block) ∷ [])

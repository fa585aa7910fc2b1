-- The plan file of document 01: the file of a network is a function of the network, byte by byte. The sizes that a later edition
-- changes, kinds, bytes an arc, arcs a block and the longest file, stand in one record; what an arc's record holds does not.
use Rattle.std.specs.Prelude.{ℕ, suc, ◌+◌, ◌-◌, ◌*◌, ◌/◌, ◌%◌, ◌^◌, ◌<◌, min, ◌≡◌, cond, List, ltb, eqb, ℤ, pos, negsuc, length, get_or}
use Rattle.numbers.specs.Sums.{sum}
use Rattle.plan.specs.Plan.{Plan}

pub record Edition : Type 0 where
  pub head_kind : ℕ
  pub arc_kind : ℕ
  pub record_size : ℕ
  pub block_arcs : ℕ
  pub longest : ℕ

-- document 01's: kinds 1 and 2, six bytes an arc, 84 arcs a block, 4,096 bytes at most
abbrev pub first_edition : Edition
first_edition = record { head_kind = 1; arc_kind = 2; record_size = 6; block_arcs = 84; longest = 4096 }

abbrev pub block_size : ℕ
block_size = 512

-- a block's kind and number, its two counts, its payload and its check begin at these bytes
abbrev pub kind_at : ℕ
kind_at = 0

abbrev pub number_at : ℕ
number_at = 1

abbrev pub first_at : ℕ
first_at = 2

abbrev pub second_at : ℕ
second_at = 4

abbrev pub payload_at : ℕ
payload_at = 6

abbrev pub check_at : ℕ
check_at = 510

abbrev pub check_modulus : ℕ
check_modulus = 65521

-- a supply takes so many bytes
abbrev pub supply_size : ℕ
supply_size = 4

-- ---- numbers in bytes

-- byte d of a number, low byte first
abbrev pub digit : (x d : ℕ) → ℕ
digit x d = x / 256 ^ d % 256

-- six bytes: two numbers of one byte each, then two of two bytes each
abbrev pub packed : (a b c d i : ℕ) → ℕ
packed a b c d i = cond (eqb i 0) a (cond (eqb i 1) b (cond (ltb i 4) (digit c (i - 2)) (digit d (i - 4))))

-- a signed number in four bytes: two's complement
abbrev pub unsigned : ℤ → ℕ
unsigned (pos n) = n
unsigned (negsuc n) = 2 ^ 32 - suc n

-- ---- a block, byte by byte

-- the head, and as many arc blocks as the arcs need
abbrev pub blocks_of : Edition → (arcs : ℕ) → ℕ
blocks_of e arcs = 1 + (arcs + (e.block_arcs - 1)) / e.block_arcs

-- the arcs that stand before arc block b, and how many stand in it: all blocks but the last are full
abbrev pub arcs_before : Edition → (b : ℕ) → ℕ
arcs_before e b = (b - 1) * e.block_arcs

abbrev pub arcs_in : Edition → (arcs b : ℕ) → ℕ
arcs_in e arcs b = min e.block_arcs (arcs - arcs_before e b)

-- block 0 is the head
abbrev pub kind_of : Edition → (b : ℕ) → ℕ
kind_of e b = cond (eqb b 0) e.head_kind e.arc_kind

-- bytes 2 and 3: of the head the node count, of an arc block the arcs in it
abbrev pub first_count : Edition → (nodes arcs b : ℕ) → ℕ
first_count e nodes arcs b = cond (eqb b 0) nodes (arcs_in e arcs b)

-- bytes 4 and 5: of the head the arc count, of an arc block 0
abbrev pub second_count : (arcs b : ℕ) → ℕ
second_count arcs b = cond (eqb b 0) arcs 0

-- bytes 0 to 5: kind, number, and the two counts
abbrev pub label_byte : Edition → (nodes arcs b i : ℕ) → ℕ
label_byte e nodes arcs b i = packed (kind_of e b) b (first_count e nodes arcs b) (second_count arcs b) i

-- the record of arc k: from, to, low, high
abbrev pub record_byte : Plan → (k i : ℕ) → ℕ
record_byte p k i = packed (p.from k) (p.to k) (p.low k) (p.high k) i

-- byte j of a payload: of the head the supplies, of an arc block the records
abbrev pub content_byte : Edition → Plan → (b j : ℕ) → ℕ
content_byte e p b j =
    cond (eqb b 0) (digit (unsigned (p.supply (j / supply_size))) (j % supply_size))
    (record_byte p (arcs_before e b + j / e.record_size) (j % e.record_size))

-- the byte at which a block's content ends: those from there to the check are not used, and 0
abbrev pub content_end : Edition → (nodes arcs b : ℕ) → ℕ
content_end e nodes arcs b = payload_at + cond (eqb b 0) (nodes * supply_size) (arcs_in e arcs b * e.record_size)

-- the bytes that the check is over
abbrev pub body_byte : Edition → Plan → (b i : ℕ) → ℕ
body_byte e p b i =
    cond (ltb i payload_at) (label_byte e p.nodes p.arcs b i)
    (cond (ltb i (content_end e p.nodes p.arcs b)) (content_byte e p b (i - payload_at)) 0)

-- the sum of (i + 1) times byte i over the first n bytes
unfoldable pub weighted : (bytes : ℕ → ℕ) → ℕ → ℕ
weighted bytes n = sum n (λ i. (i + 1) * bytes i)

abbrev pub check_of : (bytes : ℕ → ℕ) → ℕ
check_of bytes = weighted bytes check_at % check_modulus

abbrev pub block_byte : Edition → Plan → (b i : ℕ) → ℕ
block_byte e p b i = cond (ltb i check_at) (body_byte e p b i) (digit (check_of (body_byte e p b)) (i - check_at))

-- ---- the file

abbrev pub file_length : Edition → Plan → ℕ
file_length e p = blocks_of e p.arcs * block_size

abbrev pub file_byte : Edition → Plan → (x : ℕ) → ℕ
file_byte e p x = block_byte e p (x / block_size) (x % block_size)

-- the file of a network
pub record FileOf (e : Edition) (p : Plan) (file : List ℕ) : Type 0 where
  pub long : length file ≡ file_length e p
  pub bytes : (x : ℕ) → x < file_length e p → get_or file x 0 ≡ file_byte e p x

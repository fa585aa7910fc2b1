-- What the bytes of a file say: the plan that it holds, be it the file of one or not.
use Rattle.std.specs.Prelude.{ℕ, suc, ◌+◌, ◌-◌, ◌*◌, ◌/◌, ◌%◌, ◌^◌, ◌<◌, cond, List, ltb, ℤ, pos, negsuc, get_or}
use Rattle.plan.specs.Plan.{Plan}
use Rattle.format.specs.Format.{Edition, block_size, first_at, second_at, payload_at, supply_size}

-- every entry is a byte
abbrev pub Bytes : List ℕ → Type 0
Bytes file = (x : ℕ) → get_or file x 0 < 256

-- numbers of one, two and four bytes, low byte first
abbrev pub one : List ℕ → (at : ℕ) → ℕ
one bytes at = get_or bytes at 0

abbrev pub two : List ℕ → (at : ℕ) → ℕ
two bytes at = one bytes at + 256 * one bytes (at + 1)

abbrev pub four : List ℕ → (at : ℕ) → ℕ
four bytes at = two bytes at + 65536 * two bytes (at + 2)

-- four bytes as a signed number: two's complement
abbrev pub signed : ℕ → ℤ
signed n = cond (ltb n (2 ^ 31)) (pos n) (negsuc (2 ^ 32 - suc n))

-- where byte i of block b stands, and where the record of arc k begins
abbrev pub place : (b i : ℕ) → ℕ
place b i = b * block_size + i

abbrev pub record_at : Edition → (k : ℕ) → ℕ
record_at e k = place (1 + k / e.block_arcs) (payload_at + k % e.block_arcs * e.record_size)

abbrev pub byte : List ℕ → (b i : ℕ) → ℕ
byte file b i = one file (place b i)

abbrev pub held : Edition → List ℕ → Plan
held e file = record {
  nodes = two file (place 0 first_at);
  arcs = two file (place 0 second_at);
  supply = λ v. signed (four file (place 0 (payload_at + v * supply_size)));
  from = λ k. one file (record_at e k);
  to = λ k. one file (record_at e k + 1);
  low = λ k. two file (record_at e k + 2);
  high = λ k. two file (record_at e k + 4);
}

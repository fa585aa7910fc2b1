-- Where things stand in a file, over the edition: the record of the j-th arc of a block, and the records in the part of the file
-- that is a block's payload.
use Prim.Native.Nat.{ℕ, ◌+◌, ◌-◌, ◌*◌, ◌%◌, ◌≤◌, ◌<◌}
use mathlib.Core.Path.{◌≡◌, sym, ap, ◌∙◌}
use mathlib.Core.List.{List}
use native.Mathlib.Omega.{arith}
use native.Mathlib.Nat.{mul-le-mul_right}
use lib.Arith.{digits_div, digits_mod}
use lib.ListN.{take, drop}
use lib.Seq.{get_or-take, get_or-drop}
use borrow.Author.Tests.{lt-ltb, le-ltb, eq-eqb, ne_eqb}
use Rattle.plan.specs.Plan.{Plan}
use Rattle.format.specs.Format.{Edition, block_size, payload_at, check_at, check_modulus, supply_size, digit, arcs_before, arcs_in, label_byte, content_byte, content_end, body_byte, block_byte, check_of, file_byte}
use Rattle.format.specs.Held.{one, two, place, record_at, held}
use Rattle.format.proofs.Weighted.{weighted_same}
use Rattle.format.specs.Records.{Records}

module _ (e : Edition) where
  -- the j-th arc of arc block b is arc `arcs_before e b + j`, and its record the j-th of the payload
  pub record_place : (b j : ℕ) → 1 ≤ b → j < e.block_arcs → record_at e (arcs_before e b + j) ≡ place b (payload_at + j * e.record_size)
  record_place b j some l =
      let back : 1 + (b - 1) ≡ b = omega arith in
      rw (digits_div (b - 1) l, digits_mod (b - 1) l, back)

-- how long a part of a block is, by where it starts and ends in the block
pub part_long : (x i j : ℕ) → x + j - (x + i) ≡ j - i
part_long x i j = omega arith

module _ (file : List ℕ) (start end : ℕ) where
  abbrev part : List ℕ
  part = take (end - start) (drop start file)

  pub part_byte : (x y : ℕ) → x < end - start → start + x ≡ y → one part x ≡ one file y
  part_byte x y l is = get_or-take (end - start) (drop start file) x 0 l ∙ get_or-drop start file x 0 ∙ ap (one file) is

  pub part_two : (x y : ℕ) → x + 1 < end - start → start + x ≡ y → two part x ≡ two file y
  part_two x y l is = rw (part_byte x y (omega arith) is, part_byte (x + 1) (y + 1) l (omega arith))

-- the records of a payload are arcs of the plan that the file holds
module _ (e : Edition) (file : List ℕ) (b count : ℕ) (some : 1 ≤ b) (few : count ≤ e.block_arcs) (wide : 6 ≤ e.record_size)
    (room : count * e.record_size ≤ check_at - payload_at) where
  abbrev payload : List ℕ
  payload = part file (place b payload_at) (place b check_at)

  within : (j t : ℕ) → j < count → t < e.record_size → j * e.record_size + t < check_at - payload_at
  within j t l lt = omega (arith, mul-le-mul_right e.record_size l, room)

  begins : (j : ℕ) → j < count → record_at e (arcs_before e b + j) ≡ place b (payload_at + j * e.record_size)
  begins j l = record_place e b j some (omega arith)

  pub payload_records : Records e (held e file) (arcs_before e b) count payload
  payload_records = record {
    from_is = λ j l. part_byte file (place b payload_at) (place b check_at) (j * e.record_size) (record_at e (arcs_before e b + j))
        (omega (arith, within j 0 l (omega arith))) (omega (arith, begins j l));
    to_is = λ j l. part_byte file (place b payload_at) (place b check_at) (j * e.record_size + 1) (record_at e (arcs_before e b + j) + 1)
        (omega (arith, within j 1 l (omega arith))) (omega (arith, begins j l));
    low_is = λ j l. part_two file (place b payload_at) (place b check_at) (j * e.record_size + 2) (record_at e (arcs_before e b + j) + 2)
        (omega (arith, within j 3 l (omega arith))) (omega (arith, begins j l));
    high_is = λ j l. part_two file (place b payload_at) (place b check_at) (j * e.record_size + 4) (record_at e (arcs_before e b + j) + 4)
        (omega (arith, within j 5 l (omega arith))) (omega (arith, begins j l));
  }

-- ---- the file of a network, block by block

module _ (e : Edition) (p : Plan) (b : ℕ) where
  pub file_at : (i : ℕ) → i < block_size → file_byte e p (place b i) ≡ block_byte e p b i
  file_at i l = rw (digits_div b l, digits_mod b l)

  pub body_at : (i : ℕ) → i < check_at → file_byte e p (place b i) ≡ body_byte e p b i
  body_at i l = file_at i (omega arith) ∙ rw (lt-ltb i check_at l)

  pub at_body : (i : ℕ) → i < check_at → {x : ℕ} → x ≡ body_byte e p b i → x ≡ file_byte e p (place b i)
  at_body i l is = is ∙ sym (body_at i l)

  -- the three parts of a body
  pub body_label : (i : ℕ) → i < payload_at → body_byte e p b i ≡ label_byte e p.nodes p.arcs b i
  body_label i l = rw (lt-ltb i payload_at l)

  pub at_label : (i : ℕ) → i < payload_at → {x : ℕ} → x ≡ label_byte e p.nodes p.arcs b i → x ≡ body_byte e p b i
  at_label i l is = is ∙ sym (body_label i l)

  pub body_content : (i : ℕ) → payload_at ≤ i → i < content_end e p.nodes p.arcs b → body_byte e p b i ≡ content_byte e p b (i - payload_at)
  body_content i l inside = rw (le-ltb i payload_at l, lt-ltb i (content_end e p.nodes p.arcs b) inside)

  pub body_unused : (i : ℕ) → content_end e p.nodes p.arcs b ≤ i → body_byte e p b i ≡ 0
  body_unused i past = rw (le-ltb i payload_at (omega arith), le-ltb i (content_end e p.nodes p.arcs b) past)

  pub check_low : file_byte e p (place b check_at) ≡ digit (check_of (body_byte e p b)) 0
  check_low = file_at check_at (omega arith)

  pub check_high : file_byte e p (place b check_at + 1) ≡ digit (check_of (body_byte e p b)) 1
  check_high =
      let next : place b check_at + 1 ≡ place b (check_at + 1) = omega arith in
      ap (file_byte e p) next ∙ file_at (check_at + 1) (omega arith)

-- bytes that agree before the check have one check
pub check_same : (f g : ℕ → ℕ) → ((i : ℕ) → i < check_at → f i ≡ g i) → check_of f ≡ check_of g
check_same f g same = ap (λ s. s % check_modulus) (weighted_same f g check_at same)

-- what stands inside the content of the head, and of an arc block
module _ (e : Edition) (nodes arcs b j : ℕ) (inside : payload_at + j < content_end e nodes arcs b) where
  pub inside_head : b ≡ 0 → j < nodes * supply_size
  inside_head is = omega (arith, rw (eq-eqb b 0 is) at inside)

  pub inside_arcs : (b ≡ 0 → ⊥) → j < arcs_in e arcs b * e.record_size
  inside_arcs is = omega (arith, rw (ne_eqb b 0 is) at inside)

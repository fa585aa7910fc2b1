-- A network has exactly one file, and an accepted file is the file of its network. One way, the bytes of a file that no rule turns
-- down are those of the file of the plan that it holds; the other way, the file of a well-formed plan is turned down by no rule and
-- holds that plan.
use Prim.Native.Nat.{ℕ, zero, suc, ◌+◌, ◌-◌, ◌*◌, ◌/◌, ◌%◌, ◌<◌}
use mathlib.Core.Path.{◌≡◌, refl, sym, ap, ◌∙◌}
use mathlib.Core.Bool.{false}
use mathlib.Core.List.{List, [], ◌∷◌, ◌++◌}
use mathlib.Core.Logic.{by_cases, ⊎_elim}
use native.Mathlib.Omega.{arith}
use native.Mathlib.Decide.{ℕ_discrete, dec_lt}
use lib.ListN.{length, length-append, get_or-append}
use lib.Seq.{ext_get_or, get_or_at}
use borrow.Author.Tests.{lt-ltb, le-ltb, eq-eqb, ne_eqb}
use Rattle.numbers.proofs.Sums.{last_or_before}
use Rattle.plan.specs.Plan.{Plan, WellFormed}
use Rattle.plan.specs.Keeping.{SamePlan}
use Rattle.plan.proofs.Refusals.{well_formed_limits}
use Rattle.plan.proofs.Alike.{limits_alike}
use Rattle.format.specs.Format.{Edition, first_edition, block_size, payload_at, check_at, digit, blocks_of, kind_of, first_count, second_count, content_end, label_byte, content_byte, body_byte, block_byte, check_of, file_byte, file_length, FileOf}
use Rattle.format.specs.Held.{one, two, place, byte, record_at, held, Bytes}
use Rattle.blocks.specs.Rules.{blocks_in, FileAccepted}
use Rattle.blocks.specs.Sound.{Shaped, Contained, Sound}
use Rattle.format.proofs.Digits.{Unpacked, packed_back, packed_there, supply_back, supply_there}
use Rattle.blocks.proofs.Accepted.{reading_accepted, accepted_reading, sound_long}
use Rattle.format.proofs.Places.{record_place, file_at, body_label, body_content, body_unused, check_same, inside_arcs}

-- ---- a network has one file, in every edition

pub network_has_one_file : (e : Edition) (p : Plan) (f g : List ℕ) → FileOf e p f → FileOf e p g → f ≡ g
network_has_one_file e p f g x y =
    ext_get_or 0 f g (x.long ∙ sym y.long) (λ i l. x.bytes i (omega (arith, x.long)) ∙ sym (y.bytes i (omega (arith, x.long))))

-- the first n values of a function
listed : (values : ℕ → ℕ) → ℕ → List ℕ
listed values zero = []
listed values (suc n) = listed values n ++ (values n ∷ [])

listed_long : (values : ℕ → ℕ) (n : ℕ) → length (listed values n) ≡ n
unfolding listed
listed_long values zero = refl
listed_long values (suc n) = omega (arith, length-append (listed values n) (values n ∷ []), listed_long values n)

listed_there : (values : ℕ → ℕ) (n x : ℕ) → x < n → one (listed values n) x ≡ values x
unfolding listed
listed_there values zero x l = absurd (omega arith)
listed_there values (suc n) x l = ⊎_elim
    (λ is. rw is (get_or_at (listed values n) (values n) [] 0 n (listed_long values n)))
    (λ before. get_or-append (listed values n) (values n ∷ []) 0 x (omega (arith, listed_long values n)) ∙ listed_there values n x before)
    (last_or_before l)

pub network_has_a_file : (e : Edition) (p : Plan) → (f : List ℕ) × FileOf e p f
network_has_a_file e p = (
  listed (file_byte e p) (file_length e p),
  record { long = listed_long (file_byte e p) (file_length e p); bytes = listed_there (file_byte e p) (file_length e p) },
)

-- ---- an accepted file is the file of its network

module _ (file : List ℕ) (bytes : Bytes file) (s : Sound first_edition file) (b : ℕ) (here : b < blocks_in file) where
  abbrev plan : Plan
  plan = held first_edition file

  -- the same byte, reached by another sum
  moved : (x y : ℕ) → x ≡ y → one file x ≡ one file y
  moved x y is = ap (one file) is

  labels : Unpacked file (place b 0) (kind_of first_edition b) b (first_count first_edition plan.nodes plan.arcs b) (second_count plan.arcs b)
  labels =
      let second_is : place b 0 + 1 ≡ place b 1 = omega arith in
      let third_is : place b 0 + 2 ≡ place b 2 = omega arith in
      let fourth_is : place b 0 + 4 ≡ place b 4 = omega arith in record {
        first = s.shape.kinds b here;
        second = ap (one file) second_is ∙ s.shape.numbers b here;
        third = ap (two file) third_is ∙ s.content.firsts b here;
        fourth = ap (two file) fourth_is ∙ s.content.seconds b here;
      }

  label_is : (i : ℕ) → i < payload_at → label_byte first_edition plan.nodes plan.arcs b i ≡ byte file b i
  label_is i l = packed_back bytes labels i l ∙ moved (place b 0 + i) (place b i) (omega arith)

  content_is : (j : ℕ) → payload_at + j < content_end first_edition plan.nodes plan.arcs b → content_byte first_edition plan b j ≡ byte file b (payload_at + j)
  content_is j inside = by_cases (ℕ_discrete b 0)
      (λ is. rw (eq-eqb b 0 is) (supply_back file (place 0 (payload_at + j / 4 * 4)) bytes (j % 4) (omega arith)
      ∙ moved (place 0 (payload_at + j / 4 * 4) + j % 4) (place b (payload_at + j)) (omega arith)))
      (λ no.
      let small = inside_arcs first_edition plan.nodes plan.arcs b j inside no in
      let begins = record_place first_edition b (j / 6) (omega arith) (omega (arith, small)) in
      let k = (b - 1) * 84 + j / 6 in
      let arc : Unpacked file (record_at first_edition k) (plan.from k) (plan.to k) (plan.low k) (plan.high k)
      = record { first = refl; second = refl; third = refl; fourth = refl } in
      rw (ne_eqb b 0 no) (packed_back bytes arc (j % 6) (omega arith)
      ∙ moved (record_at first_edition k + j % 6) (place b (payload_at + j)) (omega (arith, begins))))

  body_is : (i : ℕ) → i < check_at → body_byte first_edition plan b i ≡ byte file b i
  body_is i l = by_cases (dec_lt i payload_at)
      (λ first. body_label first_edition plan b i first ∙ label_is i first)
      (λ no. by_cases (dec_lt i (content_end first_edition plan.nodes plan.arcs b))
      (λ inside.
      let back : payload_at + (i - payload_at) ≡ i = omega arith in
      body_content first_edition plan b i (omega arith) inside
      ∙ content_is (i - payload_at) (rw back inside) ∙ ap (byte file b) back)
      (λ past. body_unused first_edition plan b i (omega arith) ∙ sym (s.content.unused b i here (omega arith) l)))

  check_is : two file (place b check_at) ≡ check_of (body_byte first_edition plan b)
  check_is = s.shape.checks b here ∙ sym (check_same (body_byte first_edition plan b) (byte file b) body_is)

  block_is : (i : ℕ) → i < block_size → block_byte first_edition plan b i ≡ byte file b i
  block_is i l = by_cases (dec_lt i check_at)
      (λ before. rw (lt-ltb i check_at before) (body_is i before))
      (λ no. rw (le-ltb i check_at (omega arith)) (by_cases (ℕ_discrete i check_at)
      (λ is. rw is (omega (arith, check_is, bytes (place b check_at), bytes (place b check_at + 1))))
      (λ other.
      let last : i ≡ check_at + 1 = omega arith in
      rw last (omega (arith, check_is, bytes (place b check_at), bytes (place b check_at + 1), moved (place b check_at + 1) (place b (check_at + 1)) (omega arith))))))

pub sound_is_the_file : (file : List ℕ) → Bytes file → Sound first_edition file → FileOf first_edition (held first_edition file) file
sound_is_the_file file bytes s = record {
  long = sound_long first_edition file s;
  bytes = λ x l.
      let split : x ≡ place (x / block_size) (x % block_size) = omega arith in
      ap (one file) split
      ∙ sym (block_is file bytes s (x / block_size) (omega (arith, sound_long first_edition file s)) (x % block_size) (omega arith));
}

pub accepted_is_the_file : (file : List ℕ) → Bytes file → FileAccepted first_edition file → FileOf first_edition (held first_edition file) file
accepted_is_the_file file bytes a =
    sound_is_the_file file bytes (reading_accepted first_edition file false a.accepted).0

-- ---- the file of a well-formed plan is accepted, and holds the plan

module _ (p : Plan) (w : WellFormed p) (file : List ℕ) (f : FileOf first_edition p file) where
  abbrev blocks : ℕ
  blocks = blocks_of first_edition p.arcs

  byte_is : (b i : ℕ) → b < blocks → i < block_size → byte file b i ≡ block_byte first_edition p b i
  byte_is b i here l = f.bytes (place b i) (omega arith) ∙ file_at first_edition p b i l

  body_is' : (b i : ℕ) → b < blocks → i < check_at → byte file b i ≡ body_byte first_edition p b i
  body_is' b i here l = byte_is b i here (omega arith) ∙ rw (lt-ltb i check_at l)

  -- a number at a place of a block
  at_place : (b x i : ℕ) → x ≡ place b i → one file x ≡ byte file b i
  at_place b x i is = ap (one file) is

  first_small : (b : ℕ) → first_count first_edition p.nodes p.arcs b < 65536
  first_small b = by_cases (ℕ_discrete b 0)
      (λ is. rw (eq-eqb b 0 is) (omega (arith, w.nodes_fit)))
      (λ no. rw (ne_eqb b 0 no) (omega arith))

  second_small : (b : ℕ) → second_count p.arcs b < 65536
  second_small b = by_cases (ℕ_discrete b 0)
      (λ is. rw (eq-eqb b 0 is) (omega (arith, w.arcs_fit)))
      (λ no. rw (ne_eqb b 0 no) (omega arith))

  labels' : (b : ℕ) → b < blocks
      → Unpacked file (place b 0) (kind_of first_edition b) b (first_count first_edition p.nodes p.arcs b) (second_count p.arcs b)
  labels' b here = packed_there file (place b 0) (kind_of first_edition b) b (first_count first_edition p.nodes p.arcs b) (second_count p.arcs b)
      (first_small b) (second_small b)
      (λ i l. at_place b (place b 0 + i) i (omega arith) ∙ body_is' b i here (omega arith) ∙ body_label first_edition p b i l)

  second_is : (b : ℕ) → place b 1 ≡ place b 0 + 1
  second_is b = omega arith

  third_is : (b : ℕ) → place b 2 ≡ place b 0 + 2
  third_is b = omega arith

  fourth_is : (b : ℕ) → place b 4 ≡ place b 0 + 4
  fourth_is b = omega arith

  some_block : 0 < blocks
  some_block = omega arith

  -- the plan that the file holds
  content_there : (b j : ℕ) → b < blocks → payload_at + j < content_end first_edition p.nodes p.arcs b → payload_at + j < check_at
      → byte file b (payload_at + j) ≡ content_byte first_edition p b j
  content_there b j here inside before =
      let back : payload_at + j - payload_at ≡ j = omega arith in
      body_is' b (payload_at + j) here before ∙ body_content first_edition p b (payload_at + j) (omega arith) inside ∙ ap (content_byte first_edition p b) back

  supply_held : (v : ℕ) → v < p.nodes → (held first_edition file).supply v ≡ p.supply v
  supply_held v l = supply_there file (place 0 (payload_at + v * 4)) (p.supply v) (omega (arith, w.supply_fits v l))
      (λ i li.
      let quotient : (v * 4 + i) / 4 ≡ v = omega arith in
      let rest : (v * 4 + i) % 4 ≡ i = omega arith in
      at_place 0 (place 0 (payload_at + v * 4) + i) (payload_at + (v * 4 + i)) (omega arith)
      ∙ content_there 0 (v * 4 + i) some_block (omega (arith, w.nodes_fit)) (omega (arith, w.nodes_fit)) ∙ rw (quotient, rest))

  -- the block and the place in it of arc k
  module _ (k : ℕ) (l : k < p.arcs) where
    abbrev block : ℕ
    block = 1 + k / 84

    inside_block : block < blocks
    inside_block = omega (arith, w.arcs_fit)

    arc_inside : (i : ℕ) → i < 6 → payload_at + (k % 84 * 6 + i) < content_end first_edition p.nodes p.arcs block
    arc_inside i li = rw (ne_eqb block 0 (λ e. omega arith)) (omega (arith, w.arcs_fit))

    arc_held : Unpacked file (record_at first_edition k) (p.from k) (p.to k) (p.low k) (p.high k)
    arc_held = packed_there file (record_at first_edition k) (p.from k) (p.to k) (p.low k) (p.high k)
        (omega (arith, w.uncrossed k l, w.high_fits k l)) (omega (arith, w.high_fits k l))
        (λ i li.
        let quotient : (block - 1) * 84 + (k % 84 * 6 + i) / 6 ≡ k = omega arith in
        let rest : (k % 84 * 6 + i) % 6 ≡ i = omega arith in
        at_place block (record_at first_edition k + i) (payload_at + (k % 84 * 6 + i)) (omega arith)
        ∙ content_there block (k % 84 * 6 + i) inside_block (arc_inside i li) (omega arith)
        ∙ rw (ne_eqb block 0 (λ e. omega arith), quotient, rest))

  nodes_held : (held first_edition file).nodes ≡ p.nodes
  nodes_held = (labels' 0 some_block).third

  arcs_held : (held first_edition file).arcs ≡ p.arcs
  arcs_held = (labels' 0 some_block).fourth

  pub file_holds : SamePlan (held first_edition file) p
  file_holds = record {
    network = record {
      nodes = nodes_held;
      arcs = arcs_held;
      supply = λ v l. supply_held v (omega (arith, nodes_held));
      from = λ k l. (arc_held k (omega (arith, arcs_held))).first;
      to = λ k l. (arc_held k (omega (arith, arcs_held))).second;
    };
    low = λ k l. (arc_held k (omega (arith, arcs_held))).third;
    high = λ k l. (arc_held k (omega (arith, arcs_held))).fourth;
  }

  -- what the file says of itself
  check_there : (b : ℕ) → b < blocks → two file (place b check_at) ≡ check_of (byte file b)
  check_there b here =
      let low : byte file b check_at ≡ digit (check_of (body_byte first_edition p b)) 0 = byte_is b check_at here (omega arith) in
      let high : byte file b (check_at + 1) ≡ digit (check_of (body_byte first_edition p b)) 1 = byte_is b (check_at + 1) here (omega arith) in
      let whole : two file (place b check_at) ≡ check_of (body_byte first_edition p b)
      = omega (arith, low, high, at_place b (place b check_at + 1) (check_at + 1) (omega arith)) in
      whole ∙ sym (check_same (byte file b) (body_byte first_edition p b) (λ i l. body_is' b i here l))

  in_blocks : (b : ℕ) → b < blocks_in file → b < blocks
  in_blocks b here = omega (arith, f.long)

  shaped : Shaped first_edition file
  shaped = record {
    some_byte = λ e. omega (arith, e, f.long);
    not_longer = omega (arith, f.long, w.arcs_fit);
    whole_blocks = omega (arith, f.long);
    checks = λ b here. check_there b (in_blocks b here);
    kinds = λ b here. (labels' b (in_blocks b here)).first;
    numbers = λ b here. ap (one file) (second_is b) ∙ (labels' b (in_blocks b here)).second;
  }

  contained : Contained first_edition p.nodes p.arcs file
  contained = record {
    blocks_are = omega (arith, f.long);
    firsts = λ b here. ap (two file) (third_is b) ∙ (labels' b (in_blocks b here)).third;
    seconds = λ b here. ap (two file) (fourth_is b) ∙ (labels' b (in_blocks b here)).fourth;
    unused = λ b i here past l. body_is' b i (in_blocks b here) l ∙ body_unused first_edition p b i past;
  }

  file_sound : Sound first_edition file
  file_sound = record {
    shape = shaped;
    counts = rw (nodes_held, arcs_held) (record { some_node = w.some_node; nodes_fit = w.nodes_fit; arcs_fit = w.arcs_fit });
    content = rw (nodes_held, arcs_held) contained;
  }

  pub file_accepted : FileAccepted first_edition file × SamePlan (held first_edition file) p
  file_accepted = (
    record { accepted = accepted_reading first_edition file file_sound (limits_alike file_holds ∙ well_formed_limits p w) refl },
    file_holds,
  )

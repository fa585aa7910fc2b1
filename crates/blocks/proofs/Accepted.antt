-- What a file says of itself where no rule turns it down: its length, its checks, its labels, its counts and its unused bytes.
use Prim.Native.Nat.{ℕ, ◌*◌, ◌%◌, ◌<◌}
use mathlib.Core.Path.{◌≡◌, ap, sym, ◌∙◌}
use mathlib.Core.Bool.{Bool, true, false, not, ◌||◌, ◌&&◌}
use mathlib.Core.List.{List, [], ◌∷◌, ◌++◌}
use mathlib.Core.Logic.{by_cases}
use native.Mathlib.Omega.{arith}
use native.Mathlib.Decide.{dec_lt}
use lib.Dec.{ltb, leb, eqb}
use lib.ListN.{length}
use borrow.Author.Tests.{eqb-true, eqb-false, ltb-false, le-leb, not-false, eq-eqb, ne_eqb, le-ltb}
use Rattle.plan.specs.Limits.{most_nodes, most_arcs}
use Rattle.plan.specs.Plan.{Plan, WellFormed}
use Rattle.plan.specs.declared.Fault.TheVariants.{Buffer}
use Rattle.plan.specs.Verdict.{verdict, whole, count_rules, limit_rules, Accepted}
use Rattle.plan.proofs.Refusals.{Clear, accepted_clear, clear_accepted, both_accepted, accepted_both, accepted_well_formed, neither}
use Rattle.format.specs.Format.{Edition, block_size, kind_at, number_at, first_at, second_at, check_at, blocks_of, kind_of, first_count, second_count, content_end, check_of}
use Rattle.format.specs.Held.{two, place, byte, held}
use Rattle.blocks.specs.Rules.{blocks_in, counts_wrong, unused_wrong, shape_rules, content_rules, block_rules, reading_rules}
use Rattle.blocks.specs.Sound.{Shaped, CountsFit, Contained, Sound}
use Rattle.blocks.proofs.Any.{any_none, none_any}
use Rattle.blocks.proofs.Wrong.{unused_before, unused_zero}

pub shape_accepted : (e : Edition) (file : List ℕ) → verdict (shape_rules e file) ≡ Accepted → Shaped e file
shape_accepted e file accepted = record {
  some_byte = eqb-false (length file) 0 sizes.0;
  not_longer = ltb-false e.longest (length file) more.0;
  whole_blocks = eqb-true (length file % block_size) 0 (not-false _ more.1);
  checks = λ b l. eqb-true _ _ (not-false _ (clear.1.0 b l));
  kinds = λ b l. eqb-true _ _ (not-false _ (labels b l).0);
  numbers = λ b l. eqb-true _ _ (not-false _ (labels b l).1);
}
  where
    clear : Clear (shape_rules e file)
    clear = accepted_clear (shape_rules e file) accepted

    sizes : (eqb (length file) 0 ≡ false) × ((ltb e.longest (length file) || not (eqb (length file % block_size) 0)) ≡ false)
    sizes = neither (eqb (length file) 0) (ltb e.longest (length file) || not (eqb (length file % block_size) 0)) (clear.0 0 (omega arith))

    more : (ltb e.longest (length file) ≡ false) × (not (eqb (length file % block_size) 0) ≡ false)
    more = neither (ltb e.longest (length file)) (not (eqb (length file % block_size) 0)) sizes.1

    labels : (b : ℕ) → b < blocks_in file → (not (eqb (byte file b kind_at) (kind_of e b)) ≡ false) × (not (eqb (byte file b number_at) b) ≡ false)
    labels b l = neither (not (eqb (byte file b kind_at) (kind_of e b))) (not (eqb (byte file b number_at) b)) (clear.1.1.0 b l)

pub counts_accepted : (p : Plan) → verdict (count_rules p) ≡ Accepted → CountsFit p
counts_accepted p accepted = record {
  some_node = omega (arith, eqb-false p.nodes 0 count.0);
  nodes_fit = omega (arith, ltb-false, count.1);
  arcs_fit = omega (arith, ltb-false, clear.1.0 0 (omega arith));
}
  where
    clear : Clear (count_rules p)
    clear = accepted_clear (count_rules p) accepted

    count : (eqb p.nodes 0 ≡ false) × (ltb most_nodes p.nodes ≡ false)
    count = neither (eqb p.nodes 0) (ltb most_nodes p.nodes) (clear.0 0 (omega arith))

pub content_accepted : (e : Edition) (nodes arcs : ℕ) (file : List ℕ) → verdict (content_rules e nodes arcs file) ≡ Accepted
    → Contained e nodes arcs file
content_accepted e nodes arcs file accepted = record {
  blocks_are = eqb-true _ _ (not-false _ (clear.0 0 (omega arith)));
  firsts = λ b l. eqb-true _ _ (not-false _ (counts b l).0);
  seconds = λ b l. eqb-true _ _ (not-false _ (counts b l).1);
  unused = λ b i l past before. eqb-true _ _ (not-false _ (second_of (le-leb _ _ past) (none_any check_at (λ j. leb (content_end e nodes arcs b) j && not (eqb (byte file b j) 0)) (parts b l).1 i before)));
}
  where
    clear : Clear (content_rules e nodes arcs file)
    clear = accepted_clear (content_rules e nodes arcs file) accepted

    parts : (b : ℕ) → b < blocks_in file → (counts_wrong e nodes arcs file b ≡ false) × (unused_wrong (content_end e nodes arcs b) file b ≡ false)
    parts b l = neither (counts_wrong e nodes arcs file b) (unused_wrong (content_end e nodes arcs b) file b) (clear.1.0 b l)

    counts : (b : ℕ) → b < blocks_in file
        → (not (eqb (two file (place b first_at)) (first_count e nodes arcs b)) ≡ false) × (not (eqb (two file (place b second_at)) (second_count arcs b)) ≡ false)
    counts b l = neither (not (eqb (two file (place b first_at)) (first_count e nodes arcs b))) (not (eqb (two file (place b second_at)) (second_count arcs b))) (parts b l).0

    second_of : {s t : Bool} → s ≡ true → (s && t) ≡ false → t ≡ false
    second_of {s} {t} is none = sym (ap (λ u. u && t) is) ∙ none

pub blocks_accepted : (e : Edition) (file : List ℕ) → verdict (block_rules e file) ≡ Accepted → Sound e file
blocks_accepted e file accepted =
    let contents = content_rules e (held e file).nodes (held e file).arcs file in
    let parts = both_accepted (shape_rules e file) (count_rules (held e file) ++ contents) accepted in
    let more = both_accepted (count_rules (held e file)) contents parts.1 in record {
      shape = shape_accepted e file parts.0;
      counts = counts_accepted (held e file) more.0;
      content = content_accepted e (held e file).nodes (held e file).arcs file more.1;
    }

-- whole blocks, as many as the arcs need
pub sound_long : (e : Edition) (file : List ℕ) → Sound e file → length file ≡ blocks_of e (held e file).arcs * block_size
sound_long e file s = omega (arith, s.shape.whole_blocks, s.content.blocks_are)

-- ---- and back: no rule turns down a file that says so

shaped_accepted : (e : Edition) (file : List ℕ) → Shaped e file → verdict (shape_rules e file) ≡ Accepted
shaped_accepted e file s = clear_accepted (shape_rules e file) (
  λ i l. rw (ne_eqb (length file) 0 s.some_byte, le-ltb e.longest (length file) s.not_longer, eq-eqb (length file % block_size) 0 s.whole_blocks),
  (
    λ b l. rw (eq-eqb (two file (place b check_at)) (check_of (byte file b)) (s.checks b l)),
    (λ b l. rw (eq-eqb (byte file b kind_at) (kind_of e b) (s.kinds b l), eq-eqb (byte file b number_at) b (s.numbers b l)), tt),
  ),
)

pub counted_accepted : (p : Plan) → CountsFit p → verdict (count_rules p) ≡ Accepted
counted_accepted p c = clear_accepted (count_rules p) (
  λ i l. rw (ne_eqb p.nodes 0 (λ e. omega (arith, e, c.some_node)), le-ltb most_nodes p.nodes c.nodes_fit),
  (λ i l. le-ltb most_arcs p.arcs c.arcs_fit, tt),
)

contained_accepted : (e : Edition) (nodes arcs : ℕ) (file : List ℕ) → Contained e nodes arcs file → verdict (content_rules e nodes arcs file) ≡ Accepted
contained_accepted e nodes arcs file c = clear_accepted (content_rules e nodes arcs file) (
  λ i l. rw (eq-eqb (blocks_in file) (blocks_of e arcs) c.blocks_are),
  (
    λ b l. rw (eq-eqb (two file (place b first_at)) (first_count e nodes arcs b) (c.firsts b l), eq-eqb (two file (place b second_at)) (second_count arcs b) (c.seconds b l))
        (any_none check_at (λ i. leb (content_end e nodes arcs b) i && not (eqb (byte file b i) 0)) (unused b l)),
    tt,
  ),
)
  where
    unused : (b : ℕ) → b < blocks_in file → (i : ℕ) → i < check_at → (leb (content_end e nodes arcs b) i && not (eqb (byte file b i) 0)) ≡ false
    unused b l i before = by_cases (dec_lt i (content_end e nodes arcs b))
        (λ inside. unused_before (content_end e nodes arcs b) i (byte file b i) inside)
        (λ past. unused_zero (content_end e nodes arcs b) i (byte file b i) (c.unused b i l (omega arith) before))

pub sound_accepted : (e : Edition) (file : List ℕ) → Sound e file → verdict (block_rules e file) ≡ Accepted
sound_accepted e file s =
    let contents = content_rules e (held e file).nodes (held e file).arcs file in
    accepted_both (shape_rules e file) (count_rules (held e file) ++ contents) (shaped_accepted e file s.shape)
    (accepted_both (count_rules (held e file)) contents (counted_accepted (held e file) s.counts) (contained_accepted e (held e file).nodes (held e file).arcs file s.content))

-- a file that is read is sound, the buffers are long enough, and its plan is within the limits; and back
pub reading_accepted : (e : Edition) (file : List ℕ) (short : Bool) → verdict (reading_rules e file short) ≡ Accepted
    → Sound e file × (short ≡ false) × (verdict (limit_rules (held e file)) ≡ Accepted)
reading_accepted e file short accepted =
    let parts = both_accepted (block_rules e file) (whole Buffer short ∷ limit_rules (held e file)) accepted in
    let more = both_accepted (whole Buffer short ∷ []) (limit_rules (held e file)) parts.1 in
    (blocks_accepted e file parts.0, (accepted_clear (whole Buffer short ∷ []) more.0).0 0 (omega arith), more.1)

pub reading_well_formed : (e : Edition) (file : List ℕ) (short : Bool) → verdict (reading_rules e file short) ≡ Accepted
    → WellFormed (held e file)
reading_well_formed e file short accepted =
    let (sound, fits, limits) = reading_accepted e file short accepted in
    accepted_well_formed (held e file) false
    (accepted_both (count_rules (held e file)) (whole Buffer false ∷ limit_rules (held e file)) (counted_accepted (held e file) sound.counts) limits)

pub accepted_reading : (e : Edition) (file : List ℕ) → Sound e file → verdict (limit_rules (held e file)) ≡ Accepted
    → {short : Bool} → short ≡ false → verdict (reading_rules e file short) ≡ Accepted
accepted_reading e file s limits {short} fits =
    accepted_both (block_rules e file) (whole Buffer short ∷ limit_rules (held e file)) (sound_accepted e file s) (rw fits limits)

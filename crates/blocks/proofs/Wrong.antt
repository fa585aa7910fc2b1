-- The tests of the rules 11 to 14, one part after the other, as the code makes them.
use Prim.Native.Nat.{ℕ, ◌≤◌, ◌<◌, ◌%◌}
use mathlib.Core.Path.{◌≡◌, refl}
use mathlib.Core.Bool.{Bool, true, false, ◌&&◌, not}
use mathlib.Core.List.{List}
use lib.Dec.{leb, eqb}
use lib.ListN.{length}
use borrow.Author.Tests.{lt-ltb, le-ltb, le-leb, lt-leb, eq-eqb, ne_eqb}
use Rattle.format.specs.Format.{Edition, block_size, kind_at, number_at, first_at, second_at, kind_of, first_count, second_count, content_end}
use Rattle.format.specs.Held.{two, place, byte}
use Rattle.blocks.specs.Rules.{length_wrong, label_wrong, unused_wrong, content_wrong}

module _ (e : Edition) (file : List ℕ) where
  pub no_byte : length file ≡ 0 → true ≡ length_wrong e file
  no_byte none = rw (eq-eqb (length file) 0 none)

  pub too_long : (length file ≡ 0 → ⊥) → e.longest < length file → true ≡ length_wrong e file
  too_long some long = rw (ne_eqb (length file) 0 some, lt-ltb e.longest (length file) long)

  pub no_whole_blocks : (length file ≡ 0 → ⊥) → length file ≤ e.longest → not (eqb (length file % block_size) 0) ≡ length_wrong e file
  no_whole_blocks some long = rw (ne_eqb (length file) 0 some, le-ltb e.longest (length file) long)

  module _ (b : ℕ) where
    pub kind_differs : (byte file b kind_at ≡ kind_of e b → ⊥) → true ≡ label_wrong e file b
    kind_differs other = rw (ne_eqb (byte file b kind_at) (kind_of e b) other)

    pub number_decides : byte file b kind_at ≡ kind_of e b → not (eqb (byte file b number_at) b) ≡ label_wrong e file b
    number_decides same = rw (eq-eqb (byte file b kind_at) (kind_of e b) same)

    module _ (nodes arcs : ℕ) where
      pub first_differs : (two file (place b first_at) ≡ first_count e nodes arcs b → ⊥) → true ≡ content_wrong e nodes arcs file b
      first_differs other = rw (ne_eqb (two file (place b first_at)) (first_count e nodes arcs b) other)

      module _ (first : two file (place b first_at) ≡ first_count e nodes arcs b) where
        pub second_differs : (two file (place b second_at) ≡ second_count arcs b → ⊥) → true ≡ content_wrong e nodes arcs file b
        second_differs other = rw (eq-eqb (two file (place b first_at)) (first_count e nodes arcs b) first, ne_eqb (two file (place b second_at)) (second_count arcs b) other)

        pub unused_decides : two file (place b second_at) ≡ second_count arcs b
            → unused_wrong (content_end e nodes arcs b) file b ≡ content_wrong e nodes arcs file b
        unused_decides second = rw (eq-eqb (two file (place b first_at)) (first_count e nodes arcs b) first, eq-eqb (two file (place b second_at)) (second_count arcs b) second)

-- a byte from the end of the content on that is not 0; one before it, or one that is 0
pub unused_found : (end i x : ℕ) → end ≤ i → (x ≡ 0 → ⊥) → (leb end i && not (eqb x 0)) ≡ true
unused_found end i x l some = rw (le-leb end i l, ne_eqb x 0 some)

pub unused_before : (end i x : ℕ) → i < end → (leb end i && not (eqb x 0)) ≡ false
unused_before end i x l = rw (lt-leb end i l)

pub unused_zero : (end i x : ℕ) → x ≡ 0 → (leb end i && not (eqb x 0)) ≡ false
unused_zero end i x none = rw (eq-eqb x 0 none) (and-false (leb end i))
  where
    and-false : (t : Bool) → (t && false) ≡ false
    and-false true = refl
    and-false false = refl

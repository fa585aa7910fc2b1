-- One text is printed after another: nothing, and then the next text; then a row of texts. A text leaves one content.
use Prim.Native.Nat.{ℕ, zero, suc, ◌+◌, ◌-◌, ◌*◌, ◌≤◌, ◌<◌}
use mathlib.Core.Path.{◌≡◌, refl, sym, ap, ◌∙◌}
use mathlib.Core.List.{[], ◌++◌, append_assoc, append-nil}
use mathlib.Core.Logic.{by_cases}
use native.Mathlib.Omega.{arith}
use native.Mathlib.Decide.{ℕ_discrete}
use native.Mathlib.Numerals.{add-one}
use borrow.Rule.Slice.PartMut.{put_mid, same_len_mid}
use lib.ListN.{length, take, drop, length-append, length-take, length-drop, take-append-drop}
use lib.Seq.{length-take-le, drop-drop}
use Rattle.std.proofs.lemmas.Slice.{take-put_mid, drop-put_mid}
use Rattle.text.specs.Words.{Text}
use Rattle.text.specs.Texts.{texts}
use Rattle.text.specs.Page.{Printable, Printed, RoomFor, PrintedOn, Filled}
use Rattle.text.specs.declared.Page.{Page}

-- ---- on bytes

module _ {at : ℕ} {page : Text} where
  -- a text and then another
  pub then_printed : {s t : Text} {page' page'' : Text} {next last : ℕ} → Printed s at page page' next
      → Printed t next page' page'' last → Printed (s ++ t) at page page'' last
  then_printed {s} {t} {page'} {page''} {next} {last} first second = record {
    same_length = second.same_length ∙ first.same_length;
    next_is = omega (arith, first.next_is, second.next_is, length-append s t);
    there = second.there ∙ ap (λ l. l ++ t) first.there ∙ append_assoc (take at page) s t;
    past = second.past ∙ onward page' ∙ ap (drop (length t)) first.past ∙ sym (onward page);
  }
    where
      onward : (l : Text) → drop last l ≡ drop (length t) (drop next l)
      onward l = ap (λ n. drop n l) second.next_is ∙ sym (drop-drop (length t) next l)

  pub first_printable : {s : Text} (t : Text) → Printable (s ++ t) at page → Printable s at page
  first_printable {s} t room = record { fits = omega (arith, room.fits, length-append s t) }

  -- a text that takes the place of as many bytes
  pub part_printed : {text part : Text} → Printable text at page → part ≡ text
      → Printed text at page (put_mid at (at + length text - at) page part) (at + length text)
  part_printed {text} {part} room same =
      let n = at + length text - at in
      let long : length part ≡ n = omega (arith, ap length same) in
      let inside : at ≤ length page = omega (arith, room.fits) in record {
        same_length = same_len_mid at n page part (simp (length-take, length-drop) (omega (arith, room.fits)));
        next_is = refl;
        there = take-put_mid at n page part (at + length text) (omega arith) inside ∙ ap (λ l. take at page ++ l) same;
        past = drop-put_mid at n page part (at + length text) (omega arith) inside long;
      }

  -- what was printed ends on the page
  pub printed_inside : {text page' : Text} {next : ℕ} → at ≤ length page → Printed text at page page' next → next ≤ length page'
  printed_inside {text} {page'} {next} inside x = omega (
    arith,
    ap length (take-append-drop next page'),
    length-append (take next page') (drop next page'),
    ap length x.there,
    length-append (take at page) text,
    length-take-le at page inside,
    x.next_is,
  )

  -- one content
  pub printed_unique : {text : Text} {a b : Text} {next last : ℕ} → Printed text at page a next
      → Printed text at page b last → (a ≡ b) × (next ≡ last)
  printed_unique {text} {a} {b} {next} {last} x y =
      let same : next ≡ last = omega (arith, x.next_is, y.next_is) in
      let before : take next a ≡ take next b = x.there ∙ sym y.there ∙ ap (λ n. take n b) (sym same) in
      let after : drop next a ≡ drop next b = x.past ∙ ap (λ n. drop n page) same ∙ sym y.past ∙ ap (λ n. drop n b) (sym same) in
      (sym (take-append-drop next a) ∙ ap (λ l. l ++ drop next a) before ∙ ap (λ l. take next b ++ l) after ∙ take-append-drop next b, same)

-- ---- on a page that is lent

module _ {page : Page} where
  pub nothing_printed : PrintedOn [] page page
  nothing_printed = record {
    printed = record {
      same_length = refl;
      next_is = omega arith;
      there = sym (append-nil (take page.at page.bytes.now));
      past = refl;
    };
    same_loan = refl;
  }

  -- a text and then another
  pub then_printed_on : {s t : Text} {page' page'' : Page} → PrintedOn s page page' → PrintedOn t page' page''
      → PrintedOn (s ++ t) page page''
  then_printed_on first second =
      record { printed = then_printed first.printed second.printed; same_loan = second.same_loan ∙ first.same_loan }

  -- where two texts have room, the first has, and after it the second
  pub then_printable : {s t : Text} {page' : Page} → RoomFor (s ++ t) page → PrintedOn s page page' → RoomFor t page'
  then_printable {s} {t} room first = record {
    fits = omega (arith, room.fits, length-append s t, first.printed.next_is, first.printed.same_length);
  }

-- where one text is meant, the page has one content, and the text one length
pub filled_unique : {Meant : Text → Type 0} {page a b : Text} {n m : ℕ} → ((s t : Text) → Meant s → Meant t → s ≡ t)
    → Filled Meant page a n → Filled Meant page b m → (a ≡ b) × (n ≡ m)
filled_unique one x y = printed_unique x.printed (rw (one y.text x.text y.meant x.meant) at y.printed)

pub filled_inside : {Meant : Text → Type 0} {page page' : Text} {next : ℕ} → Filled Meant page page' next → next ≤ length page'
filled_inside x = printed_inside (omega arith) x.printed

-- ---- a row of texts

pub texts_same : (n : ℕ) (f g : ℕ → Text) → ((i : ℕ) → i < n → f i ≡ g i) → texts n f ≡ texts n g
unfolding texts
texts_same zero f g same = refl
texts_same (suc n) f g same = rw (texts_same n f g (λ i l. same i (omega arith)), same n (omega arith)) refl

module _ (of : ℕ → Text) where
  pub texts_next : (n : ℕ) → texts (n + 1) of ≡ texts n of ++ of n
  unfolding texts
  texts_next n = ap (λ k. texts k of) (add-one n)

  pub texts_longer : (n : ℕ) → length (texts (suc n) of) ≡ length (texts n of) + length (of n)
  unfolding texts
  texts_longer n = length-append (texts n of) (of n)

  upto : (i n : ℕ) → i < n → length (texts i of) + length (of i) ≤ length (texts n of)
  upto i zero l = absurd (omega arith)
  upto i (suc n) l = by_cases (ℕ_discrete i n)
      (λ last. rw last (omega (arith, texts_longer n)))
      (λ no. omega (arith, texts_longer n, upto i n (omega arith)))

  pub texts_short : (most n : ℕ) → ((i : ℕ) → i < n → length (of i) ≤ most) → length (texts n of) ≤ n * most
  unfolding texts
  texts_short most zero short = omega arith
  texts_short most (suc n) short = omega (arith, texts_longer n, texts_short most n (λ i l. short i (omega arith)), short n (omega arith))

  -- one text more of the row
  pub next_printed : {at : ℕ} {page page' page'' : Text} {next last : ℕ} {i : ℕ} → Printed (texts i of) at page page' next
      → Printed (of i) next page' page'' last → Printed (texts (i + 1) of) at page page'' last
  next_printed {i = i} first second = rw (texts_next i) (then_printed first second)

  -- the loop over the row: none of it, then one text more
  module _ {page : Page} where
    pub none_printed : PrintedOn (texts 0 of) page page
    unfolding texts
    none_printed = nothing_printed

    pub next_printable : {page' : Page} {i : ℕ} (n : ℕ) → RoomFor (texts n of) page → i < n → PrintedOn (texts i of) page page'
        → RoomFor (of i) page'
    next_printable {i = i} n room l first = record {
      fits = omega (arith, room.fits, upto i n l, first.printed.next_is, first.printed.same_length);
    }

    pub next_printed_on : {page' page'' : Page} {i : ℕ} → PrintedOn (texts i of) page page' → PrintedOn (of i) page' page''
        → PrintedOn (texts (i + 1) of) page page''
    next_printed_on first second =
        record { printed = next_printed first.printed second.printed; same_loan = second.same_loan ∙ first.same_loan }

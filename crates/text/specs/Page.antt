-- A page is bytes that are lent to be filled; a text is printed on it from a place on.
use Rattle.std.specs.Prelude.{ℕ, ◌+◌, ◌≤◌, ◌≡◌, ◌++◌, length, take, drop}
use Rattle.text.specs.Words.{Text}
use Rattle.text.specs.declared.Page.{Page}

-- the page takes the text from the place on
pub record Printable (text : Text) (at : ℕ) (page : Text) : Type 0 where
  pub fits : at + length text ≤ length page

-- what stood before the place, and then the text, end at `next`; from there on the page is as it was
pub record Printed (text : Text) (at : ℕ) (page page' : Text) (next : ℕ) : Type 0 where
  pub same_length : length page' ≡ length page
  pub next_is : next ≡ at + length text
  pub there : take next page' ≡ take at page ++ text
  pub past : drop next page' ≡ drop next page

-- a page that is lent takes the text from its place on
abbrev pub RoomFor : (text : Text) → Page → Type 0
RoomFor text page = Printable text page.at page.bytes.now

-- the text is printed on it from its place on, and the place stands after it; the same bytes are lent
pub record PrintedOn (text : Text) (page page' : Page) : Type 0 where
  pub printed : Printed text page.at page.bytes.now page'.bytes.now page'.at
  pub same_loan : page'.bytes.ghost_name ≡ page.bytes.ghost_name

-- one of the texts that are meant stands at the front of the page; from its end on the page is as it was
pub record Filled (Meant : Text → Type 0) (page page' : Text) (next : ℕ) : Type 0 where
  pub text : Text
  pub meant : Meant text
  pub printed : Printed text 0 page page' next

-- one of the texts that are meant is printed on the page that is lent
pub record OnePrinted (Meant : Text → Type 0) (page page' : Page) : Type 0 where
  pub text : Text
  pub meant : Meant text
  pub printed : PrintedOn text page page'

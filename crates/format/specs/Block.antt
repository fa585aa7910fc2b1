-- How a block begins and how far its content goes, as one value that reading and writing share.
use Rattle.std.specs.Prelude.{ℕ}
use Rattle.format.specs.Format.{Edition, kind_of, first_count, second_count, content_end}
use Rattle.format.specs.declared.Block.{Block}

abbrev pub block_of : Edition → (nodes arcs b : ℕ) → Block
block_of e nodes arcs b = record {
  kind = kind_of e b;
  number = b;
  first = first_count e nodes arcs b;
  second = second_count arcs b;
  end = content_end e nodes arcs b;
}

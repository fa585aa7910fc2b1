-- What is read of standard input stands at the start of the buffer.
use Rattle.std.specs.Prelude.{ℕ, List, Option, Some, None}
use Rattle.io.specs.Counts.{IsPrefixLen}

-- a whole input counts bytes of the buffer; a read that failed promises nothing
abbrev pub Held : Option ℕ → List ℕ → Type 0
Held (Some n) buffer = IsPrefixLen n buffer
Held None buffer = Unit {0}

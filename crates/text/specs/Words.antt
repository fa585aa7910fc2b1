-- A text is the list of its bytes; a word of a definition is shown as it is printed.
use Rattle.std.specs.Prelude.{ℕ, List, [], ◌∷◌}
use Prim.Native.Char.{code}
use Prim.Native.String as string
use Prim.Native.String.{String}

abbrev pub Text : Type 0
Text = List ℕ

-- the bytes of a word
abbrev pub word : String → Text
word string.[] = []
word (string.◌∷◌ c rest) = code c ∷ word rest

abbrev pub space : ℕ
space = 32

abbrev pub line_feed : ℕ
line_feed = 10

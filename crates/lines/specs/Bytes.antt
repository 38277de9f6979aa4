-- The bytes of a text in ASCII, and those that part numbers.
use Rattle.std.specs.Prelude.{ℕ, List, [], ◌∷◌}
use Prim.Native.Char.{code}
use Prim.Native.String.{String, [] as none, ◌∷◌ as ◌first◌}

abbrev pub bytes_of : String → List ℕ
bytes_of none = []
bytes_of (c first cs) = code c ∷ bytes_of cs

abbrev pub BLANK_BYTE : ℕ
BLANK_BYTE = code " "

abbrev pub DOT_BYTE : ℕ
DOT_BYTE = code "."

abbrev pub EQUALS_BYTE : ℕ
EQUALS_BYTE = code "="

abbrev pub COLON_BYTE : ℕ
COLON_BYTE = code ":"

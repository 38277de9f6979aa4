-- The flags of the join words, their union, and which are refused.
use Rattle.std.specs.Prelude.{Bool, cond, not, ◌&&◌, ◌||◌, List, [], ◌∷◌, ℕ, eqb}
use Rattle.std.specs.Int.Bits.{bit_and, bit_or}
use Rattle.words.specs.Words.{Word, words}

-- what no word has
abbrev pub NO_FLAGS : ℕ
NO_FLAGS = 0

-- "Words, numbers and flags": the table is `words`, and a number that it lacks has no flags
abbrev pub flags_in : List Word → ℕ → ℕ
flags_in [] n = NO_FLAGS
flags_in (w ∷ ws) n = cond (eqb n w.number) w.flags (flags_in ws n)

unfoldable pub flags_of : ℕ → ℕ
flags_of n = flags_in words n

-- "Flags are united as bits: INNER 1, CROSS 2, NATURAL 4, LEFT 8, RIGHT 16, OUTER 32."
abbrev pub INNER_BIT : ℕ
INNER_BIT = 1

abbrev pub CROSS_BIT : ℕ
CROSS_BIT = 2

abbrev pub NATURAL_BIT : ℕ
NATURAL_BIT = 4

abbrev pub LEFT_BIT : ℕ
LEFT_BIT = 8

abbrev pub RIGHT_BIT : ℕ
RIGHT_BIT = 16

abbrev pub OUTER_BIT : ℕ
OUTER_BIT = 32

abbrev pub united : ℕ → ℕ → ℕ
united a b = bit_or a b

-- the flags have the bit
abbrev pub has : ℕ → ℕ → Bool
has flags bit = not (eqb (bit_and flags bit) 0)

-- "Refused: INNER with OUTER, or OUTER with neither LEFT nor RIGHT."
abbrev pub refused : ℕ → Bool
refused f = has f INNER_BIT && has f OUTER_BIT || has f OUTER_BIT && not (has f LEFT_BIT || has f RIGHT_BIT)

abbrev pub legal : ℕ → Bool
legal f = not (refused f)

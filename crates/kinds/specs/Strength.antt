-- Operator strength: how tightly a kind binds after an operand, and before one.
-- 01: "Operator strength, from loose to tight: 1 OR; 2 AND; 3 NOT before; .. 12 the rest."
use Rattle.std.specs.Prelude.{List, [], ◌∷◌, ℕ, zero, suc, get_or}
use Rattle.kinds.specs.Kinds.{KINDS, OR, AND, NOT, EQ, NE, IS, LIKE_KW, IN, BETWEEN, ISNULL, NOTNULL, LT, LE, GT, GE, BITAND, BITOR, LSHIFT, RSHIFT, PLUS, MINUS, STAR, SLASH, REM, CONCAT, COLLATE, BITNOT}
use Rattle.kinds.specs.Lists.{Line, ◌for◌, number_of}

-- "1 OR; 2 AND; .. 4 EQ NE IS, IS NOT, [NOT] LIKE_KW, [NOT] IN, [NOT] BETWEEN, ISNULL, NOTNULL, NOT NULL; 5 LT LE GT GE;
-- 6 BITAND BITOR LSHIFT RSHIFT; 7 PLUS MINUS; 8 STAR SLASH REM; 9 CONCAT; 10 COLLATE name": NOT after an operand begins a form of 4
abbrev pub strengths : List Line
strengths =
    (1 for OR ∷ [])
    ∷ (2 for AND ∷ [])
    ∷ (4 for EQ ∷ NE ∷ IS ∷ NOT ∷ LIKE_KW ∷ IN ∷ BETWEEN ∷ ISNULL ∷ NOTNULL ∷ [])
    ∷ (5 for LT ∷ LE ∷ GT ∷ GE ∷ [])
    ∷ (6 for BITAND ∷ BITOR ∷ LSHIFT ∷ RSHIFT ∷ [])
    ∷ (7 for PLUS ∷ MINUS ∷ [])
    ∷ (8 for STAR ∷ SLASH ∷ REM ∷ [])
    ∷ (9 for CONCAT ∷ [])
    ∷ (10 for COLLATE ∷ [])
    ∷ []

-- "3 NOT before; .. 11 PLUS MINUS BITNOT before"
abbrev pub prefixes : List Line
prefixes = (3 for NOT ∷ []) ∷ (11 for PLUS ∷ MINUS ∷ BITNOT ∷ []) ∷ []

-- the strength of a kind after an operand, and before one; 0 where it is no such operator
unfoldable pub strength_of : ℕ → ℕ
strength_of k = number_of k strengths

unfoldable pub prefix_of : ℕ → ℕ
prefix_of k = number_of k prefixes

-- "strengths a constant table of 71 entries": that of each kind, from 1 on
abbrev pub strengths_from : ℕ → ℕ → List ℕ
strengths_from k zero = []
strengths_from k (suc more) = strength_of k ∷ strengths_from (suc k) more

unfoldable pub strength_table : List ℕ
strength_table = strengths_from 1 KINDS

-- a kind's entry in a table of this form; 0 where there is none
abbrev pub entry_of : List ℕ → ℕ → ℕ
entry_of table k = get_or (0 ∷ table) k 0

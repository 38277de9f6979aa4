-- The classes of kinds that 01's grammar speaks of, each a list of kinds, and the record codes of names and literals.
use Rattle.std.specs.Prelude.{Bool, cond, Option, None, Some, List, [], ◌∷◌, ◌++◌, ℕ, eqb}
use Rattle.kinds.specs.Kinds.{ID, KWID, STRING, INDEXED, JOIN_KW, INTEGER, FLOAT, BLOB, VARIABLE, CTIME_KW, NULL, LP, STAR, PLUS, MINUS, SLASH, REM, CONCAT, BITAND, BITOR, LSHIFT, RSHIFT, BITNOT, EQ, NE, LT, LE, GT, GE, AND, OR, NOT, LIKE_KW, CASE, CAST, EXISTS}
use Rattle.kinds.specs.Lists.{Line, ◌for◌, among, number_of}

-- "Name: ID, KWID, STRING, INDEXED or JOIN_KW."
abbrev pub names : List ℕ
names = ID ∷ KWID ∷ STRING ∷ INDEXED ∷ JOIN_KW ∷ []

-- "Alias: AS and a name, or a bare ID, KWID or STRING."
abbrev pub bare_aliases : List ℕ
bare_aliases = ID ∷ KWID ∷ STRING ∷ []

-- "Strength 12: NULL and kinds 3, 6 to 10"
abbrev pub literals : List ℕ
literals = NULL ∷ STRING ∷ INTEGER ∷ FLOAT ∷ BLOB ∷ VARIABLE ∷ CTIME_KW ∷ []

-- "ID, KWID or JOIN_KW, then ( ), ( STAR ) or ( [DISTINCT] expressions )"
abbrev pub call_heads : List ℕ
call_heads = ID ∷ KWID ∷ JOIN_KW ∷ []

-- "3 NOT before; .. 11 PLUS MINUS BITNOT before; 12 the rest", which is "NULL and kinds 3, 6 to 10; one to three names ..;
-- ( expressions ); ( query ); EXISTS ( query ); CASE ..; CAST ( expression AS name )"
abbrev pub firsts_of_expr : List ℕ
firsts_of_expr = literals ++ (names ++ (NOT ∷ PLUS ∷ MINUS ∷ BITNOT ∷ LP ∷ EXISTS ∷ CASE ∷ CAST ∷ []))

-- "Text numbers are read for kinds 1 to 10 and 40 only"
abbrev pub with_text : List ℕ
with_text = ID ∷ KWID ∷ STRING ∷ INDEXED ∷ JOIN_KW ∷ INTEGER ∷ FLOAT ∷ BLOB ∷ VARIABLE ∷ CTIME_KW ∷ LIKE_KW ∷ []

-- "39 | binary kind, IS NOT 137, LIKE_KW 200 + text, NOT LIKE_KW 300 + text; two operands": the operators between two operands
-- that are always one token, their kind the detail. IS is none of them, since NOT after it makes IS NOT
abbrev pub binaries : List ℕ
binaries =
    OR ∷ AND ∷ EQ ∷ NE ∷ LT ∷ LE ∷ GT ∷ GE ∷ BITAND ∷ BITOR ∷ LSHIFT ∷ RSHIFT ∷ PLUS ∷ MINUS ∷ STAR ∷ SLASH ∷ REM ∷ CONCAT ∷ []

-- "20 to 23 | name from ID, STRING, INDEXED, JOIN_KW"; "KWID counts as ID everywhere."
abbrev pub name_codes : List Line
name_codes = (20 for ID ∷ KWID ∷ []) ∷ (21 for STRING ∷ []) ∷ (22 for INDEXED ∷ []) ∷ (23 for JOIN_KW ∷ []) ∷ []

-- "24 to 30 | INTEGER, FLOAT, STRING, BLOB, VARIABLE, CTIME_KW (text number), NULL"
abbrev pub literal_codes : List Line
literal_codes =
    (24 for INTEGER ∷ [])
    ∷ (25 for FLOAT ∷ [])
    ∷ (26 for STRING ∷ [])
    ∷ (27 for BLOB ∷ [])
    ∷ (28 for VARIABLE ∷ [])
    ∷ (29 for CTIME_KW ∷ [])
    ∷ (30 for NULL ∷ [])
    ∷ []

-- whether a kind is of the class; the code of its record, 0 where it is none such
unfoldable pub is_name : ℕ → Bool
is_name k = among k names

unfoldable pub is_bare_alias : ℕ → Bool
is_bare_alias k = among k bare_aliases

unfoldable pub is_literal : ℕ → Bool
is_literal k = among k literals

unfoldable pub heads_call : ℕ → Bool
heads_call k = among k call_heads

unfoldable pub begins_expr : ℕ → Bool
begins_expr k = among k firsts_of_expr

unfoldable pub reads_text : ℕ → Bool
reads_text k = among k with_text

unfoldable pub is_binary : ℕ → Bool
is_binary k = among k binaries

unfoldable pub name_code : ℕ → ℕ
name_code k = number_of k name_codes

unfoldable pub literal_code : ℕ → ℕ
literal_code k = number_of k literal_codes

-- a code where there is one: no record of a name or a literal has code 0
abbrev pub code_there : ℕ → Option ℕ
code_there n = cond (eqb n 0) None (Some n)

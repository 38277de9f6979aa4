-- Further commands beside 01's samples, one for a sentence that no sample tests, each with its outcome. Their text numbers begin at 8.
-- Definitions only.
use Rattle.std.specs.Prelude.{List, [], ◌∷◌, ◌++◌}
use Rattle.kinds.specs.Kinds.{ID, KWID, INDEXED, JOIN_KW, LP, RP, COMMA, DOT, SEMI, STAR, PLUS, MINUS, EQ, AND, NOT, IS, IN, BETWEEN, ISNULL, COLLATE, SELECT, VALUES, FROM, JOIN, LIMIT, OFFSET}
use Rattle.theory.specs.Trees.{Tok}
use Rattle.words.specs.Words.{LEFT, OUTER}
use Rattle.grammar.specs.Nodes.{rec}
use Rattle.grammar.specs.Samples.{Sample, w, v, refused_at, accepted_as, times, around, absent, plain, table_of}

unfoldable pub examples : List Sample
examples =
    -- SELECT * FROM t OUTER LEFT JOIN u: "Testing join flags word by word: OUTER LEFT is legal."
    accepted_as (w SELECT ∷ w STAR ∷ w FROM ∷ v ID 8 ∷ v JOIN_KW OUTER ∷ v JOIN_KW LEFT ∷ w JOIN ∷ v ID 9 ∷ [])
    (rec 5 0 0 1 ∷ rec 4 0 1 2 ∷ (table_of 8 ++ (table_of 9 ++ (absent ∷ rec 9 104 2 7 ∷ rec 8 0 2 13 ∷ absent ∷ absent ∷ absent ∷ rec 2 0 5 19 ∷ absent ∷ absent ∷ absent ∷ rec 1 0 4 23 ∷ []))))
    (w SELECT ∷ w STAR ∷ w FROM ∷ v ID 8 ∷ v JOIN_KW LEFT ∷ w JOIN ∷ v ID 9 ∷ [])
    -- SELECT a IN ((SELECT b)): a list of one member, "taking IN ((query)) for IN (query)"
    ∷ accepted_as (w SELECT ∷ v ID 8 ∷ w IN ∷ w LP ∷ w LP ∷ w SELECT ∷ v ID 9 ∷ w RP ∷ w RP ∷ [])
    (rec 20 8 0 1 ∷ rec 31 0 1 2 ∷ rec 20 9 0 1 ∷ rec 31 0 1 2 ∷ absent ∷ rec 7 0 2 4 ∷ rec 4 0 1 5 ∷ (plain 5 ++ (rec 34 0 1 15 ∷ rec 4 0 1 16 ∷ rec 41 0 2 19 ∷ absent ∷ rec 7 0 2 21 ∷ rec 4 0 1 22 ∷ plain 22)))
    (w SELECT ∷ v ID 8 ∷ w IN ∷ w LP ∷ w LP ∷ w SELECT ∷ v ID 9 ∷ w RP ∷ w RP ∷ [])
    -- SELECT (a + b) * c: "Dropping parentheses in (a+b)*c"
    ∷ accepted_as (w SELECT ∷ w LP ∷ v ID 8 ∷ w PLUS ∷ v ID 9 ∷ w RP ∷ w STAR ∷ v ID 10 ∷ [])
    (rec 20 8 0 1 ∷ rec 31 0 1 2 ∷ rec 20 9 0 1 ∷ rec 31 0 1 2 ∷ rec 39 18 2 5 ∷ rec 33 0 1 6 ∷ rec 20 10 0 1 ∷ rec 31 0 1 2 ∷ rec 39 17 2 9 ∷ absent ∷ rec 7 0 2 11 ∷ rec 4 0 1 12 ∷ plain 12)
    (w SELECT ∷ w LP ∷ v ID 8 ∷ w PLUS ∷ v ID 9 ∷ w RP ∷ w STAR ∷ v ID 10 ∷ [])
    -- SELECT a FROM t NOT INDEXED: a text number is read "of INDEXED only where it is a name"
    ∷ accepted_as (w SELECT ∷ v ID 8 ∷ w FROM ∷ v ID 9 ∷ w NOT ∷ v INDEXED 10 ∷ [])
    (rec 20 8 0 1 ∷ rec 31 0 1 2 ∷ absent ∷ rec 7 0 2 4 ∷ rec 4 0 1 5 ∷ absent ∷ rec 20 9 0 1 ∷ absent ∷ absent ∷ rec 12 8 4 5 ∷ rec 8 0 1 6 ∷ absent ∷ absent ∷ absent ∷ rec 2 0 5 15 ∷ absent ∷ absent ∷ absent ∷ rec 1 0 4 19 ∷ [])
    (w SELECT ∷ v ID 8 ∷ w FROM ∷ v ID 9 ∷ w NOT ∷ w INDEXED ∷ [])
    -- VALUES (k . a) LIMIT i OFFSET c ; "KWID counts as ID everywhere"; "LIMIT a OFFSET b (limit a)"; the writing has no SEMI
    ∷ accepted_as (w VALUES ∷ w LP ∷ v KWID 11 ∷ w DOT ∷ v ID 11 ∷ w RP ∷ w LIMIT ∷ v INDEXED 11 ∷ w OFFSET ∷ v ID 13 ∷ w SEMI ∷ [])
    (rec 20 11 0 1 ∷ rec 20 11 0 1 ∷ rec 31 0 2 3 ∷ rec 4 0 1 4 ∷ rec 3 0 1 5 ∷ absent ∷ rec 22 11 0 1 ∷ rec 31 0 1 2 ∷ rec 20 13 0 1 ∷ rec 31 0 1 2 ∷ rec 1 0 4 11 ∷ [])
    (w VALUES ∷ w LP ∷ v ID 11 ∷ w DOT ∷ v ID 11 ∷ w RP ∷ w LIMIT ∷ v INDEXED 11 ∷ w OFFSET ∷ v ID 13 ∷ [])
    -- VALUES (a,b),(c,d),(e); VALUES (a),(b,c),(d): "row length differs from the first"
    ∷ refused_at (w VALUES ∷ w LP ∷ v ID 8 ∷ w COMMA ∷ v ID 9 ∷ w RP ∷ w COMMA ∷ w LP ∷ v ID 10 ∷ w COMMA ∷ v ID 11 ∷ w RP ∷ w COMMA ∷ w LP ∷ v ID 12 ∷ w RP ∷ []) 8 15
    ∷ refused_at (w VALUES ∷ w LP ∷ v ID 8 ∷ w RP ∷ w COMMA ∷ w LP ∷ v ID 9 ∷ w COMMA ∷ v ID 10 ∷ w RP ∷ w COMMA ∷ w LP ∷ v ID 11 ∷ w RP ∷ []) 8 9
    -- SELECT a , : "Eating a trailing comma"
    ∷ refused_at (w SELECT ∷ v ID 8 ∷ w COMMA ∷ []) 4 3
    -- SELECT a + NOT b = c: "its operand then runs on at NOT's own strength, so `a + NOT b = c` is a + (NOT (b = c))"
    ∷ accepted_as (w SELECT ∷ v ID 8 ∷ w PLUS ∷ w NOT ∷ v ID 9 ∷ w EQ ∷ v ID 10 ∷ [])
    (rec 20 8 0 1 ∷ rec 31 0 1 2 ∷ rec 20 9 0 1 ∷ rec 31 0 1 2 ∷ rec 20 10 0 1 ∷ rec 31 0 1 2 ∷ rec 39 28 2 5 ∷ rec 38 36 1 6 ∷ rec 39 18 2 9 ∷ absent ∷ rec 7 0 2 11 ∷ rec 4 0 1 12 ∷ plain 12)
    (w SELECT ∷ v ID 8 ∷ w PLUS ∷ w LP ∷ w NOT ∷ v ID 9 ∷ w EQ ∷ v ID 10 ∷ w RP ∷ [])
    -- SELECT a BETWEEN NOT b AND NOT c: "and each bound of BETWEEN, may begin with NOT"
    ∷ accepted_as (w SELECT ∷ v ID 8 ∷ w BETWEEN ∷ w NOT ∷ v ID 9 ∷ w AND ∷ w NOT ∷ v ID 10 ∷ [])
    (rec 20 8 0 1 ∷ rec 31 0 1 2 ∷ rec 20 9 0 1 ∷ rec 31 0 1 2 ∷ rec 38 36 1 3 ∷ rec 20 10 0 1 ∷ rec 31 0 1 2 ∷ rec 38 36 1 3 ∷ rec 43 0 3 9 ∷ absent ∷ rec 7 0 2 11 ∷ rec 4 0 1 12 ∷ plain 12)
    (w SELECT ∷ v ID 8 ∷ w BETWEEN ∷ w LP ∷ w NOT ∷ v ID 9 ∷ w RP ∷ w AND ∷ w LP ∷ w NOT ∷ v ID 10 ∷ w RP ∷ [])
    -- SELECT a IS NOT NOT b: "NOT after IS always makes IS NOT", and its operand begins with NOT
    ∷ accepted_as (w SELECT ∷ v ID 8 ∷ w IS ∷ w NOT ∷ w NOT ∷ v ID 9 ∷ [])
    (rec 20 8 0 1 ∷ rec 31 0 1 2 ∷ rec 20 9 0 1 ∷ rec 31 0 1 2 ∷ rec 38 36 1 3 ∷ rec 39 137 2 6 ∷ absent ∷ rec 7 0 2 8 ∷ rec 4 0 1 9 ∷ plain 9)
    (w SELECT ∷ v ID 8 ∷ w IS ∷ w NOT ∷ w LP ∷ w NOT ∷ v ID 9 ∷ w RP ∷ [])
    -- SELECT a = NOT b AND c: AND is looser than NOT, so its left operand is a = NOT b
    ∷ accepted_as (w SELECT ∷ v ID 8 ∷ w EQ ∷ w NOT ∷ v ID 9 ∷ w AND ∷ v ID 10 ∷ [])
    (rec 20 8 0 1 ∷ rec 31 0 1 2 ∷ rec 20 9 0 1 ∷ rec 31 0 1 2 ∷ rec 38 36 1 3 ∷ rec 39 28 2 6 ∷ rec 20 10 0 1 ∷ rec 31 0 1 2 ∷ rec 39 34 2 9 ∷ absent ∷ rec 7 0 2 11 ∷ rec 4 0 1 12 ∷ plain 12)
    (w SELECT ∷ v ID 8 ∷ w EQ ∷ w LP ∷ w NOT ∷ v ID 9 ∷ w RP ∷ w AND ∷ v ID 10 ∷ [])
    -- SELECT a = ( NOT b ): code 33 where the command has the parentheses, and the writing of K12
    ∷ accepted_as (w SELECT ∷ v ID 8 ∷ w EQ ∷ w LP ∷ w NOT ∷ v ID 9 ∷ w RP ∷ [])
    (rec 20 8 0 1 ∷ rec 31 0 1 2 ∷ rec 20 9 0 1 ∷ rec 31 0 1 2 ∷ rec 38 36 1 3 ∷ rec 33 0 1 4 ∷ rec 39 28 2 7 ∷ absent ∷ rec 7 0 2 9 ∷ rec 4 0 1 10 ∷ plain 10)
    (w SELECT ∷ v ID 8 ∷ w EQ ∷ w LP ∷ w NOT ∷ v ID 9 ∷ w RP ∷ [])
    -- SELECT - NOT a; SELECT a COLLATE NOT: "The operand of a prefix of strength 11 may not begin with NOT", and NOT is no name
    ∷ refused_at (w SELECT ∷ w MINUS ∷ w NOT ∷ v ID 8 ∷ []) 3 2
    ∷ refused_at (w SELECT ∷ v ID 8 ∷ w COLLATE ∷ w NOT ∷ []) 3 3
    -- SELECT a * NOT b ISNULL + c: "what ends in such a NOT is no left operand of an operator of strengths 4 to 10"
    ∷ refused_at (w SELECT ∷ v ID 8 ∷ w STAR ∷ w NOT ∷ v ID 9 ∷ w ISNULL ∷ w PLUS ∷ v ID 10 ∷ []) 3 6
    ∷ []

-- SELECT, 61 times NOT, then a = NOT b: b stands at level 64. Its writing, where b stands at 65
abbrev pub deepest : List Tok
deepest = w SELECT ∷ times 61 (w NOT ∷ []) (v ID 8 ∷ w EQ ∷ w NOT ∷ v ID 9 ∷ [])

abbrev pub deeper_still : List Tok
deeper_still = w SELECT ∷ times 61 (w NOT ∷ []) (v ID 8 ∷ w EQ ∷ w LP ∷ w NOT ∷ v ID 9 ∷ w RP ∷ [])

-- "which may add a level, so demand 3 now also asks that the writing stand within 64 levels"
unfoldable pub depths : List Sample
depths =
    accepted_as deepest
    (rec 20 8 0 1 ∷ rec 31 0 1 2 ∷ rec 20 9 0 1 ∷ rec 31 0 1 2 ∷ rec 38 36 1 3 ∷ rec 39 28 2 6 ∷ (around 38 36 61 6 ++ (absent ∷ rec 7 0 2 69 ∷ rec 4 0 1 70 ∷ plain 70)))
    deeper_still
    ∷ refused_at deeper_still 5 66
    ∷ []

-- 01's sample commands K1 to K13 as one table, each with the outcome that 01 gives: number, place, and for an accepted one its records and
-- its canonical writing. Names and numbers in commands have text numbers 1, 2, 3, .. in order. Definitions only.
use Rattle.std.specs.Prelude.{List, [], ◌∷◌, ◌++◌, ℕ, ◌+◌, zero, suc, length}
use Rattle.theory.specs.Trees.{Tok}
use Rattle.kinds.specs.Kinds.{ID, JOIN_KW, INTEGER, LP, RP, COMMA, SEMI, STAR, PLUS, EQ, NOT, IN, AS, SELECT, VALUES, ALL, FROM, JOIN, HAVING, LIMIT, OFFSET}
use Rattle.words.specs.Words.{INNER, LEFT, OUTER}
use Rattle.grammar.specs.Nodes.{Rec, rec}

pub record Sample : Type 0 where
  pub command : List Tok
  pub number : ℕ
  pub place : ℕ
  pub records : List Rec
  pub writing : List Tok

abbrev pub w : ℕ → Tok
w k = record { kind = k; text = 0 }

abbrev pub v : ℕ → ℕ → Tok
v k x = record { kind = k; text = x }

-- a refusal has neither records nor a writing
abbrev pub refused_at : List Tok → ℕ → ℕ → Sample
refused_at ts m p = record { command = ts; number = m; place = p; records = []; writing = [] }

abbrev pub accepted_as : List Tok → List Rec → List Tok → Sample
accepted_as ts rs us = record { command = ts; number = 0; place = length rs; records = rs; writing = us }

unfoldable pub times : {A : Type 0} → ℕ → List A → List A → List A
times zero a b = b
times (suc n) a b = a ++ times n a b

-- a code with one child around what has s records, n times
unfoldable pub around : ℕ → ℕ → ℕ → ℕ → List Rec
around code detail zero s = []
around code detail (suc n) s = rec code detail 1 (s + 1) ∷ around code detail n (s + 1)

abbrev pub absent : Rec
absent = rec 0 0 0 1

-- after the column list of s records: no FROM, WHERE, GROUP BY, HAVING; select and query
abbrev pub plain : ℕ → List Rec
plain s = absent ∷ absent ∷ absent ∷ absent ∷ rec 2 0 5 (s + 5) ∷ absent ∷ absent ∷ absent ∷ rec 1 0 4 (s + 9) ∷ []

-- SELECT a FROM t .. JOIN u
abbrev pub join_by : List Tok → List Tok
join_by ws = w SELECT ∷ v ID 1 ∷ w FROM ∷ v ID 2 ∷ (ws ++ (w JOIN ∷ v ID 3 ∷ []))

abbrev pub parens : ℕ → List Tok
parens n = w SELECT ∷ times n (w LP ∷ []) (v INTEGER 1 ∷ times n (w RP ∷ []) [])

-- a table named by the number x, with nothing else
abbrev pub table_of : ℕ → List Rec
table_of x = absent ∷ rec 20 x 0 1 ∷ absent ∷ absent ∷ rec 12 0 4 5 ∷ []

unfoldable pub samples : List Sample
samples =
    -- K1: SELECT STAR; "SELECT STAR gives 11 records: (5,0,0,1) (4,0,1,2) four (0,0,0,1) (2,0,5,7) three (0,0,0,1) (1,0,4,11)"
    accepted_as (w SELECT ∷ w STAR ∷ []) (rec 5 0 0 1 ∷ rec 4 0 1 2 ∷ absent ∷ absent ∷ absent ∷ absent ∷ rec 2 0 5 7 ∷ absent ∷ absent ∷ absent ∷ rec 1 0 4 11 ∷ []) (w SELECT ∷ w STAR ∷ [])
    -- K2: nothing; SEMI alone
    ∷ refused_at [] 4 0
    ∷ refused_at (w SEMI ∷ []) 3 0
    -- K3: SELECT a FROM t OUTER JOIN u
    ∷ refused_at (join_by (v JOIN_KW OUTER ∷ [])) 7 5
    -- K4: K3 with LEFT for OUTER: detail 104
    ∷ accepted_as (join_by (v JOIN_KW LEFT ∷ []))
    (rec 20 1 0 1 ∷ rec 31 0 1 2 ∷ absent ∷ rec 7 0 2 4 ∷ rec 4 0 1 5 ∷ (table_of 2 ++ (table_of 3 ++ (absent ∷ rec 9 104 2 7 ∷ rec 8 0 2 13
    ∷ absent ∷ absent ∷ absent ∷ rec 2 0 5 22 ∷ absent ∷ absent ∷ absent ∷ rec 1 0 4 26 ∷ []))))
    (join_by (v JOIN_KW LEFT ∷ []))
    -- K5: K3 with LEFT INNER for OUTER
    ∷ refused_at (join_by (v JOIN_KW LEFT ∷ v JOIN_KW INNER ∷ [])) 7 6
    -- K6: SELECT 1 LIMIT 2 , 3: limit 3, offset 2
    ∷ accepted_as (w SELECT ∷ v INTEGER 1 ∷ w LIMIT ∷ v INTEGER 2 ∷ w COMMA ∷ v INTEGER 3 ∷ [])
    (rec 24 1 0 1 ∷ absent ∷ rec 7 0 2 3 ∷ rec 4 0 1 4 ∷ absent ∷ absent ∷ absent ∷ absent ∷ rec 2 0 5 9 ∷ absent ∷ rec 24 3 0 1 ∷ rec 24 2 0 1 ∷ rec 1 0 4 13 ∷ [])
    (w SELECT ∷ v INTEGER 1 ∷ w LIMIT ∷ v INTEGER 3 ∷ w OFFSET ∷ v INTEGER 2 ∷ [])
    -- K7: VALUES (1),(2,3)
    ∷ refused_at (w VALUES ∷ w LP ∷ v INTEGER 1 ∷ w RP ∷ w COMMA ∷ w LP ∷ v INTEGER 2 ∷ w COMMA ∷ v INTEGER 3 ∷ w RP ∷ []) 8 9
    -- K8: SELECT 1 HAVING 2: group list (4,0,0,1)
    ∷ accepted_as (w SELECT ∷ v INTEGER 1 ∷ w HAVING ∷ v INTEGER 2 ∷ [])
    (rec 24 1 0 1 ∷ absent ∷ rec 7 0 2 3 ∷ rec 4 0 1 4 ∷ absent ∷ absent ∷ rec 4 0 0 1 ∷ rec 24 2 0 1 ∷ rec 2 0 5 9 ∷ absent ∷ absent ∷ absent ∷ rec 1 0 4 13 ∷ [])
    (w SELECT ∷ v INTEGER 1 ∷ w HAVING ∷ v INTEGER 2 ∷ [])
    -- K9: SELECT a IN (); SELECT a IN (1,)
    ∷ accepted_as (w SELECT ∷ v ID 1 ∷ w IN ∷ w LP ∷ w RP ∷ []) (rec 20 1 0 1 ∷ rec 31 0 1 2 ∷ rec 4 0 0 1 ∷ rec 41 0 2 4 ∷ absent ∷ rec 7 0 2 6 ∷ rec 4 0 1 7 ∷ plain 7)
    (w SELECT ∷ v ID 1 ∷ w IN ∷ w LP ∷ w RP ∷ [])
    ∷ refused_at (w SELECT ∷ v ID 1 ∷ w IN ∷ w LP ∷ v INTEGER 1 ∷ w COMMA ∷ w RP ∷ []) 3 6
    -- K10: SELECT, then 1 in 63 pairs of parentheses; in 64
    ∷ accepted_as (parens 63) (rec 24 1 0 1 ∷ (around 33 0 63 1 ++ (absent ∷ rec 7 0 2 66 ∷ rec 4 0 1 67 ∷ plain 67))) (w SELECT ∷ v INTEGER 1 ∷ [])
    ∷ refused_at (parens 64) 5 65
    -- K11: 17 SELECTs, each in the last's column
    ∷ refused_at (times 16 (w SELECT ∷ w LP ∷ []) (w SELECT ∷ v INTEGER 1 ∷ times 16 (w RP ∷ []) [])) 6 32
    -- K12: SELECT a = NOT b: written SELECT a = ( NOT b )
    ∷ accepted_as (w SELECT ∷ v ID 1 ∷ w EQ ∷ w NOT ∷ v ID 2 ∷ [])
    (rec 20 1 0 1 ∷ rec 31 0 1 2 ∷ rec 20 2 0 1 ∷ rec 31 0 1 2 ∷ rec 38 36 1 3 ∷ rec 39 28 2 6 ∷ absent ∷ rec 7 0 2 8 ∷ rec 4 0 1 9 ∷ plain 9)
    (w SELECT ∷ v ID 1 ∷ w EQ ∷ w LP ∷ w NOT ∷ v ID 2 ∷ w RP ∷ [])
    -- K13: SELECT ALL (a)+(b*c) x: written SELECT a + b * c AS x
    ∷ accepted_as (w SELECT ∷ w ALL ∷ w LP ∷ v ID 1 ∷ w RP ∷ w PLUS ∷ w LP ∷ v ID 2 ∷ w STAR ∷ v ID 3 ∷ w RP ∷ v ID 4 ∷ [])
    (rec 20 1 0 1 ∷ rec 31 0 1 2 ∷ rec 33 0 1 3 ∷ rec 20 2 0 1 ∷ rec 31 0 1 2 ∷ rec 20 3 0 1 ∷ rec 31 0 1 2 ∷ rec 39 17 2 5 ∷ rec 33 0 1 6 ∷ rec 39 18 2 10 ∷ rec 20 4 0 1 ∷ rec 7 2 2 12 ∷ rec 4 0 1 13
    ∷ absent ∷ absent ∷ absent ∷ absent ∷ rec 2 2 5 18 ∷ absent ∷ absent ∷ absent ∷ rec 1 0 4 22 ∷ [])
    (w SELECT ∷ v ID 1 ∷ w PLUS ∷ v ID 2 ∷ w STAR ∷ v ID 3 ∷ w AS ∷ v ID 4 ∷ [])
    ∷ []

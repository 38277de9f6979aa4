-- An example that tests the theory: a small query language as a table, and its further rules as a judge. Definitions only.
-- Kinds: 1 name, 2 quoted name, 12 ( 13 ) 14 , 17 * 18 + 19 - 28 = 36 NOT 52 SELECT 60 WHERE 70 VALUES, 0 the end.
-- Classes: 1 expression, 20 command, 21 { , expr }, 22 [ WHERE expr ], 23 what stands in ( ), 24 row, 25 { , row }.
use Rattle.std.specs.Prelude.{List, [], ◌∷◌, ℕ, ◌+◌, ltb, eqb, leb}
use Rattle.theory.specs.Trees.{Tok, Nt, Item, lit, nt, Row, Tree, nil, add, leaf, node}
use Rattle.theory.specs.Table.{Line, Come, Table, pick, both}

-- an expression of strength s or tighter; any of a class
abbrev pub expr : ℕ → Nt
expr s = record { of = 1; least = s }

abbrev pub any : ℕ → Nt
any C = record { of = C; least = 0 }

abbrev pub row : ℕ → ℕ → List Item → Row
row code str items = record { code = code; str = str; left = str; cap = 99; items = items }

abbrev pub comma_row : Row
comma_row = row 0 0 (nt (expr 1) ∷ [])

abbrev pub rows_row : Row
rows_row = row 3 0 (nt (any 24) ∷ [])

-- the classes in which an expression may stand
unfoldable pub exprs : List ℕ
exprs = 1 ∷ 23 ∷ []

abbrev pub line : List ℕ → List ℕ → Row → Line
line of at row = record { of = of; at = at; row = row }

unfoldable pub heads : List Line
heads = line exprs (1 ∷ 2 ∷ []) (row 20 12 [])
    ∷ line exprs (12 ∷ []) (row 33 12 (nt (any 23) ∷ lit 13 ∷ []))
    ∷ line exprs (19 ∷ []) (row 38 11 (nt (expr 11) ∷ []))
    ∷ line exprs (36 ∷ []) (record { code = 38; str = 9; left = 9; cap = 3; items = nt (expr 3) ∷ [] })
    ∷ line (20 ∷ 23 ∷ []) (52 ∷ []) (row 1 0 (nt (expr 1) ∷ nt (any 21) ∷ nt (any 22) ∷ []))
    ∷ line (20 ∷ []) (70 ∷ []) (row 2 0 (nt (any 24) ∷ nt (any 25) ∷ []))
    ∷ line (24 ∷ []) (12 ∷ []) (row 4 0 (nt (expr 1) ∷ nt (any 21) ∷ lit 13 ∷ []))
    ∷ line (21 ∷ []) (14 ∷ []) comma_row
    ∷ line (25 ∷ []) (14 ∷ []) rows_row
    ∷ line (22 ∷ []) (60 ∷ []) (row 5 0 (nt (expr 1) ∷ [])) ∷ []

unfoldable pub tails : List Line
tails = line exprs (17 ∷ []) (row 39 8 (nt (expr 9) ∷ []))
    ∷ line exprs (18 ∷ 19 ∷ []) (row 39 7 (nt (expr 8) ∷ []))
    ∷ line exprs (28 ∷ []) (record { code = 39; str = 4; left = 4; cap = 3; items = nt (expr 5) ∷ [] })
    ∷ line (21 ∷ []) (14 ∷ []) comma_row
    ∷ line (25 ∷ []) (14 ∷ []) rows_row ∷ []

abbrev pub come : ℕ → List ℕ → Come
come s ks = record { asks = s; at = ks }

unfoldable pub follows : ℕ → List Come
follows C = pick (eqb C 1) (come 0 (13 ∷ 0 ∷ 60 ∷ 14 ∷ []) ∷ come 4 (28 ∷ []) ∷ come 7 (18 ∷ 19 ∷ []) ∷ come 8 (17 ∷ []) ∷ [])
    (λ w. pick (eqb C 21) (come 0 (13 ∷ 0 ∷ 60 ∷ []) ∷ []) (λ w. pick (eqb C 22) (come 0 (13 ∷ 0 ∷ []) ∷ [])
    (λ w. pick (eqb C 23) (come 0 (13 ∷ []) ∷ []) (λ w. pick (eqb C 24) (come 0 (14 ∷ 0 ∷ []) ∷ []) (λ w. come 0 (0 ∷ []) ∷ [])))))

abbrev pub tok : ℕ → Tok
tok k = record { kind = k; text = 0 }

unfoldable pub small : Table
small = record {
  heads = heads;
  tails = tails;
  nulls = 21 ∷ 22 ∷ 25 ∷ [];
  follow = follows;
  eof = 0;
  witness = λ C. pick (eqb C 20) (tok 52 ∷ tok 1 ∷ []) (λ w. pick (eqb C 24) (tok 12 ∷ tok 1 ∷ tok 13 ∷ []) (λ w. tok 1 ∷ []));
}

-- the level that an expression has which begins here, how many queries are open, and how long a row must be (0: no matter)
pub record Cx : Type 0 where
  pub lev : ℕ
  pub deep : ℕ
  pub want : ℕ

-- how many expressions: of a list's node, the items before it and its own
unfoldable pub count : Tree → ℕ
count nil = 0
count (add f x) = count f + count x
count (leaf t) = 0
count (node r l t f) = pick (eqb r.code 0) (count l + 1) (λ w. 1)

-- of the children so far of VALUES: the length of the first row
unfoldable pub first_row : Tree → ℕ
unfolding count
first_row nil = 0
first_row (add f x) = first_row x
first_row (leaf t) = 0
first_row (node r l t f) = count f

unfoldable pub under : Row → Tree → Tok → Tree → Cx → Cx
unfolding count first_row
under r l t k c = record {
  lev = pick (leb 1 r.str) (c.lev + 1) (λ w. c.lev);
  deep = pick (eqb r.code 1) (c.deep + 1) (λ w. c.deep);
  want = pick (eqb r.code 2) (first_row k) (λ w. pick (eqb r.code 3) c.want (λ w. 0));
}

-- where a row begins with no left operand: 5, an expression deeper than limit; 6, a query in 16 others
unfoldable pub begun : ℕ → Cx → Row → Tree → ℕ
begun limit c r nil = pick (leb 1 r.str) (pick (ltb limit c.lev) 5 (λ w. 0)) (λ w. pick (eqb r.code 1) (pick (leb 16 c.deep) 6 (λ w. 0)) (λ w. 0))
begun limit c r (add a b) = 0
begun limit c r (leaf t) = 0
begun limit c r (node q l t f) = 0

-- 7, at the end of a row that is not as long as the first
unfoldable pub judge : ℕ → Cx → Row → Tree → Tok → Tree → ℕ
unfolding begun count
judge limit c r l t nil = begun limit c r l
judge limit c r l t (add f x) = pick (both (eqb r.code 4) (ltb 0 c.want)) (pick (eqb (count f) c.want) 0 (λ w. 7)) (λ w. 0)
judge limit c r l t (leaf u) = 0
judge limit c r l t (node q m u f) = 0

abbrev pub start : Cx
start = record { lev = 1; deep = 0; want = 0 }

-- 01's grammar, one line a production, in the order of 01's bullets. Definitions only.
-- begins A ks row: A → t row, for t one of the kinds ks.  goes: A → A t row.  rest: both, which is a list's rest { t row }.
use Rattle.std.specs.Prelude.{List, [], ◌∷◌, ◌++◌, ℕ, ◌+◌}
use Rattle.theory.specs.Trees.{Item, lit, nt, Row}
use Rattle.theory.specs.Table.{Line}
use Rattle.kinds.specs.Kinds.{ID, KWID, STRING, INDEXED, JOIN_KW, INTEGER, FLOAT, BLOB, VARIABLE, CTIME_KW, NULL, LP, RP, COMMA, DOT, SEMI, STAR, PLUS, MINUS, SLASH, REM, CONCAT, BITAND, BITOR, LSHIFT, RSHIFT, BITNOT, EQ, NE, LT, LE, GT, GE, AND, OR, NOT, IS, IN, BETWEEN, LIKE_KW, ISNULL, NOTNULL, COLLATE, CASE, WHEN, THEN, ELSE, END, CAST, AS, EXISTS, SELECT, VALUES, DISTINCT, ALL, FROM, JOIN, ON, USING, WHERE, GROUP, BY, HAVING, ORDER, ASC, DESC, NULLS, FIRST, LAST, LIMIT, OFFSET}
use Rattle.grammar.specs.Classes.{Expr, Command, Name, Query, Paren, FirstLast, Rows, Column, StarOrName, Source, SecondName, Not, IsRight, Semi?, Names?, Exprs?, Inside?, Order?, Terms?, Way?, Nulls?, Limit?, Offset?, Distinct?, Columns?, From?, Where?, Group?, Having?, ColRest?, ColDots?, Joins?, Word2?, Word3?, On?, Dot?, Alias?, Index?, Base?, Args?, NameRest?, Dots?, Whens?, Else?, E, any, after_is}
use Rattle.grammar.specs.RowNames.{row_select, row_values, row_semi, row_name, row_next_name, row_next_expr, row_order, row_next_term, row_asc, row_desc, row_nulls, row_first, row_last, row_limit, row_offset, row_comma_offset, row_first_row, row_next_row, row_distinct, row_all, row_next_column, row_from, row_where, row_group, row_having, row_star, row_names, row_dot, row_dot_star, row_second_name, row_as, row_bare, row_comma_join, row_join, row_word_join, row_word, row_on, row_using, row_table, row_query_source, row_dot_name, row_source_as, row_source_bare, row_indexed_by, row_not_indexed, row_binary, row_prefix, row_is, row_is_not, row_like, row_in, row_between, row_not, row_not_like, row_not_in, row_not_between, row_not_null, row_null_test, row_collate, row_literal, row_call, row_star_args, row_distinct_args, row_parens, row_more_exprs, row_exists, row_case, row_next_when, row_else, row_cast}

pub data Prod : Type 0 where
  begins : List ℕ → List ℕ → Row → Prod
  goes : List ℕ → List ℕ → Row → Prod
  rest : List ℕ → List ℕ → Row → Prod

-- a row: its code, what follows its token. A part is no expression, and any part may stand on its left
abbrev pub part : ℕ → List Item → Row
part c is = record { code = c; str = 0; left = 0; cap = 99; items = is }

-- an expression of strength s: "a left operand has its operator's strength or tighter"
abbrev pub strong : ℕ → ℕ → List Item → Row
strong s c is = record { code = c; str = s; left = s; cap = 99; items = is }

-- "a right one is strictly tighter"
abbrev pub binary : ℕ → Row
binary s = strong s row_binary (nt (E (s + 1)) ∷ [])

-- after an expression and not after another of its kind: an alias, a list's second member
abbrev pub once : ℕ → List Item → Row
once c is = record { code = c; str = 0; left = 1; cap = 99; items = is }

-- nothing goes on from what ends in it: name DOT STAR
abbrev pub ending : ℕ → List Item → Row
ending c is = record { code = c; str = 0; left = 0; cap = 0; items = is }

-- it stands where s or looser is asked, and leaves c: what ends in it is no left operand of what asks more
abbrev pub running : ℕ → ℕ → ℕ → List Item → Row
running s c code is = record { code = code; str = s; left = s; cap = c; items = is }

-- the classes in which an expression may stand: all but the first are an expression, or something besides. A column has rows of its own for names,
-- and what follows IS one for NOT
unfoldable pub but_column : List ℕ
but_column = Expr ∷ Base? ∷ Paren ∷ Inside? ∷ Args? ∷ IsRight ∷ []

abbrev pub but_is : List ℕ
but_is = Expr ∷ Base? ∷ Paren ∷ Inside? ∷ Args? ∷ Column ∷ []

unfoldable pub exprs : List ℕ
exprs = Expr ∷ Base? ∷ Paren ∷ Inside? ∷ Args? ∷ Column ∷ IsRight ∷ []

abbrev pub operand : List ℕ → Row → Prod
operand ks r = begins exprs ks r

abbrev pub operator : List ℕ → Row → Prod
operator ks r = goes exprs ks r

unfoldable pub select_items : List Item
select_items = nt (any Distinct?) ∷ nt (any Column) ∷ nt (any Columns?) ∷ nt (any From?) ∷ nt (any Where?) ∷ nt (any Group?) ∷ nt (any Having?) ∷ nt (any Order?) ∷ nt (any Limit?) ∷ []

unfoldable pub values_items : List Item
values_items = nt (any Rows) ∷ nt (any Order?) ∷ nt (any Limit?) ∷ []

unfoldable pub lines : List Prod
lines =
    -- ── "One command: a query, then the end of the list or one SEMI and the end."
    begins (Command ∷ []) (SELECT ∷ []) (part row_select (select_items ++ (nt (any Semi?) ∷ [])))  -- a query, then one SEMI or none
    ∷ begins (Command ∷ []) (VALUES ∷ []) (part row_values (values_items ++ (nt (any Semi?) ∷ [])))
    ∷ begins (Semi? ∷ []) (SEMI ∷ []) (part row_semi [])
    -- ── Name: "ID, KWID, STRING, INDEXED or JOIN_KW. KWID counts as ID everywhere. Lists have one or more members, parted by COMMA."
    ∷ begins (Name ∷ []) (ID ∷ KWID ∷ STRING ∷ INDEXED ∷ JOIN_KW ∷ []) (part row_name [])  -- read as 20 to 23 by its kind
    ∷ rest (Names? ∷ []) (COMMA ∷ []) (part row_next_name (nt (any Name) ∷ []))  -- { , name }: the rest of a list of names
    ∷ rest (Exprs? ∷ []) (COMMA ∷ []) (part row_next_expr (nt (E 1) ∷ []))  -- { , expression }: the rest of a list of expressions
    -- ── Query: "body; optional ORDER BY with terms (expression, optional ASC or DESC, optional NULLS FIRST or LAST); optional LIMIT a, LIMIT a OFFSET
    --    b (limit a) or LIMIT a , b (limit b, offset a)."
    ∷ begins (Query ∷ Paren ∷ Inside? ∷ []) (SELECT ∷ []) (part row_select select_items)  -- body SELECT, then ORDER BY, LIMIT; a query may begin alone, in ( ), in IN ( )
    ∷ begins (Query ∷ Paren ∷ Inside? ∷ []) (VALUES ∷ []) (part row_values values_items)  -- body VALUES, then ORDER BY, LIMIT
    ∷ begins (Order? ∷ []) (ORDER ∷ []) (part row_order (lit BY ∷ nt (E 1) ∷ nt (any Way?) ∷ nt (any Nulls?) ∷ nt (any Terms?) ∷ []))  -- ORDER BY with terms
    ∷ rest (Terms? ∷ []) (COMMA ∷ []) (part row_next_term (nt (E 1) ∷ nt (any Way?) ∷ nt (any Nulls?) ∷ []))  -- { , expression [ASC or DESC] [NULLS FIRST or LAST] }
    ∷ begins (Way? ∷ []) (ASC ∷ []) (part row_asc [])
    ∷ begins (Way? ∷ []) (DESC ∷ []) (part row_desc [])
    ∷ begins (Nulls? ∷ []) (NULLS ∷ []) (part row_nulls (nt (any FirstLast) ∷ []))  -- NULLS FIRST or LAST
    ∷ begins (FirstLast ∷ []) (FIRST ∷ []) (part row_first [])
    ∷ begins (FirstLast ∷ []) (LAST ∷ []) (part row_last [])
    ∷ begins (Limit? ∷ []) (LIMIT ∷ []) (part row_limit (nt (E 1) ∷ nt (any Offset?) ∷ []))  -- LIMIT a
    ∷ begins (Offset? ∷ []) (OFFSET ∷ []) (part row_offset (nt (E 1) ∷ []))  -- LIMIT a OFFSET b (limit a)
    ∷ begins (Offset? ∷ []) (COMMA ∷ []) (part row_comma_offset (nt (E 1) ∷ []))  -- LIMIT a , b (limit b, offset a)
    -- ── Body: "VALUES with rows ( expressions ), all of equal length; or SELECT, optional DISTINCT or ALL, columns, optional FROM, WHERE, GROUP BY
    --    list, HAVING, in that order."
    ∷ begins (Rows ∷ []) (LP ∷ []) (part row_first_row (nt (E 1) ∷ nt (any Exprs?) ∷ lit RP ∷ []))  -- the first row
    ∷ goes (Rows ∷ []) (COMMA ∷ []) (part row_next_row (lit LP ∷ nt (E 1) ∷ nt (any Exprs?) ∷ lit RP ∷ []))  -- a further row; its left operand is the rows before it
    ∷ begins (Distinct? ∷ []) (DISTINCT ∷ []) (part row_distinct [])
    ∷ begins (Distinct? ∷ []) (ALL ∷ []) (part row_all [])
    ∷ rest (Columns? ∷ []) (COMMA ∷ []) (part row_next_column (nt (any Column) ∷ []))  -- { , column }
    ∷ begins (From? ∷ []) (FROM ∷ []) (part row_from (nt (any Source) ∷ nt (any Joins?) ∷ []))  -- FROM: a source, then joins
    ∷ begins (Where? ∷ []) (WHERE ∷ []) (part row_where (nt (E 1) ∷ []))
    ∷ begins (Group? ∷ []) (GROUP ∷ []) (part row_group (lit BY ∷ nt (E 1) ∷ nt (any Exprs?) ∷ []))
    ∷ begins (Having? ∷ []) (HAVING ∷ []) (part row_having (nt (E 1) ∷ []))
    -- ── Column: "STAR; name DOT STAR (name not STRING); or expression with optional alias. Alias: AS and a name, or a bare ID, KWID or STRING."
    ∷ begins (Column ∷ []) (STAR ∷ []) (part row_star [])  -- STAR: of strength 0, so nothing goes on from it
    ∷ begins (Column ∷ []) (ID ∷ KWID ∷ JOIN_KW ∷ []) (strong 12 row_names (nt (any ColRest?) ∷ []))  -- a column that begins with a name: as an expression, and name DOT STAR besides
    ∷ begins (Column ∷ []) (INDEXED ∷ []) (strong 12 row_names (nt (any ColDots?) ∷ []))  -- the same; INDEXED is no call name
    ∷ begins (ColRest? ∷ ColDots? ∷ []) (DOT ∷ []) (part row_dot (nt (any StarOrName) ∷ []))  -- DOT STAR, or DOT name [DOT name]
    ∷ begins (StarOrName ∷ []) (STAR ∷ []) (ending row_dot_star [])  -- name DOT STAR: capped, so no operator and no alias goes on from it
    ∷ begins (StarOrName ∷ SecondName ∷ []) (ID ∷ KWID ∷ STRING ∷ INDEXED ∷ JOIN_KW ∷ []) (part row_second_name (nt (any Dot?) ∷ []))  -- name DOT name [DOT name]
    ∷ goes (Column ∷ []) (AS ∷ []) (once row_as (nt (any Name) ∷ []))  -- expression AS name: after an expression only (left 1), and once (str 0)
    ∷ goes (Column ∷ []) (ID ∷ KWID ∷ STRING ∷ []) (once row_bare [])  -- expression and a bare alias
    -- ── FROM: "a source, then joins. Join: COMMA or a join operator, a source, optional ON expression or USING ( names ). Source: name, optional DOT
    --    name, optional alias, optional INDEXED BY name or NOT INDEXED; or ( query ) with optional alias."
    ∷ rest (Joins? ∷ []) (COMMA ∷ []) (part row_comma_join (nt (any Source) ∷ nt (any On?) ∷ []))  -- COMMA, a source, optional ON or USING
    ∷ rest (Joins? ∷ []) (JOIN ∷ []) (part row_join (nt (any Source) ∷ nt (any On?) ∷ []))  -- JOIN with no word before it
    ∷ rest (Joins? ∷ []) (JOIN_KW ∷ []) (part row_word_join (nt (any Word2?) ∷ lit JOIN ∷ nt (any Source) ∷ nt (any On?) ∷ []))  -- one to three join words, then JOIN
    ∷ begins (Word2? ∷ []) (JOIN_KW ∷ []) (part row_word (nt (any Word3?) ∷ []))
    ∷ begins (Word3? ∷ []) (JOIN_KW ∷ []) (part row_word [])
    ∷ begins (On? ∷ []) (ON ∷ []) (part row_on (nt (E 1) ∷ []))
    ∷ begins (On? ∷ []) (USING ∷ []) (part row_using (lit LP ∷ nt (any Name) ∷ nt (any Names?) ∷ lit RP ∷ []))
    ∷ begins (Source ∷ []) (ID ∷ KWID ∷ STRING ∷ INDEXED ∷ JOIN_KW ∷ []) (part row_table (nt (any Dot?) ∷ nt (any Alias?) ∷ nt (any Index?) ∷ []))  -- name [DOT name] [alias] [INDEXED BY name or NOT INDEXED]
    ∷ begins (Source ∷ []) (LP ∷ []) (part row_query_source (nt (any Query) ∷ lit RP ∷ nt (any Alias?) ∷ []))  -- ( query ) [alias]
    ∷ begins (Dot? ∷ []) (DOT ∷ []) (part row_dot_name (nt (any Name) ∷ []))
    ∷ begins (Alias? ∷ []) (AS ∷ []) (part row_source_as (nt (any Name) ∷ []))  -- AS and a name
    ∷ begins (Alias? ∷ []) (ID ∷ KWID ∷ STRING ∷ []) (part row_source_bare [])  -- a bare ID, KWID or STRING
    ∷ begins (Index? ∷ []) (INDEXED ∷ []) (part row_indexed_by (lit BY ∷ nt (any Name) ∷ []))
    ∷ begins (Index? ∷ []) (NOT ∷ []) (part row_not_indexed (lit INDEXED ∷ []))
    -- ── Operators, from loose to tight. "A left operand has its operator's strength or tighter, a right one is strictly tighter."
    ∷ operator (OR ∷ []) (binary 1)  -- binary, strength 1
    ∷ operator (AND ∷ []) (binary 2)  -- binary, strength 2
    -- "the right operand of a binary operator of strengths 4 to 9, and each bound of BETWEEN, may begin with NOT": it stands where 10 or looser is asked.
    -- "its operand then runs on at NOT's own strength", 3. "What ends in such a NOT is no left operand of an operator of strengths 4 to 10": it leaves 3
    ∷ begins but_is (NOT ∷ []) (running 10 3 row_prefix (nt (E 3) ∷ []))  -- NOT before
    ∷ operator (EQ ∷ NE ∷ []) (binary 4)  -- binary, strength 4
    ∷ operator (IS ∷ []) (strong 4 row_is (nt after_is ∷ []))  -- IS, IS NOT: "NOT after IS always makes IS NOT"
    ∷ begins (IsRight ∷ []) (NOT ∷ []) (running 5 4 row_is_not (nt (E 5) ∷ []))  -- IS NOT's own NOT, with the right operand
    ∷ operator (LIKE_KW ∷ []) (strong 4 row_like (nt (E 5) ∷ []))
    ∷ operator (IN ∷ []) (strong 4 row_in (lit LP ∷ nt (any Inside?) ∷ lit RP ∷ []))  -- "IN takes ( query ) or ( list ), the list may be empty"
    ∷ operator (BETWEEN ∷ []) (strong 4 row_between (nt (E 5) ∷ lit AND ∷ nt (E 5) ∷ []))  -- "BETWEEN's bounds have strength 5 or more"
    ∷ operator (NOT ∷ []) (strong 4 row_not (nt (any Not) ∷ []))  -- NOT LIKE_KW, NOT IN, NOT BETWEEN, NOT NULL
    ∷ begins (Not ∷ []) (LIKE_KW ∷ []) (part row_not_like (nt (E 5) ∷ []))
    ∷ begins (Not ∷ []) (IN ∷ []) (part row_not_in (lit LP ∷ nt (any Inside?) ∷ lit RP ∷ []))
    ∷ begins (Not ∷ []) (BETWEEN ∷ []) (part row_not_between (nt (E 5) ∷ lit AND ∷ nt (E 5) ∷ []))
    ∷ begins (Not ∷ []) (NULL ∷ []) (part row_not_null [])
    ∷ operator (ISNULL ∷ NOTNULL ∷ []) (strong 4 row_null_test [])
    ∷ operator (LT ∷ LE ∷ GT ∷ GE ∷ []) (binary 5)  -- binary, strength 5
    ∷ operator (BITAND ∷ BITOR ∷ LSHIFT ∷ RSHIFT ∷ []) (binary 6)  -- binary, strength 6
    ∷ operator (PLUS ∷ MINUS ∷ []) (binary 7)  -- binary, strength 7
    ∷ operator (STAR ∷ SLASH ∷ REM ∷ []) (binary 8)  -- binary, strength 8
    ∷ operator (CONCAT ∷ []) (binary 9)  -- binary, strength 9
    ∷ operator (COLLATE ∷ []) (strong 10 row_collate (nt (any Name) ∷ []))
    ∷ operand (PLUS ∷ MINUS ∷ BITNOT ∷ []) (strong 11 row_prefix (nt (E 11) ∷ []))  -- PLUS MINUS BITNOT before
    -- ── Strength 12: "NULL and kinds 3, 6 to 10; one to three names joined by DOT, the first not STRING; ID, KWID or JOIN_KW, then ( ), ( STAR ) or (
    --    [DISTINCT] expressions ); ( expressions ); ( query ); EXISTS ( query ); CASE [base] WHEN THEN pairs [ELSE] END; CAST ( expression AS name )."
    ∷ operand (NULL ∷ STRING ∷ INTEGER ∷ FLOAT ∷ BLOB ∷ VARIABLE ∷ CTIME_KW ∷ []) (strong 12 row_literal [])  -- literals
    ∷ begins but_column (ID ∷ KWID ∷ JOIN_KW ∷ []) (strong 12 row_names (nt (any NameRest?) ∷ []))  -- names, or a call
    ∷ begins but_column (INDEXED ∷ []) (strong 12 row_names (nt (any Dots?) ∷ []))  -- names
    ∷ begins (NameRest? ∷ ColRest? ∷ []) (LP ∷ []) (part row_call (nt (any Args?) ∷ lit RP ∷ []))  -- a call
    ∷ begins (NameRest? ∷ Dots? ∷ []) (DOT ∷ []) (part row_dot (nt (any SecondName) ∷ []))  -- DOT name [DOT name]
    ∷ begins (Args? ∷ []) (STAR ∷ []) (part row_star_args [])  -- ( STAR )
    ∷ begins (Args? ∷ []) (DISTINCT ∷ []) (part row_distinct_args (nt (E 1) ∷ nt (any Exprs?) ∷ []))  -- ( DISTINCT expressions )
    ∷ operand (LP ∷ []) (strong 12 row_parens (nt (any Paren) ∷ lit RP ∷ []))  -- ( expressions ) or ( query )
    ∷ goes (Paren ∷ Inside? ∷ Args? ∷ []) (COMMA ∷ []) (once row_more_exprs (nt (E 1) ∷ nt (any Exprs?) ∷ []))  -- an expression, then the rest of the list
    ∷ operand (EXISTS ∷ []) (strong 12 row_exists (lit LP ∷ nt (any Query) ∷ lit RP ∷ []))
    ∷ operand (CASE ∷ []) (strong 12 row_case (nt (any Base?) ∷ lit WHEN ∷ nt (E 1) ∷ lit THEN ∷ nt (E 1) ∷ nt (any Whens?) ∷ nt (any Else?) ∷ lit END ∷ []))
    ∷ rest (Whens? ∷ []) (WHEN ∷ []) (part row_next_when (nt (E 1) ∷ lit THEN ∷ nt (E 1) ∷ []))
    ∷ begins (Else? ∷ []) (ELSE ∷ []) (part row_else (nt (E 1) ∷ []))
    ∷ operand (CAST ∷ []) (strong 12 row_cast (lit LP ∷ nt (E 1) ∷ lit AS ∷ nt (any Name) ∷ lit RP ∷ []))
    ∷ []

-- ── those that begin, and those that go on ──
unfoldable pub heads_of : List Prod → List Line
heads_of [] = []
heads_of (begins cs ks r ∷ ls) = record { of = cs; at = ks; row = r } ∷ heads_of ls
heads_of (goes cs ks r ∷ ls) = heads_of ls
heads_of (rest cs ks r ∷ ls) = record { of = cs; at = ks; row = r } ∷ heads_of ls

unfoldable pub tails_of : List Prod → List Line
tails_of [] = []
tails_of (begins cs ks r ∷ ls) = tails_of ls
tails_of (goes cs ks r ∷ ls) = record { of = cs; at = ks; row = r } ∷ tails_of ls
tails_of (rest cs ks r ∷ ls) = record { of = cs; at = ks; row = r } ∷ tails_of ls

-- the parts that may be absent
unfoldable pub optional : List ℕ
optional = Semi? ∷ Names? ∷ Exprs? ∷ Inside? ∷ Order? ∷ Terms? ∷ Way? ∷ Nulls? ∷ Limit? ∷ Offset? ∷ Distinct? ∷ Columns? ∷ From? ∷ Where? ∷ Group? ∷ Having? ∷ ColRest? ∷ ColDots? ∷ Joins? ∷ Word2? ∷ Word3? ∷ On? ∷ Dot? ∷ Alias? ∷ Index? ∷ Base? ∷ Args? ∷ NameRest? ∷ Dots? ∷ Whens? ∷ Else? ∷ []

-- The rows of the table by name, as the reader meets them: which row an operator goes on with, which row an expression begins with.
-- (That the table has just these is a computed test: proofs/TableFacts.antt.) Definitions only.
use mathlib.Core.List.{List, [], ◌∷◌}
use mathlib.Core.Option.{some, none, Option}
use Prim.Native.Nat.{ℕ}
use lib.Dec.{ltb, eqb}
use Rattle.theory.specs.Trees.{lit, nt, Row}
use Rattle.theory.specs.Table.{pick}
use Rattle.kinds.specs.Kinds.{INDEXED, LP, RP, STAR, AND, NOT, IS, IN, BETWEEN, LIKE_KW, ISNULL, NOTNULL, COLLATE, CASE, WHEN, THEN, END, CAST, AS, EXISTS, SELECT, VALUES, DISTINCT}
use Rattle.kinds.specs.Strength.{strength_of, prefix_of}
use Rattle.kinds.specs.Classes.{is_name, literal_code}
use Rattle.grammar.specs.Classes.{Name, Query, Paren, Column, Not, IsRight, Inside?, ColRest?, ColDots?, Base?, Args?, NameRest?, Dots?, Whens?, Else?, E, any, after_is}
use Rattle.grammar.specs.RowNames.{row_names, row_prefix, row_is, row_like, row_in, row_between, row_not, row_null_test, row_collate, row_literal, row_parens, row_exists, row_case, row_cast}
use Rattle.grammar.specs.Rows.{strong, binary, running}

-- ── an operator after an operand ──
abbrev pub is_row : Row
is_row = strong 4 row_is (nt after_is ∷ [])

abbrev pub like_row : Row
like_row = strong 4 row_like (nt (E 5) ∷ [])

abbrev pub in_row : Row
in_row = strong 4 row_in (lit LP ∷ nt (any Inside?) ∷ lit RP ∷ [])

abbrev pub between_row : Row
between_row = strong 4 row_between (nt (E 5) ∷ lit AND ∷ nt (E 5) ∷ [])

abbrev pub not_row : Row
not_row = strong 4 row_not (nt (any Not) ∷ [])

abbrev pub null_test_row : Row
null_test_row = strong 4 row_null_test []

abbrev pub collate_row : Row
collate_row = strong 10 row_collate (nt (any Name) ∷ [])

-- the row of an operator's kind; a plain binary one where it is none of those above
unfoldable pub op_row : ℕ → Row
op_row k =
    pick (eqb k IS) is_row
    (λ w. pick (eqb k LIKE_KW) like_row
    (λ w. pick (eqb k IN) in_row
    (λ w. pick (eqb k BETWEEN) between_row
    (λ w. pick (eqb k NOT) not_row
    (λ w. pick (eqb k ISNULL) null_test_row
    (λ w. pick (eqb k NOTNULL) null_test_row
    (λ w. pick (eqb k COLLATE) collate_row (λ w. binary (strength_of k)))))))))

-- ── the beginning of an expression ──
abbrev pub not_before : Row
not_before = running 10 3 row_prefix (nt (E 3) ∷ [])

abbrev pub sign_row : Row
sign_row = strong 11 row_prefix (nt (E 11) ∷ [])

-- the row of a prefix's kind
unfoldable pub prefix_row : ℕ → Row
prefix_row k = pick (eqb k NOT) not_before (λ w. sign_row)

abbrev pub parens_row : Row
parens_row = strong 12 row_parens (nt (any Paren) ∷ lit RP ∷ [])

abbrev pub exists_row : Row
exists_row = strong 12 row_exists (lit LP ∷ nt (any Query) ∷ lit RP ∷ [])

abbrev pub case_row : Row
case_row = strong 12 row_case (nt (any Base?) ∷ lit WHEN ∷ nt (E 1) ∷ lit THEN ∷ nt (E 1) ∷ nt (any Whens?) ∷ nt (any Else?) ∷ lit END ∷ [])

abbrev pub cast_row : Row
cast_row = strong 12 row_cast (lit LP ∷ nt (E 1) ∷ lit AS ∷ nt (any Name) ∷ lit RP ∷ [])

abbrev pub literal_row : Row
literal_row = strong 12 row_literal []

-- names, with what may come after the first: a call or dots, or (INDEXED is no call name) dots alone
abbrev pub names_row : ℕ → Row
names_row C = strong 12 row_names (nt (any C) ∷ [])

-- after the first name of an expression that stands in class C
unfoldable pub rest_of : ℕ → ℕ → ℕ
rest_of C k = pick (eqb C Column) (pick (eqb k INDEXED) ColDots? (λ w. ColRest?)) (λ w. pick (eqb k INDEXED) Dots? (λ w. NameRest?))

-- the row with which an expression begins at a kind, in a class that takes one
unfoldable pub head_row : ℕ → ℕ → Option Row
head_row C k =
    pick (ltb 0 (prefix_of k)) (some (prefix_row k))
    (λ w. pick (ltb 0 (literal_code k)) (some literal_row)
    (λ w. pick (is_name k) (some (names_row (rest_of C k)))
    (λ w. pick (eqb k LP) (some parens_row)
    (λ w. pick (eqb k CASE) (some case_row)
    (λ w. pick (eqb k CAST) (some cast_row)
    (λ w. pick (eqb k EXISTS) (some exists_row) (λ w. none)))))))

-- the kinds at which a class that takes an expression begins with something else
unfoldable pub own : ℕ → List ℕ
own C = pick (eqb C Column) (STAR ∷ [])
    (λ w. pick (eqb C Args?) (STAR ∷ DISTINCT ∷ [])
    (λ w. pick (eqb C Paren) (SELECT ∷ VALUES ∷ [])
    (λ w. pick (eqb C Inside?) (SELECT ∷ VALUES ∷ [])
    (λ w. pick (eqb C IsRight) (NOT ∷ []) (λ w. [])))))

-- What each class begins with, read off the table: `firsts-C`, the kinds; `C-at-K`, the row at a kind; `C-may`, whether it may be absent.
-- out: at any other kind it begins nothing. Each by computation. tools/classes makes this file from grammar's Rows.antt. Assumes nothing.
use mathlib.Core.Bool.{true, false}
use mathlib.Core.List.{[], ◌∷◌, ◌++◌}
use mathlib.Core.Option.{some, none}
use mathlib.Core.Path.{◌≡◌, refl, sym, ◌∙◌}
use Prim.Native.Nat.{ℕ, ◌<◌}
use borrow.Author.Tests.{ne_eqb}
use Rattle.theory.specs.Trees.{lit, nt}
use Rattle.theory.specs.Table.{pick, both, on_row, mem, lookup, asked, enter_of, null_of}
use Rattle.theory.proofs.Cases.{0≢1}
use Rattle.theory.proofs.Tested.{not_found, kinds_of, kinds_found, enter_found}
use Rattle.kinds.specs.Kinds.{ID, KWID, STRING, INDEXED, JOIN_KW, NULL, LP, RP, COMMA, DOT, SEMI, STAR, AND, NOT, IN, BETWEEN, LIKE_KW, WHEN, THEN, ELSE, AS, SELECT, VALUES, DISTINCT, ALL, FROM, JOIN, ON, USING, WHERE, GROUP, BY, HAVING, ORDER, ASC, DESC, NULLS, FIRST, LAST, LIMIT, OFFSET}
use Rattle.grammar.specs.Classes.{Command, Name, Query, Paren, FirstLast, Rows, Column, StarOrName, Source, SecondName, Not, Semi?, Names?, Exprs?, Inside?, Order?, Terms?, Way?, Nulls?, Limit?, Offset?, Distinct?, Columns?, From?, Where?, Group?, Having?, ColRest?, ColDots?, Joins?, Word2?, Word3?, On?, Dot?, Alias?, Index?, Base?, Args?, NameRest?, Dots?, Whens?, Else?, E, any, after_is}
use Rattle.grammar.specs.RowNames.{row_select, row_values, row_semi, row_name, row_next_name, row_next_expr, row_order, row_next_term, row_asc, row_desc, row_nulls, row_first, row_last, row_limit, row_offset, row_comma_offset, row_first_row, row_distinct, row_all, row_next_column, row_from, row_where, row_group, row_having, row_star, row_names, row_dot, row_dot_star, row_second_name, row_comma_join, row_join, row_word_join, row_word, row_on, row_using, row_table, row_query_source, row_dot_name, row_source_as, row_source_bare, row_indexed_by, row_not_indexed, row_is_not, row_not_like, row_not_in, row_not_between, row_not_null, row_call, row_star_args, row_distinct_args, row_next_when, row_else}
use Rattle.grammar.specs.Rows.{part, strong, ending, running, but_column, exprs, select_items, values_items, lines, heads_of, tails_of, optional}
use Rattle.grammar.specs.Grammar.{sql}

pub out : (C k : ℕ) → mem k (kinds_of C (λ r. true) sql.heads) ≡ false → enter_of sql (any C) k ≡ none
out C k o = not_found (enter_of sql (any C) k) (λ r e. 0≢1 (sym o ∙ kinds_found C (λ r. true) k r sql.heads (enter_found sql (any C) k r e).0 refl))

-- at none of one, two, three kinds
pub none_of_1 : {k a : ℕ} → (k ≡ a → ⊥) → mem k (a ∷ []) ≡ false
unfolding mem pick
none_of_1 {k} {a} f = rw (ne_eqb k a f)

pub none_of_2 : {k a b : ℕ} → (k ≡ a → ⊥) → (k ≡ b → ⊥) → mem k (a ∷ b ∷ []) ≡ false
unfolding mem pick
none_of_2 {k} {a} {b} f g = rw (ne_eqb k a f, ne_eqb k b g)

pub none_of_3 : {k a b c : ℕ} → (k ≡ a → ⊥) → (k ≡ b → ⊥) → (k ≡ c → ⊥) → mem k (a ∷ b ∷ c ∷ []) ≡ false
unfolding mem pick
none_of_3 {k} {a} {b} {c} f g h = rw (ne_eqb k a f, ne_eqb k b g, ne_eqb k c h)

-- Command
pub firsts_Command : kinds_of Command (λ r. true) sql.heads ≡ SELECT ∷ VALUES ∷ []
unfolding sql lines but_column exprs select_items values_items heads_of tails_of optional pick both mem lookup asked enter_of on_row kinds_of null_of
firsts_Command = refl

pub Command_at_SELECT : enter_of sql (any Command) SELECT ≡ some (part row_select (select_items ++ (nt (any Semi?) ∷ [])))
unfolding sql lines but_column exprs select_items values_items heads_of tails_of optional pick both mem lookup asked enter_of on_row kinds_of null_of
Command_at_SELECT = refl

pub Command_at_VALUES : enter_of sql (any Command) VALUES ≡ some (part row_values (values_items ++ (nt (any Semi?) ∷ [])))
unfolding sql lines but_column exprs select_items values_items heads_of tails_of optional pick both mem lookup asked enter_of on_row kinds_of null_of
Command_at_VALUES = refl

pub Command_may : null_of sql (any Command) ≡ false
unfolding sql lines but_column exprs select_items values_items heads_of tails_of optional pick both mem lookup asked enter_of on_row kinds_of null_of
Command_may = refl

-- Semi?
pub firsts_Semi : kinds_of Semi? (λ r. true) sql.heads ≡ SEMI ∷ []
unfolding sql lines but_column exprs select_items values_items heads_of tails_of optional pick both mem lookup asked enter_of on_row kinds_of null_of
firsts_Semi = refl

pub Semi_at_SEMI : enter_of sql (any Semi?) SEMI ≡ some (part row_semi [])
unfolding sql lines but_column exprs select_items values_items heads_of tails_of optional pick both mem lookup asked enter_of on_row kinds_of null_of
Semi_at_SEMI = refl

pub Semi_may : null_of sql (any Semi?) ≡ true
unfolding sql lines but_column exprs select_items values_items heads_of tails_of optional pick both mem lookup asked enter_of on_row kinds_of null_of
Semi_may = refl

-- Name
pub firsts_Name : kinds_of Name (λ r. true) sql.heads ≡ ID ∷ KWID ∷ STRING ∷ INDEXED ∷ JOIN_KW ∷ []
unfolding sql lines but_column exprs select_items values_items heads_of tails_of optional pick both mem lookup asked enter_of on_row kinds_of null_of
firsts_Name = refl

pub Name_at_ID : enter_of sql (any Name) ID ≡ some (part row_name [])
unfolding sql lines but_column exprs select_items values_items heads_of tails_of optional pick both mem lookup asked enter_of on_row kinds_of null_of
Name_at_ID = refl

pub Name_at_KWID : enter_of sql (any Name) KWID ≡ some (part row_name [])
unfolding sql lines but_column exprs select_items values_items heads_of tails_of optional pick both mem lookup asked enter_of on_row kinds_of null_of
Name_at_KWID = refl

pub Name_at_STRING : enter_of sql (any Name) STRING ≡ some (part row_name [])
unfolding sql lines but_column exprs select_items values_items heads_of tails_of optional pick both mem lookup asked enter_of on_row kinds_of null_of
Name_at_STRING = refl

pub Name_at_INDEXED : enter_of sql (any Name) INDEXED ≡ some (part row_name [])
unfolding sql lines but_column exprs select_items values_items heads_of tails_of optional pick both mem lookup asked enter_of on_row kinds_of null_of
Name_at_INDEXED = refl

pub Name_at_JOIN_KW : enter_of sql (any Name) JOIN_KW ≡ some (part row_name [])
unfolding sql lines but_column exprs select_items values_items heads_of tails_of optional pick both mem lookup asked enter_of on_row kinds_of null_of
Name_at_JOIN_KW = refl

pub Name_may : null_of sql (any Name) ≡ false
unfolding sql lines but_column exprs select_items values_items heads_of tails_of optional pick both mem lookup asked enter_of on_row kinds_of null_of
Name_may = refl

-- Names?
pub firsts_Names : kinds_of Names? (λ r. true) sql.heads ≡ COMMA ∷ []
unfolding sql lines but_column exprs select_items values_items heads_of tails_of optional pick both mem lookup asked enter_of on_row kinds_of null_of
firsts_Names = refl

pub Names_at_COMMA : enter_of sql (any Names?) COMMA ≡ some (part row_next_name (nt (any Name) ∷ []))
unfolding sql lines but_column exprs select_items values_items heads_of tails_of optional pick both mem lookup asked enter_of on_row kinds_of null_of
Names_at_COMMA = refl

pub Names_may : null_of sql (any Names?) ≡ true
unfolding sql lines but_column exprs select_items values_items heads_of tails_of optional pick both mem lookup asked enter_of on_row kinds_of null_of
Names_may = refl

-- Exprs?
pub firsts_Exprs : kinds_of Exprs? (λ r. true) sql.heads ≡ COMMA ∷ []
unfolding sql lines but_column exprs select_items values_items heads_of tails_of optional pick both mem lookup asked enter_of on_row kinds_of null_of
firsts_Exprs = refl

pub Exprs_at_COMMA : enter_of sql (any Exprs?) COMMA ≡ some (part row_next_expr (nt (E 1) ∷ []))
unfolding sql lines but_column exprs select_items values_items heads_of tails_of optional pick both mem lookup asked enter_of on_row kinds_of null_of
Exprs_at_COMMA = refl

pub Exprs_may : null_of sql (any Exprs?) ≡ true
unfolding sql lines but_column exprs select_items values_items heads_of tails_of optional pick both mem lookup asked enter_of on_row kinds_of null_of
Exprs_may = refl

-- Query
pub firsts_Query : kinds_of Query (λ r. true) sql.heads ≡ SELECT ∷ VALUES ∷ []
unfolding sql lines but_column exprs select_items values_items heads_of tails_of optional pick both mem lookup asked enter_of on_row kinds_of null_of
firsts_Query = refl

pub Query_at_SELECT : enter_of sql (any Query) SELECT ≡ some (part row_select select_items)
unfolding sql lines but_column exprs select_items values_items heads_of tails_of optional pick both mem lookup asked enter_of on_row kinds_of null_of
Query_at_SELECT = refl

pub Query_at_VALUES : enter_of sql (any Query) VALUES ≡ some (part row_values values_items)
unfolding sql lines but_column exprs select_items values_items heads_of tails_of optional pick both mem lookup asked enter_of on_row kinds_of null_of
Query_at_VALUES = refl

pub Query_may : null_of sql (any Query) ≡ false
unfolding sql lines but_column exprs select_items values_items heads_of tails_of optional pick both mem lookup asked enter_of on_row kinds_of null_of
Query_may = refl

-- Order?
pub firsts_Order : kinds_of Order? (λ r. true) sql.heads ≡ ORDER ∷ []
unfolding sql lines but_column exprs select_items values_items heads_of tails_of optional pick both mem lookup asked enter_of on_row kinds_of null_of
firsts_Order = refl

pub Order_at_ORDER : enter_of sql (any Order?) ORDER ≡ some (part row_order (lit BY ∷ nt (E 1) ∷ nt (any Way?) ∷ nt (any Nulls?) ∷ nt (any Terms?) ∷ []))
unfolding sql lines but_column exprs select_items values_items heads_of tails_of optional pick both mem lookup asked enter_of on_row kinds_of null_of
Order_at_ORDER = refl

pub Order_may : null_of sql (any Order?) ≡ true
unfolding sql lines but_column exprs select_items values_items heads_of tails_of optional pick both mem lookup asked enter_of on_row kinds_of null_of
Order_may = refl

-- Terms?
pub firsts_Terms : kinds_of Terms? (λ r. true) sql.heads ≡ COMMA ∷ []
unfolding sql lines but_column exprs select_items values_items heads_of tails_of optional pick both mem lookup asked enter_of on_row kinds_of null_of
firsts_Terms = refl

pub Terms_at_COMMA : enter_of sql (any Terms?) COMMA ≡ some (part row_next_term (nt (E 1) ∷ nt (any Way?) ∷ nt (any Nulls?) ∷ []))
unfolding sql lines but_column exprs select_items values_items heads_of tails_of optional pick both mem lookup asked enter_of on_row kinds_of null_of
Terms_at_COMMA = refl

pub Terms_may : null_of sql (any Terms?) ≡ true
unfolding sql lines but_column exprs select_items values_items heads_of tails_of optional pick both mem lookup asked enter_of on_row kinds_of null_of
Terms_may = refl

-- Way?
pub firsts_Way : kinds_of Way? (λ r. true) sql.heads ≡ ASC ∷ DESC ∷ []
unfolding sql lines but_column exprs select_items values_items heads_of tails_of optional pick both mem lookup asked enter_of on_row kinds_of null_of
firsts_Way = refl

pub Way_at_ASC : enter_of sql (any Way?) ASC ≡ some (part row_asc [])
unfolding sql lines but_column exprs select_items values_items heads_of tails_of optional pick both mem lookup asked enter_of on_row kinds_of null_of
Way_at_ASC = refl

pub Way_at_DESC : enter_of sql (any Way?) DESC ≡ some (part row_desc [])
unfolding sql lines but_column exprs select_items values_items heads_of tails_of optional pick both mem lookup asked enter_of on_row kinds_of null_of
Way_at_DESC = refl

pub Way_may : null_of sql (any Way?) ≡ true
unfolding sql lines but_column exprs select_items values_items heads_of tails_of optional pick both mem lookup asked enter_of on_row kinds_of null_of
Way_may = refl

-- Nulls?
pub firsts_Nulls : kinds_of Nulls? (λ r. true) sql.heads ≡ NULLS ∷ []
unfolding sql lines but_column exprs select_items values_items heads_of tails_of optional pick both mem lookup asked enter_of on_row kinds_of null_of
firsts_Nulls = refl

pub Nulls_at_NULLS : enter_of sql (any Nulls?) NULLS ≡ some (part row_nulls (nt (any FirstLast) ∷ []))
unfolding sql lines but_column exprs select_items values_items heads_of tails_of optional pick both mem lookup asked enter_of on_row kinds_of null_of
Nulls_at_NULLS = refl

pub Nulls_may : null_of sql (any Nulls?) ≡ true
unfolding sql lines but_column exprs select_items values_items heads_of tails_of optional pick both mem lookup asked enter_of on_row kinds_of null_of
Nulls_may = refl

-- FirstLast
pub firsts_FirstLast : kinds_of FirstLast (λ r. true) sql.heads ≡ FIRST ∷ LAST ∷ []
unfolding sql lines but_column exprs select_items values_items heads_of tails_of optional pick both mem lookup asked enter_of on_row kinds_of null_of
firsts_FirstLast = refl

pub FirstLast_at_FIRST : enter_of sql (any FirstLast) FIRST ≡ some (part row_first [])
unfolding sql lines but_column exprs select_items values_items heads_of tails_of optional pick both mem lookup asked enter_of on_row kinds_of null_of
FirstLast_at_FIRST = refl

pub FirstLast_at_LAST : enter_of sql (any FirstLast) LAST ≡ some (part row_last [])
unfolding sql lines but_column exprs select_items values_items heads_of tails_of optional pick both mem lookup asked enter_of on_row kinds_of null_of
FirstLast_at_LAST = refl

pub FirstLast_may : null_of sql (any FirstLast) ≡ false
unfolding sql lines but_column exprs select_items values_items heads_of tails_of optional pick both mem lookup asked enter_of on_row kinds_of null_of
FirstLast_may = refl

-- Limit?
pub firsts_Limit : kinds_of Limit? (λ r. true) sql.heads ≡ LIMIT ∷ []
unfolding sql lines but_column exprs select_items values_items heads_of tails_of optional pick both mem lookup asked enter_of on_row kinds_of null_of
firsts_Limit = refl

pub Limit_at_LIMIT : enter_of sql (any Limit?) LIMIT ≡ some (part row_limit (nt (E 1) ∷ nt (any Offset?) ∷ []))
unfolding sql lines but_column exprs select_items values_items heads_of tails_of optional pick both mem lookup asked enter_of on_row kinds_of null_of
Limit_at_LIMIT = refl

pub Limit_may : null_of sql (any Limit?) ≡ true
unfolding sql lines but_column exprs select_items values_items heads_of tails_of optional pick both mem lookup asked enter_of on_row kinds_of null_of
Limit_may = refl

-- Offset?
pub firsts_Offset : kinds_of Offset? (λ r. true) sql.heads ≡ OFFSET ∷ COMMA ∷ []
unfolding sql lines but_column exprs select_items values_items heads_of tails_of optional pick both mem lookup asked enter_of on_row kinds_of null_of
firsts_Offset = refl

pub Offset_at_OFFSET : enter_of sql (any Offset?) OFFSET ≡ some (part row_offset (nt (E 1) ∷ []))
unfolding sql lines but_column exprs select_items values_items heads_of tails_of optional pick both mem lookup asked enter_of on_row kinds_of null_of
Offset_at_OFFSET = refl

pub Offset_at_COMMA : enter_of sql (any Offset?) COMMA ≡ some (part row_comma_offset (nt (E 1) ∷ []))
unfolding sql lines but_column exprs select_items values_items heads_of tails_of optional pick both mem lookup asked enter_of on_row kinds_of null_of
Offset_at_COMMA = refl

pub Offset_may : null_of sql (any Offset?) ≡ true
unfolding sql lines but_column exprs select_items values_items heads_of tails_of optional pick both mem lookup asked enter_of on_row kinds_of null_of
Offset_may = refl

-- Rows
pub firsts_Rows : kinds_of Rows (λ r. true) sql.heads ≡ LP ∷ []
unfolding sql lines but_column exprs select_items values_items heads_of tails_of optional pick both mem lookup asked enter_of on_row kinds_of null_of
firsts_Rows = refl

pub Rows_at_LP : enter_of sql (any Rows) LP ≡ some (part row_first_row (nt (E 1) ∷ nt (any Exprs?) ∷ lit RP ∷ []))
unfolding sql lines but_column exprs select_items values_items heads_of tails_of optional pick both mem lookup asked enter_of on_row kinds_of null_of
Rows_at_LP = refl

pub Rows_may : null_of sql (any Rows) ≡ false
unfolding sql lines but_column exprs select_items values_items heads_of tails_of optional pick both mem lookup asked enter_of on_row kinds_of null_of
Rows_may = refl

-- Distinct?
pub firsts_Distinct : kinds_of Distinct? (λ r. true) sql.heads ≡ DISTINCT ∷ ALL ∷ []
unfolding sql lines but_column exprs select_items values_items heads_of tails_of optional pick both mem lookup asked enter_of on_row kinds_of null_of
firsts_Distinct = refl

pub Distinct_at_DISTINCT : enter_of sql (any Distinct?) DISTINCT ≡ some (part row_distinct [])
unfolding sql lines but_column exprs select_items values_items heads_of tails_of optional pick both mem lookup asked enter_of on_row kinds_of null_of
Distinct_at_DISTINCT = refl

pub Distinct_at_ALL : enter_of sql (any Distinct?) ALL ≡ some (part row_all [])
unfolding sql lines but_column exprs select_items values_items heads_of tails_of optional pick both mem lookup asked enter_of on_row kinds_of null_of
Distinct_at_ALL = refl

pub Distinct_may : null_of sql (any Distinct?) ≡ true
unfolding sql lines but_column exprs select_items values_items heads_of tails_of optional pick both mem lookup asked enter_of on_row kinds_of null_of
Distinct_may = refl

-- Columns?
pub firsts_Columns : kinds_of Columns? (λ r. true) sql.heads ≡ COMMA ∷ []
unfolding sql lines but_column exprs select_items values_items heads_of tails_of optional pick both mem lookup asked enter_of on_row kinds_of null_of
firsts_Columns = refl

pub Columns_at_COMMA : enter_of sql (any Columns?) COMMA ≡ some (part row_next_column (nt (any Column) ∷ []))
unfolding sql lines but_column exprs select_items values_items heads_of tails_of optional pick both mem lookup asked enter_of on_row kinds_of null_of
Columns_at_COMMA = refl

pub Columns_may : null_of sql (any Columns?) ≡ true
unfolding sql lines but_column exprs select_items values_items heads_of tails_of optional pick both mem lookup asked enter_of on_row kinds_of null_of
Columns_may = refl

-- From?
pub firsts_From : kinds_of From? (λ r. true) sql.heads ≡ FROM ∷ []
unfolding sql lines but_column exprs select_items values_items heads_of tails_of optional pick both mem lookup asked enter_of on_row kinds_of null_of
firsts_From = refl

pub From_at_FROM : enter_of sql (any From?) FROM ≡ some (part row_from (nt (any Source) ∷ nt (any Joins?) ∷ []))
unfolding sql lines but_column exprs select_items values_items heads_of tails_of optional pick both mem lookup asked enter_of on_row kinds_of null_of
From_at_FROM = refl

pub From_may : null_of sql (any From?) ≡ true
unfolding sql lines but_column exprs select_items values_items heads_of tails_of optional pick both mem lookup asked enter_of on_row kinds_of null_of
From_may = refl

-- Where?
pub firsts_Where : kinds_of Where? (λ r. true) sql.heads ≡ WHERE ∷ []
unfolding sql lines but_column exprs select_items values_items heads_of tails_of optional pick both mem lookup asked enter_of on_row kinds_of null_of
firsts_Where = refl

pub Where_at_WHERE : enter_of sql (any Where?) WHERE ≡ some (part row_where (nt (E 1) ∷ []))
unfolding sql lines but_column exprs select_items values_items heads_of tails_of optional pick both mem lookup asked enter_of on_row kinds_of null_of
Where_at_WHERE = refl

pub Where_may : null_of sql (any Where?) ≡ true
unfolding sql lines but_column exprs select_items values_items heads_of tails_of optional pick both mem lookup asked enter_of on_row kinds_of null_of
Where_may = refl

-- Group?
pub firsts_Group : kinds_of Group? (λ r. true) sql.heads ≡ GROUP ∷ []
unfolding sql lines but_column exprs select_items values_items heads_of tails_of optional pick both mem lookup asked enter_of on_row kinds_of null_of
firsts_Group = refl

pub Group_at_GROUP : enter_of sql (any Group?) GROUP ≡ some (part row_group (lit BY ∷ nt (E 1) ∷ nt (any Exprs?) ∷ []))
unfolding sql lines but_column exprs select_items values_items heads_of tails_of optional pick both mem lookup asked enter_of on_row kinds_of null_of
Group_at_GROUP = refl

pub Group_may : null_of sql (any Group?) ≡ true
unfolding sql lines but_column exprs select_items values_items heads_of tails_of optional pick both mem lookup asked enter_of on_row kinds_of null_of
Group_may = refl

-- Having?
pub firsts_Having : kinds_of Having? (λ r. true) sql.heads ≡ HAVING ∷ []
unfolding sql lines but_column exprs select_items values_items heads_of tails_of optional pick both mem lookup asked enter_of on_row kinds_of null_of
firsts_Having = refl

pub Having_at_HAVING : enter_of sql (any Having?) HAVING ≡ some (part row_having (nt (E 1) ∷ []))
unfolding sql lines but_column exprs select_items values_items heads_of tails_of optional pick both mem lookup asked enter_of on_row kinds_of null_of
Having_at_HAVING = refl

pub Having_may : null_of sql (any Having?) ≡ true
unfolding sql lines but_column exprs select_items values_items heads_of tails_of optional pick both mem lookup asked enter_of on_row kinds_of null_of
Having_may = refl

-- ColRest?
pub firsts_ColRest : kinds_of ColRest? (λ r. true) sql.heads ≡ DOT ∷ LP ∷ []
unfolding sql lines but_column exprs select_items values_items heads_of tails_of optional pick both mem lookup asked enter_of on_row kinds_of null_of
firsts_ColRest = refl

pub ColRest_at_DOT : enter_of sql (any ColRest?) DOT ≡ some (part row_dot (nt (any StarOrName) ∷ []))
unfolding sql lines but_column exprs select_items values_items heads_of tails_of optional pick both mem lookup asked enter_of on_row kinds_of null_of
ColRest_at_DOT = refl

pub ColRest_at_LP : enter_of sql (any ColRest?) LP ≡ some (part row_call (nt (any Args?) ∷ lit RP ∷ []))
unfolding sql lines but_column exprs select_items values_items heads_of tails_of optional pick both mem lookup asked enter_of on_row kinds_of null_of
ColRest_at_LP = refl

pub ColRest_may : null_of sql (any ColRest?) ≡ true
unfolding sql lines but_column exprs select_items values_items heads_of tails_of optional pick both mem lookup asked enter_of on_row kinds_of null_of
ColRest_may = refl

-- ColDots?
pub firsts_ColDots : kinds_of ColDots? (λ r. true) sql.heads ≡ DOT ∷ []
unfolding sql lines but_column exprs select_items values_items heads_of tails_of optional pick both mem lookup asked enter_of on_row kinds_of null_of
firsts_ColDots = refl

pub ColDots_at_DOT : enter_of sql (any ColDots?) DOT ≡ some (part row_dot (nt (any StarOrName) ∷ []))
unfolding sql lines but_column exprs select_items values_items heads_of tails_of optional pick both mem lookup asked enter_of on_row kinds_of null_of
ColDots_at_DOT = refl

pub ColDots_may : null_of sql (any ColDots?) ≡ true
unfolding sql lines but_column exprs select_items values_items heads_of tails_of optional pick both mem lookup asked enter_of on_row kinds_of null_of
ColDots_may = refl

-- StarOrName
pub firsts_StarOrName : kinds_of StarOrName (λ r. true) sql.heads ≡ STAR ∷ ID ∷ KWID ∷ STRING ∷ INDEXED ∷ JOIN_KW ∷ []
unfolding sql lines but_column exprs select_items values_items heads_of tails_of optional pick both mem lookup asked enter_of on_row kinds_of null_of
firsts_StarOrName = refl

pub StarOrName_at_STAR : enter_of sql (any StarOrName) STAR ≡ some (ending row_dot_star [])
unfolding sql lines but_column exprs select_items values_items heads_of tails_of optional pick both mem lookup asked enter_of on_row kinds_of null_of
StarOrName_at_STAR = refl

pub StarOrName_at_ID : enter_of sql (any StarOrName) ID ≡ some (part row_second_name (nt (any Dot?) ∷ []))
unfolding sql lines but_column exprs select_items values_items heads_of tails_of optional pick both mem lookup asked enter_of on_row kinds_of null_of
StarOrName_at_ID = refl

pub StarOrName_at_KWID : enter_of sql (any StarOrName) KWID ≡ some (part row_second_name (nt (any Dot?) ∷ []))
unfolding sql lines but_column exprs select_items values_items heads_of tails_of optional pick both mem lookup asked enter_of on_row kinds_of null_of
StarOrName_at_KWID = refl

pub StarOrName_at_STRING : enter_of sql (any StarOrName) STRING ≡ some (part row_second_name (nt (any Dot?) ∷ []))
unfolding sql lines but_column exprs select_items values_items heads_of tails_of optional pick both mem lookup asked enter_of on_row kinds_of null_of
StarOrName_at_STRING = refl

pub StarOrName_at_INDEXED : enter_of sql (any StarOrName) INDEXED ≡ some (part row_second_name (nt (any Dot?) ∷ []))
unfolding sql lines but_column exprs select_items values_items heads_of tails_of optional pick both mem lookup asked enter_of on_row kinds_of null_of
StarOrName_at_INDEXED = refl

pub StarOrName_at_JOIN_KW : enter_of sql (any StarOrName) JOIN_KW ≡ some (part row_second_name (nt (any Dot?) ∷ []))
unfolding sql lines but_column exprs select_items values_items heads_of tails_of optional pick both mem lookup asked enter_of on_row kinds_of null_of
StarOrName_at_JOIN_KW = refl

pub StarOrName_may : null_of sql (any StarOrName) ≡ false
unfolding sql lines but_column exprs select_items values_items heads_of tails_of optional pick both mem lookup asked enter_of on_row kinds_of null_of
StarOrName_may = refl

-- SecondName
pub firsts_SecondName : kinds_of SecondName (λ r. true) sql.heads ≡ ID ∷ KWID ∷ STRING ∷ INDEXED ∷ JOIN_KW ∷ []
unfolding sql lines but_column exprs select_items values_items heads_of tails_of optional pick both mem lookup asked enter_of on_row kinds_of null_of
firsts_SecondName = refl

pub SecondName_at_ID : enter_of sql (any SecondName) ID ≡ some (part row_second_name (nt (any Dot?) ∷ []))
unfolding sql lines but_column exprs select_items values_items heads_of tails_of optional pick both mem lookup asked enter_of on_row kinds_of null_of
SecondName_at_ID = refl

pub SecondName_at_KWID : enter_of sql (any SecondName) KWID ≡ some (part row_second_name (nt (any Dot?) ∷ []))
unfolding sql lines but_column exprs select_items values_items heads_of tails_of optional pick both mem lookup asked enter_of on_row kinds_of null_of
SecondName_at_KWID = refl

pub SecondName_at_STRING : enter_of sql (any SecondName) STRING ≡ some (part row_second_name (nt (any Dot?) ∷ []))
unfolding sql lines but_column exprs select_items values_items heads_of tails_of optional pick both mem lookup asked enter_of on_row kinds_of null_of
SecondName_at_STRING = refl

pub SecondName_at_INDEXED : enter_of sql (any SecondName) INDEXED ≡ some (part row_second_name (nt (any Dot?) ∷ []))
unfolding sql lines but_column exprs select_items values_items heads_of tails_of optional pick both mem lookup asked enter_of on_row kinds_of null_of
SecondName_at_INDEXED = refl

pub SecondName_at_JOIN_KW : enter_of sql (any SecondName) JOIN_KW ≡ some (part row_second_name (nt (any Dot?) ∷ []))
unfolding sql lines but_column exprs select_items values_items heads_of tails_of optional pick both mem lookup asked enter_of on_row kinds_of null_of
SecondName_at_JOIN_KW = refl

pub SecondName_may : null_of sql (any SecondName) ≡ false
unfolding sql lines but_column exprs select_items values_items heads_of tails_of optional pick both mem lookup asked enter_of on_row kinds_of null_of
SecondName_may = refl

-- Joins?
pub firsts_Joins : kinds_of Joins? (λ r. true) sql.heads ≡ COMMA ∷ JOIN ∷ JOIN_KW ∷ []
unfolding sql lines but_column exprs select_items values_items heads_of tails_of optional pick both mem lookup asked enter_of on_row kinds_of null_of
firsts_Joins = refl

pub Joins_at_COMMA : enter_of sql (any Joins?) COMMA ≡ some (part row_comma_join (nt (any Source) ∷ nt (any On?) ∷ []))
unfolding sql lines but_column exprs select_items values_items heads_of tails_of optional pick both mem lookup asked enter_of on_row kinds_of null_of
Joins_at_COMMA = refl

pub Joins_at_JOIN : enter_of sql (any Joins?) JOIN ≡ some (part row_join (nt (any Source) ∷ nt (any On?) ∷ []))
unfolding sql lines but_column exprs select_items values_items heads_of tails_of optional pick both mem lookup asked enter_of on_row kinds_of null_of
Joins_at_JOIN = refl

pub Joins_at_JOIN_KW : enter_of sql (any Joins?) JOIN_KW ≡ some (part row_word_join (nt (any Word2?) ∷ lit JOIN ∷ nt (any Source) ∷ nt (any On?) ∷ []))
unfolding sql lines but_column exprs select_items values_items heads_of tails_of optional pick both mem lookup asked enter_of on_row kinds_of null_of
Joins_at_JOIN_KW = refl

pub Joins_may : null_of sql (any Joins?) ≡ true
unfolding sql lines but_column exprs select_items values_items heads_of tails_of optional pick both mem lookup asked enter_of on_row kinds_of null_of
Joins_may = refl

-- Word2?
pub firsts_Word2 : kinds_of Word2? (λ r. true) sql.heads ≡ JOIN_KW ∷ []
unfolding sql lines but_column exprs select_items values_items heads_of tails_of optional pick both mem lookup asked enter_of on_row kinds_of null_of
firsts_Word2 = refl

pub Word2_at_JOIN_KW : enter_of sql (any Word2?) JOIN_KW ≡ some (part row_word (nt (any Word3?) ∷ []))
unfolding sql lines but_column exprs select_items values_items heads_of tails_of optional pick both mem lookup asked enter_of on_row kinds_of null_of
Word2_at_JOIN_KW = refl

pub Word2_may : null_of sql (any Word2?) ≡ true
unfolding sql lines but_column exprs select_items values_items heads_of tails_of optional pick both mem lookup asked enter_of on_row kinds_of null_of
Word2_may = refl

-- Word3?
pub firsts_Word3 : kinds_of Word3? (λ r. true) sql.heads ≡ JOIN_KW ∷ []
unfolding sql lines but_column exprs select_items values_items heads_of tails_of optional pick both mem lookup asked enter_of on_row kinds_of null_of
firsts_Word3 = refl

pub Word3_at_JOIN_KW : enter_of sql (any Word3?) JOIN_KW ≡ some (part row_word [])
unfolding sql lines but_column exprs select_items values_items heads_of tails_of optional pick both mem lookup asked enter_of on_row kinds_of null_of
Word3_at_JOIN_KW = refl

pub Word3_may : null_of sql (any Word3?) ≡ true
unfolding sql lines but_column exprs select_items values_items heads_of tails_of optional pick both mem lookup asked enter_of on_row kinds_of null_of
Word3_may = refl

-- On?
pub firsts_On : kinds_of On? (λ r. true) sql.heads ≡ ON ∷ USING ∷ []
unfolding sql lines but_column exprs select_items values_items heads_of tails_of optional pick both mem lookup asked enter_of on_row kinds_of null_of
firsts_On = refl

pub On_at_ON : enter_of sql (any On?) ON ≡ some (part row_on (nt (E 1) ∷ []))
unfolding sql lines but_column exprs select_items values_items heads_of tails_of optional pick both mem lookup asked enter_of on_row kinds_of null_of
On_at_ON = refl

pub On_at_USING : enter_of sql (any On?) USING ≡ some (part row_using (lit LP ∷ nt (any Name) ∷ nt (any Names?) ∷ lit RP ∷ []))
unfolding sql lines but_column exprs select_items values_items heads_of tails_of optional pick both mem lookup asked enter_of on_row kinds_of null_of
On_at_USING = refl

pub On_may : null_of sql (any On?) ≡ true
unfolding sql lines but_column exprs select_items values_items heads_of tails_of optional pick both mem lookup asked enter_of on_row kinds_of null_of
On_may = refl

-- Source
pub firsts_Source : kinds_of Source (λ r. true) sql.heads ≡ ID ∷ KWID ∷ STRING ∷ INDEXED ∷ JOIN_KW ∷ LP ∷ []
unfolding sql lines but_column exprs select_items values_items heads_of tails_of optional pick both mem lookup asked enter_of on_row kinds_of null_of
firsts_Source = refl

pub Source_at_ID : enter_of sql (any Source) ID ≡ some (part row_table (nt (any Dot?) ∷ nt (any Alias?) ∷ nt (any Index?) ∷ []))
unfolding sql lines but_column exprs select_items values_items heads_of tails_of optional pick both mem lookup asked enter_of on_row kinds_of null_of
Source_at_ID = refl

pub Source_at_KWID : enter_of sql (any Source) KWID ≡ some (part row_table (nt (any Dot?) ∷ nt (any Alias?) ∷ nt (any Index?) ∷ []))
unfolding sql lines but_column exprs select_items values_items heads_of tails_of optional pick both mem lookup asked enter_of on_row kinds_of null_of
Source_at_KWID = refl

pub Source_at_STRING : enter_of sql (any Source) STRING ≡ some (part row_table (nt (any Dot?) ∷ nt (any Alias?) ∷ nt (any Index?) ∷ []))
unfolding sql lines but_column exprs select_items values_items heads_of tails_of optional pick both mem lookup asked enter_of on_row kinds_of null_of
Source_at_STRING = refl

pub Source_at_INDEXED : enter_of sql (any Source) INDEXED ≡ some (part row_table (nt (any Dot?) ∷ nt (any Alias?) ∷ nt (any Index?) ∷ []))
unfolding sql lines but_column exprs select_items values_items heads_of tails_of optional pick both mem lookup asked enter_of on_row kinds_of null_of
Source_at_INDEXED = refl

pub Source_at_JOIN_KW : enter_of sql (any Source) JOIN_KW ≡ some (part row_table (nt (any Dot?) ∷ nt (any Alias?) ∷ nt (any Index?) ∷ []))
unfolding sql lines but_column exprs select_items values_items heads_of tails_of optional pick both mem lookup asked enter_of on_row kinds_of null_of
Source_at_JOIN_KW = refl

pub Source_at_LP : enter_of sql (any Source) LP ≡ some (part row_query_source (nt (any Query) ∷ lit RP ∷ nt (any Alias?) ∷ []))
unfolding sql lines but_column exprs select_items values_items heads_of tails_of optional pick both mem lookup asked enter_of on_row kinds_of null_of
Source_at_LP = refl

pub Source_may : null_of sql (any Source) ≡ false
unfolding sql lines but_column exprs select_items values_items heads_of tails_of optional pick both mem lookup asked enter_of on_row kinds_of null_of
Source_may = refl

-- Dot?
pub firsts_Dot : kinds_of Dot? (λ r. true) sql.heads ≡ DOT ∷ []
unfolding sql lines but_column exprs select_items values_items heads_of tails_of optional pick both mem lookup asked enter_of on_row kinds_of null_of
firsts_Dot = refl

pub Dot_at_DOT : enter_of sql (any Dot?) DOT ≡ some (part row_dot_name (nt (any Name) ∷ []))
unfolding sql lines but_column exprs select_items values_items heads_of tails_of optional pick both mem lookup asked enter_of on_row kinds_of null_of
Dot_at_DOT = refl

pub Dot_may : null_of sql (any Dot?) ≡ true
unfolding sql lines but_column exprs select_items values_items heads_of tails_of optional pick both mem lookup asked enter_of on_row kinds_of null_of
Dot_may = refl

-- Alias?
pub firsts_Alias : kinds_of Alias? (λ r. true) sql.heads ≡ AS ∷ ID ∷ KWID ∷ STRING ∷ []
unfolding sql lines but_column exprs select_items values_items heads_of tails_of optional pick both mem lookup asked enter_of on_row kinds_of null_of
firsts_Alias = refl

pub Alias_at_AS : enter_of sql (any Alias?) AS ≡ some (part row_source_as (nt (any Name) ∷ []))
unfolding sql lines but_column exprs select_items values_items heads_of tails_of optional pick both mem lookup asked enter_of on_row kinds_of null_of
Alias_at_AS = refl

pub Alias_at_ID : enter_of sql (any Alias?) ID ≡ some (part row_source_bare [])
unfolding sql lines but_column exprs select_items values_items heads_of tails_of optional pick both mem lookup asked enter_of on_row kinds_of null_of
Alias_at_ID = refl

pub Alias_at_KWID : enter_of sql (any Alias?) KWID ≡ some (part row_source_bare [])
unfolding sql lines but_column exprs select_items values_items heads_of tails_of optional pick both mem lookup asked enter_of on_row kinds_of null_of
Alias_at_KWID = refl

pub Alias_at_STRING : enter_of sql (any Alias?) STRING ≡ some (part row_source_bare [])
unfolding sql lines but_column exprs select_items values_items heads_of tails_of optional pick both mem lookup asked enter_of on_row kinds_of null_of
Alias_at_STRING = refl

pub Alias_may : null_of sql (any Alias?) ≡ true
unfolding sql lines but_column exprs select_items values_items heads_of tails_of optional pick both mem lookup asked enter_of on_row kinds_of null_of
Alias_may = refl

-- Index?
pub firsts_Index : kinds_of Index? (λ r. true) sql.heads ≡ INDEXED ∷ NOT ∷ []
unfolding sql lines but_column exprs select_items values_items heads_of tails_of optional pick both mem lookup asked enter_of on_row kinds_of null_of
firsts_Index = refl

pub Index_at_INDEXED : enter_of sql (any Index?) INDEXED ≡ some (part row_indexed_by (lit BY ∷ nt (any Name) ∷ []))
unfolding sql lines but_column exprs select_items values_items heads_of tails_of optional pick both mem lookup asked enter_of on_row kinds_of null_of
Index_at_INDEXED = refl

pub Index_at_NOT : enter_of sql (any Index?) NOT ≡ some (part row_not_indexed (lit INDEXED ∷ []))
unfolding sql lines but_column exprs select_items values_items heads_of tails_of optional pick both mem lookup asked enter_of on_row kinds_of null_of
Index_at_NOT = refl

pub Index_may : null_of sql (any Index?) ≡ true
unfolding sql lines but_column exprs select_items values_items heads_of tails_of optional pick both mem lookup asked enter_of on_row kinds_of null_of
Index_may = refl

-- Not
pub firsts_Not : kinds_of Not (λ r. true) sql.heads ≡ LIKE_KW ∷ IN ∷ BETWEEN ∷ NULL ∷ []
unfolding sql lines but_column exprs select_items values_items heads_of tails_of optional pick both mem lookup asked enter_of on_row kinds_of null_of
firsts_Not = refl

pub Not_at_LIKE_KW : enter_of sql (any Not) LIKE_KW ≡ some (part row_not_like (nt (E 5) ∷ []))
unfolding sql lines but_column exprs select_items values_items heads_of tails_of optional pick both mem lookup asked enter_of on_row kinds_of null_of
Not_at_LIKE_KW = refl

pub Not_at_IN : enter_of sql (any Not) IN ≡ some (part row_not_in (lit LP ∷ nt (any Inside?) ∷ lit RP ∷ []))
unfolding sql lines but_column exprs select_items values_items heads_of tails_of optional pick both mem lookup asked enter_of on_row kinds_of null_of
Not_at_IN = refl

pub Not_at_BETWEEN : enter_of sql (any Not) BETWEEN ≡ some (part row_not_between (nt (E 5) ∷ lit AND ∷ nt (E 5) ∷ []))
unfolding sql lines but_column exprs select_items values_items heads_of tails_of optional pick both mem lookup asked enter_of on_row kinds_of null_of
Not_at_BETWEEN = refl

pub Not_at_NULL : enter_of sql (any Not) NULL ≡ some (part row_not_null [])
unfolding sql lines but_column exprs select_items values_items heads_of tails_of optional pick both mem lookup asked enter_of on_row kinds_of null_of
Not_at_NULL = refl

pub Not_may : null_of sql (any Not) ≡ false
unfolding sql lines but_column exprs select_items values_items heads_of tails_of optional pick both mem lookup asked enter_of on_row kinds_of null_of
Not_may = refl

-- NameRest?
pub firsts_NameRest : kinds_of NameRest? (λ r. true) sql.heads ≡ LP ∷ DOT ∷ []
unfolding sql lines but_column exprs select_items values_items heads_of tails_of optional pick both mem lookup asked enter_of on_row kinds_of null_of
firsts_NameRest = refl

pub NameRest_at_LP : enter_of sql (any NameRest?) LP ≡ some (part row_call (nt (any Args?) ∷ lit RP ∷ []))
unfolding sql lines but_column exprs select_items values_items heads_of tails_of optional pick both mem lookup asked enter_of on_row kinds_of null_of
NameRest_at_LP = refl

pub NameRest_at_DOT : enter_of sql (any NameRest?) DOT ≡ some (part row_dot (nt (any SecondName) ∷ []))
unfolding sql lines but_column exprs select_items values_items heads_of tails_of optional pick both mem lookup asked enter_of on_row kinds_of null_of
NameRest_at_DOT = refl

pub NameRest_may : null_of sql (any NameRest?) ≡ true
unfolding sql lines but_column exprs select_items values_items heads_of tails_of optional pick both mem lookup asked enter_of on_row kinds_of null_of
NameRest_may = refl

-- Dots?
pub firsts_Dots : kinds_of Dots? (λ r. true) sql.heads ≡ DOT ∷ []
unfolding sql lines but_column exprs select_items values_items heads_of tails_of optional pick both mem lookup asked enter_of on_row kinds_of null_of
firsts_Dots = refl

pub Dots_at_DOT : enter_of sql (any Dots?) DOT ≡ some (part row_dot (nt (any SecondName) ∷ []))
unfolding sql lines but_column exprs select_items values_items heads_of tails_of optional pick both mem lookup asked enter_of on_row kinds_of null_of
Dots_at_DOT = refl

pub Dots_may : null_of sql (any Dots?) ≡ true
unfolding sql lines but_column exprs select_items values_items heads_of tails_of optional pick both mem lookup asked enter_of on_row kinds_of null_of
Dots_may = refl

-- Whens?
pub firsts_Whens : kinds_of Whens? (λ r. true) sql.heads ≡ WHEN ∷ []
unfolding sql lines but_column exprs select_items values_items heads_of tails_of optional pick both mem lookup asked enter_of on_row kinds_of null_of
firsts_Whens = refl

pub Whens_at_WHEN : enter_of sql (any Whens?) WHEN ≡ some (part row_next_when (nt (E 1) ∷ lit THEN ∷ nt (E 1) ∷ []))
unfolding sql lines but_column exprs select_items values_items heads_of tails_of optional pick both mem lookup asked enter_of on_row kinds_of null_of
Whens_at_WHEN = refl

pub Whens_may : null_of sql (any Whens?) ≡ true
unfolding sql lines but_column exprs select_items values_items heads_of tails_of optional pick both mem lookup asked enter_of on_row kinds_of null_of
Whens_may = refl

-- Else?
pub firsts_Else : kinds_of Else? (λ r. true) sql.heads ≡ ELSE ∷ []
unfolding sql lines but_column exprs select_items values_items heads_of tails_of optional pick both mem lookup asked enter_of on_row kinds_of null_of
firsts_Else = refl

pub Else_at_ELSE : enter_of sql (any Else?) ELSE ≡ some (part row_else (nt (E 1) ∷ []))
unfolding sql lines but_column exprs select_items values_items heads_of tails_of optional pick both mem lookup asked enter_of on_row kinds_of null_of
Else_at_ELSE = refl

pub Else_may : null_of sql (any Else?) ≡ true
unfolding sql lines but_column exprs select_items values_items heads_of tails_of optional pick both mem lookup asked enter_of on_row kinds_of null_of
Else_may = refl

pub Paren_at_SELECT : enter_of sql (any Paren) SELECT ≡ some (part row_select select_items)
unfolding sql lines but_column exprs select_items values_items heads_of tails_of optional pick both mem lookup asked enter_of on_row kinds_of null_of
Paren_at_SELECT = refl

pub Paren_at_VALUES : enter_of sql (any Paren) VALUES ≡ some (part row_values values_items)
unfolding sql lines but_column exprs select_items values_items heads_of tails_of optional pick both mem lookup asked enter_of on_row kinds_of null_of
Paren_at_VALUES = refl

pub Paren_may : null_of sql (any Paren) ≡ false
unfolding sql lines but_column exprs select_items values_items heads_of tails_of optional pick both mem lookup asked enter_of on_row kinds_of null_of
Paren_may = refl

pub Inside_at_SELECT : enter_of sql (any Inside?) SELECT ≡ some (part row_select select_items)
unfolding sql lines but_column exprs select_items values_items heads_of tails_of optional pick both mem lookup asked enter_of on_row kinds_of null_of
Inside_at_SELECT = refl

pub Inside_at_VALUES : enter_of sql (any Inside?) VALUES ≡ some (part row_values values_items)
unfolding sql lines but_column exprs select_items values_items heads_of tails_of optional pick both mem lookup asked enter_of on_row kinds_of null_of
Inside_at_VALUES = refl

pub Inside_at_RP : enter_of sql (any Inside?) RP ≡ none
unfolding sql lines but_column exprs select_items values_items heads_of tails_of optional pick both mem lookup asked enter_of on_row kinds_of null_of
Inside_at_RP = refl

pub Inside_may : null_of sql (any Inside?) ≡ true
unfolding sql lines but_column exprs select_items values_items heads_of tails_of optional pick both mem lookup asked enter_of on_row kinds_of null_of
Inside_may = refl

pub Args_at_STAR : enter_of sql (any Args?) STAR ≡ some (part row_star_args [])
unfolding sql lines but_column exprs select_items values_items heads_of tails_of optional pick both mem lookup asked enter_of on_row kinds_of null_of
Args_at_STAR = refl

pub Args_at_DISTINCT : enter_of sql (any Args?) DISTINCT ≡ some (part row_distinct_args (nt (E 1) ∷ nt (any Exprs?) ∷ []))
unfolding sql lines but_column exprs select_items values_items heads_of tails_of optional pick both mem lookup asked enter_of on_row kinds_of null_of
Args_at_DISTINCT = refl

pub Args_at_RP : enter_of sql (any Args?) RP ≡ none
unfolding sql lines but_column exprs select_items values_items heads_of tails_of optional pick both mem lookup asked enter_of on_row kinds_of null_of
Args_at_RP = refl

pub Args_may : null_of sql (any Args?) ≡ true
unfolding sql lines but_column exprs select_items values_items heads_of tails_of optional pick both mem lookup asked enter_of on_row kinds_of null_of
Args_may = refl

pub Column_at_STAR : enter_of sql (any Column) STAR ≡ some (part row_star [])
unfolding sql lines but_column exprs select_items values_items heads_of tails_of optional pick both mem lookup asked enter_of on_row kinds_of null_of
Column_at_STAR = refl

pub Column_at_ID : enter_of sql (any Column) ID ≡ some (strong 12 row_names (nt (any ColRest?) ∷ []))
unfolding sql lines but_column exprs select_items values_items heads_of tails_of optional pick both mem lookup asked enter_of on_row kinds_of null_of
Column_at_ID = refl

pub Column_at_KWID : enter_of sql (any Column) KWID ≡ some (strong 12 row_names (nt (any ColRest?) ∷ []))
unfolding sql lines but_column exprs select_items values_items heads_of tails_of optional pick both mem lookup asked enter_of on_row kinds_of null_of
Column_at_KWID = refl

pub Column_at_JOIN_KW : enter_of sql (any Column) JOIN_KW ≡ some (strong 12 row_names (nt (any ColRest?) ∷ []))
unfolding sql lines but_column exprs select_items values_items heads_of tails_of optional pick both mem lookup asked enter_of on_row kinds_of null_of
Column_at_JOIN_KW = refl

pub Column_at_INDEXED : enter_of sql (any Column) INDEXED ≡ some (strong 12 row_names (nt (any ColDots?) ∷ []))
unfolding sql lines but_column exprs select_items values_items heads_of tails_of optional pick both mem lookup asked enter_of on_row kinds_of null_of
Column_at_INDEXED = refl

pub Column_may : null_of sql (any Column) ≡ false
unfolding sql lines but_column exprs select_items values_items heads_of tails_of optional pick both mem lookup asked enter_of on_row kinds_of null_of
Column_may = refl

pub Base_at_WHEN : enter_of sql (any Base?) WHEN ≡ none
unfolding sql lines but_column exprs select_items values_items heads_of tails_of optional pick both mem lookup asked enter_of on_row kinds_of null_of
Base_at_WHEN = refl

pub Base_may : null_of sql (any Base?) ≡ true
unfolding sql lines but_column exprs select_items values_items heads_of tails_of optional pick both mem lookup asked enter_of on_row kinds_of null_of
Base_may = refl

pub IsRight_at_NOT : enter_of sql after_is NOT ≡ some (running 5 4 row_is_not (nt (E 5) ∷ []))
unfolding sql lines but_column exprs select_items values_items heads_of tails_of optional pick both mem lookup asked enter_of on_row kinds_of null_of
IsRight_at_NOT = refl

pub IsRight_may : null_of sql after_is ≡ false
unfolding sql lines but_column exprs select_items values_items heads_of tails_of optional pick both mem lookup asked enter_of on_row kinds_of null_of
IsRight_may = refl

pub E_may : (s : ℕ) → 0 < s → null_of sql (E s) ≡ false
unfolding sql lines but_column exprs select_items values_items heads_of tails_of optional pick both mem lookup asked enter_of on_row kinds_of null_of
E_may s h = refl

-- 01's reading of a tree: one rule for each row, in the order of Rows. A value is what a part comes to: its nodes side by side, and
-- `num`, what it says by a number (an alias mode, a way of sorting, join flags, ..). Tokens and absent parts are empty. Definitions only.
use Rattle.std.specs.Prelude.{true, false, Bool, List, [], ◌∷◌, ◌++◌, ℕ, ◌+◌, zero, suc, ◌*◌, eqb}
use Rattle.theory.specs.Trees.{Tok, Tree, nil, add, leaf, node}
use Rattle.theory.specs.Table.{pick, both}
use Rattle.kinds.specs.Kinds.{NULL, NOTNULL}
use Rattle.kinds.specs.Classes.{name_code, literal_code}
use Rattle.words.specs.Flags.{flags_of, united}
use Rattle.grammar.specs.RowNames.{row_select, row_values, row_semi, row_name, row_next_name, row_next_expr, row_order, row_next_term, row_asc, row_desc, row_nulls, row_first, row_last, row_limit, row_offset, row_comma_offset, row_first_row, row_next_row, row_distinct, row_all, row_next_column, row_from, row_where, row_group, row_having, row_star, row_names, row_dot, row_dot_star, row_second_name, row_as, row_bare, row_comma_join, row_join, row_word_join, row_word, row_on, row_using, row_table, row_query_source, row_dot_name, row_source_as, row_source_bare, row_indexed_by, row_not_indexed, row_binary, row_prefix, row_is, row_is_not, row_like, row_in, row_between, row_not, row_not_like, row_not_in, row_not_between, row_not_null, row_null_test, row_collate, row_literal, row_call, row_star_args, row_distinct_args, row_parens, row_more_exprs, row_exists, row_case, row_next_when, row_else, row_cast}
use Rattle.grammar.specs.NodeNames.{node_absent, node_query, node_select, node_values, node_list, node_star, node_name_star, node_column, node_from, node_join, node_on, node_using, node_table, node_query_source, node_sort, node_names, node_call, node_parens, node_subquery, node_exists, node_case, node_cast, node_prefix, node_binary, node_null_test, node_in_list, node_in_query, node_between, node_collate}
use Rattle.grammar.specs.Limits.{is_query}
use Rattle.grammar.specs.Nodes.{Nodes, end, mk, beside}

pub record Val : Type 0 where
  pub row : ℕ
  pub num : ℕ
  pub nodes : Nodes

abbrev pub empty : Val
empty = record { row = 0; num = 0; nodes = end }

unfoldable pub side : List Val → Nodes
side [] = end
side (v ∷ vs) = beside v.nodes (side vs)

-- the nodes of vs side by side; one node over them
abbrev pub cat : List Val → Val
cat vs = record { row = 0; num = 0; nodes = side vs }

abbrev pub one : ℕ → ℕ → List Val → Val
one c d vs = record { row = 0; num = 0; nodes = mk c d (side vs) end }

-- a number alone; a number beside nodes
abbrev pub says : ℕ → Val
says x = record { row = 0; num = x; nodes = end }

abbrev pub saying : ℕ → Val → Val
saying x v = record { row = 0; num = x; nodes = v.nodes }

unfoldable pub choose : {A : Type 0} → Bool → A → A → A
choose true a b = a
choose false a b = b

unfoldable pub is_end : Nodes → Bool
is_end end = true
is_end (mk c d ks ns) = false

-- "Missing optional children are code 0."
abbrev pub none_there : Val
none_there = one node_absent 0 []

unfoldable pub opt : Val → Val
opt v = choose (is_end v.nodes) none_there v

infixl 90 ◌#◌
-- the child at a place, from 0
unfoldable pub ◌#◌ : List Val → ℕ → Val
[] # i = empty
(v ∷ k) # zero = v
(v ∷ k) # suc i = k # i

-- "20 to 23 | name from ID, STRING, INDEXED, JOIN_KW: text number"
abbrev pub name : Tok → Val
name t = one (name_code t.kind) t.text []

-- "24 to 30 | INTEGER, FLOAT, STRING, BLOB, VARIABLE, CTIME_KW (text number), NULL"
abbrev pub literal : Tok → Val
literal t = one (literal_code t.kind) (choose (eqb t.kind NULL) 0 t.text) []

abbrev pub is_query_val : Val → Bool
is_query_val v = is_query v.row

-- what DOT STAR after a name says, by its code: "5, 6 | STAR; name STAR: name"
abbrev pub NAME_STAR : ℕ
NAME_STAR = node_name_star

-- a member of the column list: what is no column yet is an expression without an alias
unfoldable pub column : Val → Val
column v = pick (eqb v.row row_star) v (λ w. pick (eqb v.row row_as) v (λ w. pick (eqb v.row row_bare) v
    (λ w. pick (eqb v.num NAME_STAR) v (λ w. one node_column 0 (v ∷ none_there ∷ [])))))

-- limit and offset, both absent without LIMIT
unfoldable pub limit_and_offset : Val → Val
limit_and_offset v = choose (is_end v.nodes) (cat (none_there ∷ none_there ∷ [])) v

-- "HAVING alone is accepted, with group list (4,0,0,1)."
unfoldable pub group : Val → Val → Val
group g h = choose (both (is_end g.nodes) (not_end h.nodes)) (one node_list 0 []) (opt g)
  where
    not_end : Nodes → Bool
    not_end ns = choose (is_end ns) false true

-- "An empty list between parentheses .. (4,0,0,1)": what stands in IN ( ) is a query, or a list
unfoldable pub inside : Val → Val
inside v = choose (is_query_val v) v (one node_list 0 (v ∷ []))

pub record Rule : Type 0 where
  pub of : ℕ
  pub make : Val → Tok → List Val → Val

abbrev pub rule : ℕ → (Val → Tok → List Val → Val) → Rule
rule c f = record { of = c; make = f }

-- the row; left operand, token, children → value
unfoldable pub rules : List Rule
rules =
    -- "1 query | body, order list, limit, offset"; "2 select | 0, 1 DISTINCT, 2 ALL; column list, FROM, WHERE, group list, HAVING"; "3 values | rows as lists"
    rule row_select (λ l t k. one node_query 0 (one node_select (k # 0).num (one node_list 0 (column (k # 1) ∷ k # 2 ∷ []) ∷ opt (k # 3) ∷ opt (k # 4) ∷ group (k # 5) (k # 6) ∷ opt (k # 6) ∷ []) ∷ opt (k # 7) ∷ limit_and_offset (k # 8) ∷ []))
    ∷ rule row_values (λ l t k. one node_query 0 (one node_values 0 (k # 0 ∷ []) ∷ opt (k # 1) ∷ limit_and_offset (k # 2) ∷ []))
    ∷ rule row_semi (λ l t k. empty)
    -- names and the rests of lists
    ∷ rule row_name (λ l t k. name t)
    ∷ rule row_next_name (λ l t k. cat (l ∷ k))
    ∷ rule row_next_expr (λ l t k. cat (l ∷ k))
    -- "14 sort | 0, 1 ASC, 2 DESC, + 4 × (0, 1 FIRST, 2 LAST); expression"
    ∷ rule row_order (λ l t k. one node_list 0 (one node_sort ((k # 2).num + 4 * (k # 3).num) (k # 1 ∷ []) ∷ k # 4 ∷ []))
    ∷ rule row_next_term (λ l t k. cat (l ∷ one node_sort ((k # 1).num + 4 * (k # 2).num) (k # 0 ∷ []) ∷ []))
    ∷ rule row_asc (λ l t k. says 1)
    ∷ rule row_desc (λ l t k. says 2)
    ∷ rule row_nulls (λ l t k. k # 0)
    ∷ rule row_first (λ l t k. says 1)
    ∷ rule row_last (λ l t k. says 2)
    -- "LIMIT a, LIMIT a OFFSET b (limit a) or LIMIT a , b (limit b, offset a)"
    ∷ rule row_limit (λ l t k. choose (eqb (k # 1).row row_comma_offset) (cat (k # 1 ∷ k # 0 ∷ [])) (cat (k # 0 ∷ opt (k # 1) ∷ [])))
    ∷ rule row_offset (λ l t k. k # 0)
    ∷ rule row_comma_offset (λ l t k. k # 0)
    -- body
    ∷ rule row_first_row (λ l t k. one node_list 0 k)
    ∷ rule row_next_row (λ l t k. cat (l ∷ one node_list 0 k ∷ []))
    ∷ rule row_distinct (λ l t k. says 1)
    ∷ rule row_all (λ l t k. says 2)
    ∷ rule row_next_column (λ l t k. cat (l ∷ column (k # 0) ∷ []))
    -- "8 FROM | source, joins"
    ∷ rule row_from (λ l t k. one node_from 0 k)
    ∷ rule row_where (λ l t k. k # 0)
    ∷ rule row_group (λ l t k. one node_list 0 k)
    ∷ rule row_having (λ l t k. k # 0)
    -- "5, 6 | STAR; name STAR: name"; "7 column | alias 0 none, 1 AS, 2 bare; expression, alias"; "31 | names of a column"; "32 call | 0, 1 DISTINCT, 2 STAR; name, arguments"
    ∷ rule row_star (λ l t k. one node_star 0 [])
    ∷ rule row_names (λ l t k. pick (eqb (k # 0).row row_call) (one node_call (k # 0).num (name t ∷ one node_list 0 k ∷ []))
    (λ w. pick (eqb (k # 0).num NAME_STAR) (saying NAME_STAR (one node_name_star 0 (name t ∷ []))) (λ w. one node_names 0 (name t ∷ k))))
    ∷ rule row_dot (λ l t k. k # 0)
    ∷ rule row_dot_star (λ l t k. says NAME_STAR)
    ∷ rule row_second_name (λ l t k. cat (name t ∷ k))
    ∷ rule row_as (λ l t k. one node_column 1 (l ∷ k))
    ∷ rule row_bare (λ l t k. one node_column 2 (l ∷ name t ∷ []))
    -- "9 join | COMMA 0, else 64 + flags; source, constraint"; "10, 11 | ON: expression; USING: names"
    ∷ rule row_comma_join (λ l t k. cat (l ∷ one node_join 0 (k # 0 ∷ opt (k # 1) ∷ []) ∷ []))
    ∷ rule row_join (λ l t k. cat (l ∷ one node_join 64 (k # 0 ∷ opt (k # 1) ∷ []) ∷ []))
    ∷ rule row_word_join (λ l t k. cat (l ∷ one node_join (64 + united (flags_of t.text) (k # 0).num) (k # 2 ∷ opt (k # 3) ∷ []) ∷ []))
    ∷ rule row_word (λ l t k. says (united (flags_of t.text) (k # 0).num))
    ∷ rule row_on (λ l t k. one node_on 0 k)
    ∷ rule row_using (λ l t k. one node_using 0 k)
    -- "12 table | alias mode + 4 × (0, 1 INDEXED BY, 2 NOT INDEXED); schema, name, alias, index"; "13 | alias mode; query, alias"
    ∷ rule row_table (λ l t k. one node_table ((k # 1).num + 4 * (k # 2).num) (choose (is_end (k # 0).nodes) (cat (none_there ∷ name t ∷ [])) (cat (name t ∷ k # 0 ∷ [])) ∷ opt (k # 1) ∷ opt (k # 2) ∷ []))
    ∷ rule row_query_source (λ l t k. one node_query_source (k # 2).num (k # 0 ∷ opt (k # 2) ∷ []))
    ∷ rule row_dot_name (λ l t k. cat k)
    ∷ rule row_source_as (λ l t k. saying 1 (cat k))
    ∷ rule row_source_bare (λ l t k. saying 2 (name t))
    ∷ rule row_indexed_by (λ l t k. saying 1 (cat k))
    ∷ rule row_not_indexed (λ l t k. says 2)
    -- "38 | prefix kind; operand"; "39 | binary kind, IS NOT 137, LIKE_KW 200 + text, NOT LIKE_KW 300 + text; two operands"
    ∷ rule row_prefix (λ l t k. one node_prefix t.kind k)
    ∷ rule row_binary (λ l t k. one node_binary t.kind (l ∷ k))
    ∷ rule row_is (λ l t k. one node_binary (t.kind + (k # 0).num) (l ∷ k))
    ∷ rule row_is_not (λ l t k. saying 100 (cat k))
    ∷ rule row_like (λ l t k. one node_binary (200 + t.text) (l ∷ k))
    -- "41, 42 | 1 if NOT; operand and list; operand and query"; "43 | 1 if NOT; operand, two bounds"; "40 | ISNULL 41, NOTNULL or NOT NULL 42; operand"; "44 | operand, name"
    ∷ rule row_in (λ l t k. one (choose (is_query_val (k # 1)) node_in_query node_in_list) 0 (l ∷ inside (k # 1) ∷ []))
    ∷ rule row_between (λ l t k. one node_between 0 (l ∷ k))
    ∷ rule row_not (λ l t k. pick (eqb (k # 0).row row_not_like) (one node_binary (k # 0).num (l ∷ k)) (λ w. pick (eqb (k # 0).row row_not_in) (one (k # 0).num 1 (l ∷ k))
    (λ w. pick (eqb (k # 0).row row_not_between) (one node_between 1 (l ∷ k)) (λ w. one node_null_test NOTNULL (l ∷ [])))))
    ∷ rule row_not_like (λ l t k. saying (300 + t.text) (cat k))
    ∷ rule row_not_in (λ l t k. saying (choose (is_query_val (k # 1)) node_in_query node_in_list) (inside (k # 1)))
    ∷ rule row_not_between (λ l t k. cat k)
    ∷ rule row_not_null (λ l t k. empty)
    ∷ rule row_null_test (λ l t k. one node_null_test t.kind (l ∷ []))
    ∷ rule row_collate (λ l t k. one node_collate 0 (l ∷ k))
    -- strength 12: "33, 34, 35 | parentheses; subquery; EXISTS"; "36 | CASE: base, each WHEN then its THEN, ELSE"; "37 | CAST: expression, name"
    ∷ rule row_literal (λ l t k. literal t)
    ∷ rule row_call (λ l t k. saying (pick (eqb (k # 0).row row_star_args) 2 (λ w. pick (eqb (k # 0).row row_distinct_args) 1 (λ w. 0))) (cat k))
    ∷ rule row_star_args (λ l t k. empty)
    ∷ rule row_distinct_args (λ l t k. cat k)
    ∷ rule row_parens (λ l t k. one (choose (is_query_val (k # 0)) node_subquery node_parens) 0 k)
    ∷ rule row_more_exprs (λ l t k. cat (l ∷ k))
    ∷ rule row_exists (λ l t k. one node_exists 0 k)
    ∷ rule row_case (λ l t k. one node_case 0 (opt (k # 0) ∷ k # 2 ∷ k # 4 ∷ k # 5 ∷ opt (k # 6) ∷ []))
    ∷ rule row_next_when (λ l t k. cat (l ∷ k))
    ∷ rule row_else (λ l t k. k # 0)
    ∷ rule row_cast (λ l t k. one node_cast 0 k)
    ∷ []

unfoldable pub ruled : ℕ → List Rule → Val → Tok → List Val → Val
ruled c [] l t k = empty
ruled c (r ∷ rs) l t k = pick (eqb c r.of) (r.make l t k) (λ w. ruled c rs l t k)

-- the value of a row: by its rule, and known by its row
unfoldable pub value_of : ℕ → Val → Tok → List Val → Val
value_of c l t k = record { row = c; num = (ruled c rules l t k).num; nodes = (ruled c rules l t k).nodes }

unfoldable mutual
  pub value : Tree → Val
  value nil = empty
  value (add f x) = empty
  value (leaf t) = empty
  value (node r l t f) = value_of r.code (value l) t (values f)

  pub values : Tree → List Val
  values nil = []
  values (add f x) = values f ++ (value x ∷ [])
  values (leaf t) = []
  values (node r l t f) = []

-- the reading of a command's tree
unfoldable pub reading : Tree → Nodes
reading x = (value x).nodes

-- The reading's rule of each row, as an equation: the value of a row's node, from the values of its left operand and children. Each by
-- computation. tools/rules makes this file from grammar's Reading.antt. Assumes nothing.
use mathlib.Core.List.{List, [], ◌∷◌}
use mathlib.Core.Path.{◌≡◌, refl}
use Prim.Native.Nat.{ℕ, ◌+◌, ◌*◌}
use lib.Dec.{eqb}
use Rattle.theory.specs.Trees.{Tok}
use Rattle.theory.specs.Table.{pick}
use Rattle.kinds.specs.Kinds.{NOTNULL}
use Rattle.words.specs.Flags.{flags_of, united}
use Rattle.grammar.specs.RowNames.{row_select, row_values, row_semi, row_name, row_next_name, row_next_expr, row_order, row_next_term, row_asc, row_desc, row_nulls, row_first, row_last, row_limit, row_offset, row_comma_offset, row_first_row, row_next_row, row_distinct, row_all, row_next_column, row_from, row_where, row_group, row_having, row_star, row_names, row_dot, row_dot_star, row_second_name, row_as, row_bare, row_comma_join, row_join, row_word_join, row_word, row_on, row_using, row_table, row_query_source, row_dot_name, row_source_as, row_source_bare, row_indexed_by, row_not_indexed, row_binary, row_prefix, row_is, row_is_not, row_like, row_in, row_between, row_not, row_not_like, row_not_in, row_not_between, row_not_null, row_null_test, row_collate, row_literal, row_call, row_star_args, row_distinct_args, row_parens, row_more_exprs, row_exists, row_case, row_next_when, row_else, row_cast}
use Rattle.grammar.specs.NodeNames.{node_query, node_select, node_values, node_list, node_star, node_name_star, node_column, node_from, node_join, node_on, node_using, node_table, node_query_source, node_sort, node_names, node_call, node_parens, node_subquery, node_exists, node_case, node_cast, node_prefix, node_binary, node_null_test, node_in_list, node_in_query, node_between, node_collate}
use Rattle.grammar.specs.Reading.{Val, empty, cat, one, says, saying, choose, is_end, none_there, opt, ◌#◌, name, literal, is_query_val, NAME_STAR, column, limit_and_offset, group, inside, rules, ruled, value_of}

abbrev pub known : ℕ → Val → Val
known c v = record { row = c; num = v.num; nodes = v.nodes }

pub value_select : (l : Val) (t : Tok) (k : List Val) → value_of row_select l t k ≡ known row_select (one node_query 0 (one node_select (k # 0).num (one node_list 0 (column (k # 1) ∷ k # 2 ∷ []) ∷ opt (k # 3) ∷ opt (k # 4) ∷ group (k # 5) (k # 6) ∷ opt (k # 6) ∷ []) ∷ opt (k # 7) ∷ limit_and_offset (k # 8) ∷ []))
unfolding value_of ruled rules pick
value_select l t k = refl

pub value_values : (l : Val) (t : Tok) (k : List Val) → value_of row_values l t k ≡ known row_values (one node_query 0 (one node_values 0 (k # 0 ∷ []) ∷ opt (k # 1) ∷ limit_and_offset (k # 2) ∷ []))
unfolding value_of ruled rules pick
value_values l t k = refl

pub value_semi : (l : Val) (t : Tok) (k : List Val) → value_of row_semi l t k ≡ known row_semi (empty)
unfolding value_of ruled rules pick
value_semi l t k = refl

pub value_name : (l : Val) (t : Tok) (k : List Val) → value_of row_name l t k ≡ known row_name (name t)
unfolding value_of ruled rules pick
value_name l t k = refl

pub value_next_name : (l : Val) (t : Tok) (k : List Val) → value_of row_next_name l t k ≡ known row_next_name (cat (l ∷ k))
unfolding value_of ruled rules pick
value_next_name l t k = refl

pub value_next_expr : (l : Val) (t : Tok) (k : List Val) → value_of row_next_expr l t k ≡ known row_next_expr (cat (l ∷ k))
unfolding value_of ruled rules pick
value_next_expr l t k = refl

pub value_order : (l : Val) (t : Tok) (k : List Val) → value_of row_order l t k ≡ known row_order (one node_list 0 (one node_sort ((k # 2).num + 4 * (k # 3).num) (k # 1 ∷ []) ∷ k # 4 ∷ []))
unfolding value_of ruled rules pick
value_order l t k = refl

pub value_next_term : (l : Val) (t : Tok) (k : List Val) → value_of row_next_term l t k ≡ known row_next_term (cat (l ∷ one node_sort ((k # 1).num + 4 * (k # 2).num) (k # 0 ∷ []) ∷ []))
unfolding value_of ruled rules pick
value_next_term l t k = refl

pub value_asc : (l : Val) (t : Tok) (k : List Val) → value_of row_asc l t k ≡ known row_asc (says 1)
unfolding value_of ruled rules pick
value_asc l t k = refl

pub value_desc : (l : Val) (t : Tok) (k : List Val) → value_of row_desc l t k ≡ known row_desc (says 2)
unfolding value_of ruled rules pick
value_desc l t k = refl

pub value_nulls : (l : Val) (t : Tok) (k : List Val) → value_of row_nulls l t k ≡ known row_nulls (k # 0)
unfolding value_of ruled rules pick
value_nulls l t k = refl

pub value_first : (l : Val) (t : Tok) (k : List Val) → value_of row_first l t k ≡ known row_first (says 1)
unfolding value_of ruled rules pick
value_first l t k = refl

pub value_last : (l : Val) (t : Tok) (k : List Val) → value_of row_last l t k ≡ known row_last (says 2)
unfolding value_of ruled rules pick
value_last l t k = refl

pub value_limit : (l : Val) (t : Tok) (k : List Val) → value_of row_limit l t k ≡ known row_limit (choose (eqb (k # 1).row row_comma_offset) (cat (k # 1 ∷ k # 0 ∷ [])) (cat (k # 0 ∷ opt (k # 1) ∷ [])))
unfolding value_of ruled rules pick
value_limit l t k = refl

pub value_offset : (l : Val) (t : Tok) (k : List Val) → value_of row_offset l t k ≡ known row_offset (k # 0)
unfolding value_of ruled rules pick
value_offset l t k = refl

pub value_comma_offset : (l : Val) (t : Tok) (k : List Val) → value_of row_comma_offset l t k ≡ known row_comma_offset (k # 0)
unfolding value_of ruled rules pick
value_comma_offset l t k = refl

pub value_first_row : (l : Val) (t : Tok) (k : List Val) → value_of row_first_row l t k ≡ known row_first_row (one node_list 0 k)
unfolding value_of ruled rules pick
value_first_row l t k = refl

pub value_next_row : (l : Val) (t : Tok) (k : List Val) → value_of row_next_row l t k ≡ known row_next_row (cat (l ∷ one node_list 0 k ∷ []))
unfolding value_of ruled rules pick
value_next_row l t k = refl

pub value_distinct : (l : Val) (t : Tok) (k : List Val) → value_of row_distinct l t k ≡ known row_distinct (says 1)
unfolding value_of ruled rules pick
value_distinct l t k = refl

pub value_all : (l : Val) (t : Tok) (k : List Val) → value_of row_all l t k ≡ known row_all (says 2)
unfolding value_of ruled rules pick
value_all l t k = refl

pub value_next_column : (l : Val) (t : Tok) (k : List Val) → value_of row_next_column l t k ≡ known row_next_column (cat (l ∷ column (k # 0) ∷ []))
unfolding value_of ruled rules pick
value_next_column l t k = refl

pub value_from : (l : Val) (t : Tok) (k : List Val) → value_of row_from l t k ≡ known row_from (one node_from 0 k)
unfolding value_of ruled rules pick
value_from l t k = refl

pub value_where : (l : Val) (t : Tok) (k : List Val) → value_of row_where l t k ≡ known row_where (k # 0)
unfolding value_of ruled rules pick
value_where l t k = refl

pub value_group : (l : Val) (t : Tok) (k : List Val) → value_of row_group l t k ≡ known row_group (one node_list 0 k)
unfolding value_of ruled rules pick
value_group l t k = refl

pub value_having : (l : Val) (t : Tok) (k : List Val) → value_of row_having l t k ≡ known row_having (k # 0)
unfolding value_of ruled rules pick
value_having l t k = refl

pub value_star : (l : Val) (t : Tok) (k : List Val) → value_of row_star l t k ≡ known row_star (one node_star 0 [])
unfolding value_of ruled rules pick
value_star l t k = refl

pub value_names : (l : Val) (t : Tok) (k : List Val) → value_of row_names l t k ≡ known row_names (pick (eqb (k # 0).row row_call) (one node_call (k # 0).num (name t ∷ one node_list 0 k ∷ [])) (λ w. pick (eqb (k # 0).num NAME_STAR) (saying NAME_STAR (one node_name_star 0 (name t ∷ []))) (λ w. one node_names 0 (name t ∷ k))))
unfolding value_of ruled rules pick
value_names l t k = refl

pub value_dot : (l : Val) (t : Tok) (k : List Val) → value_of row_dot l t k ≡ known row_dot (k # 0)
unfolding value_of ruled rules pick
value_dot l t k = refl

pub value_dot_star : (l : Val) (t : Tok) (k : List Val) → value_of row_dot_star l t k ≡ known row_dot_star (says NAME_STAR)
unfolding value_of ruled rules pick
value_dot_star l t k = refl

pub value_second_name : (l : Val) (t : Tok) (k : List Val) → value_of row_second_name l t k ≡ known row_second_name (cat (name t ∷ k))
unfolding value_of ruled rules pick
value_second_name l t k = refl

pub value_as : (l : Val) (t : Tok) (k : List Val) → value_of row_as l t k ≡ known row_as (one node_column 1 (l ∷ k))
unfolding value_of ruled rules pick
value_as l t k = refl

pub value_bare : (l : Val) (t : Tok) (k : List Val) → value_of row_bare l t k ≡ known row_bare (one node_column 2 (l ∷ name t ∷ []))
unfolding value_of ruled rules pick
value_bare l t k = refl

pub value_comma_join : (l : Val) (t : Tok) (k : List Val) → value_of row_comma_join l t k ≡ known row_comma_join (cat (l ∷ one node_join 0 (k # 0 ∷ opt (k # 1) ∷ []) ∷ []))
unfolding value_of ruled rules pick
value_comma_join l t k = refl

pub value_join : (l : Val) (t : Tok) (k : List Val) → value_of row_join l t k ≡ known row_join (cat (l ∷ one node_join 64 (k # 0 ∷ opt (k # 1) ∷ []) ∷ []))
unfolding value_of ruled rules pick
value_join l t k = refl

pub value_word_join : (l : Val) (t : Tok) (k : List Val) → value_of row_word_join l t k ≡ known row_word_join (cat (l ∷ one node_join (64 + united (flags_of t.text) (k # 0).num) (k # 2 ∷ opt (k # 3) ∷ []) ∷ []))
unfolding value_of ruled rules pick
value_word_join l t k = refl

pub value_word : (l : Val) (t : Tok) (k : List Val) → value_of row_word l t k ≡ known row_word (says (united (flags_of t.text) (k # 0).num))
unfolding value_of ruled rules pick
value_word l t k = refl

pub value_on : (l : Val) (t : Tok) (k : List Val) → value_of row_on l t k ≡ known row_on (one node_on 0 k)
unfolding value_of ruled rules pick
value_on l t k = refl

pub value_using : (l : Val) (t : Tok) (k : List Val) → value_of row_using l t k ≡ known row_using (one node_using 0 k)
unfolding value_of ruled rules pick
value_using l t k = refl

pub value_table : (l : Val) (t : Tok) (k : List Val) → value_of row_table l t k ≡ known row_table (one node_table ((k # 1).num + 4 * (k # 2).num) (choose (is_end (k # 0).nodes) (cat (none_there ∷ name t ∷ [])) (cat (name t ∷ k # 0 ∷ [])) ∷ opt (k # 1) ∷ opt (k # 2) ∷ []))
unfolding value_of ruled rules pick
value_table l t k = refl

pub value_query_source : (l : Val) (t : Tok) (k : List Val) → value_of row_query_source l t k ≡ known row_query_source (one node_query_source (k # 2).num (k # 0 ∷ opt (k # 2) ∷ []))
unfolding value_of ruled rules pick
value_query_source l t k = refl

pub value_dot_name : (l : Val) (t : Tok) (k : List Val) → value_of row_dot_name l t k ≡ known row_dot_name (cat k)
unfolding value_of ruled rules pick
value_dot_name l t k = refl

pub value_source_as : (l : Val) (t : Tok) (k : List Val) → value_of row_source_as l t k ≡ known row_source_as (saying 1 (cat k))
unfolding value_of ruled rules pick
value_source_as l t k = refl

pub value_source_bare : (l : Val) (t : Tok) (k : List Val) → value_of row_source_bare l t k ≡ known row_source_bare (saying 2 (name t))
unfolding value_of ruled rules pick
value_source_bare l t k = refl

pub value_indexed_by : (l : Val) (t : Tok) (k : List Val) → value_of row_indexed_by l t k ≡ known row_indexed_by (saying 1 (cat k))
unfolding value_of ruled rules pick
value_indexed_by l t k = refl

pub value_not_indexed : (l : Val) (t : Tok) (k : List Val) → value_of row_not_indexed l t k ≡ known row_not_indexed (says 2)
unfolding value_of ruled rules pick
value_not_indexed l t k = refl

pub value_prefix : (l : Val) (t : Tok) (k : List Val) → value_of row_prefix l t k ≡ known row_prefix (one node_prefix t.kind k)
unfolding value_of ruled rules pick
value_prefix l t k = refl

pub value_binary : (l : Val) (t : Tok) (k : List Val) → value_of row_binary l t k ≡ known row_binary (one node_binary t.kind (l ∷ k))
unfolding value_of ruled rules pick
value_binary l t k = refl

pub value_is : (l : Val) (t : Tok) (k : List Val) → value_of row_is l t k ≡ known row_is (one node_binary (t.kind + (k # 0).num) (l ∷ k))
unfolding value_of ruled rules pick
value_is l t k = refl

pub value_is_not : (l : Val) (t : Tok) (k : List Val) → value_of row_is_not l t k ≡ known row_is_not (saying 100 (cat k))
unfolding value_of ruled rules pick
value_is_not l t k = refl

pub value_like : (l : Val) (t : Tok) (k : List Val) → value_of row_like l t k ≡ known row_like (one node_binary (200 + t.text) (l ∷ k))
unfolding value_of ruled rules pick
value_like l t k = refl

pub value_in : (l : Val) (t : Tok) (k : List Val) → value_of row_in l t k ≡ known row_in (one (choose (is_query_val (k # 1)) node_in_query node_in_list) 0 (l ∷ inside (k # 1) ∷ []))
unfolding value_of ruled rules pick
value_in l t k = refl

pub value_between : (l : Val) (t : Tok) (k : List Val) → value_of row_between l t k ≡ known row_between (one node_between 0 (l ∷ k))
unfolding value_of ruled rules pick
value_between l t k = refl

pub value_not : (l : Val) (t : Tok) (k : List Val) → value_of row_not l t k ≡ known row_not (pick (eqb (k # 0).row row_not_like) (one node_binary (k # 0).num (l ∷ k)) (λ w. pick (eqb (k # 0).row row_not_in) (one (k # 0).num 1 (l ∷ k)) (λ w. pick (eqb (k # 0).row row_not_between) (one node_between 1 (l ∷ k)) (λ w. one node_null_test NOTNULL (l ∷ [])))))
unfolding value_of ruled rules pick
value_not l t k = refl

pub value_not_like : (l : Val) (t : Tok) (k : List Val) → value_of row_not_like l t k ≡ known row_not_like (saying (300 + t.text) (cat k))
unfolding value_of ruled rules pick
value_not_like l t k = refl

pub value_not_in : (l : Val) (t : Tok) (k : List Val) → value_of row_not_in l t k ≡ known row_not_in (saying (choose (is_query_val (k # 1)) node_in_query node_in_list) (inside (k # 1)))
unfolding value_of ruled rules pick
value_not_in l t k = refl

pub value_not_between : (l : Val) (t : Tok) (k : List Val) → value_of row_not_between l t k ≡ known row_not_between (cat k)
unfolding value_of ruled rules pick
value_not_between l t k = refl

pub value_not_null : (l : Val) (t : Tok) (k : List Val) → value_of row_not_null l t k ≡ known row_not_null (empty)
unfolding value_of ruled rules pick
value_not_null l t k = refl

pub value_null_test : (l : Val) (t : Tok) (k : List Val) → value_of row_null_test l t k ≡ known row_null_test (one node_null_test t.kind (l ∷ []))
unfolding value_of ruled rules pick
value_null_test l t k = refl

pub value_collate : (l : Val) (t : Tok) (k : List Val) → value_of row_collate l t k ≡ known row_collate (one node_collate 0 (l ∷ k))
unfolding value_of ruled rules pick
value_collate l t k = refl

pub value_literal : (l : Val) (t : Tok) (k : List Val) → value_of row_literal l t k ≡ known row_literal (literal t)
unfolding value_of ruled rules pick
value_literal l t k = refl

pub value_call : (l : Val) (t : Tok) (k : List Val) → value_of row_call l t k ≡ known row_call (saying (pick (eqb (k # 0).row row_star_args) 2 (λ w. pick (eqb (k # 0).row row_distinct_args) 1 (λ w. 0))) (cat k))
unfolding value_of ruled rules pick
value_call l t k = refl

pub value_star_args : (l : Val) (t : Tok) (k : List Val) → value_of row_star_args l t k ≡ known row_star_args (empty)
unfolding value_of ruled rules pick
value_star_args l t k = refl

pub value_distinct_args : (l : Val) (t : Tok) (k : List Val) → value_of row_distinct_args l t k ≡ known row_distinct_args (cat k)
unfolding value_of ruled rules pick
value_distinct_args l t k = refl

pub value_parens : (l : Val) (t : Tok) (k : List Val) → value_of row_parens l t k ≡ known row_parens (one (choose (is_query_val (k # 0)) node_subquery node_parens) 0 k)
unfolding value_of ruled rules pick
value_parens l t k = refl

pub value_more_exprs : (l : Val) (t : Tok) (k : List Val) → value_of row_more_exprs l t k ≡ known row_more_exprs (cat (l ∷ k))
unfolding value_of ruled rules pick
value_more_exprs l t k = refl

pub value_exists : (l : Val) (t : Tok) (k : List Val) → value_of row_exists l t k ≡ known row_exists (one node_exists 0 k)
unfolding value_of ruled rules pick
value_exists l t k = refl

pub value_case : (l : Val) (t : Tok) (k : List Val) → value_of row_case l t k ≡ known row_case (one node_case 0 (opt (k # 0) ∷ k # 2 ∷ k # 4 ∷ k # 5 ∷ opt (k # 6) ∷ []))
unfolding value_of ruled rules pick
value_case l t k = refl

pub value_next_when : (l : Val) (t : Tok) (k : List Val) → value_of row_next_when l t k ≡ known row_next_when (cat (l ∷ k))
unfolding value_of ruled rules pick
value_next_when l t k = refl

pub value_else : (l : Val) (t : Tok) (k : List Val) → value_of row_else l t k ≡ known row_else (k # 0)
unfolding value_of ruled rules pick
value_else l t k = refl

pub value_cast : (l : Val) (t : Tok) (k : List Val) → value_of row_cast l t k ≡ known row_cast (one node_cast 0 k)
unfolding value_of ruled rules pick
value_cast l t k = refl

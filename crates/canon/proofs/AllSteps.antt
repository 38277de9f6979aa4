-- Each line of the table has its step: all that begin (all_heads), all that go on (all_tails), in the table's order. Assumes nothing.
use mathlib.Core.Bool.{true, false}
use mathlib.Core.List.{List, [], ◌∷◌, ◌++◌}
use mathlib.Core.Logic.{inl}
use mathlib.Core.Option.{some}
use mathlib.Core.Path.{◌≡◌, refl, ap}
use Prim.Native.Nat.{ℕ, ◌+◌, min}
use Rattle.kinds.specs.Strength.{strength_of, prefix_of}
use Rattle.theory.specs.Trees.{Tok, Item, lit, nt, Row, Tree, nil, node}
use Rattle.theory.specs.Table.{mem, lookup, null_of, pick}
use Rattle.kinds.specs.Kinds.{INDEXED, NULL, LP, RP, COMMA, DOT, STAR, PLUS, MINUS, SLASH, REM, CONCAT, BITAND, BITOR, LSHIFT, RSHIFT, BITNOT, EQ, NE, LT, LE, GT, GE, AND, OR, NOT, IS, IN, BETWEEN, LIKE_KW, ISNULL, NOTNULL, COLLATE, CASE, WHEN, THEN, ELSE, END, CAST, AS, EXISTS, SELECT, VALUES, DISTINCT, FROM, JOIN, ON, USING, WHERE, GROUP, BY, HAVING, ORDER, DESC, NULLS, FIRST, LAST}
use Rattle.kinds.specs.Classes.{names, literals}
use Rattle.grammar.specs.Classes.{Command, Name, Query, Paren, FirstLast, Column, Source, Not, Semi?, Names?, Exprs?, Inside?, Order?, Terms?, Way?, Nulls?, Distinct?, Columns?, From?, Where?, Group?, Having?, Joins?, On?, Dot?, Alias?, Index?, Base?, Args?, Whens?, Else?, E, any, after_is}
use Rattle.grammar.specs.RowNames.{row_select, row_values, row_next_name, row_next_expr, row_order, row_next_term, row_desc, row_nulls, row_first, row_last, row_distinct, row_next_column, row_from, row_where, row_group, row_having, row_star, row_comma_join, row_join, row_on, row_using, row_table, row_query_source, row_dot_name, row_indexed_by, row_not_indexed, row_prefix, row_is, row_like, row_in, row_between, row_not_like, row_not_in, row_not_between, row_not_null, row_null_test, row_collate, row_literal, row_star_args, row_distinct_args, row_exists, row_case, row_next_when, row_else, row_cast}
use Rattle.grammar.specs.Rows.{part, strong, binary, but_column, but_is, exprs, select_items, values_items, lines, heads_of, tails_of, optional, running}
use Rattle.grammar.specs.Grammar.{sql, G}
use Rattle.grammar.specs.Limits.{Around, is_query, members}
use Rattle.grammar.specs.Reading.{says, choose, value_of, value}
use Rattle.grammar.specs.Writing.{at, binary_toks, binary_str}
use Rattle.canon.proofs.IsNot.{is_not_step}
use Rattle.canon.proofs.Forms.{More, Wide, fits_at}
use Rattle.canon.proofs.Places.{◌also◌, AllOf, by_mem}
use Rattle.canon.proofs.Rebuild.{kept}
use Rattle.canon.proofs.Lines.{AllLines}
use Rattle.canon.proofs.Steps.{HeadStep, TailStep, HeadSays, ListSays, head_step, calm, Lister, list_head, list_tail, core_head, from_any, core_tail, open_tests, core_head_in}
use Rattle.canon.proofs.Names.{dot_says, star_args_says, distinct_args_says}
use Rattle.canon.proofs.Sources.{indexed_by_says, not_indexed_says, table_says, query_source_says, from_says, comma_join_says, join_says, on_says, using_says}
use Rattle.canon.proofs.Clauses.{next_name_says, next_expr_says, desc_says, first_says, last_says, nulls_says, order_says, next_term_says, where_says, having_says, group_says, distinct_says}
use Rattle.canon.proofs.Queries.{star_column_says, next_column_says, select_query, select_inner, values_query, values_inner, select_command, values_command}
use Rattle.canon.proofs.Vanish.{all_step, asc_step, semi_step, name_step, source_as_step, source_bare_step}
use Rattle.canon.proofs.Operators.{Binary, binary_says, prefix_says, is_says, like_says, between_says, null_test_says, collate_says, in_says}
use Rattle.canon.proofs.Atoms.{literal_says, exists_says, cast_says, case_says, next_when_says, else_says}
use Rattle.canon.proofs.Nots.{not_like_says, not_in_says, not_between_says, not_null_says, not_step}
use Rattle.canon.proofs.Parens.{parens_step}
use Rattle.canon.proofs.Mixed.{as_step, bare_step, more_step}
use Rattle.canon.proofs.Limit.{offset_step, comma_step, limit_step}
use Rattle.canon.proofs.ValueRows.{first_row_step, next_row_step}
use Rattle.canon.proofs.JoinWords.{word3_step, word2_step, word_head, word_tail}
use Rattle.canon.proofs.NameExprs.{star_step, second_step, dot_star_step, call_step, dot_name_step}
use Rattle.canon.proofs.FirstNames.{names_step, indexed_step, col_names_step, col_indexed_step}

-- a part of one class, of which nothing more is said
part_step : (C : ℕ) (ks : List ℕ) (code : ℕ) (is : List Item) → kept C (part code is) ≡ true → ((c : Around) (x y : Tree) → More C c x y) → ((x : Tree) → Wide C x) → HeadSays ks (part code is) C
    → HeadStep (record { of = C ∷ []; at = ks; row = part code is })
part_step C ks code is k more wide says = head_step (record { of = C ∷ []; at = ks; row = part code is }) refl ((k, λ c t u k m f. more c _ _, says, λ t f. wide (node (part code is) nil t f)), tt)

-- a query, alone and in ( )
query_step : (ks : List ℕ) (code : ℕ) (is : List Item) → is_query code ≡ true → kept Query (part code is) ≡ true → kept Paren (part code is) ≡ true → kept Inside? (part code is) ≡ true
    → HeadSays ks (part code is) Query → HeadSays ks (part code is) Paren → HeadSays ks (part code is) Inside? → HeadStep (record { of = Query ∷ Paren ∷ Inside? ∷ []; at = ks; row = part code is })
unfolding value value_of
query_step ks code is q a b d s s' s'' = head_step (record { of = Query ∷ Paren ∷ Inside? ∷ []; at = ks; row = part code is }) refl
    ((a, λ c t u k m f. tt, s, λ t f. tt), ((b, λ c t u k m f. tt, s', λ t f. inl q), ((d, λ c t u k m f. tt, s'', λ t f. tt), tt)))

-- a binary operator
binary_step : (s : ℕ) (ks : List ℕ) → s ≡ min s 99 → from_any (binary s) ≡ true → AllOf (Binary s) ks → TailStep (record { of = exprs; at = ks; row = binary s })
binary_step s ks m e all = core_tail ks (binary s) e (binary_says s ks m all)

-- a list's rest, parted by one kind
lister : (C k : ℕ) (r : Row) → kept C r ≡ true → calm r ≡ true → lookup C k sql.heads ≡ some r → lookup C k sql.tails ≡ some r → G.nullable (any C) ≡ true → mem C exprs ≡ false → ((x : Tree) → Wide C x)
    → ListSays (k ∷ []) r C → ((c : Around) (l l' : Tree) (t t' : Tok) (f f' : Tree) → More C c l l' → More C c (node r l t f) (node r l' t' f')) → Lister C (k ∷ []) r
lister C k r a b d e n o w s m = record {
  tested = a;
  calmly = b;
  heads = λ i g. by_mem (λ k. lookup C k sql.heads ≡ some r) (k ∷ []) (d, tt) i g;
  tails = λ i g. by_mem (λ k. lookup C k sql.tails ≡ some r) (k ∷ []) (e, tt) i g;
  optional = n;
  other = o;
  wide = w;
  says = s;
  more = m;
}

names_lister : Lister Names? (COMMA ∷ []) (part row_next_name (nt (any Name) ∷ []))
unfolding open_tests members null_of optional sql lines but_column exprs select_items values_items heads_of tails_of lookup
names_lister = lister Names? COMMA (part row_next_name (nt (any Name) ∷ [])) refl refl refl refl refl refl (λ x. tt) next_name_says (λ c l l' t t' f f' m. tt)

exprs_lister : Lister Exprs? (COMMA ∷ []) (part row_next_expr (nt (E 1) ∷ []))
unfolding open_tests members null_of optional sql lines but_column exprs select_items values_items heads_of tails_of lookup
exprs_lister = lister Exprs? COMMA (part row_next_expr (nt (E 1) ∷ [])) refl refl refl refl refl refl (λ x. tt) next_expr_says (λ c l l' t t' f f' m. ap (λ z. z + 1) m)

terms_lister : Lister Terms? (COMMA ∷ []) (part row_next_term (nt (E 1) ∷ nt (any Way?) ∷ nt (any Nulls?) ∷ []))
unfolding open_tests members null_of optional sql lines but_column exprs select_items values_items heads_of tails_of lookup
terms_lister = lister Terms? COMMA (part row_next_term (nt (E 1) ∷ nt (any Way?) ∷ nt (any Nulls?) ∷ [])) refl refl refl refl refl refl (λ x. tt) next_term_says (λ c l l' t t' f f' m. tt)

columns_lister : Lister Columns? (COMMA ∷ []) (part row_next_column (nt (any Column) ∷ []))
unfolding open_tests members null_of optional sql lines but_column exprs select_items values_items heads_of tails_of lookup
columns_lister = lister Columns? COMMA (part row_next_column (nt (any Column) ∷ [])) refl refl refl refl refl refl (λ x. tt) next_column_says (λ c l l' t t' f f' m. tt)

comma_join_lister : Lister Joins? (COMMA ∷ []) (part row_comma_join (nt (any Source) ∷ nt (any On?) ∷ []))
unfolding open_tests members null_of optional sql lines but_column exprs select_items values_items heads_of tails_of lookup
comma_join_lister = lister Joins? COMMA (part row_comma_join (nt (any Source) ∷ nt (any On?) ∷ [])) refl refl refl refl refl refl (λ x. tt) comma_join_says (λ c l l' t t' f f' m. tt)

join_lister : Lister Joins? (JOIN ∷ []) (part row_join (nt (any Source) ∷ nt (any On?) ∷ []))
unfolding open_tests members null_of optional sql lines but_column exprs select_items values_items heads_of tails_of lookup
join_lister = lister Joins? JOIN (part row_join (nt (any Source) ∷ nt (any On?) ∷ [])) refl refl refl refl refl refl (λ x. tt) join_says (λ c l l' t t' f f' m. tt)

whens_lister : Lister Whens? (WHEN ∷ []) (part row_next_when (nt (E 1) ∷ lit THEN ∷ nt (E 1) ∷ []))
unfolding open_tests members null_of optional sql lines but_column exprs select_items values_items heads_of tails_of lookup
whens_lister = lister Whens? WHEN (part row_next_when (nt (E 1) ∷ lit THEN ∷ nt (E 1) ∷ [])) refl refl refl refl refl refl (λ x. tt) next_when_says (λ c l l' t t' f f' m. tt)

-- NOT begins an expression but after IS, where it holds too loosely
not_after_is : (D : ℕ) → mem D exprs ≡ true → fits_at D 3 ≡ true → mem D but_is ≡ true
unfolding exprs mem pick
not_after_is D m = by_mem (λ D. fits_at D 3 ≡ true → mem D but_is ≡ true) exprs
    ((λ w. refl), ((λ w. refl), ((λ w. refl), ((λ w. refl), ((λ w. refl), ((λ w. refl), ((λ w. w), tt))))))) D m

but_is_among : (D : ℕ) → mem D but_is ≡ true → mem D exprs ≡ true
unfolding exprs mem pick
but_is_among D m = by_mem (λ D. mem D exprs ≡ true) but_is (refl, (refl, (refl, (refl, (refl, (refl, tt)))))) D m

pub all_heads : AllLines HeadStep sql.heads
unfolding open_tests select_items values_items prefix_of sql lines heads_of
all_heads =
    part_step Command (SELECT ∷ []) row_select (select_items ++ (nt (any Semi?) ∷ [])) refl (λ c x y. tt) (λ x. tt) select_command
    also part_step Command (VALUES ∷ []) row_values (values_items ++ (nt (any Semi?) ∷ [])) refl (λ c x y. tt) (λ x. tt) values_command
    also semi_step
    also name_step
    also list_head Names? (COMMA ∷ []) (part row_next_name (nt (any Name) ∷ [])) names_lister
    also list_head Exprs? (COMMA ∷ []) (part row_next_expr (nt (E 1) ∷ [])) exprs_lister
    also query_step (SELECT ∷ []) row_select select_items refl refl refl refl select_query (select_inner Paren refl) (select_inner Inside? refl)
    also query_step (VALUES ∷ []) row_values values_items refl refl refl refl values_query (values_inner Paren refl) (values_inner Inside? refl)
    also part_step Order? (ORDER ∷ []) row_order (lit BY ∷ nt (E 1) ∷ nt (any Way?) ∷ nt (any Nulls?) ∷ nt (any Terms?) ∷ []) refl (λ c x y. tt) (λ x. tt) order_says
    also list_head Terms? (COMMA ∷ []) (part row_next_term (nt (E 1) ∷ nt (any Way?) ∷ nt (any Nulls?) ∷ [])) terms_lister
    also asc_step
    also part_step Way? (DESC ∷ []) row_desc [] refl (λ c x y. tt) (λ x. tt) desc_says
    also part_step Nulls? (NULLS ∷ []) row_nulls (nt (any FirstLast) ∷ []) refl (λ c x y. tt) (λ x. tt) nulls_says
    also part_step FirstLast (FIRST ∷ []) row_first [] refl (λ c x y. tt) (λ x. tt) first_says
    also part_step FirstLast (LAST ∷ []) row_last [] refl (λ c x y. tt) (λ x. tt) last_says
    also limit_step
    also offset_step
    also comma_step
    also first_row_step
    also part_step Distinct? (DISTINCT ∷ []) row_distinct [] refl (λ c x y. tt) (λ x. tt) distinct_says
    also all_step
    also list_head Columns? (COMMA ∷ []) (part row_next_column (nt (any Column) ∷ [])) columns_lister
    also part_step From? (FROM ∷ []) row_from (nt (any Source) ∷ nt (any Joins?) ∷ []) refl (λ c x y. tt) (λ x. tt) from_says
    also part_step Where? (WHERE ∷ []) row_where (nt (E 1) ∷ []) refl (λ c x y. tt) (λ x. tt) where_says
    also part_step Group? (GROUP ∷ []) row_group (lit BY ∷ nt (E 1) ∷ nt (any Exprs?) ∷ []) refl (λ c x y. tt) (λ x. tt) group_says
    also part_step Having? (HAVING ∷ []) row_having (nt (E 1) ∷ []) refl (λ c x y. tt) (λ x. tt) having_says
    also part_step Column (STAR ∷ []) row_star [] refl (λ c x y. tt) (λ x. tt) star_column_says
    also col_names_step
    also col_indexed_step
    also dot_star_step
    also star_step
    also second_step
    also list_head Joins? (COMMA ∷ []) (part row_comma_join (nt (any Source) ∷ nt (any On?) ∷ [])) comma_join_lister
    also list_head Joins? (JOIN ∷ []) (part row_join (nt (any Source) ∷ nt (any On?) ∷ [])) join_lister
    also word_head
    also word2_step
    also word3_step
    also part_step On? (ON ∷ []) row_on (nt (E 1) ∷ []) refl (λ c x y. tt) (λ x. tt) on_says
    also part_step On? (USING ∷ []) row_using (lit LP ∷ nt (any Name) ∷ nt (any Names?) ∷ lit RP ∷ []) refl (λ c x y. tt) (λ x. tt) using_says
    also part_step Source names row_table (nt (any Dot?) ∷ nt (any Alias?) ∷ nt (any Index?) ∷ []) refl (λ c x y. tt) (λ x. tt) table_says
    also part_step Source (LP ∷ []) row_query_source (nt (any Query) ∷ lit RP ∷ nt (any Alias?) ∷ []) refl (λ c x y. tt) (λ x. tt) query_source_says
    also part_step Dot? (DOT ∷ []) row_dot_name (nt (any Name) ∷ []) refl (λ c x y. tt) (λ x. tt) dot_says
    also source_as_step
    also source_bare_step
    also part_step Index? (INDEXED ∷ []) row_indexed_by (lit BY ∷ nt (any Name) ∷ []) refl (λ c x y. tt) (λ x. tt) indexed_by_says
    also part_step Index? (NOT ∷ []) row_not_indexed (lit INDEXED ∷ []) refl (λ c x y. tt) (λ x. tt) not_indexed_says
    also core_head_in but_is (NOT ∷ []) (running 10 3 row_prefix (nt (E 3) ∷ [])) refl not_after_is but_is_among (prefix_says 10 10 3 3 (NOT ∷ []) refl ((refl, refl), tt))
    also is_not_step
    also part_step Not (LIKE_KW ∷ []) row_not_like (nt (E 5) ∷ []) refl (λ c x y. tt) (λ x. tt) not_like_says
    also part_step Not (IN ∷ []) row_not_in (lit LP ∷ nt (any Inside?) ∷ lit RP ∷ []) refl (λ c x y. tt) (λ x. tt) not_in_says
    also part_step Not (BETWEEN ∷ []) row_not_between (nt (E 5) ∷ lit AND ∷ nt (E 5) ∷ []) refl (λ c x y. tt) (λ x. tt) not_between_says
    also part_step Not (NULL ∷ []) row_not_null [] refl (λ c x y. tt) (λ x. tt) not_null_says
    also core_head (PLUS ∷ MINUS ∷ BITNOT ∷ []) (strong 11 row_prefix (nt (E 11) ∷ [])) refl (prefix_says 11 11 99 11 (PLUS ∷ MINUS ∷ BITNOT ∷ []) refl ((refl, refl), ((refl, refl), ((refl, refl), tt))))
    also core_head literals (strong 12 row_literal []) refl literal_says
    also names_step
    also indexed_step
    also call_step
    also dot_name_step
    also part_step Args? (STAR ∷ []) row_star_args [] refl (λ c x y. tt) (λ x. tt) star_args_says
    also part_step Args? (DISTINCT ∷ []) row_distinct_args (nt (E 1) ∷ nt (any Exprs?) ∷ []) refl (λ c x y. tt) (λ x. tt) distinct_args_says
    also parens_step
    also core_head (EXISTS ∷ []) (strong 12 row_exists (lit LP ∷ nt (any Query) ∷ lit RP ∷ [])) refl exists_says
    also core_head (CASE ∷ []) (strong 12 row_case (nt (any Base?) ∷ lit WHEN ∷ nt (E 1) ∷ lit THEN ∷ nt (E 1) ∷ nt (any Whens?) ∷ nt (any Else?) ∷ lit END ∷ [])) refl case_says
    also list_head Whens? (WHEN ∷ []) (part row_next_when (nt (E 1) ∷ lit THEN ∷ nt (E 1) ∷ [])) whens_lister
    also part_step Else? (ELSE ∷ []) row_else (nt (E 1) ∷ []) refl (λ c x y. tt) (λ x. tt) else_says
    also core_head (CAST ∷ []) (strong 12 row_cast (lit LP ∷ nt (E 1) ∷ lit AS ∷ nt (any Name) ∷ lit RP ∷ [])) refl cast_says
    also tt

pub all_tails : AllLines TailStep sql.tails
unfolding open_tests binary_str binary_toks choose strength_of sql lines tails_of
all_tails =
    list_tail Names? (COMMA ∷ []) (part row_next_name (nt (any Name) ∷ [])) names_lister
    also list_tail Exprs? (COMMA ∷ []) (part row_next_expr (nt (E 1) ∷ [])) exprs_lister
    also list_tail Terms? (COMMA ∷ []) (part row_next_term (nt (E 1) ∷ nt (any Way?) ∷ nt (any Nulls?) ∷ [])) terms_lister
    also next_row_step
    also list_tail Columns? (COMMA ∷ []) (part row_next_column (nt (any Column) ∷ [])) columns_lister
    also as_step
    also bare_step
    also list_tail Joins? (COMMA ∷ []) (part row_comma_join (nt (any Source) ∷ nt (any On?) ∷ [])) comma_join_lister
    also list_tail Joins? (JOIN ∷ []) (part row_join (nt (any Source) ∷ nt (any On?) ∷ [])) join_lister
    also word_tail
    also binary_step 1 (OR ∷ []) refl refl ((refl, refl, refl), tt)
    also binary_step 2 (AND ∷ []) refl refl ((refl, refl, refl), tt)
    also binary_step 4 (EQ ∷ NE ∷ []) refl refl ((refl, refl, refl), ((refl, refl, refl), tt))
    also core_tail (IS ∷ []) (strong 4 row_is (nt after_is ∷ [])) refl is_says
    also core_tail (LIKE_KW ∷ []) (strong 4 row_like (nt (E 5) ∷ [])) refl like_says
    also core_tail (IN ∷ []) (strong 4 row_in (lit LP ∷ nt (any Inside?) ∷ lit RP ∷ [])) refl in_says
    also core_tail (BETWEEN ∷ []) (strong 4 row_between (nt (E 5) ∷ lit AND ∷ nt (E 5) ∷ [])) refl between_says
    also not_step
    also core_tail (ISNULL ∷ NOTNULL ∷ []) (strong 4 row_null_test []) refl null_test_says
    also binary_step 5 (LT ∷ LE ∷ GT ∷ GE ∷ []) refl refl ((refl, refl, refl), ((refl, refl, refl), ((refl, refl, refl), ((refl, refl, refl), tt))))
    also binary_step 6 (BITAND ∷ BITOR ∷ LSHIFT ∷ RSHIFT ∷ []) refl refl ((refl, refl, refl), ((refl, refl, refl), ((refl, refl, refl), ((refl, refl, refl), tt))))
    also binary_step 7 (PLUS ∷ MINUS ∷ []) refl refl ((refl, refl, refl), ((refl, refl, refl), tt))
    also binary_step 8 (STAR ∷ SLASH ∷ REM ∷ []) refl refl ((refl, refl, refl), ((refl, refl, refl), ((refl, refl, refl), tt)))
    also binary_step 9 (CONCAT ∷ []) refl refl ((refl, refl, refl), tt)
    also core_tail (COLLATE ∷ []) (strong 10 row_collate (nt (any Name) ∷ [])) refl collate_says
    also more_step
    also list_tail Whens? (WHEN ∷ []) (part row_next_when (nt (E 1) ∷ lit THEN ∷ nt (E 1) ∷ [])) whens_lister
    also tt

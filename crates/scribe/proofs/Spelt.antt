-- What is written for a node whose code is known, by its detail and its children's pieces: its tokens and its strength (binary_spelt, ..), with
-- its children (binary_kids, ..). Assumes nothing.
use mathlib.Core.Bool.{true, false}
use mathlib.Core.List.{List, [], ◌∷◌, ◌++◌}
use mathlib.Core.Logic.{◌⊎◌, inl, inr}
use mathlib.Core.Path.{◌≡◌, refl, sym, ap, ◌∙◌, subst}
use Prim.Native.Nat.{ℕ, ◌+◌, ◌-◌, ◌*◌, ◌%◌, ◌/◌, ◌≤◌, ◌<◌}
use lib.Dec.{eqb}
use native.Mathlib.Omega.{arith}
use Rattle.theory.specs.Trees.{Tok}
use Rattle.theory.specs.Table.{both, pick}
use borrow.Author.Tests.{lt-leb}
use Rattle.theory.proofs.Cases.{by_bool, 0≢1, eqb_eq, eqb-true, le-leb}
use Rattle.grammar.proofs.Promised.{not-true}
use Rattle.kinds.specs.Kinds.{ID, STRING, INDEXED, JOIN_KW, INTEGER, FLOAT, BLOB, VARIABLE, CTIME_KW, NULL, COMMA, DOT, STAR, AND, NOT, IN, BETWEEN, COLLATE, CAST, AS, EXISTS, SELECT, VALUES, DISTINCT, FROM, JOIN, ON, USING, WHERE, BY, HAVING, ORDER, DESC, NULLS, FIRST, LAST, LIMIT, OFFSET}
use Rattle.kinds.specs.Strength.{prefix_of}
use Rattle.words.specs.Flags.{legal}
use Rattle.words.specs.Fewest.{fewest_of, words_of}
use Rattle.grammar.specs.NodeNames.{node_absent, node_query, node_select, node_values, node_list, node_star, node_name_star, node_column, node_from, node_join, node_on, node_using, node_table, node_query_source, node_sort, node_id, node_string_name, node_indexed_name, node_join_name, node_integer, node_float, node_string, node_blob, node_variable, node_ctime, node_null, node_names, node_call, node_parens, node_subquery, node_exists, node_cast, node_prefix, node_binary, node_null_test, node_in_list, node_in_query, node_between, node_collate}
use Rattle.grammar.specs.Nodes.{Nodes, end, mk, count}
use Rattle.grammar.specs.Reading.{choose}
use Rattle.grammar.specs.Meaning.{plain_detail, low, alias_plain, word_plain, way_plain}
use Rattle.grammar.specs.Writing.{Piece, piece, formed, forms, node_str, ◌!◌, at, after, within, joined, parted, rows, grouped, join_of, join_words, binary_toks, binary_str, not_if, tok, toktext}
use Rattle.canon.proofs.Folds.{P}
use Rattle.shapes.specs.Shape.{Class, a_query, a_body, a_column, a_from, a_source, a_join, a_constraint, a_sort, an_expr, a_name, absence, list_of, any_of, empty_list, Shape, fin, ◌▸◌, ◌▸?◌, many_of, some_of, aliased, indexed, Joining, by_comma, by_words, Node, Shaped, shaped_end, shaped_next, shaped_none, shaped_more, shaped_here, shaped_gone, query_node, select_node, values_node, list_node, any_node, star_node, name_star_node, column_node, from_node, join_node, on_node, using_node, table_node, source_node, sort_node, name_node, literal_node, names_node, call_node, star_call_node, parens_node, subquery_node, exists_node, case_node, cast_node, prefix_node, binary_node, null_node, in_list_node, in_query_node, between_node, collate_node}
use Rattle.shapes.proofs.ByCode.{code_says, if_so, at_code, TableLine, is_table, SortLine, is_sorting, CallLine, with_list, with_star}
use Rattle.scribe.proofs.Spelling.{piece_of, P_node, plain_piece, unwrapped_piece, more_piece, at_fits}
use Rattle.scribe.proofs.Whole.{Whole, piece_at}
use Rattle.scribe.proofs.Kids.{kids_stand, may_piece, must, may, Kids1, Kids2, Kids3, Kids4, Kids5, kids1, kids2, kids3, kids4, kids5, is_there, node_present, some_counted, absent_piece}

-- a piece with this strength and these tokens
pub record Spelt (p : Piece) (s : ℕ) (ts : List Tok) : Type 0 where
  pub str : p.str ≡ s
  pub toks : p.toks ≡ ts

-- the same tokens, said in another way
re_spelt : {p : Piece} {s : ℕ} {ts us : List Tok} → Spelt p s ts → ts ≡ us → Spelt p s us
re_spelt h e = record { str = h.str; toks = h.toks ∙ e }

differs : (c k : ℕ) → (c ≡ k → ⊥) → eqb c k ≡ false
differs c k h = not-true (eqb c k) (λ e. absurd (h (eqb_eq c k e)))

-- ── plain details ──
word_plain_lem : (d : ℕ) → eqb (word_plain d) 1 ≡ eqb d 1
unfolding choose
word_plain_lem d = by_bool (eqb d 2) (λ e. ap (λ b. eqb (choose b 0 d) 1) e ∙ ap (λ z. eqb z 1) (sym (eqb_eq d 2 e))) (λ e. ap (λ b. eqb (choose b 0 d) 1) e)

upper4 : (x q : ℕ) → x < 4 → (x + q * 4) / 4 ≡ q
upper4 x q h = omega (arith, h)

lower4 : (x q : ℕ) → x < 4 → (x + q * 4) % 4 ≡ x
lower4 x q h = omega (arith, h)

alias_below : (m : ℕ) → m < 4 → alias_plain m < 4
unfolding choose
alias_below m h = by_bool (eqb m 2) (λ e. subst (λ b. choose b 1 m < 4) (sym e) (omega arith)) (λ e. subst (λ b. choose b 1 m < 4) (sym e) h)

way_below : (m : ℕ) → m < 4 → way_plain m < 4
unfolding choose
way_below m h = by_bool (eqb m 1) (λ e. subst (λ b. choose b 0 m < 4) (sym e) (omega arith)) (λ e. subst (λ b. choose b 0 m < 4) (sym e) h)

way_plain_lem : (m : ℕ) → eqb (way_plain m) 2 ≡ eqb m 2
unfolding choose
way_plain_lem m = by_bool (eqb m 1) (λ e. ap (λ b. eqb (choose b 0 m) 2) e ∙ ap (λ z. eqb z 2) (sym (eqb_eq m 1 e))) (λ e. ap (λ b. eqb (choose b 0 m) 2) e)

table_upper : (d : ℕ) → low alias_plain d / 4 ≡ d / 4
table_upper d = upper4 (alias_plain (d % 4)) (d / 4) (alias_below (d % 4) (omega arith))

sort_upper : (d : ℕ) → low way_plain d / 4 ≡ d / 4
sort_upper d = upper4 (way_plain (d % 4)) (d / 4) (way_below (d % 4) (omega arith))

sort_lower : (d : ℕ) → eqb (low way_plain d % 4) 2 ≡ eqb (d % 4) 2
sort_lower d = ap (λ z. eqb z 2) (lower4 (way_plain (d % 4)) (d / 4) (way_below (d % 4) (omega arith))) ∙ way_plain_lem (d % 4)

-- ── an alias may be absent ──
alias_shape : {R : Shape} {ks : Nodes} (m : ℕ) → Shaped (aliased m ▸ R) ks → Shaped (a_name ▸? R) ks
unfolding choose
alias_shape {R} {ks} m h = by_bool (eqb m 0) (λ e. shaped_gone (subst (λ b. Shaped (choose b absence a_name ▸ R) ks) e h)) (λ e. shaped_here (subst (λ b. Shaped (choose b absence a_name ▸ R) ks) e h))

index_shape : {R : Shape} {ks : Nodes} (b : ℕ) → Shaped (indexed b ▸ R) ks → Shaped (a_name ▸? R) ks
unfolding choose
index_shape {R} {ks} b h = by_bool (eqb b 1) (λ e. shaped_here (subst (λ b. Shaped (choose b a_name absence ▸ R) ks) e h)) (λ e. shaped_gone (subst (λ b. Shaped (choose b a_name absence ▸ R) ks) e h))

under : {A : Class} {Q R : Shape} {ks : Nodes} → ((ns : Nodes) → Shaped Q ns → Shaped R ns) → Shaped (A ▸ Q) ks → Shaped (A ▸ R) ks
under f (shaped_next {ns = ns} n s r) = shaped_next n s (f ns r)

under? : {A : Class} {Q R : Shape} {ks : Nodes} → ((ns : Nodes) → Shaped Q ns → Shaped R ns) → Shaped (A ▸? Q) ks → Shaped (A ▸? R) ks
under? f (shaped_gone s) = shaped_gone (under f s)
under? f (shaped_here s) = shaped_here (under f s)

column_shape : {A : Class} {ks : Nodes} (m : ℕ) → Shaped (A ▸ aliased m ▸ fin) ks → Shaped (A ▸ a_name ▸? fin) ks
column_shape m h = under (λ ns. alias_shape m) h

table_shape : {d : ℕ} {S : Shape} {ks : Nodes} → TableLine d S → Shaped S ks → Shaped (a_name ▸? a_name ▸ a_name ▸? a_name ▸? fin) ks
table_shape {ks = ks} (is_table m b e x y same) h = under? (λ ns. under (λ ns q. under? (λ ns. index_shape b) (alias_shape m q))) (subst (λ S. Shaped S ks) same h)

sort_shape : {d : ℕ} {S : Shape} {ks : Nodes} → SortLine d S → Shaped S ks → Shaped (an_expr ▸ fin) ks
sort_shape {ks = ks} (is_sorting m b e x y same) h = subst (λ S. Shaped S ks) same h

-- ── how a literal and a name are written ──
unfoldable pub literal_kind : ℕ → ℕ
literal_kind c =
    pick (eqb c node_integer) INTEGER
    (λ w. pick (eqb c node_float) FLOAT
    (λ w. pick (eqb c node_string) STRING
    (λ w. pick (eqb c node_blob) BLOB
    (λ w. pick (eqb c node_variable) VARIABLE (λ w. CTIME_KW)))))

unfoldable pub name_kind : ℕ → ℕ
name_kind c =
    pick (eqb c node_string_name) STRING
    (λ w. pick (eqb c node_indexed_name) INDEXED
    (λ w. pick (eqb c node_join_name) JOIN_KW (λ w. ID)))

-- a number of a range is its first, or one of the others
pub next_of : {Q : Type 0} (a c : ℕ) → a ≤ c → (c ≡ a → Q) → (a + 1 ≤ c → Q) → Q
next_of a c h f g = by_bool (eqb c a) (λ e. f (eqb_eq c a e)) (λ e. g (differ e))
  where
    differ : eqb c a ≡ false → a + 1 ≤ c
    differ e = let k : c ≡ a → ⊥ = λ q. 0≢1 (sym e ∙ eqb-true c a q) in omega (arith, h, k)

module _ {C : Class} {N : List ℕ} {i : ℕ} (w : Whole C N i) where
  pub as_shape : {S : Shape} → w.shape ≡ S → Shaped S w.kids
  as_shape e = subst (λ S. Shaped S w.kids) e w.shaped

  pub plain_at : {ps : List Piece} (k : ℕ) → eqb k node_parens ≡ false → w.code ≡ k → P w.kids ≡ ps → piece_at w ≡ piece k (plain_detail k w.detail) ps
  plain_at k h e q = ap (λ z. piece_of z w.detail w.kids) e ∙ plain_piece k w.detail w.kids h ∙ ap (piece k (plain_detail k w.detail)) q

  pub spelt_at : {ps : List Piece} (k : ℕ) → eqb k node_parens ≡ false → w.code ≡ k → P w.kids ≡ ps → Spelt (piece_at w) (node_str k (plain_detail k w.detail)) (formed k forms (plain_detail k w.detail) ps)
  unfolding piece
  spelt_at k h e q = record { str = ap (λ z. z.str) (plain_at k h e q); toks = ap (λ z. z.toks) (plain_at k h e q) }

  -- ── operators ──
  pub binary_kids : w.code ≡ node_binary → Kids2 (must an_expr) (must an_expr) N (i - 1) w.kids
  unfolding code_says if_so both
  binary_kids e = kids2 (must an_expr) (must an_expr) (as_shape (at_code node_binary w.node e).1) (kids_stand w)

  pub binary_spelt : w.code ≡ node_binary → (k : Kids2 (must an_expr) (must an_expr) N (i - 1) w.kids)
      → Spelt (piece_at w) (binary_str w.detail) (at (binary_str w.detail) (piece_at k.first) ++ (binary_toks w.detail ++ at (binary_str w.detail + 1) (piece_at k.second)))
  unfolding formed forms pick both plain_detail node_str ◌!◌
  binary_spelt e k = spelt_at node_binary refl e k.written

  pub prefix_kids : w.code ≡ node_prefix → Kids1 (must an_expr) N (i - 1) w.kids
  unfolding code_says if_so both
  prefix_kids e = kids1 (must an_expr) (as_shape (at_code node_prefix w.node e).1) (kids_stand w)

  pub prefix_spelt : w.code ≡ node_prefix → (k : Kids1 (must an_expr) N (i - 1) w.kids)
      → Spelt (piece_at w) (prefix_of w.detail) (tok w.detail ∷ at (prefix_of w.detail) (piece_at k.first))
  unfolding formed forms pick both plain_detail node_str ◌!◌
  prefix_spelt e k = spelt_at node_prefix refl e k.written

  pub null_test_kids : w.code ≡ node_null_test → Kids1 (must an_expr) N (i - 1) w.kids
  unfolding code_says if_so both
  null_test_kids e = kids1 (must an_expr) (as_shape (at_code node_null_test w.node e).1) (kids_stand w)

  pub null_test_spelt : w.code ≡ node_null_test → (k : Kids1 (must an_expr) N (i - 1) w.kids)
      → Spelt (piece_at w) 4 (at 4 (piece_at k.first) ++ (tok w.detail ∷ []))
  unfolding formed forms pick both plain_detail node_str ◌!◌
  null_test_spelt e k = spelt_at node_null_test refl e k.written

  pub between_kids : w.code ≡ node_between → Kids3 (must an_expr) (must an_expr) (must an_expr) N (i - 1) w.kids
  unfolding code_says if_so both
  between_kids e = kids3 (must an_expr) (must an_expr) (must an_expr) (as_shape (at_code node_between w.node e).1) (kids_stand w)

  pub between_spelt : w.code ≡ node_between → (k : Kids3 (must an_expr) (must an_expr) (must an_expr) N (i - 1) w.kids)
      → Spelt (piece_at w) 4 (at 4 (piece_at k.first) ++ (not_if w.detail ++ (tok BETWEEN ∷ (at 5 (piece_at k.second) ++ (tok AND ∷ at 5 (piece_at k.third))))))
  unfolding formed forms pick both plain_detail node_str ◌!◌
  between_spelt e k = spelt_at node_between refl e k.written

  pub in_list_kids : w.code ≡ node_in_list → Kids2 (must an_expr) (must (any_of an_expr)) N (i - 1) w.kids
  unfolding code_says if_so both
  in_list_kids e = kids2 (must an_expr) (must (any_of an_expr)) (as_shape (at_code node_in_list w.node e).1) (kids_stand w)

  pub in_list_spelt : w.code ≡ node_in_list → (k : Kids2 (must an_expr) (must (any_of an_expr)) N (i - 1) w.kids)
      → Spelt (piece_at w) 4 (at 4 (piece_at k.first) ++ (not_if w.detail ++ (tok IN ∷ within (piece_at k.second).toks)))
  unfolding formed forms pick both plain_detail node_str ◌!◌
  in_list_spelt e k = spelt_at node_in_list refl e k.written

  pub in_query_kids : w.code ≡ node_in_query → Kids2 (must an_expr) (must a_query) N (i - 1) w.kids
  unfolding code_says if_so both
  in_query_kids e = kids2 (must an_expr) (must a_query) (as_shape (at_code node_in_query w.node e).1) (kids_stand w)

  pub in_query_spelt : w.code ≡ node_in_query → (k : Kids2 (must an_expr) (must a_query) N (i - 1) w.kids)
      → Spelt (piece_at w) 4 (at 4 (piece_at k.first) ++ (not_if w.detail ++ (tok IN ∷ within (piece_at k.second).toks)))
  unfolding formed forms pick both plain_detail node_str ◌!◌
  in_query_spelt e k = spelt_at node_in_query refl e k.written

  pub collate_kids : w.code ≡ node_collate → Kids2 (must an_expr) (must a_name) N (i - 1) w.kids
  unfolding code_says if_so both
  collate_kids e = kids2 (must an_expr) (must a_name) (as_shape (at_code node_collate w.node e).1) (kids_stand w)

  pub collate_spelt : w.code ≡ node_collate → (k : Kids2 (must an_expr) (must a_name) N (i - 1) w.kids)
      → Spelt (piece_at w) 10 (at 10 (piece_at k.first) ++ (tok COLLATE ∷ (piece_at k.second).toks))
  unfolding formed forms pick both plain_detail node_str ◌!◌
  collate_spelt e k = spelt_at node_collate refl e k.written

  -- ── operands ──
  pub subquery_kids : w.code ≡ node_subquery → Kids1 (must a_query) N (i - 1) w.kids
  unfolding code_says if_so both
  subquery_kids e = kids1 (must a_query) (as_shape (at_code node_subquery w.node e).1) (kids_stand w)

  pub subquery_spelt : w.code ≡ node_subquery → (k : Kids1 (must a_query) N (i - 1) w.kids)
      → Spelt (piece_at w) 12 (within (piece_at k.first).toks)
  unfolding formed forms pick both plain_detail node_str ◌!◌
  subquery_spelt e k = spelt_at node_subquery refl e k.written

  pub exists_kids : w.code ≡ node_exists → Kids1 (must a_query) N (i - 1) w.kids
  unfolding code_says if_so both
  exists_kids e = kids1 (must a_query) (as_shape (at_code node_exists w.node e).1) (kids_stand w)

  pub exists_spelt : w.code ≡ node_exists → (k : Kids1 (must a_query) N (i - 1) w.kids)
      → Spelt (piece_at w) 12 (tok EXISTS ∷ within (piece_at k.first).toks)
  unfolding formed forms pick both plain_detail node_str ◌!◌
  exists_spelt e k = spelt_at node_exists refl e k.written

  pub cast_kids : w.code ≡ node_cast → Kids2 (must an_expr) (must a_name) N (i - 1) w.kids
  unfolding code_says if_so both
  cast_kids e = kids2 (must an_expr) (must a_name) (as_shape (at_code node_cast w.node e).1) (kids_stand w)

  pub cast_spelt : w.code ≡ node_cast → (k : Kids2 (must an_expr) (must a_name) N (i - 1) w.kids)
      → Spelt (piece_at w) 12 (tok CAST ∷ within ((piece_at k.first).toks ++ (tok AS ∷ (piece_at k.second).toks)))
  unfolding formed forms pick both plain_detail node_str ◌!◌
  cast_spelt e k = spelt_at node_cast refl e k.written

  -- ── columns, sources and clauses ──
  pub name_star_kids : w.code ≡ node_name_star → Kids1 (must a_name) N (i - 1) w.kids
  unfolding code_says if_so both
  name_star_kids e = kids1 (must a_name) (as_shape (at_code node_name_star w.node e).1) (kids_stand w)

  pub name_star_spelt : w.code ≡ node_name_star → (k : Kids1 (must a_name) N (i - 1) w.kids)
      → Spelt (piece_at w) 0 ((piece_at k.first).toks ++ (tok DOT ∷ tok STAR ∷ []))
  unfolding formed forms pick both plain_detail node_str ◌!◌
  name_star_spelt e k = spelt_at node_name_star refl e k.written

  pub on_kids : w.code ≡ node_on → Kids1 (must an_expr) N (i - 1) w.kids
  unfolding code_says if_so both
  on_kids e = kids1 (must an_expr) (as_shape (at_code node_on w.node e).1) (kids_stand w)

  pub on_spelt : w.code ≡ node_on → (k : Kids1 (must an_expr) N (i - 1) w.kids)
      → Spelt (piece_at w) 0 (tok ON ∷ (piece_at k.first).toks)
  unfolding formed forms pick both plain_detail node_str ◌!◌
  on_spelt e k = spelt_at node_on refl e k.written

  pub join_kids : w.code ≡ node_join → Kids2 (must a_source) (may a_constraint) N (i - 1) w.kids
  unfolding code_says if_so both
  join_kids e = kids2 (must a_source) (may a_constraint) (as_shape (at_code node_join w.node e).1) (kids_stand w)

  pub join_detail : w.code ≡ node_join → Joining w.detail
  unfolding code_says if_so both
  join_detail e = (at_code node_join w.node e).0

  pub join_spelt : w.code ≡ node_join → (k : Kids2 (must a_source) (may a_constraint) N (i - 1) w.kids)
      → Spelt (piece_at w) 0 (join_of w.detail ++ ((piece_at k.first).toks ++ (may_piece k.second).toks))
  unfolding formed forms pick both plain_detail node_str ◌!◌
  join_spelt e k = spelt_at node_join refl e k.written

  pub query_kids : w.code ≡ node_query → Kids4 (must a_body) (may (list_of a_sort)) (may an_expr) (may an_expr) N (i - 1) w.kids
  unfolding code_says if_so both
  query_kids e = kids4 (must a_body) (may (list_of a_sort)) (may an_expr) (may an_expr) (as_shape (at_code node_query w.node e).1) (kids_stand w)

  pub query_spelt : w.code ≡ node_query → (k : Kids4 (must a_body) (may (list_of a_sort)) (may an_expr) (may an_expr) N (i - 1) w.kids)
      → Spelt (piece_at w) 0 ((piece_at k.first).toks ++ (after (tok ORDER ∷ tok BY ∷ []) (may_piece k.second) ++ (after (tok LIMIT ∷ []) (may_piece k.third) ++ after (tok OFFSET ∷ []) (may_piece k.fourth))))
  unfolding formed forms pick both plain_detail node_str ◌!◌
  query_spelt e k = spelt_at node_query refl e k.written

  pub select_kids : w.code ≡ node_select → Kids5 (must (list_of a_column)) (may a_from) (may an_expr) (may (any_of an_expr)) (may an_expr) N (i - 1) w.kids
  unfolding code_says if_so both
  select_kids e = kids5 (must (list_of a_column)) (may a_from) (may an_expr) (may (any_of an_expr)) (may an_expr) (as_shape (at_code node_select w.node e).1) (kids_stand w)

  pub select_spelt : w.code ≡ node_select → (k : Kids5 (must (list_of a_column)) (may a_from) (may an_expr) (may (any_of an_expr)) (may an_expr) N (i - 1) w.kids)
      → Spelt (piece_at w) 0 (tok SELECT ∷ (choose (eqb w.detail 1) (tok DISTINCT ∷ []) [] ++ ((piece_at k.first).toks ++ ((may_piece k.second).toks ++ (after (tok WHERE ∷ []) (may_piece k.third) ++ (grouped (may_piece k.fourth) ++ after (tok HAVING ∷ []) (may_piece k.fifth)))))))
  unfolding formed forms pick both plain_detail node_str ◌!◌
  select_spelt e k = re_spelt (spelt_at node_select refl e k.written) (ap (λ b. tok SELECT ∷ (choose (b) (tok DISTINCT ∷ []) [] ++ ((piece_at k.first).toks ++ ((may_piece k.second).toks ++ (after (tok WHERE ∷ []) (may_piece k.third) ++ (grouped (may_piece k.fourth) ++ after (tok HAVING ∷ []) (may_piece k.fifth))))))) (word_plain_lem w.detail))

  pub column_kids : w.code ≡ node_column → Kids2 (must an_expr) (may a_name) N (i - 1) w.kids
  unfolding code_says if_so both
  column_kids e = kids2 (must an_expr) (may a_name) (column_shape w.detail (as_shape (at_code node_column w.node e).1)) (kids_stand w)

  pub column_spelt : w.code ≡ node_column → (k : Kids2 (must an_expr) (may a_name) N (i - 1) w.kids)
      → Spelt (piece_at w) 0 ((piece_at k.first).toks ++ after (tok AS ∷ []) (may_piece k.second))
  unfolding formed forms pick both plain_detail node_str ◌!◌
  column_spelt e k = spelt_at node_column refl e k.written

  pub query_source_kids : w.code ≡ node_query_source → Kids2 (must a_query) (may a_name) N (i - 1) w.kids
  unfolding code_says if_so both
  query_source_kids e = kids2 (must a_query) (may a_name) (column_shape w.detail (as_shape (at_code node_query_source w.node e).1)) (kids_stand w)

  pub query_source_spelt : w.code ≡ node_query_source → (k : Kids2 (must a_query) (may a_name) N (i - 1) w.kids)
      → Spelt (piece_at w) 0 (within (piece_at k.first).toks ++ after (tok AS ∷ []) (may_piece k.second))
  unfolding formed forms pick both plain_detail node_str ◌!◌
  query_source_spelt e k = spelt_at node_query_source refl e k.written

  pub table_kids_lem : w.code ≡ node_table → Kids4 (may a_name) (must a_name) (may a_name) (may a_name) N (i - 1) w.kids
  unfolding code_says if_so both
  table_kids_lem e = kids4 (may a_name) (must a_name) (may a_name) (may a_name) (table_shape (at_code node_table w.node e) w.shaped) (kids_stand w)

  pub table_spelt : w.code ≡ node_table → (k : Kids4 (may a_name) (must a_name) (may a_name) (may a_name) N (i - 1) w.kids)
      → Spelt (piece_at w) 0 ((may_piece k.first).toks ++ (choose (eqb (may_piece k.first).code node_absent) [] (tok DOT ∷ []) ++ ((piece_at k.second).toks ++ (after (tok AS ∷ []) (may_piece k.third)
      ++ choose (eqb (w.detail / 4) 2) (tok NOT ∷ tok INDEXED ∷ []) (after (tok INDEXED ∷ tok BY ∷ []) (may_piece k.fourth))))))
  unfolding formed forms pick both plain_detail node_str ◌!◌
  table_spelt e k = re_spelt (spelt_at node_table refl e k.written)
      (ap (λ z. (may_piece k.first).toks ++ (choose (eqb (may_piece k.first).code node_absent) [] (tok DOT ∷ []) ++ ((piece_at k.second).toks ++ (after (tok AS ∷ []) (may_piece k.third)
      ++ choose (eqb z 2) (tok NOT ∷ tok INDEXED ∷ []) (after (tok INDEXED ∷ tok BY ∷ []) (may_piece k.fourth)))))) (table_upper w.detail))

  pub sort_kids : w.code ≡ node_sort → Kids1 (must an_expr) N (i - 1) w.kids
  unfolding code_says if_so both
  sort_kids e = kids1 (must an_expr) (sort_shape (at_code node_sort w.node e) w.shaped) (kids_stand w)

  pub sort_spelt : w.code ≡ node_sort → (k : Kids1 (must an_expr) N (i - 1) w.kids)
      → Spelt (piece_at w) 0 ((piece_at k.first).toks ++ (choose (eqb (w.detail % 4) 2) (tok DESC ∷ []) [] ++ choose (eqb (w.detail / 4) 1) (tok NULLS ∷ tok FIRST ∷ []) (choose (eqb (w.detail / 4) 2) (tok NULLS ∷ tok LAST ∷ []) [])))
  unfolding formed forms pick both plain_detail node_str ◌!◌
  sort_spelt e k = re_spelt (spelt_at node_sort refl e k.written)
      (ap (λ b. (piece_at k.first).toks ++ (choose b (tok DESC ∷ []) [] ++ choose (eqb (low way_plain w.detail / 4) 1) (tok NULLS ∷ tok FIRST ∷ []) (choose (eqb (low way_plain w.detail / 4) 2) (tok NULLS ∷ tok LAST ∷ []) []))) (sort_lower w.detail)
      ∙ ap (λ z. (piece_at k.first).toks ++ (choose (eqb (w.detail % 4) 2) (tok DESC ∷ []) [] ++ choose (eqb z 1) (tok NULLS ∷ tok FIRST ∷ []) (choose (eqb z 2) (tok NULLS ∷ tok LAST ∷ []) []))) (sort_upper w.detail))

  -- ── with no children ──
  pub star_spelt : w.code ≡ node_star → Spelt (piece_at w) 0 (tok STAR ∷ [])
  unfolding formed forms pick both plain_detail node_str ◌!◌
  star_spelt e = spelt_at node_star refl e refl

  pub null_spelt : w.code ≡ node_null → Spelt (piece_at w) 12 (tok NULL ∷ [])
  unfolding formed forms pick both plain_detail node_str ◌!◌
  null_spelt e = spelt_at node_null refl e refl

  abbrev pub LiteralSpelt : Type 0
  LiteralSpelt = Spelt (piece_at w) 12 (toktext (literal_kind w.code) w.detail ∷ [])

  literal_by : (k t : ℕ) → w.code ≡ k → literal_kind k ≡ t → Spelt (piece_at w) 12 (toktext t w.detail ∷ []) → LiteralSpelt
  literal_by k t e q h = re_spelt h (ap (λ z. toktext z w.detail ∷ []) (sym q ∙ ap literal_kind (sym e)))

  pub literal_spelt : node_integer ≤ w.code → w.code ≤ node_ctime → LiteralSpelt
  unfolding formed forms pick both plain_detail node_str ◌!◌ literal_kind
  literal_spelt lo hi =
      next_of 24 w.code lo (λ e. literal_by 24 INTEGER e refl (spelt_at 24 refl e refl))
      (λ h. next_of 25 w.code h (λ e. literal_by 25 FLOAT e refl (spelt_at 25 refl e refl))
      (λ h. next_of 26 w.code h (λ e. literal_by 26 STRING e refl (spelt_at 26 refl e refl))
      (λ h. next_of 27 w.code h (λ e. literal_by 27 BLOB e refl (spelt_at 27 refl e refl))
      (λ h. next_of 28 w.code h (λ e. literal_by 28 VARIABLE e refl (spelt_at 28 refl e refl))
      (λ h. let e : w.code ≡ 29 = omega (arith, h, hi) in literal_by 29 CTIME_KW e refl (spelt_at 29 refl e refl))))))

  abbrev pub NameSpelt : Type 0
  NameSpelt = Spelt (piece_at w) 0 (toktext (name_kind w.code) w.detail ∷ [])

  name_by : (k t : ℕ) → w.code ≡ k → name_kind k ≡ t → Spelt (piece_at w) 0 (toktext t w.detail ∷ []) → NameSpelt
  name_by k t e q h = re_spelt h (ap (λ z. toktext z w.detail ∷ []) (sym q ∙ ap name_kind (sym e)))

  pub named_spelt : node_id ≤ w.code → w.code ≤ node_join_name → NameSpelt
  unfolding formed forms pick both plain_detail node_str ◌!◌ name_kind
  named_spelt lo hi =
      next_of 20 w.code lo (λ e. name_by 20 ID e refl (spelt_at 20 refl e refl))
      (λ h. next_of 21 w.code h (λ e. name_by 21 STRING e refl (spelt_at 21 refl e refl))
      (λ h. next_of 22 w.code h (λ e. name_by 22 INDEXED e refl (spelt_at 22 refl e refl))
      (λ h. let e : w.code ≡ 23 = omega (arith, h, hi) in name_by 23 JOIN_KW e refl (spelt_at 23 refl e refl))))

  -- ── with any number of children ──
  pub names_shape : w.code ≡ node_names → Shaped (some_of a_name) w.kids
  unfolding code_says if_so both
  names_shape e = as_shape (at_code node_names w.node e).1

  pub names_spelt : w.code ≡ node_names → Spelt (piece_at w) 12 (parted (tok DOT) (P w.kids))
  unfolding formed forms pick both plain_detail node_str ◌!◌
  names_spelt e = spelt_at node_names refl e refl

  pub using_shape : w.code ≡ node_using → Shaped (some_of a_name) w.kids
  unfolding code_says if_so both
  using_shape e = as_shape (at_code node_using w.node e).1

  pub using_spelt : w.code ≡ node_using → Spelt (piece_at w) 0 (tok USING ∷ within (parted (tok COMMA) (P w.kids)))
  unfolding formed forms pick both plain_detail node_str ◌!◌
  using_spelt e = spelt_at node_using refl e refl

  pub values_shape : w.code ≡ node_values → Shaped (some_of (list_of an_expr)) w.kids
  unfolding code_says if_so both
  values_shape e = as_shape (at_code node_values w.node e).1

  pub values_spelt : w.code ≡ node_values → Spelt (piece_at w) 0 (tok VALUES ∷ rows (P w.kids))
  unfolding formed forms pick both plain_detail node_str ◌!◌
  values_spelt e = spelt_at node_values refl e refl

  pub from_shape : w.code ≡ node_from → Shaped (a_source ▸ many_of a_join) w.kids
  unfolding code_says if_so both
  from_shape e = as_shape (at_code node_from w.node e).1

  pub from_spelt : w.code ≡ node_from → Spelt (piece_at w) 0 (tok FROM ∷ joined (P w.kids))
  unfolding formed forms pick both plain_detail node_str ◌!◌
  from_spelt e = spelt_at node_from refl e refl

  pub list_spelt : w.code ≡ node_list → Spelt (piece_at w) 0 (parted (tok COMMA) (P w.kids))
  unfolding formed forms pick both plain_detail node_str ◌!◌
  list_spelt e = spelt_at node_list refl e refl

  -- ── calls ──
  pub call_spelt : {X : Class} → w.code ≡ node_call → (k : Kids2 (must a_name) (must X) N (i - 1) w.kids)
      → Spelt (piece_at w) 12 ((piece_at k.first).toks ++ within (choose (eqb w.detail 2) (tok STAR ∷ []) (choose (eqb w.detail 1) (tok DISTINCT ∷ []) [] ++ (piece_at k.second).toks)))
  unfolding formed forms pick both plain_detail node_str ◌!◌
  call_spelt e k = spelt_at node_call refl e k.written

  pub call_line : w.code ≡ node_call → CallLine w.detail w.shape
  unfolding code_says if_so both
  call_line e = at_code node_call w.node e

-- arguments, or STAR
pub data CallKids {C : Class} {N : List ℕ} {i : ℕ} (w : Whole C N i) : Type 0 where
  call_args : w.detail ≤ 1 → Kids2 (must a_name) (must (any_of an_expr)) N (i - 1) w.kids → CallKids w
  call_star : w.detail ≡ 2 → Kids2 (must a_name) (must empty_list) N (i - 1) w.kids → CallKids w

pub call_kids : {C : Class} {N : List ℕ} {i : ℕ} (w : Whole C N i) → w.code ≡ node_call → CallKids w
call_kids {C} {N} {i} w e = go (call_line w e)
  where
    go : CallLine w.detail w.shape → CallKids w
    go (with_list h same) = call_args h (kids2 (must a_name) (must (any_of an_expr)) (as_shape w same) (kids_stand w))
    go (with_star h same) = call_star h (kids2 (must a_name) (must empty_list) (as_shape w same) (kids_stand w))

module _ {C : Class} {N : List ℕ} {i : ℕ} (w : Whole C N i) where
  pub call_star_spelt : {X : Class} → w.code ≡ node_call → w.detail ≡ 2 → (k : Kids2 (must a_name) (must X) N (i - 1) w.kids) → Spelt (piece_at w) 12 ((piece_at k.first).toks ++ within (tok STAR ∷ []))
  unfolding choose
  call_star_spelt e d k = re_spelt (call_spelt w e k) (ap (λ b. (piece_at k.first).toks ++ within (choose b (tok STAR ∷ []) (choose (eqb w.detail 1) (tok DISTINCT ∷ []) [] ++ (piece_at k.second).toks))) (eqb-true w.detail 2 d))

  pub call_args_spelt : {X : Class} → w.code ≡ node_call → (w.detail ≡ 2 → ⊥) → (k : Kids2 (must a_name) (must X) N (i - 1) w.kids)
      → Spelt (piece_at w) 12 ((piece_at k.first).toks ++ within (choose (eqb w.detail 1) (tok DISTINCT ∷ []) [] ++ (piece_at k.second).toks))
  unfolding choose
  call_args_spelt e d k = re_spelt (call_spelt w e k) (ap (λ b. (piece_at k.first).toks ++ within (choose b (tok STAR ∷ []) (choose (eqb w.detail 1) (tok DISTINCT ∷ []) [] ++ (piece_at k.second).toks))) (differs w.detail 2 d))

-- ── COMMA, or words and JOIN ──
pub join_comma : {d : ℕ} → Joining d → d < 64 → join_of d ≡ tok COMMA ∷ []
unfolding join_of choose
join_comma (by_comma e) h = rw e refl
join_comma (by_words f l e) h = absurd (omega (arith, e, h))

pub join_flags : {d : ℕ} → Joining d → 64 ≤ d → legal (d - 64) ≡ true
join_flags (by_comma e) h = absurd (omega (arith, e, h))
join_flags {d} (by_words f l e) h = ap legal (let q : d - 64 ≡ f = omega (arith, e) in q) ∙ l

pub join_worded : (d : ℕ) → 64 ≤ d → join_of d ≡ join_words (words_of (fewest_of (d - 64))) ++ (tok JOIN ∷ [])
unfolding join_of choose
join_worded d h = ap (λ b. choose b (tok COMMA ∷ []) (join_words (words_of (fewest_of (d - 64))) ++ (tok JOIN ∷ []))) (differs d 0 (λ e. absurd (omega (arith, e, h))))

-- ── parentheses ──
pub parens_shape : {C : Class} {N : List ℕ} {i : ℕ} (w : Whole C N i) → w.code ≡ node_parens → Shaped (some_of an_expr) w.kids
unfolding code_says if_so both
parens_shape w e = as_shape w (at_code node_parens w.node e).1

pub parens_some : {C : Class} {N : List ℕ} {i : ℕ} (w : Whole C N i) → w.code ≡ node_parens → 0 < count w.kids
parens_some w e = some_counted (parens_shape w e)

one_kid : {C : Class} {ks : Nodes} → Shaped (some_of C) ks → count ks ≡ 1 → Shaped (C ▸ fin) ks
unfolding count
one_kid (shaped_next n s shaped_none) e = shaped_next n s shaped_end
one_kid (shaped_next n s (shaped_more (shaped_next n' s' r))) e = absurd (omega (arith, e))

one_piece : {C : Class} {ks : Nodes} {p : Piece} (d : ℕ) → Shaped (C ▸ fin) ks → P ks ≡ p ∷ [] → piece_of node_parens d ks ≡ p
unfolding ◌!◌
one_piece d (shaped_next {c = a} {d = b} {ks = x} n s shaped_end) e = unwrapped_piece d a b x ∙ ap (λ z. z ! 0) (sym (P_node a b x end) ∙ e)

-- "each one-child code 33 replaced by its child"
pub parens_one : {C : Class} {N : List ℕ} {i : ℕ} (w : Whole C N i) → w.code ≡ node_parens → count w.kids ≡ 1 → (k : Whole an_expr N (i - 1)) × (piece_at w ≡ piece_at k)
parens_one w e one =
    let k = kids1 (must an_expr) (one_kid (parens_shape w e) one) (kids_stand w) in
    (k.first, ap (λ z. piece_of z w.detail w.kids) e ∙ one_piece w.detail (one_kid (parens_shape w e) one) k.written)

more_pieces : {C : Class} {ks : Nodes} (d : ℕ) → Shaped (some_of C) ks → 1 < count ks → piece_of node_parens d ks ≡ piece node_parens d (P ks)
unfolding count
more_pieces d (shaped_next n s shaped_none) h = absurd (omega (arith, h))
more_pieces d (shaped_next {c = a} {d = b} {ks = x} n s (shaped_more (shaped_next {c = a'} {d = b'} {ks = x'} {ns = r} n' s' t))) h = more_piece d a b x a' b' x' r

pub parens_spelt : {C : Class} {N : List ℕ} {i : ℕ} (w : Whole C N i) → w.code ≡ node_parens → 1 < count w.kids → Spelt (piece_at w) 12 (within (parted (tok COMMA) (P w.kids)))
unfolding formed forms pick both node_str piece
parens_spelt w e more =
    let q = ap (λ z. piece_of z w.detail w.kids) e ∙ more_pieces w.detail (parens_shape w e) more in
    record { str = ap (λ z. z.str) q; toks = ap (λ z. z.toks) q }

-- ── what is there: its piece has a code too ──
first_node : {C : Class} {R : Shape} {a b : ℕ} {x ns : Nodes} → Shaped (C ▸ R) (mk a b x ns) → (S : Shape) × Node C a b S × Shaped S x
first_node (shaped_next {S = S} n s r) = (S, n, s)

piece_code : (c d : ℕ) (ks : Nodes) → eqb c node_parens ≡ false → (piece_of c d ks).code ≡ c
unfolding piece
piece_code c d ks e = ap (λ z. z.code) (plain_piece c d ks e)

more_code : (d : ℕ) (ks : Nodes) → Shaped (some_of an_expr) ks → 1 < count ks → (piece_of node_parens d ks).code ≡ node_parens
unfolding piece
more_code d ks h more = ap (λ z. z.code) (more_pieces d h more)

there_code : {C : Class} {S : Shape} {c d : ℕ} (ks : Nodes) → is_there C ≡ true → Node C c d S → Shaped S ks → 0 < (piece_of c d ks).code
unfolding code_says if_so both count
there_code {C} {S} {c} {d} end p n s =
    by_bool (eqb c node_parens) (λ e. absurd (no_members_not (subst (λ z. Shaped z end) (at_code node_parens n (eqb_eq c node_parens e)).1 s)))
    (λ e. subst (λ z. 0 < z) (sym (piece_code c d end e)) (node_present n p))
  where
    no_members_not : Shaped (some_of an_expr) end → ⊥
    no_members_not h = let k = some_counted h in absurd (omega (arith, k))
there_code {C} {S} {c} {d} (mk a b x end) p n s =
    by_bool (eqb c node_parens)
    (λ e. let q = first_node (subst (λ z. Shaped z (mk a b x end)) (at_code node_parens n (eqb_eq c node_parens e)).1 s) in
    subst (λ z. 0 < z.code) (sym (ap (λ z. piece_of z d (mk a b x end)) (eqb_eq c node_parens e) ∙ unwrapped_piece d a b x)) (there_code {C = an_expr} x refl q.1 q.2))
    (λ e. subst (λ z. 0 < z) (sym (piece_code c d (mk a b x end) e)) (node_present n p))
there_code {C} {S} {c} {d} (mk a b x (mk a' b' x' r)) p n s =
    by_bool (eqb c node_parens)
    (λ e. let h = more_code d (mk a b x (mk a' b' x' r)) (subst (λ z. Shaped z (mk a b x (mk a' b' x' r))) (at_code node_parens n (eqb_eq c node_parens e)).1 s) (omega arith) in
    let g = ap (λ z. (piece_of z d (mk a b x (mk a' b' x' r))).code) (eqb_eq c node_parens e) in omega (arith, g, h))
    (λ e. subst (λ z. 0 < z) (sym (piece_code c d (mk a b x (mk a' b' x' r)) e)) (node_present n p))

pub piece_there : {C : Class} {N : List ℕ} {i : ℕ} → is_there C ≡ true → (w : Whole C N i) → eqb (piece_at w).code node_absent ≡ false
piece_there p w = by_bool (eqb (piece_at w).code node_absent) (λ e. let a = eqb_eq (piece_at w).code node_absent e in let h = there_code w.kids p w.node w.shaped in absurd (omega (arith, a, h))) (λ e. e)

-- words before what is there, and before what is not
pub after_here : {C : Class} {N : List ℕ} {i : ℕ} (ws : List Tok) → is_there C ≡ true → (w : Whole C N i) → after ws (piece_at w) ≡ ws ++ (piece_at w).toks
unfolding after choose
after_here ws p w = ap (λ b. choose b [] (ws ++ (piece_at w).toks)) (piece_there p w)

pub after_gone : {N : List ℕ} {i : ℕ} (ws : List Tok) (w : Whole absence N i) → after ws (piece_at w) ≡ []
unfolding after choose
after_gone ws w = ap (after ws) (absent_piece w)

pub toks_gone : {N : List ℕ} {i : ℕ} (w : Whole absence N i) → (piece_at w).toks ≡ []
toks_gone w = ap (λ z. z.toks) (absent_piece w)

-- a place that asks for nothing
pub at_zero : (p : Piece) → at 0 p ≡ p.toks
at_zero p = at_fits 0 p (omega arith)

-- ── the codes of a class ──
module _ {N : List ℕ} {i : ℕ} where
  pub query_is : (w : Whole a_query N i) → w.code ≡ node_query
  query_is w = go w.node
    where
      go : {c d : ℕ} {S : Shape} → Node a_query c d S → c ≡ node_query
      go (query_node e h) = e

  pub body_is : (w : Whole a_body N i) → (w.code ≡ node_select) ⊎ (w.code ≡ node_values)
  body_is w = go w.node
    where
      go : {c d : ℕ} {S : Shape} → Node a_body c d S → (c ≡ node_select) ⊎ (c ≡ node_values)
      go (select_node e h) = inl e
      go (values_node e h) = inr e

  pub from_is : (w : Whole a_from N i) → w.code ≡ node_from
  from_is w = go w.node
    where
      go : {c d : ℕ} {S : Shape} → Node a_from c d S → c ≡ node_from
      go (from_node e h) = e

  pub join_is : (w : Whole a_join N i) → w.code ≡ node_join
  join_is w = go w.node
    where
      go : {c d : ℕ} {S : Shape} → Node a_join c d S → c ≡ node_join
      go (join_node e h) = e

  pub constraint_is : (w : Whole a_constraint N i) → (w.code ≡ node_on) ⊎ (w.code ≡ node_using)
  constraint_is w = go w.node
    where
      go : {c d : ℕ} {S : Shape} → Node a_constraint c d S → (c ≡ node_on) ⊎ (c ≡ node_using)
      go (on_node e h) = inl e
      go (using_node e h) = inr e

  pub source_is : (w : Whole a_source N i) → (w.code ≡ node_table) ⊎ (w.code ≡ node_query_source)
  source_is w = go w.node
    where
      go : {c d : ℕ} {S : Shape} → Node a_source c d S → (c ≡ node_table) ⊎ (c ≡ node_query_source)
      go (table_node m b e h x y) = inl e
      go (source_node e h) = inr e

  pub sort_is : (w : Whole a_sort N i) → w.code ≡ node_sort
  sort_is w = go w.node
    where
      go : {c d : ℕ} {S : Shape} → Node a_sort c d S → c ≡ node_sort
      go (sort_node m b e h x y) = e

  pub column_range : (w : Whole a_column N i) → (node_star ≤ w.code) × (w.code ≤ node_column)
  column_range w = go w.node
    where
      go : {c d : ℕ} {S : Shape} → Node a_column c d S → (node_star ≤ c) × (c ≤ node_column)
      go (star_node e h) = (omega (arith, e), omega (arith, e))
      go (name_star_node e h) = (omega (arith, e), omega (arith, e))
      go (column_node e h) = (omega (arith, e), omega (arith, e))

  pub name_range : (w : Whole a_name N i) → (node_id ≤ w.code) × (w.code ≤ node_join_name)
  name_range w = go w.node
    where
      go : {c d : ℕ} {S : Shape} → Node a_name c d S → (node_id ≤ c) × (c ≤ node_join_name)
      go (name_node lo hi) = (lo, hi)

  pub expr_range : (w : Whole an_expr N i) → (node_integer ≤ w.code) × (w.code ≤ node_collate)
  expr_range w = go w.node
    where
      go : {c d : ℕ} {S : Shape} → Node an_expr c d S → (node_integer ≤ c) × (c ≤ node_collate)
      go (literal_node lo hi z) = (lo, omega (arith, hi))
      go (names_node e h) = (omega (arith, e), omega (arith, e))
      go (call_node e h) = (omega (arith, e), omega (arith, e))
      go (star_call_node e h) = (omega (arith, e), omega (arith, e))
      go (parens_node e h) = (omega (arith, e), omega (arith, e))
      go (subquery_node e h) = (omega (arith, e), omega (arith, e))
      go (exists_node e h) = (omega (arith, e), omega (arith, e))
      go (case_node e h) = (omega (arith, e), omega (arith, e))
      go (cast_node e h) = (omega (arith, e), omega (arith, e))
      go (prefix_node e h) = (omega (arith, e), omega (arith, e))
      go (binary_node e h) = (omega (arith, e), omega (arith, e))
      go (null_node e h) = (omega (arith, e), omega (arith, e))
      go (in_list_node e h) = (omega (arith, e), omega (arith, e))
      go (in_query_node e h) = (omega (arith, e), omega (arith, e))
      go (between_node e h) = (omega (arith, e), omega (arith, e))
      go (collate_node e h) = (omega (arith, e), omega (arith, e))

  pub list_is : {D : Class} (w : Whole (list_of D) N i) → (w.code ≡ node_list) × Shaped (some_of D) w.kids
  list_is {D} w = go w.node w.shaped
    where
      go : {c d : ℕ} {S : Shape} {ks : Nodes} → Node (list_of D) c d S → Shaped S ks → (c ≡ node_list) × Shaped (some_of D) ks
      go (list_node e h) s = (e, s)

  pub any_is : {D : Class} (w : Whole (any_of D) N i) → (w.code ≡ node_list) × Shaped (many_of D) w.kids
  any_is {D} w = go w.node w.shaped
    where
      go : {c d : ℕ} {S : Shape} {ks : Nodes} → Node (any_of D) c d S → Shaped S ks → (c ≡ node_list) × Shaped (many_of D) ks
      go (any_node e h) s = (e, s)

  pub name_spelt : (w : Whole a_name N i) → Spelt (piece_at w) 0 (toktext (name_kind w.code) w.detail ∷ [])
  name_spelt w = named_spelt w (name_range w).0 (name_range w).1

-- ── strengths: by the code and the detail of a node that is no one-member parentheses ──
plain_str : (c d : ℕ) → node_str c (plain_detail c d) ≡ node_str c d
unfolding node_str plain_detail pick both
plain_str c d =
    test 2 (λ e. rw (eqb_eq c 2 e) refl) (λ a. test 7 (λ e. rw (eqb_eq c 7 e) refl) (λ b. test 12 (λ e. rw (eqb_eq c 12 e) refl) (λ f. test 13 (λ e. rw (eqb_eq c 13 e) refl) (λ g. test 14 (λ e. rw (eqb_eq c 14 e) refl) (λ h. rw (a, b, f, g, h) refl)))))
  where
    test : {Q : Type 0} (k : ℕ) → (eqb c k ≡ true → Q) → (eqb c k ≡ false → Q) → Q
    test k f g = by_bool (eqb c k) f g

pub str_at : {C : Class} {N : List ℕ} {i : ℕ} (w : Whole C N i) → (w.code ≡ node_parens → 1 < count w.kids) → (piece_at w).str ≡ node_str w.code w.detail
unfolding piece node_str pick both
str_at w h =
    by_bool (eqb w.code node_parens) (λ e. let q = eqb_eq w.code node_parens e in (parens_spelt w q (h q)).str ∙ ap (λ z. node_str z w.detail) (sym q))
    (λ e. ap (λ z. z.str) (plain_piece w.code w.detail w.kids e) ∙ plain_str w.code w.detail)

module _ (c d : ℕ) where
  pub str_prefix : c ≡ node_prefix → node_str c d ≡ prefix_of d
  unfolding node_str pick both
  str_prefix e = rw e refl

  pub str_binary : c ≡ node_binary → node_str c d ≡ binary_str d
  unfolding node_str pick both
  str_binary e = rw e refl

  pub str_collate : c ≡ node_collate → node_str c d ≡ 10
  unfolding node_str pick both
  str_collate e = rw e refl

  pub str_test : node_null_test ≤ c → c ≤ node_between → node_str c d ≡ 4
  unfolding node_str pick both
  str_test lo hi = rw (differs c 38 (λ e. absurd (omega (arith, e, lo))), differs c 39 (λ e. absurd (omega (arith, e, lo))), le-leb 40 c lo, le-leb c 43 hi) refl

  pub str_operand : node_integer ≤ c → c ≤ node_cast → node_str c d ≡ 12
  unfolding node_str pick both
  str_operand lo hi = rw (differs c 38 (λ e. absurd (omega (arith, e, hi))), differs c 39 (λ e. absurd (omega (arith, e, hi))), lt-leb 40 c (omega (arith, hi)), differs c 44 (λ e. absurd (omega (arith, e, hi))), le-leb 24 c lo, le-leb c 37 hi) refl

  pub str_none : c < node_integer → node_str c d ≡ 0
  unfolding node_str pick both
  str_none hi = rw (differs c 38 (λ e. absurd (omega (arith, e, hi))), differs c 39 (λ e. absurd (omega (arith, e, hi))), lt-leb 40 c (omega (arith, hi)), differs c 44 (λ e. absurd (omega (arith, e, hi))), lt-leb 24 c hi) refl

-- ( query ), ( expressions ) and EXISTS ( query ) mean what the grammar says. Assumes nothing.
use mathlib.Core.Bool.{true, false}
use mathlib.Core.List.{List, [], ◌∷◌, ◌++◌}
use mathlib.Core.Logic.{◌⊎◌, inl, inr}
use mathlib.Core.Option.{some, none}
use mathlib.Core.Path.{◌≡◌, refl, sym, ap, ◌∙◌}
use Prim.Native.Nat.{ℕ, ◌+◌, ◌≤◌, suc}
use borrow.Author.Tests.{eqb-false}
use lib.Dec.{eqb, leb}
use native.Mathlib.Omega.{arith}
use Rattle.theory.specs.Trees.{Tok, lit, nt, Row, Tree, nil, add, leaf, node, cap_of}
use Rattle.theory.specs.Table.{pick, both, mem, enter_of, cont_of, null_of}
use Rattle.theory.proofs.Cases.{by_bool, 0≢1, both_l, both_r, both_i, eqb_eq, leb_le, le-leb}
use Rattle.kinds.specs.Kinds.{LP, RP, SELECT, VALUES}
use Rattle.grammar.specs.Classes.{Query, Paren, any}
use Rattle.grammar.specs.RowNames.{row_select, row_values, row_parens, row_exists}
use Rattle.grammar.specs.NodeNames.{node_parens, node_subquery, node_exists}
use Rattle.grammar.specs.Rows.{part, select_items, values_items}
use Rattle.grammar.specs.Grammar.{sql}
use Rattle.grammar.specs.Nodes.{count, beside, Rec}
use Rattle.grammar.specs.Reading.{Val, empty, side, one, choose, is_query_val, value, ◌#◌}
use Rattle.descent.proofs.Places.{kind_at, tok_at, wrong, OpenRow}
use Rattle.descent.proofs.Named.{parens_row, exists_row, own}
use Rattle.descent.proofs.Walk.{over, κ, expr_w, list_w, sub_w, query_w}
use Rattle.descent.proofs.Grown.{recs}
use Rattle.descent.proofs.Steps.{nt_got, nt_refused, lit_got, lit_wrong, row_stop}
use Rattle.descent.proofs.ClassFacts.{out, none_of_2, firsts_Query, Query_at_SELECT, Query_at_VALUES, Query_may, Paren_at_SELECT, Paren_at_VALUES, Paren_may}
use Rattle.descent.proofs.Rules.{known, value_parens, value_exists}
use Rattle.descent.proofs.Means.{Single, plain_code, Good, HostOK, ParenOK, ExistsOK, BracketedOK, QueryOK}
use Rattle.descent.proofs.Common.{told_bind, told_map, told_choose, told_stop, no_word}
use Rattle.descent.proofs.NoTails.{plain_classes, ends}
use Rattle.descent.proofs.Sides.{single_count}
use Rattle.descent.proofs.Tails.{shut_tail}
use Rattle.descent.proofs.Values.{recs_all_1, count_1, is_one, plain_no_query, query_val}
use Rattle.descent.proofs.OperandRow.{row_ok, close_told}
use Rattle.descent.proofs.Hosts.{paren_host}

-- a class in which a query stands alone
record Quoted (C : ℕ) : Type 0 where
  select : enter_of sql (any C) SELECT ≡ some (part row_select (select_items ++ []))
  vals : enter_of sql (any C) VALUES ≡ some (part row_values (values_items ++ []))
  ends : (r : Row) (m k : ℕ) → r.str ≡ 0 → cont_of sql (any C) r m k ≡ none

query_quoted : Quoted Query
unfolding select_items values_items plain_classes mem pick
query_quoted = record { select = Query_at_SELECT; vals = Query_at_VALUES; ends = λ r m k z. ends Query refl r m k }

paren_quoted : Quoted Paren
unfolding select_items values_items
paren_quoted = record { select = Paren_at_SELECT; vals = Paren_at_VALUES; ends = λ r m k z. shut_tail (any Paren) paren_host.among r m k (omega (arith, z)) }

module _ (K T : List ℕ) (good : Good K T) (f : ℕ) where
  pub bracketed_ok : QueryOK K T f → BracketedOK K T (suc f)
  unfolding expr_w
  bracketed_ok ok at c code C F k w e j = told_bind (query_w K T f at c) _
      (ok at c (any C) [] (quoted w).select (quoted w).vals (wrong_there w))
      (λ a x n rs p. let first = nt_got K T good.sound F (any C) (lit RP ∷ []) k at (rw e (p.2 ∙ row_stop K T good.sound (record { c = c; A = any C; r = p.0; l = nil; t = tok_at K T at }) p.1 a
      ((quoted w).ends p.0 (cap_of p.1) (kind_at K a) p.4))) in
      close_told K T a code 0 1 rs
      (λ z. (
        node p.0 nil (tok_at K T at) p.1,
        tok_at K T a,
        first ∙ lit_got K T good.sound F RP [] (add k (node p.0 nil (tok_at K T at) p.1)) a (omega arith) z (no_word F.c F.r F.l F.t _ _ j),
        query_val p.0 (tok_at K T at) p.1 p.3,
        p.7.single,
        refl,
        ap (λ z. over code 0 1 0 z) (sym p.7.records),
      ))
      (λ z. first ∙ lit_wrong K T good.sound F RP [] (add k (node p.0 nil (tok_at K T at) p.1)) a (omega arith) z))
      (λ m p q. nt_refused K T good.sound F (any C) (lit RP ∷ []) k at (rw e q))
    where
      quoted : (C ≡ Query) ⊎ ((C ≡ Paren) × ((κ K T at ≡ SELECT) ⊎ (κ K T at ≡ VALUES))) → Quoted C
      quoted (inl e) = rw e query_quoted
      quoted (inr e) = rw e.0 paren_quoted

      wrong_there : (C ≡ Query) ⊎ ((C ≡ Paren) × ((κ K T at ≡ SELECT) ⊎ (κ K T at ≡ VALUES))) → (κ K T at ≡ SELECT → ⊥) → (κ K T at ≡ VALUES → ⊥)
          → (enter_of sql (any C) (κ K T at) ≡ none) × (null_of sql (any C) ≡ false)
      wrong_there (inl e) a b = rw e (out Query (κ K T at) (rw firsts_Query (none_of_2 a b)), Query_may)
      wrong_there (inr (e, inl z)) a b = absurd (a z)
      wrong_there (inr (e, inr z)) a b = absurd (b z)

-- ── the nodes ──
value_in_parens : (t : Tok) (y : Tree) (w : Tok) → value (node parens_row nil t (add (add nil y) (leaf w))) ≡ known row_parens (one (choose (is_query_val (value y)) node_subquery node_parens) 0 (value y ∷ []))
unfolding value ◌#◌ side beside
value_in_parens t y w = value_parens (value nil) t (value y ∷ empty ∷ [])

value_in_exists : (t u : Tok) (y : Tree) (w : Tok) → value (node exists_row nil t (add (add (add nil (leaf u)) y) (leaf w))) ≡ known row_exists (one node_exists 0 (value y ∷ []))
unfolding value ◌#◌ side beside
value_in_exists t u y w = value_exists (value nil) t (empty ∷ value y ∷ empty ∷ [])

is_parens : (t : Tok) (y : Tree) (w : Tok) (code n : ℕ) (rs : List Rec) → choose (is_query_val (value y)) node_subquery node_parens ≡ code → rs ≡ recs (value y) → n ≡ count (value y).nodes
    → ((value (node parens_row nil t (add (add nil y) (leaf w)))).num ≡ 0) × Single (value (node parens_row nil t (add (add nil y) (leaf w)))).nodes
    × (over code 0 n 0 rs ≡ recs (value (node parens_row nil t (add (add nil y) (leaf w)))))
is_parens t y w code n rs e a b = is_one _ row_parens code 0 n (value y ∷ []) rs (value_in_parens t y w ∙ rw e) (a ∙ sym (recs_all_1 (value y))) (b ∙ sym (count_1 (value y)))

query_code : (v : Val) → is_query_val v ≡ true → choose (is_query_val v) node_subquery node_parens ≡ node_subquery
unfolding choose
query_code v e = rw e

exprs_code : (v : Val) → plain_code v.row ≡ true → choose (is_query_val v) node_subquery node_parens ≡ node_parens
unfolding choose
exprs_code v e = rw (plain_no_query v.row e)

no_query_kind : (k : ℕ) → both (leb SELECT k) (leb k VALUES) ≡ false → mem k (own Paren) ≡ false
unfolding own pick
no_query_kind k z = none_of_2 (λ e. 0≢1 (sym z ∙ both_i _ _ (le-leb SELECT k (omega (arith, e))) (le-leb k VALUES (omega (arith, e)))))
    (λ e. 0≢1 (sym z ∙ both_i _ _ (le-leb SELECT k (omega (arith, e))) (le-leb k VALUES (omega (arith, e)))))

one_of_two : (k : ℕ) → SELECT ≤ k → k ≤ VALUES → (k ≡ SELECT) ⊎ (k ≡ VALUES)
one_of_two k a b = by_bool (eqb k SELECT) (λ z. inl (eqb_eq k SELECT z)) (λ z. let w = eqb-false k SELECT z in inr (omega (arith, a, b, w)))

module _ (K T : List ℕ) (good : Good K T) (f : ℕ) where
  pub paren_ok : BracketedOK K T f → HostOK K T f → ParenOK K T (suc f)
  unfolding expr_w own mem pick cap_of
  paren_ok bracketed host = row_ok K T parens_row _ (λ at c d A t e. let F : OpenRow = record { c = d; A = A; r = parens_row; l = nil; t = t } in
      told_choose (both (leb SELECT (kind_at K at)) (leb (kind_at K at) VALUES)) _ _
      (λ z. told_map (sub_w K T f at c 34) (bracketed at c 34 Paren F nil (inr (refl, one_of_two (kind_at K at) (leb_le SELECT (kind_at K at) (both_l _ _ z)) (leb_le (kind_at K at) VALUES (both_r _ _ z)))) e refl)
      (λ a s m rs q. let v = is_parens t q.0 q.1 node_subquery 1 (recs (value q.0)) (query_code (value q.0) q.3) refl (sym (single_count (value q.0).nodes q.4)) in
      (add (add nil q.0) (leaf q.1), q.2, q.5, omega arith, v.0, v.1, q.6 ∙ v.2)) (λ m p q. q))
      (λ z. told_bind (list_w K T f at c 0) _ (host at c Paren F nil refl (no_query_kind (kind_at K at) z) (λ z. 0≢1 (sym Paren_may ∙ z)) e refl)
      (λ a s n rs q. let v = is_parens t q.0 (tok_at K T a) node_parens n rs (exprs_code (value q.0) q.2) q.5 q.3 in
      close_told K T a 33 0 n rs
      (λ z. (add (add nil q.0) (leaf (tok_at K T a)), q.1 ∙ lit_got K T good.sound F RP [] (add nil q.0) a (omega arith) z (no_word d parens_row nil t _ _ refl), refl, omega arith, v.0, v.1, v.2))
      (λ z. q.1 ∙ lit_wrong K T good.sound F RP [] (add nil q.0) a (omega arith) z))
      (λ m p q. q)))

  pub exists_ok : BracketedOK K T f → ExistsOK K T (suc f)
  unfolding expr_w mem pick cap_of
  exists_ok bracketed = row_ok K T exists_row _ (λ at c d A t e. let F : OpenRow = record { c = d; A = A; r = exists_row; l = nil; t = t } in
      told_choose (eqb (kind_at K at) LP) _ _
      (λ z. let l = lit_got K T good.sound F LP (nt (any Query) ∷ lit RP ∷ []) nil at (omega arith) (eqb_eq (kind_at K at) LP z) (no_word d exists_row nil t _ _ refl) in
      told_map (sub_w K T f (at + 1) c 35) (bracketed (at + 1) c 35 Query F (add nil (leaf (tok_at K T at))) (inl refl) e refl)
      (λ a s m rs q. let v = is_one _ row_exists node_exists 0 1 (value q.0 ∷ []) (recs (value q.0)) (value_in_exists t (tok_at K T at) q.0 q.1) (sym (recs_all_1 (value q.0)))
      (sym (count_1 (value q.0) ∙ single_count (value q.0).nodes q.4)) in
      (add (add (add nil (leaf (tok_at K T at))) q.0) (leaf q.1), l ∙ q.2, q.5, omega arith, v.0, v.1, q.6 ∙ v.2))
      (λ m p q. l ∙ q))
      (λ z. told_stop (wrong (kind_at K at)) at (lit_wrong K T good.sound F LP (nt (any Query) ∷ lit RP ∷ []) nil at (omega arith) (eqb-false (kind_at K at) LP z))))

-- The walk of a query ends. Assumes nothing.
use mathlib.Core.Bool.{true}
use mathlib.Core.List.{List, [], ◌∷◌}
use mathlib.Core.Path.{◌≡◌}
use Prim.Native.Nat.{ℕ, ◌+◌, ◌<◌, suc}
use lib.Dec.{ltb, eqb, leb}
use lib.ListN.{length}
use native.Mathlib.Omega.{arith}
use Rattle.theory.specs.Table.{pick, both, mem}
use Rattle.theory.proofs.Cases.{0≢1}
use Rattle.kinds.specs.Kinds.{JOIN_KW, RP, LP, COMMA, STAR, SELECT, VALUES, DISTINCT, ALL, FROM, JOIN, ON, USING, WHERE, GROUP, BY, HAVING, ORDER, LIMIT, OFFSET}
use Rattle.grammar.specs.Limits.{Around}
use Rattle.grammar.specs.Sizes.{QUERIES}
use Rattle.descent.proofs.Walk.{not_b, opening, κ, alias_w, way_w, joined_w, expr_w, list_w, query_w, body_w, tail_w, rows_w, row_w, select_w, selected_w, parts_w, clause_w, group_w, cols_w, col_w, from_w, joins_w, on_w, source_w, sort_w, terms_w, limit_w}
use Rattle.shapes.proofs.Ends.{Ends, ends_bind, ends_onto, ends_from, ends_choose, ends_done, ends_stop}
use Rattle.shapes.proofs.EndParts.{Enough, some_kind, token_at, alias_ends, table_ends, lent_ends, way_ends, joined_ends, using_ends}
use Rattle.shapes.proofs.Ending.{Ending}

-- a join's first kind is one
joins_some : (k : ℕ) → mem k (COMMA ∷ JOIN ∷ JOIN_KW ∷ []) ≡ true → k ≡ 0 → ⊥
unfolding mem pick
joins_some k e z = 0≢1 (rw z at e)

module _ (K T : List ℕ) (f : ℕ) (all : Ending K T f) where
  -- ── columns and clauses ──
  pub col_ends : (at : ℕ) (c : Around) → Enough K (suc f) at 3 → Ends at (col_w K T (suc f) at c)
  unfolding expr_w
  col_ends at c h = ends_choose (eqb (κ K T at) STAR) _ _ (λ z. ends_done (at + 1) 0 0 _ (omega arith))
      (λ z. ends_bind (expr_w K T f at c 0) _ (all.expr at c 0 (omega (arith, h)))
      (λ a said n rs g. ends_choose (eqb said 0) _ _ (λ y. ends_done a said n rs g) (λ y. ends_bind (alias_w K T a) _ (alias_ends K T a) (λ b m n qs j. ends_done b 0 0 _ (omega (arith, g, j))))))

  pub cols_end : (at : ℕ) (c : Around) (n : ℕ) → Enough K (suc f) at 4 → Ends at (cols_w K T (suc f) at c n)
  unfolding expr_w
  cols_end at c n h = ends_bind (col_w K T f at c) _ (all.col at c (omega (arith, h)))
      (λ a x m rs g. ends_choose (eqb (κ K T a) COMMA) _ _
      (λ z. let i = token_at K a COMMA (omega arith) z in ends_onto rs _ (ends_from (cols_w K T f (a + 1) c (n + 1)) (omega (arith, g)) (all.cols (a + 1) c (n + 1) (omega (arith, h, g, i)))))
      (λ z. ends_done a 0 (n + 1) rs g))

  pub clause_ends : (at word : ℕ) (c : Around) → 0 < word → Enough K (suc f) at 0 → Ends at (clause_w K T (suc f) at word c)
  unfolding expr_w
  clause_ends at word c p h = ends_choose (eqb (κ K T at) word) _ _ (λ z. let i = token_at K at word p z in ends_from (expr_w K T f (at + 1) c 1) (omega arith) (all.expr (at + 1) c 1 (omega (arith, h, i)))) (λ z. ends_done at 0 0 _ (omega arith))

  pub group_ends : (at : ℕ) (c : Around) → Enough K (suc f) at 0 → Ends at (group_w K T (suc f) at c)
  unfolding expr_w
  group_ends at c h = ends_choose (eqb (κ K T at) GROUP) _ _
      (λ z. let i = token_at K at GROUP (omega arith) z in
      ends_choose (eqb (κ K T (at + 1)) BY) _ _
      (λ y. ends_bind (list_w K T f (at + 2) c 0) _ (all.list (at + 2) c 0 (omega (arith, h, i))) (λ a x n rs g. ends_onto _ _ (ends_from (clause_w K T f a HAVING c) (omega (arith, g)) (all.clause a HAVING c (omega arith) (omega (arith, h, i, g))))))
      (λ y. ends_stop))
      (λ z. ends_choose (eqb (κ K T at) HAVING) _ _
      (λ y. let i = token_at K at HAVING (omega arith) y in ends_onto _ _ (ends_from (expr_w K T f (at + 1) c 1) (omega arith) (all.expr (at + 1) c 1 (omega (arith, h, i)))))
      (λ y. ends_done at 0 0 _ (omega arith)))

  pub parts_end : (at : ℕ) (c : Around) → Enough K (suc f) at 1 → Ends at (parts_w K T (suc f) at c)
  unfolding expr_w
  parts_end at c h = ends_bind (from_w K T f at c) _ (all.from at c (omega (arith, h)))
      (λ a x n rs g. ends_bind (clause_w K T f a WHERE c) _ (all.clause a WHERE c (omega arith) (omega (arith, h, g)))
      (λ b x m qs j. ends_onto _ _ (ends_from (group_w K T f b c) (omega (arith, g, j)) (all.group b c (omega (arith, h, g, j))))))

  pub selected_ends : (at : ℕ) (c : Around) (d : ℕ) → Enough K (suc f) at 5 → Ends at (selected_w K T (suc f) at c d)
  unfolding expr_w
  selected_ends at c d h = ends_bind (cols_w K T f at c 0) _ (all.cols at c 0 (omega (arith, h)))
      (λ a x n rs g. ends_bind (parts_w K T f a c) _ (all.parts a c (omega (arith, h, g))) (λ b x m qs j. ends_done b 0 0 _ (omega (arith, g, j))))

  pub select_ends : (at : ℕ) (c : Around) → Enough K (suc f) at 6 → Ends at (select_w K T (suc f) at c)
  unfolding expr_w
  select_ends at c h = ends_choose (eqb (κ K T at) DISTINCT) _ _ (λ z. let i = token_at K at DISTINCT (omega arith) z in ends_from _ (omega arith) (all.selected (at + 1) c 1 (omega (arith, h, i))))
      (λ z. ends_choose (eqb (κ K T at) ALL) _ _ (λ y. let i = token_at K at ALL (omega arith) y in ends_from _ (omega arith) (all.selected (at + 1) c 2 (omega (arith, h, i)))) (λ y. all.selected at c 0 (omega (arith, h))))

  -- ── FROM ──
  pub source_ends : (at : ℕ) (c : Around) → Enough K (suc f) at 0 → Ends at (source_w K T (suc f) at c)
  unfolding expr_w
  source_ends at c h = ends_choose (eqb (κ K T at) LP) _ _
      (λ z. let i = token_at K at LP (omega arith) z in ends_bind (query_w K T f (at + 1) c) _ (all.query (at + 1) c (omega (arith, h, i))) (λ a x n rs g. ends_from _ (omega (arith, g)) (lent_ends K T a rs)))
      (λ z. table_ends K T at)

  pub on_ends : (at : ℕ) (c : Around) → Enough K (suc f) at 0 → Ends at (on_w K T (suc f) at c)
  unfolding expr_w
  on_ends at c h = ends_choose (eqb (κ K T at) ON) _ _
      (λ z. let i = token_at K at ON (omega arith) z in ends_bind (expr_w K T f (at + 1) c 1) _ (all.expr (at + 1) c 1 (omega (arith, h, i))) (λ a x n rs g. ends_done a 0 0 _ (omega (arith, g))))
      (λ z. ends_choose (eqb (κ K T at) USING) _ _
      (λ y. let i = token_at K at USING (omega arith) y in ends_from _ (omega arith) (using_ends K T f (at + 1) (omega (arith, h, i))))
      (λ y. ends_done at 0 0 _ (omega arith)))

  pub joins_end : (at : ℕ) (c : Around) (n : ℕ) → Enough K (suc f) at 1 → Ends at (joins_w K T (suc f) at c n)
  unfolding expr_w
  joins_end at c n h = ends_choose (mem (κ K T at) (COMMA ∷ JOIN ∷ JOIN_KW ∷ [])) _ _
      (λ z. let i : at < length K = some_kind K at (joins_some (κ K T at) z) in
      ends_bind (joined_w K T at) _ (joined_ends K T at)
      (λ a d x os g. ends_bind (source_w K T f a c) _ (all.source a c (omega (arith, h, g)))
      (λ b x y rs j. ends_bind (on_w K T f b c) _ (all.on b c (omega (arith, h, g, j)))
      (λ e x y qs k. ends_onto _ _ (ends_from (joins_w K T f e c (n + 1)) (omega (arith, g, j, k)) (all.joins e c (n + 1) (omega (arith, h, g, j, k, i))))))))
      (λ z. ends_done at 0 n [] (omega arith))

  pub from_ends : (at : ℕ) (c : Around) → Enough K (suc f) at 0 → Ends at (from_w K T (suc f) at c)
  unfolding expr_w
  from_ends at c h = ends_choose (eqb (κ K T at) FROM) _ _
      (λ z. let i = token_at K at FROM (omega arith) z in
      ends_bind (source_w K T f (at + 1) c) _ (all.source (at + 1) c (omega (arith, h, i)))
      (λ a x n rs g. ends_bind (joins_w K T f a c 0) _ (all.joins a c 0 (omega (arith, h, i, g))) (λ b x m qs j. ends_done b 0 0 _ (omega (arith, g, j)))))
      (λ z. ends_done at 0 0 _ (omega arith))

  -- ── rows of VALUES ──
  pub row_ends : (at : ℕ) (c : Around) (width : ℕ) → Enough K (suc f) at 0 → Ends at (row_w K T (suc f) at c width)
  unfolding expr_w
  row_ends at c width h = ends_choose (eqb (κ K T at) LP) _ _
      (λ z. let i = token_at K at LP (omega arith) z in
      ends_bind (list_w K T f (at + 1) c 0) _ (all.list (at + 1) c 0 (omega (arith, h, i)))
      (λ a x n rs g. ends_choose (eqb (κ K T a) RP) _ _
      (λ y. ends_choose (both (ltb 0 width) (not_b (eqb n width))) _ _ (λ w. ends_stop) (λ w. ends_done (a + 1) 0 n _ (omega (arith, g))))
      (λ y. ends_stop)))
      (λ z. ends_stop)

  pub rows_end : (at : ℕ) (c : Around) (n width : ℕ) → Enough K (suc f) at 1 → Ends at (rows_w K T (suc f) at c n width)
  unfolding expr_w
  rows_end at c n width h = ends_bind (row_w K T f at c width) _ (all.row at c width (omega (arith, h)))
      (λ a x m rs g. ends_choose (eqb (κ K T a) COMMA) _ _
      (λ z. let i = token_at K a COMMA (omega arith) z in ends_onto rs _ (ends_from (rows_w K T f (a + 1) c (n + 1) m) (omega (arith, g)) (all.rows (a + 1) c (n + 1) m (omega (arith, h, g, i)))))
      (λ z. ends_done a 0 (n + 1) rs g))

  -- ── ORDER BY and LIMIT ──
  pub terms_end : (at : ℕ) (c : Around) (n : ℕ) → Enough K (suc f) at 3 → Ends at (terms_w K T (suc f) at c n)
  unfolding expr_w
  terms_end at c n h = ends_bind (expr_w K T f at c 1) _ (all.expr at c 1 (omega (arith, h)))
      (λ a x m rs g. ends_bind (way_w K T a) _ (way_ends K T a)
      (λ b way m os j. ends_choose (eqb (κ K T b) COMMA) _ _
      (λ z. let i = token_at K b COMMA (omega arith) z in ends_onto _ _ (ends_from (terms_w K T f (b + 1) c (n + 1)) (omega (arith, g, j)) (all.terms (b + 1) c (n + 1) (omega (arith, h, g, j, i)))))
      (λ z. ends_done b 0 (n + 1) _ (omega (arith, g, j)))))

  pub order_ends : (at : ℕ) (c : Around) → Enough K (suc f) at 0 → Ends at (sort_w K T (suc f) at c)
  unfolding expr_w
  order_ends at c h = ends_choose (eqb (κ K T at) BY) _ _
      (λ z. let i = token_at K at BY (omega arith) z in ends_bind (terms_w K T f (at + 1) c 0) _ (all.terms (at + 1) c 0 (omega (arith, h, i))) (λ a x n rs g. ends_done a 0 0 _ (omega (arith, g))))
      (λ z. ends_stop)

  pub limit_ends : (at : ℕ) (c : Around) → Enough K (suc f) at 0 → Ends at (limit_w K T (suc f) at c)
  unfolding expr_w
  limit_ends at c h = ends_choose (eqb (κ K T at) LIMIT) _ _
      (λ z. let i = token_at K at LIMIT (omega arith) z in
      ends_bind (expr_w K T f (at + 1) c 1) _ (all.expr (at + 1) c 1 (omega (arith, h, i)))
      (λ a x n rs g. ends_choose (eqb (κ K T a) OFFSET) _ _ (λ y. ends_onto rs _ (ends_from (expr_w K T f (a + 1) c 1) (omega (arith, g)) (all.expr (a + 1) c 1 (omega (arith, h, i, g)))))
      (λ y. ends_choose (eqb (κ K T a) COMMA) _ _
      (λ w. ends_bind (expr_w K T f (a + 1) c 1) _ (all.expr (a + 1) c 1 (omega (arith, h, i, g))) (λ b x m qs j. ends_done b x m _ (omega (arith, g, j))))
      (λ w. ends_done a 0 0 _ (omega (arith, g))))))
      (λ z. ends_done at 0 0 _ (omega arith))

  pub tail_ends : (at : ℕ) (c : Around) → Enough K (suc f) at 1 → Ends at (tail_w K T (suc f) at c)
  unfolding expr_w
  tail_ends at c h = ends_choose (eqb (κ K T at) ORDER) _ _
      (λ z. let i = token_at K at ORDER (omega arith) z in
      ends_bind (sort_w K T f (at + 1) c) _ (all.order (at + 1) c (omega (arith, h, i))) (λ a x n rs g. ends_onto rs _ (ends_from (limit_w K T f a c) (omega (arith, g)) (all.limit a c (omega (arith, h, g))))))
      (λ z. ends_onto _ _ (all.limit at c (omega (arith, h))))

  -- ── queries ──
  pub body_ends : (at : ℕ) (c : Around) → Enough K (suc f) at 0 → Ends at (body_w K T (suc f) at c)
  unfolding expr_w
  body_ends at c h = ends_choose (eqb (κ K T at) SELECT) _ _
      (λ z. let i = token_at K at SELECT (omega arith) z in ends_choose (leb QUERIES c.opened) _ _ (λ y. ends_stop) (λ y. ends_from _ (omega arith) (all.select (at + 1) (opening c) (omega (arith, h, i)))))
      (λ z. ends_choose (eqb (κ K T at) VALUES) _ _
      (λ y. let i = token_at K at VALUES (omega arith) y in
      ends_choose (leb QUERIES c.opened) _ _ (λ w. ends_stop)
      (λ w. ends_bind (rows_w K T f (at + 1) (opening c) 0 0) _ (all.rows (at + 1) (opening c) 0 0 (omega (arith, h, i))) (λ a x n rs g. ends_done a 0 0 _ (omega (arith, g)))))
      (λ y. ends_stop))

  pub query_ends : (at : ℕ) (c : Around) → Enough K (suc f) at 2 → Ends at (query_w K T (suc f) at c)
  unfolding expr_w
  query_ends at c h = ends_bind (body_w K T f at c) _ (all.body at c (omega (arith, h)))
      (λ a x n rs g. ends_bind (tail_w K T f a (opening c)) _ (all.tail a (opening c) (omega (arith, h, g))) (λ b x m qs j. ends_done b 0 0 _ (omega (arith, g, j))))

-- Queries: columns and clauses of SELECT, rows of VALUES, ORDER BY and LIMIT. Assumes nothing.
use mathlib.Core.List.{List, ◌++◌, append_assoc}
use mathlib.Core.Logic.{inl, inr}
use mathlib.Core.Path.{◌≡◌, refl}
use Prim.Native.Nat.{ℕ, ◌+◌, ◌≤◌, ◌<◌, suc}
use borrow.Author.Tests.{eqb-false}
use lib.Dec.{ltb, eqb, leb}
use lib.ListN.{get_or}
use native.Mathlib.Omega.{arith}
use Rattle.theory.specs.Table.{both}
use Rattle.theory.proofs.Cases.{eqb_eq}
use Rattle.kinds.specs.Kinds.{RP, LP, COMMA, STAR, SELECT, VALUES, DISTINCT, ALL, WHERE, GROUP, BY, HAVING, ORDER, LIMIT, OFFSET}
use Rattle.grammar.specs.Limits.{Around}
use Rattle.grammar.specs.Nodes.{Rec}
use Rattle.grammar.specs.Sizes.{QUERIES}
use Rattle.descent.proofs.Walk.{not_b, opening, κ, alias_w, way_w, expr_w, list_w, query_w, body_w, tail_w, rows_w, row_w, select_w, selected_w, parts_w, clause_w, group_w, cols_w, col_w, from_w, sort_w, terms_w, limit_w}
use Rattle.shapes.specs.Shape.{a_query, a_body, a_column, a_from, a_sort, an_expr, list_of, any_of, fin, ◌▸?◌, some_of, query_node, select_node, values_node, list_node, any_node, star_node, column_node}
use Rattle.shapes.proofs.Records.{Read, One, read_is, read_here, read_none, read_each, may_absent, ◌&◌, ◌&?◌, read_node, read_over, read_leaf}
use Rattle.shapes.proofs.Gives.{Gives, gives_bind, gives_onto, gives_choose, gives_done, gives_stop, gives_map}
use Rattle.shapes.proofs.Loops.{Several, several_one, several_more, gives_loop}
use Rattle.shapes.proofs.NameParts.{Exprd}
use Rattle.shapes.proofs.SourceParts.{gives_alias}
use Rattle.shapes.proofs.SortParts.{gives_way}
use Rattle.shapes.proofs.Statements.{GivesOne, GivesMay, All}
use Rattle.shapes.proofs.Operators.{expr_one, from_none}

module _ (K T : List ℕ) (bound : (n : ℕ) → get_or K n 0 < 72) (f : ℕ) (all : All K T f) where
  -- an expression
  one : (at : ℕ) (c : Around) → GivesOne an_expr (expr_w K T f at c 1)
  one at c = expr_one 1 (omega arith) (all.expr at c 1)

  -- ── columns ──
  pub col_gives : (at : ℕ) (c : Around) → GivesOne a_column (col_w K T (suc f) at c)
  unfolding expr_w
  col_gives at c = gives_choose (eqb (κ K T at) STAR) _ _ (λ z. gives_done (at + 1) 0 0 _ (read_leaf (star_node refl refl)))
      (λ z. gives_bind (expr_w K T f at c 0) _ (all.expr at c 0)
      (λ a said n rs r. gives_choose (eqb said 0) _ _ (λ y. gives_done a said n rs (starred said rs r (eqb_eq said 0 y)))
      (λ y. gives_bind (alias_w K T a) _ (gives_alias K T bound a) (λ b mode m qs q. gives_done b 0 0 _ (read_over (column_node refl q.0) (plain said rs r (eqb-false said 0 y) & q.1))))))
    where
      starred : (said : ℕ) (rs : List Rec) → Exprd 0 said rs → said ≡ 0 → One a_column rs
      starred said rs (inl r) e = absurd (omega (arith, r.0, e))
      starred said rs (inr r) e = r.2

      plain : (said : ℕ) (rs : List Rec) → Exprd 0 said rs → (said ≡ 0 → ⊥) → One an_expr rs
      plain said rs (inl r) h = r.1
      plain said rs (inr r) h = absurd (h r.0)

  pub cols_gives : (at : ℕ) (c : Around) (n : ℕ) → Gives (cols_w K T (suc f) at c n) (λ a s m rs. Several (some_of a_column) n m rs)
  unfolding expr_w
  cols_gives at c n = gives_loop K T n (col_w K T f at c) (λ a m. cols_w K T f (a + 1) c (n + 1)) (all.col at c) (λ a m. all.cols (a + 1) c (n + 1))

  -- ── clauses ──
  pub clause_gives : (at word : ℕ) (c : Around) → GivesMay an_expr (clause_w K T (suc f) at word c)
  unfolding expr_w
  clause_gives at word c = gives_choose (eqb (κ K T at) word) _ _ (λ z. gives_map (expr_w K T f (at + 1) c 1) (one (at + 1) c) (λ a s n rs r. read_here r)) (λ z. gives_done at 0 0 _ may_absent)

  pub group_gives : (at : ℕ) (c : Around) → Gives (group_w K T (suc f) at c) (λ a s n rs. Read (any_of an_expr ▸? an_expr ▸? fin) 2 rs)
  unfolding expr_w
  group_gives at c = gives_choose (eqb (κ K T at) GROUP) _ _
      (λ z. gives_choose (eqb (κ K T (at + 1)) BY) _ _
      (λ y. gives_bind (list_w K T f (at + 2) c 0) _ (all.list (at + 2) c 0)
      (λ a x n rs r. gives_onto _ (clause_w K T f a HAVING c) (all.clause a HAVING c) (λ b s m qs q. read_here (read_over (any_node refl refl) (read_each (from_none r))) &? q)))
      (λ y. gives_stop))
      (λ z. gives_choose (eqb (κ K T at) HAVING) _ _
      (λ y. gives_onto _ (expr_w K T f (at + 1) c 1) (one (at + 1) c) (λ b s m qs q. read_here (read_node (any_node refl refl) read_none refl) &? read_here q))
      (λ y. gives_done at 0 0 _ (may_absent &? may_absent)))

  pub parts_gives : (at : ℕ) (c : Around) → Gives (parts_w K T (suc f) at c) (λ a s n rs. Read (a_from ▸? an_expr ▸? any_of an_expr ▸? an_expr ▸? fin) 4 rs)
  unfolding expr_w
  parts_gives at c = gives_bind (from_w K T f at c) _ (all.from at c)
      (λ a x n rs r. gives_bind (clause_w K T f a WHERE c) _ (all.clause a WHERE c)
      (λ b x m qs q. gives_onto (rs ++ qs) (group_w K T f b c) (all.group b c) (λ d x i ps p. read_is (r &? q &? p) refl (append_assoc rs qs ps))))

  pub selected_gives : (at : ℕ) (c : Around) (d : ℕ) → d ≤ 2 → GivesOne a_body (selected_w K T (suc f) at c d)
  unfolding expr_w
  selected_gives at c d h = gives_bind (cols_w K T f at c 0) _ (all.cols at c 0)
      (λ a x n rs r. gives_bind (parts_w K T f a c) _ (all.parts a c)
      (λ b x m qs q. gives_done b 0 0 _ (read_over (select_node refl h) (read_over (list_node refl refl) (from_none r) & q))))

  pub select_gives : (at : ℕ) (c : Around) → GivesOne a_body (select_w K T (suc f) at c)
  unfolding expr_w
  select_gives at c = gives_choose (eqb (κ K T at) DISTINCT) _ _ (λ z. all.selected (at + 1) c 1 (omega arith))
      (λ z. gives_choose (eqb (κ K T at) ALL) _ _ (λ y. all.selected (at + 1) c 2 (omega arith)) (λ y. all.selected at c 0 (omega arith)))

  -- ── rows of VALUES ──
  pub row_gives : (at : ℕ) (c : Around) (width : ℕ) → GivesOne (list_of an_expr) (row_w K T (suc f) at c width)
  unfolding expr_w
  row_gives at c width = gives_choose (eqb (κ K T at) LP) _ _
      (λ z. gives_bind (list_w K T f (at + 1) c 0) _ (all.list (at + 1) c 0)
      (λ a x n rs r. gives_choose (eqb (κ K T a) RP) _ _
      (λ y. gives_choose (both (ltb 0 width) (not_b (eqb n width))) _ _ (λ w. gives_stop) (λ w. gives_done (a + 1) 0 n _ (read_over (list_node refl refl) (from_none r))))
      (λ y. gives_stop)))
      (λ z. gives_stop)

  pub rows_gives : (at : ℕ) (c : Around) (n width : ℕ) → Gives (rows_w K T (suc f) at c n width) (λ a s m rs. Several (some_of (list_of an_expr)) n m rs)
  unfolding expr_w
  rows_gives at c n width = gives_loop K T n (row_w K T f at c width) (λ a m. rows_w K T f (a + 1) c (n + 1) m) (all.row at c width) (λ a m. all.rows (a + 1) c (n + 1) m)

  -- ── ORDER BY and LIMIT ──
  pub terms_gives : (at : ℕ) (c : Around) (n : ℕ) → Gives (terms_w K T (suc f) at c n) (λ a s m rs. Several (some_of a_sort) n m rs)
  unfolding expr_w
  terms_gives at c n = gives_bind (expr_w K T f at c 1) _ (one at c)
      (λ a x m rs r. gives_bind (way_w K T a) _ (gives_way K T a)
      (λ b way m os N. gives_choose (eqb (κ K T b) COMMA) _ _
      (λ z. gives_onto _ (terms_w K T f (b + 1) c (n + 1)) (all.terms (b + 1) c (n + 1)) (λ d x i qs q. several_more (read_over N r) q))
      (λ z. gives_done b 0 (n + 1) _ (several_one (read_over N r)))))

  pub order_gives : (at : ℕ) (c : Around) → GivesOne (list_of a_sort) (sort_w K T (suc f) at c)
  unfolding expr_w
  order_gives at c = gives_choose (eqb (κ K T at) BY) _ _
      (λ z. gives_bind (terms_w K T f (at + 1) c 0) _ (all.terms (at + 1) c 0) (λ a x n rs r. gives_done a 0 0 _ (read_over (list_node refl refl) (from_none r))))
      (λ z. gives_stop)

  pub limit_gives : (at : ℕ) (c : Around) → Gives (limit_w K T (suc f) at c) (λ a s n rs. Read (an_expr ▸? an_expr ▸? fin) 2 rs)
  unfolding expr_w
  limit_gives at c = gives_choose (eqb (κ K T at) LIMIT) _ _
      (λ z. gives_bind (expr_w K T f (at + 1) c 1) _ (one (at + 1) c)
      (λ a x n rs r. gives_choose (eqb (κ K T a) OFFSET) _ _ (λ y. gives_onto rs (expr_w K T f (a + 1) c 1) (one (a + 1) c) (λ b s m qs q. read_here r &? read_here q))
      (λ y. gives_choose (eqb (κ K T a) COMMA) _ _
      (λ w. gives_bind (expr_w K T f (a + 1) c 1) _ (one (a + 1) c) (λ b x m qs q. gives_done b x m _ (read_here q &? read_here r)))
      (λ w. gives_done a 0 0 _ (read_here r &? may_absent)))))
      (λ z. gives_done at 0 0 _ (may_absent &? may_absent))

  pub tail_gives : (at : ℕ) (c : Around) → Gives (tail_w K T (suc f) at c) (λ a s n rs. Read (list_of a_sort ▸? an_expr ▸? an_expr ▸? fin) 3 rs)
  unfolding expr_w
  tail_gives at c = gives_choose (eqb (κ K T at) ORDER) _ _
      (λ z. gives_bind (sort_w K T f (at + 1) c) _ (all.order (at + 1) c) (λ a x n rs r. gives_onto rs (limit_w K T f a c) (all.limit a c) (λ b s m qs q. read_here r &? q)))
      (λ z. gives_onto _ (limit_w K T f at c) (all.limit at c) (λ b s m qs q. may_absent &? q))

  -- ── queries ──
  pub body_gives : (at : ℕ) (c : Around) → GivesOne a_body (body_w K T (suc f) at c)
  unfolding expr_w
  body_gives at c = gives_choose (eqb (κ K T at) SELECT) _ _ (λ z. gives_choose (leb QUERIES c.opened) _ _ (λ y. gives_stop) (λ y. all.select (at + 1) (opening c)))
      (λ z. gives_choose (eqb (κ K T at) VALUES) _ _
      (λ y. gives_choose (leb QUERIES c.opened) _ _ (λ w. gives_stop)
      (λ w. gives_bind (rows_w K T f (at + 1) (opening c) 0 0) _ (all.rows (at + 1) (opening c) 0 0) (λ a x n rs r. gives_done a 0 0 _ (read_over (values_node refl refl) (from_none r)))))
      (λ y. gives_stop))

  pub query_gives : (at : ℕ) (c : Around) → GivesOne a_query (query_w K T (suc f) at c)
  unfolding expr_w
  query_gives at c = gives_bind (body_w K T f at c) _ (all.body at c)
      (λ a x n rs r. gives_bind (tail_w K T f a (opening c)) _ (all.tail a (opening c)) (λ b x m qs q. gives_done b 0 0 _ (read_over (query_node refl refl) (r & q))))

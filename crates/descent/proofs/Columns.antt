-- A column and the list of columns mean what the grammar says: STAR, name DOT STAR, or an expression with an optional alias. Assumes nothing.
use mathlib.Core.Bool.{true, false, Bool}
use mathlib.Core.List.{List, [], ◌∷◌, ◌++◌}
use mathlib.Core.Logic.{inl, inr}
use mathlib.Core.Option.{some}
use mathlib.Core.Path.{◌≡◌, refl, sym, ap, ◌∙◌, subst}
use Prim.Native.Nat.{ℕ, ◌+◌, ◌<◌, min, suc}
use borrow.Author.Tests.{eqb-false}
use lib.Dec.{eqb}
use native.Mathlib.Omega.{arith}
use Rattle.theory.specs.Trees.{Tok, nt, Row, Tree, nil, add, node, cap_of}
use Rattle.theory.specs.Table.{pick, both, mem, lookup}
use Rattle.theory.specs.Outcome.{got, refused}
use Rattle.theory.proofs.Cases.{0≢1, eqb_eq, le-leb}
use Rattle.theory.proofs.Tested.{kinds_of, cont_some}
use Rattle.kinds.specs.Kinds.{COMMA, STAR, AS}
use Rattle.kinds.specs.Classes.{is_bare_alias}
use Rattle.grammar.specs.Classes.{Name, Column, Columns?, any}
use Rattle.grammar.specs.RowNames.{row_star, row_as, row_bare}
use Rattle.grammar.specs.NodeNames.{node_star, node_column}
use Rattle.grammar.specs.Rows.{begins, goes, part, once, but_column, exprs, select_items, values_items, lines, heads_of, tails_of}
use Rattle.grammar.specs.Grammar.{sql}
use Rattle.grammar.specs.Limits.{Around, is_query, below, judge}
use Rattle.grammar.specs.Nodes.{count, Rec, rec, records}
use Rattle.grammar.specs.Reading.{Val, empty, side, one, choose, none_there, name, NAME_STAR, column, value, ◌#◌}
use Rattle.descent.proofs.Places.{kind_at, tok_at, from, calls, rests, again}
use Rattle.descent.proofs.Named.{own}
use Rattle.descent.proofs.Walk.{Walked, done, bind, missing, not_b, over, name_rec, name_w, alias_w, expr_w, cols_w, col_w}
use Rattle.descent.proofs.Grown.{recs}
use Rattle.descent.proofs.SameRow.{eq_nt, eq_item, eq_items, eq_row, eq_found, same_found, below?, throughout}
use Rattle.descent.proofs.TableFacts.{BOUND}
use Rattle.descent.proofs.Steps.{nt_got, nt_refused, call_in, row_stop}
use Rattle.descent.proofs.ClassFacts.{none_of_1, firsts_Columns, Columns_at_COMMA, Columns_may, Column_at_STAR, Column_may}
use Rattle.descent.proofs.Rules.{known, value_next_column, value_star, value_as, value_bare}
use Rattle.descent.proofs.Means.{Single, plain_code, ExprTree, Exprd, Takes, Told, Good, next_column, Stops, Reads, ExprOK, FurtherColumnsOK, ColumnsOK, ColumnOK}
use Rattle.descent.proofs.Common.{told_bind, told_map, told_choose, told_done, part_no_word}
use Rattle.descent.proofs.Sides.{single_count, one_single}
use Rattle.descent.proofs.Strong.{below_part, not-true}
use Rattle.descent.proofs.Tails.{shut_tail, others}
use Rattle.descent.proofs.Values.{row_of, recs_missing, recs_all_2, count_2, over_one, name_single, recs_name, plain_not, plain_tree}
use Rattle.descent.proofs.ListLaw.{ListClass, ListRule, looped, firsts}
use Rattle.descent.proofs.ExprIn.{again_on, expr_ends}
use Rattle.descent.proofs.Names.{name_reads}

-- ── the rows of an alias ──
abbrev as_row : Row
as_row = once row_as (nt (any Name) ∷ [])

abbrev bare_row : Row
bare_row = once row_bare []

column_among : mem Column exprs ≡ true
unfolding exprs mem pick
column_among = refl

takes_column : Takes (any Column) 0
takes_column = record { among = column_among; enough = λ k a b. omega arith; loose = λ k a b. absurd (omega (arith, b)); column = λ e. refl; other = λ a e. omega (arith, a); most = omega arith }

as_at : lookup Column AS sql.tails ≡ some as_row
unfolding sql lines but_column exprs select_items values_items heads_of tails_of pick both mem lookup
as_at = refl

alias_test : ℕ → Bool
alias_test k = pick (eqb k AS) true (λ w. pick (is_bare_alias k) (eq_found (lookup Column k sql.tails) (some bare_row)) (λ w. not_b (mem k (others Column))))

aliases_right : below? BOUND alias_test ≡ true
unfolding alias_test below? others not_b is_bare_alias eq_found eq_row eq_items eq_item eq_nt sql lines but_column exprs select_items values_items heads_of tails_of pick both mem lookup
aliases_right = refl

bare_at : (k : ℕ) → k < BOUND → eqb k AS ≡ false → is_bare_alias k ≡ true → lookup Column k sql.tails ≡ some bare_row
unfolding alias_test pick
bare_at k h a b = same_found _ _ (rw (a, b) at (throughout BOUND alias_test aliases_right k h))

no_alias_at : (k : ℕ) → k < BOUND → eqb k AS ≡ false → is_bare_alias k ≡ false → mem k (others Column) ≡ false
unfolding alias_test pick
no_alias_at k h a b = not-true (mem k (others Column)) (rw (a, b) at (throughout BOUND alias_test aliases_right k h))

-- ── readings of columns ──
column_plain : (v : Val) → plain_code v.row ≡ true → v.num ≡ 0 → column v ≡ one node_column 0 (v ∷ none_there ∷ [])
unfolding column plain_code not_b mem pick
column_plain v p n = rw (plain_not v.row row_star refl p, plain_not v.row row_as refl p, plain_not v.row row_bare refl p, n)

column_dots : (v : Val) → plain_code v.row ≡ true → v.num ≡ NAME_STAR → column v ≡ v
unfolding column plain_code not_b mem pick
column_dots v p n = rw (plain_not v.row row_star refl p, plain_not v.row row_as refl p, plain_not v.row row_bare refl p, n)

column_star : (t : Tok) → column (value (node (part row_star []) nil t nil)) ≡ known row_star (one node_star 0 [])
unfolding value column pick
column_star t = rw (value_star empty t []) refl

column_as : (y : Tree) (u : Tok) (x : Tree) → column (value (node as_row y u (add nil x))) ≡ known row_as (one node_column 1 (value y ∷ value x ∷ []))
unfolding value column pick
column_as y u x = rw (value_as (value y) u (value x ∷ [])) refl

column_bare : (y : Tree) (u : Tok) → column (value (node bare_row y u nil)) ≡ known row_bare (one node_column 2 (value y ∷ name u ∷ []))
unfolding value column pick
column_bare y u = rw (value_bare (value y) u []) refl

star_begins : (c : Around) (t : Tok) → judge c (part row_star []) nil t nil ≡ 0
unfolding is_query pick
star_begins c t = part_no_word c (part row_star []) t refl refl

as_inside : (c : Around) → below as_row c ≡ c
unfolding is_query pick
as_inside c = below_part as_row c refl refl

star_recs : rec 5 0 0 1 ∷ [] ≡ recs (one node_star 0 [])
unfolding records side count
star_recs = refl

module _ (K T : List ℕ) (good : Good K T) (c : Around) where
  -- an alias row goes on from an expression
  on_alias : (y : Tree) (said n : ℕ) (q : Row) (e : ExprTree y said) → lookup Column (kind_at K n) sql.tails ≡ some q → q.left ≡ 1
      → again K T c (any Column) y n ≡ rests K T (record { c = c; A = any Column; r = q; l = y; t = tok_at K T n }) q.items nil (n + 1)
  on_alias y said n q e l o = again_on K T good c (any Column) y said n q e (cont_some sql (any Column) e.r (cap_of e.k) (kind_at K n) q l (le-leb 0 q.str (omega arith))
      (le-leb q.left e.r.str (omega (arith, o, e.leaves, e.some))) (le-leb q.left (min e.r.cap (cap_of e.k)) (omega (arith, o, e.leaves, e.some))))

  -- nothing goes on from an alias
  alias_ends : (y : Tree) (u : Tok) (q : Row) (k : Tree) (n : ℕ) → q.str ≡ 0 → rests K T (record { c = c; A = any Column; r = q; l = y; t = u }) [] k n ≡ got (node q y u k) n (from K T n)
  alias_ends y u q k n z = row_stop K T good.sound (record { c = c; A = any Column; r = q; l = y; t = u }) k n (shut_tail (any Column) column_among q (cap_of k) (kind_at K n) (omega (arith, z)))

  -- the optional alias of an expression y
  alias_told : (y : Tree) (said a : ℕ) → ExprTree y said → Stops K T 0 said a
      → Told (alias_w K T a)
      (λ b mode n qs. (z : Tree) × (w : Val) × (again K T c (any Column) y a ≡ got z b (from K T b)) × ((column (value z)).nodes ≡ (one node_column mode (value y ∷ w ∷ [])).nodes) × Single w.nodes × (qs ≡ recs w))
      (λ m p. again K T c (any Column) y a ≡ refused m p)
  unfolding alias_w
  alias_told y said a e st = told_choose (eqb (kind_at K a) AS) _ _
      (λ z. let on = on_alias y said a as_row e (rw (eqb_eq (kind_at K a) AS z) as_at) refl in
      told_bind (name_w K T (a + 1)) _ (name_reads K T good c (a + 1))
      (λ b s n rs p. told_done b 1 0 rs (
        node as_row y (tok_at K T a) (add nil p.0),
        value p.0,
        on ∙ nt_got K T good.sound _ (any Name) [] nil (a + 1) (rw (as_inside c) p.1) ∙ alias_ends y (tok_at K T a) as_row (add nil p.0) b refl,
        ap (λ z. z.nodes) (column_as y (tok_at K T a) p.0),
        p.2.0,
        p.2.1,
      ))
      (λ m p q. on ∙ nt_refused K T good.sound (record { c = c; A = any Column; r = as_row; l = y; t = tok_at K T a }) (any Name) [] nil (a + 1) (rw (as_inside c) q)))
      (λ z. told_choose (is_bare_alias (kind_at K a)) _ _
      (λ b. told_done (a + 1) 2 0 (name_rec K T a ∷ []) (
        node bare_row y (tok_at K T a) nil,
        name (tok_at K T a),
        on_alias y said a bare_row e (bare_at (kind_at K a) (good.bound a) z b) refl ∙ alias_ends y (tok_at K T a) bare_row nil (a + 1) refl,
        ap (λ z. z.nodes) (column_bare y (tok_at K T a)),
        name_single (tok_at K T a),
        sym (recs_name (tok_at K T a)),
      ))
      (λ b. told_done a 0 0 (missing ∷ []) (
        y,
        none_there,
        expr_ends K T good c (any Column) y 0 said a column_among (omega arith) e st (no_alias_at (kind_at K a) (good.bound a) z b),
        ap (λ z. z.nodes) (column_plain (value y) (plain_tree y said e) e.silent),
        one_single 0 0 [],
        sym recs_missing,
      )))

  -- what is said of the walk over a column
  abbrev Columned : ℕ → Walked → Type 0
  Columned at w = Reads K T c (any Column) at w (λ y s m rs. Single (column (value y)).nodes × (rs ≡ recs (column (value y))))

  module _ (at : ℕ) where
    -- an expression, or name DOT STAR, was read up to a
    exprd_told : (a said n : ℕ) (rs : List Rec) → (y : Tree) × (calls K T c (any Column) at ≡ again K T c (any Column) y a) × Exprd y said 0 × Stops K T 0 said a × (rs ≡ recs (value y))
        → Columned at (choose (eqb said 0) (done a said n rs) (bind (alias_w K T a) (λ b mode m qs. done b 0 0 (over 7 mode 2 0 (rs ++ qs)))))
    unfolding again
    exprd_told a said n rs (y, e, inl (t, h), st, r) = told_choose (eqb said 0) _ _
        (λ z. absurd (let s = eqb_eq said 0 z in omega (arith, t.some, s)))
        (λ z. told_bind (alias_w K T a) _ (alias_told y said a t st)
        (λ b mode m qs p. told_done b 0 0 _ (
          p.0,
          e ∙ p.2,
          (
            (node_column, mode, side (value y ∷ p.1 ∷ []), p.3),
            over_one node_column mode 2 (value y ∷ p.1 ∷ []) (rs ++ qs) (rw (r, p.5) (sym (recs_all_2 (value y) p.1)))
                (let i = single_count (value y).nodes t.single in let j = single_count p.1.nodes p.4 in omega (arith, count_2 (value y) p.1, i, j)) ∙ ap records (sym p.3),
          ),
        ))
        (λ m p q. e ∙ q))
    exprd_told a said n rs (y, e, inr (s, z, t), st, r) = told_choose (eqb said 0) _ _
        (λ z. told_done a said n rs (y, e ∙ stays, rw (column_dots (value y) plain t.says) (t.single, r)))
        (λ z. absurd (eqb-false said 0 z s))
      where
        plain : plain_code (value y).row ≡ true
        plain = rw (t.is, row_of t.r t.l t.t t.k) t.plain

        stays : again K T c (any Column) y a ≡ got y a (from K T a)
        stays = subst (λ w. again K T c (any Column) w a ≡ got w a (from K T a)) (sym t.is)
            (row_stop K T good.sound (record { c = c; A = any Column; r = t.r; l = t.l; t = t.t }) t.k a (shut_tail (any Column) column_among t.r (cap_of t.k) (kind_at K a) (omega (arith, t.shut))))

-- ── the list of columns ──
columns_list : ListClass Columns? COMMA next_column
unfolding sql lines but_column exprs select_items values_items heads_of tails_of pick both mem lookup kinds_of is_query
columns_list = record { begins = Columns_at_COMMA; only = firsts_Columns; goes = refl; goes_only = refl; may = Columns_may; weak = refl; loose = refl; no_query = refl }

columns_rule : ListRule next_column (any Column) column
unfolding ◌#◌
columns_rule = record { items = refl; through = λ l t v. ap (λ z. z.nodes) (value_next_column l t (v ∷ [])) }

abbrev One : Tree → Type 0
One y = Single (column (value y)).nodes

star_own : (k : ℕ) → (k ≡ STAR → ⊥) → mem k (own Column) ≡ false
unfolding own pick
star_own k f = none_of_1 f

module _ (K T : List ℕ) (good : Good K T) (f : ℕ) where
  pub column_ok : ExprOK K T f → ColumnOK K T (suc f)
  unfolding expr_w
  column_ok ok at c = told_choose (eqb (kind_at K at) STAR) _ _
      (λ z. told_done (at + 1) 0 0 _ (
        node (part row_star []) nil (tok_at K T at) nil,
        call_in K T good.sound c (any Column) at (part row_star []) (rw (eqb_eq (kind_at K at) STAR z) Column_at_STAR) (star_begins c (tok_at K T at)) ∙ alias_ends K T good c nil (tok_at K T at) (part row_star []) nil (at + 1) refl,
        rw (column_star (tok_at K T at)) (one_single node_star 0 [], star_recs),
      ))
      (λ z. told_bind (expr_w K T f at c 0) _ (ok at c 0 (any Column) takes_column (star_own (kind_at K at) (eqb-false (kind_at K at) STAR z)) (λ n. 0≢1 (sym Column_may ∙ n)))
      (λ a said n rs p. exprd_told K T good c at a said n rs p) (λ m p q. q))

  member : ColumnOK K T f → (at : ℕ) (c : Around)
      → Told (col_w K T f at c) (λ a s m rs. (y : Tree) × (calls K T c (any Column) at ≡ got y a (from K T a)) × One y × (rs ≡ recs (column (value y)))) (λ m p. calls K T c (any Column) at ≡ refused m p)
  member ok at c = told_map (col_w K T f at c) (ok at c) (λ a s m rs p. (p.0, p.1, p.2.0, p.2.1)) (λ m p e. e)

  pub further_columns_ok : ColumnOK K T f → FurtherColumnsOK K T f → FurtherColumnsOK K T (suc f)
  unfolding expr_w
  further_columns_ok ok next at c n x u = looped K T good columns_list column columns_rule One (λ y p. single_count (column (value y)).nodes p) c at n x u (col_w K T f at c) (λ b. cols_w K T f b c (n + 1)) (member ok at c)
      (λ a z. next (a + 1) c (n + 1) z (tok_at K T a))

  pub columns_ok : ColumnOK K T f → FurtherColumnsOK K T f → ColumnsOK K T (suc f)
  unfolding expr_w
  columns_ok ok next at c n F is k e = told_map _ (firsts K T good columns_list column columns_rule One (λ y p. single_count (column (value y)).nodes p) c at n F is k (col_w K T f at c) (λ b. cols_w K T f b c (n + 1)) e (member ok at c)
      (λ a. next (a + 1) c (n + 1) nil (tok_at K T a)))
      (λ a s m rs p. (p.0, p.1, p.2, omega (arith, p.4, p.5), p.3, p.6)) (λ m p e. e)

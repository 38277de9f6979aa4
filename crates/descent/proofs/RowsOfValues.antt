-- Rows of VALUES: the first, a further one, which has the length of those before it or is refused by 8 at its RP, and all of them, mean
-- what the grammar says. Assumes nothing.
use mathlib.Core.Bool.{true, false, Bool}
use mathlib.Core.List.{List, [], ◌∷◌, ◌++◌, append_assoc, append-nil}
use mathlib.Core.Option.{some, none}
use mathlib.Core.Path.{◌≡◌, refl, sym, ap, ◌∙◌}
use Prim.Native.Nat.{ℕ, ◌+◌, suc}
use borrow.Author.Tests.{ne_eqb, lt-ltb, eqb-false}
use lib.Dec.{ltb, eqb}
use native.Mathlib.Omega.{arith}
use Rattle.theory.specs.Trees.{Tok, lit, nt, Row, Tree, nil, add, leaf, node, cap_of}
use Rattle.theory.specs.Table.{pick, both, mem, lookup, enter_of, cont_of}
use Rattle.theory.proofs.Cases.{by_bool, 0≢1, eqb_eq, eqb-true}
use Rattle.theory.proofs.Tested.{kinds_of}
use Rattle.kinds.specs.Kinds.{LP, RP, COMMA}
use Rattle.grammar.specs.Classes.{Rows, Exprs?, E, any}
use Rattle.grammar.specs.RowNames.{row_first_row, row_next_row, row_word_join}
use Rattle.grammar.specs.NodeNames.{node_list}
use Rattle.grammar.specs.Rows.{but_column, exprs, select_items, values_items, lines, heads_of, tails_of}
use Rattle.grammar.specs.Grammar.{sql}
use Rattle.grammar.specs.Limits.{Around, is_query, members, last_child, children_before, width, width_of, is_kind, judge}
use Rattle.grammar.specs.Nodes.{end, count, beside, Rec, records}
use Rattle.grammar.specs.Reading.{side, one, rules, ruled, value_of, value}
use Rattle.descent.proofs.Places.{kind_at, tok_at, wrong, OpenRow, calls, rests}
use Rattle.descent.proofs.Walk.{Walked, done, stop, not_b, over, wrong_at, expr_w, list_w, rows_w, row_w}
use Rattle.descent.proofs.Grown.{recs_all, recs}
use Rattle.descent.proofs.Steps.{lit_got, lit_word, lit_wrong, call_in, call_wrong, row_on, row_stop}
use Rattle.descent.proofs.Growing.{records_beside, side_cons, count_beside}
use Rattle.descent.proofs.ClassFacts.{out, none_of_1, firsts_Rows, Rows_at_LP, Rows_may}
use Rattle.descent.proofs.Means.{Single, Told, Good, ListOK, ValuesOK, next_row, first_row, FirstRowOK, NextRowOK, RowsOK}
use Rattle.descent.proofs.Common.{told_bind, told_onto, told_choose, told_done, told_stop, no_word, part_no_word, goes_no_word}
use Rattle.descent.proofs.NoTails.{no_cont, loose_tail}
use Rattle.descent.proofs.Sides.{single_count, one_single}
use Rattle.descent.proofs.Strong.{below_part}
use Rattle.descent.proofs.Values.{over_one}

-- a list in parentheses, as a node over its members: x, the rest l, and tokens that add nothing
list_recs : (x l : Tree) (u : Tok) (n : ℕ) (rs : List Rec) → Single (value x).nodes → n ≡ 1 + count (value l).nodes → rs ≡ recs (value x) ++ recs (value l)
    → over 4 0 n 0 rs ≡ recs (one node_list 0 (value x ∷ value l ∷ value (leaf u) ∷ []))
unfolding value side records count beside
list_recs x l u n rs s e r = over_one 4 0 n (value x ∷ value l ∷ value (leaf u) ∷ []) rs (r ∙ sym flat) (e ∙ sym many)
  where
    flat : recs_all (value x ∷ value l ∷ value (leaf u) ∷ []) ≡ recs (value x) ++ recs (value l)
    flat = side_cons (value x) (value l ∷ value (leaf u) ∷ []) ∙ ap (λ z. recs (value x) ++ z) (side_cons (value l) (value (leaf u) ∷ []) ∙ append-nil (recs (value l)))

    many : count (side (value x ∷ value l ∷ value (leaf u) ∷ [])) ≡ 1 + count (value l).nodes
    many = count_beside (value x).nodes (beside (value l).nodes end) ∙ omega (arith, single_count (value x).nodes s, count_beside (value l).nodes end)

module _ (K T : List ℕ) (good : Good K T) (f : ℕ) where
  pub first_row_ok : ListOK K T f → FirstRowOK K T (suc f)
  unfolding expr_w is_query mem pick both width last_child children_before value value_of ruled rules
  first_row_ok lok at c = told_choose (eqb (kind_at K at) LP) _ (wrong_at K T at)
      (λ z. let begin : calls K T c (any Rows) at ≡ rests K T F (first_row K T).items nil (at + 1)
      = call_in K T good.sound c (any Rows) at (first_row K T) (ap (enter_of sql (any Rows)) (eqb_eq (kind_at K at) LP z) ∙ Rows_at_LP) (part_no_word c (first_row K T) (tok_at K T at) plain refl) in
      told_bind (list_w K T f (at + 1) c 0) _ (lok (at + 1) c 0 F (lit RP ∷ []) nil (below_part (first_row K T) c refl plain))
      (λ a s n rs p. told_choose (eqb (kind_at K a) RP) _ (wrong_at K T a)
      (λ y. told_choose (both (ltb 0 0) (not_b (eqb n 0))) (stop 8 a) (done (a + 1) 0 n (over 4 0 n 0 rs))
      (λ w. none_asked n w)
      (λ w. told_done (a + 1) 0 n (over 4 0 n 0 rs) (
        add (add (add nil p.0) p.1) (leaf (tok_at K T a)),
        begin ∙ p.2 ∙ lit_got K T good.sound F RP [] (add (add nil p.0) p.1) a (omega arith) (eqb_eq (kind_at K a) RP y) (no_word c (first_row K T) nil (tok_at K T at) (add (add nil p.0) p.1) (leaf (tok_at K T a)) other),
        omega (arith, p.4),
        wide p.0 p.1 (tok_at K T a) n p.4,
        recs_first a n rs p.0 p.1 p.3.1.single (omega (arith, p.4, p.5)) p.6,
        one_node a p.0 p.1,
      )))
      (λ y. told_stop (wrong (kind_at K a)) a (begin ∙ p.2 ∙ lit_wrong K T good.sound F RP [] (add (add nil p.0) p.1) a (omega arith) (eqb-false (kind_at K a) RP y))))
      (λ m p e. begin ∙ e))
      (λ z. told_stop (wrong (kind_at K at)) at (call_wrong K T good.sound c (any Rows) at (out Rows (kind_at K at) (ap (mem (kind_at K at)) firsts_Rows ∙ none_of_1 (eqb-false (kind_at K at) LP z))) Rows_may))
    where
      F : OpenRow
      F = record { c = c; A = any Rows; r = (first_row K T); l = nil; t = tok_at K T at }

      plain : is_query row_first_row ≡ false
      plain = refl

      other : mem row_first_row (row_word_join ∷ row_next_row ∷ []) ≡ false
      other = refl

      none_asked : {P : ℕ → ℕ → ℕ → List Rec → Type 0} {Q : ℕ → ℕ → Type 0} {w : Walked} (n : ℕ) → both (ltb 0 0) (not_b (eqb n 0)) ≡ true → Told w P Q
      none_asked n e = 0≢1 e

      wide : (x l : Tree) (u : Tok) (n : ℕ) → n ≡ 0 + 1 + members l → n ≡ width (add (add (add nil x) l) (leaf u))
      wide x l u n e = omega (arith, e)

      recs_first : (a n : ℕ) (rs : List Rec) (x l : Tree) → Single (value x).nodes → n ≡ 1 + count (value l).nodes → rs ≡ recs (value x) ++ recs (value l)
          → over 4 0 n 0 rs ≡ recs (value (node (first_row K T) nil (tok_at K T at) (add (add (add nil x) l) (leaf (tok_at K T a)))))
      recs_first a n rs x l s e r = list_recs x l (tok_at K T a) n rs s e r

      one_node : (a : ℕ) (x l : Tree) → Single (value (node (first_row K T) nil (tok_at K T at) (add (add (add nil x) l) (leaf (tok_at K T a))))).nodes
      one_node a x l = one_single node_list 0 (value x ∷ value l ∷ value (leaf (tok_at K T a)) ∷ [])

  -- the words on a further row's tokens: none on LP; on RP 8, unless it is as long as the rows before
  lp_word : (c : Around) (y : Tree) (u v : Tok) → v.kind ≡ LP → judge c (next_row K T) y u (add nil (leaf v)) ≡ 0
  unfolding judge is_kind both pick
  lp_word c y u v e = rw e

  rp_word : (c : Around) (y x l : Tree) (u v w : Tok) → w.kind ≡ RP → (b : Bool) → eqb (members l + 1) (width_of y) ≡ b
      → judge c (next_row K T) y u (add (add (add (add nil (leaf v)) x) l) (leaf w)) ≡ pick b 0 (λ z. 8)
  unfolding judge is_kind both pick width last_child children_before
  rp_word c y x l u v w e b h = rw (eqb-true w.kind RP e, h)

  -- what a further row adds to the rows before it
  next_value : (y x l : Tree) (u v w : Tok) → (value (node (next_row K T) y u (add (add (add (add nil (leaf v)) x) l) (leaf w)))).nodes
      ≡ beside (value y).nodes (beside (one node_list 0 (value x ∷ value l ∷ value (leaf w) ∷ [])).nodes end)
  unfolding value value_of ruled rules pick side beside
  next_value y x l u v w = refl

  pub next_row_ok : ListOK K T f → NextRowOK K T (suc f)
  unfolding expr_w is_query pick both not_b width last_child children_before count beside records
  next_row_ok lok at c w y u pos same = told_choose (eqb (kind_at K at) LP) _ (wrong_at K T at)
      (λ z. let begin = lit_got K T good.sound F LP (nt (E 1) ∷ nt (any Exprs?) ∷ lit RP ∷ []) nil at (omega arith) (eqb_eq (kind_at K at) LP z) (lp_word c y u (tok_at K T at) (eqb_eq (kind_at K at) LP z)) in
      told_bind (list_w K T f (at + 1) c 0) _ (lok (at + 1) c 0 F (lit RP ∷ []) (add nil (leaf (tok_at K T at))) (below_part (next_row K T) c refl plain))
      (λ a s n rs p. told_choose (eqb (kind_at K a) RP) _ (wrong_at K T a)
      (λ v. told_choose (both (ltb 0 w) (not_b (eqb n w))) (stop 8 a) (done (a + 1) 0 n (over 4 0 n 0 rs))
      (λ b. told_stop 8 a (begin ∙ p.2 ∙ lit_word K T good.sound F RP [] (add (add (add nil (leaf (tok_at K T at))) p.0) p.1) a 7 (omega arith) (eqb_eq (kind_at K a) RP v)
      (rp_word c y p.0 p.1 u (tok_at K T at) (tok_at K T a) (eqb_eq (kind_at K a) RP v) false (differs n p.1 b p.4) ∙ refl)))
      (λ b. told_done (a + 1) 0 n (over 4 0 n 0 rs) (
        add (add (add (add nil (leaf (tok_at K T at))) p.0) p.1) (leaf (tok_at K T a)),
        begin ∙ p.2 ∙ lit_got K T good.sound F RP [] (add (add (add nil (leaf (tok_at K T at))) p.0) p.1) a (omega arith) (eqb_eq (kind_at K a) RP v)
            (rp_word c y p.0 p.1 u (tok_at K T at) (tok_at K T a) (eqb_eq (kind_at K a) RP v) true (equals n p.1 b p.4) ∙ refl),
        is_w n b,
        wide p.0 p.1 (tok_at K T a) n p.4,
        many a p.0 p.1,
        recs_next a n rs p.0 p.1 p.3.1.single (omega (arith, p.4, p.5)) p.6,
      )))
      (λ v. told_stop (wrong (kind_at K a)) a (begin ∙ p.2 ∙ lit_wrong K T good.sound F RP [] (add (add (add nil (leaf (tok_at K T at))) p.0) p.1) a (omega arith) (eqb-false (kind_at K a) RP v))))
      (λ m p e. begin ∙ e))
      (λ z. told_stop (wrong (kind_at K at)) at (lit_wrong K T good.sound F LP (nt (E 1) ∷ nt (any Exprs?) ∷ lit RP ∷ []) nil at (omega arith) (eqb-false (kind_at K at) LP z)))
    where
      F : OpenRow
      F = record { c = c; A = any Rows; r = next_row K T; l = y; t = u }

      plain : is_query row_next_row ≡ false
      plain = refl

      is_w : (n : ℕ) → both (ltb 0 w) (not_b (eqb n w)) ≡ false → n ≡ w
      is_w n b = by_bool (eqb n w) (λ e. eqb_eq n w e) (λ e. 0≢1 (sym b ∙ rw (lt-ltb 0 w pos, e)))

      equals : (n : ℕ) (l : Tree) → both (ltb 0 w) (not_b (eqb n w)) ≡ false → n ≡ 0 + 1 + members l → eqb (members l + 1) (width_of y) ≡ true
      equals n l b e = eqb-true (members l + 1) (width_of y) (omega (arith, e, is_w n b, same))

      differs : (n : ℕ) (l : Tree) → both (ltb 0 w) (not_b (eqb n w)) ≡ true → n ≡ 0 + 1 + members l → eqb (members l + 1) (width_of y) ≡ false
      differs n l b e = by_bool (eqb n w) (λ h. 0≢1 (sym (rw (lt-ltb 0 w pos, h)) ∙ b)) (λ h. ne_eqb (members l + 1) (width_of y) (λ z. eqb-false n w h (omega (arith, e, z, same))))

      wide : (x l : Tree) (v : Tok) (n : ℕ) → n ≡ 0 + 1 + members l → n ≡ width (add (add (add (add nil (leaf (tok_at K T at))) x) l) (leaf v))
      wide x l v n e = omega (arith, e)

      many : (a : ℕ) (x l : Tree) → count (value (node (next_row K T) y u (add (add (add (add nil (leaf (tok_at K T at))) x) l) (leaf (tok_at K T a))))).nodes ≡ count (value y).nodes + 1
      many a x l = ap count (next_value y x l u (tok_at K T at) (tok_at K T a)) ∙ count_beside (value y).nodes _ ∙ omega arith

      recs_next : (a n : ℕ) (rs : List Rec) (x l : Tree) → Single (value x).nodes → n ≡ 1 + count (value l).nodes → rs ≡ recs (value x) ++ recs (value l)
          → recs (value (node (next_row K T) y u (add (add (add (add nil (leaf (tok_at K T at))) x) l) (leaf (tok_at K T a))))) ≡ recs (value y) ++ over 4 0 n 0 rs
      recs_next a n rs x l s e r = ap records (next_value y x l u (tok_at K T at) (tok_at K T a)) ∙ records_beside (value y).nodes _
          ∙ ap (λ z. recs (value y) ++ z) (records_beside (one node_list 0 (value x ∷ value l ∷ value (leaf (tok_at K T a)) ∷ [])).nodes end ∙ append-nil _ ∙ sym (list_recs x l (tok_at K T a) n rs s e r))

-- the rows go on at COMMA, and only there
rows_on : (q : Row) (m : ℕ) → (K T : List ℕ) → cont_of sql (any Rows) q m COMMA ≡ some (next_row K T)
unfolding sql lines but_column exprs select_items values_items heads_of tails_of pick both mem lookup
rows_on q m K T = loose_tail Rows COMMA (next_row K T) refl refl q m

tails_Rows : kinds_of Rows (λ q. true) sql.tails ≡ COMMA ∷ []
unfolding sql lines but_column exprs select_items values_items heads_of tails_of pick both mem kinds_of
tails_Rows = refl

rows_off : (k : ℕ) → (k ≡ COMMA → ⊥) → (q : Row) (m : ℕ) → cont_of sql (any Rows) q m k ≡ none
rows_off k e q m = no_cont (any Rows) q m k (ap (mem k) tails_Rows ∙ none_of_1 e)

module _ (K T : List ℕ) (good : Good K T) (f : ℕ) where
  pub values_ok : FirstRowOK K T f → RowsOK K T f → ValuesOK K T (suc f)
  unfolding expr_w width_of
  values_ok first more at c = told_bind (row_w K T f at c 0) _ (first at c)
      (λ a s w rs p. let F : OpenRow = record { c = c; A = any Rows; r = first_row K T; l = nil; t = tok_at K T at } in
      let y : Tree = node (first_row K T) nil (tok_at K T at) p.0 in
      told_choose (eqb (kind_at K a) COMMA) _ (done a 0 1 rs)
      (λ z. let on = row_on K T good.sound F p.0 a (next_row K T) (ap (cont_of sql (any Rows) (first_row K T) (cap_of p.0)) (eqb_eq (kind_at K a) COMMA z) ∙ rows_on (first_row K T) (cap_of p.0) K T)
      (goes_no_word c (next_row K T) (first_row K T) nil (tok_at K T at) (tok_at K T a) p.0) in
      told_onto rs (rows_w K T f (a + 1) c (0 + 1) w) (more (a + 1) c 1 w y (tok_at K T a) p.2 (sym (wide_of p.0 w p.3)) (sym (single_count (value y).nodes p.5)))
      (λ b s m qs q. (q.0, p.1 ∙ on ∙ q.1, (q.2, rw p.4 (sym q.3))))
      (λ m q e. p.1 ∙ on ∙ e))
      (λ z. told_done a 0 1 rs (y, p.1 ∙ row_stop K T good.sound F p.0 a (rows_off (kind_at K a) (eqb-false (kind_at K a) COMMA z) (first_row K T) (cap_of p.0)), (sym (single_count (value y).nodes p.5), p.4))))
      (λ m p e. e)
    where
      wide_of : (k : Tree) (w : ℕ) → w ≡ width k → w ≡ width_of (node (first_row K T) nil (tok_at K T at) k)
      wide_of k w e = e

  pub rows_ok : NextRowOK K T f → RowsOK K T f → RowsOK K T (suc f)
  unfolding expr_w width_of
  rows_ok next more at c n w0 y u pos same n-is = told_bind (row_w K T f at c w0) _ (next at c w0 y u pos same)
      (λ a s w rs p. let F : OpenRow = record { c = c; A = any Rows; r = next_row K T; l = y; t = u } in
      let x : Tree = node (next_row K T) y u p.0 in
      told_choose (eqb (kind_at K a) COMMA) _ (done a 0 (n + 1) rs)
      (λ z. let on = row_on K T good.sound F p.0 a (next_row K T) (ap (cont_of sql (any Rows) (next_row K T) (cap_of p.0)) (eqb_eq (kind_at K a) COMMA z) ∙ rows_on (next_row K T) (cap_of p.0) K T)
      (goes_no_word c (next_row K T) (next_row K T) y u (tok_at K T a) p.0) in
      told_onto rs (rows_w K T f (a + 1) c (n + 1) w) (more (a + 1) c (n + 1) w x (tok_at K T a) (omega (arith, p.2, pos)) (sym (wide_of y u p.0 w p.3)) (omega (arith, p.4, n-is)))
      (λ b s m qs q. (q.0, p.1 ∙ on ∙ q.1, q.2, q.3 ∙ ap (λ z. z ++ qs) p.5 ∙ append_assoc (recs (value y)) rs qs))
      (λ m q e. p.1 ∙ on ∙ e))
      (λ z. told_done a 0 (n + 1) rs (x, p.1 ∙ row_stop K T good.sound F p.0 a (rows_off (kind_at K a) (eqb-false (kind_at K a) COMMA z) (next_row K T) (cap_of p.0)), omega (arith, p.4, n-is), p.5)))
      (λ m p e. e)
    where
      wide_of : (y : Tree) (u : Tok) (k : Tree) (w : ℕ) → w ≡ width k → w ≡ width_of (node (next_row K T) y u k)
      wide_of y u k w e = e

-- ORDER BY: [ASC or DESC] [NULLS FIRST or LAST] (way_ok), a term and those after it, and all of the clause mean what the grammar says.
-- Assumes nothing.
use mathlib.Core.Bool.{true, false}
use mathlib.Core.List.{List, [], ◌∷◌, ◌++◌, append_assoc, append-nil}
use mathlib.Core.Option.{some}
use mathlib.Core.Path.{◌≡◌, refl, sym, ap, ◌∙◌}
use Prim.Native.Nat.{ℕ, ◌+◌, suc, ◌*◌}
use borrow.Author.Tests.{eqb-false}
use lib.Dec.{eqb}
use native.Mathlib.Omega.{arith}
use Rattle.theory.specs.Trees.{Item, nt, Row, Tree, nil, add, leaf, node, cap_of}
use Rattle.theory.specs.Table.{pick, both, mem, lookup, enter_of, cont_of}
use Rattle.theory.specs.Outcome.{got, refused}
use Rattle.theory.proofs.Cases.{eqb_eq}
use Rattle.theory.proofs.Tested.{kinds_of}
use Rattle.kinds.specs.Kinds.{COMMA, BY, ASC, DESC, NULLS, FIRST, LAST}
use Rattle.grammar.specs.Classes.{FirstLast, Order?, Terms?, Way?, Nulls?, E, any}
use Rattle.grammar.specs.RowNames.{row_order, row_next_term, row_asc, row_desc, row_nulls, row_first, row_last, row_next_row, row_word_join}
use Rattle.grammar.specs.NodeNames.{node_list, node_sort}
use Rattle.grammar.specs.Rows.{part, but_column, exprs, select_items, values_items, lines, heads_of, tails_of}
use Rattle.grammar.specs.Grammar.{sql}
use Rattle.grammar.specs.Limits.{Around, is_query, below}
use Rattle.grammar.specs.Nodes.{count, beside, Rec, records}
use Rattle.grammar.specs.Reading.{side, one, rules, ruled, value_of, value, ◌#◌}
use Rattle.descent.proofs.Places.{kind_at, tok_at, from, wrong, OpenRow, calls, rests}
use Rattle.descent.proofs.Walk.{Walked, done, bind, over, wrong_at, nulls_w, way_w, expr_w, terms_w}
use Rattle.descent.proofs.Grown.{recs}
use Rattle.descent.proofs.Steps.{nt_got, nt_refused, lit_got, lit_wrong, call_in, call_absent, call_wrong, row_on, row_stop}
use Rattle.descent.proofs.Growing.{side_cons, count_beside}
use Rattle.descent.proofs.ClassFacts.{out, none_of_1, none_of_2, firsts_Terms, Terms_at_COMMA, Terms_may, firsts_Way, Way_at_ASC, Way_at_DESC, Way_may, firsts_Nulls, Nulls_at_NULLS, Nulls_may, firsts_FirstLast, FirstLast_at_FIRST, FirstLast_at_LAST, FirstLast_may}
use Rattle.descent.proofs.Means.{Single, Told, Good, next_term, ExprOK, FurtherTermsOK, order_row, OrderOK, TermsOK}
use Rattle.descent.proofs.Common.{told_bind, told_onto, told_map, told_choose, told_done, told_stop, expr_got, no_word, part_no_word, goes_no_word}
use Rattle.descent.proofs.NoTails.{no_cont, plain_classes, ends, loose_tail}
use Rattle.descent.proofs.Sides.{single_count, one_single}
use Rattle.descent.proofs.Strong.{below_part}
use Rattle.descent.proofs.PlainClasses.{opened, begin, whole, two_on}
use Rattle.descent.proofs.Values.{recs_all_1, recs_all_2, count_1, count_2, over_one}

tails_Terms : kinds_of Terms? (λ q. true) sql.tails ≡ COMMA ∷ []
unfolding sql lines but_column exprs select_items values_items heads_of tails_of pick both mem kinds_of
tails_Terms = refl

terms_on : (q : Row) (m : ℕ) → cont_of sql (any Terms?) q m COMMA ≡ some next_term
unfolding sql lines but_column exprs select_items values_items heads_of tails_of pick both mem lookup
terms_on q m = loose_tail Terms? COMMA next_term refl refl q m

abbrev nulls_row : Row
nulls_row = part row_nulls (nt (any FirstLast) ∷ [])

module _ (K T : List ℕ) (good : Good K T) where
  -- a part that is one word: its row has no items
  word_got : (c : Around) (C n : ℕ) (r : Row) → enter_of sql (any C) (kind_at K n) ≡ some r → r.items ≡ [] → r.str ≡ 0 → is_query r.code ≡ false → mem C plain_classes ≡ true
      → calls K T c (any C) n ≡ got (node r nil (tok_at K T n) nil) (n + 1) (from K T (n + 1))
  word_got c C n r e i s q t = begin K T good c C r n e q s ∙ ap (λ z. rests K T (opened K T c C r n) z nil (n + 1)) i ∙ whole K T good c C r n nil (n + 1) t

  -- NULLS, and the word after it by the row r
  abbrev nulls_tree : ℕ → Row → Tree
  nulls_tree n r = node nulls_row nil (tok_at K T n) (add nil (node r nil (tok_at K T (n + 1)) nil))

  nulls_begin : (n : ℕ) (c : Around) → kind_at K n ≡ NULLS → calls K T c (any Nulls?) n ≡ rests K T (opened K T c Nulls? nulls_row n) (nt (any FirstLast) ∷ []) nil (n + 1)
  unfolding is_query pick
  nulls_begin n c z = begin K T good c Nulls? nulls_row n (ap (enter_of sql (any Nulls?)) z ∙ Nulls_at_NULLS) refl refl

  nulls_got : (n : ℕ) (c : Around) (r : Row) → kind_at K n ≡ NULLS → enter_of sql (any FirstLast) (kind_at K (n + 1)) ≡ some r → r.items ≡ [] → r.str ≡ 0 → is_query r.code ≡ false
      → calls K T c (any Nulls?) n ≡ got (nulls_tree n r) (n + 2) (from K T (n + 2))
  unfolding plain_classes mem is_query pick
  nulls_got n c r z e i s q = nulls_begin n c z
      ∙ nt_got K T good.sound (opened K T c Nulls? nulls_row n) (any FirstLast) [] nil (n + 1) (rw (below_part nulls_row c refl refl) (word_got c FirstLast (n + 1) r e i s q refl))
      ∙ whole K T good c Nulls? nulls_row n (add nil (node r nil (tok_at K T (n + 1)) nil)) (n + 1 + 1) refl ∙ ap (λ i. got (nulls_tree n r) i (from K T i)) (two_on n)

  -- NULLS FIRST or LAST, or nothing: said after `detail`
  nulls_ok : (at detail : ℕ) (c : Around)
      → Told (nulls_w K T at detail)
      (λ b way m os. (v : Tree) × (calls K T c (any Nulls?) at ≡ got v b (from K T b)) × (way ≡ detail + 4 * (value v).num) × (os ≡ []))
      (λ m p. calls K T c (any Nulls?) at ≡ refused m p)
  unfolding nulls_w value value_of ruled rules pick is_query ◌#◌
  nulls_ok at detail c = told_choose (eqb (kind_at K at) NULLS) _ (done at detail 0 [])
      (λ z. let here = eqb_eq (kind_at K at) NULLS z in
      told_choose (eqb (kind_at K (at + 1)) FIRST) (done (at + 2) (detail + 4) 0 []) _
      (λ y. told_done (at + 2) (detail + 4) 0 [] (nulls_tree at (part row_first []), nulls_got at c (part row_first []) here (ap (enter_of sql (any FirstLast)) (eqb_eq (kind_at K (at + 1)) FIRST y) ∙ FirstLast_at_FIRST) refl refl refl, refl, refl))
      (λ y. told_choose (eqb (kind_at K (at + 1)) LAST) (done (at + 2) (detail + 8) 0 []) (wrong_at K T (at + 1))
      (λ x. told_done (at + 2) (detail + 8) 0 [] (nulls_tree at (part row_last []), nulls_got at c (part row_last []) here (ap (enter_of sql (any FirstLast)) (eqb_eq (kind_at K (at + 1)) LAST x) ∙ FirstLast_at_LAST) refl refl refl, refl, refl))
      (λ x. told_stop (wrong (kind_at K (at + 1))) (at + 1) (nulls_begin at c here ∙ nt_refused K T good.sound (opened K T c Nulls? nulls_row at) (any FirstLast) [] nil (at + 1)
      (rw (below_part nulls_row c refl refl) (call_wrong K T good.sound c (any FirstLast) (at + 1)
      (out FirstLast (kind_at K (at + 1)) (ap (mem (kind_at K (at + 1))) firsts_FirstLast ∙ none_of_2 (eqb-false (kind_at K (at + 1)) FIRST y) (eqb-false (kind_at K (at + 1)) LAST x))) FirstLast_may))))))
      (λ z. told_done at detail 0 [] (nil, call_absent K T good.sound c (any Nulls?) at (out Nulls? (kind_at K at) (ap (mem (kind_at K at)) firsts_Nulls ∙ none_of_1 (eqb-false (kind_at K at) NULLS z))) Nulls_may, omega arith, refl))

  -- [ASC or DESC] [NULLS FIRST or LAST]
  way_ok : (at : ℕ) (c : Around)
      → Told (way_w K T at)
      (λ b way m os. (w : Tree) × (n : ℕ) × (v : Tree) × (calls K T c (any Way?) at ≡ got w n (from K T n)) × (calls K T c (any Nulls?) n ≡ got v b (from K T b))
      × (way ≡ (value w).num + 4 * (value v).num) × (os ≡ []))
      (λ m p. (w : Tree) × (n : ℕ) × (calls K T c (any Way?) at ≡ got w n (from K T n)) × (calls K T c (any Nulls?) n ≡ refused m p))
  unfolding plain_classes mem way_w value value_of ruled rules pick is_query
  way_ok at c = told_choose (eqb (kind_at K at) ASC) _ _
      (λ z. let w = word_got c Way? at (part row_asc []) (ap (enter_of sql (any Way?)) (eqb_eq (kind_at K at) ASC z) ∙ Way_at_ASC) refl refl refl refl in
      told_map (nulls_w K T (at + 1) 1) (nulls_ok (at + 1) 1 c)
      (λ b way m os p. (node (part row_asc []) nil (tok_at K T at) nil, at + 1, p.0, w, p.1, p.2, p.3)) (λ m p e. (node (part row_asc []) nil (tok_at K T at) nil, at + 1, w, e)))
      (λ z. told_choose (eqb (kind_at K at) DESC) _ _
      (λ y. let w = word_got c Way? at (part row_desc []) (ap (enter_of sql (any Way?)) (eqb_eq (kind_at K at) DESC y) ∙ Way_at_DESC) refl refl refl refl in
      told_map (nulls_w K T (at + 1) 2) (nulls_ok (at + 1) 2 c)
      (λ b way m os p. (node (part row_desc []) nil (tok_at K T at) nil, at + 1, p.0, w, p.1, p.2, p.3)) (λ m p e. (node (part row_desc []) nil (tok_at K T at) nil, at + 1, w, e)))
      (λ y. let w = call_absent K T good.sound c (any Way?) at (out Way? (kind_at K at) (ap (mem (kind_at K at)) firsts_Way ∙ none_of_2 (eqb-false (kind_at K at) ASC z) (eqb-false (kind_at K at) DESC y))) Way_may in
      told_map (nulls_w K T at 0) (nulls_ok at 0 c)
      (λ b way m os p. (nil, at, p.0, w, p.1, p.2, p.3)) (λ m p e. (nil, at, w, e))))

  module _ (f : ℕ) where
    -- three items, an expression and its way; then what they are handed to
    module _ {P : ℕ → ℕ → ℕ → List Rec → Type 0} {Q : ℕ → ℕ → Type 0} where
      term_then : ExprOK K T f → (at : ℕ) (c : Around) (F : OpenRow) (is : List Item) (k : Tree) → below F.r F.c ≡ c → (to : ℕ → ℕ → List Rec → Walked)
          → ((b way : ℕ) (rs : List Rec) (e w v : Tree) → rests K T F (nt (E 1) ∷ nt (any Way?) ∷ nt (any Nulls?) ∷ is) k at ≡ rests K T F is (add (add (add k e) w) v) b
          → way ≡ (value w).num + 4 * (value v).num → Single (value e).nodes → rs ≡ recs (value e) → Told (to b way rs) P Q)
          → ((m p : ℕ) → rests K T F (nt (E 1) ∷ nt (any Way?) ∷ nt (any Nulls?) ∷ is) k at ≡ refused m p → Q m p)
          → Told (bind (expr_w K T f at c 1) (λ a x m rs. bind (way_w K T a) (λ b way m os. to b way rs))) P Q
      term_then ok at c F is k h to then else' = told_bind (expr_w K T f at c 1) _ (expr_got K T good f ok at c 1 (omega arith) (omega arith))
          (λ a u n rs p. let first = nt_got K T good.sound F (E 1) (nt (any Way?) ∷ nt (any Nulls?) ∷ is) k at (rw h p.1) in
          told_bind (way_w K T a) _ (way_ok a c)
          (λ b way m os q. then b way rs p.0 q.0 q.2 (first
          ∙ nt_got K T good.sound F (any Way?) (nt (any Nulls?) ∷ is) (add k p.0) a (rw h q.3)
          ∙ nt_got K T good.sound F (any Nulls?) is (add (add k p.0) q.0) q.1 (rw h q.4)) q.5 p.2.single p.3)
          (λ m r q. else' m r (first ∙ nt_got K T good.sound F (any Way?) (nt (any Nulls?) ∷ is) (add k p.0) a (rw h q.2)
          ∙ nt_refused K T good.sound F (any Nulls?) is (add (add k p.0) q.0) q.1 (rw h q.3))))
          (λ m p e. else' m p (nt_refused K T good.sound F (E 1) (nt (any Way?) ∷ nt (any Nulls?) ∷ is) k at (rw h e)))

    -- a term's records
    sort_recs : (way : ℕ) (rs : List Rec) (e : Tree) (d : ℕ) → way ≡ d → Single (value e).nodes → rs ≡ recs (value e) → over 14 way 1 0 rs ≡ recs (one node_sort d (value e ∷ []))
    sort_recs way rs e d q s r = rw q (over_one 14 d 1 (value e ∷ []) rs (r ∙ sym (recs_all_1 (value e))) (sym (count_1 (value e) ∙ single_count (value e).nodes s)))

    pub further_terms_ok : ExprOK K T f → FurtherTermsOK K T f → FurtherTermsOK K T (suc f)
    unfolding expr_w is_query pick value value_of ruled rules ◌#◌ side count beside records
    further_terms_ok ok more at c n x u = term_then ok at c F [] nil (below_part next_term c refl plain) _
        (λ b way rs e w v r q s h. let y : Tree = node next_term x u (add (add (add nil e) w) v) in
        told_choose (eqb (kind_at K b) COMMA) _ (done b 0 (n + 1) (over 14 way 1 0 rs))
        (λ z. let on = row_on K T good.sound F (add (add (add nil e) w) v) b next_term (ap (cont_of sql (any Terms?) next_term (cap_of (add (add (add nil e) w) v))) (eqb_eq (kind_at K b) COMMA z) ∙ terms_on next_term (cap_of (add (add (add nil e) w) v)))
        (goes_no_word c next_term next_term x u (tok_at K T b) (add (add (add nil e) w) v)) in
        told_onto (over 14 way 1 0 rs) (terms_w K T f (b + 1) c (n + 1)) (more (b + 1) c (n + 1) y (tok_at K T b))
        (λ a t m qs p. (p.0, r ∙ on ∙ p.1, omega (arith, p.2, many e w v), p.3 ∙ ap (λ z. z ++ qs) (grown e w v way rs q s h) ∙ append_assoc (recs (value x)) (over 14 way 1 0 rs) qs))
        (λ m p g. r ∙ on ∙ g))
        (λ z. told_done b 0 (n + 1) (over 14 way 1 0 rs) (
          y,
          r ∙ row_stop K T good.sound F (add (add (add nil e) w) v) b
              (no_cont (any Terms?) next_term (cap_of (add (add (add nil e) w) v)) (kind_at K b) (ap (mem (kind_at K b)) tails_Terms ∙ none_of_1 (eqb-false (kind_at K b) COMMA z))),
          omega (arith, many e w v),
          grown e w v way rs q s h,
        )))
        (λ m p e. e)
      where
        F : OpenRow
        F = record { c = c; A = any Terms?; r = next_term; l = x; t = u }

        plain : is_query row_next_term ≡ false
        plain = refl

        many : (e w v : Tree) → count (value (node next_term x u (add (add (add nil e) w) v))).nodes ≡ count (value x).nodes + 1
        many e w v = count_beside (value x).nodes _ ∙ omega arith

        grown : (e w v : Tree) (way : ℕ) (rs : List Rec) → way ≡ (value w).num + 4 * (value v).num → Single (value e).nodes → rs ≡ recs (value e)
            → recs (value (node next_term x u (add (add (add nil e) w) v))) ≡ recs (value x) ++ over 14 way 1 0 rs
        grown e w v way rs q s h = side_cons (value x) (one node_sort ((value w).num + 4 * (value v).num) (value e ∷ []) ∷ [])
            ∙ ap (λ z. recs (value x) ++ z) (side_cons (one node_sort ((value w).num + 4 * (value v).num) (value e ∷ [])) [] ∙ append-nil _ ∙ sym (sort_recs way rs e ((value w).num + 4 * (value v).num) q s h))

    pub terms_ok : ExprOK K T f → FurtherTermsOK K T f → TermsOK K T (suc f)
    unfolding expr_w is_query pick value count records
    terms_ok ok more at c n F is k h = term_then ok at c F (nt (any Terms?) ∷ is) k h _
        (λ b way rs e w v r q s t.
        told_choose (eqb (kind_at K b) COMMA) _ (done b 0 (n + 1) (over 14 way 1 0 rs))
        (λ z. let begin = call_in K T good.sound c (any Terms?) b next_term (ap (enter_of sql (any Terms?)) (eqb_eq (kind_at K b) COMMA z) ∙ Terms_at_COMMA) (part_no_word c next_term (tok_at K T b) refl refl) in
        told_onto (over 14 way 1 0 rs) (terms_w K T f (b + 1) c (n + 1)) (more (b + 1) c (n + 1) nil (tok_at K T b))
        (λ a i m qs p. (
          e,
          w,
          v,
          p.0,
          r ∙ nt_got K T good.sound F (any Terms?) is (add (add (add k e) w) v) b (rw h (begin ∙ p.1)),
          omega (arith, p.2, none_yet),
          ap (λ z. z ++ qs) (sort_recs way rs e ((value w).num + 4 * (value v).num) q s t) ∙ ap (λ z. recs (one node_sort ((value w).num + 4 * (value v).num) (value e ∷ [])) ++ z) (sym p.3),
        ))
        (λ m p g. r ∙ nt_refused K T good.sound F (any Terms?) is (add (add (add k e) w) v) b (rw h (begin ∙ g))))
        (λ z. told_done b 0 (n + 1) (over 14 way 1 0 rs) (
          e,
          w,
          v,
          nil,
          r ∙ nt_got K T good.sound F (any Terms?) is (add (add (add k e) w) v) b (rw h (call_absent K T good.sound c (any Terms?) b (out Terms? (kind_at K b) (ap (mem (kind_at K b)) firsts_Terms ∙ none_of_1 (eqb-false (kind_at K b) COMMA z))) Terms_may)),
          omega (arith, none_yet),
          sort_recs way rs e ((value w).num + 4 * (value v).num) q s t ∙ sym (append-nil _),
        )))
        (λ m p e. e)
      where
        none_yet : count (value nil).nodes ≡ 0
        none_yet = refl

    pub order_ok : TermsOK K T f → OrderOK K T (suc f)
    unfolding plain_classes expr_w is_query pick mem value value_of ruled rules ◌#◌ side beside count records
    order_ok terms at c u = told_choose (eqb (kind_at K at) BY) _ (wrong_at K T at)
        (λ z. let begin = lit_got K T good.sound F BY (nt (E 1) ∷ nt (any Way?) ∷ nt (any Nulls?) ∷ nt (any Terms?) ∷ []) nil at (omega arith) (eqb_eq (kind_at K at) BY z) (no_word c (order_row K T) nil u nil (leaf (tok_at K T at)) other) in
        told_bind (terms_w K T f (at + 1) c 0) _ (terms (at + 1) c 0 F [] (add nil (leaf (tok_at K T at))) (below_part (order_row K T) c refl refl))
        (λ a s n rs p. let k : Tree = add (add (add (add (add nil (leaf (tok_at K T at))) p.0) p.1) p.2) p.3 in
        told_done a 0 0 (over 4 0 n 0 rs) (
          node (order_row K T) nil u k,
          begin ∙ p.4 ∙ row_stop K T good.sound F k a (ends Order? refl (order_row K T) (cap_of k) (kind_at K a)),
          listed n rs ((value p.1).num + 4 * (value p.2).num) p.0 p.3 p.5 p.6,
          one_single node_list 0 (one node_sort ((value p.1).num + 4 * (value p.2).num) (value p.0 ∷ []) ∷ value p.3 ∷ []),
        ))
        (λ m p e. begin ∙ e))
        (λ z. told_stop (wrong (kind_at K at)) at (lit_wrong K T good.sound F BY (nt (E 1) ∷ nt (any Way?) ∷ nt (any Nulls?) ∷ nt (any Terms?) ∷ []) nil at (omega arith) (eqb-false (kind_at K at) BY z)))
      where
        F : OpenRow
        F = record { c = c; A = any Order?; r = order_row K T; l = nil; t = u }

        other : mem row_order (row_word_join ∷ row_next_row ∷ []) ≡ false
        other = refl

        listed : (n : ℕ) (rs : List Rec) (d : ℕ) (e l : Tree) → n ≡ 0 + 1 + count (value l).nodes → rs ≡ recs (one node_sort d (value e ∷ [])) ++ recs (value l)
            → over 4 0 n 0 rs ≡ recs (one node_list 0 (one node_sort d (value e ∷ []) ∷ value l ∷ []))
        listed n rs d e l q r = over_one 4 0 n (one node_sort d (value e ∷ []) ∷ value l ∷ []) rs (r ∙ sym (recs_all_2 (one node_sort d (value e ∷ [])) (value l))) (q ∙ sym many)
          where
            many : count (side (one node_sort d (value e ∷ []) ∷ value l ∷ [])) ≡ 0 + 1 + count (value l).nodes
            many = omega (arith, count_2 (one node_sort d (value e ∷ [])) (value l), single_count (one node_sort d (value e ∷ [])).nodes (one_single node_sort d (value e ∷ [])))

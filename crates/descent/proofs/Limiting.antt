-- LIMIT a, LIMIT a OFFSET b, LIMIT a , b (limit b, offset a), and both clauses after a body, mean what the grammar says. Assumes nothing.
use mathlib.Core.Bool.{false}
use mathlib.Core.List.{List, [], ◌∷◌, ◌++◌, append-nil}
use mathlib.Core.Option.{some}
use mathlib.Core.Path.{◌≡◌, refl, sym, ap, ◌∙◌}
use Prim.Native.Nat.{ℕ, ◌+◌, suc}
use borrow.Author.Tests.{eqb-false}
use lib.Dec.{eqb}
use native.Mathlib.Omega.{arith}
use Rattle.theory.specs.Trees.{Tok, nt, Row, Tree, nil, add, node, cap_of}
use Rattle.theory.specs.Table.{pick, mem, enter_of}
use Rattle.theory.specs.Outcome.{got, refused}
use Rattle.theory.proofs.Cases.{eqb_eq}
use Rattle.kinds.specs.Kinds.{COMMA, ORDER, LIMIT, OFFSET}
use Rattle.grammar.specs.Classes.{Order?, Limit?, Offset?, E, any}
use Rattle.grammar.specs.RowNames.{row_limit, row_offset, row_comma_offset}
use Rattle.grammar.specs.NodeNames.{node_absent}
use Rattle.grammar.specs.Rows.{part}
use Rattle.grammar.specs.Grammar.{sql}
use Rattle.grammar.specs.Limits.{Around, is_query}
use Rattle.grammar.specs.Nodes.{Nodes, end, count, beside, records}
use Rattle.grammar.specs.Reading.{Val, side, choose, is_end, none_there, opt, limit_and_offset, rules, ruled, value_of, value, ◌#◌}
use Rattle.descent.proofs.Places.{kind_at, tok_at, from, OpenRow, calls, rests}
use Rattle.descent.proofs.Walk.{done, onto, missing, expr_w, sort_w, limit_w}
use Rattle.descent.proofs.Grown.{recs}
use Rattle.descent.proofs.Steps.{nt_got, nt_refused, call_in, call_absent, row_stop}
use Rattle.descent.proofs.Growing.{records_beside, count_beside}
use Rattle.descent.proofs.ClassFacts.{out, none_of_1, none_of_2, firsts_Order, Order_at_ORDER, Order_may, firsts_Limit, Limit_at_LIMIT, Limit_may, firsts_Offset, Offset_at_OFFSET, Offset_at_COMMA, Offset_may}
use Rattle.descent.proofs.Means.{Single, Told, Good, ExprOK, TailOK, order_row, OrderOK, LimitOK}
use Rattle.descent.proofs.Common.{told_bind, told_onto, told_choose, told_done, expr_got, part_no_word}
use Rattle.descent.proofs.NoTails.{plain_classes, ends}
use Rattle.descent.proofs.Sides.{single_count, single_there, beside_end}
use Rattle.descent.proofs.Strong.{below_part}
use Rattle.descent.proofs.PlainClasses.{one_item, expr_reads}
use Rattle.descent.proofs.Values.{opt_there}

abbrev limit_row : Row
limit_row = part row_limit (nt (E 1) ∷ nt (any Offset?) ∷ [])

abbrev offset_row : Row
offset_row = part row_offset (nt (E 1) ∷ [])

abbrev comma_row : Row
comma_row = part row_comma_offset (nt (E 1) ∷ [])

-- two nodes side by side are the limit and the offset
two : (ns ms : Nodes) (v : Val) → Single ns → Single ms → v.nodes ≡ beside ns ms
    → (recs (limit_and_offset v) ≡ records ns ++ records ms) × (count (limit_and_offset v).nodes ≡ 2)
unfolding limit_and_offset choose is_end beside
two ns ms v s t e = (ap (λ z. records z.nodes) there ∙ ap records e ∙ records_beside ns ms, ap (λ z. count z.nodes) there ∙ ap count e ∙ count_beside ns ms ∙ omega (arith, single_count ns s, single_count ms t))
  where
    some_there : is_end (beside ns ms) ≡ false
    some_there = ap (λ z. is_end (beside z ms)) s.3

    there : limit_and_offset v ≡ v
    there = rw (e, some_there)

-- the three forms, with their parts
with_offset : (t u : Tok) (e b : Tree) → Single (value b).nodes → (value (node limit_row nil t (add (add nil e) (node offset_row nil u (add nil b))))).nodes ≡ beside (value e).nodes (value b).nodes
unfolding value value_of ruled rules pick ◌#◌ choose opt side
with_offset t u e b s = rw (single_there (value b).nodes s) (ap (beside (value e).nodes) (beside_end (value b).nodes))

with_comma : (t u : Tok) (e b : Tree) → (value (node limit_row nil t (add (add nil e) (node comma_row nil u (add nil b))))).nodes ≡ beside (value b).nodes (beside (value e).nodes end)
unfolding value value_of ruled rules pick ◌#◌ choose opt side
with_comma t u e b = refl

alone : (t : Tok) (e : Tree) → (value (node limit_row nil t (add (add nil e) nil))).nodes ≡ beside (value e).nodes none_there.nodes
unfolding value value_of ruled rules pick ◌#◌ choose opt side is_end beside
alone t e = refl

module _ (K T : List ℕ) (good : Good K T) (f : ℕ) where
  -- OFFSET b, or , b: a row with one expression
  offset_then : ExprOK K T f → (at : ℕ) (c : Around) (r : Row) → enter_of sql (any Offset?) (kind_at K at) ≡ some r → r.items ≡ nt (E 1) ∷ [] → r.str ≡ 0 → is_query r.code ≡ false
      → Told (expr_w K T f (at + 1) c 1)
      (λ a said n rs. (b : Tree) × (calls K T c (any Offset?) at ≡ got (node r nil (tok_at K T at) (add nil b)) a (from K T a)) × (Single (value b).nodes × (rs ≡ recs (value b))))
      (λ m p. calls K T c (any Offset?) at ≡ refused m p)
  unfolding plain_classes mem pick
  offset_then ok at c r e i s q = one_item K T good c Offset? r (E 1) at (expr_w K T f (at + 1) c 1) (λ x said n rs. Single (value x).nodes × (rs ≡ recs (value x))) refl e q s i (expr_reads K T good f ok (at + 1) c)

  pub limit_ok : ExprOK K T f → LimitOK K T (suc f)
  unfolding expr_w is_query plain_classes mem pick limit_and_offset value choose is_end side beside count records
  limit_ok ok at c = told_choose (eqb (kind_at K at) LIMIT) _ (done at 0 0 (missing ∷ missing ∷ []))
      (λ z. let begin = call_in K T good.sound c (any Limit?) at limit_row (ap (enter_of sql (any Limit?)) (eqb_eq (kind_at K at) LIMIT z) ∙ Limit_at_LIMIT) (part_no_word c limit_row (tok_at K T at) refl refl) in
      told_bind (expr_w K T f (at + 1) c 1) _ (expr_got K T good f ok (at + 1) c 1 (omega arith) (omega arith))
      (λ a x n rs p. let first = begin ∙ nt_got K T good.sound F (E 1) (nt (any Offset?) ∷ []) nil (at + 1) (rw (below_part limit_row c refl refl) p.1) in
      told_choose (eqb (kind_at K a) OFFSET) _ _
      (λ y. told_onto rs (expr_w K T f (a + 1) c 1) (offset_then ok a c offset_row (ap (enter_of sql (any Offset?)) (eqb_eq (kind_at K a) OFFSET y) ∙ Offset_at_OFFSET) refl refl refl)
      (λ b s m qs q. let w = two (value p.0).nodes (value q.0).nodes (value (node limit_row nil (tok_at K T at) (add (add nil p.0) (node offset_row nil (tok_at K T a) (add nil q.0))))) p.2.single q.2.0 (with_offset (tok_at K T at) (tok_at K T a) p.0 q.0 q.2.0) in
      (node limit_row nil (tok_at K T at) (add (add nil p.0) (node offset_row nil (tok_at K T a) (add nil q.0))), ended p.0 _ a first b q.1, (rw (p.3, q.2.1) (sym w.0), w.1)))
      (λ m r e. first ∙ nt_refused K T good.sound F (any Offset?) [] (add nil p.0) a (rw (below_part limit_row c refl refl) e)))
      (λ y. told_choose (eqb (kind_at K a) COMMA) _ (done a 0 0 (rs ++ (missing ∷ [])))
      (λ v. told_bind (expr_w K T f (a + 1) c 1) _ (offset_then ok a c comma_row (ap (enter_of sql (any Offset?)) (eqb_eq (kind_at K a) COMMA v) ∙ Offset_at_COMMA) refl refl refl)
      (λ b s m qs q. let w = two (value q.0).nodes (beside (value p.0).nodes end) (value (node limit_row nil (tok_at K T at) (add (add nil p.0) (node comma_row nil (tok_at K T a) (add nil q.0))))) q.2.0 (single_end p.0 p.2.single) (with_comma (tok_at K T at) (tok_at K T a) p.0 q.0) in
      told_done b s m _ (node limit_row nil (tok_at K T at) (add (add nil p.0) (node comma_row nil (tok_at K T a) (add nil q.0))), ended p.0 _ a first b q.1, (rw (p.3, q.2.1) (sym (w.0 ∙ ap (λ z. recs (value q.0) ++ z) (records_beside (value p.0).nodes end ∙ append-nil _))), w.1)))
      (λ m r e. first ∙ nt_refused K T good.sound F (any Offset?) [] (add nil p.0) a (rw (below_part limit_row c refl refl) e)))
      (λ v. let w = two (value p.0).nodes none_there.nodes (value (node limit_row nil (tok_at K T at) (add (add nil p.0) nil))) p.2.single (node_absent, 0, end, refl) (alone (tok_at K T at) p.0) in
      told_done a 0 0 (rs ++ (missing ∷ [])) (
        node limit_row nil (tok_at K T at) (add (add nil p.0) nil),
        ended p.0 _ a first a (call_absent K T good.sound c (any Offset?) a (out Offset? (kind_at K a) (ap (mem (kind_at K a)) firsts_Offset ∙ none_of_2 (eqb-false (kind_at K a) OFFSET y) (eqb-false (kind_at K a) COMMA v))) Offset_may),
        (rw p.3 (sym w.0), w.1),
      ))))
      (λ m p e. begin ∙ nt_refused K T good.sound F (E 1) (nt (any Offset?) ∷ []) nil (at + 1) (rw (below_part limit_row c refl refl) e)))
      (λ z. told_done at 0 0 (missing ∷ missing ∷ []) (nil, call_absent K T good.sound c (any Limit?) at (out Limit? (kind_at K at) (ap (mem (kind_at K at)) firsts_Limit ∙ none_of_1 (eqb-false (kind_at K at) LIMIT z))) Limit_may, (neither.0, neither.1)))
    where
      F : OpenRow
      F = record { c = c; A = any Limit?; r = limit_row; l = nil; t = tok_at K T at }

      -- after the limit's part, and the offset's, the row is whole
      ended : (e o : Tree) (a : ℕ) → calls K T c (any Limit?) at ≡ rests K T F (nt (any Offset?) ∷ []) (add nil e) a → (b : ℕ) → calls K T c (any Offset?) a ≡ got o b (from K T b)
          → calls K T c (any Limit?) at ≡ got (node limit_row nil (tok_at K T at) (add (add nil e) o)) b (from K T b)
      ended e o a first b h = first ∙ nt_got K T good.sound F (any Offset?) [] (add nil e) a (rw (below_part limit_row c refl refl) h)
          ∙ row_stop K T good.sound F (add (add nil e) o) b (ends Limit? refl limit_row (cap_of (add (add nil e) o)) (kind_at K b))

      single_end : (e : Tree) → Single (value e).nodes → Single (beside (value e).nodes end)
      single_end e s = (s.0, s.1, s.2, beside_end (value e).nodes ∙ s.3)

      neither : (missing ∷ missing ∷ [] ≡ recs (limit_and_offset (value nil))) × (count (limit_and_offset (value nil)).nodes ≡ 2)
      neither = (refl, refl)

  -- ORDER BY or not, then LIMIT or not
  pub tail_ok : OrderOK K T f → LimitOK K T f → TailOK K T (suc f)
  unfolding expr_w is_query pick value opt choose is_end records count side
  tail_ok order limit at c F is k h = told_choose (eqb (kind_at K at) ORDER) _ (onto (missing ∷ []) (limit_w K T f at c))
      (λ z. let begin = call_in K T good.sound c (any Order?) at (order_row K T) (ap (enter_of sql (any Order?)) (eqb_eq (kind_at K at) ORDER z) ∙ Order_at_ORDER) (part_no_word c (order_row K T) (tok_at K T at) refl refl) in
      told_bind (sort_w K T f (at + 1) c) _ (order (at + 1) c (tok_at K T at))
      (λ a x n rs p. let first = nt_got K T good.sound F (any Order?) (nt (any Limit?) ∷ is) k at (rw h (begin ∙ p.1)) in
      told_onto rs (limit_w K T f a c) (limit a c)
      (λ b s m qs q. (
        p.0,
        q.0,
        first ∙ nt_got K T good.sound F (any Limit?) is (add k p.0) a (rw h q.1),
        rw (opt_there (value p.0) (single_there (value p.0).nodes p.3)) p.3,
        q.2.1,
        rw (opt_there (value p.0) (single_there (value p.0).nodes p.3), p.2, q.2.0) refl,
      ))
      (λ m r e. first ∙ nt_refused K T good.sound F (any Limit?) is (add k p.0) a (rw h e)))
      (λ m p e. nt_refused K T good.sound F (any Order?) (nt (any Limit?) ∷ is) k at (rw h (begin ∙ e))))
      (λ z. let first = nt_got K T good.sound F (any Order?) (nt (any Limit?) ∷ is) k at
      (rw h (call_absent K T good.sound c (any Order?) at (out Order? (kind_at K at) (ap (mem (kind_at K at)) firsts_Order ∙ none_of_1 (eqb-false (kind_at K at) ORDER z))) Order_may)) in
      told_onto (missing ∷ []) (limit_w K T f at c) (limit at c)
      (λ b s m qs q. (nil, q.0, first ∙ nt_got K T good.sound F (any Limit?) is (add k nil) at (rw h q.1), (node_absent, 0, end, refl), q.2.1, ap (λ z. missing ∷ z) q.2.0))
      (λ m r e. first ∙ nt_refused K T good.sound F (any Limit?) is (add k nil) at (rw h e)))

-- A query is read as the grammar says: its body, SELECT or VALUES, then ORDER BY and LIMIT; a 17th query that opens is refused by 6 (body_w,
-- query_w). Assumes nothing.
use mathlib.Core.Bool.{true, false}
use mathlib.Core.List.{List, [], ◌∷◌, ◌++◌}
use mathlib.Core.Option.{some}
use mathlib.Core.Path.{◌≡◌, refl, sym, ap, ◌∙◌}
use Prim.Native.Nat.{ℕ, ◌+◌, suc}
use borrow.Author.Tests.{eqb-false}
use lib.Dec.{eqb, leb}
use Rattle.theory.specs.Trees.{Tok, Nt, nt, Row, nil, add, node}
use Rattle.theory.specs.Table.{pick, both, enter_of}
use Rattle.theory.specs.Outcome.{refused}
use Rattle.theory.proofs.Cases.{eqb_eq}
use Rattle.kinds.specs.Kinds.{SELECT, VALUES}
use Rattle.grammar.specs.Classes.{Rows, Order?, Limit?, any}
use Rattle.grammar.specs.RowNames.{row_select, row_values}
use Rattle.grammar.specs.NodeNames.{node_query, node_select, node_values, node_list}
use Rattle.grammar.specs.Rows.{part, select_items, values_items}
use Rattle.grammar.specs.Grammar.{sql}
use Rattle.grammar.specs.Sizes.{QUERIES}
use Rattle.grammar.specs.Limits.{Around, is_query, below, begun, judge}
use Rattle.grammar.specs.Nodes.{count, Rec, records}
use Rattle.grammar.specs.Reading.{Val, one, opt, column, limit_and_offset, group, rules, ruled, value_of, value, values, ◌#◌}
use Rattle.grammar.proofs.LevelsHold.{no_strength}
use Rattle.descent.proofs.Places.{kind_at, tok_at, wrong, OpenRow, calls, rests}
use Rattle.descent.proofs.Walk.{opening, over, query_w, body_w, tail_w, rows_w, select_w}
use Rattle.descent.proofs.Grown.{recs}
use Rattle.descent.proofs.Steps.{nt_got, nt_refused, call_in, call_word, call_wrong}
use Rattle.descent.proofs.Means.{Single, Good, QueryOK, BodyOK, SelectOK, ValuesOK, TailOK}
use Rattle.descent.proofs.Common.{told_bind, told_map, told_choose, told_done, told_stop}
use Rattle.descent.proofs.Sides.{single_count, one_single}
use Rattle.descent.proofs.NodeRecords.{one_beside, last_beside, beside_is, over_beside}

-- the limits' word where a query opens
query_word : (c : Around) (r : Row) (t : Tok) → is_query r.code ≡ true → r.str ≡ 0 → judge c r nil t nil ≡ pick (leb QUERIES c.opened) 6 (λ w. 0)
unfolding judge begun both pick
query_word c r t q s = rw (q, no_strength r s)

four_records : (rs qs : List Rec) (b o l y : Val) → rs ≡ recs b → Single b.nodes → qs ≡ recs o ++ recs l → Single o.nodes → count l.nodes ≡ 2 → y.nodes ≡ (one node_query 0 (b ∷ o ∷ l ∷ [])).nodes
    → recs y ≡ over 1 0 4 0 (rs ++ qs)
four_records rs qs b o l y e sb g so n w = ap records w ∙ sym (rw (e, g) (over_beside 1 0 4 (b ∷ o ∷ l ∷ []) (recs b ++ (recs o ++ recs l))
    (one_beside b (o ∷ l ∷ []) (recs o ++ recs l) 1 3 (single_count b.nodes sb) (one_beside o (l ∷ []) (recs l) 1 2 (single_count o.nodes so) (last_beside l 2 n)))))

module _ (K T : List ℕ) (good : Good K T) (f : ℕ) where
  -- a query opens, or too many are open
  opens : (at : ℕ) (c : Around) (A : Nt) (r : Row) → enter_of sql A (kind_at K at) ≡ some r → is_query r.code ≡ true → r.str ≡ 0 → leb QUERIES c.opened ≡ false
      → calls K T c A at ≡ rests K T (record { c = c; A = A; r = r; l = nil; t = tok_at K T at }) r.items nil (at + 1)
  unfolding pick
  opens at c A r e q s z = call_in K T good.sound c A at r e (query_word c r (tok_at K T at) q s ∙ rw z)

  too_many : (at : ℕ) (c : Around) (A : Nt) (r : Row) → enter_of sql A (kind_at K at) ≡ some r → is_query r.code ≡ true → r.str ≡ 0 → leb QUERIES c.opened ≡ true → calls K T c A at ≡ refused 6 at
  unfolding pick
  too_many at c A r e q s z = call_word K T good.sound c A at r 5 e (query_word c r (tok_at K T at) q s ∙ rw z)

  pub body_ok : SelectOK K T f → ValuesOK K T f → BodyOK K T (suc f)
  unfolding body_w is_query below pick select_items values_items value values value_of ruled rules ◌#◌
  body_ok se va at c A is hs hv other = told_choose (eqb (kind_at K at) SELECT) _ _
      (λ z. let r = part row_select (select_items ++ is) in let h = ap (enter_of sql A) (eqb_eq (kind_at K at) SELECT z) ∙ hs in
      told_choose (leb QUERIES c.opened) _ _
      (λ y. told_stop 6 at (too_many at c A r h refl refl y))
      (λ y. let b = opens at c A r h refl refl y in
      told_map (select_w K T f (at + 1) (opening c)) (se (at + 1) (opening c) (record { c = c; A = A; r = r; l = nil; t = tok_at K T at }) (nt (any Order?) ∷ nt (any Limit?) ∷ is) refl)
      (λ a s m rs p. (
        r,
        add (add (add (add (add (add (add nil p.0) p.1) p.2) p.3) p.4) p.5) p.6,
        b ∙ p.7,
        refl,
        refl,
        refl,
        refl,
        refl,
        record {
          body = one node_select (value p.0).num (one node_list 0 (column (value p.1) ∷ value p.2 ∷ []) ∷ opt (value p.3) ∷ opt (value p.4) ∷ group (value p.5) (value p.6) ∷ opt (value p.6) ∷ []);
          records = p.8;
          single = one_single 2 (value p.0).num (one node_list 0 (column (value p.1) ∷ value p.2 ∷ []) ∷ opt (value p.3) ∷ opt (value p.4) ∷ group (value p.5) (value p.6) ∷ opt (value p.6) ∷ []);
          whole = λ o l. refl;
          ended = λ o l x. refl;
        },
      ))
      (λ m i w. b ∙ w)))
      (λ z. told_choose (eqb (kind_at K at) VALUES) _ _
      (λ x. let r = part row_values (values_items ++ is) in let h = ap (enter_of sql A) (eqb_eq (kind_at K at) VALUES x) ∙ hv in
      told_choose (leb QUERIES c.opened) _ _
      (λ y. told_stop 6 at (too_many at c A r h refl refl y))
      (λ y. let F : OpenRow = record { c = c; A = A; r = r; l = nil; t = tok_at K T at } in let b = opens at c A r h refl refl y in
      told_bind (rows_w K T f (at + 1) (opening c) 0 0) _ (va (at + 1) (opening c))
      (λ a s n rs p. told_done a 0 0 (over 3 0 n 0 rs) (
        r,
        add nil p.0,
        b ∙ nt_got K T good.sound F (any Rows) (nt (any Order?) ∷ nt (any Limit?) ∷ is) nil (at + 1) p.1,
        refl,
        refl,
        refl,
        refl,
        refl,
        record {
          body = one node_values 0 (value p.0 ∷ []);
          records = over_beside 3 0 n (value p.0 ∷ []) rs (beside_is (value p.0 ∷ []) (recs (value p.0)) rs n n (last_beside (value p.0) n (sym p.2.0)) p.2.1 refl);
          single = one_single 3 0 (value p.0 ∷ []);
          whole = λ o l. refl;
          ended = λ o l x. refl;
        },
      ))
      (λ m i w. b ∙ nt_refused K T good.sound F (any Rows) (nt (any Order?) ∷ nt (any Limit?) ∷ is) nil (at + 1) w)))
      (λ x. let h = other (eqb-false (kind_at K at) SELECT z) (eqb-false (kind_at K at) VALUES x) in told_stop (wrong (kind_at K at)) at (call_wrong K T good.sound c A at h.0 h.1)))

  pub query_ok : BodyOK K T f → TailOK K T f → QueryOK K T (suc f)
  unfolding query_w
  query_ok bo ta at c A is hs hv other = told_bind (body_w K T f at c) _ (bo at c A is hs hv other)
      (λ a x n rs p. let b = p.8 in
      told_bind (tail_w K T f a (opening c)) _ (ta a (opening c) (record { c = c; A = A; r = p.0; l = nil; t = tok_at K T at }) is p.1 p.7)
      (λ d x n qs q. let vs = b.body ∷ opt (value q.0) ∷ limit_and_offset (value q.1) ∷ [] in let k = add (add p.1 q.0) q.1 in
      told_done d 0 0 _ (
        p.0,
        k,
        p.2 ∙ q.2,
        p.3,
        p.4,
        p.5,
        p.6,
        record {
          records = four_records rs qs b.body (opt (value q.0)) (limit_and_offset (value q.1)) (value (node p.0 nil (tok_at K T at) k)) b.records b.single q.5 q.3 q.4 (b.whole q.0 q.1);
          single = rw (b.whole q.0 q.1) (one_single 1 0 vs);
        },
        (λ x. record {
          records = four_records rs qs b.body (opt (value q.0)) (limit_and_offset (value q.1)) (value (node p.0 nil (tok_at K T at) (add k x))) b.records b.single q.5 q.3 q.4 (b.ended q.0 q.1 x);
          single = rw (b.ended q.0 q.1 x) (one_single 1 0 vs);
        }),
      ))
      (λ m i w. p.2 ∙ w))
      (λ m i w. w)

-- SELECT is read as the grammar says: DISTINCT or ALL, columns, clauses (select_w, selected_w). Assumes nothing.
use mathlib.Core.Bool.{false}
use mathlib.Core.List.{List, [], ◌∷◌, ◌++◌}
use mathlib.Core.Option.{some}
use mathlib.Core.Path.{◌≡◌, refl, ap, ◌∙◌}
use Prim.Native.Nat.{ℕ, ◌+◌, suc}
use borrow.Author.Tests.{eqb-false}
use lib.Dec.{eqb}
use native.Mathlib.Omega.{arith}
use Rattle.theory.specs.Trees.{Item, nt, Row, Tree, nil, add, node}
use Rattle.theory.specs.Table.{pick, mem, enter_of}
use Rattle.theory.specs.Outcome.{got, refused}
use Rattle.theory.proofs.Cases.{eqb_eq}
use Rattle.kinds.specs.Kinds.{DISTINCT, ALL}
use Rattle.grammar.specs.Classes.{Column, Distinct?, Columns?, From?, Where?, Group?, Having?, any}
use Rattle.grammar.specs.RowNames.{row_distinct, row_all}
use Rattle.grammar.specs.NodeNames.{node_select, node_list}
use Rattle.grammar.specs.Rows.{part}
use Rattle.grammar.specs.Grammar.{sql}
use Rattle.grammar.specs.Limits.{Around, is_query, below}
use Rattle.grammar.specs.Nodes.{count, Rec}
use Rattle.grammar.specs.Reading.{Val, one, opt, column, group, rules, ruled, value_of, value, values}
use Rattle.descent.proofs.Places.{kind_at, tok_at, from, OpenRow, calls, rests}
use Rattle.descent.proofs.Walk.{over, select_w, selected_w, parts_w, cols_w}
use Rattle.descent.proofs.Grown.{recs}
use Rattle.descent.proofs.Steps.{nt_got}
use Rattle.descent.proofs.ClassFacts.{none_of_2, firsts_Distinct, Distinct_at_DISTINCT, Distinct_at_ALL, Distinct_may}
use Rattle.descent.proofs.Means.{Single, Told, Good, SelectOK, SelectedOK, ColumnsOK, ClausesOK}
use Rattle.descent.proofs.Common.{told_bind, told_map, told_choose, told_done}
use Rattle.descent.proofs.NoTails.{plain_classes}
use Rattle.descent.proofs.Sides.{single_count, one_single}
use Rattle.descent.proofs.PlainClasses.{opened, begin, whole, absent}
use Rattle.descent.proofs.NodeRecords.{one_beside, last_beside, beside_two, beside_is, over_beside}

list_records : (rs : List Rec) (n : ℕ) (x l : Val) → rs ≡ recs x ++ recs l → n ≡ 0 + 1 + count l.nodes → Single x.nodes → over 4 0 n 0 rs ≡ recs (one node_list 0 (x ∷ l ∷ []))
list_records rs n x l e m s = over_beside 4 0 n (x ∷ l ∷ []) rs
    (beside_is (x ∷ l ∷ []) (recs x ++ recs l) rs (1 + count l.nodes) n (one_beside x (l ∷ []) (recs l) 1 (count l.nodes) (single_count x.nodes s) (last_beside l (count l.nodes) refl)) e (omega (arith, m)))

five_records : (detail : ℕ) (rs qs : List Rec) (l u v w x : Val) → rs ≡ recs l → Single l.nodes → Single u.nodes → Single v.nodes → Single w.nodes → Single x.nodes
    → qs ≡ recs u ++ (recs v ++ (recs w ++ recs x)) → over 2 detail 5 0 (rs ++ qs) ≡ recs (one node_select detail (l ∷ u ∷ v ∷ w ∷ x ∷ []))
five_records detail rs qs l u v w x e sl su sv sw sx g = rw (e, g) (over_beside 2 detail 5 (l ∷ u ∷ v ∷ w ∷ x ∷ []) (recs l ++ (recs u ++ (recs v ++ (recs w ++ recs x))))
    (one_beside l (u ∷ v ∷ w ∷ x ∷ []) (recs u ++ (recs v ++ (recs w ++ recs x))) 1 4 (single_count l.nodes sl)
    (one_beside u (v ∷ w ∷ x ∷ []) (recs v ++ (recs w ++ recs x)) 1 3 (single_count u.nodes su)
    (one_beside v (w ∷ x ∷ []) (recs w ++ recs x) 1 2 (single_count v.nodes sv) (beside_two w x sw sx)))))

module _ (K T : List ℕ) (good : Good K T) (f : ℕ) where
  pub selected_ok : ColumnsOK K T f → ClausesOK K T f → SelectedOK K T (suc f)
  unfolding selected_w
  selected_ok co cl at c detail F is k e = let clauses = nt (any From?) ∷ nt (any Where?) ∷ nt (any Group?) ∷ nt (any Having?) ∷ is in
      told_bind (cols_w K T f at c 0) _ (co at c 0 F clauses k e)
      (λ a x n rs p. told_bind (parts_w K T f a c) _ (cl a c F is (add (add k p.0) p.1) e)
      (λ b x m qs q. told_done b 0 0 _ (
        p.0,
        p.1,
        q.0,
        q.1,
        q.2,
        q.3,
        p.2 ∙ q.4,
        five_records detail (over 4 0 n 0 rs) qs (one node_list 0 (column (value p.0) ∷ value p.1 ∷ [])) (opt (value q.0)) (opt (value q.1)) (group (value q.2) (value q.3)) (opt (value q.3))
            (list_records rs n (column (value p.0)) (value p.1) p.5 p.3 p.4) (one_single 4 0 (column (value p.0) ∷ value p.1 ∷ [])) q.5 q.6 q.7 q.8 q.9,
      ))
      (λ m i w. p.2 ∙ w))
      (λ m i w. w)

  -- what DISTINCT or ALL says, or neither, as the part d
  distinct : SelectedOK K T f → (at n : ℕ) (c : Around) (detail : ℕ) (d : Tree) (F : OpenRow) (is : List Item) → below F.r F.c ≡ c
      → calls K T c (any Distinct?) at ≡ got d n (from K T n) → (value d).num ≡ detail
      → Told (selected_w K T f n c detail)
      (λ a s m rs. (d : Tree) × (x : Tree) × (l : Tree) × (from : Tree) × (where' : Tree) × (g : Tree) × (h : Tree)
      × (rests K T F (nt (any Distinct?) ∷ nt (any Column) ∷ nt (any Columns?) ∷ nt (any From?) ∷ nt (any Where?) ∷ nt (any Group?) ∷ nt (any Having?) ∷ is) nil at
      ≡ rests K T F is (add (add (add (add (add (add (add nil d) x) l) from) where') g) h) a)
      × (rs ≡ recs (one node_select (value d).num (one node_list 0 (column (value x) ∷ value l ∷ []) ∷ opt (value from) ∷ opt (value where') ∷ group (value g) (value h) ∷ opt (value h) ∷ []))))
      (λ m p. rests K T F (nt (any Distinct?) ∷ nt (any Column) ∷ nt (any Columns?) ∷ nt (any From?) ∷ nt (any Where?) ∷ nt (any Group?) ∷ nt (any Having?) ∷ is) nil at ≡ refused m p)
  distinct se at n c detail d F is e r v =
      let g = nt_got K T good.sound F (any Distinct?) (nt (any Column) ∷ nt (any Columns?) ∷ nt (any From?) ∷ nt (any Where?) ∷ nt (any Group?) ∷ nt (any Having?) ∷ is) nil at {x = d} {n' = n} (rw e r) in
      told_map (selected_w K T f n c detail) (se n c detail F is (add nil d) e)
      (λ a s m rs p. (d, p.0, p.1, p.2, p.3, p.4, p.5, g ∙ p.6, rw v p.7))
      (λ m i w. g ∙ w)

  distinct_row : (at : ℕ) (c : Around) (r : Row) → enter_of sql (any Distinct?) (kind_at K at) ≡ some r → is_query r.code ≡ false → r.str ≡ 0 → r.items ≡ []
      → calls K T c (any Distinct?) at ≡ got (node r nil (tok_at K T at) nil) (at + 1) (from K T (at + 1))
  unfolding plain_classes mem pick
  distinct_row at c r e q s i = begin K T good c Distinct? r at e q s ∙ ap (λ z. rests K T (opened K T c Distinct? r at) z nil (at + 1)) i ∙ whole K T good c Distinct? r at nil (at + 1) refl

  pub select_ok : SelectedOK K T f → SelectOK K T (suc f)
  unfolding select_w is_query pick value values value_of ruled rules
  select_ok se at c F is e = told_choose (eqb (kind_at K at) DISTINCT) _ _
      (λ z. distinct se at (at + 1) c 1 (node (part row_distinct []) nil (tok_at K T at) nil) F is e
      (distinct_row at c (part row_distinct []) (ap (enter_of sql (any Distinct?)) (eqb_eq (kind_at K at) DISTINCT z) ∙ Distinct_at_DISTINCT) refl refl refl) refl)
      (λ z. told_choose (eqb (kind_at K at) ALL) _ _
      (λ y. distinct se at (at + 1) c 2 (node (part row_all []) nil (tok_at K T at) nil) F is e
      (distinct_row at c (part row_all []) (ap (enter_of sql (any Distinct?)) (eqb_eq (kind_at K at) ALL y) ∙ Distinct_at_ALL) refl refl refl) refl)
      (λ y. distinct se at at c 0 nil F is e
      (absent K T good c Distinct? at (ap (mem (kind_at K at)) firsts_Distinct ∙ none_of_2 (eqb-false (kind_at K at) DISTINCT z) (eqb-false (kind_at K at) ALL y)) Distinct_may) refl))

-- GROUP BY and HAVING, and FROM, WHERE, GROUP BY, HAVING in that order, are read as the grammar says (group_w, parts_w). Assumes nothing.
use mathlib.Core.Bool.{true, false}
use mathlib.Core.List.{List, [], ◌∷◌, ◌++◌, append_assoc}
use mathlib.Core.Path.{◌≡◌, refl, sym, ap, ◌∙◌, ap₂}
use Prim.Native.Nat.{ℕ, ◌+◌, suc}
use borrow.Author.Tests.{eqb-false}
use lib.Dec.{eqb}
use native.Mathlib.Omega.{arith}
use Rattle.theory.specs.Trees.{lit, nt, Row, Tree, nil, add, leaf, node}
use Rattle.theory.specs.Table.{pick, both, mem, enter_of}
use Rattle.theory.specs.Outcome.{got, refused}
use Rattle.theory.proofs.Cases.{eqb_eq}
use Rattle.kinds.specs.Kinds.{WHERE, GROUP, BY, HAVING}
use Rattle.grammar.specs.Classes.{Exprs?, From?, Where?, Group?, Having?, E, any}
use Rattle.grammar.specs.RowNames.{row_where, row_group, row_having}
use Rattle.grammar.specs.NodeNames.{node_list}
use Rattle.grammar.specs.Rows.{part}
use Rattle.grammar.specs.Grammar.{sql}
use Rattle.grammar.specs.Limits.{Around, is_query, below}
use Rattle.grammar.specs.Nodes.{end, count, Rec, rec, records}
use Rattle.grammar.specs.Reading.{Val, empty, side, one, choose, is_end, none_there, opt, group, rules, ruled, value_of, value, values, ◌#◌}
use Rattle.descent.proofs.Places.{kind_at, tok_at, from, wrong, calls, rests}
use Rattle.descent.proofs.Walk.{missing, over, expr_w, list_w, parts_w, clause_w, group_w, from_w}
use Rattle.descent.proofs.Grown.{recs}
use Rattle.descent.proofs.Steps.{nt_got, nt_refused}
use Rattle.descent.proofs.ClassFacts.{none_of_1, firsts_Group, Group_at_GROUP, Group_may, firsts_Having, Having_at_HAVING, Having_may}
use Rattle.descent.proofs.Means.{Single, Told, Good, Reads, ExprOK, ListOK, ClauseOK, ClausesOK, GroupOK, FromOK}
use Rattle.descent.proofs.Common.{told_bind, told_onto, told_map, told_choose, told_done, told_stop}
use Rattle.descent.proofs.NoTails.{plain_classes}
use Rattle.descent.proofs.Sides.{single_count, single_there, one_single}
use Rattle.descent.proofs.PlainClasses.{opened, begin, whole, absent, took, not_took, one_item, expr_reads, two_on}
use Rattle.descent.proofs.Values.{opt_there, recs_missing}
use Rattle.descent.proofs.NodeRecords.{not_there, one_beside, last_beside, beside_empty, beside_is, over_beside}
use Rattle.descent.proofs.Clauses.{where_clause, having_clause}

abbrev group_row : Row
group_row = part row_group (lit BY ∷ nt (E 1) ∷ nt (any Exprs?) ∷ [])

abbrev having_row : Row
having_row = part row_having (nt (E 1) ∷ [])

abbrev where_row : Row
where_row = part row_where (nt (E 1) ∷ [])

-- a group list that is there
group_there : (g h : Val) → Single g.nodes → group g h ≡ g
unfolding group both choose
group_there g h s = rw (single_there g.nodes s) (opt_there g (single_there g.nodes s))

-- HAVING alone; neither
group_none : (g h : Val) → g.nodes ≡ end → Single h.nodes → group g h ≡ one node_list 0 []
unfolding group both choose is_end
group_none g h e s = rw (e, single_there h.nodes s)

group_absent : (g h : Val) → g.nodes ≡ end → h.nodes ≡ end → group g h ≡ none_there
unfolding group opt both choose is_end
group_absent g h e w = rw (e, w)

group_records : (rs : List Rec) (n : ℕ) (x l g h : Val) → rs ≡ recs x ++ recs l → n ≡ 0 + 1 + count l.nodes → Single x.nodes → g.nodes ≡ (one node_list 0 (empty ∷ x ∷ l ∷ [])).nodes
    → (over 4 0 n 0 rs ≡ recs (group g h)) × Single (group g h).nodes
group_records rs n x l g h e m s w =
    let p : Single g.nodes = rw w (one_single 4 0 (empty ∷ x ∷ l ∷ [])) in
    let b = beside_empty (x ∷ l ∷ []) (recs x ++ recs l) (1 + count l.nodes) (one_beside x (l ∷ []) (recs l) 1 (count l.nodes) (single_count x.nodes s) (last_beside l (count l.nodes) refl)) in (
      over_beside 4 0 n (empty ∷ x ∷ l ∷ []) rs (beside_is (empty ∷ x ∷ l ∷ []) (recs x ++ recs l) rs (1 + count l.nodes) n b e (omega (arith, m))) ∙ ap records (sym w) ∙ ap recs (sym (group_there g h p)),
      rw (group_there g h p) p,
    )

recs_list : recs (one node_list 0 []) ≡ rec 4 0 0 1 ∷ []
unfolding records side count
recs_list = refl

module _ (K T : List ℕ) (good : Good K T) (f : ℕ) where
  -- GROUP, and the list after GROUP BY
  group_begins : (at : ℕ) (c : Around) → eqb (kind_at K at) GROUP ≡ true → calls K T c (any Group?) at ≡ rests K T (opened K T c Group? group_row at) group_row.items nil (at + 1)
  unfolding is_query pick
  group_begins at c z = begin K T good c Group? group_row at (ap (enter_of sql (any Group?)) (eqb_eq (kind_at K at) GROUP z) ∙ Group_at_GROUP) refl refl

  group_list : ListOK K T f → (at : ℕ) (c : Around) → eqb (kind_at K at) GROUP ≡ true → eqb (kind_at K (at + 1)) BY ≡ true
      → Told (list_w K T f (at + 2) c 0)
      (λ a s n rs. (g : Tree) × (calls K T c (any Group?) at ≡ got g a (from K T a)) × ((h : Val) → (over 4 0 n 0 rs ≡ recs (group (value g) h)) × Single (group (value g) h).nodes))
      (λ m p. calls K T c (any Group?) at ≡ refused m p)
  unfolding is_query below pick plain_classes mem value values value_of ruled rules
  group_list li at c z y = let F = opened K T c Group? group_row at in let k = add nil (leaf (tok_at K T (at + 1))) in
      let l = group_begins at c z ∙ took K T good F BY (nt (E 1) ∷ nt (any Exprs?) ∷ []) nil (at + 1) (omega arith) refl y ∙ ap (rests K T F (nt (E 1) ∷ nt (any Exprs?) ∷ []) k) (two_on at) in
      told_map (list_w K T f (at + 2) c 0) (li (at + 2) c 0 F [] k refl)
      (λ a x n rs p. let k' = add (add k p.0) p.1 in (
        node group_row nil (tok_at K T at) k',
        l ∙ p.2 ∙ whole K T good c Group? group_row at k' a refl,
        (λ h. group_records rs n (value p.0) (value p.1) (value (node group_row nil (tok_at K T at) k')) h p.6 (p.4 ∙ ap (λ i. 0 + 1 + i) p.5) p.3.1.single refl),
      ))
      (λ m i e. l ∙ e)

  having_got : ExprOK K T f → (at : ℕ) (c : Around) → eqb (kind_at K at) HAVING ≡ true
      → Reads K T c (any Having?) at (expr_w K T f (at + 1) c 1) (λ h s n rs. Single (value h).nodes × (rs ≡ recs (value h)))
  unfolding is_query pick plain_classes mem value values value_of ruled rules ◌#◌
  having_got ex at c z = told_map (expr_w K T f (at + 1) c 1)
      (one_item K T good c Having? having_row (E 1) at _ _ refl (ap (enter_of sql (any Having?)) (eqb_eq (kind_at K at) HAVING z) ∙ Having_at_HAVING) refl refl refl (expr_reads K T good f ex (at + 1) c))
      (λ a s n rs p. (node having_row nil (tok_at K T at) (add nil p.0), p.1, p.2))
      (λ m i e. e)

  no_group : (at : ℕ) (c : Around) → eqb (kind_at K at) GROUP ≡ false → calls K T c (any Group?) at ≡ got nil at (from K T at)
  no_group at c z = absent K T good c Group? at (ap (mem (kind_at K at)) firsts_Group ∙ none_of_1 (eqb-false (kind_at K at) GROUP z)) Group_may

  pub group_ok : ExprOK K T f → ListOK K T f → ClauseOK K T f → GroupOK K T (suc f)
  unfolding group_w value
  group_ok ex li cl at c F is k e = told_choose (eqb (kind_at K at) GROUP) _ _
      (λ z. told_choose (eqb (kind_at K (at + 1)) BY) _ _
      (λ y. told_bind (list_w K T f (at + 2) c 0) _ (group_list li at c z y)
      (λ a x n rs p. let g = nt_got K T good.sound F (any Group?) (nt (any Having?) ∷ is) k at (rw e p.1) in
      told_onto (over 4 0 n 0 rs) (clause_w K T f a HAVING c) (cl a c Having? HAVING having_row having_clause)
      (λ d s m qs q. (
        p.0,
        q.0,
        g ∙ nt_got K T good.sound F (any Having?) is (add k p.0) a (rw e q.1),
        (p.2 (value q.0)).1,
        q.2.1,
        ap₂ ◌++◌ (p.2 (value q.0)).0 q.2.0,
      ))
      (λ m i w. g ∙ nt_refused K T good.sound F (any Having?) is (add k p.0) a (rw e w)))
      (λ m i w. nt_refused K T good.sound F (any Group?) (nt (any Having?) ∷ is) k at (rw e w)))
      (λ y. told_stop (wrong (kind_at K (at + 1))) (at + 1) (nt_refused K T good.sound F (any Group?) (nt (any Having?) ∷ is) k at
      (rw e (group_begins at c z ∙ not_took K T good (opened K T c Group? group_row at) BY (nt (E 1) ∷ nt (any Exprs?) ∷ []) nil (at + 1) (omega arith) y)))))
      (λ z. let g = nt_got K T good.sound F (any Group?) (nt (any Having?) ∷ is) k at (rw e (no_group at c z)) in
      told_choose (eqb (kind_at K at) HAVING) _ _
      (λ y. told_onto (rec 4 0 0 1 ∷ []) (expr_w K T f (at + 1) c 1) (having_got ex at c y)
      (λ a s n qs p. let w = group_none empty (value p.0) refl p.2.0 in let t = opt_there (value p.0) (single_there (value p.0).nodes p.2.0) in (
        nil,
        p.0,
        g ∙ nt_got K T good.sound F (any Having?) is (add k nil) at (rw e p.1),
        rw w (one_single 4 0 []),
        rw t p.2.0,
        ap₂ ◌++◌ (sym recs_list ∙ ap recs (sym w)) (p.2.1 ∙ ap recs (sym t)),
      ))
      (λ m i w. g ∙ nt_refused K T good.sound F (any Having?) is (add k nil) at (rw e w)))
      (λ y. let w = group_absent empty empty refl refl in let t = not_there empty refl in told_done at 0 0 (missing ∷ missing ∷ []) (
        nil,
        nil,
        g ∙ nt_got K T good.sound F (any Having?) is (add k nil) at (rw e (absent K T good c Having? at (ap (mem (kind_at K at)) firsts_Having ∙ none_of_1 (eqb-false (kind_at K at) HAVING y)) Having_may)),
        rw w (one_single 0 0 []),
        t.0,
        ap₂ ◌++◌ (sym recs_missing ∙ ap recs (sym w)) t.1,
      )))

  pub clauses_ok : FromOK K T f → ClauseOK K T f → GroupOK K T f → ClausesOK K T (suc f)
  unfolding parts_w
  clauses_ok fr cl gr at c F is k e =
      let is2 = nt (any Group?) ∷ nt (any Having?) ∷ is in let is1 = nt (any Where?) ∷ is2 in
      told_bind (from_w K T f at c) _ (fr at c)
      (λ a x n rs p. let g1 = nt_got K T good.sound F (any From?) is1 k at (rw e p.1) in
      told_bind (clause_w K T f a WHERE c) _ (cl a c Where? WHERE where_row where_clause)
      (λ b x n qs q. let g2 = g1 ∙ nt_got K T good.sound F (any Where?) is2 (add k p.0) a (rw e q.1) in
      told_onto (rs ++ qs) (group_w K T f b c) (gr b c F is (add (add k p.0) q.0) e)
      (λ d x n ps r. (
        p.0,
        q.0,
        r.0,
        r.1,
        g2 ∙ r.2,
        p.2.1,
        q.2.1,
        r.3,
        r.4,
        append_assoc rs qs ps ∙ rw (p.2.0, q.2.0, r.5) refl,
      ))
      (λ m i w. g2 ∙ w))
      (λ m i w. g1 ∙ nt_refused K T good.sound F (any Where?) is2 (add k p.0) a (rw e w)))
      (λ m i w. nt_refused K T good.sound F (any From?) is1 k at (rw e w))

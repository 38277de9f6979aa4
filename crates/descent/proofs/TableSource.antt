-- A table in FROM is read as the grammar says: a name, optional DOT name, alias, INDEXED BY name or NOT INDEXED (index_w, qualified_w,
-- table_w). Assumes nothing.
use mathlib.Core.Bool.{true, false}
use mathlib.Core.List.{List, [], ◌∷◌, ◌++◌}
use mathlib.Core.Option.{some, none}
use mathlib.Core.Path.{◌≡◌, refl, sym, ap, ◌∙◌, ap₂}
use Prim.Native.Nat.{ℕ, ◌+◌, ◌*◌}
use borrow.Author.Tests.{eqb-false}
use lib.Dec.{eqb}
use native.Mathlib.Omega.{arith}
use Rattle.theory.specs.Trees.{Tok, lit, nt, Row, Tree, nil, add, leaf, node}
use Rattle.theory.specs.Table.{pick, both, on_row, mem, lookup, asked, enter_of}
use Rattle.theory.specs.Outcome.{refused}
use Rattle.theory.proofs.Cases.{by_bool, eqb_eq}
use Rattle.theory.proofs.Tested.{allb}
use Rattle.kinds.specs.Kinds.{ID, KWID, STRING, INDEXED, JOIN_KW, LP, DOT, NOT, BY}
use Rattle.kinds.specs.Classes.{is_name}
use Rattle.grammar.specs.Classes.{Name, Source, Dot?, Alias?, Index?, any}
use Rattle.grammar.specs.RowNames.{row_table, row_indexed_by, row_not_indexed}
use Rattle.grammar.specs.NodeNames.{node_table}
use Rattle.grammar.specs.Rows.{part, but_column, exprs, select_items, values_items, lines, heads_of, tails_of}
use Rattle.grammar.specs.Grammar.{sql}
use Rattle.grammar.specs.Limits.{Around, is_query, below}
use Rattle.grammar.specs.Nodes.{end, count, beside, Rec, records}
use Rattle.grammar.specs.Reading.{Val, empty, side, cat, one, choose, is_end, none_there, opt, name, rules, ruled, value_of, value, values, ◌#◌}
use Rattle.descent.proofs.Places.{kind_at, tok_at, wrong, calls, rests}
use Rattle.descent.proofs.Walk.{Walked, done, bind, onto, missing, over, wrong_at, name_rec, name_w, alias_w, qualified_w, index_w, table_w}
use Rattle.descent.proofs.Grown.{recs}
use Rattle.descent.proofs.SameRow.{eq_nt, eq_item, eq_items, eq_row, eq_found}
use Rattle.descent.proofs.Steps.{nt_got, nt_refused, call_wrong}
use Rattle.descent.proofs.ClassFacts.{out, none_of_1, none_of_2, firsts_Source, Source_may, firsts_Dot, Dot_at_DOT, Dot_may, firsts_Index, Index_at_INDEXED, Index_at_NOT, Index_may}
use Rattle.descent.proofs.Means.{Single, Told, Good, Reads}
use Rattle.descent.proofs.Common.{told_bind, told_onto, told_map, told_choose, told_done, told_stop}
use Rattle.descent.proofs.NoTails.{plain_classes}
use Rattle.descent.proofs.Sides.{single_there, one_single}
use Rattle.descent.proofs.PlainClasses.{enters, among_mem, mem_apart, opened, begin, whole, absent, took, not_took, one_item, two_on}
use Rattle.descent.proofs.Values.{recs_missing, name_single, recs_name}
use Rattle.descent.proofs.NodeRecords.{there, not_there, side_one, one_beside, beside_two, over_beside}
use Rattle.descent.proofs.Names.{name_reads}
use Rattle.descent.proofs.NamesOfColumn.{dot_name_row}
use Rattle.descent.proofs.Alias.{Optional, alias_ok}

abbrev index_row : Row
index_row = part row_indexed_by (lit BY ∷ nt (any Name) ∷ [])

abbrev not_index_row : Row
not_index_row = part row_not_indexed (lit INDEXED ∷ [])

abbrev table_row : Row
table_row = part row_table (nt (any Dot?) ∷ nt (any Alias?) ∷ nt (any Index?) ∷ [])

table_kinds : allb (λ k. eq_found (enter_of sql (any Source) k) (some table_row)) (ID ∷ KWID ∷ STRING ∷ INDEXED ∷ JOIN_KW ∷ []) ≡ true
unfolding sql lines but_column exprs select_items values_items heads_of tails_of pick both allb mem lookup asked enter_of on_row eq_found eq_row eq_items eq_item eq_nt
table_kinds = refl

table_in : (k : ℕ) → is_name k ≡ true → enter_of sql (any Source) k ≡ some table_row
unfolding is_name
table_in k e = enters Source table_row (ID ∷ KWID ∷ STRING ∷ INDEXED ∷ JOIN_KW ∷ []) table_kinds k (among_mem k (ID ∷ KWID ∷ STRING ∷ INDEXED ∷ JOIN_KW ∷ []) ∙ e)

table_out : (k : ℕ) → eqb k LP ≡ false → is_name k ≡ false → enter_of sql (any Source) k ≡ none
unfolding is_name
table_out k l e = out Source k (ap (mem k) firsts_Source
    ∙ mem_apart k (ID ∷ KWID ∷ STRING ∷ INDEXED ∷ JOIN_KW ∷ []) (LP ∷ []) (among_mem k (ID ∷ KWID ∷ STRING ∷ INDEXED ∷ JOIN_KW ∷ []) ∙ e) (none_of_1 (eqb-false k LP l)))

-- a name with one before it, or none
abbrev qualified : Val → Tok → Val
qualified v t = choose (is_end v.nodes) (cat (none_there ∷ name t ∷ [])) (cat (name t ∷ v ∷ []))

-- its two records
abbrev BothNames : List Rec → Val → Tok → Type 0
BothNames rs v t = (rs ≡ recs (qualified v t)) × (count (qualified v t).nodes ≡ 2)

both_names : (v : Val) (t : Tok) → Single v.nodes → BothNames (recs (name t) ++ recs v) v t
unfolding choose
both_names v t s = let b = beside_two (name t) v (name_single t) s in rw (single_there v.nodes s) (b.records, sym b.many)

one_name : (v : Val) (t : Tok) → v.nodes ≡ end → BothNames (recs none_there ++ recs (name t)) v t
unfolding choose is_end
one_name v t e = let b = beside_two none_there (name t) (one_single 0 0 []) (name_single t) in rw e (b.records, sym b.many)

table_records : (mode by : ℕ) (rs qs ps : List Rec) (v a i : Val) (t : Tok) → BothNames rs v t
    → (mode ≡ a.num) × Single (opt a).nodes × (qs ≡ recs (opt a)) → (by ≡ i.num) × Single (opt i).nodes × (ps ≡ recs (opt i))
    → over 12 (mode + 4 * by) 4 0 (rs ++ (qs ++ ps)) ≡ recs (one node_table (a.num + 4 * i.num) (qualified v t ∷ opt a ∷ opt i ∷ []))
table_records mode by rs qs ps v a i t p q r = rw (p.0, q.0, q.2, r.0, r.2)
    (over_beside 12 (a.num + 4 * i.num) 4 (qualified v t ∷ opt a ∷ opt i ∷ []) (recs (qualified v t) ++ (recs (opt a) ++ recs (opt i)))
    (one_beside (qualified v t) (opt a ∷ opt i ∷ []) (recs (opt a) ++ recs (opt i)) 2 2 p.1 (beside_two (opt a) (opt i) q.1 r.1)))

module _ (K T : List ℕ) (good : Good K T) where
  by_name : (at : ℕ) (c : Around) → eqb (kind_at K at) INDEXED ≡ true → Optional K T Index? c at (choose (eqb (kind_at K (at + 1)) BY) (bind (name_w K T (at + 2)) (λ a s n rs. done a 1 0 rs)) (wrong_at K T (at + 1)))
  unfolding is_query below pick plain_classes mem value values value_of ruled rules side beside
  by_name at c z =
      let F = opened K T c Index? index_row at in
      let b = begin K T good c Index? index_row at (ap (enter_of sql (any Index?)) (eqb_eq (kind_at K at) INDEXED z) ∙ Index_at_INDEXED) refl refl in
      told_choose (eqb (kind_at K (at + 1)) BY) _ _
      (λ y. let l = b ∙ took K T good F BY (nt (any Name) ∷ []) nil (at + 1) (omega arith) refl y ∙ ap (rests K T F (nt (any Name) ∷ []) (add nil (leaf (tok_at K T (at + 1))))) (two_on at) in
      told_bind (name_w K T (at + 2)) _ (name_reads K T good c (at + 2))
      (λ a s n rs p. let k = add (add nil (leaf (tok_at K T (at + 1)))) p.0 in
      let t = there (value (node index_row nil (tok_at K T at) k)) (value p.0) (side_one (value p.0)) p.2.0 in told_done a 1 0 rs (
        node index_row nil (tok_at K T at) k,
        l ∙ nt_got K T good.sound F (any Name) [] (add nil (leaf (tok_at K T (at + 1)))) (at + 2) p.1 ∙ whole K T good c Index? index_row at k a refl,
        (refl, t.0, p.2.1 ∙ t.1),
      ))
      (λ m p q. l ∙ nt_refused K T good.sound F (any Name) [] (add nil (leaf (tok_at K T (at + 1)))) (at + 2) q))
      (λ y. told_stop (wrong (kind_at K (at + 1))) (at + 1) (b ∙ not_took K T good F BY (nt (any Name) ∷ []) nil (at + 1) (omega arith) y))

  not_indexed : (at : ℕ) (c : Around) → eqb (kind_at K at) NOT ≡ true → Optional K T Index? c at (choose (eqb (kind_at K (at + 1)) INDEXED) (done (at + 2) 2 0 (missing ∷ [])) (wrong_at K T (at + 1)))
  unfolding is_query below pick plain_classes mem value values value_of ruled rules side beside
  not_indexed at c z =
      let F = opened K T c Index? not_index_row at in
      let b = begin K T good c Index? not_index_row at (ap (enter_of sql (any Index?)) (eqb_eq (kind_at K at) NOT z) ∙ Index_at_NOT) refl refl in
      told_choose (eqb (kind_at K (at + 1)) INDEXED) _ _
      (λ y. let k = add nil (leaf (tok_at K T (at + 1))) in let t = not_there (value (node not_index_row nil (tok_at K T at) k)) refl in told_done (at + 2) 2 0 (missing ∷ []) (
        node not_index_row nil (tok_at K T at) k,
        b ∙ took K T good F INDEXED [] nil (at + 1) (omega arith) refl y ∙ ap (rests K T F [] k) (two_on at) ∙ whole K T good c Index? not_index_row at k (at + 2) refl,
        (refl, t.0, t.1),
      ))
      (λ y. told_stop (wrong (kind_at K (at + 1))) (at + 1) (b ∙ not_took K T good F INDEXED [] nil (at + 1) (omega arith) y))

  pub index_ok : (at : ℕ) (c : Around) → Optional K T Index? c at (index_w K T at)
  unfolding index_w value
  index_ok at c = told_choose (eqb (kind_at K at) INDEXED) _ _ (by_name at c)
      (λ z. told_choose (eqb (kind_at K at) NOT) _ _ (not_indexed at c)
      (λ y. let t = not_there empty refl in told_done at 0 0 (missing ∷ []) (
        nil,
        absent K T good c Index? at (ap (mem (kind_at K at)) firsts_Index ∙ none_of_2 (eqb-false (kind_at K at) INDEXED z) (eqb-false (kind_at K at) NOT y)) Index_may,
        (refl, t.0, t.1),
      )))

  -- the walk over a name
  walk_name : (n : ℕ) → is_name (kind_at K n) ≡ true → name_w K T n ≡ done (n + 1) 0 0 (name_rec K T n ∷ [])
  unfolding name_w choose
  walk_name n e = rw e

  walk_no_name : (n : ℕ) → is_name (kind_at K n) ≡ false → name_w K T n ≡ wrong_at K T n
  unfolding name_w choose
  walk_no_name n e = rw e

  dot_name : (at : ℕ) (c : Around) → eqb (kind_at K at) DOT ≡ true → Reads K T c (any Dot?) at (name_w K T (at + 1)) (λ y s m rs. Single (value y).nodes × (rs ≡ recs (value y)))
  unfolding is_query below pick plain_classes mem value values value_of ruled rules
  dot_name at c z = told_map (name_w K T (at + 1))
      (one_item K T good c Dot? dot_name_row (any Name) at _ _ refl (ap (enter_of sql (any Dot?)) (eqb_eq (kind_at K at) DOT z) ∙ Dot_at_DOT) refl refl refl (name_reads K T good c (at + 1)))
      (λ a s n rs p. (node dot_name_row nil (tok_at K T at) (add nil p.0), p.1, (rw (side_one (value p.0)) p.2.0, p.2.1 ∙ ap records (sym (side_one (value p.0))))))
      (λ m p q. q)

  abbrev Qualified : ℕ → Around → Walked → Type 0
  Qualified at c w = Told w
      (λ a s m rs. (d : Tree) × (calls K T c (any Source) at ≡ rests K T (opened K T c Source table_row at) (nt (any Alias?) ∷ nt (any Index?) ∷ []) (add nil d) a) × BothNames rs (value d) (tok_at K T at))
      (λ m p. calls K T c (any Source) at ≡ refused m p)

  qualified_there : (at : ℕ) (c : Around) → is_name (kind_at K at) ≡ true → Qualified at c (qualified_w K T at)
  unfolding qualified_w bind onto is_query below pick value
  qualified_there at c e = let F = opened K T c Source table_row at in let b = begin K T good c Source table_row at (table_in (kind_at K at) e) refl refl in
      rw (walk_name at e) (told_choose (eqb (kind_at K (at + 1)) DOT) _ _
      (λ z. told_onto (name_rec K T at ∷ []) (name_w K T (at + 1 + 1)) (dot_name (at + 1) c z)
      (λ a s n qs p. let h = both_names (value p.0) (tok_at K T at) p.2.0 in (
        p.0,
        b ∙ nt_got K T good.sound F (any Dot?) (nt (any Alias?) ∷ nt (any Index?) ∷ []) nil (at + 1) p.1,
        (ap (λ x. name_rec K T at ∷ x) p.2.1 ∙ ap (λ x. x ++ recs (value p.0)) (sym (recs_name (tok_at K T at))) ∙ h.0, h.1),
      ))
      (λ m p q. b ∙ nt_refused K T good.sound F (any Dot?) (nt (any Alias?) ∷ nt (any Index?) ∷ []) nil (at + 1) q))
      (λ z. let h = one_name (value nil) (tok_at K T at) refl in told_done (at + 1) 0 0 (missing ∷ name_rec K T at ∷ []) (
        nil,
        b ∙ nt_got K T good.sound F (any Dot?) (nt (any Alias?) ∷ nt (any Index?) ∷ []) nil (at + 1)
            (absent K T good c Dot? (at + 1) (ap (mem (kind_at K (at + 1))) firsts_Dot ∙ none_of_1 (eqb-false (kind_at K (at + 1)) DOT z)) Dot_may),
        (ap₂ ◌++◌ (sym recs_missing) (sym (recs_name (tok_at K T at))) ∙ h.0, h.1),
      )))

  qualified_wrong : (at : ℕ) (c : Around) → eqb (kind_at K at) LP ≡ false → is_name (kind_at K at) ≡ false → Qualified at c (qualified_w K T at)
  unfolding qualified_w bind onto
  qualified_wrong at c l e = let q = call_wrong K T good.sound c (any Source) at (table_out (kind_at K at) l e) Source_may in
      rw (walk_no_name at e) (told_choose (eqb (kind_at K (at + 1)) DOT) _ _ (λ z. told_stop (wrong (kind_at K at)) at q) (λ z. told_stop (wrong (kind_at K at)) at q))

  pub table_ok : (at : ℕ) (c : Around) → eqb (kind_at K at) LP ≡ false → Reads K T c (any Source) at (table_w K T at) (λ y s m rs. (rs ≡ recs (value y)) × Single (value y).nodes)
  unfolding table_w is_query below pick plain_classes mem value values value_of ruled rules ◌#◌
  table_ok at c l = let F = opened K T c Source table_row at in
      told_bind (qualified_w K T at) _ (by_bool (is_name (kind_at K at)) (qualified_there at c) (qualified_wrong at c l))
      (λ a s n rs p. told_bind (alias_w K T a) _ (alias_ok K T good a c)
      (λ b mode n qs q. told_bind (index_w K T b) _ (index_ok b c)
      (λ d by n ps r. told_done d 0 0 (over 12 (mode + 4 * by) 4 0 (rs ++ (qs ++ ps))) (
        node table_row nil (tok_at K T at) (add (add (add nil p.0) q.0) r.0),
        p.1 ∙ nt_got K T good.sound F (any Alias?) (nt (any Index?) ∷ []) (add nil p.0) a q.1
            ∙ nt_got K T good.sound F (any Index?) [] (add (add nil p.0) q.0) b r.1 ∙ whole K T good c Source table_row at (add (add (add nil p.0) q.0) r.0) d refl,
        (
          table_records mode by rs qs ps (value p.0) (value q.0) (value r.0) (tok_at K T at) p.2 q.2 r.2,
          one_single 12 ((value q.0).num + 4 * (value r.0).num) (qualified (value p.0) (tok_at K T at) ∷ opt (value q.0) ∷ opt (value r.0) ∷ []),
        ),
      ))
      (λ m i e. p.1 ∙ nt_got K T good.sound F (any Alias?) (nt (any Index?) ∷ []) (add nil p.0) a q.1 ∙ nt_refused K T good.sound F (any Index?) [] (add (add nil p.0) q.0) b e))
      (λ m i e. p.1 ∙ nt_refused K T good.sound F (any Alias?) (nt (any Index?) ∷ []) (add nil p.0) a e))
      (λ m i e. e)

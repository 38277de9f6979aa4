-- The joins after a source are read as the grammar says: COMMA, JOIN or join words, a source, a constraint, one after the other (joined_w,
-- joins_w). Assumes nothing.
use mathlib.Core.Bool.{true}
use mathlib.Core.List.{List, [], ◌∷◌, ◌++◌, append_assoc, append-nil}
use mathlib.Core.Path.{◌≡◌, refl, sym, ap, ◌∙◌}
use Prim.Native.Nat.{ℕ, ◌+◌, suc}
use lib.Dec.{eqb}
use lib.ListN.{get_or}
use native.Mathlib.Omega.{arith}
use Rattle.theory.specs.Trees.{Tok, nt, Row, Tree, nil, add, leaf, node}
use Rattle.theory.specs.Table.{pick, both, mem, enter_of}
use Rattle.theory.specs.Outcome.{got, refused}
use Rattle.theory.proofs.Cases.{0≢1, eqb_eq}
use Rattle.theory.proofs.Tested.{allb}
use Rattle.kinds.specs.Kinds.{JOIN_KW, COMMA, JOIN}
use Rattle.words.specs.Flags.{flags_of, united}
use Rattle.grammar.specs.Classes.{Source, Joins?, On?, any}
use Rattle.grammar.specs.RowNames.{row_comma_join, row_join}
use Rattle.grammar.specs.NodeNames.{node_join}
use Rattle.grammar.specs.Rows.{goes, part, but_column, exprs, select_items, values_items, lines, heads_of, tails_of}
use Rattle.grammar.specs.Grammar.{sql, G}
use Rattle.grammar.specs.Limits.{Around, is_query, below}
use Rattle.grammar.specs.Nodes.{count, Rec, records}
use Rattle.grammar.specs.Reading.{Val, cat, one, says, choose, opt, rules, ruled, value_of, value, values, ◌#◌}
use Rattle.theory.proofs.Lists.{Lists, lines_of, ListTest, lists, Begun, more}
use Rattle.descent.proofs.Places.{kind_at, tok_at, from, rests}
use Rattle.descent.proofs.Walk.{bind, onto, over, join_w, joined_w, joins_w, on_w, source_w}
use Rattle.descent.proofs.Grown.{recs}
use Rattle.descent.proofs.Steps.{nt_got, nt_refused}
use Rattle.descent.proofs.ClassFacts.{out, firsts_Joins, Joins_at_COMMA, Joins_at_JOIN, Joins_at_JOIN_KW, Joins_may}
use Rattle.descent.proofs.Means.{Single, Told, Good, goes_on, SourceOK, JoinsOK, OnOK}
use Rattle.descent.proofs.Common.{told_bind, told_onto, told_map, told_choose, told_done}
use Rattle.descent.proofs.Sides.{single_count, one_single}
use Rattle.descent.proofs.NodeRecords.{one_beside, last_beside, beside_two, over_beside}
use Rattle.descent.proofs.Loops.{further, goes_in, goes_out, goes_with}
use Rattle.descent.proofs.JoinWords.{word_join_row, words_ok}

abbrev comma_row : Row
comma_row = part row_comma_join (nt (any Source) ∷ nt (any On?) ∷ [])

abbrev join_row : Row
join_row = part row_join (nt (any Source) ∷ nt (any On?) ∷ [])

joins_test : ListTest sql Joins?
unfolding sql lines but_column exprs select_items values_items heads_of tails_of pick both allb mem lines_of
joins_test = record { same = refl; loose = refl }

pub joins_list : Lists G (any Joins?)
joins_list = lists sql Joins? joins_test

-- a join of row r with the list x before it says `detail`, whatever its source and constraint
abbrev Says : Row → Tree → Tok → Tree → ℕ → Type 0
Says r x t k detail = (s o : Tree) → (value (node r x t (add (add k s) o))).nodes ≡ (cat (value x ∷ one node_join detail (value s ∷ opt (value o) ∷ []) ∷ [])).nodes

join_records : (detail : ℕ) (rs qs : List Rec) (x s o y : Val) → y.nodes ≡ (cat (x ∷ one node_join detail (s ∷ o ∷ []) ∷ [])).nodes → rs ≡ recs s → Single s.nodes → qs ≡ recs o → Single o.nodes
    → (recs y ≡ recs x ++ over 9 detail 2 0 (rs ++ qs)) × (count y.nodes ≡ count x.nodes + 1)
join_records detail rs qs x s o y e f p g q =
    let b = one_beside x (one node_join detail (s ∷ o ∷ []) ∷ []) (recs (one node_join detail (s ∷ o ∷ []))) (count x.nodes) 1 refl
    (last_beside (one node_join detail (s ∷ o ∷ [])) 1 (single_count _ (one_single 9 detail (s ∷ o ∷ [])))) in
    (ap records e ∙ sym b.records ∙ ap (λ z. recs x ++ z) (sym (rw (f, g) (over_beside 9 detail 2 (s ∷ o ∷ []) (recs s ++ recs o) (beside_two s o p q)))), ap count e ∙ sym b.many)

module _ (K T : List ℕ) (good : Good K T) (f : ℕ) where
  -- a join's row r has begun at `at`, after the list x: its source and its constraint are to come, after the children k
  pub record Begins (c : Around) (at : ℕ) (x : Tree) (a detail : ℕ) : Type 0 where
    pub r : Row
    pub k : Tree
    pub goes : goes_on K T c (any Joins?) x at ≡ rests K T (further K T good Joins? joins_list c r x at) (nt (any Source) ∷ nt (any On?) ∷ []) k a
    pub level : below r c ≡ c
    pub says : Says r x (tok_at K T at) k detail

  joined_ok : (at : ℕ) (c : Around) (x : Tree) → Begun x → mem (kind_at K at) (COMMA ∷ JOIN ∷ JOIN_KW ∷ []) ≡ true
      → Told (joined_w K T at) (λ a detail m rs. Begins c at x a detail) (λ m p. goes_on K T c (any Joins?) x at ≡ refused m p)
  unfolding joined_w join_w choose is_query below pick mem value values value_of ruled rules ◌#◌
  joined_ok at c x b h =
      told_choose (eqb (kind_at K at) COMMA) _ _
      (λ z. told_done (at + 1) 0 0 [] (record {
        r = comma_row;
        k = nil;
        goes = goes_in K T good Joins? joins_list c x b comma_row at (ap (enter_of sql (any Joins?)) (eqb_eq (kind_at K at) COMMA z) ∙ Joins_at_COMMA) refl refl;
        level = refl;
        says = λ s o. refl;
      }))
      (λ z. told_choose (eqb (kind_at K at) JOIN) _ _
      (λ y. told_done (at + 1) 64 0 [] (record {
        r = join_row;
        k = nil;
        goes = goes_in K T good Joins? joins_list c x b join_row at (ap (enter_of sql (any Joins?)) (eqb_eq (kind_at K at) JOIN y) ∙ Joins_at_JOIN) refl refl;
        level = refl;
        says = λ s o. refl;
      }))
      (λ y. told_choose (eqb (kind_at K at) JOIN_KW) _ _
      (λ w. let g = goes_in K T good Joins? joins_list c x b word_join_row at (ap (enter_of sql (any Joins?)) (eqb_eq (kind_at K at) JOIN_KW w) ∙ Joins_at_JOIN_KW) refl refl in
      told_map (join_w K T 2 (at + 1) (united 0 (flags_of (get_or T at 0)))) (words_ok K T good c x (tok_at K T at) (nt (any Source) ∷ nt (any On?) ∷ []) (at + 1) (united 0 (flags_of (get_or T at 0))) refl)
      (λ a s m rs p. record {
        r = word_join_row;
        k = add (add nil p.0) (leaf p.1);
        goes = g ∙ p.2;
        level = refl;
        says = λ s o. rw p.3 refl;
      })
      (λ m i e. g ∙ e))
      (λ w. 0≢1 (sym (rw (z, y, w)) ∙ h))))

  -- the rest of a join, and the joins after it
  rest_ok : SourceOK K T f → OnOK K T f → JoinsOK K T f → (at : ℕ) (c : Around) (n : ℕ) (x : Tree) (a detail : ℕ) → Begins c at x a detail
      → Told (bind (source_w K T f a c) (λ b i j rs. bind (on_w K T f b c) (λ d i j qs. onto (over 9 detail 2 0 (rs ++ qs)) (joins_w K T f d c (n + 1)))))
      (λ a s m rs. (y : Tree) × (goes_on K T c (any Joins?) x at ≡ got y a (from K T a)) × (n + count (value y).nodes ≡ m + count (value x).nodes) × (recs (value y) ≡ recs (value x) ++ rs))
      (λ m p. goes_on K T c (any Joins?) x at ≡ refused m p)
  rest_ok so on more at c n x a detail h =
      let F = further K T good Joins? joins_list c h.r x at in
      told_bind (source_w K T f a c) _ (so a c)
      (λ b i j rs p. let g = h.goes ∙ nt_got K T good.sound F (any Source) (nt (any On?) ∷ []) h.k a (rw h.level p.1) in
      told_bind (on_w K T f b c) _ (on b c)
      (λ d i' j' qs q. let k = add (add h.k p.0) q.0 in let z = node h.r x (tok_at K T at) k in
      let g' = g ∙ nt_got K T good.sound F (any On?) [] (add h.k p.0) b (rw h.level q.1) ∙ goes_with K T good Joins? joins_list c h.r x k at d in
      let t = join_records detail rs qs (value x) (value p.0) (opt (value q.0)) (value z) (h.says p.0 q.0) p.2.0 p.2.1 q.2.0 q.2.1 in
      told_onto (over 9 detail 2 0 (rs ++ qs)) (joins_w K T f d c (n + 1)) (more d c (n + 1) z tt)
      (λ a s m ps r. (r.0, g' ∙ r.1, omega (arith, r.2, t.1), r.3 ∙ ap (λ y. y ++ ps) t.0 ∙ append_assoc (recs (value x)) (over 9 detail 2 0 (rs ++ qs)) ps))
      (λ m i e. g' ∙ e))
      (λ m i e. g ∙ nt_refused K T good.sound F (any On?) [] (add h.k p.0) b (rw h.level e)))
      (λ m i e. h.goes ∙ nt_refused K T good.sound F (any Source) (nt (any On?) ∷ []) h.k a (rw h.level e))

  pub joins_ok : SourceOK K T f → OnOK K T f → JoinsOK K T f → JoinsOK K T (suc f)
  unfolding joins_w
  joins_ok so on more at c n x b = told_choose (mem (kind_at K at) (COMMA ∷ JOIN ∷ JOIN_KW ∷ [])) _ _
      (λ z. told_bind (joined_w K T at) _ (joined_ok at c x b z) (λ a detail m rs h. rest_ok so on more at c n x a detail h) (λ m i e. e))
      (λ z. told_done at 0 n [] (x, goes_out K T good Joins? joins_list c x b at (out Joins? (kind_at K at) (ap (mem (kind_at K at)) firsts_Joins ∙ z)) Joins_may, refl, sym (append-nil (recs (value x)))))

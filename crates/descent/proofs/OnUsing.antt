-- A join's constraint is read as the grammar says: ON expression, USING ( names ), or none (using_w, on_w). Assumes nothing.
use mathlib.Core.Bool.{true, false}
use mathlib.Core.List.{List, [], ◌∷◌, ◌++◌, append-nil}
use mathlib.Core.Path.{◌≡◌, refl, sym, ap, ◌∙◌}
use Prim.Native.Nat.{ℕ, ◌+◌, suc}
use borrow.Author.Tests.{eqb-false}
use lib.Dec.{eqb}
use lib.ListN.{length}
use native.Mathlib.Omega.{arith}
use Rattle.theory.specs.Trees.{Item, lit, nt, Row, Tree, nil, add, leaf, node}
use Rattle.theory.specs.Table.{pick, mem, enter_of}
use Rattle.theory.specs.Outcome.{refused}
use Rattle.theory.proofs.Cases.{eqb_eq}
use Rattle.kinds.specs.Kinds.{LP, RP, ON, USING}
use Rattle.grammar.specs.Classes.{Name, Names?, On?, E, any}
use Rattle.grammar.specs.RowNames.{row_next_row, row_word_join, row_on, row_using}
use Rattle.grammar.specs.NodeNames.{node_on, node_using}
use Rattle.grammar.specs.Rows.{part}
use Rattle.grammar.specs.Grammar.{sql}
use Rattle.grammar.specs.Limits.{Around, is_query, below}
use Rattle.grammar.specs.Nodes.{count, Rec, rec}
use Rattle.grammar.specs.Reading.{Val, empty, one, opt, rules, ruled, value_of, value, values, ◌#◌}
use Rattle.descent.proofs.Places.{kind_at, tok_at, wrong, OpenRow, rests}
use Rattle.descent.proofs.Walk.{bind, missing, over, close_w, names_w, using_w, expr_w, on_w}
use Rattle.descent.proofs.Grown.{recs}
use Rattle.descent.proofs.ClassFacts.{none_of_2, firsts_On, On_at_ON, On_at_USING, On_may}
use Rattle.descent.proofs.Means.{Single, Told, Good, Reads, ExprOK, OnOK, NamesOK}
use Rattle.descent.proofs.Common.{told_bind, told_choose, told_done, told_stop}
use Rattle.descent.proofs.NoTails.{plain_classes}
use Rattle.descent.proofs.Sides.{single_count, one_single}
use Rattle.descent.proofs.PlainClasses.{opened, begin, whole, absent, took, not_took, one_item, expr_reads}
use Rattle.descent.proofs.NodeRecords.{there, not_there, none_beside, one_beside, last_beside, beside_empty, beside_is, over_beside, closed_beside}

abbrev on_part : Row
on_part = part row_on (nt (E 1) ∷ [])

abbrev using_row : Row
using_row = part row_using (lit LP ∷ nt (any Name) ∷ nt (any Names?) ∷ lit RP ∷ [])

-- the records of a constraint that is there
on_records : (rs : List Rec) (x u : Val) → rs ≡ recs x → Single x.nodes → u.nodes ≡ (one node_on 0 (x ∷ [])).nodes → (over 10 0 1 0 rs ≡ recs (opt u)) × Single (opt u).nodes
on_records rs x u e s w = let t = there u (one node_on 0 (x ∷ [])) w (one_single 10 0 (x ∷ [])) in
    (rw e (over_beside 10 0 1 (x ∷ []) (recs x) (last_beside x 1 (single_count x.nodes s))) ∙ t.1, t.0)

using_records : (rs : List Rec) (n : ℕ) (x l u : Val) → rs ≡ recs x ++ recs l → n ≡ 0 + 1 + count l.nodes → Single x.nodes → u.nodes ≡ (one node_using 0 (empty ∷ x ∷ l ∷ empty ∷ [])).nodes
    → (rs ++ (rec 11 0 n (length rs + 1) ∷ []) ≡ recs (opt u)) × Single (opt u).nodes
using_records rs n x l u e m s w =
    let t = there u (one node_using 0 (empty ∷ x ∷ l ∷ empty ∷ [])) w (one_single 11 0 (empty ∷ x ∷ l ∷ empty ∷ [])) in
    let b = beside_empty (x ∷ l ∷ empty ∷ []) (recs x ++ (recs l ++ [])) (1 + (count l.nodes + 0))
    (one_beside x (l ∷ empty ∷ []) (recs l ++ []) 1 (count l.nodes + 0) (single_count x.nodes s)
    (one_beside l (empty ∷ []) [] (count l.nodes) 0 refl (beside_empty [] [] 0 none_beside))) in (
      closed_beside 11 0 n (empty ∷ x ∷ l ∷ empty ∷ []) rs
          (beside_is (empty ∷ x ∷ l ∷ empty ∷ []) (recs x ++ (recs l ++ [])) rs (1 + (count l.nodes + 0)) n b (e ∙ ap (λ z. recs x ++ z) (sym (append-nil (recs l)))) (omega (arith, m))) ∙ t.1,
      t.0,
    )

module _ (K T : List ℕ) (good : Good K T) (f : ℕ) where
  -- RP, and a record
  close_ok : (F : OpenRow) (is : List Item) (k : Tree) (at code detail n pre : ℕ) → mem F.r.code (row_word_join ∷ row_next_row ∷ []) ≡ false
      → Told (close_w K T at code detail n pre)
      (λ a s m rs. (rests K T F (lit RP ∷ is) k at ≡ rests K T F is (add k (leaf (tok_at K T at))) a) × (s ≡ 12) × (rs ≡ rec code detail n (pre + 1) ∷ []))
      (λ m p. rests K T F (lit RP ∷ is) k at ≡ refused m p)
  unfolding close_w
  close_ok F is k at code detail n pre w = told_choose (eqb (kind_at K at) RP) _ _
      (λ z. told_done (at + 1) 12 0 (rec code detail n (pre + 1) ∷ []) (took K T good F RP is k at (omega arith) w z, refl, refl))
      (λ z. told_stop (wrong (kind_at K at)) at (not_took K T good F RP is k at (omega arith) z))

  using_ok : NamesOK K T f → (at : ℕ) (c : Around) → eqb (kind_at K at) USING ≡ true
      → Reads K T c (any On?) at (using_w K T f (at + 1)) (λ y s m rs. (rs ≡ recs (opt (value y))) × Single (opt (value y)).nodes)
  unfolding using_w close_w bind is_query below pick plain_classes mem value values value_of ruled rules ◌#◌
  using_ok ok at c z =
      let F = opened K T c On? using_row at in
      let b = begin K T good c On? using_row at (ap (enter_of sql (any On?)) (eqb_eq (kind_at K at) USING z) ∙ On_at_USING) refl refl in
      told_choose (eqb (kind_at K (at + 1)) LP) _ _
      (λ y. let k = add nil (leaf (tok_at K T (at + 1))) in let l = b ∙ took K T good F LP (nt (any Name) ∷ nt (any Names?) ∷ lit RP ∷ []) nil (at + 1) (omega arith) refl y in
      told_bind (names_w K T f (at + 1 + 1) 0) _ (ok (at + 1 + 1) 0 F (lit RP ∷ []) k)
      (λ a s n rs p. let k' = add (add k p.0) p.1 in
      told_bind (close_w K T a 11 0 n (length rs)) _ (close_ok F [] k' a 11 0 n (length rs) refl)
      (λ d s m qs q. let t = using_records rs n (value p.0) (value p.1) (value (node using_row nil (tok_at K T at) (add k' (leaf (tok_at K T a))))) p.5 p.3 p.4 refl in told_done d s m (rs ++ qs) (
        node using_row nil (tok_at K T at) (add k' (leaf (tok_at K T a))),
        l ∙ p.2 ∙ q.0 ∙ whole K T good c On? using_row at (add k' (leaf (tok_at K T a))) d refl,
        (ap (λ z. rs ++ z) q.2 ∙ t.0, t.1),
      ))
      (λ m i e. l ∙ p.2 ∙ e))
      (λ m i e. l ∙ e))
      (λ y. told_stop (wrong (kind_at K (at + 1))) (at + 1) (b ∙ not_took K T good F LP (nt (any Name) ∷ nt (any Names?) ∷ lit RP ∷ []) nil (at + 1) (omega arith) y))

  pub on_ok : ExprOK K T f → NamesOK K T f → OnOK K T (suc f)
  unfolding on_w is_query below pick plain_classes mem value values value_of ruled rules ◌#◌
  on_ok ex ok at c = told_choose (eqb (kind_at K at) ON) _ _
      (λ z. told_bind (expr_w K T f (at + 1) c 1) _
      (one_item K T good c On? on_part (E 1) at _ _ refl (ap (enter_of sql (any On?)) (eqb_eq (kind_at K at) ON z) ∙ On_at_ON) refl refl refl (expr_reads K T good f ex (at + 1) c))
      (λ a s n rs p. told_done a 0 0 (over 10 0 1 0 rs)
      (node on_part nil (tok_at K T at) (add nil p.0), p.1, on_records rs (value p.0) (value (node on_part nil (tok_at K T at) (add nil p.0))) p.2.1 p.2.0 refl))
      (λ m i e. e))
      (λ z. told_choose (eqb (kind_at K at) USING) _ _ (using_ok ok at c)
      (λ y. let t = not_there empty refl in told_done at 0 0 (missing ∷ []) (
        nil,
        absent K T good c On? at (ap (mem (kind_at K at)) firsts_On ∙ none_of_2 (eqb-false (kind_at K at) ON z) (eqb-false (kind_at K at) USING y)) On_may,
        (t.1, t.0),
      )))

-- CAST ( expression AS name ) means what the grammar says. Assumes nothing.
use mathlib.Core.List.{List, [], ◌∷◌, ◌++◌}
use mathlib.Core.Path.{◌≡◌, refl, sym, ◌∙◌}
use Prim.Native.Nat.{ℕ, ◌+◌, suc}
use borrow.Author.Tests.{eqb-false}
use lib.Dec.{eqb}
use native.Mathlib.Omega.{arith}
use Rattle.theory.specs.Trees.{Tok, lit, nt, Tree, nil, add, leaf, node, cap_of}
use Rattle.theory.specs.Table.{pick, mem}
use Rattle.theory.proofs.Cases.{eqb_eq}
use Rattle.kinds.specs.Kinds.{LP, RP, AS}
use Rattle.grammar.specs.Classes.{Name, any}
use Rattle.grammar.specs.RowNames.{row_cast}
use Rattle.grammar.specs.NodeNames.{node_cast}
use Rattle.grammar.specs.Nodes.{beside}
use Rattle.grammar.specs.Reading.{empty, side, one, value}
use Rattle.descent.proofs.Places.{kind_at, tok_at, wrong, OpenRow}
use Rattle.descent.proofs.Named.{cast_row}
use Rattle.descent.proofs.Walk.{name_w, expr_w, after_w}
use Rattle.descent.proofs.Steps.{nt_got, nt_refused, lit_got, lit_wrong}
use Rattle.descent.proofs.Rules.{known, value_cast}
use Rattle.descent.proofs.Means.{Good, AfterOK, CastOK}
use Rattle.descent.proofs.Common.{told_bind, told_choose, told_stop, no_word}
use Rattle.descent.proofs.Sides.{single_count}
use Rattle.descent.proofs.Values.{recs_all_2, count_2, is_one}
use Rattle.descent.proofs.OperandRow.{row_ok, close_told}
use Rattle.descent.proofs.Names.{name_reads}

module _ (t u : Tok) (x : Tree) (v : Tok) (y : Tree) (w : Tok) where
  abbrev cast_kids : Tree
  cast_kids = add (add (add (add (add nil (leaf u)) x) (leaf v)) y) (leaf w)

  value_in_cast : value (node cast_row nil t cast_kids) ≡ known row_cast (one node_cast 0 (value x ∷ value y ∷ []))
  unfolding value side beside
  value_in_cast = value_cast (value nil) t (empty ∷ value x ∷ empty ∷ value y ∷ empty ∷ [])

module _ (K T : List ℕ) (good : Good K T) (f : ℕ) where
  pub cast_ok : AfterOK K T f → CastOK K T (suc f)
  unfolding expr_w mem pick cap_of
  cast_ok after = row_ok K T cast_row _ (λ at c d A t e. let F : OpenRow = record { c = d; A = A; r = cast_row; l = nil; t = t } in
      told_bind (after_w K T f at LP c 1) _ (after at LP c 1 F (lit AS ∷ nt (any Name) ∷ lit RP ∷ []) nil (omega arith) (omega arith) (omega arith) e refl)
      (λ a s i rs p. told_choose (eqb (kind_at K a) AS) _ _
      (λ z. let worded = p.1 ∙ lit_got K T good.sound F AS (nt (any Name) ∷ lit RP ∷ []) _ a (omega arith) (eqb_eq (kind_at K a) AS z) (no_word d cast_row nil t _ _ refl) in
      told_bind (name_w K T (a + 1)) _ (name_reads K T good c (a + 1))
      (λ b s i qs q. let named = worded ∙ nt_got K T good.sound F (any Name) (lit RP ∷ []) _ (a + 1) (rw e q.1) in
      let v = is_one _ row_cast node_cast 0 2 (value p.0 ∷ value q.0 ∷ []) (rs ++ qs) (value_in_cast t (tok_at K T at) p.0 (tok_at K T a) q.0 (tok_at K T b))
      (rw (p.3, q.2.1) (sym (recs_all_2 (value p.0) (value q.0))))
      (omega (arith, count_2 (value p.0) (value q.0), single_count (value p.0).nodes p.2.single, single_count (value q.0).nodes q.2.0)) in
      close_told K T b 37 0 2 (rs ++ qs)
      (λ z. (cast_kids t (tok_at K T at) p.0 (tok_at K T a) q.0 (tok_at K T b), named ∙ lit_got K T good.sound F RP [] _ b (omega arith) z (no_word d cast_row nil t _ _ refl), refl, omega arith, v.0, v.1, v.2))
      (λ z. named ∙ lit_wrong K T good.sound F RP [] _ b (omega arith) z))
      (λ m v q. worded ∙ nt_refused K T good.sound F (any Name) (lit RP ∷ []) _ (a + 1) (rw e q)))
      (λ z. told_stop (wrong (kind_at K a)) a (p.1 ∙ lit_wrong K T good.sound F AS (nt (any Name) ∷ lit RP ∷ []) _ a (omega arith) (eqb-false (kind_at K a) AS z))))
      (λ m v p. p))

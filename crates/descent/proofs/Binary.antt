-- A binary operator's right operand, a word and an expression after it, and BETWEEN's bounds mean what the grammar says. Assumes nothing.
use mathlib.Core.List.{List, [], ◌∷◌, ◌++◌}
use mathlib.Core.Path.{refl, ap, ◌∙◌}
use Prim.Native.Nat.{ℕ, ◌+◌, suc}
use borrow.Author.Tests.{eqb-false}
use lib.Dec.{eqb}
use native.Mathlib.Omega.{arith}
use Rattle.theory.specs.Trees.{lit, nt, nil, add, leaf}
use Rattle.theory.proofs.Cases.{eqb_eq}
use Rattle.kinds.specs.Kinds.{AND}
use Rattle.grammar.specs.Classes.{E}
use Rattle.descent.proofs.Places.{kind_at, tok_at, wrong, rests}
use Rattle.descent.proofs.Walk.{over, wrong_at, expr_w, after_w}
use Rattle.descent.proofs.Steps.{nt_got, nt_refused, lit_got, lit_wrong}
use Rattle.descent.proofs.Means.{Good, ExprOK, BinaryOK, BetweenOK, AfterOK}
use Rattle.descent.proofs.Common.{told_bind, told_map, told_choose, told_done, told_stop, right_got, expr_got, no_word}

module _ (K T : List ℕ) (good : Good K T) (f : ℕ) where
  pub binary_ok : ExprOK K T f → BinaryOK K T (suc f)
  unfolding expr_w
  binary_ok ok at c s detail pre A t o = told_bind (expr_w K T f at c s) _ (right_got K T good f ok at c s A t o)
      (λ a u n rs p. told_done a u 0 (over 39 detail 2 pre rs) (p.0, p.1, (p.2, p.4, ap (over 39 detail 2 pre) p.3)))
      (λ m p e. e)

  pub after_ok : ExprOK K T f → AfterOK K T (suc f)
  unfolding expr_w
  after_ok ok at word c s F is k w h m e j = told_choose (eqb (kind_at K at) word) (expr_w K T f (at + 1) c s) (wrong_at K T at)
      (λ z. let l = lit_got K T good.sound F word (nt (E s) ∷ is) k at w (eqb_eq (kind_at K at) word z) (no_word F.c F.r F.l F.t k (leaf (tok_at K T at)) j) in
      told_map (expr_w K T f (at + 1) c s) (expr_got K T good f ok (at + 1) c s h m)
      (λ a u n rs p. (p.0, l ∙ nt_got K T good.sound F (E s) is (add k (leaf (tok_at K T at))) (at + 1) (rw e p.1), p.2, p.3, p.4))
      (λ m p q. l ∙ nt_refused K T good.sound F (E s) is (add k (leaf (tok_at K T at))) (at + 1) (rw e q)))
      (λ z. told_stop (wrong (kind_at K at)) at (lit_wrong K T good.sound F word (nt (E s) ∷ is) k at w (eqb-false (kind_at K at) word z)))

  pub between_ok : ExprOK K T f → AfterOK K T f → BetweenOK K T (suc f)
  unfolding expr_w
  between_ok ok aft at c not pre F is e j = told_bind (expr_w K T f at c 5) _ (expr_got K T good f ok at c 5 (omega arith) (omega arith))
      (λ a u n rs p. let first = ap (λ z. rests K T F z nil at) is ∙ nt_got K T good.sound F (E 5) (lit AND ∷ nt (E 5) ∷ []) nil at (rw e p.1) in
      told_bind (after_w K T f a AND c 5) _ (aft a AND c 5 F [] (add nil p.0) (omega arith) (omega arith) (omega arith) e j)
      (λ b v m qs q. told_done b v 0 (over 43 not 3 pre (rs ++ qs))
      (p.0, tok_at K T a, q.0, first ∙ q.1, (u, p.2), q.2, rw (p.3, q.3) refl, q.4))
      (λ m p q. first ∙ q))
      (λ m p q. ap (λ z. rests K T F z nil at) is ∙ nt_refused K T good.sound F (E 5) (lit AND ∷ nt (E 5) ∷ []) nil at (rw e q))

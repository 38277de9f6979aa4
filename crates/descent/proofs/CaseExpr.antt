-- CASE and its base mean what the grammar says. Assumes nothing.
use mathlib.Core.Bool.{true, false}
use mathlib.Core.List.{List, [], ◌∷◌, ◌++◌}
use mathlib.Core.Path.{◌≡◌, refl, sym, ap, ◌∙◌}
use Prim.Native.Nat.{ℕ, ◌+◌, suc}
use borrow.Author.Tests.{eqb-false}
use lib.Dec.{eqb}
use native.Mathlib.Omega.{arith}
use Rattle.theory.specs.Trees.{Tok, lit, nt, Tree, nil, add, leaf, node, cap_of}
use Rattle.theory.specs.Table.{pick, mem}
use Rattle.theory.proofs.Cases.{by_bool, eqb_eq}
use Rattle.kinds.specs.Kinds.{WHEN, THEN, ELSE, END}
use Rattle.kinds.specs.Classes.{begins_expr}
use Rattle.grammar.specs.Classes.{Base?, Whens?, Else?, E, any}
use Rattle.grammar.specs.RowNames.{row_case}
use Rattle.grammar.specs.NodeNames.{node_case}
use Rattle.grammar.specs.Rows.{exprs}
use Rattle.grammar.specs.Limits.{below}
use Rattle.grammar.specs.Nodes.{count}
use Rattle.grammar.specs.Reading.{Val, empty, side, one, opt, value, ◌#◌}
use Rattle.descent.proofs.Places.{kind_at, tok_at, wrong, OpenRow}
use Rattle.descent.proofs.Named.{case_row, own}
use Rattle.descent.proofs.Walk.{missing, expr_w, cased_w, when_w, clause_w}
use Rattle.descent.proofs.Grown.{recs_all, recs}
use Rattle.descent.proofs.Steps.{nt_got, nt_refused, lit_got, lit_wrong, call_absent}
use Rattle.descent.proofs.Growing.{side_cons, side_append}
use Rattle.descent.proofs.ClassFacts.{Base_at_WHEN, Base_may}
use Rattle.descent.proofs.Rules.{known, value_case}
use Rattle.descent.proofs.Means.{Single, Good, ExprOK, CaseOK, BaseOK, WhensOK, ClauseOK}
use Rattle.descent.proofs.Common.{told_bind, told_map, told_choose, told_done, told_stop, no_word}
use Rattle.descent.proofs.Sides.{single_count}
use Rattle.descent.proofs.Tails.{others}
use Rattle.descent.proofs.Values.{recs_all_1, recs_all_3, count_cons, count_3, is_one}
use Rattle.descent.proofs.ExprIn.{takes_any, expr_ends, absent_in, expr_in, expr_absent}
use Rattle.descent.proofs.OperandRow.{row_ok}
use Rattle.descent.proofs.NodeRecords.{there, not_there}
use Rattle.descent.proofs.Clauses.{else_clause}

-- what holds of the base's class
base_among : mem Base? exprs ≡ true
unfolding exprs mem pick
base_among = refl

base_own : own Base? ≡ []
unfolding own pick
base_own = refl

base_others : others Base? ≡ []
unfolding others mem pick
base_others = refl

in_none : (k : ℕ) (l : List ℕ) → l ≡ [] → mem k l ≡ false
unfolding mem
in_none k l e = rw e

recs_case : (o x z l p : Val) → recs o ++ ((recs x ++ (recs z ++ recs l)) ++ recs p) ≡ recs_all (o ∷ x ∷ z ∷ l ∷ p ∷ [])
recs_case o x z l p = sym (side_cons o (x ∷ z ∷ l ∷ p ∷ []) ∙ ap (λ r. recs o ++ r) (side_append (x ∷ z ∷ l ∷ []) (p ∷ []) ∙ rw (recs_all_3 x z l, recs_all_1 p)))

count_case : (o x z l p : Val) → Single o.nodes → Single x.nodes → Single z.nodes → Single p.nodes → count l.nodes + 4 ≡ count (side (o ∷ x ∷ z ∷ l ∷ p ∷ []))
count_case o x z l p a b c d = let i = count_cons o (x ∷ z ∷ l ∷ p ∷ []) in let j = count_cons x (z ∷ l ∷ p ∷ []) in
    omega (arith, i, j, count_3 z l p, single_count o.nodes a, single_count x.nodes b, single_count z.nodes c, single_count p.nodes d)

module _ (t : Tok) (y : Tree) (u : Tok) (x : Tree) (v : Tok) (z l e : Tree) (w : Tok) where
  abbrev case_kids : Tree
  case_kids = add (add (add (add (add (add (add (add nil y) (leaf u)) x) (leaf v)) z) l) e) (leaf w)

  value_in_case : value (node case_row nil t case_kids) ≡ known row_case (one node_case 0 (opt (value y) ∷ value x ∷ value z ∷ value l ∷ opt (value e) ∷ []))
  unfolding value ◌#◌
  value_in_case = value_case (value nil) t (value y ∷ empty ∷ value x ∷ empty ∷ value z ∷ value l ∷ value e ∷ empty ∷ [])

module _ (K T : List ℕ) (good : Good K T) (f : ℕ) where
  pub base_ok : ExprOK K T f → BaseOK K T (suc f)
  unfolding value expr_w
  base_ok ok at c F is k e j = told_choose (eqb (kind_at K at) WHEN) _ _
      (λ z. told_done at 0 0 (missing ∷ []) (nil, nt_got K T good.sound F (any Base?) (lit WHEN ∷ is) k at (rw e (call_absent K T good.sound c (any Base?) at (rw (eqb_eq (kind_at K at) WHEN z) Base_at_WHEN) Base_may)), (not_there (value nil) refl).1, (not_there (value nil) refl).0))
      (λ z. by_bool (begins_expr (kind_at K at))
      (λ b. told_map (expr_w K T f at c 1) (expr_in K T good f ok at c Base? (takes_any Base? base_among (λ e. omega (arith, e))) (in_none (kind_at K at) (own Base?) base_own) (λ n. b))
      (λ a s m rs p. let o = there (value p.0) (value p.0) refl p.2.single in (
        p.0,
        nt_got K T good.sound F (any Base?) (lit WHEN ∷ is) k at
            (rw e (p.1 ∙ expr_ends K T good c (any Base?) p.0 1 s a base_among (omega arith) p.2 p.3 (in_none (kind_at K a) (others Base?) base_others))),
        p.4 ∙ o.1,
        o.0,
      ))
      (λ m p q. nt_refused K T good.sound F (any Base?) (lit WHEN ∷ is) k at (rw e q)))
      (λ b. told_map (expr_w K T f at c 1) (expr_absent K T good f ok at c b) (λ a s m rs p. absurd p)
      (λ m p q. nt_got K T good.sound F (any Base?) (lit WHEN ∷ is) k at (absent_in K T good (below F.r F.c) Base? at base_among (in_none (kind_at K at) (own Base?) base_own) Base_may b)
      ∙ lit_wrong K T good.sound F WHEN is (add k nil) at (omega arith) (eqb-false (kind_at K at) WHEN z) ∙ rw (q.0, q.1))))

  pub case_ok : BaseOK K T f → WhensOK K T f → ClauseOK K T f → CaseOK K T (suc f)
  unfolding expr_w mem pick cap_of
  case_ok base whens clause = row_ok K T case_row _ (λ at c d A t e. let F : OpenRow = record { c = d; A = A; r = case_row; l = nil; t = t } in
      told_bind (cased_w K T f at c) _ (base at c F (nt (E 1) ∷ lit THEN ∷ nt (E 1) ∷ nt (any Whens?) ∷ nt (any Else?) ∷ lit END ∷ []) nil e refl)
      (λ a s i rs p. told_bind (when_w K T f a c 0) _ (whens a c 0 F (nt (any Else?) ∷ lit END ∷ []) (add nil p.0) e refl)
      (λ b s m qs q. told_bind (clause_w K T f b ELSE c) _ (clause b c Else? ELSE _ else_clause)
      (λ g s i ps h. let before = p.1 ∙ q.5 ∙ nt_got K T good.sound F (any Else?) (lit END ∷ []) _ b (rw e h.1) in
      let v = is_one _ row_case node_case 0 (m + 2) _ (rs ++ (qs ++ ps)) (value_in_case t p.0 q.0 q.1 q.2 q.3 q.4 h.0 (tok_at K T g))
      (rw (p.2, q.9, h.2.0) (recs_case (opt (value p.0)) (value q.1) (value q.3) (value q.4) (opt (value h.0))))
      (omega (arith, q.6, count_case (opt (value p.0)) (value q.1) (value q.3) (value q.4) (opt (value h.0)) p.3 q.7 q.8 h.2.1)) in
      told_choose (eqb (kind_at K g) END) _ _
      (λ z. told_done (g + 1) 12 0 _ (
        case_kids t p.0 q.0 q.1 q.2 q.3 q.4 h.0 (tok_at K T g),
        before ∙ lit_got K T good.sound F END [] _ g (omega arith) (eqb_eq (kind_at K g) END z) (no_word d case_row nil t _ _ refl),
        refl,
        omega arith,
        v.0,
        v.1,
        v.2,
      ))
      (λ z. told_stop (wrong (kind_at K g)) g (before ∙ lit_wrong K T good.sound F END [] _ g (omega arith) (eqb-false (kind_at K g) END z))))
      (λ m v h. p.1 ∙ q.5 ∙ nt_refused K T good.sound F (any Else?) (lit END ∷ []) _ b (rw e h)))
      (λ m v q. p.1 ∙ q))
      (λ m v p. p))

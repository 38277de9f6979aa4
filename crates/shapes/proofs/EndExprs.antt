-- The walk of an expression ends. Assumes nothing.
use mathlib.Core.List.{List, [], ◌++◌}
use mathlib.Core.Path.{◌≡◌, refl, ap, ◌∙◌}
use Prim.Native.Nat.{ℕ, ◌+◌, ◌<◌, min, suc}
use borrow.Author.Tests.{ltb-true, eqb-false}
use lib.Dec.{ltb, eqb, leb}
use lib.ListN.{length}
use native.Mathlib.Omega.{arith}
use Rattle.theory.specs.Table.{both}
use Rattle.theory.proofs.Cases.{both_l}
use Rattle.kinds.specs.Kinds.{ID, NULL, RP, LP, COMMA, STAR, AND, NOT, IS, IN, BETWEEN, LIKE_KW, COLLATE, AS, CASE, WHEN, THEN, ELSE, END, CAST, EXISTS, SELECT, VALUES, DISTINCT}
use Rattle.kinds.specs.Strength.{strength_of, prefix_of}
use Rattle.kinds.specs.Classes.{heads_call, literal_code}
use Rattle.grammar.specs.Limits.{Around}
use Rattle.grammar.specs.Sizes.{LEVELS}
use Rattle.descent.proofs.Walk.{done, deeper, κ, τ, name_w, dotted_w, expr_w, leaf_w, operand_w, ops_w, op_w, negated_w, binary_w, range_w, after_w, among_w, list_w, sign_w, call_w, paren_w, sub_w, exists_w, case_w, cased_w, when_w, cast_w, query_w, clause_w}
use Rattle.shapes.proofs.Ends.{Ends, ends_bind, ends_onto, ends_from, ends_choose, ends_done, ends_stop}
use Rattle.shapes.proofs.EndParts.{Enough, some_kind, token_at, name_ends, close_ends, too_deep_ends, dotted_ends, called_ends, collate_ends, ended_ends}
use Rattle.shapes.proofs.Ending.{Ending}

-- no operator has kind 0
no_prefix : prefix_of 0 ≡ 0
unfolding prefix_of
no_prefix = refl

no_strength : strength_of 0 ≡ 0
unfolding strength_of
no_strength = refl

module _ (K T : List ℕ) (f : ℕ) (all : Ending K T f) where
  pub expr_ends : (at : ℕ) (c : Around) (s : ℕ) → Enough K (suc f) at 2 → Ends at (expr_w K T (suc f) at c s)
  unfolding expr_w
  expr_ends at c s h = ends_choose (ltb LEVELS c.level) _ _ (λ z. too_deep_ends K T at s)
      (λ z. ends_bind _ _
      (ends_choose (both (leb ID (κ K T at)) (leb (κ K T at) NULL)) _ _ (λ y. all.leaf at c s (omega (arith, h))) (λ y. all.operand at c s (omega (arith, h))))
      (λ a left n rs g. ends_onto rs _ (ends_from (ops_w K T f a c s left (length rs)) g (all.ops a c s left (length rs) (omega (arith, h, g))))))

  pub leaf_ends : (at : ℕ) (c : Around) (s : ℕ) → Enough K (suc f) at 0 → Ends at (leaf_w K T (suc f) at c s)
  unfolding expr_w
  leaf_ends at c s h = ends_choose (ltb 0 (literal_code (κ K T at))) _ _ (λ z. ends_done (at + 1) 12 0 _ (omega arith))
      (λ z. ends_choose (both (eqb (κ K T (at + 1)) LP) (heads_call (κ K T at))) _ _
      (λ y. let i = token_at K (at + 1) LP (omega arith) (both_l (eqb (κ K T (at + 1)) LP) (heads_call (κ K T at)) y) in
      ends_onto _ _ (ends_from (call_w K T f (at + 2) (deeper c)) (omega arith) (all.call (at + 2) (deeper c) (omega (arith, h, i)))))
      (λ y. ends_onto _ _ (ends_from (dotted_w K T (at + 1) s) (omega arith) (dotted_ends K T (at + 1) s))))

  pub operand_ends : (at : ℕ) (c : Around) (s : ℕ) → Enough K (suc f) at 1 → Ends at (operand_w K T (suc f) at c s)
  unfolding expr_w
  operand_ends at c s h = ends_choose (eqb (κ K T at) LP) _ _
      (λ z. let i = token_at K at LP (omega arith) z in ends_from (paren_w K T f (at + 1) (deeper c)) (omega arith) (all.paren (at + 1) (deeper c) (omega (arith, h, i))))
      (λ z. ends_choose (eqb (κ K T at) CASE) _ _
      (λ y. let i = token_at K at CASE (omega arith) y in ends_from (case_w K T f (at + 1) (deeper c)) (omega arith) (all.case (at + 1) (deeper c) (omega (arith, h, i))))
      (λ y. ends_choose (eqb (κ K T at) CAST) _ _
      (λ x. let i = token_at K at CAST (omega arith) x in ends_from (cast_w K T f (at + 1) (deeper c)) (omega arith) (all.cast (at + 1) (deeper c) (omega (arith, h, i))))
      (λ x. ends_choose (eqb (κ K T at) EXISTS) _ _
      (λ w. let i = token_at K at EXISTS (omega arith) w in ends_from (exists_w K T f (at + 1) (deeper c)) (omega arith) (all.exists (at + 1) (deeper c) (omega (arith, h, i))))
      (λ w. ends_choose (ltb 0 (prefix_of (κ K T at))) _ _ (λ v. all.prefix at c s (some_kind K at (not_none (ltb-true 0 (prefix_of (κ K T at)) v))) (omega (arith, h))) (λ v. ends_stop)))))
    where
      not_none : 0 < prefix_of (κ K T at) → κ K T at ≡ 0 → ⊥
      not_none p z = absurd (let e : prefix_of (κ K T at) ≡ 0 = ap prefix_of z ∙ no_prefix in omega (arith, p, e))

  pub prefix_ends : (at : ℕ) (c : Around) (s : ℕ) → at < length K → Enough K (suc f) at 0 → Ends at (sign_w K T (suc f) at c s)
  unfolding expr_w
  prefix_ends at c s i h = ends_choose (both (eqb (κ K T at) NOT) (ltb 10 s)) _ _ (λ z. ends_stop)
      (λ z. ends_bind (expr_w K T f (at + 1) (deeper c) (prefix_of (κ K T at))) _ (all.expr (at + 1) (deeper c) (prefix_of (κ K T at)) (omega (arith, h, i))) (λ a x n rs g. ends_done a (min (prefix_of (κ K T at)) x) 0 _ (omega (arith, g))))

  -- ── operators ──
  pub after_ends : (at word : ℕ) (c : Around) (s : ℕ) → 0 < word → Enough K (suc f) at 0 → Ends (at + 1) (after_w K T (suc f) at word c s)
  unfolding expr_w
  after_ends at word c s p h = ends_choose (eqb (κ K T at) word) _ _ (λ z. let i = token_at K at word p z in all.expr (at + 1) c s (omega (arith, h, i))) (λ z. ends_stop)

  pub binary_ends : (at : ℕ) (c : Around) (s d pre : ℕ) → Enough K (suc f) at 3 → Ends at (binary_w K T (suc f) at c s d pre)
  unfolding expr_w
  binary_ends at c s d pre h = ends_bind (expr_w K T f at c s) _ (all.expr at c s (omega (arith, h))) (λ a x n rs g. ends_done a x 0 _ g)

  pub between_ends : (at : ℕ) (c : Around) (s not pre : ℕ) → Enough K (suc f) at 3 → Ends at (range_w K T (suc f) at c s not pre)
  unfolding expr_w
  between_ends at c s not pre h = ends_bind (expr_w K T f at c s) _ (all.expr at c s (omega (arith, h)))
      (λ a x n rs g. ends_bind (after_w K T f a AND c s) _ (all.after a AND c s (omega arith) (omega (arith, h, g))) (λ b y m qs i. ends_done b y 0 _ (omega (arith, g, i))))

  pub inside_ends : (at : ℕ) (c : Around) (not pre : ℕ) → Enough K (suc f) at 0 → Ends at (among_w K T (suc f) at c not pre)
  unfolding expr_w
  inside_ends at c not pre h = ends_choose (eqb (κ K T at) LP) _ _
      (λ z. let i = token_at K at LP (omega arith) z in
      ends_choose (both (leb SELECT (κ K T (at + 1))) (leb (κ K T (at + 1)) VALUES)) _ _
      (λ y. ends_bind (query_w K T f (at + 1) c) _ (all.query (at + 1) c (omega (arith, h, i))) (λ a x n rs g. ends_from _ (omega (arith, g)) (ended_ends K T a 42 not pre rs)))
      (λ y. ends_choose (eqb (κ K T (at + 1)) RP) _ _
      (λ x. ends_from _ (omega arith) (ended_ends K T (at + 1) 41 not pre _))
      (λ x. ends_bind (list_w K T f (at + 1) c 0) _ (all.list (at + 1) c 0 (omega (arith, h, i))) (λ a x n rs g. ends_from _ (omega (arith, g)) (ended_ends K T a 41 not pre _)))))
      (λ z. ends_stop)

  pub negated_ends : (at : ℕ) (c : Around) (s pre : ℕ) → Enough K (suc f) at 0 → Ends at (negated_w K T (suc f) at c s pre)
  unfolding expr_w
  negated_ends at c s pre h = ends_choose (eqb (κ K T at) IN) _ _
      (λ z. let i = token_at K at IN (omega arith) z in ends_from _ (omega arith) (all.inside (at + 1) c 1 pre (omega (arith, h, i))))
      (λ z. ends_choose (eqb (κ K T at) BETWEEN) _ _
      (λ y. let i = token_at K at BETWEEN (omega arith) y in ends_from _ (omega arith) (all.between (at + 1) c s 1 pre (omega (arith, h, i))))
      (λ y. ends_choose (eqb (κ K T at) LIKE_KW) _ _
      (λ x. let i = token_at K at LIKE_KW (omega arith) x in ends_from _ (omega arith) (all.binary (at + 1) c s (300 + τ K T at) pre (omega (arith, h, i))))
      (λ x. ends_choose (eqb (κ K T at) NULL) _ _ (λ w. ends_done (at + 1) 12 0 _ (omega arith)) (λ w. ends_stop))))

  pub op_ends : (at : ℕ) (c : Around) (s pre : ℕ) → at < length K → Enough K (suc f) at 0 → Ends (at + 1) (op_w K T (suc f) at c s pre)
  unfolding expr_w
  op_ends at c s pre i h = ends_choose (ltb (κ K T at) NOT) _ _ (λ z. all.binary (at + 1) c s (κ K T at) pre (omega (arith, h, i)))
      (λ z. ends_choose (eqb (κ K T at) NOT) _ _ (λ z. all.negated (at + 1) c s pre (omega (arith, h, i)))
      (λ z. ends_choose (eqb (κ K T at) IN) _ _ (λ z. all.inside (at + 1) c 0 pre (omega (arith, h, i)))
      (λ z. ends_choose (eqb (κ K T at) BETWEEN) _ _ (λ z. all.between (at + 1) c s 0 pre (omega (arith, h, i)))
      (λ z. ends_choose (eqb (κ K T at) LIKE_KW) _ _ (λ z. all.binary (at + 1) c s (200 + τ K T at) pre (omega (arith, h, i)))
      (λ z. ends_choose (eqb (κ K T at) IS) _ _
      (λ z. ends_choose (eqb (κ K T (at + 1)) NOT) _ _ (λ y. ends_from (binary_w K T f (at + 2) c s 137 pre) (omega arith) (all.binary (at + 2) c s 137 pre (omega (arith, h, i)))) (λ y. all.binary (at + 1) c s 37 pre (omega (arith, h, i))))
      (λ z. ends_choose (eqb (κ K T at) COLLATE) _ _ (λ z. collate_ends K T (at + 1) pre) (λ z. ends_done (at + 1) 12 0 _ (omega arith))))))))

  pub ops_end : (at : ℕ) (c : Around) (s left pre : ℕ) → Enough K (suc f) at 1 → Ends at (ops_w K T (suc f) at c s left pre)
  unfolding expr_w
  ops_end at c s left pre h = ends_choose (eqb (strength_of (κ K T at)) 0) _ _ (λ z. here)
      (λ a. ends_choose (ltb (strength_of (κ K T at)) s) _ _ (λ z. here)
      (λ b. ends_choose (ltb left (strength_of (κ K T at))) _ _ (λ z. here)
      (λ d. let i : at < length K = some_kind K at (λ z. eqb-false (strength_of (κ K T at)) 0 a (ap strength_of z ∙ no_strength)) in
      ends_bind (op_w K T f at (deeper c) (strength_of (κ K T at) + 1) pre) _ (all.op at (deeper c) (strength_of (κ K T at) + 1) pre i (omega (arith, h)))
      (λ e x n rs g. ends_onto rs _ (ends_from (ops_w K T f e c s (min (strength_of (κ K T at)) x) (pre + length rs)) (omega (arith, g)) (all.ops e c s (min (strength_of (κ K T at)) x) (pre + length rs) (omega (arith, h, g, i))))))))
    where
      here : Ends at (done at left 0 [])
      here = ends_done at left 0 [] (omega arith)

  -- ── lists, parentheses, calls ──
  pub list_ends : (at : ℕ) (c : Around) (n : ℕ) → Enough K (suc f) at 3 → Ends at (list_w K T (suc f) at c n)
  unfolding expr_w
  list_ends at c n h = ends_bind (expr_w K T f at c 1) _ (all.expr at c 1 (omega (arith, h)))
      (λ a x m rs g. ends_choose (eqb (κ K T a) COMMA) _ _
      (λ z. let i = token_at K a COMMA (omega arith) z in ends_onto rs _ (ends_from (list_w K T f (a + 1) c (n + 1)) (omega (arith, g)) (all.list (a + 1) c (n + 1) (omega (arith, h, g, i)))))
      (λ z. ends_done a 0 (n + 1) rs g))

  pub call_ends : (at : ℕ) (c : Around) → Enough K (suc f) at 4 → Ends at (call_w K T (suc f) at c)
  unfolding expr_w
  call_ends at c h = ends_choose (eqb (κ K T at) STAR) _ _ (λ z. ends_from _ (omega arith) (called_ends K T (at + 1) 2 0 []))
      (λ z. ends_choose (eqb (κ K T at) RP) _ _ (λ y. called_ends K T at 0 0 [])
      (λ y. ends_choose (eqb (κ K T at) DISTINCT) _ _
      (λ x. let i = token_at K at DISTINCT (omega arith) x in ends_bind (list_w K T f (at + 1) c 0) _ (all.list (at + 1) c 0 (omega (arith, h, i))) (λ a s n rs g. ends_from _ (omega (arith, g)) (called_ends K T a 1 n rs)))
      (λ x. ends_bind (list_w K T f at c 0) _ (all.list at c 0 (omega (arith, h))) (λ a s n rs g. ends_from _ g (called_ends K T a 0 n rs)))))

  pub paren_ends : (at : ℕ) (c : Around) → Enough K (suc f) at 4 → Ends at (paren_w K T (suc f) at c)
  unfolding expr_w
  paren_ends at c h = ends_choose (both (leb SELECT (κ K T at)) (leb (κ K T at) VALUES)) _ _ (λ z. all.sub at c 34 (omega (arith, h)))
      (λ z. ends_bind (list_w K T f at c 0) _ (all.list at c 0 (omega (arith, h))) (λ a x n rs g. ends_onto rs _ (ends_from _ g (close_ends K T a 33 0 n (length rs)))))

  pub sub_ends : (at : ℕ) (c : Around) (code : ℕ) → Enough K (suc f) at 3 → Ends at (sub_w K T (suc f) at c code)
  unfolding expr_w
  sub_ends at c code h = ends_bind (query_w K T f at c) _ (all.query at c (omega (arith, h))) (λ a x n rs g. ends_onto rs _ (ends_from _ g (close_ends K T a code 0 1 (length rs))))

  pub exists_ends : (at : ℕ) (c : Around) → Enough K (suc f) at 0 → Ends at (exists_w K T (suc f) at c)
  unfolding expr_w
  exists_ends at c h = ends_choose (eqb (κ K T at) LP) _ _ (λ z. let i = token_at K at LP (omega arith) z in ends_from _ (omega arith) (all.sub (at + 1) c 35 (omega (arith, h, i)))) (λ z. ends_stop)

  -- ── CASE and CAST ──
  pub cased_ends : (at : ℕ) (c : Around) → Enough K (suc f) at 3 → Ends at (cased_w K T (suc f) at c)
  unfolding expr_w
  cased_ends at c h = ends_choose (eqb (κ K T at) WHEN) _ _ (λ z. ends_done at 0 0 _ (omega arith)) (λ z. all.expr at c 1 (omega (arith, h)))

  pub cases_end : (at : ℕ) (c : Around) (n : ℕ) → Enough K (suc f) at 1 → Ends at (when_w K T (suc f) at c n)
  unfolding expr_w
  cases_end at c n h = ends_bind (after_w K T f at WHEN c 1) _ (all.after at WHEN c 1 (omega arith) (omega (arith, h)))
      (λ a x m rs g. ends_bind (after_w K T f a THEN c 1) _ (all.after a THEN c 1 (omega arith) (omega (arith, h, g)))
      (λ b x m qs j. ends_choose (eqb (κ K T b) WHEN) _ _
      (λ z. let i = token_at K b WHEN (omega arith) z in ends_onto _ _ (ends_from (when_w K T f b c (n + 2)) (omega (arith, g, j)) (all.cases b c (n + 2) (omega (arith, h, g, j, i)))))
      (λ z. ends_done b 0 (n + 2) _ (omega (arith, g, j)))))

  pub case_ends : (at : ℕ) (c : Around) → Enough K (suc f) at 4 → Ends at (case_w K T (suc f) at c)
  unfolding expr_w
  case_ends at c h = ends_bind (cased_w K T f at c) _ (all.cased at c (omega (arith, h)))
      (λ a x n rs g. ends_bind (when_w K T f a c 0) _ (all.cases a c 0 (omega (arith, h, g)))
      (λ b x m qs j. ends_bind (clause_w K T f b ELSE c) _ (all.clause b ELSE c (omega arith) (omega (arith, h, g, j)))
      (λ d x n ps k. ends_choose (eqb (κ K T d) END) _ _ (λ z. ends_done (d + 1) 12 0 _ (omega (arith, g, j, k))) (λ z. ends_stop))))

  pub cast_ends : (at : ℕ) (c : Around) → Enough K (suc f) at 1 → Ends at (cast_w K T (suc f) at c)
  unfolding expr_w
  cast_ends at c h = ends_bind (after_w K T f at LP c 1) _ (all.after at LP c 1 (omega arith) (omega (arith, h)))
      (λ a x n rs g. ends_choose (eqb (κ K T a) AS) _ _
      (λ z. ends_bind (name_w K T (a + 1)) _ (name_ends K T (a + 1)) (λ b x n qs j. ends_onto _ _ (ends_from _ (omega (arith, g, j)) (close_ends K T b 37 0 2 (length (rs ++ qs))))))
      (λ z. ends_stop))

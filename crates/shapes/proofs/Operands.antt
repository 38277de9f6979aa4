-- An operand is one expression, and so is an expression; lists of them. Assumes nothing.
use mathlib.Core.Bool.{false}
use mathlib.Core.List.{List, [], ◌∷◌, ◌++◌, append_assoc, append-nil}
use mathlib.Core.Logic.{inl, inr}
use mathlib.Core.Path.{◌≡◌, refl, sym, ap, ◌∙◌, subst}
use Prim.Native.Nat.{ℕ, ◌+◌, ◌≤◌, ◌<◌, min, suc}
use borrow.Author.Tests.{ltb-true, ltb-false}
use lib.Dec.{ltb, eqb, leb}
use lib.ListN.{length, get_or}
use native.Mathlib.Omega.{arith}
use Rattle.theory.specs.Table.{both}
use Rattle.theory.proofs.Cases.{both_l, both_r, both_i, eqb-true, leb_le, le-leb}
use Rattle.kinds.specs.Kinds.{ID, NULL, RP, LP, STAR, NOT, AS, CASE, WHEN, THEN, ELSE, END, CAST, EXISTS, SELECT, VALUES, DISTINCT}
use Rattle.kinds.specs.Strength.{prefix_of}
use Rattle.kinds.specs.Classes.{begins_expr, heads_call, literal_code}
use Rattle.grammar.specs.Limits.{Around}
use Rattle.grammar.specs.Nodes.{Rec}
use Rattle.grammar.specs.Reading.{choose}
use Rattle.grammar.specs.Sizes.{LEVELS}
use Rattle.descent.proofs.Walk.{onto, deeper, κ, τ, name_rec, name_w, close_w, too_deep_w, expr_w, leaf_w, operand_w, ops_w, list_w, sign_w, call_w, paren_w, sub_w, exists_w, case_w, cased_w, when_w, cast_w, after_w, query_w, clause_w}
use Rattle.shapes.specs.Shape.{a_query, an_expr, a_name, Shape, fin, ◌▸◌, some_of, Node, literal_node, call_node, star_call_node, any_node, empty_node, parens_node, subquery_node, exists_node, case_node, cast_node, prefix_node}
use Rattle.shapes.proofs.Records.{Read, One, read_is, read_here, read_fin, read_none, read_each, read_else, read_when, may_absent, ◌&◌, ◌&?◌, read_node, read_over, read_leaf}
use Rattle.shapes.proofs.Gives.{Gives, gives_bind, gives_onto, gives_choose, gives_done, gives_stop, gives_map}
use Rattle.shapes.proofs.KindCodes.{leaf_code, literal_code_lem, null_code}
use Rattle.shapes.proofs.Loops.{Several, gives_loop, gives_close}
use Rattle.shapes.proofs.NameParts.{Exprd, one_name, gives_name, gives_dotted, gives_called}
use Rattle.shapes.proofs.Statements.{GivesMay, GivesExpr, Cases, All}
use Rattle.shapes.proofs.Operators.{expr_one, expr_told, from_none, ops_star}

-- ── WHEN .. THEN .. ──
last_case : {n : ℕ} {rs qs : List Rec} → One an_expr rs → One an_expr qs → Cases n (n + 2) (rs ++ qs)
last_case {rs = rs} {qs = qs} r q = record { more = 2; counts = refl; ends = λ ps p. read_is (r & q & read_else p) refl (append_assoc rs qs ps) }

one_case : {n m : ℕ} {rs qs us : List Rec} → One an_expr rs → One an_expr qs → Cases (n + 2) m us → Cases n m ((rs ++ qs) ++ us)
one_case {rs = rs} {qs = qs} {us = us} r q w = record {
  more = w.more + 2;
  counts = omega (arith, w.counts);
  ends = λ ps p. read_is (r & q & read_when (w.ends ps p)) (three w.more) (append_assoc (rs ++ qs) us ps ∙ append_assoc rs qs (us ++ ps));
}
  where
    three : (k : ℕ) → k + 2 + 1 ≡ k + 1 + 1 + 1
    three k = omega arith

module _ (K T : List ℕ) (bound : (n : ℕ) → get_or K n 0 < 72) where
  -- RP after the records of a node's children
  closed : {S : Shape} {n : ℕ} (at code : ℕ) (rs : List Rec) → Node an_expr code 0 S → Read S n rs → GivesExpr (onto rs (close_w K T at code 0 n (length rs)))
  closed {n = n} at code rs N r = gives_onto rs _ (gives_close K T at code 0 n (length rs)) (λ b s m qs q. (omega (arith, q.0), read_is (read_node N r refl) refl (ap (λ z. rs ++ z) q.1)))

  too_deep : (at s : ℕ) {P : ℕ → ℕ → ℕ → List Rec → Type 0} → Gives (too_deep_w K T at s) P
  unfolding too_deep_w
  too_deep at s = gives_choose (begins_expr (κ K T at)) _ _ (λ z. gives_choose (both (eqb (κ K T at) NOT) (ltb 10 s)) _ _ (λ y. gives_stop) (λ y. gives_stop)) (λ z. gives_stop)

  module _ (f : ℕ) (all : All K T f) where
    pub expr_gives : (at : ℕ) (c : Around) (s : ℕ) → Gives (expr_w K T (suc f) at c s) (λ a said n rs. Exprd s said rs)
    unfolding expr_w
    expr_gives at c s = gives_choose (ltb LEVELS c.level) _ _ (λ z. too_deep at s)
        (λ z. gives_bind _ _
        (gives_choose (both (leb ID (κ K T at)) (leb (κ K T at) NULL)) _ _
        (λ y. all.leaf at c s (leb_le ID (κ K T at) (both_l (leb ID (κ K T at)) (leb (κ K T at) NULL) y)) (leb_le (κ K T at) NULL (both_r (leb ID (κ K T at)) (leb (κ K T at) NULL) y)))
        (λ y. gives_map (operand_w K T f at c s) (all.operand at c s) (λ a said n rs r. inl r)))
        (λ a left n rs r. goes a left rs r))
      where
        goes : (a left : ℕ) (rs : List Rec) → Exprd s left rs → Gives (onto rs (ops_w K T f a c s left (length rs))) (λ a said n rs. Exprd s said rs)
        goes a left rs (inl r) = gives_onto rs _ (all.ops a c s left (length rs) r.0 rs r.1 refl) (λ b said m qs q. inl q)
        goes a left rs (inr r) = gives_onto rs _ (subst (λ z. Gives (ops_w K T f a c s z (length rs)) (λ a said n qs. (said ≡ 0) × (qs ≡ []))) (sym r.0) (ops_star K T f a c s (length rs)))
            (λ b said m qs q. inr (q.0, r.1, read_is r.2 refl (ap (λ z. rs ++ z) q.1 ∙ append-nil rs)))

    pub leaf_gives : (at : ℕ) (c : Around) (s : ℕ) → ID ≤ κ K T at → κ K T at ≤ NULL → Gives (leaf_w K T (suc f) at c s) (λ a said n rs. Exprd s said rs)
    unfolding expr_w choose
    leaf_gives at c s lo hi = gives_choose (ltb 0 (literal_code (κ K T at))) _ _
        (λ z. let q = literal_code_lem (κ K T at) (bound at) z in gives_done (at + 1) 12 0 _ (inl (omega arith, read_leaf (literal_node q.0 q.1 null))))
        (λ z. gives_choose (both (eqb (κ K T (at + 1)) LP) (heads_call (κ K T at))) _ _
        (λ y. gives_onto (name_rec K T at ∷ []) _ (all.call (at + 2) (deeper c) (name_rec K T at ∷ []) (name z) refl) (λ a said n rs r. inl r))
        (λ y. gives_onto (name_rec K T at ∷ []) _ (gives_dotted K T bound (name_rec K T at ∷ []) (name z) refl (at + 1) s) (λ a said n rs r. r)))
      where
        null : literal_code (κ K T at) ≡ 30 → choose (eqb (κ K T at) NULL) 0 (τ K T at) ≡ 0
        null e = rw (null_code (κ K T at) (bound at) (eqb-true (literal_code (κ K T at)) 30 e))

        none : (k : ℕ) → k ≤ 0 → k ≡ 0
        none k h = omega (arith, h)

        name : ltb 0 (literal_code (κ K T at)) ≡ false → One a_name (name_rec K T at ∷ [])
        name z = one_name _ _ (leaf_code (κ K T at) (bound at) (both_i (both (leb 1 (κ K T at)) (leb (κ K T at) 11)) (eqb (literal_code (κ K T at)) 0)
            (both_i (leb 1 (κ K T at)) (leb (κ K T at) 11) (le-leb 1 (κ K T at) lo) (le-leb (κ K T at) 11 hi))
            (eqb-true (literal_code (κ K T at)) 0 (none (literal_code (κ K T at)) (ltb-false 0 (literal_code (κ K T at)) z)))))

    pub operand_gives : (at : ℕ) (c : Around) (s : ℕ) → GivesExpr (operand_w K T (suc f) at c s)
    unfolding expr_w
    operand_gives at c s = gives_choose (eqb (κ K T at) LP) _ _ (λ z. all.paren (at + 1) (deeper c))
        (λ z. gives_choose (eqb (κ K T at) CASE) _ _ (λ y. all.case (at + 1) (deeper c))
        (λ y. gives_choose (eqb (κ K T at) CAST) _ _ (λ x. all.cast (at + 1) (deeper c))
        (λ x. gives_choose (eqb (κ K T at) EXISTS) _ _ (λ w. all.exists (at + 1) (deeper c))
        (λ w. gives_choose (ltb 0 (prefix_of (κ K T at))) _ _ (λ v. all.prefix at c s (ltb-true 0 (prefix_of (κ K T at)) v)) (λ v. gives_stop)))))

    pub prefix_gives : (at : ℕ) (c : Around) (s : ℕ) → 0 < prefix_of (κ K T at) → GivesExpr (sign_w K T (suc f) at c s)
    unfolding expr_w
    prefix_gives at c s p = gives_choose (both (eqb (κ K T at) NOT) (ltb 10 s)) _ _ (λ z. gives_stop)
        (λ z. gives_bind (expr_w K T f (at + 1) (deeper c) (prefix_of (κ K T at))) _ (expr_told (prefix_of (κ K T at)) p (all.expr (at + 1) (deeper c) (prefix_of (κ K T at))))
        (λ a x n rs r. gives_done a (min (prefix_of (κ K T at)) x) 0 _ (omega (arith, p, r.0), read_over (prefix_node refl p) r.1)))

    pub list_gives : (at : ℕ) (c : Around) (n : ℕ) → Gives (list_w K T (suc f) at c n) (λ a s m rs. Several (some_of an_expr) n m rs)
    unfolding expr_w
    list_gives at c n = gives_loop K T n (expr_w K T f at c 1) (λ a m. list_w K T f (a + 1) c (n + 1)) (expr_one 1 (omega arith) (all.expr at c 1)) (λ a m. all.list (a + 1) c (n + 1))

    pub call_gives : (at : ℕ) (c : Around) (ls : List Rec) → One a_name ls → length ls ≡ 1 → Gives (call_w K T (suc f) at c) (λ a said n rs. (0 < said) × One an_expr (ls ++ rs))
    unfolding expr_w
    call_gives at c ls l len = gives_choose (eqb (κ K T at) STAR) _ _ (λ z. gives_called K T bound ls l len (at + 1) 2 0 [] (star_call_node refl refl) (empty_node refl refl) read_fin)
        (λ z. gives_choose (eqb (κ K T at) RP) _ _ (λ y. gives_called K T bound ls l len at 0 0 [] (call_node refl (omega arith)) (any_node refl refl) read_none)
        (λ y. gives_choose (eqb (κ K T at) DISTINCT) _ _
        (λ x. gives_bind (list_w K T f (at + 1) c 0) _ (all.list (at + 1) c 0)
        (λ a s n rs r. gives_called K T bound ls l len a 1 n rs (call_node refl (omega arith)) (any_node refl refl) (read_each (from_none r))))
        (λ x. gives_bind (list_w K T f at c 0) _ (all.list at c 0)
        (λ a s n rs r. gives_called K T bound ls l len a 0 n rs (call_node refl (omega arith)) (any_node refl refl) (read_each (from_none r))))))

    pub paren_gives : (at : ℕ) (c : Around) → GivesExpr (paren_w K T (suc f) at c)
    unfolding expr_w
    paren_gives at c = gives_choose (both (leb SELECT (κ K T at)) (leb (κ K T at) VALUES)) _ _ (λ z. all.sub at c 34 (subquery_node refl refl))
        (λ z. gives_bind (list_w K T f at c 0) _ (all.list at c 0) (λ a x n rs r. closed a 33 rs (parens_node refl refl) (from_none r)))

    pub sub_gives : (at : ℕ) (c : Around) (code : ℕ) → Node an_expr code 0 (a_query ▸ fin) → GivesExpr (sub_w K T (suc f) at c code)
    unfolding expr_w
    sub_gives at c code N = gives_bind (query_w K T f at c) _ (all.query at c) (λ a x n rs r. closed a code rs N r)

    pub exists_gives : (at : ℕ) (c : Around) → GivesExpr (exists_w K T (suc f) at c)
    unfolding expr_w
    exists_gives at c = gives_choose (eqb (κ K T at) LP) _ _ (λ z. all.sub (at + 1) c 35 (exists_node refl refl)) (λ z. gives_stop)

    pub cased_gives : (at : ℕ) (c : Around) → GivesMay an_expr (cased_w K T (suc f) at c)
    unfolding expr_w
    cased_gives at c = gives_choose (eqb (κ K T at) WHEN) _ _ (λ z. gives_done at 0 0 _ may_absent)
        (λ z. gives_map (expr_w K T f at c 1) (expr_one 1 (omega arith) (all.expr at c 1)) (λ a s n rs r. read_here r))

    pub cases_gives : (at : ℕ) (c : Around) (n : ℕ) → Gives (when_w K T (suc f) at c n) (λ a s m rs. Cases n m rs)
    unfolding expr_w
    cases_gives at c n = gives_bind (after_w K T f at WHEN c 1) _ (all.after at WHEN c 1 (omega arith))
        (λ a x m rs r. gives_bind (after_w K T f a THEN c 1) _ (all.after a THEN c 1 (omega arith))
        (λ b x m qs q. gives_choose (eqb (κ K T b) WHEN) _ _
        (λ z. gives_onto (rs ++ qs) (when_w K T f b c (n + 2)) (all.cases b c (n + 2)) (λ d x i us w. one_case r.1 q.1 w))
        (λ z. gives_done b 0 (n + 2) _ (last_case r.1 q.1))))

    pub case_gives : (at : ℕ) (c : Around) → GivesExpr (case_w K T (suc f) at c)
    unfolding expr_w
    case_gives at c = gives_bind (cased_w K T f at c) _ (all.cased at c)
        (λ a x n rs r. gives_bind (when_w K T f a c 0) _ (all.cases a c 0)
        (λ b x m qs w. gives_bind (clause_w K T f b ELSE c) _ (all.clause b ELSE c)
        (λ d x n ps p. gives_choose (eqb (κ K T d) END) _ _
        (λ z. gives_done (d + 1) 12 0 _ (omega arith, read_over (case_node refl refl) (read_is (r &? w.ends ps p) (omega (arith, w.counts)) refl)))
        (λ z. gives_stop))))

    pub cast_gives : (at : ℕ) (c : Around) → GivesExpr (cast_w K T (suc f) at c)
    unfolding expr_w
    cast_gives at c = gives_bind (after_w K T f at LP c 1) _ (all.after at LP c 1 (omega arith))
        (λ a x n rs r. gives_choose (eqb (κ K T a) AS) _ _
        (λ z. gives_bind (name_w K T (a + 1)) _ (gives_name K T bound (a + 1)) (λ b x n qs q. closed b 37 (rs ++ qs) (cast_node refl refl) (r.1 & q.0)))
        (λ z. gives_stop))

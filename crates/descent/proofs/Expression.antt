-- An expression: an operand and the operators that go on from it; or it is too deep, which is refusal 5 at its first token, but 3 or 4 where
-- none begins there. Assumes nothing.
use mathlib.Core.Bool.{true, false, Bool}
use mathlib.Core.List.{List}
use mathlib.Core.Option.{some}
use mathlib.Core.Path.{◌≡◌, refl, sym, ap, ◌∙◌}
use Prim.Native.Nat.{ℕ, ◌≤◌, ◌<◌, suc}
use borrow.Author.Tests.{ltb-true, ltb-false, lt-ltb}
use lib.Dec.{ltb, eqb, leb}
use lib.ListN.{length}
use native.Mathlib.Omega.{arith}
use Rattle.theory.specs.Trees.{Tok, Nt, Row, nil}
use Rattle.theory.specs.Table.{pick, both, on_row, mem, null_of}
use Rattle.theory.specs.Outcome.{refused}
use Rattle.theory.proofs.Cases.{by_row, by_bool, 0≢1, both_l, both_r, both_i, eqb_eq, leb_le, le-leb}
use Rattle.theory.proofs.Tested.{allb, all_mem}
use Rattle.kinds.specs.Kinds.{ID, NULL, NOT}
use Rattle.kinds.specs.Strength.{prefix_of}
use Rattle.kinds.specs.Classes.{is_name, begins_expr, literal_code}
use Rattle.grammar.specs.Rows.{exprs}
use Rattle.grammar.specs.Grammar.{sql}
use Rattle.grammar.specs.Sizes.{LEVELS}
use Rattle.grammar.specs.Limits.{Around, begun, judge, is_expression}
use Rattle.grammar.specs.Nodes.{Rec}
use Rattle.grammar.specs.Reading.{choose}
use Rattle.descent.proofs.Places.{kind_at, tok_at, wrong, calls}
use Rattle.descent.proofs.Named.{not_before, prefix_row, rest_of, head_row, own}
use Rattle.descent.proofs.Walk.{stop, wrong_at, too_deep_w, expr_w, leaf_w, operand_w, ops_w}
use Rattle.descent.proofs.SameRow.{below?, throughout}
use Rattle.descent.proofs.TableFacts.{BOUND}
use Rattle.descent.proofs.Steps.{call_word}
use Rattle.descent.proofs.Means.{Takes, Told, Good, ExprOK, LeafOK, CompoundOK, OpsOK}
use Rattle.descent.proofs.Common.{told_bind, told_onto, told_choose, told_stop}
use Rattle.descent.proofs.Heads.{is_there, begins_head, head_in, head_none, head_weak}

-- an expression begins by a row of strength 10 at NOT, of 11 or more elsewhere
strong_test : ℕ → Bool
strong_test k = allb (λ C. on_row (head_row C k) (λ r. both (is_expression r) (leb (pick (eqb k NOT) 10 (λ w. 11)) r.str)) (λ w. true)) exprs

strong_right : below? BOUND strong_test ≡ true
unfolding strong_test below? head_row prefix_row rest_of prefix_of literal_code is_name exprs on_row pick both allb
strong_right = refl

head_strong : (C : ℕ) → mem C exprs ≡ true → (k : ℕ) → k < BOUND → (r : Row) → head_row C k ≡ some r → (is_expression r ≡ true) × (pick (eqb k NOT) 10 (λ w. 11) ≤ r.str)
unfolding strong_test on_row
head_strong C m k h r e = let a = rw e at (all_mem (λ C. on_row (head_row C k) (λ r. both (is_expression r) (leb (pick (eqb k NOT) 10 (λ w. 11)) r.str)) (λ w. true)) exprs C (throughout BOUND strong_test strong_right k h) m) in
    (both_l (is_expression r) _ a, leb_le (pick (eqb k NOT) 10 (λ w. 11)) r.str (both_r (is_expression r) _ a))

at_NOT : (C : ℕ) → head_row C NOT ≡ some not_before
unfolding head_row prefix_row prefix_of pick
at_NOT C = refl

too_deep_word : (c : Around) (r : Row) (t : Tok) → is_expression r ≡ true → LEVELS < c.level → judge c r nil t nil ≡ 5
unfolding judge begun both pick
too_deep_word c r t h l = rw (h, lt-ltb LEVELS c.level l)

module _ (K T : List ℕ) (good : Good K T) where
  module _ (at : ℕ) (c : Around) (s : ℕ) (A : Nt) (t : Takes A s) (o : mem (kind_at K at) (own A.of) ≡ false) (n : null_of sql A ≡ true → begins_expr (kind_at K at) ≡ true) (l : LEVELS < c.level) where
    enough : (r : Row) → head_row A.of (kind_at K at) ≡ some r → both (eqb (kind_at K at) NOT) (ltb 10 s) ≡ false → (1 ≤ r.str) × (s ≤ r.str) × (is_expression r ≡ true)
    unfolding pick both
    enough r e w = let h = head_strong A.of t.among (kind_at K at) (good.bound at) r e in by_bool (eqb (kind_at K at) NOT)
        (λ z. let a : 10 ≤ r.str = rw z at h.1 in let b = ltb-false 10 s (rw z at w) in (omega (arith, a), omega (arith, a, b), h.0))
        (λ z. let a : 11 ≤ r.str = rw z at h.1 in (omega (arith, a), omega (arith, a, t.most), h.0))

    too_deep : (P : ℕ → ℕ → ℕ → List Rec → Type 0) → Told (too_deep_w K T at s) P (λ m p. calls K T c A at ≡ refused m p)
    unfolding too_deep_w is_there
    too_deep P = told_choose (begins_expr (kind_at K at)) _ (wrong_at K T at)
        (λ z. told_choose (both (eqb (kind_at K at) NOT) (ltb 10 s)) (wrong_at K T at) (stop 5 at)
        (λ w. told_stop (wrong (kind_at K at)) at (head_weak K T good at c s A t o not_before (rw (eqb_eq (kind_at K at) NOT (both_l (eqb (kind_at K at) NOT) (ltb 10 s) w)) (at_NOT A.of))
        (omega arith) (ltb-true 10 s (both_r (eqb (kind_at K at) NOT) (ltb 10 s) w))))
        (λ w. told_stop 5 at (by_row (head_row A.of (kind_at K at))
        (λ r e. let h = enough r e w in call_word K T good.sound c A at r 4 (head_in K T good at c s A t o r e h.0 h.1) (too_deep_word c r (tok_at K T at) h.2 l))
        (λ e. 0≢1 (sym (begins_head A.of t.among (kind_at K at) (good.bound at) ∙ ap is_there e) ∙ z)))))
        (λ z. told_stop (wrong (kind_at K at)) at (by_row (head_row A.of (kind_at K at))
        (λ r e. 0≢1 (sym z ∙ begins_head A.of t.among (kind_at K at) (good.bound at) ∙ ap is_there e))
        (λ e. head_none K T good at c s A t o e n)))

  pub expr_ok : (f : ℕ) → LeafOK K T f → CompoundOK K T f → OpsOK K T f → ExprOK K T (suc f)
  unfolding expr_w
  expr_ok f leaves compound ops at c s A t o n = told_choose (ltb LEVELS c.level) (too_deep_w K T at s) _
      (λ z. too_deep at c s A t o n (ltb-true LEVELS c.level z) _)
      (λ z. let l = ltb-false LEVELS c.level z in
      told_bind (choose (both (leb ID (kind_at K at)) (leb (kind_at K at) NULL)) (leaf_w K T f at c s) (operand_w K T f at c s)) _
      (told_choose (both (leb ID (kind_at K at)) (leb (kind_at K at) NULL)) (leaf_w K T f at c s) (operand_w K T f at c s)
      (λ w. leaves at c s A t o n l (leb_le ID (kind_at K at) (both_l (leb ID (kind_at K at)) (leb (kind_at K at) NULL) w), leb_le (kind_at K at) NULL (both_r (leb ID (kind_at K at)) (leb (kind_at K at) NULL) w)))
      (λ w. compound at c s A t o n l (λ h. 0≢1 (sym w ∙ both_i (leb ID (kind_at K at)) (leb (kind_at K at) NULL) (le-leb ID (kind_at K at) h.0) (le-leb (kind_at K at) NULL h.1)))))
      (λ a left m rs q. told_onto rs (ops_w K T f a c s left (length rs)) (ops a c s left (length rs) A t q.0 q.2 (ap length (sym q.3)))
      (λ b said i qs p. (p.0, q.1 ∙ p.1, p.2, p.3, rw q.3 (sym p.4)))
      (λ m p e. q.1 ∙ e))
      (λ m p e. e))

use mathlib.Core.Path.{refl, sym, ◌∙◌}
use Rattle.reader.proofs.Laying.{renumbered, no_left, no_right}
use Rattle.reader.proofs.KindTests.{deep_weak, deep_strong, deep_five}
use Rattle.reader.specs.Bounds.{strength_asked}
use borrow.Author.Tests.{ne_eqb, le-ltb}
use native.Mathlib.Omega.{arith}
use Rattle.reader.specs.declared.refusal.Reason.TheVariants as reason
use Rattle.reader.proofs.too_deep.Goals as goal
use Rattle.reader.proofs.too_deep.Goals.{else-kind-eq-NOT, then-kind-eq-NOT+else-strength-gt-NOT_STANDS}

pub returns-then-not-begins_expr : goal.returns-then-not-begins_expr
returns-then-not-begins_expr c = (c.wrong.ensures.0, renumbered c.wrong.ensures.1 (sym (deep_weak _ (strength_asked c.args.ask) (sym c.begins_expr.ensures ∙ c.if-not-begins_expr.true))))

pub returns-then-strength-gt-NOT_STANDS : goal.returns-then-strength-gt-NOT_STANDS
returns-then-strength-gt-NOT_STANDS c = (c.wrong-then-strength-gt-NOT_STANDS.ensures.0, renumbered c.wrong-then-strength-gt-NOT_STANDS.ensures.1 (sym (deep_strong c.args.kind (strength_asked c.args.ask) c.if-kind-eq-NOT.true (omega (arith, c.if-strength-gt-NOT_STANDS.true, c.strength.ensures)))))

pub returns : goal.returns
returns c = (record { why = reason.TooDeep; is = refl }, record { why = reason.TooDeep; is = refl; number = (sym (deep_five _ (strength_asked c.args.ask) (sym c.begins_expr.ensures ∙ c.if-not-begins_expr.false) (elim c.if-kind-eq-NOT.branch [ then-kind-eq-NOT+else-strength-gt-NOT_STANDS w ↦ no_right _ _ (le-ltb 10 (strength_asked c.args.ask) (omega (arith, w.strength.ensures, w.if-strength-gt-NOT_STANDS.false))) | else-kind-eq-NOT w ↦ no_left _ _ (ne_eqb _ _ w.if-kind-eq-NOT.false) ]))) })

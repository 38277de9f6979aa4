use Rattle.reader.proofs.Steps.{ended, further}
use native.Mathlib.Omega.{arith}
use Rattle.reader.proofs.Laying.{laid, took, left, is, isn't, no_left, no_right}
use Rattle.descent.proofs.Walk.{dotted_w}
use Rattle.theory.proofs.Cases.{both_i, eqb-true}
use borrow.Author.Tests.{ne_eqb}
use mathlib.Core.Path.{refl}
use Rattle.reader.proofs.dotted.Goals as goal
use Rattle.reader.proofs.dotted.Goals.{else-s-eq-COLUMN, then-s-eq-COLUMN+else-peek-eq-STAR}

pub returns-then-kind-ne-DOT : goal.returns-then-kind-ne-DOT
unfolding dotted_w
returns-then-kind-ne-DOT c = (ended c.got.ensures (omega arith), left _ _ _ (isn't c.requires.1 c.if-kind-ne-DOT.true) (laid c.got.ensures refl c.emit.ensures.1))

pub returns-then-peek-eq-STAR : goal.returns-then-peek-eq-STAR
unfolding dotted_w
returns-then-peek-eq-STAR c = (ended c.got-then-peek-eq-STAR.ensures (omega (arith, c.requires, c.emit-then-peek-eq-STAR.ensures.0, c.if-peek-eq-STAR.true, c.peek.ensures, c.if-s-eq-COLUMN.true, c.if-kind-ne-DOT.false)), took _ _ _ (is c.requires.1 c.if-kind-ne-DOT.false) (took _ _ _ (both_i _ _ (eqb-true _ _ c.if-s-eq-COLUMN.true) (is c.peek.ensures c.if-peek-eq-STAR.true)) (laid c.got-then-peek-eq-STAR.ensures refl c.emit-then-peek-eq-STAR.ensures.1)))

pub returns : goal.returns
unfolding dotted_w
returns c = (further c.dots.ensures.0 (omega arith), took _ _ _ (is c.requires.1 c.if-kind-ne-DOT.false) (left _ _ _ (elim c.if-s-eq-COLUMN.branch [ then-s-eq-COLUMN+else-peek-eq-STAR w ↦ no_right _ _ (isn't w.peek.ensures w.if-peek-eq-STAR.false) | else-s-eq-COLUMN w ↦ no_left _ _ (ne_eqb _ _ w.if-s-eq-COLUMN.false) ]) c.dots.ensures.1))

use mathlib.Core.Path.{refl}
use Rattle.reader.proofs.Steps.{further}
use native.Mathlib.Omega.{arith}
use Rattle.reader.proofs.Laying.{took, left}
use Rattle.reader.proofs.Laying.{none_came}
use Rattle.theory.proofs.Cases.{eqb-true}
use borrow.Author.Tests.{ne_eqb}
use mathlib.Core.List.{[]}
use Rattle.reader.proofs.bare.Goals as goal

pub returns-then-kind-eq-STAR : goal.returns-then-kind-eq-STAR
returns-then-kind-eq-STAR c = (further c.called.ensures.0 (omega arith), took _ _ _ (eqb-true _ _ c.if-kind-eq-STAR.true) (c.called.ensures.1 _ [] refl none_came))

pub returns : goal.returns
returns c = (further c.called-2.ensures.0 (omega arith), left _ _ _ (ne_eqb _ _ c.if-kind-eq-STAR.false) (c.called-2.ensures.1 _ [] refl none_came))

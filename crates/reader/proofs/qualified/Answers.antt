use Rattle.reader.proofs.Steps.{further, got_in, one_on, passed_on}
use native.Mathlib.Omega.{arith}
use Rattle.reader.proofs.Laying.{took, left, goes, halts, behind, is, isn't}
use Rattle.descent.proofs.Walk.{qualified_w}
use Rattle.reader.specs.Laying.{absences}
use Rattle.reader.proofs.qualified.Goals as goal

pub returns-in_default : goal.returns-in_default
unfolding qualified_w absences
returns-in_default c = (passed_on c.name-r.ensures.0 c.in_default.is, took _ _ _ (is c.peek.ensures c.if-peek-eq-DOT.true) (halts _ _ c.name-r.ensures.2 c.in_default.is))

pub returns-then-peek-eq-DOT : goal.returns-then-peek-eq-DOT
unfolding qualified_w absences
returns-then-peek-eq-DOT c = (further c.name.ensures.0 (omega (arith, got_in c.name-r.ensures.0 c.in-Got.is, one_on c.name-r.ensures.1 c.in-Got.is, c.requires, c.if-peek-eq-DOT.true, c.peek.ensures)), took _ _ _ (is c.peek.ensures c.if-peek-eq-DOT.true) (goes _ _ c.name-r.ensures.2 c.in-Got.is (λ rs F. behind _ _ F c.name.ensures.2)))

pub returns : goal.returns
unfolding qualified_w absences
returns c = (further c.name-2.ensures.0 (omega (arith, c.requires, c.absent.ensures.0, c.if-peek-eq-DOT.false, c.peek.ensures)), left _ _ _ (isn't c.peek.ensures c.if-peek-eq-DOT.false) (behind _ _ c.absent.ensures.1 c.name-2.ensures.2))

use Rattle.reader.proofs.Steps.{ended, got_in, one_on, passed_on, refused}
use native.Mathlib.Omega.{arith}
use Rattle.reader.proofs.Laying.{laid, took, left, goes, halts, misfit, is, isn't, differs}
use Rattle.descent.proofs.Walk.{index_w}
use Rattle.reader.specs.Laying.{absences}
use mathlib.Core.Path.{refl}
use Rattle.reader.proofs.index.Goals as goal

pub returns-then-by-ne-BY : goal.returns-then-by-ne-BY
unfolding index_w absences
returns-then-by-ne-BY c = (refused c.wrong.ensures.0 (omega arith), took _ _ _ (is c.peek-kind.ensures c.in-4.is) (left _ _ _ (isn't c.peek-by.ensures c.if-by-ne-BY.true) (misfit c.peek-by.ensures c.wrong.ensures.1)))

pub returns-in_default-r : goal.returns-in_default-r
unfolding index_w absences
returns-in_default-r c = (passed_on c.name-r.ensures.0 c.in_default-r.is, took _ _ _ (is c.peek-kind.ensures c.in-4.is) (took _ _ _ (is c.peek-by.ensures c.if-by-ne-BY.false) (halts _ _ c.name-r.ensures.2 c.in_default-r.is)))

pub returns-then-x-ne-INDEXED : goal.returns-then-x-ne-INDEXED
unfolding index_w absences
returns-then-x-ne-INDEXED c = (refused c.wrong-then-x-ne-INDEXED.ensures.0 (omega arith), left _ _ _ (differs _ c.peek-kind.ensures c.in-36.is refl) (took _ _ _ (is c.peek-kind.ensures c.in-36.is) (left _ _ _ (isn't c.peek-x.ensures c.if-x-ne-INDEXED.true) (misfit c.peek-x.ensures c.wrong-then-x-ne-INDEXED.ensures.1))))

pub returns-in-Got : goal.returns-in-Got
unfolding index_w absences
returns-in-Got c = (ended c.got.ensures (omega (arith, got_in c.name-r.ensures.0 c.in-Got.is, one_on c.name-r.ensures.1 c.in-Got.is, c.requires, c.if-by-ne-BY.false, c.peek-by.ensures, c.peek-kind.ensures)), took _ _ _ (is c.peek-kind.ensures c.in-4.is) (took _ _ _ (is c.peek-by.ensures c.if-by-ne-BY.false) (goes _ _ c.name-r.ensures.2 c.in-Got.is (λ rs F. laid c.got.ensures refl (F)))))

pub returns-else-x-ne-INDEXED : goal.returns-else-x-ne-INDEXED
unfolding index_w absences
returns-else-x-ne-INDEXED c = (ended c.got-in-36.ensures (omega (arith, c.requires, c.absent.ensures.0, c.if-x-ne-INDEXED.false, c.peek-x.ensures, c.peek-kind.ensures)), left _ _ _ (differs _ c.peek-kind.ensures c.in-36.is refl) (took _ _ _ (is c.peek-kind.ensures c.in-36.is) (took _ _ _ (is c.peek-x.ensures c.if-x-ne-INDEXED.false) (laid c.got-in-36.ensures refl c.absent.ensures.1))))

pub returns-in_default : goal.returns-in_default
unfolding index_w absences
returns-in_default c = (ended c.got-in_default.ensures (omega arith), left _ _ _ (isn't c.peek-kind.ensures c.in_default.in_default-own.rest.0.1) (left _ _ _ (isn't c.peek-kind.ensures c.in_default.in_default-own.rest.1) (laid c.got-in_default.ensures refl c.absent-in_default.ensures.1)))

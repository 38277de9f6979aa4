use Rattle.reader.proofs.Steps.{ended, got_in, one_on, passed_on}
use native.Mathlib.Omega.{arith}
use Rattle.reader.proofs.Laying.{laid, took, left, goes, halts}
use Rattle.theory.proofs.Cases.{eqb-true}
use borrow.Author.Tests.{ne_eqb}
use mathlib.Core.Path.{refl}
use Rattle.reader.proofs.renamed.Goals as goal

pub returns-in_default : goal.returns-in_default
returns-in_default c = (passed_on c.name-r.ensures.0 c.in_default.is, λ z. took _ _ _ (eqb-true _ _ c.if-kind-eq-AS.true) (halts _ _ c.name-r.ensures.2 c.in_default.is))

pub returns-then-kind-eq-AS : goal.returns-then-kind-eq-AS
returns-then-kind-eq-AS c = (ended c.got.ensures (omega (arith, got_in c.name-r.ensures.0 c.in-Got.is, one_on c.name-r.ensures.1 c.in-Got.is, c.requires, c.if-kind-eq-AS.true)), λ z. took _ _ _ (eqb-true _ _ c.if-kind-eq-AS.true) (goes _ _ c.name-r.ensures.2 c.in-Got.is (λ rs F. laid c.got.ensures refl (F))))

pub returns : goal.returns
returns c = (ended c.got-2.ensures (omega arith), λ z. left _ _ _ (ne_eqb _ _ c.if-kind-eq-AS.false) (laid c.got-2.ensures refl (c.named.ensures.1 z.is)))

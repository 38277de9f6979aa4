use Rattle.reader.proofs.Steps.{null_got, null_refused}
use mathlib.Core.Path.{refl}
use native.Mathlib.Omega.{arith}
use Rattle.reader.proofs.Laying.{laid, said, took, left, closed}
use Rattle.theory.proofs.Cases.{eqb-true}
use borrow.Author.Tests.{ne_eqb}
use Rattle.reader.proofs.notnull.Goals as goal

pub returns-then-word-ne-NULL : goal.returns-then-word-ne-NULL
returns-then-word-ne-NULL c = (null_refused c.wrong.ensures.0 refl, λ pre b. left _ _ _ (ne_eqb _ _ c.if-word-ne-NULL.true) (said c.wrong.ensures.1 refl))

pub returns : goal.returns
returns c = (null_got c.got.ensures (omega arith), λ pre b. took _ _ _ (eqb-true _ _ c.if-word-ne-NULL.false) (laid c.got.ensures refl (closed _ pre b c.emit.ensures.1)))

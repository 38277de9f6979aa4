use Rattle.reader.proofs.Steps.{ended, refused}
use native.Mathlib.Omega.{arith}
use Rattle.reader.proofs.Laying.{laid, took, left, misfit, paired, is, isn't}
use Rattle.descent.proofs.Walk.{called_w}
use mathlib.Core.Path.{refl}
use Rattle.reader.proofs.called.Goals as goal

pub returns-then-kind-ne-RP : goal.returns-then-kind-ne-RP
unfolding called_w
returns-then-kind-ne-RP c = (refused c.wrong.ensures.0 (omega arith), λ t rs b F. left _ _ _ (isn't c.peek-kind.ensures c.if-kind-ne-RP.true) (misfit c.peek-kind.ensures c.wrong.ensures.1))

pub returns : goal.returns
unfolding called_w
returns c = (ended c.got.ensures (omega (arith, c.requires, c.emit.ensures.0, c.emit-2.ensures.0, c.if-kind-ne-RP.false, c.peek-kind.ensures)), λ t rs b F. took _ _ _ (is c.peek-kind.ensures c.if-kind-ne-RP.false) (laid c.got.ensures refl (paired b F c.emit.ensures.1 c.emit-2.ensures.1)))

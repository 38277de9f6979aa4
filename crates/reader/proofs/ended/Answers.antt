use Rattle.reader.proofs.Steps.{ended, refused}
use native.Mathlib.Omega.{arith}
use Rattle.reader.proofs.Laying.{laid, took, left, misfit, capped, is, isn't}
use Rattle.descent.proofs.Walk.{ended_w}
use mathlib.Core.Path.{refl}
use Rattle.reader.proofs.ended.Goals as goal

pub returns-then-kind-ne-RP : goal.returns-then-kind-ne-RP
unfolding ended_w
returns-then-kind-ne-RP c = (refused c.wrong.ensures.0 (omega arith), λ pre t rs b F. left _ _ _ (isn't c.peek-kind.ensures c.if-kind-ne-RP.true) (misfit c.peek-kind.ensures c.wrong.ensures.1))

pub returns : goal.returns
unfolding ended_w
returns c = (ended c.got.ensures (omega arith), λ pre t rs b F. took _ _ _ (is c.peek-kind.ensures c.if-kind-ne-RP.false) (laid c.got.ensures refl (capped _ pre b F c.emit.ensures.1)))

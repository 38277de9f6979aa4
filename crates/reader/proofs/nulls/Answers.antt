use Rattle.reader.proofs.Steps.{ended, refused}
use native.Mathlib.Omega.{arith}
use Rattle.reader.proofs.Laying.{laid, took, left, misfit, is, isn't, differs}
use Rattle.reader.proofs.Laying.{none_came}
use Rattle.descent.proofs.Walk.{nulls_w}
use mathlib.Core.Path.{refl}
use Rattle.reader.proofs.nulls.Goals as goal

pub returns-then-kind-ne-NULLS : goal.returns-then-kind-ne-NULLS
unfolding nulls_w
returns-then-kind-ne-NULLS c = (ended c.got.ensures (omega arith), λ t. left _ _ _ (isn't c.peek-kind.ensures c.if-kind-ne-NULLS.true) (laid c.got.ensures refl none_came))

pub returns-in-68 : goal.returns-in-68
unfolding nulls_w
returns-in-68 c = (ended c.got-in-68.ensures (omega arith), λ t. took _ _ _ (is c.peek-kind.ensures c.if-kind-ne-NULLS.false) (took _ _ _ (is c.peek-next.ensures c.in-68.is) (laid c.got-in-68.ensures refl none_came)))

pub returns-in-69 : goal.returns-in-69
unfolding nulls_w
returns-in-69 c = (ended c.got-in-69.ensures (omega arith), λ t. took _ _ _ (is c.peek-kind.ensures c.if-kind-ne-NULLS.false) (left _ _ _ (differs _ c.peek-next.ensures c.in-69.is refl) (took _ _ _ (is c.peek-next.ensures c.in-69.is) (laid c.got-in-69.ensures refl none_came))))

pub returns-in_default : goal.returns-in_default
unfolding nulls_w
returns-in_default c = (refused c.wrong.ensures.0 (omega arith), λ t. took _ _ _ (is c.peek-kind.ensures c.if-kind-ne-NULLS.false) (left _ _ _ (isn't c.peek-next.ensures c.in_default.in_default-own.rest.0.1) (left _ _ _ (isn't c.peek-next.ensures c.in_default.in_default-own.rest.1) (misfit c.peek-next.ensures c.wrong.ensures.1))))

use Rattle.reader.proofs.Steps.{further}
use native.Mathlib.Omega.{arith}
use Rattle.reader.proofs.Laying.{took, left, is, isn't, differs}
use Rattle.descent.proofs.Walk.{way_w}
use mathlib.Core.Path.{refl}
use Rattle.reader.proofs.way.Goals as goal

pub returns-in-65 : goal.returns-in-65
unfolding way_w
returns-in-65 c = (further c.nulls.ensures.0 (omega arith), λ t. took _ _ _ (is c.peek-kind.ensures c.in-65.is) (c.nulls.ensures.1 t))

pub returns-in-66 : goal.returns-in-66
unfolding way_w
returns-in-66 c = (further c.nulls-in-66.ensures.0 (omega arith), λ t. left _ _ _ (differs _ c.peek-kind.ensures c.in-66.is refl) (took _ _ _ (is c.peek-kind.ensures c.in-66.is) (c.nulls-in-66.ensures.1 t)))

pub returns-in_default : goal.returns-in_default
unfolding way_w
returns-in_default c = (further c.nulls-in_default.ensures.0 (omega arith), λ t. left _ _ _ (isn't c.peek-kind.ensures c.in_default.in_default-own.rest.0.1) (left _ _ _ (isn't c.peek-kind.ensures c.in_default.in_default-own.rest.1) (c.nulls-in_default.ensures.1 t)))

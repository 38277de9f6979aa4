use Rattle.writer.proofs.Said.{bare_on, bare_many, bare_other}
use mathlib.Core.Path.{refl}
use native.Mathlib.Omega.{arith}
use Rattle.writer.proofs.lent.Pages.bare.Goals as goal

pub loop-i-init : goal.loop-i-init
loop-i-init c = (omega arith, λ t. (t, refl))

pub loop-i-preserved : goal.loop-i-preserved
loop-i-preserved c = bare_on c.loop-i.invariant c.code.ensures c.loop-i-test.true c.children.ensures c.if-children-eq1.true c.last-i.ensures

pub returns-else-children-eq1 : goal.returns-else-children-eq1
returns-else-children-eq1 c = bare_many c.loop-i.invariant c.code.ensures c.loop-i-test.true c.children.ensures c.if-children-eq1.false

pub returns-after-loop-i : goal.returns-after-loop-i
returns-after-loop-i c = bare_other c.loop-i.invariant c.code.ensures c.loop-i-test.false

use Prim.Native.Nat.{◌-◌}
use native.Mathlib.Omega.{arith}
use Rattle.reader.proofs.Turning.{turned_on, turned_whole}
use Rattle.reader.proofs.table.reverse.Goals as goal

pub loop-a-init : goal.loop-a-init
loop-a-init c = (omega arith, omega arith, omega arith, omega arith, λ E t. t)

pub loop-a-preserved : goal.loop-a-preserved
loop-a-preserved c = (omega (arith, c.requires, c.loop-a.invariant), omega (arith, c.requires, c.loop-a.invariant), omega (arith, c.requires, c.loop-a.invariant), omega (arith, c.requires, c.loop-a.invariant), λ E t. turned_on c.loop-a.nodes _ _ _ _ E c.loop-a.a c.loop-a.b (c.loop-a.b - 4) (omega (arith, c.loop-a-test.true)) (omega (arith, c.loop-a-test.true)) c.swap.ensures c.swap-in-loop-a.ensures c.swap-in-loop-a-2.ensures c.swap-in-loop-a-3.ensures (c.loop-a.invariant.4 E t))

pub returns : goal.returns
returns c = λ E t. turned_whole _ E c.loop-a.a c.loop-a.b c.loop-a-test.false (c.loop-a.invariant.4 E t)

use Prim.Native.Nat.{◌-◌, ◌+◌}
use mathlib.Core.Path.{◌≡◌, refl, ap}
use native.Mathlib.Omega.{arith}
use Rattle.reader.proofs.Laying.{filled_as, absent_more, absent_all, absent_cut}
use Rattle.descent.proofs.Filling.{nothing}
use Rattle.descent.proofs.Fill.{fill}
use Rattle.reader.specs.Laying.{absences}
use Rattle.reader.proofs.table.missing.Goals as goal

pub loop-i-init : goal.loop-i-init
unfolding absences fill
loop-i-init c = filled_as (ap absences (let e : 0 ≡ c.args.made - c.args.made = omega arith in e)) nothing

pub loop-i-preserved : goal.loop-i-preserved
unfolding absences fill
loop-i-preserved c = filled_as (ap absences (let e : c.loop-i.i - c.args.made + 1 ≡ c.loop-i.i + 1 - c.args.made = omega arith in e)) (absent_more (c.loop-i.i - c.args.made) c.loop-i.invariant (record { counted = omega arith; stand = λ z. refl }))

pub returns-after-loop-i : goal.returns-after-loop-i
returns-after-loop-i c = absent_all _ c.loop-i.invariant (omega arith)

pub returns-then-base-nodes : goal.returns-then-base-nodes
returns-then-base-nodes c = absent_cut _ _ (λ z. omega (arith, z, c.loop-i.auto.nodes, c.loop-i.auto.i, c.if-base-nodes.true))

use Rattle.writer.proofs.Leaves.{children_at_lem, before_most, backs_turn, backs_all}
use Rattle.writer.specs.Pages.{nodes_of}
use Rattle.scribe.proofs.Leading.{backs}
use mathlib.Core.Path.{ap, ◌∙◌}
use Prim.Native.Nat.{◌-◌}
use native.Mathlib.Omega.{arith}
use Rattle.writer.proofs.lent.Pages.first.Goals as goal

pub loop-preserved : goal.loop-preserved
loop-preserved c = (omega (arith, c.loop.invariant.0, c.before-j.ensures, before_most (nodes_of c.args.self.now) c.loop.j), backs_turn (nodes_of c.args.self.now) c.children-end.result c.loop.counter c.loop.j c.loop-test.true c.before-j.ensures ∙ c.loop.invariant.1)

pub returns : goal.returns
returns c = record { most = c.loop.invariant.0; is = λ h. backs_all (nodes_of c.args.self.now) c.children-end.result c.loop.counter c.loop.j c.loop-test.false ∙ c.loop.invariant.1 ∙ ap (λ z. backs (nodes_of c.args.self.now) (z - 1) (c.args.i - 1)) (children_at_lem c.children-end.ensures h) }

use Rattle.writer.proofs.Leaves.{backs_turn, backs_all}
use Rattle.writer.specs.Pages.{nodes_of}
use mathlib.Core.Path.{◌∙◌}
use Rattle.writer.proofs.lent.Pages.child.Goals as goal

pub loop-preserved : goal.loop-preserved
loop-preserved c = backs_turn (nodes_of c.args.self.now) c.args.n c.loop.counter c.loop.j c.loop-test.true c.before-j.ensures ∙ c.loop.invariant

pub returns : goal.returns
returns c = backs_all (nodes_of c.args.self.now) c.args.n c.loop.counter c.loop.j c.loop-test.false ∙ c.loop.invariant

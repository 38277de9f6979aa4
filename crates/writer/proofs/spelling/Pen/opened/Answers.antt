use Rattle.writer.proofs.Said.{opens_none, opens_next}
use Rattle.writer.proofs.Pens.{nothing_wrote, ◌after◌, wrote_as}
use Rattle.writer.proofs.spelling.Pen.opened.Goals as goal

pub loop-init : goal.loop-init
loop-init c = wrote_as opens_none nothing_wrote

pub loop-preserved : goal.loop-preserved
loop-preserved c = wrote_as (opens_next _) (c.word.ensures after c.loop.invariant)

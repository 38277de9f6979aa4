use Rattle.writer.proofs.Pens.{◌after◌}
use Rattle.writer.proofs.spelling.Pen.way.Goals as goal

pub returns : goal.returns
returns c = c.word_if.ensures after c.nulls.ensures

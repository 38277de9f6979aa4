use Rattle.writer.proofs.Pens.{◌after◌}
use Rattle.writer.proofs.spelling.Pen.selected.Goals as goal

pub returns : goal.returns
returns c = c.word.ensures after c.word_if.ensures

use Rattle.writer.proofs.Pens.{◌after◌}
use Rattle.writer.proofs.spelling.Pen.words.Goals as goal

pub returns : goal.returns
returns c = c.word-2.ensures after c.word.ensures

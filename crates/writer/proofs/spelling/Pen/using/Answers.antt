use Rattle.writer.proofs.Pens.{◌after◌}
use Rattle.writer.proofs.spelling.Pen.using.Goals as goal

pub returns : goal.returns
returns c = record { told = λ w. c.words.ensures after c.names.ensures.told w after c.word.ensures }

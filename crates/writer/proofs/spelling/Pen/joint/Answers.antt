use Rattle.writer.proofs.Said.{join_said}
use Rattle.scribe.proofs.Spelt.{join_comma}
use Rattle.writer.proofs.Pens.{◌after◌, wrote_as}
use Rattle.writer.proofs.spelling.Pen.joint.Goals as goal

pub returns-then-d-lt-FLAGS : goal.returns-then-d-lt-FLAGS
returns-then-d-lt-FLAGS c = λ h. wrote_as (join_comma h c.if-d-lt-FLAGS.true) c.word.ensures

pub returns : goal.returns
returns c = λ h. wrote_as (join_said _ c.if-d-lt-FLAGS.false c.fewest-w.ensures) (c.join_word-2.ensures after c.join_word.ensures after c.word-2.ensures)

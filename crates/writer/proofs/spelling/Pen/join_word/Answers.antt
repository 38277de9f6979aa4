use Rattle.writer.proofs.Said.{join_none, join_some}
use Rattle.writer.proofs.Pens.{nothing_wrote, wrote_as}
use Rattle.writer.proofs.spelling.Pen.join_word.Goals as goal

pub returns-in_default : goal.returns-in_default
returns-in_default c = wrote_as (join_none c.in_default.is) nothing_wrote

pub returns-in-Some : goal.returns-in-Some
returns-in-Some c = wrote_as (join_some c.in-Some.is) c.put.ensures

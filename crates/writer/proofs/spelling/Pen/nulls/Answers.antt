use Rattle.writer.proofs.Said.{nulls_first, nulls_last, nulls_none}
use Rattle.writer.proofs.Pens.{nothing_wrote, wrote_as}
use Rattle.writer.proofs.spelling.Pen.nulls.Goals as goal

pub returns-in-1 : goal.returns-in-1
returns-in-1 c = wrote_as (nulls_first c.in-1.is) c.words.ensures

pub returns-in-2 : goal.returns-in-2
returns-in-2 c = wrote_as (nulls_last c.in-2.is) c.words-in-2.ensures

pub returns-in_default : goal.returns-in_default
returns-in_default c = wrote_as (nulls_none c.in_default.in_default-own.rest.0.1 c.in_default.in_default-own.rest.1) nothing_wrote

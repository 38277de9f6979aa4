use Rattle.writer.proofs.Said.{table_kids, table_said}
use Rattle.scribe.proofs.Leading.{backs}
use Rattle.writer.proofs.Pens.{◌after◌, wrote_as, writ_at}
use Rattle.writer.proofs.spelling.Pen.table.Goals as goal

pub returns : goal.returns
unfolding backs
returns c = record { told = λ w. wrote_as (table_said w) (c.titled.ensures.told w after writ_at c.child.ensures c.alias.ensures (table_kids w).third after c.index.ensures.told w) }

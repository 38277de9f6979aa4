use Rattle.writer.proofs.Said.{table_kids}
use Rattle.scribe.proofs.Leading.{backs}
use Rattle.writer.proofs.Pens.{◌after◌, writ_at}
use Rattle.writer.proofs.spelling.Pen.titled.Goals as goal

pub returns : goal.returns
unfolding backs
returns c = record { told = λ w. writ_at c.child-2.ensures c.schema.ensures (table_kids w).first after writ_at c.child.ensures c.name.ensures (table_kids w).second }

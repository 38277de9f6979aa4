use Rattle.writer.proofs.Leaves.{put_one, put_past}
use mathlib.Core.Path.{refl}
use Rattle.writer.proofs.spelling.Pen.put.Goals as goal

pub returns-then-at-self : goal.returns-then-at-self
returns-then-at-self c = record { same = refl; puts = put_one _ _ c.number.ensures refl }

pub returns-else-at-self : goal.returns-else-at-self
returns-else-at-self c = record { same = refl; puts = put_past _ _ c.if-at-self.false }

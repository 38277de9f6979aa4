use native.Mathlib.Omega.{arith}
use mathlib.Core.Path.{refl}
use Rattle.reader.proofs.Laying.{absent_one}
use Rattle.reader.proofs.table.Table.absent.Goals as goal

pub returns-then-n-eq1 : goal.returns-then-n-eq1
returns-then-n-eq1 c = (omega arith, absent_one _ c.if-n-eq1.true c.emit.ensures.1)

pub returns : goal.returns
returns c = (refl, record { same = refl; filled = c.missing.ensures })

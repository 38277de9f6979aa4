use Rattle.std.proofs.Common.{◌-◌}
use Rattle.descent.proofs.Fill.{Filled}
use Rattle.reader.specs.Laying.{absences}
use Rattle.reader.proofs.table.missing.Given as goal

abbrev pub invariant-loop-i : goal.invariant-loop-i
invariant-loop-i l = Filled l.initial.nodes l.nodes l.made l.i (absences (l.i - l.made))

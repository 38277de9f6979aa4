-- 01's numbers of the refusals.
use Rattle.std.specs.Prelude.{ℕ}
use Rattle.reader.specs.declared.refusal.Reason.{Reason}
use Rattle.reader.specs.declared.refusal.Reason.TheVariants as reason

abbrev pub number_of : Reason → ℕ
number_of reason.Lengths = 1
number_of reason.Unfit = 2
number_of reason.CannotFollow = 3
number_of reason.Unfinished = 4
number_of reason.TooDeep = 5
number_of reason.TooManyQueries = 6
number_of reason.JoinFlags = 7
number_of reason.RowLength = 8
number_of reason.TableShort = 9
number_of reason.OutputShort = 10

use Rattle.reader.proofs.KindTests.{joins_on, joins_end}
use Rattle.reader.proofs.begins_join.Goals as goal

pub returns-in-14 : goal.returns-in-14
returns-in-14 c = joins_on _ c.in-14.is

pub returns-in_default : goal.returns-in_default
returns-in_default c = joins_end _ c.in_default.in_default-own.rest.1

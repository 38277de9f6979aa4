use Rattle.reader.proofs.KindTests.{bare_on, bare_end}
use Rattle.reader.proofs.is_bare.Goals as goal

pub returns-in-13 : goal.returns-in-13
returns-in-13 c = bare_on _ c.in-13.is

pub returns-in_default : goal.returns-in_default
returns-in_default c = bare_end _ c.in_default.in_default-own.rest.1

use Rattle.writer.proofs.Said.{name_string, name_indexed, name_join, name_id}
use Rattle.writer.proofs.spelling.name_kind.Goals as goal

pub returns-in-21 : goal.returns-in-21
returns-in-21 c = name_string c.in-21.is

pub returns-in-22 : goal.returns-in-22
returns-in-22 c = name_indexed c.in-22.is

pub returns-in-23 : goal.returns-in-23
returns-in-23 c = name_join c.in-23.is

pub returns-in_default : goal.returns-in_default
returns-in_default c = name_id c.in_default.in_default-own.rest.0.0.1 c.in_default.in_default-own.rest.0.1 c.in_default.in_default-own.rest.1

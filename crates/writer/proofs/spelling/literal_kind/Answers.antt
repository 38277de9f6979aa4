use Rattle.writer.proofs.Said.{literal_integer, literal_float, literal_string, literal_blob, literal_variable, literal_time}
use Rattle.writer.proofs.spelling.literal_kind.Goals as goal

pub returns-in-24 : goal.returns-in-24
returns-in-24 c = literal_integer c.in-24.is

pub returns-in-25 : goal.returns-in-25
returns-in-25 c = literal_float c.in-25.is

pub returns-in-26 : goal.returns-in-26
returns-in-26 c = literal_string c.in-26.is

pub returns-in-27 : goal.returns-in-27
returns-in-27 c = literal_blob c.in-27.is

pub returns-in-28 : goal.returns-in-28
returns-in-28 c = literal_variable c.in-28.is

pub returns-in_default : goal.returns-in_default
returns-in_default c = literal_time c.in_default.in_default-own.rest.0.0.0.0.1 c.in_default.in_default-own.rest.0.0.0.1 c.in_default.in_default-own.rest.0.0.1 c.in_default.in_default-own.rest.0.1 c.in_default.in_default-own.rest.1

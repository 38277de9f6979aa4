use Rattle.writer.proofs.Said.{closes_null, closes_column, closes_sort, closes_collate}
use Rattle.writer.proofs.spelling.Pen.after.Goals as goal

pub returns-in-40 : goal.returns-in-40
returns-in-40 c = closes_null c.in-40.is c.detail.ensures c.word.ensures

pub returns-in-7 : goal.returns-in-7
returns-in-7 c = closes_column c.in-7.is c.last.ensures c.alias.ensures

pub returns-in-14 : goal.returns-in-14
returns-in-14 c = closes_sort c.in-14.is c.detail-in-14.ensures c.way.ensures

pub returns-in_default : goal.returns-in_default
returns-in_default c = closes_collate c.in_default.in_default-own.rest.0.0.1 c.in_default.in_default-own.rest.0.1 c.in_default.in_default-own.rest.1 c.last-in_default.ensures c.name.ensures c.word-in_default.ensures

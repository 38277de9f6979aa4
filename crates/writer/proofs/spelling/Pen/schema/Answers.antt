use Rattle.writer.proofs.Said.{is_absent, is_there, schema_none, schema_some}
use Rattle.writer.proofs.Pens.{nothing_wrote, ◌after◌, wrote_as}
use Rattle.writer.proofs.spelling.Pen.schema.Goals as goal

pub returns-then-code-eq-ABSENT : goal.returns-then-code-eq-ABSENT
returns-then-code-eq-ABSENT c = record { told = λ m. wrote_as (schema_none m (is_absent m c.code.ensures c.if-code-eq-ABSENT.true)) nothing_wrote }

pub returns : goal.returns
returns c = record { told = λ m. let k = schema_some m (is_there m c.code.ensures c.if-code-eq-ABSENT.false) in wrote_as k.1 (c.name.ensures.told k.0 after c.word.ensures) }

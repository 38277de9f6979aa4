use Rattle.writer.proofs.Said.{is_absent, is_there}
use Rattle.scribe.proofs.Clauses.{clause_gone, clause_here}
use mathlib.Core.Path.{refl}
use Rattle.writer.proofs.Pens.{nothing_wrote, ◌after◌, wrote_as}
use Rattle.writer.proofs.spelling.Pen.alias.Goals as goal

pub returns-then-code-eq-ABSENT : goal.returns-then-code-eq-ABSENT
returns-then-code-eq-ABSENT c = record { told = λ m. wrote_as (clause_gone refl _ m (is_absent m c.code.ensures c.if-code-eq-ABSENT.true)) nothing_wrote }

pub returns : goal.returns
returns c = record { told = λ m. let k = clause_here refl _ m (is_there m c.code.ensures c.if-code-eq-ABSENT.false) in wrote_as k.1 (c.word.ensures after c.name.ensures.told k.0) }

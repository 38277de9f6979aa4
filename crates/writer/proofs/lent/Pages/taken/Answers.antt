use Rattle.writer.proofs.Said.{taken_join, taken_source}
use Rattle.writer.proofs.lent.Pages.taken.Goals as goal

pub returns-then-code-eq-JOIN : goal.returns-then-code-eq-JOIN
returns-then-code-eq-JOIN c = taken_join c.code.ensures c.if-code-eq-JOIN.true c.child.ensures

pub returns-else-code-eq-JOIN : goal.returns-else-code-eq-JOIN
returns-else-code-eq-JOIN c = taken_source c.code.ensures c.if-code-eq-JOIN.false

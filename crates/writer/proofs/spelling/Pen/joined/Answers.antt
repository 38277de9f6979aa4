use Rattle.writer.proofs.Said.{no_join_toks, join_toks_lem}
use Rattle.writer.proofs.Pens.{nothing_wrote, wrote_as}
use Rattle.writer.proofs.spelling.Pen.joined.Goals as goal

pub returns-else-code-eq-JOIN : goal.returns-else-code-eq-JOIN
returns-else-code-eq-JOIN c = record { told = λ p. wrote_as (no_join_toks c.code.ensures p c.if-code-eq-JOIN.false) nothing_wrote }

pub returns-then-code-eq-JOIN : goal.returns-then-code-eq-JOIN
returns-then-code-eq-JOIN c = record { told = λ p. let k = join_toks_lem c.code.ensures p c.if-code-eq-JOIN.true c.detail.ensures in wrote_as k.1 (c.joint.ensures k.0) }

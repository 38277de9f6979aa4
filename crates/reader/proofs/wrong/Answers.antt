use Rattle.reader.proofs.Laying.{wrong_end, wrong_token}
use mathlib.Core.Path.{sym}
use Rattle.reader.specs.declared.refusal.Reason.TheVariants as reason
use Rattle.reader.proofs.wrong.Goals as goal

pub returns-then-kind-eq0 : goal.returns-then-kind-eq0
returns-then-kind-eq0 c = (record { why = reason.Unfinished; is = c.refused.ensures }, record { why = reason.Unfinished; is = c.refused.ensures; number = sym (wrong_end c.if-kind-eq0.true) })

pub returns : goal.returns
returns c = (record { why = reason.CannotFollow; is = c.refused-2.ensures }, record { why = reason.CannotFollow; is = c.refused-2.ensures; number = sym (wrong_token c.if-kind-eq0.false) })

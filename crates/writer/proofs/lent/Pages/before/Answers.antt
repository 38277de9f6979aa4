use Rattle.writer.proofs.Leaves.{before_is}
use mathlib.Core.Path.{◌∙◌}
use Rattle.writer.proofs.lent.Pages.before.Goals as goal

pub returns : goal.returns
returns c = c.saturating_sub.ensures ∙ before_is c.field.ensures

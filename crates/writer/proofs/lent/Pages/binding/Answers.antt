use Rattle.kinds.proofs.StrengthTable.{looked_up}
use Rattle.writer.proofs.Said.{binding_words, binding_kind}
use Rattle.kinds.proofs.Small.{strength_small}
use mathlib.Core.Path.{◌∙◌}
use native.Mathlib.Omega.{arith}
use Rattle.writer.proofs.lent.Pages.binding.Goals as goal

pub returns-then-detail-ge-WORDS : goal.returns-then-detail-ge-WORDS
returns-then-detail-ge-WORDS c = (binding_words _ c.if-detail-ge-WORDS.true, omega arith)

pub returns-else-detail-ge-WORDS : goal.returns-else-detail-ge-WORDS
returns-else-detail-ge-WORDS c = let e = looked_up _ c.args.self.now.ruled c.strength.ensures in (e ∙ binding_kind _ c.if-detail-ge-WORDS.false, let s = strength_small c.args.detail in omega (arith, e, s))

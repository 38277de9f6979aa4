use Rattle.writer.proofs.Leaves.{kind_number, text_number}
use Rattle.writer.proofs.lent.Pages.number.Goals as goal

pub returns-in-Kinds : goal.returns-in-Kinds
returns-in-Kinds c = kind_number _ _ c.in-Kinds.is

pub returns-in-Texts : goal.returns-in-Texts
returns-in-Texts c = text_number _ _ c.in-Texts.is

use Rattle.kinds.proofs.StrengthTable.{looked_up}
use Rattle.reader.proofs.strength.Goals as goal

pub returns : goal.returns
returns c = looked_up c.args.kind c.args.lists.now.ruled c.strength.ensures

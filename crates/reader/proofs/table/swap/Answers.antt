use borrow.Author.Rules.{rules}
use Rattle.reader.specs.Turning.{swapped_at}
use Rattle.reader.proofs.table.swap.Goals as goal

pub returns : goal.returns
unfolding swapped_at
returns c = search rules

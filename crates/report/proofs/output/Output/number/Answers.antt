-- `report::output::Output::number` meets its contract: the bytes that `decimal` made of the number are its digits.
-- Assumes nothing.
use Rattle.report.proofs.BlockSteps.{shown}
use Rattle.report.proofs.output.Output.number.Goals as goal

pub returns-clause-shows : goal.returns-clause-shows
returns-clause-shows g c = shown c.decimal-k.ensures.len c.decimal-k.ensures.digits c.bytes.ensures.waiting c.bytes.ensures.block

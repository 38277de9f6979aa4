-- `report::output::Output::bytes` meets its contract: a text that has room is laid into the block at once.
-- Assumes nothing.
use Rattle.std.proofs.Common.{sym, arith}
use Rattle.report.proofs.BlockSteps.{all_waits, all_put}
use Rattle.report.proofs.output.Output.bytes.Goals as goal

pub returns-then-start-s-clause-waiting : goal.returns-then-start-s-clause-waiting
returns-then-start-s-clause-waiting g c = sym (all_waits c.args.self.now.waiting c.args.s.now (omega arith))

pub returns-then-start-s-clause-block : goal.returns-then-start-s-clause-block
returns-then-start-s-clause-block g c = all_put _ _ _ _ _ c.copy_from_slice.ensures.after (omega arith) (omega arith) (omega arith)

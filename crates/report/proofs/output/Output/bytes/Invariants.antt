-- `report::output::Output::bytes` meets its contract: what is done and what is left make all.
-- Assumes nothing.
use Rattle.std.proofs.Common.{◌≡◌}
use Rattle.report.proofs.BlockSteps.{GoesOn}
use Rattle.report.proofs.output.Output.bytes.Given as goal

abbrev pub invariant-loop-b : goal.invariant-loop-b
invariant-loop-b g l =
    GoesOn l.initial.self.block l.initial.self.waiting l.s l.self.block l.self.waiting l.b-index × (l.self.to ≡ l.initial.self.to)

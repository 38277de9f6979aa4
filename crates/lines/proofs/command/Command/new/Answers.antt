-- `Command::new` meets its contract: its line is that of `Line::new`.
-- Assumes nothing.
use Rattle.lines.proofs.command.Command.new.Goals as goal

pub returns : goal.returns
returns c = rw c.new.ensures

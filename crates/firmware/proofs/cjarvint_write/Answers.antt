use Rattle.firmware.proofs.Same.{same_writing}
use Rattle.firmware.proofs.cjarvint_write.Goals as goal

pub returns : goal.returns
returns c = same_writing c.into.ensures.0 c.into.ensures.1 c.write.ensures.0

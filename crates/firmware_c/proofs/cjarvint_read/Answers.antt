-- The call promises what the function of this name in `firmware` promises. Assumes nothing.
use Rattle.firmware_c.proofs.cjarvint_read.Goals as goal

pub returns : goal.returns
returns c = c.cjarvint_read.ensures

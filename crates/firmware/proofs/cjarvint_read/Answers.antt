use native.Mathlib.Omega.{arith}
use Rattle.firmware.proofs.Same.{same_reading}
use Rattle.firmware.proofs.cjarvint_read.Goals as goal

pub returns : goal.returns
returns c = (same_reading c.into.ensures.0 c.into.ensures.1 c.read.ensures.0, omega (arith, c.into.ensures.1, c.read.ensures.1))

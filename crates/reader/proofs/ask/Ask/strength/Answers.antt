use Rattle.reader.specs.Asked.{strength_in}
use native.Mathlib.Omega.{arith}
use Rattle.reader.proofs.ask.Ask.strength.Goals as goal

pub returns : goal.returns
unfolding strength_in
returns c = omega arith

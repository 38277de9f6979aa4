use mathlib.Core.Path.{refl}
use Rattle.reader.specs.Asked.{queries_in, strength_in}
use Rattle.reader.proofs.Laying.{outer_packed}
use native.Mathlib.Omega.{arith}
use Rattle.reader.proofs.ask.Ask.outermost.Goals as goal

pub invariant_of-result : goal.invariant_of-result
unfolding queries_in
invariant_of-result c = record { shallow = omega arith; few = omega arith }

pub returns : goal.returns
unfolding strength_in
returns c = (outer_packed refl, omega arith)

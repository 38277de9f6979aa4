use mathlib.Core.Path.{refl}
use Rattle.reader.specs.Asked.{queries_in, strength_in}
use Rattle.reader.proofs.Laying.{repacked}
use native.Mathlib.Omega.{arith}
use Rattle.reader.proofs.ask.Ask.with.Goals as goal

pub invariant_of-result : goal.invariant_of-result
unfolding queries_in
invariant_of-result c = record { shallow = omega arith; few = omega arith }

pub returns : goal.returns
unfolding strength_in
returns c = (omega arith, omega arith, record { packs = λ a s₀ p. repacked p c.requires refl })

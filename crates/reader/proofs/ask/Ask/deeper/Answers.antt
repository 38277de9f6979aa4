use mathlib.Core.Path.{refl}
use Rattle.reader.specs.Asked.{queries_in}
use Rattle.reader.proofs.Laying.{one_deeper}
use native.Mathlib.Omega.{arith}
use Rattle.reader.proofs.ask.Ask.deeper.Goals as goal

pub invariant_of-result : goal.invariant_of-result
unfolding queries_in
invariant_of-result c = record { shallow = omega arith; few = omega arith }

pub returns : goal.returns
returns c = record { packs = λ a s₀ p. one_deeper (c.with.ensures.2.packs a s₀ p) refl }

use mathlib.Core.Path.{refl}
use Rattle.reader.specs.Asked.{queries_in, strength_in}
use Rattle.reader.proofs.Laying.{query_opened}
use native.Mathlib.Omega.{arith}
use Rattle.reader.proofs.ask.Ask.opened.Goals as goal

pub invariant_of-result : goal.invariant_of-result
unfolding queries_in strength_in
invariant_of-result c = record { shallow = omega arith; few = omega arith }

pub returns : goal.returns
returns c = record { opens = λ a p h. query_opened p refl h refl }

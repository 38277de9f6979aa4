-- examples_hold, depths_hold: of every further example, as of the samples, the outcome in the table is the one that `Reads` promises, and
-- `Writes` for an accepted one. Assumes nothing.
use mathlib.Core.Bool.{true}
use mathlib.Core.Path.{◌≡◌, refl}
use Rattle.theory.proofs.Tested.{allb}
use Rattle.grammar.specs.Samples.{times, around}
use Rattle.grammar.specs.Examples.{examples, depths}
use Rattle.grammar.proofs.Promised.{found}
use Rattle.grammar.proofs.SamplesHold.{eq_rec, eq_tok, eq_all, answers, fitting, good, Holds, Every, every}
use Rattle.grammar.proofs.Computes.{computes}

examples_good : allb good examples ≡ true
unfolding examples good fitting answers found eq_all eq_rec eq_tok computes
examples_good = refl

pub examples_hold : Every Holds examples
examples_hold = every examples examples_good

depths_good : allb good depths ≡ true
unfolding depths times around good fitting answers found eq_all eq_rec eq_tok computes
depths_good = refl

pub depths_hold : Every Holds depths
depths_hold = every depths depths_good

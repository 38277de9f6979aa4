use Rattle.grammar.specs.Reading.{choose}
use Rattle.grammar.specs.Writing.{tok}
use mathlib.Core.Path.{ap}
use mathlib.Core.List.{[], ◌∷◌}
use Rattle.writer.proofs.Pens.{nothing_wrote, wrote_as}
use Rattle.writer.proofs.spelling.Pen.word_if.Goals as goal

pub returns-then-said : goal.returns-then-said
unfolding choose
returns-then-said c = wrote_as (ap (λ b. choose b (tok c.args.kind ∷ []) []) c.if-said.true) c.word.ensures

pub returns-else-said : goal.returns-else-said
unfolding choose
returns-else-said c = wrote_as (ap (λ b. choose b (tok c.args.kind ∷ []) []) c.if-said.false) nothing_wrote

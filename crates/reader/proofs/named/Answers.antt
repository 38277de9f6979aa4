use Rattle.reader.proofs.Laying.{fills_as}
use Rattle.grammar.specs.Nodes.{rec}
use Rattle.std.specs.Prelude.{unwrap_or}
use Rattle.kinds.specs.Classes.{name_code}
use Rattle.kinds.proofs.Codes.{or_zero}
use mathlib.Core.Path.{ap, ap₂, ◌∙◌}
use mathlib.Core.List.{[], ◌∷◌}
use Rattle.reader.proofs.named.Goals as goal

pub returns : goal.returns
returns c = (c.emit.ensures.0, λ k. fills_as (ap₂ (λ a b. rec a b 0 1 ∷ []) (c.unwrap_or-code.ensures ∙ ap (λ z. unwrap_or z 0) c.name_code.ensures ∙ or_zero (name_code c.args.kind) ∙ ap name_code k) c.text.ensures) c.emit.ensures.1)

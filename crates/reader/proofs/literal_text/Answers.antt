use Rattle.grammar.specs.Reading.{choose}
use Rattle.reader.specs.Bounds.{texts_of}
use Rattle.theory.proofs.Cases.{eqb-true}
use borrow.Author.Tests.{ne_eqb}
use mathlib.Core.Path.{sym, ap, ◌∙◌}
use lib.ListN.{get_or}
use Rattle.reader.proofs.literal_text.Goals as goal

pub returns-then-kind-eq-NULL : goal.returns-then-kind-eq-NULL
unfolding choose
returns-then-kind-eq-NULL c = ap (λ z. choose z 0 (get_or (texts_of c.args.lists.now) c.args.at 0)) (sym (eqb-true _ _ c.if-kind-eq-NULL.true))

pub returns : goal.returns
unfolding choose
returns c = c.text.ensures ∙ ap (λ z. choose z 0 (get_or (texts_of c.args.lists.now) c.args.at 0)) (sym (ne_eqb _ _ c.if-kind-eq-NULL.false))

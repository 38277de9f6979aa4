use Rattle.writer.proofs.Leaves.{detail_of}
use Rattle.writer.proofs.Said.{leaf_null, leaf_star, leaf_name, leaf_name_star, leaf_literal}
use mathlib.Core.Path.{sym, ◌∙◌}
use Rattle.writer.proofs.Pens.{◌after◌, wrote_as, writ_at}
use Rattle.writer.proofs.spelling.Pen.leaf.Goals as goal

pub returns-in-30 : goal.returns-in-30
returns-in-30 c = λ e. record { told = λ t. wrote_as (leaf_null t (sym e ∙ c.in-30.is)) c.word.ensures }

pub returns-in-5 : goal.returns-in-5
returns-in-5 c = λ e. record { told = λ t. wrote_as (leaf_star t (sym e ∙ c.in-5.is)) c.word-in-5.ensures }

pub returns-in-6 : goal.returns-in-6
returns-in-6 c = λ e. record { told = λ t. wrote_as (leaf_name_star t (sym e ∙ c.in-6.is)) (writ_at c.last.ensures c.name.ensures (leaf_name t (sym e ∙ c.in-6.is)) after c.words.ensures) }

pub returns-in_default : goal.returns-in_default
returns-in_default c = λ e. record { told = λ t. wrote_as (leaf_literal t e (detail_of t.it.whole c.detail.ensures) c.literal_kind.ensures c.in_default.in_default-own.rest.0.0.1 c.in_default.in_default-own.rest.0.1 c.in_default.in_default-own.rest.1) c.put.ensures }

use Rattle.writer.proofs.Leaves.{moved, detail_of}
use Rattle.writer.proofs.Said.{is_absent, is_there, table_kids, index_not, index_none, index_some}
use Rattle.writer.specs.Pages.{nodes_of}
use Rattle.scribe.proofs.Kids.{Maybe}
use Rattle.scribe.proofs.Clauses.{code_at}
use Rattle.shapes.specs.Shape.{a_name}
use mathlib.Core.Path.{sym, ap, ◌∙◌}
use Rattle.writer.proofs.Pens.{nothing_wrote, ◌after◌, wrote_as, writ_at}
use Rattle.writer.proofs.spelling.Pen.index.Goals as goal

pub returns-then-detail-eq-NOT_INDEXED : goal.returns-then-detail-eq-NOT_INDEXED
returns-then-detail-eq-NOT_INDEXED c = record { told = λ w. wrote_as (index_not w (detail_of w.whole c.detail.ensures) c.if-detail-eq-NOT_INDEXED.true) c.words.ensures }

pub returns-then-code-eq-ABSENT : goal.returns-then-code-eq-ABSENT
returns-then-code-eq-ABSENT c = record { told = λ w. wrote_as (index_none w (detail_of w.whole c.detail.ensures) c.if-detail-eq-NOT_INDEXED.false (ap (code_at (nodes_of c.args.pages.now)) (sym c.last-x.ensures) ∙ is_absent (moved (Maybe a_name) c.last-x.ensures (table_kids w).fourth) c.code.ensures c.if-code-eq-ABSENT.true)) nothing_wrote }

pub returns : goal.returns
returns c = record { told = λ w. let k = index_some w (detail_of w.whole c.detail.ensures) c.if-detail-eq-NOT_INDEXED.false (λ e. is_there (moved (Maybe a_name) c.last-x.ensures (table_kids w).fourth) c.code.ensures c.if-code-eq-ABSENT.false (ap (code_at (nodes_of c.args.pages.now)) c.last-x.ensures ∙ e)) in wrote_as k.1 (c.words-2.ensures after writ_at c.last-x.ensures c.name.ensures k.0) }

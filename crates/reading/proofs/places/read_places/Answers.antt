-- `reading::places::read_places` meets its contract: what it lends are the first numbers.
-- Assumes nothing.
use mathlib.Core.Path.{sym}
use Rattle.reading.proofs.Passed.{reads_as}
use Rattle.reading.proofs.Parts.{front}
use Rattle.reading.proofs.places.read_places.Goals as goal

pub returns : goal.returns
returns c = reads_as c.read.result (sym (front _ _ _ c.within-n.ensures.value)) (sym (front _ _ _ c.within-m.ensures.value)) c.read.ensures

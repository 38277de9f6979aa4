-- `reading::places::write_places` meets its contract: what it lends are the first numbers.
-- Assumes nothing.
use Rattle.std.proofs.Common.{refl, sym}
use Rattle.reading.proofs.Passed.{writes_as}
use Rattle.reading.proofs.Parts.{front}
use Rattle.reading.proofs.places.write_places.Goals as goal

pub returns : goal.returns
returns c = (writes_as (sym (front _ _ _ c.within-n.ensures.value)) (sym (front _ _ _ c.within-m.ensures.value)) refl refl refl refl refl refl c.write.ensures.0, c.write.ensures.1)

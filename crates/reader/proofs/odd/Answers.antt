use Rattle.reader.proofs.TwoLists.{like_fit}
use Rattle.reader.proofs.Fitness.{even_fit, fit_even}
use lib.Bits.{bit_and, bit_or}
use lib.Dec.{eqb, ltb}
use mir.Val.{bool_byte}
use Rattle.reader.proofs.odd.Goals as goal

pub returns : goal.returns
returns c = (
  like_fit (bit_or (bit_or (bool_byte (eqb c.args.kind 0)) (bool_byte (ltb 71 c.args.kind))) (bit_and (bool_byte (eqb c.args.kind 5)) (bit_or (bool_byte (eqb c.args.text 0)) (bool_byte (ltb 7 c.args.text))))) c.args.kind c.args.text (eqb c.args.text 0),
  fit_even c.args.kind c.args.text,
  even_fit c.args.kind c.args.text,
)

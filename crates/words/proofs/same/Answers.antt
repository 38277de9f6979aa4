-- `words::same` meets its contract: it passes exactly where the library's capitals are the word. Assumes nothing.
use Rattle.std.proofs.Common.{map, rules, arith}
use Rattle.std.proofs.lemmas.List.{length-map}
use Rattle.std.proofs.lemmas.Iterator.{YieldsList-from_slice, YieldsList-from_zip, same_from_all}
use Rattle.std.specs.Char.{to_ascii_uppercase}
use mathlib.Core.Path.{◌≡◌, refl, sym, ◌∙◌}
use Rattle.words.specs.Words.{upper_of}
use Rattle.words.proofs.Equal.{tested, upper_is, capitals}
use borrow.Author.Tests.{tests}
use Rattle.words.proofs.same.Goals as goal

pub returns-then-s-word : goal.returns-then-s-word
returns-then-s-word c =
    let d = same_from_all c.all.new.self _ _ (map upper_of c.args.s.now) c.args.word.now c.all.ensures.ran
    (YieldsList-from_zip (capitals (YieldsList-from_slice c.args.s.now cc)) (YieldsList-from_slice c.args.word.now cc))
    (grind (arith, length-map)) (λ x q k. (refl, let e : to_ascii_uppercase x.0.now ≡ x.1.now = search (rules, tests) in sym (upper_is x.0.now) ∙ e)) (λ x q k. let e : to_ascii_uppercase x.0.now ≡ x.1.now → ⊥ = search (rules, tests) in λ h. e (upper_is x.0.now ∙ h)) in
    tested _ (map upper_of c.args.s.now) c.args.word.now d.0 d.1

pub returns-else-s-word : goal.returns-else-s-word
returns-else-s-word c = tested _ (map upper_of c.args.s.now) c.args.word.now (grind (arith, length-map)) (grind (arith, length-map))

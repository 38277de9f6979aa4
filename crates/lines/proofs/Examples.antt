-- Lines of both forms, and lines of none, worked out by the definitions.
use Rattle.std.proofs.Common.{◌≡◌, ℕ, true, false, List, [], ◌∷◌, refl}
use Prim.Native.String.{String}
use Rattle.lines.specs.declared.Line.{Line}
use Rattle.lines.specs.Bytes.{bytes_of}
use Rattle.lines.specs.Forms.{no_line, line_with, kinds_with, texts_with, is_wrong, is_room, table_of, out_kinds_of, out_texts_of, may_end}

-- a line and its lists after bytes
record Taken : Type 0 where
  line : Line
  kinds : List ℕ
  texts : List ℕ

abbrev after : Taken → List ℕ → Taken
after t [] = t
after t (b ∷ bs) =
    after (record { line = line_with t.line b; kinds = kinds_with (line_with t.line b) t.kinds; texts = texts_with (line_with t.line b) t.texts }) bs

-- into two lists of four places
abbrev taken : String → Taken
taken s = after (record { line = no_line; kinds = 9 ∷ 9 ∷ 9 ∷ 9 ∷ []; texts = 9 ∷ 9 ∷ 9 ∷ 9 ∷ [] }) (bytes_of s)

first_form : ((taken " 36.20 1  7.4").kinds ≡ 36 ∷ 1 ∷ 7 ∷ 9 ∷ []) × ((taken " 36.20 1  7.4").texts ≡ 20 ∷ 0 ∷ 4 ∷ 9 ∷ []) × (may_end (taken " 36.20 1  7.4").line ≡ true)
first_form = (refl, refl, refl)

empty_line : may_end (taken "  ").line ≡ true
empty_line = refl

abbrev room : String
room = "table=12 outk=8 outt=4 kinds: 36 1 texts: 20 3 5 "

second_form : ((taken room).kinds ≡ 36 ∷ 1 ∷ 9 ∷ 9 ∷ []) × ((taken room).texts ≡ 20 ∷ 3 ∷ 5 ∷ 9 ∷ []) × (may_end (taken room).line ≡ true)
second_form = (refl, refl, refl)

its_sizes : (table_of (taken room).line ≡ 12) × (out_kinds_of (taken room).line ≡ 8) × (out_texts_of (taken room).line ≡ 4)
its_sizes = (refl, refl, refl)

cut_short : (is_wrong (taken "table=12 outk=8 outt=4 kinds: 36").line ≡ false) × (may_end (taken "table=12 outk=8 outt=4 kinds: 36").line ≡ false)
cut_short = (refl, refl)

-- wrong, at the byte that did not fit
two_dots : (is_wrong (taken "36..2 1").line ≡ true) × ((taken "36..2 1").line.column ≡ 4)
two_dots = (refl, refl)

too_large : (is_wrong (taken "4294967295").line ≡ false) × (is_wrong (taken "4294967296").line ≡ true)
too_large = (refl, refl)

size_too_large : is_wrong (taken "table=65537").line ≡ true
size_too_large = refl

word_late : (is_wrong (taken "1 t").line ≡ true) × (is_room (taken "1 t").line ≡ false)
word_late = (refl, refl)

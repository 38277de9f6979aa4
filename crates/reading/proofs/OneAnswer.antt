-- The contracts of `of_line` and `written` allow one answer and one content of each list: what the promises leave open, nothing, and what is told of it.
-- Assumes nothing.
use Prim.Native.Nat.{ℕ, ◌-◌, ◌≤◌}
use mathlib.Core.Bool.{Bool, ◌&&◌}
use Rattle.std.specs.Prelude.{Option, None, Some, is_none}
use mathlib.Core.List.{List, ◌++◌}
use mathlib.Core.Path.{ap₂, ◌≡◌, refl, sym, subst, ap, ◌∙◌}
use mathlib.Core.Logic.{⊎_elim}
use native.Mathlib.Nat.{eq-zero-or-pos}
use native.Mathlib.Omega.{arith}
use lib.ListN.{take, drop, take-append-drop}
use Rattle.grammar.proofs.Promised.{one_reading, one_writing}
use Rattle.reader.specs.Answers.{Answer, number, place, Plain}
use Rattle.reader.proofs.Reasons.{same_reason, counted}
use Rattle.std.specs.Prelude.{Ok, Err}
use Rattle.report.specs.Tables.{FirstChanged, Changed}
use Rattle.lines.specs.declared.Line.{Line}
use Rattle.lines.specs.Forms.{table_of, out_kinds_of, out_texts_of}
use Rattle.reading.specs.declared.Reading.{Reading}
use Rattle.reading.specs.declared.writing.Writing.{Writing}
use Rattle.reading.specs.Readings.{used_by, Told, Left, ReadIn, OfLine}
use Rattle.reading.specs.Writings.{written_by, Tells, LeftIn, Written}

-- ── of lists ──
no_later : (N : List ℕ) (from i j : ℕ) → FirstChanged N from i → FirstChanged N from j → i ≤ j
no_later N from i j a b =
    ⊎_elim (λ none. omega arith)
    (λ later. let c = b.changed (omega (arith, a.within)) in absurd (c.1 (a.clear j (omega arith) c.0)))
    (eq-zero-or-pos (i - j))

one_change : (N : List ℕ) (from i j : ℕ) → FirstChanged N from i → FirstChanged N from j → i ≡ j
one_change N from i j a b = omega (arith, no_later N from i j a b, no_later N from j i b a)

one_found : (N : List ℕ) (from : ℕ) (r s : Option ℕ) → Changed N from r → Changed N from s → r ≡ s
one_found N from None None a b = refl
one_found N from None (Some j) a b = absurd (omega (arith, one_change N from _ _ a.first b.first, b.within))
one_found N from (Some i) None a b = absurd (omega (arith, one_change N from _ _ a.first b.first, a.within))
one_found N from (Some i) (Some j) a b = ap Some (one_change N from i j a.first b.first)

one_list : (k : ℕ) (N L M : List ℕ) → take k L ≡ take k M → drop k L ≡ drop k N → drop k M ≡ drop k N → L ≡ M
one_list k N L M front l m =
    sym (take-append-drop k L)
    ∙ (ap (λ (x : List ℕ). x ++ drop k L) front ∙ (ap (λ (x : List ℕ). take k M ++ x) (l ∙ sym m) ∙ take-append-drop k M))

-- ── of answers ──
one_answer : (g h : Answer) → Plain g → Plain h → number g ≡ number h → place g ≡ place h → g ≡ h
one_answer (Ok n) (Ok m) p q e f = ap Ok f
one_answer (Ok n) (Err r) p q e f = absurd (omega arith)
one_answer (Err r) (Ok n) p q e f = absurd (omega arith)
one_answer (Err r) (Err s) p q e f = ap₂ (λ w i. Err (record { why = w; place = i })) (same_reason r.why s.why e) f

plain : (g : Answer) → Plain g
plain (Ok n) = tt
plain (Err r) = counted r.why

-- an answer is told by its number and its place
one_got : (m p : ℕ) (g h : Answer) → number g ≡ m → place g ≡ p → number h ≡ m → place h ≡ p → g ≡ h
one_got m p g h a b c d = one_answer g h (plain g) (plain h) (a ∙ sym c) (b ∙ sym d)

reading : Answer → ℕ → Option ℕ → Reading
reading g u c = record { got = g; used = u; changed = c }

left_told : (g : Answer) (N : List ℕ) (r : Reading) → Left g N r → Told (number g) (place g) (used_by g N) N r
left_told g N r l = record { numbered = ap number l.told; placed = ap place l.told; used = l.used; changed = l.changed }

pub one_told : (m p n : ℕ) (N : List ℕ) (r s : Reading) → Told m p n N r → Told m p n N s → r ≡ s
unfolding reading
one_told m p n N r s a b =
    ap (λ (x : Answer). reading x r.used r.changed) (one_got m p r.got s.got a.numbered a.placed b.numbered b.placed)
    ∙ (ap (λ (x : ℕ). reading s.got x r.changed) (a.used ∙ sym b.used)
    ∙ ap (λ (x : Option ℕ). reading s.got s.used x) (one_found N n _ _ a.changed b.changed))

writing : Answer → ℕ → Bool → Writing
writing g u k = record { got = g; used = u; kept = k }

left_telling : (g : Answer) (A B : List ℕ) (w : Writing) → LeftIn g A B w → Tells (number g) (place g) (written_by g) A B w
left_telling g A B w l =
    record {
      numbered = ap number l.told;
      placed = ap place l.told;
      used = l.used;
      changed_kind = l.changed_kind;
      changed_text = l.changed_text;
      kinds = l.kinds;
      texts = l.texts;
      kept = l.kept;
    }

pub one_telling : (m p n : ℕ) (A B : List ℕ) (v w : Writing) → Tells m p n A B v → Tells m p n A B w → v ≡ w
unfolding writing
one_telling m p n A B v w a b =
    let kind : a.changed_kind ≡ b.changed_kind = one_found A n _ _ a.kinds b.kinds in
    let text : a.changed_text ≡ b.changed_text = one_found B n _ _ a.texts b.texts in
    let kept : v.kept ≡ w.kept =
    a.kept
    ∙ (ap (λ (c : Option ℕ). is_none c && is_none a.changed_text) kind
    ∙ (ap (λ (c : Option ℕ). is_none b.changed_kind && is_none c) text ∙ sym b.kept)) in
    ap (λ (x : Answer). writing x v.used v.kept) (one_got m p v.got w.got a.numbered a.placed b.numbered b.placed)
    ∙ (ap (λ (x : ℕ). writing w.got x v.kept) (a.used ∙ sym b.used)
    ∙ ap (λ (x : Bool). writing w.got w.used x) kept)

-- ── of lines ──
one_read : (K T N L M : List ℕ) (r s : Reading) → ReadIn K T N L r → ReadIn K T N M s → (L ≡ M) × (r ≡ s)
one_read K T N L M r s a b =
    let one = one_reading K T N a.reads b.reads in
    let answered : a.got ≡ b.got = one_answer a.got b.got a.plain b.plain one.0 one.1 in
    (one.2, one_told _ _ _ M r s (left_told b.got M r (subst (λ (g : Answer). Left g M r) answered (subst (λ (x : List ℕ). Left a.got x r) one.2 a.left))) (left_told b.got M s b.left))

pub one_of_line : (line : Line) (K T N L M : List ℕ) (r s : Reading) → OfLine line K T N L r → OfLine line K T N M s → (L ≡ M) × (r ≡ s)
one_of_line line K T N L M r s a b =
    let one = one_read _ _ _ _ _ r s a.read b.read in (one_list (table_of line) N L M one.0 a.beyond b.beyond, one.1)

pub one_written : (line : Line) (K T N A B L M C D E F : List ℕ) (v w : Writing)
    → Written line K T N A B L C E v → Written line K T N A B M D F w → (L ≡ M) × (C ≡ D) × (E ≡ F) × (v ≡ w)
one_written line K T N A B L M C D E F v w a b =
    let one = one_writing _ _ _ _ _ a.writes b.writes in
    let answered : a.got ≡ b.got = one_answer a.got b.got a.plain b.plain one.0 one.1 in
    let kinds : C ≡ D = one_list (out_kinds_of line) A C D one.3 a.kinds_beyond b.kinds_beyond in
    let texts : E ≡ F = one_list (out_texts_of line) B E F one.4 a.texts_beyond b.texts_beyond in (
      one_list (table_of line) N L M one.2 a.table_beyond b.table_beyond,
      kinds,
      texts,
      one_telling _ _ _ D F v w (left_telling b.got D F v (subst (λ (g : Answer). LeftIn g D F v) answered (subst (λ (x : List ℕ). LeftIn a.got x F v) kinds (subst (λ (x : List ℕ). LeftIn a.got C x v) texts a.left)))) (left_telling b.got D F w b.left),
    )

-- levels_hold: of every command, the limits' words up to and with the first that is not 0 are those of its tokens' marks (a later one may
-- differ: Limits holds a row to the one before it). none_passed: so no limit is passed exactly when no mark has a word. first_passed: the
-- first word is the same, at the same place. seen: the machine meets these words. one_each: one mark a token. Assumes nothing.
use mathlib.Core.Bool.{true, false, Bool}
use mathlib.Core.List.{List, [], ◌∷◌, ◌++◌, append-nil, map, map-append}
use mathlib.Core.Logic.{◌↔◌}
use mathlib.Core.Option.{some}
use mathlib.Core.Path.{◌≡◌, refl, sym, ap, ◌∙◌, subst}
use Prim.Native.Nat.{ℕ, ◌+◌, ◌<◌, zero, suc}
use borrow.Author.Tests.{leb-false}
use lib.Bits.{or_zero_r}
use lib.Dec.{ltb, eqb, leb}
use lib.ListN.{length, length-append, length-map}
use native.Mathlib.Omega.{arith}
use Rattle.theory.specs.Trees.{Tok, Nt, Item, lit, nt, Row, Tree, nil, add, leaf, node, toks, cap_of}
use Rattle.theory.specs.Table.{Line, pick, both, lookup}
use Rattle.theory.specs.Derives.{Opens, head, tail, Part, begin, token, absent, child, Ok, whole}
use Rattle.theory.specs.Judged.{faults_in, faults_kids, faults_of, AllZero}
use Rattle.theory.specs.Outcome.{FirstFault}
use Rattle.theory.proofs.Machine.{idle}
use Rattle.theory.proofs.Cases.{by_bool, pick_case, pick_inv, 0≢1, both_l, both_r, eqb_eq, eqb-true, leb_le, le-leb}
use Rattle.theory.proofs.Laws.{Suffix, all, more, part_suffix}
use Rattle.theory.proofs.Tested.{notb, allb, rows_ok, FollowOf, enter_found, cont_found}
use Rattle.theory.proofs.Scan.{faults}
use Rattle.theory.proofs.Faults.{faults_read}
use Rattle.kinds.specs.Kinds.{RP, JOIN}
use Rattle.words.specs.Flags.{NO_FLAGS, flags_of, united, legal}
use Rattle.words.specs.Sequences.{united_all}
use Rattle.words.proofs.OrderDoesNotMatter.{one_by_one}
use Rattle.grammar.specs.Classes.{Command, Rows, Word2?, Word3?, any}
use Rattle.grammar.specs.RowNames.{row_next_row, row_word_join, row_is_not}
use Rattle.grammar.specs.Rows.{goes, but_column, exprs, select_items, values_items, lines, heads_of, tails_of}
use Rattle.grammar.specs.Grammar.{sql, G, IsCommand}
use Rattle.grammar.specs.Sizes.{LEVELS, QUERIES}
use Rattle.grammar.specs.Limits.{Around, outer, is_query, is_expression, below, under, further_flags, width, width_of, begun, is_kind, judge, limits}
use Rattle.grammar.specs.Levels.{Mark, starts, raised, inside_of, first_long, goes_on, marks, marks_of_parts, word, up_to}
use Rattle.grammar.proofs.Checked.{sql_laws}

-- ── words up to and with the first that is not 0 ──
nil≢ : {X : Type 0} {n : ℕ} {l : List ℕ} → [] ≡ n ∷ l → X
nil≢ e = absurd (let z : ◌≡◌ {A = ℕ} 0 1 = cc in omega arith)

zero≢ : {X : Type 0} {n : ℕ} {k l : List ℕ} → 0 ∷ k ≡ suc n ∷ l → X
zero≢ {n = n} e = absurd (let z : 0 ≡ suc n = cc in omega arith)

-- two such lists after two such lists
up_to_append : (a b p q : List ℕ) → up_to a ≡ up_to b → (AllZero a → up_to p ≡ up_to q) → up_to (a ++ p) ≡ up_to (b ++ q)
unfolding up_to
up_to_append [] [] p q e h = h tt
up_to_append [] (zero ∷ b) p q e h = nil≢ e
up_to_append [] (suc n ∷ b) p q e h = nil≢ e
up_to_append (zero ∷ a) [] p q e h = nil≢ (sym e)
up_to_append (zero ∷ a) (zero ∷ b) p q e h = let t : up_to a ≡ up_to b = cc in ap (λ z. 0 ∷ z) (up_to_append a b p q t (λ z. h (refl, z)))
up_to_append (zero ∷ a) (suc n ∷ b) p q e h = zero≢ e
up_to_append (suc m ∷ a) [] p q e h = nil≢ (sym e)
up_to_append (suc m ∷ a) (zero ∷ b) p q e h = zero≢ (sym e)
up_to_append (suc m ∷ a) (suc n ∷ b) p q e h = e

-- no word in the one, none in the other
up_to_zero : (a b : List ℕ) → up_to a ≡ up_to b → AllZero a → AllZero b
unfolding up_to
up_to_zero [] [] e h = tt
up_to_zero [] (zero ∷ b) e h = nil≢ e
up_to_zero [] (suc n ∷ b) e h = nil≢ e
up_to_zero (zero ∷ a) [] e h = tt
up_to_zero (zero ∷ a) (zero ∷ b) e h = let t : up_to a ≡ up_to b = cc in (refl, up_to_zero a b t h.1)
up_to_zero (zero ∷ a) (suc n ∷ b) e h = zero≢ e
up_to_zero (suc m ∷ a) b e h = absurd (omega (arith, h.0))

-- the first word that is not 0: m, at place p
abbrev pub FirstWord : List ℕ → ℕ → ℕ → Type 0
FirstWord ws p m = (a : List ℕ) × (b : List ℕ) × (ws ≡ a ++ (m ∷ b)) × (length a ≡ p) × AllZero a × (0 < m)

up_to_at : (a : List ℕ) (m : ℕ) (b ws : List ℕ) → AllZero a → 0 < m → up_to (a ++ (m ∷ b)) ≡ up_to ws → (c : List ℕ) × (ws ≡ a ++ (m ∷ c))
unfolding up_to
up_to_at [] zero b ws z l e = absurd (omega arith)
up_to_at [] (suc m) b [] z l e = nil≢ (sym e)
up_to_at [] (suc m) b (zero ∷ ws) z l e = zero≢ (sym e)
up_to_at [] (suc m) b (suc n ∷ ws) z l e = (ws, let h : suc m ≡ suc n = cc in cc)
up_to_at (zero ∷ a) m b [] z l e = nil≢ (sym e)
up_to_at (zero ∷ a) m b (zero ∷ ws) z l e = let t : up_to (a ++ (m ∷ b)) ≡ up_to ws = cc in let r = up_to_at a m b ws z.1 l t in (r.0, ap (λ z. 0 ∷ z) r.1)
up_to_at (zero ∷ a) m b (suc n ∷ ws) z l e = zero≢ e
up_to_at (suc n ∷ a) m b ws z l e = absurd (omega (arith, z.0))

up_to_first : (v w : List ℕ) (p m : ℕ) → up_to v ≡ up_to w → FirstWord v p m → FirstWord w p m
up_to_first v w p m e f = let r = up_to_at f.0 m f.1 w f.4 f.5 (ap up_to (sym f.2) ∙ e) in (f.0, r.0, r.1, f.3, f.4, f.5)

pub all_left : (a b : List ℕ) → AllZero (a ++ b) → AllZero a
all_left [] b h = tt
all_left (x ∷ a) b h = (h.0, all_left a b h.1)

pub all_right : (a b : List ℕ) → AllZero (a ++ b) → AllZero b
all_right [] b h = h
all_right (x ∷ a) b h = all_right a b h.1

-- ── marks seen from d levels and o queries further out, and Limits' numbers there ──
abbrev pub at : ℕ → ℕ → Around
at d o = record { level = d + 1; opened = o }

unfoldable pub lifted : ℕ → ℕ → ℕ
lifted d zero = zero
lifted d (suc n) = d + suc n

from : ℕ → ℕ → Mark → Mark
from d o m = record { level = lifted d m.level; opened = lifted o m.opened; flags = m.flags; long = m.long; first = m.first }

-- the words of marks
abbrev heard : ℕ → ℕ → List Mark → List ℕ
heard d o ms = map (λ m. word (from d o m)) ms

unfoldable pub one_more : Bool → ℕ → ℕ
one_more b n = pick b (n + 1) (λ w. n)

-- what has no strength is no expression
pub no_strength : (r : Row) → r.str ≡ 0 → is_expression r ≡ false
no_strength r e = pick_case (λ z. z ≡ false) (eqb r.code row_is_not) false _ (λ h. refl) (λ h. rw e)

pub below_at : (r : Row) (d o : ℕ) → below r (at d o) ≡ at (one_more (is_expression r) d) (one_more (is_query r.code) o)
unfolding below one_more pick
below_at r d o = two (is_expression r) (is_query r.code)
  where
    two : (b c : Bool) → ◌≡◌ {A = Around} (record { level = pick b (d + 1 + 1) (λ w. d + 1); opened = pick c (o + 1) (λ w. o) }) (record { level = pick b (d + 1) (λ w. d) + 1; opened = pick c (o + 1) (λ w. o) })
    two true c = refl
    two false c = refl

pub lifted_raised : (b : Bool) (d n : ℕ) → lifted d (raised b n) ≡ lifted (one_more b d) n
unfolding lifted raised one_more pick
lifted_raised true d zero = refl
lifted_raised false d zero = refl
lifted_raised true d (suc n) = omega arith
lifted_raised false d (suc n) = refl

from_inside : (r : Row) (d o : ℕ) (m : Mark) → from d o (inside_of r m) ≡ from (one_more (is_expression r) d) (one_more (is_query r.code) o) m
unfolding from inside_of
from_inside r d o m = rw (lifted_raised (is_expression r) d m.level, lifted_raised (is_query r.code) o m.opened)

heard_inside : (r : Row) (d o : ℕ) (ms : List Mark) → heard d o (map (inside_of r) ms) ≡ heard (one_more (is_expression r) d) (one_more (is_query r.code) o) ms
heard_inside r d o [] = refl
heard_inside r d o (m ∷ ms) = rw (from_inside r d o m, heard_inside r d o ms)

-- ── the join words, which are all that stands before JOIN ──
is_word : ℕ → Bool
is_word C = pick (eqb C Word2?) true (λ w. eqb C Word3?)

has_lit : List Item → Bool
has_lit [] = false
has_lit (lit c ∷ is) = true
has_lit (nt B ∷ is) = has_lit is

-- join words, and perhaps a token, and no token after it
wordy : List Item → Bool
wordy [] = true
wordy (lit c ∷ is) = notb (has_lit is)
wordy (nt B ∷ is) = both (is_word B.of) (wordy is)

not-true : {X : Type 0} (b : Bool) → notb b ≡ true → b ≡ true → X
unfolding notb
not-true true n e = 0≢1 n
not-true false n e = 0≢1 e

not-false : (b : Bool) → notb b ≡ true → b ≡ false
unfolding notb
not-false true n = 0≢1 n
not-false false n = refl

lit_suffix : {s full : List Item} → Suffix G s full → has_lit s ≡ true → has_lit full ≡ true
unfolding has_lit
lit_suffix all h = h
lit_suffix (more {i = lit c} s) h = refl
lit_suffix (more {i = nt B} s) h = lit_suffix s h

wordy_suffix : {s full : List Item} → Suffix G s full → wordy full ≡ true → has_lit s ≡ has_lit full → wordy s ≡ true
unfolding has_lit wordy
wordy_suffix all w h = w
wordy_suffix (more {i = lit c} {full = full} s) w h = not-true (has_lit full) w (lit_suffix s h)
wordy_suffix (more {i = nt B} {full = full} s) w h = wordy_suffix s (both_r (is_word B.of) (wordy full) w) h

-- a test of every class and row of some lines, where a condition holds
if_ok : (c p : ℕ → Row → Bool) (C k : ℕ) (r : Row) (es : List Line) → allb (Rattle.theory.proofs.Tested.Rows (λ C r. pick (c C r) (p C r) (λ w. true))) es ≡ true
    → lookup C k es ≡ some r → c C r ≡ true → p C r ≡ true
unfolding pick
if_ok c p C k r es a l h = rw h at (rows_ok (λ C r. pick (c C r) (p C r) (λ w. true)) C k r es a l)

-- the lines of the second and third join word
word_enters : (C k : ℕ) (q : Row) → lookup C k sql.heads ≡ some q → is_word C ≡ true → both (wordy q.items) (notb (has_lit q.items)) ≡ true
unfolding sql lines but_column exprs select_items values_items heads_of tails_of pick both notb allb is_word has_lit wordy
word_enters C k q e = if_ok (λ C r. is_word C) (λ C r. both (wordy r.items) (notb (has_lit r.items))) C k q sql.heads refl e

word_ends : (C k : ℕ) (q : Row) → lookup C k sql.tails ≡ some q → notb (is_word C) ≡ true
unfolding sql lines but_column exprs select_items values_items heads_of tails_of pick both notb allb is_word
word_ends C k q e = rows_ok (λ C r. notb (is_word C)) C k q sql.tails refl e

word_opens : {B : Nt} {l : Tree} {s : Tok} {q : Row} → Opens G B l s q → is_word B.of ≡ true → (l ≡ nil) × (wordy q.items ≡ true) × (has_lit q.items ≡ false)
word_opens {B} {s = s} {q = q} (head e) w =
    let h = word_enters B.of s.kind q (enter_found sql B s.kind q e).0 w in
    (refl, both_l (wordy q.items) _ h, not-false (has_lit q.items) (both_r (wordy q.items) _ h))
word_opens {B} {s = s} {q = q} (tail {q = p} {f = f} o g e) w = not-true (is_word B.of) (word_ends B.of s.kind q (cont_found sql B p (cap_of f) s.kind q e).0) w

abbrev texts : Tree → List ℕ
texts f = map (λ w. w.text) (toks f)

word_part : {full rest : List Item} {f : Tree} → Part G full rest f → wordy full ≡ true → has_lit rest ≡ has_lit full → further_flags f ≡ united_all (texts f)
unfolding further_flags toks has_lit wordy
word_part begin w h = refl
word_part {rest = rest} (token p e) w h =
    let l = lit_suffix (part_suffix G p) refl in not-true (has_lit rest) (wordy_suffix (part_suffix G p) w (sym l)) (h ∙ l)
word_part (absent {f = f} p e) w h = rw (append-nil, or_zero_r) (word_part p w h)
word_part (child {rest = rest} {f = f} {B = B} {q = q} {l = l} {s = s} {g = g} p o k) w h =
    let v : is_word B.of ≡ true = both_l (is_word B.of) (wordy rest) (wordy_suffix (part_suffix G p) w h) in
    let z = word_opens o v in
    let a : further_flags f ≡ united_all (texts f) = word_part p w h in
    let b : further_flags g ≡ united_all (texts g) = word_part k z.1 (sym z.2) in
    rw z.0 (rw (map-append, one_by_one, a, b))

-- what holds of the class and row of every line holds of a row that is derived
opens_ok : (p : ℕ → Row → Bool) → allb (Rattle.theory.proofs.Tested.Rows p) sql.heads ≡ true → allb (Rattle.theory.proofs.Tested.Rows p) sql.tails ≡ true
    → {A : Nt} {l : Tree} {t : Tok} {r : Row} → Opens G A l t r → p A.of r ≡ true
opens_ok p a b {A} {t = t} {r = r} (head e) = rows_ok p A.of t.kind r sql.heads a (enter_found sql A t.kind r e).0
opens_ok p a b {A} {t = t} {r = r} (tail {q = q} {f = f} o g e) = rows_ok p A.of t.kind r sql.tails b (cont_found sql A q (cap_of f) t.kind r e).0

-- the row of a join with words
join_items : {A : Nt} {l : Tree} {t : Tok} {r : Row} → Opens G A l t r → r.code ≡ row_word_join → wordy r.items ≡ true
unfolding sql lines but_column exprs select_items values_items heads_of tails_of pick both notb allb is_word has_lit wordy
join_items {r = r} o e = rw (eqb-true r.code row_word_join e) at (opens_ok (λ C r. pick (eqb r.code row_word_join) (wordy r.items) (λ w. true)) refl refl o)

-- ── the rows of VALUES: while none was refused, the last before is as long as the first ──
is_lit : ℕ → Item → Bool
is_lit k (lit c) = eqb c k
is_lit k (nt B) = false

ends_in : ℕ → List Item → Bool
ends_in k [] = false
ends_in k (i ∷ []) = is_lit k i
ends_in k (i ∷ (j ∷ is)) = ends_in k (j ∷ is)

end_suffix : (k : ℕ) {i : Item} {full : List Item} → Suffix G (i ∷ []) full → ends_in k full ≡ true → is_lit k i ≡ true
unfolding ends_in
end_suffix k all e = e
end_suffix k (more all) e = e
end_suffix k (more (more s)) e = end_suffix k (more s) e

part_end : (k : ℕ) {full : List Item} {f : Tree} → Part G full [] f → ends_in k full ≡ true → (g : Tree) × (u : Tok) × (f ≡ add g (leaf u)) × (u.kind ≡ k)
unfolding ends_in is_lit
part_end k begin e = 0≢1 e
part_end k (token {f = f} {c = c} {u = u} p h) e = (f, u, refl, sym h ∙ eqb_eq c k (end_suffix k (part_suffix G p) e))
part_end k (absent p h) e = 0≢1 (end_suffix k (part_suffix G p) e)
part_end k (child p o g) e = 0≢1 (end_suffix k (part_suffix G p) e)

rows_only : (C k : ℕ) (r : Row) → lookup C k sql.tails ≡ some r → r.code ≡ row_next_row → C ≡ Rows
unfolding sql lines but_column exprs select_items values_items heads_of tails_of pick both allb
rows_only C k r l e = eqb_eq C Rows (if_ok (λ C r. eqb r.code row_next_row) (λ C r. eqb C Rows) C k r sql.tails refl l (eqb-true r.code row_next_row e))

rows_go : (C k : ℕ) (r : Row) → lookup C k sql.tails ≡ some r → C ≡ Rows → both (eqb r.code row_next_row) (ends_in RP r.items) ≡ true
unfolding sql lines but_column exprs select_items values_items heads_of tails_of pick both allb ends_in is_lit
rows_go C k r l e = if_ok (λ C r. eqb C Rows) (λ C r. both (eqb r.code row_next_row) (ends_in RP r.items)) C k r sql.tails refl l (eqb-true C Rows e)

-- the limits' words on a part, known as at d o
abbrev words_in : Tree → ℕ → ℕ → List ℕ
words_in x d o = faults_in Around under judge x (at d o) 0

judged_row : (c : Around) (q : Row) (l : Tree) (s : Tok) (g : Tree) (u : Tok) → q.code ≡ row_next_row → u.kind ≡ RP → judge c q l s (add g (leaf u)) ≡ 0 → width (add g (leaf u)) ≡ width_of l
unfolding judge is_kind both pick
judged_row c q l s g u e k h =
    let a : eqb q.code row_word_join ≡ false = ap (λ z. eqb z row_word_join) e in
    let b : eqb q.code row_next_row ≡ true = ap (λ z. eqb z row_next_row) e in
    let d : eqb u.kind RP ≡ true = ap (λ z. eqb z RP) k in
    pick_inv (eqb (width (add g (leaf u))) (width_of l)) 0 (λ w. 8) 0 (rw (a, b, d) at h) (λ b x. eqb_eq _ _ b) (λ b x. absurd (omega (arith, x)))

held : {A : Nt} {l : Tree} {t : Tok} {r : Row} → Opens G A l t r → r.code ≡ row_next_row → (d o : ℕ) → AllZero (words_in l d o) → width_of l ≡ first_long l
unfolding width_of first_long faults_in faults_kids
held (head e) c d o z = refl
held (tail (head e) p h) c d o z = refl
held {A} {t = t} {r = r} (tail {s = s} {q = q} {f = f} (tail {l = m} {s = v} {q = q'} {f = k} a b e) p h) c d o z =
    let rows : A.of ≡ Rows = rows_only A.of t.kind r (cont_found sql A q (cap_of f) t.kind r h).0 c in
    let goes = rows_go A.of s.kind q (cont_found sql A q' (cap_of k) s.kind q e).0 rows in
    let code : q.code ≡ row_next_row = eqb_eq q.code row_next_row (both_l _ (ends_in RP q.items) goes) in
    let x = part_end RP p (both_r (eqb q.code row_next_row) _ goes) in
    let n : Tree = node q' m v k in
    let w : AllZero (faults_kids Around under judge f (at d o) q n s) = (all_right (words_in n d o) _ z).1 in
    let y : judge (at d o) q n s (add x.0 (leaf x.1)) ≡ 0 = (all_right (faults_kids Around under judge x.0 (at d o) q n s) _ (subst (λ g. AllZero (faults_kids Around under judge g (at d o) q n s)) x.2 w)).0 in
    ap width x.2 ∙ judged_row (at d o) q n s x.0 x.1 code x.3 y ∙ held {t = s} (tail a b e) code d o (all_left (words_in n d o) _ z)

-- ── the mark of a token, and its word ──
-- a 17th query: with 16 open before it
next_open : (n o : ℕ) → leb n o ≡ ltb n (o + 1)
next_open n o = by_bool (leb n o)
    (λ e. e ∙ sym (le-leb (suc n) (o + 1) (let h = leb_le n o e in omega arith)))
    (λ e. e ∙ sym (by_bool (ltb n (o + 1)) (λ f. absurd (let h = leb_le (suc n) (o + 1) f in let g = leb-false n o e in omega arith)) (λ f. f)))

word_begun : (q : Row) (d o : ℕ) → begun (at d o) q nil ≡ word (from d o (starts q nil))
unfolding begun word from starts lifted both pick
word_begun q d o = of (is_expression q) (is_query q.code)
  where
    of : (b c : Bool) → pick (both b (ltb LEVELS (d + 1))) 5 (λ w. pick (both c (leb QUERIES o)) 6 (λ w. 0))
        ≡ word (record { level = lifted d (pick b 1 (λ w. 0)); opened = lifted o (pick c 1 (λ w. 0)); flags = NO_FLAGS; long = 0; first = 0 })
    of true true = ap (λ z. pick (ltb LEVELS (d + 1)) 5 (λ w. pick z 6 (λ w. 0))) (next_open QUERIES o)
    of true false = refl
    of false true = ap (λ z. pick z 6 (λ w. 0)) (next_open QUERIES o)
    of false false = refl

word_starts : {B : Nt} {l : Tree} {s : Tok} {q : Row} → Opens G B l s q → (d o : ℕ) → judge (at d o) q l s nil ≡ word (from d o (starts q l))
unfolding judge begun word from starts lifted pick
word_starts {q = q} (head e) d o = word_begun q d o
word_starts (tail a b e) d o = refl

word_join_lem : (b : Bool) (x y : ℕ) → x ≡ y → pick b (pick (legal x) 0 (λ w. 7)) (λ w. 0) ≡ word (record { level = 0; opened = 0; flags = pick b y (λ w. NO_FLAGS); long = 0; first = 0 })
unfolding word pick
word_join_lem true x y e = ap (λ z. pick (legal z) 0 (λ w. 7)) e
word_join_lem false x y e = refl

word_row : (b : Bool) (n x y : ℕ) → x ≡ y → pick b (pick (eqb n x) 0 (λ w. 8)) (λ w. 0) ≡ word (record { level = 0; opened = 0; flags = NO_FLAGS; long = pick b n (λ w. 0); first = pick b y (λ w. 0) })
unfolding word pick
word_row true n x y e = ap (λ z. pick (eqb n z) 0 (λ w. 8)) e
word_row false n x y e = refl

word_goes_on : (r : Row) (l : Tree) (t : Tok) (f : Tree) (u : Tok) (d o : ℕ) → (r.code ≡ row_word_join → further_flags f ≡ united_all (texts f)) → (r.code ≡ row_next_row → width_of l ≡ first_long l)
    → judge (at d o) r l t (add f (leaf u)) ≡ word (from d o (inside_of r (goes_on r l t f u)))
unfolding judge is_kind from inside_of goes_on lifted raised both pick
word_goes_on r l t f u d o a b = by_bool (eqb r.code row_word_join)
    (λ e. let j = eqb_eq r.code row_word_join e in
    let n : eqb r.code row_next_row ≡ false = ap (λ z. eqb z row_next_row) j in
    rw (e, n) (word_join_lem (eqb u.kind JOIN) _ _ (ap (united (flags_of t.text)) (a j))))
    (λ e. rw e (by_bool (eqb r.code row_next_row)
    (λ n. rw n (word_row (eqb u.kind RP) (width (add f (leaf u))) _ _ (b (eqb_eq r.code row_next_row n))))
    (λ n. rw n (word_row false 0 0 0 refl))))

-- ── the theorem, by the derivation ──
-- what is known of a row that is derived, while its left operand has no word
record Known (r : Row) (l : Tree) : Type 0 where
  joins : r.code ≡ row_word_join → wordy r.items ≡ true
  rows : r.code ≡ row_next_row → width_of l ≡ first_long l

heard_append : (r : Row) (d o : ℕ) (a b : List Mark) → heard d o (map (inside_of r) (a ++ b)) ≡ heard d o (map (inside_of r) a) ++ heard d o (map (inside_of r) b)
heard_append r d o [] b = refl
heard_append r d o (m ∷ a) b = ap (λ z. word (from d o (inside_of r m)) ∷ z) (heard_append r d o a b)

abbrev Holds : Tree → Type 0
Holds x = (d o : ℕ) → up_to (words_in x d o) ≡ up_to (heard d o (marks x))

abbrev PartsHold : Tree → Row → Tree → Tok → Type 0
PartsHold f r l t = (d o : ℕ) → up_to (faults_kids Around under judge f (at d o) r l t) ≡ up_to (heard d o (map (inside_of r) (marks_of_parts f r l t)))

-- a node: its left operand, its token, its parts
node_holds : {A : Nt} {l : Tree} {s : Tok} {q : Row} (f : Tree) → Opens G A l s q → Holds l → (Known q l → PartsHold f q l s) → Holds (node q l s f)
unfolding faults_in marks
node_holds {l = l} {s = s} {q = q} f a h k d o = rw map-append (up_to_append (words_in l d o) (heard d o (marks l)) _ _ (h d o)
    (λ z. up_to_append (_ ∷ []) (_ ∷ []) _ _ (ap (λ n. up_to (n ∷ [])) (word_starts a d o)) (λ w. k (record { joins = join_items a; rows = λ c. held a c d o z }) d o)))

-- a part, seen from within the row around it
inside_holds : (x : Tree) → Holds x → (r : Row) (d o : ℕ) → up_to (faults_in Around under judge x (below r (at d o)) 0) ≡ up_to (heard d o (map (inside_of r) (marks x)))
inside_holds x h r d o = rw (below_at, heard_inside) (h _ _)

mutual
  unfolding has_lit faults_in faults_kids marks marks_of_parts

  opens_hold : {A : Nt} {l : Tree} {s : Tok} {q : Row} → Opens G A l s q → Holds l
  opens_hold (head e) d o = refl
  opens_hold (tail {f = f} a b e) d o = node_holds f a (λ d o. opens_hold a d o) (λ k d o. part_holds b _ _ _ refl k d o) d o

  part_holds : {full rest : List Item} {f : Tree} → Part G full rest f → (r : Row) (l : Tree) (t : Tok) → r.items ≡ full → Known r l → PartsHold f r l t
  part_holds begin r l t e k d o = refl
  part_holds (token {f = f} {u = u} p h) r l t e k d o = rw heard_append (up_to_append (faults_kids Around under judge f (at d o) r l t) (heard d o (map (inside_of r) (marks_of_parts f r l t))) _ _ (part_holds p r l t e k d o)
      (λ z. ap (λ n. up_to (n ∷ [])) (word_goes_on r l t f u d o (λ c. word_part p (rw e at (k.joins c)) (sym (lit_suffix (part_suffix G p) refl))) k.rows)))
  part_holds (absent p h) r l t e k d o = rw append-nil (part_holds p r l t e k d o)
  part_holds (child {f = f} {q = q} {l = m} {s = s} {g = g} p a b) r l t e k d o = rw heard_append (up_to_append (faults_kids Around under judge f (at d o) r l t) (heard d o (map (inside_of r) (marks_of_parts f r l t))) _ _ (part_holds p r l t e k d o)
      (λ z. inside_holds (node q m s g) (node_holds g a (λ d o. opens_hold a d o) (λ k d o. part_holds b _ _ _ refl k d o)) r d o))

-- seen from nowhere further out, a mark is what it is
pub lifted_zero : (n : ℕ) → lifted 0 n ≡ n
unfolding lifted
lifted_zero zero = refl
lifted_zero (suc n) = omega arith

from_outside : (m : Mark) → from 0 0 m ≡ m
unfolding from
from_outside m = rw (lifted_zero m.level, lifted_zero m.opened)

heard_outside : (ms : List Mark) → heard 0 0 ms ≡ map word ms
heard_outside [] = refl
heard_outside (m ∷ ms) = rw (from_outside m, heard_outside ms)

ok_holds : {A : Nt} {q : Row} {x : Tree} → Ok G A q x → Holds x
ok_holds (whole {f = f} o p) = node_holds f o (opens_hold o) (λ k. part_holds p _ _ _ refl k)

-- ── one mark a token ──
mutual
  unfolding toks marks marks_of_parts

  opens_count : {A : Nt} {l : Tree} {s : Tok} {q : Row} → Opens G A l s q → length (marks l) ≡ length (toks l)
  opens_count (head e) = refl
  opens_count (tail {l = l} {s = s} {q = q} a b e) = simp (length-append, length-map, opens_count a, part_count b q l s)

  part_count : {full rest : List Item} {f : Tree} → Part G full rest f → (r : Row) (l : Tree) (t : Tok) → length (marks_of_parts f r l t) ≡ length (toks f)
  part_count begin r l t = refl
  part_count (token p h) r l t = simp (length-append, part_count p r l t)
  part_count (absent p h) r l t = simp (append-nil, part_count p r l t)
  part_count (child {q = q} {l = m} {s = s} p a b) r l t = simp (length-append, length-map, part_count p r l t, opens_count a, part_count b q m s)

ok_count : {A : Nt} {q : Row} {x : Tree} → Ok G A q x → length (marks x) ≡ length (toks x)
unfolding toks marks
ok_count (whole {r = r} {l = l} {t = t} o p) = simp (length-append, length-map, opens_count o, part_count p r l t)

-- ── of a command ──
-- the words of a command's marks
abbrev pub mark_words : Tree → List ℕ
mark_words x = map word (marks x)

module _ (ts : List Tok) (x : Tree) (c : IsCommand ts x) where
  pub levels_hold : up_to (limits x) ≡ up_to (mark_words x)
  unfolding faults_of
  levels_hold = ok_holds c.1 0 0 ∙ ap up_to (heard_outside (marks x))

  pub none_passed : AllZero (limits x) ↔ AllZero (mark_words x)
  none_passed = (up_to_zero (limits x) (mark_words x) levels_hold, up_to_zero (mark_words x) (limits x) (sym levels_hold))

  pub first_passed : (p m : ℕ) → FirstFault Around under judge G outer (any Command) x p m ↔ FirstWord (mark_words x) p m
  first_passed p m = (up_to_first (limits x) (mark_words x) p m levels_hold, up_to_first (mark_words x) (limits x) p m (sym levels_hold))

  pub seen : up_to (faults G Around under judge outer (any Command) idle ts) ≡ up_to (mark_words x)
  seen = ap (λ us. up_to (faults G Around under judge outer (any Command) idle us)) (sym c.2)
      ∙ ap up_to (faults_read Around under judge G outer (any Command) (FollowOf sql) sql_laws c.1) ∙ levels_hold

  pub one_each : length (marks x) ≡ length ts
  one_each = ok_count c.1 ∙ ap length c.2

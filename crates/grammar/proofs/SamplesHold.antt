-- samples_hold: of every sample command, for every node table of 4,096 numbers and outputs that hold the writing, the outcome in the table
-- is the one that `Reads` promises (and `Writes`, for an accepted one, which is within the limits). By one test that computes, over the whole
-- table, through the machine. Assumes nothing.
use mathlib.Core.Bool.{true, false, Bool}
use mathlib.Core.List.{List, [], ◌∷◌}
use mathlib.Core.Logic.{inl, inr}
use mathlib.Core.Path.{◌≡◌, refl, sym, ap, ◌∙◌}
use Prim.Native.Nat.{ℕ, ◌≤◌, ◌<◌, suc, ◌*◌}
use lib.Dec.{eqb, leb}
use lib.ListN.{length}
use native.Mathlib.Omega.{arith}
use Rattle.theory.specs.Trees.{Tok, Tree, cap_of}
use Rattle.theory.specs.Table.{pick, both, on_row, mem, lookup, asked, enter_of, cont_of, null_of}
use Rattle.theory.specs.Outcome.{Ans, got, refused, Outcome}
use Rattle.theory.proofs.Machine.{on_bool, on_fed, feed, step, next}
use Rattle.theory.proofs.Cases.{0≢1, both_l, both_r, eqb_eq, eqb-true, leb_le}
use Rattle.theory.proofs.Descend.{check, sum, fault}
use Rattle.theory.proofs.Scan.{on_next_a, on_end_a, fault_of, scan_a}
use Rattle.theory.proofs.Tested.{allb, FollowOf}
use Rattle.kinds.specs.Classes.{name_code, literal_code}
use Rattle.kinds.specs.Strength.{strength_of, prefix_of}
use Rattle.kinds.specs.Fit.{fit_text, fits}
use Rattle.words.specs.Words.{words, equal}
use Rattle.words.specs.Flags.{flags_of}
use Rattle.words.specs.Fewest.{endings, ending_of, fewest_of}
use Rattle.grammar.specs.Classes.{Command, any}
use Rattle.grammar.specs.Rows.{but_column, exprs, select_items, values_items, lines, heads_of, tails_of, optional}
use Rattle.grammar.specs.Grammar.{sql, G}
use Rattle.grammar.specs.Sizes.{TOKENS, WIDTH}
use Rattle.grammar.specs.Limits.{Around, outer, is_query, below, under, further_flags, members, last_child, children_before, width, width_of, begun, is_kind, judge}
use Rattle.grammar.specs.Nodes.{count, beside, Rec, rec, records, laid}
use Rattle.grammar.specs.Reading.{side, choose, is_end, opt, ◌#◌, column, limit_and_offset, group, inside, rules, ruled, value_of, value, values, reading}
use Rattle.grammar.specs.Meaning.{plain_detail, is_one, unwrapped, meaning}
use Rattle.grammar.specs.Writing.{◌!◌, but_first, within, at, after, joined, each, parted, rows, grouped, join_words, join_of, whens, binary_toks, binary_str, node_str, forms, formed, piece, pieces, writing}
use Rattle.grammar.specs.Promise.{tokens, Lent, AllFit, Accepted, records_of, Reads, accepted, writing_of, put, kinds_of, texts_of, Writes, written}
use Rattle.grammar.specs.Samples.{Sample, w, v, times, around, samples}
use Rattle.grammar.proofs.Checked.{sql_laws}
use Rattle.grammar.proofs.Promised.{choose_true, choose_false, not-true, found, answered, parsed, is_answered}
use Rattle.theory.proofs.Outcomes.{some_outcome}

-- ── equality tests, and what they say ──
unfoldable pub eq_rec : Rec → Rec → Bool
eq_rec (rec a b c d) (rec e f g h) = both (eqb a e) (both (eqb b f) (both (eqb c g) (eqb d h)))

unfoldable pub eq_tok : Tok → Tok → Bool
eq_tok t u = both (eqb t.kind u.kind) (eqb t.text u.text)

unfoldable pub eq_all : {A : Type 0} → (A → A → Bool) → List A → List A → Bool
eq_all eq [] [] = true
eq_all eq [] (y ∷ ys) = false
eq_all eq (x ∷ xs) [] = false
eq_all eq (x ∷ xs) (y ∷ ys) = both (eq x y) (eq_all eq xs ys)

eq_rec_lem : (r s : Rec) → eq_rec r s ≡ true → r ≡ s
unfolding eq_rec
eq_rec_lem (rec a b c d) (rec e f g h) z =
    let p = both_l (eqb a e) _ z in let q = both_r (eqb a e) _ z in
    let r = both_l (eqb b f) _ q in let s = both_r (eqb b f) _ q in
    let t = both_l (eqb c g) _ s in let u = both_r (eqb c g) _ s in
    rw (eqb_eq a e p, eqb_eq b f r, eqb_eq c g t, eqb_eq d h u)

eq_tok_lem : (t u : Tok) → eq_tok t u ≡ true → t ≡ u
unfolding eq_tok
eq_tok_lem t u z = let p = eqb_eq t.kind u.kind (both_l _ (eqb t.text u.text) z) in let q = eqb_eq t.text u.text (both_r (eqb t.kind u.kind) _ z) in same p q
  where
    same : t.kind ≡ u.kind → t.text ≡ u.text → ◌≡◌ {A = Tok} (record { kind = t.kind; text = t.text }) (record { kind = u.kind; text = u.text })
    same p q = rw (p, q)

eq_all_lem : {A : Type 0} (eq : A → A → Bool) → ((x y : A) → eq x y ≡ true → x ≡ y) → (xs ys : List A) → eq_all eq xs ys ≡ true → xs ≡ ys
unfolding eq_all
eq_all_lem eq h [] [] e = refl
eq_all_lem eq h [] (y ∷ ys) e = 0≢1 e
eq_all_lem eq h (x ∷ xs) [] e = 0≢1 e
eq_all_lem eq h (x ∷ xs) (y ∷ ys) e = let p = h x y (both_l _ (eq_all eq xs ys) e) in let q = eq_all_lem eq h xs ys (both_r (eq x y) _ e) in cc

-- ── the test of a sample ──
unfoldable pub answers : Sample → Ans → Bool
answers s (got k n us) = both (both (eqb s.number 0) (eqb s.place (length s.records))) (both (eq_all eq_rec (records_of (found k)) s.records) (eq_all eq_tok (writing_of (found k)) s.writing))
answers s (refused m p) = both (eqb s.number m) (eqb s.place p)

unfoldable pub fitting : List Tok → Bool
fitting [] = true
fitting (t ∷ ts) = both (fits t.kind t.text) (fitting ts)

-- "The program lends tables of 4,096 places"
abbrev pub PLACES : ℕ
PLACES = 4096

unfoldable pub good : Sample → Bool
good s = both (both (leb (length s.command) TOKENS) (leb (WIDTH * length s.records) PLACES)) (both (fitting s.command) (answers s (parsed s.command)))

pub samples_good : allb good samples ≡ true
unfolding samples times around good fitting answers found eq_all eq_rec eq_tok allb fits fit_text sql lines but_column exprs select_items values_items heads_of tails_of optional pick both mem lookup asked enter_of cont_of null_of cap_of on_bool on_row on_fed feed step next check sum fault scan_a on_next_a on_end_a fault_of is_query below further_flags members last_child children_before width width_of begun is_kind judge side opt ◌#◌ name_code literal_code column limit_and_offset group inside rules ruled value_of value values reading choose is_end beside count records flags_of words plain_detail is_one unwrapped meaning ◌!◌ but_first at after joined each parted rows grouped join_words join_of whens binary_toks binary_str node_str forms formed piece pieces writing fewest_of endings ending_of strength_of prefix_of
samples_good = refl

-- ── what the test says of a sample ──
pub tokens_back : (ts : List Tok) → tokens (kinds_of ts) (texts_of ts) ≡ ts
unfolding tokens
tokens_back [] = refl
tokens_back (t ∷ ts) = ap (λ z. t ∷ z) (tokens_back ts)

pub length_kinds : (ts : List Tok) → length (kinds_of ts) ≡ length ts
length_kinds [] = refl
length_kinds (t ∷ ts) = ap suc (length_kinds ts)

pub length_texts : (ts : List Tok) → length (texts_of ts) ≡ length ts
length_texts [] = refl
length_texts (t ∷ ts) = ap suc (length_texts ts)

all_fitting : (ts : List Tok) → fitting ts ≡ true → AllFit ts
unfolding fitting
all_fitting [] e = tt
all_fitting (t ∷ ts) e = (both_l _ (fitting ts) e, all_fitting ts (both_r (fits t.kind t.text) _ e))

-- what stands in the table after a sample: its records in front, if it is accepted
pub left_by : Sample → List ℕ → List ℕ
left_by s N = choose (eqb s.number 0) (laid N s.records) N

-- s is read as the table says, whatever table of that many places is lent
abbrev pub ReadSo : Sample → Type 0
ReadSo s = (N : List ℕ) → length N ≡ PLACES → Reads (kinds_of s.command) (texts_of s.command) N s.number s.place (left_by s N)

-- and, if it is accepted, written as the table says, whatever outputs hold the writing
abbrev pub WrittenSo : Sample → Type 0
WrittenSo s = s.number ≡ 0 → (N A B : List ℕ) → length N ≡ PLACES → length A ≡ length B → length s.writing ≤ length A
    → Writes (kinds_of s.command) (texts_of s.command) N A B 0 (length s.writing) (laid N s.records) (put (kinds_of s.writing) A) (put (texts_of s.writing) B)

-- it is then a command within the limits, with these records and this writing
pub record Taken (s : Sample) : Type 0 where
  pub tree : Tree
  pub accepted : Accepted (kinds_of s.command) (texts_of s.command) tree
  pub records : records_of tree ≡ s.records
  pub writing : writing_of tree ≡ s.writing

abbrev pub Holds : Sample → Type 0
Holds s = ReadSo s × WrittenSo s × (s.number ≡ 0 → Taken s)

some_number : {ts : List Tok} (m p : ℕ) → Outcome Around under judge G outer (any Command) ts (refused m p) → 0 < m
some_number m p (inl o) = omega (arith, o.0)
some_number m p (inr (inl o)) = omega (arith, o.0)
some_number m p (inr (inr o)) = o.7.5

module _ (s : Sample) (ok : good s ≡ true) where
  sizes : both (leb (length s.command) TOKENS) (leb (WIDTH * length s.records) PLACES) ≡ true
  unfolding good
  sizes = both_l _ (both (fitting s.command) (answers s (parsed s.command))) ok

  others : both (fitting s.command) (answers s (parsed s.command)) ≡ true
  unfolding good
  others = both_r (both (leb (length s.command) TOKENS) (leb (WIDTH * length s.records) PLACES)) _ ok

  lent : Lent (kinds_of s.command) (texts_of s.command)
  lent = record {
    equal = length_kinds s.command ∙ sym (length_texts s.command);
    short = rw (length_kinds s.command) (leb_le (length s.command) TOKENS (both_l _ (leb (WIDTH * length s.records) PLACES) sizes));
  }

  fit : AllFit (tokens (kinds_of s.command) (texts_of s.command))
  fit = rw (tokens_back s.command) (all_fitting s.command (both_l _ (answers s (parsed s.command)) others))

  told_so : answers s (parsed (tokens (kinds_of s.command) (texts_of s.command))) ≡ true
  told_so = rw (tokens_back s.command) (both_r (fitting s.command) _ others)

  room : WIDTH * length s.records ≤ PLACES
  room = leb_le (WIDTH * length s.records) PLACES (both_r (leb (length s.command) TOKENS) _ sizes)

  by_answer : (a : Ans) → Outcome Around under judge G outer (any Command) (tokens (kinds_of s.command) (texts_of s.command)) a → answers s a ≡ true → Holds s
  unfolding answers answered left_by choose found
  by_answer (got k n us) o e =
      let i = both_l _ (both (eq_all eq_rec (records_of (found k)) s.records) (eq_all eq_tok (writing_of (found k)) s.writing)) e in
      let z : s.number ≡ 0 = eqb_eq s.number 0 (both_l _ (eqb s.place (length s.records)) i) in
      let y : s.place ≡ length s.records = eqb_eq s.place (length s.records) (both_r (eqb s.number 0) _ i) in
      let f = both_r (both (eqb s.number 0) (eqb s.place (length s.records))) _ e in
      let r : records_of (found k) ≡ s.records = eq_all_lem eq_rec eq_rec_lem (records_of (found k)) s.records (both_l _ (eq_all eq_tok (writing_of (found k)) s.writing) f) in
      let v : writing_of (found k) ≡ s.writing = eq_all_lem eq_tok eq_tok_lem (writing_of (found k)) s.writing (both_r (eq_all eq_rec (records_of (found k)) s.records) _ f) in
      let q : records_of o.0 ≡ s.records = sym (ap (λ y. records_of (found y)) o.1) ∙ r in
      let u : writing_of o.0 ≡ s.writing = sym (ap (λ y. writing_of (found y)) o.1) ∙ v in
      let a : Accepted (kinds_of s.command) (texts_of s.command) o.0 = record { lent = lent; fit = fit; derived = o.4; within = o.5 } in (
        (λ N h. accepted o.0 a (rw (q, h) room) z (y ∙ ap length (sym q)) (choose_true _ _ _ (eqb-true s.number 0 z) ∙ ap (laid N) (sym q))),
        (λ w N A B h g l. written o.0 g a (rw (q, h) room) (rw u l) refl (ap length (sym u)) (ap (laid N) (sym q)) (ap (λ x. put (kinds_of x) A) (sym u)) (ap (λ x. put (texts_of x) B) (sym u))),
        (λ w. record { tree = o.0; accepted = a; records = q; writing = u }),
      )
  by_answer (refused m p) o e =
      let y : s.number ≡ m = eqb_eq s.number m (both_l _ (eqb s.place p) e) in
      let z : s.place ≡ p = eqb_eq s.place p (both_r (eqb s.number m) _ e) in
      let b : 0 < m = some_number m p o in (
        (λ N h. let k : left_by s N ≡ N = choose_false _ _ _ (not-true _ (λ w. absurd (let a = eqb_eq s.number 0 w in omega (arith, a, b, y)))) in
            rw (k, y, z) (is_answered (kinds_of s.command) (texts_of s.command) N lent fit (refused m p) o)),
        (λ w. absurd (omega (arith, w, b, y))),
        (λ w. absurd (omega (arith, w, b, y))),
      )

sample_holds : (s : Sample) → good s ≡ true → Holds s
sample_holds s ok = by_answer s ok (parsed (tokens (kinds_of s.command) (texts_of s.command)))
    (some_outcome Around under judge G outer (any Command) (FollowOf sql) sql_laws (tokens (kinds_of s.command) (texts_of s.command))) (told_so s ok)

abbrev pub Every : (Sample → Type 0) → List Sample → Type 0
Every P [] = Unit {0}
Every P (s ∷ ss) = P s × Every P ss

pub every : (ss : List Sample) → allb good ss ≡ true → Every Holds ss
unfolding allb
every [] e = tt
every (s ∷ ss) e = (sample_holds s (both_l _ (allb good ss) e), every ss (both_r (good s) _ e))

pub samples_hold : Every Holds samples
samples_hold = every samples samples_good

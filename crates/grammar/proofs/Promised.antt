-- Each promise leaves exactly one outcome. one_reading, one_writing: two outcomes that it allows coincide, answer and every lent number.
-- some_reading, some_writing: it allows one, for every input. Both by one function, which the promise is shown to be. Assumes nothing.
use mathlib.Core.Bool.{true, false, Bool}
use mathlib.Core.List.{List, [], ◌∷◌, ◌++◌}
use mathlib.Core.Logic.{inl, inr}
use mathlib.Core.Option.{some, none, Option}
use mathlib.Core.Path.{◌≡◌, refl, sym, ap, ◌∙◌, subst}
use Prim.Native.Nat.{ℕ, ◌+◌, ◌<◌, ◌*◌}
use borrow.Author.Tests.{leb-false}
use lib.Dec.{eqb, leb, T}
use lib.ListN.{length}
use native.Mathlib.Omega.{arith}
use Rattle.theory.specs.Trees.{Tok, Tree, nil, add, leaf, node}
use Rattle.theory.specs.Table.{both}
use Rattle.theory.specs.Outcome.{Ans, got, refused, Outcome}
use Rattle.theory.proofs.Cases.{by_bool, 0≢1, both_l, both_r, both_i, eqb_eq, eqb-true, leb_le, le-leb}
use Rattle.theory.proofs.Scan.{parse_a}
use Rattle.theory.proofs.Outcomes.{outcome, some_outcome}
use Rattle.kinds.specs.Fit.{fits}
use Rattle.grammar.specs.Classes.{Command, any}
use Rattle.grammar.specs.Grammar.{sql, G}
use Rattle.grammar.specs.Sizes.{TOKENS, WIDTH}
use Rattle.grammar.specs.Limits.{Around, outer, under, judge}
use Rattle.grammar.specs.Nodes.{laid}
use Rattle.grammar.specs.Reading.{choose}
use Rattle.grammar.specs.Writing.{within, after}
use Rattle.grammar.specs.Promise.{tokens, Lent, Fit, AllFit, FirstUnfit, Accepted, records_of, Room, Reads, accepted, refusal_1, refusal_2, refusal_3, refusal_4, refusal_5_to_8, refusal_9, writing_of, put, kinds_of, texts_of, Writes, written, refusal_1w, refusal_2_to_9, refusal_10}
use Rattle.grammar.proofs.Checked.{sql_laws}
use Rattle.theory.proofs.Tested.{FollowOf}

-- number, place, and the table as it is left
pub record Left : Type 0 where
  pub number : ℕ
  pub place : ℕ
  pub table : List ℕ

abbrev pub left : ℕ → ℕ → List ℕ → Left
left m p N = record { number = m; place = p; table = N }

-- ── the tests, and what they say ──
unfoldable pub lent_b : List ℕ → List ℕ → Bool
lent_b K T = both (eqb (length K) (length T)) (leb (length K) TOKENS)

lent_true : (K T : List ℕ) → Lent K T → lent_b K T ≡ true
unfolding lent_b
lent_true K T l = both_i _ _ (eqb-true (length K) (length T) l.equal) (le-leb (length K) TOKENS l.short)

true_lent : (K T : List ℕ) → lent_b K T ≡ true → Lent K T
unfolding lent_b
true_lent K T e = record { equal = eqb_eq (length K) (length T) (both_l _ (leb (length K) TOKENS) e); short = leb_le (length K) TOKENS (both_r (eqb (length K) (length T)) _ e) }

lent_false : (K T : List ℕ) → ¬ Lent K T → lent_b K T ≡ false
lent_false K T n = by_bool (lent_b K T) (λ e. absurd (n (true_lent K T e))) (λ e. e)

pub choose_true : {X : Type 0} (b : Bool) (x y : X) → b ≡ true → choose b x y ≡ x
unfolding choose
choose_true b x y e = rw e

pub choose_false : {X : Type 0} (b : Bool) (x y : X) → b ≡ false → choose b x y ≡ y
unfolding choose
choose_false b x y e = rw e

-- the lowest unfit token, if there is one
unfoldable pub first_unfit : ℕ → List Tok → Option ℕ
first_unfit n [] = none
first_unfit n (t ∷ ts) = choose (fits t.kind t.text) (first_unfit (n + 1) ts) (some n)

all_fit : (n : ℕ) (ts : List Tok) → AllFit ts → first_unfit n ts ≡ none
unfolding first_unfit choose
all_fit n [] f = refl
all_fit n (t ∷ ts) f = rw f.0 (all_fit (n + 1) ts f.1)

pub not-true : (b : Bool) → (b ≡ true → ⊥) → b ≡ false
not-true true n = absurd (n refl)
not-true false n = refl

unfit_at : (n : ℕ) (us : List Tok) (u : Tok) (vs : List Tok) → AllFit us → ¬ Fit u → first_unfit n (us ++ (u ∷ vs)) ≡ some (n + length us)
unfolding first_unfit choose
unfit_at n [] u vs f x = rw (not-true (fits u.kind u.text) x) (ap some (omega arith))
unfit_at n (t ∷ us) u vs f x = rw f.0 (unfit_at (n + 1) us u vs f.1 x ∙ ap some (omega arith))

-- and back
abbrev Scanned : ℕ → List Tok → Option ℕ → Type 0
Scanned n ts none = AllFit ts
Scanned n ts (some p) = (us : List Tok) × (u : Tok) × (vs : List Tok) × (ts ≡ us ++ (u ∷ vs)) × (p ≡ n + length us) × AllFit us × (¬ Fit u)

scanned_more : (n : ℕ) (t : Tok) (ts : List Tok) → Fit t → (o : Option ℕ) → Scanned (n + 1) ts o → Scanned n (t ∷ ts) o
scanned_more n t ts f none s = (f, s)
scanned_more n t ts f (some p) s = (t ∷ s.0, s.1, s.2, ap (λ z. t ∷ z) s.3, omega (arith, s.4), (f, s.5), s.6)

false_not : (b : Bool) → b ≡ false → b ≡ true → ⊥
false_not b e f = 0≢1 (sym e ∙ f)

scanned : (n : ℕ) (ts : List Tok) → Scanned n ts (first_unfit n ts)
unfolding first_unfit choose
scanned n [] = tt
scanned n (t ∷ ts) = by_bool (fits t.kind t.text)
    (λ e. rw e (scanned_more n t ts e (first_unfit (n + 1) ts) (scanned (n + 1) ts)))
    (λ e. rw e ([], t, ts, refl, omega arith, tt, false_not (fits t.kind t.text) e))

-- the command's tree, from what the machine found
unfoldable pub found : Tree → Tree
found nil = nil
found (add f x) = x
found (leaf t) = nil
found (node r l t f) = nil

-- ── the reader's promise as a function ──
unfoldable pub room_b : List ℕ → Tree → Bool
room_b N x = leb (WIDTH * length (records_of x)) (length N)

unfoldable pub answered : List ℕ → Ans → Left
answered N (got k n us) = choose (room_b N (found k)) (left 0 (length (records_of (found k))) (laid N (records_of (found k)))) (left 9 (length (records_of (found k))) N)
answered N (refused m p) = left m p N

unfoldable pub on_fit : Option ℕ → List ℕ → Ans → Left
on_fit none N a = answered N a
on_fit (some p) N a = left 2 p N

abbrev pub parsed : List Tok → Ans
parsed ts = parse_a G Around under judge outer (any Command) ts

unfoldable pub read_of : List ℕ → List ℕ → List ℕ → Left
read_of K T N = choose (lent_b K T) (on_fit (first_unfit 0 (tokens K T)) N (parsed (tokens K T))) (left 1 0 N)

module _ (K T N : List ℕ) where
  -- where the lists are lent and fit, the answer is the grammar's
  read_by : Lent K T → AllFit (tokens K T) → (a : Ans) → parsed (tokens K T) ≡ a → read_of K T N ≡ answered N a
  unfolding read_of choose on_fit
  read_by l f a e = rw (lent_true K T l, all_fit 0 (tokens K T) f, e)

  parsed_got : (x : Tree) → Accepted K T x → parsed (tokens K T) ≡ got (add nil x) (length (tokens K T)) []
  parsed_got x a = (outcome Around under judge G outer (any Command) (FollowOf sql) sql_laws (tokens K T) (got (add nil x) (length (tokens K T)) [])).1
      (x, refl, refl, refl, a.derived, a.within)

  parsed_refused : (m p : ℕ) → Outcome Around under judge G outer (any Command) (tokens K T) (refused m p) → parsed (tokens K T) ≡ refused m p
  parsed_refused m p o = (outcome Around under judge G outer (any Command) (FollowOf sql) sql_laws (tokens K T) (refused m p)).1 o

  same_left : {m m' p p' : ℕ} {N' N'' : List ℕ} → m ≡ m' → p ≡ p' → N' ≡ N'' → left m p N' ≡ left m' p' N''
  same_left a b c = rw (a, b, c)

  room_true : (x : Tree) → Room N x → room_b N x ≡ true
  unfolding room_b
  room_true x r = le-leb (WIDTH * length (records_of x)) (length N) r

  true_room : (x : Tree) → room_b N x ≡ true → Room N x
  unfolding room_b
  true_room x e = leb_le (WIDTH * length (records_of x)) (length N) e

  read_got : (x : Tree) → Accepted K T x → read_of K T N ≡ choose (room_b N x) (left 0 (length (records_of x)) (laid N (records_of x))) (left 9 (length (records_of x)) N)
  unfolding answered found
  read_got x a = read_by a.lent a.fit (got (add nil x) (length (tokens K T)) []) (parsed_got x a)

  read_1 : ¬ Lent K T → read_of K T N ≡ left 1 0 N
  unfolding read_of choose
  read_1 n = rw (lent_false K T n)

  read_2 : {p : ℕ} → Lent K T → FirstUnfit (tokens K T) p → read_of K T N ≡ left 2 p N
  unfolding read_of choose on_fit
  read_2 l u = rw (lent_true K T l, ap (first_unfit 0) u.parted ∙ unfit_at 0 u.before u.it u.after u.fit u.unfit) (ap (λ z. left 2 z N) (omega (arith, u.place)))

  pub told : {m p : ℕ} {N' : List ℕ} → Reads K T N m p N' → read_of K T N ≡ left m p N'
  unfolding answered
  told (accepted x a r e f g) = read_got x a ∙ choose_true _ _ _ (room_true x r) ∙ same_left (sym e) (sym f) (sym g)
  told (refusal_1 n e f g) = read_1 n ∙ same_left (sym e) (sym f) (sym g)
  told (refusal_2 l u e g) = read_2 l u ∙ same_left (sym e) refl (sym g)
  told {p = p} (refusal_3 l f o e g) = read_by l f (refused 3 p) (parsed_refused 3 p (inl (refl, o))) ∙ same_left (sym e) refl (sym g)
  told {p = p} (refusal_4 l f o e g) = read_by l f (refused 4 p) (parsed_refused 4 p (inr (inl (refl, o)))) ∙ same_left (sym e) refl (sym g)
  told {m} {p} (refusal_5_to_8 l f o g) = read_by l f (refused m p) (parsed_refused m p (inr (inr o))) ∙ same_left refl refl (sym g)
  told (refusal_9 x a n e f g) = read_got x a ∙ choose_false _ _ _ (not-true (room_b N x) (λ h. n (true_room x h))) ∙ same_left (sym e) (sym f) (sym g)

  pub one_reading : {m n p q : ℕ} {N' M : List ℕ} → Reads K T N m p N' → Reads K T N n q M → (m ≡ n) × (p ≡ q) × (N' ≡ M)
  one_reading {m} {n} {p} {q} {N'} {M} a b = let e : left m p N' ≡ left n q M = sym (told a) ∙ told b in (ap (λ z. z.number) e, ap (λ z. z.place) e, ap (λ z. z.table) e)

  -- ── there is always one ──
  abbrev pub Is : Left → Type 0
  Is a = Reads K T N a.number a.place a.table

  pub is_answered : Lent K T → AllFit (tokens K T) → (a : Ans) → Outcome Around under judge G outer (any Command) (tokens K T) a → Is (answered N a)
  unfolding answered found
  is_answered l f (got k n us) o = rw o.1 (by_bool (room_b N o.0)
      (λ e. subst Is (sym (choose_true _ _ _ e)) (accepted o.0 (record { lent = l; fit = f; derived = o.4; within = o.5 }) (true_room o.0 e) refl refl refl))
      (λ e. subst Is (sym (choose_false _ _ _ e)) (refusal_9 o.0 (record { lent = l; fit = f; derived = o.4; within = o.5 }) (λ r. false_not (room_b N o.0) e (room_true o.0 r)) refl refl refl)))
  is_answered l f (refused m p) (inl o) = refusal_3 l f o.1 o.0 refl
  is_answered l f (refused m p) (inr (inl o)) = refusal_4 l f o.1 o.0 refl
  is_answered l f (refused m p) (inr (inr o)) = refusal_5_to_8 l f o refl

  is_fit : Lent K T → (o : Option ℕ) → Scanned 0 (tokens K T) o → Is (on_fit o N (parsed (tokens K T)))
  unfolding on_fit
  is_fit l none s = is_answered l s (parsed (tokens K T)) (some_outcome Around under judge G outer (any Command) (FollowOf sql) sql_laws (tokens K T))
  is_fit l (some p) s = let e : p ≡ length s.0 = omega (arith, s.4) in refusal_2 l (record { before = s.0; it = s.1; after = s.2; parted = s.3; place = e; fit = s.5; unfit = s.6 }) refl refl

  pub some_reading : Reads K T N (read_of K T N).number (read_of K T N).place (read_of K T N).table
  unfolding read_of
  some_reading = by_bool (lent_b K T)
      (λ e. subst Is (sym (choose_true _ _ _ e)) (is_fit (true_lent K T e) (first_unfit 0 (tokens K T)) (scanned 0 (tokens K T))))
      (λ e. subst Is (sym (choose_false _ _ _ e)) (refusal_1 (λ l. false_not (lent_b K T) e (lent_true K T l)) refl refl refl))

-- ── the writer's promise as a function ──
pub record LeftW : Type 0 where
  pub number : ℕ
  pub place : ℕ
  pub table : List ℕ
  pub kinds : List ℕ
  pub texts : List ℕ

abbrev pub left_w : ℕ → ℕ → List ℕ → List ℕ → List ℕ → LeftW
left_w m p N A B = record { number = m; place = p; table = N; kinds = A; texts = B }

module _ (K T N A B : List ℕ) where
  -- after a reading that was accepted with the tree x
  unfoldable pub wrote_tree : Tree → LeftW
  wrote_tree x = choose (leb (length (writing_of x)) (length A))
      (left_w 0 (length (writing_of x)) (laid N (records_of x)) (put (kinds_of (writing_of x)) A) (put (texts_of (writing_of x)) B))
      (left_w 10 (length (writing_of x)) (laid N (records_of x)) A B)

  unfoldable pub wrote_ans : Left → Ans → LeftW
  wrote_ans l (got k n us) = choose (eqb l.number 0) (wrote_tree (found k)) (left_w l.number l.place l.table A B)
  wrote_ans l (refused m p) = left_w l.number l.place l.table A B

  unfoldable pub write_of : LeftW
  write_of = choose (both (lent_b K T) (eqb (length A) (length B))) (wrote_ans (read_of K T N) (parsed (tokens K T))) (left_w 1 0 N A B)

  write_by : Lent K T → length A ≡ length B → write_of ≡ wrote_ans (read_of K T N) (parsed (tokens K T))
  unfolding write_of
  write_by l e = choose_true _ _ _ (both_i _ _ (lent_true K T l) (eqb-true (length A) (length B) e))

  same_left_w : {m m' p p' : ℕ} {N' N'' A' A'' B' B'' : List ℕ} → m ≡ m' → p ≡ p' → N' ≡ N'' → A' ≡ A'' → B' ≡ B'' → left_w m p N' A' B' ≡ left_w m' p' N'' A'' B''
  same_left_w a b c d e = rw (a, b, c, d, e)

  -- the reading was accepted: its tree is written
  write_tree : (x : Tree) → length A ≡ length B → Accepted K T x → Room N x → write_of ≡ wrote_tree x
  unfolding wrote_ans choose found
  write_tree x e a r = write_by a.lent e ∙ rw (parsed_got K T N x a, told K T N (accepted x a r refl refl refl))

  -- it was refused: nothing is written
  write_refused : {m p : ℕ} {N' : List ℕ} → Lent K T → length A ≡ length B → Reads K T N m p N' → 0 < m → write_of ≡ left_w m p N' A B
  unfolding wrote_ans
  write_refused {m} {p} {N'} l e r h = write_by l e ∙ ap (λ z. wrote_ans z (parsed (tokens K T))) (told K T N r) ∙ nothing_written (parsed (tokens K T))
    where
      nothing_written : (a : Ans) → wrote_ans (left m p N') a ≡ left_w m p N' A B
      nothing_written (got k n us) = choose_false _ _ _ (not-true (eqb m 0) (λ z. absurd (omega (arith, eqb_eq m 0 z))))
      nothing_written (refused n q) = refl

  write_1 : ¬ (Lent K T × (length A ≡ length B)) → write_of ≡ left_w 1 0 N A B
  unfolding write_of
  write_1 n = choose_false _ _ _ (not-true _ (λ h. n (true_lent K T (both_l _ (eqb (length A) (length B)) h), eqb_eq (length A) (length B) (both_r (lent_b K T) _ h))))

  pub told_w : {m p : ℕ} {N' A' B' : List ℕ} → Writes K T N A B m p N' A' B' → write_of ≡ left_w m p N' A' B'
  unfolding wrote_tree
  told_w (written x e a r h i j k l o) = write_tree x e a r ∙ choose_true _ _ _ (le-leb _ _ h) ∙ same_left_w (sym i) (sym j) (sym k) (sym l) (sym o)
  told_w (refusal_1w n i j k l o) = write_1 n ∙ same_left_w (sym i) (sym j) (sym k) (sym l) (sym o)
  told_w (refusal_2_to_9 e l r h i j) = write_refused l e r h ∙ same_left_w refl refl refl (sym i) (sym j)
  told_w (refusal_10 x e a r h i j k l o) = write_tree x e a r ∙ choose_false _ _ _ (not-true _ (λ z. absurd (omega (arith, h, leb_le (length (writing_of x)) (length A) z)))) ∙ same_left_w (sym i) (sym j) (sym k) (sym l) (sym o)

  pub one_writing : {m n p q : ℕ} {N' M A' C B' D : List ℕ} → Writes K T N A B m p N' A' B' → Writes K T N A B n q M C D
      → (m ≡ n) × (p ≡ q) × (N' ≡ M) × (A' ≡ C) × (B' ≡ D)
  one_writing {m} {n} {p} {q} {N'} {M} {A'} {C} {B'} {D} a b =
      let e : left_w m p N' A' B' ≡ left_w n q M C D = sym (told_w a) ∙ told_w b in
      (ap (λ z. z.number) e, ap (λ z. z.place) e, ap (λ z. z.table) e, ap (λ z. z.kinds) e, ap (λ z. z.texts) e)

  abbrev IsW : LeftW → Type 0
  IsW a = Writes K T N A B a.number a.place a.table a.kinds a.texts

  is_tree : (x : Tree) → length A ≡ length B → Accepted K T x → Room N x → IsW (wrote_tree x)
  unfolding wrote_tree
  is_tree x e a r = by_bool (leb (length (writing_of x)) (length A))
      (λ h. subst IsW (sym (choose_true _ _ _ h)) (written x e a r (leb_le _ _ h) refl refl refl refl refl))
      (λ h. subst IsW (sym (choose_false _ _ _ h)) (refusal_10 x e a r (leb-false (length (writing_of x)) (length A) h) refl refl refl refl refl))

  is_wrote : {m p : ℕ} {N' : List ℕ} → length A ≡ length B → Lent K T → Reads K T N m p N' → IsW write_of
  is_wrote e l (accepted x a r i j k) = subst IsW (sym (write_tree x e a r)) (is_tree x e a r)
  is_wrote e l (refusal_1 n i j k) = absurd (n l)
  is_wrote e l (refusal_2 l' u i k) = let q = refusal_2 l' u i k in subst IsW (sym (write_refused l e q (omega (arith, i)))) (refusal_2_to_9 e l q (omega (arith, i)) refl refl)
  is_wrote e l (refusal_3 l' f o i k) = let q = refusal_3 l' f o i k in subst IsW (sym (write_refused l e q (omega (arith, i)))) (refusal_2_to_9 e l q (omega (arith, i)) refl refl)
  is_wrote e l (refusal_4 l' f o i k) = let q = refusal_4 l' f o i k in subst IsW (sym (write_refused l e q (omega (arith, i)))) (refusal_2_to_9 e l q (omega (arith, i)) refl refl)
  is_wrote e l (refusal_5_to_8 l' f o k) = let q = refusal_5_to_8 l' f o k in subst IsW (sym (write_refused l e q o.7.5)) (refusal_2_to_9 e l q o.7.5 refl refl)
  is_wrote e l (refusal_9 x a n i j k) = let q = refusal_9 x a n i j k in subst IsW (sym (write_refused l e q (omega (arith, i)))) (refusal_2_to_9 e l q (omega (arith, i)) refl refl)

  pub some_writing : Writes K T N A B write_of.number write_of.place write_of.table write_of.kinds write_of.texts
  some_writing = by_bool (both (lent_b K T) (eqb (length A) (length B)))
      (λ h. is_wrote (eqb_eq (length A) (length B) (both_r (lent_b K T) _ h)) (true_lent K T (both_l _ (eqb (length A) (length B)) h)) (some_reading K T N))
      (λ h. let n : ¬ (Lent K T × (length A ≡ length B)) = λ w. false_not _ h (both_i _ _ (lent_true K T w.0) (eqb-true (length A) (length B) w.1)) in
      subst IsW (sym (write_1 n)) (refusal_1w n refl refl refl refl refl))

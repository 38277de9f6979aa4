-- What the tests of fitness come to: the sum of bits that `odd` makes is none exactly where the token is fit, lists whose tokens are each
-- fit are fit lists and have fit tokens, and the first place that is unfit is the lowest such token. Assumes nothing.
use mathlib.Core.Path.{◌≡◌, refl, sym, ap, ◌∙◌}
use mathlib.Core.Bool.{Bool, true, false, cond, not, ◌&&◌, ◌||◌}
use mathlib.Core.List.{List, [], ◌∷◌, ◌++◌}
use Rattle.std.proofs.lemmas.List.{length-append}
use borrow.Author.Count.{below_more}
use Prim.Native.Nat.{ℕ, zero, suc, ◌<◌}
use native.Mathlib.Omega.{arith}
use lib.Bits.{bit_and, bit_or, or_add_and}
use lib.Dec.{eqb, ltb, leb}
use lib.ListN.{length, get_or}
use borrow.Author.Tests.{eqb-true, eqb-false, ltb-true, ltb-false, le-leb, lt-leb, ne_eqb}
use mir.Val.{bool_byte}
use Rattle.theory.specs.Trees.{Tok}
use Rattle.theory.proofs.Cases.{by_bool, 0≢1}
use Rattle.kinds.specs.Fit.{fit_text, fits}
use Rattle.grammar.specs.Promise.{Fit, FirstUnfit, tokens}
use Rattle.reader.specs.Laying.{FitLists, UnfitAt}

-- ── bits that are bools ──
or_byte : (a b : Bool) → bit_or (bool_byte a) (bool_byte b) ≡ bool_byte (a || b)
or_byte true true = refl
or_byte true false = refl
or_byte false true = refl
or_byte false false = refl

and_byte : (a b : Bool) → bit_and (bool_byte a) (bool_byte b) ≡ bool_byte (a && b)
and_byte true true = refl
and_byte true false = refl
and_byte false true = refl
and_byte false false = refl

byte_none : (b : Bool) → bool_byte b ≡ 0 → not b ≡ true
byte_none true z = absurd (omega arith)
byte_none false z = refl

none_byte : (b : Bool) → not b ≡ true → bool_byte b ≡ 0
none_byte true e = 0≢1 e
none_byte false e = refl

pub none_or : (a b : ℕ) → a ≡ 0 → b ≡ 0 → bit_or a b ≡ 0
none_or a b p q = omega (arith, or_add_and a b)

-- ── the test of one token ──
-- kind 0, kind too great, JOIN_KW, text 0, text over 7, LIKE_KW, text over 3
abbrev any_odd : Bool → Bool → Bool → Bool → Bool → Bool → Bool → Bool
any_odd z h j c s l t = ((z || h) || (j && (c || s))) || (l && (c || t))

abbrev bits : Bool → Bool → Bool → Bool → Bool → Bool → Bool → ℕ
bits z h j c s l t =
    bit_or (bit_or (bit_or (bool_byte z) (bool_byte h)) (bit_and (bool_byte j) (bit_or (bool_byte c) (bool_byte s))))
    (bit_and (bool_byte l) (bit_or (bool_byte c) (bool_byte t)))

bits_are : (z h j c s l t : Bool) → bits z h j c s l t ≡ bool_byte (any_odd z h j c s l t)
bits_are z h j c s l t =
    rw (or_byte z h, or_byte c s, or_byte c t, and_byte j (c || s), and_byte l (c || t), or_byte (z || h) (j && (c || s)))
    (or_byte ((z || h) || (j && (c || s))) (l && (c || t)))

tells : (z h j c s l t : Bool) → (j ≡ true → l ≡ false)
    → (not z && not h) && cond j (not c && not s) (cond l (not c && not t) true) ≡ not (any_odd z h j c s l t)
tells true h j c s l t d = refl
tells false true j c s l t d = refl
tells false false true true s l t d = refl
tells false false true false true l t d = refl
tells false false true false false true t d = 0≢1 (sym (d refl))
tells false false true false false false t d = refl
tells false false false true s true t d = refl
tells false false false false s true true d = refl
tells false false false false s true false d = refl
tells false false false c s false t d = refl

-- the tests of `fits` as those of `odd`
not_zero : (n : ℕ) → leb 1 n ≡ not (eqb n 0)
not_zero n =
    by_bool (eqb n 0) (λ e. rw e (let z : n ≡ 0 = eqb-true n 0 e in lt-leb 1 n (omega arith)))
    (λ e. rw e (let z : n ≡ 0 → ⊥ = eqb-false n 0 e in le-leb 1 n (omega arith)))

not_over : (n hi : ℕ) → leb n hi ≡ not (ltb hi n)
not_over n hi =
    by_bool (ltb hi n) (λ e. rw e (lt-leb n hi (ltb-true hi n e)))
    (λ e. rw e (le-leb n hi (ltb-false hi n e)))

one_word : (k : ℕ) → eqb k 5 ≡ true → eqb k 40 ≡ false
one_word k e = let five : k ≡ 5 = eqb-true k 5 e in ne_eqb k 40 (λ f. omega (arith, five, f))

abbrev is_odd : ℕ → ℕ → Bool
is_odd k t = any_odd (eqb k 0) (ltb 71 k) (eqb k 5) (eqb t 0) (ltb 7 t) (eqb k 40) (ltb 3 t)

-- what `odd` makes of a token
abbrev pub odd_bits : ℕ → ℕ → ℕ
odd_bits k t = bits (eqb k 0) (ltb 71 k) (eqb k 5) (eqb t 0) (ltb 7 t) (eqb k 40) (ltb 3 t)

fits_is : (k t : ℕ) → fits k t ≡ not (is_odd k t)
unfolding fits fit_text
fits_is k t =
    rw (not_zero k, not_over k 71, not_zero t, not_over t 7, not_over t 3)
    (tells (eqb k 0) (ltb 71 k) (eqb k 5) (eqb t 0) (ltb 7 t) (eqb k 40) (ltb 3 t) (one_word k))

bits_of : (k t : ℕ) → odd_bits k t ≡ bool_byte (is_odd k t)
bits_of k t = bits_are (eqb k 0) (ltb 71 k) (eqb k 5) (eqb t 0) (ltb 7 t) (eqb k 40) (ltb 3 t)

pub fit_even : (k t : ℕ) → fits k t ≡ true → odd_bits k t ≡ 0
fit_even k t e = bits_of k t ∙ none_byte (is_odd k t) (sym (fits_is k t) ∙ e)

pub even_fit : (k t : ℕ) → odd_bits k t ≡ 0 → fits k t ≡ true
even_fit k t z = fits_is k t ∙ byte_none (is_odd k t) (sym (bits_of k t) ∙ z)

-- ── the two lists ──
abbrev pub FitAt : List ℕ → List ℕ → ℕ → Type 0
FitAt K T i = fits (get_or K i 0) (get_or T i 0) ≡ true

-- all are fit where each is
pub all_below : (K T : List ℕ) → ((i : ℕ) → i < length K → FitAt K T i) → FitLists K T
unfolding tokens
all_below [] T h = tt
all_below (k ∷ K) [] h = tt
all_below (k ∷ K) (t ∷ T) h = (h 0 (omega arith), all_below K T (λ i l. h (suc i) (omega arith)))

-- each is fit where all are
pub fit_at : (K T : List ℕ) (i : ℕ) → length T ≡ length K → FitLists K T → i < length K → FitAt K T i
unfolding tokens
fit_at [] T i e a l = absurd (omega arith)
fit_at (k ∷ K) [] i e a l = absurd (omega arith)
fit_at (k ∷ K) (t ∷ T) zero e a l = a.0
fit_at (k ∷ K) (t ∷ T) (suc i) e a l = fit_at K T i (omega arith) a.1 (omega arith)

later_unfit : (tk : Tok) (ts : List Tok) (p : ℕ) → Fit tk → FirstUnfit ts p → FirstUnfit (tk ∷ ts) (suc p)
later_unfit tk ts p h u =
    record {
      before = tk ∷ u.before;
      it = u.it;
      after = u.after;
      parted = ap (λ (l : List Tok). tk ∷ l) u.parted;
      place = ap suc u.place;
      fit = (h, u.fit);
      unfit = u.unfit;
    }

-- the lowest that is unfit: all below are fit
pub first_unfit : (K T : List ℕ) (i : ℕ) → length T ≡ length K → i < length K → ((j : ℕ) → j < i → FitAt K T j)
    → fits (get_or K i 0) (get_or T i 0) ≡ false → UnfitAt K T i
unfolding tokens
first_unfit [] T i e l h u = absurd (omega arith)
first_unfit (k ∷ K) [] i e l h u = absurd (omega arith)
first_unfit (k ∷ K) (t ∷ T) zero e l h u =
    record {
      before = [];
      it = record { kind = k; text = t };
      after = tokens K T;
      parted = refl;
      place = refl;
      fit = tt;
      unfit = λ f. 0≢1 (sym u ∙ f);
    }
first_unfit (k ∷ K) (t ∷ T) (suc i) e l h u =
    later_unfit (record { kind = k; text = t }) (tokens K T) i (h 0 (omega arith))
    (first_unfit K T i (omega arith) (omega arith) (λ j m. h (suc j) (omega arith)) u)

-- what holds of each index so far holds with one more
pub more : {A : Type 0} (P : ℕ → Type 0) (xs : List A) (x : A) → ((j : ℕ) → j < length xs → P j) → P (length xs) → (j : ℕ) → j < length (xs ++ (x ∷ [])) → P j
more P xs x h p j l = let e = length-append xs (x ∷ []) in below_more P (length xs) h p j (omega (arith, e, l))

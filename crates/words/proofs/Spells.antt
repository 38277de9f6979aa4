-- Bytes have a word's number exactly when, upper-cased, they are its spelling, and the number 0 exactly when they are no word's.
-- Assumes nothing.
use mathlib.Core.Path.{◌≡◌, refl, sym, ap, ◌∙◌}
use mathlib.Core.Bool.{Bool, true, false, cond, not, ◌&&◌}
use mathlib.Core.Logic.{◌↔◌}
use mathlib.Core.List.Memᴰ
use mathlib.Core.List.{List, [], ◌∷◌, map, Memᴰ}
use Prim.Native.Nat.{ℕ}
use lib.Dec.{eqb}
use borrow.Author.Tests.{eqb-false, not-true}
use Rattle.words.specs.Words.{Word, words, NO_WORD, upper_of, equal, number_in, word_of}
use Rattle.words.proofs.Equal.{one_list, with_itself, not_one_list}
use Rattle.words.proofs.Every.{left, right, every, each}

-- two words with neither number nor spelling in common
abbrev apart : Word → Word → Bool
apart v w = not (eqb v.number w.number) && not (equal v.spelling w.spelling)

abbrev distinct : List Word → Bool
distinct [] = true
distinct (v ∷ vs) = not (eqb v.number NO_WORD) && (every (apart v) vs && distinct vs)

module _ (s : List ℕ) where
  spelt : (v : Word) → s ≡ v.spelling → equal s v.spelling ≡ true
  spelt v e = ap (λ (l : List ℕ). equal l v.spelling) e ∙ with_itself v.spelling

  -- the first word of a table is met, or passed
  by_first : {P : Type 0} (v : Word) (vs : List Word)
      → (s ≡ v.spelling → number_in (v ∷ vs) s ≡ v.number → P)
      → ((s ≡ v.spelling → ⊥) → number_in (v ∷ vs) s ≡ number_in vs s → P) → P
  by_first {P} v vs met passed = go (equal s v.spelling) refl
    where
      go : (t : Bool) → equal s v.spelling ≡ t → P
      go true e = met (one_list s v.spelling e) (ap (λ (t : Bool). cond t v.number (number_in vs s)) e)
      go false e = passed (not_one_list s v.spelling e) (ap (λ (t : Bool). cond t v.number (number_in vs s)) e)

  none : (vs : List Word) → ((w : Word) → Memᴰ w vs → s ≡ w.spelling → ⊥) → number_in vs s ≡ NO_WORD
  none [] never = refl
  none (v ∷ vs) never =
      by_first v vs (λ e is. absurd (never v (Memᴰ.head refl) e)) (λ n is. is ∙ none vs (λ w m. never w (Memᴰ.tail m)))

  -- a number that is no word's is not given
  elsewhere : (vs : List Word) (n : ℕ) → (n ≡ NO_WORD → ⊥) → ((w : Word) → Memᴰ w vs → n ≡ w.number → ⊥) → number_in vs s ≡ n → ⊥
  elsewhere [] n given never e = given (sym e)
  elsewhere (v ∷ vs) n given never e =
      by_first v vs (λ p is. never v (Memᴰ.head refl) (sym e ∙ is))
      (λ p is. elsewhere vs n given (λ w m. never w (Memᴰ.tail m)) (sym is ∙ e))

  module _ (v : Word) (vs : List Word) (d : distinct (v ∷ vs) ≡ true) where
    rest_distinct : (every (apart v) vs && distinct vs) ≡ true
    rest_distinct = right (not (eqb v.number NO_WORD)) (every (apart v) vs && distinct vs) d

    numbered : v.number ≡ NO_WORD → ⊥
    numbered = eqb-false _ _ (not-true (eqb v.number NO_WORD) (left _ _ d))

    others : distinct vs ≡ true
    others = right (every (apart v) vs) (distinct vs) rest_distinct

    module _ (w : Word) (m : Memᴰ w vs) where
      are_apart : apart v w ≡ true
      are_apart = each (apart v) vs (left (every (apart v) vs) (distinct vs) rest_distinct) m

      other_number : v.number ≡ w.number → ⊥
      other_number = eqb-false _ _ (not-true (eqb v.number w.number) (left _ _ are_apart))

      other_spelling : v.spelling ≡ w.spelling → ⊥
      other_spelling = not_one_list _ _ (not-true (equal v.spelling w.spelling) (right (not (eqb v.number w.number)) _ are_apart))

  found : (vs : List Word) → distinct vs ≡ true → (w : Word) → Memᴰ w vs → s ≡ w.spelling → number_in vs s ≡ w.number
  found [] d w m e = absurd (Memᴰ.not-nil m)
  found (v ∷ vs) d w (Memᴰ.head p) e =
      by_first v vs (λ q is. is ∙ ap (λ (x : Word). x.number) (sym p)) (λ n is. absurd (n (e ∙ ap (λ (x : Word). x.spelling) p)))
  found (v ∷ vs) d w (Memᴰ.tail m) e =
      by_first v vs (λ q is. absurd (other_spelling v vs d w m (sym q ∙ e))) (λ n is. is ∙ found vs (others v vs d) w m e)

  only : (vs : List Word) → distinct vs ≡ true → (w : Word) → Memᴰ w vs → number_in vs s ≡ w.number → s ≡ w.spelling
  only [] d w m e = absurd (Memᴰ.not-nil m)
  only (v ∷ vs) d w (Memᴰ.head p) e =
      by_first v vs (λ q is. q ∙ ap (λ (x : Word). x.spelling) (sym p))
      (λ n is. absurd (elsewhere vs v.number (numbered v vs d) (other_number v vs d) (sym is ∙ e ∙ ap (λ (x : Word). x.number) p)))
  only (v ∷ vs) d w (Memᴰ.tail m) e =
      by_first v vs (λ q is. absurd (other_number v vs d w m (sym is ∙ e))) (λ n is. only vs (others v vs d) w m (sym is ∙ e))

  some_number : (vs : List Word) → distinct vs ≡ true → (w : Word) → Memᴰ w vs → w.number ≡ NO_WORD → ⊥
  some_number [] d w m e = Memᴰ.not-nil m
  some_number (v ∷ vs) d w (Memᴰ.head p) e = numbered v vs d (ap (λ (x : Word). x.number) (sym p) ∙ e)
  some_number (v ∷ vs) d w (Memᴰ.tail m) e = some_number vs (others v vs d) w m e

words_distinct : distinct words ≡ true
unfolding words
words_distinct = refl

pub spells : (s : List ℕ) (w : Word) → Memᴰ w words → (word_of s ≡ w.number) ↔ (map upper_of s ≡ w.spelling)
unfolding word_of
spells s w m = (only (map upper_of s) words words_distinct w m, found (map upper_of s) words words_distinct w m)

pub spells_none : (s : List ℕ) → (word_of s ≡ NO_WORD) ↔ ((w : Word) → Memᴰ w words → map upper_of s ≡ w.spelling → ⊥)
unfolding word_of
spells_none s = (
  (λ e w m p. some_number (map upper_of s) words words_distinct w m (sym (found (map upper_of s) words words_distinct w m p) ∙ e)),
  none (map upper_of s) words,
)

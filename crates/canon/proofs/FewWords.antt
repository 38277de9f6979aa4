-- The words written for legal join words: at most two, join words, with the same flags (few_words). By one test of all sequences. Assumes nothing.
use mathlib.Core.Bool.{true, Bool}
use mathlib.Core.List.{List, [], ◌∷◌, ◌++◌}
use mathlib.Core.Path.{◌≡◌, refl}
use Prim.Native.Nat.{ℕ, zero, suc}
use lib.Dec.{eqb, leb}
use lib.ListN.{length}
use native.Mathlib.Omega.{arith}
use Rattle.theory.specs.Table.{pick, both, mem}
use Rattle.theory.proofs.Cases.{by_bool, 0≢1, both_l, both_r, eqb_eq, leb_le}
use Rattle.theory.proofs.Tested.{allb}
use Rattle.words.specs.Words.{words, NO_WORD}
use Rattle.words.specs.Flags.{flags_of, legal}
use Rattle.words.specs.Sequences.{united_all}
use Rattle.words.specs.Fewest.{endings, ending_of, fewest_of, present, words_of}
use Rattle.canon.proofs.Says.{all_words}
use Rattle.canon.proofs.Lines.{all_in}

abbrev seven : List ℕ
seven = 1 ∷ 2 ∷ 3 ∷ 4 ∷ 5 ∷ 6 ∷ 7 ∷ []

abbrev pub is_word : ℕ → Bool
is_word w = both (leb 1 w) (leb w 7)

seven_mem : (a : ℕ) → is_word a ≡ true → mem a seven ≡ true
unfolding mem pick both
seven_mem zero e = 0≢1 e
seven_mem (suc zero) e = refl
seven_mem (suc (suc zero)) e = refl
seven_mem (suc (suc (suc zero))) e = refl
seven_mem (suc (suc (suc (suc zero)))) e = refl
seven_mem (suc (suc (suc (suc (suc zero))))) e = refl
seven_mem (suc (suc (suc (suc (suc (suc zero)))))) e = refl
seven_mem (suc (suc (suc (suc (suc (suc (suc zero))))))) e = refl
seven_mem (suc (suc (suc (suc (suc (suc (suc (suc n)))))))) e =
    absurd (let a : ℕ = suc (suc (suc (suc (suc (suc (suc (suc n))))))) in let h = leb_le a 7 (both_r (leb 1 a) (leb a 7) e) in omega arith)

-- the words written for flags
abbrev pub written_words : ℕ → List ℕ
written_words f = words_of (fewest_of f)

unfoldable passes : List ℕ → Bool
passes s = pick (legal (united_all s)) (both (eqb (united_all (written_words (united_all s))) (united_all s)) (all_words (written_words (united_all s)))) (λ w. true)

one_tested : allb (λ a. passes (a ∷ [])) seven ≡ true
unfolding passes pick both allb all_words words flags_of endings ending_of fewest_of
one_tested = refl

two_tested : allb (λ a. allb (λ b. passes (a ∷ b ∷ [])) seven) seven ≡ true
unfolding passes pick both allb all_words words flags_of endings ending_of fewest_of
two_tested = refl

three_tested : allb (λ a. allb (λ b. allb (λ d. passes (a ∷ b ∷ d ∷ [])) seven) seven) seven ≡ true
unfolding passes pick both allb all_words words flags_of endings ending_of fewest_of
three_tested = refl

all_pass : (a : ℕ) (ws : List ℕ) → is_word a ≡ true → all_words ws ≡ true → leb (length ws) 2 ≡ true → passes (a ∷ ws) ≡ true
unfolding all_words
all_pass a [] h e l = all_in (λ a. passes (a ∷ [])) seven a one_tested (seven_mem a h)
all_pass a (b ∷ []) h e l = all_in (λ b. passes (a ∷ b ∷ [])) seven b (all_in (λ a. allb (λ b. passes (a ∷ b ∷ [])) seven) seven a two_tested (seven_mem a h)) (seven_mem b (both_l (is_word b) true e))
all_pass a (b ∷ (d ∷ [])) h e l =
    all_in (λ d. passes (a ∷ b ∷ d ∷ [])) seven d
    (all_in (λ b. allb (λ d. passes (a ∷ b ∷ d ∷ [])) seven) seven b
    (all_in (λ a. allb (λ b. allb (λ d. passes (a ∷ b ∷ d ∷ [])) seven) seven) seven a three_tested (seven_mem a h)) (seven_mem b (both_l (is_word b) _ e)))
    (seven_mem d (both_l (is_word d) true (both_r (is_word b) _ e)))
all_pass a (b ∷ (d ∷ (g ∷ ws))) h e l = absurd (let x = leb_le (length (b ∷ (d ∷ (g ∷ ws)))) 2 l in omega arith)

pub data Short : List ℕ → Type 0 where
  none_written : Short []
  one_written : (a : ℕ) → Short (a ∷ [])
  two_written : (a b : ℕ) → Short (a ∷ b ∷ [])

short : (a b : ℕ) → Short (present a ++ present b)
short a b = by_bool (eqb a NO_WORD) (λ e. rw e (by_bool (eqb b NO_WORD) (λ h. rw h none_written) (λ h. rw h (one_written b)))) (λ e. rw e (by_bool (eqb b NO_WORD) (λ h. rw h (one_written a)) (λ h. rw h (two_written a b))))

pub record Few (f : ℕ) : Type 0 where
  pub brief : Short (written_words f)
  pub same : united_all (written_words f) ≡ f
  pub fit : all_words (written_words f) ≡ true

pub few_words : (a : ℕ) (ws : List ℕ) → is_word a ≡ true → all_words ws ≡ true → leb (length ws) 2 ≡ true → legal (united_all (a ∷ ws)) ≡ true → Few (united_all (a ∷ ws))
unfolding passes pick
few_words a ws h e l g =
    let f : ℕ = united_all (a ∷ ws) in
    let p : both (eqb (united_all (written_words f)) f) (all_words (written_words f)) ≡ true = rw g at (all_pass a ws h e l) in
    record { brief = short (fewest_of f).first (fewest_of f).second; same = eqb_eq (united_all (written_words f)) f (both_l (eqb (united_all (written_words f)) f) _ p); fit = both_r (eqb (united_all (written_words f)) f) _ p }

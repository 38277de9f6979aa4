-- The join words: their numbers, spellings and flags, and the number that bytes have.
use Rattle.std.specs.Prelude.{Bool, true, false, cond, ◌&&◌, List, [], ◌∷◌, map, ℕ, ◌-◌, leb, eqb}
use Rattle.words.specs.Letters.{A, C, E, F, G, H, I, L, N, O, R, S, T, U, small_a, small_z}

-- "Words, numbers and flags: CROSS 1, 3; FULL 2, 56; INNER 3, 1; LEFT 4, 40; NATURAL 5, 4; RIGHT 6, 48; OUTER 7, 32."
abbrev pub CROSS : ℕ
CROSS = 1

abbrev pub FULL : ℕ
FULL = 2

abbrev pub INNER : ℕ
INNER = 3

abbrev pub LEFT : ℕ
LEFT = 4

abbrev pub NATURAL : ℕ
NATURAL = 5

abbrev pub RIGHT : ℕ
RIGHT = 6

abbrev pub OUTER : ℕ
OUTER = 7

pub record Word : Type 0 where
  pub number : ℕ
  pub spelling : List ℕ
  pub flags : ℕ

unfoldable pub words : List Word
words =
    record { number = CROSS; spelling = C ∷ R ∷ O ∷ S ∷ S ∷ []; flags = 3 } ∷
    record { number = FULL; spelling = F ∷ U ∷ L ∷ L ∷ []; flags = 56 } ∷
    record { number = INNER; spelling = I ∷ N ∷ N ∷ E ∷ R ∷ []; flags = 1 } ∷
    record { number = LEFT; spelling = L ∷ E ∷ F ∷ T ∷ []; flags = 40 } ∷
    record { number = NATURAL; spelling = N ∷ A ∷ T ∷ U ∷ R ∷ A ∷ L ∷ []; flags = 4 } ∷
    record { number = RIGHT; spelling = R ∷ I ∷ G ∷ H ∷ T ∷ []; flags = 48 } ∷
    record { number = OUTER; spelling = O ∷ U ∷ T ∷ E ∷ R ∷ []; flags = 32 } ∷
    []

-- where a word may stand and none does
abbrev pub NO_WORD : ℕ
NO_WORD = 0

-- "A leaf takes bytes to a word's number, with the seven words compared without regard to ASCII case; any other bytes give 0."
abbrev pub upper_of : ℕ → ℕ
upper_of b = cond (leb small_a b && leb b small_z) (b - (small_a - A)) b

abbrev pub equal : List ℕ → List ℕ → Bool
equal [] [] = true
equal [] (y ∷ ys) = false
equal (x ∷ xs) [] = false
equal (x ∷ xs) (y ∷ ys) = eqb x y && equal xs ys

abbrev pub number_in : List Word → List ℕ → ℕ
number_in [] s = NO_WORD
number_in (w ∷ ws) s = cond (equal s w.spelling) w.number (number_in ws s)

unfoldable pub word_of : List ℕ → ℕ
word_of s = number_in words (map upper_of s)

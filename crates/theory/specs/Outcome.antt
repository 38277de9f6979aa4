-- The outcome of a list of tokens, by what the grammar derives and by a judge's words on finished trees alone. Definitions only.
use Rattle.std.specs.Prelude.{List, [], ◌∷◌, ◌++◌, ◌⊎◌, ◌≡◌, ℕ, ◌<◌, length}
use Rattle.theory.specs.Trees.{Tok, Nt, Row, Tree, nil, add, toks, Gram}
use Rattle.theory.specs.Derives.{Ok, Derives, Begins}
use Rattle.theory.specs.Judged.{faults_of, AllZero}

-- what a reader finds: a tree, the place after it and the tokens from there; or a refusal's number and place
pub data Ans : Type 0 where
  got : Tree → ℕ → List Tok → Ans
  refused : ℕ → ℕ → Ans

module _ (Ctx : Type 0) (under : Row → Tree → Tok → Tree → Ctx → Ctx) (judge : Ctx → Row → Tree → Tok → Tree → ℕ) (G : Gram) (c : Ctx) (S : Nt) where
  -- x is a command that begins with us
  abbrev pub Starts : Tree → List Tok → Type 0
  Starts x us = (q : Row) × (w : List Tok) × Ok G S q x × (toks x ≡ us ++ w)

  -- the judge has no word on the first p tokens of x
  abbrev pub Clean : Tree → ℕ → Type 0
  Clean x p = (a : List ℕ) × (b : List ℕ) × (faults_of Ctx under judge c x ≡ a ++ b) × (length a ≡ p) × AllZero a

  -- the judge's first word on x is m, at place p
  abbrev pub FirstFault : Tree → ℕ → ℕ → Type 0
  FirstFault x p m = (a : List ℕ) × (b : List ℕ) × (faults_of Ctx under judge c x ≡ a ++ (m ∷ b)) × (length a ≡ p) × AllZero a × (0 < m)

  -- 3: some command begins with the tokens before place p, with no word on them; none begins so with the token there too
  abbrev pub Cannot : List Tok → ℕ → Type 0
  Cannot ts p = (us : List Tok) × (u : Tok) × (vs : List Tok) × (x : Tree) × (ts ≡ us ++ (u ∷ vs)) × (p ≡ length us)
      × Starts x us × Clean x p × (¬ Begins G S (us ++ (u ∷ [])))

  -- 4: some command begins with the tokens, with no word on them; they are none
  abbrev pub Unfinished : List Tok → ℕ → Type 0
  Unfinished ts p = (x : Tree) × (p ≡ length ts) × Starts x ts × Clean x p × ((y : Tree) → ¬ Derives G S ts y)

  -- m: some command begins with the tokens up to and with place p, and the judge's first word on it is m, there
  abbrev pub Faulty : List Tok → ℕ → ℕ → Type 0
  Faulty ts m p = (us : List Tok) × (u : Tok) × (vs : List Tok) × (x : Tree) × (ts ≡ us ++ (u ∷ vs)) × (p ≡ length us)
      × Starts x (us ++ (u ∷ [])) × FirstFault x p m

  abbrev pub Outcome : List Tok → Ans → Type 0
  Outcome ts (got k n us) = (x : Tree) × (k ≡ add nil x) × (n ≡ length ts) × (us ≡ []) × Derives G S ts x × AllZero (faults_of Ctx under judge c x)
  Outcome ts (refused m p) = ((m ≡ 3) × Cannot ts p) ⊎ (((m ≡ 4) × Unfinished ts p) ⊎ Faulty ts m p)

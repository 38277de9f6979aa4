-- What a grammar must keep for the machine to be right: LL(1), said once. Follow A c k: a kind k may come after what stands for A and
-- leaves c. follows: after a part there may come only what Follow allows; stops, leaves: what follows goes on from nothing before it and
-- begins no absent part; least: every part has a shortest form. Definitions, and what a row and a suffix are. Assumes nothing.
use mathlib.Core.Bool.{true}
use mathlib.Core.List.{List, [], ◌∷◌}
use mathlib.Core.Logic.{◌⊎◌}
use mathlib.Core.Option.{some, none}
use mathlib.Core.Path.{◌≡◌}
use Prim.Native.Nat.{ℕ, min}
use Rattle.theory.specs.Trees.{Tok, Nt, Item, lit, nt, Row, Tree, Gram}
use Rattle.theory.specs.Derives.{Opens, head, tail, Part, begin, token, absent, child}

module _ (G : Gram) where
  pub data RowOf : Nt → Row → Type 0 where
    enters : {A : Nt} {k : ℕ} {r : Row} → G.enter A k ≡ some r → RowOf A r
    continues : {A : Nt} {c k : ℕ} {q r : Row} → G.cont A q c k ≡ some r → RowOf A r

  pub row_of : {A : Nt} {l : Tree} {t : Tok} {r : Row} → Opens G A l t r → RowOf A r
  row_of (head e) = enters e
  row_of (tail o p e) = continues e

  -- the kinds that `is`, and after it what K allows, begin with, where the part before `is` leaves c; an absent part leaves all
  abbrev pub Firsts : List Item → ℕ → (ℕ → ℕ → Type 0) → ℕ → Type 0
  Firsts [] c K k = K c k
  Firsts (lit d ∷ is) c K k = d ≡ k
  Firsts (nt B ∷ is) c K k = ((r : Row) × (G.enter B k ≡ some r)) ⊎ ((G.nullable B ≡ true) × Firsts is 99 K k)

  pub data Suffix : List Item → List Item → Type 0 where
    all : {is : List Item} → Suffix is is
    more : {i : Item} {is full : List Item} → Suffix is full → Suffix is (i ∷ full)

  less : {i : Item} {is full : List Item} → Suffix (i ∷ is) full → Suffix is full
  less all = more all
  less (more s) = more (less s)

  -- something that B derives, if B may not be absent
  abbrev pub Least : Nt → Type 0
  Least B = (G.nullable B ≡ true) ⊎ ((q : Row) × (l : Tree) × (s : Tok) × (g : Tree) × Opens G B l s q × Part G q.items [] g)

  module _ (Follow : Nt → ℕ → ℕ → Type 0) where
    -- after a row of A whose children leave c
    abbrev pub After : Nt → Row → ℕ → ℕ → Type 0
    After A r c k = ((q : Row) × (G.cont A r c k ≡ some q)) ⊎ Follow A (min r.cap c) k

    pub record Laws (S : Nt) : Type 0 where
      pub ends : (c : ℕ) → Follow (S) c G.eof
      pub any : (q : Row) × (l : Tree) × (s : Tok) × (g : Tree) × Opens G (S) l s q × Part G q.items [] g
      pub stops : (A : Nt) (c k : ℕ) (r : Row) → Follow A (min r.cap c) k → G.cont A r c k ≡ none
      pub leaves : (B : Nt) (k : ℕ) → G.nullable B ≡ true → Follow B 99 k → G.enter B k ≡ none
      pub follows : (A : Nt) (r : Row) → RowOf A r → (B : Nt) (is : List Item) (c k : ℕ)
          → Suffix (nt B ∷ is) r.items → Firsts is c (After A r) k → Follow B c k
      pub least : (A : Nt) (r : Row) → RowOf A r → (B : Nt) (is : List Item) → Suffix (nt B ∷ is) r.items → Least B

  pub part_suffix : {full rest : List Item} {f : Tree} → Part G full rest f → Suffix rest full
  part_suffix begin = all
  part_suffix (token p e) = less (part_suffix p)
  part_suffix (absent p e) = less (part_suffix p)
  part_suffix (child p o g) = less (part_suffix p)

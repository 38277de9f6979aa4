-- fill: every state that the machine comes to can be completed, to a command that begins with what was read. Assumes nothing beside the laws.
use mathlib.Core.List.{List, [], ◌∷◌, ◌++◌, append_assoc, append-nil}
use mathlib.Core.Logic.{inl, inr}
use mathlib.Core.Path.{◌≡◌, refl, sym, ap, ◌∙◌, subst}
use Prim.Native.Nat.{ℕ}
use Rattle.theory.specs.Trees.{Tok, Nt, Item, lit, nt, Row, Tree, nil, add, leaf, node, toks, Gram}
use Rattle.theory.specs.Derives.{Opens, Part, token, absent, child, Ok, whole, Begins}
use Rattle.theory.proofs.Machine.{Frame, fr}
use Rattle.theory.proofs.Laws.{row_of, Suffix, Least, Laws, part_suffix}
use Rattle.theory.proofs.Sound.{before, Up, Inv}

regroup : (a b c : List Tok) (t : Tok) (f k v y : List Tok) → f ≡ k ++ v
    → a ++ (b ++ (c ++ (t ∷ f))) ++ y ≡ a ++ (b ++ (c ++ (t ∷ []))) ++ k ++ (v ++ y)
regroup a b c t f k v y e = rw e (simp append_assoc)

module _ (G : Gram) (S : Nt) where
  fill_part : (full is : List Item) (f : Tree) → ((B : Nt) (rest : List Item) → Suffix G (nt B ∷ rest) full → Least G B)
      → Part G full is f → (x : Tree) × (w : List Tok) × Part G full [] x × (toks x ≡ toks f ++ w)
  unfolding toks
  fill_part full [] f h p = (f, [], p, sym (append-nil (toks f)))
  fill_part full (lit c ∷ is) f h p =
      let u : Tok = record { kind = c; text = 0 } in
      let z = fill_part full is (add f (leaf u)) h (token p refl) in
      (z.0, u ∷ z.1, z.2, z.3 ∙ append_assoc (toks f) (u ∷ []) z.1)
  fill_part full (nt B ∷ is) f h p = elim (h B is (part_suffix G p)) [
    | inl n ↦ let z = fill_part full is (add f nil) h (absent p n) in
        (z.0, z.1, z.2, z.3 ∙ append_assoc (toks f) [] z.1)
    | inr m ↦ let z = fill_part full is (add f (node m.0 m.1 m.2 m.3)) h (child p m.4 m.5) in
        (z.0, toks (node m.0 m.1 m.2 m.3) ++ z.1, z.2, z.3 ∙ append_assoc (toks f) (toks (node m.0 m.1 m.2 m.3)) z.1)
  ]

  module _ (Follow : Nt → ℕ → ℕ → Type 0) (laws : Laws G Follow S) where
    fill_up : (fs : List Frame) (A : Nt) (pk l : Tree) (t : Tok) (r : Row) (k : Tree)
        → Up G S fs A pk → Opens G A l t r → Part G r.items [] k → Begins G S (before fs ++ (toks pk ++ toks (node r l t k)))
    unfolding before toks
    fill_up [] A pk l t r k up o p =
        (r, node r l t k, [], subst (λ z. Ok G z r (node r l t k)) up.0 (whole o p), rw up.1 (sym (append-nil (toks l ++ (t ∷ toks k)))))
    fill_up (fr A' r' l' t' is' pk' ∷ fs) A pk l t r k up o p =
        let z = fill_part r'.items is' (add pk (node r l t k)) (λ B rest s. laws.least A' r' (row_of G up.0) B rest s) (child up.1 o p) in
        let y = fill_up fs A' pk' l' t' r' z.0 up.2 up.0 z.2 in
        (y.0, y.1, z.1 ++ y.2, y.3, y.4 ∙ regroup (before fs) (toks pk') (toks l') t' (toks z.0) (toks pk ++ (toks l ++ (t ∷ toks k))) z.1 y.2 z.3)

    pub fill : (k : Tree) (fs : List Frame) → Inv G S k fs → Begins G S (before fs ++ toks k)
    unfolding before toks
    fill k [] i = (i.0, i.1, [], i.2, sym (append-nil (toks k) ∙ ap toks i.3))
    fill k (fr A r l t is pk ∷ fs) i =
        let z = fill_part r.items is k (λ B rest s. laws.least A r (row_of G i.0) B rest s) i.1 in
        let y = fill_up fs A pk l t r z.0 i.2 i.0 z.2 in
        (y.0, y.1, z.1 ++ y.2, y.3, y.4 ∙ regroup (before fs) (toks pk) (toks l) t (toks z.0) (toks k) z.1 y.2 z.3)

-- complete: what the grammar derives the machine reads, with that tree, if the grammar has the laws. Assumes nothing beside them.
use mathlib.Core.Bool.{true}
use mathlib.Core.List.{List, [], ◌∷◌, ◌++◌, append_assoc, append-nil}
use mathlib.Core.Logic.{inl, inr}
use mathlib.Core.Option.{some, none}
use mathlib.Core.Path.{◌≡◌, refl, sym, ap, ◌∙◌}
use Prim.Native.Nat.{ℕ, min}
use Rattle.theory.specs.Trees.{Tok, Nt, Item, lit, nt, Row, Tree, nil, add, leaf, node, toks, cap_of, Gram}
use Rattle.theory.specs.Derives.{Opens, head, tail, Part, begin, token, absent, child, Ok, whole}
use Rattle.theory.specs.Table.{on_row}
use Rattle.theory.proofs.Machine.{End, Frame, fr, idle, go, done, on_bool, on_fed, feed, step, next, run}
use Rattle.theory.proofs.Cases.{eqb-true}
use Rattle.theory.proofs.Laws.{row_of, Firsts, Suffix, After, Laws, part_suffix}

module _ (G : Gram) where
  module _ (A : Nt) (r : Row) (left : Tree) (t : Tok) (pk : Tree) (fs : List Frame) (f : Tree) (u : Tok) where
    pub step_lit : (c : ℕ) (is : List Item) → c ≡ u.kind
        → step G f (fr A r left t (lit c ∷ is) pk ∷ fs) u ≡ go (add f (leaf u)) (fr A r left t is pk ∷ fs)
    unfolding step feed on_fed on_bool
    step_lit c is e = rw (eqb-true c u.kind e)

    pub step_absent : (B : Nt) (is : List Item) → G.enter B u.kind ≡ none → G.nullable B ≡ true
        → step G f (fr A r left t (nt B ∷ is) pk ∷ fs) u ≡ step G (add f nil) (fr A r left t is pk ∷ fs) u
    unfolding step feed on_fed on_bool on_row
    step_absent B is e n = rw (e, n)

    pub step_enter : (B : Nt) (is : List Item) (q : Row) → G.enter B u.kind ≡ some q
        → step G f (fr A r left t (nt B ∷ is) pk ∷ fs) u ≡ go nil (fr B q nil u q.items f ∷ fr A r left t is pk ∷ fs)
    unfolding step feed on_fed on_row
    step_enter B is q e = rw e

    pub step_cont : (q : Row) → G.cont A r (cap_of f) u.kind ≡ some q
        → step G f (fr A r left t [] pk ∷ fs) u ≡ go nil (fr A q (node r left t f) u q.items pk ∷ fs)
    unfolding step feed on_fed on_row
    step_cont q e = rw e

    pub step_pop : G.cont A r (cap_of f) u.kind ≡ none
        → step G f (fr A r left t [] pk ∷ fs) u ≡ step G (add pk (node r left t f)) fs u
    unfolding step feed on_fed on_row
    step_pop e = rw e

  pub opens_first : {B : Nt} {l : Tree} {s : Tok} {q : Row} → Opens G B l s q → (us : List Tok)
      → (v : Tok) × (vs : List Tok) × (toks l ++ (s ∷ us) ≡ v ∷ vs) × ((r : Row) × (G.enter B v.kind ≡ some r))
  unfolding toks
  opens_first {s = s} {q = q} (head e) us = (s, us, refl, (q, e))
  opens_first {s = s} (tail {l = l} {s = s2} {f = f} o p e) us =
      let w = opens_first o (toks f ++ (s ∷ us)) in
      (w.0, w.1, append_assoc (toks l) (s2 ∷ toks f) (s ∷ us) ∙ w.2, w.3)

  module _ (S : Nt) (Follow : Nt → ℕ → ℕ → Type 0) (laws : Laws G Follow S) where
    abbrev Hyp : Nt → Row → List Item → Type 0
    Hyp A r full = (B : Nt) (is : List Item) (c k : ℕ) → Suffix G (nt B ∷ is) full → Firsts G is c (After G Follow A r) k → Follow B c k

    mutual
      unfolding toks run next cap_of

      pub c_opens : {B : Nt} {l : Tree} {s : Tok} {q : Row} → Opens G B l s q
          → (A : Nt) (r : Row) (left : Tree) (t : Tok) (is : List Item) (pk : Tree) (fs : List Frame) (f : Tree) (us : List Tok)
          → run G S (go f (fr A r left t (nt B ∷ is) pk ∷ fs)) (toks l ++ (s ∷ us))
          ≡ run G S (go nil (fr B q l s q.items f ∷ fr A r left t is pk ∷ fs)) us
      c_opens {B} {s = s} {q = q} (head e) A r left t is pk fs f us = ap (λ z. run G S z us) (step_enter A r left t pk fs f s B is q e)
      c_opens {B} {s = s} {q = q} (tail {l = l2} {s = s2} {q = q2} {f = f2} o p e) A r left t is pk fs f us =
          ap (run G S (go f (fr A r left t (nt B ∷ is) pk ∷ fs))) (append_assoc (toks l2) (s2 ∷ toks f2) (s ∷ us))
          ∙ c_opens o A r left t is pk fs f (toks f2 ++ (s ∷ us))
          ∙ c_part p B q2 l2 s2 f (fr A r left t is pk ∷ fs) s us (laws.follows B q2 (row_of G o)) (inl (q, e))
          ∙ ap (λ z. run G S z us) (step_cont B q2 l2 s2 f (fr A r left t is pk ∷ fs) f2 s q e)

      pub c_part : {full rest : List Item} {f : Tree} → Part G full rest f
          → (A : Nt) (r : Row) (left : Tree) (t : Tok) (pk : Tree) (fs : List Frame) (u : Tok) (us : List Tok)
          → Hyp A r full → Firsts G rest (cap_of f) (After G Follow A r) u.kind
          → run G S (go nil (fr A r left t full pk ∷ fs)) (toks f ++ (u ∷ us))
          ≡ run G S (go f (fr A r left t rest pk ∷ fs)) (u ∷ us)
      c_part begin A r left t pk fs u us h n = refl
      c_part {full} {rest} (token {f = f} {c = c} {u = v} p e) A r left t pk fs u us h n =
          ap (run G S (go nil (fr A r left t full pk ∷ fs))) (append_assoc (toks f) (v ∷ []) (u ∷ us))
          ∙ c_part p A r left t pk fs v (u ∷ us) h e
          ∙ ap (λ z. run G S z (u ∷ us)) (step_lit A r left t pk fs f v c rest e)
      c_part {full} {rest} (absent {f = f} {B = B} p e) A r left t pk fs u us h n =
          ap (λ z. run G S (go nil (fr A r left t full pk ∷ fs)) (z ++ (u ∷ us))) (append-nil (toks f))
          ∙ c_part p A r left t pk fs u us h (inr (e, n))
          ∙ ap (λ z. run G S z us) (step_absent A r left t pk fs f u B rest
          (laws.leaves B u.kind e (h B rest 99 u.kind (part_suffix G p) n)) e)
      c_part {full} {rest} (child {f = f} {B = B} {q = q} {l = l} {s = s} {g = g} p o pg) A r left t pk fs u us h n =
          let w = opens_first o (toks g ++ (u ∷ us)) in
          ap (run G S (go nil (fr A r left t full pk ∷ fs)))
          (append_assoc (toks f) (toks l ++ (s ∷ toks g)) (u ∷ us) ∙ ap (λ z. toks f ++ z) (append_assoc (toks l) (s ∷ toks g) (u ∷ us) ∙ w.2))
          ∙ c_part p A r left t pk fs w.0 w.1 h (inl w.3)
          ∙ ap (run G S (go f (fr A r left t (nt B ∷ rest) pk ∷ fs))) (sym w.2)
          ∙ c_opens o A r left t rest pk fs f (toks g ++ (u ∷ us))
          ∙ c_part pg B q l s f (fr A r left t rest pk ∷ fs) u us (laws.follows B q (row_of G o)) (inr (h B rest (min q.cap (cap_of g)) u.kind (part_suffix G p) n))
          ∙ ap (λ z. run G S z us) (step_pop B q l s f (fr A r left t rest pk ∷ fs) g u
          (laws.stops B (cap_of g) u.kind q (h B rest (min q.cap (cap_of g)) u.kind (part_suffix G p) n)))

    c_root : {l : Tree} {s : Tok} {q : Row} → Opens G S l s q → (us : List Tok)
        → run G S idle (toks l ++ (s ∷ us)) ≡ run G S (go nil (fr S q l s q.items nil ∷ [])) us
    unfolding toks run next on_row
    c_root (head e) us = rw e
    c_root {s = s} {q = q} (tail {l = l2} {s = s2} {q = q2} {f = f2} o p e) us =
        ap (run G S idle) (append_assoc (toks l2) (s2 ∷ toks f2) (s ∷ us))
        ∙ c_root o (toks f2 ++ (s ∷ us))
        ∙ c_part p S q2 l2 s2 nil [] s us (laws.follows S q2 (row_of G o)) (inl (q, e))
        ∙ ap (λ z. run G S z us) (step_cont S q2 l2 s2 nil [] f2 s q e)

    pub complete : {q : Row} {x : Tree} → Ok G S q x → run G S idle (toks x ++ (End G ∷ [])) ≡ done (add nil x)
    unfolding toks run next step on_bool
    complete {q = q} (whole {l = l} {t = t} {f = f} o p) =
        ap (run G S idle) (append_assoc (toks l) (t ∷ toks f) (End G ∷ []))
        ∙ c_root o (toks f ++ (End G ∷ []))
        ∙ c_part p S q l t nil [] (End G) [] (laws.follows S q (row_of G o)) (inr (laws.ends (min q.cap (cap_of f))))
        ∙ step_pop S q l t nil [] f (End G) (laws.stops S (cap_of f) G.eof q (laws.ends (min q.cap (cap_of f))))
        ∙ rw (eqb-true G.eof G.eof refl)

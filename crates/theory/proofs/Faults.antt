-- The words that the machine meets, token by token, are those on the finished tree. faults_read: of a command. faults_begun: of
-- tokens that begin a command the machine meets the first words of every command that begins so. Assumes nothing beside the laws.
use mathlib.Core.List.{List, [], ◌∷◌, ◌++◌, append_assoc, append-nil}
use mathlib.Core.Path.{◌≡◌, refl, sym, ap, ◌∙◌}
use Prim.Native.Nat.{ℕ, suc}
use lib.Dec.{eqb}
use lib.ListN.{length}
use Rattle.theory.specs.Trees.{Tok, Nt, Item, lit, nt, Row, Tree, nil, add, leaf, node, toks, cap_of, Gram}
use Rattle.theory.specs.Table.{on_row}
use Rattle.theory.specs.Derives.{Ok}
use Rattle.theory.specs.Judged.{faults_in, faults_kids, faults_of}
use Rattle.theory.proofs.Machine.{End, Frame, fr, Res, idle, go, done, stop, Fed, shift, push, thru, bad, on_fed, feed, step, next, run}
use Rattle.theory.proofs.Cases.{on_bool_case, on_row_case}
use Rattle.theory.proofs.Laws.{Laws}
use Rattle.theory.proofs.Complete.{complete}
use Rattle.theory.proofs.Right.{snoc_inj}
use Rattle.theory.proofs.Descend.{sum, fault}
use Rattle.theory.proofs.Scan.{fault_of, faults}

module _ (Ctx : Type 0) (under : Row → Tree → Tok → Tree → Ctx → Ctx) (judge : Ctx → Row → Tree → Tok → Tree → ℕ) where
  module _ (G : Gram) (c : Ctx) where
    -- the words on the command that was read, if it was
    top : Tree → List ℕ
    top nil = []
    top (add f x) = top f ++ faults_in Ctx under judge x c 0
    top (leaf u) = []
    top (node q m u f) = []

    -- the words on what the frames, and the children k of the top one, have read
    said : Tree → List Frame → List ℕ
    said k [] = top k
    said k (fr A r l t is pk ∷ fs) = said pk fs ++ (faults_in Ctx under judge l (sum G Ctx under judge c pk fs) 0
        ++ (judge (sum G Ctx under judge c pk fs) r l t nil ∷ faults_kids Ctx under judge k (sum G Ctx under judge c pk fs) r l t))

    abbrev Good : List ℕ → Res → Type 0
    Good w idle = [] ≡ w
    Good w (go k fs) = said k fs ≡ w
    Good w (done k) = said k [] ++ (0 ∷ []) ≡ w
    Good w stop = Unit {0}

    -- what a step has read: the words before, and the word on its token
    abbrev Adds : List ℕ → Res → Type 0
    Adds w r = Good (w ++ (fault_of G Ctx under judge c r ∷ [])) r

    -- a node is one child more
    said_add : (pk : Tree) (fs : List Frame) (r : Row) (l : Tree) (t : Tok) (k : Tree)
        → said (add pk (node r l t k)) fs ≡ said pk fs ++ faults_in Ctx under judge (node r l t k) (sum G Ctx under judge c pk fs) 0
    unfolding said top faults_in faults_kids sum
    said_add pk [] r l t k = refl
    said_add pk (fr A' r' l' t' is' pk' ∷ fs) r l t k = simp append_assoc

    abbrev FedSaid : Ctx → Row → Tree → Tok → List ℕ → Tok → Fed → Type 0
    FedSaid d r l t w u (shift k is) = (a : Tree) × (k ≡ add a (leaf u)) × (faults_kids Ctx under judge a d r l t ≡ w)
    FedSaid d r l t w u (push k is B q) = faults_kids Ctx under judge k d r l t ≡ w
    FedSaid d r l t w u (thru k) = faults_kids Ctx under judge k d r l t ≡ w
    FedSaid d r l t w u bad = Unit {0}

    feed_said : (d : Ctx) (r : Row) (l : Tree) (t : Tok) (w : List ℕ) (kids : Tree) (is : List Item) (u : Tok)
        → faults_kids Ctx under judge kids d r l t ≡ w → FedSaid d r l t w u (feed G kids is u)
    unfolding feed faults_in faults_kids
    feed_said d r l t w kids [] u e = e
    feed_said d r l t w kids (lit x ∷ is) u e = on_bool_case (FedSaid d r l t w u) (eqb x u.kind) _ bad (λ h. (kids, refl, e)) tt
    feed_said d r l t w kids (nt B ∷ is) u e = on_row_case (FedSaid d r l t w u) (G.enter B u.kind) _ _ (λ q h. e)
        (λ h. on_bool_case (FedSaid d r l t w u) (G.nullable B) _ bad (λ n. feed_said d r l t w (add kids nil) is u (append-nil (faults_kids Ctx under judge kids d r l t) ∙ e)) tt)

    step_said : (w : List ℕ) (kids : Tree) (fs : List Frame) (u : Tok) → said kids fs ≡ w → Adds w (step G kids fs u)
    unfolding step on_fed said top fault_of fault sum faults_in faults_kids
    step_said w kids [] u e = on_bool_case (Adds w) (eqb G.eof u.kind) _ stop (λ h. ap (λ z. z ++ (0 ∷ [])) e) tt
    step_said w kids (fr A r l t is pk ∷ fs) u e =
        fed (feed G kids is u) (feed_said d r l t (faults_kids Ctx under judge kids d r l t) kids is u refl) (λ x e'. step_said w x fs u e')
      where
        d : Ctx
        d = sum G Ctx under judge c pk fs

        fed : (z : Fed) → FedSaid d r l t (faults_kids Ctx under judge kids d r l t) u z
            → ((x : Tree) → said x fs ≡ w → Adds w (step G x fs u))
            → Adds w (on_fed z (λ k is'. go k (fr A r l t is' pk ∷ fs))
            (λ k is' B q. go nil (fr B q nil u q.items k ∷ fr A r l t is' pk ∷ fs))
            (λ k. on_row (G.cont A r (cap_of k) u.kind) (λ q. go nil (fr A q (node r l t k) u q.items pk ∷ fs))
            (λ w. step G (add pk (node r l t k)) fs u)))
        fed (shift k is') h rec = rw (h.1, h.2, ← e) (simp append_assoc)
        fed (push k is' B q) h rec = rw (h, ← e) (simp append_assoc)
        fed (thru k) h rec = on_row_case (Adds w) (G.cont A r (cap_of k) u.kind) _ _
            (λ q g. rw (h, ← e) (simp append_assoc))
            (λ g. rec (add pk (node r l t k)) (said_add pk fs r l t k ∙ rw (h, ← e) refl))
        fed bad h rec = tt

    module _ (S : Nt) where
      next_said : (w : List ℕ) (r : Res) (u : Tok) → Good w r → Adds w (next G S r u)
      unfolding next said top fault_of fault sum faults_in faults_kids
      next_said w idle u g = on_row_case (Adds w) (G.enter S u.kind) _ _ (λ q h. rw (← g) refl) (λ h. tt)
      next_said w (go k fs) u g = step_said w k fs u g
      next_said w (done k) u g = tt
      next_said w stop u g = tt

      run_said : (w : List ℕ) (r : Res) (us : List Tok) → Good w r → Good (w ++ faults G Ctx under judge c S r us) (run G S r us)
      unfolding run faults
      run_said w r [] g = rw append-nil g
      run_said w r (u ∷ us) g = rw append_assoc at (run_said (w ++ (fault_of G Ctx under judge c (next G S r u) ∷ [])) (next G S r u) us (next_said w r u g))

      pub faults_append : (r : Res) (us vs : List Tok) → faults G Ctx under judge c S r (us ++ vs) ≡ faults G Ctx under judge c S r us ++ faults G Ctx under judge c S (run G S r us) vs
      unfolding run faults
      faults_append r [] vs = refl
      faults_append r (u ∷ us) vs = ap (λ z. fault_of G Ctx under judge c (next G S r u) ∷ z) (faults_append (next G S r u) us vs)

      pub length_faults : (r : Res) (us : List Tok) → length (faults G Ctx under judge c S r us) ≡ length us
      unfolding faults
      length_faults r [] = refl
      length_faults r (u ∷ us) = ap suc (length_faults (next G S r u) us)

      module _ (Follow : Nt → ℕ → ℕ → Type 0) (laws : Laws G Follow S) where
        pub faults_read : {q : Row} {x : Tree} → Ok G S q x → faults G Ctx under judge c S idle (toks x) ≡ faults_of Ctx under judge c x
        unfolding faults said top faults_of
        faults_read {x = x} o =
            let g : faults_of Ctx under judge c x ++ (0 ∷ []) ≡ faults G Ctx under judge c S idle (toks x ++ (End G ∷ []))
            = rw (complete G S Follow laws o) at (run_said [] idle (toks x ++ (End G ∷ [])) refl) in
            snoc_inj (faults G Ctx under judge c S idle (toks x)) (faults_of Ctx under judge c x) (fault_of G Ctx under judge c (next G S (run G S idle (toks x)) (End G))) 0
            (sym (faults_append idle (toks x) (End G ∷ [])) ∙ sym g)

        pub faults_begun : {q : Row} {x : Tree} (us w : List Tok) → Ok G S q x → toks x ≡ us ++ w
            → faults_of Ctx under judge c x ≡ faults G Ctx under judge c S idle us ++ faults G Ctx under judge c S (run G S idle us) w
        faults_begun us w o e = sym (faults_read o) ∙ ap (faults G Ctx under judge c S idle) e ∙ faults_append idle us w

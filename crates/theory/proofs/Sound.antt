-- sound_run: what the machine has read is the beginning of what its frames derive; at the end, a command. It holds of every grammar.
-- Assumes nothing.
use mathlib.Core.List.{List, [], ◌∷◌, ◌++◌, append_assoc, append-nil}
use mathlib.Core.Option.{some}
use mathlib.Core.Path.{◌≡◌, refl, sym, ap, ◌∙◌, subst}
use lib.Dec.{eqb}
use Rattle.theory.specs.Trees.{Tok, Nt, Item, lit, nt, Row, Tree, nil, add, node, toks, cap_of, Gram}
use Rattle.theory.specs.Derives.{Opens, head, tail, Part, begin, token, absent, child, Ok, whole}
use Rattle.theory.specs.Table.{on_row}
use Rattle.theory.proofs.Machine.{Frame, fr, Res, idle, go, done, stop, Fed, shift, push, thru, bad, on_fed, feed, step, next, run}
use Rattle.theory.proofs.Cases.{on_bool_case, on_row_case, eqb_eq}

-- the tokens that the frames have read
unfoldable pub before : List Frame → List Tok
before [] = []
before (fr A r l t is pk ∷ fs) = before fs ++ (toks pk ++ (toks l ++ (t ∷ [])))

module _ (G : Gram) (S : Nt) where
  -- the frames wait for an A, with the children pk before it
  abbrev pub Up : List Frame → Nt → Tree → Type 0
  Up [] A pk = (A ≡ S) × (pk ≡ nil)
  Up (fr A' r l t is pk' ∷ fs) A pk = Opens G A' l t r × Part G r.items (nt A ∷ is) pk × Up fs A' pk'

  abbrev pub Inv : Tree → List Frame → Type 0
  Inv kids [] = (q : Row) × (x : Tree) × Ok G S q x × (kids ≡ add nil x)
  Inv kids (fr A r l t is pk ∷ fs) = Opens G A l t r × Part G r.items is kids × Up fs A pk

  abbrev pub Good : List Tok → Res → Type 0
  Good w idle = [] ≡ w
  Good w (go k fs) = Inv k fs × (before fs ++ toks k ≡ w)
  Good w (done k) = (q : Row) × (x : Tree) × (e : Tok) × Ok G S q x × (k ≡ add nil x) × (toks x ++ (e ∷ []) ≡ w)
  Good w stop = Unit {0}

  abbrev pub FedOk : List Item → List Tok → Tok → Fed → Type 0
  FedOk full w u (shift k is) = Part G full is k × (toks k ≡ w ++ (u ∷ []))
  FedOk full w u (push k is B r) = Part G full (nt B ∷ is) k × (G.enter B u.kind ≡ some r) × (toks k ≡ w)
  FedOk full w u (thru k) = Part G full [] k × (toks k ≡ w)
  FedOk full w u bad = Unit {0}

  pub feed_sound : (full : List Item) (w : List Tok) (kids : Tree) (is : List Item) (u : Tok)
      → Part G full is kids → toks kids ≡ w → FedOk full w u (feed G kids is u)
  unfolding feed toks
  feed_sound full w kids [] u p e = (p, e)
  feed_sound full w kids (lit c ∷ is) u p e =
      on_bool_case (FedOk full w u) (eqb c u.kind) _ bad (λ h. (token p (eqb_eq c u.kind h), ap (λ z. z ++ (u ∷ [])) e)) tt
  feed_sound full w kids (nt B ∷ is) u p e =
      on_row_case (FedOk full w u) (G.enter B u.kind) _ _ (λ r h. (p, h, e))
      (λ h. on_bool_case (FedOk full w u) (G.nullable B) _ bad
      (λ n. feed_sound full w (add kids nil) is u (absent p n) (append-nil (toks kids) ∙ e)) tt)

  up_inv : {A : Nt} {l : Tree} {t : Tok} {r : Row} {k : Tree} (fs : List Frame) (pk : Tree)
      → Opens G A l t r → Part G r.items [] k → Up fs A pk → Inv (add pk (node r l t k)) fs
  up_inv {l = l} {t = t} {r = r} {k = k} [] pk o p up = (r, node r l t k, subst (λ z. Ok G z r (node r l t k)) up.0 (whole o p), rw up.1)
  up_inv (fr A' r' l' t' is' pk' ∷ fs) pk o p up = (up.0, child up.1 o p, up.2)

  pub sound_step : (w : List Tok) (kids : Tree) (fs : List Frame) (u : Tok)
      → Inv kids fs → before fs ++ toks kids ≡ w → Good (w ++ (u ∷ [])) (step G kids fs u)
  unfolding step on_fed before toks
  sound_step w kids [] u i e = on_bool_case (Good (w ++ (u ∷ []))) (eqb G.eof u.kind) _ stop (λ h. (i.0, i.1, u, i.2, i.3, ap (λ z. z ++ (u ∷ [])) (sym (ap toks i.3) ∙ e))) tt
  sound_step w kids (fr A r l t is pk ∷ fs) u i e =
      fed (feed G kids is u) (feed_sound r.items (toks kids) kids is u i.1 refl) (λ x j e'. sound_step w x fs u j e')
    where
      fed : (z : Fed) → FedOk r.items (toks kids) u z
          → ((x : Tree) → Inv x fs → before fs ++ toks x ≡ w → Good (w ++ (u ∷ [])) (step G x fs u))
          → Good (w ++ (u ∷ [])) (on_fed z (λ k is'. go k (fr A r l t is' pk ∷ fs))
          (λ k is' B q. go nil (fr B q nil u q.items k ∷ fr A r l t is' pk ∷ fs))
          (λ k. on_row (G.cont A r (cap_of k) u.kind) (λ q. go nil (fr A q (node r l t k) u q.items pk ∷ fs))
          (λ w. step G (add pk (node r l t k)) fs u)))
      fed (shift k is') d rec = ((i.0, d.0, i.2), rw (d.1, ← e) (simp append_assoc))
      fed (push k is' B q) d rec = ((head d.1, begin, (i.0, d.0, i.2)), rw (d.2, ← e) (simp (append_assoc, append-nil)))
      fed (thru k) d rec = on_row_case (Good (w ++ (u ∷ []))) (G.cont A r (cap_of k) u.kind) _ _
          (λ q h. ((tail i.0 d.0 h, begin, i.2), rw (d.1, ← e) (simp (append_assoc, append-nil))))
          (λ h. rec (add pk (node r l t k)) (up_inv fs pk i.0 d.0 i.2) (rw (d.1, ← e) (simp append_assoc)))
      fed bad d rec = tt

  pub sound_next : (w : List Tok) (r : Res) (u : Tok) → Good w r → Good (w ++ (u ∷ [])) (next G S r u)
  unfolding next before toks
  sound_next w idle u g = on_row_case (Good (w ++ (u ∷ []))) (G.enter S u.kind) _ _
      (λ q h. ((head h, begin, (refl, refl)), rw (← g) refl)) (λ h. tt)
  sound_next w (go k fs) u g = sound_step w k fs u g.0 g.1
  sound_next w (done k) u g = tt
  sound_next w stop u g = tt

  pub sound_run : (w : List Tok) (r : Res) (us : List Tok) → Good w r → Good (w ++ us) (run G S r us)
  unfolding run
  sound_run w r [] g = rw append-nil g
  sound_run w r (u ∷ us) g = rw append_assoc at (sound_run (w ++ (u ∷ [])) (next G S r u) us (sound_next w r u g))

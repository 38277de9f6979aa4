-- The machine and the grammar say the same. read_derived, derived_read: a tree is read exactly when the grammar derives it.
-- unambiguous: no list has two. cannot_follow, cannot_follow_refused: a token is refused exactly when what stands before it begins a
-- command and with it begins none. unfinished_begins, begins_unfinished: a list is not finished exactly when it begins a command and is none.
use mathlib.Core.List.{List, [], ◌∷◌, ◌++◌, append_assoc}
use mathlib.Core.Logic.{◌⊎◌, inl, inr}
use mathlib.Core.Path.{◌≡◌, refl, sym, ap, ◌∙◌, subst}
use Prim.Native.Nat.{ℕ, ◌+◌}
use lib.ListN.{length}
use native.Mathlib.Omega.{arith}
use Rattle.theory.specs.Trees.{Tok, Nt, Tree, nil, add, node, toks, Gram}
use Rattle.theory.specs.Derives.{whole, Derives, Begins}
use Rattle.theory.proofs.Machine.{End, Res, idle, go, done, stop, next, run}
use Rattle.theory.proofs.Laws.{Laws}
use Rattle.theory.proofs.Sound.{Good, sound_run}
use Rattle.theory.proofs.Prefix.{fill}
use Rattle.theory.proofs.Complete.{complete}

-- what a reading comes to: the tree; a token that cannot follow, at this place; the end came too early
pub data Out : Type 0 where
  tree : Tree → Out
  cannot : ℕ → Out
  unfinished : Out

unfoldable pub on_end : Res → Out
on_end idle = unfinished
on_end (go k fs) = unfinished
on_end (done k) = tree k
on_end stop = unfinished

unfoldable pub on_next : Res → (Res → Out) → Out → Out
on_next idle f o = f idle
on_next (go k fs) f o = f (go k fs)
on_next (done k) f o = o
on_next stop f o = o

abbrev pub Live : Res → Type 0
Live idle = Unit {0}
Live (go k fs) = Unit {0}
Live (done k) = ⊥
Live stop = ⊥

abbrev pub Dead : Res → Type 0
Dead r = ¬ Live r

module _ (G : Gram) (S : Nt) where
  unfoldable pub scan : ℕ → Res → List Tok → Out
  scan p r [] = on_end (next G S r (End G))
  scan p r (u ∷ us) = on_next (next G S r u) (λ r'. scan (p + 1) r' us) (cannot p)

  pub run_append : (r : Res) (us vs : List Tok) → run G S r (us ++ vs) ≡ run G S (run G S r us) vs
  unfolding run
  run_append r [] vs = refl
  run_append r (u ∷ us) vs = run_append (next G S r u) us vs

  -- once refused, always refused
  run_stop : (us : List Tok) → run G S stop us ≡ stop
  unfolding run next
  run_stop [] = refl
  run_stop (u ∷ us) = run_stop us

  run_dead : (r : Res) → Dead r → (u : Tok) (us : List Tok) → run G S r (u ∷ us) ≡ stop
  unfolding run next
  run_dead idle d u us = absurd (d tt)
  run_dead (go k fs) d u us = absurd (d tt)
  run_dead (done k) d u us = run_stop us
  run_dead stop d u us = run_stop us

  dec_live : (r : Res) → Live r ⊎ Dead r
  dec_live idle = inl tt
  dec_live (go k fs) = inl tt
  dec_live (done k) = inr (λ z. z)
  dec_live stop = inr (λ z. z)

  pub next_live : (r : Res) (u : Tok) → Live (next G S r u) → Live r
  unfolding next
  next_live idle u l = tt
  next_live (go k fs) u l = tt
  next_live (done k) u l = l
  next_live stop u l = l

  pub run_live : (r : Res) (us : List Tok) → Live (run G S r us) → Live r
  unfolding run
  run_live r [] l = l
  run_live r (u ∷ us) l = next_live r u (run_live (next G S r u) us l)

  pub on_live : (r : Res) (f : Res → Out) (o : Out) → Live r → on_next r f o ≡ f r
  unfolding on_next
  on_live idle f o l = refl
  on_live (go k fs) f o l = refl
  on_live (done k) f o l = absurd l
  on_live stop f o l = absurd l

  pub on_dead : (r : Res) (f : Res → Out) (o : Out) → Dead r → on_next r f o ≡ o
  unfolding on_next
  on_dead idle f o d = absurd (d tt)
  on_dead (go k fs) f o d = absurd (d tt)
  on_dead (done k) f o d = refl
  on_dead stop f o d = refl

  -- what scan says, in terms of run
  abbrev pub Says : ℕ → Res → List Tok → Out → Type 0
  Says p r ts (tree k) = run G S r (ts ++ (End G ∷ [])) ≡ done k
  Says p r ts (cannot m) = (us : List Tok) × (u : Tok) × (vs : List Tok) × (ts ≡ us ++ (u ∷ vs)) × (m ≡ p + length us)
      × Live (run G S r us) × Dead (next G S (run G S r us) u)
  Says p r ts unfinished = Live (run G S r ts) × ((k : Tree) → ¬ (next G S (run G S r ts) (End G) ≡ done k))

  says_next : (p : ℕ) (r : Res) (u : Tok) (us : List Tok) (o : Out) → Says (p + 1) (next G S r u) us o → Says p r (u ∷ us) o
  unfolding run
  says_next p r u us (tree k) s = s
  says_next p r u us (cannot m) s = (u ∷ s.0, s.1, s.2, ap (λ z. u ∷ z) s.3, omega (arith, s.4), s.5, s.6)
  says_next p r u us unfinished s = s

  pub scan_says : (p : ℕ) (r : Res) (ts : List Tok) → Live r → Says p r ts (scan p r ts)
  unfolding scan run on_next on_end
  scan_says p r [] l = ends (next G S r (End G)) refl
    where
      ends : (z : Res) → next G S r (End G) ≡ z → Says p r [] (on_end z)
      ends idle e = (l, λ k h. let z : ◌≡◌ {A = ℕ} 0 1 = cc in omega arith)
      ends (go k fs) e = (l, λ k h. let z : ◌≡◌ {A = ℕ} 0 1 = cc in omega arith)
      ends (done k) e = e
      ends stop e = (l, λ k h. let z : ◌≡◌ {A = ℕ} 0 1 = cc in omega arith)
  scan_says p r (u ∷ us) l = goes (next G S r u) refl (λ z h. scan_says (p + 1) z us h)
    where
      goes : (z : Res) → next G S r u ≡ z → ((z : Res) → Live z → Says (p + 1) z us (scan (p + 1) z us))
          → Says p r (u ∷ us) (on_next z (λ r'. scan (p + 1) r' us) (cannot p))
      goes idle e rec = says_next p r u us (scan (p + 1) idle us) (rw e (rec idle tt))
      goes (go k fs) e rec = says_next p r u us (scan (p + 1) (go k fs) us) (rw e (rec (go k fs) tt))
      goes (done k) e rec = ([], u, us, refl, omega arith, l, rw e (λ z. z))
      goes stop e rec = ([], u, us, refl, omega arith, l, rw e (λ z. z))

  done_stop : (r : Res) (k : Tree) → r ≡ done k → r ≡ stop → ⊥
  done_stop r k e d = let z : ◌≡◌ {A = ℕ} 0 1 = cc in omega arith

  -- a run that dies at u comes to nothing
  run_dies : (r : Res) (us : List Tok) (u : Tok) (vs : List Tok) → Dead (next G S (run G S r us) u) → run G S r (us ++ (u ∷ vs) ++ (End G ∷ [])) ≡ stop
  unfolding run
  run_dies r us u vs d = ap (run G S r) (append_assoc us (u ∷ vs) (End G ∷ [])) ∙ run_append r us (u ∷ (vs ++ (End G ∷ []))) ∙ dies vs
    where
      dies : (vs : List Tok) → run G S (next G S (run G S r us) u) (vs ++ (End G ∷ [])) ≡ stop
      dies [] = run_dead (next G S (run G S r us) u) d (End G) []
      dies (v ∷ vs) = run_dead (next G S (run G S r us) u) d v (vs ++ (End G ∷ []))

  says_done : (p : ℕ) (r : Res) (ts : List Tok) (o : Out) (k : Tree) → run G S r (ts ++ (End G ∷ [])) ≡ done k → Says p r ts o → o ≡ tree k
  unfolding run
  says_done p r ts (tree k') k e s = cc
  says_done p r ts (cannot m) k e s = absurd (done_stop _ k e (rw s.3 (run_dies r s.0 s.1 s.2 s.6)))
  says_done p r ts unfinished k e s = absurd (s.1 k (sym (run_append r ts (End G ∷ [])) ∙ e))

  -- a refusal rests on the tokens up to its place
  scan_at : (p : ℕ) (r : Res) (us : List Tok) (u : Tok) (vs : List Tok) → Live (run G S r us) → Dead (next G S (run G S r us) u)
      → scan p r (us ++ (u ∷ vs)) ≡ cannot (p + length us)
  unfolding scan run
  scan_at p r [] u vs l d = on_dead (next G S r u) _ (cannot p) d ∙ ap cannot (omega arith)
  scan_at p r (v ∷ us) u vs l d =
      on_live (next G S r v) _ (cannot p) (run_live (next G S r v) us l) ∙ scan_at (p + 1) (next G S r v) us u vs l d ∙ ap cannot (omega arith)

init : {A : Type 0} → List A → List A
init [] = []
init (x ∷ []) = []
init (x ∷ (y ∷ l)) = x ∷ init (y ∷ l)

init_snoc : {A : Type 0} (a : List A) (x : A) → init (a ++ (x ∷ [])) ≡ a
unfolding init
init_snoc [] x = refl
init_snoc (y ∷ []) x = refl
init_snoc (y ∷ (z ∷ a)) x = ap (λ l. y ∷ l) (init_snoc (z ∷ a) x)

pub snoc_inj : {A : Type 0} (a b : List A) (x y : A) → a ++ (x ∷ []) ≡ b ++ (y ∷ []) → a ≡ b
snoc_inj a b x y e = sym (init_snoc a x) ∙ ap init e ∙ init_snoc b y

pub same_split : {A : Type 0} (a : List A) (x : A) (b c : List A) (y : A) (d : List A) → a ++ (x ∷ b) ≡ c ++ (y ∷ d) → length a ≡ length c → (a ≡ c) × (x ≡ y)
same_split [] x b [] y d e h = (refl, cc)
same_split [] x b (z ∷ c) y d e h = absurd (omega arith)
same_split (z ∷ a) x b [] y d e h = absurd (omega arith)
same_split (z ∷ a) x b (w ∷ c) y d e h =
    let t : a ++ (x ∷ b) ≡ c ++ (y ∷ d) = cc in
    let v : z ≡ w = cc in
    let r = same_split a x b c y d t (omega arith) in
    (let r0 : a ≡ c = r.0 in cc, r.1)

module _ (G : Gram) (S : Nt) where
  abbrev pub parse : List Tok → Out
  parse ts = scan G S 0 idle ts

module _ (G : Gram) (S : Nt) (Follow : Nt → ℕ → ℕ → Type 0) (laws : Laws G Follow S) where
  pub read_derived : (ts : List Tok) (k : Tree) → parse G S ts ≡ tree k → (x : Tree) × (k ≡ add nil x) × Derives G S ts x
  read_derived ts k e =
      let s : run G S idle (ts ++ (End G ∷ [])) ≡ done k = rw e at (scan_says G S 0 idle ts tt) in
      let g : Good G S (ts ++ (End G ∷ [])) (done k) = rw s at (sound_run G S [] idle (ts ++ (End G ∷ [])) refl) in
      (g.1, g.4, (g.0, g.3, snoc_inj (toks g.1) ts g.2 (End G) g.5))

  pub derived_read : (ts : List Tok) (x : Tree) → Derives G S ts x → parse G S ts ≡ tree (add nil x)
  derived_read ts x d = says_done G S 0 idle ts (parse G S ts) (add nil x) (rw (← d.2) (complete G S Follow laws d.1)) (scan_says G S 0 idle ts tt)

  pub unambiguous : (ts : List Tok) (x y : Tree) → Derives G S ts x → Derives G S ts y → x ≡ y
  unambiguous ts x y d e = let a = derived_read ts x d in let b = derived_read ts y e in cc

  pub begins : (us : List Tok) (r : Res) → Live r → Good G S us r → Begins G S us
  unfolding toks
  begins us idle l g = let a = laws.any in subst (λ z. Begins G S z) g (a.0, node a.0 a.1 a.2 a.3, toks (node a.0 a.1 a.2 a.3), whole a.4 a.5, refl)
  begins us (go k fs) l g = rw g.1 at (fill G S Follow laws k fs g.0)
  begins us (done k) l g = absurd l
  begins us stop l g = absurd l

  dies_not : (us : List Tok) (u : Tok) → Dead (next G S (run G S idle us) u) → ¬ Begins G S (us ++ (u ∷ []))
  dies_not us u d b = done_stop G S (run G S idle (toks b.1 ++ (End G ∷ []))) (add nil b.1) (complete G S Follow laws b.3)
      (ap (λ z. run G S idle (z ++ (End G ∷ []))) (b.4 ∙ append_assoc us (u ∷ []) b.2) ∙ run_dies G S idle us u b.2 d)

  pub cannot_follow : (ts : List Tok) (m : ℕ) → parse G S ts ≡ cannot m
      → (us : List Tok) × (u : Tok) × (vs : List Tok) × (ts ≡ us ++ (u ∷ vs)) × (m ≡ length us) × Begins G S us × (¬ Begins G S (us ++ (u ∷ [])))
  cannot_follow ts m e =
      let s : Says G S 0 idle ts (cannot m) = rw e at (scan_says G S 0 idle ts tt) in
      (s.0, s.1, s.2, s.3, omega (arith, s.4), begins s.0 (run G S idle s.0) s.5 (sound_run G S [] idle s.0 refl), dies_not s.0 s.1 s.6)

  pub unfinished_begins : (ts : List Tok) → parse G S ts ≡ unfinished → Begins G S ts × ((x : Tree) → ¬ Derives G S ts x)
  unfinished_begins ts e =
      let s : Says G S 0 idle ts unfinished = rw e at (scan_says G S 0 idle ts tt) in
      (begins ts (run G S idle ts) s.0 (sound_run G S [] idle ts refl), λ x d. let a = derived_read ts x d in let z : ◌≡◌ {A = ℕ} 0 1 = cc in omega arith)

  pub begins_live : (us : List Tok) → Begins G S us → Live (run G S idle us)
  begins_live us b = which (dec_live G S (run G S idle us))
    where
      dies : Dead (run G S idle us) → (w : List Tok) → run G S (run G S idle us) (w ++ (End G ∷ [])) ≡ stop
      dies d [] = run_dead G S (run G S idle us) d (End G) []
      dies d (v ∷ w) = run_dead G S (run G S idle us) d v (w ++ (End G ∷ []))

      which : Live (run G S idle us) ⊎ Dead (run G S idle us) → Live (run G S idle us)
      which (inl l) = l
      which (inr d) = absurd (done_stop G S (run G S idle (toks b.1 ++ (End G ∷ []))) (add nil b.1) (complete G S Follow laws b.3)
          (ap (λ z. run G S idle (z ++ (End G ∷ []))) b.4 ∙ ap (run G S idle) (append_assoc us b.2 (End G ∷ [])) ∙ run_append G S idle us (b.2 ++ (End G ∷ [])) ∙ dies d b.2))

  -- the other way round: where the tokens begin a command and with one more they begin none, that token is refused
  pub cannot_follow_refused : (us : List Tok) (u : Tok) (vs : List Tok) → Begins G S us → ¬ Begins G S (us ++ (u ∷ [])) → parse G S (us ++ (u ∷ vs)) ≡ cannot (length us)
  unfolding run
  cannot_follow_refused us u vs b n = scan_at G S 0 idle us u vs (begins_live us b)
      (λ l. n (begins (us ++ (u ∷ [])) (run G S idle (us ++ (u ∷ []))) (rw (run_append G S idle us (u ∷ [])) l) (sound_run G S [] idle (us ++ (u ∷ [])) refl)))
      ∙ ap cannot (omega arith)

  -- and tokens that begin a command, and are none, are not finished
  pub begins_unfinished : (ts : List Tok) → Begins G S ts → ((x : Tree) → ¬ Derives G S ts x) → parse G S ts ≡ unfinished
  begins_unfinished ts b n = which (parse G S ts) refl
    where
      which : (o : Out) → parse G S ts ≡ o → o ≡ unfinished
      which (tree k) e = let d = read_derived ts k e in absurd (n d.0 d.2)
      which (cannot m) e = let d = cannot_follow ts m e in
          absurd (d.6 (b.0, b.1, d.2 ++ b.2, b.3, b.4 ∙ ap (λ z. z ++ b.2) d.3 ∙ simp append_assoc))
      which unfinished e = refl

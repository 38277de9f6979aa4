-- outcome: the answer to a list of tokens is a exactly when that is its Outcome. one_outcome: a list has no two; some_outcome: it has one.
-- descends: recursive descent answers so. alike, every_clean, every_fault: two commands that begin with the same tokens have the same
-- words on them, so that "some command" in Outcome is "every command". Assumes nothing beside the laws.
use mathlib.Core.Bool.{false}
use mathlib.Core.List.{List, [], ◌∷◌, ◌++◌, append_assoc}
use mathlib.Core.Logic.{inl, inr, ◌↔◌}
use mathlib.Core.Path.{◌≡◌, refl, sym, ap, ◌∙◌, subst}
use Prim.Native.Nat.{ℕ, ◌<◌}
use lib.ListN.{length}
use native.Mathlib.Omega.{arith}
use Rattle.theory.specs.Trees.{Tok, Nt, Row, Tree, Gram}
use Rattle.theory.specs.Derives.{Begins}
use Rattle.theory.specs.Judged.{faults_of, AllZero}
use Rattle.theory.specs.Outcome.{Ans, got, refused, Starts, Clean, FirstFault, Outcome}
use Rattle.theory.proofs.Machine.{idle, next, run}
use Rattle.theory.proofs.Laws.{Laws}
use Rattle.theory.proofs.Sound.{sound_run}
use Rattle.theory.proofs.Right.{tree, Live, run_append, same_split, parse, read_derived, derived_read, begins, cannot_follow, unfinished_begins, begins_live, cannot_follow_refused, begins_unfinished}
use Rattle.theory.proofs.Scan.{fault_of, parse_a, told, descent, faults, SaysA, judged_says, no_fault, fault_at, zero_past, no_fault_cannot, no_fault_unfinished}
use Rattle.theory.proofs.Faults.{faults_append, length_faults, faults_read, faults_begun}

all_front : (a b : List ℕ) → AllZero (a ++ b) → AllZero a
all_front [] b h = tt
all_front (x ∷ a) b h = (h.0, all_front a b h.1)

same_front : (a b c d : List ℕ) → a ++ b ≡ c ++ d → length a ≡ length c → a ≡ c
same_front [] b [] d e h = refl
same_front [] b (z ∷ c) d e h = absurd (omega arith)
same_front (z ∷ a) b [] d e h = absurd (omega arith)
same_front (z ∷ a) b (w ∷ c) d e h =
    let t : a ++ b ≡ c ++ d = cc in
    let v : z ≡ w = cc in
    let r : a ≡ c = same_front a b c d t (omega arith) in cc

module _ (Ctx : Type 0) (under : Row → Tree → Tok → Tree → Ctx → Ctx) (judge : Ctx → Row → Tree → Tok → Tree → ℕ) (G : Gram) (c : Ctx) (S : Nt) where
  module _ (Follow : Nt → ℕ → ℕ → Type 0) (laws : Laws G Follow S) where
    abbrev Words : List Tok → List ℕ
    Words us = faults G Ctx under judge c S idle us

    clean_in : (x : Tree) (us : List Tok) → Starts Ctx under judge G c S x us → Clean Ctx under judge G c S x (length us) → AllZero (Words us)
    clean_in x us s k = subst AllZero (same_front k.0 k.1 (Words us) _ (sym k.2 ∙ faults_begun Ctx under judge G c S Follow laws us s.1 s.2 s.3)
        (k.3 ∙ sym (length_faults Ctx under judge G c S idle us))) k.4

    clean_out : (x : Tree) (us : List Tok) (p : ℕ) → p ≡ length us → Starts Ctx under judge G c S x us → AllZero (Words us) → Clean Ctx under judge G c S x p
    clean_out x us p e s z = (Words us, _, faults_begun Ctx under judge G c S Follow laws us s.1 s.2 s.3, length_faults Ctx under judge G c S idle us ∙ sym e, z)

    -- the words on x, up to those on u
    words_at : (x : Tree) (us : List Tok) (u : Tok) → (s : Starts Ctx under judge G c S x (us ++ (u ∷ [])))
        → faults_of Ctx under judge c x ≡ Words us ++ (fault_of G Ctx under judge c (next G S (run G S idle us) u) ∷ faults G Ctx under judge c S (next G S (run G S idle us) u) s.1)
    unfolding faults
    words_at x us u s = faults_begun Ctx under judge G c S Follow laws us (u ∷ s.1) s.2 (s.3 ∙ append_assoc us (u ∷ []) s.1)

    fault_in : (x : Tree) (us : List Tok) (u : Tok) (m : ℕ) → Starts Ctx under judge G c S x (us ++ (u ∷ [])) → FirstFault Ctx under judge G c S x (length us) m
        → AllZero (Words us) × (fault_of G Ctx under judge c (next G S (run G S idle us) u) ≡ m)
    fault_in x us u m s k =
        let e = same_split k.0 m k.1 (Words us) (fault_of G Ctx under judge c (next G S (run G S idle us) u)) _ (sym k.2 ∙ words_at x us u s)
        (k.3 ∙ sym (length_faults Ctx under judge G c S idle us)) in
        (subst AllZero e.0 k.4, sym e.1)

    fault_out : (x : Tree) (us : List Tok) (u : Tok) (m p : ℕ) → p ≡ length us → Starts Ctx under judge G c S x (us ++ (u ∷ [])) → AllZero (Words us)
        → fault_of G Ctx under judge c (next G S (run G S idle us) u) ≡ m → 0 < m → FirstFault Ctx under judge G c S x p m
    fault_out x us u m p h s z e l =
        let b : List ℕ = faults G Ctx under judge c S (next G S (run G S idle us) u) s.1 in
        (Words us, b, words_at x us u s ∙ ap (λ y. Words us ++ (y ∷ b)) e, length_faults Ctx under judge G c S idle us ∙ sym h, z, l)

    -- ── some command is every command ──
    pub alike : (us : List Tok) (x y : Tree) → Starts Ctx under judge G c S x us → Starts Ctx under judge G c S y us
        → (a : List ℕ) × (b : List ℕ) × (d : List ℕ) × (faults_of Ctx under judge c x ≡ a ++ b) × (faults_of Ctx under judge c y ≡ a ++ d) × (length a ≡ length us)
    alike us x y s t = (
      Words us,
      _,
      _,
      faults_begun Ctx under judge G c S Follow laws us s.1 s.2 s.3,
      faults_begun Ctx under judge G c S Follow laws us t.1 t.2 t.3,
      length_faults Ctx under judge G c S idle us,
    )

    pub every_clean : (us : List Tok) (x y : Tree) → Starts Ctx under judge G c S x us → Starts Ctx under judge G c S y us → Clean Ctx under judge G c S x (length us) → Clean Ctx under judge G c S y (length us)
    every_clean us x y s t k = clean_out y us (length us) refl t (clean_in x us s k)

    pub every_fault : (us : List Tok) (u : Tok) (m : ℕ) (x y : Tree) → Starts Ctx under judge G c S x (us ++ (u ∷ [])) → Starts Ctx under judge G c S y (us ++ (u ∷ []))
        → FirstFault Ctx under judge G c S x (length us) m → FirstFault Ctx under judge G c S y (length us) m
    every_fault us u m x y s t k = let f = fault_in x us u m s k in fault_out y us u m (length us) refl t f.0 f.1 k.5

    -- ── the theorem ──
    live_begins : (us : List Tok) (u : Tok) → Live (next G S (run G S idle us) u) → Begins G S (us ++ (u ∷ []))
    unfolding run
    live_begins us u l = begins G S Follow laws (us ++ (u ∷ [])) (run G S idle (us ++ (u ∷ []))) (rw (run_append G S idle us (u ∷ [])) l) (sound_run G S [] idle (us ++ (u ∷ [])) refl)

    begins_next : (us : List Tok) (u : Tok) → Begins G S (us ++ (u ∷ [])) → Live (next G S (run G S idle us) u)
    unfolding run
    begins_next us u b = rw (run_append G S idle us (u ∷ [])) at (begins_live G S Follow laws (us ++ (u ∷ [])) b)

    holds : (ts : List Tok) (a : Ans) → SaysA G Ctx under judge c S 0 idle ts a → Outcome Ctx under judge G c S ts a
    holds ts (got k n us) s =
        let d = read_derived G S Follow laws ts k s.0 in
        (d.0, d.1, omega (arith, s.1), s.3, d.2, subst AllZero (ap (faults G Ctx under judge c S idle) (sym d.2.2) ∙ faults_read Ctx under judge G c S Follow laws d.2.1) s.2)
    holds ts (refused m p) (inl s) =
        let d = cannot_follow G S Follow laws ts p s.1 in
        let b = d.5 in
        let z : AllZero (Words d.0 ++ faults G Ctx under judge c S (run G S idle d.0) (d.1 ∷ d.2))
        = subst AllZero (ap (faults G Ctx under judge c S idle) d.3 ∙ faults_append Ctx under judge G c S idle d.0 (d.1 ∷ d.2)) s.2 in
        let t : Starts Ctx under judge G c S b.1 d.0 = (b.0, b.2, b.3, b.4) in
        inl (s.0, (d.0, d.1, d.2, b.1, d.3, d.4, t, clean_out b.1 d.0 p d.4 t (all_front (Words d.0) _ z), d.6))
    holds ts (refused m p) (inr (inl s)) =
        let d = unfinished_begins G S Follow laws ts s.1 in
        let b = d.0 in
        let t : Starts Ctx under judge G c S b.1 ts = (b.0, b.2, b.3, b.4) in
        let e : p ≡ length ts = omega (arith, s.2) in
        inr (inl (s.0, (b.1, e, t, clean_out b.1 ts p e t s.3, d.1)))
    holds ts (refused m p) (inr (inr s)) =
        let b = live_begins s.0 s.1 s.5 in
        let t : Starts Ctx under judge G c S b.1 (s.0 ++ (s.1 ∷ [])) = (b.0, b.2, b.3, b.4) in
        let e : p ≡ length s.0 = omega (arith, s.4) in
        inr (inr (s.0, s.1, s.2, b.1, s.3, e, t, fault_out b.1 s.0 s.1 m p e t s.8 s.6 s.7))

    answers : (ts : List Tok) (a : Ans) → Outcome Ctx under judge G c S ts a → parse_a G Ctx under judge c S ts ≡ a
    answers ts (got k n us) o =
        let e : parse G S ts ≡ tree k = derived_read G S Follow laws ts o.0 o.4 ∙ ap tree (sym o.1) in
        let z : AllZero (Words ts) = subst AllZero (sym (faults_read Ctx under judge G c S Follow laws o.4.1) ∙ ap (faults G Ctx under judge c S idle) o.4.2) o.5 in
        no_fault G Ctx under judge c S ts k e z ∙ (let h = o.2 in let g = o.3 in cc)
    answers ts (refused m p) (inl o) =
        let d = o.1 in
        let s = d.6 in
        let z = clean_in d.3 d.0 s (subst (Clean Ctx under judge G c S d.3) d.5 d.7) in
        let e = cannot_follow_refused G S Follow laws d.0 d.1 d.2 (s.0, d.3, s.1, s.2, s.3) d.8 in
        ap (parse_a G Ctx under judge c S) d.4
        ∙ no_fault_cannot G Ctx under judge c S (d.0 ++ (d.1 ∷ d.2)) (length d.0) e
        (zero_past G Ctx under judge c S d.0 d.1 d.2 idle (λ l. d.8 (live_begins d.0 d.1 l)) z)
        ∙ (let h = o.0 in let g = d.5 in cc)
    answers ts (refused m p) (inr (inl o)) =
        let d = o.1 in
        let s = d.2 in
        let z = clean_in d.0 ts s (subst (Clean Ctx under judge G c S d.0) d.1 d.3) in
        let e = begins_unfinished G S Follow laws ts (s.0, d.0, s.1, s.2, s.3) d.4 in
        no_fault_unfinished G Ctx under judge c S ts e z ∙ (let h = o.0 in let g = d.1 in cc)
    answers ts (refused m p) (inr (inr d)) =
        let s = d.6 in
        let k = subst (λ z. FirstFault Ctx under judge G c S d.3 z m) d.5 d.7 in
        let f = fault_in d.3 d.0 d.1 m s k in
        ap (parse_a G Ctx under judge c S) d.4
        ∙ fault_at G Ctx under judge c S d.0 d.1 d.2 0 idle m (begins_next d.0 d.1 (s.0, d.3, s.1, s.2, s.3)) f.1 k.5 f.0
        ∙ ap (refused m) (omega (arith, d.5))

    pub outcome : (ts : List Tok) (a : Ans) → (parse_a G Ctx under judge c S ts ≡ a) ↔ Outcome Ctx under judge G c S ts a
    outcome ts a = (λ e. holds ts a (subst (SaysA G Ctx under judge c S 0 idle ts) e (judged_says G Ctx under judge c S 0 idle ts)), answers ts a)

    pub some_outcome : (ts : List Tok) → Outcome Ctx under judge G c S ts (parse_a G Ctx under judge c S ts)
    some_outcome ts = (outcome ts (parse_a G Ctx under judge c S ts)).0 refl

    pub one_outcome : (ts : List Tok) (a b : Ans) → Outcome Ctx under judge G c S ts a → Outcome Ctx under judge G c S ts b → a ≡ b
    one_outcome ts a b o p = sym (answers ts a o) ∙ answers ts b p

    pub descends : G.nullable S ≡ false → (ts : List Tok) (a : Ans) → (told G Ctx under judge c S ts ≡ a) ↔ Outcome Ctx under judge G c S ts a
    descends n ts a = (λ e. (outcome ts a).0 (sym (descent G Ctx under judge c S n ts) ∙ e), λ o. descent G Ctx under judge c S n ts ∙ answers ts a o)

-- The reading with a judge, token by token (parse_a). descent: recursive descent answers the same. judged_says: what an answer says
-- of the machine's states. local_refusal: a refusal before the end rests on the tokens up to its place. agree: where the judge has no
-- word, the answer is the grammar's; fault_at: where it has its first word, that is the answer. Assumes nothing.
use mathlib.Core.Bool.{false}
use mathlib.Core.List.{List, [], ◌∷◌, ◌++◌}
use mathlib.Core.Logic.{◌⊎◌, inl, inr}
use mathlib.Core.Path.{◌≡◌, refl, sym, ap, ◌∙◌, subst}
use Prim.Native.Nat.{ℕ, ◌+◌, ◌≤◌, ◌<◌, zero, suc}
use lib.Dec.{eqb}
use lib.ListN.{length}
use native.Mathlib.Omega.{arith}
use Rattle.theory.specs.Trees.{Tok, Nt, Row, Tree, nil, add, node, cap_of, Gram}
use Rattle.theory.specs.Table.{on_row}
use Rattle.theory.specs.Judged.{AllZero}
use Rattle.theory.specs.Outcome.{Ans, got, refused}
use Rattle.theory.proofs.Machine.{End, Frame, fr, Res, idle, go, done, stop, on_bool, on_fed, feed, step, next, run}
use Rattle.theory.proofs.Cases.{by_row, by_bool, eqb-true}
use Rattle.theory.proofs.Right.{Out, tree, cannot, unfinished, on_end, on_next, Live, Dead, scan, next_live, run_live, on_live, parse}
use Rattle.theory.proofs.Descend.{fed_to, on_sub, on_got, check, last, by_fed, by_sub, check_got, sub, sum, fault, read, read_none, nested, rest, call}

-- nothing may follow a whole
unfoldable pub whole : Ans → Ans
whole (got x n []) = got x n []
whole (got x n (u ∷ us)) = refused 3 n
whole (refused m p) = refused m p

unfoldable pub on_next_a : Res → (Res → Ans) → Ans → Ans
on_next_a idle f o = f idle
on_next_a (go k fs) f o = f (go k fs)
on_next_a (done k) f o = o
on_next_a stop f o = o

unfoldable pub on_end_a : ℕ → Res → Ans
on_end_a n idle = refused 4 n
on_end_a n (go k fs) = refused 4 n
on_end_a n (done k) = got k n []
on_end_a n stop = refused 4 n

whole_check : (m n : ℕ) (f g : Unit {0} → Ans) → whole (f tt) ≡ g tt → whole (check m n f) ≡ check m n g
unfolding whole check
whole_check zero n f g e = e
whole_check (suc m) n f g e = refl

-- the parent's children, none, put before a whole
whole_under : (a : Ans) → whole (on_got a (λ x n us. got (add nil (last x)) n us))
    ≡ on_got (on_got a (λ x n us. got (last x) n us)) (λ x n us. whole (got (add nil x) n us))
unfolding whole on_got
whole_under (got x n us) = refl
whole_under (refused m p) = refl

on_got_cong : (a : Ans) (f g : Tree → ℕ → List Tok → Ans) → ((x : Tree) (n : ℕ) (us : List Tok) → f x n us ≡ g x n us) → on_got a f ≡ on_got a g
unfolding on_got
on_got_cong (got x n us) f g e = e x n us
on_got_cong (refused m p) f g e = refl

module _ (G : Gram) (Ctx : Type 0) (under : Row → Tree → Tok → Tree → Ctx → Ctx) (judge : Ctx → Row → Tree → Tok → Tree → ℕ) (c : Ctx) where
  -- the judge's word on a state
  unfoldable pub fault_of : Res → ℕ
  fault_of idle = 0
  fault_of (go k []) = 0
  fault_of (go k (F ∷ fs)) = fault G Ctx under judge c k F fs
  fault_of (done k) = 0
  fault_of stop = 0

  module _ (S : Nt) where
    -- token by token: 3 where the token cannot follow, else the judge's refusal, else on
    unfoldable pub scan_a : ℕ → Res → List Tok → Ans
    scan_a p r [] = on_end_a p (next G S r (End G))
    scan_a p r (u ∷ us) = on_next_a (next G S r u) (λ r'. check (fault_of r') p (λ w. scan_a (p + 1) r' us)) (refused 3 p)

    abbrev pub parse_a : List Tok → Ans
    parse_a ts = scan_a 0 idle ts

    -- ── recursive descent gives the same ──
    sub_step : (k : Tree) (fs : List Frame) (u : Tok)
        → step G k fs u ≡ on_sub (sub G Ctx under judge k fs u) (λ k' F fs'. go k' (F ∷ fs')) (λ x. on_bool (eqb G.eof u.kind) (λ w. done x) stop) stop
    unfolding step sub on_fed fed_to on_sub on_row
    sub_step k [] u = refl
    sub_step k (fr A r l t is pk ∷ fs) u = by_fed (feed G k is u)
        (λ k' is' e. rw e)
        (λ k' is' B q e. rw e)
        (λ k' e. by_row (G.cont A r (cap_of k') u.kind) (λ q h. rw (e, h)) (λ h. rw (e, h) (sub_step (add pk (node r l t k')) fs u)))
        (λ e. rw e)

    read_scan : (us : List Tok) (n : ℕ) (k : Tree) (fs : List Frame) → whole (read G Ctx under judge c n k fs us) ≡ scan_a n (go k fs) us
    unfolding read scan_a next on_sub on_next_a on_end_a fault_of whole on_bool
    read_scan [] n k fs = by_sub (sub G Ctx under judge k fs (End G)) (λ k' F fs' e. rw (sub_step k fs (End G), e))
        (λ x e. rw (sub_step k fs (End G), e, eqb-true G.eof G.eof refl)) (λ e. rw (sub_step k fs (End G), e))
    read_scan (u ∷ us) n k fs = by_sub (sub G Ctx under judge k fs u)
        (λ k' F fs' e. rw (sub_step k fs u, e) (whole_check _ n _ _ (read_scan us (n + 1) k' (F ∷ fs'))))
        (λ x e. by_bool (eqb G.eof u.kind) (λ h. rw (sub_step k fs u, e, h)) (λ h. rw (sub_step k fs u, e, h)))
        (λ e. rw (sub_step k fs u, e))

    -- the recursive descent from S, with nothing after it
    unfoldable pub told : List Tok → Ans
    told ts = on_got (call G Ctx under judge c S 0 ts) (λ x n us. whole (got (add nil x) n us))

    pub descent : G.nullable S ≡ false → (ts : List Tok) → told ts ≡ parse_a ts
    unfolding told call scan_a next on_row on_next_a on_end_a on_got on_bool fault_of fault sum rest
    descent e [] = by_row (G.enter S G.eof) (λ q h. rw h) (λ h. rw (h, e))
    descent e (u ∷ us) = by_row (G.enter S u.kind)
        (λ q h. rw h (sym (check_got _ 0 _ _ _ (sym (read_scan us 1 nil (fr S q nil u q.items nil ∷ []))
        ∙ ap whole (alone q) ∙ under_rest q))))
        (λ h. rw (h, e))
      where
        alone : (q : Row) → read G Ctx under judge c 1 nil (fr S q nil u q.items nil ∷ []) us
            ≡ on_got (read G Ctx under judge c 1 nil (fr S q nil u q.items nil ∷ []) us) (λ x n us. got (add nil (last x)) n us)
        alone q = nested G Ctx under judge us c 1 nil [] S q nil u q.items nil []
            ∙ on_got_cong (read G Ctx under judge c 1 nil (fr S q nil u q.items nil ∷ []) us) _ _ (λ x n us. read_none G Ctx under judge us c n (add nil (last x)))

        under_rest : (q : Row) → whole (on_got (read G Ctx under judge c 1 nil (fr S q nil u q.items nil ∷ []) us) (λ x n us. got (add nil (last x)) n us))
            ≡ on_got (rest G Ctx under judge c S q nil u q.items nil 1 us) (λ x n us. whole (got (add nil x) n us))
        under_rest q = whole_under (read G Ctx under judge c 1 nil (fr S q nil u q.items nil ∷ []) us)

    -- ── what the answers say ──
    -- the judge's words, one for each token
    unfoldable pub faults : Res → List Tok → List ℕ
    faults r [] = []
    faults r (u ∷ us) = fault_of (next G S r u) ∷ faults (next G S r u) us

    abbrev pub SaysA : ℕ → Res → List Tok → Ans → Type 0
    SaysA p r ts (got k n us) = (scan G S p r ts ≡ tree k) × (n ≡ p + length ts) × AllZero (faults r ts) × (us ≡ [])
    SaysA p r ts (refused m q) = ((m ≡ 3) × (scan G S p r ts ≡ cannot q) × AllZero (faults r ts))
        ⊎ (((m ≡ 4) × (scan G S p r ts ≡ unfinished) × (q ≡ p + length ts) × AllZero (faults r ts))
        ⊎ ((us : List Tok) × (u : Tok) × (vs : List Tok) × (ts ≡ us ++ (u ∷ vs)) × (q ≡ p + length us)
        × Live (next G S (run G S r us) u) × (fault_of (next G S (run G S r us) u) ≡ m) × (0 < m) × AllZero (faults r us)))

    faults_stop : (us : List Tok) → AllZero (faults stop us)
    unfolding faults next fault_of
    faults_stop [] = tt
    faults_stop (u ∷ us) = (refl, faults_stop us)

    faults_done : (k : Tree) (us : List Tok) → AllZero (faults (done k) us)
    unfolding faults next fault_of
    faults_done k [] = tt
    faults_done k (u ∷ us) = (refl, faults_stop us)

    says_next : (p : ℕ) (r : Res) (u : Tok) (us : List Tok) (o : Ans) → Live (next G S r u) → fault_of (next G S r u) ≡ 0
        → SaysA (p + 1) (next G S r u) us o → SaysA p r (u ∷ us) o
    unfolding scan run faults
    says_next p r u us (got k n vs) l h s = (on_live G S (next G S r u) _ (cannot p) l ∙ s.0, omega (arith, s.1), (h, s.2), s.3)
    says_next p r u us (refused m q) l h (inl s) = inl (s.0, on_live G S (next G S r u) _ (cannot p) l ∙ s.1, (h, s.2))
    says_next p r u us (refused m q) l h (inr (inl s)) = inr (inl (s.0, on_live G S (next G S r u) _ (cannot p) l ∙ s.1, omega (arith, s.2), (h, s.3)))
    says_next p r u us (refused m q) l h (inr (inr s)) = inr (inr (u ∷ s.0, s.1, s.2, ap (λ z. u ∷ z) s.3, omega (arith, s.4), s.5, s.6, s.7, (h, s.8)))

    pub judged_says : (p : ℕ) (r : Res) (ts : List Tok) → SaysA p r ts (scan_a p r ts)
    unfolding scan_a scan run faults on_next on_next_a on_end on_end_a check fault_of
    judged_says p r [] = ends (next G S r (End G)) refl
      where
        ends : (z : Res) → next G S r (End G) ≡ z → SaysA p r [] (on_end_a p z)
        ends idle e = inr (inl (refl, rw e, omega arith, tt))
        ends (go k fs) e = inr (inl (refl, rw e, omega arith, tt))
        ends (done k) e = (rw e, omega arith, tt, refl)
        ends stop e = inr (inl (refl, rw e, omega arith, tt))
    judged_says p r (u ∷ us) = goes (next G S r u) refl (λ z. judged_says (p + 1) z us)
      where
        live : (z : Res) → next G S r u ≡ z → Live z → SaysA (p + 1) z us (scan_a (p + 1) z us)
            → (m : ℕ) → fault_of z ≡ m → SaysA p r (u ∷ us) (check m p (λ w. scan_a (p + 1) z us))
        live z e l rec zero t = says_next p r u us (scan_a (p + 1) z us) (rw e l) (rw e t) (rw e rec)
        live z e l rec (suc m) t = inr (inr ([], u, us, refl, omega arith, rw e l, rw e t, omega arith, tt))

        goes : (z : Res) → next G S r u ≡ z → ((z : Res) → SaysA (p + 1) z us (scan_a (p + 1) z us))
            → SaysA p r (u ∷ us) (on_next_a z (λ r'. check (fault_of r') p (λ w. scan_a (p + 1) r' us)) (refused 3 p))
        goes idle e rec = live idle e tt (rec idle) (fault_of idle) refl
        goes (go k fs) e rec = live (go k fs) e tt (rec (go k fs)) (fault_of (go k fs)) refl
        goes (done k) e rec = inl (refl, rw e refl, (rw e refl, rw e (faults_done k us)))
        goes stop e rec = inl (refl, rw e refl, (rw e refl, rw e (faults_stop us)))

    -- ── locality: a refusal before the end rests on the tokens up to its place, whatever its number ──
    abbrev Later : ℕ → Ans → Type 0
    Later p (got x n us) = Unit {0}
    Later p (refused m q) = p ≤ q

    later_suc : (p : ℕ) (a : Ans) → Later (p + 1) a → Later p a
    later_suc p (got x n us) h = tt
    later_suc p (refused m q) h = omega arith

    later_check : (m p : ℕ) (f : Unit {0} → Ans) → Later p (f tt) → Later p (check m p f)
    unfolding check
    later_check zero p f h = h
    later_check (suc m) p f h = omega arith

    later_next : (z : Res) (p : ℕ) (f : Res → Ans) → ((r' : Res) → Later p (f r')) → Later p (on_next_a z f (refused 3 p))
    unfolding on_next_a
    later_next idle p f h = h idle
    later_next (go k fs) p f h = h (go k fs)
    later_next (done k) p f h = omega arith
    later_next stop p f h = omega arith

    later_end : (z : Res) (p : ℕ) → Later p (on_end_a p z)
    unfolding on_end_a
    later_end idle p = omega arith
    later_end (go k fs) p = omega arith
    later_end (done k) p = tt
    later_end stop p = omega arith

    pub no_sooner : (ts : List Tok) (p : ℕ) (r : Res) → Later p (scan_a p r ts)
    unfolding scan_a
    no_sooner [] p r = later_end (next G S r (End G)) p
    no_sooner (u ∷ us) p r = later_next (next G S r u) p _ (λ r'. later_check (fault_of r') p _ (later_suc p (scan_a (p + 1) r' us) (no_sooner us (p + 1) r')))

    loc_check : (m p : ℕ) (f g : Unit {0} → Ans) (a : Ans) → (f tt ≡ a → g tt ≡ a) → check m p f ≡ a → check m p g ≡ a
    unfolding check
    loc_check zero p f g a h e = h e
    loc_check (suc m) p f g a h e = e

    loc_next : (z : Res) (p : ℕ) (f g : Res → Ans) (a : Ans) → ((r' : Res) → f r' ≡ a → g r' ≡ a)
        → on_next_a z f (refused 3 p) ≡ a → on_next_a z g (refused 3 p) ≡ a
    unfolding on_next_a
    loc_next idle p f g a h e = h idle e
    loc_next (go k fs) p f g a h e = h (go k fs) e
    loc_next (done k) p f g a h e = e
    loc_next stop p f g a h e = e

    local : (us : List Tok) (u : Tok) (vs ws : List Tok) (p : ℕ) (r : Res) (m q : ℕ) → q ≡ p + length us
        → scan_a p r (us ++ (u ∷ vs)) ≡ refused m q → scan_a p r (us ++ (u ∷ ws)) ≡ refused m q
    unfolding scan_a
    local [] u vs ws p r m q h = loc_next (next G S r u) p _ _ (refused m q)
        (λ r'. loc_check (fault_of r') p _ _ (refused m q) (λ e. let l : p + 1 ≤ q = subst (Later (p + 1)) e (no_sooner vs (p + 1) r') in absurd (omega arith)))
    local (v ∷ us) u vs ws p r m q h = loc_next (next G S r v) p _ _ (refused m q)
        (λ r'. loc_check (fault_of r') p _ _ (refused m q) (local us u vs ws (p + 1) r' m q (omega arith)))

    pub local_refusal : (us : List Tok) (u : Tok) (vs ws : List Tok) (m : ℕ) → parse_a (us ++ (u ∷ vs)) ≡ refused m (length us) → parse_a (us ++ (u ∷ ws)) ≡ refused m (length us)
    local_refusal us u vs ws m = local us u vs ws 0 idle m (length us) (omega arith)

    -- where the judge has no word, the answer is the grammar's
    plain : ℕ → Out → Ans
    plain n (tree k) = got k n []
    plain n (cannot q) = refused 3 q
    plain n unfinished = refused 4 n

    agree : (ts : List Tok) (p : ℕ) (r : Res) (n : ℕ) → n ≡ p + length ts → AllZero (faults r ts) → scan_a p r ts ≡ plain n (scan G S p r ts)
    unfolding scan_a scan faults on_next on_next_a on_end on_end_a check fault_of plain
    agree [] p r n h z = ends (next G S r (End G))
      where
        ends : (z : Res) → on_end_a p z ≡ plain n (on_end z)
        ends idle = ap (refused 4) (omega (arith, h))
        ends (go k fs) = ap (refused 4) (omega (arith, h))
        ends (done k) = ap (λ m. got k m []) (omega (arith, h))
        ends stop = ap (refused 4) (omega (arith, h))
    agree (u ∷ us) p r n h z = goes (next G S r u) z.0 (agree us (p + 1) (next G S r u) n (omega (arith, h)) z.1)
      where
        goes : (y : Res) → fault_of y ≡ 0 → scan_a (p + 1) y us ≡ plain n (scan G S (p + 1) y us)
            → on_next_a y (λ r'. check (fault_of r') p (λ w. scan_a (p + 1) r' us)) (refused 3 p) ≡ plain n (on_next y (λ r'. scan G S (p + 1) r' us) (cannot p))
        goes idle e rec = rec
        goes (go k fs) e rec = rw e rec
        goes (done k) e rec = refl
        goes stop e rec = refl

    pub no_fault : (ts : List Tok) (k : Tree) → parse G S ts ≡ tree k → AllZero (faults idle ts) → parse_a ts ≡ got k (length ts) []
    unfolding plain
    no_fault ts k e z = agree ts 0 idle (length ts) (omega arith) z ∙ rw e

    on_live_a : (z : Res) (f : Res → Ans) (o : Ans) → Live z → on_next_a z f o ≡ f z
    unfolding on_next_a
    on_live_a idle f o l = refl
    on_live_a (go k fs) f o l = refl
    on_live_a (done k) f o l = absurd l
    on_live_a stop f o l = absurd l

    check_zero : (m n : ℕ) (f : Unit {0} → Ans) → m ≡ 0 → check m n f ≡ f tt
    unfolding check
    check_zero m n f e = rw e

    check_word : (m n : ℕ) (f : Unit {0} → Ans) → 0 < m → check m n f ≡ refused m n
    unfolding check
    check_word zero n f h = absurd (omega (arith, h))
    check_word (suc m) n f h = refl

    pub fault_at : (us : List Tok) (u : Tok) (vs : List Tok) (p : ℕ) (r : Res) (m : ℕ) → Live (next G S (run G S r us) u) → fault_of (next G S (run G S r us) u) ≡ m
        → 0 < m → AllZero (faults r us) → scan_a p r (us ++ (u ∷ vs)) ≡ refused m (p + length us)
    unfolding scan_a run faults
    fault_at [] u vs p r m l e h z = on_live_a (next G S r u) _ _ l ∙ check_word (fault_of (next G S r u)) p _ (rw e h) ∙ ap (λ y. refused y p) e ∙ ap (refused m) (omega arith)
    fault_at (v ∷ us) u vs p r m l e h z = on_live_a (next G S r v) _ _ (run_live G S (next G S r v) us (next_live G S (run G S (next G S r v) us) u l))
        ∙ check_zero (fault_of (next G S r v)) p _ z.0 ∙ fault_at us u vs (p + 1) (next G S r v) m l e h z.1 ∙ ap (refused m) (omega arith)

    dead_zero : (z : Res) → Dead z → (vs : List Tok) → (fault_of z ≡ 0) × AllZero (faults z vs)
    unfolding fault_of
    dead_zero idle d vs = absurd (d tt)
    dead_zero (go k fs) d vs = absurd (d tt)
    dead_zero (done k) d vs = (refl, faults_done k vs)
    dead_zero stop d vs = (refl, faults_stop vs)

    -- past a token that cannot follow the judge has no word
    pub zero_past : (us : List Tok) (u : Tok) (vs : List Tok) (r : Res) → Dead (next G S (run G S r us) u) → AllZero (faults r us) → AllZero (faults r (us ++ (u ∷ vs)))
    unfolding faults run
    zero_past [] u vs r d z = dead_zero (next G S r u) d vs
    zero_past (v ∷ us) u vs r d z = (z.0, zero_past us u vs (next G S r v) d z.1)

    pub no_fault_cannot : (ts : List Tok) (p : ℕ) → parse G S ts ≡ cannot p → AllZero (faults idle ts) → parse_a ts ≡ refused 3 p
    unfolding plain
    no_fault_cannot ts p e z = agree ts 0 idle (length ts) (omega arith) z ∙ rw e

    pub no_fault_unfinished : (ts : List Tok) → parse G S ts ≡ unfinished → AllZero (faults idle ts) → parse_a ts ≡ refused 4 (length ts)
    unfolding plain
    no_fault_unfinished ts e z = agree ts 0 idle (length ts) (omega arith) z ∙ rw e

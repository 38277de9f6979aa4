-- The induction over derivations: for every derived tree within the limits, of fit tokens, and, where levels count, with no NOT to the right,
-- there is what Forms says (results). Assumes nothing.
use mathlib.Core.Bool.{true, Bool}
use mathlib.Core.List.{List, [], ◌∷◌}
use mathlib.Core.Option.{some}
use mathlib.Core.Path.{◌≡◌, refl, sym, ap, ◌∙◌, subst}
use Prim.Native.Nat.{ℕ, ◌+◌, ◌≤◌, min, suc}
use borrow.Author.Tests.{ltb-false}
use lib.Dec.{ltb, eqb, leb}
use native.Mathlib.Omega.{arith}
use Rattle.theory.specs.Trees.{Tok, Nt, Item, lit, nt, Row, Tree, nil, add, leaf, node, toks, cap_of}
use Rattle.theory.specs.Table.{Line, pick, both, lookup}
use Rattle.theory.specs.Derives.{Opens, head, tail, Part, begin, token, absent, child, Ok, whole}
use Rattle.theory.specs.Judged.{faults_in, faults_kids, AllZero}
use Rattle.theory.proofs.Cases.{by_bool, pick_inv, both_l, both_r, leb_le, le-leb}
use Rattle.theory.proofs.Laws.{row_of, Suffix, all, more, part_suffix}
use Rattle.theory.proofs.Tested.{Rows, Kinds, allb, rows_ok, kinds_ok, found, enter_found, cont_found, row_least, tight_ok}
use Rattle.kinds.specs.Kinds.{NOT}
use Rattle.kinds.specs.Strength.{prefix_of}
use Rattle.grammar.specs.Rows.{but_column, exprs, select_items, values_items, lines, heads_of, tails_of}
use Rattle.grammar.specs.Grammar.{sql, G}
use Rattle.grammar.specs.Limits.{Around, is_expression, judge}
use Rattle.grammar.specs.Reading.{choose}
use Rattle.grammar.specs.Promise.{AllFit}
use Rattle.grammar.proofs.Checked.{tight}
use Rattle.grammar.proofs.LevelsHold.{all_left, all_right}
use Rattle.canon.specs.ToTheRight.{asked_at, parts_so_far, asking, is_absent, right_not}
use Rattle.canon.proofs.Counted.{below, under, counts_back}
use Rattle.canon.proofs.Forms.{Clean, Result, proper, left_out, there, KidsOf, grow, fits_at}
use Rattle.canon.proofs.Place.{le_trans, fit_left, fit_right, fits_more, proper_fits}
use Rattle.canon.proofs.Lines.{by_line, heads_apart, tails_apart}
use Rattle.canon.proofs.Steps.{Fit, HeadStep, TailStep}
use Rattle.canon.proofs.AllSteps.{all_heads, all_tails}

one_more : (m n : ℕ) → m + 1 + n ≡ m + suc n
one_more m n = omega arith

none_before : (n : ℕ) → 0 + n ≡ n
none_before n = omega arith

no_more : (m : ℕ) → m ≡ m + 0
no_more m = omega arith

not_above : (m n : ℕ) → ◌≡◌ {A = ℕ} (pick (ltb m n) 1 (λ w. 0)) 0 → n ≤ m
unfolding pick
not_above m n e = by_bool (ltb m n) (λ h. absurd (let z : ◌≡◌ {A = ℕ} 1 0 = rw h at e in omega arith)) (λ h. ltb-false m n h)

-- ── two tests of the table ──
unfoldable proper_items : List Item → Bool
proper_items [] = true
proper_items (lit k ∷ is) = proper_items is
proper_items (nt B ∷ is) = both (proper B) (proper_items is)

unfoldable sound : Row → Bool
sound r = both (leb r.str 12) (proper_items r.items)

heads_sound : allb (λ e. sound e.row) sql.heads ≡ true
unfolding sound proper_items proper choose sql lines but_column exprs select_items values_items heads_of tails_of pick both allb
heads_sound = refl

tails_sound : allb (λ e. sound e.row) sql.tails ≡ true
unfolding sound proper_items proper choose sql lines but_column exprs select_items values_items heads_of tails_of pick both allb
tails_sound = refl

row_sound : (C k : ℕ) (r : Row) (es : List Line) → allb (λ e. sound e.row) es ≡ true → lookup C k es ≡ some r → sound r ≡ true
row_sound C k r es a l = let f = found (λ e. sound e.row) C k r es a l in subst (λ z. sound z ≡ true) f.4 f.1

opens_sound : {A : Nt} {l : Tree} {t : Tok} {r : Row} → Opens G A l t r → sound r ≡ true
opens_sound {A} {t = t} {r = r} (head e) = row_sound A.of t.kind r sql.heads heads_sound (enter_found sql A t.kind r e).0
opens_sound {A} {t = t} {r = r} (tail {q = q} {f = f} o p e) = row_sound A.of t.kind r sql.tails tails_sound (cont_found sql A q (cap_of f) t.kind r e).0

suffix_proper : {B : Nt} {is full : List Item} → Suffix G (nt B ∷ is) full → proper_items full ≡ true → proper B ≡ true
unfolding proper_items
suffix_proper {B} {is} all e = both_l (proper B) (proper_items is) e
suffix_proper (more {i = lit k} s) e = suffix_proper s e
suffix_proper (more {i = nt D} {full = full} s) e = suffix_proper s (both_r (proper D) (proper_items full) e)

-- ── one row, by its line ──
abbrev Wholly : ℕ → Row → Around → Tree → Tok → Type 0
Wholly C r c l t = (ks : KidsOf r.items (below r c)) → Clean (node r l t (grow (below r c) r.items ks nil)) c → Result C r c (node r l t (grow (below r c) r.items ks nil))

begins_here : (A : Nt) (c : Around) (t : Tok) (r : Row) → G.enter A t.kind ≡ some r → Fit t → Wholly A.of r c nil t
begins_here A c t r e h =
    let b = by_line HeadStep sql.heads heads_apart all_heads A.of t.kind r (enter_found sql A t.kind r e).0 in
    subst (λ z. Wholly A.of z c nil t) b.4 (b.1 A.of b.2 b.5 c t b.3 h)

goes_here : (A : Nt) (c : Around) (t : Tok) (q r : Row) (l : Tree) → Result A.of q c l → leb q.str 12 ≡ true → Clean l c → lookup A.of t.kind sql.tails ≡ some r → leb r.left q.str ≡ true → leb r.left (cap_of l) ≡ true → fits_at A.of r.left ≡ true
    → Fit t → Wholly A.of r c l t
goes_here A c t q r l x tw zl e a d i h =
    let b = by_line TailStep sql.tails tails_apart all_tails A.of t.kind r e in
    let back : r ≡ b.0.row = sym b.4 in
    subst (λ z. Wholly A.of z c l t) b.4
    (b.1 A.of b.2 b.5 c q l x (subst (λ z. leb z.left q.str ≡ true) back a) tw (subst (λ z. leb z.left (cap_of l) ≡ true) back d) (subst (λ z. fits_at A.of z.left ≡ true) back i) zl t b.3 h)

-- what goes on after IS is tight enough
tight_enough : (A : Nt) (k : ℕ) (r : Row) → proper A ≡ true → lookup A.of k sql.tails ≡ some r → leb A.least r.str ≡ true → fits_at A.of r.left ≡ true
tight_enough A k r pr e h = fits_more A.of A.least r.left (le-leb A.least r.left (let i = leb_le A.least r.str h in let j = tight_ok sql tight A.of k r e in omega arith)) (proper_fits A pr)

-- ── a NOT to the right ──
-- a row leaves all that is asked of an expression, or it is NOT's
heads_leave : allb (Kinds (λ C k r. pick (leb 12 r.cap) true (λ w. pick (is_expression r) (both (eqb k NOT) (leb (prefix_of NOT) r.cap)) (λ w. true)))) sql.heads ≡ true
unfolding sql lines but_column exprs select_items values_items heads_of tails_of pick both allb prefix_of
heads_leave = refl

tails_leave : allb (Rows (λ C r. leb 12 r.cap)) sql.tails ≡ true
unfolding sql lines but_column exprs select_items values_items heads_of tails_of pick both allb
tails_leave = refl

-- the strength asked is that of the item
asked_rest : {full rest : List Item} {f : Tree} → Part G full rest f → (n : ℕ) → asked_at full (parts_so_far f + n) ≡ asked_at rest n
unfolding asked_at parts_so_far
asked_rest {full} begin n = ap (asked_at full) (none_before n)
asked_rest {full} (token {f = f} p e) n = ap (asked_at full) (one_more (parts_so_far f) n) ∙ asked_rest p (suc n)
asked_rest {full} (absent {f = f} p e) n = ap (asked_at full) (one_more (parts_so_far f) n) ∙ asked_rest p (suc n)
asked_rest {full} (child {f = f} p o g) n = ap (asked_at full) (one_more (parts_so_far f) n) ∙ asked_rest p (suc n)

asked_part : {full rest : List Item} {f : Tree} {B : Nt} → Part G full (nt B ∷ rest) f → asked_at full (parts_so_far f) ≡ B.least
unfolding asked_at
asked_part {full} {f = f} p = ap (asked_at full) (no_more (parts_so_far f)) ∙ asked_rest p 0

-- the words on NOTs to the right
abbrev Rights : Tree → ℕ → Type 0
Rights x s = AllZero (faults_in ℕ asking right_not x s 0)

-- where there is none, an expression is asked for no more than its row leaves
spare : {B : Nt} {m : Tree} {s : Tok} {q : Row} → Opens G B m s q → leb B.least q.str ≡ true → leb q.str 12 ≡ true → right_not B.least q m s nil ≡ 0 → is_expression q ≡ true → leb B.least q.cap ≡ true
unfolding right_not is_absent both pick prefix_of
spare {B} {s = s} {q = q} (tail {q = p} {f = f} o g e) le tw w x =
    let c = rows_ok (λ C r. leb 12 r.cap) B.of s.kind q sql.tails tails_leave (cont_found sql B p (cap_of f) s.kind q e).0 in
    le_trans B.least 12 q.cap (le_trans B.least q.str 12 le tw) c
spare {B} {s = s} {q = q} (head e) le tw w x =
    pick_inv (leb 12 q.cap) true _ true (kinds_ok (λ C k r. pick (leb 12 r.cap) true (λ w. pick (is_expression r) (both (eqb k NOT) (leb (prefix_of NOT) r.cap)) (λ w. true))) B.of s.kind q sql.heads heads_leave (enter_found sql B s.kind q e).0)
    (λ h y. le_trans B.least 12 q.cap (le_trans B.least q.str 12 le tw) h)
    (λ h y. let n = rw x at y in
    let i = leb_le (prefix_of NOT) q.cap (both_r (eqb s.kind NOT) _ n) in
    let j = not_above _ B.least (rw (x, both_l (eqb s.kind NOT) _ n) at w) in
    le-leb B.least q.cap (omega (arith, i, j)))

-- ── the induction ──
node_left : (c : Around) (r : Row) (l : Tree) (t : Tok) (f : Tree) → Clean (node r l t f) c → Clean l c
unfolding faults_in faults_kids
node_left c r l t f z = all_left (faults_in Around under judge l c 0) _ z

node_kids : (c : Around) (r : Row) (l : Tree) (t : Tok) (f : Tree) → Clean (node r l t f) c → AllZero (faults_kids Around under judge f c r l t)
unfolding faults_in faults_kids
node_kids c r l t f z = (all_right (faults_in Around under judge l c 0) (judge c r l t nil ∷ faults_kids Around under judge f c r l t) z).1

kids_left : (c : Around) (r : Row) (l : Tree) (t : Tok) (f x : Tree) → AllZero (faults_kids Around under judge (add f x) c r l t) → AllZero (faults_kids Around under judge f c r l t)
unfolding faults_kids
kids_left c r l t f x z = all_left (faults_kids Around under judge f c r l t) _ z

kids_child : (c : Around) (r : Row) (l : Tree) (t : Tok) (f : Tree) (q : Row) (m : Tree) (s : Tok) (g : Tree) → AllZero (faults_kids Around under judge (add f (node q m s g)) c r l t) → Clean (node q m s g) (below r c)
unfolding faults_in faults_kids
kids_child c r l t f q m s g z = all_right (faults_kids Around under judge f c r l t) (faults_in Around under judge (node q m s g) (below r c) 0) z

fit_node_left : (r : Row) (l : Tree) (t : Tok) (f : Tree) → AllFit (toks (node r l t f)) → AllFit (toks l)
unfolding toks
fit_node_left r l t f z = fit_left (toks l) _ z

fit_node : (r : Row) (l : Tree) (t : Tok) (f : Tree) → AllFit (toks (node r l t f)) → Fit t × AllFit (toks f)
unfolding toks
fit_node r l t f z = let a = fit_right (toks l) (t ∷ toks f) z in (a.0, a.1)

fit_kids : (f x : Tree) → AllFit (toks (add f x)) → AllFit (toks f) × AllFit (toks x)
unfolding toks
fit_kids f x z = (fit_left (toks f) (toks x) z, fit_right (toks f) (toks x) z)

right_left : (s : ℕ) (r : Row) (l : Tree) (t : Tok) (f : Tree) → Rights (node r l t f) s → Rights l s
unfolding faults_in faults_kids
right_left s r l t f z = all_left (faults_in ℕ asking right_not l s 0) _ z

right_here : (s : ℕ) (r : Row) (l : Tree) (t : Tok) (f : Tree) → Rights (node r l t f) s → (right_not s r l t nil ≡ 0) × AllZero (faults_kids ℕ asking right_not f s r l t)
unfolding faults_in faults_kids
right_here s r l t f z = all_right (faults_in ℕ asking right_not l s 0) (right_not s r l t nil ∷ faults_kids ℕ asking right_not f s r l t) z

rights_left : (s : ℕ) (r : Row) (l : Tree) (t : Tok) (f x : Tree) → AllZero (faults_kids ℕ asking right_not (add f x) s r l t) → AllZero (faults_kids ℕ asking right_not f s r l t)
unfolding faults_kids
rights_left s r l t f x z = all_left (faults_kids ℕ asking right_not f s r l t) _ z

right_child : (s : ℕ) (r : Row) (l : Tree) (t : Tok) (f : Tree) (q : Row) (m : Tree) (u : Tok) (g : Tree) → AllZero (faults_kids ℕ asking right_not (add f (node q m u g)) s r l t) → Rights (node q m u g) (asked_at r.items (parts_so_far f))
unfolding faults_in faults_kids
right_child s r l t f q m u g z = all_right (faults_kids ℕ asking right_not f s r l t) (faults_in ℕ asking right_not (node q m u g) (asked_at r.items (parts_so_far f)) 0) z

-- of what stands in c: where levels count there is none
abbrev Counts : Around → Type 0 → Type 0
Counts c P = leb 1 c.level ≡ true → P

abbrev Grown : List Item → List Item → Around → Tree → Type 0
Grown full rest c f = (ks' : KidsOf rest c) → (ks : KidsOf full c) × (grow c full ks nil ≡ grow c rest ks' f)

cap_here : (q : Row) (l : Tree) (s : Tok) (f : Tree) (n : ℕ) → leb n (min q.cap (cap_of f)) ≡ true → leb n (cap_of (node q l s f)) ≡ true
unfolding cap_of
cap_here q l s f n h = h

mutual
  unfolding grow sound

  opens_result : {A : Nt} {l : Tree} {t : Tok} {r : Row} → Opens G A l t r → proper A ≡ true → (c : Around) → Clean l c → Counts c (Rights l A.least) → AllFit (toks l) → Fit t → Wholly A.of r c l t
  opens_result {A} {t = t} {r = r} (head e) pa c z rl fl h = begins_here A c t r e h
  opens_result {A} {t = t} {r = r} (tail {l = l} {s = s} {q = q} {f = f} o p e) pa c z rl fl h =
      let fn = fit_node q l s f fl in
      let ks = kids p c q l s (node_kids c q l s f z) A.least (λ i. (right_here A.least q l s f (rl i)).1) refl fn.1 (both_r (leb q.str 12) (proper_items q.items) (opens_sound o)) tt in
      let same : node q l s (grow (below q c) q.items ks.0 nil) ≡ node q l s f = ap (node q l s) ks.1 in
      let x : Result A.of q c (node q l s f) = subst (Result A.of q c) same
      (opens_result o pa c (node_left c q l s f z) (λ i. right_left A.least q l s f (rl i)) (fit_node_left q l s f fl) fn.0 ks.0 (subst (λ y. Clean y c) (sym same) z)) in
      let g = cont_found sql A q (cap_of f) t.kind r e in
      goes_here A c t q r (node q l s f) x (both_l (leb q.str 12) _ (opens_sound o)) z g.0 g.2 (cap_here q l s f r.left g.3) (tight_enough A t.kind r pa g.0 g.1) h

  kids : {full rest : List Item} {f : Tree} → Part G full rest f → (c : Around) (r : Row) (l : Tree) (t : Tok) → AllZero (faults_kids Around under judge f c r l t)
      → (a : ℕ) → Counts c (AllZero (faults_kids ℕ asking right_not f a r l t)) → r.items ≡ full → AllFit (toks f) → proper_items full ≡ true → Grown full rest (below r c) f
  kids begin c r l t z a rs e fl pr = λ ks. (ks, refl)
  kids (token {f = f} {u = u} p e) c r l t z a rs i fl pr = λ ks. kids p c r l t (kids_left c r l t f (leaf u) z) a (λ n. rights_left a r l t f (leaf u) (rs n)) i (fit_kids f (leaf u) fl).0 pr (u, e, ks)
  kids (absent {f = f} p e) c r l t z a rs i fl pr = λ ks. kids p c r l t (kids_left c r l t f nil z) a (λ n. rights_left a r l t f nil (rs n)) i (fit_kids f nil fl).0 pr (nil, left_out e, ks)
  kids {full} {rest} (child {f = f} {B = B} {q = q} {l = m} {s = s} {g = g} p o pg) c r l t z a rs i fl pr = λ ks.
      let x : Tree = node q m s g in
      let zx = kids_child c r l t f q m s g z in
      let fx = (fit_kids f x fl).1 in
      let fn = fit_node q m s g fx in
      let asked : asked_at r.items (parts_so_far f) ≡ B.least = ap (λ is. asked_at is (parts_so_far f)) i ∙ asked_part p in
      let rx : Counts (below r c) (Rights x B.least) = λ n. subst (Rights x) asked (right_child a r l t f q m s g (rs (counts_back r c n))) in
      let ys = kids pg (below r c) q m s (node_kids (below r c) q m s g zx) B.least (λ n. (right_here B.least q m s g (rx n)).1) refl fn.1 (both_r (leb q.str 12) (proper_items q.items) (opens_sound o)) tt in
      let same : node q m s (grow (below q (below r c)) q.items ys.0 nil) ≡ x = ap (node q m s) ys.1 in
      let y : Result B.of q (below r c) x = subst (Result B.of q (below r c)) same
      (opens_result o (suffix_proper (part_suffix G p) pr) (below r c) (node_left (below r c) q m s g zx) (λ n. right_left B.least q m s g (rx n)) (fit_node_left q m s g fx) fn.0 ys.0 (subst (λ y. Clean y (below r c)) (sym same) zx)) in
      let le = row_least sql B q (row_of G o) in
      let tw = both_l (leb q.str 12) _ (opens_sound o) in
      kids p c r l t (kids_left c r l t f x z) a (λ n. rights_left a r l t f x (rs n)) i (fit_kids f x fl).0 pr
      (x, there (suffix_proper (part_suffix G p) pr) le tw (λ n ex. spare o le tw (right_here B.least q m s g (rx n)).0 ex) y, ks)

pub results : {A : Nt} {r : Row} {x : Tree} → Ok G A r x → proper A ≡ true → (c : Around) → Clean x c → (leb 1 c.level ≡ true → AllZero (faults_in ℕ asking right_not x A.least 0)) → AllFit (toks x) → Result A.of r c x
unfolding grow sound
results {A} {r} (whole {l = l} {t = t} {f = f} o p) pa c z rx fl =
    let fn = fit_node r l t f fl in
    let ks = kids p c r l t (node_kids c r l t f z) A.least (λ n. (right_here A.least r l t f (rx n)).1) refl fn.1 (both_r (leb r.str 12) (proper_items r.items) (opens_sound o)) tt in
    let same : node r l t (grow (below r c) r.items ks.0 nil) ≡ node r l t f = ap (node r l t) ks.1 in
    subst (Result A.of r c) same (opens_result o pa c (node_left c r l t f z) (λ n. right_left A.least r l t f (rx n)) (fit_node_left r l t f fl) fn.0 ks.0 (subst (λ y. Clean y c) (sym same) z))

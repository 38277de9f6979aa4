-- The step of a line of the table: from what is found for the children, and the left operand, to what is found for the whole. One for each
-- kind of row: a part (head_step), a list's rest (listed), an expression that begins (core_head), one that goes on (core_tail). Assumes nothing.
use mathlib.Core.Bool.{true, false, Bool}
use mathlib.Core.List.{List, [], ◌∷◌, ◌++◌}
use mathlib.Core.Logic.{inl, inr}
use mathlib.Core.Option.{some}
use mathlib.Core.Path.{◌≡◌, refl, sym, ap, ◌∙◌, subst}
use Prim.Native.Nat.{ℕ, ◌≤◌, min, zero, suc}
use borrow.Author.Tests.{leb-false}
use lib.Dec.{eqb, leb}
use native.Mathlib.Omega.{arith}
use Rattle.theory.specs.Trees.{Tok, Row, Tree, nil, add, leaf, node, toks, cap_of}
use Rattle.theory.specs.Table.{Line, pick, both, mem, lookup, enter_of}
use Rattle.theory.specs.Derives.{Opens, head, tail, begin, Ok, whole}
use Rattle.theory.specs.Judged.{faults_in, faults_kids}
use Rattle.theory.proofs.Cases.{by_bool, 0≢1, both_l, both_r, eqb_eq, leb_le, le-leb}
use Rattle.theory.proofs.Tested.{notb, asked_some, cont_some}
use Rattle.kinds.specs.Fit.{fit_text, fits}
use Rattle.grammar.specs.Classes.{Column, any, Paren}
use Rattle.grammar.specs.Nodes.{Nodes}
use Rattle.grammar.specs.Rows.{exprs}
use Rattle.grammar.specs.Grammar.{sql, G}
use Rattle.grammar.specs.Sizes.{LEVELS}
use Rattle.grammar.specs.Limits.{Around, is_query, is_expression, begun, judge}
use Rattle.grammar.specs.Reading.{Val, empty, one, choose, value_of, value, values}
use Rattle.grammar.specs.Meaning.{meaning}
use Rattle.grammar.specs.Writing.{Piece, at, forms}
use Rattle.grammar.specs.Promise.{AllFit}
use Rattle.grammar.proofs.LevelsHold.{no_strength}
use Rattle.canon.proofs.Counted.{below, deeper, raise}
use Rattle.canon.proofs.Folds.{P}
use Rattle.canon.proofs.Says.{Operand, Cored, Says}
use Rattle.canon.proofs.Forms.{Clean, Deep, as_tight, in_pair, spared, Stands, gone, here, More, Pack, told, Form, reach, Core, Wide, Result, core, plain, left_out, KidsOf, grow, Said, vs, ws, tk, fits_at}
use Rattle.canon.proofs.Places.{AllOf, by_mem}
use Rattle.canon.proofs.Place.{Placed, form_less, le_trans, fits_more, reach_any, placed, place}
use Rattle.canon.proofs.Asks.{asked_any}
use Rattle.canon.proofs.Rebuild.{said, regrow, regrow_part, items_fit, quiet, not-true, ends_open, kept, new, new_clean, new_toks, new_fit, old_value, new_value, new_cap, keep}
use Rattle.canon.proofs.Lines.{Finds}

abbrev pub Fit : Tok → Type 0
Fit t = fits t.kind t.text ≡ true

abbrev pub HeadStep : Line → Type 0
HeadStep e = (C : ℕ) → mem C e.of ≡ true → Finds e sql.heads → (c : Around) (t : Tok) → mem t.kind e.at ≡ true → Fit t
    → (ks : KidsOf e.row.items (below e.row c)) → Clean (node e.row nil t (grow (below e.row c) e.row.items ks nil)) c
    → Result C e.row c (node e.row nil t (grow (below e.row c) e.row.items ks nil))

abbrev pub TailStep : Line → Type 0
TailStep e = (C : ℕ) → mem C e.of ≡ true → Finds e sql.tails → (c : Around) (q : Row) (l : Tree) → Result C q c l
    → leb e.row.left q.str ≡ true → leb q.str 12 ≡ true → leb e.row.left (cap_of l) ≡ true → fits_at C e.row.left ≡ true → Clean l c
    → (t : Tok) → mem t.kind e.at ≡ true → Fit t
    → (ks : KidsOf e.row.items (below e.row c)) → Clean (node e.row l t (grow (below e.row c) e.row.items ks nil)) c
    → Result C e.row c (node e.row l t (grow (below e.row c) e.row.items ks nil))

-- how tightly a row holds: what it is, and what it leaves
abbrev pub held : Row → ℕ
held r = min r.str r.cap

-- ── what a row must show: its canonical token, and what it says ──
abbrev pub HeadSays : List ℕ → Row → ℕ → Type 0
HeadSays ks r C = (t : Tok) → mem t.kind ks ≡ true → Fit t → (S : Said r.items)
    → (u : Tok) × (mem u.kind ks ≡ true) × Fit u × Says (any C) (value_of r.code empty t (vs r.items S)) (value_of r.code empty u (ws r.items S)) (u ∷ tk r.items S)

abbrev pub ListSays : List ℕ → Row → ℕ → Type 0
ListSays ks r C = (v w : Val) (ts : List Tok) → Says (any C) v w ts → (t : Tok) → mem t.kind ks ≡ true → Fit t → (S : Said r.items)
    → (u : Tok) × (mem u.kind ks ≡ true) × Fit u × Says (any C) (value_of r.code v t (vs r.items S)) (value_of r.code w u (ws r.items S)) (ts ++ (u ∷ tk r.items S))

abbrev pub CoreHead : List ℕ → Row → Type 0
CoreHead ks r = (t : Tok) → mem t.kind ks ≡ true → Fit t → (S : Said r.items)
    → (u : Tok) × (mem u.kind ks ≡ true) × Fit u × Cored (held r) (value_of r.code empty t (vs r.items S)) (value_of r.code empty u (ws r.items S)) (u ∷ tk r.items S)

abbrev pub CoreTail : List ℕ → Row → Type 0
CoreTail ks r = (v w : Val) (ts : List Tok) → Operand r.left v w ts → (t : Tok) → mem t.kind ks ≡ true → Fit t → (S : Said r.items)
    → (u : Tok) × (mem u.kind ks ≡ true) × Fit u × Cored (held r) (value_of r.code v t (vs r.items S)) (value_of r.code w u (ws r.items S)) (ts ++ (u ∷ tk r.items S))

-- ── parts ──
pub plainly : (C : ℕ) (r : Row) (c : Around) (x : Tree) → leb 1 r.str ≡ false → Wide C x → Pack (any C) c x → Result C r c x
plainly C r c x e w p = plain (inl e) w (λ s h. subst (λ z. Pack (record { of = C; least = z }) c x) (zero s h) p)
  where
    zero : (s : ℕ) → leb s r.str ≡ true → 0 ≡ s
    zero s h = let a = leb_le s r.str h in by_bool (leb 1 r.str) (λ g. 0≢1 (sym e ∙ g)) (λ g. nat_cases r.str s g a)
      where
        nat_cases : (n s : ℕ) → leb 1 n ≡ false → s ≤ n → 0 ≡ s
        nat_cases n s g a = let b = leb-false 1 n g in omega arith

pub begins_zero : (c : Around) (r : Row) (t : Tok) (f : Tree) → Clean (node r nil t f) c → begun c r nil ≡ 0
unfolding faults_in faults_kids judge
begins_zero c r t f z = z.0

pub head_opens : (e : Line) (D : ℕ) (k : Tok) → Finds e sql.heads → mem D e.of ≡ true → mem k.kind e.at ≡ true → Opens G (any D) nil k e.row
unfolding enter_of
head_opens e D k f m n = head (asked_some 0 (lookup D k.kind sql.heads) e.row (f D k.kind m n) (le-leb 0 e.row.str (omega arith)))

-- a class of a line: the test of the row there, that no more is said of its trees, and what it says
abbrev pub Good : Line → ℕ → Type 0
Good e C = (kept C e.row ≡ true)
    × ((c : Around) (t u : Tok) (ks : KidsOf e.row.items (below e.row c)) → mem u.kind e.at ≡ true → Fit u
    → More C c (node e.row nil t (grow (below e.row c) e.row.items ks nil)) (node e.row nil u (regrow (below e.row c) e.row.items ks nil))) × HeadSays e.at e.row C × ((t : Tok) (f : Tree) → Wide C (node e.row nil t f))

pub head_step : (e : Line) → leb 1 e.row.str ≡ false → AllOf (Good e) e.of → HeadStep e
unfolding toks value faults_in
head_step e s all C m f c t n h ks z =
    let g = by_mem (Good e) e.of all C m in
    let a = g.2 t n h (said (below e.row c) e.row.items ks) in
    let x = grow (below e.row c) e.row.items ks nil in
    plainly C e.row c (node e.row nil t x) s (g.3 t x)
    (keep C e.row c nil nil t a.0 ks g.0 (head_opens e C a.0 f m a.1) tt (begins_zero c e.row t x z) tt a.2 a.3
    (g.1 c t a.0 ks a.1 a.2))

-- ── lists ──
-- rows that begin with no word of the limits
unfoldable pub calm : Row → Bool
calm r = both (eqb r.str 0) (both (eqb r.left 0) (notb (is_query r.code)))

pub calm_begun : (c : Around) (r : Row) (l : Tree) → calm r ≡ true → begun c r l ≡ 0
unfolding calm begun pick both notb
calm_begun c r nil e = rw (no_strength r (eqb_eq r.str 0 (both_l (eqb r.str 0) _ e)), not-true (is_query r.code) (both_r (eqb r.left 0) _ (both_r (eqb r.str 0) _ e)))
calm_begun c r (add f x) e = refl
calm_begun c r (leaf t) e = refl
calm_begun c r (node q l t f) e = refl

pub record Lister (C : ℕ) (ks : List ℕ) (r : Row) : Type 0 where
  pub tested : kept C r ≡ true
  pub calmly : calm r ≡ true
  pub heads : (k : ℕ) → mem k ks ≡ true → lookup C k sql.heads ≡ some r
  pub tails : (k : ℕ) → mem k ks ≡ true → lookup C k sql.tails ≡ some r
  pub optional : G.nullable (any C) ≡ true
  pub other : mem C exprs ≡ false
  pub wide : (x : Tree) → Wide C x
  pub says : ListSays ks r C
  pub more : (c : Around) (l l' : Tree) (t t' : Tok) (f f' : Tree) → More C c l l' → More C c (node r l t f) (node r l' t' f')

pub list_opens : (C : ℕ) (r : Row) (u : Tok) {l : Tree} → lookup C u.kind sql.heads ≡ some r → lookup C u.kind sql.tails ≡ some r → calm r ≡ true
    → Stands (any C) l → Opens G (any C) l u r
unfolding enter_of calm
list_opens C r u a b e (gone n) = head (asked_some 0 (lookup C u.kind sql.heads) r a (le-leb 0 r.str (omega arith)))
list_opens C r u a b e (here {q = q} (whole {f = f} o p)) =
    let z = eqb_eq r.left 0 (both_l (eqb r.left 0) _ (both_r (eqb r.str 0) _ e)) in
    tail o p (cont_some sql (any C) q (cap_of f) u.kind r b (le-leb 0 r.str (omega arith)) (le-leb r.left q.str (omega arith)) (le-leb r.left _ (omega arith)))

pub listed : (C : ℕ) (ks : List ℕ) (r : Row) → Lister C ks r → (c : Around) (l : Tree) → Pack (any C) c l → (t : Tok) → mem t.kind ks ≡ true → Fit t
    → (k : KidsOf r.items (below r c)) → Pack (any C) c (node r l t (grow (below r c) r.items k nil))
listed C ks r L c l p t n h k =
    let a = L.says (value l) (value p.y) (toks p.y) p.says t n h (said (below r c) r.items k) in
    keep C r c l p.y t a.0 k L.tested (list_opens C r a.0 (L.heads a.0.kind a.1) (L.tails a.0.kind a.1) L.calmly p.stands)
    p.clean (calm_begun c r p.y L.calmly) p.fit a.2 a.3 (L.more c l p.y t a.0 _ _ p.more)

pub calm_str : (r : Row) → calm r ≡ true → leb 1 r.str ≡ false
unfolding calm
calm_str r e = rw (eqb_eq r.str 0 (both_l (eqb r.str 0) _ e))

pub only_class : (C D : ℕ) → mem D (C ∷ []) ≡ true → C ≡ D
unfolding mem
only_class C D m = by_mem (λ z. C ≡ z) (C ∷ []) (refl, tt) D m

pub list_head : (C : ℕ) (ks : List ℕ) (r : Row) → Lister C ks r → HeadStep (record { of = C ∷ []; at = ks; row = r })
list_head C ks r L D m f c t n h k z = subst (λ X. Result X r c (node r nil t (grow (below r c) r.items k nil))) (only_class C D m)
    (plainly C r c (node r nil t (grow (below r c) r.items k nil)) (calm_str r L.calmly) (L.wide (node r nil t (grow (below r c) r.items k nil))) (listed C ks r L c nil (place (any C) c (left_out L.optional)) t n h k))

pub left_pack : (C : ℕ) (q : Row) (c : Around) (l : Tree) → mem C exprs ≡ false → Result C q c l → Pack (any C) c l
left_pack C q c l e (core m k) = 0≢1 (sym e ∙ m)
left_pack C q c l e (plain b wd f) = f 0 (le-leb 0 q.str (omega arith))

pub list_tail : (C : ℕ) (ks : List ℕ) (r : Row) → Lister C ks r → TailStep (record { of = C ∷ []; at = ks; row = r })
list_tail C ks r L D m f c q l x a b d i zl t n h k z = subst (λ X. Result X r c (node r l t (grow (below r c) r.items k nil))) (only_class C D m)
    (plainly C r c (node r l t (grow (below r c) r.items k nil)) (calm_str r L.calmly) (L.wide (node r l t (grow (below r c) r.items k nil)))
    (listed C ks r L c l (left_pack C q c l L.other (subst (λ X. Result X q c l) (sym (only_class C D m)) x)) t n h k))

-- ── expressions ──
-- the test of a row of an expression
unfoldable pub solid_row : Row → Bool
solid_row r = both (quiet r) (both (items_fit r.items) (both (leb (held r) r.cap) (both (ends_open (held r) r.items) (both (both (leb 1 (held r)) (is_expression r)) (notb (mem r.code told))))))

pub record Solid (r : Row) : Type 0 where
  pub quiets : quiet r ≡ true
  pub fitting : items_fit r.items ≡ true
  pub open_cap : leb (held r) r.cap ≡ true
  pub open_end : ends_open (held r) r.items ≡ true
  pub strong : leb 1 (held r) ≡ true
  pub expression : is_expression r ≡ true
  pub untold : mem r.code told ≡ false

pub solid_row_lem : (r : Row) → solid_row r ≡ true → Solid r
unfolding solid_row notb
solid_row_lem r e =
    let a = both_r (quiet r) _ e in
    let b = both_r (items_fit r.items) _ a in
    let d = both_r (leb (held r) r.cap) _ b in
    let f = both_r (ends_open (held r) r.items) _ d in
    record {
      quiets = both_l (quiet r) _ e;
      fitting = both_l (items_fit r.items) _ a;
      open_cap = both_l (leb (held r) r.cap) _ b;
      open_end = both_l (ends_open (held r) r.items) _ d;
      strong = both_l (leb 1 (held r)) _ (both_l (both (leb 1 (held r)) (is_expression r)) _ f);
      expression = both_r (leb 1 (held r)) _ (both_l (both (leb 1 (held r)) (is_expression r)) _ f);
      untold = not-true (mem r.code told) (both_r (both (leb 1 (held r)) (is_expression r)) _ f);
    }

column_expr : mem Column exprs ≡ true
unfolding mem pick exprs
column_expr = refl

pub reach_expr : (C D : ℕ) → reach C D ≡ true → mem D exprs ≡ true
unfolding reach choose
reach_expr C D h = by_bool (eqb C Column) (λ e. let g : eqb D Column ≡ true = rw e at h in rw (eqb_eq D Column g) column_expr) (λ e. rw e at h)

-- one form of an expression: this row over this left operand and these children, in class D
module _ (D : ℕ) (r : Row) (c : Around) (l' : Tree) (t' : Tok) (ks : KidsOf r.items (below r c)) (S : Solid r) where
  pub one_form : Opens G (any D) l' t' r → Clean l' c → begun c r l' ≡ 0 → AllFit (toks l') → Fit t' → (n : Nodes) (p : Piece) → held r ≡ p.str
      → toks l' ++ (t' ∷ tk r.items (said (below r c) r.items ks)) ≡ p.toks
      → n ≡ meaning (value_of r.code (value l') t' (ws r.items (said (below r c) r.items ks))).nodes
      → (value_of r.code (value l') t' (ws r.items (said (below r c) r.items ks))).num ≡ 0 → Form D c n p
  unfolding value_of
  one_form o z b a f n p s w m e = record {
    y = new D r c l' l' t' t' ks;
    q = r;
    ok = whole o (regrow_part (below r c) r.items ks begin);
    strong = le-leb p.str r.str (omega (arith, s));
    writes = new_toks D r c l' l' t' t' ks ∙ w;
    same = m ∙ ap (λ z. meaning z.nodes) (sym (new_value D r c l' l' t' t' ks));
    untold = rw (new_value D r c l' l' t' t' ks) S.untold;
    num = ap (λ z. z.num) (new_value D r c l' l' t' t' ks) ∙ e;
    clean = new_clean D r c l' l' t' t' ks S.quiets z b;
    cap = subst (λ z. leb z (cap_of (new D r c l' l' t' t' ks)) ≡ true) s (new_cap D r c l' l' t' t' ks (held r) S.open_cap S.open_end);
    fit = new_fit D r c l' l' t' t' ks S.fitting a f;
  }

-- a row that leaves less than it is, where levels count
loose_spared : (C : ℕ) (r : Row) (c : Around) (l : Tree) (t : Tok) (k : KidsOf r.items (below r c)) (p : Piece) → Solid r → p.str ≡ held r → leb r.str (held r) ≡ false → leb 1 c.level ≡ true
    → Deep r c (node r l t (grow (below r c) r.items k nil)) p
unfolding cap_of
loose_spared C r c l t k p S e h i = spared i S.expression (le-leb _ r.cap (omega arith)) (le-leb r.cap p.str (let j = leb-false r.str (held r) h in omega (arith, e, j)))

level_none : (n m : ℕ) → leb 1 n ≡ false → leb n m ≡ true
level_none n m e = le-leb n m (let h = leb-false 1 n e in omega arith)

raise_none : (n : ℕ) → leb 1 n ≡ false → raise n ≤ n
unfolding raise
raise_none zero e = omega arith
raise_none (suc n) e = absurd (let h = leb-false 1 (suc n) e in omega arith)

-- the row kept, where it begins: in classes `of`, which are all where it may stand
pub core_here : (of ks : List ℕ) (r : Row) → solid_row r ≡ true → ((D : ℕ) → mem D exprs ≡ true → fits_at D (held r) ≡ true → mem D of ≡ true)
    → (C : ℕ) → mem C exprs ≡ true → Finds (record { of = of; at = ks; row = r }) sql.heads → (c : Around) (t : Tok)
    → (k : KidsOf r.items (below r c)) → begun c r nil ≡ 0
    → (u : Tok) → mem u.kind ks ≡ true → Fit u
    → Cored (held r) (value_of r.code empty t (vs r.items (said (below r c) r.items k))) (value_of r.code empty u (ws r.items (said (below r c) r.items k))) (u ∷ tk r.items (said (below r c) r.items k))
    → Core C r c (node r nil t (grow (below r c) r.items k nil))
unfolding toks value values value_of faults_in exprs mem pick
core_here of ks r e all C m f c t k z u i j g =
    let S = solid_row_lem r e in
    let ov = old_value C r c nil nil t t k in
    let form : (D : ℕ) → mem D exprs ≡ true → fits_at D g.p.str ≡ true → Form D c (meaning (value (node r nil t (grow (below r c) r.items k nil))).nodes) g.p
    = λ D d w. one_form D r c nil u k S (head_opens (record { of = of; at = ks; row = r }) D u f (all D d (subst (λ z. fits_at D z ≡ true) g.str w)) i) tt z tt j
    (meaning (value (node r nil t (grow (below r c) r.items k nil))).nodes) g.p (sym g.str) g.toks (ap (λ z. meaning z.nodes) ov ∙ g.same) g.wnum in
    record {
      p = g.p;
      single = ap (λ z. P z.nodes) ov ∙ g.single;
      solid = g.solid;
      tight = rw g.str S.strong;
      num = ap (λ z. z.num) ov ∙ g.vnum;
      untold = S.untold;
      forms = λ D d w. form D (reach_expr C D d) w;
      deep = by_bool (leb r.str (held r)) (λ h. as_tight (rw g.str h)) (λ h. by_bool (leb 1 c.level) (λ i. loose_spared C r c nil t k g.p S g.str h i)
          (λ i. in_pair (level_none c.level LEVELS i) (form_less Paren c (deeper c) _ g.p (raise_none c.level i) refl (form Paren refl refl))));
    }

pub core_head_in : (of ks : List ℕ) (r : Row) → solid_row r ≡ true → ((D : ℕ) → mem D exprs ≡ true → fits_at D (held r) ≡ true → mem D of ≡ true) → ((D : ℕ) → mem D of ≡ true → mem D exprs ≡ true)
    → CoreHead ks r → HeadStep (record { of = of; at = ks; row = r })
core_head_in of ks r e all among says C m f c t n h k z =
    let a = says t n h (said (below r c) r.items k) in
    core (among C m) (core_here of ks r e all C (among C m) f c t k (begins_zero c r t (grow (below r c) r.items k nil) z) a.0 a.1 a.2 a.3)

pub core_head : (ks : List ℕ) (r : Row) → solid_row r ≡ true → CoreHead ks r → HeadStep (record { of = exprs; at = ks; row = r })
core_head ks r e says = core_head_in exprs ks r e (λ D m w. m) (λ D m. m) says

pub node_begun : (D : ℕ) (c : Around) (r q : Row) (y : Tree) → Ok G (any D) q y → begun c r y ≡ 0
unfolding begun
node_begun D c r q y (whole o p) = refl

pub tail_opens : (e : Line) (D : ℕ) (q : Row) (l : Tree) (k : Tok) → Finds e sql.tails → mem D e.of ≡ true → mem k.kind e.at ≡ true → leb e.row.left q.str ≡ true
    → leb e.row.left (cap_of l) ≡ true → Ok G (any D) q l → Opens G (any D) l k e.row
unfolding cap_of
tail_opens e D q l k f m n a d (whole {f = g} o p) =
    tail o p (cont_some sql (any D) q (cap_of g) k.kind e.row (f D k.kind m n) (le-leb 0 e.row.str (omega arith)) a d)

pub left_core : (C : ℕ) (q : Row) (c : Around) (l : Tree) (s : ℕ) → leb 1 s ≡ true → leb s q.str ≡ true → leb s (cap_of l) ≡ true → fits_at C s ≡ true → Result C q c l → Core C q c l
left_core C q c l s i a b w (core m k) = k
left_core C q c l s i a b w (plain (inl e) wd f) = 0≢1 (sym e ∙ le-leb 1 q.str (let x = leb_le 1 s i in let y = leb_le s q.str a in omega arith))
left_core C q c l s i a b w (plain (inr (inl e)) wd f) = absurd (let x = leb_le 1 s i in let y = leb_le s (cap_of l) b in omega arith)
left_core C q c l s i a b w (plain (inr (inr e)) wd f) = 0≢1 (sym e.1 ∙ le_trans 5 s (cap_of l) (subst (λ z. fits_at z s ≡ true) e.0 w) b)

-- the left operand at its place in class D
module _ (s : ℕ) (C : ℕ) (c : Around) (q : Row) (l : Tree) (x : Core C q c l) (a : leb s q.str ≡ true) (b : leb q.str 12 ≡ true) (e : leb s (cap_of l) ≡ true) where
  pub left_at : (D : ℕ) → reach C D ≡ true → fits_at D s ≡ true → Placed D s c (meaning (value l).nodes) x.p
  left_at D d w = placed C D s q c l x d w (reach_expr C D d) a b (λ i j h. le_trans s (cap_of l) q.cap e h)

  pub left_says : (D : ℕ) (d : reach C D ≡ true) (w : fits_at D s ≡ true) → Operand s (value l) (value (left_at D d w).y) (toks (left_at D d w).y)
  left_says D d w = record { p = x.p; single = x.single; solid = x.solid; tight = x.tight; full = (left_at D d w).full; same = (left_at D d w).same; toks = (left_at D d w).writes }

-- a row after any such left operand: its token, its tokens, its meaning
abbrev pub AfterSays : List ℕ → (r : Row) (c : Around) → Val → KidsOf r.items (below r c) → Nodes → Piece → Type 0
AfterSays ks r c v k n p = (w : Val) (ts : List Tok) → Operand r.left v w ts
    → (u : Tok) × (mem u.kind ks ≡ true) × Fit u × (ts ++ (u ∷ tk r.items (said (below r c) r.items k)) ≡ p.toks)
    × (n ≡ meaning (value_of r.code w u (ws r.items (said (below r c) r.items k))).nodes) × ((value_of r.code w u (ws r.items (said (below r c) r.items k))).num ≡ 0)

-- it goes on from a left operand, however loose
unfoldable pub from_any : Row → Bool
from_any r = both (solid_row r) (both (leb 1 r.left) (both (leb (held r) r.left) (leb r.str (held r))))

pub after_form : (ks : List ℕ) (r : Row) → from_any r ≡ true → Finds (record { of = exprs; at = ks; row = r }) sql.tails
    → (C : ℕ) (c : Around) (q : Row) (l : Tree) (x : Core C q c l) → leb r.left q.str ≡ true → leb q.str 12 ≡ true → leb r.left (cap_of l) ≡ true
    → (k : KidsOf r.items (below r c)) (n : Nodes) (p : Piece) → held r ≡ p.str → AfterSays ks r c (value l) k n p
    → (D : ℕ) → reach C D ≡ true → fits_at D p.str ≡ true → Form D c n p
unfolding from_any
after_form ks r e f C c q l x a b cap k n p s says D d w =
    let w = fits_more D p.str r.left (subst (λ z. leb z r.left ≡ true) s (both_l (leb (held r) r.left) _ (both_r (leb 1 r.left) _ (both_r (solid_row r) _ e)))) w in
    let z = left_at r.left C c q l x a b cap D d w in
    let g = says (value z.y) (toks z.y) (left_says r.left C c q l x a b cap D d w) in
    let any_left = asked_any D r.left z.q z.y z.ok in
    one_form D r c z.y g.0 k (solid_row_lem r (both_l (solid_row r) _ e))
    (tail_opens (record { of = exprs; at = ks; row = r }) D z.q z.y g.0 f (reach_expr C D d) g.1 any_left.1 z.cap any_left.0)
    z.clean (node_begun D c r z.q z.y any_left.0) z.fit g.2 n p s g.3 g.4 g.5

-- the row kept after its left operand: what it says of one, it says of all
module _ (ks : List ℕ) (r : Row) (e : from_any r ≡ true) (C : ℕ) (m : mem C exprs ≡ true) (f : Finds (record { of = exprs; at = ks; row = r }) sql.tails)
    (c : Around) (q : Row) (l : Tree) (x : Core C q c l) (a : leb r.left q.str ≡ true) (b : leb q.str 12 ≡ true) (d : leb r.left (cap_of l) ≡ true) (w : fits_at C r.left ≡ true)
    (t : Tok) (k : KidsOf r.items (below r c)) where
  abbrev pub SaysHere : Type 0
  SaysHere = (w : Val) (ts : List Tok) → Operand r.left (value l) w ts
      → (u : Tok) × (mem u.kind ks ≡ true) × Fit u × Cored (held r) (value_of r.code (value l) t (vs r.items (said (below r c) r.items k)))
      (value_of r.code w u (ws r.items (said (below r c) r.items k))) (ts ++ (u ∷ tk r.items (said (below r c) r.items k)))

  pub core_after : SaysHere → Core C r c (node r l t (grow (below r c) r.items k nil))
  unfolding value values value_of from_any
  core_after says =
      let S = solid_row_lem r (both_l (solid_row r) _ e) in
      let y = (left_at r.left C c q l x a b d C (reach_any C m) w).y in
      let g = (says (value y) (toks y) (left_says r.left C c q l x a b d C (reach_any C m) w)).3 in
      let ov = old_value C r c l l t t k in
      record {
        p = g.p;
        single = ap (λ z. P z.nodes) ov ∙ g.single;
        solid = g.solid;
        tight = rw g.str S.strong;
        num = ap (λ z. z.num) ov ∙ g.vnum;
        untold = S.untold;
        forms = after_form ks r e f C c q l x a b d k (meaning (value (node r l t (grow (below r c) r.items k nil))).nodes) g.p (sym g.str)
            (λ w ts o. let h = says w ts o in let one : h.3.p ∷ [] ≡ g.p ∷ [] = sym h.3.single ∙ g.single in let same-p : h.3.p ≡ g.p = cc in
            (h.0, h.1, h.2, h.3.toks ∙ ap (λ z. z.toks) same-p, ap (λ z. meaning z.nodes) ov ∙ h.3.same, h.3.wnum));
        deep = as_tight (rw g.str (both_r (leb (held r) r.left) _ (both_r (leb 1 r.left) _ (both_r (solid_row r) _ e))));
      }

pub core_tail : (ks : List ℕ) (r : Row) → from_any r ≡ true → CoreTail ks r → TailStep (record { of = exprs; at = ks; row = r })
unfolding from_any
core_tail ks r e says C m f c q l x a b d w zl t n h k z =
    core m (core_after ks r e C m f c q l (left_core C q c l r.left (both_l (leb 1 r.left) _ (both_r (solid_row r) _ e)) a d w x) a b d w t k
    (λ w ts o. says (value l) w ts o t n h (said (below r c) r.items k)))

-- all that a row's test computes by
unfoldable pub open_tests : Unit {0}
unfolding pick both mem notb is_query fits fit_text quiet items_fit ends_open kept calm solid_row from_any
open_tests = tt

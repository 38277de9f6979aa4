-- A canonical tree at its place (place): an expression as it is where it is strong enough, and in parentheses where it is not (placed).
-- Where levels count, the parentheses are no deeper than those that stood there. Assumes nothing.
use mathlib.Core.Bool.{true, false, Bool}
use mathlib.Core.List.{List, [], ◌∷◌, ◌++◌}
use mathlib.Core.Logic.{inl}
use mathlib.Core.Option.{some}
use mathlib.Core.Path.{◌≡◌, refl, sym, ap, ◌∙◌, subst}
use Prim.Native.Nat.{ℕ, ◌≤◌}
use borrow.Author.Tests.{le-ltb}
use lib.Dec.{eqb, leb}
use native.Mathlib.Omega.{arith}
use Rattle.theory.specs.Trees.{Tok, Nt, lit, nt, Row, Tree, nil, add, leaf, node, toks, cap_of}
use Rattle.theory.specs.Table.{pick, both, mem, lookup, enter_of, null_of}
use Rattle.theory.specs.Derives.{head, begin, token, child, Ok, whole}
use Rattle.theory.specs.Judged.{faults_in, faults_kids}
use Rattle.theory.proofs.Cases.{by_bool, 0≢1, both_l, both_i, eqb_eq, leb_le, le-leb, both_r}
use Rattle.theory.proofs.Tested.{asked_some}
use Rattle.kinds.specs.Kinds.{LP, RP}
use Rattle.kinds.specs.Fit.{fit_text, fits}
use Rattle.grammar.specs.Classes.{Paren, Rows, Column, StarOrName, SecondName, Exprs?, Offset?, ColRest?, ColDots?, Word2?, Word3?, NameRest?, Dots?, any, IsRight, Expr, Not}
use Rattle.grammar.specs.RowNames.{row_parens}
use Rattle.grammar.specs.Nodes.{Nodes, end, mk}
use Rattle.grammar.specs.Rows.{strong, but_column, exprs, select_items, values_items, lines, heads_of, optional}
use Rattle.grammar.specs.Grammar.{bare, sql, G}
use Rattle.grammar.specs.Sizes.{LEVELS}
use Rattle.grammar.specs.Limits.{Around, is_query, is_expression, further_flags, begun, judge}
use Rattle.grammar.specs.Reading.{Val, empty, says, choose, is_end, rules, ruled, value_of, value, values}
use Rattle.grammar.specs.Meaning.{is_one, meaning}
use Rattle.grammar.specs.Writing.{Piece, at, pieces}
use Rattle.grammar.specs.Promise.{AllFit}
use Rattle.canon.proofs.Counted.{below, under, deeper, all_app, mono}
use Rattle.canon.proofs.Folds.{beside_end, P}
use Rattle.canon.proofs.Says.{Full, Says}
use Rattle.canon.proofs.Forms.{Clean, Deep, as_tight, in_pair, spared, gone, here, pick_t, ColForm, More, Pack, told, Form, reach, Core, core, plain, Kid, left_out, there, fits_at, floor_of, capped, proper}
use Rattle.canon.proofs.Places.{by_mem, open_all, rests_absent, absent_says, no_query, expr_says, AllOf, ◌also◌}
use Rattle.canon.proofs.Asks.{asks}

pub fit_app : (a b : List Tok) → AllFit a → AllFit b → AllFit (a ++ b)
fit_app [] b z w = w
fit_app (n ∷ a) b z w = (z.0, fit_app a b z.1 w)

pub fit_left : (a b : List Tok) → AllFit (a ++ b) → AllFit a
fit_left [] b z = tt
fit_left (n ∷ a) b z = (z.0, fit_left a b z.1)

pub fit_right : (a b : List Tok) → AllFit (a ++ b) → AllFit b
fit_right [] b z = z
fit_right (n ∷ a) b z = fit_right a b z.1

-- ── parentheses around an expression ──
abbrev pub parens_row : Row
parens_row = strong 12 row_parens (nt (any Paren) ∷ lit RP ∷ [])

abbrev pub parens : Tree → Tree
parens y = node parens_row nil (bare LP) (add (add nil y) (leaf (bare RP)))

parens_found : (D : ℕ) → mem D exprs ≡ true → lookup D LP sql.heads ≡ some parens_row
unfolding sql lines but_column exprs select_items values_items heads_of pick both mem lookup
parens_found D m = by_mem (λ C. lookup C LP sql.heads ≡ some parens_row) exprs (refl, (refl, (refl, (refl, (refl, (refl, (refl, tt))))))) D m

parens_ok : (D s : ℕ) (q : Row) (y : Tree) → mem D exprs ≡ true → leb s 12 ≡ true → Ok G (any Paren) q y → Ok G (record { of = D; least = s }) parens_row (parens y)
unfolding enter_of
parens_ok D s q y m h (whole o p) = whole (head (asked_some s (lookup D LP sql.heads) parens_row (parens_found D m) h)) (token (child begin o p) refl)

pub single_one : (n : Nodes) (p : Piece) → pieces n ≡ p ∷ [] → is_one n ≡ true
unfolding pieces is_one is_end
single_one end p e = absurd (let z : ◌≡◌ {A = ℕ} 0 1 = cc in omega arith)
single_one (mk c d ks end) p e = refl
single_one (mk c d ks (mk c' d' ks' ns)) p e = absurd (let z : ◌≡◌ {A = List Piece} (pieces (mk c' d' ks' ns)) [] = cc in let z : ◌≡◌ {A = ℕ} 0 1 = cc in omega arith)

pub parens_value : (w : Val) (n : Nodes) (t u : Tok) (p : Piece) → n ≡ meaning w.nodes → pieces n ≡ p ∷ [] → mem w.row told ≡ false
    → n ≡ meaning (value_of row_parens empty t (w ∷ empty ∷ [])).nodes
unfolding open_all
parens_value w n t u p e s m = simp (no_query w.row m, beside_end, sym e, single_one n p s)

parens_clean : (c : Around) (y : Tree) → leb c.level LEVELS ≡ true → Clean y (deeper c) → Clean (parens y) c
unfolding faults_in faults_kids judge begun below is_query pick both
parens_clean c y h z = rw (le-ltb LEVELS c.level (leb_le c.level LEVELS h)) (refl, all_app (faults_in Around under judge y (deeper c) 0) (0 ∷ []) z (refl, tt))

-- ── an expression at a place ──
pub record Placed (D s : ℕ) (c : Around) (n : Nodes) (p : Piece) : Type 0 where
  pub y : Tree
  pub q : Row
  pub ok : Ok G (record { of = D; least = s }) q y
  pub writes : toks y ≡ at s p
  pub same : n ≡ meaning (value y).nodes
  pub untold : mem (value y).row told ≡ false
  pub num : (value y).num ≡ 0
  pub clean : Clean y c
  pub cap : leb s (cap_of y) ≡ true
  pub fit : AllFit (toks y)
  pub full : Full p

some_toks : (a b : List Tok) (t : Tok) → (u : Tok) × (us : List Tok) × (a ++ (t ∷ b) ≡ u ∷ us)
some_toks [] b t = (t, b, refl)
some_toks (u ∷ a) b t = (u, a ++ (t ∷ b), refl)

ok_toks : {A : Nt} {q : Row} {y : Tree} → Ok G A q y → (u : Tok) × (us : List Tok) × (toks y ≡ u ∷ us)
unfolding toks
ok_toks (whole {l = l} {t = t} {f = f} o p) = some_toks (toks l) (toks f) t

form_full : (D : ℕ) (c : Around) (n : Nodes) (p : Piece) → Form D c n p → Full p
form_full D c n p f = let e = ok_toks f.ok in (e.0, e.1, sym f.writes ∙ e.2)

pub le_trans : (a b c : ℕ) → leb a b ≡ true → leb b c ≡ true → leb a c ≡ true
le_trans a b c h g = le-leb a c (let i = leb_le a b h in let j = leb_le b c g in omega arith)

-- what stands less deep, or where no level counts
pub form_less : (D : ℕ) (c d : Around) (n : Nodes) (p : Piece) → d.level ≤ c.level → d.opened ≡ c.opened → Form D c n p → Form D d n p
form_less D c d n p h e f = record {
  y = f.y;
  q = f.q;
  ok = f.ok;
  strong = f.strong;
  writes = f.writes;
  same = f.same;
  untold = f.untold;
  num = f.num;
  clean = mono f.y c d 0 h e f.clean;
  cap = f.cap;
  fit = f.fit;
}

bare_placed : (D s : ℕ) (c : Around) (n : Nodes) (p : Piece) → Form D c n p → leb s p.str ≡ true → Placed D s c n p
unfolding at choose
bare_placed D s c n p f h = record {
  y = f.y;
  q = f.q;
  ok = asks D s f.q f.y f.ok (le_trans s p.str f.q.str h f.strong);
  writes = rw h f.writes;
  same = f.same;
  untold = f.untold;
  num = f.num;
  clean = f.clean;
  cap = le_trans s p.str (cap_of f.y) h f.cap;
  fit = f.fit;
  full = form_full D c n p f;
}

in_parens : (D s : ℕ) (c : Around) (n : Nodes) (p : Piece) → mem D exprs ≡ true → leb s 12 ≡ true → leb s p.str ≡ false → pieces n ≡ p ∷ []
    → leb c.level LEVELS ≡ true → Form Paren (deeper c) n p → Placed D s c n p
unfolding at choose toks value values value_of ruled rules pick both mem cap_of fits fit_text
in_parens D s c n p m h b e l f = record {
  y = parens f.y;
  q = parens_row;
  ok = parens_ok D s f.q f.y m h f.ok;
  writes = rw b (ap (λ z. bare LP ∷ (z ++ (bare RP ∷ []))) f.writes);
  same = parens_value (value f.y) n (bare LP) (bare RP) p f.same e f.untold;
  untold = refl;
  num = refl;
  clean = parens_clean c f.y l f.clean;
  cap = le_trans s 12 99 h refl;
  fit = (refl, fit_app (toks f.y) (bare RP ∷ []) f.fit (refl, tt));
  full = form_full Paren (deeper c) n p f;
}

pub reach_any : (C : ℕ) → mem C exprs ≡ true → reach C C ≡ true
unfolding reach choose
reach_any C m = by_bool (eqb C Column) (λ h. rw h) (λ h. rw (h, m))

pub paren_expr : mem Paren exprs ≡ true
unfolding mem pick exprs
paren_expr = refl

-- what is tight enough for a place after IS, tighter too
pub fits_more : (D s t : ℕ) → leb s t ≡ true → fits_at D s ≡ true → fits_at D t ≡ true
fits_more D s t h w = by_bool (eqb D IsRight) (λ e. rw e (le_trans 5 s t (rw e at w) h)) (λ e. rw e)

pub placed : (C D s : ℕ) (r : Row) (c : Around) (x : Tree) (k : Core C r c x) → reach C D ≡ true → fits_at D s ≡ true → mem D exprs ≡ true → leb s r.str ≡ true → leb r.str 12 ≡ true
    → (leb 1 c.level ≡ true → is_expression r ≡ true → leb (cap_of x) r.cap ≡ true → leb s r.cap ≡ true) → Placed D s c (meaning (value x).nodes) k.p
placed C D s r c x k a i m h t sp = by_bool (leb s k.p.str) (λ e. bare_placed D s c (meaning (value x).nodes) k.p (k.forms D a (fits_more D s k.p.str e i)) e) (λ e. deeply e k.deep)
  where
    deeply : leb s k.p.str ≡ false → Deep r c x k.p → Placed D s c (meaning (value x).nodes) k.p
    deeply e (spared a b d g) = 0≢1 (sym e ∙ le_trans s r.cap k.p.str (sp a b d) g)
    deeply e (as_tight g) = 0≢1 (sym e ∙ le-leb s k.p.str (let i = leb_le s r.str h in let j = leb_le r.str k.p.str g in omega arith))
    deeply e (in_pair l g) = in_parens D s c (meaning (value x).nodes) k.p m (le-leb s 12 (let i = leb_le s r.str h in let j = leb_le r.str 12 t in omega arith)) e k.single l g

-- ── a child at its place ──
pick_t_case : (b : Bool) (P : Type 0) (Q : Unit {0} → Type 0) → P → Q tt → pick_t b P Q
pick_t_case true P Q p q = p
pick_t_case false P Q p q = q

further_nil : further_flags nil ≡ (value nil).num
unfolding further_flags value
further_nil = refl

rest_null : G.nullable (any ColRest?) ≡ true
unfolding null_of sql both optional mem pick
rest_null = refl

dots_null : G.nullable (any ColDots?) ≡ true
unfolding null_of sql both optional mem pick
dots_null = refl

no_second : (C : ℕ) (c : Around) → G.nullable (any C) ≡ true → eqb C SecondName ≡ false
unfolding null_of sql both optional mem pick
no_second C c n = by_bool (eqb C SecondName) (λ h. 0≢1 (subst (λ z. G.nullable (any z) ≡ true) (eqb_eq C SecondName h) n)) (λ h. h)

absent_col : (C : ℕ) (c : Around) → G.nullable (any C) ≡ true → ColForm C c nil
unfolding cap_of toks value faults_in
absent_col C c n = (nil, gone n, tt, refl, tt, rests_absent)

absent_more : (C : ℕ) (c : Around) → G.nullable (any C) ≡ true → More C c nil nil
unfolding value
absent_more C c n = rw (no_second C c n) (pick_t_case (eqb C NameRest?) _ _ (absent_col ColRest? c rest_null) (pick_t_case (eqb C Dots?) _ _ (absent_col ColDots? c dots_null)
    (pick_t_case (eqb C ColRest?) _ _ (λ e. 0≢1 e) (pick_t_case (eqb C ColDots?) _ _ (λ e. 0≢1 e) (pick_t_case (eqb C StarOrName) _ _ (λ e. 0≢1 e)
    (pick_t_case (eqb C Exprs?) _ _ refl (pick_t_case (eqb C Rows) _ _ refl (pick_t_case (eqb C Word2?) _ _ further_nil (pick_t_case (eqb C Word3?) _ _ further_nil (pick_t_case (eqb C Offset?) _ _ (inl refl) tt))))))))))

expr_more : (C : ℕ) (c : Around) (x y : Tree) → mem C exprs ≡ true → More C c x y
unfolding exprs
expr_more C c x y m = by_mem (λ C. More C c x y) exprs (tt, (tt, (tt, (tt, (tt, (tt, (tt, tt))))))) C m

any_null : (B : Nt) → G.nullable B ≡ true → G.nullable (any B.of) ≡ true
unfolding null_of
any_null B n = both_i (mem B.of sql.nulls) true (both_l (mem B.of sql.nulls) _ n) refl

-- an expression's place: what is asked after IS, and what is left at its end
pub proper_fits : (B : Nt) → proper B ≡ true → fits_at B.of B.least ≡ true
unfolding proper choose
proper_fits B e = by_bool (eqb B.of IsRight) (λ h. let z = eqb_eq B.of IsRight h in let i = eqb_eq B.least 5 (rw z at e) in rw (h, i)) (λ h. rw h)

abbrev Left : ℕ → Type 0
Left C = (s n : ℕ) → proper (record { of = C; least = s }) ≡ true → mem C capped ≡ true → leb s n ≡ true → leb (floor_of (record { of = C; least = s })) n ≡ true

expr_left : AllOf Left exprs
unfolding exprs proper choose mem pick
expr_left =
    (λ s n e m h. h)
    also (λ s n e m h. 0≢1 m)
    also (λ s n e m h. 0≢1 m)
    also (λ s n e m h. 0≢1 m)
    also (λ s n e m h. 0≢1 m)
    also (λ s n e m h. 0≢1 m)
    also (λ s n e m h. le_trans 4 s n (rw (eqb_eq s 5 e) refl) h)
    also tt

-- an absent part leaves all
pub floor_none : (B : Nt) → B.least ≡ 0 → leb (floor_of B) 99 ≡ true
floor_none B e = by_bool (eqb B.of Expr) (λ h. rw (h, e)) (λ h. by_bool (eqb B.of Not) (λ i. rw (h, i)) (λ i. by_bool (eqb B.of IsRight) (λ j. rw (h, i, j)) (λ j. rw (h, i, j))))

null_least : (B : Nt) → G.nullable B ≡ true → B.least ≡ 0
unfolding null_of
null_least B n = eqb_eq B.least 0 (both_r (mem B.of sql.nulls) _ n)

pub place : (B : Nt) (c : Around) {x : Tree} → Kid B c x → Pack B c x
unfolding cap_of toks value faults_in
place B c (left_out n) = record { y = nil; stands = gone n; clean = tt; caps = λ a b. floor_none B (null_least B n); fit = tt; says = absent_says B n; more = absent_more B.of c (any_null B n) }
place B c (there {q = q} {x = x} pr le tw sp (plain b wd f)) = f B.least le
place B c (there {q = q} {x = x} pr le tw sp (core m k)) =
    let z = placed B.of B.of B.least q c x k (reach_any B.of m) (proper_fits B pr) m le tw (λ a b d. sp a b) in
    record {
      y = z.y;
      stands = here z.ok;
      clean = z.clean;
      caps = λ a b. by_mem Left exprs expr_left B.of m B.least (cap_of z.y) pr a z.cap;
      fit = z.fit;
      says = subst (Says B (value x) (value z.y)) (sym z.writes) (expr_says (value x) (value z.y) k.p
          (record { single = k.single; solid = k.solid; tight = k.tight; full = z.full; same = z.same; vnum = k.num; wnum = z.num; vtold = k.untold; wtold = z.untold }) B m pr);
      more = expr_more B.of c x z.y m;
    }

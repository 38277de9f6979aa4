-- A row rebuilt over canonical children (keep): it is derived, clean and fit, if what its children say makes what it says. Assumes nothing.
use mathlib.Core.Bool.{true, false, Bool}
use mathlib.Core.List.{List, [], ◌∷◌, ◌++◌, append_assoc, append-nil}
use mathlib.Core.Path.{◌≡◌, refl, sym, ap, ◌∙◌}
use Prim.Native.Nat.{ℕ, min, suc}
use lib.Dec.{eqb, leb}
use native.Mathlib.Omega.{arith}
use Rattle.theory.specs.Trees.{Tok, Nt, Item, lit, nt, Row, Tree, nil, add, leaf, node, toks, cap_of}
use Rattle.theory.specs.Table.{pick, both, mem}
use Rattle.theory.specs.Derives.{Opens, Part, begin, token, absent, child, whole}
use Rattle.theory.specs.Judged.{faults_in, faults_kids, AllZero}
use Rattle.theory.proofs.Cases.{0≢1, both_l, both_r, leb_le, le-leb}
use Rattle.theory.proofs.Tested.{notb}
use Rattle.kinds.specs.Fit.{fits}
use Rattle.grammar.specs.Classes.{any}
use Rattle.grammar.specs.RowNames.{row_next_row, row_word_join}
use Rattle.grammar.specs.Rows.{rest}
use Rattle.grammar.specs.Grammar.{bare, G}
use Rattle.grammar.specs.Limits.{Around, begun, judge}
use Rattle.grammar.specs.Reading.{empty, says, value_of, value, values}
use Rattle.grammar.specs.Writing.{at}
use Rattle.grammar.specs.Promise.{AllFit}
use Rattle.canon.proofs.Counted.{below, under, all_app}
use Rattle.canon.proofs.Says.{Says}
use Rattle.canon.proofs.Forms.{Clean, Stands, gone, here, capped, starry, Caps, More, Pack, KidsOf, grow, Said, vs, ws, tk, floor_of}
use Rattle.canon.proofs.Place.{fit_app, place, le_trans}

unfoldable pub said : (c : Around) (is : List Item) → KidsOf is c → Said is
said c [] ks = tt
said c (lit k ∷ is) ks = said c is ks.2
said c (nt B ∷ is) ks = (value ks.0, value (place B c ks.1).y, toks (place B c ks.1).y, (place B c ks.1).says, said c is ks.2)

unfoldable pub regrow : (c : Around) (is : List Item) → KidsOf is c → Tree → Tree
regrow c [] ks f = f
regrow c (lit k ∷ is) ks f = regrow c is ks.2 (add f (leaf (bare k)))
regrow c (nt B ∷ is) ks f = regrow c is ks.2 (add f (place B c ks.1).y)

pub stands_part : {full is : List Item} {B : Nt} {f y : Tree} → Stands B y → Part G full (nt B ∷ is) f → Part G full is (add f y)
stands_part (gone n) p = absent p n
stands_part (here (whole o g)) p = child p o g

pub regrow_part : (c : Around) {full : List Item} (is : List Item) (ks : KidsOf is c) {f : Tree} → Part G full is f → Part G full [] (regrow c is ks f)
unfolding regrow
regrow_part c [] ks p = p
regrow_part c (lit k ∷ is) ks p = regrow_part c is ks.2 (token p refl)
regrow_part c (nt B ∷ is) ks p = regrow_part c is ks.2 (stands_part (place B c ks.1).stands p)

pub regrow_toks : (c : Around) (is : List Item) (ks : KidsOf is c) (f : Tree) → toks (regrow c is ks f) ≡ toks f ++ tk is (said c is ks)
unfolding regrow said toks
regrow_toks c [] ks f = sym (append-nil (toks f))
regrow_toks c (lit k ∷ is) ks f = regrow_toks c is ks.2 (add f (leaf (bare k))) ∙ append_assoc (toks f) (bare k ∷ []) (tk is (said c is ks.2))
regrow_toks c (nt B ∷ is) ks f = regrow_toks c is ks.2 (add f (place B c ks.1).y) ∙ append_assoc (toks f) (toks (place B c ks.1).y) (tk is (said c is ks.2))

pub regrow_values : (c : Around) (is : List Item) (ks : KidsOf is c) (f : Tree) → values (regrow c is ks f) ≡ values f ++ ws is (said c is ks)
unfolding regrow said value values
regrow_values c [] ks f = sym (append-nil (values f))
regrow_values c (lit k ∷ is) ks f = regrow_values c is ks.2 (add f (leaf (bare k))) ∙ append_assoc (values f) (empty ∷ []) (ws is (said c is ks.2))
regrow_values c (nt B ∷ is) ks f = regrow_values c is ks.2 (add f (place B c ks.1).y) ∙ append_assoc (values f) (value (place B c ks.1).y ∷ []) (ws is (said c is ks.2))

pub grow_values : (c : Around) (is : List Item) (ks : KidsOf is c) (f : Tree) → values (grow c is ks f) ≡ values f ++ vs is (said c is ks)
unfolding grow said value values
grow_values c [] ks f = sym (append-nil (values f))
grow_values c (lit k ∷ is) ks f = grow_values c is ks.2 (add f (leaf ks.0)) ∙ append_assoc (values f) (empty ∷ []) (vs is (said c is ks.2))
grow_values c (nt B ∷ is) ks f = grow_values c is ks.2 (add f ks.0) ∙ append_assoc (values f) (value ks.0 ∷ []) (vs is (said c is ks.2))

-- the words between a row's parts have no text that is read
unfoldable pub items_fit : List Item → Bool
items_fit [] = true
items_fit (lit k ∷ is) = both (fits k 0) (items_fit is)
items_fit (nt B ∷ is) = items_fit is

pub regrow_fit : (c : Around) (is : List Item) (ks : KidsOf is c) (f : Tree) → items_fit is ≡ true → AllFit (toks f) → AllFit (toks (regrow c is ks f))
unfolding regrow items_fit toks
regrow_fit c [] ks f e z = z
regrow_fit c (lit k ∷ is) ks f e z = regrow_fit c is ks.2 (add f (leaf (bare k))) (both_r (fits k 0) (items_fit is) e) (fit_app (toks f) (bare k ∷ []) z (both_l (fits k 0) (items_fit is) e, tt))
regrow_fit c (nt B ∷ is) ks f e z = regrow_fit c is ks.2 (add f (place B c ks.1).y) e (fit_app (toks f) (toks (place B c ks.1).y) z (place B c ks.1).fit)

-- a row in which the limits have no word on a token between its parts
unfoldable pub quiet : Row → Bool
quiet r = both (notb (eqb r.code row_word_join)) (notb (eqb r.code row_next_row))

pub not-true : (b : Bool) → notb b ≡ true → b ≡ false
unfolding notb
not-true true e = 0≢1 e
not-true false e = refl

-- a word that a test spares: none was heard, so the test passed; it passed, so there is none
pub unheard : (b : Bool) (n : ℕ) → pick b 0 (λ w. suc n) ≡ 0 → b ≡ true
unfolding pick
unheard true n e = refl
unheard false n e = absurd (omega arith)

pub silent : (b : Bool) (n : ℕ) → b ≡ true → pick b 0 (λ w. n) ≡ 0
unfolding pick
silent b n e = rw e

quiet_judge : (c : Around) (r : Row) (l : Tree) (t : Tok) (k x : Tree) → quiet r ≡ true → judge c r l t (add k x) ≡ 0
unfolding quiet judge pick both
quiet_judge c r l t k x e =
    let a = not-true (eqb r.code row_word_join) (both_l (notb (eqb r.code row_word_join)) (notb (eqb r.code row_next_row)) e) in
    let b = not-true (eqb r.code row_next_row) (both_r (notb (eqb r.code row_word_join)) (notb (eqb r.code row_next_row)) e) in rw (a, b)

pub clean_any : {B : Nt} {y : Tree} (c : Around) (m : ℕ) → Stands B y → Clean y c → AllZero (faults_in Around under judge y c m)
unfolding faults_in faults_kids
clean_any c m (gone n) z = tt
clean_any c m (here (whole o g)) z = z

pub regrow_clean : (c : Around) (r : Row) (l : Tree) (t : Tok) (is : List Item) (ks : KidsOf is (below r c)) (f : Tree) → quiet r ≡ true
    → AllZero (faults_kids Around under judge f c r l t) → AllZero (faults_kids Around under judge (regrow (below r c) is ks f) c r l t)
unfolding regrow faults_in faults_kids
regrow_clean c r l t [] ks f e z = z
regrow_clean c r l t (lit k ∷ is) ks f e z = regrow_clean c r l t is ks.2 (add f (leaf (bare k))) e
    (all_app (faults_kids Around under judge f c r l t) (judge c r l t (add f (leaf (bare k))) ∷ []) z (quiet_judge c r l t f (leaf (bare k)) e, tt))
regrow_clean c r l t (nt B ∷ is) ks f e z =
    let p = place B (below r c) ks.1 in
    regrow_clean c r l t is ks.2 (add f p.y) e
    (all_app (faults_kids Around under judge f c r l t) (faults_in Around under judge p.y (below r c) (judge c r l t (add f p.y))) z (clean_any (below r c) (judge c r l t (add f p.y)) p.stands p.clean))

-- a row's last item leaves n or more
unfoldable pub ends_open : ℕ → List Item → Bool
ends_open n [] = leb n 99
ends_open n (lit k ∷ []) = leb n 99
ends_open n (nt B ∷ []) = both (both (mem B.of capped) (notb (mem B.of starry))) (leb n (floor_of B))
ends_open n (lit k ∷ (j ∷ is)) = ends_open n (j ∷ is)
ends_open n (nt B ∷ (j ∷ is)) = ends_open n (j ∷ is)

cap_rest : (n : ℕ) (c : Around) (i : Item) (is : List Item) (ks : KidsOf (i ∷ is) c) (f : Tree) → ends_open n (i ∷ is) ≡ true → leb n (cap_of (regrow c (i ∷ is) ks f)) ≡ true
unfolding ends_open regrow cap_of
cap_rest n c (lit k) [] ks f e = e
cap_rest n c (nt B) [] ks f e =
    let a = both_l (both (mem B.of capped) (notb (mem B.of starry))) (leb n (floor_of B)) e in
    le_trans n (floor_of B) (cap_of (place B c ks.1).y) (both_r (both (mem B.of capped) (notb (mem B.of starry))) (leb n (floor_of B)) e)
    ((place B c ks.1).caps (both_l (mem B.of capped) (notb (mem B.of starry)) a)
    (λ h. 0≢1 (sym (not-true (mem B.of starry) (both_r (mem B.of capped) (notb (mem B.of starry)) a)) ∙ h)))
cap_rest n c (lit k) (j ∷ is) ks f e = cap_rest n c j is ks.2 (add f (leaf (bare k))) e
cap_rest n c (nt B) (j ∷ is) ks f e = cap_rest n c j is ks.2 (add f (place B c ks.1).y) e

pub regrow_cap : (n : ℕ) (c : Around) (is : List Item) (ks : KidsOf is c) → ends_open n is ≡ true → leb n (cap_of (regrow c is ks nil)) ≡ true
unfolding ends_open regrow cap_of
regrow_cap n c [] ks e = e
regrow_cap n c (i ∷ is) ks e = cap_rest n c i is ks nil e

-- the test of a kept row of a class: no word of the limits inside, fit tokens, and its end leaves as much as is promised of the class
unfoldable pub kept : ℕ → Row → Bool
kept C r = both (quiet r) (both (items_fit r.items) (pick (mem C capped) (both (leb (floor_of (any C)) r.cap) (ends_open (floor_of (any C)) r.items)) (λ w. true)))

node_cap : (n a b : ℕ) → leb n a ≡ true → leb n b ≡ true → leb n (min a b) ≡ true
node_cap n a b e h = le-leb n (min a b) (let i = leb_le n a e in let j = leb_le n b h in omega arith)

module _ (C : ℕ) (r : Row) (c : Around) (l l' : Tree) (t t' : Tok) (ks : KidsOf r.items (below r c)) where
  abbrev pub old : Tree
  old = node r l t (grow (below r c) r.items ks nil)

  abbrev pub new : Tree
  new = node r l' t' (regrow (below r c) r.items ks nil)

  pub new_clean : quiet r ≡ true → Clean l' c → begun c r l' ≡ 0 → Clean new c
  unfolding faults_in faults_kids judge
  new_clean e z b = all_app (faults_in Around under judge l' c 0) _ z (b, regrow_clean c r l' t' r.items ks nil e tt)

  pub new_toks : toks new ≡ toks l' ++ (t' ∷ tk r.items (said (below r c) r.items ks))
  unfolding toks
  new_toks = ap (λ z. toks l' ++ (t' ∷ z)) (regrow_toks (below r c) r.items ks nil)

  pub new_fit : items_fit r.items ≡ true → AllFit (toks l') → fits t'.kind t'.text ≡ true → AllFit (toks new)
  unfolding toks
  new_fit e a b = fit_app (toks l') _ a (b, regrow_fit (below r c) r.items ks nil e tt)

  pub old_value : value old ≡ value_of r.code (value l) t (vs r.items (said (below r c) r.items ks))
  unfolding value values
  old_value = ap (value_of r.code (value l) t) (grow_values (below r c) r.items ks nil)

  pub new_value : value new ≡ value_of r.code (value l') t' (ws r.items (said (below r c) r.items ks))
  unfolding value values
  new_value = ap (value_of r.code (value l') t') (regrow_values (below r c) r.items ks nil)

  pub new_cap : (n : ℕ) → leb n r.cap ≡ true → ends_open n r.items ≡ true → leb n (cap_of new) ≡ true
  unfolding cap_of
  new_cap n e h = node_cap n r.cap (cap_of (regrow (below r c) r.items ks nil)) e (regrow_cap n (below r c) r.items ks h)

  abbrev SaysSo : Type 0
  SaysSo = Says (any C) (value_of r.code (value l) t (vs r.items (said (below r c) r.items ks)))
      (value_of r.code (value l') t' (ws r.items (said (below r c) r.items ks))) (toks l' ++ (t' ∷ tk r.items (said (below r c) r.items ks)))

  pub keep_clean : items_fit r.items ≡ true → Caps (any C) (value old) new → Opens G (any C) l' t' r → Clean new c → AllFit (toks l') → fits t'.kind t'.text ≡ true → SaysSo → More C c old new → Pack (any C) c old
  keep_clean fi ca o z a f s m = record {
    y = new;
    stands = here (whole o (regrow_part (below r c) r.items ks begin));
    clean = z;
    caps = ca;
    fit = new_fit fi a f;
    says = rw (old_value, new_value, new_toks) s;
    more = m;
  }

  pub keep : kept C r ≡ true → Opens G (any C) l' t' r → Clean l' c → begun c r l' ≡ 0 → AllFit (toks l') → fits t'.kind t'.text ≡ true → SaysSo → More C c old new → Pack (any C) c old
  unfolding kept pick
  keep k o z b a f s m =
      let rest = both_r (quiet r) _ k in
      let ca = both_r (items_fit r.items) _ rest in
      keep_clean (both_l (items_fit r.items) _ rest) (λ h g. let e = rw h at ca in new_cap (floor_of (any C)) (both_l (leb (floor_of (any C)) r.cap) _ e) (both_r (leb (floor_of (any C)) r.cap) _ e)) o
      (new_clean (both_l (quiet r) _ k) z b) a f s m

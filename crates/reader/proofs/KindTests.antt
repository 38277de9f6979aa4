-- What the tests of kinds come to, which the code and the walk put in their own ways. Assumes nothing.
use mathlib.Core.Bool.{Bool, true, false, ◌||◌}
use mathlib.Core.List.{List, [], ◌∷◌}
use mathlib.Core.Logic.{◌⊎◌, inl, inr}
use mathlib.Core.Path.{◌≡◌, refl, sym, ap, ap₂, ◌∙◌, subst}
use Prim.Native.Nat.{ℕ, zero, suc, ◌+◌, ◌-◌, ◌≤◌, ◌<◌, min}
use lib.Dec.{eqb, ltb, leb, T}
use lib.ListN.{length, get_or}
use native.Mathlib.Omega.{arith}
use borrow.Author.Tests.{ne_eqb, lt-ltb, le-ltb, lt-leb}
use Rattle.theory.specs.Table.{pick, both, mem}
use Rattle.theory.proofs.Cases.{by_bool, T_true, both_i, le-leb, leb_le, 0≢1}
use Rattle.kinds.specs.Kinds.{NOT, JOIN, JOIN_KW, STAR, RP, DISTINCT, ALL, FROM, WHERE, GROUP, HAVING, ORDER, LIMIT}
use Rattle.kinds.specs.Classes.{is_bare_alias, begins_expr, literal_code, heads_call}
use Rattle.kinds.specs.Strength.{strength_of, prefix_of}
use Rattle.kinds.proofs.Lookup.{each}
use Rattle.words.specs.Flags.{flags_of, united, legal}
use Rattle.grammar.specs.Limits.{Around}
use Rattle.grammar.specs.Nodes.{Rec}
use Rattle.grammar.specs.Reading.{choose}
use Rattle.descent.proofs.Places.{wrong}
use Rattle.descent.proofs.Walk.{Walked, done, stop, bind, onto, over, missing, deeper, too_deep_w, join_w, called_w, expr_w, op_w, ops_w, list_w, sign_w, parts_w, tail_w, select_w, selected_w}
use Rattle.reader.specs.declared.lists.Lists.{Lists}
use Rattle.reader.specs.declared.table.Table.{Table}
use Rattle.reader.specs.declared.ask.Ask.{Ask}
use Rattle.reader.specs.Bounds.{kinds_of, texts_of, strength_asked, Seen}
use Rattle.reader.specs.Laying.{Laid, Fills, TooDeep, is_bare, begins_join}
use Rattle.reader.specs.declared.Step.{Step}
use Rattle.reader.specs.declared.Step.TheVariants as step
use Rattle.reader.proofs.Laying.{said, left, goes, behind, by_walk, no_left, no_right}

-- ── bare aliases ──
pub bare_in : (k : ℕ) → 1 ≤ k → k ≤ 3 → is_bare_alias k ≡ true
unfolding is_bare_alias
bare_in k l h = T_true _ (each is_bare_alias 1 3 tt k l h)

pub bare_out : (k : ℕ) → (1 ≤ k → 3 < k) → is_bare_alias k ≡ false
unfolding is_bare_alias
bare_out k h = rw (
  ne_eqb k 1 (λ e. let j : 3 < k = h (omega (arith, e)) in omega (arith, e, j)),
  ne_eqb k 2 (λ e. let j : 3 < k = h (omega (arith, e)) in omega (arith, e, j)),
  ne_eqb k 3 (λ e. let j : 3 < k = h (omega (arith, e)) in omega (arith, e, j)),
)

-- ── a level too deep ──
abbrev deep_number : ℕ → ℕ → ℕ
deep_number k s = choose (begins_expr k) (choose (both (eqb k NOT) (ltb 10 s)) (wrong k) 5) (wrong k)

pub deep_weak : (k s : ℕ) → begins_expr k ≡ false → deep_number k s ≡ wrong k
unfolding choose
deep_weak k s e = ap (λ z. choose z (choose (both (eqb k NOT) (ltb 10 s)) (wrong k) 5) (wrong k)) e

same : (b : Bool) (x : ℕ) → choose b x x ≡ x
unfolding choose
same true x = refl
same false x = refl

pub deep_strong : (k s : ℕ) → k ≡ NOT → 10 < s → deep_number k s ≡ wrong k
unfolding choose both
deep_strong k s e h = ap (λ z. choose (begins_expr k) (choose (both (eqb z NOT) (ltb 10 s)) (wrong k) 5) (wrong k)) e ∙ ap (λ z. choose (begins_expr k) (choose z (wrong k) 5) (wrong k)) (lt-ltb 10 s h) ∙ same (begins_expr k) (wrong k)

pub deep_five : (k s : ℕ) → begins_expr k ≡ true → both (eqb k NOT) (ltb 10 s) ≡ false → deep_number k s ≡ 5
unfolding choose
deep_five k s e d = ap (λ z. choose z (choose (both (eqb k NOT) (ltb 10 s)) (wrong k) 5) (wrong k)) e ∙ ap (λ z. choose z (wrong k) 5) d

stops : (b d : Bool) (x at : ℕ) → choose b (choose d (stop x at) (stop 5 at)) (stop x at) ≡ stop (choose b (choose d x 5) x) at
unfolding choose
stops true true x at = refl
stops true false x at = refl
stops false d x at = refl

pub deep_walk : {t t' : Table} {r : Step} {lists : Lists} {at kind : ℕ} (ask : Ask) (s : ℕ) → Seen lists at kind → strength_asked ask ≡ s → TooDeep kind (strength_asked ask) at r → Laid t t' (too_deep_w (kinds_of lists) (texts_of lists) at s) r
unfolding too_deep_w
deep_walk {lists = lists} {at = at} {kind = kind} ask s e a h =
    let k : ℕ = get_or (kinds_of lists) at 0 in
    said h (stops (begins_expr k) (both (eqb k NOT) (ltb 10 s)) (wrong k) at ∙ ap (λ z. stop (deep_number z s) at) (sym e.is) ∙ ap (λ z. stop (deep_number kind z) at) (sym a))

-- ── join words ──
module _ (K T : List ℕ) where
  -- neither JOIN nor a join word
  pub join_wrong : (more at flags : ℕ) → eqb (get_or K at 0) JOIN ≡ false → eqb (get_or K at 0) JOIN_KW ≡ false → join_w K T more at flags ≡ stop (wrong (get_or K at 0)) at
  unfolding join_w choose
  join_wrong zero at flags e d = rw e
  join_wrong (suc more) at flags e d = rw (e, d)

  -- three words before
  pub join_full : (more at flags : ℕ) → more ≡ 0 → eqb (get_or K at 0) JOIN ≡ false → join_w K T more at flags ≡ stop (wrong (get_or K at 0)) at
  unfolding join_w choose
  join_full zero at flags m e = rw e
  join_full (suc more) at flags m e = absurd (omega (arith, m))

  pub join_word_lem : (more at flags : ℕ) → 0 < more → eqb (get_or K at 0) JOIN ≡ false → eqb (get_or K at 0) JOIN_KW ≡ true → join_w K T more at flags ≡ join_w K T (more - 1) (at + 1) (united flags (flags_of (get_or T at 0)))
  unfolding join_w choose
  join_word_lem zero at flags m e d = absurd (omega (arith, m))
  join_word_lem (suc more) at flags m e d = rw (e, d) (ap (λ z. join_w K T z (at + 1) (united flags (flags_of (get_or T at 0)))) (one_less more))
    where
      one_less : (n : ℕ) → n ≡ suc n - 1
      one_less n = omega arith

  pub join_there : (more at flags : ℕ) → eqb (get_or K at 0) JOIN ≡ true → join_w K T more at flags ≡ choose (legal flags) (done (at + 1) (64 + flags) 0 []) (stop 7 at)
  unfolding join_w choose
  join_there zero at flags e = rw e
  join_there (suc more) at flags e = rw e

-- ── what begins a join; a call's list that is none ──
pub joins_on : (k : ℕ) → (k ≡ 5) ⊎ ((k ≡ 14) ⊎ (k ≡ 57)) → true ≡ begins_join k
unfolding begins_join mem pick
joins_on k (inl e) = sym (ap begins_join e)
joins_on k (inr (inl e)) = sym (ap begins_join e)
joins_on k (inr (inr e)) = sym (ap begins_join e)

pub joins_end : (k : ℕ) → ((k ≡ 5) ⊎ ((k ≡ 14) ⊎ (k ≡ 57)) → ⊥) → false ≡ begins_join k
unfolding begins_join mem pick
joins_end k h = rw (ne_eqb k 14 (λ e. h (inr (inl e))), ne_eqb k 57 (λ e. h (inr (inr e))), ne_eqb k 5 (λ e. h (inl e)))

pub bare_on : (k : ℕ) → (k ≡ 13) ⊎ (k ≡ 17) → true ≡ is_bare k
unfolding is_bare choose
bare_on k (inl e) = sym (ap is_bare e)
bare_on k (inr e) = sym (ap is_bare e)

pub bare_end : (k : ℕ) → ((k ≡ 13) ⊎ (k ≡ 17) → ⊥) → false ≡ is_bare k
unfolding is_bare choose
bare_end k h = rw (ne_eqb k 17 (λ e. h (inr e)), ne_eqb k 13 (λ e. h (inl e)))

-- ── ranges ──
pub between_in : (lo hi k : ℕ) → lo ≤ k → k ≤ hi → both (leb lo k) (leb k hi) ≡ true
between_in lo hi k l h = both_i (leb lo k) (leb k hi) (le-leb lo k l) (le-leb k hi h)

pub between_out : (lo hi k : ℕ) → (lo ≤ k → hi < k) → both (leb lo k) (leb k hi) ≡ false
between_out lo hi k h = by_bool (leb lo k) (λ e. no_right _ _ (lt-leb k hi (h (leb_le lo k e)))) (λ e. no_left _ _ e)

-- ── a call's list that is none ──
pub bare_either : (k : ℕ) → is_bare k ≡ true → (eqb k STAR ≡ true) ⊎ (eqb k RP ≡ true)
unfolding is_bare choose
bare_either k e = by_bool (eqb k STAR) (λ z. inl z) (λ z. inr (ap (λ b. choose b true (eqb k RP)) (sym z) ∙ e))

pub bare_neither : (k : ℕ) → is_bare k ≡ false → (eqb k STAR ≡ false) × (eqb k RP ≡ false)
unfolding is_bare choose
bare_neither k e = by_bool (eqb k STAR) (λ z. 0≢1 (sym e ∙ ap (λ b. choose b true (eqb k RP)) z)) (λ z. (z, ap (λ b. choose b true (eqb k RP)) (sym z) ∙ e))

-- DISTINCT before the arguments, or not
pub distinct_walk : (K T : List ℕ) (f at d : ℕ) (c : Around) → ((eqb (get_or K at 0) DISTINCT ≡ true) × (d ≡ 1)) ⊎ ((eqb (get_or K at 0) DISTINCT ≡ false) × (d ≡ 0))
    → choose (eqb (get_or K at 0) DISTINCT) (bind (list_w K T f (at + 1) c 0) (λ a x n rs. called_w K T a 1 n rs)) (bind (list_w K T f at c 0) (λ a x n rs. called_w K T a 0 n rs))
    ≡ bind (list_w K T f (at + d) c 0) (λ a x n rs. called_w K T a d n rs)
unfolding choose
distinct_walk K T f at d c (inl (e, n)) =
    ap (λ b. choose b (bind (list_w K T f (at + 1) c 0) (λ a x n rs. called_w K T a 1 n rs)) (bind (list_w K T f at c 0) (λ a x n rs. called_w K T a 0 n rs))) e
    ∙ ap (λ z. bind (list_w K T f (at + z) c 0) (λ a x n rs. called_w K T a z n rs)) (sym n)
distinct_walk K T f at d c (inr (e, n)) =
    ap (λ b. choose b (bind (list_w K T f (at + 1) c 0) (λ a x n rs. called_w K T a 1 n rs)) (bind (list_w K T f at c 0) (λ a x n rs. called_w K T a 0 n rs))) e
    ∙ ap (λ z. bind (list_w K T f z c 0) (λ a x n rs. called_w K T a 0 n rs)) place
    ∙ ap (λ z. bind (list_w K T f (at + z) c 0) (λ a x n rs. called_w K T a z n rs)) (sym n)
  where
    place : at ≡ at + 0
    place = omega arith

-- ── names and literals ──
abbrev headed : ℕ → Bool
headed k = ltb 0 (literal_code k) || (eqb k 4 || heads_call k)

third : (a b c : Bool) → T (a || (b || c)) → a ≡ false → b ≡ false → c ≡ true
third a b true t e d = refl
third a b false t e d = absurd (subst T (ap₂ (λ x y. x || (y || false)) e d) t)

-- a name that is not INDEXED, and no literal
pub heads_call_lem : (k : ℕ) → 0 < k → k ≤ 11 → literal_code k ≤ 0 → (k ≡ 4 → ⊥) → heads_call k ≡ true
unfolding literal_code heads_call
heads_call_lem k l h z d = third _ _ _ (each headed 1 11 tt k l h) (le-ltb 0 (literal_code k) z) (ne_eqb k 4 d)

-- ── operators before an operand ──
abbrev signs : ℕ → Bool
signs k = ltb 0 (prefix_of k)

pub record Sign (k : ℕ) : Type 0 where
  pub paren : eqb k 12 ≡ false
  pub case : eqb k 44 ≡ false
  pub cast : eqb k 49 ≡ false
  pub exists : eqb k 51 ≡ false
  pub some : ltb 0 (prefix_of k) ≡ true

pub sign_is : (k : ℕ) → ((k ≡ 27) ⊎ (k ≡ 36)) ⊎ ((18 ≤ k) × (k ≤ 19)) → Sign k
unfolding prefix_of
sign_is k (inl (inl e)) = subst Sign (sym e) (record { paren = refl; case = refl; cast = refl; exists = refl; some = refl })
sign_is k (inl (inr e)) = subst Sign (sym e) (record { paren = refl; case = refl; cast = refl; exists = refl; some = refl })
sign_is k (inr (l, h)) =
    record {
      paren = ne_eqb k 12 (λ e. omega (arith, e, l));
      case = ne_eqb k 44 (λ e. omega (arith, e, h));
      cast = ne_eqb k 49 (λ e. omega (arith, e, h));
      exists = ne_eqb k 51 (λ e. omega (arith, e, h));
      some = T_true _ (each signs 18 19 tt k l h);
    }

pub no_sign : (k : ℕ) → ((k ≡ 27) ⊎ (k ≡ 36) → ⊥) → (18 ≤ k → 19 < k) → ltb 0 (prefix_of k) ≡ false
unfolding prefix_of
no_sign k d h = rw (
  ne_eqb k 36 (λ e. d (inr e)),
  ne_eqb k 18 (λ e. let j : 19 < k = h (omega (arith, e)) in omega (arith, e, j)),
  ne_eqb k 19 (λ e. let j : 19 < k = h (omega (arith, e)) in omega (arith, e, j)),
  ne_eqb k 27 (λ e. d (inl e)),
)

-- the walk of such an operator, by its kind and strength
abbrev pub signed_w : List ℕ → List ℕ → ℕ → ℕ → Around → ℕ → ℕ → ℕ → Walked
signed_w K T f at c s k q = choose (both (eqb k NOT) (ltb 10 s)) (stop (wrong k) at) (bind (expr_w K T f (at + 1) (deeper c) q) (λ a x n rs. done a (min q x) 0 (over 38 k 1 0 rs)))

pub prefix_walk : {t t' : Table} {r : Step} {lists : Lists} {at kind q : ℕ} (f : ℕ) (c : Around) (s : ℕ) → Seen lists at kind → q ≡ prefix_of kind
    → Laid t t' (signed_w (kinds_of lists) (texts_of lists) f at c s kind q) r → Laid t t' (sign_w (kinds_of lists) (texts_of lists) (suc f) at c s) r
unfolding expr_w
prefix_walk {lists = lists} {at = at} {kind = kind} {q = q} f c s e p l =
    by_walk (ap (λ k. signed_w (kinds_of lists) (texts_of lists) f at c s k (prefix_of k)) (sym e.is) ∙ ap (λ z. signed_w (kinds_of lists) (texts_of lists) f at c s kind z) (sym p)) l

-- ── parts that are absent ──
module _ (K T : List ℕ) where
  pub no_parts : (f at : ℕ) (c : Around) → eqb (get_or K at 0) FROM ≡ false → eqb (get_or K at 0) WHERE ≡ false → eqb (get_or K at 0) GROUP ≡ false → eqb (get_or K at 0) HAVING ≡ false
      → parts_w K T (suc (suc f)) at c ≡ done at 0 0 (missing ∷ missing ∷ missing ∷ missing ∷ [])
  unfolding expr_w choose bind onto
  no_parts f at c e w g h = rw (e, w, g, h)

  pub no_tail : (f at : ℕ) (c : Around) → eqb (get_or K at 0) ORDER ≡ false → eqb (get_or K at 0) LIMIT ≡ false → tail_w K T (suc (suc f)) at c ≡ done at 0 0 (missing ∷ missing ∷ missing ∷ [])
  unfolding expr_w choose onto
  no_tail f at c o l = rw (o, l)

  -- DISTINCT or ALL before the columns, or none of them
  pub select_walk : (f at : ℕ) (c : Around) (detail word : ℕ)
      → ((eqb (get_or K at 0) DISTINCT ≡ true) × (detail ≡ 1)) ⊎ (((eqb (get_or K at 0) DISTINCT ≡ false) × (eqb (get_or K at 0) ALL ≡ true) × (detail ≡ 2)) ⊎ ((eqb (get_or K at 0) DISTINCT ≡ false) × (eqb (get_or K at 0) ALL ≡ false) × (detail ≡ 0)))
      → ((0 < detail) × (word ≡ 1)) ⊎ ((detail ≤ 0) × (word ≡ 0))
      → select_w K T (suc f) at c ≡ selected_w K T f (at + word) c detail
  unfolding expr_w choose
  select_walk f at c detail word (inl (d, e)) (inl (x, w)) = rw d (ap₂ (λ y z. selected_w K T f (at + y) c z) (sym w) (sym e))
  select_walk f at c detail word (inl (d, e)) (inr (x, w)) = absurd (omega (arith, e, x))
  select_walk f at c detail word (inr (inl (d, a, e))) (inl (x, w)) = rw (d, a) (ap₂ (λ y z. selected_w K T f (at + y) c z) (sym w) (sym e))
  select_walk f at c detail word (inr (inl (d, a, e))) (inr (x, w)) = absurd (omega (arith, e, x))
  select_walk f at c detail word (inr (inr (d, a, e))) (inl (x, w)) = absurd (omega (arith, e, x))
  select_walk f at c detail word (inr (inr (d, a, e))) (inr (x, w)) = rw (d, a) (ap (λ y. selected_w K T f y c 0) (place w) ∙ ap (λ z. selected_w K T f (at + word) c z) (sym e))
    where
      place : word ≡ 0 → at ≡ at + word
      place w = omega (arith, w)

-- ── the operators that go on ──
-- the walk, by the strength k of the kind
abbrev pub going_w : List ℕ → List ℕ → ℕ → ℕ → Around → ℕ → ℕ → ℕ → ℕ → Walked
going_w K T f at c s left pre k =
    choose (eqb k 0) (done at left 0 [])
    (choose (ltb k s) (done at left 0 [])
    (choose (ltb left k) (done at left 0 [])
    (bind (op_w K T f at (deeper c) (k + 1) pre) (λ a x n rs. onto rs (ops_w K T f a c s (min k x) (pre + length rs))))))

pub ops_walk : {t t' : Table} {r : Step} {lists : Lists} {at kind k : ℕ} (f : ℕ) (c : Around) (s left pre : ℕ) → Seen lists at kind → k ≡ strength_of kind
    → Laid t t' (going_w (kinds_of lists) (texts_of lists) f at c s left pre k) r → Laid t t' (ops_w (kinds_of lists) (texts_of lists) (suc f) at c s left pre) r
unfolding expr_w
ops_walk {lists = lists} {at = at} f c s left pre e p l = by_walk (ap (λ z. going_w (kinds_of lists) (texts_of lists) f at c s left pre (strength_of z)) (sym e.is) ∙ ap (λ z. going_w (kinds_of lists) (texts_of lists) f at c s left pre z) (sym p)) l

-- an operator that was read, and those that go on from there
pub ops_goes : {t u t' : Table} {r q : Step} {lists : Lists} {at kind k said count new : ℕ} {d : ℕ} (f : ℕ) (c : Around) (s left pre : ℕ) → Seen lists at kind → k ≡ strength_of kind → new ≡ min k said
    → eqb k 0 ≡ false → ltb k s ≡ false → ltb left k ≡ false → Laid t u (op_w (kinds_of lists) (texts_of lists) f at (deeper c) (k + 1) pre) q → q ≡ step.Got said count d
    → ((rs : List Rec) → Fills t u rs → Laid u t' (ops_w (kinds_of lists) (texts_of lists) f d c s new (pre + length rs)) r) → Laid t t' (ops_w (kinds_of lists) (texts_of lists) (suc f) at c s left pre) r
ops_goes {lists = lists} {d = d} f c s x pre e p n z i j h g l =
    ops_walk f c s x pre e p (left _ _ _ z (left _ _ _ i (left _ _ _ j (goes _ _ h g (λ rs F. behind _ _ F (by_walk (ap (λ y. ops_w (kinds_of lists) (texts_of lists) f d c s y (pre + length rs)) (sym n)) (l rs F)))))))

pub indexed_heads_none : (k : ℕ) → k ≡ 4 → heads_call k ≡ false
unfolding heads_call
indexed_heads_none k e = ap heads_call e

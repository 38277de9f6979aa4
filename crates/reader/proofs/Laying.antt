-- How what callees lay becomes what their caller lays: one law for each form of a walk. Assumes nothing.
use mathlib.Core.Bool.{Bool, true, false}
use mathlib.Core.List.{List, [], ◌∷◌, ◌++◌}
use mathlib.Core.Logic.{◌⊎◌, inl, inr}
use mathlib.Core.Path.{◌≡◌, refl, sym, ap, ap₂, ◌∙◌, subst, subst⁻¹}
use Prim.Native.Nat.{ℕ, zero, suc, ◌+◌, ◌-◌, ◌*◌, ◌/◌, ◌≤◌, ◌<◌}
use lib.ListN.{length, get_or}
use lib.Dec.{eqb}
use borrow.Author.Tests.{ne_eqb}
use native.Mathlib.Omega.{arith}
use Rattle.theory.specs.Table.{pick, both}
use Rattle.theory.proofs.Cases.{eqb-true}
use Rattle.grammar.specs.Limits.{Around, outer}
use Rattle.grammar.specs.Nodes.{Rec, rec}
use Rattle.grammar.specs.Reading.{choose}
use Rattle.descent.proofs.Places.{wrong}
use Rattle.descent.proofs.Walk.{Walked, done, stop, spent, bind, onto, over, missing, deeper, opening}
use Rattle.descent.proofs.Fill.{put, fill, Filled}
use Rattle.grammar.specs.Sizes.{WIDTH}
use Rattle.descent.proofs.Filling.{nothing}
use Rattle.descent.proofs.Filling as filling
use Rattle.reader.specs.declared.lists.Lists.{Lists}
use Rattle.reader.specs.declared.ask.Ask.{Ask}
use Rattle.reader.specs.Asked.{queries_in, strength_in}
use Rattle.reader.specs.Bounds.{kinds_of, queries_of, strength_asked, Seen}
use Rattle.reader.specs.Refusals.{number_of}
use Rattle.reader.specs.declared.refusal.Reason.{Reason}
use Rattle.reader.specs.Laying.{Says, Misfit, Fills, LaidAt, Laid, Later, Packed, Onward, one, absences}
use Rattle.reader.specs.declared.table.Table.{Table}
use Rattle.reader.specs.declared.Step.{Step}
use Rattle.reader.specs.declared.Step.TheVariants as step

-- ── records in the table ──
pub none_came : {t : Table} → Fills t t []
none_came = record { same = refl; filled = nothing }

infixr 5 ◌then◌
pub ◌then◌ : {t u v : Table} {rs qs : List Rec} → Fills t u rs → Fills u v qs → Fills t v (rs ++ qs)
◌then◌ a b = record { same = b.same ∙ a.same; filled = filling.◌then◌ a.filled b.filled }

-- one record, where there is room for it
pub emitted : {t u : Table} {c d n s : ℕ} → u.nodes.ghost_name ≡ t.nodes.ghost_name → u.made ≡ t.made → ((t.made + 1) * WIDTH ≤ length t.nodes.now → u.nodes.now ≡ put t.nodes.now t.made c d n s) → Fills t (record { nodes = u.nodes; made = u.made + 1 }) (one c d n s)
unfolding fill
emitted g e h = record { same = g; filled = record { counted = omega (arith, e); stand = λ r. h (omega (arith, r, e)) } }

-- ── an answer that is made ──
pub renumbered : {n m p : ℕ} {r : Step} → Says n p r → n ≡ m → Says m p r
renumbered h e = record { why = h.why; is = h.is; number = h.number ∙ e }

module _ {t t' : Table} {w : Walked} {r : Step} where
  pub laid : {s n d : ℕ} {rs : List Rec} → r ≡ step.Got s n d → w ≡ done d s n rs → Fills t t' rs → Laid t t' w r
  laid {rs = rs} e a f = record { holds = subst⁻¹ (λ (s : Step). LaidAt t t' w s) e (rs, a, f) }

  -- its first number told in another way
  pub laid_as : {s u n d : ℕ} {rs : List Rec} → r ≡ step.Got s n d → s ≡ u → w ≡ done d u n rs → Fills t t' rs → Laid t t' w r
  laid_as {n = n} {d = d} {rs = rs} e q a f = laid e (a ∙ ap (λ z. done d z n rs) (sym q)) f

  pub halted : {m : Reason} {p : ℕ} → r ≡ step.Refused m p → w ≡ stop (number_of m) p → Laid t t' w r
  halted e a = record { holds = subst⁻¹ (λ (s : Step). LaidAt t t' w s) e a }

  pub said : {n p : ℕ} → Says n p r → w ≡ stop n p → Laid t t' w r
  said {p = p} h a = halted h.is (a ∙ ap (λ z. stop z p) (sym h.number))

  pub laid_in : {s n : ℕ} {d : ℕ} → Laid t t' w r → r ≡ step.Got s n d → LaidAt t t' w (step.Got s n d)
  laid_in l e = subst (λ (s : Step). LaidAt t t' w s) e l.holds

  pub stopped_in : {m : Reason} {p : ℕ} → Laid t t' w r → r ≡ step.Refused m p → w ≡ stop (number_of m) p
  stopped_in l e = subst (λ (s : Step). LaidAt t t' w s) e l.holds

-- the answer and the table of one of two ways
pub laid_joined : {t t' u : Table} {w : Walked} {r q : Step} → t' ≡ u → r ≡ q → Laid t u w q → Laid t t' w r
laid_joined {t} {t'} {u} {w} {r} {q} e d l = subst⁻¹ (λ (z : Table). Laid t z w r) e (subst⁻¹ (λ (s : Step). Laid t u w s) d l)

-- ── a walk's way ──
module _ {t t' : Table} {r : Step} where
  -- a choice, its test known
  pub took : (b : Bool) (x y : Walked) → b ≡ true → Laid t t' x r → Laid t t' (choose b x y) r
  unfolding choose pick
  took b x y e l = subst⁻¹ (λ z. Laid t t' (choose z x y) r) e l

  pub left : (b : Bool) (x y : Walked) → b ≡ false → Laid t t' y r → Laid t t' (choose b x y) r
  unfolding choose pick
  left b x y e l = subst⁻¹ (λ z. Laid t t' (choose z x y) r) e l

  -- a callee that got its part, its records and where they stand
  pub goes : {u u' : Table} {q : Step} {s n d : ℕ} (w : Walked) (k : ℕ → ℕ → ℕ → List Rec → Walked) → Laid u u' w q → q ≡ step.Got s n d
      → ((rs : List Rec) → Fills u u' rs → Laid t t' (k d s n rs) r) → Laid t t' (bind w k) r
  unfolding bind
  goes w k l e h = let x = laid_in l e in subst⁻¹ (λ z. Laid t t' (bind z k) r) x.1 (h x.0 x.2)

  -- a callee that refused
  pub halts : {u u' : Table} {j : Reason} {p : ℕ} (w : Walked) (k : ℕ → ℕ → ℕ → List Rec → Walked) → Laid u u' w r → r ≡ step.Refused j p → Laid t t' (bind w k) r
  unfolding bind
  halts w k l e = halted e (ap (λ z. bind z k) (stopped_in l e))

  -- the walk under another of its names
  pub by_walk : {w w' : Walked} → w ≡ w' → Laid t t' w' r → Laid t t' w r
  by_walk e l = subst⁻¹ (λ (z : Walked). Laid t t' z r) e l

  -- a token that can't stand here
  pub misfit : {lists : Lists} {at kind : ℕ} → Seen lists at kind → Misfit kind at r → Laid t t' (stop (wrong (get_or (kinds_of lists) at 0)) at) r
  misfit {at = at} s e = said e (ap (λ z. stop (wrong z) at) (sym s.is))

-- records put before those of a walk, one by one
pub bind_onto : (rs : List Rec) (w : Walked) → bind w (λ a s n qs. done a s n (rs ++ qs)) ≡ onto rs w
unfolding bind onto
bind_onto rs (done a s n qs) = refl
bind_onto rs (stop m p) = refl
bind_onto rs spent = refl

-- records before those of a part
onto_at : (t u t' : Table) (rs : List Rec) (w : Walked) (r : Step) → Fills t u rs → LaidAt u t' w r → LaidAt t t' (onto rs w) r
unfolding onto
onto_at t u t' rs w (step.Got s n d) f l = (rs ++ l.0, ap (onto rs) l.1, f then l.2)
onto_at t u t' rs w (step.Refused n p) f l = ap (onto rs) l

pub behind : {t u t' : Table} {r : Step} (rs : List Rec) (w : Walked) → Fills t u rs → Laid u t' w r → Laid t t' (onto rs w) r
behind {t} {u} {t'} {r} rs w f l = record { holds = onto_at t u t' rs w r f l.holds }

-- ── records ──
pub fills_as : {t t' : Table} {rs qs : List Rec} → rs ≡ qs → Fills t t' rs → Fills t t' qs
fills_as {t} {t'} e f = subst (λ z. Fills t t' z) e f

-- a record over all since `base`, `pre` of them before these
pub capped : {t u v : Table} {c d n : ℕ} {rs : List Rec} (base pre : ℕ) → t.made ≡ base + pre → Fills t u rs → Fills u v (one c d n (u.made - base + 1)) → Fills t v (over c d n pre rs)
capped {t} {u} {c = c} {d = d} {n = n} {rs = rs} base pre b f g = fills_as (ap (λ z. rs ++ one c d n z) (size f.filled.counted)) (f then g)
  where
    size : u.made ≡ t.made + length rs → u.made - base + 1 ≡ pre + length rs + 1
    size e = omega (arith, e, b)

-- a record over all since the table was t
pub topped : {t u v : Table} {c d n : ℕ} {rs : List Rec} → Fills t u rs → Fills u v (one c d n (u.made - t.made + 1)) → Fills t v (over c d n 0 rs)
topped {t} f g = capped t.made 0 (omega arith) f g

-- a record over `pre` alone
pub closed : {t u : Table} {c d n : ℕ} (base pre : ℕ) → t.made ≡ base + pre → Fills t u (one c d n (t.made - base + 1)) → Fills t u (one c d n (pre + 1))
closed {t} {c = c} {d = d} {n = n} base pre b f = fills_as (ap (λ z. one c d n z) size) f
  where
    size : t.made - base + 1 ≡ pre + 1
    size = omega (arith, b)

-- a call's two records: its arguments', and its own over these and the name
pub paired : {t u v w : Table} {base d n : ℕ} {rs : List Rec} → t.made ≡ base → Fills t u rs → Fills u v (one 4 0 n (u.made - base + 1)) → Fills v w (one 32 d 2 (v.made - base + 2))
    → Fills t w (rs ++ (rec 4 0 n (length rs + 1) ∷ rec 32 d 2 (length rs + 3) ∷ []))
paired {t} {u} {v} {base = base} {d = d} {n = n} {rs = rs} b f g h =
    fills_as (ap₂ (λ y z. rs ++ (rec 4 0 n y ∷ rec 32 d 2 z ∷ [])) (first f.filled.counted) (second f.filled.counted g.filled.counted)) (f then g then h)
  where
    first : u.made ≡ t.made + length rs → u.made - base + 1 ≡ length rs + 1
    first e = omega (arith, e, b)

    second : u.made ≡ t.made + length rs → v.made ≡ u.made + 1 → v.made - base + 2 ≡ length rs + 3
    second e i = omega (arith, e, i, b)

-- absent parts, one more
one_more : (k : ℕ) → absences (k + 1) ≡ absences k ++ one 0 0 0 1
unfolding absences
one_more zero = refl
one_more (suc k) = ap absences (let e : suc k + 1 ≡ suc (k + 1) = omega arith in e) ∙ ap (λ z. missing ∷ z) (one_more k)

pub filled_as : {N N' : List ℕ} {m k : ℕ} {rs qs : List Rec} → rs ≡ qs → Filled N N' m k rs → Filled N N' m k qs
filled_as {N} {N'} {m} {k} e f = subst (λ z. Filled N N' m k z) e f

pub absent_more : {N N₁ N₂ : List ℕ} {made m m' : ℕ} (k : ℕ) → Filled N N₁ made m (absences k) → Filled N₁ N₂ m m' (one 0 0 0 1) → Filled N N₂ made m' (absences (k + 1))
absent_more k f g = filled_as (sym (one_more k)) (filling.◌then◌ f g)

length_absences : (n : ℕ) → length (absences n) ≡ n
unfolding absences
length_absences zero = refl
length_absences (suc n) = let i = length_absences n in omega (arith, i)

pub absent_all : {N N' : List ℕ} {made i : ℕ} (n : ℕ) → Filled N N' made i (absences (i - made)) → i ≡ made + n → Filled N N' made (made + n) (absences n)
absent_all {N} {N'} {made} {i} n f e = subst (λ z. Filled N N' made z (absences n)) e (filled_as (ap absences (less e)) f)
  where
    less : i ≡ made + n → i - made ≡ n
    less e = omega (arith, e)

pub absent_one : {t u : Table} (n : ℕ) → n ≡ 1 → Fills t u (one 0 0 0 1) → Fills t u (absences n)
unfolding absences
absent_one n e f = fills_as (sym (ap absences e)) f

-- where there is no room for them nothing is told of the table
pub absent_cut : {N N' : List ℕ} (made n : ℕ) → ((made + n) * 4 ≤ length N → ⊥) → Filled N N' made (made + n) (absences n)
absent_cut made n h = record { counted = let l = length_absences n in omega (arith, l); stand = λ z. absurd (h z) }

-- ── with enough fuel ──
infixr 6 ◌also◌
pub ◌also◌ : {P Q : ℕ → Type 0} → Later P → Later Q → Later (λ f. P f × Q f)
a also b = record { least = a.least + b.least; holds = λ f h. (a.holds f (omega (arith, h)), b.holds f (omega (arith, h))) }

-- a call deeper
pub next : {P Q : ℕ → Type 0} → Later P → ((f : ℕ) → P f → Q (suc f)) → Later Q
next {P} {Q} a k = record { least = a.least + 1; holds = go }
  where
    go : (f : ℕ) → a.least + 1 ≤ f → Q f
    go zero h = absurd (omega (arith, h))
    go (suc f) h = k f (a.holds f (omega (arith, h)))

pub at_once : {Q : ℕ → Type 0} → ((f : ℕ) → Q (suc f)) → Later Q
at_once {Q} k = record { least = 1; holds = go }
  where
    go : (f : ℕ) → 1 ≤ f → Q f
    go zero h = absurd (omega (arith, h))
    go (suc f) h = k f

pub at_second : {Q : ℕ → Type 0} → ((f : ℕ) → Q (suc (suc f))) → Later Q
at_second {Q} k = record { least = 2; holds = go }
  where
    go : (f : ℕ) → 2 ≤ f → Q f
    go zero h = absurd (omega (arith, h))
    go (suc zero) h = absurd (omega (arith, h))
    go (suc (suc f)) h = k f

pub whenever : {Q : ℕ → Type 0} → ((f : ℕ) → Q f) → Later Q
whenever k = record { least = 0; holds = λ f h. k f }

pub so : {P Q : ℕ → Type 0} → Later P → ((f : ℕ) → P f → Q f) → Later Q
so a k = record { least = a.least; holds = λ f h. k f (a.holds f h) }

-- what is promised for as many records as stand since `base`
pub for_any : {Q : ℕ → ℕ → Type 0} (base start : ℕ) → ((pre : ℕ) → start ≡ base + pre → Later (λ f. Q f pre)) → base ≤ start → Later (λ f. (pre : ℕ) → start ≡ base + pre → Q f pre)
for_any {Q} base start k h =
    let e : start ≡ base + (start - base) = omega (arith, h) in
    let l : Later (λ f. Q f (start - base)) = k (start - base) e in
    record { least = l.least; holds = λ f g pre d. subst (Q f) (let i : start - base ≡ pre = omega (arith, d) in i) (l.holds f g) }

pub loop_start : {t : Table} {w : ℕ → Walked} → Onward t t w w
loop_start = record { on = λ r t' l. l }

-- ── the kind at a place ──
module _ {lists : Lists} {at kind : ℕ} where
  pub is : {k : ℕ} → Seen lists at kind → kind ≡ k → eqb (get_or (kinds_of lists) at 0) k ≡ true
  is {k} s e = eqb-true (get_or (kinds_of lists) at 0) k (sym s.is ∙ e)

  pub isn't : {k : ℕ} → Seen lists at kind → (kind ≡ k → ⊥) → eqb (get_or (kinds_of lists) at 0) k ≡ false
  isn't {k} s e = ne_eqb (get_or (kinds_of lists) at 0) k (λ z. e (s.is ∙ z))

  -- another kind, so not this one
  pub differs : {j : ℕ} (k : ℕ) → Seen lists at kind → kind ≡ j → eqb j k ≡ false → eqb (get_or (kinds_of lists) at 0) k ≡ false
  differs k s e d = ap (λ z. eqb z k) (sym s.is ∙ e) ∙ d

  -- another test of it
  pub by_kind : {b : Bool} (test : ℕ → Bool) → Seen lists at kind → test kind ≡ b → test (get_or (kinds_of lists) at 0) ≡ b
  by_kind test s e = ap test (sym s.is) ∙ e

pub wrong_end : {k : ℕ} → k ≡ 0 → wrong k ≡ 4
unfolding wrong pick
wrong_end e = ap wrong e

pub wrong_token : {k : ℕ} → (k ≡ 0 → ⊥) → wrong k ≡ 3
unfolding wrong pick
wrong_token {k} e = ap (λ z. pick z 4 (λ w. 3)) (ne_eqb k 0 e)

-- ── two tests ──
pub no_left : (a b : Bool) → a ≡ false → both a b ≡ false
unfolding both
no_left a b e = ap (λ z. both z b) e

pub no_right : (a b : Bool) → b ≡ false → both a b ≡ false
unfolding both
no_right true b e = e
no_right false b e = refl

-- two ways that are one, the third not taken
pub two_ways : {A : Type 0} (a a' b : Bool) (x y z : A) → a ≡ a' → (a ≡ true) ⊎ (b ≡ true) → choose a x (choose b y z) ≡ choose a' x y
unfolding choose
two_ways a a' b x y z e (inl h) = ap (λ t. choose t x (choose b y z)) h ∙ sym (ap (λ t. choose t x y) (sym e ∙ h))
two_ways a a' b x y z e (inr h) = ap (λ t. choose a x (choose t y z)) h ∙ ap (λ t. choose t x y) e

-- ── what is asked ──
module _ {c : Around} {s₀ : ℕ} {ask : Ask} where
  -- another strength
  pub repacked : {s : ℕ} {r : Ask} → Packed c s₀ ask → s < 16 → r.code ≡ ask.code / 16 * 16 + s → Packed c s r
  repacked p h e = record { sum = omega (arith, p.sum, p.weak, e); weak = h; few = p.few }

  -- a level deeper
  pub one_deeper : {r : Ask} → Packed c s₀ ask → r.code ≡ ask.code + 512 → Packed (deeper c) s₀ r
  one_deeper p e = record { sum = omega (arith, p.sum, e); weak = p.weak; few = p.few }

  -- a query opened, which asks for strength 1
  pub query_opened : {r : Ask} → Packed c s₀ ask → s₀ ≡ 0 → c.opened < 16 → r.code ≡ ask.code + 16 + 1 → Packed (opening c) 1 r
  query_opened p e h i = record { sum = omega (arith, p.sum, e, i); weak = omega arith; few = omega (arith, h) }

  pub strength_of : Packed c s₀ ask → strength_asked ask ≡ s₀
  unfolding strength_in
  strength_of p = omega (arith, p.sum, p.weak)

  pub queries_of_lem : Packed c s₀ ask → queries_of ask ≡ c.opened
  unfolding queries_in
  queries_of_lem p = omega (arith, p.sum, p.weak, p.few)

-- the outermost query
pub outer_packed : {ask : Ask} → ask.code ≡ 512 → Packed outer 0 ask
outer_packed e = record { sum = e; weak = omega arith; few = omega arith }

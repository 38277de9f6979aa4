-- From the walk to the promise: what the walk of lists that are lent and fit comes to is what `Reads` asks of the answer and the table.
-- So the reader keeps its promise once its functions do their walk. Assumes nothing.
use mathlib.Core.Bool.{Bool, true, false, ◌&&◌}
use mathlib.Core.List.{List, [], ◌∷◌}
use mathlib.Core.Logic.{inl, inr}
use mathlib.Core.Path.{◌≡◌, refl, sym, ap, ◌∙◌, subst}
use Prim.Native.Nat.{ℕ, zero, suc, ◌+◌, ◌*◌, ◌<◌, ◌≤◌}
use lib.Dec.{leb}
use lib.ListN.{length, get_or}
use native.Mathlib.Omega.{arith}
use Rattle.theory.specs.Trees.{Tok, Tree, nil, add}
use Rattle.theory.specs.Outcome.{Ans, got, refused, Outcome}
use Rattle.theory.proofs.Cases.{0≢1, le-leb, leb_le}
use Rattle.theory.proofs.Tested.{FollowOf}
use Rattle.theory.proofs.Outcomes.{outcome}
use Rattle.kinds.specs.Fit.{fits, fit_text}
use Rattle.grammar.specs.Classes.{Command, any}
use Rattle.grammar.specs.Grammar.{sql, G}
use Rattle.grammar.specs.Sizes.{WIDTH}
use Rattle.grammar.specs.Limits.{Around, outer, under, judge}
use Rattle.grammar.specs.Nodes.{Rec, laid}
use Rattle.grammar.specs.Promise.{tokens, Lent, Fit, AllFit, records_of, Reads}
use Rattle.grammar.proofs.Checked.{sql_laws}
use Rattle.grammar.proofs.Promised.{parsed, answered, found, room_b, Is, is_answered, choose_true, choose_false, not-true}
use Rattle.descent.proofs.Places.{Sound}
use Rattle.descent.proofs.Walk.{done, stop, command_w}
use Rattle.descent.proofs.Fill.{fill}
use Rattle.descent.proofs.Means.{ToldCase, Good}
use Rattle.descent.proofs.Filling.{filled_laid}
use Rattle.descent.proofs.Whole.{walk_is_grammar}

and_l : (a b : Bool) → (a && b) ≡ true → a ≡ true
and_l true b e = refl
and_l false b e = e

and_r : (a b : Bool) → (a && b) ≡ true → b ≡ true
and_r true b e = e
and_r false b e = absurd (0≢1 e)

fit_kind : (k t : ℕ) → fits k t ≡ true → (0 < k) × (k < 72)
unfolding fits
fit_kind k t e =
    let b = and_l (leb 1 k && leb k 71) (fit_text k t) e in
    (leb_le 1 k (and_l (leb 1 k) (leb k 71) b), let m : k ≤ 71 = leb_le k 71 (and_r (leb 1 k) (leb k 71) b) in omega (arith, m))

kinds_fit : (K T : List ℕ) → length K ≡ length T → AllFit (tokens K T) → (n : ℕ) → (n < length K → 0 < get_or K n 0) × (get_or K n 0 < 72)
unfolding tokens
kinds_fit [] T e f n = (λ h. absurd (omega (arith, h)), omega arith)
kinds_fit (k ∷ K) [] e f n = absurd (omega (arith, e))
kinds_fit (k ∷ K) (t ∷ T) e f zero = let b = fit_kind k t f.0 in (λ h. b.0, b.1)
kinds_fit (k ∷ K) (t ∷ T) e f (suc n) = let r = kinds_fit K T (omega (arith, e)) f.1 n in (λ h. r.0 (omega (arith, h)), r.1)

pub lent_good : (K T : List ℕ) → Lent K T → AllFit (tokens K T) → Good K T
lent_good K T l f =
    record {
      sound = record { equal = l.equal; some = λ n h. (kinds_fit K T l.equal f n).0 h };
      bound = λ n. (kinds_fit K T l.equal f n).1;
    }

module _ (K T : List ℕ) where
  abbrev Tree_of : List Rec → Type 0
  Tree_of rs = (x : Tree) × (parsed (tokens K T) ≡ got (add nil x) (length (tokens K T)) []) × (rs ≡ records_of x)

  said : Good K T → (f : ℕ) → ToldCase (command_w K T f) (λ a s n rs. Tree_of rs) (λ m p. parsed (tokens K T) ≡ refused m p)
  said good f = (walk_is_grammar K T good f).it

module _ (K T N : List ℕ) (l : Lent K T) (u : AllFit (tokens K T)) where
  outcome_of : (a : Ans) → parsed (tokens K T) ≡ a → Outcome Around under judge G outer (any Command) (tokens K T) a
  outcome_of a e = (outcome Around under judge G outer (any Command) (FollowOf sql) sql_laws (tokens K T) a).0 e

  -- a refusal, 3 to 8
  pub stopped : (f : ℕ) {m p : ℕ} → command_w K T f ≡ stop m p → Reads K T N m p N
  unfolding answered
  stopped f {m} {p} e =
      let q : parsed (tokens K T) ≡ refused m p = subst (λ w. ToldCase w (λ a s n rs. Tree_of K T rs) (λ m p. parsed (tokens K T) ≡ refused m p)) e (said K T (lent_good K T l u) f) in
      is_answered K T N l u (refused m p) (outcome_of (refused m p) q)

  -- .. with a number
  pub stopped_some : (f : ℕ) {m p : ℕ} → command_w K T f ≡ stop m p → 0 < m
  stopped_some f {m} {p} e =
      let q : parsed (tokens K T) ≡ refused m p = subst (λ w. ToldCase w (λ a s n rs. Tree_of K T rs) (λ m p. parsed (tokens K T) ≡ refused m p)) e (said K T (lent_good K T l u) f) in
      some_number (outcome_of (refused m p) q)
    where
      some_number : Outcome Around under judge G outer (any Command) (tokens K T) (refused m p) → 0 < m
      some_number (inl o) = let h = o.0 in omega (arith, h)
      some_number (inr (inl o)) = let h = o.0 in omega (arith, h)
      some_number (inr (inr o)) = let h = o.7.5 in omega (arith, h)

  -- acceptance, and refusal 9
  module _ (f : ℕ) {a s n : ℕ} {rs : List Rec} (e : command_w K T f ≡ done a s n rs) where
    tree : Tree_of K T rs
    tree = subst (λ w. ToldCase w (λ a s n rs. Tree_of K T rs) (λ m p. parsed (tokens K T) ≡ refused m p)) e (said K T (lent_good K T l u) f)

    answer : Is K T N (answered N (got (add nil tree.0) (length (tokens K T)) []))
    answer = is_answered K T N l u _ (outcome_of _ tree.1)

    pub walked : WIDTH * length rs ≤ length N → Reads K T N 0 (length rs) (fill N 0 rs)
    unfolding answered found room_b
    walked r =
        let b : Reads K T N 0 (length (records_of tree.0)) (laid N (records_of tree.0)) = subst (Is K T N) (choose_true _ _ _ (le-leb (WIDTH * length (records_of tree.0)) (length N) (subst (λ z. WIDTH * length z ≤ length N) tree.2 r))) answer in
        subst (λ z. Reads K T N 0 (length rs) z) (sym (filled_laid N rs r)) (subst (λ z. Reads K T N 0 (length z) (laid N z)) (sym tree.2) b)

    pub too_long : ¬ (WIDTH * length rs ≤ length N) → Reads K T N 9 (length rs) N
    unfolding answered found room_b
    too_long r =
        let b : Reads K T N 9 (length (records_of tree.0)) N = subst (Is K T N) (choose_false _ _ _ (not-true _ (λ h. r (subst (λ z. WIDTH * length z ≤ length N) (sym tree.2) (leb_le (WIDTH * length (records_of tree.0)) (length N) h))))) answer in
        subst (λ z. Reads K T N 9 (length z) N) (sym tree.2) b

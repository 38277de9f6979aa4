-- What goes on after an operand, with NOT before its word or without: the code's one way for both is the walk's two. Assumes nothing.
use mathlib.Core.Logic.{◌⊎◌, inl, inr}
use mathlib.Core.Path.{◌≡◌, refl, sym, ap, ◌∙◌, subst}
use Prim.Native.Nat.{ℕ, ◌+◌, ◌-◌, ◌*◌, ◌≤◌, ◌<◌}
use lib.Dec.{ltb}
use lib.ListN.{get_or}
use native.Mathlib.Omega.{arith}
use borrow.Author.Tests.{le-ltb, lt-ltb}
use Rattle.grammar.specs.Limits.{Around}
use Rattle.descent.proofs.Walk.{Walked, done, expr_w, op_w, negated_w, among_w, range_w, binary_w, collate_w}
use Rattle.reader.specs.declared.lists.Lists.{Lists}
use Rattle.reader.specs.declared.table.Table.{Table}
use Rattle.reader.specs.Bounds.{kinds_of, texts_of, Seen}
use Rattle.reader.specs.Laying.{Laid, Later, one, not_null_w}
use Rattle.reader.specs.declared.Step.{Step}
use Rattle.reader.proofs.Laying.{took, left, by_walk, is, isn't, differs, by_kind, next, at_once}

-- NOT stands here and the word after it, or the word itself
abbrev pub Way : Lists → ℕ → ℕ → ℕ → ℕ → Type 0
Way lists at kind not word = ((kind ≡ 36) × (not ≡ 1) × Seen lists (at + 1) word) ⊎ ((kind ≡ 36 → ⊥) × (not ≡ 0) × (word ≡ kind))

module _ {lists : Lists} {at kind : ℕ} {t t' : Table} {r : Step} (a : Around) (s pre : ℕ) (seen : Seen lists at kind) where
  -- a binary operator of one token
  pub op_binary : kind < 36 → Later (λ f. Laid t t' (binary_w (kinds_of lists) (texts_of lists) f (at + 1) a s kind pre) r) → Later (λ f. Laid t t' (op_w (kinds_of lists) (texts_of lists) f at a s pre) r)
  unfolding expr_w
  op_binary h l = next l (λ f b. took _ _ _ (by_kind (λ k. ltb k 36) seen (lt-ltb kind 36 h)) (by_walk (ap (λ k. binary_w (kinds_of lists) (texts_of lists) f (at + 1) a s k pre) (sym seen.is)) b))

  -- after NOT
  negated : kind ≡ 36 → Later (λ f. Laid t t' (negated_w (kinds_of lists) (texts_of lists) f (at + 1) a s pre) r) → Later (λ f. Laid t t' (op_w (kinds_of lists) (texts_of lists) f at a s pre) r)
  unfolding expr_w
  negated e l = next l (λ f h. left _ _ _ (by_kind (λ k. ltb k 36) seen (ap (λ k. ltb k 36) e)) (took _ _ _ (is seen e) h))

-- one place of two
with_not : {not : ℕ} {t t' : Table} {r : Step} (at : ℕ) (X : ℕ → ℕ → ℕ → Walked) → not ≡ 1 → Later (λ f. Laid t t' (X f (at + not + 1) not) r) → Later (λ f. Laid t t' (X f (at + 1 + 1) 1) r)
with_not {t = t} {t' = t'} {r = r} at X n l = subst (λ z. Later (λ f. Laid t t' (X f (at + z + 1) z) r)) n l

without : {not : ℕ} {t t' : Table} {r : Step} (at : ℕ) (X : ℕ → ℕ → ℕ → Walked) → not ≡ 0 → Later (λ f. Laid t t' (X f (at + not + 1) not) r) → Later (λ f. Laid t t' (X f (at + 1) 0) r)
without {t = t} {t' = t'} {r = r} at X n l = subst (λ z. Later (λ f. Laid t t' (X f z 0) r)) place (subst (λ z. Later (λ f. Laid t t' (X f (at + z + 1) z) r)) n l)
  where
    place : at + 0 + 1 ≡ at + 1
    place = omega arith

-- no NOT, and none of IN, BETWEEN, LIKE_KW
-- from what the code knows of NOT, and of the word that it then looks at
pub way_of : {lists : Lists} {kind not word : ℕ} (at : ℕ) → ((kind ≡ 36) × (not ≡ 1)) ⊎ ((kind ≡ 36 → ⊥) × (not ≡ 0))
    → ((kind ≡ 36) × Seen lists (at + 1) word) ⊎ ((kind ≡ 36 → ⊥) × (word ≡ kind)) → Way lists at kind not word
way_of at (inl (e, n)) (inl (f, v)) = inl (e, n, v)
way_of at (inl (e, n)) (inr (f, v)) = absurd (f e)
way_of at (inr (d, n)) (inl (f, v)) = absurd (d f)
way_of at (inr (d, n)) (inr (f, v)) = inr (d, n, v)

other : {lists : Lists} {kind not word : ℕ} (at : ℕ) → 36 ≤ kind → Way lists at kind not word → (not ≡ 1 → ⊥) → (word ≡ 38 → ⊥) → (word ≡ 39 → ⊥) → (word ≡ 40 → ⊥)
    → (kind ≡ 36 → ⊥) × (not ≡ 0) × (kind ≡ 38 → ⊥) × (kind ≡ 39 → ⊥) × (kind ≡ 40 → ⊥)
other at h (inl (e, n, v)) o i b k = absurd (o n)
other at h (inr (d, n, v)) o i b k = (d, n, λ e. i (v ∙ e), λ e. b (v ∙ e), λ e. k (v ∙ e))

module _ {lists : Lists} {at kind not word : ℕ} {t t' : Table} {r : Step} (a : Around) (s pre : ℕ) (seen : Seen lists at kind) where
  pub op_inside : 36 ≤ kind → Way lists at kind not word → word ≡ 38 → Later (λ f. Laid t t' (among_w (kinds_of lists) (texts_of lists) f (at + not + 1) a not pre) r) → Later (λ f. Laid t t' (op_w (kinds_of lists) (texts_of lists) f at a s pre) r)
  unfolding expr_w
  op_inside h (inl (e, n, v)) w l = negated a s pre seen e (next (with_not at (λ f p z. among_w (kinds_of lists) (texts_of lists) f p a z pre) n l) (λ f g. took _ _ _ (is v w) g))
  op_inside h (inr (d, n, v)) w l =
      next (without at (λ f p z. among_w (kinds_of lists) (texts_of lists) f p a z pre) n l) (λ f g. left _ _ _ (by_kind (λ k. ltb k 36) seen (le-ltb kind 36 h)) (left _ _ _ (isn't seen d) (took _ _ _ (is seen (sym v ∙ w)) g)))

  pub op_between : 36 ≤ kind → Way lists at kind not word → word ≡ 39 → Later (λ f. Laid t t' (range_w (kinds_of lists) (texts_of lists) f (at + not + 1) a s not pre) r) → Later (λ f. Laid t t' (op_w (kinds_of lists) (texts_of lists) f at a s pre) r)
  unfolding expr_w
  op_between h (inl (e, n, v)) w l = negated a s pre seen e (next (with_not at (λ f p z. range_w (kinds_of lists) (texts_of lists) f p a s z pre) n l) (λ f g. left _ _ _ (differs _ v w refl) (took _ _ _ (is v w) g)))
  op_between h (inr (d, n, v)) w l =
      next (without at (λ f p z. range_w (kinds_of lists) (texts_of lists) f p a s z pre) n l) (λ f g. left _ _ _ (by_kind (λ k. ltb k 36) seen (le-ltb kind 36 h)) (left _ _ _ (isn't seen d) (left _ _ _ (differs _ seen (sym v ∙ w) refl) (took _ _ _ (is seen (sym v ∙ w)) g))))

  pub op_like : 36 ≤ kind → Way lists at kind not word → word ≡ 40 → (text : ℕ) → text ≡ get_or (texts_of lists) (at + not) 0 → Later (λ f. Laid t t' (binary_w (kinds_of lists) (texts_of lists) f (at + not + 1) a s (200 + 100 * not + text) pre) r) → Later (λ f. Laid t t' (op_w (kinds_of lists) (texts_of lists) f at a s pre) r)
  unfolding expr_w
  op_like h (inl (e, n, v)) w text t l =
      let u : text ≡ get_or (texts_of lists) (at + 1) 0 = t ∙ ap (λ z. get_or (texts_of lists) (at + z) 0) n in
      negated a s pre seen e (next (with_not at (λ f p z. binary_w (kinds_of lists) (texts_of lists) f p a s (200 + 100 * z + text) pre) n l) (λ f g. left _ _ _ (differs _ v w refl) (left _ _ _ (differs _ v w refl) (took _ _ _ (is v w) (by_walk (ap (λ z. binary_w (kinds_of lists) (texts_of lists) f (at + 1 + 1) a s (300 + z) pre) (sym u)) g)))))
  op_like h (inr (d, n, v)) w text t l =
      let u : text ≡ get_or (texts_of lists) at 0 = t ∙ ap (λ z. get_or (texts_of lists) (at + z) 0) n ∙ ap (λ z. get_or (texts_of lists) z 0) same in
      let x = sym v ∙ w in
      next (without at (λ f p z. binary_w (kinds_of lists) (texts_of lists) f p a s (200 + 100 * z + text) pre) n l) (λ f g. left _ _ _ (by_kind (λ k. ltb k 36) seen (le-ltb kind 36 h)) (left _ _ _ (isn't seen d) (left _ _ _ (differs _ seen x refl) (left _ _ _ (differs _ seen x refl) (took _ _ _ (is seen x) (by_walk (ap (λ z. binary_w (kinds_of lists) (texts_of lists) f (at + 1) a s (200 + z) pre) (sym u)) g))))))
    where
      same : at + 0 ≡ at
      same = omega arith

  -- NOT, and none of IN, BETWEEN, LIKE_KW: NULL, or a refusal there
  pub op_null : Way lists at kind not word → not ≡ 1 → (word ≡ 38 → ⊥) → (word ≡ 39 → ⊥) → (word ≡ 40 → ⊥) → Laid t t' (not_null_w word (at + not + 1) (at + not + 1 - 1) pre) r → Later (λ f. Laid t t' (op_w (kinds_of lists) (texts_of lists) f at a s pre) r)
  unfolding expr_w
  op_null (inl (e, n, v)) o i b k l =
      negated a s pre seen e (at_once (λ f. left _ _ _ (isn't v i) (left _ _ _ (isn't v b) (left _ _ _ (isn't v k) (by_walk (seen_null ∙ sym (placed n)) l)))))
    where
      place : at + 1 + 1 - 1 ≡ at + 1
      place = omega arith

      placed : not ≡ 1 → not_null_w word (at + not + 1) (at + not + 1 - 1) pre ≡ not_null_w word (at + 1 + 1) (at + 1) pre
      placed n = ap (λ z. not_null_w word (at + z + 1) (at + z + 1 - 1) pre) n ∙ ap (λ z. not_null_w word (at + 1 + 1) z pre) place

      seen_null : not_null_w (get_or (kinds_of lists) (at + 1) 0) (at + 1 + 1) (at + 1) pre ≡ not_null_w word (at + 1 + 1) (at + 1) pre
      seen_null = ap (λ z. not_null_w z (at + 1 + 1) (at + 1) pre) (sym v.is)
  op_null (inr (d, n, v)) o i b k l = absurd (omega (arith, n, o))

  module _ (h : 36 ≤ kind) (way : Way lists at kind not word) (o : not ≡ 1 → ⊥) (i : word ≡ 38 → ⊥) (b : word ≡ 39 → ⊥) (k : word ≡ 40 → ⊥) where
    pub op_is : kind ≡ 37 → (isnot after : ℕ) → Seen lists (at + not + 1) after → ((after ≡ 36) × (isnot ≡ 1)) ⊎ ((after ≡ 36 → ⊥) × (isnot ≡ 0)) → Later (λ f. Laid t t' (binary_w (kinds_of lists) (texts_of lists) f (at + not + 1 + isnot) a s (37 + 100 * isnot) pre) r) → Later (λ f. Laid t t' (op_w (kinds_of lists) (texts_of lists) f at a s pre) r)
    unfolding expr_w
    op_is e isnot after v w l = let q = other at h way o i b k in go q.1 (seen_there q.1) w
      where
        seen_there : not ≡ 0 → Seen lists (at + 1) after
        seen_there n = subst (λ z. Seen lists z after) (let p : at + not + 1 ≡ at + 1 = omega (arith, n) in p) v

        go : not ≡ 0 → Seen lists (at + 1) after → ((after ≡ 36) × (isnot ≡ 1)) ⊎ ((after ≡ 36 → ⊥) × (isnot ≡ 0)) → Later (λ f. Laid t t' (op_w (kinds_of lists) (texts_of lists) f at a s pre) r)
        go n v' (inl (x, y)) =
            next l (λ f g. left _ _ _ (by_kind (λ k. ltb k 36) seen (le-ltb kind 36 h)) (left _ _ _ (differs _ seen e refl) (left _ _ _ (differs _ seen e refl) (left _ _ _ (differs _ seen e refl) (left _ _ _ (differs _ seen e refl) (took _ _ _ (is seen e) (took _ _ _ (is v' x)
            (by_walk (ap (λ z. binary_w (kinds_of lists) (texts_of lists) f z a s 137 pre) (let p : at + 2 ≡ at + not + 1 + isnot = omega (arith, n, y) in p) ∙ ap (λ z. binary_w (kinds_of lists) (texts_of lists) f (at + not + 1 + isnot) a s (37 + 100 * z) pre) (sym y)) g))))))))
        go n v' (inr (x, y)) =
            next l (λ f g. left _ _ _ (by_kind (λ k. ltb k 36) seen (le-ltb kind 36 h)) (left _ _ _ (differs _ seen e refl) (left _ _ _ (differs _ seen e refl) (left _ _ _ (differs _ seen e refl) (left _ _ _ (differs _ seen e refl) (took _ _ _ (is seen e) (left _ _ _ (isn't v' x)
            (by_walk (ap (λ z. binary_w (kinds_of lists) (texts_of lists) f z a s 37 pre) (let p : at + 1 ≡ at + not + 1 + isnot = omega (arith, n, y) in p) ∙ ap (λ z. binary_w (kinds_of lists) (texts_of lists) f (at + not + 1 + isnot) a s (37 + 100 * z) pre) (sym y)) g))))))))

    pub op_collate : kind ≡ 43 → Laid t t' (collate_w (kinds_of lists) (texts_of lists) (at + not + 1) pre) r → Later (λ f. Laid t t' (op_w (kinds_of lists) (texts_of lists) f at a s pre) r)
    unfolding expr_w
    op_collate e l =
        let q = other at h way o i b k in
        at_once (λ f. left _ _ _ (by_kind (λ k. ltb k 36) seen (le-ltb kind 36 h)) (left _ _ _ (differs _ seen e refl) (left _ _ _ (differs _ seen e refl) (left _ _ _ (differs _ seen e refl) (left _ _ _ (differs _ seen e refl) (left _ _ _ (differs _ seen e refl) (took _ _ _ (is seen e)
        (by_walk (ap (λ z. collate_w (kinds_of lists) (texts_of lists) z pre) (place q.1)) l))))))))
      where
        place : not ≡ 0 → at + 1 ≡ at + not + 1
        place n = omega (arith, n)

    -- ISNULL or NOTNULL
    pub op_postfix : (kind ≡ 37 → ⊥) → (kind ≡ 43 → ⊥) → Laid t t' (done (at + not + 1) 12 0 (one 40 kind 1 (pre + 1))) r → Later (λ f. Laid t t' (op_w (kinds_of lists) (texts_of lists) f at a s pre) r)
    unfolding expr_w
    op_postfix x y l =
        let q = other at h way o i b k in
        at_once (λ f. left _ _ _ (by_kind (λ k. ltb k 36) seen (le-ltb kind 36 h)) (left _ _ _ (isn't seen q.0) (left _ _ _ (isn't seen q.2) (left _ _ _ (isn't seen q.3) (left _ _ _ (isn't seen q.4) (left _ _ _ (isn't seen x) (left _ _ _ (isn't seen y)
        (by_walk (ap (λ z. done z 12 0 (one 40 (get_or (kinds_of lists) at 0) 1 (pre + 1))) (place q.1) ∙ ap (λ z. done (at + not + 1) 12 0 (one 40 z 1 (pre + 1))) (sym seen.is)) l))))))))
      where
        place : not ≡ 0 → at + 1 ≡ at + not + 1
        place n = omega (arith, n)

-- Demand 3 of the two calls. writes_equal: two commands that were written mean the same exactly when the outputs are equal token for token.
-- writes_canonical: an output of at most 4,096 tokens and 64 levels is accepted, keeps the meaning and is its own writing. writes_without: where
-- no NOT stands to the right in the command, the output's levels need no word. Assumes nothing.
use mathlib.Core.List.{List, [], ◌∷◌, ◌++◌}
use mathlib.Core.Path.{◌≡◌, refl, sym, ap, ◌∙◌, subst}
use Prim.Native.Nat.{ℕ, ◌≤◌}
use lib.ListN.{length, take, drop}
use native.Mathlib.Omega.{arith}
use Rattle.theory.specs.Trees.{Tok, Tree}
use Rattle.grammar.specs.Grammar.{IsCommand}
use Rattle.grammar.specs.Sizes.{TOKENS}
use Rattle.grammar.specs.Nodes.{Nodes}
use Rattle.grammar.specs.Reading.{reading}
use Rattle.grammar.specs.Meaning.{meaning}
use Rattle.grammar.specs.Promise.{tokens, Accepted, records_of, Room, accepted, refusal_9, writing_of, put, kinds_of, texts_of, Writes, written, refusal_1w, refusal_2_to_9, refusal_10}
use Rattle.grammar.proofs.Promised.{one_reading, one_writing}
use Rattle.grammar.proofs.SamplesHold.{tokens_back, length_kinds, length_texts}
use Rattle.canon.specs.ToTheRight.{NoneToTheRight}
use Rattle.canon.specs.Promise.{Shallow, SameWriting}
use Rattle.canon.specs.Calls.{Means, MeanTheSame, EqualTokens, SameMeaningEqualOutputs, ReadAccepts, CanonicalOutput}
use Rattle.canon.proofs.Canonical.{one_tree, canonical, equal_writings, shallow_without}

-- ── a command has one meaning ──
one_command : {K T : List ℕ} {x y : Tree} → Accepted K T x → Accepted K T y → x ≡ y
one_command {K} {T} {x} {y} a b = one_tree (tokens K T) x y a.derived b.derived

meant_by : {K T : List ℕ} {x : Tree} {n : Nodes} → Accepted K T x → Means K T n → meaning (reading x) ≡ n
meant_by a m = ap (λ z. meaning (reading z)) (one_command a m.accepted) ∙ m.meant

pub one_meaning : {K T : List ℕ} {n m : Nodes} → Means K T n → Means K T m → n ≡ m
one_meaning a b = sym a.meant ∙ meant_by a.accepted b

-- ── what was written ──
take_front : (xs ys : List ℕ) → take (length xs) (xs ++ ys) ≡ xs
take_front [] ys = refl
take_front (x ∷ xs) ys = ap (λ z. x ∷ z) (take_front xs ys)

put_front : {p : ℕ} {A' : List ℕ} (xs A : List ℕ) → p ≡ length xs → A' ≡ put xs A → take p A' ≡ xs
unfolding put
put_front {A' = A'} xs A e f = ap (λ z. take z A') e ∙ ap (take (length xs)) f ∙ take_front xs (drop (length xs) A)

record Output (K T : List ℕ) (p : ℕ) (A B : List ℕ) : Type 0 where
  tree : Tree
  taken : Accepted K T tree
  counted : p ≡ length (writing_of tree)
  kinds : take p A ≡ kinds_of (writing_of tree)
  texts : take p B ≡ texts_of (writing_of tree)

output : {K T N A B : List ℕ} {m p : ℕ} {N' A' B' : List ℕ} → Writes K T N A B m p N' A' B' → m ≡ 0 → Output K T p A' B'
output {A = A} {B = B} (written x e a r h i j k l o) z =
    record {
      tree = x;
      taken = a;
      counted = j;
      kinds = put_front (kinds_of (writing_of x)) A (j ∙ sym (length_kinds (writing_of x))) l;
      texts = put_front (texts_of (writing_of x)) B (j ∙ sym (length_texts (writing_of x))) o;
    }
output (refusal_1w n i j k l o) z = absurd (omega (arith, i, z))
output (refusal_2_to_9 e l r h i j) z = absurd (omega (arith, h, z))
output (refusal_10 x e a r h i j k l o) z = absurd (omega (arith, i, z))

-- tokens with these kinds and these texts are these tokens
same_tokens : (ts us : List Tok) → kinds_of ts ≡ kinds_of us → texts_of ts ≡ texts_of us → ts ≡ us
same_tokens ts us k t = sym (tokens_back ts) ∙ ap (λ z. tokens z (texts_of ts)) k ∙ ap (tokens (kinds_of us)) t ∙ tokens_back us

module _ {K T : List ℕ} {p : ℕ} {A B L U : List ℕ} {q : ℕ} {C D : List ℕ} (a : Output K T p A B) (b : Output L U q C D) where
  equal_tokens : SameWriting a.tree b.tree → EqualTokens p A B q C D
  equal_tokens e =
      record {
        count = a.counted ∙ ap length e ∙ sym b.counted;
        kinds = a.kinds ∙ ap kinds_of e ∙ sym b.kinds;
        texts = a.texts ∙ ap texts_of e ∙ sym b.texts;
      }

  equal_written : EqualTokens p A B q C D → SameWriting a.tree b.tree
  equal_written e = same_tokens (writing_of a.tree) (writing_of b.tree) (sym a.kinds ∙ e.kinds ∙ b.kinds) (sym a.texts ∙ e.texts ∙ b.texts)

  outputs_equal : SameMeaningEqualOutputs K T p A B L U q C D
  outputs_equal =
      let w = equal_writings a.taken b.taken in (
        λ m. equal_tokens (w.0 (meant_by a.taken m.1 ∙ sym (meant_by b.taken m.2))),
        λ e. (meaning (reading a.tree), record { tree = a.tree; accepted = a.taken; meant = refl }, record { tree = b.tree; accepted = b.taken; meant = sym (w.1 (equal_written e)) }),
      )

pub writes_equal : {K T N A B L U M C D : List ℕ} {p q : ℕ} {N' A' B' M' C' D' : List ℕ} → Writes K T N A B 0 p N' A' B' → Writes L U M C D 0 q M' C' D'
    → SameMeaningEqualOutputs K T p A' B' L U q C' D'
writes_equal a b = outputs_equal (output a refl) (output b refl)

-- ── calls to an accepted command ──
pub read_accepts : {K T : List ℕ} {x : Tree} → Accepted K T x → ReadAccepts K T (length (records_of x))
read_accepts {K} {T} {x} a =
    record {
      roomy = λ {N} r h. let e = one_reading K T N r (accepted x a h refl refl refl) in (e.0, e.1);
      tight = λ {N} r h. let e = one_reading K T N r (refusal_9 x a (λ g. absurd (omega (arith, g, h))) refl refl refl) in (e.0, e.1);
    }

pub write_accepts : {K T N A B : List ℕ} {m p : ℕ} {N' A' B' : List ℕ} {x : Tree} → Accepted K T x → Room N x → length A ≡ length B → length (writing_of x) ≤ length A
    → Writes K T N A B m p N' A' B' → m ≡ 0
write_accepts {K} {T} {N} {A} {B} {x = x} a r e h w = (one_writing K T N A B w (written x e a r h refl refl refl refl refl)).0

-- ── a call to an output ──
-- the tokens of an output are the writing
written_tokens : {K T : List ℕ} {p : ℕ} {A B : List ℕ} (o : Output K T p A B) → tokens (take p A) (take p B) ≡ writing_of o.tree
written_tokens {p = p} {B = B} o = ap (λ z. tokens z (take p B)) o.kinds ∙ ap (tokens (kinds_of (writing_of o.tree))) o.texts ∙ tokens_back (writing_of o.tree)

pub writes_canonical : {K T N A B : List ℕ} {p : ℕ} {N' A' B' : List ℕ} → Writes K T N A B 0 p N' A' B' → p ≤ TOKENS → Shallow (tokens (take p A') (take p B')) → CanonicalOutput K T p A' B'
writes_canonical {K} {T} {p = p} {A' = A'} {B' = B'} w short shallow =
    let o = output w refl in
    let x = o.tree in
    let n = o.counted in
    let c = canonical (record { accepted = o.taken; short = subst (λ z. z ≤ TOKENS) n short; shallow = subst Shallow (written_tokens o) shallow }) in
    let y = c.written in
    let again : Accepted (take p A') (take p B') y.tree = subst (λ z. Accepted z (take p B') y.tree) (sym o.kinds) (subst (λ z. Accepted (kinds_of (writing_of x)) z y.tree) (sym o.texts) c.accepted) in
    let same : MeanTheSame K T (take p A') (take p B')
    = (meaning (reading x), record { tree = x; accepted = o.taken; meant = refl }, record { tree = y.tree; accepted = again; meant = y.meaning }) in
    let l : length (writing_of y.tree) ≡ p = ap length y.own ∙ sym n in
    record {
      needed = length (records_of y.tree);
      accepted = read_accepts again;
      meaning = same;
      rewritten = λ v r e h. write_accepts again r e (omega (arith, l, h)) v;
      own = λ v. (outputs_equal o (output v refl)).0 same;
    }

pub writes_without : {K T N A B : List ℕ} {p : ℕ} {N' A' B' : List ℕ} → Writes K T N A B 0 p N' A' B' → p ≤ TOKENS → ((x : Tree) → IsCommand (tokens K T) x → NoneToTheRight x) → CanonicalOutput K T p A' B'
writes_without w short none = let o = output w refl in
    writes_canonical w short (subst Shallow (sym (written_tokens o)) (shallow_without o.taken (none o.tree o.taken.derived)))

-- The words of a join are read as the grammar says, and what they come to is 64 and their united flags (join_w). Assumes nothing.
use mathlib.Core.Bool.{true, false}
use mathlib.Core.List.{List, [], ◌∷◌}
use mathlib.Core.Path.{◌≡◌, refl, sym, ap, ◌∙◌}
use Prim.Native.Nat.{ℕ, ◌+◌}
use borrow.Author.Tests.{eqb-false}
use lib.Bits.{or_zero_r}
use lib.Dec.{eqb}
use lib.ListN.{get_or}
use native.Mathlib.Omega.{arith}
use Rattle.theory.specs.Trees.{Tok, Item, lit, nt, Row, Tree, nil, add, leaf, node}
use Rattle.theory.specs.Table.{pick, both, mem, enter_of}
use Rattle.theory.specs.Outcome.{got, refused}
use Rattle.theory.proofs.Cases.{eqb_eq}
use Rattle.kinds.specs.Kinds.{JOIN_KW, JOIN}
use Rattle.words.specs.Flags.{flags_of, united, legal}
use Rattle.grammar.specs.Classes.{Source, Joins?, Word2?, Word3?, On?, any}
use Rattle.grammar.specs.RowNames.{row_word_join, row_word}
use Rattle.grammar.specs.Rows.{part}
use Rattle.grammar.specs.Grammar.{sql}
use Rattle.grammar.specs.Limits.{Around, is_query, below, further_flags, is_kind, judge}
use Rattle.grammar.specs.Reading.{says, choose, rules, ruled, value_of, value, values, ◌#◌}
use Rattle.words.proofs.OrderDoesNotMatter.{united_assoc}
use Rattle.descent.proofs.Places.{kind_at, tok_at, from, wrong, OpenRow, calls, rests}
use Rattle.descent.proofs.Walk.{Walked, done, stop, wrong_at, join_w}
use Rattle.descent.proofs.Steps.{nt_got, lit_got, lit_word, lit_wrong}
use Rattle.descent.proofs.ClassFacts.{none_of_1, firsts_Word2, Word2_at_JOIN_KW, Word2_may, firsts_Word3, Word3_at_JOIN_KW, Word3_may}
use Rattle.descent.proofs.Means.{Told, Good}
use Rattle.descent.proofs.Common.{told_choose, told_done, told_stop}
use Rattle.descent.proofs.NoTails.{plain_classes}
use Rattle.descent.proofs.PlainClasses.{opened, begin, whole, absent}

abbrev pub word_join_row : Row
word_join_row = part row_word_join (nt (any Word2?) ∷ lit JOIN ∷ nt (any Source) ∷ nt (any On?) ∷ [])

abbrev second_row : Row
second_row = part row_word (nt (any Word3?) ∷ [])

abbrev third_row : Row
third_row = part row_word []

module _ (K T : List ℕ) (good : Good K T) where
  -- the second word, and the third, read from place n: the tree w up to place n', with these flags
  pub record Words (c : Around) (n n' : ℕ) (w : Tree) (flags : ℕ) : Type 0 where
    pub read : calls K T c (any Word2?) n ≡ got w n' (from K T n')
    pub judged : further_flags w ≡ flags
    pub says : (value w).num ≡ flags

  no_word_more : (c : Around) (n : ℕ) → eqb (kind_at K n) JOIN_KW ≡ false → Words c n n nil 0
  unfolding further_flags value
  no_word_more c n e = record { read = absent K T good c Word2? n (ap (mem (kind_at K n)) firsts_Word2 ∙ none_of_1 (eqb-false (kind_at K n) JOIN_KW e)) Word2_may; judged = refl; says = refl }

  begins_second : (c : Around) (n : ℕ) → eqb (kind_at K n) JOIN_KW ≡ true → calls K T c (any Word2?) n ≡ rests K T (opened K T c Word2? second_row n) (nt (any Word3?) ∷ []) nil (n + 1)
  unfolding is_query pick
  begins_second c n e = begin K T good c Word2? second_row n (ap (enter_of sql (any Word2?)) (eqb_eq (kind_at K n) JOIN_KW e) ∙ Word2_at_JOIN_KW) refl refl

  one_word_more : (c : Around) (n : ℕ) → eqb (kind_at K n) JOIN_KW ≡ true → eqb (kind_at K (n + 1)) JOIN_KW ≡ false
      → Words c n (n + 1) (node second_row nil (tok_at K T n) (add nil nil)) (flags_of (get_or T n 0))
  unfolding further_flags value values value_of ruled rules pick ◌#◌ below is_query mem plain_classes
  one_word_more c n e z = record {
    read = begins_second c n e ∙ nt_got K T good.sound (opened K T c Word2? second_row n) (any Word3?) [] nil (n + 1)
        (absent K T good c Word3? (n + 1) (ap (mem (kind_at K (n + 1))) firsts_Word3 ∙ none_of_1 (eqb-false (kind_at K (n + 1)) JOIN_KW z)) Word3_may)
        ∙ whole K T good c Word2? second_row n (add nil nil) (n + 1) refl;
    judged = or_zero_r (flags_of (get_or T n 0));
    says = or_zero_r (flags_of (get_or T n 0));
  }

  two_words_more : (c : Around) (n : ℕ) → eqb (kind_at K n) JOIN_KW ≡ true → eqb (kind_at K (n + 1)) JOIN_KW ≡ true
      → Words c n (n + 1 + 1) (node second_row nil (tok_at K T n) (add nil (node third_row nil (tok_at K T (n + 1)) nil))) (united (flags_of (get_or T n 0)) (flags_of (get_or T (n + 1) 0)))
  unfolding further_flags value values value_of ruled rules pick ◌#◌ below is_query mem plain_classes
  two_words_more c n e z = record {
    read = begins_second c n e ∙ nt_got K T good.sound (opened K T c Word2? second_row n) (any Word3?) [] nil (n + 1)
        (begin K T good c Word3? third_row (n + 1) (ap (enter_of sql (any Word3?)) (eqb_eq (kind_at K (n + 1)) JOIN_KW z) ∙ Word3_at_JOIN_KW) refl refl ∙ whole K T good c Word3? third_row (n + 1) nil (n + 1 + 1) refl)
        ∙ whole K T good c Word2? second_row n (add nil (node third_row nil (tok_at K T (n + 1)) nil)) (n + 1 + 1) refl;
    judged = ap (united (flags_of (get_or T n 0))) (or_zero_r (flags_of (get_or T (n + 1) 0)));
    says = ap (united (flags_of (get_or T n 0))) (or_zero_r (flags_of (get_or T (n + 1) 0)));
  }

  -- after the first word, which is F's token: the words to come, and JOIN
  abbrev pub Joined : OpenRow → List Item → ℕ → Walked → Type 0
  Joined F is n w = Told w
      (λ a s m rs. (w : Tree) × (u : Tok) × (rests K T F (nt (any Word2?) ∷ lit JOIN ∷ is) nil n ≡ rests K T F is (add (add nil w) (leaf u)) a) × (s ≡ 64 + united (flags_of F.t.text) (value w).num) × (rs ≡ []))
      (λ m p. rests K T F (nt (any Word2?) ∷ lit JOIN ∷ is) nil n ≡ refused m p)

  module _ (c : Around) (l : Tree) (t : Tok) (is : List Item) where
    abbrev pub joining : OpenRow
    joining = record { c = c; A = any Joins?; r = word_join_row; l = l; t = t }

    judged_join : (n n' : ℕ) (w : Tree) (flags : ℕ) → Words c n n' w flags → eqb (kind_at K n') JOIN ≡ true
        → judge c word_join_row l t (add (add nil w) (leaf (tok_at K T n'))) ≡ pick (legal (united (flags_of t.text) flags)) 0 (λ w. 7)
    unfolding judge both pick is_kind further_flags
    judged_join n n' w flags h e = rw (e, h.judged)

    at_join : (n n' : ℕ) (w : Tree) (flags all : ℕ) → Words c n n' w flags → united (flags_of t.text) flags ≡ all → eqb (kind_at K n') JOIN ≡ true
        → Joined joining is n (choose (legal all) (done (n' + 1) (64 + all) 0 []) (stop 7 n'))
    unfolding below is_query pick
    at_join n n' w flags all h u e = let b = nt_got K T good.sound joining (any Word2?) (lit JOIN ∷ is) nil n h.read in
        told_choose (legal all) _ _
        (λ z. told_done (n' + 1) (64 + all) 0 [] (
          w,
          tok_at K T n',
          b ∙ lit_got K T good.sound joining JOIN is (add nil w) n' (omega arith) (eqb_eq (kind_at K n') JOIN e) (judged_join n n' w flags h e ∙ rw (u, z)),
          rw (h.says, u) refl,
          refl,
        ))
        (λ z. told_stop 7 n' (b ∙ lit_word K T good.sound joining JOIN is (add nil w) n' 6 (omega arith) (eqb_eq (kind_at K n') JOIN e) (judged_join n n' w flags h e ∙ rw (u, z))))

    at_wrong : (n n' : ℕ) (w : Tree) (flags : ℕ) → Words c n n' w flags → eqb (kind_at K n') JOIN ≡ false → Joined joining is n (wrong_at K T n')
    unfolding below is_query pick
    at_wrong n n' w flags h e = told_stop (wrong (kind_at K n')) n' (nt_got K T good.sound joining (any Word2?) (lit JOIN ∷ is) nil n h.read
        ∙ lit_wrong K T good.sound joining JOIN is (add nil w) n' (omega arith) (eqb-false (kind_at K n') JOIN e))

    no_join_word : (n : ℕ) → eqb (kind_at K n) JOIN ≡ true → eqb (kind_at K n) JOIN_KW ≡ false
    no_join_word n e = rw (eqb_eq (kind_at K n) JOIN e)

    -- at most two words more; at most one; none
    third : (n all : ℕ) → eqb (kind_at K n) JOIN_KW ≡ true → eqb (kind_at K (n + 1)) JOIN_KW ≡ true
        → united (flags_of t.text) (united (flags_of (get_or T n 0)) (flags_of (get_or T (n + 1) 0))) ≡ all → Joined joining is n (join_w K T 0 (n + 1 + 1) all)
    unfolding join_w
    third n all y x u = let h = two_words_more c n y x in
        told_choose (eqb (kind_at K (n + 1 + 1)) JOIN) _ _
        (at_join n (n + 1 + 1) _ _ all h u)
        (at_wrong n (n + 1 + 1) _ _ h)

    second : (n all : ℕ) → eqb (kind_at K n) JOIN_KW ≡ true → united (flags_of t.text) (flags_of (get_or T n 0)) ≡ all → Joined joining is n (join_w K T 1 (n + 1) all)
    unfolding join_w
    second n all y u = told_choose (eqb (kind_at K (n + 1)) JOIN) _ _
        (λ z. at_join n (n + 1) _ _ all (one_word_more c n y (no_join_word (n + 1) z)) u z)
        (λ z. told_choose (eqb (kind_at K (n + 1)) JOIN_KW) _ _
        (λ x. third n (united all (flags_of (get_or T (n + 1) 0))) y x (sym (united_assoc (flags_of t.text) (flags_of (get_or T n 0)) (flags_of (get_or T (n + 1) 0))) ∙ ap (λ i. united i (flags_of (get_or T (n + 1) 0))) u))
        (λ x. at_wrong n (n + 1) _ _ (one_word_more c n y x) z))

    pub words_ok : (n flags : ℕ) → flags_of t.text ≡ flags → Joined joining is n (join_w K T 2 n flags)
    unfolding join_w
    words_ok n flags e = told_choose (eqb (kind_at K n) JOIN) _ _
        (λ z. at_join n n nil 0 flags (no_word_more c n (no_join_word n z)) (or_zero_r (flags_of t.text) ∙ e) z)
        (λ z. told_choose (eqb (kind_at K n) JOIN_KW) _ _
        (λ y. second n (united flags (flags_of (get_or T n 0))) y (ap (λ i. united i (flags_of (get_or T n 0))) e))
        (λ y. at_wrong n n nil 0 (no_word_more c n y) z))

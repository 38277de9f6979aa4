-- The walk of a whole list is the grammar's answer to it, whatever the fuel: walk_is_grammar. (A walk that is spent claims nothing.)
-- Assumes nothing.
use mathlib.Core.Bool.{false}
use mathlib.Core.List.{List, [], ◌∷◌}
use mathlib.Core.Path.{◌≡◌, refl, sym, ap, ◌∙◌}
use Prim.Native.Nat.{ℕ, ◌+◌}
use borrow.Author.Tests.{ne_eqb, ltb-true, ltb-false, eqb-false}
use lib.Dec.{ltb, eqb}
use lib.ListN.{length}
use native.Mathlib.Omega.{arith}
use Rattle.theory.specs.Trees.{nt, Row, Tree, nil, add, node, cap_of}
use Rattle.theory.specs.Table.{pick, mem, enter_of}
use Rattle.theory.specs.Outcome.{got, refused, Outcome}
use Rattle.theory.proofs.Cases.{by_bool, eqb_eq}
use Rattle.theory.proofs.Tested.{FollowOf}
use Rattle.theory.proofs.Descend.{on_got}
use Rattle.theory.proofs.Scan.{whole, told, descent}
use Rattle.theory.proofs.Outcomes.{outcome}
use Rattle.kinds.specs.Kinds.{SEMI}
use Rattle.grammar.specs.Classes.{Command, Semi?, any}
use Rattle.grammar.specs.RowNames.{row_semi}
use Rattle.grammar.specs.Rows.{part}
use Rattle.grammar.specs.Grammar.{sql, G}
use Rattle.grammar.specs.Limits.{Around, outer, is_query, below, under, judge}
use Rattle.grammar.specs.Reading.{reading}
use Rattle.grammar.specs.Promise.{tokens, records_of}
use Rattle.grammar.proofs.Checked.{sql_laws}
use Rattle.grammar.proofs.Promised.{parsed}
use Rattle.descent.proofs.Places.{kind_at, tok_at, from, wrong, OpenRow, calls}
use Rattle.descent.proofs.Walk.{done, wrong_at, query_w, command_w}
use Rattle.descent.proofs.Equations.{from_in, kind_end, at_end}
use Rattle.descent.proofs.Steps.{nt_got, call_in, call_absent, row_stop}
use Rattle.descent.proofs.ClassFacts.{out, none_of_1, none_of_2, firsts_Command, Command_at_SELECT, Command_at_VALUES, Command_may, firsts_Semi, Semi_at_SEMI, Semi_may}
use Rattle.descent.proofs.Means.{Told, Good, QueryOK}
use Rattle.descent.proofs.Common.{told_bind, told_choose, told_done, told_stop, part_no_word}
use Rattle.descent.proofs.NoTails.{plain_classes, ends}
use Rattle.descent.proofs.Everything.{all}

abbrev semi_row : Row
semi_row = part row_semi []

-- what the walk of the whole list comes to, with fuel f
abbrev pub CommandOK : List ℕ → List ℕ → ℕ → Type 0
CommandOK K T f = Told (command_w K T f)
    -- done: the machine finds a tree and no token is left, and the walk's records are the tree's
    (λ a s n rs. (x : Tree) × (parsed (tokens K T) ≡ got (add nil x) (length (tokens K T)) []) × (rs ≡ records_of x))
    -- stopped: the machine refuses by the same number at the same place
    (λ m p. parsed (tokens K T) ≡ refused m p)

module _ (K T : List ℕ) (good : Good K T) where
  -- what the machine finds, from what recursive descent finds
  by_descent : parsed (tokens K T) ≡ on_got (calls K T outer (any Command) 0) (λ x n us. whole (got (add nil x) n us))
  unfolding from told
  by_descent = sym (descent G Around under judge outer (any Command) Command_may (tokens K T))

  parsed_whole : (x : Tree) (n : ℕ) → calls K T outer (any Command) 0 ≡ got x n (from K T n) → kind_at K n ≡ 0 → parsed (tokens K T) ≡ got (add nil x) (length (tokens K T)) []
  unfolding on_got whole
  parsed_whole x n e z =
      let p : parsed (tokens K T) ≡ got (add nil x) n [] = by_descent ∙ rw (e, at_end K T good.sound n z) in
      let o : Outcome Around under judge G outer (any Command) (tokens K T) (got (add nil x) n []) = (outcome Around under judge G outer (any Command) (FollowOf sql) sql_laws (tokens K T) (got (add nil x) n [])).0 p in
      p ∙ ap (λ m. got (add nil x) m []) o.2

  parsed_more : (x : Tree) (n : ℕ) → calls K T outer (any Command) 0 ≡ got x n (from K T n) → (kind_at K n ≡ 0 → ⊥) → parsed (tokens K T) ≡ refused (wrong (kind_at K n)) n
  unfolding on_got whole wrong pick
  parsed_more x n e z = by_bool (ltb n (length K))
      (λ h. by_descent ∙ rw (e, from_in K T n good.sound.equal (ltb-true n (length K) h), ne_eqb (kind_at K n) 0 z))
      (λ h. absurd (z (kind_end K n (ltb-false n (length K) h))))

  command_ok : (f : ℕ) → QueryOK K T f → CommandOK K T f
  unfolding command_w on_got reading is_query plain_classes mem pick
  command_ok f query = told_bind (query_w K T f 0 outer) _ (query 0 outer (any Command) (nt (any Semi?) ∷ []) Command_at_SELECT Command_at_VALUES
      (λ a b. (out Command (kind_at K 0) (ap (mem (kind_at K 0)) firsts_Command ∙ none_of_2 a b), Command_may)))
      (λ a s n rs p.
      let F : OpenRow = record { c = outer; A = any Command; r = p.0; l = nil; t = tok_at K T 0 } in
      let x : Tree = node p.0 nil (tok_at K T 0) (add p.1 nil) in
      let y : Tree = node p.0 nil (tok_at K T 0) (add p.1 (node semi_row nil (tok_at K T a) nil)) in
      let without : (kind_at K a ≡ SEMI → ⊥) → calls K T outer (any Command) 0 ≡ got x a (from K T a)
      = λ h. p.2 ∙ nt_got K T good.sound F (any Semi?) [] p.1 a (call_absent K T good.sound _ (any Semi?) a (out Semi? (kind_at K a) (ap (mem (kind_at K a)) firsts_Semi ∙ none_of_1 h)) Semi_may)
      ∙ row_stop K T good.sound F (add p.1 nil) a (ends Command refl p.0 (cap_of (add p.1 nil)) (kind_at K a)) in
      let with' : kind_at K a ≡ SEMI → calls K T outer (any Command) 0 ≡ got y (a + 1) (from K T (a + 1))
      = λ h. p.2 ∙ nt_got K T good.sound F (any Semi?) [] p.1 a (semi (below p.0 outer) a h)
      ∙ row_stop K T good.sound F (add p.1 (node semi_row nil (tok_at K T a) nil)) (a + 1) (ends Command refl p.0 (cap_of (add p.1 (node semi_row nil (tok_at K T a) nil))) (kind_at K (a + 1))) in
      told_choose (eqb (kind_at K a) 0) (done a s n rs) _
      (λ z. told_done a s n rs (x, parsed_whole x a (without (λ h. absurd (let k = eqb_eq (kind_at K a) 0 z in omega (arith, h, k)))) (eqb_eq (kind_at K a) 0 z), sym (p.8 nil).records))
      (λ z. told_choose (eqb (kind_at K a) SEMI) _ (wrong_at K T a)
      (λ v. told_choose (eqb (kind_at K (a + 1)) 0) (done a s n rs) (wrong_at K T (a + 1))
      (λ w. told_done a s n rs (y, parsed_whole y (a + 1) (with' (eqb_eq (kind_at K a) SEMI v)) (eqb_eq (kind_at K (a + 1)) 0 w), sym (p.8 (node semi_row nil (tok_at K T a) nil)).records))
      (λ w. told_stop (wrong (kind_at K (a + 1))) (a + 1) (parsed_more y (a + 1) (with' (eqb_eq (kind_at K a) SEMI v)) (eqb-false (kind_at K (a + 1)) 0 w))))
      (λ v. told_stop (wrong (kind_at K a)) a (parsed_more x a (without (eqb-false (kind_at K a) SEMI v)) (eqb-false (kind_at K a) 0 z)))))
      (λ m p e. by_descent ∙ rw e)
    where
      semi : (c : Around) (a : ℕ) → kind_at K a ≡ SEMI → calls K T c (any Semi?) a ≡ got (node semi_row nil (tok_at K T a) nil) (a + 1) (from K T (a + 1))
      semi c a h = call_in K T good.sound c (any Semi?) a semi_row (ap (enter_of sql (any Semi?)) h ∙ Semi_at_SEMI) (part_no_word c semi_row (tok_at K T a) plain refl)
          ∙ row_stop K T good.sound (record { c = c; A = any Semi?; r = semi_row; l = nil; t = tok_at K T a }) nil (a + 1) (ends Semi? refl semi_row (cap_of nil) (kind_at K (a + 1)))
        where
          plain : is_query row_semi ≡ false
          plain = refl

  -- of lists that were found lent and fit
  pub walk_is_grammar : (f : ℕ) → CommandOK K T f
  walk_is_grammar f = command_ok f (all K T good f).query

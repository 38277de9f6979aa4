-- How the reader walks a list: each of its functions as a function on lists, with the records that it makes, one call deeper for each unit
-- of fuel. It is what the reader's private functions promise each other; nothing published rests on it. That it is the grammar's answer
-- is proved in proofs/. K, T: kinds and text numbers; c, s: the level and queries around, and the strength asked. Definitions only.
use mathlib.Core.Bool.{true, false, Bool}
use mathlib.Core.List.{List, [], ◌∷◌, ◌++◌}
use Prim.Native.Nat.{ℕ, ◌+◌, zero, suc, ◌*◌, min}
use lib.Dec.{ltb, eqb, leb, T}
use lib.ListN.{length, get_or}
use Rattle.theory.specs.Table.{both, mem}
use Rattle.kinds.specs.Kinds.{ID, INDEXED, JOIN_KW, NULL, LP, RP, COMMA, DOT, SEMI, STAR, AND, NOT, IS, IN, BETWEEN, LIKE_KW, NOTNULL, COLLATE, CASE, WHEN, THEN, ELSE, END, CAST, AS, EXISTS, SELECT, VALUES, DISTINCT, ALL, FROM, JOIN, ON, USING, WHERE, GROUP, BY, HAVING, ORDER, ASC, DESC, NULLS, FIRST, LAST, LIMIT, OFFSET}
use Rattle.kinds.specs.Strength.{strength_of, prefix_of}
use Rattle.kinds.specs.Classes.{is_name, is_bare_alias, heads_call, begins_expr, name_code, literal_code}
use Rattle.words.specs.Flags.{NO_FLAGS, flags_of, united, legal}
use Rattle.grammar.specs.Limits.{Around, outer, width}
use Rattle.grammar.specs.Nodes.{Rec, rec}
use Rattle.grammar.specs.Reading.{choose}
use Rattle.grammar.specs.Sizes.{LEVELS, QUERIES}
use Rattle.descent.proofs.Places.{wrong}

-- what a part comes to: the place after it, what it says by a number, how many members it has, its records; or a refusal; or no fuel
pub data Walked : Type 0 where
  done : ℕ → ℕ → ℕ → List Rec → Walked
  stop : ℕ → ℕ → Walked
  spent : Walked

unfoldable pub bind : Walked → (ℕ → ℕ → ℕ → List Rec → Walked) → Walked
bind (done a s n rs) k = k a s n rs
bind (stop m p) k = stop m p
bind spent k = spent

-- with these records before its own
unfoldable pub onto : List Rec → Walked → Walked
onto rs (done a s n qs) = done a s n (rs ++ qs)
onto rs (stop m p) = stop m p
onto rs spent = spent

-- a level deeper; one query more
abbrev pub deeper : Around → Around
deeper c = record { level = c.level + 1; opened = c.opened }

abbrev pub opening : Around → Around
opening c = record { level = c.level; opened = c.opened + 1 }

abbrev pub missing : Rec
missing = rec 0 0 0 1

unfoldable pub not_b : Bool → Bool
not_b true = false
not_b false = true

-- a record over n children, after the records rs and `pre` more before them
abbrev pub over : ℕ → ℕ → ℕ → ℕ → List Rec → List Rec
over code detail n pre rs = rs ++ (rec code detail n (pre + length rs + 1) ∷ [])

module _ (K T : List ℕ) where
  abbrev pub κ : ℕ → ℕ
  κ n = get_or K n 0

  abbrev pub τ : ℕ → ℕ
  τ n = get_or T n 0

  abbrev pub wrong_at : ℕ → Walked
  wrong_at n = stop (wrong (κ n)) n

  -- ── what calls nothing of the cycle ──
  abbrev pub name_rec : ℕ → Rec
  name_rec n = rec (name_code (κ n)) (τ n) 0 1

  unfoldable pub name_w : ℕ → Walked
  name_w at = choose (is_name (κ at)) (done (at + 1) 0 0 (name_rec at ∷ [])) (wrong_at at)

  unfoldable pub close_w : ℕ → ℕ → ℕ → ℕ → ℕ → Walked
  close_w at code detail n pre = choose (eqb (κ at) RP) (done (at + 1) 12 0 (rec code detail n (pre + 1) ∷ [])) (wrong_at at)

  unfoldable pub too_deep_w : ℕ → ℕ → Walked
  too_deep_w at s = choose (begins_expr (κ at)) (choose (both (eqb (κ at) NOT) (ltb 10 s)) (wrong_at at) (stop 5 at)) (wrong_at at)

  -- after the name at the place before: DOT name [DOT name], or nothing; in a column (s = 0) DOT STAR
  unfoldable pub dots_w : ℕ → Walked
  dots_w at = bind (name_w (at + 1)) (λ a s n rs. choose (eqb (κ a) DOT)
      (bind (name_w (a + 1)) (λ b s n qs. done b 12 0 (rs ++ (qs ++ (rec 31 0 3 4 ∷ [])))))
      (done a 12 0 (rs ++ (rec 31 0 2 3 ∷ []))))

  unfoldable pub dotted_w : ℕ → ℕ → Walked
  dotted_w at s = choose (eqb (κ at) DOT)
      (choose (both (eqb s 0) (eqb (κ (at + 1)) STAR)) (done (at + 2) 0 0 (rec 6 0 1 2 ∷ [])) (dots_w at))
      (done at 12 0 (rec 31 0 1 2 ∷ []))

  -- RP of a call's arguments: n of them, with these records
  unfoldable pub called_w : ℕ → ℕ → ℕ → List Rec → Walked
  called_w at detail n rs = choose (eqb (κ at) RP) (done (at + 1) 12 0 (rs ++ (rec 4 0 n (length rs + 1) ∷ rec 32 detail 2 (length rs + 3) ∷ []))) (wrong_at at)

  unfoldable pub collate_w : ℕ → ℕ → Walked
  collate_w at pre = bind (name_w at) (λ a s n rs. done a 12 0 (over 44 0 2 pre rs))

  unfoldable pub alias_w : ℕ → Walked
  alias_w at = choose (eqb (κ at) AS) (bind (name_w (at + 1)) (λ a s n rs. done a 1 0 rs))
      (choose (is_bare_alias (κ at)) (done (at + 1) 2 0 (name_rec at ∷ [])) (done at 0 0 (missing ∷ [])))

  unfoldable pub qualified_w : ℕ → Walked
  qualified_w at = choose (eqb (κ (at + 1)) DOT) (bind (name_w at) (λ a s n rs. onto rs (name_w (a + 1)))) (onto (missing ∷ []) (name_w at))

  unfoldable pub index_w : ℕ → Walked
  index_w at = choose (eqb (κ at) INDEXED) (choose (eqb (κ (at + 1)) BY) (bind (name_w (at + 2)) (λ a s n rs. done a 1 0 rs)) (wrong_at (at + 1)))
      (choose (eqb (κ at) NOT) (choose (eqb (κ (at + 1)) INDEXED) (done (at + 2) 2 0 (missing ∷ [])) (wrong_at (at + 1))) (done at 0 0 (missing ∷ [])))

  unfoldable pub table_w : ℕ → Walked
  table_w at = bind (qualified_w at) (λ a s n rs. bind (alias_w a) (λ b mode n qs. bind (index_w b) (λ d by n ps. done d 0 0 (over 12 (mode + 4 * by) 4 0 (rs ++ (qs ++ ps))))))

  -- RP and an optional alias after a query in FROM, of the records rs
  unfoldable pub lent_w : ℕ → List Rec → Walked
  lent_w at rs = choose (eqb (κ at) RP) (bind (alias_w (at + 1)) (λ a mode n qs. done a 0 0 (over 13 mode 2 0 (rs ++ qs)))) (wrong_at at)

  unfoldable pub nulls_w : ℕ → ℕ → Walked
  nulls_w at detail = choose (eqb (κ at) NULLS)
      (choose (eqb (κ (at + 1)) FIRST) (done (at + 2) (detail + 4) 0 []) (choose (eqb (κ (at + 1)) LAST) (done (at + 2) (detail + 8) 0 []) (wrong_at (at + 1))))
      (done at detail 0 [])

  unfoldable pub way_w : ℕ → Walked
  way_w at = choose (eqb (κ at) ASC) (nulls_w (at + 1) 1) (choose (eqb (κ at) DESC) (nulls_w (at + 1) 2) (nulls_w at 0))

  -- JOIN after join words with these flags, at most `more` words more
  unfoldable pub join_w : ℕ → ℕ → ℕ → Walked
  join_w zero at flags = choose (eqb (κ at) JOIN) (choose (legal flags) (done (at + 1) (64 + flags) 0 []) (stop 7 at)) (wrong_at at)
  join_w (suc more) at flags = choose (eqb (κ at) JOIN) (choose (legal flags) (done (at + 1) (64 + flags) 0 []) (stop 7 at))
      (choose (eqb (κ at) JOIN_KW) (join_w more (at + 1) (united flags (flags_of (τ at)))) (wrong_at at))

  unfoldable pub joined_w : ℕ → Walked
  joined_w at = choose (eqb (κ at) COMMA) (done (at + 1) 0 0 []) (join_w 3 at NO_FLAGS)

  -- the names of USING: n before them
  unfoldable pub names_w : ℕ → ℕ → ℕ → Walked
  names_w zero at n = spent
  names_w (suc f) at n = bind (name_w at) (λ a s m rs. choose (eqb (κ a) COMMA) (onto rs (names_w f (a + 1) (n + 1))) (done a 0 (n + 1) rs))

  unfoldable pub using_w : ℕ → ℕ → Walked
  using_w f at = choose (eqb (κ at) LP) (bind (names_w f (at + 1) 0) (λ a s n rs. bind (close_w a 11 0 n (length rs)) (λ b s m qs. done b s m (rs ++ qs)))) (wrong_at at)

  -- RP of IN, after these records
  unfoldable pub ended_w : ℕ → ℕ → ℕ → ℕ → List Rec → Walked
  ended_w at code not pre rs = choose (eqb (κ at) RP) (done (at + 1) 12 0 (over code not 2 pre rs)) (wrong_at at)

  -- ── the cycle ──
  unfoldable mutual
    pub expr_w : ℕ → ℕ → Around → ℕ → Walked
    expr_w zero at c s = spent
    expr_w (suc f) at c s = choose (ltb LEVELS c.level) (too_deep_w at s)
        (bind (choose (both (leb ID (κ at)) (leb (κ at) NULL)) (leaf_w f at c s) (operand_w f at c s))
        (λ a left n rs. onto rs (ops_w f a c s left (length rs))))

    pub leaf_w : ℕ → ℕ → Around → ℕ → Walked
    leaf_w zero at c s = spent
    leaf_w (suc f) at c s = choose (ltb 0 (literal_code (κ at))) (done (at + 1) 12 0 (rec (literal_code (κ at)) (choose (eqb (κ at) NULL) 0 (τ at)) 0 1 ∷ []))
        (choose (both (eqb (κ (at + 1)) LP) (heads_call (κ at))) (onto (name_rec at ∷ []) (call_w f (at + 2) (deeper c))) (onto (name_rec at ∷ []) (dotted_w (at + 1) s)))

    pub operand_w : ℕ → ℕ → Around → ℕ → Walked
    operand_w zero at c s = spent
    operand_w (suc f) at c s =
        choose (eqb (κ at) LP) (paren_w f (at + 1) (deeper c))
        (choose (eqb (κ at) CASE) (case_w f (at + 1) (deeper c))
        (choose (eqb (κ at) CAST) (cast_w f (at + 1) (deeper c))
        (choose (eqb (κ at) EXISTS) (exists_w f (at + 1) (deeper c))
        (choose (ltb 0 (prefix_of (κ at))) (sign_w f at c s) (wrong_at at)))))

    -- the operators that go on from an operand that leaves `left`, of `pre` records
    pub ops_w : ℕ → ℕ → Around → ℕ → ℕ → ℕ → Walked
    ops_w zero at c s left pre = spent
    ops_w (suc f) at c s left pre =
        choose (eqb (strength_of (κ at)) 0) (done at left 0 [])
        (choose (ltb (strength_of (κ at)) s) (done at left 0 [])
        (choose (ltb left (strength_of (κ at))) (done at left 0 [])
        (bind (op_w f at (deeper c) (strength_of (κ at) + 1) pre) (λ a x n rs. onto rs (ops_w f a c s (min (strength_of (κ at)) x) (pre + length rs))))))

    -- an operator: what its right operand leaves, or 12 where it has none
    pub op_w : ℕ → ℕ → Around → ℕ → ℕ → Walked
    op_w zero at c s pre = spent
    op_w (suc f) at c s pre =
        choose (ltb (κ at) NOT) (binary_w f (at + 1) c s (κ at) pre)
        (choose (eqb (κ at) NOT) (negated_w f (at + 1) c s pre)
        (choose (eqb (κ at) IN) (among_w f (at + 1) c 0 pre)
        (choose (eqb (κ at) BETWEEN) (range_w f (at + 1) c s 0 pre)
        (choose (eqb (κ at) LIKE_KW) (binary_w f (at + 1) c s (200 + τ at) pre)
        (choose (eqb (κ at) IS) (choose (eqb (κ (at + 1)) NOT) (binary_w f (at + 2) c s 137 pre) (binary_w f (at + 1) c s 37 pre))
        (choose (eqb (κ at) COLLATE) (collate_w (at + 1) pre) (done (at + 1) 12 0 (rec 40 (κ at) 1 (pre + 1) ∷ []))))))))

    -- after NOT that follows an operand
    pub negated_w : ℕ → ℕ → Around → ℕ → ℕ → Walked
    negated_w zero at c s pre = spent
    negated_w (suc f) at c s pre =
        choose (eqb (κ at) IN) (among_w f (at + 1) c 1 pre)
        (choose (eqb (κ at) BETWEEN) (range_w f (at + 1) c s 1 pre)
        (choose (eqb (κ at) LIKE_KW) (binary_w f (at + 1) c s (300 + τ at) pre)
        (choose (eqb (κ at) NULL) (done (at + 1) 12 0 (rec 40 NOTNULL 1 (pre + 1) ∷ [])) (wrong_at at))))

    pub binary_w : ℕ → ℕ → Around → ℕ → ℕ → ℕ → Walked
    binary_w zero at c s detail pre = spent
    binary_w (suc f) at c s detail pre = bind (expr_w f at c s) (λ a x n rs. done a x 0 (over 39 detail 2 pre rs))

    pub range_w : ℕ → ℕ → Around → ℕ → ℕ → ℕ → Walked
    range_w zero at c s not pre = spent
    range_w (suc f) at c s not pre = bind (expr_w f at c s) (λ a x n rs. bind (after_w f a AND c s) (λ b y n qs. done b y 0 (over 43 not 3 pre (rs ++ qs))))

    -- a word, and an expression
    pub after_w : ℕ → ℕ → ℕ → Around → ℕ → Walked
    after_w zero at word c s = spent
    after_w (suc f) at word c s = choose (eqb (κ at) word) (expr_w f (at + 1) c s) (wrong_at at)

    -- after IN
    pub among_w : ℕ → ℕ → Around → ℕ → ℕ → Walked
    among_w zero at c not pre = spent
    among_w (suc f) at c not pre = choose (eqb (κ at) LP)
        (choose (both (leb SELECT (κ (at + 1))) (leb (κ (at + 1)) VALUES))
        (bind (query_w f (at + 1) c) (λ a x n rs. ended_w a 42 not pre rs))
        (choose (eqb (κ (at + 1)) RP) (ended_w (at + 1) 41 not pre (rec 4 0 0 1 ∷ []))
        (bind (list_w f (at + 1) c 0) (λ a x n rs. ended_w a 41 not pre (over 4 0 n 0 rs)))))
        (wrong_at at)

    -- expressions parted by COMMA: n before them
    pub list_w : ℕ → ℕ → Around → ℕ → Walked
    list_w zero at c n = spent
    list_w (suc f) at c n = bind (expr_w f at c 1) (λ a x m rs. choose (eqb (κ a) COMMA) (onto rs (list_w f (a + 1) c (n + 1))) (done a 0 (n + 1) rs))

    pub sign_w : ℕ → ℕ → Around → ℕ → Walked
    sign_w zero at c s = spent
    sign_w (suc f) at c s = choose (both (eqb (κ at) NOT) (ltb 10 s)) (wrong_at at)
        (bind (expr_w f (at + 1) (deeper c) (prefix_of (κ at))) (λ a x n rs. done a (min (prefix_of (κ at)) x) 0 (over 38 (κ at) 1 0 rs)))

    -- after LP of a call
    pub call_w : ℕ → ℕ → Around → Walked
    call_w zero at c = spent
    call_w (suc f) at c = choose (eqb (κ at) STAR) (called_w (at + 1) 2 0 [])
        (choose (eqb (κ at) RP) (called_w at 0 0 [])
        (choose (eqb (κ at) DISTINCT) (bind (list_w f (at + 1) c 0) (λ a x n rs. called_w a 1 n rs))
        (bind (list_w f at c 0) (λ a x n rs. called_w a 0 n rs))))

    -- after LP: ( query ) or ( expressions )
    pub paren_w : ℕ → ℕ → Around → Walked
    paren_w zero at c = spent
    paren_w (suc f) at c = choose (both (leb SELECT (κ at)) (leb (κ at) VALUES)) (sub_w f at c 34)
        (bind (list_w f at c 0) (λ a x n rs. onto rs (close_w a 33 0 n (length rs))))

    pub sub_w : ℕ → ℕ → Around → ℕ → Walked
    sub_w zero at c code = spent
    sub_w (suc f) at c code = bind (query_w f at c) (λ a x n rs. onto rs (close_w a code 0 1 (length rs)))

    pub exists_w : ℕ → ℕ → Around → Walked
    exists_w zero at c = spent
    exists_w (suc f) at c = choose (eqb (κ at) LP) (sub_w f (at + 1) c 35) (wrong_at at)

    pub case_w : ℕ → ℕ → Around → Walked
    case_w zero at c = spent
    case_w (suc f) at c = bind (cased_w f at c) (λ a x n rs. bind (when_w f a c 0) (λ b x m qs. bind (clause_w f b ELSE c) (λ d x n ps.
        choose (eqb (κ d) END) (done (d + 1) 12 0 (over 36 0 (m + 2) 0 (rs ++ (qs ++ ps)))) (wrong_at d))))

    pub cased_w : ℕ → ℕ → Around → Walked
    cased_w zero at c = spent
    cased_w (suc f) at c = choose (eqb (κ at) WHEN) (done at 0 0 (missing ∷ [])) (expr_w f at c 1)

    -- WHEN expression THEN expression: n expressions before
    pub when_w : ℕ → ℕ → Around → ℕ → Walked
    when_w zero at c n = spent
    when_w (suc f) at c n = bind (after_w f at WHEN c 1) (λ a x m rs. bind (after_w f a THEN c 1) (λ b x m qs.
        choose (eqb (κ b) WHEN) (onto (rs ++ qs) (when_w f b c (n + 2))) (done b 0 (n + 2) (rs ++ qs))))

    pub cast_w : ℕ → ℕ → Around → Walked
    cast_w zero at c = spent
    cast_w (suc f) at c = bind (after_w f at LP c 1) (λ a x n rs. choose (eqb (κ a) AS)
        (bind (name_w (a + 1)) (λ b x n qs. onto (rs ++ qs) (close_w b 37 0 2 (length (rs ++ qs))))) (wrong_at a))

    pub query_w : ℕ → ℕ → Around → Walked
    query_w zero at c = spent
    query_w (suc f) at c = bind (body_w f at c) (λ a x n rs. bind (tail_w f a (opening c)) (λ b x n qs. done b 0 0 (over 1 0 4 0 (rs ++ qs))))

    pub body_w : ℕ → ℕ → Around → Walked
    body_w zero at c = spent
    body_w (suc f) at c = choose (eqb (κ at) SELECT) (choose (leb QUERIES c.opened) (stop 6 at) (select_w f (at + 1) (opening c)))
        (choose (eqb (κ at) VALUES) (choose (leb QUERIES c.opened) (stop 6 at) (bind (rows_w f (at + 1) (opening c) 0 0) (λ a x n rs. done a 0 0 (over 3 0 n 0 rs)))) (wrong_at at))

    -- ORDER BY and LIMIT
    pub tail_w : ℕ → ℕ → Around → Walked
    tail_w zero at c = spent
    tail_w (suc f) at c = choose (eqb (κ at) ORDER) (bind (sort_w f (at + 1) c) (λ a x n rs. onto rs (limit_w f a c))) (onto (missing ∷ []) (limit_w f at c))

    -- rows of VALUES: n before them, of this width (0: no matter)
    pub rows_w : ℕ → ℕ → Around → ℕ → ℕ → Walked
    rows_w zero at c n width = spent
    rows_w (suc f) at c n width = bind (row_w f at c width) (λ a x w rs. choose (eqb (κ a) COMMA) (onto rs (rows_w f (a + 1) c (n + 1) w)) (done a 0 (n + 1) rs))

    pub row_w : ℕ → ℕ → Around → ℕ → Walked
    row_w zero at c width = spent
    row_w (suc f) at c width = choose (eqb (κ at) LP) (bind (list_w f (at + 1) c 0) (λ a x n rs. choose (eqb (κ a) RP)
        (choose (both (ltb 0 width) (not_b (eqb n width))) (stop 8 a) (done (a + 1) 0 n (over 4 0 n 0 rs))) (wrong_at a))) (wrong_at at)

    pub select_w : ℕ → ℕ → Around → Walked
    select_w zero at c = spent
    select_w (suc f) at c = choose (eqb (κ at) DISTINCT) (selected_w f (at + 1) c 1) (choose (eqb (κ at) ALL) (selected_w f (at + 1) c 2) (selected_w f at c 0))

    pub selected_w : ℕ → ℕ → Around → ℕ → Walked
    selected_w zero at c detail = spent
    selected_w (suc f) at c detail = bind (cols_w f at c 0) (λ a x n rs. bind (parts_w f a c) (λ b x m qs. done b 0 0 (over 2 detail 5 0 (over 4 0 n 0 rs ++ qs))))

    pub parts_w : ℕ → ℕ → Around → Walked
    parts_w zero at c = spent
    parts_w (suc f) at c = bind (from_w f at c) (λ a x n rs. bind (clause_w f a WHERE c) (λ b x n qs. onto (rs ++ qs) (group_w f b c)))

    -- an optional clause of a word and an expression
    pub clause_w : ℕ → ℕ → ℕ → Around → Walked
    clause_w zero at word c = spent
    clause_w (suc f) at word c = choose (eqb (κ at) word) (expr_w f (at + 1) c 1) (done at 0 0 (missing ∷ []))

    pub group_w : ℕ → ℕ → Around → Walked
    group_w zero at c = spent
    group_w (suc f) at c = choose (eqb (κ at) GROUP) (choose (eqb (κ (at + 1)) BY) (bind (list_w f (at + 2) c 0) (λ a x n rs. onto (over 4 0 n 0 rs) (clause_w f a HAVING c))) (wrong_at (at + 1)))
        (choose (eqb (κ at) HAVING) (onto (rec 4 0 0 1 ∷ []) (expr_w f (at + 1) c 1)) (done at 0 0 (missing ∷ missing ∷ [])))

    -- columns: n before them
    pub cols_w : ℕ → ℕ → Around → ℕ → Walked
    cols_w zero at c n = spent
    cols_w (suc f) at c n = bind (col_w f at c) (λ a x m rs. choose (eqb (κ a) COMMA) (onto rs (cols_w f (a + 1) c (n + 1))) (done a 0 (n + 1) rs))

    pub col_w : ℕ → ℕ → Around → Walked
    col_w zero at c = spent
    col_w (suc f) at c = choose (eqb (κ at) STAR) (done (at + 1) 0 0 (rec 5 0 0 1 ∷ []))
        (bind (expr_w f at c 0) (λ a said n rs. choose (eqb said 0) (done a said n rs) (bind (alias_w a) (λ b mode n qs. done b 0 0 (over 7 mode 2 0 (rs ++ qs))))))

    pub from_w : ℕ → ℕ → Around → Walked
    from_w zero at c = spent
    from_w (suc f) at c = choose (eqb (κ at) FROM) (bind (source_w f (at + 1) c) (λ a x n rs. bind (joins_w f a c 0) (λ b x m qs. done b 0 0 (over 8 0 (m + 1) 0 (rs ++ qs)))))
        (done at 0 0 (missing ∷ []))

    -- joins: n before them
    pub joins_w : ℕ → ℕ → Around → ℕ → Walked
    joins_w zero at c n = spent
    joins_w (suc f) at c n = choose (mem (κ at) (COMMA ∷ JOIN ∷ JOIN_KW ∷ []))
        (bind (joined_w at) (λ a detail x os. bind (source_w f a c) (λ b x y rs. bind (on_w f b c) (λ d x y qs. onto (over 9 detail 2 0 (rs ++ qs)) (joins_w f d c (n + 1))))))
        (done at 0 n [])

    pub on_w : ℕ → ℕ → Around → Walked
    on_w zero at c = spent
    on_w (suc f) at c = choose (eqb (κ at) ON) (bind (expr_w f (at + 1) c 1) (λ a x n rs. done a 0 0 (over 10 0 1 0 rs)))
        (choose (eqb (κ at) USING) (using_w f (at + 1)) (done at 0 0 (missing ∷ [])))

    pub source_w : ℕ → ℕ → Around → Walked
    source_w zero at c = spent
    source_w (suc f) at c = choose (eqb (κ at) LP) (bind (query_w f (at + 1) c) (λ a x n rs. lent_w a rs)) (table_w at)

    -- after ORDER
    pub sort_w : ℕ → ℕ → Around → Walked
    sort_w zero at c = spent
    sort_w (suc f) at c = choose (eqb (κ at) BY) (bind (terms_w f (at + 1) c 0) (λ a x n rs. done a 0 0 (over 4 0 n 0 rs))) (wrong_at at)

    -- sort terms: n before them
    pub terms_w : ℕ → ℕ → Around → ℕ → Walked
    terms_w zero at c n = spent
    terms_w (suc f) at c n = bind (expr_w f at c 1) (λ a x m rs. bind (way_w a) (λ b way m os.
        choose (eqb (κ b) COMMA) (onto (over 14 way 1 0 rs) (terms_w f (b + 1) c (n + 1))) (done b 0 (n + 1) (over 14 way 1 0 rs))))

    -- limit and offset; LIMIT a , b has b's records before a's
    pub limit_w : ℕ → ℕ → Around → Walked
    limit_w zero at c = spent
    limit_w (suc f) at c = choose (eqb (κ at) LIMIT)
        (bind (expr_w f (at + 1) c 1) (λ a x n rs.
        choose (eqb (κ a) OFFSET) (onto rs (expr_w f (a + 1) c 1))
        (choose (eqb (κ a) COMMA) (bind (expr_w f (a + 1) c 1) (λ b x m qs. done b x m (qs ++ rs))) (done a 0 0 (rs ++ (missing ∷ []))))))
        (done at 0 0 (missing ∷ missing ∷ []))

  -- a query, then the end of the list or one SEMI and the end
  unfoldable pub command_w : ℕ → Walked
  command_w f = bind (query_w f 0 outer) (λ a x n rs.
      choose (eqb (κ a) 0) (done a x n rs)
      (choose (eqb (κ a) SEMI) (choose (eqb (κ (a + 1)) 0) (done a x n rs) (wrong_at (a + 1))) (wrong_at a)))

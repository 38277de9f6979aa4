-- expressions_hold: each expression of the table is a command after SELECT and means what its second form means, in which parentheses show
-- how it is grouped (as SQLite's page "SQL Language Expressions" has it, where 01 follows that), and not what its third means, which is
-- grouped the other way. By one test that computes, over the whole table. Assumes nothing.
use mathlib.Core.Bool.{true, false, Bool}
use mathlib.Core.List.{List, [], ◌∷◌}
use mathlib.Core.Path.{◌≡◌, refl, sym, ap, ◌∙◌}
use Prim.Native.Nat.{ℕ}
use lib.Dec.{eqb}
use Rattle.theory.specs.Trees.{Tok, Tree}
use Rattle.theory.specs.Table.{both}
use Rattle.theory.specs.Judged.{AllZero}
use Rattle.theory.specs.Outcome.{Ans, got, refused, Outcome}
use Rattle.theory.proofs.Cases.{0≢1, both_l, both_r, both_i, eqb_eq, eqb-true}
use Rattle.theory.proofs.Tested.{notb, allb, FollowOf}
use Rattle.theory.proofs.Outcomes.{some_outcome}
use Rattle.kinds.specs.Kinds.{ID, NULL, LP, RP, COMMA, STAR, PLUS, MINUS, CONCAT, BITAND, BITOR, LSHIFT, EQ, LT, AND, OR, NOT, IS, IN, BETWEEN, LIKE_KW, ISNULL, NOTNULL, COLLATE, CASE, WHEN, THEN, ELSE, END, AS, EXISTS, SELECT}
use Rattle.grammar.specs.Classes.{Command, any}
use Rattle.grammar.specs.Grammar.{sql, G, IsCommand}
use Rattle.grammar.specs.Limits.{Around, outer, under, judge, limits}
use Rattle.grammar.specs.Nodes.{Nodes, end, mk}
use Rattle.grammar.specs.Reading.{reading}
use Rattle.grammar.specs.Meaning.{meaning}
use Rattle.grammar.specs.Samples.{w, v}
use Rattle.grammar.proofs.Checked.{sql_laws}
use Rattle.grammar.proofs.Promised.{found, parsed}
use Rattle.grammar.proofs.Computes.{computes}

pub record Grouped : Type 0 where
  pub plain : List Tok
  pub means : List Tok
  pub other : List Tok

abbrev pub groups : List Tok → List Tok → List Tok → Grouped
groups p m o = record { plain = p; means = m; other = o }

-- names
abbrev a : Tok
a = v ID 1

abbrev b : Tok
b = v ID 2

abbrev c : Tok
c = v ID 3

abbrev d : Tok
d = v ID 4

unfoldable pub expressions : List Grouped
expressions =
    -- a + b * c
    groups (a ∷ w PLUS ∷ b ∷ w STAR ∷ c ∷ []) (a ∷ w PLUS ∷ w LP ∷ b ∷ w STAR ∷ c ∷ w RP ∷ []) (w LP ∷ a ∷ w PLUS ∷ b ∷ w RP ∷ w STAR ∷ c ∷ [])
    -- a - b - c
    ∷ groups (a ∷ w MINUS ∷ b ∷ w MINUS ∷ c ∷ []) (w LP ∷ a ∷ w MINUS ∷ b ∷ w RP ∷ w MINUS ∷ c ∷ []) (a ∷ w MINUS ∷ w LP ∷ b ∷ w MINUS ∷ c ∷ w RP ∷ [])
    -- a * b || c
    ∷ groups (a ∷ w STAR ∷ b ∷ w CONCAT ∷ c ∷ []) (a ∷ w STAR ∷ w LP ∷ b ∷ w CONCAT ∷ c ∷ w RP ∷ []) (w LP ∷ a ∷ w STAR ∷ b ∷ w RP ∷ w CONCAT ∷ c ∷ [])
    -- a || b COLLATE c
    ∷ groups (a ∷ w CONCAT ∷ b ∷ w COLLATE ∷ c ∷ []) (a ∷ w CONCAT ∷ w LP ∷ b ∷ w COLLATE ∷ c ∷ w RP ∷ []) (w LP ∷ a ∷ w CONCAT ∷ b ∷ w RP ∷ w COLLATE ∷ c ∷ [])
    -- - a COLLATE b
    ∷ groups (w MINUS ∷ a ∷ w COLLATE ∷ b ∷ []) (w LP ∷ w MINUS ∷ a ∷ w RP ∷ w COLLATE ∷ b ∷ []) (w MINUS ∷ w LP ∷ a ∷ w COLLATE ∷ b ∷ w RP ∷ [])
    -- a | b & c
    ∷ groups (a ∷ w BITOR ∷ b ∷ w BITAND ∷ c ∷ []) (w LP ∷ a ∷ w BITOR ∷ b ∷ w RP ∷ w BITAND ∷ c ∷ []) (a ∷ w BITOR ∷ w LP ∷ b ∷ w BITAND ∷ c ∷ w RP ∷ [])
    -- a << b + c
    ∷ groups (a ∷ w LSHIFT ∷ b ∷ w PLUS ∷ c ∷ []) (a ∷ w LSHIFT ∷ w LP ∷ b ∷ w PLUS ∷ c ∷ w RP ∷ []) (w LP ∷ a ∷ w LSHIFT ∷ b ∷ w RP ∷ w PLUS ∷ c ∷ [])
    -- a = b < c
    ∷ groups (a ∷ w EQ ∷ b ∷ w LT ∷ c ∷ []) (a ∷ w EQ ∷ w LP ∷ b ∷ w LT ∷ c ∷ w RP ∷ []) (w LP ∷ a ∷ w EQ ∷ b ∷ w RP ∷ w LT ∷ c ∷ [])
    -- a < b = c
    ∷ groups (a ∷ w LT ∷ b ∷ w EQ ∷ c ∷ []) (w LP ∷ a ∷ w LT ∷ b ∷ w RP ∷ w EQ ∷ c ∷ []) (a ∷ w LT ∷ w LP ∷ b ∷ w EQ ∷ c ∷ w RP ∷ [])
    -- NOT a = b
    ∷ groups (w NOT ∷ a ∷ w EQ ∷ b ∷ []) (w NOT ∷ w LP ∷ a ∷ w EQ ∷ b ∷ w RP ∷ []) (w LP ∷ w NOT ∷ a ∷ w RP ∷ w EQ ∷ b ∷ [])
    -- NOT a AND b
    ∷ groups (w NOT ∷ a ∷ w AND ∷ b ∷ []) (w LP ∷ w NOT ∷ a ∷ w RP ∷ w AND ∷ b ∷ []) (w NOT ∷ w LP ∷ a ∷ w AND ∷ b ∷ w RP ∷ [])
    -- a OR b AND c
    ∷ groups (a ∷ w OR ∷ b ∷ w AND ∷ c ∷ []) (a ∷ w OR ∷ w LP ∷ b ∷ w AND ∷ c ∷ w RP ∷ []) (w LP ∷ a ∷ w OR ∷ b ∷ w RP ∷ w AND ∷ c ∷ [])
    -- a BETWEEN b AND c AND d
    ∷ groups (a ∷ w BETWEEN ∷ b ∷ w AND ∷ c ∷ w AND ∷ d ∷ []) (w LP ∷ a ∷ w BETWEEN ∷ b ∷ w AND ∷ c ∷ w RP ∷ w AND ∷ d ∷ []) (a ∷ w BETWEEN ∷ b ∷ w AND ∷ w LP ∷ c ∷ w AND ∷ d ∷ w RP ∷ [])
    -- a NOT BETWEEN b AND c = d
    ∷ groups (a ∷ w NOT ∷ w BETWEEN ∷ b ∷ w AND ∷ c ∷ w EQ ∷ d ∷ []) (w LP ∷ a ∷ w NOT ∷ w BETWEEN ∷ b ∷ w AND ∷ c ∷ w RP ∷ w EQ ∷ d ∷ []) (a ∷ w NOT ∷ w BETWEEN ∷ b ∷ w AND ∷ w LP ∷ c ∷ w EQ ∷ d ∷ w RP ∷ [])
    -- a IS NOT b
    ∷ groups (a ∷ w IS ∷ w NOT ∷ b ∷ []) (a ∷ w IS ∷ w NOT ∷ w LP ∷ b ∷ w RP ∷ []) (a ∷ w IS ∷ w LP ∷ w NOT ∷ b ∷ w RP ∷ [])
    -- a NOT LIKE b OR c
    ∷ groups (a ∷ w NOT ∷ v LIKE_KW 1 ∷ b ∷ w OR ∷ c ∷ []) (w LP ∷ a ∷ w NOT ∷ v LIKE_KW 1 ∷ b ∷ w RP ∷ w OR ∷ c ∷ []) (a ∷ w NOT ∷ v LIKE_KW 1 ∷ w LP ∷ b ∷ w OR ∷ c ∷ w RP ∷ [])
    -- a NOT NULL is a NOTNULL, and not a ISNULL
    ∷ groups (a ∷ w NOT ∷ w NULL ∷ []) (a ∷ w NOTNULL ∷ []) (a ∷ w ISNULL ∷ [])
    -- CASE a WHEN b THEN c END; not the form without a base
    ∷ groups (w CASE ∷ a ∷ w WHEN ∷ b ∷ w THEN ∷ c ∷ w END ∷ []) (w CASE ∷ w LP ∷ a ∷ w RP ∷ w WHEN ∷ w LP ∷ b ∷ w RP ∷ w THEN ∷ c ∷ w END ∷ []) (w CASE ∷ w WHEN ∷ a ∷ w EQ ∷ b ∷ w THEN ∷ c ∷ w END ∷ [])
    -- CASE WHEN a THEN b ELSE c END = d
    ∷ groups (w CASE ∷ w WHEN ∷ a ∷ w THEN ∷ b ∷ w ELSE ∷ c ∷ w END ∷ w EQ ∷ d ∷ []) (w LP ∷ w CASE ∷ w WHEN ∷ a ∷ w THEN ∷ b ∷ w ELSE ∷ c ∷ w END ∷ w RP ∷ w EQ ∷ d ∷ [])
    (w CASE ∷ w WHEN ∷ a ∷ w THEN ∷ b ∷ w ELSE ∷ c ∷ w EQ ∷ d ∷ w END ∷ [])
    -- NOT a IN ()
    ∷ groups (w NOT ∷ a ∷ w IN ∷ w LP ∷ w RP ∷ []) (w NOT ∷ w LP ∷ a ∷ w IN ∷ w LP ∷ w RP ∷ w RP ∷ []) (a ∷ w NOT ∷ w IN ∷ w LP ∷ w RP ∷ [])
    -- a IN ((SELECT b)) is a list of one member, and not a IN (SELECT b)
    ∷ groups (a ∷ w IN ∷ w LP ∷ w LP ∷ w SELECT ∷ b ∷ w RP ∷ w RP ∷ []) (a ∷ w IN ∷ w LP ∷ w LP ∷ w LP ∷ w SELECT ∷ b ∷ w RP ∷ w RP ∷ w RP ∷ []) (a ∷ w IN ∷ w LP ∷ w SELECT ∷ b ∷ w RP ∷ [])
    -- EXISTS (SELECT a) = b
    ∷ groups (w EXISTS ∷ w LP ∷ w SELECT ∷ a ∷ w RP ∷ w EQ ∷ b ∷ []) (w LP ∷ w EXISTS ∷ w LP ∷ w SELECT ∷ a ∷ w RP ∷ w RP ∷ w EQ ∷ b ∷ []) (w EXISTS ∷ w LP ∷ w SELECT ∷ a ∷ w EQ ∷ b ∷ w RP ∷ [])
    -- NOT to the right
    -- a + NOT b = c
    ∷ groups (a ∷ w PLUS ∷ w NOT ∷ b ∷ w EQ ∷ c ∷ []) (a ∷ w PLUS ∷ w LP ∷ w NOT ∷ w LP ∷ b ∷ w EQ ∷ c ∷ w RP ∷ w RP ∷ []) (w LP ∷ a ∷ w PLUS ∷ w LP ∷ w NOT ∷ b ∷ w RP ∷ w RP ∷ w EQ ∷ c ∷ [])
    -- a = NOT b AND c
    ∷ groups (a ∷ w EQ ∷ w NOT ∷ b ∷ w AND ∷ c ∷ []) (w LP ∷ a ∷ w EQ ∷ w LP ∷ w NOT ∷ b ∷ w RP ∷ w RP ∷ w AND ∷ c ∷ []) (a ∷ w EQ ∷ w LP ∷ w NOT ∷ w LP ∷ b ∷ w AND ∷ c ∷ w RP ∷ w RP ∷ [])
    -- a = NOT b = c
    ∷ groups (a ∷ w EQ ∷ w NOT ∷ b ∷ w EQ ∷ c ∷ []) (a ∷ w EQ ∷ w LP ∷ w NOT ∷ w LP ∷ b ∷ w EQ ∷ c ∷ w RP ∷ w RP ∷ []) (w LP ∷ a ∷ w EQ ∷ w NOT ∷ b ∷ w RP ∷ w EQ ∷ c ∷ [])
    -- a * NOT b || c
    ∷ groups (a ∷ w STAR ∷ w NOT ∷ b ∷ w CONCAT ∷ c ∷ []) (a ∷ w STAR ∷ w LP ∷ w NOT ∷ w LP ∷ b ∷ w CONCAT ∷ c ∷ w RP ∷ w RP ∷ []) (w LP ∷ a ∷ w STAR ∷ w NOT ∷ b ∷ w RP ∷ w CONCAT ∷ c ∷ [])
    -- a = NOT b COLLATE c
    ∷ groups (a ∷ w EQ ∷ w NOT ∷ b ∷ w COLLATE ∷ c ∷ []) (a ∷ w EQ ∷ w LP ∷ w NOT ∷ w LP ∷ b ∷ w COLLATE ∷ c ∷ w RP ∷ w RP ∷ []) (w LP ∷ a ∷ w EQ ∷ w NOT ∷ b ∷ w RP ∷ w COLLATE ∷ c ∷ [])
    -- a BETWEEN NOT b AND NOT c = d
    ∷ groups (a ∷ w BETWEEN ∷ w NOT ∷ b ∷ w AND ∷ w NOT ∷ c ∷ w EQ ∷ d ∷ []) (a ∷ w BETWEEN ∷ w LP ∷ w NOT ∷ b ∷ w RP ∷ w AND ∷ w LP ∷ w NOT ∷ w LP ∷ c ∷ w EQ ∷ d ∷ w RP ∷ w RP ∷ []) (w LP ∷ a ∷ w BETWEEN ∷ w NOT ∷ b ∷ w AND ∷ w NOT ∷ c ∷ w RP ∷ w EQ ∷ d ∷ [])
    -- a NOT BETWEEN NOT b IS c AND d
    ∷ groups (a ∷ w NOT ∷ w BETWEEN ∷ w NOT ∷ b ∷ w IS ∷ c ∷ w AND ∷ d ∷ []) (a ∷ w NOT ∷ w BETWEEN ∷ w LP ∷ w NOT ∷ w LP ∷ b ∷ w IS ∷ c ∷ w RP ∷ w RP ∷ w AND ∷ d ∷ []) (a ∷ w NOT ∷ w BETWEEN ∷ w LP ∷ w LP ∷ w NOT ∷ b ∷ w RP ∷ w IS ∷ c ∷ w RP ∷ w AND ∷ d ∷ [])
    -- a NOT LIKE NOT b = c
    ∷ groups (a ∷ w NOT ∷ v LIKE_KW 1 ∷ w NOT ∷ b ∷ w EQ ∷ c ∷ []) (a ∷ w NOT ∷ v LIKE_KW 1 ∷ w LP ∷ w NOT ∷ w LP ∷ b ∷ w EQ ∷ c ∷ w RP ∷ w RP ∷ []) (w LP ∷ a ∷ w NOT ∷ v LIKE_KW 1 ∷ w NOT ∷ b ∷ w RP ∷ w EQ ∷ c ∷ [])
    -- a IS NOT NOT b
    ∷ groups (a ∷ w IS ∷ w NOT ∷ w NOT ∷ b ∷ []) (a ∷ w IS ∷ w NOT ∷ w LP ∷ w NOT ∷ b ∷ w RP ∷ []) (a ∷ w IS ∷ w LP ∷ w NOT ∷ w LP ∷ w NOT ∷ b ∷ w RP ∷ w RP ∷ [])
    -- NOT a = NOT b OR c
    ∷ groups (w NOT ∷ a ∷ w EQ ∷ w NOT ∷ b ∷ w OR ∷ c ∷ []) (w LP ∷ w NOT ∷ w LP ∷ a ∷ w EQ ∷ w LP ∷ w NOT ∷ b ∷ w RP ∷ w RP ∷ w RP ∷ w OR ∷ c ∷ []) (w NOT ∷ w LP ∷ a ∷ w EQ ∷ w LP ∷ w NOT ∷ w LP ∷ b ∷ w OR ∷ c ∷ w RP ∷ w RP ∷ w RP ∷ [])
    -- a IN ( b , c = NOT d )
    ∷ groups (a ∷ w IN ∷ w LP ∷ b ∷ w COMMA ∷ c ∷ w EQ ∷ w NOT ∷ d ∷ w RP ∷ []) (a ∷ w IN ∷ w LP ∷ b ∷ w COMMA ∷ c ∷ w EQ ∷ w LP ∷ w NOT ∷ d ∷ w RP ∷ w RP ∷ []) (a ∷ w IN ∷ w LP ∷ b ∷ w COMMA ∷ w LP ∷ c ∷ w EQ ∷ w NOT ∷ d ∷ w RP ∷ w EQ ∷ d ∷ w RP ∷ [])
    -- CASE a = NOT b WHEN c THEN d END
    ∷ groups (w CASE ∷ a ∷ w EQ ∷ w NOT ∷ b ∷ w WHEN ∷ c ∷ w THEN ∷ d ∷ w END ∷ []) (w CASE ∷ w LP ∷ a ∷ w EQ ∷ w LP ∷ w NOT ∷ b ∷ w RP ∷ w RP ∷ w WHEN ∷ c ∷ w THEN ∷ d ∷ w END ∷ []) (w CASE ∷ w WHEN ∷ a ∷ w EQ ∷ w NOT ∷ b ∷ w THEN ∷ d ∷ w END ∷ [])
    -- a = NOT b c
    ∷ groups (a ∷ w EQ ∷ w NOT ∷ b ∷ c ∷ []) (a ∷ w EQ ∷ w LP ∷ w NOT ∷ b ∷ w RP ∷ w AS ∷ c ∷ []) (a ∷ w EQ ∷ w NOT ∷ b ∷ [])
    ∷ []

-- the expression as a command
abbrev pub selecting : List Tok → List Tok
selecting ts = w SELECT ∷ ts

-- ── equality of nodes ──
unfoldable eq_nodes : Nodes → Nodes → Bool
eq_nodes end end = true
eq_nodes end (mk c d ks ns) = false
eq_nodes (mk c d ks ns) end = false
eq_nodes (mk c d ks ns) (mk c' d' ks' ns') = both (both (eqb c c') (eqb d d')) (both (eq_nodes ks ks') (eq_nodes ns ns'))

eq_nodes_lem : (m n : Nodes) → eq_nodes m n ≡ true → m ≡ n
unfolding eq_nodes
eq_nodes_lem end end e = refl
eq_nodes_lem end (mk c d ks ns) e = 0≢1 e
eq_nodes_lem (mk c d ks ns) end e = 0≢1 e
eq_nodes_lem (mk c d ks ns) (mk c' d' ks' ns') e =
    let f = both_l (both (eqb c c') (eqb d d')) _ e in let g = both_r (both (eqb c c') (eqb d d')) _ e in
    rw (eqb_eq c c' (both_l (eqb c c') _ f), eqb_eq d d' (both_r (eqb c c') _ f), eq_nodes_lem ks ks' (both_l (eq_nodes ks ks') _ g), eq_nodes_lem ns ns' (both_r (eq_nodes ks ks') _ g))

nodes_eq : (m : Nodes) → eq_nodes m m ≡ true
unfolding eq_nodes
nodes_eq end = refl
nodes_eq (mk c d ks ns) = both_i _ _ (both_i _ _ (eqb-true c c refl) (eqb-true d d refl)) (both_i _ _ (nodes_eq ks) (nodes_eq ns))

-- ── the test, and what it says ──
-- three readings: the first means what the second does, and not what the third does
agree : Ans → Ans → Ans → Bool
agree (got k n us) (got l m vs) (got j o ws) = same_as (meaning (reading (found k))) (meaning (reading (found l))) (meaning (reading (found j)))
  where
    same_as : Nodes → Nodes → Nodes → Bool
    same_as x y z = both (eq_nodes x y) (notb (eq_nodes x z))
agree (got k n us) (got l m vs) (refused j o) = false
agree (got k n us) (refused l m) z = false
agree (refused k n) y z = false

good : Grouped → Bool
good g = agree (parsed (selecting g.plain)) (parsed (selecting g.means)) (parsed (selecting g.other))

all_good : allb good expressions ≡ true
unfolding expressions good agree eq_nodes found notb computes
all_good = refl

-- the tokens are a command within the limits, with this meaning
pub record Means (ts : List Tok) (n : Nodes) : Type 0 where
  pub tree : Tree
  pub derived : IsCommand ts tree
  pub within : AllZero (limits tree)
  pub meant : meaning (reading tree) ≡ n

abbrev pub GroupsSo : Grouped → Type 0
GroupsSo g = (m : Nodes) × (n : Nodes) × Means (selecting g.plain) m × Means (selecting g.means) m × Means (selecting g.other) n × (¬ (m ≡ n))

abbrev Found : List Tok → Ans → Type 0
Found ts a = Outcome Around under judge G outer (any Command) ts a

means_found : {ts : List Tok} {m : ℕ} {us : List Tok} (k : Tree) (n : Nodes) → Found ts (got k m us) → meaning (reading (found k)) ≡ n → Means ts n
unfolding found
means_found k n o e = record { tree = o.0; derived = o.4; within = o.5; meant = ap (λ z. meaning (reading (found z))) (sym o.1) ∙ e }

not_same : (x y : Nodes) → notb (eq_nodes x y) ≡ true → ¬ (x ≡ y)
unfolding notb
not_same x y n e = let f : eq_nodes x y ≡ true = rw e (nodes_eq y) in 0≢1 (rw f at n)

by_answers : (g : Grouped) (x y z : Ans) → Found (selecting g.plain) x → Found (selecting g.means) y → Found (selecting g.other) z → agree x y z ≡ true → GroupsSo g
unfolding agree
by_answers g (got k n us) (got l m vs) (got j o ws) p q r e =
    let x = meaning (reading (found k)) in let y = meaning (reading (found l)) in let z = meaning (reading (found j)) in
    (x, z, means_found k x p refl, means_found l x q (sym (eq_nodes_lem x y (both_l (eq_nodes x y) _ e))), means_found j z r refl, not_same x z (both_r (eq_nodes x y) _ e))
by_answers g (got k n us) (got l m vs) (refused j o) p q r e = 0≢1 e
by_answers g (got k n us) (refused l m) z p q r e = 0≢1 e
by_answers g (refused k n) y z p q r e = 0≢1 e

answered : (ts : List Tok) → Found ts (parsed ts)
answered ts = some_outcome Around under judge G outer (any Command) (FollowOf sql) sql_laws ts

abbrev pub Every : (Grouped → Type 0) → List Grouped → Type 0
Every P [] = Unit {0}
Every P (g ∷ gs) = P g × Every P gs

every : (gs : List Grouped) → allb good gs ≡ true → Every GroupsSo gs
unfolding allb good
every [] e = tt
every (g ∷ gs) e = (by_answers g _ _ _ (answered (selecting g.plain)) (answered (selecting g.means)) (answered (selecting g.other)) (both_l _ (allb good gs) e), every gs (both_r (good g) _ e))

pub expressions_hold : Every GroupsSo expressions
expressions_hold = every expressions all_good

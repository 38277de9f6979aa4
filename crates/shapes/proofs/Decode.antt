-- Records determine the nodes that they hold (same_nodes): they are read from the front, each record taking as many of the nodes before
-- it as it says for its children. Assumes nothing.
use mathlib.Core.List.{List, [], ◌∷◌, ◌++◌, append_assoc, append-nil}
use mathlib.Core.Path.{◌≡◌, refl, sym, ap, ◌∙◌}
use Prim.Native.Nat.{ℕ, zero, suc, ◌+◌}
use lib.ListN.{length}
use native.Mathlib.Omega.{arith}
use Rattle.grammar.specs.Nodes.{Nodes, end, mk, count, beside, Rec, rec, records}

-- nodes read so far, the last one first: the last n of them in order, before others; those under them
unfoldable top : ℕ → Nodes → Nodes → Nodes
top zero st ms = ms
top (suc n) end ms = ms
top (suc n) (mk c d ks st) ms = top n st (mk c d ks ms)

unfoldable under : ℕ → Nodes → Nodes
under zero st = st
under (suc n) end = end
under (suc n) (mk c d ks st) = under n st

-- further nodes; all in order
unfoldable push : Nodes → Nodes → Nodes
push end st = st
push (mk c d ks ns) st = push ns (mk c d ks st)

unfoldable in_order : Nodes → Nodes → Nodes
in_order end ms = ms
in_order (mk c d ks st) ms = in_order st (mk c d ks ms)

unfoldable run : List Rec → Nodes → Nodes
run [] st = st
run (rec c d n s ∷ rs) st = run rs (mk c d (top n st end) (under n st))

unfoldable decode : List Rec → Nodes
decode rs = in_order (run rs end) end

beside_end : (ns : Nodes) → beside ns end ≡ ns
unfolding beside
beside_end end = refl
beside_end (mk c d ks ns) = ap (mk c d ks) (beside_end ns)

-- what was pushed is on top, in order
order_push : (ns st ms : Nodes) → in_order (push ns st) ms ≡ in_order st (beside ns ms)
unfolding push in_order beside
order_push end st ms = refl
order_push (mk c d ks ns) st ms = order_push ns (mk c d ks st) ms

none_more : (m : ℕ) → 0 + m ≡ m
none_more m = omega arith

no_others : (n : ℕ) → n ≡ n + 0
no_others n = omega arith

one_less : (n m : ℕ) → n + 1 + m ≡ n + suc m
one_less n m = omega arith

top_push : (ns st ms : Nodes) (m : ℕ) → top (count ns + m) (push ns st) ms ≡ top m st (beside ns ms)
unfolding push top beside count
top_push end st ms m = ap (λ z. top z st ms) (none_more m)
top_push (mk c d ks ns) st ms m = ap (λ z. top z (push ns (mk c d ks st)) ms) (one_less (count ns) m) ∙ top_push ns (mk c d ks st) ms (suc m)

under_push : (ns st : Nodes) (m : ℕ) → under (count ns + m) (push ns st) ≡ under m st
unfolding push under count
under_push end st m = ap (λ z. under z st) (none_more m)
under_push (mk c d ks ns) st m = ap (λ z. under z (push ns (mk c d ks st))) (one_less (count ns) m) ∙ under_push ns (mk c d ks st) (suc m)

top_all : (ks st : Nodes) → top (count ks) (push ks st) end ≡ ks
unfolding top
top_all ks st = ap (λ z. top z (push ks st) end) (no_others (count ks)) ∙ top_push ks st end 0 ∙ beside_end ks

under_all : (ks st : Nodes) → under (count ks) (push ks st) ≡ st
unfolding under
under_all ks st = ap (λ z. under z (push ks st)) (no_others (count ks)) ∙ under_push ks st 0

taken : (c d s : ℕ) (ks st : Nodes) (rs : List Rec) → run (rec c d (count ks) s ∷ rs) (push ks st) ≡ run rs (mk c d ks st)
unfolding run
taken c d s ks st rs = ap (λ z. run rs (mk c d z (under (count ks) (push ks st)))) (top_all ks st) ∙ ap (λ z. run rs (mk c d ks z)) (under_all ks st)

run_records : (ns : Nodes) (rs : List Rec) (st : Nodes) → run (records ns ++ rs) st ≡ run rs (push ns st)
unfolding run records push
run_records end rs st = refl
run_records (mk c d ks ns) rs st =
    ap (λ z. run z st) (append_assoc (records ks) _ rs) ∙ run_records ks _ st ∙ taken c d (length (records ks) + 1) ks st (records ns ++ rs) ∙ run_records ns rs (mk c d ks st)

decoded : (ns : Nodes) → decode (records ns) ≡ ns
unfolding decode run in_order
decoded ns = ap (λ z. in_order (run z end) end) (sym (append-nil (records ns))) ∙ ap (λ z. in_order z end) (run_records ns [] end) ∙ order_push ns end end ∙ beside_end ns

pub same_nodes : (ns ms : Nodes) → records ns ≡ records ms → ns ≡ ms
same_nodes ns ms e = sym (decoded ns) ∙ ap decode e ∙ decoded ms

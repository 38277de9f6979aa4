-- What it means to ask for a strength. fits: where a class is asked at strength s there stands what the class derives by a row of
-- strength s or more, and nothing else. It holds of every table in which no row asks less of its left operand than it has itself.
use mathlib.Core.Bool.{true}
use mathlib.Core.Logic.{◌↔◌}
use mathlib.Core.Path.{◌≡◌}
use Prim.Native.Nat.{ℕ}
use lib.Dec.{leb}
use native.Mathlib.Omega.{arith}
use Rattle.theory.specs.Trees.{Tok, Nt, Row, Tree, cap_of}
use Rattle.theory.specs.Table.{Table, lookup, enter_of, gram}
use Rattle.theory.specs.Derives.{Opens, head, tail, Ok, whole}
use Rattle.theory.proofs.Cases.{leb_le, le-leb}
use Rattle.theory.proofs.Tested.{asked_some, enter_found, cont_found, cont_some, Tight, tight_ok}

module _ (t : Table) (w : Tight t) (C s : ℕ) where
  abbrev At : Nt
  At = record { of = C; least = s }

  abbrev Any : Nt
  Any = record { of = C; least = 0 }

  opens_down : {l : Tree} {u : Tok} {r : Row} → Opens (gram t) Any l u r → leb s r.str ≡ true → Opens (gram t) At l u r
  unfolding enter_of
  opens_down {u = u} {r = r} (head e) h = head (asked_some s (lookup C u.kind t.heads) r (enter_found t Any u.kind r e).0 h)
  opens_down {u = u} {r = r} (tail {q = q} {f = f} o p e) h =
      let x = cont_found t Any q (cap_of f) u.kind r e in
      tail (opens_down o (le-leb s q.str (let a = leb_le s r.str h in let b = leb_le r.left q.str x.2 in let d = tight_ok t w C u.kind r x.0 in omega arith))) p
      (cont_some t At q (cap_of f) u.kind r x.0 h x.2 x.3)

  opens_up : {l : Tree} {u : Tok} {r : Row} → Opens (gram t) At l u r → Opens (gram t) Any l u r × (leb s r.str ≡ true)
  unfolding enter_of
  opens_up {u = u} {r = r} (head e) = let x = enter_found t At u.kind r e in (head (asked_some 0 (lookup C u.kind t.heads) r x.0 (le-leb 0 r.str (omega arith))), x.1)
  opens_up {u = u} {r = r} (tail {q = q} {f = f} o p e) =
      let x = cont_found t At q (cap_of f) u.kind r e in
      (tail (opens_up o).0 p (cont_some t Any q (cap_of f) u.kind r x.0 (le-leb 0 r.str (omega arith)) x.2 x.3), x.1)

  there : {r : Row} {x : Tree} → Ok (gram t) At r x → Ok (gram t) Any r x × (leb s r.str ≡ true)
  there (whole o p) = let z = opens_up o in (whole z.0 p, z.1)

  back : {r : Row} {x : Tree} → Ok (gram t) Any r x → leb s r.str ≡ true → Ok (gram t) At r x
  back (whole o p) h = whole (opens_down o h) p

  pub fits : (r : Row) (x : Tree) → Ok (gram t) (record { of = C; least = s }) r x ↔ (Ok (gram t) (record { of = C; least = 0 }) r x × (leb s r.str ≡ true))
  fits r x = (there, λ p. back p.0 p.1)

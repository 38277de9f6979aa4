-- What is asked at a strength, of 01's table: a row that is strong enough stands there too (asks). Assumes nothing.
use mathlib.Core.Bool.{true}
use mathlib.Core.Path.{◌≡◌}
use Prim.Native.Nat.{ℕ}
use lib.Dec.{leb}
use Rattle.theory.specs.Trees.{Row, Tree}
use Rattle.theory.specs.Derives.{Ok}
use Rattle.theory.proofs.Fits.{fits as fits-at}
use Rattle.grammar.specs.Classes.{any}
use Rattle.grammar.specs.Grammar.{sql, G}
use Rattle.grammar.proofs.Checked.{tight}

pub asks : (C s : ℕ) (r : Row) (x : Tree) → Ok G (any C) r x → leb s r.str ≡ true → Ok G (record { of = C; least = s }) r x
asks C s r x o h = (fits-at sql tight C s r x).1 (o, h)

pub asked_any : (C s : ℕ) (r : Row) (x : Tree) → Ok G (record { of = C; least = s }) r x → Ok G (any C) r x × (leb s r.str ≡ true)
asked_any C s r x o = (fits-at sql tight C s r x).0 o

-- 01's grammar as a table, and what it derives. Definitions only.
use Rattle.std.specs.Prelude.{List, map, ℕ}
use Rattle.theory.specs.Trees.{Tok, Tree, Gram}
use Rattle.theory.specs.Derives.{Derives, Begins}
use Rattle.theory.specs.Table.{Table, gram}
use Rattle.grammar.specs.Classes.{eof, Command, any}
use Rattle.grammar.specs.Rows.{lines, heads_of, tails_of, optional}
use Rattle.grammar.specs.Follow.{find, coming, follows, witnesses}

abbrev pub bare : ℕ → Tok
bare k = record { kind = k; text = 0 }

unfoldable pub sql : Table
sql = record { heads = heads_of lines; tails = tails_of lines; nulls = optional; follow = λ A. coming A follows; witness = λ A. map bare (find A witnesses); eof = eof }

abbrev pub G : Gram
G = gram sql

-- "One command": the tokens ts are a command, with the tree x
abbrev pub IsCommand : List Tok → Tree → Type 0
IsCommand ts x = Derives G (any Command) ts x

-- the tokens begin a command
abbrev pub BeginsCommand : List Tok → Type 0
BeginsCommand us = Begins G (any Command) us

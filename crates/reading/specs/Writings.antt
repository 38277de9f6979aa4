-- A writing as the programs see it: the writer's answer, and what it leaves in two lists.
use Rattle.std.specs.Prelude.{Ok, Err, ℕ, ◌&&◌, Option, is_none, List, ◌≡◌, take, drop}
use Rattle.grammar.specs.Promise.{Writes}
use Rattle.reader.specs.Answers.{Answer, number, place, Plain}
use Rattle.report.specs.Tables.{Changed}
use Rattle.lines.specs.declared.Line.{Line}
use Rattle.lines.specs.Forms.{table_of, out_kinds_of, out_texts_of}
use Rattle.reading.specs.declared.writing.Writing.{Writing}

-- how many numbers of each list are the writing
abbrev pub written_by : Answer → ℕ
written_by (Ok count) = count
written_by (Err r) = 0

-- what a writing tells of number m at place p, when the first n numbers of A and B are the writing
pub record Tells (m p n : ℕ) (A B : List ℕ) (w : Writing) : Type 0 where
  pub numbered : number w.got ≡ m
  pub placed : place w.got ≡ p
  pub used : w.used ≡ n
  -- the first numbers beyond that are not clear, and whether there is none
  pub changed_kind : Option ℕ
  pub changed_text : Option ℕ
  pub kinds : Changed A n changed_kind
  pub texts : Changed B n changed_text
  pub kept : w.kept ≡ (is_none changed_kind && is_none changed_text)

-- what a writing tells of an answer and of the lists A and B that it left
pub record LeftIn (got : Answer) (A B : List ℕ) (w : Writing) : Type 0 where
  pub told : w.got ≡ got
  pub used : w.used ≡ written_by got
  -- the first numbers beyond that are not clear, and whether there is none
  pub changed_kind : Option ℕ
  pub changed_text : Option ℕ
  pub kinds : Changed A (written_by got) changed_kind
  pub texts : Changed B (written_by got) changed_text
  pub kept : w.kept ≡ (is_none changed_kind && is_none changed_text)

-- the command of a line: the writer's promise for as much of each list as the line says, what is beyond as it was
pub record Written (line : Line) (K T N A B N' A' B' : List ℕ) (w : Writing) : Type 0 where
  pub got : Answer
  pub writes : Writes (take line.kinds K) (take line.texts T)
      (take (table_of line) N) (take (out_kinds_of line) A) (take (out_texts_of line) B)
      (number got) (place got)
      (take (table_of line) N') (take (out_kinds_of line) A') (take (out_texts_of line) B')
  pub plain : Plain got
  pub table_beyond : drop (table_of line) N' ≡ drop (table_of line) N
  pub kinds_beyond : drop (out_kinds_of line) A' ≡ drop (out_kinds_of line) A
  pub texts_beyond : drop (out_texts_of line) B' ≡ drop (out_texts_of line) B
  pub left : LeftIn got A' B' w

-- A reading as the programs see it: the reader's answer, and what it leaves in a node table.
use Rattle.std.specs.Prelude.{Ok, Err, ℕ, ◌*◌, ◌/◌, min, None, List, ◌≡◌, length, take, drop}
use Rattle.std.specs.Option.{option_map_or}
use Rattle.grammar.specs.Sizes.{WIDTH}
use Rattle.grammar.specs.Promise.{Reads}
use Rattle.reader.specs.Answers.{Answer, number, place, Few, Plain}
use Rattle.report.specs.Tables.{Changed}
use Rattle.lines.specs.declared.Line.{Line}
use Rattle.lines.specs.Forms.{table_of}
use Rattle.reading.specs.declared.Reading.{Reading}

abbrev pub no_reading : Reading
no_reading = record { got = Ok 0; used = 0; changed = None }

-- how many numbers `count` records have, of those that the table holds
abbrev pub numbers_of : List ℕ → ℕ → ℕ
numbers_of N count = min count (length N / WIDTH) * WIDTH

-- how many numbers of the table are records
abbrev pub used_by : Answer → List ℕ → ℕ
used_by (Ok count) N = numbers_of N count
used_by (Err r) N = 0

-- what a reading tells of number m at place p, when the first n numbers of the table N are records
pub record Told (m p n : ℕ) (N : List ℕ) (r : Reading) : Type 0 where
  pub numbered : number r.got ≡ m
  pub placed : place r.got ≡ p
  pub used : r.used ≡ n
  -- the first number beyond that is not clear, or that there is none
  pub changed : Changed N n r.changed

-- what a reading tells of an answer and of the table N that it left
pub record Left (got : Answer) (N : List ℕ) (r : Reading) : Type 0 where
  pub told : r.got ≡ got
  pub used : r.used ≡ used_by got N
  -- the first number beyond that is not clear, or that there is none
  pub changed : Changed N (used_by got N) r.changed

-- the reader's answer by its promise, and what it leaves
pub record ReadIn (K T N N' : List ℕ) (r : Reading) : Type 0 where
  pub got : Answer
  pub reads : Reads K T N (number got) (place got) N'
  pub few : Few K (place got)
  pub plain : Plain got
  pub left : Left got N' r

-- the command of a line: a reading in as much of the lists and of the table as the line says, and what is beyond as it was
pub record OfLine (line : Line) (K T N N' : List ℕ) (r : Reading) : Type 0 where
  pub read : ReadIn (take line.kinds K) (take line.texts T) (take (table_of line) N) (take (table_of line) N') r
  pub beyond : drop (table_of line) N' ≡ drop (table_of line) N

-- how many numbers are to be cleared after a reading: those of its records, or all, where it left more
abbrev pub to_clear : Reading → List ℕ → ℕ
to_clear r N = option_map_or (λ _. length N) r.changed r.used

-- The answer that a line of vectors has after its command, taken byte by byte:
--
--     => number place
--     => 0 count : code,detail,children,size code,... : kind[.text] ...
--     => R number place W number place
--
-- Its numbers are told apart, up to the second colon.
use Rattle.std.specs.Prelude.{ℕ, ◌+◌, ◌%◌, ◌^◌, Bool, true, false, if◌then◌else◌, ◌||◌, Option, Some, None, is_some, unwrap_or, List, ◌==◌}
use Rattle.kinds.specs.Lists.{among}
use Rattle.lines.specs.declared.vectors.Expected.{Expected}
use Rattle.lines.specs.declared.vectors.Part.{Part}
use Rattle.lines.specs.declared.vectors.Part.TheVariants.{Head, Records, Writing}
use Rattle.lines.specs.Numbers.{digit_of, with_digit, U32_MAX}
use Rattle.lines.specs.Bytes.{bytes_of, COLON_BYTE}

-- what may stand between numbers, the line's end with them
abbrev pub separators : List ℕ
separators = bytes_of ": ,=>RW\n"

abbrev pub none_told : Expected
none_told = record { inside = None; count = 0; part = Head; wrong = false }

-- the rest is the writing
abbrev pub is_writing : Part → Bool
is_writing Writing = true
is_writing p = false

abbrev pub has_writing : Expected → Bool
has_writing e = is_writing e.part

-- the number that the answer is in; 0 where one is to begin
abbrev pub so_far : Expected → ℕ
so_far e = unwrap_or e.inside 0

-- a digit: the number is n now, or too large
abbrev pub told_longer : Option ℕ → Expected → Expected
told_longer (Some n) e = record e { inside = Some n }
told_longer None e = record e { wrong = true }

abbrev pub with_figure : Expected → ℕ → Expected
with_figure e d = told_longer (with_digit (so_far e) d U32_MAX) e

-- any other byte ends the number that the answer is in
abbrev pub ended_number : Expected → Expected
ended_number e = record e { inside = None; count = if is_some e.inside then (e.count + 1) % 2 ^ 64 else e.count }

-- .. and is a separator, or wrong; the second colon closes the numbers
abbrev pub after_colon : Part → Part
after_colon Head = Records
after_colon Records = Writing
after_colon Writing = Writing

abbrev pub separated : Expected → ℕ → Expected
separated e b =
    record e {
      part = if b == COLON_BYTE then after_colon e.part else e.part;
      wrong = if among b separators then e.wrong else true;
    }

abbrev pub told_by : Option ℕ → Expected → ℕ → Expected
told_by (Some d) e b = with_figure e d
told_by None e b = separated (ended_number e) b

-- the answer with a byte more; behind the second colon nothing is told
abbrev pub told_with : Expected → ℕ → Expected
told_with e b = if has_writing e then e else told_by (digit_of b) e b

-- the number that the byte ends, if it ends one
abbrev pub number_told : Expected → ℕ → Option ℕ
number_told e b = if has_writing e || is_some (digit_of b) then None else e.inside

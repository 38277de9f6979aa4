-- A line with the two lists that its numbers go into.
use Rattle.std.specs.Prelude.{ℕ, replicate}
use Rattle.lines.specs.declared.command.Command.{Command}
use Rattle.lines.specs.Forms.{TOKENS, no_line, line_with, kinds_with, texts_with, ended_line}

abbrev pub no_command : Command
no_command = record { line = no_line; kinds = replicate TOKENS 0; texts = replicate TOKENS 0 }

-- the next line begins, in the same lists
abbrev pub begun_command : Command → Command
begun_command c = record c { line = no_line }

-- a byte more
abbrev pub command_with : Command → ℕ → Command
command_with c b =
    record {
      line = line_with c.line b;
      kinds = kinds_with (line_with c.line b) c.kinds;
      texts = texts_with (line_with c.line b) c.texts;
    }

-- the line is at its end
abbrev pub ended_command : Command → Command
ended_command c = record c { line = ended_line c.line }

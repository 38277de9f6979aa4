-- 01's limits and the width of a record, each named once. Definitions only.
use Rattle.std.specs.Prelude.{ℕ}

-- "input over 4,096"
abbrev pub TOKENS : ℕ
TOKENS = 4096

-- "Level: .. At most 64."
abbrev pub LEVELS : ℕ
LEVELS = 64

-- "Queries open at once, the outer counted: at most 16."
abbrev pub QUERIES : ℕ
QUERIES = 16

-- "Records of four u32: code, detail, children, size"
abbrev pub WIDTH : ℕ
WIDTH = 4

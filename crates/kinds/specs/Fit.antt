-- Refusal 2's test of one token: whether its kind and its text number are fit to stand in a list.
use Rattle.std.specs.Prelude.{Bool, true, ◌&&◌, cond, ℕ, eqb, leb}
use Rattle.kinds.specs.Kinds.{JOIN_KW, LIKE_KW, KINDS}

-- whether n is one of lo, .. hi
abbrev pub between : ℕ → ℕ → ℕ → Bool
between lo hi n = leb lo n && leb n hi

-- "JOIN_KW: 1 to 7. LIKE_KW: 1 LIKE, 2 GLOB, 3 REGEXP." Any text number is fit for another kind
unfoldable pub fit_text : ℕ → ℕ → Bool
fit_text k text = cond (eqb k JOIN_KW) (between 1 7 text) (cond (eqb k LIKE_KW) (between 1 3 text) true)

-- "2 | kind 0 or over 71, or unfit text number of JOIN_KW, LIKE_KW"
unfoldable pub fits : ℕ → ℕ → Bool
fits k text = between 1 KINDS k && fit_text k text

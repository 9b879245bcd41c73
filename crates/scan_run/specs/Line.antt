-- The line of a row that is given, which scan_lines defines, and a front of a text.
use Rattle.std.specs.Prelude.{ℕ, ◌≡◌, ◌≤◌, length, List, ◌++◌}
pub use Rattle.scan_lines.specs.Line.{hex_digit, escaped, quoted, element_in, fields_in, comma, value_text, elements_text, fields_text, line_of}

-- the old bytes stay, and a front of this text stands behind them
pub record AppendsFront (text old new : List ℕ) : Type 0 where
  pub rest : List ℕ
  pub parts : old ++ text ≡ new ++ rest
  pub keeps : length old ≤ length new

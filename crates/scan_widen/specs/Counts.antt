-- How many segments a layout has under another dtype.
use Rattle.std.specs.Prelude.{ℕ, min}

-- as far as one past the most segments of a file
abbrev pub capped : ℕ → ℕ
capped n = min n 4294967297

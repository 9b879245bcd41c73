-- Segments where they stand.
use Rattle.std.specs.Prelude.{ℕ, List, [], ◌∷◌, Option, option_and_then}
use Rattle.scan_values.specs.DataType.{DataType}
use Rattle.scan_values.specs.Paths.{Path}
use Rattle.scan_values.specs.Val.{Val}
use Rattle.scan_segments.specs.Source.{Store}
use Rattle.scan_spelling.specs.declared.spelling.Spelling.{Spelling}
use Rattle.scan_spelling.specs.Spelling.{decode}

-- A segment of a leaf: the leaf's path, dtype and spelling, the segment's rows and its id.
pub record Place : Type 0 where
  pub path : Path
  pub dtype : DataType
  pub spelling : Spelling
  pub rows : ℕ
  pub id : ℕ

-- a segment of a leaf, seen from the leaf itself
abbrev pub place_of : DataType → Spelling → ℕ × ℕ → Place
place_of t spelling g = record { path = []; dtype = t; spelling = spelling; rows = g.1; id = g.0 }

abbrev pub places_of : DataType → Spelling → List (ℕ × ℕ) → List Place
places_of t spelling [] = []
places_of t spelling (g ∷ segments) = place_of t spelling g ∷ places_of t spelling segments

-- the values of a segment, where it is there and decodes
abbrev pub decoded : Store → Place → Option (List Val)
decoded store p = option_and_then (decode p.spelling p.dtype p.rows) (store p.id)

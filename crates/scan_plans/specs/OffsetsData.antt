-- The offsets of lists, which stand in a leaf.
use Rattle.std.specs.Prelude.{◌≡◌, ℕ, nat_le, ◌&&◌, ◌-◌, List, if◌then◌else◌, Option, Some, ℤ, pos}
use Rattle.scan_values.specs.DataType.{DataType, int_type}
use Rattle.scan_values.specs.declared.ptype.Nullability.TheVariants.{NonNullable}
use Rattle.scan_values.specs.declared.ptype.PType.{PType}
use Rattle.scan_values.specs.Marked.{Marked, gone, integer}
use Rattle.scan_segments.specs.Source.{Store}
use Rattle.scan_spelling.specs.declared.spelling.Spelling.{Spelling}
use Rattle.scan_spelling.specs.Places.{Place, places_of}
use Rattle.scan_layout.specs.RowValue.{leaf_value, offset_of}

-- the dtype, the spelling and the segments of their leaf, and how many elements there are
pub record OffsetsData : Type 0 where
  pub dtype : DataType
  pub spelling : Spelling
  pub segments : List (ℕ × ℕ)
  pub elements : ℕ

abbrev pub offsets_data : DataType → Spelling → List (ℕ × ℕ) → ℕ → OffsetsData
offsets_data d s gs n = record { dtype = d; spelling = s; segments = gs; elements = n }

-- numbers, without null
abbrev pub AreNumbers : DataType → Type 0
AreNumbers d = (p : PType) × (d ≡ int_type p NonNullable)

abbrev pub offset_places : OffsetsData → List Place
offset_places o = places_of o.dtype o.spelling o.segments

-- what stands at a row as its offset
abbrev pub offset_marked : OffsetsData → Store → ℕ → Marked
offset_marked o store i = leaf_value o.dtype store (offset_places o) i

-- the offset of a row, where it is there
abbrev pub offset_at : OffsetsData → Store → ℕ → Option ℤ
offset_at o store i = offset_of (offset_marked o store i)

-- how many elements are between two offsets, where these are there, in order and within the elements
abbrev pub length_between : ℕ → Option ℤ → Option ℤ → Marked
length_between most (Some (pos a)) (Some (pos b)) = if nat_le a b && nat_le b most then integer (pos (b - a)) else gone
length_between most _ _ = gone

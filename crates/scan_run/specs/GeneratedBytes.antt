-- The kinds of the slots of generated columns.
use Rattle.std.specs.Prelude.{ℕ, ◌*◌, List, slice_range}
use Rattle.scan_values.specs.declared.ptype.PType.TheVariants.{U8, U32, I32}
use Rattle.scan_values.specs.declared.dtype.DTypeKind.{DTypeKind}

abbrev pub longs : DTypeKind
longs = DTypeKind.Primitive U32

abbrev pub signs : DTypeKind
signs = DTypeKind.Primitive I32

abbrev pub bytes_only : DTypeKind
bytes_only = DTypeKind.Primitive U8

-- the bytes of some slots of this width
abbrev pub cut_bytes : ℕ → List ℕ → ℕ × ℕ → List ℕ
cut_bytes width bytes p = slice_range bytes (width * p.0) (width * p.1)

-- The slots of a run, written at once.
use Rattle.std.specs.Prelude.{◌≡◌, ℕ, ℤ, pos, Bool, true, false, cond, List, [], ◌∷◌, ◌++◌}
use Rattle.scan_values.specs.declared.dtype.DTypeKind.{DTypeKind}
use Rattle.scan_values.specs.DataType.{DataType, nullability_of}
use Rattle.scan_values.specs.Kinds.{kind_of}
use Rattle.scan_spelling.specs.declared.spelling.Spelling.{Spelling}
use Rattle.scan_spelling.specs.declared.spelling.Spelling.TheVariants.{One, Two}
use Rattle.scan_values.specs.declared.ptype.PType.{PType}
use Rattle.scan_values.specs.declared.ptype.PType.TheVariants.{U64, I64}
use Rattle.scan_values.specs.declared.ptype.Nullability.{Nullability}
use Rattle.scan_values.specs.declared.ptype.Nullability.TheVariants.{NonNullable, Nullable}

-- the numbers, with 0 in place of each that is null
abbrev pub or_zero : List ℤ → List Bool → List ℤ
or_zero [] bs = []
or_zero (z ∷ zs) [] = []
or_zero (z ∷ zs) (b ∷ bs) = cond b z (pos 0) ∷ or_zero zs bs

-- a byte of a truth value
abbrev pub bit : Bool → ℕ
bit true = 1
bit false = 0

-- flags stand before slots where the dtype has null
abbrev pub flags_before : Nullability → List ℕ → List ℕ
flags_before NonNullable flags = []
flags_before Nullable flags = flags

-- slots that stand as bytes in a spelling: all but those of Bools that are bits
abbrev pub IsWhole : Spelling → DTypeKind → Type 0
IsWhole One kind = Unit {0}
IsWhole Two DTypeKind.Bool = ⊥
IsWhole Two kind = Unit {0}

-- a segment of a dtype that gains null under another, and has its slots as bytes
pub record GainsNull (spelling : Spelling) (from to : DataType) : Type 0 where
  pub plain : nullability_of from ≡ NonNullable
  pub null : nullability_of to ≡ Nullable
  pub whole : IsWhole spelling (kind_of from)

-- numbers of 64 bits
abbrev pub IsWide : PType → Type 0
IsWide U64 = Unit {0}
IsWide I64 = Unit {0}
IsWide p = ⊥

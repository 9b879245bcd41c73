-- The fields that a mask of fields holds.
use Rattle.std.specs.Prelude.{Bool, true, false, [], ◌∷◌, Option, Some, None}
use Rattle.scan_values.specs.DataType.{Name}
use Rattle.scan_values.specs.declared.field_path.FieldMask.{FieldMask}
use Rattle.scan_values.specs.declared.field_path.FieldMask.TheVariants.{All, Prefix}

abbrev pub matches_all : FieldMask → Bool
matches_all All = true
matches_all (Prefix []) = true
matches_all (Prefix (n ∷ ns)) = false

abbrev pub starting_field : FieldMask → Option Name
starting_field All = None
starting_field (Prefix []) = None
starting_field (Prefix (n ∷ ns)) = Some n

-- the mask below the first name
abbrev pub stepped : FieldMask → FieldMask
stepped All = All
stepped (Prefix []) = All
stepped (Prefix (n ∷ [])) = All
stepped (Prefix (n ∷ m ∷ ns)) = Prefix (m ∷ ns)

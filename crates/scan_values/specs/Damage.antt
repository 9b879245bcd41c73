-- The marked value of which nothing is known.
use Rattle.scan_values.specs.Marked.{Marked, lost, gone}
use Rattle.scan_values.specs.DataType.{DataType, nullability_of}
use Rattle.scan_values.specs.declared.ptype.Nullability.{Nullability}
use Rattle.scan_values.specs.declared.ptype.Nullability.TheVariants.{NonNullable, Nullable}

-- lost where it may be null, else gone
abbrev pub damaged : Nullability → Marked
damaged NonNullable = gone
damaged Nullable = lost

abbrev pub damaged_of : DataType → Marked
damaged_of d = damaged (nullability_of d)

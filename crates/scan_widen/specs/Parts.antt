-- What is known of a layout of good form, and of what stands behind segments.
use Rattle.std.specs.Prelude.{◌≡◌, ℕ, ◌<◌, true}
use Rattle.scan_values.specs.declared.ptype.Nullability.{Nullability}
use Rattle.scan_values.specs.declared.ptype.Nullability.TheVariants.{NonNullable, Nullable}
use Rattle.scan_values.specs.DataType.{DataType, nullability_of}
use Rattle.scan_values.specs.Kinds.{is_scalar_type}
use Rattle.scan_layout.specs.Layout.{Layout, Nodes, dtype_of, kids_of, count}
use Rattle.scan_layout.specs.Form.{HasForm}
use Rattle.scan_widen.specs.declared.behind.Behind.{Behind}
use Rattle.scan_widen.specs.declared.behind.Behind.TheVariants.{Kept, Widened, Blank, Valid}
use Rattle.scan_widen.specs.FitsUnder.{fits_under}
use Rattle.scan_widen.specs.Blanks.{flags}
use Rattle.scan_widen.specs.Under.{kid_at}
use Rattle.scan_widen.specs.Countable.{is_countable}

-- where a nullable node has its validity
abbrev pub HasFlags : Nullability → ℕ → Nodes → Type 0
HasFlags NonNullable place kids = Unit {0}
HasFlags Nullable place kids = (place < count kids) × HasForm (kid_at kids place) flags

abbrev pub HasValidity : ℕ → Layout → Type 0
HasValidity place l = HasFlags (nullability_of (dtype_of l)) place (kids_of l)

-- the child of a layout that is a field, of a dtype that fits another
pub record IsGoodField (l kid : Layout) (t : DataType) : Type 0 where
  pub form : HasForm kid (dtype_of kid)
  pub fits : fits_under (dtype_of kid) t ≡ true
  pub countable : is_countable l ≡ true → is_countable kid ≡ true

-- what stands behind a segment can be read: what is widened is of a scalar dtype that fits the other
abbrev pub IsReadable : Behind → Type 0
IsReadable (Kept id) = Unit {0}
IsReadable (Widened w) = (is_scalar_type w.from ≡ true) × (fits_under w.from w.to ≡ true)
IsReadable (Blank t rows) = Unit {0}
IsReadable (Valid rows) = Unit {0}

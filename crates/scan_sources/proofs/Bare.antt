-- Structs without fields.
use Rattle.std.proofs.Common.{◌≡◌, ℕ, zero, suc, true, refl}
use Rattle.scan_values.specs.DataType.{DataType, bool_type, int_type, utf8_type, list_type, struct_type, no_fields, field}
use Rattle.scan_values.specs.Fits.{fits, fits_all}
use Rattle.scan_values.specs.Marked.{struct, none}
use Rattle.scan_values.specs.Val.{marked_all, vals_of}
use Rattle.scan_values.specs.declared.ptype.Nullability.TheVariants.{NonNullable, Nullable}
use Rattle.scan_sources.specs.Empties.{bare_rows}
use Rattle.scan_sources.specs.Requests.{is_bare_struct}

bare_fits : (d : DataType) → is_bare_struct d ≡ true → fits (struct none) d ≡ true
bare_fits (bool_type n) h = cc
bare_fits (int_type p n) h = cc
bare_fits (utf8_type n) h = cc
bare_fits (list_type e n) h = cc
bare_fits (struct_type no_fields NonNullable) h = refl
bare_fits (struct_type no_fields Nullable) h = refl
bare_fits (struct_type (field n e fs) m) h = cc

pub bare_fit : (n : ℕ) (d : DataType) → is_bare_struct d ≡ true → fits_all (marked_all (vals_of (bare_rows n))) d ≡ true
bare_fit zero d h = refl
bare_fit (suc n) d h = rw (bare_fits d h) (bare_fit n d h)

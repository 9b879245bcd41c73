-- How what stands behind a segment is kept.
use Rattle.std.specs.Prelude.{◌≡◌, ℕ, zero, suc, refl}
use Rattle.std.specs.Coded.{Coded, code_by, coded×, coded_ℕ}
use Rattle.scan_values.specs.declared.ptype.Nullability.TheVariants.{NonNullable}
use Rattle.scan_values.specs.DataType.{DataType, bool_type, data_type_code}
use Rattle.scan_spelling.specs.declared.spelling.Spelling.{Spelling}
use Rattle.scan_spelling.specs.declared.spelling.Spelling.TheVariants.{One, Two}
use Rattle.scan_widen.specs.declared.behind.Behind.{Behind}
use Rattle.scan_widen.specs.declared.behind.Behind.TheVariants.{Kept, Widened, Blank, Valid}

abbrev pub Parts : Type 0
Parts = ℕ × (ℕ × (ℕ × (ℕ × (DataType × DataType))))

abbrev pub none : DataType
none = bool_type NonNullable

abbrev pub number_of : Spelling → ℕ
number_of One = 0
number_of Two = 1

abbrev pub spelling_at : ℕ → Spelling
spelling_at zero = One
spelling_at (suc n) = Two

abbrev pub parts : Behind → Parts
parts (Kept id) = (0, (id, (0, (0, (none, none)))))
parts (Widened w) = (1, (w.id, (w.rows, (number_of w.spelling, (w.from, w.to)))))
parts (Blank t rows) = (2, (0, (rows, (0, (t, none)))))
parts (Valid rows) = (3, (0, (rows, (0, (none, none)))))

abbrev pub of_parts : Parts → Behind
of_parts (zero, p) = Kept p.0
of_parts (suc zero, p) = Widened (record { id = p.0; rows = p.1.0; spelling = spelling_at p.1.1.0; from = p.1.1.1.0; to = p.1.1.1.1 })
of_parts (suc (suc zero), p) = Blank p.1.1.1.0 p.1.0
of_parts (suc (suc (suc n)), p) = Valid p.1.0

pub same_spelling : (s : Spelling) → spelling_at (number_of s) ≡ s
same_spelling One = refl
same_spelling Two = refl

pub back : (b : Behind) → of_parts (parts b) ≡ b
back (Kept id) = refl
back (Widened w) = λ i. Widened (record { id = w.id; rows = w.rows; spelling = same_spelling w.spelling i; from = w.from; to = w.to })
back (Blank t rows) = refl
back (Valid rows) = refl

abbrev pub behind_code : Coded Behind
behind_code = code_by Parts (coded× coded_ℕ (coded× coded_ℕ (coded× coded_ℕ (coded× coded_ℕ (coded× data_type_code data_type_code))))) parts of_parts back

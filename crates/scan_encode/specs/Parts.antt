-- The parts of what is written of rows.
use Rattle.std.specs.Prelude.{◌≡◌, ℕ, suc, List, [], ◌∷◌, map, true, Some, pos}
use Rattle.scan_values.specs.declared.ptype.Nullability.{Nullability}
use Rattle.scan_values.specs.declared.ptype.Nullability.TheVariants.{NonNullable, Nullable}
use Rattle.scan_values.specs.DataType.{DataType, Fields, no_fields, field, bool_type}
use Rattle.scan_values.specs.Val.{Val, int_val}
use Rattle.scan_layout.specs.Layout.{Layout}
use Rattle.scan_spelling.specs.Cuts.{sums}
use Rattle.scan_encode.specs.Encoded.{IsOf}
use Rattle.scan_encode.specs.Rows.{Row, is_of, field_at, validity, counts}

-- each row that is there is of the dtype, and its texts fit
abbrev pub AllOf : DataType → List Row → Type 0
AllOf d [] = Unit {0}
AllOf d (r ∷ rows) = (is_of d r ≡ true) × AllOf d rows

-- rows that are all there
abbrev pub given : List Val → List Row
given vs = map Some vs

-- where each list ends, behind the 0 where the first one begins
abbrev pub offsets : List Row → List Val
offsets rows = map (λ n. int_val (pos n)) (0 ∷ sums 0 (counts rows))

-- the validity of the rows, where there is one
abbrev pub IsValidity : Nullability → List Row → List (List ℕ) → List Layout → Type 0
IsValidity NonNullable rows segments [] = Unit {0}
IsValidity NonNullable rows segments (l ∷ ls) = ⊥
IsValidity Nullable rows segments [] = ⊥
IsValidity Nullable rows segments (l ∷ []) = IsOf (bool_type NonNullable) (given (validity rows)) segments l
IsValidity Nullable rows segments (l ∷ m ∷ ls) = ⊥

-- the fields from a place on
abbrev pub AreFields : Fields → ℕ → List Row → List (List ℕ) → List Layout → Type 0
AreFields no_fields k rows segments [] = Unit {0}
AreFields no_fields k rows segments (l ∷ ls) = ⊥
AreFields (field name t fs) k rows segments [] = ⊥
AreFields (field name t fs) k rows segments (l ∷ ls) = IsOf t (map (field_at k) rows) segments l × AreFields fs (suc k) rows segments ls

-- the validity, where there is one, and the fields
abbrev pub AreChildren : Nullability → Fields → List Row → List (List ℕ) → List Layout → Type 0
AreChildren NonNullable fs rows segments ls = AreFields fs 0 rows segments ls
AreChildren Nullable fs rows segments [] = ⊥
AreChildren Nullable fs rows segments (l ∷ ls) = IsOf (bool_type NonNullable) (given (validity rows)) segments l × AreFields fs 0 rows segments ls

-- What an expression needs, as facts on paths.
use Rattle.std.proofs.Common.{◌≡◌, ◌⊎◌, true, List, [], ◌∷◌}
use Rattle.scan_values.specs.DataType.{DataType, bool_type, int_type, utf8_type, list_type, struct_type, Fields, no_fields, field, Name}
use Rattle.scan_values.specs.declared.ptype.Nullability.{Nullability}
use Rattle.scan_values.specs.declared.ptype.Nullability.TheVariants.{NonNullable, Nullable}
use Rattle.scan_values.specs.NameFaults.{field_names, has_name}
use Rattle.scan_values.specs.Paths.{to_field, to_validity, to_offsets, to_elements, Path}
use Rattle.scan_expr.specs.Infer.{struct_fields, field_type, infer}
use Rattle.scan_expr.specs.Needs.{Demand, whole, null_alone, length_alone, fields, at, asked}
use Rattle.scan_expr.specs.Expr.{Expr, root, row_index, literal, unary, binary, pack, Parts, no_parts, part}

-- the validity leaf, of what is nullable
abbrev pub IsValidity : Nullability → Path → Type 0
IsValidity NonNullable p = ⊥
IsValidity Nullable p = p ≡ to_validity ∷ []

-- a path that ends at a leaf
abbrev mutual
  pub IsLeaf : DataType → Path → Type 0
  IsLeaf (bool_type n) p = p ≡ []
  IsLeaf (int_type t n) p = p ≡ []
  IsLeaf (utf8_type n) p = p ≡ []
  IsLeaf (list_type d n) p = IsValidity n p ⊎ ((p ≡ to_offsets ∷ []) ⊎ ((q : Path) × (p ≡ to_elements ∷ q) × IsLeaf d q))
  IsLeaf (struct_type fs n) p = IsValidity n p ⊎ IsFieldLeaf fs p

  pub IsFieldLeaf : Fields → Path → Type 0
  IsFieldLeaf no_fields p = ⊥
  IsFieldLeaf (field f d fs) p = ((q : Path) × (p ≡ to_field f ∷ q) × IsLeaf d q) ⊎ IsFieldLeaf fs p

-- a leaf of the field of this name
abbrev pub IsLeafOf : Fields → Name → Path → Type 0
IsLeafOf fs f p = (q : Path) × (has_name f (field_names fs) ≡ true) × (p ≡ to_field f ∷ q) × IsLeaf (field_type f fs) q

abbrev pub IsLeafOfAny : Fields → List Name → Path → Type 0
IsLeafOfAny fs [] p = ⊥
IsLeafOfAny fs (f ∷ ns) p = IsLeafOf fs f p ⊎ IsLeafOfAny fs ns p

abbrev pub NeedsNull : DataType → Path → Type 0
NeedsNull (bool_type NonNullable) p = ⊥
NeedsNull (bool_type Nullable) p = p ≡ []
NeedsNull (int_type t NonNullable) p = ⊥
NeedsNull (int_type t Nullable) p = p ≡ []
NeedsNull (utf8_type NonNullable) p = ⊥
NeedsNull (utf8_type Nullable) p = p ≡ []
NeedsNull (list_type d n) p = IsValidity n p
NeedsNull (struct_type fs n) p = IsValidity n p

abbrev pub NeedsLength : DataType → Path → Type 0
NeedsLength (list_type d n) p = IsValidity n p ⊎ (p ≡ to_offsets ∷ [])
NeedsLength d p = IsLeaf d p

abbrev pub NeedsFields : List Name → DataType → Path → Type 0
NeedsFields ns (struct_type fs n) p = IsValidity n p ⊎ IsLeafOfAny fs ns p
NeedsFields ns d p = IsLeaf d p

-- the field's own need where the struct is not nullable, else its validity and the whole field
abbrev pub NeedsAt : Name → (DataType → Path → Type 0) → DataType → Path → Type 0
NeedsAt f P (struct_type fs NonNullable) p = (q : Path) × (has_name f (field_names fs) ≡ true) × (p ≡ to_field f ∷ q) × P (field_type f fs) q
NeedsAt f P (struct_type fs Nullable) p = (p ≡ to_validity ∷ []) ⊎ IsLeafOf fs f p
NeedsAt f P d p = IsLeaf d p

abbrev pub Asks : Demand → DataType → Path → Type 0
Asks whole d p = IsLeaf d p
Asks null_alone d p = NeedsNull d p
Asks length_alone d p = NeedsLength d p
Asks (fields ns) d p = NeedsFields ns d p
Asks (at f k) d p = NeedsAt f (Asks k) d p

-- what an expression needs of its scope; a demand goes down a chain of fields alone
abbrev mutual
  pub Needs : DataType → Expr → Demand → Path → Type 0
  Needs s root k p = Asks k s p
  Needs s row_index k p = ⊥
  Needs s (literal d m) k p = ⊥
  Needs s (unary u e) k p = Needs s e (asked u (struct_fields (infer s e)) k) p
  Needs s (binary b x y) k p = Needs s x whole p ⊎ Needs s y whole p
  Needs s (pack ps n) k p = AnyNeeds s ps p

  pub AnyNeeds : DataType → Parts → Path → Type 0
  AnyNeeds s no_parts p = ⊥
  AnyNeeds s (part n e ps) p = Needs s e whole p ⊎ AnyNeeds s ps p

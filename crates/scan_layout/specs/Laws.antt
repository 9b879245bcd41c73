-- What holds of every layout.
use Rattle.std.specs.Prelude.{◌≡◌, ℕ, ◌+◌, ◌<◌, ◌≤◌, List, [], ◌∷◌, map, Option, Some, None, ℤ, pos, negsuc, Bool, true, false}
use Rattle.scan_values.specs.declared.ptype.Nullability.{Nullability}
use Rattle.scan_values.specs.declared.ptype.Nullability.TheVariants.{NonNullable, Nullable}
use Rattle.scan_values.specs.declared.field_path.FieldMask.{FieldMask}
use Rattle.scan_values.specs.declared.field_path.FieldMask.TheVariants.{All, Prefix}
use Rattle.scan_values.specs.DataType.{DataType, Fields, nullability_of}
use Rattle.scan_values.specs.Fits.{fits}
use Rattle.scan_values.specs.Marked.{Marked, boolean}
use Rattle.scan_values.specs.Val.{Val, is_clean}
use Rattle.scan_segments.specs.Source.{Store}
use Rattle.scan_layout.specs.declared.node.LayoutKind.TheVariants.{Leaf, Struct, List as List'}
use Rattle.scan_layout.specs.Layout.{Layout, Nodes, node, no_nodes, child, rows_of}
use Rattle.scan_layout.specs.Form.{HasForm}
use Rattle.scan_spelling.specs.Places.{Place, decoded}
use Rattle.scan_layout.specs.RowValue.{row_value, nth_value, nth_rows, offset_of}
use Rattle.scan_layout.specs.Touched.{touched}
use Rattle.scan_layout.specs.Edges.{MaskPath, matching}
use Rattle.scan_layout.specs.Slots.{matching_fields}

-- a fact of segments holds in each of these places
abbrev pub Each : (Place → Type 0) → List Place → Type 0
Each P [] = Unit {0}
Each P (p ∷ ps) = P p × Each P ps

-- two stores have the same at a place's id
abbrev pub Agree : Store → Store → Place → Type 0
Agree s u p = s p.id ≡ u p.id

-- A row's value stands on the segments that it touches, and on no others.
abbrev pub StandsOnTouched : Type 0
StandsOnTouched = (l : Layout) (t : DataType) (s u : Store) (a b i : ℕ) → HasForm l t → a ≤ i → i < b → b ≤ rows_of l
    → Each (Agree s u) (touched l s a b) → row_value l s i ≡ row_value l u i

-- Each row has a value that fits the layout's dtype, whatever the store.
abbrev pub RowsFitTheDType : Type 0
RowsFitTheDType = (l : Layout) (t : DataType) (s : Store) (i : ℕ) → HasForm l t → fits (row_value l s i) t ≡ true

-- the segment is there, and decodes
abbrev pub Decodes : Store → Place → Type 0
Decodes s p = (values : List Val) × (decoded s p ≡ Some values)

-- two offsets, where they are there, are in order and within the elements
abbrev pub InOrder : ℕ → Option ℤ → Option ℤ → Type 0
InOrder most (Some (pos a)) (Some (pos b)) = (a ≤ b) × (b ≤ most)
InOrder most (Some (pos a)) (Some (negsuc b)) = ⊥
InOrder most (Some (negsuc a)) p = ⊥
InOrder most (Some (pos a)) None = Unit {0}
InOrder most None p = Unit {0}

-- a value is not null by its validity
abbrev pub is_there : Nullability → Marked → Bool
is_there NonNullable validity = true
is_there Nullable (boolean false) = false
is_there Nullable validity = true

-- the offsets of the lists in a row are good, but for those in what is null: of the row itself, and of the elements between them
abbrev mutual
  pub OffsetsAreGood : Layout → Store → ℕ → Type 0
  OffsetsAreGood (node t rows (Leaf segments spelling) kids) s i = Unit {0}
  OffsetsAreGood (node t rows Struct kids) s i = is_there (nullability_of t) (nth_value kids 0 s i) ≡ true → AllOffsetsAreGood kids s i
  OffsetsAreGood (node t rows (List' p) kids) s i = is_there (nullability_of t) (nth_value kids 2 s i) ≡ true →
      (InOrder (nth_rows kids 0) (offset_of (nth_value kids 1 s i)) (offset_of (nth_value kids 1 s (i + 1)))
      × ((x y j : ℕ) → offset_of (nth_value kids 1 s i) ≡ Some (pos x)
      → offset_of (nth_value kids 1 s (i + 1)) ≡ Some (pos y) → x ≤ j → j < y → FirstOffsetsAreGood kids s j))

  pub FirstOffsetsAreGood : Nodes → Store → ℕ → Type 0
  FirstOffsetsAreGood no_nodes s i = Unit {0}
  FirstOffsetsAreGood (child l ls) s i = OffsetsAreGood l s i

  pub AllOffsetsAreGood : Nodes → Store → ℕ → Type 0
  AllOffsetsAreGood no_nodes s i = Unit {0}
  AllOffsetsAreGood (child l ls) s i = OffsetsAreGood l s i × AllOffsetsAreGood ls s i

-- A row is damaged only where a segment that it touches is missing, does not decode or holds a bad offset of a list that is not null.
abbrev pub CleanWhereDecoded : Type 0
CleanWhereDecoded = (l : Layout) (t : DataType) (s : Store) (i : ℕ) → HasForm l t → i < rows_of l
    → Each (Decodes s) (touched l s i (i + 1)) → OffsetsAreGood l s i → is_clean (row_value l s i) ≡ true

-- a mask as the names of its path
abbrev pub path_of : FieldMask → MaskPath
path_of All = []
path_of (Prefix names) = names

-- a field that a mask matches, by the names that are left and its place, where the first field's place is k
abbrev pub found_at : ℕ → FieldMask × ℕ → MaskPath × ℕ
found_at k m = (path_of m.0, k + m.1)

-- The fields that masks match are those by which a struct is split.
abbrev pub MasksSplitByFields : Type 0
MasksSplitByFields = (fs : Fields) (k : ℕ) (masks : List FieldMask) (found : List (FieldMask × ℕ))
    → matching_fields fs masks ≡ Some found → matching fs k (map path_of masks) ≡ map (found_at k) found

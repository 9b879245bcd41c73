-- Where the rows of a file are split.
use Rattle.std.specs.Prelude.{ℕ, zero, suc, ◌+◌, ◌*◌, ◌/◌, nat_lt, nat_le, ◌&&◌, ◌++◌, max, filter, List, [], ◌∷◌, Bool, true, false, if◌then◌else◌, Option, Some, None, bytes_eq}
use Rattle.std.specs.List.{list_any, flat_map, filter_map}
use Rattle.scan_values.specs.declared.ptype.Nullability.TheVariants.{NonNullable, Nullable}
use Rattle.scan_values.specs.DataType.{DataType, Fields, no_fields, field, struct_type, Name}
use Rattle.scan_layout.specs.declared.node.LayoutKind.TheVariants.{Leaf, Struct, List as List'}
use Rattle.scan_layout.specs.Layout.{Layout, Nodes, node, no_nodes, child}
use Rattle.scan_layout.specs.RowValue.{nth_rows}

-- the names of a field's path; no names are all fields
abbrev pub MaskPath : Type 0
MaskPath = List Name

abbrev pub is_inside : ℕ → ℕ → ℕ → Bool
is_inside lo hi e = nat_lt lo e && nat_lt e hi

-- the ends of a leaf's segments
abbrev pub segment_ends : ℕ → List (ℕ × ℕ) → List ℕ
segment_ends base [] = []
segment_ends base (g ∷ segments) = (base + g.1) ∷ segment_ends (base + g.1) segments

-- the least power of two from p on that is at least n
abbrev pub power_from : ℕ → ℕ → ℕ → ℕ
power_from zero p n = p
power_from (suc k) p n = if nat_le n p then p else power_from k (2 * p) n

-- how fine the splits of the elements of so many lists are mapped to them
abbrev pub list_split_grid_size : ℕ → ℕ
list_split_grid_size rows = max 64 (power_from 64 1 ((rows + 8191) / 8192))

abbrev pub grid_row : ℕ → ℕ → ℕ → Option ℕ
grid_row g rows grid =
    if (nat_lt 0 g && nat_lt g grid) && (nat_lt 0 (g * rows / grid) && nat_lt (g * rows / grid) rows) then Some (g * rows / grid) else None

-- a split of the elements as a split of the lists
abbrev pub map_element_split_to_outer_grid : ℕ → ℕ → ℕ → ℕ → Option ℕ
map_element_split_to_outer_grid e element_rows rows grid =
    if (nat_lt 0 e && nat_lt e element_rows) && (nat_lt 0 rows && nat_le 2 grid) then grid_row
    ((e * grid + element_rows / 2) / element_rows) rows grid else None

abbrev pub is_all : MaskPath → Bool
is_all [] = true
is_all (name ∷ names) = false

-- the place of the first field of a name, the first place being k
abbrev pub place_of : Fields → Name → ℕ → Option ℕ
place_of no_fields name k = None
place_of (field other t fs) name k = if bytes_eq other name then Some k else place_of fs name (k + 1)

-- the field of a mask's first name, with the rest of the mask
abbrev pub at_place : MaskPath → Option ℕ → List (MaskPath × ℕ)
at_place names None = []
at_place names (Some i) = (names, i) ∷ []

abbrev pub matching_one : Fields → ℕ → MaskPath → List (MaskPath × ℕ)
matching_one fs k [] = []
matching_one fs k (name ∷ names) = at_place names (place_of fs name k)

abbrev pub every_field : Fields → ℕ → List (MaskPath × ℕ)
every_field no_fields k = []
every_field (field name t fs) k = ([], k) ∷ every_field fs (k + 1)

-- Every field where some mask matches all, else the field of each mask that names one. The first field has the place k.
abbrev pub matching : Fields → ℕ → List MaskPath → List (MaskPath × ℕ)
matching fs k masks = if list_any is_all masks then every_field fs k else flat_map (matching_one fs k) masks

-- the children of a struct that are split by these masks: its validity, and the matching fields
abbrev pub struct_matches : DataType → List MaskPath → List (MaskPath × ℕ)
struct_matches (struct_type fs NonNullable) masks = matching fs 0 masks
struct_matches (struct_type fs Nullable) masks = ([], 0) ∷ matching fs 1 masks
struct_matches _ masks = []

-- the edges of a layout in a range: its end, and the ends of what is read by the masks
abbrev mutual
  pub edges : Layout → List MaskPath → ℕ → ℕ → List ℕ
  edges (node t rows (Leaf segments spelling) kids) masks lo hi = filter (is_inside lo hi) (segment_ends 0 segments) ++ (hi ∷ [])
  edges (node t rows Struct kids) masks lo hi = flat_map (λ m. nth_edges kids m.1 (m.0 ∷ []) lo hi) (struct_matches t masks) ++ (hi ∷ [])
  edges (node t rows (List' p) kids) masks lo hi =
      filter (is_inside lo hi) (filter_map (λ e. map_element_split_to_outer_grid e (nth_rows kids 0) rows (list_split_grid_size rows))
      (nth_edges kids 0 ([] ∷ []) 0 (nth_rows kids 0))) ++ (hi ∷ [])

  pub nth_edges : Nodes → ℕ → List MaskPath → ℕ → ℕ → List ℕ
  nth_edges no_nodes k masks lo hi = []
  nth_edges (child l ls) zero masks lo hi = edges l masks lo hi
  nth_edges (child l ls) (suc k) masks lo hi = nth_edges ls k masks lo hi

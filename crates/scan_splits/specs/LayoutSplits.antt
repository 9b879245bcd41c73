-- What is registered as the splits of a layout, and why it is not.
use Rattle.std.specs.Prelude.{ℕ, zero, suc, ◌+◌, nat_lt, List, [], ◌∷◌, Bool, true, false, if◌then◌else◌, Option, Some, None}
use Rattle.std.specs.List.{list_any, flat_map}
use Rattle.scan_values.specs.DataType.{Fields, nullability_of}
use Rattle.scan_values.specs.Kinds.{struct_fields_of}
use Rattle.scan_values.specs.declared.field_path.FieldMask.{FieldMask}
use Rattle.scan_layout.specs.declared.node.LayoutKind.TheVariants.{Leaf, Struct, List as List'}
use Rattle.scan_layout.specs.Layout.{Layout, Nodes, node, no_nodes, child, rows_of}
use Rattle.scan_layout.specs.Slots.{one_where, matching_fields}
use Rattle.scan_layout.specs.Edges.{MaskPath, nth_edges}
use Rattle.scan_splits.specs.declared.fault.SplitFault.{SplitFault}
use Rattle.scan_splits.specs.declared.fault.SplitFault.TheVariants.{Bounds, NoSuchField}

-- the edges of the children of these indices, each under its mask
abbrev pub matched_edges : Nodes → List (MaskPath × ℕ) → ℕ → ℕ → List ℕ
matched_edges kids found lo hi = flat_map (λ m. nth_edges kids m.1 (m.0 ∷ []) lo hi) found

-- a mask names no field, or one of the fields that are found passes a test
abbrev pub any_found : (FieldMask × ℕ → Bool) → Option (List (FieldMask × ℕ)) → Bool
any_found p None = true
any_found p (Some found) = list_any p found

-- the fields that masks match, where there are fields
abbrev pub found_fields : Option Fields → List FieldMask → Option (List (FieldMask × ℕ))
found_fields None masks = Some []
found_fields (Some fs) masks = matching_fields fs masks

-- A mask names no field of a struct that the masks reach. Below a list they reach nothing: all of its elements is asked for.
abbrev mutual
  pub misses : Layout → List FieldMask → Bool
  misses (node t rows (Leaf segments spelling) kids) masks = false
  misses (node t rows Struct kids) masks =
      any_found (λ m. nth_misses kids (one_where (nullability_of t) + m.1) (m.0 ∷ []))
      (found_fields (struct_fields_of t) masks)
  misses (node t rows (List' p) kids) masks = false

  pub nth_misses : Nodes → ℕ → List FieldMask → Bool
  nth_misses no_nodes k masks = false
  nth_misses (child l ls) zero masks = misses l masks
  nth_misses (child l ls) (suc k) masks = nth_misses ls k masks

abbrev pub missing : Bool → Option SplitFault
missing b = if b then Some NoSuchField else None

-- what is wrong with a range that ends at a row, or with the masks
abbrev pub split_fault : Layout → List FieldMask → ℕ → Option SplitFault
split_fault l masks hi = if nat_lt (rows_of l) hi then Some Bounds else missing (misses l masks)

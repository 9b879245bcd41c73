-- The leaves of a list, and readers of them.
use Rattle.std.specs.Prelude.{◌≡◌, ℕ, true, Option, Some, None, option_map}
use Rattle.scan_values.specs.DataType.{nullability_of}
use Rattle.scan_values.specs.declared.ptype.Nullability.{Nullability}
use Rattle.scan_values.specs.declared.ptype.Nullability.TheVariants.{NonNullable, Nullable}
use Rattle.scan_layout.specs.Form.{HasForm}
use Rattle.scan_layout.specs.Layout.{Layout, Nodes, dtype_of, kids_of, kind_of}
use Rattle.scan_layout.specs.Slots.{nth_kid, is_list_kind}
use Rattle.scan_readers.specs.KindView.{leaf_of}
use Rattle.scan_readers.specs.LeafPlans.{is_leaf}
use Rattle.scan_readers.specs.declared.leaf.LeafReader.{LeafReader}
use Rattle.scan_readers.specs.declared.list.ListLeaves.{ListLeaves}

-- a list of good form
pub record IsList (l : Layout) : Type 0 where
  pub form : HasForm l (dtype_of l)
  pub kind : is_list_kind (kind_of l) ≡ true

-- the child of an index is a leaf
pub record HasLeaf (l : Layout) (k : ℕ) : Type 0 where
  pub layout : Layout
  pub kid : nth_kid (kids_of l) k ≡ Some layout
  pub leaf : is_leaf layout ≡ true

-- the layout of a list's validity, where it may be null
abbrev pub validity_kid : Nullability → Nodes → Option Layout
validity_kid NonNullable kids = None
validity_kid Nullable kids = nth_kid kids 2

-- a reader of a list's validity, where it may be null
abbrev pub IsValidityOf : Layout → Option LeafReader → Type 0
IsValidityOf l v = option_map leaf_of v ≡ validity_kid (nullability_of (dtype_of l)) (kids_of l)

-- readers of a list's leaves
pub record AreLeavesOf (l : Layout) (r : ListLeaves) : Type 0 where
  pub offsets : nth_kid (kids_of l) 1 ≡ Some (leaf_of r.offsets)
  pub validity : IsValidityOf l r.validity

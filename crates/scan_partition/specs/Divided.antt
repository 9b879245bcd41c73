-- An expression taken apart: its items, a part for each, and the root over them.
use Rattle.std.specs.Prelude.{◌≡◌, List, [], map, zip, length, Option, Some, None, refl}
use Rattle.std.specs.Coded.{Coded, code_by, coded×, coded_list, coded_option, coded_ℕ}
use Rattle.scan_values.specs.DataType.{DataType, Name, struct_type, fields_of}
use Rattle.scan_values.specs.declared.ptype.Nullability.TheVariants.{NonNullable}
use Rattle.scan_expr.specs.Bound.{Bound, bound_code, bound_of}
use Rattle.scan_expr.specs.Infer.{struct_fields, infer}
use Rattle.scan_expr.specs.Expr.{Expr}
use Rattle.scan_partition.specs.declared.item.Item.{Item}
use Rattle.scan_partition.specs.declared.item.Item.TheVariants.{Field, Validity}
use Rattle.scan_partition.specs.Items.{item_name}
use Rattle.scan_partition.specs.Rows.{item_type}
use Rattle.scan_partition.specs.Partition.{Group, cuts, groups_of, part_of, root_of, joined_type, step_into}

pub record Divided : Type 0 where
  pub items : List Item
  pub parts : List Bound
  pub root : Bound

abbrev pub item_tree : Item → Option Name
item_tree (Field n) = Some n
item_tree Validity = None

abbrev pub tree_item : Option Name → Item
tree_item None = Validity
tree_item (Some n) = Field n

pub tree_item-item_tree : (i : Item) → tree_item (item_tree i) ≡ i
tree_item-item_tree (Field n) = refl
tree_item-item_tree Validity = refl

abbrev pub item_code : Coded Item
item_code = code_by (Option Name) (coded_option (coded_list coded_ℕ)) item_tree tree_item tree_item-item_tree

abbrev pub divided_code : Coded Divided
divided_code =
    code_by (List Item × (List Bound × Bound)) (coded× (coded_list item_code)
    (coded× (coded_list bound_code) bound_code)) (λ d. (d.items, (d.parts, d.root)))
    (λ p. record { items = p.0; parts = p.1.0; root = p.1.1 }) (λ _. refl)

-- the struct that the root reads: under each item's name a value of its part
abbrev pub scope_of : List Item → List Bound → DataType
scope_of is ps = struct_type (fields_of (zip (map item_name is) (map (λ (p : Bound). infer p.scope p.expr) ps))) NonNullable

pub record IsDivided (is : List Item) (ps : List Bound) (root : Bound) : Type 0 where
  pub even : length ps ≡ length is
  pub scope : root.scope ≡ scope_of is ps

-- ---- what becomes of the part of an item: kept over the struct, or stepped into the item
abbrev pub kept : DataType → Item → Expr → Bound
kept s i e = bound_of s e

abbrev pub stepped : DataType → Item → Expr → Bound
stepped s i e = bound_of (item_type (struct_fields s) i) (step_into e)

abbrev pub type_of_part : (Item → Expr → Bound) → Item → Expr → DataType
type_of_part b i e = infer (b i e).scope (b i e).expr

abbrev pub group_part : (Item → Expr → Bound) → Group → Bound
group_part b g = b g.0 (part_of g.1)

abbrev pub divided : (Item → Expr → Bound) → Expr → Divided
divided b e = record {
  items = map (λ (g : Group). g.0) (groups_of (cuts e));
  parts = map (group_part b) (groups_of (cuts e));
  root = bound_of (joined_type (type_of_part b) (cuts e)) (root_of (cuts e) [] e);
}

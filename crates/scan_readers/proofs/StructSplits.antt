-- What partitioning an expression over a struct gives its reader.
use Rattle.std.proofs.Common.{◌≡◌, ℕ, ◌<◌, ◌≤◌, Bool, true, false, ◌||◌, List, [], ◌∷◌, length, map, Option, Some, None, refl, ap, sym, ◌∙◌}
use Rattle.std.specs.Prelude.{zip, All}
use Rattle.std.specs.List.{AllByRecursion}
use Rattle.std.proofs.lemmas.List.Elements.{recursion_from_All}
use Rattle.std.proofs.lemmas.Slice.Eq.{bytes_eq-Decides}
use Rattle.scan_values.specs.declared.ptype.Nullability.{Nullability}
use Rattle.scan_values.specs.declared.ptype.Nullability.TheVariants.{NonNullable}
use Rattle.scan_values.specs.DataType.{DataType, Fields, field_list, Name, struct_type, fields_depth, fields_of}
use Rattle.scan_values.specs.FieldLists.{dtypes_of as field_types}
use Rattle.scan_values.specs.Marked.{Marked, struct, more, chained}
use Rattle.scan_values.specs.NameFaults.{field_names, fields_fault}
use Rattle.scan_values.specs.Paths.{Path, to_field}
use Rattle.scan_expr.specs.Bound.{Bound, bound_of}
use Rattle.scan_expr.specs.Expr.{Expr, root}
use Rattle.scan_expr.specs.Infer.{infer, struct_fields}
use Rattle.scan_expr.specs.Needs.{needed, is_leaf_of, is_leaf_of_any}
use Rattle.scan_layout.specs.Check.{with_validity}
use Rattle.scan_layout.specs.Form.{HaveForms}
use Rattle.scan_layout.specs.Layout.{Layout, kids_of, dtype_of}
use Rattle.scan_partition.specs.declared.item.Item.{Item}
use Rattle.scan_partition.specs.declared.item.Item.TheVariants.{Field}
use Rattle.scan_partition.specs.declared.struct_.Partitioned.{Partitioned}
use Rattle.scan_partition.specs.declared.struct_.Partitioned.TheVariants.{Direct, Single, Multi}
use Rattle.scan_partition.specs.Direct.{Choice, Projection, chosen_directly, place}
use Rattle.scan_partition.specs.Divided.{Divided, divided, stepped, group_part, type_of_part}
use Rattle.scan_partition.specs.Expand.{expand}
use Rattle.scan_partition.specs.Had.{HasItems}
use Rattle.scan_partition.specs.Items.{Use, no_use, one, many, use_of}
use Rattle.scan_partition.specs.Needing.{SplitNeedsNoMore}
use Rattle.scan_partition.specs.Partable.{PartsPartable}
use Rattle.scan_partition.specs.Partition.{Group, cuts, groups_of, joined_fields}
use Rattle.scan_partition.specs.Rows.{Distinct, item_type}
use Rattle.scan_partition.specs.Split.{split, split_by, direct_or, Keeps, KeepsWhole, name_at, type_at, projected_type, projected_value, part_values, parts_overflow, joined_value_of, joined_overflows}
use Rattle.scan_partition.specs.Unnumbered.{SplitUnnumbered}
use Rattle.scan_readers.specs.Reached.{item_parts, field_part}
use Rattle.scan_readers.specs.StructPlans.{AreFieldsOf, IsParted, chosen_root}
use Rattle.scan_readers.proofs.StructKids.{EachOver, item_over, items_over, fields_over, has_at, type_back}
use Rattle.scan_readers.proofs.StructParts.{EachBelow}

-- ---- the scopes of parts, and the fields that a root reads
abbrev pub SplitForms : DataType → Partitioned → Type 0
SplitForms s (Direct p) = AreFieldsOf (fields_of (zip p.names (map (type_at (struct_fields s)) p.fields))) (map (field_part s) p.fields)
SplitForms s (Single i p) = p.scope ≡ item_type (struct_fields s) i
SplitForms s (Multi d) = EachOver (struct_fields s) d.items d.parts × (fs : Fields) × ((d.root).scope ≡ struct_type fs NonNullable) × AreFieldsOf fs (item_parts s d.items d.parts)

groups_over : (s : DataType) (gs : List Group) → EachOver (struct_fields s) (map (λ (g : Group). g.0) gs) (map (group_part (stepped s)) gs)
groups_over s [] = tt
groups_over s (g ∷ gs) = (refl, groups_over s gs)

groups_fields : (s : DataType) (gs : List Group) → AreFieldsOf (joined_fields (type_of_part (stepped s)) gs) (item_parts s (map (λ (g : Group). g.0) gs) (map (group_part (stepped s)) gs))
groups_fields s [] = tt
groups_fields s (g ∷ gs) = (refl, groups_fields s gs)

chosen_fields : (s : DataType) (c : Choice) → AreFieldsOf (fields_of (zip (map (λ (x : Name × Name). x.0) c) (map (type_at (struct_fields s)) (map (λ (x : Name × Name). place (struct_fields s) x.1) c)))) (map (field_part s) (map (λ (x : Name × Name). place (struct_fields s) x.1) c))
chosen_fields s [] = tt
chosen_fields s (x ∷ c) = (refl, chosen_fields s c)

divided_forms : (s : DataType) (x : Expr) → SplitForms s (Multi (divided (stepped s) x))
divided_forms s x = (groups_over s (groups_of (cuts x)), joined_fields (type_of_part (stepped s)) (groups_of (cuts x)), refl, groups_fields s (groups_of (cuts x)))

by_use : (u : Use) (s : DataType) (x : Expr) → SplitForms s (split_by u s x)
by_use no_use s x = divided_forms s x
by_use (one i) s x = refl
by_use many s x = divided_forms s x

by_choice : (o : Option Choice) (s : DataType) (e : Expr) → SplitForms s (direct_or o s e)
by_choice None s e = by_use (use_of (expand s e)) s (expand s e)
by_choice (Some c) s e = chosen_fields s c

pub split_forms : (s : DataType) (e : Expr) → SplitForms s (split s e)
split_forms s e = by_choice (chosen_directly s e) s e

-- ---- what a reader of a struct asks for
module _ (fs : Fields) (n : Nullability) (l : Layout) (x : Expr) (own : struct_type fs n ≡ dtype_of l) (forms : HaveForms (kids_of l) (with_validity n (field_types (field_list fs)))) (distinct : Distinct fs) (names : fields_fault fs ≡ None) (deep : fields_depth fs ≤ 64) where
  abbrev over_struct : Bound
  over_struct = bound_of (struct_type fs n) x

  pub is_parted : (p : Partitioned) → SplitForms (struct_type fs n) p → KeepsWhole over_struct p → PartsPartable p → HasItems (struct_type fs n) p → SplitUnnumbered p → IsParted l over_struct p
  is_parted (Direct p) form keeps partable has numbers = record {
    scope = own;
    parts = fields_over fs n l forms p.fields distinct (recursion_from_All _ p.fields keeps.0) names deep;
    root = record { fields = fields_of (zip p.names (map (type_at fs) p.fields)); scope = sym (keeps.1).dtype; each = form; unnumbered = refl };
  }
  is_parted (Single i p) form keeps partable has numbers = record {
    scope = own;
    parts = (item_over fs n l forms i p has form partable numbers, tt);
    root = tt;
  }
  is_parted (Multi d) form keeps partable has numbers = record {
    scope = own;
    parts = items_over fs n l forms d.items d.parts has form.0 partable numbers.0;
    root = record { fields = form.1; scope = form.2; each = form.3; unnumbered = numbers.1 };
  }

-- ---- fields that are chosen, as parts
abbrev pub chosen_items : Fields → List ℕ → List Item
chosen_items fs ks = map (λ k. Field (name_at fs k)) ks

abbrev pub chosen_parts : Fields → List ℕ → List Bound
chosen_parts fs ks = map (λ k. bound_of (type_at fs k) root) ks

abbrev pub chosen_whole : Bound → Projection → Divided
chosen_whole e p = record { items = chosen_items (struct_fields e.scope) p.fields; parts = chosen_parts (struct_fields e.scope) p.fields; root = chosen_root e }

chosen_values : (fs : Fields) (w : Item → Marked) (k : ℕ) (ks : List ℕ) → part_values w k (chosen_items fs ks) (chosen_parts fs ks) ≡ chained (map (λ i. w (Field (name_at fs i))) ks)
chosen_values fs w k [] = refl
chosen_values fs w k (i ∷ ks) = ap (more (w (Field (name_at fs i)))) (chosen_values fs w k ks)

chosen_calm : (fs : Fields) (w : Item → Marked) (k : ℕ) (ks : List ℕ) → parts_overflow w k (chosen_items fs ks) (chosen_parts fs ks) ≡ false
chosen_calm fs w k [] = refl
chosen_calm fs w k (i ∷ ks) = chosen_calm fs w k ks

pub keeps_chosen : (e : Bound) (p : Projection) → Keeps e (projected_type (struct_fields e.scope) p) (λ w k. projected_value (struct_fields e.scope) p w)
    (λ w k. false) → Keeps e (infer (chosen_root e).scope (chosen_root e).expr) (joined_value_of (chosen_whole e p)) (joined_overflows (chosen_whole e p))
keeps_chosen e p keeps = record {
  dtype = refl;
  values = λ v w k r a. ap struct (chosen_values (struct_fields e.scope) w k p.fields) ∙ keeps.values v w k r a;
  overflow = λ v w k r a. chosen_calm (struct_fields e.scope) w k p.fields ∙ keeps.overflow v w k r a;
}

-- ---- what they need
leaf_at : (fs : Fields) (k : ℕ) (path : Path) → Distinct fs → k < length (field_names fs) → needed (type_at fs k) root path ≡ true → is_leaf_of fs (name_at fs k) (to_field (name_at fs k) ∷ path) ≡ true
leaf_at fs k path d h need = rw (has_at fs k h, (bytes_eq-Decides (name_at fs k) (name_at fs k)).1 refl, type_back fs k d h) need

or_first : (a b : Bool) → a ≡ true → (a || b) ≡ true
or_first true b h = refl
or_first false b h = absurd cc

or_second : (a b : Bool) → b ≡ true → (a || b) ≡ true
or_second true b h = refl
or_second false b h = h

below_all : (fs : Fields) (ks : List ℕ) (e : Bound) → Distinct fs → AllByRecursion (λ k. k < length (field_names fs)) ks → ((q : Path) → is_leaf_of_any fs (map (name_at fs) ks) q ≡ true → needed e.scope e.expr q ≡ true) → EachBelow (chosen_items fs ks) (chosen_parts fs ks) e
below_all fs [] e d h f = tt
below_all fs (k ∷ ks) e d h f = (
  (λ path need. f (to_field (name_at fs k) ∷ path) (or_first (is_leaf_of fs (name_at fs k) (to_field (name_at fs k) ∷ path)) (is_leaf_of_any fs (map (name_at fs) ks) (to_field (name_at fs k) ∷ path)) (leaf_at fs k path d h.0 need))),
  below_all fs ks e d h.1 (λ q leaf. f q (or_second (is_leaf_of fs (name_at fs k) q) (is_leaf_of_any fs (map (name_at fs) ks) q) leaf)),
)

pub below_chosen : (e : Bound) (p : Projection) → Distinct (struct_fields e.scope) → All (λ i. i < length (field_names (struct_fields e.scope))) p.fields → SplitNeedsNoMore e (Direct p) → EachBelow (chosen_items (struct_fields e.scope) p.fields) (chosen_parts (struct_fields e.scope) p.fields) e
below_chosen e p d all no_more = below_all (struct_fields e.scope) p.fields e d (recursion_from_All _ p.fields all) (λ q leaf. no_more q ∙ leaf)

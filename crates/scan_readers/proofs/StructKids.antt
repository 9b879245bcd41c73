-- The children of a struct's items, and the parts over them.
use Rattle.std.proofs.Common.{◌≡◌, ℕ, zero, suc, ◌+◌, ◌<◌, ◌≤◌, Bool, true, false, cond, ◌||◌, List, [], ◌∷◌, length, map, Option, Some, None, refl, ap, sym, subst, ◌∙◌, arith}
use Rattle.std.specs.Prelude.{option_map, position, bytes_eq, unwrap_or}
use Rattle.std.specs.List.{position_from, AllByRecursion}
use Rattle.std.proofs.lemmas.Slice.Eq.{bytes_eq-Decides}
use Rattle.scan_values.specs.declared.ptype.Nullability.{Nullability}
use Rattle.scan_values.specs.declared.ptype.Nullability.TheVariants.{NonNullable, Nullable}
use Rattle.scan_values.specs.declared.text.NameFault.{NameFault}
use Rattle.scan_values.specs.DataType.{DataType, Fields, no_fields, field, field_list, Name, bool_type, struct_type, depth_of, fields_depth}
use Rattle.scan_values.specs.FieldLists.{names_of, dtypes_of as field_types, dtype_named}
use Rattle.scan_values.specs.NameFaults.{field_names, has_name, or_else, dtype_fault, fields_fault}
use Rattle.scan_expr.specs.Bound.{Bound}
use Rattle.scan_expr.specs.Infer.{field_type, type_or_bool}
use Rattle.scan_layout.specs.Check.{with_validity}
use Rattle.scan_layout.specs.Form.{HasForm, HaveForms}
use Rattle.scan_layout.specs.Layout.{Layout, Nodes, node, no_nodes, child, dtype_of, kids_of}
use Rattle.scan_layout.specs.Slots.{one_where, nth_kid}
use Rattle.scan_layout.proofs.Placing.{from_first}
use Rattle.scan_partition.specs.declared.item.Item.{Item}
use Rattle.scan_partition.specs.declared.item.Item.TheVariants.{Field, Validity}
use Rattle.scan_partition.specs.Had.{IsItemOf, AreItemsOf}
use Rattle.scan_partition.specs.Partable.{IsPartable, ArePartable}
use Rattle.scan_partition.specs.Rows.{Distinct, item_type}
use Rattle.scan_partition.specs.Split.{name_at, type_at}
use Rattle.scan_partition.specs.Unnumbered.{IsUnnumbered, AreUnnumbered}
use Rattle.scan_readers.specs.Reached.{item_child, item_part, item_parts, field_part}
use Rattle.scan_readers.specs.StructPlans.{IsOverChild, AreOverChildren}

-- ---- the child of a field
pub record FieldKid (fs : Fields) (kids : Nodes) (f : Name) (j : ℕ) : Type 0 where
  pub place : ℕ
  pub at : position_from (bytes_eq f) j (names_of (field_list fs)) ≡ Some (j + place)
  pub layout : Layout
  pub kid : nth_kid kids place ≡ Some layout
  pub dtype : dtype_of layout ≡ field_type f fs

own_dtype : (l : Layout) (t : DataType) → HasForm l t → dtype_of l ≡ t
own_dtype (node d rows kind kids) t h = h.0

-- of a field that is not the first
later_kid : (m : Name) (d : DataType) (fs : Fields) (l : Layout) (ls : Nodes) (f : Name) (j : ℕ) → bytes_eq f m ≡ false → FieldKid fs ls f (j + 1) → FieldKid (field m d fs) (child l ls) f j
later_kid m d fs l ls f j past k =
    let moved : j + 1 + k.place ≡ j + suc k.place = omega arith in
    record {
      place = suc k.place;
      at = rw past (k.at ∙ ap Some moved);
      layout = k.layout;
      kid = k.kid;
      dtype = k.dtype ∙ sym (ap (λ b. type_or_bool (cond b (Some d) (dtype_named f fs))) past);
    }

pub field_kid : (fs : Fields) (kids : Nodes) (f : Name) (j : ℕ) → has_name f (field_names fs) ≡ true → HaveForms kids (field_types (field_list fs)) → FieldKid fs kids f j
field_kid no_fields kids f j h forms = absurd cc
field_kid (field m d fs) no_nodes f j h forms = absurd forms
field_kid (field m d fs) (child l ls) f j h forms = by (bytes_eq f m) refl h (λ g. field_kid fs ls f (j + 1) g forms.1)
  where
    by : (b : Bool) → bytes_eq f m ≡ b → (b || has_name f (field_names fs)) ≡ true → (has_name f (field_names fs) ≡ true → FieldKid fs ls f (j + 1)) → FieldKid (field m d fs) (child l ls) f j
    by true s g rest = record {
      place = 0;
      at = rw s (ap Some (omega arith));
      layout = l;
      kid = refl;
      dtype = own_dtype l d forms.0 ∙ sym (ap (λ b. type_or_bool (cond b (Some d) (dtype_named f fs))) s);
    }
    by false s g rest = later_kid m d fs l ls f j s (rest g)

-- ---- the child of an item
pub record ItemKid (fs : Fields) (n : Nullability) (kids : Nodes) (i : Item) : Type 0 where
  pub index : ℕ
  pub child : item_child fs n i ≡ Some index
  pub layout : Layout
  pub kid : nth_kid kids index ≡ Some layout
  pub dtype : dtype_of layout ≡ item_type fs i

pub item_kid : (fs : Fields) (n : Nullability) (kids : Nodes) (i : Item) → IsItemOf fs n i → HaveForms kids (with_validity n (field_types (field_list fs))) → ItemKid fs n kids i
item_kid fs NonNullable kids (Field f) has forms =
    let k = field_kid fs kids f 0 has forms in
    let at : position (bytes_eq f) (names_of (field_list fs)) ≡ Some k.place = sym (from_first (bytes_eq f) (names_of (field_list fs))) ∙ k.at ∙ ap Some (omega arith) in
    let same : 0 + k.place ≡ k.place = omega arith in
    record { index = k.place; child = ap (λ (o : Option ℕ). option_map (λ z. 0 + z) o) at ∙ ap Some same; layout = k.layout; kid = k.kid; dtype = k.dtype }
item_kid fs Nullable no_nodes i has forms = absurd forms
item_kid fs Nullable (child v ls) (Field f) has forms =
    let k = field_kid fs ls f 0 has forms.1 in
    let at : position (bytes_eq f) (names_of (field_list fs)) ≡ Some k.place = sym (from_first (bytes_eq f) (names_of (field_list fs))) ∙ k.at ∙ ap Some (omega arith) in
    let same : 1 + k.place ≡ suc k.place = omega arith in
    record { index = suc k.place; child = ap (λ (o : Option ℕ). option_map (λ z. 1 + z) o) at ∙ ap Some same; layout = k.layout; kid = k.kid; dtype = k.dtype }
item_kid fs NonNullable kids Validity has forms = absurd (let z : NonNullable ≡ Nullable = has in cc)
item_kid fs Nullable (child v ls) Validity has forms = record { index = 0; child = refl; layout = v; kid = refl; dtype = own_dtype v (bool_type NonNullable) forms.0 }

-- ---- the field at a place
pub has_at : (fs : Fields) (k : ℕ) → k < length (field_names fs) → has_name (name_at fs k) (field_names fs) ≡ true
has_at no_fields k h = absurd (omega arith)
has_at (field m d fs) zero h = rw ((bytes_eq-Decides m m).1 refl) refl
has_at (field m d fs) (suc k) h = by (bytes_eq (name_at fs k) m) (has_at fs k (omega (arith, h)))
  where
    by : (b : Bool) → has_name (name_at fs k) (field_names fs) ≡ true → (b || has_name (name_at fs k) (field_names fs)) ≡ true
    by true g = refl
    by false g = g

-- no other field has its name
other_name : (fs : Fields) (k : ℕ) (m : Name) → k < length (field_names fs) → has_name m (field_names fs) ≡ false → bytes_eq (name_at fs k) m ≡ false
other_name fs k m h none = by (bytes_eq (name_at fs k) m) refl
  where
    by : (b : Bool) → bytes_eq (name_at fs k) m ≡ b → b ≡ false
    by true s =
        let same : name_at fs k ≡ m = (bytes_eq-Decides (name_at fs k) m).0 s in
        absurd (let z : false ≡ true = sym none ∙ ap (λ (x : Name). has_name x (field_names fs)) (sym same) ∙ has_at fs k h in cc)
    by false s = refl

pub place_back : (fs : Fields) (k j : ℕ) → Distinct fs → k < length (field_names fs) → position_from (bytes_eq (name_at fs k)) j (names_of (field_list fs)) ≡ Some (j + k)
place_back no_fields k j d h = absurd (omega arith)
place_back (field m t fs) zero j d h = rw ((bytes_eq-Decides m m).1 refl) (ap Some (omega arith))
place_back (field m t fs) (suc k) j d h =
    let moved : j + 1 + k ≡ j + suc k = omega arith in
    rw (other_name fs k m (omega (arith, h)) d.0) (place_back fs k (j + 1) d.1 (omega (arith, h)) ∙ ap Some moved)

pub type_back : (fs : Fields) (k : ℕ) → Distinct fs → k < length (field_names fs) → field_type (name_at fs k) fs ≡ type_at fs k
type_back no_fields k d h = absurd (omega arith)
type_back (field m t fs) zero d h = rw ((bytes_eq-Decides m m).1 refl) refl
type_back (field m t fs) (suc k) d h = rw (other_name fs k m (omega (arith, h)) d.0) (type_back fs k d.1 (omega (arith, h)))

-- its child
pub record PlaceKid (fs : Fields) (n : Nullability) (kids : Nodes) (k : ℕ) : Type 0 where
  pub child : item_child fs n (Field (name_at fs k)) ≡ Some (one_where n + k)
  pub layout : Layout
  pub kid : nth_kid kids (one_where n + k) ≡ Some layout
  pub dtype : dtype_of layout ≡ type_at fs k

pub place_kid : (fs : Fields) (n : Nullability) (kids : Nodes) (k : ℕ) → Distinct fs → k < length (field_names fs) → HaveForms kids (with_validity n (field_types (field_list fs))) → PlaceKid fs n kids k
place_kid fs n kids k d h forms =
    let i = item_kid fs n kids (Field (name_at fs k)) (has_at fs k h) forms in
    let at : position (bytes_eq (name_at fs k)) (names_of (field_list fs)) ≡ Some (0 + k) = sym (from_first (bytes_eq (name_at fs k)) (names_of (field_list fs))) ∙ place_back fs k 0 d h in
    let plain : one_where n + (0 + k) ≡ one_where n + k = omega arith in
    let own : item_child fs n (Field (name_at fs k)) ≡ Some (one_where n + k) = ap (λ (o : Option ℕ). option_map (λ z. one_where n + z) o) at ∙ ap Some plain in
    let same : Some i.index ≡ Some (one_where n + k) = sym i.child ∙ own in
    let index : i.index ≡ one_where n + k = cc in
    record { child = own; layout = i.layout; kid = subst (λ (j : ℕ). nth_kid kids j ≡ Some i.layout) index i.kid; dtype = i.dtype ∙ type_back fs k d h }

-- ---- parts over children
pub index_of : (fs : Fields) (n : Nullability) (i : Item) (k : ℕ) → item_child fs n i ≡ Some k → unwrap_or (item_child fs n i) 0 ≡ k
index_of fs n i k h = ap (λ (o : Option ℕ). unwrap_or o 0) h

-- each part is over its item
abbrev pub EachOver : Fields → List Item → List Bound → Type 0
EachOver fs [] [] = Unit {0}
EachOver fs [] (p ∷ ps) = ⊥
EachOver fs (i ∷ is) [] = ⊥
EachOver fs (i ∷ is) (p ∷ ps) = (p.scope ≡ item_type fs i) × EachOver fs is ps

-- the dtypes of fields
pub either_none : (a b : Option NameFault) → or_else a b ≡ None → (a ≡ None) × (b ≡ None)
either_none None b h = (refl, h)
either_none (Some f) b h = absurd (let z : Some f ≡ None = h in cc)

names_at : (fs : Fields) (k : ℕ) → fields_fault fs ≡ None → dtype_fault (type_at fs k) ≡ None
names_at no_fields k h = refl
names_at (field m d fs) zero h = (either_none (dtype_fault d) (fields_fault fs) h).0
names_at (field m d fs) (suc k) h = names_at fs k (either_none (dtype_fault d) (fields_fault fs) h).1

depth_at : (fs : Fields) (k : ℕ) → fields_depth fs ≤ 64 → depth_of (type_at fs k) ≤ 64
depth_at no_fields k h = omega arith
depth_at (field m d fs) zero h = omega (arith, h)
depth_at (field m d fs) (suc k) h = depth_at fs k (omega (arith, h))

module _ (fs : Fields) (n : Nullability) (l : Layout) (forms : HaveForms (kids_of l) (with_validity n (field_types (field_list fs)))) where
  pub item_over : (i : Item) (p : Bound) → IsItemOf fs n i → p.scope ≡ item_type fs i → IsPartable p → IsUnnumbered p → IsOverChild l (item_part (struct_type fs n) i p)
  item_over i p has scope partable numbers =
      let k = item_kid fs n (kids_of l) i has forms in
      record { layout = k.layout; kid = rw (index_of fs n i k.index k.child) k.kid; scope = scope ∙ sym k.dtype; partable = partable; unnumbered = numbers }

  pub items_over : (is : List Item) (ps : List Bound) → AreItemsOf (struct_type fs n) is → EachOver fs is ps → ArePartable ps → AreUnnumbered ps → AreOverChildren l (item_parts (struct_type fs n) is ps)
  items_over [] [] has over partable numbers = tt
  items_over [] (p ∷ ps) has over partable numbers = absurd over
  items_over (i ∷ is) [] has over partable numbers = absurd over
  items_over (i ∷ is) (p ∷ ps) has over partable numbers = (item_over i p has.0 over.0 partable.0 numbers.0, items_over is ps has.1 over.1 partable.1 numbers.1)

  pub field_over : (k : ℕ) → Distinct fs → k < length (field_names fs) → fields_fault fs ≡ None → fields_depth fs ≤ 64 → IsOverChild l (field_part (struct_type fs n) k)
  field_over k d h names deep =
      let p = place_kid fs n (kids_of l) k d h forms in
      record { layout = p.layout; kid = p.kid; scope = sym p.dtype; partable = record { names = names_at fs k names; scope = depth_at fs k deep; typed = refl; nodes = depth_at fs k deep }; unnumbered = refl }

  pub fields_over : (ks : List ℕ) → Distinct fs → AllByRecursion (λ k. k < length (field_names fs)) ks → fields_fault fs ≡ None → fields_depth fs ≤ 64 → AreOverChildren l (map (field_part (struct_type fs n)) ks)
  fields_over [] d h names deep = tt
  fields_over (k ∷ ks) d h names deep = (field_over k d h.0 names deep, fields_over ks d h.1 names deep)

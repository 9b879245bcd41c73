-- How deep the JSON of a footer nests.
use Rattle.std.proofs.Common.{◌≡◌, ℕ, suc, ◌+◌, ◌*◌, ◌≤◌, max, true, false, List, [], ◌∷◌, map, refl, ap, ◌∙◌, arith}
use Rattle.serde_json.specs.Data.{depth, items_depth}
use Rattle.serde_json.specs.View.{items_of}
use Rattle.scan_values.specs.declared.ptype.Nullability.TheVariants.{NonNullable, Nullable}
use Rattle.scan_values.specs.DataType.{DataType, Fields, no_fields, field, bool_type, int_type, utf8_type, list_type, struct_type, field_list, depth_of, fields_depth}
use Rattle.scan_values.specs.FieldLists.{dtypes_of}
use Rattle.scan_values.specs.Kinds.{is_scalar_type}
use Rattle.scan_layout.specs.declared.node.LayoutKind.TheVariants.{Leaf, Struct, List as Listed}
use Rattle.scan_layout.specs.Layout.{Layout, Nodes, node, no_nodes, child, dtype_of}
use Rattle.scan_layout.specs.Form.{HasForm, HaveForms}
use Rattle.scan_disk.specs.declared.place.Place.{Place}
use Rattle.scan_disk_writer.specs.Json.{json_of_dtype, json_of_fields, json_of_segment, json_of_layout, json_of_nodes, json_of_places, json_of_footer}

mutual
  dtype_depth : (d : DataType) → depth (json_of_dtype d) ≤ 3 * depth_of d
  dtype_depth (bool_type n) = omega arith
  dtype_depth (int_type p n) = omega arith
  dtype_depth (utf8_type n) = omega arith
  dtype_depth (list_type d n) = omega (arith, dtype_depth d)
  dtype_depth (struct_type fs n) = omega (arith, fields_deep fs)

  fields_deep : (fs : Fields) → items_depth (json_of_fields fs) ≤ 3 * fields_depth fs + 1
  fields_deep no_fields = omega arith
  fields_deep (field name d fs) = omega (arith, dtype_depth d, fields_deep fs)

segments_deep : (gs : List (ℕ × ℕ)) → items_depth (items_of (map json_of_segment gs)) ≤ 1
segments_deep [] = omega arith
segments_deep (g ∷ gs) = omega (arith, segments_deep gs)

abbrev AllShallow : ℕ → List DataType → Type 0
AllShallow m [] = Unit {0}
AllShallow m (t ∷ ts) = (depth_of t ≤ m) × AllShallow m ts

shallow_more : (m n : ℕ) (ts : List DataType) → m ≤ n → AllShallow m ts → AllShallow n ts
shallow_more m n [] h a = tt
shallow_more m n (t ∷ ts) h a = (omega (arith, h, a.0), shallow_more m n ts h a.1)

fields_shallow : (fs : Fields) → AllShallow (fields_depth fs) (dtypes_of (field_list fs))
fields_shallow no_fields = tt
fields_shallow (field name d fs) = (omega arith, shallow_more (fields_depth fs) (max (depth_of d) (fields_depth fs)) (dtypes_of (field_list fs)) (omega arith) (fields_shallow fs))

-- a leaf
scalar_depth : (l : Layout) (t : DataType) → HasForm l t → is_scalar_type t ≡ true → depth (json_of_layout l) ≤ 3
scalar_depth (node u rows (Leaf gs s) kids) t h e = omega (arith, segments_deep gs)
scalar_depth (node (bool_type n) rows Struct kids) t h e = absurd cc
scalar_depth (node (int_type p n) rows Struct kids) t h e = absurd cc
scalar_depth (node (utf8_type n) rows Struct kids) t h e = absurd cc
scalar_depth (node (list_type d n) rows Struct kids) t h e = absurd cc
scalar_depth (node (struct_type fs n) rows Struct kids) t h e = let z : false ≡ true = ap is_scalar_type h.0 ∙ e in absurd cc
scalar_depth (node (bool_type n) rows (Listed p) kids) t h e = absurd cc
scalar_depth (node (int_type q n) rows (Listed p) kids) t h e = absurd cc
scalar_depth (node (utf8_type n) rows (Listed p) kids) t h e = absurd cc
scalar_depth (node (struct_type fs n) rows (Listed p) kids) t h e = absurd cc
scalar_depth (node (list_type d n) rows (Listed p) kids) t h e = let z : false ≡ true = ap is_scalar_type h.0 ∙ e in absurd cc

abbrev AllScalar : List DataType → Type 0
AllScalar [] = Unit {0}
AllScalar (t ∷ ts) = (is_scalar_type t ≡ true) × AllScalar ts

scalars_deep : (ls : Nodes) (ts : List DataType) → HaveForms ls ts → AllScalar ts → items_depth (json_of_nodes ls) ≤ 3
scalars_deep no_nodes ts h s = omega arith
scalars_deep (child l ls) [] h s = absurd h
scalars_deep (child l ls) (t ∷ ts) h s = omega (arith, scalar_depth l t h.0 s.0, scalars_deep ls ts h.1 s.1)

mutual
  layout_depth : (l : Layout) (t : DataType) → HasForm l t → depth (json_of_layout l) ≤ 2 * depth_of t + 3
  layout_depth (node u rows (Leaf gs s) kids) t h = omega (arith, segments_deep gs)
  layout_depth (node (bool_type n) rows Struct kids) t h = absurd cc
  layout_depth (node (int_type p n) rows Struct kids) t h = absurd cc
  layout_depth (node (utf8_type n) rows Struct kids) t h = absurd cc
  layout_depth (node (list_type d n) rows Struct kids) t h = absurd cc
  layout_depth (node (struct_type fs NonNullable) rows Struct kids) t h =
      let e = ap depth_of h.0 in
      omega (arith, e, kids_deep kids (dtypes_of (field_list fs)) (fields_depth fs) h.3 (fields_shallow fs))
  layout_depth (node (struct_type fs Nullable) rows Struct kids) t h =
      let e = ap depth_of h.0 in
      omega (arith, e, valid_deep kids (dtypes_of (field_list fs)) (fields_depth fs) h.3 (fields_shallow fs))
  layout_depth (node (bool_type n) rows (Listed p) kids) t h = absurd cc
  layout_depth (node (int_type q n) rows (Listed p) kids) t h = absurd cc
  layout_depth (node (utf8_type n) rows (Listed p) kids) t h = absurd cc
  layout_depth (node (struct_type fs n) rows (Listed p) kids) t h = absurd cc
  layout_depth (node (list_type d NonNullable) rows (Listed p) kids) t h =
      let e = ap depth_of h.0 in
      omega (arith, e, list_deep kids d (int_type p NonNullable ∷ []) h.3 (refl, tt))
  layout_depth (node (list_type d Nullable) rows (Listed p) kids) t h =
      let e = ap depth_of h.0 in
      omega (arith, e, list_deep kids d (int_type p NonNullable ∷ bool_type NonNullable ∷ []) h.3 (refl, (refl, tt)))

  kids_deep : (ls : Nodes) (ts : List DataType) (m : ℕ) → HaveForms ls ts → AllShallow m ts → items_depth (json_of_nodes ls) ≤ 2 * m + 3
  kids_deep no_nodes ts m h s = omega arith
  kids_deep (child l ls) [] m h s = absurd h
  kids_deep (child l ls) (t ∷ ts) m h s = omega (arith, layout_depth l t h.0, kids_deep ls ts m h.1 s.1, s.0)

  -- behind a validity
  valid_deep : (ls : Nodes) (ts : List DataType) (m : ℕ) → HaveForms ls (bool_type NonNullable ∷ ts) → AllShallow m ts → items_depth (json_of_nodes ls) ≤ 2 * m + 3
  valid_deep no_nodes ts m h s = omega arith
  valid_deep (child l ls) ts m h s = omega (arith, scalar_depth l (bool_type NonNullable) h.0 refl, kids_deep ls ts m h.1 s)

  -- elements, and leaves behind them
  list_deep : (ls : Nodes) (d : DataType) (ts : List DataType) → HaveForms ls (d ∷ ts) → AllScalar ts → items_depth (json_of_nodes ls) ≤ 2 * depth_of d + 3
  list_deep no_nodes d ts h s = omega arith
  list_deep (child l ls) d ts h s = omega (arith, layout_depth l d h.0, scalars_deep ls ts h.1 s)

places_deep : (ps : List Place) (id : ℕ) → items_depth (items_of (json_of_places id ps)) ≤ 1
places_deep [] id = omega arith
places_deep (p ∷ ps) id = omega (arith, places_deep ps (suc id))

pub footer_depth : (l : Layout) (ps : List Place) → HasForm l (dtype_of l) → depth_of (dtype_of l) ≤ 42 → depth (json_of_footer l ps) ≤ 127
footer_depth l ps h s = omega (arith, dtype_depth (dtype_of l), layout_depth l (dtype_of l) h, places_deep ps 0, s)

-- Dtypes and layouts as JSON, part by part.
use Rattle.std.proofs.Common.{◌≡◌, ℕ, zero, suc, ◌+◌, ◌^◌, ◌<◌, ◌++◌, Bool, List, [], ◌∷◌, length, get_or, map, drop, refl, sym, ap, ap₂, ◌∙◌, subst, None, Some, codes, add-one, append_assoc, append-nil, drop-cons, arith}
use Rattle.std.specs.Prelude.{slice_get, Result, Ok, Err, IfOk, OnOk}
use Rattle.std.specs.declared.alloc.Global.{Global}
use Rattle.std.specs.declared.rc.Rc.{Rc}
use Rattle.std.proofs.lemmas.List.{map-append}
use Rattle.serde_json.specs.Data.{Data, boolean, string, array, object, item, member, no_members}
use Rattle.serde_json.specs.View.{view, items_of}
use Rattle.serde_json.specs.declared.value.Value.{Value}
use Rattle.scan_values.specs.DataType.{DataType, Name, Fields, bool_type, int_type, utf8_type, list_type, struct_type, fields_of, is_nullable, nullability_of}
use Rattle.scan_values.specs.FieldLists.{names_of, dtypes_of}
use Rattle.scan_values.specs.Kinds.{element_of, struct_fields_of}
use Rattle.scan_values.specs.declared.ptype.PType.{PType}
use Rattle.scan_spelling.specs.declared.spelling.Spelling.{Spelling}
use Rattle.scan_layout.specs.declared.node.LayoutKind.{LayoutKind}
use Rattle.scan_layout.specs.declared.node.LayoutKind.TheVariants as kinds
use Rattle.scan_layout.specs.Layout.{Layout, node, nodes, layout_size, nodes_size}
use Rattle.scan_layout.specs.LayoutView.{layouts_of}
use Rattle.scan_disk.specs.declared.place.Place.{Place}
use Rattle.scan_disk_writer.specs.FileBytes.{SegmentIdsFit, IdsFit, AllIdsFit}
use Rattle.scan_disk_writer.specs.Json.{named, mark, scalar_name, json_of_dtype, json_of_fields, json_of_layout, json_of_nodes}
use Rattle.scan_disk_writer.specs.Json.{list_type_data, leaf_data, struct_data, list_data, json_of_place, json_of_places}

abbrev pub field_json : Name × DataType → Data
field_json f = named f.0 (json_of_dtype f.1)

pub fields_items : (fs : List (Name × DataType)) → json_of_fields (fields_of fs) ≡ items_of (map field_json fs)
fields_items [] = refl
fields_items (f ∷ fs) = ap (item (field_json f)) (fields_items fs)

pub nodes_items : (ls : List Layout) → json_of_nodes (nodes ls) ≡ items_of (map json_of_layout ls)
nodes_items [] = refl
nodes_items (l ∷ ls) = ap (item (json_of_layout l)) (nodes_items ls)

-- the field at a place, and those behind it
pub field_first : (fs : List (Name × DataType)) (i : ℕ) (n : Name) (d : DataType) → Some n ≡ slice_get (names_of fs) i → Some d ≡ slice_get (dtypes_of fs) i
    → drop i fs ≡ (n, d) ∷ drop (suc i) fs
field_first [] i n d hn hd = absurd cc
field_first (f ∷ fs) zero n d hn hd = let a : n ≡ f.0 = cc in let b : d ≡ f.1 = cc in λ i. (sym a i, sym b i) ∷ fs
field_first (f ∷ fs) (suc i) n d hn hd = field_first fs i n d hn hd

pub name_there : (fs : List (Name × DataType)) (i : ℕ) → i < length fs → None ≡ slice_get (names_of fs) i → ⊥
name_there [] i h e = omega (arith, h)
name_there (f ∷ fs) zero h e = cc
name_there (f ∷ fs) (suc i) h e = name_there fs i (omega (arith, h)) e

pub field_next : (fs : List (Name × DataType)) (i : ℕ) (n : Name) (d : DataType) → Some n ≡ slice_get (names_of fs) i → Some d ≡ slice_get (dtypes_of fs) i
    → drop i fs ≡ (n, d) ∷ drop (i + 1) fs
field_next fs i n d hn hd = field_first fs i n d hn hd ∙ ap (λ k. (n, d) ∷ drop k fs) (sym (add-one i))

pub named_as : (n : Name) (d : DataType) (x y : Data) → x ≡ json_of_dtype d → y ≡ named n x → y ≡ field_json (n, d)
named_as n d x y e h = h ∙ ap (named n) e

-- ---- JSON values that are made one after the other
pub item_at : {A : Type 0} (xs : List A) (i : ℕ) (x : A) → i < length xs → x ≡ get_or xs i x → drop i xs ≡ x ∷ drop (i + 1) xs
item_at xs i x h e = drop-cons xs i x h ∙ (ap (λ z. z ∷ drop (suc i) xs) (sym e) ∙ ap (λ k. x ∷ drop k xs) (sym (add-one i)))

pub item_next : {A : Type 0} (xs : List A) (i : ℕ) (d : A) → i < length xs → drop i xs ≡ get_or xs i d ∷ drop (i + 1) xs
item_next xs i d h = drop-cons xs i d h ∙ ap (λ k. get_or xs i d ∷ drop k xs) (sym (add-one i))

pub step_one : {A : Type 0} (f : A → Data) (made now : List Value) (v : Value) (xs ys : List A) (x : A) (whole : List Data) → now ≡ made ++ v ∷ [] → view v ≡ f x → xs ≡ x ∷ ys
    → map view made ++ map f xs ≡ whole → map view now ++ map f ys ≡ whole
step_one f made now v xs ys x whole e h d k =
    ap (λ z. map view z ++ map f ys) e
    ∙ (ap (λ z. z ++ map f ys) (map-append view made (v ∷ []))
    ∙ (append_assoc (map view made) (view v ∷ []) (map f ys)
    ∙ (ap (λ z. map view made ++ (z ∷ map f ys)) h ∙ (ap (λ z. map view made ++ map f z) (sym d) ∙ k))))

pub step_end : {A : Type 0} (f : A → Data) (made : List Value) (xs : List A) (whole : List Data) → xs ≡ [] → map view made ++ map f xs ≡ whole → map view made ≡ whole
step_end f made xs whole e k = sym (append-nil (map view made)) ∙ (ap (λ z. map view made ++ map f z) (sym e) ∙ k)

-- a call's answer under another name
pub json_as : {E : Type 0} (r : Result Value E) (x y : Data) → x ≡ y → IfOk r (λ v. view v ≡ x) → IfOk r (λ v. view v ≡ y)
json_as (Ok v) x y e h = h ∙ e
json_as (Err f) x y e h = tt

pub holds_as : {E : Type 0} (r : Result Value E) (P Q : Type 0) → (P → Q) → OnOk r P → OnOk r Q
holds_as (Ok v) P Q f h = f h
holds_as (Err e) P Q f h = tt

-- ---- dtypes
pub struct_json : (d : DataType) (fs : Fields) → Some fs ≡ struct_fields_of d
    → json_of_dtype d ≡ object (member (codes "nullable") (boolean (is_nullable d)) (member (codes "struct") (array (json_of_fields fs)) no_members))
struct_json (bool_type n) fs is = absurd cc
struct_json (int_type p n) fs is = absurd cc
struct_json (utf8_type n) fs is = absurd cc
struct_json (list_type d n) fs is = absurd cc
struct_json (struct_type gs n) fs is = let e : gs ≡ fs = cc in
    ap (λ z. object (member (codes "nullable") (boolean (is_nullable (struct_type gs n))) (member (codes "struct") (array (json_of_fields z)) no_members))) e

pub list_json : (d e : DataType) → Some e ≡ element_of d
    → json_of_dtype d ≡ object (member (codes "list") (json_of_dtype e) (member (codes "nullable") (boolean (is_nullable d)) no_members))
list_json (bool_type n) e is = absurd cc
list_json (int_type p n) e is = absurd cc
list_json (utf8_type n) e is = absurd cc
list_json (list_type d n) e is = let s : d ≡ e = cc in
    ap (λ z. object (member (codes "list") (json_of_dtype z) (member (codes "nullable") (boolean (is_nullable (list_type d n))) no_members))) s
list_json (struct_type fs n) e is = absurd cc

pub scalar_json : (d : DataType) → struct_fields_of d ≡ None → element_of d ≡ None → json_of_dtype d ≡ string (scalar_name d ++ mark (nullability_of d))
scalar_json (bool_type n) s e = refl
scalar_json (int_type p n) s e = refl
scalar_json (utf8_type n) s e = refl
scalar_json (list_type d n) s e = absurd cc
scalar_json (struct_type fs n) s e = absurd cc

pub struct_read : (d : DataType) (fs : Fields) (x : Data) (b : Bool) → Some fs ≡ struct_fields_of d → x ≡ array (json_of_fields fs) → b ≡ is_nullable d
    → object (member (codes "nullable") (boolean b) (member (codes "struct") x no_members)) ≡ json_of_dtype d
struct_read d fs x b is e h =
    ap₂ (λ p q. object (member (codes "nullable") (boolean p) (member (codes "struct") q no_members))) h e ∙ sym (struct_json d fs is)

pub list_read : (d e : DataType) (x : Data) (b : Bool) → Some e ≡ element_of d → x ≡ json_of_dtype e → b ≡ is_nullable d → list_type_data b x ≡ json_of_dtype d
list_read d e x b is k h = ap₂ list_type_data h k ∙ sym (list_json d e is)

pub scalar_read : (d : DataType) → struct_fields_of d ≡ None → element_of d ≡ None → string (scalar_name d ++ mark (nullability_of d)) ≡ json_of_dtype d
scalar_read d s e = sym (scalar_json d s e)

pub fields_read : (made : List Value) (fs : List (Name × DataType)) → map view made ≡ map field_json fs → array (items_of (map view made)) ≡ array (json_of_fields (fields_of fs))
fields_read made fs h = ap (λ z. array (items_of z)) h ∙ ap array (sym (fields_items fs))

-- ---- a layout, by its kind
module _ (l : Layout) (t : DataType) (rows : ℕ) (kind : LayoutKind) (ls : List Layout) (is : node t rows kind (nodes ls) ≡ l) where
  leaf_is : (gs : List (ℕ × ℕ)) (s : Spelling) → kind ≡ kinds.Leaf gs s → node t rows (kinds.Leaf gs s) (nodes ls) ≡ l
  leaf_is gs s h = sym (ap (λ z. node t rows z (nodes ls)) h) ∙ is

  struct_is : kind ≡ kinds.Struct → node t rows kinds.Struct (nodes ls) ≡ l
  struct_is h = sym (ap (λ z. node t rows z (nodes ls)) h) ∙ is

  list_is : (p : PType) → kind ≡ kinds.List p → node t rows (kinds.List p) (nodes ls) ≡ l
  list_is p h = sym (ap (λ z. node t rows z (nodes ls)) h) ∙ is

  pub leaf_read : (gs : List (ℕ × ℕ)) (s : Spelling) → kind ≡ kinds.Leaf gs s → leaf_data rows gs s ≡ json_of_layout l
  leaf_read gs s h = ap json_of_layout (leaf_is gs s h)

  pub struct_node_read : kind ≡ kinds.Struct → struct_data rows (items_of (map json_of_layout ls)) ≡ json_of_layout l
  struct_node_read h = ap (struct_data rows) (sym (nodes_items ls)) ∙ ap json_of_layout (struct_is h)

  pub list_node_read : (p : PType) → kind ≡ kinds.List p → list_data rows p (items_of (map json_of_layout ls)) ≡ json_of_layout l
  list_node_read p h = ap (list_data rows p) (sym (nodes_items ls)) ∙ ap json_of_layout (list_is p h)

  pub leaf_ids : (gs : List (ℕ × ℕ)) (s : Spelling) → kind ≡ kinds.Leaf gs s → SegmentIdsFit gs → IdsFit l
  leaf_ids gs s h f = subst IdsFit (leaf_is gs s h) f

  pub struct_ids : kind ≡ kinds.Struct → AllIdsFit (nodes ls) → IdsFit l
  struct_ids h f = subst IdsFit (struct_is h) f

  pub list_ids : (p : PType) → kind ≡ kinds.List p → AllIdsFit (nodes ls) → IdsFit l
  list_ids p h f = subst IdsFit (list_is p h) f

  -- the children are smaller
  pub kids_fall : layout_size l ≡ suc (nodes_size (nodes ls))
  kids_fall = sym (ap layout_size is)

-- ---- ids, one after the other
pub segment_ids : (gs : List (ℕ × ℕ)) (i : ℕ) (g : ℕ × ℕ) → drop i gs ≡ g ∷ drop (i + 1) gs → g.0 < 2 ^ 32 → (SegmentIdsFit (drop i gs) → SegmentIdsFit gs)
    → SegmentIdsFit (drop (i + 1) gs) → SegmentIdsFit gs
segment_ids gs i g d h f k = f (subst SegmentIdsFit (sym d) (h, k))

pub kid_ids : (rs : List (Rc Layout Global)) (i : ℕ) (r : Rc Layout Global) (x : Layout) → drop i rs ≡ r ∷ drop (i + 1) rs → x ≡ r.value → IdsFit x
    → (AllIdsFit (nodes (layouts_of (drop i rs))) → AllIdsFit (nodes (layouts_of rs))) → AllIdsFit (nodes (layouts_of (drop (i + 1) rs))) → AllIdsFit (nodes (layouts_of rs))
kid_ids rs i r x d e h f k = f (subst (λ z. AllIdsFit (nodes (layouts_of z))) (sym d) (subst IdsFit e h, k))

-- ---- places, one after the other
pub place_step : (made now : List Value) (v : Value) (ps : List Place) (i : ℕ) (p : Place) (whole : List Data) → now ≡ made ++ v ∷ [] → view v ≡ json_of_place i p
    → drop i ps ≡ p ∷ drop (i + 1) ps → map view made ++ json_of_places i (drop i ps) ≡ whole → map view now ++ json_of_places (i + 1) (drop (i + 1) ps) ≡ whole
place_step made now v ps i p whole e h d k =
    let tail = json_of_places (suc i) (drop (i + 1) ps) in
    ap (λ z. map view z ++ json_of_places (i + 1) (drop (i + 1) ps)) e
    ∙ (ap (λ n. map view (made ++ v ∷ []) ++ json_of_places n (drop (i + 1) ps)) (add-one i)
    ∙ (ap (λ z. z ++ tail) (map-append view made (v ∷ []))
    ∙ (append_assoc (map view made) (view v ∷ []) tail
    ∙ (ap (λ z. map view made ++ (z ∷ tail)) h ∙ (ap (λ z. map view made ++ json_of_places i z) (sym d) ∙ k)))))

pub places_end : (made : List Value) (ps : List Place) (i : ℕ) (whole : List Data) → drop i ps ≡ [] → map view made ++ json_of_places i (drop i ps) ≡ whole → map view made ≡ whole
places_end made ps i whole e k = sym (append-nil (map view made)) ∙ (ap (λ z. map view made ++ json_of_places i z) (sym e) ∙ k)

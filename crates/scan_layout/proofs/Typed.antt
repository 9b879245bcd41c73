-- What the kind of a layout says of its dtype.
use Rattle.std.proofs.Common.{◌≡◌, ℕ, zero, suc, ◌+◌, ◌<◌, ◌≤◌, List, [], ◌∷◌, length, get_or, refl, sym, ap, Bool, false, true, ◌&&◌, ◌==◌, Option, Some, None, arith}
use Rattle.std.proofs.lemmas.Bool.{eqb-true}
use Rattle.std.specs.declared.alloc.Global.{Global}
use Rattle.std.specs.declared.rc.Rc.{Rc}
use Rattle.scan_values.specs.declared.ptype.Nullability.TheVariants.{NonNullable, Nullable}
use Rattle.scan_values.specs.declared.ptype.PType.{PType}
use Rattle.scan_values.specs.FieldLists.{names_of}
use Rattle.scan_layout.specs.declared.fault.LayoutFault.{LayoutFault}
use Rattle.scan_layout.specs.LayoutView.{layouts_of}
use Rattle.scan_layout.proofs.Forms.{then_none_parts}
use Rattle.scan_values.specs.declared.ptype.Nullability.{Nullability}
use Rattle.scan_values.specs.DataType.{DataType, bool_type, int_type, utf8_type, list_type, struct_type, Fields, nullability_of, Name, field_list, fields_of}
use Rattle.scan_values.specs.Kinds.{struct_fields_of, element_of, ptype_of}
use Rattle.scan_layout.specs.declared.node.LayoutKind.{LayoutKind}
use Rattle.scan_layout.specs.declared.node.LayoutKind.TheVariants.{Leaf, Struct, List as List'}
use Rattle.scan_layout.specs.declared.fault.LayoutFault.TheVariants.{ChildDType, ChildCount}
use Rattle.scan_layout.specs.Layout.{Layout, Nodes, node, no_nodes, child, nodes, count, kind_of, dtype_of, kids_of}
use Rattle.scan_layout.specs.Check.{level_fault, shape_fault, dtypes_fault, rows_fault, child_types, serves, offsets_fit, unless, ◌then◌}
use Rattle.scan_layout.specs.Slots.{is_struct_kind, is_list_kind, struct_slots, nth_kid, offsets_type, list_ptype, ptype_of_kind}

-- a struct whose level is without fault has fields
pub struct_where : (l : Layout) → level_fault l ≡ None → is_struct_kind (kind_of l) ≡ true → None ≡ struct_fields_of (dtype_of l) → ⊥
struct_where (node (struct_type fs n) rows kind kids) e k h = absurd cc
struct_where (node (bool_type n) rows Struct kids) e k h = absurd cc
struct_where (node (int_type p n) rows Struct kids) e k h = absurd cc
struct_where (node (utf8_type n) rows Struct kids) e k h = absurd cc
struct_where (node (list_type t n) rows Struct kids) e k h = absurd cc
struct_where (node t rows (Leaf segments spelling) kids) e k h = absurd cc
struct_where (node t rows (List' p) kids) e k h = absurd cc

pub struct_is : (t : DataType) (fs : Fields) (n : Nullability) → struct_fields_of t ≡ Some fs → nullability_of t ≡ n → t ≡ struct_type fs n
struct_is (struct_type gs m) fs n e k = cc
struct_is (bool_type m) fs n e k = absurd cc
struct_is (int_type p m) fs n e k = absurd cc
struct_is (utf8_type m) fs n e k = absurd cc
struct_is (list_type t m) fs n e k = absurd cc

pub fields_length : (xs : List (Name × DataType)) → length (names_of xs) ≡ length (field_list (fields_of xs))
fields_length [] = refl
fields_length (x ∷ xs) = ap suc (fields_length xs)

pub struct_count : (t : DataType) (xs : List (Name × DataType)) → struct_fields_of t ≡ Some (fields_of xs) → struct_slots t ≡ length (names_of xs) + 1
struct_count (struct_type fs n) xs e =
    let same : fs ≡ fields_of xs = cc in
    rw (same, fields_length xs) refl
struct_count (bool_type m) xs e = absurd cc
struct_count (int_type p m) xs e = absurd cc
struct_count (utf8_type m) xs e = absurd cc
struct_count (list_type t m) xs e = absurd cc

pub kid_at : (rs : List (Rc Layout Global)) (i : ℕ) (r : Rc Layout Global) → i < length rs → r ≡ get_or rs i r → nth_kid (nodes (layouts_of rs)) i ≡ Some r.value
kid_at [] i r h e = absurd (omega arith)
kid_at (x ∷ rs) zero r h e = rw e refl
kid_at (x ∷ rs) (suc i) r h e = kid_at rs i r (omega arith) e

pub kid_past : (rs : List (Rc Layout Global)) (i : ℕ) → length rs ≤ i → nth_kid (nodes (layouts_of rs)) i ≡ None
kid_past [] i h = refl
kid_past (x ∷ rs) zero h = absurd (omega arith)
kid_past (x ∷ rs) (suc i) h = kid_past rs i (omega arith)

-- a list whose level is without fault has elements and offsets
two_kids : (p : PType) (t : DataType) (kids : Nodes) (rest : Option LayoutFault) → (unless (serves (List' p) t && offsets_fit (List' p) kids) ChildDType then unless (count kids == length (child_types t (List' p))) ChildCount then rest) ≡ None → 2 ≤ count kids
two_kids p (list_type e NonNullable) kids rest h = go (offsets_fit (List' p) kids) (count kids == 2) refl h
  where
    go : (a b : Bool) → (count kids == 2) ≡ b → (unless a ChildDType then unless b ChildCount then rest) ≡ None → 2 ≤ count kids
    go true true q g = let many : count kids ≡ 2 = eqb-true (count kids) 2 q in omega arith
    go true false q g = absurd cc
    go false b q g = absurd cc
two_kids p (list_type e Nullable) kids rest h = go (offsets_fit (List' p) kids) (count kids == 3) refl h
  where
    go : (a b : Bool) → (count kids == 3) ≡ b → (unless a ChildDType then unless b ChildCount then rest) ≡ None → 2 ≤ count kids
    go true true q g = let many : count kids ≡ 3 = eqb-true (count kids) 3 q in omega arith
    go true false q g = absurd cc
    go false b q g = absurd cc
two_kids p (bool_type m) kids rest h = absurd cc
two_kids p (int_type q m) kids rest h = absurd cc
two_kids p (utf8_type m) kids rest h = absurd cc
two_kids p (struct_type fs m) kids rest h = absurd cc

kid_there : (kids : Nodes) (i : ℕ) → i < count kids → None ≡ nth_kid kids i → ⊥
kid_there no_nodes i h e = absurd (omega arith)
kid_there (child l ls) zero h e = absurd cc
kid_there (child l ls) (suc i) h e = kid_there ls i (omega arith) e

pub list_where : (l : Layout) (i : ℕ) → level_fault l ≡ None → is_list_kind (kind_of l) ≡ true → i < 2 → None ≡ nth_kid (kids_of l) i → ⊥
list_where (node t rows (List' p) kids) i e k h n =
    let shape = then_none_parts (shape_fault (node t rows (List' p) kids)) (dtypes_fault kids (child_types t (List' p))) e in
    let many = two_kids p t kids (rows_fault (List' p) rows kids) shape.0 in
    kid_there kids i (omega arith) n
list_where (node t rows Struct kids) i e k h n = absurd cc
list_where (node t rows (Leaf segments spelling) kids) i e k h n = absurd cc

pub element_where : (l : Layout) → level_fault l ≡ None → is_list_kind (kind_of l) ≡ true → None ≡ element_of (dtype_of l) → ⊥
element_where (node (list_type t n) rows kind kids) e k h = absurd cc
element_where (node (bool_type n) rows (List' p) kids) e k h = absurd cc
element_where (node (int_type q n) rows (List' p) kids) e k h = absurd cc
element_where (node (utf8_type n) rows (List' p) kids) e k h = absurd cc
element_where (node (struct_type fs n) rows (List' p) kids) e k h = absurd cc
element_where (node t rows (Leaf segments spelling) kids) e k h = absurd cc
element_where (node t rows Struct kids) e k h = absurd cc

pub offsets_type_null : (t : DataType) → nullability_of t ≡ Nullable → offsets_type t ≡ None
offsets_type_null (int_type q NonNullable) e = absurd cc
offsets_type_null (int_type q Nullable) e = refl
offsets_type_null (bool_type m) e = refl
offsets_type_null (utf8_type m) e = refl
offsets_type_null (list_type t m) e = refl
offsets_type_null (struct_type fs m) e = refl

pub offsets_type_none : (t : DataType) → nullability_of t ≡ NonNullable → ptype_of t ≡ offsets_type t
offsets_type_none (int_type q NonNullable) e = refl
offsets_type_none (int_type q Nullable) e = absurd cc
offsets_type_none (bool_type m) e = refl
offsets_type_none (utf8_type m) e = refl
offsets_type_none (list_type t m) e = refl
offsets_type_none (struct_type fs m) e = refl

pub ptype_where : (k : LayoutKind) → is_list_kind k ≡ true → None ≡ list_ptype k → ⊥
ptype_where (List' p) e h = absurd cc
ptype_where Struct e h = absurd cc
ptype_where (Leaf segments spelling) e h = absurd cc

abbrev ptype_or : PType → Option PType → PType
ptype_or d None = d
ptype_or d (Some p) = p

pub ptype_is : (k : LayoutKind) (p : PType) → Some p ≡ list_ptype k → k ≡ List' p
ptype_is (List' q) p e = ap List' (ap (ptype_or p) (sym e))
ptype_is Struct p e = absurd cc
ptype_is (Leaf segments spelling) p e = absurd cc

pub ptype_of_list : (k : LayoutKind) (p : PType) → k ≡ List' p → ptype_of_kind k ≡ p
ptype_of_list k p e = ap ptype_of_kind e

-- A row of a well-formed layout has a value that fits its dtype.
use Rattle.std.proofs.Common.{◌≡◌, ℕ, zero, suc, ◌+◌, ◌-◌, ◌<◌, ◌^◌, List, [], ◌∷◌, length, refl, ap, subst, Bool, false, true, Option, Some, None, arith, ◌&&◌}
use Rattle.std.specs.Prelude.{option_and_then, nat_lt, nat_le, if◌then◌else◌, ℤ, pos, negsuc}
use Rattle.std.proofs.lemmas.Bool.{ltb-true, lt-ltb}
use Rattle.scan_values.specs.declared.ptype.Nullability.{Nullability}
use Rattle.scan_values.specs.declared.ptype.Nullability.TheVariants.{NonNullable, Nullable}
use Rattle.scan_values.specs.declared.ptype.PType.{PType}
use Rattle.scan_values.specs.declared.ptype.PType.TheVariants.{U8, U16, U32, U64, I8, I16, I32, I64}
use Rattle.scan_values.specs.DataType.{DataType, bool_type, int_type, utf8_type, list_type, struct_type, Fields, no_fields, field, field_list, nullability_of}
use Rattle.scan_values.specs.FieldLists.{dtypes_of as field_types}
use Rattle.scan_values.specs.Kinds.{is_scalar_type}
use Rattle.scan_values.specs.Ranges.{in_range}
use Rattle.scan_values.specs.Fits.{fits, fits_all, fits_fields, is_short}
use Rattle.scan_values.specs.Marked.{Marked, lost, null, gone, boolean, integer, text, list, struct, listed}
use Rattle.scan_values.specs.Val.{Val}
use Rattle.scan_values.specs.Damage.{damaged_of}
use Rattle.scan_segments.specs.Source.{Store}
use Rattle.scan_layout.specs.declared.node.LayoutKind.TheVariants.{Leaf, Struct, List as List'}
use Rattle.scan_layout.specs.Layout.{Layout, Nodes, node, no_nodes, child}
use Rattle.scan_layout.specs.Form.{HasForm, HaveForms}
use Rattle.scan_spelling.specs.Spelling.{decode}
use Rattle.scan_layout.specs.RowValue.{row_value, nth_value, row_values, leaf_value, segment_value, item_of, where_valid, under, elements_between, offset_of, nth_rows, values_from}
use Rattle.scan_spelling.proofs.Fitting.{decoded_fit, fits_at}
use Rattle.scan_spelling.specs.declared.spelling.Spelling.{Spelling}
use Rattle.scan_spelling.specs.Places.{Place, place_of, places_of}
use Rattle.scan_spelling.proofs.Lengths.{decode_length}

damaged_fits : (t : DataType) → is_scalar_type t ≡ true → fits (damaged_of t) t ≡ true
damaged_fits (bool_type NonNullable) s = refl
damaged_fits (bool_type Nullable) s = refl
damaged_fits (int_type p NonNullable) s = refl
damaged_fits (int_type p Nullable) s = refl
damaged_fits (utf8_type NonNullable) s = refl
damaged_fits (utf8_type Nullable) s = refl
damaged_fits (list_type t n) s = absurd cc
damaged_fits (struct_type fs n) s = absurd cc

item_fits : (sp : Spelling) (t : DataType) (n i : ℕ) (bytes : List ℕ) (o : Option (List Val)) → is_scalar_type t ≡ true → i < n → decode sp t n bytes ≡ o → fits (item_of t i o) t ≡ true
item_fits sp t n i bytes None s h e = damaged_fits t s
item_fits sp t n i bytes (Some vs) s h e = let long : length vs ≡ n = decode_length sp t n bytes vs e in fits_at vs t i (decoded_fit sp t n bytes vs e) (omega arith)

bytes_fit : (p : Place) (i : ℕ) (o : Option (List ℕ)) → is_scalar_type p.dtype ≡ true → i < p.rows → fits (item_of p.dtype i (option_and_then (decode p.spelling p.dtype p.rows) o)) p.dtype ≡ true
bytes_fit p i None s h = damaged_fits p.dtype s
bytes_fit p i (Some bytes) s h = item_fits p.spelling p.dtype p.rows i bytes (decode p.spelling p.dtype p.rows bytes) s h refl

if_fits : (t : DataType) (test : Bool) (x y : Marked) → (test ≡ true → fits x t ≡ true) → (test ≡ false → fits y t ≡ true) → fits (if test then x else y) t ≡ true
if_fits t true x y h k = h refl
if_fits t false x y h k = k refl

leaf_fits : (t : DataType) (sp : Spelling) (s : Store) (segments : List (ℕ × ℕ)) (i : ℕ) → is_scalar_type t ≡ true → fits (leaf_value t s (places_of t sp segments) i) t ≡ true
leaf_fits t sp s [] i h = damaged_fits t h
leaf_fits t sp s (g ∷ segments) i h =
    if_fits t (nat_lt i g.1) (segment_value s (place_of t sp g) i) (leaf_value t s (places_of t sp segments) (i - g.1))
    (λ p. bytes_fit (place_of t sp g) i (s g.0) h (ltb-true i g.1 p))
    (λ _. leaf_fits t sp s segments (i - g.1) h)

-- a list's elements

values_fit : (f : ℕ → Marked) (i n : ℕ) (t : DataType) → ((j : ℕ) → fits (f j) t ≡ true) → fits_all (values_from f i n) t ≡ true
values_fit f i zero t h = refl
values_fit f i (suc n) t h = rw (h i) (values_fit f (i + 1) n t h)

values_length : (f : ℕ → Marked) (i n : ℕ) → length (listed (values_from f i n)) ≡ n
values_length f i zero = refl
values_length f i (suc n) = ap suc (values_length f (i + 1) n)

small : (p : PType) (b : ℕ) → in_range p (pos b) ≡ true → b < 2 ^ 64
small U8 b e = let h = ltb-true b (2 ^ 8) e in omega arith
small U16 b e = let h = ltb-true b (2 ^ 16) e in omega arith
small U32 b e = let h = ltb-true b (2 ^ 32) e in omega arith
small U64 b e = ltb-true b (2 ^ 64) e
small I8 b e = let h = ltb-true b (2 ^ 7) e in omega arith
small I16 b e = let h = ltb-true b (2 ^ 15) e in omega arith
small I32 b e = let h = ltb-true b (2 ^ 31) e in omega arith
small I64 b e = let h = ltb-true b (2 ^ 63) e in omega arith

abbrev range_or : ℤ → Option ℤ → ℤ
range_or d None = d
range_or d (Some z) = z

pub offset_small : (p : PType) (n : Nullability) (m : Marked) (b : ℕ) → fits m (int_type p n) ≡ true → offset_of m ≡ Some (pos b) → b < 2 ^ 64
offset_small p n (integer z) b e o = let same : z ≡ pos b = ap (range_or z) o in small p b (subst (λ y. in_range p y ≡ true) same e)
offset_small p n lost b e o = absurd cc
offset_small p n null b e o = absurd cc
offset_small p n gone b e o = absurd cc
offset_small p n (boolean c) b e o = absurd cc
offset_small p n (text c) b e o = absurd cc
offset_small p n (list c) b e o = absurd cc
offset_small p n (struct c) b e o = absurd cc

list_by : (t : DataType) (n : Nullability) (f : ℕ → Marked) (x y : ℕ) (test : Bool) → ((j : ℕ) → fits (f j) t ≡ true) → y < 2 ^ 64 → fits (if test then list (values_from f x (y - x)) else gone) (list_type t n) ≡ true
list_by t n f x y true h low =
    let short : is_short (values_from f x (y - x)) ≡ true = rw (values_length f x (y - x)) (lt-ltb (y - x) (2 ^ 64) (omega arith)) in
    rw short (values_fit f x (y - x) t h)
list_by t n f x y false h low = refl

between_fits : (t : DataType) (n : Nullability) (most : ℕ) (o p : Option ℤ) (f : ℕ → Marked) → ((j : ℕ) → fits (f j) t ≡ true) → ((b : ℕ) → p ≡ Some (pos b) → b < 2 ^ 64) → fits (elements_between most o p f) (list_type t n) ≡ true
between_fits t n most (Some (pos a)) (Some (pos b)) f h low = list_by t n f a b (nat_le a b && nat_le b most) h (low b refl)
between_fits t n most None p f h low = refl
between_fits t n most (Some (negsuc a)) p f h low = refl
between_fits t n most (Some (pos a)) None f h low = refl
between_fits t n most (Some (pos a)) (Some (negsuc b)) f h low = refl

-- a value under its validity

null_fits : (t : DataType) → nullability_of t ≡ Nullable → fits null t ≡ true
null_fits t e = rw e refl

lost_fits : (t : DataType) → nullability_of t ≡ Nullable → fits lost t ≡ true
lost_fits t e = rw e refl

under_fits : (t : DataType) (v m : Marked) → nullability_of t ≡ Nullable → fits m t ≡ true → fits (under v m) t ≡ true
under_fits t (boolean true) m n h = h
under_fits t (boolean false) m n h = null_fits t n
under_fits t lost m n h = lost_fits t n
under_fits t null m n h = lost_fits t n
under_fits t gone m n h = lost_fits t n
under_fits t (integer z) m n h = lost_fits t n
under_fits t (text c) m n h = lost_fits t n
under_fits t (list c) m n h = lost_fits t n
under_fits t (struct c) m n h = lost_fits t n

valid_fits : (t : DataType) (k : Nullability) (v m : Marked) → nullability_of t ≡ k → fits m t ≡ true → fits (where_valid k v m) t ≡ true
valid_fits t NonNullable v m n h = h
valid_fits t Nullable v m n h = under_fits t v m n h

mutual
  pub row_fits : (l : Layout) (t : DataType) (s : Store) (i : ℕ) → HasForm l t → fits (row_value l s i) t ≡ true
  row_fits (node u rows (Leaf segments spelling) kids) t s i form = subst (λ w. fits (leaf_value u s (places_of u spelling segments) i) w ≡ true) form.0 (leaf_fits u spelling s segments i form.1)
  row_fits (node (list_type e n) rows (List' q) (child a (child o kids))) t s i form =
      subst (λ w. fits (row_value (node (list_type e n) rows (List' q) (child a (child o kids))) s i) w ≡ true) form.0
      (valid_fits (list_type e n) n (nth_value (child a (child o kids)) 2 s i)
      (elements_between (nth_rows (child a (child o kids)) 0) (offset_of (row_value o s i)) (offset_of (row_value o s (i + 1))) (λ j. row_value a s j)) refl
      (between_fits e n (nth_rows (child a (child o kids)) 0) (offset_of (row_value o s i)) (offset_of (row_value o s (i + 1))) (λ j. row_value a s j) (λ j. row_fits a e s j form.3.0)
      (λ b g. offset_small q NonNullable (row_value o s (i + 1)) b (row_fits o (int_type q NonNullable) s (i + 1) form.3.1.0) g)))
  row_fits (node (list_type e n) rows (List' q) no_nodes) t s i form = absurd form.3
  row_fits (node (list_type e n) rows (List' q) (child a no_nodes)) t s i form = absurd form.3.1
  row_fits (node (struct_type fs NonNullable) rows Struct kids) t s i form =
      subst (λ w. fits (struct (row_values kids s i)) w ≡ true) form.0 (rows_fit kids fs s i form.3)
  row_fits (node (struct_type fs Nullable) rows Struct (child v kids)) t s i form =
      subst (λ w. fits (under (row_value v s i) (struct (row_values kids s i))) w ≡ true) form.0
      (under_fits (struct_type fs Nullable) (row_value v s i) (struct (row_values kids s i)) refl (rows_fit kids fs s i form.3.1))
  row_fits (node (struct_type fs Nullable) rows Struct no_nodes) t s i form = absurd form.3
  row_fits (node u rows kind kids) t s i form = absurd cc

  pub rows_fit : (ls : Nodes) (fs : Fields) (s : Store) (i : ℕ) → HaveForms ls (field_types (field_list fs)) → fits_fields (row_values ls s i) fs ≡ true
  rows_fit no_nodes no_fields s i forms = refl
  rows_fit no_nodes (field name t fs) s i forms = absurd forms
  rows_fit (child l ls) no_fields s i forms = absurd forms
  rows_fit (child l ls) (field name t fs) s i forms = rw (row_fits l t s i forms.0) (rows_fit ls fs s i forms.1)

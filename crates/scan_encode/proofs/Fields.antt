-- The fields of structs, one after the other.
use Rattle.std.proofs.Common.{◌≡◌, ℕ, suc, ◌≤◌, List, [], ◌∷◌, ◌++◌, length, drop, map, refl, sym, ap, ◌∙◌, subst, append_assoc, append-nil, Option, Some}
use Rattle.std.specs.Prelude.{slice_get, Result, IfOk}
use Rattle.std.specs.Borrow.{Bor}
use Rattle.std.specs.declared.alloc.Global.{Global}
use Rattle.std.specs.declared.rc.Rc.{Rc}
use Rattle.std.proofs.lemmas.List.{drop_all, length-map}
use Rattle.scan_values.specs.declared.ptype.Nullability.{Nullability}
use Rattle.scan_values.specs.DataType.{DataType, Name, Fields, struct_type, fields_of, nullability_of}
use Rattle.scan_values.specs.FieldLists.{dtypes_of}
use Rattle.scan_values.specs.Kinds.{element_of, struct_fields_of}
use Rattle.scan_values.specs.declared.ptype.PType.TheVariants.{U64}
use Rattle.scan_values.specs.declared.ptype.Nullability.TheVariants.{NonNullable, Nullable}
use Rattle.scan_values.specs.DataType.{bool_type, int_type, list_type}
use Rattle.scan_layout.specs.declared.node.LayoutKind.TheVariants.{Struct, List as Listed}
use Rattle.scan_layout.specs.Layout.{Layout, node, nodes}
use Rattle.scan_layout.specs.LayoutView.{layouts_of}
use Rattle.scan_encode.specs.Encoded.{stored, Has, IsOf}
use Rattle.scan_encode.specs.Parts.{AllOf, AreFields, AreChildren, IsValidity, given, offsets}
use Rattle.scan_encode.specs.Rows.{Row, field_at, all_elements, validity}
use Rattle.scan_encode.specs.RowsIn.{row_in, rows_in}
use Rattle.scan_encode.specs.declared.fault.RowsFault.{RowsFault}
use Rattle.scan_values.specs.declared.value.Value.{Value}
use Rattle.scan_values.specs.Val.{Val}
use Rattle.scan_values.specs.Values.{val_of}
use Rattle.scan_encode.proofs.Having.{has_then}
use Rattle.scan_encode.proofs.RowsOf.{struct_of, list_of}
use Rattle.scan_encode.proofs.Trees.{of_more, validity_more, field_first, children_of, struct_is}
use Rattle.scan_encode.proofs.Lists.{list_is}

-- the children before field i, behind which the other fields make all
pub record SoFar (n : Nullability) (fs : List (Name × DataType)) (i : ℕ) (rows : List Row) (segments : List (List ℕ)) (made : List Layout) : Type 0 where
  pub then_rest : (rest : List Layout) (more : List (List ℕ)) → Has (stored more) segments → AreFields (fields_of (drop i fs)) i rows more rest
      → AreChildren n (fields_of fs) rows more (made ++ rest)

pub none_so_far : (n : Nullability) (fs : List (Name × DataType)) (rows : List Row) (segments : List (List ℕ)) (ls : List Layout) → IsValidity n rows segments ls → SoFar n fs 0 rows segments ls
none_so_far n fs rows segments ls v = record {
  then_rest = λ rest more has h. children_of n (fields_of fs) rows more ls rest (validity_more n rows segments more ls has v) h;
}

pub next_so_far : (n : Nullability) (fs : List (Name × DataType)) (i j : ℕ) (t : DataType) (rows : List Row) (few many : List (List ℕ)) (l : Layout) (before now : List Layout)
    → j ≡ suc i → Some t ≡ slice_get (dtypes_of fs) i → now ≡ before ++ l ∷ [] → Has (stored many) few → IsOf t (map (field_at i) rows) many l
    → SoFar n fs i rows few before → SoFar n fs j rows many now
next_so_far n fs i j t rows few many l before now k d e has of s = record {
  then_rest = λ rest more all h.
      let next : AreFields (fields_of (drop (suc i) fs)) (suc i) rows more rest = subst (λ m. AreFields (fields_of (drop m fs)) m rows more rest) k h in
      let whole : before ++ (l ∷ rest) ≡ now ++ rest = sym (ap (λ z. z ++ rest) e ∙ append_assoc before (l ∷ []) rest) in
      subst (AreChildren n (fields_of fs) rows more) whole
      (s.then_rest (l ∷ rest) more (has_then few many more has all)
      (field_first fs i i t rows more l rest d (of_more t (map (field_at i) rows) many more l all of) next));
}

pub all_so_far : (n : Nullability) (fs : List (Name × DataType)) (i : ℕ) (rows : List Row) (segments : List (List ℕ)) (made : List Layout) → length fs ≤ i
    → SoFar n fs i rows segments made → AreChildren n (fields_of fs) rows segments made
all_so_far n fs i rows segments made h s =
    subst (AreChildren n (fields_of fs) rows segments) (append-nil made)
    (s.then_rest [] segments (record { finds = λ id bytes q. q }) (subst (λ z. AreFields (fields_of z) i rows segments []) (sym (drop_all i fs h)) tt))

-- ---- nodes of these children
pub struct_made : (d : DataType) (fs : Fields) (rows : List Row) (segments : List (List ℕ)) (ls : List Layout) (n : ℕ) (l : Layout) → Some fs ≡ struct_fields_of d → AllOf d rows
    → AreChildren (nullability_of d) fs rows segments ls → n ≡ length rows → l ≡ node d n Struct (nodes ls) → IsOf d rows segments l
struct_made d fs rows segments ls n l is f h e k =
    let s = struct_of d fs is in
    let made : IsOf (struct_type fs (nullability_of d)) rows segments (node (struct_type fs (nullability_of d)) (length rows) Struct (nodes ls)) =
    struct_is (nullability_of d) fs rows segments ls (subst (λ z. AllOf z rows) s f) h in
    let back : IsOf d rows segments (node d (length rows) Struct (nodes ls)) = subst (λ z. IsOf z rows segments (node z (length rows) Struct (nodes ls))) (sym s) made in
    subst (IsOf d rows segments) (sym (k ∙ ap (λ z. node d z Struct (nodes ls)) e)) back

pub list_made : (d t : DataType) (rows : List Row) (a b c : List (List ℕ)) (el off : Layout) (vs ls : List Layout) (n : ℕ) (l : Layout) → Some t ≡ element_of d → AllOf d rows
    → IsOf t (all_elements rows) c el → IsOf (int_type U64 NonNullable) (given (offsets rows)) a off → IsValidity (nullability_of d) rows b vs
    → Has (stored b) a → Has (stored c) b → ls ≡ el ∷ off ∷ vs → n ≡ length rows → l ≡ node d n (Listed U64) (nodes ls) → IsOf d rows c l
list_made d t rows a b c el off vs ls n l is f e o v ab bc q m k =
    let s = list_of d t is in
    let made : IsOf (list_type t (nullability_of d)) rows c (node (list_type t (nullability_of d)) (length rows) (Listed U64) (nodes (el ∷ off ∷ vs))) =
    list_is (nullability_of d) t rows c el off vs (subst (λ z. AllOf z rows) s f) e (of_more (int_type U64 NonNullable) (given (offsets rows)) a c off (has_then a b c ab bc) o)
    (validity_more (nullability_of d) rows b c vs bc v) in
    let back : IsOf d rows c (node d (length rows) (Listed U64) (nodes (el ∷ off ∷ vs))) =
    subst (λ z. IsOf z rows c (node z (length rows) (Listed U64) (nodes (el ∷ off ∷ vs)))) (sym s) made in
    subst (IsOf d rows c) (sym (k ∙ (ap (λ z. node d z (Listed U64) (nodes ls)) m ∙ ap (λ z. node d (length rows) (Listed U64) (nodes z)) q))) back

-- ---- one more child
pub layouts_push : (before now : List (Rc Layout Global)) (r : Rc Layout Global) → now ≡ before ++ r ∷ [] → layouts_of now ≡ layouts_of before ++ r.value ∷ []
layouts_push before now r e = ap layouts_of e ∙ go before
  where
    go : (ys : List (Rc Layout Global)) → layouts_of (ys ++ r ∷ []) ≡ layouts_of ys ++ r.value ∷ []
    go [] = refl
    go (y ∷ ys) = ap (λ zs. y.value ∷ zs) (go ys)

-- rows that are lent, of which it is known what they are
pub lent_fit : (d : DataType) (rows : List (Option (Bor Value))) (is : List Row) → rows_in rows ≡ is → AllOf d is → AllOf d (rows_in rows)
lent_fit d rows is e h = subst (AllOf d) (sym e) h

pub lent_of : (d : DataType) (rows : List (Option (Bor Value))) (is : List Row) (segments : List (List ℕ)) (l : Layout) → rows_in rows ≡ is → IsOf d (rows_in rows) segments l → IsOf d is segments l
lent_of d rows is segments l e h = subst (λ z. IsOf d z segments l) e h

pub lent_made : (d : DataType) (rows : List (Option (Bor Value))) (is : List Row) (segments : List (List ℕ)) (r : Result (Rc Layout Global) RowsFault) → rows_in rows ≡ is
    → IfOk r (λ l. IsOf d (rows_in rows) segments l.value) → IfOk r (λ l. IsOf d is segments l.value)
lent_made d rows is segments r e h = subst (λ z. IfOk r (λ l. IsOf d z segments l.value)) e h

pub lent_length : (rows : List (Option (Bor Value))) (is : List Row) → rows_in rows ≡ is → length is ≡ length rows
lent_length rows is e = sym (ap length e) ∙ length-map rows row_in

-- values of which it is known what they are, under a dtype of which it is known which
pub value_fit : (d t : DataType) (vs : List Value) (is : List Val) → d ≡ t → map val_of vs ≡ is → AllOf t (given is) → AllOf d (given (map val_of vs))
value_fit d t vs is e k h = subst (λ z. AllOf z (given (map val_of vs))) (sym e) (subst (λ z. AllOf t (given z)) (sym k) h)

pub value_made : (d t : DataType) (vs : List Value) (is : List Val) (segments : List (List ℕ)) (r : Result (Rc Layout Global) RowsFault) → d ≡ t → map val_of vs ≡ is
    → IfOk r (λ l. IsOf d (given (map val_of vs)) segments l.value) → IfOk r (λ l. IsOf t (given is) segments l.value)
value_made d t vs is segments r e k h =
    subst (λ z. IfOk r (λ l. IsOf z (given is) segments l.value)) e (subst (λ z. IfOk r (λ l. IsOf d (given z) segments l.value)) k h)

-- a validity, by whether there is one
pub valid_none : (n : Nullability) (rows : List Row) (segments : List (List ℕ)) (ls : List Layout) → NonNullable ≡ n → ls ≡ [] → IsValidity n rows segments ls
valid_none n rows segments ls e h = subst (λ z. IsValidity n rows segments z) (sym h) (subst (λ z. IsValidity z rows segments []) e tt)

pub valid_one : (n : Nullability) (rows : List Row) (segments : List (List ℕ)) (ls : List Layout) (l : Layout) → Nullable ≡ n → IsOf (bool_type NonNullable) (given (validity rows)) segments l
    → ls ≡ l ∷ [] → IsValidity n rows segments ls
valid_one n rows segments ls l e v h = subst (λ z. IsValidity n rows segments z) (sym h) (subst (λ z. IsValidity z rows segments (l ∷ [])) e v)

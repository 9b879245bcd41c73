-- Items and members of JSON values, and what they mean.
use Rattle.std.proofs.Common.{◌≡◌, ℕ, zero, suc, ◌+◌, ◌-◌, ◌<◌, List, [], ◌∷◌, map, length, drop, None, Some, true, false, refl, sym, ap, ◌∙◌, add-one, arith, rules}
use Rattle.std.specs.Prelude.{Bool, Option, option_map, cond, ◌&&◌, slice_get, string_bytes, String, Vec, Result, Ok, Err, IfOk}
use Rattle.std.proofs.Common.{BTreeMap}
use Rattle.serde_json.proofs.Views.{view-Array, view-Object}
use Rattle.scan_values.specs.Kinds.{element_of, struct_fields_of}
use Rattle.std.specs.declared.alloc.Global.{Global}
use Rattle.std.specs.List.{list_all, list_any}
use Rattle.std.specs.Map.{keys_of}
use Rattle.std.specs.Str.{bytes_eq}
use Rattle.serde_json.specs.Data.{Data, null, boolean, number, string, array, object, Members}
use Rattle.serde_json.specs.Find.{as_object, get}
use Rattle.serde_json.specs.View.{view, items_view, members_view}
use Rattle.serde_json.specs.declared.value.Value.{Value as Json, String as json_text, Array as json_list, Object as json_object, the_lemmas}
use Rattle.scan_values.specs.DataType.{DataType, Name, Fields, field_list, fields_of}
use Rattle.scan_values.specs.FieldLists.{names_of, dtypes_of}
use Rattle.scan_values.specs.Val.{Val, list_val, struct_val, vals_of}
use Rattle.scan_values.specs.Values.{val_of}
use Rattle.scan_values.specs.declared.value.Value.{Value}
use Rattle.scan_import.specs.Lists.{StopsAt, all_of, known}
use Rattle.scan_import.specs.Meaning.{are_named, is_object_of, item_list, list_from, member_in, members_in, row_from, struct_from, text_in, value_from, value_within}
use Rattle.scan_import.proofs.Meant.{all_sure, stops_none}

pub value_level : (n : ℕ) (d : DataType) (j : Data) → 0 < n → value_within n d j ≡ value_from (value_within (n - 1)) d j
value_level zero d j h = absurd (omega arith)
value_level (suc n) d j h = let e : suc n - 1 ≡ n = omega arith in ap (λ k. value_from (value_within k) d j) (sym e)

items_meant : (f : Data → Option Val) (items : List Json) → map f (item_list (items_view items)) ≡ map (λ j. f (view j)) items
items_meant f [] = refl
items_meant f (j ∷ js) = ap (λ os. f (view j) ∷ os) (items_meant f js)

module _ (inner : DataType → Data → Option Val) where
  -- a list of what items mean
  pub list_meant : (o : Option DataType) (e : DataType) (items : List Json) (vs : List Value) → Some e ≡ o → map (λ j. inner e (view j)) items ≡ map known vs
      → Some (list_val (vals_of (map val_of vs))) ≡ list_from inner o (items_view items)
  list_meant o e items vs h k =
      sym (ap (option_map (λ ws. list_val (vals_of ws))) (ap all_of (items_meant (inner e) items ∙ k) ∙ all_sure val_of vs))
      ∙ ap (λ p. list_from inner p (items_view items)) h

  pub list_nothing : (o : Option DataType) (e : DataType) (items : List Json) (i : ℕ) → Some e ≡ o → StopsAt i (map (λ j. inner e (view j)) items) → None ≡ list_from inner o (items_view items)
  list_nothing o e items i h s =
      sym (ap (option_map (λ ws. list_val (vals_of ws))) (ap all_of (items_meant (inner e) items) ∙ stops_none i (map (λ j. inner e (view j)) items) s))
      ∙ ap (λ p. list_from inner p (items_view items)) h

pub fields_listed : (fs : List (Name × DataType)) → field_list (fields_of fs) ≡ fs
fields_listed [] = refl
fields_listed (f ∷ fs) = ap (λ gs. f ∷ gs) (fields_listed fs)

-- the fields of a struct's dtype, as a list
pub struct_of_fields : (inner : DataType → Data → Option Val) (o : Option Fields) (fs : List (Name × DataType)) (j : Data) → Some (fields_of fs) ≡ o → row_from inner fs j ≡ struct_from inner o j
struct_of_fields inner o fs j h = ap (λ gs. row_from inner gs j) (sym (fields_listed fs)) ∙ ap (λ p. struct_from inner p j) h

module _ (inner : DataType → Data → Option Val) (fs : List (Name × DataType)) (j : Data) where
  pub row_other : is_object_of (names_of fs) j ≡ false → None ≡ row_from inner fs j
  row_other h = sym (ap (λ b. cond b (option_map (λ vs. struct_val (vals_of vs)) (all_of (members_in inner fs j))) None) h)

  -- a struct of what members mean
  pub row_meant : (vs : List Value) → is_object_of (names_of fs) j ≡ true → members_in inner fs j ≡ map known vs → Some (struct_val (vals_of (map val_of vs))) ≡ row_from inner fs j
  row_meant vs h k = sym (ap (λ b. cond b (option_map (λ ws. struct_val (vals_of ws)) (all_of (members_in inner fs j))) None) h
      ∙ ap (option_map (λ ws. struct_val (vals_of ws))) (ap all_of k ∙ all_sure val_of vs))

  pub row_nothing : (i : ℕ) → is_object_of (names_of fs) j ≡ true → StopsAt i (members_in inner fs j) → None ≡ row_from inner fs j
  row_nothing i h s = sym (ap (λ b. cond b (option_map (λ ws. struct_val (vals_of ws)) (all_of (members_in inner fs j))) None) h
      ∙ ap (option_map (λ ws. struct_val (vals_of ws))) (stops_none i (members_in inner fs j) s))

  -- what the member of the field at a place means stands before what those behind it mean
  pub member_next : (i : ℕ) (n : Name) (d : DataType) → Some n ≡ slice_get (names_of fs) i → Some d ≡ slice_get (dtypes_of fs) i
      → members_in inner (drop i fs) j ≡ member_in inner d (get n j) ∷ members_in inner (drop (i + 1) fs) j
  member_next i n d hn hd = ap (λ gs. members_in inner gs j) (first fs i n d hn hd ∙ ap (λ k. (n, d) ∷ drop k fs) (sym (add-one i)))
    where
      first : (gs : List (Name × DataType)) (i : ℕ) (n : Name) (d : DataType) → Some n ≡ slice_get (names_of gs) i → Some d ≡ slice_get (dtypes_of gs) i → drop i gs ≡ (n, d) ∷ drop (suc i) gs
      first [] i n d hn hd = absurd cc
      first (f ∷ gs) zero n d hn hd = let a : n ≡ f.0 = cc in let b : d ≡ f.1 = cc in λ k. (sym a k, sym b k) ∷ gs
      first (f ∷ gs) (suc i) n d hn hd = first gs i n d hn hd

pub name_there : (fs : List (Name × DataType)) (i : ℕ) → i < length fs → None ≡ slice_get (names_of fs) i → ⊥
name_there [] i h e = omega (arith, h)
name_there (f ∷ fs) zero h e = cc
name_there (f ∷ fs) (suc i) h e = name_there fs i (omega (arith, h)) e

pub dtype_there : (fs : List (Name × DataType)) (i : ℕ) → i < length fs → None ≡ slice_get (dtypes_of fs) i → ⊥
dtype_there [] i h e = omega (arith, h)
dtype_there (f ∷ fs) zero h e = cc
dtype_there (f ∷ fs) (suc i) h e = dtype_there fs i (omega (arith, h)) e

-- ---- names of members
pub names_keys : (ns : List Name) (es : List (String Global × Json)) → are_named ns (members_view es) ≡ list_all (λ k. list_any (λ n. bytes_eq n (string_bytes k)) ns) (keys_of es)
names_keys ns [] = refl
names_keys ns (e ∷ es) = ap (λ b. list_any (λ n. bytes_eq n (string_bytes e.0)) ns && b) (names_keys ns es)

pub object_named : (ns : List Name) (d : Data) (ms : Members) → Some ms ≡ as_object d → is_object_of ns d ≡ are_named ns ms
object_named ns null ms e = cc
object_named ns (boolean b) ms e = cc
object_named ns (number n) ms e = cc
object_named ns (string s) ms e = cc
object_named ns (array ds) ms e = cc
object_named ns (object os) ms e = let same : os ≡ ms = cc in ap (are_named ns) same

-- ---- views of values, and answers under another name
pub text_meant : (inner : DataType → Data → Option Val) (d : DataType) (j : Json) (t : String Global) → j ≡ json_text t → text_in d (string_bytes t) ≡ value_from inner d (view j)
text_meant inner d j t e = let viewed : view (json_text t) ≡ string (string_bytes t) = search (rules, the_lemmas) in sym (ap (value_from inner d) (ap view e ∙ viewed))

pub items_viewed : (inner : DataType → Data → Option Val) (d : DataType) (j : Json) (v : Vec Json Global) → j ≡ json_list v → list_from inner (element_of d) (items_view v.items) ≡ value_from inner d (view j)
items_viewed inner d j v e = sym (ap (λ k. value_from inner d (view k)) e ∙ ap (value_from inner d) (view-Array v))

pub members_viewed : (inner : DataType → Data → Option Val) (d : DataType) (j : Json) (m : BTreeMap (String Global) Json) → j ≡ json_object m → struct_from inner (struct_fields_of d) (view j) ≡ value_from inner d (view j)
members_viewed inner d j m e =
    let viewed : view j ≡ object (members_view m.entries) = ap view e ∙ view-Object m in
    ap (struct_from inner (struct_fields_of d)) viewed ∙ sym (ap (value_from inner d) viewed)

pub value_as : {E : Type 0} (r : Result (Option Value) E) (x y : Option Val) → x ≡ y → IfOk r (λ o. option_map val_of o ≡ x) → IfOk r (λ o. option_map val_of o ≡ y)
value_as (Ok o) x y e h = h ∙ e
value_as (Err f) x y e h = tt

-- each of these is of this kind, by its view
pub all_viewed : {V : Type 0} (p : Data → Bool) (f : V → Data) (xs : List V) → list_all p (map f xs) ≡ list_all (λ x. p (f x)) xs
all_viewed p f [] = refl
all_viewed p f (x ∷ xs) = ap (λ b. p (f x) && b) (all_viewed p f xs)

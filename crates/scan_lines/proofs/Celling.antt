-- Cells taken apart: how deep their parts are, and their texts.
use Rattle.std.proofs.Common.{◌≡◌, ℕ, zero, suc, ◌+◌, ◌-◌, ◌<◌, ◌≤◌, max, List, [], ◌∷◌, ◌++◌, length, get_or, take, drop, map, refl, sym, ap, ◌∙◌, arith, subst, true}
use Rattle.std.specs.Prelude.{codes, slice_get, slice_range, Some, All}
use Rattle.std.proofs.lemmas.List.Elements.{All-get_or}
use Rattle.scan_values.specs.Values.{val_of}
use Rattle.scan_values.specs.declared.value.Value.{Value}
use Rattle.scan_columns.specs.declared.cells.Cells.{Cells}
use Rattle.scan_columns.specs.Cells.{vals_in, depth_in, deepest}
use Rattle.scan_columns.specs.Nested.{Deep, list_of, struct_of}
use Rattle.scan_columns.specs.Access.{IsListAt, IsStructAt}
use Rattle.scan_values.specs.DataType.{DataType}
use Rattle.scan_values.specs.Val.{Val, null_val, vals_of}
use Rattle.scan_lines.specs.Line.{value_text, elements_text, fields_text, element_in, fields_in}
use Rattle.scan_lines.proofs.Texts.{taken_at, mapped_at}

pub depth_at : (cs : List Cells) (k : ℕ) (c : Cells) → k < length cs → c ≡ get_or cs k c → depth_in c ≤ deepest cs
depth_at [] k c lt is = absurd (omega (arith, lt))
depth_at (x ∷ cs) zero c lt is = let e = ap depth_in is in omega (arith, e)
depth_at (x ∷ cs) (suc k) c lt is = let r = depth_at cs k c (omega (arith, lt)) is in omega (arith, r)

pub list_text : (d : Deep) (i : ℕ) (elements : Cells) (from to : ℕ) (t e : DataType) → IsListAt d i elements from to → e ≡ element_in t
    → codes "[" ++ (elements_text true (vals_of (slice_range (vals_in elements) from to)) e ++ codes "]") ≡ value_text (get_or d.items i null_val) t
list_text d i elements from to t e at is =
    (λ j. codes "[" ++ (elements_text true (vals_of (slice_range (vals_in elements) from to)) (is j) ++ codes "]"))
    ∙ ap (λ v. value_text v t) (sym (taken_at d.items i (list_of (slice_range (vals_in elements) from to)) null_val at.is))

pub struct_text : (d : Deep) (i : ℕ) (fields : List Cells) (t : DataType) → IsStructAt d i fields
    → codes "{" ++ (fields_text true (vals_of (map (λ c. get_or (vals_in c) i null_val) fields)) (fields_in t) ++ codes "}") ≡ value_text (get_or d.items i null_val) t
struct_text d i fields t at = ap (λ v. value_text v t) (sym (taken_at d.items i (struct_of (map (λ c. get_or (vals_in c) i null_val) fields)) null_val at.is))

pub null_text : (vs : List Val) (i : ℕ) (t : DataType) → Some null_val ≡ slice_get vs i → codes "null" ≡ value_text (get_or vs i null_val) t
null_text vs i t is = ap (λ v. value_text v t) (sym (taken_at vs i null_val null_val is))

pub cell_text : (vs : List Val) (i : ℕ) (v : Val) (t : DataType) → Some v ≡ slice_get vs i → value_text v t ≡ value_text (get_or vs i null_val) t
cell_text vs i v t is = ap (λ x. value_text x t) (sym (taken_at vs i v null_val is))

-- what stands behind the first ones
pub behind : (vs : List Val) (from k : ℕ) → get_or vs (from + k) null_val ≡ get_or (drop from vs) k null_val
behind vs zero k = let e : 0 + k ≡ k = omega arith in ap (λ j. get_or vs j null_val) e
behind [] (suc from) k = refl
behind (v ∷ vs) (suc from) k = let e : suc from + k ≡ suc (from + k) = omega arith in ap (λ j. get_or (v ∷ vs) j null_val) e ∙ behind vs from k

pub each_long : (i : ℕ) (cs : List Cells) (k : ℕ) (c : Cells) → All (λ c. i < length (vals_in c)) cs → k < length cs → c ≡ get_or cs k c → i < length (vals_in c)
each_long i cs k c all lt is = subst (λ z. i < length (vals_in z)) (sym is) (All-get_or (λ c. i < length (vals_in c)) cs k c lt all)

pub value_there : (vs : List Val) (items : List Value) (i : ℕ) (x : Value) → map val_of items ≡ vs → i < length items → x ≡ get_or items i x → val_of x ≡ get_or vs i null_val
value_there vs items i x e lt is = mapped_at val_of items i x null_val lt is ∙ ap (λ z. get_or z i null_val) e

-- Values taken apart: how large their parts are, and their texts.
use Rattle.std.proofs.Common.{◌≡◌, ℕ, zero, suc, ◌+◌, ◌<◌, ◌≤◌, List, [], ◌∷◌, ◌++◌, length, get_or, map, refl, sym, arith, subst, true}
use Rattle.std.specs.Prelude.{codes}
use Rattle.scan_values.specs.DataType.{DataType}
use Rattle.scan_values.specs.Val.{Val, vals_of, val_size, vals_size}
use Rattle.scan_values.specs.Values.{val_of}
use Rattle.scan_values.specs.declared.value.Value.{Value}
use Rattle.scan_values.specs.declared.value.Value.TheVariants.{List as Listed, Struct}
use Rattle.scan_lines.specs.Line.{value_text, elements_text, fields_text, element_in, fields_in}

size_at : (vs : List Value) (i : ℕ) (d : Value) → i < length vs → val_size (val_of (get_or vs i d)) ≤ vals_size (vals_of (map val_of vs))
size_at [] i d h = absurd (omega arith)
size_at (v ∷ vs) zero d h = omega arith
size_at (v ∷ vs) (suc i) d h = let e = size_at vs i d (omega arith) in omega arith

-- one of some values is no larger than all
pub one_size : (vs : List Value) (i : ℕ) (v : Value) → i < length vs → v ≡ get_or vs i v → val_size (val_of v) ≤ vals_size (vals_of (map val_of vs))
one_size vs i v h e = subst (λ x. val_size (val_of x) ≤ vals_size (vals_of (map val_of vs))) (sym e) (size_at vs i v h)

pub list_is : (v : Value) (vs : List Val) (items : List Value) (d e : DataType) → v ≡ Listed vs → map val_of items ≡ vs → e ≡ element_in d → codes "[" ++ (elements_text true (vals_of (map val_of items)) e ++ codes "]") ≡ value_text (val_of v) d
list_is v vs items d e h k l = rw (h, k, l) refl

pub struct_is : (v : Value) (vs : List Val) (items : List Value) (d : DataType) → v ≡ Struct vs → map val_of items ≡ vs → codes "{" ++ (fields_text true (vals_of (map val_of items)) (fields_in d) ++ codes "}") ≡ value_text (val_of v) d
struct_is v vs items d h k = rw (h, k) refl

-- Keys of scalars are told from all others.
use Rattle.std.proofs.Common.{◌≡◌, ◌&&◌, Bool, true, false, List, [], ◌∷◌, refl, ap}
use Rattle.std.proofs.lemmas.Map.Lookups.{exact_signed, exact_bytes}
use Rattle.std.specs.declared.cmp.Ordering.{Ordering}
use Rattle.std.specs.declared.cmp.Ordering.TheVariants.{Less, Equal, Greater}
use Rattle.std.specs.Ordering.{ordering_then, int_cmp, is_eq}
use Rattle.scan_values.specs.Val.{Val, null_val, bool_val, int_val, text_val, list_val, struct_val}
use Rattle.scan_groups.specs.Order.{value_cmp, key_cmp, same_key, is_scalar, are_scalars}

then_first : (r s : Ordering) → ordering_then r s ≡ Equal → r ≡ Equal
then_first Less s h = h
then_first Equal s h = refl
then_first Greater s h = h

then_second : (r s : Ordering) → ordering_then r s ≡ Equal → s ≡ Equal
then_second Less s h = absurd (let z : Less ≡ Equal = h in cc)
then_second Equal s h = h
then_second Greater s h = absurd (let z : Greater ≡ Equal = h in cc)

exact_value : (a b : Val) → is_scalar a ≡ true → value_cmp a b ≡ Equal → a ≡ b
exact_value null_val null_val s h = refl
exact_value null_val (bool_val y) s h = absurd (let z : Less ≡ Equal = h in cc)
exact_value null_val (int_val y) s h = absurd (let z : Less ≡ Equal = h in cc)
exact_value null_val (text_val y) s h = absurd (let z : Less ≡ Equal = h in cc)
exact_value null_val (list_val y) s h = absurd (let z : Less ≡ Equal = h in cc)
exact_value null_val (struct_val y) s h = absurd (let z : Less ≡ Equal = h in cc)
exact_value (bool_val x) null_val s h = absurd (let z : Greater ≡ Equal = h in cc)
exact_value (bool_val true) (bool_val true) s h = refl
exact_value (bool_val true) (bool_val false) s h = absurd (let z : Greater ≡ Equal = h in cc)
exact_value (bool_val false) (bool_val true) s h = absurd (let z : Less ≡ Equal = h in cc)
exact_value (bool_val false) (bool_val false) s h = refl
exact_value (bool_val x) (int_val y) s h = absurd (let z : Less ≡ Equal = h in cc)
exact_value (bool_val x) (text_val y) s h = absurd (let z : Less ≡ Equal = h in cc)
exact_value (bool_val x) (list_val y) s h = absurd (let z : Less ≡ Equal = h in cc)
exact_value (bool_val x) (struct_val y) s h = absurd (let z : Less ≡ Equal = h in cc)
exact_value (int_val x) null_val s h = absurd (let z : Greater ≡ Equal = h in cc)
exact_value (int_val x) (bool_val y) s h = absurd (let z : Greater ≡ Equal = h in cc)
exact_value (int_val x) (int_val y) s h = ap int_val (exact_signed x y (then_first (int_cmp x y) Equal h))
exact_value (int_val x) (text_val y) s h = absurd (let z : Less ≡ Equal = h in cc)
exact_value (int_val x) (list_val y) s h = absurd (let z : Less ≡ Equal = h in cc)
exact_value (int_val x) (struct_val y) s h = absurd (let z : Less ≡ Equal = h in cc)
exact_value (text_val x) null_val s h = absurd (let z : Greater ≡ Equal = h in cc)
exact_value (text_val x) (bool_val y) s h = absurd (let z : Greater ≡ Equal = h in cc)
exact_value (text_val x) (int_val y) s h = absurd (let z : Greater ≡ Equal = h in cc)
exact_value (text_val x) (text_val y) s h = ap text_val (exact_bytes x y h)
exact_value (text_val x) (list_val y) s h = absurd (let z : Less ≡ Equal = h in cc)
exact_value (text_val x) (struct_val y) s h = absurd (let z : Less ≡ Equal = h in cc)
exact_value (list_val x) b s h = absurd (let z : false ≡ true = s in cc)
exact_value (struct_val x) b s h = absurd (let z : false ≡ true = s in cc)

and_first : (a b : Bool) → (a && b) ≡ true → a ≡ true
and_first true b h = refl
and_first false b h = h

and_second : (a b : Bool) → (a && b) ≡ true → b ≡ true
and_second true b h = h
and_second false b h = absurd (let z : false ≡ true = h in cc)

exact_key : (a b : List Val) → are_scalars a ≡ true → key_cmp a b ≡ Equal → a ≡ b
exact_key [] [] s h = refl
exact_key [] (y ∷ ys) s h = absurd (let z : Less ≡ Equal = h in cc)
exact_key (x ∷ xs) [] s h = absurd (let z : Greater ≡ Equal = h in cc)
exact_key (x ∷ xs) (y ∷ ys) s h =
    let e : x ≡ y = exact_value x y (and_first (is_scalar x) (are_scalars xs) s) (then_first (value_cmp x y) (key_cmp xs ys) h) in
    let f : xs ≡ ys = exact_key xs ys (and_second (is_scalar x) (are_scalars xs) s) (then_second (value_cmp x y) (key_cmp xs ys) h) in
    λ i. e i ∷ f i

pub equal_from_test : (r : Ordering) → is_eq r ≡ true → r ≡ Equal
equal_from_test Less h = absurd (let z : false ≡ true = h in cc)
equal_from_test Equal h = refl
equal_from_test Greater h = absurd (let z : false ≡ true = h in cc)

pub same_exact : (a b : List Val) → are_scalars a ≡ true → same_key a b ≡ true → a ≡ b
same_exact a b s h = exact_key a b s (equal_from_test (key_cmp a b) h)

-- Values and fields, one after another.
use Rattle.std.proofs.Common.{◌≡◌, ℕ, zero, suc, ◌+◌, ◌<◌, ◌≤◌, ◌==◌, List, [], ◌∷◌, ◌++◌, length, get_or, drop, map, Some, None, slice_get, Bool, true, false, refl, sym, ap, ◌∙◌, append_assoc, append-nil, subst, arith}
use Rattle.std.specs.Prelude.{codes}
use Rattle.std.proofs.lemmas.Bool.{ne_eqb}
use Rattle.std.proofs.lemmas.List.{drop_more, length-append}
use Rattle.scan_values.specs.declared.value.Value.{Value}
use Rattle.scan_values.specs.declared.value.Value.TheVariants.{List as Listed, Struct}
use Rattle.scan_values.specs.DataType.{DataType, Name, no_fields, fields_of}
use Rattle.scan_values.specs.Val.{Val, Vals, no_vals, val, vals_of, val_size, vals_size}
use Rattle.scan_values.specs.Values.{val_of}
use Rattle.scan_run.specs.Line.{comma, quoted, element_in, fields_in, value_text, elements_text, fields_text}

pub not_zero : (i : ℕ) → ((i + 1) == 0) ≡ false
not_zero i = ne_eqb (i + 1) 0 (omega arith)

size_at : (vs : List Value) (i : ℕ) (d : Value) → i < length vs → val_size (val_of (get_or vs i d)) ≤ vals_size (vals_of (map val_of vs))
size_at [] i d h = absurd (omega arith)
size_at (v ∷ vs) zero d h = omega arith
size_at (v ∷ vs) (suc i) d h = let e = size_at vs i d (omega arith) in omega arith

-- one of some values is no larger than all
pub one_size : (vs : List Value) (i : ℕ) (v : Value) → i < length vs → v ≡ get_or vs i v → val_size (val_of v) ≤ vals_size (vals_of (map val_of vs))
one_size vs i v h e = subst (λ x. val_size (val_of x) ≤ vals_size (vals_of (map val_of vs))) (sym e) (size_at vs i v h)

found_drop : {A : Type 0} (xs : List A) (i : ℕ) (x : A) → slice_get xs i ≡ Some x → drop i xs ≡ x ∷ drop (i + 1) xs
found_drop [] i x h = cc
found_drop (y ∷ xs) zero x h = let e : y ≡ x = cc in ap (λ z. z ∷ xs) e
found_drop (y ∷ xs) (suc i) x h = let e : suc i + 1 ≡ suc (i + 1) = omega arith in rw e (found_drop xs i x h)

past_drop : {A : Type 0} (xs : List A) (i : ℕ) → slice_get xs i ≡ None → drop i xs ≡ []
past_drop [] zero h = refl
past_drop [] (suc i) h = refl
past_drop (y ∷ xs) zero h = cc
past_drop (y ∷ xs) (suc i) h = past_drop xs i h

pub no_fields_text : (b : Bool) (vs : Vals) → fields_text b vs no_fields ≡ []
no_fields_text b no_vals = refl
no_fields_text b (val v vs) = refl

pub fields_past : (fs : List (Name × DataType)) (i : ℕ) (b : Bool) (vs : Vals) → slice_get fs i ≡ None → fields_text b vs (fields_of (drop i fs)) ≡ []
fields_past fs i b vs h = ap (λ gs. fields_text b vs (fields_of gs)) (past_drop fs i h) ∙ no_fields_text b vs

pub elements_step : (vs : List Value) (i : ℕ) (v : Value) (b : Bool) (d : DataType) → i < length vs → v ≡ get_or vs i v
    → elements_text b (vals_of (map val_of (drop i vs))) d ≡ (comma b ++ value_text (val_of v) d) ++ elements_text false (vals_of (map val_of (drop (i + 1) vs))) d
elements_step vs i v b d h at =
    ap (λ xs. elements_text b (vals_of (map val_of xs)) d) (drop_more vs i v h ∙ ap (λ x. x ∷ drop (i + 1) vs) (sym at))
    ∙ sym (append_assoc (comma b) (value_text (val_of v) d) (elements_text false (vals_of (map val_of (drop (i + 1) vs))) d))

-- a piece of what is left was printed
printed_more : (whole out p more new : List ℕ) → whole ≡ out ++ (p ++ more) → new ≡ out ++ p → whole ≡ new ++ more
printed_more whole out p more new e h = e ∙ sym (append_assoc out p more) ∙ ap (λ xs. xs ++ more) (sym h)

grows_by : (old out p new : List ℕ) → length old ≤ length out → new ≡ out ++ p → length old ≤ length new
grows_by old out p new k h =
    let n : length new ≡ length (out ++ p) = ap length h in
    let s = length-append out p in
    omega arith

-- one more element was printed
pub elements_more : (vs : List Value) (i : ℕ) (v : Value) (d : DataType) (old t mid new : List ℕ) (out : List ℕ) → i < length vs → v ≡ get_or vs i v
    → old ++ t ≡ out ++ elements_text (i == 0) (vals_of (map val_of (drop i vs))) d → length old ≤ length out
    → mid ≡ out ++ comma (i == 0) → new ≡ mid ++ value_text (val_of v) d
    → (old ++ t ≡ new ++ elements_text ((i + 1) == 0) (vals_of (map val_of (drop (i + 1) vs))) d) × (length old ≤ length new)
elements_more vs i v d old t mid new out h at inv k e is =
    let rest = elements_text false (vals_of (map val_of (drop (i + 1) vs))) d in
    let whole : new ≡ out ++ (comma (i == 0) ++ value_text (val_of v) d) = is ∙ ap (λ xs. xs ++ value_text (val_of v) d) e ∙ append_assoc out (comma (i == 0)) (value_text (val_of v) d) in (
      printed_more (old ++ t) out _ rest new (inv ∙ ap (λ xs. out ++ xs) (elements_step vs i v (i == 0) d h at)) whole
          ∙ ap (λ b. new ++ elements_text b (vals_of (map val_of (drop (i + 1) vs))) d) (sym (not_zero i)),
      grows_by old out _ new k whole,
    )

regroup : (c q k t r : List ℕ) → c ++ (q ++ (k ++ (t ++ r))) ≡ (c ++ (q ++ (k ++ t))) ++ r
regroup c q k t r = sym (append_assoc c (q ++ (k ++ t)) r ∙ ap (λ xs. c ++ xs) (append_assoc q (k ++ t) r ∙ ap (λ xs. q ++ xs) (append_assoc k t r)))

pub fields_step : (vs : List Value) (fs : List (Name × DataType)) (i : ℕ) (v : Value) (f : Name × DataType) (b : Bool) → i < length vs → v ≡ get_or vs i v → slice_get fs i ≡ Some f
    → fields_text b (vals_of (map val_of (drop i vs))) (fields_of (drop i fs))
    ≡ (comma b ++ (quoted f.0 ++ (codes ":" ++ value_text (val_of v) f.1))) ++ fields_text false (vals_of (map val_of (drop (i + 1) vs))) (fields_of (drop (i + 1) fs))
fields_step vs fs i v f b h at e =
    ap (λ xs. fields_text b (vals_of (map val_of xs)) (fields_of (drop i fs))) (drop_more vs i v h ∙ ap (λ x. x ∷ drop (i + 1) vs) (sym at))
    ∙ ap (λ gs. fields_text b (vals_of (map val_of (v ∷ drop (i + 1) vs))) (fields_of gs)) (found_drop fs i f e)
    ∙ regroup (comma b) (quoted f.0) (codes ":") (value_text (val_of v) f.1) (fields_text false (vals_of (map val_of (drop (i + 1) vs))) (fields_of (drop (i + 1) fs)))

-- one more field was printed
pub fields_more : (vs : List Value) (fs : List (Name × DataType)) (i : ℕ) (v : Value) (f : Name × DataType) (old t out new : List ℕ) → i < length vs → v ≡ get_or vs i v → slice_get fs i ≡ Some f
    → old ++ t ≡ out ++ fields_text (i == 0) (vals_of (map val_of (drop i vs))) (fields_of (drop i fs)) → length old ≤ length out
    → new ≡ out ++ (comma (i == 0) ++ (quoted f.0 ++ (codes ":" ++ value_text (val_of v) f.1)))
    → (old ++ t ≡ new ++ fields_text ((i + 1) == 0) (vals_of (map val_of (drop (i + 1) vs))) (fields_of (drop (i + 1) fs))) × (length old ≤ length new)
fields_more vs fs i v f old t out new h at e inv k is =
    let rest = fields_text false (vals_of (map val_of (drop (i + 1) vs))) (fields_of (drop (i + 1) fs)) in (
      printed_more (old ++ t) out _ rest new (inv ∙ ap (λ xs. out ++ xs) (fields_step vs fs i v f (i == 0) h at e)) is
          ∙ ap (λ b. new ++ fields_text b (vals_of (map val_of (drop (i + 1) vs))) (fields_of (drop (i + 1) fs))) (sym (not_zero i)),
      grows_by old out _ new k is,
    )

-- what is left prints nothing
pub nothing_more : (whole out rest : List ℕ) → whole ≡ out ++ rest → rest ≡ [] → out ≡ whole
nothing_more whole out rest e h = sym (e ∙ ap (λ xs. out ++ xs) h ∙ append-nil out)

-- the text of a list, and of a struct, over the slice that is printed
pub list_is : (v : Value) (vs : List Val) (items : List Value) (d e : DataType) → v ≡ Listed vs → map val_of items ≡ vs → e ≡ element_in d → codes "[" ++ (elements_text true (vals_of (map val_of items)) e ++ codes "]") ≡ value_text (val_of v) d
list_is v vs items d e h k l = rw (h, k, l) refl

pub struct_is : (v : Value) (vs : List Val) (items : List Value) (d : DataType) → v ≡ Struct vs → map val_of items ≡ vs → codes "{" ++ (fields_text true (vals_of (map val_of items)) (fields_in d) ++ codes "}") ≡ value_text (val_of v) d
struct_is v vs items d h k = rw (h, k) refl

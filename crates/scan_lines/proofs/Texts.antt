-- The texts of elements and of fields, one by one.
use Rattle.std.proofs.Common.{◌≡◌, ℕ, zero, suc, ◌+◌, ◌-◌, ◌<◌, ◌≤◌, ◌==◌, Bool, true, false, List, [], ◌∷◌, ◌++◌, length, take, drop, get_or, map, refl, sym, ap, ◌∙◌, arith, append_assoc, append-nil, Option, Some, None, option_map, subst}
use Rattle.std.specs.Prelude.{codes, slice_get, slice_range}
use Rattle.std.specs.Fmt.{decimal}
use Rattle.std.proofs.lemmas.Bool.{ne_eqb}
use Rattle.scan_values.specs.DataType.{DataType, Name, Fields, no_fields, field}
use Rattle.scan_values.specs.Val.{Val, null_val, vals_of}
use Rattle.scan_lines.specs.Line.{comma, quoted, value_text, elements_text, fields_text, line_of}
use Rattle.scan_lines.specs.Heads.{head_text, heads_of, front_of}

-- whether a part is the first, behind so many
abbrev pub is_first : ℕ → Bool → Bool
is_first zero b = b
is_first (suc k) b = is_first k false

none_later : (k : ℕ) → is_first k false ≡ false
none_later zero = refl
none_later (suc k) = none_later k

pub first_is : (k : ℕ) → is_first k true ≡ (k == 0)
first_is zero = refl
first_is (suc k) = none_later k ∙ sym (ne_eqb (suc k) 0 (omega arith))

-- ---- an element more
element_first : (a t : List ℕ) → a ++ (t ++ []) ≡ [] ++ (a ++ t)
element_first a t = ap (λ xs. a ++ xs) (append-nil t)

element_next : (a t r x : List ℕ) → a ++ (t ++ (r ++ x)) ≡ (a ++ (t ++ r)) ++ x
element_next a t r x = ap (λ xs. a ++ xs) (sym (append_assoc t r x)) ∙ sym (append_assoc a (t ++ r) x)

elements_next : (b : Bool) (d : DataType) (vs : List Val) (k : ℕ) → k < length vs
    → elements_text b (vals_of (take (k + 1) vs)) d ≡ elements_text b (vals_of (take k vs)) d ++ (comma (is_first k b) ++ value_text (get_or vs k null_val) d)
elements_next b d [] k lt = absurd (omega (arith, lt))
elements_next b d (w ∷ vs) zero lt = element_first (comma b) (value_text w d)
elements_next b d (w ∷ vs) (suc k) lt =
    let e : suc k + 1 ≡ suc (k + 1) = omega arith in
    rw e (ap (λ xs. comma b ++ (value_text w d ++ xs)) (elements_next false d vs k (omega (arith, lt)))
    ∙ element_next (comma b) (value_text w d) (elements_text false (vals_of (take k vs)) d) (comma (is_first k false) ++ value_text (get_or vs k null_val) d))

pub elements_more : (d : DataType) (vs : List Val) (k : ℕ) (first : Bool) (v : Val) → k < length vs → first ≡ (k == 0) → v ≡ get_or vs k null_val
    → elements_text true (vals_of (take k vs)) d ++ (comma first ++ value_text v d) ≡ elements_text true (vals_of (take (k + 1) vs)) d
elements_more d vs k first v lt f is =
    (λ i. elements_text true (vals_of (take k vs)) d ++ (comma ((f ∙ sym (first_is k)) i) ++ value_text (is i) d)) ∙ sym (elements_next true d vs k lt)

-- ---- a field more
piece_first : (h t : List ℕ) (a b c : List ℕ) → h ≡ a ++ (b ++ c) → a ++ (b ++ (c ++ (t ++ []))) ≡ [] ++ (h ++ t)
piece_first h t a b c e =
    ap (λ xs. a ++ (b ++ (c ++ xs))) (append-nil t) ∙ ap (λ xs. a ++ xs) (sym (append_assoc b c t)) ∙ sym (append_assoc a (b ++ c) t) ∙ ap (λ xs. xs ++ t) (sym e)

piece_next : (a b c t r x : List ℕ) → a ++ (b ++ (c ++ (t ++ (r ++ x)))) ≡ (a ++ (b ++ (c ++ (t ++ r)))) ++ x
piece_next a b c t r x =
    ap (λ xs. a ++ (b ++ (c ++ xs))) (sym (append_assoc t r x))
    ∙ ap (λ xs. a ++ (b ++ xs)) (sym (append_assoc c (t ++ r) x))
    ∙ ap (λ xs. a ++ xs) (sym (append_assoc b (c ++ (t ++ r)) x))
    ∙ sym (append_assoc a (b ++ (c ++ (t ++ r))) x)

fields_next : (b : Bool) (fs : Fields) (vs : List Val) (k : ℕ) (h : List ℕ × DataType) → k < length vs → Some h ≡ slice_get (heads_of b fs) k
    → fields_text b (vals_of (take (k + 1) vs)) fs ≡ fields_text b (vals_of (take k vs)) fs ++ (h.0 ++ value_text (get_or vs k null_val) h.1)
fields_next b no_fields vs k h lt is = absurd cc
fields_next b (field n d fs) [] k h lt is = absurd (omega (arith, lt))
fields_next b (field n d fs) (v ∷ vs) zero h lt is =
    let same : h ≡ (head_text b n, d) = cc in
    rw same (piece_first (head_text b n) (value_text v d) (comma b) (quoted n) (codes ":") refl)
fields_next b (field n d fs) (v ∷ vs) (suc k) h lt is =
    let e : suc k + 1 ≡ suc (k + 1) = omega arith in
    rw e (ap (λ xs. comma b ++ (quoted n ++ (codes ":" ++ (value_text v d ++ xs)))) (fields_next false fs vs k h (omega (arith, lt)) is)
    ∙ piece_next (comma b) (quoted n) (codes ":") (value_text v d) (fields_text false (vals_of (take k vs)) fs) (h.0 ++ value_text (get_or vs k null_val) h.1))

pub fields_more : (fs : Fields) (vs : List Val) (k : ℕ) (h : List ℕ × DataType) (v : Val) → k < length vs → Some h ≡ slice_get (heads_of true fs) k → v ≡ get_or vs k null_val
    → fields_text true (vals_of (take k vs)) fs ++ (h.0 ++ value_text v h.1) ≡ fields_text true (vals_of (take (k + 1) vs)) fs
fields_more fs vs k h v lt at is = (λ i. fields_text true (vals_of (take k vs)) fs ++ (h.0 ++ value_text (is i) h.1)) ∙ sym (fields_next true fs vs k h lt at)

-- no field is left
pub fields_over : (b : Bool) (fs : Fields) (vs : List Val) (k : ℕ) → None ≡ slice_get (heads_of b fs) k → fields_text b (vals_of (take k vs)) fs ≡ fields_text b (vals_of vs) fs
fields_over b no_fields [] zero is = refl
fields_over b no_fields [] (suc k) is = refl
fields_over b no_fields (v ∷ vs) zero is = refl
fields_over b no_fields (v ∷ vs) (suc k) is = refl
fields_over b (field n d fs) [] zero is = refl
fields_over b (field n d fs) [] (suc k) is = refl
fields_over b (field n d fs) (v ∷ vs) zero is = absurd cc
fields_over b (field n d fs) (v ∷ vs) (suc k) is = ap (λ xs. comma b ++ (quoted n ++ (codes ":" ++ (value_text v d ++ xs)))) (fields_over false fs vs k is)

-- ---- a line, from its file's front on
pub line_front : (d : DataType) (file row : ℕ) (v : Val)
    → front_of file ++ (decimal row ++ (codes ",\"value\":" ++ (value_text v d ++ codes "}\n"))) ≡ line_of d file row v
line_front d file row v =
    let rest = decimal row ++ (codes ",\"value\":" ++ (value_text v d ++ codes "}\n")) in
    append_assoc (codes "{\"file\":") (decimal file ++ codes ",\"row\":") rest
    ∙ ap (λ xs. codes "{\"file\":" ++ xs) (append_assoc (decimal file) (codes ",\"row\":") rest)

-- ---- places
pub taken_at : {A : Type 0} (xs : List A) (k : ℕ) (x d : A) → Some x ≡ slice_get xs k → get_or xs k d ≡ x
taken_at [] k x d e = absurd cc
taken_at (y ∷ xs) zero x d e = cc
taken_at (y ∷ xs) (suc k) x d e = taken_at xs k x d e

pub mapped_at : {A B : Type 0} (f : A → B) (xs : List A) (k : ℕ) (x : A) (d : B) → k < length xs → x ≡ get_or xs k x → f x ≡ get_or (map f xs) k d
mapped_at f [] k x d lt is = absurd (omega (arith, lt))
mapped_at f (y ∷ xs) zero x d lt is = ap f is
mapped_at f (y ∷ xs) (suc k) x d lt is = mapped_at f xs k x d (omega (arith, lt)) is

pub no_field : {A B : Type 0} (f : A → B) (o : Option A) (r : Option B) → o ≡ None → option_map f o ≡ r → None ≡ r
no_field f None r none is = is
no_field f (Some x) r none is = absurd cc

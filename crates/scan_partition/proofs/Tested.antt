-- The tests on paths and the facts that they tell.
use Rattle.std.proofs.Common.{◌≡◌, ◌⊎◌, inl, inr, Bool, true, false, ◌&&◌, ◌||◌, List, [], ◌∷◌, refl, ap, sym, ◌∙◌, bytes_eq}
use Rattle.std.proofs.lemmas.Slice.Eq.{bytes_eq-Decides}
use Rattle.scan_values.specs.DataType.{DataType, bool_type, int_type, utf8_type, list_type, struct_type, Fields, no_fields, field, Name}
use Rattle.scan_values.specs.declared.ptype.Nullability.{Nullability}
use Rattle.scan_values.specs.declared.ptype.Nullability.TheVariants.{NonNullable, Nullable}
use Rattle.scan_values.specs.NameFaults.{field_names, has_name}
use Rattle.scan_values.specs.Paths.{to_field, to_validity, to_offsets, to_elements, Path}
use Rattle.scan_expr.specs.Infer.{struct_fields, field_type, infer}
use Rattle.scan_expr.specs.Needs.{
  Demand,
  whole,
  null_alone,
  length_alone,
  fields,
  at,
  asked,
  is_end,
  is_validity,
  is_validity_of,
  is_offsets,
  under_elements,
  under_field,
  is_leaf,
  is_field_leaf,
  is_leaf_of,
  is_leaf_of_any,
  null_needs,
  length_needs,
  fields_needs,
  field_needs,
  use_needs,
  needs,
  any_needs,
}
use Rattle.scan_expr.specs.Expr.{Expr, root, row_index, literal, unary, binary, pack, Parts, no_parts, part}
use Rattle.scan_partition.proofs.Wants.{IsValidity, IsLeaf, IsFieldLeaf, IsLeafOf, IsLeafOfAny, NeedsNull, NeedsLength, NeedsFields, NeedsAt, Asks, Needs, AnyNeeds}
use Rattle.scan_partition.proofs.Names.{bytes_eq-refl}

-- ---- truth values
either_true : (a b : Bool) → a || b ≡ true → (a ≡ true) ⊎ (b ≡ true)
either_true true b h = inl refl
either_true false b h = inr h

left_true : (a b : Bool) → a ≡ true → a || b ≡ true
left_true true b h = refl
left_true false b h = cc

right_true : (a b : Bool) → b ≡ true → a || b ≡ true
right_true true b h = refl
right_true false b h = h

both_first : (a b : Bool) → a && b ≡ true → a ≡ true
both_first true b h = refl
both_first false b h = cc

both_second : (a b : Bool) → a && b ≡ true → b ≡ true
both_second true b h = h
both_second false b h = cc

both_true : (a b : Bool) → a ≡ true → b ≡ true → a && b ≡ true
both_true true b h g = g
both_true false b h g = cc

-- ---- paths
end_is : (p : Path) → is_end p ≡ true → p ≡ []
end_is [] h = refl
end_is (t ∷ p) h = cc

is_at_end : (p : Path) → p ≡ [] → is_end p ≡ true
is_at_end p h = ap is_end h

validity_is : (p : Path) → is_validity p ≡ true → p ≡ to_validity ∷ []
validity_is [] h = cc
validity_is (to_field n ∷ p) h = cc
validity_is (to_validity ∷ p) h = ap (λ q. to_validity ∷ q) (end_is p h)
validity_is (to_offsets ∷ p) h = cc
validity_is (to_elements ∷ p) h = cc

offsets_is : (p : Path) → is_offsets p ≡ true → p ≡ to_offsets ∷ []
offsets_is [] h = cc
offsets_is (to_field n ∷ p) h = cc
offsets_is (to_validity ∷ p) h = cc
offsets_is (to_offsets ∷ p) h = ap (λ q. to_offsets ∷ q) (end_is p h)
offsets_is (to_elements ∷ p) h = cc

under_is : (f : Name) (test : Path → Bool) (p : Path) → under_field f test p ≡ true → (q : Path) × (p ≡ to_field f ∷ q) × (test q ≡ true)
under_is f test [] h = cc
under_is f test (to_field n ∷ p) h = (p, ap (λ m. to_field m ∷ p) (sym ((bytes_eq-Decides f n).0 (both_first (bytes_eq f n) (test p) h))), both_second (bytes_eq f n) (test p) h)
under_is f test (to_validity ∷ p) h = cc
under_is f test (to_offsets ∷ p) h = cc
under_is f test (to_elements ∷ p) h = cc

is_under : (f : Name) (test : Path → Bool) (p q : Path) → p ≡ to_field f ∷ q → test q ≡ true → under_field f test p ≡ true
is_under f test p q h t = ap (under_field f test) h ∙ both_true (bytes_eq f f) (test q) (bytes_eq-refl f) t

elements_is : (test : Path → Bool) (p : Path) → under_elements test p ≡ true → (q : Path) × (p ≡ to_elements ∷ q) × (test q ≡ true)
elements_is test [] h = cc
elements_is test (to_field n ∷ p) h = cc
elements_is test (to_validity ∷ p) h = cc
elements_is test (to_offsets ∷ p) h = cc
elements_is test (to_elements ∷ p) h = (p, refl, h)

validity_of_is : (n : Nullability) (p : Path) → is_validity_of n p ≡ true → IsValidity n p
validity_of_is NonNullable p h = cc
validity_of_is Nullable p h = validity_is p h

is_of_validity : (n : Nullability) (p : Path) → IsValidity n p → is_validity_of n p ≡ true
is_of_validity NonNullable p h = absurd h
is_of_validity Nullable p h = ap is_validity h

-- ---- leaves
list_leaf : (d : DataType) (n : Nullability) (p : Path) → (is_validity_of n p ≡ true) ⊎ (is_offsets p || under_elements (is_leaf d) p ≡ true) → ((q : Path) → is_leaf d q ≡ true → IsLeaf d q) → IsLeaf (list_type d n) p
list_leaf d n p (inl h) f = inl (validity_of_is n p h)
list_leaf d n p (inr h) f = inr (inner (either_true (is_offsets p) (under_elements (is_leaf d) p) h))
  where
    inner : (is_offsets p ≡ true) ⊎ (under_elements (is_leaf d) p ≡ true) → (p ≡ to_offsets ∷ []) ⊎ ((q : Path) × (p ≡ to_elements ∷ q) × IsLeaf d q)
    inner (inl g) = inl (offsets_is p g)
    inner (inr g) = let r = elements_is (is_leaf d) p g in inr (r.0, r.1, f r.0 r.2)

struct_leaf : (fs : Fields) (n : Nullability) (p : Path) → (is_validity_of n p ≡ true) ⊎ (is_field_leaf fs p ≡ true) → (is_field_leaf fs p ≡ true → IsFieldLeaf fs p) → IsLeaf (struct_type fs n) p
struct_leaf fs n p (inl h) f = inl (validity_of_is n p h)
struct_leaf fs n p (inr h) f = inr (f h)

one_field : (f : Name) (d : DataType) (fs : Fields) (p : Path) → (under_field f (is_leaf d) p ≡ true) ⊎ (is_field_leaf fs p ≡ true) → ((q : Path) → is_leaf d q ≡ true → IsLeaf d q) → (is_field_leaf fs p ≡ true → IsFieldLeaf fs p) → IsFieldLeaf (field f d fs) p
one_field f d fs p (inl h) g r = let u = under_is f (is_leaf d) p h in inl (u.0, u.1, g u.0 u.2)
one_field f d fs p (inr h) g r = inr (r h)

mutual
  leaf_told : (d : DataType) (p : Path) → is_leaf d p ≡ true → IsLeaf d p
  leaf_told (bool_type n) p h = end_is p h
  leaf_told (int_type t n) p h = end_is p h
  leaf_told (utf8_type n) p h = end_is p h
  leaf_told (list_type d n) p h = list_leaf d n p (either_true (is_validity_of n p) (is_offsets p || under_elements (is_leaf d) p) h) (λ q g. leaf_told d q g)
  leaf_told (struct_type fs n) p h = struct_leaf fs n p (either_true (is_validity_of n p) (is_field_leaf fs p) h) (λ g. field_leaf_told fs p g)

  pub field_leaf_told : (fs : Fields) (p : Path) → is_field_leaf fs p ≡ true → IsFieldLeaf fs p
  field_leaf_told no_fields p h = cc
  field_leaf_told (field f d fs) p h = one_field f d fs p (either_true (under_field f (is_leaf d) p) (is_field_leaf fs p) h) (λ q g. leaf_told d q g) (λ g. field_leaf_told fs p g)

leaf_list : (d : DataType) (n : Nullability) (p : Path) → IsLeaf (list_type d n) p → ((q : Path) → IsLeaf d q → is_leaf d q ≡ true) → is_leaf (list_type d n) p ≡ true
leaf_list d n p (inl h) f = left_true (is_validity_of n p) (is_offsets p || under_elements (is_leaf d) p) (is_of_validity n p h)
leaf_list d n p (inr h) f = right_true (is_validity_of n p) (is_offsets p || under_elements (is_leaf d) p) (inner h)
  where
    inner : (p ≡ to_offsets ∷ []) ⊎ ((q : Path) × (p ≡ to_elements ∷ q) × IsLeaf d q) → is_offsets p || under_elements (is_leaf d) p ≡ true
    inner (inl g) = left_true (is_offsets p) (under_elements (is_leaf d) p) (ap is_offsets g)
    inner (inr g) = right_true (is_offsets p) (under_elements (is_leaf d) p) (ap (under_elements (is_leaf d)) g.1 ∙ f g.0 g.2)

leaf_struct : (fs : Fields) (n : Nullability) (p : Path) → IsLeaf (struct_type fs n) p → (IsFieldLeaf fs p → is_field_leaf fs p ≡ true) → is_leaf (struct_type fs n) p ≡ true
leaf_struct fs n p (inl h) f = left_true (is_validity_of n p) (is_field_leaf fs p) (is_of_validity n p h)
leaf_struct fs n p (inr h) f = right_true (is_validity_of n p) (is_field_leaf fs p) (f h)

field_one : (f : Name) (d : DataType) (fs : Fields) (p : Path) → IsFieldLeaf (field f d fs) p → ((q : Path) → IsLeaf d q → is_leaf d q ≡ true) → (IsFieldLeaf fs p → is_field_leaf fs p ≡ true) → is_field_leaf (field f d fs) p ≡ true
field_one f d fs p (inl h) g r = left_true (under_field f (is_leaf d) p) (is_field_leaf fs p) (is_under f (is_leaf d) p h.0 h.1 (g h.0 h.2))
field_one f d fs p (inr h) g r = right_true (under_field f (is_leaf d) p) (is_field_leaf fs p) (r h)

mutual
  leaf_test : (d : DataType) (p : Path) → IsLeaf d p → is_leaf d p ≡ true
  leaf_test (bool_type n) p h = is_at_end p h
  leaf_test (int_type t n) p h = is_at_end p h
  leaf_test (utf8_type n) p h = is_at_end p h
  leaf_test (list_type d n) p h = leaf_list d n p h (λ q g. leaf_test d q g)
  leaf_test (struct_type fs n) p h = leaf_struct fs n p h (λ g. field_leaf_test fs p g)

  pub field_leaf_test : (fs : Fields) (p : Path) → IsFieldLeaf fs p → is_field_leaf fs p ≡ true
  field_leaf_test no_fields p h = absurd h
  field_leaf_test (field f d fs) p h = field_one f d fs p h (λ q g. leaf_test d q g) (λ g. field_leaf_test fs p g)

-- ---- leaves of named fields
leaf_of_told : (fs : Fields) (f : Name) (p : Path) → is_leaf_of fs f p ≡ true → IsLeafOf fs f p
leaf_of_told fs f p h =
    let u = under_is f (is_leaf (field_type f fs)) p (both_second (has_name f (field_names fs)) (under_field f (is_leaf (field_type f fs)) p) h) in
    (u.0, both_first (has_name f (field_names fs)) (under_field f (is_leaf (field_type f fs)) p) h, u.1, leaf_told (field_type f fs) u.0 u.2)

leaf_of_test : (fs : Fields) (f : Name) (p : Path) → IsLeafOf fs f p → is_leaf_of fs f p ≡ true
leaf_of_test fs f p h = both_true (has_name f (field_names fs)) (under_field f (is_leaf (field_type f fs)) p) h.1 (is_under f (is_leaf (field_type f fs)) p h.0 h.2 (leaf_test (field_type f fs) h.0 h.3))

pub any_told : (fs : Fields) (ns : List Name) (p : Path) → is_leaf_of_any fs ns p ≡ true → IsLeafOfAny fs ns p
any_told fs [] p h = cc
any_told fs (f ∷ ns) p h = go (either_true (is_leaf_of fs f p) (is_leaf_of_any fs ns p) h) (any_told fs ns p)
  where
    go : (is_leaf_of fs f p ≡ true) ⊎ (is_leaf_of_any fs ns p ≡ true) → (is_leaf_of_any fs ns p ≡ true → IsLeafOfAny fs ns p) → IsLeafOfAny fs (f ∷ ns) p
    go (inl g) r = inl (leaf_of_told fs f p g)
    go (inr g) r = inr (r g)

pub any_test : (fs : Fields) (ns : List Name) (p : Path) → IsLeafOfAny fs ns p → is_leaf_of_any fs ns p ≡ true
any_test fs [] p h = absurd h
any_test fs (f ∷ ns) p (inl h) = left_true (is_leaf_of fs f p) (is_leaf_of_any fs ns p) (leaf_of_test fs f p h)
any_test fs (f ∷ ns) p (inr h) = right_true (is_leaf_of fs f p) (is_leaf_of_any fs ns p) (any_test fs ns p h)

-- ---- demands
null_told : (d : DataType) (p : Path) → null_needs d p ≡ true → NeedsNull d p
null_told (bool_type NonNullable) p h = cc
null_told (bool_type Nullable) p h = end_is p h
null_told (int_type t NonNullable) p h = cc
null_told (int_type t Nullable) p h = end_is p h
null_told (utf8_type NonNullable) p h = cc
null_told (utf8_type Nullable) p h = end_is p h
null_told (list_type d n) p h = validity_of_is n p h
null_told (struct_type fs n) p h = validity_of_is n p h

null_tests : (d : DataType) (p : Path) → NeedsNull d p → null_needs d p ≡ true
null_tests (bool_type NonNullable) p h = absurd h
null_tests (bool_type Nullable) p h = is_at_end p h
null_tests (int_type t NonNullable) p h = absurd h
null_tests (int_type t Nullable) p h = is_at_end p h
null_tests (utf8_type NonNullable) p h = absurd h
null_tests (utf8_type Nullable) p h = is_at_end p h
null_tests (list_type d n) p h = is_of_validity n p h
null_tests (struct_type fs n) p h = is_of_validity n p h

length_told : (d : DataType) (p : Path) → length_needs d p ≡ true → NeedsLength d p
length_told (bool_type n) p h = end_is p h
length_told (int_type t n) p h = end_is p h
length_told (utf8_type n) p h = end_is p h
length_told (list_type d n) p h = go (either_true (is_validity_of n p) (is_offsets p) h)
  where
    go : (is_validity_of n p ≡ true) ⊎ (is_offsets p ≡ true) → IsValidity n p ⊎ (p ≡ to_offsets ∷ [])
    go (inl g) = inl (validity_of_is n p g)
    go (inr g) = inr (offsets_is p g)
length_told (struct_type fs n) p h = leaf_told (struct_type fs n) p h

length_tests : (d : DataType) (p : Path) → NeedsLength d p → length_needs d p ≡ true
length_tests (bool_type n) p h = is_at_end p h
length_tests (int_type t n) p h = is_at_end p h
length_tests (utf8_type n) p h = is_at_end p h
length_tests (list_type d n) p (inl h) = left_true (is_validity_of n p) (is_offsets p) (is_of_validity n p h)
length_tests (list_type d n) p (inr h) = right_true (is_validity_of n p) (is_offsets p) (ap is_offsets h)
length_tests (struct_type fs n) p h = leaf_test (struct_type fs n) p h

fields_told : (ns : List Name) (d : DataType) (p : Path) → fields_needs ns d p ≡ true → NeedsFields ns d p
fields_told ns (bool_type n) p h = end_is p h
fields_told ns (int_type t n) p h = end_is p h
fields_told ns (utf8_type n) p h = end_is p h
fields_told ns (list_type d n) p h = leaf_told (list_type d n) p h
fields_told ns (struct_type fs n) p h = go (either_true (is_validity_of n p) (is_leaf_of_any fs ns p) h)
  where
    go : (is_validity_of n p ≡ true) ⊎ (is_leaf_of_any fs ns p ≡ true) → IsValidity n p ⊎ IsLeafOfAny fs ns p
    go (inl g) = inl (validity_of_is n p g)
    go (inr g) = inr (any_told fs ns p g)

fields_tests : (ns : List Name) (d : DataType) (p : Path) → NeedsFields ns d p → fields_needs ns d p ≡ true
fields_tests ns (bool_type n) p h = is_at_end p h
fields_tests ns (int_type t n) p h = is_at_end p h
fields_tests ns (utf8_type n) p h = is_at_end p h
fields_tests ns (list_type d n) p h = leaf_test (list_type d n) p h
fields_tests ns (struct_type fs n) p (inl h) = left_true (is_validity_of n p) (is_leaf_of_any fs ns p) (is_of_validity n p h)
fields_tests ns (struct_type fs n) p (inr h) = right_true (is_validity_of n p) (is_leaf_of_any fs ns p) (any_test fs ns p h)

at_told : (f : Name) (test : DataType → Path → Bool) (P : DataType → Path → Type 0) → ((d : DataType) (p : Path) → test d p ≡ true → P d p) → (d : DataType) (p : Path) → field_needs f test d p ≡ true → NeedsAt f P d p
at_told f test P g (bool_type n) p h = end_is p h
at_told f test P g (int_type t n) p h = end_is p h
at_told f test P g (utf8_type n) p h = end_is p h
at_told f test P g (list_type d n) p h = leaf_told (list_type d n) p h
at_told f test P g (struct_type fs NonNullable) p h =
    let u = under_is f (test (field_type f fs)) p (both_second (has_name f (field_names fs)) (under_field f (test (field_type f fs)) p) h) in
    (u.0, both_first (has_name f (field_names fs)) (under_field f (test (field_type f fs)) p) h, u.1, g (field_type f fs) u.0 u.2)
at_told f test P g (struct_type fs Nullable) p h = go (either_true (is_validity p) (is_leaf_of fs f p) h)
  where
    go : (is_validity p ≡ true) ⊎ (is_leaf_of fs f p ≡ true) → (p ≡ to_validity ∷ []) ⊎ IsLeafOf fs f p
    go (inl x) = inl (validity_is p x)
    go (inr x) = inr (leaf_of_told fs f p x)

at_tests : (f : Name) (test : DataType → Path → Bool) (P : DataType → Path → Type 0) → ((d : DataType) (p : Path) → P d p → test d p ≡ true) → (d : DataType) (p : Path) → NeedsAt f P d p → field_needs f test d p ≡ true
at_tests f test P g (bool_type n) p h = is_at_end p h
at_tests f test P g (int_type t n) p h = is_at_end p h
at_tests f test P g (utf8_type n) p h = is_at_end p h
at_tests f test P g (list_type d n) p h = leaf_test (list_type d n) p h
at_tests f test P g (struct_type fs NonNullable) p h = both_true (has_name f (field_names fs)) (under_field f (test (field_type f fs)) p) h.1 (is_under f (test (field_type f fs)) p h.0 h.2 (g (field_type f fs) h.0 h.3))
at_tests f test P g (struct_type fs Nullable) p (inl h) = left_true (is_validity p) (is_leaf_of fs f p) (ap is_validity h)
at_tests f test P g (struct_type fs Nullable) p (inr h) = right_true (is_validity p) (is_leaf_of fs f p) (leaf_of_test fs f p h)

use_told : (k : Demand) (d : DataType) (p : Path) → use_needs k d p ≡ true → Asks k d p
use_told whole d p h = leaf_told d p h
use_told null_alone d p h = null_told d p h
use_told length_alone d p h = length_told d p h
use_told (fields ns) d p h = fields_told ns d p h
use_told (at f k) d p h = at_told f (use_needs k) (Asks k) (use_told k) d p h

use_tests : (k : Demand) (d : DataType) (p : Path) → Asks k d p → use_needs k d p ≡ true
use_tests whole d p h = leaf_test d p h
use_tests null_alone d p h = null_tests d p h
use_tests length_alone d p h = length_tests d p h
use_tests (fields ns) d p h = fields_tests ns d p h
use_tests (at f k) d p h = at_tests f (use_needs k) (Asks k) (use_tests k) d p h

-- ---- expressions
two_told : (a b : Bool) (P Q : Type 0) → (a ≡ true → P) → (b ≡ true → Q) → a || b ≡ true → P ⊎ Q
two_told true b P Q f g h = inl (f refl)
two_told false b P Q f g h = inr (g h)

two_tests : (a b : Bool) (P Q : Type 0) → (P → a ≡ true) → (Q → b ≡ true) → P ⊎ Q → a || b ≡ true
two_tests a b P Q f g (inl h) = left_true a b (f h)
two_tests a b P Q f g (inr h) = right_true a b (g h)

mutual
  pub needs_told : (s : DataType) (e : Expr) (k : Demand) (p : Path) → needs s e k p ≡ true → Needs s e k p
  needs_told s root k p h = use_told k s p h
  needs_told s row_index k p h = cc
  needs_told s (literal d v) k p h = cc
  needs_told s (unary u e) k p h = needs_told s e (asked u (struct_fields (infer s e)) k) p h
  needs_told s (binary b x y) k p h = two_told (needs s x whole p) (needs s y whole p) (Needs s x whole p) (Needs s y whole p) (needs_told s x whole p) (needs_told s y whole p) h
  needs_told s (pack ps n) k p h = any_needs_told s ps p h

  pub any_needs_told : (s : DataType) (ps : Parts) (p : Path) → any_needs s ps p ≡ true → AnyNeeds s ps p
  any_needs_told s no_parts p h = cc
  any_needs_told s (part n e ps) p h = two_told (needs s e whole p) (any_needs s ps p) (Needs s e whole p) (AnyNeeds s ps p) (needs_told s e whole p) (any_needs_told s ps p) h

mutual
  pub needs_tests : (s : DataType) (e : Expr) (k : Demand) (p : Path) → Needs s e k p → needs s e k p ≡ true
  needs_tests s root k p h = use_tests k s p h
  needs_tests s row_index k p h = absurd h
  needs_tests s (literal d v) k p h = absurd h
  needs_tests s (unary u e) k p h = needs_tests s e (asked u (struct_fields (infer s e)) k) p h
  needs_tests s (binary b x y) k p h = two_tests (needs s x whole p) (needs s y whole p) (Needs s x whole p) (Needs s y whole p) (needs_tests s x whole p) (needs_tests s y whole p) h
  needs_tests s (pack ps n) k p h = any_needs_tests s ps p h

  pub any_needs_tests : (s : DataType) (ps : Parts) (p : Path) → AnyNeeds s ps p → any_needs s ps p ≡ true
  any_needs_tests s no_parts p h = absurd h
  any_needs_tests s (part n e ps) p h = two_tests (needs s e whole p) (any_needs s ps p) (Needs s e whole p) (AnyNeeds s ps p) (needs_tests s e whole p) (any_needs_tests s ps p) h

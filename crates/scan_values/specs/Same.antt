-- Equality of names and of dtypes, which decides `≡`, and what is fed to a hasher.
use Rattle.std.specs.Prelude.{◌≡◌, ℕ, ◌+◌, ◌==◌, Bool, true, false, ◌&&◌, Decides, List, ◌++◌, bytes_eq, nat_eq, refl}
use Rattle.std.specs.Hash as fed
use Rattle.std.specs.Hash.{HashWrites, Alike, same_Alike, items_Alike}
use Rattle.std.specs.Cmp.{IsEquivalence, IsPartialEquivalence, decided, partial_equiv_from_equiv}
use Rattle.std.specs.Cmp.Lexicographic.{lists_equiv, pointwise}
use Rattle.std.proofs.Common.{ap, sym, subst, ◌∙◌, arith}
use Rattle.std.proofs.lemmas.Bool.Decides.{nat_tests}
use Rattle.std.proofs.lemmas.Slice.Eq.{bytes_eq-Decides}
use Rattle.scan_values.specs.DataType.{DataType, bool_type, int_type, utf8_type, list_type, struct_type, Fields, no_fields, field, Name, ptype_tree, tree_ptype, tree_ptype-ptype_tree, depth_of, is_nullable}
use Rattle.scan_values.specs.declared.ptype.PType.{PType}
use Rattle.scan_values.specs.declared.ptype.Nullability.{Nullability}
use Rattle.scan_values.specs.declared.ptype.Nullability.TheVariants.{NonNullable, Nullable}

-- ---- names
pub bytes_eq-equivalence : IsEquivalence bytes_eq
bytes_eq-equivalence = decided bytes_eq bytes_eq-Decides

pub bytes_eq-partial : IsPartialEquivalence bytes_eq
bytes_eq-partial = partial_equiv_from_equiv bytes_eq-equivalence

pub text_Alike : Alike bytes_eq fed.str
text_Alike = same_Alike fed.str bytes_eq-Decides

abbrev pub same_names : List Name → List Name → Bool
same_names = pointwise bytes_eq

pub same_names-equivalence : IsEquivalence same_names
same_names-equivalence = lists_equiv bytes_eq-equivalence

pub same_names-partial : IsPartialEquivalence same_names
same_names-partial = partial_equiv_from_equiv same_names-equivalence

abbrev pub names_fed : List Name → HashWrites
names_fed = fed.slice fed.str

pub names_Alike : Alike same_names names_fed
names_Alike = items_Alike text_Alike

-- ---- dtypes
abbrev pub same_nullability : Nullability → Nullability → Bool
same_nullability NonNullable NonNullable = true
same_nullability NonNullable Nullable = false
same_nullability Nullable NonNullable = false
same_nullability Nullable Nullable = true

abbrev pub same_ptype : PType → PType → Bool
same_ptype p q = ptype_tree p == ptype_tree q

abbrev mutual
  pub same_type : DataType → DataType → Bool
  same_type (bool_type n) (bool_type m) = same_nullability n m
  same_type (int_type p n) (int_type q m) = same_ptype p q && same_nullability n m
  same_type (utf8_type n) (utf8_type m) = same_nullability n m
  same_type (list_type d n) (list_type e m) = same_type d e && same_nullability n m
  same_type (struct_type fs n) (struct_type gs m) = same_fields fs gs && same_nullability n m
  same_type _ _ = false

  pub same_fields : Fields → Fields → Bool
  same_fields no_fields no_fields = true
  same_fields (field n d fs) (field m e gs) = bytes_eq n m && (same_type d e && same_fields fs gs)
  same_fields _ _ = false

and_left : (a b : Bool) → (a && b) ≡ true → a ≡ true
and_left true b h = refl
and_left false b h = h

and_right : (a b : Bool) → (a && b) ≡ true → b ≡ true
and_right true b h = h
and_right false b h = cc

nat_eq-is : (m n : ℕ) → nat_eq m n ≡ true → m ≡ n
nat_eq-is m n h = grind (arith, nat_tests)

nat_eq-self : (n : ℕ) → nat_eq n n ≡ true
nat_eq-self n = grind (arith, nat_tests)

same_nullability-is : (n m : Nullability) → same_nullability n m ≡ true → n ≡ m
same_nullability-is NonNullable NonNullable h = refl
same_nullability-is NonNullable Nullable h = cc
same_nullability-is Nullable NonNullable h = cc
same_nullability-is Nullable Nullable h = refl

same_nullability-self : (n : Nullability) → same_nullability n n ≡ true
same_nullability-self NonNullable = refl
same_nullability-self Nullable = refl

same_ptype-is : (p q : PType) → same_ptype p q ≡ true → p ≡ q
same_ptype-is p q h = sym (tree_ptype-ptype_tree p) ∙ ap tree_ptype (nat_eq-is (ptype_tree p) (ptype_tree q) h) ∙ tree_ptype-ptype_tree q

mutual
  same_type-is : (d e : DataType) → same_type d e ≡ true → d ≡ e
  same_type-is (bool_type n) (bool_type m) h = ap bool_type (same_nullability-is n m h)
  same_type-is (int_type p n) (int_type q m) h =
      λ i. int_type (same_ptype-is p q (and_left (same_ptype p q) (same_nullability n m) h) i)
      (same_nullability-is n m (and_right (same_ptype p q) (same_nullability n m) h) i)
  same_type-is (utf8_type n) (utf8_type m) h = ap utf8_type (same_nullability-is n m h)
  same_type-is (list_type d n) (list_type e m) h =
      λ i. list_type (same_type-is d e (and_left (same_type d e) (same_nullability n m) h) i)
      (same_nullability-is n m (and_right (same_type d e) (same_nullability n m) h) i)
  same_type-is (struct_type fs n) (struct_type gs m) h =
      λ i. struct_type (same_fields-are fs gs (and_left (same_fields fs gs) (same_nullability n m) h) i)
      (same_nullability-is n m (and_right (same_fields fs gs) (same_nullability n m) h) i)
  same_type-is d e h = absurd cc

  same_fields-are : (fs gs : Fields) → same_fields fs gs ≡ true → fs ≡ gs
  same_fields-are no_fields no_fields h = refl
  same_fields-are (field n d fs) (field m e gs) h =
      let others = and_right (bytes_eq n m) (same_type d e && same_fields fs gs) h in
      λ i. field ((bytes_eq-Decides n m).0 (and_left (bytes_eq n m) (same_type d e && same_fields fs gs) h) i)
      (same_type-is d e (and_left (same_type d e) (same_fields fs gs) others) i)
      (same_fields-are fs gs (and_right (same_type d e) (same_fields fs gs) others) i)
  same_fields-are fs gs h = absurd cc

mutual
  same_type-self : (d : DataType) → same_type d d ≡ true
  same_type-self (bool_type n) = same_nullability-self n
  same_type-self (int_type p n) = rw (nat_eq-self (ptype_tree p)) (same_nullability-self n)
  same_type-self (utf8_type n) = same_nullability-self n
  same_type-self (list_type d n) = rw (same_type-self d) (same_nullability-self n)
  same_type-self (struct_type fs n) = rw (same_fields-self fs) (same_nullability-self n)

  same_fields-self : (fs : Fields) → same_fields fs fs ≡ true
  same_fields-self no_fields = refl
  same_fields-self (field n d fs) = rw ((bytes_eq-Decides n n).1 refl, same_type-self d) (same_fields-self fs)

pub same_type-Decides : (d e : DataType) → Decides (same_type d e) (d ≡ e)
same_type-Decides d e = (same_type-is d e, λ p. let P : DataType → Type 0 = λ x. same_type d x ≡ true in subst P p (same_type-self d))

pub same_type-equivalence : IsEquivalence same_type
same_type-equivalence = decided same_type same_type-Decides

pub same_type-partial : IsPartialEquivalence same_type
same_type-partial = partial_equiv_from_equiv same_type-equivalence

-- a number for each kind of dtype
abbrev pub type_number : DataType → ℕ
type_number (bool_type n) = 0
type_number (utf8_type n) = 1
type_number (list_type d n) = 2
type_number (struct_type fs n) = 3
type_number (int_type p n) = 4 + ptype_tree p

abbrev pub type_fed : DataType → HashWrites
type_fed d = fed.u8 (type_number d) ++ fed.bool (is_nullable d) ++ fed.u32 (depth_of d)

pub type_Alike : Alike same_type type_fed
type_Alike = same_Alike type_fed same_type-Decides

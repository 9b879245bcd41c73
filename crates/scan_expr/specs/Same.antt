-- Equality of expressions, which decides `≡`.
use Rattle.std.specs.Prelude.{◌≡◌, ℕ, Bool, true, false, ◌&&◌, Decides, List, [], ◌∷◌, bytes_eq, refl}
use Rattle.std.specs.Cmp.{IsEquivalence, IsPartialEquivalence, decided, partial_equiv_from_equiv}
use Rattle.std.proofs.Common.{ap, subst}
use Rattle.std.proofs.lemmas.Slice.Eq.{bytes_eq-Decides}
use Rattle.scan_values.specs.DataType.{Name}
use Rattle.scan_values.specs.Same.{same_names, same_nullability, same_type, same_type-Decides}
use Rattle.scan_values.specs.SameVal.{same_val, same_val-Decides}
use Rattle.scan_values.specs.declared.ptype.Nullability.{Nullability}
use Rattle.scan_values.specs.declared.ptype.Nullability.TheVariants.{NonNullable, Nullable}
use Rattle.scan_expr.specs.declared.op.Unary.{Unary}
use Rattle.scan_expr.specs.declared.op.Unary.TheVariants.{GetItem, Select, Exclude, Not, IsNull, IsNotNull, ListLength}
use Rattle.scan_expr.specs.declared.op.Binary.{Binary}
use Rattle.scan_expr.specs.declared.op.Binary.TheVariants.{Mask, And, Or, Equal, NotEqual, Less, LessOrEqual, Greater, GreaterOrEqual, CheckedAdd, CheckedSub}
use Rattle.scan_expr.specs.Expr.{Expr, root, row_index, literal, unary, binary, pack, Parts, no_parts, part}
use Rattle.scan_expr.specs.Bound.{Bound}

and_left : (a b : Bool) → (a && b) ≡ true → a ≡ true
and_left true b h = refl
and_left false b h = h

and_right : (a b : Bool) → (a && b) ≡ true → b ≡ true
and_right true b h = h
and_right false b h = absurd cc

same_names-are : (ns ms : List Name) → same_names ns ms ≡ true → ns ≡ ms
same_names-are [] [] h = refl
same_names-are [] (m ∷ ms) h = absurd cc
same_names-are (n ∷ ns) [] h = absurd cc
same_names-are (n ∷ ns) (m ∷ ms) h = λ i. (bytes_eq-Decides n m).0
    (and_left (bytes_eq n m) (same_names ns ms) h) i ∷ same_names-are ns ms
    (and_right (bytes_eq n m) (same_names ns ms) h) i

same_names-self : (ns : List Name) → same_names ns ns ≡ true
same_names-self [] = refl
same_names-self (n ∷ ns) = rw ((bytes_eq-Decides n n).1 refl) (same_names-self ns)

same_nullability-is : (n m : Nullability) → same_nullability n m ≡ true → n ≡ m
same_nullability-is NonNullable NonNullable h = refl
same_nullability-is NonNullable Nullable h = absurd cc
same_nullability-is Nullable NonNullable h = absurd cc
same_nullability-is Nullable Nullable h = refl

same_nullability-self : (n : Nullability) → same_nullability n n ≡ true
same_nullability-self NonNullable = refl
same_nullability-self Nullable = refl

-- ---- operators
abbrev pub same_unary : Unary → Unary → Bool
same_unary (GetItem n) (GetItem m) = bytes_eq n m
same_unary (Select ns) (Select ms) = same_names ns ms
same_unary (Exclude ns) (Exclude ms) = same_names ns ms
same_unary Not Not = true
same_unary IsNull IsNull = true
same_unary IsNotNull IsNotNull = true
same_unary ListLength ListLength = true
same_unary _ _ = false

same_unary-is : (u w : Unary) → same_unary u w ≡ true → u ≡ w
same_unary-is (GetItem n) (GetItem m) h = ap GetItem ((bytes_eq-Decides n m).0 h)
same_unary-is (Select ns) (Select ms) h = ap Select (same_names-are ns ms h)
same_unary-is (Exclude ns) (Exclude ms) h = ap Exclude (same_names-are ns ms h)
same_unary-is Not Not h = refl
same_unary-is IsNull IsNull h = refl
same_unary-is IsNotNull IsNotNull h = refl
same_unary-is ListLength ListLength h = refl
same_unary-is u w h = absurd cc

same_unary-self : (u : Unary) → same_unary u u ≡ true
same_unary-self (GetItem n) = (bytes_eq-Decides n n).1 refl
same_unary-self (Select ns) = same_names-self ns
same_unary-self (Exclude ns) = same_names-self ns
same_unary-self Not = refl
same_unary-self IsNull = refl
same_unary-self IsNotNull = refl
same_unary-self ListLength = refl

abbrev pub same_binary : Binary → Binary → Bool
same_binary Mask Mask = true
same_binary And And = true
same_binary Or Or = true
same_binary Equal Equal = true
same_binary NotEqual NotEqual = true
same_binary Less Less = true
same_binary LessOrEqual LessOrEqual = true
same_binary Greater Greater = true
same_binary GreaterOrEqual GreaterOrEqual = true
same_binary CheckedAdd CheckedAdd = true
same_binary CheckedSub CheckedSub = true
same_binary _ _ = false

same_binary-is : (b c : Binary) → same_binary b c ≡ true → b ≡ c
same_binary-is Mask Mask h = refl
same_binary-is And And h = refl
same_binary-is Or Or h = refl
same_binary-is Equal Equal h = refl
same_binary-is NotEqual NotEqual h = refl
same_binary-is Less Less h = refl
same_binary-is LessOrEqual LessOrEqual h = refl
same_binary-is Greater Greater h = refl
same_binary-is GreaterOrEqual GreaterOrEqual h = refl
same_binary-is CheckedAdd CheckedAdd h = refl
same_binary-is CheckedSub CheckedSub h = refl
same_binary-is b c h = absurd cc

same_binary-self : (b : Binary) → same_binary b b ≡ true
same_binary-self Mask = refl
same_binary-self And = refl
same_binary-self Or = refl
same_binary-self Equal = refl
same_binary-self NotEqual = refl
same_binary-self Less = refl
same_binary-self LessOrEqual = refl
same_binary-self Greater = refl
same_binary-self GreaterOrEqual = refl
same_binary-self CheckedAdd = refl
same_binary-self CheckedSub = refl

-- ---- expressions
abbrev mutual
  pub same_expr : Expr → Expr → Bool
  same_expr root root = true
  same_expr row_index row_index = true
  same_expr (literal d v) (literal e w) = same_type d e && same_val v w
  same_expr (unary u x) (unary w y) = same_unary u w && same_expr x y
  same_expr (binary b x y) (binary c z w) = same_binary b c && (same_expr x z && same_expr y w)
  same_expr (pack ps n) (pack qs m) = same_nullability n m && same_parts ps qs
  same_expr _ _ = false

  pub same_parts : Parts → Parts → Bool
  same_parts no_parts no_parts = true
  same_parts (part n x ps) (part m y qs) = bytes_eq n m && (same_expr x y && same_parts ps qs)
  same_parts _ _ = false

mutual
  same_expr-is : (x y : Expr) → same_expr x y ≡ true → x ≡ y
  same_expr-is root root h = refl
  same_expr-is row_index row_index h = refl
  same_expr-is (literal d v) (literal e w) h =
      λ i. literal ((same_type-Decides d e).0 (and_left (same_type d e) (same_val v w) h) i)
      ((same_val-Decides v w).0 (and_right (same_type d e) (same_val v w) h) i)
  same_expr-is (unary u x) (unary w y) h =
      λ i. unary (same_unary-is u w (and_left (same_unary u w) (same_expr x y) h) i) (same_expr-is x y (and_right (same_unary u w) (same_expr x y) h) i)
  same_expr-is (binary b x y) (binary c z w) h =
      let r = and_right (same_binary b c) (same_expr x z && same_expr y w) h in
      λ i. binary (same_binary-is b c (and_left (same_binary b c) (same_expr x z && same_expr y w) h) i)
      (same_expr-is x z (and_left (same_expr x z) (same_expr y w) r) i)
      (same_expr-is y w (and_right (same_expr x z) (same_expr y w) r) i)
  same_expr-is (pack ps n) (pack qs m) h =
      λ i. pack (same_parts-are ps qs (and_right (same_nullability n m) (same_parts ps qs) h) i)
      (same_nullability-is n m (and_left (same_nullability n m) (same_parts ps qs) h) i)
  same_expr-is x y h = absurd cc

  same_parts-are : (ps qs : Parts) → same_parts ps qs ≡ true → ps ≡ qs
  same_parts-are no_parts no_parts h = refl
  same_parts-are (part n x ps) (part m y qs) h =
      let r = and_right (bytes_eq n m) (same_expr x y && same_parts ps qs) h in
      λ i. part ((bytes_eq-Decides n m).0 (and_left (bytes_eq n m) (same_expr x y && same_parts ps qs) h) i)
      (same_expr-is x y (and_left (same_expr x y) (same_parts ps qs) r) i)
      (same_parts-are ps qs (and_right (same_expr x y) (same_parts ps qs) r) i)
  same_parts-are ps qs h = absurd cc

mutual
  same_expr-self : (x : Expr) → same_expr x x ≡ true
  same_expr-self root = refl
  same_expr-self row_index = refl
  same_expr-self (literal d v) = rw ((same_type-Decides d d).1 refl) ((same_val-Decides v v).1 refl)
  same_expr-self (unary u x) = rw (same_unary-self u) (same_expr-self x)
  same_expr-self (binary b x y) = rw (same_binary-self b, same_expr-self x) (same_expr-self y)
  same_expr-self (pack ps n) = rw (same_nullability-self n) (same_parts-self ps)

  same_parts-self : (ps : Parts) → same_parts ps ps ≡ true
  same_parts-self no_parts = refl
  same_parts-self (part n x ps) = rw ((bytes_eq-Decides n n).1 refl, same_expr-self x) (same_parts-self ps)

-- ---- bound expressions
abbrev pub same_bound : Bound → Bound → Bool
same_bound a b = same_expr a.expr b.expr && same_type a.scope b.scope

same_bound-is : (a b : Bound) → same_bound a b ≡ true → a ≡ b
same_bound-is a b h =
    λ i. record {
      scope = (same_type-Decides a.scope b.scope).0
          (and_right (same_expr a.expr b.expr) (same_type a.scope b.scope) h) i;
      expr = same_expr-is a.expr b.expr (and_left (same_expr a.expr b.expr) (same_type a.scope b.scope) h) i;
    }

same_bound-self : (a : Bound) → same_bound a a ≡ true
same_bound-self a = rw (same_expr-self a.expr) ((same_type-Decides a.scope a.scope).1 refl)

pub same_bound-Decides : (a b : Bound) → Decides (same_bound a b) (a ≡ b)
same_bound-Decides a b = (same_bound-is a b, λ p. let P : Bound → Type 0 = λ z. same_bound a z ≡ true in subst P p (same_bound-self a))

pub same_bound-equivalence : IsEquivalence same_bound
same_bound-equivalence = decided same_bound same_bound-Decides

pub same_bound-partial : IsPartialEquivalence same_bound
same_bound-partial = partial_equiv_from_equiv same_bound-equivalence

abbrev pub unary_number : Unary → ℕ
unary_number (GetItem n) = 0
unary_number (Select ns) = 1
unary_number (Exclude ns) = 2
unary_number Not = 3
unary_number IsNull = 4
unary_number IsNotNull = 5
unary_number ListLength = 6

abbrev pub binary_number : Binary → ℕ
binary_number Mask = 0
binary_number And = 1
binary_number Or = 2
binary_number Equal = 3
binary_number NotEqual = 4
binary_number Less = 5
binary_number LessOrEqual = 6
binary_number Greater = 7
binary_number GreaterOrEqual = 8
binary_number CheckedAdd = 9
binary_number CheckedSub = 10

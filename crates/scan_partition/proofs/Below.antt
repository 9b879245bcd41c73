-- Marked values of which less is known, and the operators, which keep that.
use Rattle.std.proofs.Common.{◌≡◌, ◌⊎◌, inl, inr, Bool, true, false, cond, not, ◌&&◌, ◌||◌, Option, Some, None, ℤ, List, [], ◌∷◌, refl, ap, sym, subst, ◌∙◌, bytes_eq}
use Rattle.scan_values.specs.DataType.{DataType, bool_type, int_type, utf8_type, list_type, struct_type, Fields, no_fields, field, Name, nullability_of, is_nullable}
use Rattle.scan_values.specs.Damage.{damaged}
use Rattle.scan_values.specs.NameFaults.{has_name}
use Rattle.scan_values.specs.Kinds.{ptype_of}
use Rattle.scan_values.specs.Fits.{fits}
use Rattle.scan_values.specs.Marked.{Marked, lost, null, gone, boolean, integer, text, list, struct, Markeds, none, more}
use Rattle.scan_values.specs.declared.ptype.PType.{PType}
use Rattle.scan_values.specs.declared.ptype.PType.TheVariants.{U64}
use Rattle.scan_values.specs.declared.ptype.Nullability.{Nullability}
use Rattle.scan_values.specs.declared.ptype.Nullability.TheVariants.{NonNullable, Nullable}
use Rattle.scan_expr.specs.declared.op.Unary.{Unary}
use Rattle.scan_expr.specs.declared.op.Unary.TheVariants.{GetItem, Select, Exclude, Not, IsNull, IsNotNull, ListLength}
use Rattle.scan_expr.specs.declared.op.Binary.{Binary}
use Rattle.scan_expr.specs.declared.op.Binary.TheVariants.{Mask, And, Or, Equal, NotEqual, Less, LessOrEqual, Greater, GreaterOrEqual, CheckedAdd, CheckedSub}
use Rattle.scan_expr.specs.Infer.{either, unary_type, binary_type, ptype_or_u64}
use Rattle.scan_expr.specs.Typing.{unary_fault}
use Rattle.scan_expr.specs.Eval.{is_nothing, is_damaged, is_truth, pick, pick_all, leave, of_struct, null_test, not_value, length_value, unary_value, mask_value, logic_value, order, holds, comparison_value, integer_of, sum_of, checked, arithmetic_value, binary_value}
use Rattle.scan_expr.specs.Overflow.{outside, spills}

-- neither null, nor lost, nor a struct
abbrev pub IsScalarHere : Marked → Type 0
IsScalarHere lost = ⊥
IsScalarHere null = ⊥
IsScalarHere gone = Unit {0}
IsScalarHere (boolean b) = Unit {0}
IsScalarHere (integer z) = Unit {0}
IsScalarHere (text s) = Unit {0}
IsScalarHere (list ms) = Unit {0}
IsScalarHere (struct ms) = ⊥

-- the first is the second, of which nothing may be known, or nothing but that it is not null; in structs field by field
abbrev mutual
  pub Below : Marked → Marked → Type 0
  Below lost y = Unit {0}
  Below null y = y ≡ null
  Below gone y = IsScalarHere y
  Below (boolean b) y = y ≡ boolean b
  Below (integer z) y = y ≡ integer z
  Below (text s) y = y ≡ text s
  Below (list ms) y = y ≡ list ms
  Below (struct ms) lost = ⊥
  Below (struct ms) null = ⊥
  Below (struct ms) gone = ⊥
  Below (struct ms) (boolean b) = ⊥
  Below (struct ms) (integer z) = ⊥
  Below (struct ms) (text s) = ⊥
  Below (struct ms) (list ns) = ⊥
  Below (struct ms) (struct ns) = AllBelow ms ns

  pub AllBelow : Markeds → Markeds → Type 0
  AllBelow none none = Unit {0}
  AllBelow none (more n ns) = ⊥
  AllBelow (more m ms) none = ⊥
  AllBelow (more m ms) (more n ns) = Below m n × AllBelow ms ns

mutual
  pub below_refl : (m : Marked) → Below m m
  below_refl lost = tt
  below_refl null = refl
  below_refl gone = tt
  below_refl (boolean b) = refl
  below_refl (integer z) = refl
  below_refl (text s) = refl
  below_refl (list ms) = refl
  below_refl (struct ms) = all_below_refl ms

  all_below_refl : (ms : Markeds) → AllBelow ms ms
  all_below_refl none = tt
  all_below_refl (more m ms) = (below_refl m, all_below_refl ms)

pub equal_below : (x y : Marked) → x ≡ y → Below x y
equal_below x y h = subst (Below x) h (below_refl x)

-- what tells no struct from another sees the same of both, where the lower is not damaged
pub agree : {A : Type 0} (f : Marked → A) → ((ms ns : Markeds) → f (struct ms) ≡ f (struct ns)) → (x y : Marked) → Below x y → is_damaged x ≡ false → f x ≡ f y
agree f g lost y h d = cc
agree f g null y h d = sym (ap f h)
agree f g gone y h d = cc
agree f g (boolean b) y h d = sym (ap f h)
agree f g (integer z) y h d = sym (ap f h)
agree f g (text s) y h d = sym (ap f h)
agree f g (list ms) y h d = sym (ap f h)
agree f g (struct ms) (struct ns) h d = g ms ns
agree f g (struct ms) _ h d = absurd h

-- a test that no damaged value passes holds above too
pub up : (f : Marked → Bool) → f lost ≡ false → f gone ≡ false → ((ms ns : Markeds) → f (struct ms) ≡ f (struct ns)) → (x y : Marked) → Below x y → f x ≡ true → f y ≡ true
up f p q g lost y h t = clash (sym t ∙ p)
  where
    clash : {A : Type 0} → true ≡ false → A
    clash e = cc
up f p q g null y h t = ap f h ∙ t
up f p q g gone y h t = clash (sym t ∙ q)
  where
    clash : {A : Type 0} → true ≡ false → A
    clash e = cc
up f p q g (boolean b) y h t = ap f h ∙ t
up f p q g (integer z) y h t = ap f h ∙ t
up f p q g (text s) y h t = ap f h ∙ t
up f p q g (list ms) y h t = ap f h ∙ t
up f p q g (struct ms) (struct ns) h t = sym (g ms ns) ∙ t
up f p q g (struct ms) _ h t = absurd h

pub damaged_below_bool : (n : Nullability) (y : Marked) → fits y (bool_type n) ≡ true → Below (damaged n) y
damaged_below_bool Nullable y h = tt
damaged_below_bool NonNullable lost h = cc
damaged_below_bool NonNullable null h = cc
damaged_below_bool NonNullable gone h = tt
damaged_below_bool NonNullable (boolean b) h = tt
damaged_below_bool NonNullable (integer z) h = tt
damaged_below_bool NonNullable (text s) h = tt
damaged_below_bool NonNullable (list ms) h = tt
damaged_below_bool NonNullable (struct ms) h = cc

pub damaged_below_int : (p : PType) (n : Nullability) (y : Marked) → fits y (int_type p n) ≡ true → Below (damaged n) y
damaged_below_int p Nullable y h = tt
damaged_below_int p NonNullable lost h = cc
damaged_below_int p NonNullable null h = cc
damaged_below_int p NonNullable gone h = tt
damaged_below_int p NonNullable (boolean b) h = tt
damaged_below_int p NonNullable (integer z) h = tt
damaged_below_int p NonNullable (text s) h = tt
damaged_below_int p NonNullable (list ms) h = tt
damaged_below_int p NonNullable (struct ms) h = cc

-- ---- operators on one value
of_struct_below : (f : Markeds → Marked) → ((ms ns : Markeds) → AllBelow ms ns → Below (f ms) (f ns)) → (x y : Marked) → (IsScalarHere y → ⊥) → Below x y → Below (of_struct f x) (of_struct f y)
of_struct_below f g lost y c h = tt
of_struct_below f g null y c h = ap (of_struct f) h
of_struct_below f g gone y c h = absurd (c h)
of_struct_below f g (boolean b) y c h = ap (of_struct f) h
of_struct_below f g (integer z) y c h = ap (of_struct f) h
of_struct_below f g (text s) y c h = ap (of_struct f) h
of_struct_below f g (list ms) y c h = ap (of_struct f) h
of_struct_below f g (struct ms) (struct ns) c h = g ms ns h
of_struct_below f g (struct ms) _ c h = absurd h

struct_not_scalar : (fs : Fields) (k : Nullability) (y : Marked) → fits y (struct_type fs k) ≡ true → IsScalarHere y → ⊥
struct_not_scalar fs k lost h p = p
struct_not_scalar fs k null h p = p
struct_not_scalar fs k gone h p = cc
struct_not_scalar fs k (boolean b) h p = cc
struct_not_scalar fs k (integer z) h p = cc
struct_not_scalar fs k (text s) h p = cc
struct_not_scalar fs k (list ms) h p = cc
struct_not_scalar fs k (struct ms) h p = p

cond_below : (b : Bool) (x x' y y' : Marked) → Below x x' → Below y y' → Below (cond b x y) (cond b x' y')
cond_below true x x' y y' p q = p
cond_below false x x' y y' p q = q

pick_below : (n : Name) (fs : Fields) (ms ns : Markeds) → AllBelow ms ns → Below (pick n fs ms) (pick n fs ns)
pick_below n no_fields ms ns h = refl
pick_below n (field m d fs) none none h = refl
pick_below n (field m d fs) none (more y ns) h = absurd h
pick_below n (field m d fs) (more x ms) none h = absurd h
pick_below n (field m d fs) (more x ms) (more y ns) h = cond_below (bytes_eq n m) x y (pick n fs ms) (pick n fs ns) h.0 (pick_below n fs ms ns h.1)

pick_all_below : (ns : List Name) (fs : Fields) (xs ys : Markeds) → AllBelow xs ys → AllBelow (pick_all ns fs xs) (pick_all ns fs ys)
pick_all_below [] fs xs ys h = tt
pick_all_below (n ∷ ns) fs xs ys h = (pick_below n fs xs ys h, pick_all_below ns fs xs ys h)

leave_below : (ns : List Name) (fs : Fields) (xs ys : Markeds) → AllBelow xs ys → AllBelow (leave ns fs xs) (leave ns fs ys)
leave_below ns no_fields xs ys h = tt
leave_below ns (field m d fs) none none h = tt
leave_below ns (field m d fs) none (more y ys) h = absurd h
leave_below ns (field m d fs) (more x xs) none h = absurd h
leave_below ns (field m d fs) (more x xs) (more y ys) h = go (has_name m ns) (leave_below ns fs xs ys h.1)
  where
    go : (b : Bool) → AllBelow (leave ns fs xs) (leave ns fs ys) → AllBelow (cond b (leave ns fs xs) (more x (leave ns fs xs))) (cond b (leave ns fs ys) (more y (leave ns fs ys)))
    go true r = r
    go false r = (h.0, r)

null_test_below : (want : Bool) (x y : Marked) → Below x y → Below (null_test want x) (null_test want y)
null_test_below want lost lost h = tt
null_test_below want lost null h = tt
null_test_below want lost gone h = tt
null_test_below want lost (boolean b) h = tt
null_test_below want lost (integer z) h = tt
null_test_below want lost (text s) h = tt
null_test_below want lost (list ms) h = tt
null_test_below want lost (struct ms) h = tt
null_test_below want null y h = ap (null_test want) h
null_test_below want gone lost h = absurd h
null_test_below want gone null h = absurd h
null_test_below want gone gone h = refl
null_test_below want gone (boolean b) h = refl
null_test_below want gone (integer z) h = refl
null_test_below want gone (text s) h = refl
null_test_below want gone (list ms) h = refl
null_test_below want gone (struct ms) h = absurd h
null_test_below want (boolean b) y h = ap (null_test want) h
null_test_below want (integer z) y h = ap (null_test want) h
null_test_below want (text s) y h = ap (null_test want) h
null_test_below want (list ms) y h = ap (null_test want) h
null_test_below want (struct ms) (struct ns) h = refl
null_test_below want (struct ms) _ h = absurd h

not_below : (n : Nullability) (x y : Marked) → Below x y → Below (damaged n) (not_value n y) → Below (not_value n x) (not_value n y)
not_below n lost y h g = g
not_below n null y h g = ap (not_value n) h
not_below n gone y h g = g
not_below n (boolean b) y h g = ap (not_value n) h
not_below n (integer z) y h g = ap (not_value n) h
not_below n (text s) y h g = ap (not_value n) h
not_below n (list ms) y h g = ap (not_value n) h
not_below n (struct ms) (struct ns) h g = refl
not_below n (struct ms) _ h g = absurd h

length_below : (n : Nullability) (x y : Marked) → Below x y → Below (damaged n) (length_value n y) → Below (length_value n x) (length_value n y)
length_below n lost y h g = g
length_below n null y h g = ap (length_value n) h
length_below n gone y h g = g
length_below n (boolean b) y h g = ap (length_value n) h
length_below n (integer z) y h g = ap (length_value n) h
length_below n (text s) y h g = ap (length_value n) h
length_below n (list ms) y h g = ap (length_value n) h
length_below n (struct ms) (struct ns) h g = refl
length_below n (struct ms) _ h g = absurd h

-- an operator on what lies below lies below, where the upper value and what is made of it have their dtypes
pub unary_below : (u : Unary) (d : DataType) (x y : Marked) → unary_fault u d ≡ None → fits y d ≡ true → fits (unary_value u d y) (unary_type u d) ≡ true → Below x y → Below (unary_value u d x) (unary_value u d y)
unary_below (GetItem n) (struct_type fs k) x y t f g h = of_struct_below (pick n fs) (pick_below n fs) x y (struct_not_scalar fs k y f) h
unary_below (GetItem n) (bool_type k) x y t f g h = cc
unary_below (GetItem n) (int_type p k) x y t f g h = cc
unary_below (GetItem n) (utf8_type k) x y t f g h = cc
unary_below (GetItem n) (list_type e k) x y t f g h = cc
unary_below (Select ns) (struct_type fs k) x y t f g h = of_struct_below (λ ms. struct (pick_all ns fs ms)) (pick_all_below ns fs) x y (struct_not_scalar fs k y f) h
unary_below (Select ns) (bool_type k) x y t f g h = cc
unary_below (Select ns) (int_type p k) x y t f g h = cc
unary_below (Select ns) (utf8_type k) x y t f g h = cc
unary_below (Select ns) (list_type e k) x y t f g h = cc
unary_below (Exclude ns) (struct_type fs k) x y t f g h = of_struct_below (λ ms. struct (leave ns fs ms)) (leave_below ns fs) x y (struct_not_scalar fs k y f) h
unary_below (Exclude ns) (bool_type k) x y t f g h = cc
unary_below (Exclude ns) (int_type p k) x y t f g h = cc
unary_below (Exclude ns) (utf8_type k) x y t f g h = cc
unary_below (Exclude ns) (list_type e k) x y t f g h = cc
unary_below Not d x y t f g h = not_below (nullability_of d) x y h (damaged_below_bool (nullability_of d) (unary_value Not d y) g)
unary_below IsNull d x y t f g h = cond_below (is_nullable d) (null_test true x) (null_test true y) (boolean false) (boolean false) (null_test_below true x y h) refl
unary_below IsNotNull d x y t f g h = cond_below (is_nullable d) (null_test false x) (null_test false y) (boolean true) (boolean true) (null_test_below false x y h) refl
unary_below ListLength d x y t f g h = length_below (nullability_of d) x y h (damaged_below_int U64 (nullability_of d) (unary_value ListLength d y) g)

-- ---- operators on two values
-- an answer where a test of one side holds, else damaged where one side is so, else what the two make
abbrev layers : (Marked → Bool) → Marked → Nullability → (Marked → Marked → Marked) → Marked → Marked → Marked
layers f a j r x y = cond (f x || f y) a (cond (is_damaged x || is_damaged y) (damaged j) (r x y))

or_true : (a b : Bool) → (a || b) ≡ true → (a ≡ true) ⊎ (b ≡ true)
or_true true b h = inl refl
or_true false b h = inr h

or_left : (a b : Bool) → a ≡ true → (a || b) ≡ true
or_left true b h = refl
or_left false b h = cc

or_right : (a b : Bool) → b ≡ true → (a || b) ≡ true
or_right true b h = refl
or_right false b h = h

or_none : (a b : Bool) → (a || b) ≡ false → (a ≡ false) × (b ≡ false)
or_none true b h = (cc, cc)
or_none false b h = (refl, h)

module _ (f : Marked → Bool) (a : Marked) (j : Nullability) (r : Marked → Marked → Marked) (fl : f lost ≡ false) (fg : f gone ≡ false) (fs : (ms ns : Markeds) → f (struct ms) ≡ f (struct ns))
    (rl : (m : Marked) (ms ns : Markeds) → r (struct ms) m ≡ r (struct ns) m) (rr : (m : Marked) (ms ns : Markeds) → r m (struct ms) ≡ r m (struct ns)) (x y x' y' : Marked) (p : Below x x') (q : Below y y') (g : Below (damaged j) (layers f a j r x' y')) where
  one_up : (f x ≡ true) ⊎ (f y ≡ true) → (f x' || f y') ≡ true
  one_up (inl t) = or_left (f x') (f y') (up f fl fg fs x x' p t)
  one_up (inr t) = or_right (f x') (f y') (up f fl fg fs y y' q t)

  answer : (b c : Bool) (m : Marked) → b ≡ true → cond b a m ≡ a
  answer true c m h = refl
  answer false c m h = cc

  same_layers : is_damaged x ≡ false → is_damaged y ≡ false → layers f a j r x y ≡ layers f a j r x' y'
  same_layers d e =
      let fx = agree f fs x x' p d in
      let fy = agree f fs y y' q e in
      let dx = agree is_damaged (λ ms ns. refl) x x' p d in
      let dy = agree is_damaged (λ ms ns. refl) y y' q e in
      let rx = agree (λ m. r m y) (rl y) x x' p d in
      let ry = agree (r x') (rr x') y y' q e in
      λ i. cond (fx i || fy i) a (cond (dx i || dy i) (damaged j) ((rx ∙ ry) i))

  second : (c : Bool) → (is_damaged x || is_damaged y) ≡ c → (f x || f y) ≡ false → Below (cond c (damaged j) (r x y)) (layers f a j r x' y')
  second true e n = g
  second false e n =
      let d = or_none (is_damaged x) (is_damaged y) e in
      equal_below (r x y) (layers f a j r x' y') ((λ i. cond (sym n i) a (cond (sym e i) (damaged j) (r x y))) ∙ same_layers d.0 d.1)

  first : (b : Bool) → (f x || f y) ≡ b → Below (cond b a (cond (is_damaged x || is_damaged y) (damaged j) (r x y))) (layers f a j r x' y')
  first true e = equal_below a (layers f a j r x' y') (sym (answer (f x' || f y') true (cond (is_damaged x' || is_damaged y') (damaged j) (r x' y')) (one_up (or_true (f x) (f y) e))))
  first false e = second (is_damaged x || is_damaged y) refl e

  pub layers_below : Below (layers f a j r x y) (layers f a j r x' y')
  layers_below = first (f x || f y) refl

order_struct : (m : Marked) (ms ns : Markeds) → order m (struct ms) ≡ order m (struct ns)
order_struct lost ms ns = refl
order_struct null ms ns = refl
order_struct gone ms ns = refl
order_struct (boolean b) ms ns = refl
order_struct (integer z) ms ns = refl
order_struct (text s) ms ns = refl
order_struct (list os) ms ns = refl
order_struct (struct os) ms ns = refl

logic_below : (b : Bool) (j : Nullability) (x y x' y' : Marked) → Below x x' → Below y y' → Below (damaged j) (logic_value b j x' y') → Below (logic_value b j x y) (logic_value b j x' y')
logic_below b j x y x' y' p q g =
    layers_below (is_truth b) (boolean b) j (λ x y. cond (is_truth (not b) x && is_truth (not b) y) (boolean (not b)) null) refl refl (λ ms ns. refl) (λ m ms ns. refl) (λ m ms ns. refl) x y x' y' p q g

comparison_below : (o : Binary) (j : Nullability) (x y x' y' : Marked) → Below x x' → Below y y' → Below (damaged j) (comparison_value o j x' y') → Below (comparison_value o j x y) (comparison_value o j x' y')
comparison_below o j x y x' y' p q g =
    layers_below is_nothing null j (λ x y. boolean (holds o (order x y))) refl refl (λ ms ns. refl) (λ m ms ns. refl) (λ m ms ns. ap (λ z. boolean (holds o z)) (order_struct m ms ns)) x y x' y' p q g

arithmetic_below : (o : Binary) (d : DataType) (x y x' y' : Marked) → Below x x' → Below y y' → Below (damaged (nullability_of d)) (arithmetic_value o d x' y') → Below (arithmetic_value o d x y) (arithmetic_value o d x' y')
arithmetic_below o d x y x' y' p q g =
    layers_below is_nothing null (nullability_of d) (λ x y. checked d (sum_of o (integer_of x) (integer_of y))) refl refl (λ ms ns. refl) (λ m ms ns. refl) (λ m ms ns. refl) x y x' y' p q g

mask_below : (x m x' m' : Marked) → Below x x' → Below m m' → Below (mask_value x m) (mask_value x' m')
mask_below x lost x' m' p q = tt
mask_below x null x' m' p q = ap (mask_value x') q
mask_below x gone x' m' p q = tt
mask_below x (boolean true) x' m' p q = subst (Below x) (sym (ap (mask_value x') q)) p
mask_below x (boolean false) x' m' p q = ap (mask_value x') q
mask_below x (integer z) x' m' p q = ap (mask_value x') q
mask_below x (text s) x' m' p q = ap (mask_value x') q
mask_below x (list ms) x' m' p q = ap (mask_value x') q
mask_below x (struct ms) x' (struct ns) p q = refl
mask_below x (struct ms) x' _ p q = absurd q

-- of two values, where what is made of the upper two has its dtype
pub binary_below : (o : Binary) (d e : DataType) (x y x' y' : Marked) → fits (binary_value o (binary_type o d e) x' y') (binary_type o d e) ≡ true → Below x x' → Below y y' → Below (binary_value o (binary_type o d e) x y) (binary_value o (binary_type o d e) x' y')
binary_below Mask d e x y x' y' g p q = mask_below x y x' y' p q
binary_below And d e x y x' y' g p q = let j = either (nullability_of d) (nullability_of e) in logic_below false j x y x' y' p q (damaged_below_bool j (logic_value false j x' y') g)
binary_below Or d e x y x' y' g p q = let j = either (nullability_of d) (nullability_of e) in logic_below true j x y x' y' p q (damaged_below_bool j (logic_value true j x' y') g)
binary_below Equal d e x y x' y' g p q = let j = either (nullability_of d) (nullability_of e) in comparison_below Equal j x y x' y' p q (damaged_below_bool j (comparison_value Equal j x' y') g)
binary_below NotEqual d e x y x' y' g p q = let j = either (nullability_of d) (nullability_of e) in comparison_below NotEqual j x y x' y' p q (damaged_below_bool j (comparison_value NotEqual j x' y') g)
binary_below Less d e x y x' y' g p q = let j = either (nullability_of d) (nullability_of e) in comparison_below Less j x y x' y' p q (damaged_below_bool j (comparison_value Less j x' y') g)
binary_below LessOrEqual d e x y x' y' g p q = let j = either (nullability_of d) (nullability_of e) in comparison_below LessOrEqual j x y x' y' p q (damaged_below_bool j (comparison_value LessOrEqual j x' y') g)
binary_below Greater d e x y x' y' g p q = let j = either (nullability_of d) (nullability_of e) in comparison_below Greater j x y x' y' p q (damaged_below_bool j (comparison_value Greater j x' y') g)
binary_below GreaterOrEqual d e x y x' y' g p q = let j = either (nullability_of d) (nullability_of e) in comparison_below GreaterOrEqual j x y x' y' p q (damaged_below_bool j (comparison_value GreaterOrEqual j x' y') g)
binary_below CheckedAdd d e x y x' y' g p q = arithmetic_below CheckedAdd (binary_type CheckedAdd d e) x y x' y' p q (damaged_below_int (ptype_or_u64 (ptype_of d)) (either (nullability_of d) (nullability_of e)) (arithmetic_value CheckedAdd (binary_type CheckedAdd d e) x' y') g)
binary_below CheckedSub d e x y x' y' g p q = arithmetic_below CheckedSub (binary_type CheckedSub d e) x y x' y' p q (damaged_below_int (ptype_or_u64 (ptype_of d)) (either (nullability_of d) (nullability_of e)) (arithmetic_value CheckedSub (binary_type CheckedSub d e) x' y') g)

-- ---- what spills below spills above
outside_none : (o : Binary) (d : DataType) (p : Option ℤ) → outside o d p None ≡ false
outside_none o d None = refl
outside_none o d (Some z) = refl

outside_up : (o : Binary) (d : DataType) (x y x' y' : Marked) → Below x x' → Below y y' → outside o d (integer_of x) (integer_of y) ≡ true → outside o d (integer_of x') (integer_of y') ≡ true
outside_up o d x y x' y' p q h =
    let none_of = outside_none o d (integer_of x') in
    let left = up (λ m. outside o d (integer_of m) (integer_of y)) refl refl (λ ms ns. refl) x x' p h in
    up (λ m. outside o d (integer_of x') (integer_of m)) none_of none_of (λ ms ns. refl) y y' q left

pub spills_up : (o : Binary) (d : DataType) (x y x' y' : Marked) → Below x x' → Below y y' → spills o d x y ≡ true → spills o d x' y' ≡ true
spills_up Mask d x y x' y' p q h = h
spills_up And d x y x' y' p q h = h
spills_up Or d x y x' y' p q h = h
spills_up Equal d x y x' y' p q h = h
spills_up NotEqual d x y x' y' p q h = h
spills_up Less d x y x' y' p q h = h
spills_up LessOrEqual d x y x' y' p q h = h
spills_up Greater d x y x' y' p q h = h
spills_up GreaterOrEqual d x y x' y' p q h = h
spills_up CheckedAdd d x y x' y' p q h = outside_up CheckedAdd d x y x' y' p q h
spills_up CheckedSub d x y x' y' p q h = outside_up CheckedSub d x y x' y' p q h

-- The dtypes of what is read, and the faults of keys and measures by them.
use Rattle.std.proofs.Common.{◌≡◌, ℕ, zero, suc, ◌+◌, ◌<◌, ◌≤◌, Bool, true, false, List, [], ◌∷◌, ◌++◌, length, map, drop, get_or, slice_get, Option, None, Some, refl, sym, ap, ◌∙◌, arith, add-one, append_assoc}
use Rattle.std.proofs.lemmas.List.{drop_more}
use Rattle.std.proofs.Math.ListN.{drop_of_length-le}
use Rattle.std.specs.List.{cons_option}
use Rattle.scan_values.specs.DataType.{DataType, Name, Fields, no_fields, field, fields_of}
use Rattle.scan_values.specs.FieldLists.{dtypes_of}
use Rattle.scan_values.specs.Kinds.{is_scalar_type, struct_fields_of}
use Rattle.std.specs.Fmt.{decimal}
use Rattle.scan_expr.specs.Expr.{Expr, parts_of, root}
use Rattle.scan_expr.specs.Infer.{infer, infer_all}
use Rattle.scan_groups.specs.declared.measure.Measured.{Measured}
use Rattle.scan_table.specs.declared.fault.TableFault.TheVariants as fault
use Rattle.scan_table.specs.declared.spec.Measure.{Measure}
use Rattle.scan_table.specs.declared.spec.Measure.TheVariants.{Count, Values, Sum, Least, Greatest}
use Rattle.scan_table.specs.declared.spec.TableSpec.{TableSpec}
use Rattle.scan_table.specs.Spec.{behind, key_parts, measure_parts, measured, measured_from, own_names, projection_of, read_by, read_of}
use Rattle.scan_table.specs.Request.{holds_of, key_fault, may_read, measure_fault, or_else, unless}

pub own_names-length : (i : ℕ) (es : List Expr) → length (own_names i es) ≡ length es
own_names-length i [] = refl
own_names-length i (e ∷ es) = ap suc (own_names-length (i + 1) es)

-- ---- dtypes of fields
abbrev types_in : Fields → List DataType
types_in no_fields = []
types_in (field n d fs) = d ∷ types_in fs

types_of : (fs : List (Name × DataType)) → types_in (fields_of fs) ≡ dtypes_of fs
types_of [] = refl
types_of (f ∷ fs) = ap (λ ts. f.1 ∷ ts) (types_of fs)

types_inferred : (d : DataType) (ns : List Name) (es : List Expr) → types_in (infer_all d (parts_of ns es)) ≡ map (infer d) es
types_inferred d [] [] = refl
types_inferred d (n ∷ ns) [] = refl
types_inferred d [] (e ∷ es) = ap (λ ts. infer d e ∷ ts) (types_inferred d [] es)
types_inferred d (n ∷ ns) (e ∷ es) = ap (λ ts. infer d e ∷ ts) (types_inferred d ns es)

same_some : {A : Type 0} (x y : A) → Some x ≡ Some y → x ≡ y
same_some x y e = cc

-- the fields of a bound projection
pub part_types : (d t : DataType) (e : Expr) (s : TableSpec) (fs : List (Name × DataType)) → e ≡ projection_of s → t ≡ infer d e → Some (fields_of fs) ≡ struct_fields_of t → dtypes_of fs ≡ map (infer d) (read_of s)
part_types d t e s fs p q h =
    let own = infer_all d (parts_of (own_names 0 (read_of s)) (read_of s)) in
    let same : Some (fields_of fs) ≡ Some own = h ∙ ap struct_fields_of (q ∙ ap (infer d) p) in
    let fields : fields_of fs ≡ own = same_some (fields_of fs) own same in
    sym (types_of fs) ∙ ap types_in fields ∙ types_inferred d (own_names 0 (read_of s)) (read_of s)

some_not_none : {A : Type 0} (x : A) → ◌≡◌ {A = Option A} None (Some x) → ⊥
some_not_none x e = cc

-- a projection is of a struct
pub no_part_types : (d t : DataType) (e : Expr) (s : TableSpec) → e ≡ projection_of s → t ≡ infer d e → None ≡ struct_fields_of t → ⊥
no_part_types d t e s p q h = some_not_none (infer_all d (parts_of (own_names 0 (read_of s)) (read_of s))) (h ∙ ap struct_fields_of (q ∙ ap (infer d) p))

-- ---- keys
pub key_passed : (d : DataType) (ks : List (Name × Expr)) (es : List Expr) (i j : ℕ) → i < length ks → holds_of is_scalar_type (slice_get (map (infer d) (key_parts ks ++ es)) i) ≡ true
    → key_fault d j (drop i ks) ≡ key_fault d (j + 1) (drop (suc i) ks)
key_passed d [] es i j lt h = absurd (omega (arith, lt))
key_passed d (k ∷ ks) es zero j lt h = ap (λ b. or_else (unless b (fault.KeyType j)) (key_fault d (j + 1) ks)) h
key_passed d (k ∷ ks) es (suc i) j lt h = key_passed d ks es i j (omega (arith, lt)) h

pub key_stopped : (d : DataType) (ks : List (Name × Expr)) (es : List Expr) (i j : ℕ) → i < length ks → holds_of is_scalar_type (slice_get (map (infer d) (key_parts ks ++ es)) i) ≡ false
    → key_fault d j (drop i ks) ≡ Some (fault.KeyType j)
key_stopped d [] es i j lt h = absurd (omega (arith, lt))
key_stopped d (k ∷ ks) es zero j lt h = ap (λ b. or_else (unless b (fault.KeyType j)) (key_fault d (j + 1) ks)) h
key_stopped d (k ∷ ks) es (suc i) j lt h = key_stopped d ks es i j (omega (arith, lt)) h

-- one key of a loop over them
pub key_next : (d : DataType) (ks : List (Name × Expr)) (es : List Expr) (ts : List DataType) (i : ℕ) → i < length ks → ts ≡ map (infer d) (key_parts ks ++ es)
    → holds_of is_scalar_type (slice_get ts i) ≡ true → key_fault d 0 ks ≡ key_fault d i (drop i ks) → key_fault d 0 ks ≡ key_fault d (i + 1) (drop (i + 1) ks)
key_next d ks es ts i lt e h before =
    before ∙ key_passed d ks es i i lt (ap (λ xs. holds_of is_scalar_type (slice_get xs i)) (sym e) ∙ h) ∙ ap (λ n. key_fault d (i + 1) (drop n ks)) (sym (add-one i))

pub key_here : (d : DataType) (ks : List (Name × Expr)) (es : List Expr) (ts : List DataType) (i : ℕ) → i < length ks → ts ≡ map (infer d) (key_parts ks ++ es)
    → holds_of is_scalar_type (slice_get ts i) ≡ false → key_fault d 0 ks ≡ key_fault d i (drop i ks) → key_fault d 0 ks ≡ Some (fault.KeyType i)
key_here d ks es ts i lt e h before = before ∙ key_stopped d ks es i i lt (ap (λ xs. holds_of is_scalar_type (slice_get xs i)) (sym e) ∙ h)

pub keys_done : (d : DataType) (ks : List (Name × Expr)) (i : ℕ) → length ks ≤ i → key_fault d 0 ks ≡ key_fault d i (drop i ks) → key_fault d 0 ks ≡ None
keys_done d ks i le before = before ∙ ap (key_fault d i) (drop_of_length-le ks le)

-- ---- measures
drop_next : {A : Type 0} (ts : List A) (p : ℕ) (x : A) (xs : List A) → drop p ts ≡ x ∷ xs → drop (suc p) ts ≡ xs
drop_next [] zero x xs e = cc
drop_next [] (suc p) x xs e = cc
drop_next (t ∷ ts) zero x xs e = cc
drop_next (t ∷ ts) (suc p) x xs e = drop_next ts p x xs e

pub next_rest : {A : Type 0} (ts : List A) (p : ℕ) (x : A) (xs : List A) → drop p ts ≡ x ∷ xs → drop (p + 1) ts ≡ xs
next_rest ts p x xs e = ap (λ n. drop n ts) (add-one p) ∙ drop_next ts p x xs e

pub at_head : {A : Type 0} (ts : List A) (p : ℕ) (x : A) (xs : List A) → drop p ts ≡ x ∷ xs → slice_get ts p ≡ Some x
at_head [] zero x xs e = cc
at_head [] (suc p) x xs e = cc
at_head (t ∷ ts) zero x xs e = cc
at_head (t ∷ ts) (suc p) x xs e = at_head ts p x xs e

-- what a measure reads is among what is read, at its place
abbrev pub Stands : DataType → List DataType → ℕ → List (Name × Measure) → Type 0
Stands d ts p ms = drop p ts ≡ map (infer d) (measure_parts ms)

read_test : (d : DataType) (ts : List DataType) (p : ℕ) (m : Measure) (x : Expr) (xs : List DataType) → drop p ts ≡ infer d x ∷ xs → holds_of (may_read m) (slice_get ts p) ≡ may_read m (infer d x)
read_test d ts p m x xs e = ap (holds_of (may_read m)) (at_head ts p (infer d x) xs e)

any_count : (o : Option DataType) → holds_of (may_read Count) o ≡ true
any_count None = refl
any_count (Some t) = refl

contrary : {A : Type 0} (b : Bool) → b ≡ true → b ≡ false → A
contrary b h k = absurd (let e : true ≡ false = sym h ∙ k in cc)

module _ (d : DataType) (ts : List DataType) (p : ℕ) (n : Name) (rest : List (Name × Measure)) (j : ℕ) where
  abbrev Passes : Measure → Type 0
  Passes m = Stands d ts (behind p m) rest × (measure_fault d j ((n, m) ∷ rest) ≡ measure_fault d (j + 1) rest)

  passed : (m : Measure) (b : Bool) → b ≡ true → or_else (unless b (fault.MeasureType j)) (measure_fault d (j + 1) rest) ≡ measure_fault d (j + 1) rest
  passed m b h = ap (λ b. or_else (unless b (fault.MeasureType j)) (measure_fault d (j + 1) rest)) h

  stopped : (m : Measure) (b : Bool) → b ≡ false → or_else (unless b (fault.MeasureType j)) (measure_fault d (j + 1) rest) ≡ Some (fault.MeasureType j)
  stopped m b h = ap (λ b. or_else (unless b (fault.MeasureType j)) (measure_fault d (j + 1) rest)) h

  pub measure_passed : (m : Measure) → Stands d ts p ((n, m) ∷ rest) → holds_of (may_read m) (slice_get ts p) ≡ true → Passes m
  measure_passed Count e h = (e, refl)
  measure_passed (Values x) e h = (next_rest ts p (infer d x) (map (infer d) (measure_parts rest)) e, refl)
  measure_passed (Sum x) e h =
      let xs = map (infer d) (measure_parts rest) in
      (next_rest ts p (infer d x) xs e, passed (Sum x) (may_read (Sum x) (infer d x)) (sym (read_test d ts p (Sum x) x xs e) ∙ h))
  measure_passed (Least x) e h =
      let xs = map (infer d) (measure_parts rest) in
      (next_rest ts p (infer d x) xs e, passed (Least x) (may_read (Least x) (infer d x)) (sym (read_test d ts p (Least x) x xs e) ∙ h))
  measure_passed (Greatest x) e h =
      let xs = map (infer d) (measure_parts rest) in
      (next_rest ts p (infer d x) xs e, passed (Greatest x) (may_read (Greatest x) (infer d x)) (sym (read_test d ts p (Greatest x) x xs e) ∙ h))

  pub measure_stopped : (m : Measure) → Stands d ts p ((n, m) ∷ rest) → holds_of (may_read m) (slice_get ts p) ≡ false → measure_fault d j ((n, m) ∷ rest) ≡ Some (fault.MeasureType j)
  measure_stopped Count e h = contrary (holds_of (may_read Count) (slice_get ts p)) (any_count (slice_get ts p)) h
  measure_stopped (Values x) e h = contrary (holds_of (may_read (Values x)) (slice_get ts p)) (read_test d ts p (Values x) x (map (infer d) (measure_parts rest)) e) h
  measure_stopped (Sum x) e h = stopped (Sum x) (may_read (Sum x) (infer d x)) (sym (read_test d ts p (Sum x) x (map (infer d) (measure_parts rest)) e) ∙ h)
  measure_stopped (Least x) e h = stopped (Least x) (may_read (Least x) (infer d x)) (sym (read_test d ts p (Least x) x (map (infer d) (measure_parts rest)) e) ∙ h)
  measure_stopped (Greatest x) e h = stopped (Greatest x) (may_read (Greatest x) (infer d x)) (sym (read_test d ts p (Greatest x) x (map (infer d) (measure_parts rest)) e) ∙ h)

drop_keys : {A B : Type 0} (f : A → B) (ks ys : List A) (n : ℕ) → length ks ≡ n → drop n (map f (ks ++ ys)) ≡ map f ys
drop_keys f [] ys zero e = refl
drop_keys f [] ys (suc n) e = absurd (omega (arith, e))
drop_keys f (k ∷ ks) ys zero e = absurd (omega (arith, e))
drop_keys f (k ∷ ks) ys (suc n) e = drop_keys f ks ys n (omega (arith, e))

-- what is known of measures before one at a place: where what it reads stands, and that none before it has a fault
pub record AreRead (d : DataType) (ts : List DataType) (ms : List (Name × Measure)) (i p : ℕ) : Type 0 where
  pub stands : Stands d ts p (drop i ms)
  pub told : measure_fault d 0 ms ≡ measure_fault d i (drop i ms)

pub read_first : (d : DataType) (ts : List DataType) (ks : List Expr) (ms : List (Name × Measure)) (p : ℕ) → length ks ≡ p → ts ≡ map (infer d) (ks ++ measure_parts ms) → AreRead d ts ms 0 p
read_first d ts ks ms p e h = record { stands = ap (drop p) h ∙ drop_keys (infer d) ks (measure_parts ms) p e; told = refl }

pub read_next : (d : DataType) (ts : List DataType) (ms : List (Name × Measure)) (i p : ℕ) (m : Name × Measure) → i < length ms → m ≡ get_or ms i m
    → holds_of (may_read m.1) (slice_get ts p) ≡ true → AreRead d ts ms i p → AreRead d ts ms (i + 1) (behind p m.1)
read_next d ts ms i p m lt is h before =
    let rest : drop i ms ≡ m ∷ drop (i + 1) ms = drop_more ms i m lt ∙ ap (λ x. x ∷ drop (i + 1) ms) (sym is) in
    let done = measure_passed d ts p m.0 (drop (i + 1) ms) i m.1 (before.stands ∙ ap (λ xs. map (infer d) (measure_parts xs)) rest) h in
    record { stands = done.0; told = before.told ∙ ap (measure_fault d i) rest ∙ done.1 }

pub read_stop : (d : DataType) (ts : List DataType) (ms : List (Name × Measure)) (i p : ℕ) (m : Name × Measure) → i < length ms → m ≡ get_or ms i m
    → holds_of (may_read m.1) (slice_get ts p) ≡ false → AreRead d ts ms i p → measure_fault d 0 ms ≡ Some (fault.MeasureType i)
read_stop d ts ms i p m lt is h before =
    let rest : drop i ms ≡ m ∷ drop (i + 1) ms = drop_more ms i m lt ∙ ap (λ x. x ∷ drop (i + 1) ms) (sym is) in
    before.told ∙ ap (measure_fault d i) rest ∙ measure_stopped d ts p m.0 (drop (i + 1) ms) i m.1 (before.stands ∙ ap (λ xs. map (infer d) (measure_parts xs)) rest) h

pub read_done : (d : DataType) (ts : List DataType) (ms : List (Name × Measure)) (i p : ℕ) → length ms ≤ i → AreRead d ts ms i p → measure_fault d 0 ms ≡ None
read_done d ts ms i p le before = before.told ∙ ap (measure_fault d i) (drop_of_length-le ms le)

pub behind_most : (p : ℕ) (m : Measure) → behind p m ≤ p + 1
behind_most p Count = omega arith
behind_most p (Values x) = omega arith
behind_most p (Sum x) = omega arith
behind_most p (Least x) = omega arith
behind_most p (Greatest x) = omega arith

-- ---- what measures tell, one after the other
pub measured_next : (ms : List (Name × Measure)) (i p : ℕ) (m : Name × Measure) → i < length ms → m ≡ get_or ms i m
    → measured_from p (drop i ms) ≡ measured p m.1 ∷ measured_from (behind p m.1) (drop (i + 1) ms)
measured_next ms i p m lt is = ap (measured_from p) (drop_more ms i m lt ∙ ap (λ x. x ∷ drop (i + 1) ms) (sym is))

pub made_more : (made made' all : List Measured) (ms : List (Name × Measure)) (i p q : ℕ) (m : Name × Measure) (x : Measured) → i < length ms → m ≡ get_or ms i m → x ≡ measured p m.1 → q ≡ behind p m.1
    → made' ≡ made ++ x ∷ [] → made ++ measured_from p (drop i ms) ≡ all → made' ++ measured_from q (drop (i + 1) ms) ≡ all
made_more made made' all ms i p q m x lt is e f g inv =
    ap (λ ys. ys ++ measured_from q (drop (i + 1) ms)) (g ∙ ap (λ y. made ++ y ∷ []) e) ∙ append_assoc made (measured p m.1 ∷ []) (measured_from q (drop (i + 1) ms))
    ∙ ap (λ n. made ++ measured p m.1 ∷ measured_from n (drop (i + 1) ms)) f ∙ ap (λ ys. made ++ ys) (sym (measured_next ms i p m lt is)) ∙ inv

-- ---- the parts of measures, one after the other
pub part_next : (ms : List (Name × Measure)) (i : ℕ) (m : Name × Measure) (e : Expr) → i < length ms → m ≡ get_or ms i m → Some e ≡ read_by m.1
    → measure_parts (drop i ms) ≡ e ∷ measure_parts (drop (i + 1) ms)
part_next ms i m e lt is h = ap measure_parts (drop_more ms i m lt ∙ ap (λ x. x ∷ drop (i + 1) ms) (sym is)) ∙ ap (λ o. cons_option o (measure_parts (drop (i + 1) ms))) (sym h)

pub part_none : (ms : List (Name × Measure)) (i : ℕ) (m : Name × Measure) → i < length ms → m ≡ get_or ms i m → None ≡ read_by m.1
    → measure_parts (drop i ms) ≡ measure_parts (drop (i + 1) ms)
part_none ms i m lt is h = ap measure_parts (drop_more ms i m lt ∙ ap (λ x. x ∷ drop (i + 1) ms) (sym is)) ∙ ap (λ o. cons_option o (measure_parts (drop (i + 1) ms))) (sym h)

pub parts_more : (made made' all : List Expr) (ms : List (Name × Measure)) (i : ℕ) (m : Name × Measure) (e : Expr) → i < length ms → m ≡ get_or ms i m → Some e ≡ read_by m.1
    → made' ≡ made ++ e ∷ [] → made ++ measure_parts (drop i ms) ≡ all → made' ++ measure_parts (drop (i + 1) ms) ≡ all
parts_more made made' all ms i m e lt is h g inv =
    ap (λ ys. ys ++ measure_parts (drop (i + 1) ms)) g ∙ append_assoc made (e ∷ []) (measure_parts (drop (i + 1) ms)) ∙ ap (λ ys. made ++ ys) (sym (part_next ms i m e lt is h)) ∙ inv

-- ---- names of their own, one after the other
pub own_more : (made made' all : List Name) (es : List Expr) (i : ℕ) (n : Name) → i < length es → n ≡ decimal i → made' ≡ made ++ n ∷ [] → made ++ own_names i (drop i es) ≡ all
    → made' ++ own_names (i + 1) (drop (i + 1) es) ≡ all
own_more made made' all es i n lt e g inv =
    ap (λ ys. ys ++ own_names (i + 1) (drop (i + 1) es)) (g ∙ ap (λ y. made ++ y ∷ []) e) ∙ append_assoc made (decimal i ∷ []) (own_names (i + 1) (drop (i + 1) es))
    ∙ ap (λ xs. made ++ own_names i xs) (sym (drop_more es i root lt)) ∙ inv

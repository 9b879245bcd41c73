-- What binding gives: names that are found and stand once, and dtypes that are not deep.
use Rattle.std.proofs.Common.{◌≡◌, ◌≤◌, Bool, true, false, cond, not, ◌&&◌, ◌||◌, leb, is_some, Option, Some, None, List, [], ◌∷◌, ◌++◌, refl, ap, sym, subst, ◌∙◌, bytes_eq, arith, lit≤}
use Rattle.std.specs.Prelude.{Result, Ok}
use Rattle.std.proofs.lemmas.Slice.Eq.{bytes_eq-Decides}
use Rattle.std.proofs.lemmas.Bool.Decides.{nat_tests}
use Rattle.scan_values.specs.DataType.{DataType, bool_type, int_type, utf8_type, list_type, struct_type, Fields, no_fields, field, Name, depth_of}
use Rattle.scan_values.specs.FieldLists.{dtype_named}
use Rattle.scan_values.specs.Kinds.{struct_fields_of, is_scalar_type}
use Rattle.scan_values.specs.Val.{marked}
use Rattle.scan_values.specs.Fits.{fits}
use Rattle.scan_values.specs.NameFaults.{has_name, field_names, names_fault, dtype_fault, fields_fault, or_else}
use Rattle.scan_values.specs.declared.ptype.Nullability.{Nullability}
use Rattle.scan_values.specs.declared.text.NameFault.{NameFault}
use Rattle.scan_values.specs.declared.text.NameFault.TheVariants.{Repeated, Reserved}
use Rattle.scan_expr.specs.declared.op.BindFault.{BindFault}
use Rattle.scan_expr.specs.declared.op.BindFault.TheVariants.{Deep, Literal, NoField, RepeatedName}
use Rattle.scan_expr.specs.declared.op.Unary.{Unary}
use Rattle.scan_expr.specs.declared.op.Unary.TheVariants.{GetItem, Select, Exclude, Not, IsNull, IsNotNull, ListLength}
use Rattle.scan_expr.specs.Bound.{Bound, bound_of}
use Rattle.scan_expr.specs.Expr.{Expr, root, row_index, literal, unary, binary, pack, Parts, no_parts, part, expr_depth}
use Rattle.scan_expr.specs.Infer.{infer, infer_all, struct_fields, fields_or_none}
use Rattle.scan_expr.specs.Typing.{Fault, unless, or_fault, of_names, depth_fault, has_field, have_fields, in_struct, choice_fault, repeats, unary_fault, binary_fault, pack_fault, nodes_fault, parts_fault, bind_fault, bind_type, typed}
use Rattle.scan_partition.specs.Items.{validity_name}
use Rattle.scan_partition.specs.Rows.{Distinct}
use Rattle.scan_partition.specs.Found.{AllFound, FoundBy, FoundAt}
use Rattle.scan_partition.specs.Shallow.{NodesWithin, AllNodesWithin, IsPart}
use Rattle.scan_partition.specs.Conditions.{IsStruct}
use Rattle.scan_partition.proofs.Names.{false_if, bytes_eq-refl}
use Rattle.scan_partition.proofs.Part.{shallow_part}

-- ---- no fault
first_none : (f g : Fault) → or_fault f g ≡ None → f ≡ None
first_none None g h = refl
first_none (Some x) g h = cc

second_none : (f g : Fault) → or_fault f g ≡ None → g ≡ None
second_none None g h = h
second_none (Some x) g h = cc

holds : (b : Bool) (f : BindFault) → unless b f ≡ None → b ≡ true
holds true f h = refl
holds false f h = cc

shallow_if : (d : DataType) → depth_fault d ≡ None → depth_of d ≤ 64
shallow_if d h = let t : leb (depth_of d) 64 ≡ true = holds (leb (depth_of d) 64) Deep h in grind (arith, nat_tests)

no_name_fault : (f : Option NameFault) → of_names f ≡ None → f ≡ None
no_name_fault None h = refl
no_name_fault (Some Repeated) h = cc
no_name_fault (Some Reserved) h = cc

no_fault : {A : Type 0} (f : Fault) (x y : A) → typed f x ≡ Ok y → f ≡ None
no_fault None x y h = refl
no_fault (Some f) x y h = cc

-- ---- dtypes that are not deep
and_first : (a b : Bool) → a && b ≡ true → a ≡ true
and_first true b h = refl
and_first false b h = cc

and_second : (a b : Bool) → a && b ≡ true → b ≡ true
and_second true b h = h
and_second false b h = cc

scalar_shallow : (d : DataType) → is_scalar_type d ≡ true → depth_of d ≤ 64
scalar_shallow (bool_type n) h = lit≤ tt
scalar_shallow (int_type p n) h = lit≤ tt
scalar_shallow (utf8_type n) h = lit≤ tt
scalar_shallow (list_type d n) h = cc
scalar_shallow (struct_type fs n) h = cc

mutual
  nodes_shallow : (s : DataType) (e : Expr) → nodes_fault s e ≡ None → NodesWithin 64 s e
  nodes_shallow s root h = shallow_if s h
  nodes_shallow s row_index h = tt
  nodes_shallow s (literal d v) h = scalar_shallow d (and_first (is_scalar_type d) (fits (marked v) d) (holds (is_scalar_type d && fits (marked v) d) Literal h))
  nodes_shallow s (unary u e) h = (
    shallow_if (infer s (unary u e)) (second_none (unary_fault u (infer s e)) (depth_fault (infer s (unary u e)))
        (second_none (nodes_fault s e) (or_fault (unary_fault u (infer s e)) (depth_fault (infer s (unary u e)))) h)),
    nodes_shallow s e (first_none (nodes_fault s e) (or_fault (unary_fault u (infer s e)) (depth_fault (infer s (unary u e)))) h),
  )
  nodes_shallow s (binary b x y) h =
      let r = second_none (nodes_fault s x) (or_fault (nodes_fault s y) (or_fault (binary_fault b (infer s x) (infer s y)) (depth_fault (infer s (binary b x y))))) h in
      let q = second_none (nodes_fault s y) (or_fault (binary_fault b (infer s x) (infer s y)) (depth_fault (infer s (binary b x y)))) r in (
        shallow_if (infer s (binary b x y)) (second_none (binary_fault b (infer s x) (infer s y)) (depth_fault (infer s (binary b x y))) q),
        nodes_shallow s x (first_none (nodes_fault s x)
            (or_fault (nodes_fault s y) (or_fault (binary_fault b (infer s x) (infer s y)) (depth_fault (infer s (binary b x y))))) h),
        nodes_shallow s y (first_none (nodes_fault s y) (or_fault (binary_fault b (infer s x) (infer s y)) (depth_fault (infer s (binary b x y)))) r),
      )
  nodes_shallow s (pack ps n) h =
      let r = second_none (parts_fault s ps) (or_fault (pack_fault (infer_all s ps)) (depth_fault (infer s (pack ps n)))) h in
      (shallow_if (infer s (pack ps n)) (second_none (pack_fault (infer_all s ps)) (depth_fault (infer s (pack ps n))) r), all_shallow s ps (first_none (parts_fault s ps) (or_fault (pack_fault (infer_all s ps)) (depth_fault (infer s (pack ps n)))) h))

  all_shallow : (s : DataType) (ps : Parts) → parts_fault s ps ≡ None → AllNodesWithin 64 s ps
  all_shallow s no_parts h = tt
  all_shallow s (part n e ps) h = (nodes_shallow s e (first_none (nodes_fault s e) (parts_fault s ps) h), all_shallow s ps (second_none (nodes_fault s e) (parts_fault s ps) h))

-- ---- names that are found
found_field : (n : Name) (fs : Fields) → has_field n fs ≡ true → has_name n (field_names fs) ≡ true
found_field n no_fields h = cc
found_field n (field m d fs) h = go (bytes_eq n m) (found_field n fs) h
  where
    go : (b : Bool) → (has_field n fs ≡ true → has_name n (field_names fs) ≡ true) → is_some (cond b (Some d) (dtype_named n fs)) ≡ true → b || has_name n (field_names fs) ≡ true
    go true f h = refl
    go false f h = f h

all_found : (ns : List Name) (fs : Fields) → have_fields ns fs ≡ true → AllFound fs ns
all_found [] fs h = tt
all_found (n ∷ ns) fs h = (found_field n fs (and_first (has_field n fs) (have_fields ns fs) h), all_found ns fs (and_second (has_field n fs) (have_fields ns fs) h))

in_fields : (o : Option Fields) (f : Fields → Fault) → in_struct o f ≡ None → f (fields_or_none o) ≡ None
in_fields None f h = cc
in_fields (Some fs) f h = h

found_by : (s : DataType) (u : Unary) → unary_fault u s ≡ None → FoundBy (struct_fields s) u
found_by s (GetItem n) h = found_field n (struct_fields s) (holds (has_field n (struct_fields s)) NoField (in_fields (struct_fields_of s) (λ fs. unless (has_field n fs) NoField) h))
found_by s (Select ns) h =
    all_found ns (struct_fields s) (holds (have_fields ns (struct_fields s)) NoField (second_none (unless (not (repeats [] ns)) RepeatedName) (unless (have_fields ns (struct_fields s)) NoField) (in_fields (struct_fields_of s) (choice_fault ns) h)))
found_by s (Exclude ns) h = tt
found_by s Not h = tt
found_by s IsNull h = tt
found_by s IsNotNull h = tt
found_by s ListLength h = tt

pub found_at : (s : DataType) (u : Unary) (e : Expr) (b : Bool) → (b ≡ true → e ≡ root) → unary_fault u (infer s e) ≡ None → FoundAt b (FoundBy (struct_fields s) u)
found_at s u e true r h = found_by s u (ap (λ x. unary_fault u (infer s x)) (sym (r refl)) ∙ h)
found_at s u e false r h = tt

-- ---- names that stand once, and none that is reserved
name_steps : (a b : Bool) (r : Option NameFault) → cond a (Some Reserved) (cond b (Some Repeated) r) ≡ None → (a ≡ false) × (b ≡ false) × (r ≡ None)
name_steps true b r h = cc
name_steps false true r h = cc
name_steps false false r h = (refl, refl, h)

pub unreserved : (seen ns : List Name) → names_fault seen ns ≡ None → has_name validity_name ns ≡ false
unreserved seen [] h = refl
unreserved seen (n ∷ ns) h =
    let s = name_steps (bytes_eq n validity_name) (has_name n seen) (names_fault (seen ++ n ∷ []) ns) h in
    (λ i. apart n s.0 i || unreserved (seen ++ n ∷ []) ns s.2 i)
  where
    apart : (n : Name) → bytes_eq n validity_name ≡ false → bytes_eq validity_name n ≡ false
    apart n q = false_if (bytes_eq validity_name n) (λ e. clash (sym (subst (λ x. bytes_eq x validity_name ≡ true) ((bytes_eq-Decides validity_name n).0 e) (bytes_eq-refl validity_name)) ∙ q))
      where
        clash : true ≡ false → ⊥
        clash r = cc

has_last : (n : Name) (seen : List Name) → has_name n (seen ++ n ∷ []) ≡ true
has_last n [] = ap (λ b. b || false) (bytes_eq-refl n)
has_last n (m ∷ ms) = ap (λ b. bytes_eq n m || b) (has_last n ms) ∙ or_true (bytes_eq n m)
  where
    or_true : (b : Bool) → b || true ≡ true
    or_true true = refl
    or_true false = refl

has_more : (n m : Name) (seen : List Name) → has_name n seen ≡ true → has_name n (seen ++ m ∷ []) ≡ true
has_more n m [] h = cc
has_more n m (x ∷ xs) h = go (bytes_eq n x) (has_more n m xs) h
  where
    go : (b : Bool) → (has_name n xs ≡ true → has_name n (xs ++ m ∷ []) ≡ true) → b || has_name n xs ≡ true → b || has_name n (xs ++ m ∷ []) ≡ true
    go true f h = refl
    go false f h = f h

-- a name that was seen stands no more
once : (n : Name) (seen ns : List Name) → has_name n seen ≡ true → names_fault seen ns ≡ None → has_name n ns ≡ false
once n seen [] s h = refl
once n seen (m ∷ ms) s h =
    let r = name_steps (bytes_eq m validity_name) (has_name m seen) (names_fault (seen ++ m ∷ []) ms) h in
    (λ i. false_if (bytes_eq n m) (λ e. clash (sym s ∙ ap (λ x. has_name x seen) ((bytes_eq-Decides n m).0 e) ∙ r.1)) i || once n (seen ++ m ∷ []) ms (has_more n m seen s) r.2 i)
  where
    clash : true ≡ false → ⊥
    clash q = cc

pub distinct : (seen : List Name) (fs : Fields) → names_fault seen (field_names fs) ≡ None → Distinct fs
distinct seen no_fields h = tt
distinct seen (field n d fs) h =
    let r = name_steps (bytes_eq n validity_name) (has_name n seen) (names_fault (seen ++ n ∷ []) (field_names fs)) h in
    (once n (seen ++ n ∷ []) (field_names fs) (has_last n seen) r.2, distinct (seen ++ n ∷ []) fs r.2)

pub first_of_two : (f g : Option NameFault) → or_else f g ≡ None → f ≡ None
first_of_two None g h = refl
first_of_two (Some x) g h = cc

pub second_of_two : (f g : Option NameFault) → or_else f g ≡ None → g ≡ None
second_of_two None g h = h
second_of_two (Some x) g h = cc

pub struct_names : (s : DataType) → dtype_fault s ≡ None → IsStruct s → names_fault [] (field_names (struct_fields s)) ≡ None
struct_names s h st = subst (λ (t : DataType). dtype_fault t ≡ None → names_fault [] (field_names (struct_fields t)) ≡ None) st (λ q. first_of_two (names_fault [] (field_names (struct_fields s))) (fields_fault (struct_fields s)) q) h

-- the scope's names, its depth, and the nodes
pub bind_parts : (s : DataType) (e : Expr) (d : DataType) → bind_type s e ≡ Ok d → (dtype_fault s ≡ None) × (depth_of s ≤ 64) × IsPart s e
bind_parts s e d h =
    let none : bind_fault s e ≡ None = no_fault (bind_fault s e) (infer s e) d h in
    let rest = second_none (depth_fault s) (or_fault (of_names (dtype_fault s)) (or_fault (unless (leb (expr_depth e) 100) Deep) (nodes_fault s e))) none in
    let nodes = second_none (unless (leb (expr_depth e) 100) Deep) (nodes_fault s e) (second_none (of_names (dtype_fault s)) (or_fault (unless (leb (expr_depth e) 100) Deep) (nodes_fault s e)) rest) in (
      no_name_fault (dtype_fault s) (first_none (of_names (dtype_fault s)) (or_fault (unless (leb (expr_depth e) 100) Deep) (nodes_fault s e)) rest),
      shallow_if s (first_none (depth_fault s) (or_fault (of_names (dtype_fault s)) (or_fault (unless (leb (expr_depth e) 100) Deep) (nodes_fault s e))) none),
      shallow_part s e (nodes_shallow s e nodes),
    )

-- ---- for callers
pub is_struct : (d : DataType) (fs : Fields) (n : Nullability) → d ≡ struct_type fs n → IsStruct d
is_struct d fs n h = subst IsStruct (sym h) refl

pub one_bound : (f : Fault) (b x : Bound) → Ok b ≡ typed f x → (f ≡ None) × (b ≡ x)
one_bound None b x h = (refl, same h)
  where
    same : ◌≡◌ {A = Result Bound BindFault} (Ok b) (Ok x) → b ≡ x
    same q = cc
one_bound (Some f) b x h = cc

pub bound_is : (s : DataType) (e : Expr) (b : Bound) → Ok b ≡ typed (bind_fault s e) (bound_of s e) → b ≡ bound_of s e
bound_is s e b h = (one_bound (bind_fault s e) b (bound_of s e) h).1

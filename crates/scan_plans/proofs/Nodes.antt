-- What a node gives of what its parts give.
use Rattle.std.proofs.Common.{◌≡◌, ℕ, ◌+◌, ◌<◌, ◌≤◌, Bool, true, false, ◌||◌, List, [], ◌∷◌, map, length, replicate, Result, Err, refl, ap, ◌∙◌, sym, arith}
use Rattle.std.specs.Prelude.{slice_range, None}
use Rattle.std.specs.List.{list_any, items_where_true, range_with_len}
use Rattle.scan_values.specs.Arrays.{ArrayData, of_parts}
use Rattle.scan_values.specs.DataType.{DataType, bool_type, int_type, utf8_type, list_type, struct_type}
use Rattle.scan_values.specs.declared.ptype.Nullability.TheVariants.{NonNullable, Nullable}
use Rattle.scan_values.specs.Damage.{damaged_of}
use Rattle.scan_values.specs.Fits.{fits, is_struct_type}
use Rattle.scan_values.specs.Marked.{Marked, null}
use Rattle.scan_values.specs.Val.{Val, marked}
use Rattle.scan_expr.specs.declared.op.ApplyFault.{ApplyFault}
use Rattle.scan_expr.specs.declared.op.ApplyFault.TheVariants as apply
use Rattle.scan_expr.specs.Bound.{bound_of}
use Rattle.scan_expr.specs.Expr.{Expr, uses_row_index}
use Rattle.scan_expr.specs.Infer.{infer}
use Rattle.scan_expr.specs.Typing.{typing_fault}
use Rattle.scan_expr.specs.Eval.{eval}
use Rattle.scan_expr.specs.Overflow.{overflows, overflows_on}
use Rattle.scan_expr.proofs.Sound.{eval_fits}
use Rattle.scan_columns.specs.Joined.{joined_at, root_overflows}
use Rattle.scan_plans.specs.PlanTree.{PlanTree, rows, evaluate, over, constant, PlanTrees}
use Rattle.scan_plans.specs.Came.{Came, arrived}
use Rattle.scan_plans.specs.Faults.{read_fault}
use Rattle.scan_plans.specs.Formed.{reads}
use Rattle.scan_plans.specs.Meaning.{value_at, overflow_at, overflow_on, true_rows}
use Rattle.scan_plans.specs.Reads.{AreValues, AreColumns, Reads, ReadsAll}
use Rattle.scan_plans.specs.declared.fault.ReadFault.{ReadFault}
use Rattle.scan_plans.specs.declared.fault.ReadFault.TheVariants.{Corrupt, Overflow, NoMemory}
use Rattle.scan_plans.proofs.Constants.{value_alike}
use Rattle.scan_plans.proofs.Parts.{any_or, joined_items, joined_overflows, over_within, over_overflow, columns_found}
use Rattle.scan_plans.proofs.Segments.{slice_items}

map_map : {A B C : Type 0} (f : B → C) (g : A → B) (xs : List A) → map (λ x. f (g x)) xs ≡ map f (map g xs)
map_map f g [] = refl
map_map f g (x ∷ xs) = ap (λ ys. f (g x) ∷ ys) (map_map f g xs)

any_map : {A B : Type 0} (f : B → Bool) (g : A → B) (xs : List A) → list_any (λ x. f (g x)) xs ≡ list_any f (map g xs)
any_map f g [] = refl
any_map f g (x ∷ xs) = ap (λ b. f (g x) || b) (any_map f g xs)

-- ---- an expression over values
expr_overflow : (d : DataType) (e : Expr) (p : PlanTree) (here : Came) (is : List ℕ) (a : ArrayData) → AreValues p here is a → overflow_on (evaluate d e p) (arrived here) is ≡ overflows_on d e a.items
expr_overflow d e p here is a h =
    any_or (overflow_at p (arrived here)) (λ i. overflows d e (value_at p (arrived here) i) 0) is
    ∙ ap (λ b. b || list_any (λ i. overflows d e (value_at p (arrived here) i) 0) is) h.within
    ∙ any_map (λ m. overflows d e m 0) (value_at p (arrived here)) is
    ∙ ap (list_any (λ m. overflows d e m 0)) (sym h.items)
    ∙ sym (any_map (λ m. overflows d e m 0) marked a.items)

pub evaluate_ok : (d : DataType) (e : Expr) (p : PlanTree) (here : Came) (is : List ℕ) (a b : ArrayData) → b.dtype ≡ infer d e → map marked b.items ≡ map (λ v. eval d e (marked v) 0) a.items → overflows_on d e a.items ≡ false → AreValues p here is a → AreValues (evaluate d e p) here is b
evaluate_ok d e p here is a b t items within h = record {
  dtype = t;
  items = items ∙ map_map (λ m. eval d e m 0) marked a.items ∙ ap (map (λ m. eval d e m 0)) h.items ∙ sym (map_map (λ m. eval d e m 0) (value_at p (arrived here)) is);
  within = expr_overflow d e p here is a h ∙ within;
  found = h.found;
}

pub evaluate_fault : (d : DataType) (e : Expr) (p : PlanTree) (here : Came) (is : List ℕ) (a : ArrayData) (r : Result ArrayData ApplyFault) (f : ApplyFault)
    → r ≡ Err f → (r ≡ Err apply.Overflow → overflows_on d e a.items ≡ true) → AreValues p here is a → Reads (evaluate d e p) here is (Err (read_fault f))
evaluate_fault d e p here is a r apply.Overflow w o h = expr_overflow d e p here is a h ∙ o w
evaluate_fault d e p here is a r apply.NoMemory w o h = tt

-- a part's fault is the node's
pub evaluate_passes : (d : DataType) (e : Expr) (p : PlanTree) (here : Came) (is : List ℕ) (f : ReadFault) → Reads p here is (Err f) → Reads (evaluate d e p) here is (Err f)
evaluate_passes d e p here is (Corrupt id) h = h
evaluate_passes d e p here is Overflow h = any_or (overflow_at p (arrived here)) (λ i. overflows d e (value_at p (arrived here) i) 0) is ∙ rw h refl
evaluate_passes d e p here is NoMemory h = tt

-- ---- values in memory
never : (is : List ℕ) → list_any (λ i. false) is ≡ false
never [] = refl
never (i ∷ is) = never is

pub rows_ok : (a : ArrayData) (here : Came) (first : ℕ) (mask : List Bool) (b : ArrayData) → first + length mask ≤ length a.items → b ≡ of_parts a.dtype (items_where_true mask (slice_range a.items first (first + length mask))) → AreValues (rows a.dtype a.items) here (true_rows first mask) b
rows_ok a here first mask b h e = record {
  dtype = ap (λ (x : ArrayData). x.dtype) e;
  items = ap (λ (x : ArrayData). map marked x.items) e ∙ slice_items a.items first mask h;
  within = never (true_rows first mask);
  found = λ id. refl;
}

-- ---- an expression over structs of columns
pub over_ok : (d : DataType) (e : Expr) (ps : PlanTrees) (here : Came) (is : List ℕ) (cs : List ArrayData) (n : ℕ) (b : ArrayData) → uses_row_index e ≡ false
    → b.dtype ≡ infer d e → map marked b.items ≡ map (joined_at (bound_of d e) cs) (range_with_len 0 n) → root_overflows (bound_of d e) cs n ≡ false
    → AreColumns ps here is cs → n ≡ length is → AreValues (over d e ps) here is b
over_ok d e ps here is cs n b u t items within h l = record {
  dtype = t;
  items = items ∙ ap (λ k. map (joined_at (bound_of d e) cs) (range_with_len 0 k)) l ∙ joined_items d e ps here is cs u h;
  within = over_within d e ps here is cs h ∙ sym (joined_overflows d e ps here is cs u h) ∙ ap (root_overflows (bound_of d e) cs) (sym l) ∙ within;
  found = columns_found ps here is cs h;
}

pub over_fault : (d : DataType) (e : Expr) (ps : PlanTrees) (here : Came) (is : List ℕ) (cs : List ArrayData) (n : ℕ) (r : Result ArrayData ApplyFault)
    (f : ApplyFault) → uses_row_index e ≡ false → r ≡ Err f → (r ≡ Err apply.Overflow → root_overflows (bound_of d e) cs n ≡ true) → AreColumns ps here is cs
    → n ≡ length is → Reads (over d e ps) here is (Err (read_fault f))
over_fault d e ps here is cs n r apply.Overflow u w o h l = over_within d e ps here is cs h ∙ sym (joined_overflows d e ps here is cs u h) ∙ ap (root_overflows (bound_of d e) cs) (sym l) ∙ o w
over_fault d e ps here is cs n r apply.NoMemory u w o h l = tt

pub over_passes : {A : Type 0} (items : A → List ArrayData) (d : DataType) (e : Expr) (ps : PlanTrees) (here : Came) (is : List ℕ) (f : ReadFault) → ReadsAll items ps here is (Err f) → Reads (over d e ps) here is (Err f)
over_passes items d e ps here is (Corrupt id) h = h
over_passes items d e ps here is Overflow h = over_overflow d e ps (arrived here) is ∙ rw h refl
over_passes items d e ps here is NoMemory h = tt

-- ---- one value everywhere
all_alike : (x : Marked) (v : Val) (is : List ℕ) → marked v ≡ x → map marked (replicate (length is) v) ≡ map (λ i. x) is
all_alike x v [] e = refl
all_alike x v (i ∷ is) e = rw e (ap (λ xs. x ∷ xs) (all_alike x v is e))

none_alike : (b : Bool) (is : List ℕ) → b ≡ false → list_any (λ i. b) is ≡ false
none_alike b [] e = refl
none_alike b (i ∷ is) e = ap (λ c. c || list_any (λ j. b) is) e ∙ none_alike b is e

pub constant_ok : (d : DataType) (e : Expr) (here : Came) (is : List ℕ) (n : ℕ) (v : Val) (t : DataType) (b : ArrayData) → b ≡ of_parts t (replicate n v) → t ≡ infer d e → marked v ≡ eval d e null 0 → overflows d e null 0 ≡ false → n ≡ length is → AreValues (constant d e) here is b
constant_ok d e here is n v t b same dtype value within l = record {
  dtype = ap (λ (x : ArrayData). x.dtype) same ∙ dtype;
  items = ap (λ (x : ArrayData). map marked x.items) same ∙ ap (λ k. map marked (replicate k v)) l ∙ all_alike (eval d e null 0) v is value;
  within = none_alike (overflows d e null 0) is within;
  found = λ id. refl;
}

pub constant_fault : (A : Type 0) (d : DataType) (e : Expr) (here : Came) (is : List ℕ) (n : ℕ) (r : Result A ApplyFault) (f : ApplyFault) → r ≡ Err f → (r ≡ Err apply.Overflow → overflows d e null 0 ≡ true) → 0 < n → n ≡ length is → Reads (constant d e) here is (Err (read_fault f))
constant_fault A d e here [] n r apply.Overflow w o some l = let z : ⊥ = omega (arith, l, some) in absurd z
constant_fault A d e here (i ∷ is) n r apply.Overflow w o some l = rw (o w) refl
constant_fault A d e here is n r apply.NoMemory w o some l = tt

damaged_fits : (d : DataType) → is_struct_type d ≡ false → fits (damaged_of d) d ≡ true
damaged_fits (bool_type NonNullable) s = refl
damaged_fits (bool_type Nullable) s = refl
damaged_fits (int_type p NonNullable) s = refl
damaged_fits (int_type p Nullable) s = refl
damaged_fits (utf8_type NonNullable) s = refl
damaged_fits (utf8_type Nullable) s = refl
damaged_fits (list_type t NonNullable) s = refl
damaged_fits (list_type t Nullable) s = refl
damaged_fits (struct_type fs n) s = absurd cc

pub constant_fits : (d : DataType) (e : Expr) (v : Val) → reads d e ≡ false → is_struct_type d ≡ false → typing_fault d e ≡ None → marked v ≡ eval d e null 0 → fits (marked v) (infer d e) ≡ true
constant_fits d e v r s t value = ap (λ m. fits m (infer d e)) (value ∙ value_alike d e null (damaged_of d) 0 r) ∙ eval_fits d e (damaged_of d) 0 (damaged_fits d s) (omega arith) t

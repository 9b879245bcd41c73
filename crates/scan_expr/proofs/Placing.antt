-- Fields by their places.
use Rattle.std.proofs.Common.{◌≡◌, ℕ, ◌+◌, ◌<◌, ◌≤◌, zero, suc, Bool, true, false, cond, not, ◌||◌, ◌&&◌, nat_lt, List, [], ◌∷◌, ◌++◌, append_assoc, length, get_or, take, drop, map, Option, Some, None, slice_get, bytes_eq, Bor, refl, sym, ap, subst, ◌∙◌, arith}
use Rattle.std.specs.Prelude.{is_some}
use Rattle.std.specs.Ordering.{nat_cmp}
use Rattle.std.specs.Cmp.Lexicographic.{slice_cmp}
use Rattle.std.specs.BTreeSet.{BTreeSet, contains_by, UpdatesBy}
use Rattle.std.proofs.lemmas.Map.Text.{is_eq-slice_cmp}
use Rattle.std.proofs.Math.Numerals.{add-one, one-add}
use Rattle.std.proofs.Math.Seq.{drop-cons}
use Rattle.std.proofs.lemmas.List.{take_more, map-append}
use Rattle.std.specs.List.{position, position_or_len}
use Rattle.std.proofs.lemmas.Bool.Decides.{nat_tests}
use Rattle.scan_values.specs.Same.{bytes_eq-equivalence}
use Rattle.scan_values.specs.DataType.{DataType, Name, Fields, no_fields, field, fields_of, nullability_of}
use Rattle.scan_values.specs.FieldLists.{names_of, dtypes_of, dtype_named}
use Rattle.scan_values.specs.Kinds.{struct_fields_of}
use Rattle.scan_values.specs.NameFaults.{has_name, field_names}
use Rattle.scan_values.specs.Marked.{Marked, lost, null, gone, boolean, integer, text, list, struct, Markeds, none, more, listed, chained}
use Rattle.scan_values.specs.Val.{Val, null_val, vals_of, marked, marked_all}
use Rattle.scan_values.specs.Values.{val_of}
use Rattle.scan_values.specs.declared.value.Value.{Value}
use Rattle.scan_expr.specs.declared.op.Unary as ops
use Rattle.scan_expr.specs.declared.op.Unary.TheVariants.{GetItem, Select, Exclude, Not, IsNull, IsNotNull, ListLength}
use Rattle.scan_expr.specs.declared.bound.Op.{Op}
use Rattle.scan_expr.specs.Bound.{Bound}
use Rattle.scan_expr.specs.Infer.{struct_fields, fields_or_none, type_or_bool, field_type, raised, unary_type}
use Rattle.scan_expr.specs.Typing.{in_struct, choice_fault, has_field, have_fields, unary_fault, unless, repeats}
use Rattle.scan_expr.specs.declared.op.BindFault.TheVariants.{NoField, RepeatedName}
use Rattle.scan_expr.specs.Eval.{pick, pick_all, leave, of_struct, unary_value}
use Rattle.scan_expr.specs.Ops.{node_places}
use Rattle.scan_expr.specs.Places.{place_of, left_places, unary_places, nth, all_at, there_at}
use Rattle.scan_expr.proofs.Evals.{mark}
use Rattle.scan_expr.proofs.Fitting.{and_left, and_right}
use Rattle.scan_expr.proofs.Sound.{no_fault, held}

or_false : (b : Bool) → (b || false) ≡ b
or_false true = refl
or_false false = refl

or_assoc : (a b c : Bool) → (a || (b || c)) ≡ ((a || b) || c)
or_assoc true b c = refl
or_assoc false b c = refl

-- ---- the places of names
pub names-fields : (fs : List (Name × DataType)) → field_names (fields_of fs) ≡ names_of fs
names-fields [] = refl
names-fields (f ∷ fs) = ap (λ ns. f.0 ∷ ns) (names-fields fs)

some_of : (b : Bool) (i p : ℕ) → Some i ≡ cond b (Some p) None → i ≡ p
some_of true i p h = cc
some_of false i p h = cc

pub found_place : (n : Name) (fs : List (Name × DataType)) (i : ℕ) → Some i ≡ position (bytes_eq n) (names_of fs) → i ≡ place_of (fields_of fs) n
found_place n fs i h = rw (names-fields fs) (some_of (nat_lt (position_or_len (bytes_eq n) (names_of fs)) (length (names_of fs))) i (position_or_len (bytes_eq n) (names_of fs)) h)

within : (p : Name → Bool) (ns : List Name) → position_or_len p ns ≤ length ns
within p [] = omega arith
within p (n ∷ ns) = first (p n) (within p ns)
  where
    first : (b : Bool) → position_or_len p ns ≤ length ns → cond (not b) (1 + position_or_len p ns) 0 ≤ suc (length ns)
    first true h = omega arith
    first false h = omega (arith, h)

no_place : (p : Name → Bool) (ns : List Name) → None ≡ position p ns → length ns ≤ position_or_len p ns
no_place p ns h = grind (arith, nat_tests)

length-names_of : (fs : List (Name × DataType)) → length (names_of fs) ≡ length fs
length-names_of [] = refl
length-names_of (f ∷ fs) = ap suc (length-names_of fs)

pub lost_place : (n : Name) (fs : List (Name × DataType)) → None ≡ position (bytes_eq n) (names_of fs) → length fs ≡ place_of (fields_of fs) n
lost_place n fs h = rw (names-fields fs) (omega (arith, within (bytes_eq n) (names_of fs), no_place (bytes_eq n) (names_of fs) h, length-names_of fs))

has_name-push : (n m : Name) (ns : List Name) → has_name n (ns ++ m ∷ []) ≡ (has_name n ns || bytes_eq n m)
has_name-push n m [] = or_false (bytes_eq n m)
has_name-push n m (k ∷ ks) = ap (λ b. bytes_eq n k || b) (has_name-push n m ks) ∙ or_assoc (bytes_eq n k) (has_name n ks) (bytes_eq n m)

pub has_name-more : (n : Name) (ns : List Name) (i : ℕ) (d : Name) → i < length ns → has_name n (take (i + 1) ns) ≡ (has_name n (take i ns) || bytes_eq n (get_or ns i d))
has_name-more n ns i d h = ap (has_name n) (take_more ns i d h) ∙ has_name-push n (get_or ns i d) (take i ns)

pub cond_or : (a b : Bool) → cond a true b ≡ (b || a)
cond_or true true = refl
cond_or true false = refl
cond_or false true = refl
cond_or false false = refl

pub same_bytes : (a b : Name) → bytes_eq a b ≡ bytes_eq b a
same_bytes a b = bytes_eq-equivalence.symm a b

-- the places of the fields that are left, one name further
pub left_on : (ns ms : List Name) (i : ℕ) (m : Name) (done all : List ℕ) → i < length ms → m ≡ get_or ms i m → has_name m ns ≡ false
    → done ++ left_places ns i (drop i ms) ≡ all → (done ++ i ∷ []) ++ left_places ns (i + 1) (drop (i + 1) ms) ≡ all
left_on ns ms i m done all h at out inv =
    append_assoc done (i ∷ []) (left_places ns (i + 1) (drop (i + 1) ms))
    ∙ ap (λ xs. done ++ xs) (sym (rw (drop-cons ms i m, ← at, out) (ap (λ j. i ∷ left_places ns j (drop j ms)) (sym (add-one i))))) ∙ inv

pub left_over : (ns ms : List Name) (i : ℕ) (m : Name) (done all : List ℕ) → i < length ms → m ≡ get_or ms i m → has_name m ns ≡ true
    → done ++ left_places ns i (drop i ms) ≡ all → done ++ left_places ns (i + 1) (drop (i + 1) ms) ≡ all
left_over ns ms i m done all h at has inv =
    ap (λ xs. done ++ xs) (sym (rw (drop-cons ms i m, ← at, has) (ap (λ j. left_places ns j (drop j ms)) (sym (add-one i))))) ∙ inv

-- ---- names in a set of texts
abbrev pub is_seen : BTreeSet (Bor (List ℕ)) → Name → Bool
is_seen seen n = contains_by (λ k. slice_cmp nat_cmp n k.now) seen

pub none_seen : (seen : BTreeSet (Bor (List ℕ))) (n : Name) → seen.keys ≡ [] → is_seen seen n ≡ false
none_seen seen n h = rw h refl

pub one_more_seen : (q : Bor (List ℕ)) (old new : BTreeSet (Bor (List ℕ))) → UpdatesBy (λ x y. slice_cmp nat_cmp x.now y.now) (λ k. slice_cmp nat_cmp q.now k.now) old new true
    → (n : Name) → is_seen new n ≡ (is_seen old n || bytes_eq q.now n)
one_more_seen q old new h n =
    h.0 (record { ref_ptr = q.ref_ptr; now = n }) ∙ rw (is_eq-slice_cmp q.now n) (cond_or (bytes_eq q.now n) (is_seen old n))

-- the names so far, one further
pub seen_turn : (ns : List Name) (i : ℕ) (q : Bor (List ℕ)) (m : Name) (old new : BTreeSet (Bor (List ℕ))) → i < length ns → m ≡ get_or ns i m → q.now ≡ m
    → UpdatesBy (λ x y. slice_cmp nat_cmp x.now y.now) (λ k. slice_cmp nat_cmp q.now k.now) old new true
    → ((n : Name) → is_seen old n ≡ has_name n (take i ns)) → (n : Name) → is_seen new n ≡ has_name n (take (i + 1) ns)
seen_turn ns i q m old new h at is u was n =
    one_more_seen q old new u n ∙ sym (has_name-more n ns i m h ∙ rw (← at, same_bytes n m, ← was n, ← is) refl)

-- ---- fields by their places
pub dtype_named-at : (n : Name) (fs : List (Name × DataType)) → slice_get (dtypes_of fs) (place_of (fields_of fs) n) ≡ dtype_named n (fields_of fs)
dtype_named-at n [] = refl
dtype_named-at n (f ∷ fs) = first (bytes_eq n f.0) (dtype_named-at n fs)
  where
    first : (b : Bool) → slice_get (dtypes_of fs) (place_of (fields_of fs) n) ≡ dtype_named n (fields_of fs)
        → slice_get (f.1 ∷ dtypes_of fs) (cond (not b) (1 + place_of (fields_of fs) n) 0) ≡ cond b (Some f.1) (dtype_named n (fields_of fs))
    first true h = refl
    first false h = ap (slice_get (f.1 ∷ dtypes_of fs)) (one-add (place_of (fields_of fs) n)) ∙ h

-- the dtype of the field at a place
abbrev pub type_at : List (Name × DataType) → ℕ → DataType
type_at fs p = type_or_bool (slice_get (dtypes_of fs) p)

pub field_type-at : (n : Name) (fs : List (Name × DataType)) → type_at fs (place_of (fields_of fs) n) ≡ field_type n (fields_of fs)
field_type-at n fs = ap type_or_bool (dtype_named-at n fs)

pub types_at : (ns : List Name) (fs : List (Name × DataType)) → map (type_at fs) (map (place_of (fields_of fs)) ns) ≡ map (λ n. field_type n (fields_of fs)) ns
types_at [] fs = refl
types_at (n ∷ ns) fs = λ i. field_type-at n fs i ∷ types_at ns fs i

has_place : (n : Name) (fs : Fields) → has_field n fs ≡ nat_lt (place_of fs n) (length (field_names fs))
has_place n no_fields = refl
has_place n (field m d fs) = first (bytes_eq n m) (has_place n fs)
  where
    p : ℕ
    p = place_of fs n

    less : nat_lt (1 + p) (suc (length (field_names fs))) ≡ nat_lt p (length (field_names fs))
    less = grind (arith, nat_tests)

    here : nat_lt 0 (suc (length (field_names fs))) ≡ true
    here = grind (arith, nat_tests)

    first : (b : Bool) → has_field n fs ≡ nat_lt p (length (field_names fs)) → is_some (cond b (Some d) (dtype_named n fs)) ≡ nat_lt (cond (not b) (1 + p) 0) (suc (length (field_names fs)))
    first true h = sym here
    first false h = h ∙ sym less

some_where : (b : Bool) (p : ℕ) → is_some (cond b (Some p) None) ≡ b
some_where true p = refl
some_where false p = refl

has_named : (n : Name) (fs : Fields) → has_field n fs ≡ is_some (position (bytes_eq n) (field_names fs))
has_named n fs = has_place n fs ∙ sym (some_where (nat_lt (place_of fs n) (length (field_names fs))) (place_of fs n))

pub has_field-found : (n : Name) (fs : List (Name × DataType)) → has_field n (fields_of fs) ≡ is_some (position (bytes_eq n) (names_of fs))
has_field-found n fs = has_named n (fields_of fs) ∙ ap (λ ns. is_some (position (bytes_eq n) ns)) (names-fields fs)

-- the place of a field that is there
pub first_place : (n : Name) (fs : Fields) (i : ℕ) → Some i ≡ position (bytes_eq n) (field_names fs) → i ≡ place_of fs n
first_place n fs i h = some_of (nat_lt (place_of fs n) (length (field_names fs))) i (place_of fs n) h

pub item_faultless : (n : Name) (d : DataType) (i : ℕ) → Some i ≡ position (bytes_eq n) (field_names (struct_fields d)) → unary_fault (GetItem n) d ≡ None
item_faultless n d i h = in_fields (struct_fields_of d) h
  where
    in_fields : (o : Option Fields) → Some i ≡ position (bytes_eq n) (field_names (fields_or_none o)) → in_struct o (λ fs. unless (has_field n fs) NoField) ≡ None
    in_fields None g = cc
    in_fields (Some fs) g = let yes : has_field n fs ≡ true = has_named n fs ∙ ap is_some (sym g) in rw yes refl

-- one name further
pub have_turn : (ns : List Name) (i : ℕ) (n : Name) (fs : List (Name × DataType)) (o : Option ℕ) → i < length ns → n ≡ get_or ns i n → o ≡ position (bytes_eq n) (names_of fs)
    → have_fields (drop i ns) (fields_of fs) ≡ (is_some o && have_fields (drop (i + 1) ns) (fields_of fs))
have_turn ns i n fs o h at is = rw (add-one, drop-cons ns i n, ← at, has_field-found n fs, is) refl

pub place_turn : (ns : List Name) (i : ℕ) (n : Name) (fs : List (Name × DataType)) (p : ℕ) (ps : List ℕ) → i < length ns → n ≡ get_or ns i n → Some p ≡ position (bytes_eq n) (names_of fs)
    → ps ≡ map (place_of (fields_of fs)) (take i ns) → ps ++ p ∷ [] ≡ map (place_of (fields_of fs)) (take (i + 1) ns)
place_turn ns i n fs p ps h at is was = rw (take_more ns i n h, ← at, map-append, ← was, ← found_place n fs p is) refl

-- the dtype of a field access
pub item_type : (u : ops.Unary) (n : Name) (d : DataType) (fs : List (Name × DataType)) (ps : List ℕ) → u ≡ GetItem n → fields_of fs ≡ struct_fields d → ps ≡ unary_places u (struct_fields d)
    → raised (nullability_of d) (type_at fs (get_or ps 0 0)) ≡ unary_type u d
item_type u n d fs ps o same at =
    let there : ps ≡ place_of (fields_of fs) n ∷ [] = at ∙ ap (λ w. unary_places w (struct_fields d)) o ∙ ap (λ gs. place_of gs n ∷ []) (sym same) in
    ap (λ qs. raised (nullability_of d) (type_at fs (get_or qs 0 0))) there ∙ ap (raised (nullability_of d)) (field_type-at n fs ∙ ap (field_type n) same) ∙ sym (ap (λ w. unary_type w d) o)

-- ---- values by places
pub pick-nth : (n : Name) (fs : Fields) (ms : Markeds) → has_field n fs ≡ true → pick n fs ms ≡ nth ms (place_of fs n)
pick-nth n no_fields ms h = cc
pick-nth n (field m d fs) none h = refl
pick-nth n (field m d fs) (more v vs) h = first (bytes_eq n m) h (pick-nth n fs vs)
  where
    first : (b : Bool) → is_some (cond b (Some d) (dtype_named n fs)) ≡ true → (is_some (dtype_named n fs) ≡ true → pick n fs vs ≡ nth vs (place_of fs n)) → cond b v (pick n fs vs) ≡ nth (more v vs) (cond (not b) (1 + place_of fs n) 0)
    first true g r = refl
    first false g r = r g ∙ ap (nth (more v vs)) (sym (one-add (place_of fs n)))

pub pick_all-at : (ns : List Name) (fs : Fields) (ms : Markeds) → have_fields ns fs ≡ true → pick_all ns fs ms ≡ all_at ms (map (place_of fs) ns)
pick_all-at [] fs ms h = refl
pick_all-at (n ∷ ns) fs ms h = λ i. more (pick-nth n fs ms (and_left (has_field n fs) (have_fields ns fs) h) i) (pick_all-at ns fs ms (and_right (has_field n fs) (have_fields ns fs) h) i)

less_suc : (i n : ℕ) → nat_lt (suc i) (suc n) ≡ nat_lt i n
less_suc i n = grind (arith, nat_tests)

less_zero : (i : ℕ) → nat_lt i 0 ≡ false
less_zero i = grind (arith, nat_tests)

zero_less : (n : ℕ) → nat_lt 0 (suc n) ≡ true
zero_less n = grind (arith, nat_tests)

shift : (ns ms : List Name) (i : ℕ) (v : Marked) (vs : Markeds) → there_at (more v vs) (left_places ns (suc i) ms) ≡ there_at vs (left_places ns i ms)
shift ns [] i v vs = refl
shift ns (m ∷ ms) i v vs = first (has_name m ns) (shift ns ms (suc i) v vs)
  where
    first : (b : Bool) → there_at (more v vs) (left_places ns (suc (suc i)) ms) ≡ there_at vs (left_places ns (suc i) ms)
        → there_at (more v vs) (cond b (left_places ns (suc (suc i)) ms) (suc i ∷ left_places ns (suc (suc i)) ms)) ≡ there_at vs (cond b (left_places ns (suc i) ms) (i ∷ left_places ns (suc i) ms))
    first true h = h
    first false h = rw (less_suc i (length (listed vs)), h) refl

none_there : (ps : List ℕ) → there_at none ps ≡ none
none_there [] = refl
none_there (p ∷ ps) = rw (less_zero p) (none_there ps)

pub leave-there : (ns : List Name) (fs : Fields) (ms : Markeds) → leave ns fs ms ≡ there_at ms (left_places ns 0 (field_names fs))
leave-there ns no_fields ms = refl
leave-there ns (field m d fs) none = sym (none_there (left_places ns 0 (m ∷ field_names fs)))
leave-there ns (field m d fs) (more v vs) = first (has_name m ns) (leave-there ns fs vs ∙ sym (shift ns (field_names fs) 0 v vs))
  where
    first : (b : Bool) → leave ns fs vs ≡ there_at (more v vs) (left_places ns 1 (field_names fs))
        → cond b (leave ns fs vs) (more v (leave ns fs vs)) ≡ there_at (more v vs) (cond b (left_places ns 1 (field_names fs)) (0 ∷ left_places ns 1 (field_names fs)))
    first true h = h
    first false h = rw (zero_less (length (listed vs))) (ap (more v) h)

-- ---- a list of values
pub nth-at : (vs : List Value) (i : ℕ) (v : Value) → i < length vs → v ≡ get_or vs i v → nth (marked_all (vals_of (map val_of vs))) i ≡ mark v
nth-at [] i v l e = absurd (omega arith)
nth-at (w ∷ vs) zero v l e = ap mark (sym e)
nth-at (w ∷ vs) (suc i) v l e = nth-at vs i v (omega arith) e

pub nth-past : (vs : List Value) (i : ℕ) → length vs ≤ i → nth (marked_all (vals_of (map val_of vs))) i ≡ null
nth-past [] i l = refl
nth-past (w ∷ vs) zero l = absurd (omega arith)
nth-past (w ∷ vs) (suc i) l = nth-past vs i (omega arith)

pub listed-length : (vs : List Value) → length (listed (marked_all (vals_of (map val_of vs)))) ≡ length vs
listed-length [] = refl
listed-length (v ∷ vs) = ap suc (listed-length vs)

pub chained-at : (ms : Markeds) (ps : List ℕ) → chained (map (nth ms) ps) ≡ all_at ms ps
chained-at ms [] = refl
chained-at ms (p ∷ ps) = ap (more (nth ms p)) (chained-at ms ps)

-- what stands at those of some places that are there
abbrev pub marks_there : List Value → List ℕ → List Marked
marks_there vs [] = []
marks_there vs (p ∷ ps) = cond (nat_lt p (length vs)) (nth (marked_all (vals_of (map val_of vs))) p ∷ marks_there vs ps) (marks_there vs ps)

pub chained-there : (vs : List Value) (ps : List ℕ) → chained (marks_there vs ps) ≡ there_at (marked_all (vals_of (map val_of vs))) ps
chained-there vs [] = refl
chained-there vs (p ∷ ps) = rw (listed-length vs) (first (nat_lt p (length vs)) (chained-there vs ps))
  where
    ms : Markeds
    ms = marked_all (vals_of (map val_of vs))

    first : (b : Bool) → chained (marks_there vs ps) ≡ there_at ms ps → chained (cond b (nth ms p ∷ marks_there vs ps) (marks_there vs ps)) ≡ cond b (more (nth ms p) (there_at ms ps)) (there_at ms ps)
    first true h = ap (more (nth ms p)) h
    first false h = h

-- one place further
pub there_turn : (vs : List Value) (ps : List ℕ) (i p : ℕ) → i < length ps → p ≡ get_or ps i 0 → p < length vs → marks_there vs (drop i ps) ≡ nth (marked_all (vals_of (map val_of vs))) p ∷ marks_there vs (drop (i + 1) ps)
there_turn vs ps i p h e l =
    let yes : nat_lt p (length vs) ≡ true = grind (arith, nat_tests) in
    rw (add-one, drop-cons ps i 0, ← e, yes) refl

pub there_past : (vs : List Value) (ps : List ℕ) (i p : ℕ) → i < length ps → p ≡ get_or ps i 0 → length vs ≤ p → marks_there vs (drop i ps) ≡ marks_there vs (drop (i + 1) ps)
there_past vs ps i p h e l =
    let no : nat_lt p (length vs) ≡ false = grind (arith, nat_tests) in
    rw (add-one, drop-cons ps i 0, ← e, no) refl

-- a place taken, or passed
pub left_kept : (vs : List Value) (ps : List ℕ) (i : ℕ) (done : List Marked) (m : Marked) → i < length ps → get_or ps i 0 < length vs → nth (marked_all (vals_of (map val_of vs))) (get_or ps i 0) ≡ m
    → done ++ marks_there vs (drop i ps) ≡ marks_there vs ps → (done ++ m ∷ []) ++ marks_there vs (drop (i + 1) ps) ≡ marks_there vs ps
left_kept vs ps i done m h l n inv =
    append_assoc done (m ∷ []) (marks_there vs (drop (i + 1) ps))
    ∙ ap (λ xs. done ++ xs) (ap (λ x. x ∷ marks_there vs (drop (i + 1) ps)) (sym n) ∙ sym (there_turn vs ps i (get_or ps i 0) h refl l)) ∙ inv

pub left_past : (vs : List Value) (ps : List ℕ) (i : ℕ) (done : List Marked) → i < length ps → length vs ≤ get_or ps i 0
    → done ++ marks_there vs (drop i ps) ≡ marks_there vs ps → done ++ marks_there vs (drop (i + 1) ps) ≡ marks_there vs ps
left_past vs ps i done h l inv = ap (λ xs. done ++ xs) (sym (there_past vs ps i (get_or ps i 0) h refl l)) ∙ inv

pub nth-val : (vs : List Val) (i : ℕ) → i < length vs → nth (marked_all (vals_of vs)) i ≡ marked (get_or vs i null_val)
nth-val [] i l = absurd (omega arith)
nth-val (v ∷ vs) zero l = refl
nth-val (v ∷ vs) (suc i) l = nth-val vs i (omega arith)

pub nth-val-past : (vs : List Val) (i : ℕ) → length vs ≤ i → nth (marked_all (vals_of vs)) i ≡ null
nth-val-past [] i l = refl
nth-val-past (v ∷ vs) zero l = absurd (omega arith)
nth-val-past (v ∷ vs) (suc i) l = nth-val-past vs i (omega arith)

-- ---- nodes
pub no_places : (u : ops.Unary) (d : DataType) → None ≡ struct_fields_of d → unary_fault u d ≡ None → [] ≡ unary_places u (struct_fields d)
no_places (GetItem n) d h e = cc
no_places (Select ns) d h e = cc
no_places (Exclude ns) d h e = cc
no_places Not d h e = refl
no_places IsNull d h e = refl
no_places IsNotNull d h e = refl
no_places ListLength d h e = refl

pub pack_places : (bs : List Bound) (op : Op) (k : List ℕ) → k ≡ [] → ((b : Bound) (cs : List Bound) → node_places (b ∷ cs) op ≡ []) → k ≡ node_places bs op
pack_places [] op k e h = e
pack_places (b ∷ bs) op k e h = e ∙ sym (h b bs)

-- ---- operators by places
pub get_item_at : (n : Name) (d : DataType) → unary_fault (GetItem n) d ≡ None → has_field n (struct_fields d) ≡ true
get_item_at n d h = in_fields (struct_fields_of d) h
  where
    in_fields : (o : Option Fields) → in_struct o (λ fs. unless (has_field n fs) NoField) ≡ None → has_field n (fields_or_none o) ≡ true
    in_fields None g = cc
    in_fields (Some fs) g = held (has_field n fs) NoField g

pub select_at : (ns : List Name) (d : DataType) → unary_fault (Select ns) d ≡ None → have_fields ns (struct_fields d) ≡ true
select_at ns d h = in_fields (struct_fields_of d) h
  where
    in_fields : (o : Option Fields) → in_struct o (choice_fault ns) ≡ None → have_fields ns (fields_or_none o) ≡ true
    in_fields None g = cc
    in_fields (Some fs) g = held (have_fields ns fs) NoField (no_fault (unless (not (repeats [] ns)) RepeatedName) (unless (have_fields ns fs) NoField) g).1

of_same : (f g : Markeds → Marked) → ((ms : Markeds) → f ms ≡ g ms) → (m : Marked) → of_struct f m ≡ of_struct g m
of_same f g h lost = refl
of_same f g h null = refl
of_same f g h gone = refl
of_same f g h (boolean b) = refl
of_same f g h (integer z) = refl
of_same f g h (text s) = refl
of_same f g h (list ms) = refl
of_same f g h (struct ms) = h ms

get_item : (n : Name) (d : DataType) (ps : List ℕ) (m : Marked) → unary_fault (GetItem n) d ≡ None → ps ≡ unary_places (GetItem n) (struct_fields d) → of_struct (λ ms. nth ms (get_or ps 0 0)) m ≡ unary_value (GetItem n) d m
get_item n d ps m h e =
    of_same (λ ms. nth ms (get_or ps 0 0)) (pick n (struct_fields d)) (λ ms. ap (λ (qs : List ℕ). nth ms (get_or qs 0 0)) e ∙ sym (pick-nth n (struct_fields d) ms (get_item_at n d h))) m

pub get_item-placed : (u : ops.Unary) (n : Name) (d : DataType) (ps : List ℕ) (m : Marked) → u ≡ GetItem n → unary_fault u d ≡ None → ps ≡ unary_places u (struct_fields d) → of_struct (λ ms. nth ms (get_or ps 0 0)) m ≡ unary_value u d m
get_item-placed u n d ps m o h e =
    let P : ops.Unary → Type 0 = λ w. unary_fault w d ≡ None → ps ≡ unary_places w (struct_fields d) → of_struct (λ ms. nth ms (get_or ps 0 0)) m ≡ unary_value w d m in
    subst P (sym o) (get_item n d ps m) h e

select : (ns : List Name) (d : DataType) (ps : List ℕ) (m : Marked) → unary_fault (Select ns) d ≡ None → ps ≡ unary_places (Select ns) (struct_fields d) → of_struct (λ ms. struct (all_at ms ps)) m ≡ unary_value (Select ns) d m
select ns d ps m h e =
    of_same (λ ms. struct (all_at ms ps)) (λ ms. struct (pick_all ns (struct_fields d) ms)) (λ ms. ap (λ (qs : List ℕ). struct (all_at ms qs)) e ∙ ap struct (sym (pick_all-at ns (struct_fields d) ms (select_at ns d h)))) m

pub select-placed : (u : ops.Unary) (ns : List Name) (d : DataType) (ps : List ℕ) (m : Marked) → u ≡ Select ns → unary_fault u d ≡ None → ps ≡ unary_places u (struct_fields d) → of_struct (λ ms. struct (all_at ms ps)) m ≡ unary_value u d m
select-placed u ns d ps m o h e =
    let P : ops.Unary → Type 0 = λ w. unary_fault w d ≡ None → ps ≡ unary_places w (struct_fields d) → of_struct (λ ms. struct (all_at ms ps)) m ≡ unary_value w d m in
    subst P (sym o) (select ns d ps m) h e

exclude : (ns : List Name) (d : DataType) (ps : List ℕ) (m : Marked) → ps ≡ unary_places (Exclude ns) (struct_fields d) → of_struct (λ ms. struct (there_at ms ps)) m ≡ unary_value (Exclude ns) d m
exclude ns d ps m e =
    of_same (λ ms. struct (there_at ms ps)) (λ ms. struct (leave ns (struct_fields d) ms)) (λ ms. ap (λ (qs : List ℕ). struct (there_at ms qs)) e ∙ ap struct (sym (leave-there ns (struct_fields d) ms))) m

pub exclude-placed : (u : ops.Unary) (ns : List Name) (d : DataType) (ps : List ℕ) (m : Marked) → u ≡ Exclude ns → ps ≡ unary_places u (struct_fields d) → of_struct (λ ms. struct (there_at ms ps)) m ≡ unary_value u d m
exclude-placed u ns d ps m o e =
    let P : ops.Unary → Type 0 = λ w. ps ≡ unary_places w (struct_fields d) → of_struct (λ ms. struct (there_at ms ps)) m ≡ unary_value w d m in
    subst P (sym o) (exclude ns d ps m) e

-- Offsets that are read and checked.
use Rattle.std.proofs.Common.{◌≡◌, ℕ, zero, suc, ◌+◌, ◌<◌, ◌≤◌, Bool, true, false, ◌||◌, ◌&&◌, List, [], ◌∷◌, ◌++◌, map, drop, length, get_or, Some, None, is_none, Result, Ok, Err, ℤ, pos, negsuc, refl, ap, ◌∙◌, sym, subst, arith, append_assoc}
use Rattle.std.specs.Prelude.{nat_le, if◌then◌else◌}
use Rattle.std.specs.List.{list_any}
use Rattle.std.proofs.lemmas.List.{append-nil, map-append}
use Rattle.std.proofs.lemmas.Bool.Decides.{nat_tests}
use Rattle.scan_values.specs.Arrays.{ArrayData}
use Rattle.scan_values.specs.DataType.{DataType, int_type}
use Rattle.scan_values.specs.declared.ptype.Nullability.TheVariants.{NonNullable}
use Rattle.scan_values.specs.declared.ptype.PType.{PType}
use Rattle.scan_values.specs.Fits.{fits, fits_all}
use Rattle.scan_values.specs.Kinds.{is_scalar_type}
use Rattle.scan_values.specs.Val.{Val, null_val, bool_val, int_val, text_val, list_val, struct_val, vals_of, marked, marked_all}
use Rattle.scan_segments.specs.Source.{Store}
use Rattle.scan_layout.specs.RowValue.{offset_of, leaf_value}
use Rattle.scan_layout.specs.Touched.{row_at}
use Rattle.scan_plans.specs.Came.{Came, arrived}
use Rattle.scan_plans.specs.ListItems.{number_of}
use Rattle.scan_plans.specs.Lists.{rows_on, IsSpan, good_offset}
use Rattle.scan_plans.specs.Meaning.{value_at}
use Rattle.scan_plans.specs.OffsetReads.{Climbs, bad_in, Checks, ReadsOffsets, Cuts}
use Rattle.scan_plans.specs.OffsetsData.{OffsetsData, offset_at, offset_places, AreNumbers}
use Rattle.scan_plans.specs.PlanTree.{PlanTree, leaf}
use Rattle.scan_plans.specs.Reads.{AreValues, Reads}
use Rattle.scan_plans.specs.Wants.{leaf_wanted, names_id, spoils, any_bad, Complete}
use Rattle.scan_plans.specs.declared.fault.ReadFault.{ReadFault}
use Rattle.scan_plans.specs.declared.fault.ReadFault.TheVariants.{Corrupt, Overflow, NoMemory}

or_true : (b : Bool) → (b || true) ≡ true
or_true true = refl
or_true false = refl

pub next_item : {A : Type 0} (k : ℕ) (xs : List A) (x : A) → k < length xs → x ≡ get_or xs k x → drop k xs ≡ x ∷ drop (k + 1) xs
next_item k [] x h e = absurd (omega (arith, h))
next_item zero (y ∷ xs) x h e = ap (λ z. z ∷ xs) (sym e)
next_item (suc k) (y ∷ xs) x h e = next_item k xs x (omega (arith, h)) e ∙ ap (λ n. x ∷ drop n (y ∷ xs)) moved
  where
    moved : suc (k + 1) ≡ suc k + 1
    moved = omega arith

pub same_item : {A : Type 0} (k : ℕ) (xs : List A) (d : A) → k < length xs → get_or xs k d ≡ get_or xs k (get_or xs k d)
same_item k [] d h = absurd (omega (arith, h))
same_item zero (x ∷ xs) d h = refl
same_item (suc k) (x ∷ xs) d h = same_item k xs d (omega (arith, h))

pub drop_past : {A : Type 0} (k : ℕ) (xs : List A) → length xs ≤ k → drop k xs ≡ []
drop_past zero [] h = refl
drop_past zero (x ∷ xs) h = absurd (omega (arith, h))
drop_past (suc k) [] h = refl
drop_past (suc k) (x ∷ xs) h = drop_past k xs (omega (arith, h))

-- ---- one after another
good_is : (most before : ℕ) (z : ℤ) (n : ℕ) → good_offset most before z ≡ Some n → (z ≡ pos n) × (before ≤ n) × (n ≤ most)
good_is most before (negsuc m) n h = absurd cc
good_is most before (pos m) n h = by (nat_le before m) (nat_le m most) refl refl h
  where
    by : (a b : Bool) → nat_le before m ≡ a → nat_le m most ≡ b → (if a && b then Some m else None) ≡ Some n → (pos m ≡ pos n) × (before ≤ n) × (n ≤ most)
    by true true u v w = let e : m ≡ n = cc in let x : before ≤ m = grind (arith, nat_tests, u) in let y : m ≤ most = grind (arith, nat_tests, v) in (ap pos e, omega (arith, x, e), omega (arith, y, e))
    by true false u v w = absurd cc
    by false b u v w = absurd cc

pub record Checking (o : OffsetsData) (i : ℕ) (zs : List ℤ) (k before : ℕ) (made : List ℕ) : Type 0 where
  pub so : map pos made ++ drop k zs ≡ zs
  pub climbs : (ns : List ℕ) → Climbs o.elements before ns → Climbs o.elements 0 (made ++ ns)
  pub bad : (id : ℕ) → bad_in o before (i + k) (drop k zs) id ≡ true → bad_in o 0 i zs id ≡ true

pub check_start : (o : OffsetsData) (i : ℕ) (zs : List ℤ) → Checking o i zs 0 0 []
check_start o i zs = record { so = refl; climbs = λ ns c. c; bad = λ id h. let z : i ≡ i + 0 = omega arith in ap (λ j. bad_in o 0 j zs id) z ∙ h }

pub check_next : (o : OffsetsData) (i : ℕ) (zs : List ℤ) (k before : ℕ) (made : List ℕ) (z : ℤ) (n : ℕ) → k < length zs → z ≡ get_or zs k z → good_offset o.elements before z ≡ Some n → Checking o i zs k before made → Checking o i zs (k + 1) n (made ++ n ∷ [])
check_next o i zs k before made z n h e g l =
    let q = good_is o.elements before z n g in
    let next = next_item k zs z h e in record {
      so = ap (λ xs. xs ++ drop (k + 1) zs) (map-append pos made (n ∷ [])) ∙ append_assoc (map pos made) (pos n ∷ []) (drop (k + 1) zs)
          ∙ ap (λ x. map pos made ++ x ∷ drop (k + 1) zs) (sym q.0) ∙ ap (λ xs. map pos made ++ xs) (sym next) ∙ l.so;
      climbs = λ ns c. subst (λ (xs : List ℕ). Climbs o.elements 0 xs) (sym (append_assoc made (n ∷ []) ns)) (l.climbs (n ∷ ns) (q.1, q.2, c));
      bad = λ id w. l.bad id (ap (λ (xs : List ℤ). bad_in o before (i + k) xs id) next ∙ rest id q.0 w);
    }
  where
    rest : (id : ℕ) → z ≡ pos n → bad_in o n (i + (k + 1)) (drop (k + 1) zs) id ≡ true → bad_in o before (i + k) (z ∷ drop (k + 1) zs) id ≡ true
    rest id s w =
        let y : i + (k + 1) ≡ i + k + 1 = omega arith in
        let later : bad_in o (row_at z) (i + k + 1) (drop (k + 1) zs) id ≡ true = ap (λ x. bad_in o (row_at x) (i + k + 1) (drop (k + 1) zs) id) s ∙ ap (λ j. bad_in o n j (drop (k + 1) zs) id) (sym y) ∙ w in
        rw later (or_true (is_none (good_offset o.elements before z) && names_id id (leaf_wanted 0 (offset_places o) ((i + k) ∷ []))))

pub check_fault : (o : OffsetsData) (i : ℕ) (zs : List ℤ) (k before : ℕ) (made : List ℕ) (z : ℤ) (id : ℕ) → k < length zs → z ≡ get_or zs k z
    → good_offset o.elements before z ≡ None → names_id id (leaf_wanted 0 (offset_places o) ((i + k) ∷ [])) ≡ true → Checking o i zs k before made
    → bad_in o 0 i zs id ≡ true
check_fault o i zs k before made z id h e g w l = l.bad id (ap (λ (xs : List ℤ). bad_in o before (i + k) xs id) (next_item k zs z h e) ∙ rw (g, w) refl)

pub check_end : (o : OffsetsData) (i : ℕ) (zs : List ℤ) (k before : ℕ) (made : List ℕ) → length zs ≤ k → Checking o i zs k before made → (map pos made ≡ zs) × Climbs o.elements 0 made
check_end o i zs k before made h l =
    (sym (append-nil (map pos made)) ∙ ap (λ xs. map pos made ++ xs) (sym (drop_past k zs h)) ∙ l.so, subst (λ (xs : List ℕ). Climbs o.elements 0 xs) (append-nil made) (l.climbs [] tt))

-- ---- the numbers of a column
and_left : (a b : Bool) → (a && b) ≡ true → a ≡ true
and_left true b h = refl
and_left false b h = h

and_right : (a b : Bool) → (a && b) ≡ true → b ≡ true
and_right true b h = h
and_right false b h = absurd cc

one_number : (p : PType) (v : Val) → fits (marked v) (int_type p NonNullable) ≡ true → int_val (number_of v) ≡ v
one_number p null_val h = absurd cc
one_number p (bool_val b) h = absurd cc
one_number p (int_val z) h = refl
one_number p (text_val s) h = absurd cc
one_number p (list_val vs) h = absurd cc
one_number p (struct_val vs) h = absurd cc

all_numbers : (p : PType) (vs : List Val) → fits_all (marked_all (vals_of vs)) (int_type p NonNullable) ≡ true → map int_val (map number_of vs) ≡ vs
all_numbers p [] h = refl
all_numbers p (v ∷ vs) h =
    let a = and_left (fits (marked v) (int_type p NonNullable)) (fits_all (marked_all (vals_of vs)) (int_type p NonNullable)) h in
    let b = and_right (fits (marked v) (int_type p NonNullable)) (fits_all (marked_all (vals_of vs)) (int_type p NonNullable)) h in
    rw (one_number p v a) (ap (λ xs. v ∷ xs) (all_numbers p vs b))

pub numbers_are : (d : DataType) (vs : List Val) (zs : List ℤ) → AreNumbers d → fits_all (marked_all (vals_of vs)) d ≡ true → zs ≡ map number_of vs → map int_val zs ≡ vs
numbers_are d vs zs n f e = ap (λ (xs : List ℤ). map int_val xs) e ∙ all_numbers n.0 vs (subst (λ (t : DataType). fits_all (marked_all (vals_of vs)) t ≡ true) n.1 f)

-- ---- read
map_map : {A B C : Type 0} (f : B → C) (g : A → B) (xs : List A) → map (λ x. f (g x)) xs ≡ map f (map g xs)
map_map f g [] = refl
map_map f g (x ∷ xs) = ap (λ ys. f (g x) ∷ ys) (map_map f g xs)

some_numbers : (zs : List ℤ) → map offset_of (map marked (map int_val zs)) ≡ map (λ z. Some z) zs
some_numbers [] = refl
some_numbers (z ∷ zs) = ap (λ xs. Some z ∷ xs) (some_numbers zs)

offsets_there : (o : OffsetsData) (here : Came) (is : List ℕ) (a : ArrayData) (zs : List ℤ) → AreValues (leaf o.dtype o.spelling o.segments) here is a → map int_val zs ≡ a.items → map (offset_at o (arrived here)) is ≡ map (λ z. Some z) zs
offsets_there o here is a zs v e = map_map offset_of (leaf_value o.dtype (arrived here) (offset_places o)) is ∙ ap (map offset_of) (sym v.items) ∙ ap (λ xs. map offset_of (map marked xs)) (sym e) ∙ some_numbers zs

pub rows_long : (i n : ℕ) → length (rows_on i n) ≡ n
rows_long i zero = refl
rows_long i (suc n) = ap suc (rows_long (i + 1) n)

length-map : {A B : Type 0} (f : A → B) (xs : List A) → length (map f xs) ≡ length xs
length-map f [] = refl
length-map f (x ∷ xs) = ap suc (length-map f xs)

bad_any : (o : OffsetsData) (store : Store) (before i : ℕ) (zs : List ℤ) (id : ℕ) → map (offset_at o store) (rows_on i (length zs)) ≡ map (λ z. Some z) zs → bad_in o before i zs id ≡ any_bad o store before (rows_on i (length zs)) id
bad_any o store before i [] id h = refl
bad_any o store before i (z ∷ zs) id h =
    let first : offset_at o store i ≡ Some z = cc in
    let rest : map (offset_at o store) (rows_on (i + 1) (length zs)) ≡ map (λ x. Some x) zs = cc in
    rw first (ap (λ b. (is_none (good_offset o.elements before z) && names_id id (leaf_wanted 0 (offset_places o) (i ∷ []))) || b) (bad_any o store (row_at z) (i + 1) zs id rest))

some_pos : (ns : List ℕ) → map (λ z. Some z) (map pos ns) ≡ map (λ k. Some (pos k)) ns
some_pos [] = refl
some_pos (n ∷ ns) = ap (λ xs. Some (pos n) ∷ xs) (some_pos ns)

pub reads_offsets : {A : Type 0} (items : A → List ℕ) (o : OffsetsData) (here : Came) (i n : ℕ) (a : ArrayData) (zs : List ℤ) (r : Result A ReadFault)
    → AreValues (leaf o.dtype o.spelling o.segments) here (rows_on i n) a → map int_val zs ≡ a.items → Checks items o i zs r → ReadsOffsets items o here i n r
reads_offsets items o here i n a zs (Ok v) w e c = record {
  at = offsets_there o here (rows_on i n) a zs w e ∙ ap (λ (xs : List ℤ). map (λ z. Some z) xs) (sym c.0) ∙ some_pos (items v);
  climbs = c.1;
  found = w.found;
}
reads_offsets items o here i n a zs (Err (Corrupt id)) w e c = λ complete.
    let there = offsets_there o here (rows_on i n) a zs w e in
    let long : n ≡ length zs = sym (rows_long i n) ∙ sym (length-map (offset_at o (arrived here)) (rows_on i n)) ∙ ap length there ∙ length-map (λ z. Some z) zs in
    let same : map (offset_at o (arrived here)) (rows_on i (length zs)) ≡ map (λ z. Some z) zs = ap (λ m. map (offset_at o (arrived here)) (rows_on i m)) (sym long) ∙ there in
    let any : any_bad o (arrived here) 0 (rows_on i n) id ≡ true = ap (λ m. any_bad o (arrived here) 0 (rows_on i m) id) long ∙ sym (bad_any o (arrived here) 0 i zs id same) ∙ c in
    rw any (or_true (spoils (leaf_wanted 0 (offset_places o) (rows_on i n)) here id))
reads_offsets items o here i n a zs (Err Overflow) w e c = absurd c
reads_offsets items o here i n a zs (Err NoMemory) w e c = tt

never : (is : List ℕ) → list_any (λ i. false) is ≡ false
never [] = refl
never (i ∷ is) = never is

-- as many numbers as rows
pub numbers_long : (p : PlanTree) (here : Came) (i n : ℕ) (a : ArrayData) (zs : List ℤ) → AreValues p here (rows_on i n) a → map int_val zs ≡ a.items → length zs ≡ n
numbers_long p here i n a zs v e =
    sym (length-map int_val zs) ∙ ap length e ∙ sym (length-map marked a.items) ∙ ap length v.items ∙ length-map (value_at p (arrived here)) (rows_on i n) ∙ rows_long i n

pub offsets_fault : {A : Type 0} (items : A → List ℕ) (o : OffsetsData) (here : Came) (i n : ℕ) (f : ReadFault) → Reads (leaf o.dtype o.spelling o.segments) here (rows_on i n) (Err f) → ReadsOffsets items o here i n (Err f)
offsets_fault items o here i n (Corrupt id) h = λ c. rw (h c) refl
offsets_fault items o here i n Overflow h = let none = never (rows_on i n) in let z : true ≡ false = sym h ∙ none in absurd cc
offsets_fault items o here i n NoMemory h = tt

pub cut_fault : {A : Type 0} (items : A → List ℕ) (o : OffsetsData) (here : Came) (is : List ℕ) (i : ℕ) (mask : List Bool) (f : ReadFault) → IsSpan is i mask → ReadsOffsets items o here i (length mask + 1) (Err f) → Cuts o here is (Err f)
cut_fault items o here is i mask (Corrupt id) s h = λ c.
    let moved : Complete (leaf_wanted 0 (offset_places o) (rows_on i (length mask + 1))) here = subst (λ (js : List ℕ). Complete (leaf_wanted 0 (offset_places o) js) here) s.offsets c in
    ap (λ (js : List ℕ). spoils (leaf_wanted 0 (offset_places o) js) here id || any_bad o (arrived here) 0 js id) s.offsets ∙ h moved
cut_fault items o here is i mask Overflow s h = h
cut_fault items o here is i mask NoMemory s h = tt

pub built_all : {A B C : Type 0} (g : B → C) (f : A → B) (k : ℕ) (xs : List A) (made : List C) → length xs ≤ k → made ++ map g (map f (drop k xs)) ≡ map g (map f xs) → made ≡ map g (map f xs)
built_all g f k xs made h e = sym (append-nil made) ∙ ap (λ ys. made ++ map g (map f ys)) (sym (drop_past k xs h)) ∙ e

pub scalar_numbers : (d : DataType) → AreNumbers d → is_scalar_type d ≡ true
scalar_numbers d n = rw n.1 refl

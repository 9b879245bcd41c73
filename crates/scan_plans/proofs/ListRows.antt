-- The rows of lists, of their lengths, and of values under a validity.
use Rattle.std.proofs.Common.{◌≡◌, ℕ, zero, suc, ◌+◌, ◌-◌, Bool, true, false, ◌||◌, ◌&&◌, List, [], ◌∷◌, map, length, Some, Result, Ok, Err, pos, refl, ap, ◌∙◌, sym, subst, arith}
use Rattle.std.specs.Prelude.{nat_le}
use Rattle.std.specs.List.{list_any, items_where_true}
use Rattle.std.proofs.lemmas.Bool.Decides.{nat_tests}
use Rattle.scan_values.specs.Arrays.{ArrayData, of_parts}
use Rattle.scan_values.specs.DataType.{DataType, int_type, bool_type, with_nullability}
use Rattle.scan_values.specs.declared.ptype.Nullability.TheVariants.{NonNullable, Nullable}
use Rattle.scan_values.specs.declared.ptype.PType.TheVariants.{U64}
use Rattle.scan_values.specs.Fits.{fits, fits_all}
use Rattle.scan_values.specs.Marked.{Marked, integer, is_true}
use Rattle.scan_values.specs.Masks.{null_where_false}
use Rattle.scan_values.specs.Val.{Val, null_val, bool_val, int_val, text_val, list_val, struct_val, vals_of, marked, marked_all}
use Rattle.scan_columns.specs.Nested.{sizes}
use Rattle.scan_segments.specs.Source.{Store}
use Rattle.scan_layout.specs.RowValue.{under}
use Rattle.scan_plans.specs.PlanTree.{PlanTree, lengths, valid}
use Rattle.scan_plans.specs.Came.{Came, arrived}
use Rattle.scan_plans.specs.ListItems.{length_val, sizes_in}
use Rattle.scan_plans.specs.Lists.{rows_on}
use Rattle.scan_plans.specs.Meaning.{value_at, overflow_at, overflow_on, true_rows}
use Rattle.scan_plans.specs.OffsetReads.{Climbs, AreOffsets, IsCut}
use Rattle.scan_plans.specs.OffsetsData.{OffsetsData, offset_at, offset_places}
use Rattle.scan_plans.specs.Reads.{AreValues, AllDecode, fails, Reads, CollectsPlan}
use Rattle.scan_plans.specs.Wants.{leaf_wanted, offsets_wanted, wanted, lacks, spoiled}
use Rattle.scan_plans.specs.declared.fault.ReadFault.{ReadFault}
use Rattle.scan_plans.specs.declared.fault.ReadFault.TheVariants.{Corrupt, Overflow, NoMemory}
use Rattle.scan_plans.specs.declared.lists.Cut.{Cut}
use Rattle.scan_plans.proofs.Building.{fails_append}
use Rattle.scan_plans.proofs.Collecting.{lacks_append}
use Rattle.scan_plans.proofs.NoRows.{nothing_found}
use Rattle.scan_plans.proofs.Parts.{any_or}
use Rattle.scan_plans.proofs.Transfer.{complete_left, complete_right}
use Rattle.scan_values.specs.Selections.{is_among}

or_true : (b : Bool) → (b || true) ≡ true
or_true true = refl
or_true false = refl

never : (is : List ℕ) → list_any (λ i. false) is ≡ false
never [] = refl
never (i ∷ is) = never is

-- of the values of all rows those at the true ones
pub kept_rows : (f : ℕ → Marked) (vs : List Val) (i : ℕ) (bits : List Bool) → map marked vs ≡ map f (rows_on i (length bits)) → map marked (items_where_true bits vs) ≡ map f (true_rows i bits)
kept_rows f vs i [] h = refl
kept_rows f [] i (b ∷ bits) h = absurd cc
kept_rows f (v ∷ vs) i (true ∷ bits) h =
    let first : marked v ≡ f i = cc in let rest : map marked vs ≡ map f (rows_on (i + 1) (length bits)) = cc in
    rw first (ap (λ xs. f i ∷ xs) (kept_rows f vs (i + 1) bits rest))
kept_rows f (v ∷ vs) i (false ∷ bits) h = let rest : map marked vs ≡ map f (rows_on (i + 1) (length bits)) = cc in kept_rows f vs (i + 1) bits rest

-- ---- lengths
lengths_on : (o : OffsetsData) (store : Store) (n i a : ℕ) (ns : List ℕ) → offset_at o store i ≡ Some (pos a) → map (offset_at o store) (rows_on (i + 1) n) ≡ map (λ k. Some (pos k)) ns → Climbs o.elements a ns
    → map marked (map length_val (sizes a ns)) ≡ map (value_at (lengths o) store) (rows_on i n)
lengths_on o store zero i a [] x h c = refl
lengths_on o store zero i a (b ∷ ns) x h c = absurd cc
lengths_on o store (suc n) i a [] x h c = absurd cc
lengths_on o store (suc n) i a (b ∷ ns) x h c =
    let y : offset_at o store (i + 1) ≡ Some (pos b) = cc in
    let rest : map (offset_at o store) (rows_on (i + 1 + 1) n) ≡ map (λ k. Some (pos k)) ns = cc in
    let up : nat_le a b ≡ true = grind (arith, nat_tests, c.0) in
    let within : nat_le b o.elements ≡ true = grind (arith, nat_tests, c.1) in
    rw (x, y, up, within) (ap (λ xs. integer (pos (b - a)) ∷ xs) (lengths_on o store n (i + 1) b ns y rest c.2))

pub lengths_at : (o : OffsetsData) (store : Store) (i n : ℕ) (ns : List ℕ) → AreOffsets o store i (n + 1) ns → map marked (map length_val (sizes_in ns)) ≡ map (value_at (lengths o) store) (rows_on i n)
lengths_at o store i n ns a = by ns (more n) a.climbs refl
  where
    more : (n : ℕ) → n + 1 ≡ suc n
    more n = omega arith

    at : map (offset_at o store) (rows_on i (suc n)) ≡ map (λ k. Some (pos k)) ns
    at = ap (λ m. map (offset_at o store) (rows_on i m)) (sym (more n)) ∙ a.at

    by : (ms : List ℕ) → n + 1 ≡ suc n → Climbs o.elements 0 ns → ns ≡ ms → map marked (map length_val (sizes_in ns)) ≡ map (value_at (lengths o) store) (rows_on i n)
    by [] e c s = absurd (let z = at ∙ ap (map (λ k. Some (pos k))) s in cc)
    by (m ∷ ms) e c s =
        let z = at ∙ ap (map (λ k. Some (pos k))) s in
        let x : offset_at o store i ≡ Some (pos m) = cc in
        let rest : map (offset_at o store) (rows_on (i + 1) n) ≡ map (λ k. Some (pos k)) ms = cc in
        let d : Climbs o.elements 0 (m ∷ ms) = subst (λ (xs : List ℕ). Climbs o.elements 0 xs) s c in
        ap (λ xs. map marked (map length_val (sizes_in xs))) s ∙ lengths_on o store n i m ms x rest d.2

-- the offsets of a cut were found
pub cut_found : (o : OffsetsData) (here : Came) (is : List ℕ) (c : Cut) → IsCut o (arrived here) is c → AllDecode (offsets_wanted o is) (arrived here)
cut_found o here is c k = λ id. ap (λ (js : List ℕ). fails (leaf_wanted 0 (offset_places o) js) (arrived here) id) (k.span).offsets ∙ (k.offsets).found id

pub lengths_ok : (o : OffsetsData) (here : Came) (is : List ℕ) (c : Cut) (b : ArrayData) → IsCut o (arrived here) is c → b ≡ of_parts (int_type U64 NonNullable) (items_where_true c.mask (map length_val (sizes_in c.offsets.items))) → AreValues (lengths o) here is b
lengths_ok o here is c b k e = record {
  dtype = ap (λ (x : ArrayData). x.dtype) e;
  items = ap (λ (x : ArrayData). map marked x.items) e
      ∙ kept_rows (value_at (lengths o) (arrived here)) (map length_val (sizes_in c.offsets.items)) c.first c.mask (lengths_at o (arrived here) c.first (length c.mask) c.offsets.items k.offsets)
      ∙ ap (map (value_at (lengths o) (arrived here))) (sym (k.span).rows);
  within = never is;
  found = cut_found o here is c k;
}

pub lengths_none : (o : OffsetsData) (here : Came) (is : List ℕ) (b : ArrayData) → is ≡ [] → b ≡ of_parts (int_type U64 NonNullable) [] → AreValues (lengths o) here is b
lengths_none o here is b n e = subst (λ (js : List ℕ). AreValues (lengths o) here js b) (sym n) (record { dtype = ap (λ (x : ArrayData). x.dtype) e; items = ap (λ (x : ArrayData). map marked x.items) e; within = refl; found = nothing_found (lengths o) here })

-- ---- validity
and_left : (a b : Bool) → (a && b) ≡ true → a ≡ true
and_left true b h = refl
and_left false b h = h

and_right : (a b : Bool) → (a && b) ≡ true → b ≡ true
and_right true b h = h
and_right false b h = absurd cc

one_valid : (v x : Val) → fits (marked v) (bool_type NonNullable) ≡ true → (b : Bool) × (v ≡ bool_val b)
one_valid null_val x h = absurd cc
one_valid (bool_val b) x h = (b, refl)
one_valid (int_val z) x h = absurd cc
one_valid (text_val s) x h = absurd cc
one_valid (list_val vs) x h = absurd cc
one_valid (struct_val vs) x h = absurd cc

valid_on : (f g : ℕ → Marked) (vs xs : List Val) (is : List ℕ) → fits_all (marked_all (vals_of vs)) (bool_type NonNullable) ≡ true → map marked vs ≡ map f is → map marked xs ≡ map g is
    → map marked (null_where_false (map (λ v. is_true (marked v)) vs) xs) ≡ map (λ i. under (f i) (g i)) is
valid_on f g [] xs [] t h k = refl
valid_on f g (v ∷ vs) xs [] t h k = absurd cc
valid_on f g [] xs (i ∷ is) t h k = absurd cc
valid_on f g (v ∷ vs) [] (i ∷ is) t h k = absurd cc
valid_on f g (v ∷ vs) (x ∷ xs) (i ∷ is) t h k =
    let own = one_valid v x (and_left (fits (marked v) (bool_type NonNullable)) (fits_all (marked_all (vals_of vs)) (bool_type NonNullable)) t) in
    let hs : map marked vs ≡ map f is = cc in
    let ks : map marked xs ≡ map g is = cc in
    let rest = valid_on f g vs xs is (and_right (fits (marked v) (bool_type NonNullable)) (fits_all (marked_all (vals_of vs)) (bool_type NonNullable)) t) hs ks in
    let a : f i ≡ marked v = cc in
    let b : g i ≡ marked x = cc in
    rw (a, b, own.1) (by own.0 rest)
  where
    by : (b : Bool) → map marked (null_where_false (map (λ v. is_true (marked v)) vs) xs) ≡ map (λ i. under (f i) (g i)) is
        → map marked (null_where_false (b ∷ map (λ v. is_true (marked v)) vs) (x ∷ xs)) ≡ under (marked (bool_val b)) (marked x) ∷ map (λ i. under (f i) (g i)) is
    by true rest = ap (λ ms. marked x ∷ ms) rest
    by false rest = ap (λ ms. marked null_val ∷ ms) rest

pub valid_ok : (p v : PlanTree) (here : Came) (is : List ℕ) (a t b : ArrayData) → AreValues v here is t → AreValues p here is a → t.dtype ≡ bool_type NonNullable → fits_all (marked_all (vals_of t.items)) t.dtype ≡ true
    → b ≡ of_parts (with_nullability Nullable a.dtype) (null_where_false (map (λ v. is_true (marked v)) t.items) a.items) → AreValues (valid p v) here is b
valid_ok p v here is a t b w h d f e = record {
  dtype = ap (λ (x : ArrayData). x.dtype) e ∙ ap (with_nullability Nullable) h.dtype;
  items = ap (λ (x : ArrayData). map marked x.items) e ∙ valid_on (value_at v (arrived here)) (value_at p (arrived here)) t.items a.items is (subst (λ (y : DataType). fits_all (marked_all (vals_of t.items)) y ≡ true) d f) w.items h.items;
  within = any_or (overflow_at v (arrived here)) (overflow_at p (arrived here)) is ∙ rw w.within h.within;
  found = λ id. fails_append (wanted v here is) (wanted p here is) (arrived here) id ∙ rw (w.found id) (h.found id);
}

pub validity_fault : (p v : PlanTree) (here : Came) (is : List ℕ) (f : ReadFault) → Reads v here is (Err f) → Reads (valid p v) here is (Err f)
validity_fault p v here is (Corrupt id) h = λ c. rw (h (complete_left (wanted v here is) (wanted p here is) here c)) refl
validity_fault p v here is Overflow h = any_or (overflow_at v (arrived here)) (overflow_at p (arrived here)) is ∙ rw h refl
validity_fault p v here is NoMemory h = tt

pub values_fault : (p v : PlanTree) (here : Came) (is : List ℕ) (f : ReadFault) → Reads p here is (Err f) → Reads (valid p v) here is (Err f)
values_fault p v here is (Corrupt id) h = λ c. rw (h (complete_right (wanted v here is) (wanted p here is) here c)) (or_true (spoiled v here is id))
values_fault p v here is Overflow h = any_or (overflow_at v (arrived here)) (overflow_at p (arrived here)) is ∙ rw h (or_true (overflow_on v (arrived here) is))
values_fault p v here is NoMemory h = tt

or_assoc : (a b c : Bool) → ((a || b) || c) ≡ (a || (b || c))
or_assoc true b c = refl
or_assoc false b c = refl

-- ids of the validity are collected first
pub then_values : {A B : Type 0} (old mid new : List ℕ) (p v : PlanTree) (here : Came) (is : List ℕ) (x : A) (r : Result B ReadFault) → CollectsPlan old mid v here is (Ok x) → CollectsPlan mid new p here is r → CollectsPlan old new (valid p v) here is r
then_values old mid new p v here is x (Ok y) h k = λ id.
    k id ∙ ap (λ b. b || lacks (wanted p here is) here id) (h id) ∙ or_assoc (is_among old id) (lacks (wanted v here is) here id) (lacks (wanted p here is) here id)
    ∙ ap (λ b. is_among old id || b) (sym (lacks_append (wanted v here is) (wanted p here is) here id))
then_values old mid new p v here is x (Err (Corrupt id)) h k = rw k (or_true (spoiled v here is id))
then_values old mid new p v here is x (Err Overflow) h k = k
then_values old mid new p v here is x (Err NoMemory) h k = tt

pub no_validity : (A B : Type 0) (old mid new : List ℕ) (p v : PlanTree) (here : Came) (is : List ℕ) (f : ReadFault) → CollectsPlan {A = A} old mid v here is (Err f) → CollectsPlan {A = B} old new (valid p v) here is (Err f)
no_validity A B old mid new p v here is (Corrupt id) h = rw h refl
no_validity A B old mid new p v here is Overflow h = h
no_validity A B old mid new p v here is NoMemory h = tt

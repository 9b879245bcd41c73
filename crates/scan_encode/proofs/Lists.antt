-- Layouts of lists, by their parts.
use Rattle.std.proofs.Common.{◌≡◌, ℕ, zero, suc, ◌+◌, ◌-◌, ◌≤◌, true, ◌&&◌, cond, List, [], ◌∷◌, ◌++◌, length, take, refl, ap, ap₂, ◌∙◌, arith, add-one, length-append}
use Rattle.std.specs.Prelude.{Some, option_map, slice_get, pos, nat_le}
use Rattle.std.proofs.lemmas.Bool.Decides.{nat_tests}
use Rattle.std.proofs.lemmas.List.{length-map}
use Rattle.std.proofs.lemmas.Option.{none-some, slice_get-map, slice_get_within}
use Rattle.scan_values.specs.declared.ptype.Nullability.{Nullability}
use Rattle.scan_values.specs.declared.ptype.Nullability.TheVariants.{NonNullable, Nullable}
use Rattle.scan_values.specs.declared.ptype.PType.TheVariants.{U64}
use Rattle.scan_values.specs.DataType.{DataType, bool_type, int_type, list_type}
use Rattle.scan_values.specs.Fits.{fits}
use Rattle.scan_values.specs.Marked.{Marked, integer, list, more, gone}
use Rattle.scan_values.specs.Val.{Val, Vals, null_val, bool_val, int_val, text_val, list_val, struct_val, no_vals, val, marked, marked_all}
use Rattle.scan_segments.specs.Source.{Store}
use Rattle.scan_spelling.specs.Cuts.{sums, total}
use Rattle.scan_layout.specs.declared.node.LayoutKind.TheVariants.{List as Listed}
use Rattle.scan_layout.specs.Layout.{Layout, node, nodes, child, rows_of}
use Rattle.scan_layout.specs.RowValue.{row_value, under, offset_of, elements_between, values_from}
use Rattle.scan_encode.specs.Encoded.{stored, Has, IsOf, Holds}
use Rattle.scan_encode.specs.Parts.{AllOf, IsValidity, given, offsets}
use Rattle.scan_encode.specs.Rows.{Row, elements_of, all_elements, counts, validity, parts_of}
use Rattle.scan_encode.proofs.Leaves.{get_right, get_front}
use Rattle.scan_encode.proofs.RowsOf.{of_at, all_more}
use Rattle.scan_encode.proofs.Trees.{valid_at, given_length}

-- ---- where each list begins and ends
offset_at : (s : ℕ) (ns : List ℕ) (i : ℕ) → i ≤ length ns → slice_get (s ∷ sums s ns) i ≡ Some (s + total (take i ns))
offset_at s ns zero h = let e : s ≡ s + 0 = omega arith in ap Some e
offset_at s [] (suc i) h = absurd (omega (arith, h))
offset_at s (n ∷ ns) (suc i) h =
    let e : s + n + total (take i ns) ≡ s + (n + total (take i ns)) = omega arith in
    offset_at (s + n) ns i (omega (arith, h)) ∙ ap Some e

sums_length : (s : ℕ) (ns : List ℕ) → length (sums s ns) ≡ length ns
sums_length s [] = refl
sums_length s (n ∷ ns) = ap suc (sums_length (s + n) ns)

total_next : (rows : List Row) (i : ℕ) (r : Row) → slice_get rows i ≡ Some r → total (take (suc i) (counts rows)) ≡ total (take i (counts rows)) + length (elements_of r)
total_next [] i r e = absurd (none-some r e)
total_next (q ∷ rows) zero r e = let s : q ≡ r = cc in let k = ap (λ z. length (elements_of z)) s in omega (arith, k)
total_next (q ∷ rows) (suc i) r e = omega (arith, total_next rows i r e)

total_within : (rows : List Row) (m : ℕ) → total (take m (counts rows)) ≤ length (all_elements rows)
total_within [] zero = omega arith
total_within [] (suc m) = omega arith
total_within (r ∷ rows) zero = omega arith
total_within (r ∷ rows) (suc m) =
    let e = ap length (all_more r rows) in
    omega (arith, e, length-append (elements_of r) (all_elements rows), total_within rows m)

element_at : (rows : List Row) (i : ℕ) (r : Row) → slice_get rows i ≡ Some r → (j : ℕ) (x : Row) → slice_get (elements_of r) j ≡ Some x
    → slice_get (all_elements rows) (total (take i (counts rows)) + j) ≡ Some x
element_at [] i r e j x h = absurd (none-some r e)
element_at (q ∷ rows) zero r e j x h =
    let s : q ≡ r = cc in
    let k : 0 + j ≡ j = omega arith in
    ap (λ z. slice_get z (0 + j)) (all_more q rows)
    ∙ (ap (slice_get (elements_of q ++ all_elements rows)) k ∙ get_front (elements_of q) (all_elements rows) j x (ap (λ z. slice_get (elements_of z) j) s ∙ h))
element_at (q ∷ rows) (suc i) r e j x h =
    let m = total (take i (counts rows)) in
    let k : length (elements_of q) + m + j ≡ length (elements_of q) + (m + j) = omega arith in
    ap (λ z. slice_get z (length (elements_of q) + m + j)) (all_more q rows)
    ∙ (ap (slice_get (elements_of q ++ all_elements rows)) k ∙ (get_right (elements_of q) (all_elements rows) (m + j) ∙ element_at rows i r e j x h))

-- the values from a place on are those of a list
values_at : (f : ℕ → Marked) (vs : Vals) (a n : ℕ) → n ≡ length (parts_of vs) → ((j m : ℕ) (v : Val) → m ≡ a + j → slice_get (parts_of vs) j ≡ Some v → f m ≡ marked v)
    → values_from f a n ≡ marked_all vs
values_at f no_vals a n e h = ap (values_from f a) e
values_at f (val v vs) a n e h =
    ap (values_from f a) e
    ∙ ap₂ more (h 0 a v (omega arith) refl) (values_at f vs (a + 1) (length (parts_of vs)) refl (λ j m w q s. h (suc j) m w (omega (arith, q)) s))

module _ (t : DataType) (rows : List Row) (segments : List (List ℕ)) (store : Store) (has : Has store segments) (el off : Layout)
    (of_el : IsOf t (all_elements rows) segments el) (of_off : IsOf (int_type U64 NonNullable) (given (offsets rows)) segments off) (i : ℕ) where
  -- an offset
  number_at : (k : ℕ) → k ≤ length rows → row_value off store k ≡ integer (pos (0 + total (take k (counts rows))))
  number_at k h =
      let num : ℕ → Val = λ n. int_val (pos n) in
      let len = length-map rows (λ r. length (elements_of r)) in
      of_off.gives store has k (num (0 + total (take k (counts rows))))
      (slice_get-map Some (offsets rows) k ∙ ap (option_map Some) (slice_get-map num (0 ∷ sums 0 (counts rows)) k ∙ ap (option_map num) (offset_at 0 (counts rows) k (omega (arith, h, len)))))

  -- the elements of a list
  pub list_value : (vs : Vals) → slice_get rows i ≡ Some (Some (list_val vs))
      → elements_between (rows_of el) (offset_of (row_value off store i)) (offset_of (row_value off store (i + 1))) (λ j. row_value el store j) ≡ list (marked_all vs)
  list_value vs e =
      let f : ℕ → Marked = λ j. row_value el store j in
      let m = total (take i (counts rows)) in
      let k = total (take (i + 1) (counts rows)) in
      let lt = slice_get_within rows i (Some (list_val vs)) e in
      let next = ap (λ z. total (take z (counts rows))) (add-one i) in
      let more' = total_next rows i (Some (list_val vs)) e in
      let len = length-map (parts_of vs) Some in
      let most = total_within rows (i + 1) in
      let size = of_el.size in
      let a : nat_le (0 + m) (0 + k) ≡ true = let q : 0 + m ≤ 0 + k = omega (arith, next, more') in grind (arith, nat_tests) in
      let b : nat_le (0 + k) (rows_of el) ≡ true = let q : 0 + k ≤ rows_of el = omega (arith, most, size) in grind (arith, nat_tests) in
      let yes : (nat_le (0 + m) (0 + k) && nat_le (0 + k) (rows_of el)) ≡ true = ap (λ z. z && nat_le (0 + k) (rows_of el)) a ∙ b in
      ap₂ (λ x y. elements_between (rows_of el) (offset_of x) (offset_of y) f) (number_at i (omega (arith, lt))) (number_at (i + 1) (omega (arith, lt)))
      ∙ (ap (λ z. cond z (list (values_from f (0 + m) (0 + k - (0 + m)))) gone) yes
      ∙ ap list (values_at f vs (0 + m) (0 + k - (0 + m)) (omega (arith, next, more', len))
      (λ j n v q s. let z : n ≡ m + j = omega (arith, q) in
      of_el.gives store has n v (ap (slice_get (all_elements rows)) z ∙ element_at rows i (Some (list_val vs)) e j (Some v) (slice_get-map Some (parts_of vs) j ∙ ap (option_map Some) s)))))

offsets_rows : (rows : List Row) → length (given (offsets rows)) ≡ length rows + 1
offsets_rows rows =
    let num : ℕ → Val = λ n. int_val (pos n) in
    let a = length-map (offsets rows) Some in
    let b = length-map (0 ∷ sums 0 (counts rows)) num in
    let c = sums_length 0 (counts rows) in
    let d = length-map rows (λ r. length (elements_of r)) in
    omega (arith, a, b, c, d)

module _ (t : DataType) (rows : List Row) (segments : List (List ℕ)) (el off : Layout) (of_el : IsOf t (all_elements rows) segments el)
    (of_off : IsOf (int_type U64 NonNullable) (given (offsets rows)) segments off) where
  plain_list : (store : Store) → Has store segments → (i : ℕ) (v : Val) → slice_get rows i ≡ Some (Some v) → fits (marked v) (list_type t NonNullable) ≡ true
      → elements_between (rows_of el) (offset_of (row_value off store i)) (offset_of (row_value off store (i + 1))) (λ j. row_value el store j) ≡ marked v
  plain_list store has i null_val e f = absurd cc
  plain_list store has i (bool_val b) e f = absurd cc
  plain_list store has i (int_val z) e f = absurd cc
  plain_list store has i (text_val s) e f = absurd cc
  plain_list store has i (list_val vs) e f = list_value t rows segments store has el off of_el of_off i vs e
  plain_list store has i (struct_val vs) e f = absurd cc

  null_list : (store : Store) (has : Has store segments) (i : ℕ) (l : Layout) (v : Val) → slice_get rows i ≡ Some (Some v) → fits (marked v) (list_type t Nullable) ≡ true
      → IsOf (bool_type NonNullable) (given (validity rows)) segments l
      → under (row_value l store i) (elements_between (rows_of el) (offset_of (row_value off store i)) (offset_of (row_value off store (i + 1))) (λ j. row_value el store j)) ≡ marked v
  null_list store has i l null_val e f n =
      ap (λ z. under z (elements_between (rows_of el) (offset_of (row_value off store i)) (offset_of (row_value off store (i + 1))) (λ j. row_value el store j)))
      (valid_at rows segments store has i l null_val n e)
  null_list store has i l (bool_val b) e f n = absurd cc
  null_list store has i l (int_val z) e f n = absurd cc
  null_list store has i l (text_val s) e f n = absurd cc
  null_list store has i l (list_val vs) e f n =
      ap (λ z. under z (elements_between (rows_of el) (offset_of (row_value off store i)) (offset_of (row_value off store (i + 1))) (λ j. row_value el store j)))
      (valid_at rows segments store has i l (list_val vs) n e) ∙ list_value t rows segments store has el off of_el of_off i vs e
  null_list store has i l (struct_val vs) e f n = absurd cc

-- lists of these children
pub list_is : (n : Nullability) (t : DataType) (rows : List Row) (segments : List (List ℕ)) (el off : Layout) (vs : List Layout) → AllOf (list_type t n) rows
    → IsOf t (all_elements rows) segments el → IsOf (int_type U64 NonNullable) (given (offsets rows)) segments off → IsValidity n rows segments vs
    → IsOf (list_type t n) rows segments (node (list_type t n) (length rows) (Listed U64) (child el (child off (nodes vs))))
list_is NonNullable t rows segments el off [] f e o h = record {
  form = (refl, refl, (o.size ∙ offsets_rows rows, tt), (e.form, (o.form, tt)));
  size = refl;
  gives = λ store has i v q. plain_list t rows segments el off e o store has i v q (of_at (list_type t NonNullable) rows i v f q);
}
list_is NonNullable t rows segments el off (l ∷ ls) f e o h = absurd h
list_is Nullable t rows segments el off [] f e o h = absurd h
list_is Nullable t rows segments el off (l ∷ []) f e o h = record {
  form = (refl, refl, (o.size ∙ offsets_rows rows, (h.size ∙ given_length rows, tt)), (e.form, (o.form, (h.form, tt))));
  size = refl;
  gives = λ store has i v q. null_list t rows segments el off e o store has i l v q (of_at (list_type t Nullable) rows i v f q) h;
}
list_is Nullable t rows segments el off (l ∷ m ∷ ls) f e o h = absurd h

-- values that are all there
pub holds_given : (d : DataType) (vs : List Val) (segments : List (List ℕ)) (l : Layout) → IsOf d (given vs) segments l → Holds d vs segments l
holds_given d vs segments l h = record {
  form = h.form;
  size = h.size ∙ length-map vs Some;
  gives = λ i v e. h.gives (stored segments) (record { finds = λ id bytes q. q }) i v (slice_get-map Some vs i ∙ ap (option_map Some) e);
}

-- The values of a leaf, segment by segment.
use Rattle.std.proofs.Common.{◌≡◌, ℕ, zero, suc, ◌+◌, ◌-◌, ◌≤◌, ◌<◌, ◌^◌, true, false, cond, List, [], ◌∷◌, ◌++◌, length, map, take, drop, inl, inr, refl, sym, ap, ◌∙◌, subst, arith, append-nil, append_assoc}
use Rattle.std.specs.Borrow.{Bor}
use Rattle.std.specs.Prelude.{Option, Some, option_map, option_and_then, nat_lt, slice_get, slice_range}
use Rattle.std.proofs.lemmas.Bool.{cases_lt}
use Rattle.std.proofs.lemmas.Bool.Decides.{nat_tests}
use Rattle.std.proofs.lemmas.List.{length-map, length-take, length-drop, map-append, take_all, take-take, drop-take, take-append-drop}
use Rattle.std.proofs.lemmas.List.Sums.{sum_by_push}
use Rattle.std.proofs.lemmas.Option.{none-some, slice_get-map, get_or_from_slice_get}
use Rattle.scan_values.specs.DataType.{DataType, bool_type, int_type, utf8_type, list_type, struct_type}
use Rattle.scan_values.specs.Kinds.{is_scalar_type}
use Rattle.scan_values.specs.Val.{Val, null_val, marked}
use Rattle.scan_values.specs.declared.value.Value.{Value}
use Rattle.scan_segments.specs.Source.{Store}
use Rattle.scan_spelling.specs.declared.spelling.Spelling.{Spelling}
use Rattle.scan_spelling.specs.Places.{Place, place_of, places_of, decoded}
use Rattle.scan_spelling.specs.Spelling.{decode}
use Rattle.scan_spelling.proofs.Lengths.{bind_some}
use Rattle.scan_layout.specs.declared.node.LayoutKind.TheVariants.{Leaf}
use Rattle.scan_layout.specs.Layout.{Layout, node, no_nodes}
use Rattle.scan_layout.specs.Check.{total_rows, child_types}
use Rattle.scan_layout.specs.Form.{HaveForms}
use Rattle.scan_layout.specs.RowValue.{item_of, segment_value, leaf_value}
use Rattle.scan_encode.specs.Encoded.{stored, Has, IsOf}
use Rattle.scan_encode.specs.Parts.{AllOf}
use Rattle.scan_encode.specs.Rows.{Row, leaf_value as value_in}
use Rattle.scan_encode.specs.RowsIn.{row_in, rows_in}

-- what one store has, the other has too
abbrev pub Under : Store → Store → Type 0
Under a b = (id : ℕ) (bytes : List ℕ) → a id ≡ Some bytes → b id ≡ Some bytes

-- ---- an element of two lists
pub get_left : {A : Type 0} (xs ys : List A) (i : ℕ) → i < length xs → slice_get (xs ++ ys) i ≡ slice_get xs i
get_left [] ys i h = absurd (omega (arith, h))
get_left (x ∷ xs) ys zero h = refl
get_left (x ∷ xs) ys (suc i) h = get_left xs ys i (omega (arith, h))

pub get_right : {A : Type 0} (xs ys : List A) (i : ℕ) → slice_get (xs ++ ys) (length xs + i) ≡ slice_get ys i
get_right [] ys i = let e : 0 + i ≡ i = omega arith in ap (slice_get ys) e
get_right (x ∷ xs) ys i = let e : length (x ∷ xs) + i ≡ suc (length xs + i) = omega arith in ap (slice_get (x ∷ (xs ++ ys))) e ∙ get_right xs ys i

pub get_front : {A : Type 0} (xs ys : List A) (i : ℕ) (x : A) → slice_get xs i ≡ Some x → slice_get (xs ++ ys) i ≡ Some x
get_front [] ys i x h = absurd (none-some x h)
get_front (y ∷ xs) ys zero x h = h
get_front (y ∷ xs) ys (suc i) x h = get_front xs ys i x h

-- ---- a leaf's segments
-- the values of the segments, one after the other
abbrev pub AreValues : DataType → Spelling → Store → List (ℕ × ℕ) → List Val → Type 0
AreValues d s store [] vs = vs ≡ []
AreValues d s store (g ∷ gs) vs = (xs : List Val) × (ys : List Val) × (vs ≡ xs ++ ys) × (length xs ≡ g.1)
    × (decoded store (place_of d s g) ≡ Some xs) × AreValues d s store gs ys

decoded_under : (a b : Store) (p : Place) (xs : List Val) → Under a b → decoded a p ≡ Some xs → decoded b p ≡ Some xs
decoded_under a b p xs u h =
    let q = bind_some (a p.id) (decode p.spelling p.dtype p.rows) xs h in
    ap (option_and_then (decode p.spelling p.dtype p.rows)) (u p.id q.0 q.1) ∙ q.2

module _ (d : DataType) (s : Spelling) where
  pub values_under : (a b : Store) → Under a b → (gs : List (ℕ × ℕ)) (vs : List Val) → AreValues d s a gs vs → AreValues d s b gs vs
  values_under a b u [] vs h = h
  values_under a b u (g ∷ gs) vs h =
      (h.0, h.1, h.2, h.3, decoded_under a b (place_of d s g) h.0 u h.4, values_under a b u gs h.1 h.5)

  pub values_more : (store : Store) (gs : List (ℕ × ℕ)) (vs : List Val) (g : ℕ × ℕ) (xs : List Val) → AreValues d s store gs vs
      → length xs ≡ g.1 → decoded store (place_of d s g) ≡ Some xs → AreValues d s store (gs ++ g ∷ []) (vs ++ xs)
  values_more store [] vs g xs h l e = (xs, [], ap (λ z. z ++ xs) h ∙ sym (append-nil xs), l, e, refl)
  values_more store (f ∷ gs) vs g xs h l e =
      (h.0, h.1 ++ xs, ap (λ z. z ++ xs) h.2 ∙ append_assoc h.0 h.1 xs, h.3, h.4, values_more store gs h.1 g xs h.5 l e)

  here : (store : Store) (g : ℕ × ℕ) (places : List Place) (xs : List Val) (i : ℕ) (v : Val) → decoded store (place_of d s g) ≡ Some xs → length xs ≡ g.1
      → i < g.1 → slice_get xs i ≡ Some v → leaf_value d store (place_of d s g ∷ places) i ≡ marked v
  here store g places xs i v e l lt h =
      let yes : nat_lt i g.1 ≡ true = grind (arith, nat_tests) in
      ap (λ b. cond b (segment_value store (place_of d s g) i) (leaf_value d store places (i - g.1))) yes
      ∙ (ap (item_of d i) e ∙ ap marked (get_or_from_slice_get xs i v null_val h))

  later : (store : Store) (g : ℕ × ℕ) (places : List Place) (i k : ℕ) (v : Val) → i ≡ g.1 + k → leaf_value d store places k ≡ marked v
      → leaf_value d store (place_of d s g ∷ places) i ≡ marked v
  later store g places i k v e h =
      let no' : nat_lt i g.1 ≡ false = grind (arith, nat_tests) in
      let same : i - g.1 ≡ k = omega (arith, e) in
      ap (λ b. cond b (segment_value store (place_of d s g) i) (leaf_value d store places (i - g.1))) no'
      ∙ (ap (leaf_value d store places) same ∙ h)

  pub value_at : (store : Store) (gs : List (ℕ × ℕ)) (vs : List Val) → AreValues d s store gs vs → (i : ℕ) (v : Val) → slice_get vs i ≡ Some v
      → leaf_value d store (places_of d s gs) i ≡ marked v
  value_at store [] vs h i v q = absurd (none-some v (ap (λ z. slice_get z i) (sym h) ∙ q))
  value_at store (g ∷ gs) vs h i v q =
      let at : slice_get (h.0 ++ h.1) i ≡ Some v = ap (λ z. slice_get z i) (sym h.2) ∙ q in
      elim (cases_lt i g.1) [
        | inl below ↦ here store g (places_of d s gs) h.0 i v h.4 h.3 below (sym (get_left h.0 h.1 i (omega (arith, below, h.3))) ∙ at)
        | inr above ↦
            let k : length h.0 + (i - g.1) ≡ i = omega (arith, above, h.3) in
            let there : slice_get h.1 (i - g.1) ≡ Some v = sym (get_right h.0 h.1 (i - g.1)) ∙ (ap (slice_get (h.0 ++ h.1)) k ∙ at) in
            later store g (places_of d s gs) i (i - g.1) v (omega (arith, above)) (value_at store gs h.1 h.5 (i - g.1) v there)
      ]

  no_kids : (t : DataType) (gs : List (ℕ × ℕ)) → is_scalar_type t ≡ true → HaveForms no_nodes (child_types t (Leaf gs s))
  no_kids (bool_type n) gs h = tt
  no_kids (int_type p n) gs h = tt
  no_kids (utf8_type n) gs h = tt
  no_kids (list_type t n) gs h = absurd cc
  no_kids (struct_type fs n) gs h = absurd cc

  -- rows whose values the segments are
  pub leaf_is : (rows : List Row) (segments : List (List ℕ)) (gs : List (ℕ × ℕ)) → is_scalar_type d ≡ true → AreValues d s (stored segments) gs (map (value_in d) rows)
      → total_rows gs ≡ length rows → length rows < 2 ^ 64 → IsOf d rows segments (node d (length rows) (Leaf gs s) no_nodes)
  leaf_is rows segments gs scalar h t l = record {
    form = (refl, scalar, (t, l), no_kids d gs scalar);
    size = refl;
    gives = λ store has i v e. value_at store gs (map (value_in d) rows) (values_under (stored segments) store has.finds gs (map (value_in d) rows) h) i v
        (slice_get-map (value_in d) rows i ∙ ap (option_map (value_in d)) e);
  }

-- ---- one more segment
pub take_join : {A : Type 0} (a b : ℕ) (xs : List A) → a ≤ b → take a xs ++ take (b - a) (drop a xs) ≡ take b xs
take_join a b xs h =
    let e : a + (b - a) ≡ b = omega (arith, h) in
    ap (λ z. take a xs ++ z) (sym (drop-take a (b - a) xs) ∙ ap (λ k. drop a (take k xs)) e)
    ∙ (ap (λ z. z ++ drop a (take b xs)) (sym (take-take a b xs h)) ∙ take-append-drop a (take b xs))

pub one_more : (d : DataType) (s : Spelling) (rows : List (Option (Bor Value))) (a b n id : ℕ) (part : List (Option (Bor Value))) (few many : List (List ℕ)) (made : List (ℕ × ℕ))
    → a ≤ b → part ≡ slice_range rows a b → n ≡ length part → Has (stored many) few → AreValues d s (stored few) made (map (value_in d) (rows_in (take a rows)))
    → decoded (stored many) (place_of d s (id, length part)) ≡ Some (map (value_in d) (rows_in part))
    → AreValues d s (stored many) (made ++ (id, n) ∷ []) (map (value_in d) (rows_in (take b rows)))
one_more d s rows a b n id part few many made h e l has v q =
    let f : List (Option (Bor Value)) → List Val = λ z. map (value_in d) (rows_in z) in
    let joined : f (take a rows) ++ f part ≡ f (take b rows) =
    sym (ap (map (value_in d)) (map-append row_in (take a rows) part) ∙ map-append (value_in d) (rows_in (take a rows)) (rows_in part))
    ∙ ap f (ap (λ z. take a rows ++ z) e ∙ take_join a b rows h) in
    let size : length (f part) ≡ n = length-map (rows_in part) (value_in d) ∙ (length-map part row_in ∙ sym l) in
    let there : decoded (stored many) (place_of d s (id, n)) ≡ Some (f part) = ap (λ k. decoded (stored many) (place_of d s (id, k))) l ∙ q in
    subst (AreValues d s (stored many) (made ++ (id, n) ∷ [])) joined
    (values_more d s (stored many) made (f (take a rows)) (id, n) (f part) (values_under d s (stored few) (stored many) has.finds made (f (take a rows)) v) size there)

pub total_more : (gs : List (ℕ × ℕ)) (g : ℕ × ℕ) → total_rows (gs ++ g ∷ []) ≡ total_rows gs + g.1
total_more gs g = sum_by_push (λ x. x.1) gs g

-- all rows are in the segments
pub all_in : (d : DataType) (s : Spelling) (rows : List (Option (Bor Value))) (a : ℕ) (segments : List (List ℕ)) (made : List (ℕ × ℕ)) → is_scalar_type d ≡ true
    → length rows ≤ a → a ≤ length rows → length rows < 2 ^ 64 → AreValues d s (stored segments) made (map (value_in d) (rows_in (take a rows))) → total_rows made ≡ a
    → IsOf d (rows_in rows) segments (node d (length rows) (Leaf made s) no_nodes)
all_in d s rows a segments made scalar h k l v t =
    let e : a ≡ length (rows_in rows) = omega (arith, h, k, length-map rows row_in) in
    let n : length (rows_in rows) ≡ length rows = length-map rows row_in in
    subst (λ z. IsOf d (rows_in rows) segments (node d z (Leaf made s) no_nodes)) n
    (leaf_is d s (rows_in rows) segments made scalar (subst (λ z. AreValues d s (stored segments) made (map (value_in d) (rows_in z))) (take_all a rows h) v) (t ∙ e) (omega (arith, n, l)))

-- ---- parts of rows that are lent
fits_take : (d : DataType) (n : ℕ) (rows : List (Option (Bor Value))) → AllOf d (rows_in rows) → AllOf d (rows_in (take n rows))
fits_take d zero rows h = tt
fits_take d (suc n) [] h = tt
fits_take d (suc n) (r ∷ rows) h = (h.0, fits_take d n rows h.1)

fits_drop : (d : DataType) (n : ℕ) (rows : List (Option (Bor Value))) → AllOf d (rows_in rows) → AllOf d (rows_in (drop n rows))
fits_drop d zero rows h = h
fits_drop d (suc n) [] h = tt
fits_drop d (suc n) (r ∷ rows) h = fits_drop d n rows h.1

-- ---- the rows before a place are in the segments
pub record Leafing (d : DataType) (s : Spelling) (rows : List (Option (Bor Value))) (a : ℕ) (segments : List (List ℕ)) (made : List (ℕ × ℕ)) : Type 0 where
  pub within : a ≤ length rows
  pub values : AreValues d s (stored segments) made (map (value_in d) (rows_in (take a rows)))
  pub total : total_rows made ≡ a

pub leafing_none : (d : DataType) (s : Spelling) (rows : List (Option (Bor Value))) (segments : List (List ℕ)) → Leafing d s rows 0 segments []
leafing_none d s rows segments = record { within = omega arith; values = refl; total = refl }

pub leafing_next : (d : DataType) (s : Spelling) (rows : List (Option (Bor Value))) (a b n id : ℕ) (part : List (Option (Bor Value))) (few many : List (List ℕ)) (made now : List (ℕ × ℕ))
    → a ≤ b → b ≤ length rows → part ≡ slice_range rows a b → n ≡ length part → now ≡ made ++ (id, n) ∷ [] → Has (stored many) few
    → decoded (stored many) (place_of d s (id, length part)) ≡ Some (map (value_in d) (rows_in part)) → Leafing d s rows a few made → Leafing d s rows b many now
leafing_next d s rows a b n id part few many made now h k e l m has q f = record {
  within = k;
  values = subst (λ z. AreValues d s (stored many) z (map (value_in d) (rows_in (take b rows)))) (sym m) (one_more d s rows a b n id part few many made h e l has f.values q);
  total =
      let size : length part ≡ length (take (b - a) (drop a rows)) = ap length e in
      let t = ap total_rows m ∙ total_more made (id, n) in
      let x = length-take (b - a) (drop a rows) in
      let y = length-drop a rows in
      let z = f.total in
      omega (arith, size, t, x, y, z, l, h, k);
}

pub leafing_all : (d : DataType) (s : Spelling) (rows : List (Option (Bor Value))) (a n : ℕ) (segments : List (List ℕ)) (made : List (ℕ × ℕ)) (l : Layout) → is_scalar_type d ≡ true
    → n ≡ length rows → n ≤ a → n < 2 ^ 64 → Leafing d s rows a segments made → l ≡ node d n (Leaf made s) no_nodes → IsOf d (rows_in rows) segments l
leafing_all d s rows a n segments made l scalar e h k f q =
    subst (IsOf d (rows_in rows) segments) (sym (q ∙ ap (λ z. node d z (Leaf made s) no_nodes) e))
    (all_in d s rows a segments made scalar (omega (arith, e, h)) f.within (omega (arith, e, k)) f.values f.total)

pub part_fits : (d : DataType) (rows part : List (Option (Bor Value))) (a b : ℕ) → part ≡ slice_range rows a b → AllOf d (rows_in rows) → AllOf d (rows_in part)
part_fits d rows part a b e h = subst (λ z. AllOf d (rows_in z)) (sym e) (fits_take d (b - a) (drop a rows) (fits_drop d a rows h))

-- A row is clean where the segments that it touches decode and its offsets are good.
use Rattle.std.proofs.Common.{◌≡◌, ℕ, zero, suc, ◌+◌, ◌-◌, ◌<◌, ◌≤◌, min, List, [], ◌∷◌, refl, sym, subst, Bool, false, true, Option, Some, None, arith, ◌&&◌}
use Rattle.std.specs.Prelude.{nat_lt, ◌==◌, if◌then◌else◌, ℤ, pos, negsuc, slice_index_or}
use Rattle.std.proofs.lemmas.Bool.{ltb-true, ltb-false, lt-ltb, le-leb}
use Rattle.std.proofs.lemmas.List.Sums.{sum_by-cons}
use Rattle.scan_values.specs.declared.ptype.Nullability.TheVariants.{NonNullable, Nullable}
use Rattle.scan_values.specs.declared.ptype.PType.{PType}
use Rattle.scan_values.specs.DataType.{DataType, bool_type, int_type, utf8_type, list_type, struct_type, field_list}
use Rattle.scan_values.specs.FieldLists.{dtypes_of as field_types}
use Rattle.scan_values.specs.Kinds.{is_scalar_type}
use Rattle.scan_values.specs.Fits.{fits}
use Rattle.scan_values.specs.Marked.{Marked, lost, null, gone, boolean, integer, text, list, struct}
use Rattle.scan_values.specs.Val.{null_val, is_clean, are_clean, is_clean-marked}
use Rattle.scan_segments.specs.Source.{Store}
use Rattle.scan_layout.specs.declared.node.LayoutKind.TheVariants.{Leaf, Struct, List as List'}
use Rattle.scan_layout.specs.Layout.{Layout, Nodes, node, no_nodes, child, rows_of}
use Rattle.scan_layout.specs.Check.{serves, total_rows}
use Rattle.scan_layout.specs.Form.{HasForm, HaveForms, AllHaveRows}
use Rattle.scan_layout.specs.Laws.{Each, Decodes, InOrder, OffsetsAreGood, AllOffsetsAreGood, is_there}
use Rattle.scan_values.specs.Paths.{Step, to_validity, to_offsets, to_elements}
use Rattle.scan_spelling.specs.declared.spelling.Spelling.{Spelling}
use Rattle.scan_spelling.specs.Places.{Place, place_of, places_of}
use Rattle.scan_layout.specs.RowValue.{row_value, row_values, leaf_value, segment_value, under, elements_between, offset_of, values_from}
use Rattle.scan_layout.specs.Touched.{touched, all_touched, leaf_touched, nth_touched, under_step, struct_steps, element_from, element_to, least_offset, greatest_offset}
use Rattle.scan_layout.proofs.RowFits.{row_fits}
use Rattle.scan_layout.proofs.Local.{agree_left, agree_right, agree_inside, agreed_if, IsBlind, leaf_here, leaf_later, fewer, list_places, inner_places, element_places, to_most, from_by, to_by, least_le, greatest_ge}

clean_if : (test : Bool) (x y : Marked) → (test ≡ true → is_clean x ≡ true) → (test ≡ false → is_clean y ≡ true) → is_clean (if test then x else y) ≡ true
clean_if true x y h k = h refl
clean_if false x y h k = k refl

decodes_blind : (s : Store) → IsBlind (Decodes s)
decodes_blind s step p = (λ h. h, λ h. h)

segment_clean : (s : Store) (p : Place) (i : ℕ) → Decodes s p → is_clean (segment_value s p i) ≡ true
segment_clean s p i h = rw h.1 (is_clean-marked (slice_index_or h.0 i null_val))

leaf_clean : (t : DataType) (sp : Spelling) (s : Store) (base : ℕ) (segments : List (ℕ × ℕ)) (i a b : ℕ) → a ≤ base + i → base + i < b → i < total_rows segments →
    Each (Decodes s) (leaf_touched base (places_of t sp segments) a b) → is_clean (leaf_value t s (places_of t sp segments) i) ≡ true
leaf_clean t sp s base [] i a b low high within h = absurd (omega arith)
leaf_clean t sp s base (g ∷ segments) i a b low high within h =
    let p : Place = place_of t sp g in
    let places : List Place = places_of t sp segments in
    let sum : total_rows (g ∷ segments) ≡ g.1 + total_rows segments = sum_by-cons (λ x. x.1) g segments in
    clean_if (nat_lt i g.1) (segment_value s p i) (leaf_value t s places (i - g.1))
    (λ q. let inside : i < g.1 = ltb-true i g.1 q in segment_clean s p i (leaf_here (Decodes s) base p places a b (omega arith) h))
    (λ q. let past : g.1 ≤ i = ltb-false i g.1 q in leaf_clean t sp s (base + g.1) segments (i - g.1) a b (omega arith) (omega arith) (omega arith) (leaf_later (Decodes s) base p places a b h))

under_clean : (v m : Marked) → fits v (bool_type NonNullable) ≡ true → is_clean v ≡ true → (is_there Nullable v ≡ true → is_clean m ≡ true) → is_clean (under v m) ≡ true
under_clean (boolean true) m f c h = h refl
under_clean (boolean false) m f c h = refl
under_clean lost m f c h = absurd cc
under_clean null m f c h = absurd cc
under_clean gone m f c h = absurd cc
under_clean (integer z) m f c h = absurd cc
under_clean (text z) m f c h = absurd cc
under_clean (list z) m f c h = absurd cc
under_clean (struct z) m f c h = absurd cc

offset_there : (p : PType) (m : Marked) → fits m (int_type p NonNullable) ≡ true → is_clean m ≡ true → (z : ℤ) × (offset_of m ≡ Some z)
offset_there p (integer z) f c = (z, refl)
offset_there p lost f c = absurd cc
offset_there p null f c = absurd cc
offset_there p gone f c = absurd cc
offset_there p (boolean b) f c = absurd cc
offset_there p (text b) f c = absurd cc
offset_there p (list b) f c = absurd cc
offset_there p (struct b) f c = absurd cc

values_clean : (f : ℕ → Marked) (i n : ℕ) → ((j : ℕ) → i ≤ j → j < i + n → is_clean (f j) ≡ true) → are_clean (values_from f i n) ≡ true
values_clean f i zero h = refl
values_clean f i (suc n) h = rw (h i (omega arith) (omega arith)) (values_clean f (i + 1) n (λ j low high. h j (omega arith) (omega arith)))

between_clean : (most : ℕ) (o p : Option ℤ) (f : ℕ → Marked) (y z : ℤ) → o ≡ Some y → p ≡ Some z → InOrder most o p →
    ((a b j : ℕ) → o ≡ Some (pos a) → p ≡ Some (pos b) → a ≤ b → b ≤ most → a ≤ j → j < b → is_clean (f j) ≡ true) → is_clean (elements_between most o p f) ≡ true
between_clean most (Some (pos a)) (Some (pos b)) f y z d e order h =
    rw (le-leb a b order.0, le-leb b most order.1) (values_clean f a (b - a) (λ j low high. h a b j refl refl order.0 order.1 low (omega arith)))
between_clean most (Some (pos a)) (Some (negsuc b)) f y z d e order h = absurd order
between_clean most (Some (negsuc a)) p f y z d e order h = absurd order
between_clean most (Some (pos a)) None f y z d e order h = absurd cc
between_clean most None p f y z d e order h = absurd cc

-- what is known of the rows of a child
abbrev CleanRows : Layout → Store → Type 0
CleanRows l s = (j : ℕ) → j < rows_of l → Each (Decodes s) (touched l s j (j + 1)) → OffsetsAreGood l s j → is_clean (row_value l s j) ≡ true

scalar_good : (l : Layout) (t : DataType) (s : Store) (i : ℕ) → is_scalar_type t ≡ true → HasForm l t → OffsetsAreGood l s i
scalar_good (node u rows (Leaf segments spelling) kids) t s i scalar form = tt
scalar_good (node u rows Struct kids) t s i scalar form = absurd (no_struct u (subst (λ w. is_scalar_type w ≡ true) (sym form.0) scalar) form.1)
  where
    no_struct : (w : DataType) → is_scalar_type w ≡ true → serves Struct w ≡ true → ⊥
    no_struct (bool_type n) a b = absurd cc
    no_struct (int_type q n) a b = absurd cc
    no_struct (utf8_type n) a b = absurd cc
    no_struct (list_type e n) a b = absurd cc
    no_struct (struct_type fs n) a b = absurd cc
scalar_good (node u rows (List' p) kids) t s i scalar form = absurd (no_list u (subst (λ w. is_scalar_type w ≡ true) (sym form.0) scalar) form.1)
  where
    no_list : (w : DataType) → is_scalar_type w ≡ true → serves (List' p) w ≡ true → ⊥
    no_list (bool_type n) a b = absurd cc
    no_list (int_type q n) a b = absurd cc
    no_list (utf8_type n) a b = absurd cc
    no_list (list_type e n) a b = absurd cc
    no_list (struct_type fs n) a b = absurd cc

-- one offset of a list's row
offset_clean : (o : Layout) (p : PType) (s : Store) (k i rows : ℕ) → CleanRows o s → HasForm o (int_type p NonNullable) → rows_of o ≡ rows + 1 → i < rows → i ≤ k → k ≤ i + 1 → Each (Decodes s) (touched o s i (i + 1 + 1)) → (z : ℤ) × (offset_of (row_value o s k) ≡ Some z)
offset_clean o p s k i rows clean form many within low high h =
    offset_there p (row_value o s k) (row_fits o (int_type p NonNullable) s k form)
    (clean k (omega arith) (fewer o (int_type p NonNullable) (Decodes s) (decodes_blind s) s k (k + 1) i (i + 1 + 1) form low (omega arith) (omega arith) h) (scalar_good o (int_type p NonNullable) s k refl form))

-- the content of a list's row
content_clean : (a o : Layout) (rest : Nodes) (e : DataType) (p : PType) (s : Store) (i rows : ℕ) → CleanRows a s → CleanRows o s → HasForm a e → HasForm o (int_type p NonNullable) → rows_of o ≡ rows + 1 → i < rows →
    Each (Decodes s) (inner_places (child a (child o rest)) rows s i (i + 1)) →
    InOrder (rows_of a) (offset_of (row_value o s i)) (offset_of (row_value o s (i + 1))) →
    ((x y j : ℕ) → offset_of (row_value o s i) ≡ Some (pos x) → offset_of (row_value o s (i + 1)) ≡ Some (pos y) → x ≤ j → j < y → OffsetsAreGood a s j) →
    is_clean (elements_between (rows_of a) (offset_of (row_value o s i)) (offset_of (row_value o s (i + 1))) (λ j. row_value a s j)) ≡ true
content_clean a o rest e p s i rows clean_a clean_o form_a form_o many within h order good =
    let kids : Nodes = child a (child o rest) in
    let f : ℕ → Marked = λ k. row_value o s k in
    let from : ℕ = element_from (rows_of a) rows f i (i + 1) in
    let to : ℕ = element_to (rows_of a) rows f i (i + 1) in
    let in_offsets : Each (Decodes s) (touched o s i (i + 1 + 1)) = agree_inside (Decodes s) (decodes_blind s) to_offsets (touched o s i (i + 1 + 1)) (agree_left (Decodes s) (under_step to_offsets (touched o s i (i + 1 + 1))) (under_step to_elements (element_places kids rows s i (i + 1))) h) in
    let in_elements : Each (Decodes s) (touched a s from to) = agree_inside (Decodes s) (decodes_blind s) to_elements (element_places kids rows s i (i + 1))
    (agree_right (Decodes s) (under_step to_offsets (touched o s i (i + 1 + 1))) (under_step to_elements (element_places kids rows s i (i + 1))) h) in
    let first = offset_clean o p s i i rows clean_o form_o many within (omega arith) (omega arith) in_offsets in
    let last = offset_clean o p s (i + 1) i rows clean_o form_o many within (omega arith) (omega arith) in_offsets in
    between_clean (rows_of a) (offset_of (row_value o s i)) (offset_of (row_value o s (i + 1))) (λ j. row_value a s j) first.0 last.0 first.1 last.1 order
    (λ x y j px py ordered inside above below.
    let starts : from ≤ x = from_by (rows_of a) x (least_offset (rows_of a) f i (i + 1 + 1 - i)) ((i == 0) && (i + 1 == rows)) (λ _. least_le (rows_of a) f i (i + 1 + 1 - i) i (pos x) (omega arith) (omega arith) px) in
    let ends : y ≤ to = to_by y (rows_of a) (min (rows_of a) (greatest_offset f i (i + 1 + 1 - i))) ((i == 0) && (i + 1 == rows)) (λ _. inside)
    (λ _. let up : y ≤ greatest_offset f i (i + 1 + 1 - i) = greatest_ge f i (i + 1 + 1 - i) (i + 1) (pos y) (omega arith) (omega arith) py in omega arith) in
    clean_a j (omega arith) (fewer a e (Decodes s) (decodes_blind s) s j (j + 1) from to form_a (omega arith) (omega arith) (to_most (rows_of a) rows f i (i + 1)) in_elements) (good x y j px py above below))

mutual
  pub row_clean : (l : Layout) (t : DataType) (s : Store) (i : ℕ) → HasForm l t → i < rows_of l → Each (Decodes s) (touched l s i (i + 1)) → OffsetsAreGood l s i → is_clean (row_value l s i) ≡ true
  row_clean (node u rows (Leaf segments spelling) kids) t s i form within h good = leaf_clean u spelling s 0 segments i i (i + 1) (omega arith) (omega arith) (omega (arith, form.2.0)) h
  row_clean (node (struct_type fs NonNullable) rows Struct kids) t s i form within h good =
      all_clean kids (field_types (field_list fs)) (struct_steps (struct_type fs NonNullable)) s rows i form.3 form.2 within
      (agreed_if (Decodes s) (nat_lt i (i + 1)) (all_touched kids (struct_steps (struct_type fs NonNullable)) s i (i + 1)) (lt-ltb i (i + 1) (omega arith)) h) (good refl)
  row_clean (node (struct_type fs Nullable) rows Struct no_nodes) t s i form within h good = absurd form.3
  row_clean (node (struct_type fs Nullable) rows Struct (child v kids)) t s i form within h good =
      let all = agreed_if (Decodes s) (nat_lt i (i + 1)) (all_touched (child v kids) (struct_steps (struct_type fs Nullable)) s i (i + 1)) (lt-ltb i (i + 1) (omega arith)) h in
      let inner = agree_inside (Decodes s) (decodes_blind s) to_validity (touched v s i (i + 1)) (agree_left (Decodes s) (under_step to_validity (touched v s i (i + 1))) (all_touched kids (struct_steps (struct_type fs NonNullable)) s i (i + 1)) all) in
      let others = agree_right (Decodes s) (under_step to_validity (touched v s i (i + 1))) (all_touched kids (struct_steps (struct_type fs NonNullable)) s i (i + 1)) all in
      under_clean (row_value v s i) (struct (row_values kids s i)) (row_fits v (bool_type NonNullable) s i form.3.0)
      (row_clean v (bool_type NonNullable) s i form.3.0 (omega (arith, form.2.0)) inner (scalar_good v (bool_type NonNullable) s i refl form.3.0))
      (λ there. all_clean kids (field_types (field_list fs)) (struct_steps (struct_type fs NonNullable)) s rows i form.3.1 form.2.1 within others (good there).1)
  row_clean (node (list_type e n) rows (List' p) no_nodes) t s i form within h good = absurd form.3
  row_clean (node (list_type e n) rows (List' p) (child a no_nodes)) t s i form within h good = absurd form.3.1
  row_clean (node (list_type e NonNullable) rows (List' p) (child a (child o rest))) t s i form within h good =
      let kids : Nodes = child a (child o rest) in
      let all = agreed_if (Decodes s) (nat_lt i (i + 1)) (list_places kids rows s i (i + 1)) (lt-ltb i (i + 1) (omega arith)) h in
      content_clean a o rest e p s i rows (λ j. row_clean a e s j form.3.0) (λ j. row_clean o (int_type p NonNullable) s j form.3.1.0) form.3.0 form.3.1.0 form.2.0 within
      (agree_right (Decodes s) (under_step to_validity (nth_touched kids 2 s i (i + 1))) (inner_places kids rows s i (i + 1)) all) (good refl).0 (good refl).1
  row_clean (node (list_type e Nullable) rows (List' p) (child a (child o no_nodes))) t s i form within h good = absurd form.3.1.1
  row_clean (node (list_type e Nullable) rows (List' p) (child a (child o (child v rest)))) t s i form within h good =
      let kids : Nodes = child a (child o (child v rest)) in
      let all = agreed_if (Decodes s) (nat_lt i (i + 1)) (list_places kids rows s i (i + 1)) (lt-ltb i (i + 1) (omega arith)) h in
      let inner = agree_inside (Decodes s) (decodes_blind s) to_validity (touched v s i (i + 1)) (agree_left (Decodes s) (under_step to_validity (touched v s i (i + 1))) (inner_places kids rows s i (i + 1)) all) in
      under_clean (row_value v s i) (elements_between (rows_of a) (offset_of (row_value o s i)) (offset_of (row_value o s (i + 1))) (λ j. row_value a s j)) (row_fits v (bool_type NonNullable) s i form.3.1.1.0)
      (row_clean v (bool_type NonNullable) s i form.3.1.1.0 (omega (arith, form.2.1.0)) inner (scalar_good v (bool_type NonNullable) s i refl form.3.1.1.0))
      (λ there. content_clean a o (child v rest) e p s i rows (λ j. row_clean a e s j form.3.0) (λ j. row_clean o (int_type p NonNullable) s j form.3.1.0) form.3.0 form.3.1.0 form.2.0 within
      (agree_right (Decodes s) (under_step to_validity (nth_touched kids 2 s i (i + 1))) (inner_places kids rows s i (i + 1)) all) (good there).0 (good there).1)
  row_clean (node u rows kind kids) t s i form within h good = absurd cc

  all_clean : (ls : Nodes) (ts : List DataType) (steps : List Step) (s : Store) (rows i : ℕ) → HaveForms ls ts → AllHaveRows rows ls → i < rows → Each (Decodes s) (all_touched ls steps s i (i + 1)) → AllOffsetsAreGood ls s i → are_clean (row_values ls s i) ≡ true
  all_clean no_nodes ts steps s rows i forms fit within h good = refl
  all_clean (child l ls) [] steps s rows i forms fit within h good = absurd forms
  all_clean (child l ls) (t ∷ ts) [] s rows i forms fit within h good =
      rw (row_clean l t s i forms.0 (omega (arith, fit.0)) (agree_left (Decodes s) (touched l s i (i + 1)) (all_touched ls [] s i (i + 1)) h) good.0)
      (all_clean ls ts [] s rows i forms.1 fit.1 within (agree_right (Decodes s) (touched l s i (i + 1)) (all_touched ls [] s i (i + 1)) h) good.1)
  all_clean (child l ls) (t ∷ ts) (step ∷ steps) s rows i forms fit within h good =
      rw (row_clean l t s i forms.0 (omega (arith, fit.0)) (agree_inside (Decodes s) (decodes_blind s) step (touched l s i (i + 1)) (agree_left (Decodes s) (under_step step (touched l s i (i + 1))) (all_touched ls steps s i (i + 1)) h)) good.0)
      (all_clean ls ts steps s rows i forms.1 fit.1 within (agree_right (Decodes s) (under_step step (touched l s i (i + 1))) (all_touched ls steps s i (i + 1)) h) good.1)

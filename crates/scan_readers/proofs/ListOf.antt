-- Plans over a list's children are plans of the list's reader.
use Rattle.std.proofs.Common.{◌≡◌, ℕ, ◌+◌, ◌-◌, ◌<◌, ◌≤◌, ◌==◌, Bool, true, false, ◌||◌, ◌&&◌, List, [], ◌∷◌, ◌++◌, map, length, filter, min, replicate, Option, Some, None, refl, ap, sym, subst, ◌∙◌, arith}
use Rattle.std.specs.Prelude.{if◌then◌else◌, nat_lt}
use Rattle.std.specs.List.{list_any}
use Rattle.std.proofs.lemmas.Bool.{lt-ltb, eq-eqb}
use Rattle.std.proofs.lemmas.List.{length-replicate}
use Rattle.scan_values.specs.DataType.{DataType, Name, bool_type, int_type, list_type}
use Rattle.scan_values.specs.declared.ptype.Nullability.{Nullability}
use Rattle.scan_values.specs.declared.ptype.Nullability.TheVariants.{NonNullable, Nullable}
use Rattle.scan_values.specs.declared.ptype.PType.{PType}
use Rattle.scan_values.specs.Marked.{Marked}
use Rattle.scan_values.specs.Paths.{to_validity, to_offsets, to_elements}
use Rattle.scan_segments.specs.Source.{Store}
use Rattle.scan_expr.specs.Bound.{Bound, bound_of}
use Rattle.scan_expr.specs.Expr.{root}
use Rattle.scan_expr.specs.Needs.{needed}
use Rattle.scan_layout.specs.declared.node.LayoutKind.TheVariants.{Leaf, Struct, List as List'}
use Rattle.scan_spelling.specs.declared.spelling.Spelling.{Spelling}
use Rattle.scan_layout.specs.Check.{serves, total_rows, validity_types}
use Rattle.scan_layout.specs.Form.{HasForm, HaveForms, AllHaveRows}
use Rattle.scan_layout.specs.Laws.{Each}
use Rattle.scan_layout.specs.Layout.{Layout, Nodes, node, no_nodes, child, rows_of}
use Rattle.scan_spelling.specs.Places.{Place, places_of}
use Rattle.scan_layout.specs.Touched.{touched, below_step, nth_touched, leaf_touched, least_offset, greatest_offset, element_from, element_to}
use Rattle.scan_layout.proofs.Local.{inner_places, element_places, list_places, least_most}
use Rattle.scan_partition.specs.Lists.{necessary}
use Rattle.scan_partition.specs.ListUses.{NecessaryIsNeeded}
use Rattle.scan_partition.specs.declared.list_.ListChildrenNeeded.{ListChildrenNeeded}
use Rattle.scan_partition.specs.declared.list_.ListChildrenNeeded.TheVariants.{Validity, All}
use Rattle.scan_plans.specs.Came.{Came, arrived, Holds}
use Rattle.scan_plans.specs.Formed.{NeverOverflows}
use Rattle.scan_plans.specs.Lists.{rows_on, least_row, offset_count, offset_rows, is_whole, span_elements, element_rows}
use Rattle.scan_plans.specs.Meaning.{true_rows, Within}
use Rattle.scan_plans.specs.OffsetsData.{OffsetsData, offset_places, offset_marked}
use Rattle.scan_plans.specs.PlanData.{plan_data}
use Rattle.scan_plans.specs.Pruning.{are_numbers}
use Rattle.scan_plans.specs.PlanTree.{PlanTree, leaf, lists, lengths, valid}
use Rattle.scan_plans.specs.Wants.{names_id, leaf_wanted, offsets_wanted, are_here, knows_elements, wanted, is_bad, spoils, any_bad, offsets_spoiled, spoiled}
use Rattle.scan_plans.proofs.Spans.{on_rows}
use Rattle.scan_plans.proofs.Transfer.{offset_same}
use Rattle.scan_plans.proofs.WholeLists.{whole_range}
use Rattle.scan_plans.proofs.Wanting.{names_append}
use Rattle.scan_readers.specs.Flaws.{ListOffsets, below, lists_of, has_flaw}
use Rattle.scan_readers.specs.LeafPlans.{layout_state, leaf_layout}
use Rattle.scan_readers.specs.ListPlans.{list_layout, list_offsets, list_validity, valid_under, over_lists, over_lengths}
use Rattle.scan_readers.specs.PlanOf.{IsPlanOf, needed_places}
use Rattle.scan_readers.proofs.ListPlanning.{over_lists_value, over_lists_overflow, by_lengths_row, under_calm}
use Rattle.scan_partition.specs.Stepped.{IsOverLengths}
use Rattle.scan_readers.proofs.Flawed.{named_below, elements_below, bytes_flawed, offsets_of, bad_row, row_flawed}
use Rattle.scan_readers.proofs.LeafPaths.{IsAtLeaf, leaf_paths, paths}
use Rattle.scan_readers.proofs.SomePlace.{or_left, either, needed_all, leaf_touches, leaf_more}
use Rattle.scan_readers.proofs.ListTouches.{in_offsets, in_elements, in_validity, offsets_touch, elements_touch, here_complete, rows_between, least_greatest, touches_none, none_wanted}

-- a plan of all elements, over the elements' reader
abbrev pub IsElements : Name → Layout → DataType → PlanTree → Type 0
IsElements name el t p = IsPlanOf (layout_state name el) (bound_of t root) (plan_data (bound_of t root) p)

-- it never overflows
pub elements_calm : (name : Name) (el : Layout) (t : DataType) (p : PlanTree) → IsElements name el t p → NeverOverflows p (rows_of el)
elements_calm name el t p h = λ store i low. h.overflow store i low

some_wanted : (T : Place → Bool) (ps : List Place) (first : ℕ) (mask : List Bool) → list_any T (leaf_wanted 0 ps (true_rows first mask)) ≡ true → 0 < length mask
some_wanted T ps first [] h = absurd (let z : false ≡ true = sym (ap (list_any T) (none_wanted 0 ps)) ∙ h in cc)
some_wanted T ps first (b ∷ bits) h = omega arith

two : {A : Type 0} (a b : Bool) → (a || b) ≡ true → (a ≡ true → A) → (b ≡ true → A) → A
two true b h f g = f refl
two false b h f g = g h

unnumbered : (d : DataType) (p : PlanTree) (o : OffsetsData) (v : Option PlanTree) → are_numbers (valid_under (lists d p o) v) ≡ false
unnumbered d p o None = refl
unnumbered d p o (Some v) = refl

-- all lists take all elements
all_elements : (most rows : ℕ) (f : ℕ → Marked) (s e : ℕ) → s ≡ 0 → e ≡ rows → (element_from most rows f s e ≡ 0) × (element_to most rows f s e ≡ most)
all_elements most rows f s e a b = rw (eq-eqb s 0 a, eq-eqb e rows b) (refl, refl)

module _ (law : NecessaryIsNeeded) (name : Name) (t : DataType) (rows : ℕ) (q : PType) (el : Layout) (sp : Spelling) (gs : List (ℕ × ℕ)) (e : Bound) where
  abbrev pub kids : Nodes → Nodes
  kids ls = child el (child (leaf_layout (int_type q NonNullable) sp gs) ls)

  abbrev pub o : OffsetsData
  o = list_offsets q el sp gs

  -- of the segments that the rows of a range of the list touch, where the expression needs them, one passes a test
  abbrev pub Touches : Nullability → Nodes → (Place → Bool) → Store → ℕ → ℕ → Type 0
  Touches n ls T store a b = list_any T (needed_places e (touched (list_layout t n rows q el sp gs ls) store a b)) ≡ true

  may : (n : Nullability) (ls : Nodes) (T : Place → Bool) (store : Store) (a b : ℕ) → e.scope ≡ list_type t n → a < b → list_any T (filter (λ (p : Place). needed (list_type t n) e.expr p.path) (list_places (kids ls) rows store a b)) ≡ true → Touches n ls T store a b
  may n ls T store a b scope some h =
      let P : Bool → Type 0 = λ c. list_any T (filter (λ (p : Place). needed (list_type t n) e.expr p.path) (if c then list_places (kids ls) rows store a b else [])) ≡ true in
      let there : P (nat_lt a b) = subst P (sym (lt-ltb a b some)) h in
      ap (λ (d : DataType). list_any T (filter (λ (p : Place). needed d e.expr p.path) (touched (list_layout t n rows q el sp gs ls) store a b))) scope ∙ there

  -- ---- the offsets
  offsets_may : (n : Nullability) (ls : Nodes) (S T : Place → Bool) → ((p : Place) → S p ≡ true → T (below_step to_offsets p) ≡ true) → (store : Store) (first len : ℕ) (c : ListChildrenNeeded) → e.scope ≡ list_type t n → necessary e.expr ≡ c → (c ≡ Validity → ⊥)
      → 0 < len → list_any S (leaf_touched 0 (offset_places o) first (first + len + 1)) ≡ true → Touches n ls T store first (first + len)
  offsets_may n ls S T less store first len c scope is above some h =
      may n ls T store first (first + len) scope (omega (arith, some))
      (in_offsets law t n e.expr S T q c (nth_touched ls 0 store first (first + len)) (leaf_touched 0 (offset_places o) first (first + len + 1))
      (element_places (kids ls) rows store first (first + len)) is above less (leaf_paths (int_type q NonNullable) sp gs 0 first (first + len + 1) refl) h)

  -- of what they want
  pub offsets_want : (n : Nullability) (ls : Nodes) (S T : Place → Bool) → ((p : Place) → S p ≡ true → T (below_step to_offsets p) ≡ true) → (store : Store) (first : ℕ) (mask : List Bool) (c : ListChildrenNeeded) → e.scope ≡ list_type t n → necessary e.expr ≡ c → (c ≡ Validity → ⊥)
      → list_any S (offsets_wanted o (true_rows first mask)) ≡ true → Touches n ls T store first (first + length mask)
  offsets_want n ls S T less store first mask c scope is above h =
      let z = offsets_touch S (offset_places o) first mask h in
      offsets_may n ls S T less store first (length mask) c scope is above z.0 z.1

  -- ---- the validity
  pub validity_may : (u : DataType) (r : ℕ) (xs : List (ℕ × ℕ)) (y : Spelling) (ks ls : Nodes) (S T : Place → Bool) → ((p : Place) → S p ≡ true → T (below_step to_validity p) ≡ true) → (store : Store) (first : ℕ) (mask : List Bool) → u ≡ bool_type NonNullable → e.scope ≡ list_type t Nullable
      → list_any S (leaf_wanted 0 (places_of u y xs) (true_rows first mask)) ≡ true → Touches Nullable (child (node u r (Leaf xs y) ks) ls) T store first (first + length mask)
  validity_may u r xs y ks ls S T less store first mask bool scope h =
      let some = some_wanted S (places_of u y xs) first mask h in
      let there : Each (IsAtLeaf (bool_type NonNullable)) (leaf_touched 0 (places_of u y xs) first (first + length mask)) =
      subst (λ (d : DataType). Each (IsAtLeaf (bool_type NonNullable)) (leaf_touched 0 (places_of d y xs) first (first + length mask))) (sym bool) (leaf_paths (bool_type NonNullable) y xs 0 first (first + length mask) refl) in
      may Nullable (child (node u r (Leaf xs y) ks) ls) T store first (first + length mask) scope (omega (arith, some))
      (in_validity law t e.expr S T (leaf_touched 0 (places_of u y xs) first (first + length mask)) (inner_places (kids (child (node u r (Leaf xs y) ks) ls)) rows store first (first + length mask)) less there
      (leaf_touches S (places_of u y xs) 0 first mask h))

  -- a test of plans, which one under a validity passes where either does
  under_may : (n : Nullability) (ls : Nodes) (p : PlanTree) (S T : Place → Bool) → ((z : Place) → S z ≡ true → T (below_step to_validity z) ≡ true) → (store : Store) (first : ℕ) (mask : List Bool)
      (W : PlanTree → Bool) → ((x v : PlanTree) → W (valid x v) ≡ (W v || W x)) → ((u : DataType) (y : Spelling) (xs : List (ℕ × ℕ)) → W (leaf u y xs) ≡ true → list_any S (leaf_wanted 0 (places_of u y xs) (true_rows first mask)) ≡ true)
      → e.scope ≡ list_type t n → HaveForms ls (validity_types n) → (W p ≡ true → Touches n ls T store first (first + length mask)) → W (valid_under p (list_validity n ls)) ≡ true → Touches n ls T store first (first + length mask)
  under_may NonNullable ls p S T less store first mask W both tells scope forms k h = k h
  under_may Nullable no_nodes p S T less store first mask W both tells scope forms k h = absurd forms
  under_may Nullable (child (node u r (Leaf xs y) ks) ls) p S T less store first mask W both tells scope forms k h =
      either (W (leaf u y xs)) (W p) _ (sym (both p (leaf u y xs)) ∙ h) (λ w. validity_may u r xs y ks ls S T less store first mask (forms.0).0 scope (tells u y xs w)) k
  under_may Nullable (child (node u r Struct ks) ls) p S T less store first mask W both tells scope forms k h =
      absurd (let z : serves Struct (bool_type NonNullable) ≡ true = subst (λ (d : DataType). serves Struct d ≡ true) (forms.0).0 (forms.0).1 in cc)
  under_may Nullable (child (node u r (List' x) ks) ls) p S T less store first mask W both tells scope forms k h =
      absurd (let z : serves (List' x) (bool_type NonNullable) ≡ true = subst (λ (d : DataType). serves (List' x) d ≡ true) (forms.0).0 (forms.0).1 in cc)

  -- ---- the elements
  -- a test of rows of the elements, of which none passes it but where a segment that they touch passes another
  abbrev Tells : (List ℕ → Bool) → (Place → Bool) → Store → Type 0
  Tells W S store = (from : ℕ) (bits : List Bool) → from + length bits ≤ rows_of el → W (true_rows from bits) ≡ true → list_any S (needed_places (bound_of t root) (touched el store from (from + length bits))) ≡ true

  module _ (n : Nullability) (ls : Nodes) (S T : Place → Bool) (less : (p : Place) → S p ≡ true → T (below_step to_elements p) ≡ true) (store : Store) (here : Came) (first : ℕ) (mask : List Bool) (scope : e.scope ≡ list_type t n) (is : necessary e.expr ≡ All)
      (form : HasForm el t) (W : List ℕ → Bool) (tells : Tells W S store) (inside : first + length mask ≤ rows) where
    a_range : (from count : ℕ) → from + count ≤ rows_of el → W (rows_on from count) ≡ true → list_any S (touched el store from (from + count)) ≡ true
    a_range from count inside w =
        let long : length (replicate count true) ≡ count = length-replicate count true in
        let z = tells from (replicate count true) (omega (arith, long, inside)) w in
        sym (ap (λ x. list_any S (touched el store from (from + x))) long) ∙ needed_all S (needed t root) (touched el store from (from + length (replicate count true))) z

    of_elements : first < first + length mask → list_any S (element_places (kids ls) rows store first (first + length mask)) ≡ true → Touches n ls T store first (first + length mask)
    of_elements some h =
        may n ls T store first (first + length mask) scope some
        (in_elements law t n e.expr S T (nth_touched ls 0 store first (first + length mask)) (nth_touched (kids ls) 1 store first (first + length mask + 1)) (element_places (kids ls) rows store first (first + length mask)) is less
        (paths el t store (element_from (rows_of el) rows (offset_marked o store) first (first + length mask)) (element_to (rows_of el) rows (offset_marked o store) first (first + length mask)) form) h)

    spans_may : Holds store here → are_here (offsets_wanted o (true_rows first mask)) here ≡ true → W (span_elements o (arrived here) (true_rows first mask)) ≡ true → Touches n ls T store first (first + length mask)
    spans_may holds there h = by (true_rows first mask) refl there h
      where
        by : (js : List ℕ) → true_rows first mask ≡ js → are_here (offsets_wanted o js) here ≡ true → W (span_elements o (arrived here) js) ≡ true → Touches n ls T store first (first + length mask)
        by [] same t1 w =
            let z = tells 0 [] (omega arith) w in
            let y = needed_all S (needed t root) (touched el store 0 0) z in
            absurd (let x : false ≡ true = sym (ap (list_any S) (touches_none el store 0)) ∙ y in cc)
        by (i ∷ js) same t1 w =
            let b = rows_between first mask i js same in
            let k = least_row i js in
            let m = offset_count i js in
            let most : ℕ = rows_of el in
            let f = offset_marked o store in
            let g = offset_marked o (arrived here) in
            let from = least_offset most g k m in
            let to = min most (greatest_offset g k m) in
            let complete = here_complete (offsets_wanted o (i ∷ js)) here t1 in
            of_elements (omega (arith, b.0, b.1, least_greatest i js))
            (elements_touch el t store most rows first (length mask) k m f g S form refl inside (omega (arith, b.0, b.1, least_greatest i js)) b.0 (omega (arith, b.0, b.1, least_greatest i js))
            (λ j lo hi. offset_same o here store j (i ∷ js) holds (on_rows k m j lo hi) complete) (a_range from (to - from) (let low = least_most most g k m in omega (arith, low)) w))

    wholes_may : rows < total_rows gs → is_whole o (true_rows first mask) ≡ true → W (rows_on 0 o.elements) ≡ true → Touches n ls T store first (first + length mask)
    wholes_may more all w =
        let most : ℕ = rows_of el in
        let f = offset_marked o store in
        let b = whole_range o first mask (omega (arith, inside, more)) all in
        let ends = all_elements most rows f first (first + length mask) b.0 (omega (arith, b.0, b.1, inside, more)) in
        let flat : most ≡ 0 + most = omega arith in
        let own : list_any S (touched el store 0 most) ≡ true = ap (λ x. list_any S (touched el store 0 x)) flat ∙ a_range 0 most (omega arith) w in
        of_elements (omega (arith, b.2)) ((λ r. list_any S (touched el store (ends.0 r) (ends.1 r))) ∙ own)

    elements_may : rows < total_rows gs → Holds store here → knows_elements o here (true_rows first mask) ≡ true → W (element_rows o (arrived here) (true_rows first mask)) ≡ true → Touches n ls T store first (first + length mask)
    elements_may more holds known h = by (is_whole o (true_rows first mask)) refl known h
      where
        by : (b : Bool) → is_whole o (true_rows first mask) ≡ b → (b || are_here (offsets_wanted o (true_rows first mask)) here) ≡ true
            → W (if b then rows_on 0 o.elements else span_elements o (arrived here) (true_rows first mask)) ≡ true → Touches n ls T store first (first + length mask)
        by true all k w = wholes_may more all w
        by false all k w = spans_may holds k w

  -- ---- what is wanted
  abbrev Has : ℕ → Place → Bool
  Has id p = p.id == id

  want_under : (n : Nullability) (ls : Nodes) (p : PlanTree) (store : Store) (here : Came) (first : ℕ) (mask : List Bool) (id : ℕ) → e.scope ≡ list_type t n → HaveForms ls (validity_types n)
      → (names_id id (wanted p here (true_rows first mask)) ≡ true → Touches n ls (Has id) store first (first + length mask))
      → names_id id (wanted (valid_under p (list_validity n ls)) here (true_rows first mask)) ≡ true → Touches n ls (Has id) store first (first + length mask)
  want_under n ls p store here first mask id scope forms k w =
      under_may n ls p (Has id) (Has id) (λ z h. h) store first mask (λ x. names_id id (wanted x here (true_rows first mask)))
      (λ x v. names_append id (wanted v here (true_rows first mask)) (wanted x here (true_rows first mask))) (λ u y xs h. h) scope forms k w

  offsets_wants : (n : Nullability) (ls : Nodes) (store : Store) (first : ℕ) (mask : List Bool) (id : ℕ) (c : ListChildrenNeeded) → e.scope ≡ list_type t n → necessary e.expr ≡ c → (c ≡ Validity → ⊥)
      → names_id id (offsets_wanted o (true_rows first mask)) ≡ true → Touches n ls (Has id) store first (first + length mask)
  offsets_wants n ls store first mask id c scope is above w = offsets_want n ls (Has id) (Has id) (λ z h. h) store first mask c scope is above w

  staged : {A : Type 0} (id : ℕ) (ws : List Place) (b : Bool) (rest : List Place) → names_id id (ws ++ (if b then rest else [])) ≡ true → (names_id id ws ≡ true → A) → (b ≡ true → names_id id rest ≡ true → A) → A
  staged id ws true rest h f g = two (names_id id ws) (names_id id rest) (sym (names_append id ws rest) ∙ h) f (g refl)
  staged id ws false rest h f g = two (names_id id ws) false (sym (names_append id ws []) ∙ h) f (λ z. absurd cc)

  lists_want : (n : Nullability) (ls : Nodes) (p : PlanTree) → HasForm (list_layout t n rows q el sp gs ls) (list_type t n) → e.scope ≡ list_type t n → necessary e.expr ≡ All → IsElements name el t p
      → (store : Store) (here : Came) (first : ℕ) (mask : List Bool) (id : ℕ) → Holds store here → first + length mask ≤ rows
      → names_id id (wanted (lists (list_type t NonNullable) p o) here (true_rows first mask)) ≡ true → Touches n ls (Has id) store first (first + length mask)
  lists_want n ls p form scope is plan store here first mask id holds low w =
      staged id (offsets_wanted o (true_rows first mask)) (knows_elements o here (true_rows first mask)) (wanted p here (element_rows o (arrived here) (true_rows first mask))) w
      (offsets_wants n ls store first mask id All scope is (λ z. absurd cc))
      (λ known h. elements_may n ls (Has id) (Has id) (λ z k. k) store here first mask scope is form.3.0 (λ js. names_id id (wanted p here js)) (λ from bits b k. plan.wants store here from bits id holds b k) low (omega (arith, (form.2).0)) holds known h)

  -- ---- what is no good
  abbrev Bad : Came → ℕ → Place → Bool
  Bad here id p = (p.id == id) && is_bad p (here id)

  abbrev Flawed : Nullability → Nodes → Store → ℕ → Place → Bool
  Flawed n ls store id p = (p.id == id) && has_flaw (list_layout t n rows q el sp gs ls) store p

  spoil_under : (n : Nullability) (ls : Nodes) (p : PlanTree) (store : Store) (here : Came) (first : ℕ) (mask : List Bool) (id : ℕ) → Holds store here → e.scope ≡ list_type t n → HaveForms ls (validity_types n)
      → (spoiled p here (true_rows first mask) id ≡ true → Touches n ls (Flawed n ls store id) store first (first + length mask))
      → spoiled (valid_under p (list_validity n ls)) here (true_rows first mask) id ≡ true → Touches n ls (Flawed n ls store id) store first (first + length mask)
  spoil_under n ls p store here first mask id holds scope forms k w =
      under_may n ls p (Bad here id) (Flawed n ls store id) (λ z. bytes_flawed (list_layout t n rows q el sp gs ls) (to_validity ∷ z.path) store here id z holds) store first mask
      (λ x. spoiled x here (true_rows first mask) id) (λ x v. refl) (λ u y xs h. h) scope forms k w

  -- an offset of these rows is bad
  row_may : (n : Nullability) (ls : Nodes) (store : Store) (here : Came) (first : ℕ) (mask : List Bool) (id : ℕ) (c : ListChildrenNeeded) → Holds store here → first + length mask < total_rows gs → e.scope ≡ list_type t n → necessary e.expr ≡ c → (c ≡ Validity → ⊥)
      → any_bad o (arrived here) 0 (offset_rows (true_rows first mask)) id ≡ true → Touches n ls (Flawed n ls store id) store first (first + length mask)
  row_may n ls store here first mask id c holds inside scope is above w = by (true_rows first mask) refl w
    where
      d : DataType
      d = int_type q NonNullable

      by : (js : List ℕ) → true_rows first mask ≡ js → any_bad o (arrived here) 0 (offset_rows js) id ≡ true → Touches n ls (Flawed n ls store id) store first (first + length mask)
      by [] same h = absurd cc
      by (i ∷ js) same h =
          let b = rows_between first mask i js same in
          let k = least_row i js in
          let m = offset_count i js in
          let r = bad_row d sp gs (rows_of el) store here id holds k m 0 (omega arith) h in
          let low = r.low in
          let high = r.high in
          let has : (B : ListOffsets → Bool) → B (offsets_of d sp gs (rows_of el) store here id holds) ≡ true → list_any B (lists_of (list_layout t n rows q el sp gs ls)) ≡ true =
          λ B g. or_left (B (offsets_of d sp gs (rows_of el) store here id holds)) (list_any B (map (below to_elements) (lists_of el))) g in
          let T : Place → Bool = λ z. Flawed n ls store id (below_step to_offsets z) in
          let own = row_flawed d sp gs (rows_of el) store here id holds (list_layout t n rows q el sp gs ls) has k m (omega (arith, b.0, b.1, inside, least_greatest i js)) r in
          offsets_may n ls T (Flawed n ls store id) (λ z g. g) store first (length mask) c scope is above (omega (arith, b.0, b.1, least_greatest i js))
          (leaf_more T 0 (places_of d sp gs) r.row (r.row + 1) first (first + length mask + 1) (omega (arith, low, b.0)) (omega (arith, high, b.0, b.1, least_greatest i js)) own)

  offsets_spoil : (n : Nullability) (ls : Nodes) (store : Store) (here : Came) (first : ℕ) (mask : List Bool) (id : ℕ) (c : ListChildrenNeeded) → Holds store here → first + length mask < total_rows gs → e.scope ≡ list_type t n → necessary e.expr ≡ c → (c ≡ Validity → ⊥)
      → offsets_spoiled o here (true_rows first mask) id ≡ true → Touches n ls (Flawed n ls store id) store first (first + length mask)
  offsets_spoil n ls store here first mask id c holds inside scope is above w =
      two (spoils (offsets_wanted o (true_rows first mask)) here id) (any_bad o (arrived here) 0 (offset_rows (true_rows first mask)) id) w
      (offsets_want n ls (Bad here id) (Flawed n ls store id) (λ z. bytes_flawed (list_layout t n rows q el sp gs ls) (to_offsets ∷ z.path) store here id z holds) store first mask c scope is above)
      (row_may n ls store here first mask id c holds inside scope is above)

  either_stage : {A : Type 0} (a b rest : Bool) → (a || (if b then rest else false)) ≡ true → (a ≡ true → A) → (b ≡ true → rest ≡ true → A) → A
  either_stage a true rest h f g = two a rest h f (g refl)
  either_stage a false rest h f g = two a false h f (λ z. absurd cc)

  lists_spoil : (n : Nullability) (ls : Nodes) (p : PlanTree) → HasForm (list_layout t n rows q el sp gs ls) (list_type t n) → e.scope ≡ list_type t n → necessary e.expr ≡ All → IsElements name el t p
      → (store : Store) (here : Came) (first : ℕ) (mask : List Bool) (id : ℕ) → Holds store here → first + length mask ≤ rows
      → spoiled (lists (list_type t NonNullable) p o) here (true_rows first mask) id ≡ true → Touches n ls (Flawed n ls store id) store first (first + length mask)
  lists_spoil n ls p form scope is plan store here first mask id holds low w =
      either_stage (offsets_spoiled o here (true_rows first mask) id) (knows_elements o here (true_rows first mask)) (spoiled p here (element_rows o (arrived here) (true_rows first mask)) id) w
      (offsets_spoil n ls store here first mask id All holds (omega (arith, (form.2).0, low)) scope is (λ z. absurd cc))
      (λ known h. elements_may n ls (λ z. (z.id == id) && has_flaw el store z) (Flawed n ls store id)
      (named_below (list_layout t n rows q el sp gs ls) el to_elements store id (elements_below (list_type t n) rows q el (leaf_layout (int_type q NonNullable) sp gs) ls))
      store here first mask scope is form.3.0 (λ js. spoiled p here js id) (λ from bits b k. plan.spoils store here from bits id holds b k) low (omega (arith, (form.2).0)) holds known h)

  -- ---- the plans
  within : (n : Nullability) (ls : Nodes) (p : PlanTree) → HaveForms ls (validity_types n) → AllHaveRows rows ls → Within p rows → Within (valid_under p (list_validity n ls)) rows
  within NonNullable ls p forms fits h = h
  within Nullable no_nodes p forms fits h = h
  within Nullable (child (node u r (Leaf xs y) ks) ls) p forms fits h = (let a = fits.0 in let b : total_rows xs ≡ r = ((forms.0).2).0 in omega (arith, a, b), h)
  within Nullable (child (node u r Struct ks) ls) p forms fits h = h
  within Nullable (child (node u r (List' x) ks) ls) p forms fits h = h

  pub over_lists_plan : (n : Nullability) (ls : Nodes) (p : PlanTree) → HasForm (list_layout t n rows q el sp gs ls) (list_type t n) → e.scope ≡ list_type t n → necessary e.expr ≡ All → IsElements name el t p
      → IsPlanOf (layout_state name (list_layout t n rows q el sp gs ls)) e (plan_data e (over_lists e t p o (list_validity n ls)))
  over_lists_plan n ls p form scope is plan = record {
    expr = refl;
    numbered = unnumbered (list_type t NonNullable) p o (list_validity n ls);
    dtype = refl;
    rows = within n ls (lists (list_type t NonNullable) p o) form.3.1.1 (form.2).1 (omega (arith, (form.2).0), plan.rows);
    value = λ store i low. over_lists_value t n rows q el sp gs ls form.3.1.1 e p store i (λ j below. plan.value store j below);
    overflow = λ store i low. over_lists_overflow t n rows q el sp gs ls form.3.1.1 e p store i (λ j below. plan.value store j below);
    wants = λ store here first mask id holds low w. want_under n ls (lists (list_type t NonNullable) p o) store here first mask id scope form.3.1.1 (lists_want n ls p form scope is plan store here first mask id holds low) w;
    spoils = λ store here first mask id holds low w. spoil_under n ls (lists (list_type t NonNullable) p o) store here first mask id holds scope form.3.1.1 (lists_spoil n ls p form scope is plan store here first mask id holds low) w;
    exact = λ free. tt;
  }

  pub over_lengths_plan : (n : Nullability) (ls : Nodes) (f : Bound) (c : ListChildrenNeeded) → HasForm (list_layout t n rows q el sp gs ls) (list_type t n) → e.scope ≡ list_type t n → necessary e.expr ≡ c → (c ≡ Validity → ⊥) → IsOverLengths e f
      → IsPlanOf (layout_state name (list_layout t n rows q el sp gs ls)) e (plan_data e (over_lengths e f o (list_validity n ls)))
  over_lengths_plan n ls f c form scope is above h = record {
    expr = refl;
    numbered = refl;
    dtype = refl;
    rows = within n ls (lengths o) form.3.1.1 (form.2).1 (omega (arith, (form.2).0));
    value = λ store i low. (by_lengths_row e f t n scope h rows q el sp gs ls store i form.3.1.1).0;
    overflow = λ store i low. let calm = under_calm n ls (lengths o) store i refl in rw calm (by_lengths_row e f t n scope h rows q el sp gs ls store i form.3.1.1).1;
    wants = λ store here first mask id holds low w. want_under n ls (lengths o) store here first mask id scope form.3.1.1 (offsets_wants n ls store first mask id c scope is above) w;
    spoils = λ store here first mask id holds low w. spoil_under n ls (lengths o) store here first mask id holds scope form.3.1.1 (offsets_spoil n ls store here first mask id c holds (omega (arith, (form.2).0, low)) scope is above) w;
    exact = λ free. tt;
  }

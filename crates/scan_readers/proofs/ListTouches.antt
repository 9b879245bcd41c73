-- What plans over a list's children want, the list's rows touch.
use Rattle.std.proofs.Common.{◌≡◌, ℕ, zero, suc, ◌+◌, ◌-◌, ◌<◌, ◌≤◌, ◌==◌, Bool, true, false, ◌||◌, ◌&&◌, List, [], ◌∷◌, ◌++◌, length, filter, max, min, replicate, Option, Some, None, is_none, refl, ap, sym, ◌∙◌, arith}
use Rattle.std.specs.Prelude.{nat_lt, is_some}
use Rattle.std.specs.List.{list_any}
use Rattle.std.proofs.lemmas.Bool.{ltb-true, ltb-false, eqb-true}
use Rattle.std.proofs.lemmas.Bool.Decides.{nat_tests}
use Rattle.std.proofs.lemmas.List.{length-replicate}
use Rattle.scan_values.specs.DataType.{DataType, bool_type, int_type, list_type}
use Rattle.scan_values.specs.declared.ptype.Nullability.{Nullability}
use Rattle.scan_values.specs.declared.ptype.Nullability.TheVariants.{NonNullable, Nullable}
use Rattle.scan_values.specs.declared.ptype.PType.{PType}
use Rattle.scan_values.specs.Marked.{Marked}
use Rattle.scan_values.specs.Paths.{Path, to_validity, to_offsets, to_elements}
use Rattle.scan_segments.specs.Source.{Store}
use Rattle.scan_expr.specs.Expr.{Expr}
use Rattle.scan_expr.specs.Needs.{needed, is_leaf}
use Rattle.scan_layout.specs.Form.{HasForm}
use Rattle.scan_layout.specs.Laws.{Each}
use Rattle.scan_layout.specs.Layout.{Layout, node, rows_of}
use Rattle.scan_layout.specs.declared.node.LayoutKind.TheVariants.{Leaf, Struct, List as List'}
use Rattle.scan_spelling.specs.Places.{Place, places_of}
use Rattle.scan_layout.specs.RowValue.{offset_of}
use Rattle.scan_layout.specs.Touched.{touched, below_step, leaf_touched, under_step, least_offset, greatest_offset, lesser, greater, element_from, element_to}
use Rattle.scan_layout.proofs.Local.{least_fewer, greatest_fewer, from_by, to_by, to_most}
use Rattle.scan_partition.specs.Lists.{necessary}
use Rattle.scan_partition.specs.ListUses.{NecessaryIsNeeded, is_leaf_of_class}
use Rattle.scan_partition.specs.declared.list_.ListChildrenNeeded.{ListChildrenNeeded}
use Rattle.scan_partition.specs.declared.list_.ListChildrenNeeded.TheVariants.{Validity, OffsetsAndValidity, All}
use Rattle.scan_plans.specs.Came.{Came}
use Rattle.scan_plans.specs.Lists.{least_row, greatest_row, offset_count, offset_rows}
use Rattle.scan_plans.specs.Meaning.{true_rows}
use Rattle.scan_plans.specs.Wants.{names_id, leaf_wanted, are_here, Complete}
use Rattle.scan_readers.proofs.LeafPaths.{IsAtLeaf, each_less}
use Rattle.scan_readers.proofs.SomePlace.{or_left, or_right, needed_append, needed_under, leaf_touches, leaf_more, touches_more}

-- ---- what is needed of a list
module _ (law : NecessaryIsNeeded) (t : DataType) (n : Nullability) (e : Expr) where
  elements_needed : (p : Path) → necessary e ≡ All → is_leaf t p ≡ true → needed (list_type t n) e (to_elements ∷ p) ≡ true
  elements_needed p c h = law t n e (to_elements ∷ p) ∙ ap (λ k. is_leaf_of_class k (list_type t n) (to_elements ∷ p)) c ∙ by n
    where
      by : (m : Nullability) → is_leaf (list_type t m) (to_elements ∷ p) ≡ true
      by NonNullable = h
      by Nullable = h

  offsets_needed : (q : PType) (p : Path) → (c : ListChildrenNeeded) → necessary e ≡ c → (c ≡ Validity → ⊥) → is_leaf (int_type q NonNullable) p ≡ true → needed (list_type t n) e (to_offsets ∷ p) ≡ true
  offsets_needed q p c is above h = law t n e (to_offsets ∷ p) ∙ ap (λ k. is_leaf_of_class k (list_type t n) (to_offsets ∷ p)) is ∙ by n c above
    where
      by : (m : Nullability) (k : ListChildrenNeeded) → (k ≡ Validity → ⊥) → is_leaf_of_class k (list_type t m) (to_offsets ∷ p) ≡ true
      by m Validity z = absurd (z refl)
      by NonNullable OffsetsAndValidity z = h
      by Nullable OffsetsAndValidity z = h
      by NonNullable All z = or_left (is_leaf (int_type q NonNullable) p) false h
      by Nullable All z = or_left (is_leaf (int_type q NonNullable) p) false h

validity_needed : (law : NecessaryIsNeeded) (t : DataType) (e : Expr) (p : Path) → is_leaf (bool_type NonNullable) p ≡ true → needed (list_type t Nullable) e (to_validity ∷ p) ≡ true
validity_needed law t e p h = law t Nullable e (to_validity ∷ p) ∙ by (necessary e)
  where
    by : (k : ListChildrenNeeded) → is_leaf_of_class k (list_type t Nullable) (to_validity ∷ p) ≡ true
    by Validity = h
    by OffsetsAndValidity = or_left (is_leaf (bool_type NonNullable) p) false h
    by All = or_left (is_leaf (bool_type NonNullable) p) false h

-- ---- the rows of offsets
pub least_greatest : (i : ℕ) (is : List ℕ) → least_row i is ≤ greatest_row i is
least_greatest i [] = omega arith
least_greatest i (j ∷ js) = let z = least_greatest j js in omega (arith, z)

pub rows_between : (k : ℕ) (bits : List Bool) (i : ℕ) (is : List ℕ) → true_rows k bits ≡ i ∷ is → (k ≤ least_row i is) × (greatest_row i is < k + length bits)
rows_between k [] i is h = absurd cc
rows_between k (true ∷ bs) i is h = let e : k ≡ i = cc in let f : true_rows (k + 1) bs ≡ is = cc in by is e f (λ j ks g. rows_between (k + 1) bs j ks g)
  where
    by : (js : List ℕ) → k ≡ i → true_rows (k + 1) bs ≡ js → ((j : ℕ) (ks : List ℕ) → true_rows (k + 1) bs ≡ j ∷ ks → (k + 1 ≤ least_row j ks) × (greatest_row j ks < k + 1 + length bs)) → (k ≤ least_row i js) × (greatest_row i js < k + length (true ∷ bs))
    by [] e f rest = (omega (arith, e), omega (arith, e))
    by (j ∷ js) e f rest = let z = rest j js f in (omega (arith, e, z.0), omega (arith, e, z.1))
rows_between k (false ∷ bs) i is h = let z = rows_between (k + 1) bs i is h in (omega (arith, z.0), omega (arith, z.1))

pub none_wanted : (base : ℕ) (ps : List Place) → leaf_wanted base ps [] ≡ []
none_wanted base [] = refl
none_wanted base (p ∷ ps) = none_wanted (base + p.rows) ps

pub offsets_touch : (T : Place → Bool) (ps : List Place) (first : ℕ) (mask : List Bool) → list_any T (leaf_wanted 0 ps (offset_rows (true_rows first mask))) ≡ true → (0 < length mask) × (list_any T (leaf_touched 0 ps first (first + length mask + 1)) ≡ true)
offsets_touch T ps first mask h = by (true_rows first mask) refl h
  where
    by : (is : List ℕ) → true_rows first mask ≡ is → list_any T (leaf_wanted 0 ps (offset_rows is)) ≡ true → (0 < length mask) × (list_any T (leaf_touched 0 ps first (first + length mask + 1)) ≡ true)
    by [] e w = absurd (let z : false ≡ true = sym (ap (list_any T) (none_wanted 0 ps)) ∙ w in cc)
    by (i ∷ is) e w =
        let b = rows_between first mask i is e in
        let k = least_row i is in
        let m = offset_count i is in
        let long : length (replicate m true) ≡ m = length-replicate m true in
        let own = leaf_touches T ps 0 k (replicate m true) w in
        (omega (arith, b.0, b.1, least_greatest i is), leaf_more T 0 ps k (k + length (replicate m true)) first (first + length mask + 1) b.0 (omega (arith, long, b.0, b.1, least_greatest i is)) own)

-- ---- what has arrived of all of some places
pub here_complete : (ps : List Place) (here : Came) → are_here ps here ≡ true → Complete ps here
here_complete [] here h id = refl
here_complete (p ∷ ps) here h id = by (p.id == id) refl (here_complete ps here (and_right (is_some (here p.id)) (are_here ps here) h) id)
  where
    and_left : (a b : Bool) → (a && b) ≡ true → a ≡ true
    and_left true b z = refl
    and_left false b z = z

    and_right : (a b : Bool) → (a && b) ≡ true → b ≡ true
    and_right true b z = z
    and_right false b z = absurd cc

    there : {A : Type 0} (o : Option A) → is_some o ≡ true → is_none o ≡ false
    there None z = cc
    there (Some x) z = refl

    by : (b : Bool) → (p.id == id) ≡ b → (names_id id ps && is_none (here id)) ≡ false → ((b || names_id id ps) && is_none (here id)) ≡ false
    by true e rest = ap (λ i. is_none (here i)) (sym (eqb-true p.id id e)) ∙ there (here p.id) (and_left (is_some (here p.id)) (are_here ps here) h)
    by false e rest = rest

-- ---- the least and the greatest of offsets that are alike
least_alike : (most : ℕ) (f g : ℕ → Marked) (i n : ℕ) → ((j : ℕ) → i ≤ j → j < i + n → offset_of (f j) ≡ offset_of (g j)) → least_offset most f i n ≡ least_offset most g i n
least_alike most f g i zero h = refl
least_alike most f g i (suc n) h = λ r. lesser (h i (omega arith) (omega arith) r) (least_alike most f g (i + 1) n (λ j low high. h j (omega (arith, low)) (omega (arith, high))) r)

greatest_alike : (f g : ℕ → Marked) (i n : ℕ) → ((j : ℕ) → i ≤ j → j < i + n → offset_of (f j) ≡ offset_of (g j)) → greatest_offset f i n ≡ greatest_offset g i n
greatest_alike f g i zero h = refl
greatest_alike f g i (suc n) h = λ r. greater (h i (omega arith) (omega arith) r) (greatest_alike f g (i + 1) n (λ j low high. h j (omega (arith, low)) (omega (arith, high))) r)

-- a range without rows touches nothing
leaf_none : (base : ℕ) (ps : List Place) (a : ℕ) → leaf_touched base ps a a ≡ []
leaf_none base [] a = refl
leaf_none base (p ∷ ps) a = let z : nat_lt (max base a) (min (base + p.rows) a) ≡ false = grind (arith, nat_tests) in rw (z, leaf_none (base + p.rows) ps a) refl

pub touches_none : (l : Layout) (s : Store) (a : ℕ) → touched l s a a ≡ []
touches_none (node t rows (Leaf segments spelling) kids) s a = leaf_none 0 (places_of t spelling segments) a
touches_none (node t rows Struct kids) s a = let z : nat_lt a a ≡ false = grind (arith, nat_tests) in rw z refl
touches_none (node t rows (List' p) kids) s a = let z : nat_lt a a ≡ false = grind (arith, nat_tests) in rw z refl

-- the elements that rows of lists want lie among those that the range touches
pub elements_touch : (el : Layout) (t : DataType) (s : Store) (most rows first len k m : ℕ) (f g : ℕ → Marked) (T : Place → Bool) → HasForm el t → most ≡ rows_of el → first + len ≤ rows → 0 < len
    → first ≤ k → k + m ≤ first + len + 1 → ((j : ℕ) → k ≤ j → j < k + m → offset_of (f j) ≡ offset_of (g j))
    → let from = least_offset most g k m in let to = min most (greatest_offset g k m) in
    list_any T (touched el s from (from + (to - from))) ≡ true → list_any T (touched el s (element_from most rows f first (first + len)) (element_to most rows f first (first + len))) ≡ true
elements_touch el t s most rows first len k m f g T form whole inside some low high same h = by (nat_lt from to) refl
  where
    from : ℕ
    from = least_offset most g k m

    to : ℕ
    to = min most (greatest_offset g k m)

    least : least_offset most f k m ≡ from
    least = least_alike most f g k m same

    greatest : greatest_offset f k m ≡ greatest_offset g k m
    greatest = greatest_alike f g k m same

    by : (b : Bool) → nat_lt from to ≡ b → list_any T (touched el s (element_from most rows f first (first + len)) (element_to most rows f first (first + len))) ≡ true
    by true e =
        let up : from < to = ltb-true from to e in
        let lo = least_fewer most f first (first + len + 1 - first) k m low (omega (arith, high)) in
        let hi = greatest_fewer f first (first + len + 1 - first) k m low (omega (arith, high)) in
        touches_more el t T s from (from + (to - from)) (element_from most rows f first (first + len)) (element_to most rows f first (first + len)) form
        (from_by most from (least_offset most f first (first + len + 1 - first)) ((first == 0) && (first + len == rows)) (λ _. omega (arith, lo, least)))
        (to_by (from + (to - from)) most (min most (greatest_offset f first (first + len + 1 - first))) ((first == 0) && (first + len == rows)) (λ _. omega (arith, up)) (λ _. omega (arith, up, hi, greatest)))
        (let z = to_most most rows f first (first + len) in omega (arith, z, whole)) h
    by false e =
        let down : to ≤ from = ltb-false from to e in
        let flat : from + (to - from) ≡ from = omega (arith, down) in
        let none : list_any T (touched el s from (from + (to - from))) ≡ false = ap (λ b. list_any T (touched el s from b)) flat ∙ ap (list_any T) (touches_none el s from) in
        absurd (let z : true ≡ false = sym h ∙ none in cc)

-- ---- a list's range touches what the ranges of its children touch
module _ (law : NecessaryIsNeeded) (t : DataType) (n : Nullability) (e : Expr) (S T : Place → Bool) where
  abbrev pub Q : Path → Bool
  Q p = needed (list_type t n) e p

  abbrev pub Meets : List Place → Type 0
  Meets ps = list_any T (filter (λ (p : Place). Q p.path) ps) ≡ true

  first_of : (xs ys : List Place) → Meets xs → Meets (xs ++ ys)
  first_of xs ys h = needed_append Q T xs ys ∙ or_left (list_any T (filter (λ (p : Place). Q p.path) xs)) (list_any T (filter (λ (p : Place). Q p.path) ys)) h

  second_of : (xs ys : List Place) → Meets ys → Meets (xs ++ ys)
  second_of xs ys h = needed_append Q T xs ys ∙ or_right (list_any T (filter (λ (p : Place). Q p.path) xs)) (list_any T (filter (λ (p : Place). Q p.path) ys)) h

  pub in_offsets : (q : PType) (c : ListChildrenNeeded) (A B C : List Place) → necessary e ≡ c → (c ≡ Validity → ⊥) → ((p : Place) → S p ≡ true → T (below_step to_offsets p) ≡ true) → Each (IsAtLeaf (int_type q NonNullable)) B → list_any S B ≡ true
      → Meets (under_step to_validity A ++ (under_step to_offsets B ++ under_step to_elements C))
  in_offsets q c A B C is above less paths h =
      second_of (under_step to_validity A) (under_step to_offsets B ++ under_step to_elements C) (first_of (under_step to_offsets B) (under_step to_elements C)
      (needed_under to_offsets Q S T less B (each_less (IsAtLeaf (int_type q NonNullable)) (λ p. Q (to_offsets ∷ p.path) ≡ true) B (λ p k. offsets_needed law t n e q p.path c is above k) paths) h))

  pub in_elements : (A B C : List Place) → necessary e ≡ All → ((p : Place) → S p ≡ true → T (below_step to_elements p) ≡ true) → Each (IsAtLeaf t) C → list_any S C ≡ true → Meets (under_step to_validity A ++ (under_step to_offsets B ++ under_step to_elements C))
  in_elements A B C is less paths h =
      second_of (under_step to_validity A) (under_step to_offsets B ++ under_step to_elements C) (second_of (under_step to_offsets B) (under_step to_elements C)
      (needed_under to_elements Q S T less C (each_less (IsAtLeaf t) (λ p. Q (to_elements ∷ p.path) ≡ true) C (λ p k. elements_needed law t n e p.path is k) paths) h))

pub in_validity : (law : NecessaryIsNeeded) (t : DataType) (e : Expr) (S T : Place → Bool) (A B : List Place) → ((p : Place) → S p ≡ true → T (below_step to_validity p) ≡ true) → Each (IsAtLeaf (bool_type NonNullable)) A → list_any S A ≡ true
    → list_any T (filter (λ (p : Place). needed (list_type t Nullable) e p.path) (under_step to_validity A ++ B)) ≡ true
in_validity law t e S T A B less paths h =
    needed_append (λ p. needed (list_type t Nullable) e p) T (under_step to_validity A) B
    ∙ or_left (list_any T (filter (λ (p : Place). needed (list_type t Nullable) e p.path) (under_step to_validity A))) (list_any T (filter (λ (p : Place). needed (list_type t Nullable) e p.path) B))
    (needed_under to_validity (λ p. needed (list_type t Nullable) e p) S T less A (each_less (IsAtLeaf (bool_type NonNullable)) (λ p. needed (list_type t Nullable) e (to_validity ∷ p.path) ≡ true) A (λ p k. validity_needed law t e p.path k) paths) h)

-- What is flawed: below a step, where bytes that came are bad, and where an offset that came is bad.
use Rattle.std.proofs.Common.{◌≡◌, ℕ, zero, suc, ◌+◌, ◌-◌, ◌<◌, ◌≤◌, ◌==◌, Bool, true, false, ◌||◌, ◌&&◌, List, [], ◌∷◌, map, Option, Some, None, is_none, ℤ, pos, negsuc, refl, ap, sym, subst, ◌∙◌, arith}
use Rattle.std.specs.Prelude.{nat_le, nat_lt, if◌then◌else◌, option_and_then}
use Rattle.std.specs.List.{list_any}
use Rattle.std.proofs.Math.Numerals.{add-one}
use Rattle.std.proofs.lemmas.Bool.{eqb-true, eq-eqb}
use Rattle.std.proofs.lemmas.Bool.Decides.{nat_tests}
use Rattle.std.proofs.lemmas.List.Folds.{Any-from_list_any, list_any-from_Any}
use Rattle.std.proofs.lemmas.Slice.Eq.{bytes_eq-Decides}
use Rattle.scan_values.specs.DataType.{DataType, nullability_of}
use Rattle.scan_values.specs.Damage.{damaged}
use Rattle.scan_values.specs.declared.ptype.Nullability.{Nullability}
use Rattle.scan_values.specs.declared.ptype.Nullability.TheVariants.{NonNullable, Nullable}
use Rattle.scan_values.specs.declared.ptype.PType.{PType}
use Rattle.scan_values.specs.Paths.{Path, Step, to_field, to_validity, to_offsets, to_elements}
use Rattle.scan_values.specs.Same.{same_type, same_type-Decides}
use Rattle.scan_values.specs.Val.{Val}
use Rattle.scan_segments.specs.Source.{Store}
use Rattle.scan_layout.specs.declared.node.LayoutKind.TheVariants.{List as List'}
use Rattle.scan_spelling.specs.declared.spelling.Spelling.{Spelling}
use Rattle.scan_spelling.specs.declared.spelling.Spelling.TheVariants.{One, Two}
use Rattle.scan_layout.specs.Check.{total_rows}
use Rattle.scan_layout.specs.Layout.{Layout, Nodes, node, child, rows_of}
use Rattle.scan_spelling.specs.Places.{Place, places_of, decoded}
use Rattle.scan_layout.specs.RowValue.{leaf_value, item_of, segment_value, offset_of}
use Rattle.scan_spelling.specs.Spelling.{decode}
use Rattle.scan_layout.specs.Touched.{touched, below_step, leaf_touched, greater}
use Rattle.scan_plans.specs.Came.{Came, arrived, Holds}
use Rattle.scan_plans.specs.Lists.{rows_on, before_next}
use Rattle.scan_plans.specs.Lists as plans
use Rattle.scan_plans.specs.OffsetsData.{OffsetsData, offsets_data}
use Rattle.scan_plans.specs.OffsetsData as own
use Rattle.scan_plans.specs.Wants.{leaf_wanted, names_id, is_bad, any_bad}
use Rattle.scan_readers.specs.Flaws.{ListOffsets, below, lists_of, offset_at, offset_before, is_bad_offset, is_bad_in, holds_bad_offset, same_step, same_path, same_spelling, same_place, has_flaw, IsFlawed, of_bytes, of_offset}
use Rattle.scan_readers.specs.LeafPlans.{leaf_layout}
use Rattle.scan_readers.proofs.SomePlace.{or_of, or_left, or_right, leaf_touches, leaf_mono}

and_left : (a b : Bool) → (a && b) ≡ true → a ≡ true
and_left true b h = refl
and_left false b h = h

and_right : (a b : Bool) → (a && b) ≡ true → b ≡ true
and_right true b h = h
and_right false b h = absurd cc

-- ---- paths
step_itself : (s : Step) → same_step s s ≡ true
step_itself (to_field f) = (bytes_eq-Decides f f).1 refl
step_itself to_validity = refl
step_itself to_offsets = refl
step_itself to_elements = refl

step_is : (s t : Step) → same_step s t ≡ true → s ≡ t
step_is (to_field f) (to_field g) h = ap to_field ((bytes_eq-Decides f g).0 h)
step_is (to_field f) to_validity h = absurd cc
step_is (to_field f) to_offsets h = absurd cc
step_is (to_field f) to_elements h = absurd cc
step_is to_validity (to_field g) h = absurd cc
step_is to_validity to_validity h = refl
step_is to_validity to_offsets h = absurd cc
step_is to_validity to_elements h = absurd cc
step_is to_offsets (to_field g) h = absurd cc
step_is to_offsets to_validity h = absurd cc
step_is to_offsets to_offsets h = refl
step_is to_offsets to_elements h = absurd cc
step_is to_elements (to_field g) h = absurd cc
step_is to_elements to_validity h = absurd cc
step_is to_elements to_offsets h = absurd cc
step_is to_elements to_elements h = refl

path_is : (p q : Path) → same_path p q ≡ true → p ≡ q
path_is [] [] h = refl
path_is [] (y ∷ ys) h = absurd cc
path_is (x ∷ xs) [] h = absurd cc
path_is (x ∷ xs) (y ∷ ys) h =
    let first = step_is x y (and_left (same_step x y) (same_path xs ys) h) in
    let rest = path_is xs ys (and_right (same_step x y) (same_path xs ys) h) in
    λ r. first r ∷ rest r

-- ---- places
spelling_itself : (s : Spelling) → same_spelling s s ≡ true
spelling_itself One = refl
spelling_itself Two = refl

spelling_is : (s t : Spelling) → same_spelling s t ≡ true → s ≡ t
spelling_is One One h = refl
spelling_is One Two h = absurd cc
spelling_is Two One h = absurd cc
spelling_is Two Two h = refl

place_is : (p q : Place) → same_place p q ≡ true → p ≡ q
place_is p q h =
    let path = same_path p.path q.path in
    let dtype = same_type p.dtype q.dtype in
    let spelling = same_spelling p.spelling q.spelling in
    let a = and_right path (dtype && (spelling && ((p.rows == q.rows) && (p.id == q.id)))) h in
    let b = and_right dtype (spelling && ((p.rows == q.rows) && (p.id == q.id))) a in
    let c = and_right spelling ((p.rows == q.rows) && (p.id == q.id)) b in
    let v = path_is p.path q.path (and_left path (dtype && (spelling && ((p.rows == q.rows) && (p.id == q.id)))) h) in
    let w = (same_type-Decides p.dtype q.dtype).0 (and_left dtype (spelling && ((p.rows == q.rows) && (p.id == q.id))) a) in
    let x = spelling_is p.spelling q.spelling (and_left spelling ((p.rows == q.rows) && (p.id == q.id)) b) in
    let y = eqb-true p.rows q.rows (and_left (p.rows == q.rows) (p.id == q.id) c) in
    let z = eqb-true p.id q.id (and_right (p.rows == q.rows) (p.id == q.id) c) in
    λ r. record { path = v r; dtype = w r; spelling = x r; rows = y r; id = z r }

-- a place under the path that it has is the same
place_itself : (p : Place) (path : Path) → same_path path p.path ≡ true → same_place (record p { path = path }) p ≡ true
place_itself p path h = rw (h, (same_type-Decides p.dtype p.dtype).1 refl, spelling_itself p.spelling, eq-eqb p.rows p.rows refl, eq-eqb p.id p.id refl) refl

-- ---- what a flaw is
pub flaw_is : (l : Layout) (store : Store) (p : Place) → has_flaw l store p ≡ true → IsFlawed l store p
flaw_is l store p h = by (decoded store p) refl h
  where
    by : (o : Option (List Val)) → decoded store p ≡ o → (is_none o || list_any (holds_bad_offset store p) (lists_of l)) ≡ true → IsFlawed l store p
    by None e k = of_bytes e
    by (Some vs) e k =
        let c = Any-from_list_any (holds_bad_offset store p) (lists_of l) k in
        let o : ListOffsets = c.1 in
        let r = Any-from_list_any (is_bad_in o store p) (rows_on 0 (rows_of o.leaf)) c.4 in
        let i : ℕ = r.1 in
        let bad = is_bad_offset o.elements (offset_before o store i) (offset_at o store i) in
        let there = list_any (λ (q : Place). same_place (record q { path = o.path }) p) (touched o.leaf store i (i + 1)) in
        let z = Any-from_list_any (λ (q : Place). same_place (record q { path = o.path }) p) (touched o.leaf store i (i + 1)) (and_right bad there r.4) in
        of_offset record {
          list = o;
          there = (c.0, c.2, c.3);
          row = i;
          bad = and_left bad there r.4;
          place = z.1;
          holds = (z.0, z.2, z.3);
          is = place_is (record z.1 { path = o.path }) p z.4;
        }

-- ---- below a step
place_below : (step : Step) (q p : Place) (path : Path) → same_place (record q { path = step ∷ path }) (below_step step p) ≡ same_place (record q { path = path }) p
place_below step q p path = rw (step_itself step) refl

bad_below : (step : Step) (o : ListOffsets) (store : Store) (p : Place) (i : ℕ) → is_bad_in (below step o) store (below_step step p) i ≡ is_bad_in o store p i
bad_below step o store p i = λ r. is_bad_offset o.elements (before i r) (offset_at o store i) && list_any (λ q. place_below step q p o.path r) (touched o.leaf store i (i + 1))
  where
    before : (j : ℕ) → offset_before (below step o) store j ≡ offset_before o store j
    before zero = refl
    before (suc j) = refl

there_below : (step : Step) (store : Store) (p : Place) (o : ListOffsets) → holds_bad_offset store p o ≡ true → holds_bad_offset store (below_step step p) (below step o) ≡ true
there_below step store p o h = (λ r. list_any (λ i. bad_below step o store p i r) (rows_on 0 (rows_of o.leaf))) ∙ h

any_below : (step : Step) (store : Store) (p : Place) (os : List ListOffsets) → list_any (holds_bad_offset store p) os ≡ true → list_any (holds_bad_offset store (below_step step p)) (map (below step) os) ≡ true
any_below step store p [] h = h
any_below step store p (o ∷ os) h =
    or_of (holds_bad_offset store p o) (list_any (holds_bad_offset store p) os) (holds_bad_offset store (below_step step p) (below step o)) (list_any (holds_bad_offset store (below_step step p)) (map (below step) os)) h
    (there_below step store p o) (any_below step store p os)

-- a flaw of a child is one of the layout, where the lists of the child are among those of the layout
pub flaw_below : (l c : Layout) (step : Step) (store : Store) (p : Place) → ((B : ListOffsets → Bool) → list_any B (map (below step) (lists_of c)) ≡ true → list_any B (lists_of l) ≡ true)
    → has_flaw c store p ≡ true → has_flaw l store (below_step step p) ≡ true
flaw_below l c step store p more h =
    or_of (is_none (decoded store p)) (list_any (holds_bad_offset store p) (lists_of c)) (is_none (decoded store p)) (list_any (holds_bad_offset store (below_step step p)) (lists_of l)) h (λ z. z)
    (λ z. more (holds_bad_offset store (below_step step p)) (any_below step store p (lists_of c) z))

-- the same of segments of an id
pub named_below : (l c : Layout) (step : Step) (store : Store) (id : ℕ) → ((B : ListOffsets → Bool) → list_any B (map (below step) (lists_of c)) ≡ true → list_any B (lists_of l) ≡ true)
    → (p : Place) → ((p.id == id) && has_flaw c store p) ≡ true → ((p.id == id) && has_flaw l store (below_step step p)) ≡ true
named_below l c step store id more p h = by (p.id == id) h
  where
    by : (b : Bool) → (b && has_flaw c store p) ≡ true → (b && has_flaw l store (below_step step p)) ≡ true
    by true k = flaw_below l c step store p more k
    by false k = k

pub elements_below : (t : DataType) (rows : ℕ) (q : PType) (el o : Layout) (others : Nodes) (B : ListOffsets → Bool) → list_any B (map (below to_elements) (lists_of el)) ≡ true → list_any B (lists_of (node t rows (List' q) (child el (child o others)))) ≡ true
elements_below t rows q el o others B h = or_right (B (record { path = to_offsets ∷ []; leaf = o; elements = rows_of el })) (list_any B (map (below to_elements) (lists_of el))) h

-- ---- bytes that came
bad_bytes : (store : Store) (here : Came) (p : Place) → Holds store here → (o : Option (Option (List ℕ))) → here p.id ≡ o → is_bad p o ≡ true → is_none (decoded store p) ≡ true
bad_bytes store here p holds None e h = absurd cc
bad_bytes store here p holds (Some None) e h = rw (holds p.id None e) refl
bad_bytes store here p holds (Some (Some bytes)) e h = rw (holds p.id (Some bytes) e) h

-- what came of a segment of an id is bad: the segment is flawed, in whatever layout it stands
pub bytes_flawed : (l : Layout) (step : List Step) (store : Store) (here : Came) (id : ℕ) (p : Place) → Holds store here → ((p.id == id) && is_bad p (here id)) ≡ true → ((p.id == id) && has_flaw l store (record p { path = step })) ≡ true
bytes_flawed l step store here id p holds h = by (p.id == id) refl h
  where
    by : (b : Bool) → (p.id == id) ≡ b → (b && is_bad p (here id)) ≡ true → (b && has_flaw l store (record p { path = step })) ≡ true
    by true e k =
        let at : is_bad p (here p.id) ≡ true = ap (λ j. is_bad p (here j)) (eqb-true p.id id e) ∙ k in
        or_left (is_none (decoded store p)) (list_any (holds_bad_offset store (record p { path = step })) (lists_of l)) (bad_bytes store here p holds (here p.id) refl at)
    by false e k = k

-- ---- offsets that came
none_damaged : (n : Nullability) → offset_of (damaged n) ≡ None
none_damaged NonNullable = refl
none_damaged Nullable = refl

decoded_here : (store : Store) (here : Came) (p : Place) (vs : List Val) → Holds store here → decoded (arrived here) p ≡ Some vs → decoded store p ≡ Some vs
decoded_here store here p vs holds h = by (here p.id) refl h
  where
    by : (o : Option (Option (List ℕ))) → here p.id ≡ o → option_and_then (decode p.spelling p.dtype p.rows) (option_and_then (λ bytes. bytes) o) ≡ Some vs → decoded store p ≡ Some vs
    by None e k = absurd (let z : None ≡ Some vs = k in cc)
    by (Some None) e k = absurd (let z : None ≡ Some vs = k in cc)
    by (Some (Some bytes)) e k = ap (option_and_then (decode p.spelling p.dtype p.rows)) (holds p.id (Some bytes) e) ∙ k

item_here : (store : Store) (here : Came) (p : Place) (i : ℕ) (z : ℤ) → Holds store here → offset_of (segment_value (arrived here) p i) ≡ Some z → offset_of (segment_value store p i) ≡ Some z
item_here store here p i z holds h = by (decoded (arrived here) p) refl h
  where
    by : (o : Option (List Val)) → decoded (arrived here) p ≡ o → offset_of (item_of p.dtype i o) ≡ Some z → offset_of (segment_value store p i) ≡ Some z
    by None e k = absurd (let none = none_damaged (nullability_of p.dtype) in let w : None ≡ Some z = sym none ∙ k in cc)
    by (Some vs) e k = ap (λ o. offset_of (item_of p.dtype i o)) (decoded_here store here p vs holds e) ∙ k

value_here : (store : Store) (here : Came) (d : DataType) (ps : List Place) (i : ℕ) (z : ℤ) → Holds store here → offset_of (leaf_value d (arrived here) ps i) ≡ Some z → offset_of (leaf_value d store ps i) ≡ Some z
value_here store here d [] i z holds h = h
value_here store here d (p ∷ ps) i z holds h = by (nat_lt i p.rows) (item_here store here p i z holds) (value_here store here d ps (i - p.rows) z holds) h
  where
    by : (b : Bool) → (offset_of (segment_value (arrived here) p i) ≡ Some z → offset_of (segment_value store p i) ≡ Some z) → (offset_of (leaf_value d (arrived here) ps (i - p.rows)) ≡ Some z → offset_of (leaf_value d store ps (i - p.rows)) ≡ Some z)
        → offset_of (if b then segment_value (arrived here) p i else leaf_value d (arrived here) ps (i - p.rows)) ≡ Some z → offset_of (if b then segment_value store p i else leaf_value d store ps (i - p.rows)) ≡ Some z
    by true f g k = f k
    by false f g k = g k

-- below what stands before it in the whole store an offset is bad all the more
worse : (most before prior : ℕ) (o p : Option ℤ) → before ≤ prior → ((z : ℤ) → o ≡ Some z → p ≡ Some z) → plans.is_bad_offset most before o ≡ true → is_bad_offset most prior p ≡ true
worse most before prior None p less same h = absurd cc
worse most before prior (Some (negsuc n)) p less same h = ap (is_bad_offset most prior) (same (negsuc n) refl)
worse most before prior (Some (pos n)) p less same h = ap (is_bad_offset most prior) (same (pos n) refl) ∙ by (nat_le before n) (nat_le n most) refl refl h
  where
    by : (a b : Bool) → nat_le before n ≡ a → nat_le n most ≡ b → is_none (if a && b then Some n else None) ≡ true → (nat_lt n prior || nat_lt most n) ≡ true
    by true true u v k = absurd cc
    by true false u v k = let past : nat_lt most n ≡ true = grind (arith, nat_tests, v) in or_right (nat_lt n prior) (nat_lt most n) past
    by false b u v k = let low : nat_lt n prior ≡ true = grind (arith, nat_tests, u, less) in or_left (nat_lt n prior) (nat_lt most n) low

next_less : (o p : Option ℤ) → ((z : ℤ) → o ≡ Some z → p ≡ Some z) → before_next o ≤ greater p 0
next_less None p same = omega arith
next_less (Some z) p same = rw (same z refl) (omega arith)

-- a row among so many passes a test
any_row : (f : ℕ → Bool) (k n j : ℕ) → k ≤ j → j < k + n → f j ≡ true → list_any f (rows_on k n) ≡ true
any_row f k zero j low high h = absurd (omega (arith, low, high))
any_row f k (suc n) j low high h = by (k == j) refl (λ past. any_row f (k + 1) n j past (omega (arith, high)) h)
  where
    by : (b : Bool) → (k == j) ≡ b → (k + 1 ≤ j → list_any f (rows_on (k + 1) n) ≡ true) → (f k || list_any f (rows_on (k + 1) n)) ≡ true
    by true e later = or_left (f k) (list_any f (rows_on (k + 1) n)) (ap f (eqb-true k j e) ∙ h)
    by false e later = let past : k + 1 ≤ j = grind (arith, nat_tests, e, low) in or_right (f k) (list_any f (rows_on (k + 1) n)) (later past)

-- of offsets in a leaf
module _ (d : DataType) (sp : Spelling) (gs : List (ℕ × ℕ)) (elements : ℕ) (store : Store) (here : Came) (id : ℕ) (holds : Holds store here) where
  abbrev data_of : OffsetsData
  data_of = offsets_data d sp gs elements

  abbrev pub offsets_of : ListOffsets
  offsets_of = record { path = to_offsets ∷ []; leaf = leaf_layout d sp gs; elements = elements }

  -- a row that has a bad offset, which stands in a segment of this id
  pub record BadRow (k n : ℕ) : Type 0 where
    pub row : ℕ
    pub low : k ≤ row
    pub high : row < k + n
    pub bad : is_bad_offset elements (offset_before offsets_of store row) (offset_at offsets_of store row) ≡ true
    pub there : names_id id (leaf_touched 0 (places_of d sp gs) row (row + 1)) ≡ true

  same_offset : (i : ℕ) (z : ℤ) → own.offset_at data_of (arrived here) i ≡ Some z → offset_at offsets_of store i ≡ Some z
  same_offset i z h = value_here store here d (places_of d sp gs) i z holds h

  after : (k : ℕ) → offset_before offsets_of store (k + 1) ≡ greater (offset_at offsets_of store k) 0
  after k = ap (offset_before offsets_of store) (add-one k)

  pub bad_row : (k n before : ℕ) → before ≤ offset_before offsets_of store k → any_bad data_of (arrived here) before (rows_on k n) id ≡ true → BadRow k n
  bad_row k zero before less h = absurd cc
  bad_row k (suc n) before less h = by (plans.is_bad_offset elements before o) (names_id id (leaf_wanted 0 (places_of d sp gs) (k ∷ []))) refl refl (λ next w. behind (bad_row (k + 1) n (before_next o) next w)) h
    where
      o : Option ℤ
      o = own.offset_at data_of (arrived here) k

      behind : BadRow (k + 1) n → BadRow k (suc n)
      behind r = record { row = r.row; low = (let x = r.low in omega (arith, x)); high = (let x = r.high in omega (arith, x)); bad = r.bad; there = r.there }

      next : before_next o ≤ offset_before offsets_of store (k + 1)
      next = subst (λ m. before_next o ≤ m) (sym (after k)) (next_less o (offset_at offsets_of store k) (same_offset k))

      first : plans.is_bad_offset elements before o ≡ true → names_id id (leaf_wanted 0 (places_of d sp gs) (k ∷ [])) ≡ true → BadRow k (suc n)
      first u v =
          let bad : is_bad_offset elements (offset_before offsets_of store k) (offset_at offsets_of store k) ≡ true = worse elements before (offset_before offsets_of store k) o (offset_at offsets_of store k) less (same_offset k) u in
          let there : names_id id (leaf_touched 0 (places_of d sp gs) k (k + 1)) ≡ true = leaf_touches (λ (p : Place). p.id == id) (places_of d sp gs) 0 k (true ∷ []) v in
          record { row = k; low = omega arith; high = omega arith; bad = bad; there = there }

      by : (a b : Bool) → plans.is_bad_offset elements before o ≡ a → names_id id (leaf_wanted 0 (places_of d sp gs) (k ∷ [])) ≡ b
          → (before_next o ≤ offset_before offsets_of store (k + 1) → any_bad data_of (arrived here) (before_next o) (rows_on (k + 1) n) id ≡ true → BadRow k (suc n))
          → ((a && b) || any_bad data_of (arrived here) (before_next o) (rows_on (k + 1) n) id) ≡ true → BadRow k (suc n)
      by true true u v later w = first u v
      by true false u v later w = later next w
      by false b u v later w = later next w

  -- one of the segments of this id that the row touches is flawed then, in a layout that has these offsets
  pub row_flawed : (l : Layout) → ((B : ListOffsets → Bool) → B offsets_of ≡ true → list_any B (lists_of l) ≡ true) → (k n : ℕ) → k + n ≤ total_rows gs → (r : BadRow k n)
      → list_any (λ z. (z.id == id) && has_flaw l store (below_step to_offsets z)) (leaf_touched 0 (places_of d sp gs) r.row (r.row + 1)) ≡ true
  row_flawed l has k n inside r =
      let qs = leaf_touched 0 (places_of d sp gs) r.row (r.row + 1) in
      let S : Place → Bool = λ z. same_path [] z.path && (z.id == id) in
      let c = Any-from_list_any S qs (leaf_mono (λ z. z.id == id) S d sp gs 0 r.row (r.row + 1) (λ g e. e) r.there) in
      let p : Place = below_step to_offsets c.1 in
      let path = and_left (same_path [] c.1.path) (c.1.id == id) c.4 in
      let R : Place → Bool = λ q. same_place (record q { path = to_offsets ∷ [] }) p in
      let own : list_any R qs ≡ true = list_any-from_Any R qs (c.0, c.1, c.2, c.3, place_itself p (to_offsets ∷ []) path) in
      let high = r.high in
      let any : holds_bad_offset store p offsets_of ≡ true = any_row (is_bad_in offsets_of store p) 0 (total_rows gs) r.row (omega arith) (omega (arith, high, inside)) (rw (r.bad, own) refl) in
      let flaw : has_flaw l store p ≡ true = or_right (is_none (decoded store p)) (list_any (holds_bad_offset store p) (lists_of l)) (has (holds_bad_offset store p) any) in
      list_any-from_Any (λ z. (z.id == id) && has_flaw l store (below_step to_offsets z)) qs (c.0, c.1, c.2, c.3, rw (and_right (same_path [] c.1.path) (c.1.id == id) c.4, flaw) refl)

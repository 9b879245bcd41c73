-- Fewer rows want no more.
use Rattle.std.proofs.Common.{◌≡◌, ℕ, zero, suc, ◌==◌, ◌+◌, ◌-◌, ◌<◌, ◌≤◌, Bool, true, false, not, ◌||◌, ◌&&◌, List, [], ◌∷◌, ◌++◌, length, min, max, Option, Some, None, is_none, refl, ap, sym, subst, ◌∙◌, arith}
use Rattle.std.specs.Prelude.{if◌then◌else◌, is_some, nat_le, nat_lt}
use Rattle.std.specs.List.{list_all, list_any}
use Rattle.std.proofs.lemmas.Bool.{eqb-true, eq-eqb}
use Rattle.std.proofs.lemmas.Bool.Decides.{nat_tests}
use Rattle.scan_values.specs.Marked.{Marked}
use Rattle.scan_segments.specs.Source.{Store}
use Rattle.scan_spelling.specs.Places.{Place, places_of}
use Rattle.scan_layout.specs.Check.{total_rows}
use Rattle.scan_layout.specs.Touched.{least_offset, greatest_offset}
use Rattle.scan_layout.proofs.Local.{least_fewer, greatest_fewer}
use Rattle.scan_plans.specs.Came.{Came, arrived, all_of, Holds}
use Rattle.scan_plans.specs.Lists.{rows_on, least_row, greatest_row, offset_count, offset_rows, span_elements, is_whole, element_rows}
use Rattle.scan_plans.specs.Meaning.{true_rows, Within, AllWithin}
use Rattle.scan_plans.specs.OffsetsData.{OffsetsData, offset_places, offset_marked}
use Rattle.scan_plans.specs.PlanTree.{PlanTree, leaf, rows, evaluate, over, constant, lists, lengths, valid, numbers, by_lengths, PlanTrees, no_plans, plan}
use Rattle.scan_plans.specs.Pruning.{IsWithin}
use Rattle.scan_plans.specs.Wants.{holds_any, leaf_wanted, are_here, offsets_wanted, knows_elements, wanted, all_wanted, names_id, Complete}
use Rattle.scan_plans.proofs.Later.{elements_same}
use Rattle.scan_plans.proofs.NoRows.{nothing_wanted}
use Rattle.scan_plans.proofs.Pruned.{more_pass, no_rows, none_past}
use Rattle.scan_plans.proofs.Spans.{among, on_rows, bounded}
use Rattle.scan_plans.proofs.Wanting.{either, names_append}

or_true : (b : Bool) → (b || true) ≡ true
or_true true = refl
or_true false = refl

-- ---- no row
pub none_wanted : (p : PlanTree) (here : Came) (first : ℕ) (mask : List Bool) → list_all not mask ≡ true → wanted p here (true_rows first mask) ≡ []
none_wanted p here first mask h = ap (wanted p here) (no_rows first mask h) ∙ nothing_wanted p here

-- ---- some of the rows, which are at most so many
pub record Fewer (n : ℕ) (is js : List ℕ) : Type 0 where
  pub inside : (i : ℕ) → among i is ≡ true → among i js ≡ true
  pub few : length is ≤ length js
  pub most : length js ≤ n

own : (i : ℕ) (is : List ℕ) → among i (i ∷ is) ≡ true
own i is = ap (λ b. b || among i is) (eq-eqb i i refl)

behind : (j i : ℕ) (is : List ℕ) → among j is ≡ true → among j (i ∷ is) ≡ true
behind j i is h = ap (λ b. (i == j) || b) h ∙ or_true (i == j)

found : (T : ℕ → Bool) (i : ℕ) (js : List ℕ) → T i ≡ true → among i js ≡ true → list_any T js ≡ true
found T i [] e h = absurd cc
found T i (j ∷ js) e h = by (j == i) refl h (λ w. found T i js e w)
  where
    by : (b : Bool) → (j == i) ≡ b → (b || among i js) ≡ true → (among i js ≡ true → list_any T js ≡ true) → (T j || list_any T js) ≡ true
    by true k w later = ap (λ b. b || list_any T js) (ap T (eqb-true j i k) ∙ e)
    by false k w later = ap (λ b. T j || b) (later w) ∙ or_true (T j)

any_inside : (T : ℕ → Bool) (is js : List ℕ) → ((i : ℕ) → among i is ≡ true → among i js ≡ true) → list_any T is ≡ true → list_any T js ≡ true
any_inside T [] js h w = absurd cc
any_inside T (i ∷ is) js h w = by (T i) refl w (λ v. any_inside T is js (λ j k. h j (behind j i is k)) v)
  where
    by : (b : Bool) → T i ≡ b → (b || list_any T is) ≡ true → (list_any T is ≡ true → list_any T js ≡ true) → list_any T js ≡ true
    by true e v later = found T i js e (h i (own i is))
    by false e v later = later v

-- ---- those of a mask
rows_inside : (k : ℕ) (less mask : List Bool) → IsWithin less mask → (i : ℕ) → among i (true_rows k less) ≡ true → among i (true_rows k mask) ≡ true
rows_inside k less mask w i h = more_pass (λ j. j == i) k less mask w h

rows_few : (k : ℕ) (less mask : List Bool) → IsWithin less mask → length (true_rows k less) ≤ length (true_rows k mask)
rows_few k [] mask w = omega arith
rows_few k (true ∷ less) [] w = absurd (let z = w 0 refl in cc)
rows_few k (false ∷ less) [] w = rows_few (k + 1) less [] (λ j e. none_past j (w (suc j) e))
rows_few k (true ∷ less) (true ∷ mask) w = let z = rows_few (k + 1) less mask (λ j e. w (suc j) e) in omega (arith, z)
rows_few k (true ∷ less) (false ∷ mask) w = absurd (let z = w 0 refl in cc)
rows_few k (false ∷ less) (true ∷ mask) w = let z = rows_few (k + 1) less mask (λ j e. w (suc j) e) in omega (arith, z)
rows_few k (false ∷ less) (false ∷ mask) w = rows_few (k + 1) less mask (λ j e. w (suc j) e)

rows_most : (k : ℕ) (mask : List Bool) → length (true_rows k mask) ≤ length mask
rows_most k [] = omega arith
rows_most k (true ∷ mask) = let z = rows_most (k + 1) mask in omega (arith, z)
rows_most k (false ∷ mask) = let z = rows_most (k + 1) mask in omega (arith, z)

-- ---- spans
in_rows : (a n j : ℕ) → among j (rows_on a n) ≡ true → (a ≤ j) × (j < a + n)
in_rows a zero j w = absurd cc
in_rows a (suc n) j w = by (a == j) refl w (λ k. in_rows (a + 1) n j k)
  where
    by : (b : Bool) → (a == j) ≡ b → (b || among j (rows_on (a + 1) n)) ≡ true → (among j (rows_on (a + 1) n) ≡ true → (a + 1 ≤ j) × (j < a + 1 + n)) → (a ≤ j) × (j < a + suc n)
    by true e v k = let z = eqb-true a j e in (omega (arith, z), omega (arith, z))
    by false e v k = let z = k v in (omega (arith, z.0), omega (arith, z.1))

length_rows : (a n : ℕ) → length (rows_on a n) ≡ n
length_rows a zero = refl
length_rows a (suc n) = ap suc (length_rows (a + 1) n)

least_own : (i : ℕ) (is : List ℕ) → among (least_row i is) (i ∷ is) ≡ true
least_own i [] = own i []
least_own i (j ∷ js) = by (nat_le i (least_row j js)) refl (least_own j js)
  where
    by : (b : Bool) → nat_le i (least_row j js) ≡ b → among (least_row j js) (j ∷ js) ≡ true → among (min i (least_row j js)) (i ∷ j ∷ js) ≡ true
    by true e later = let z : i ≤ least_row j js = grind (arith, nat_tests, e) in let y : i ≡ min i (least_row j js) = omega (arith, z) in subst (λ k. among k (i ∷ j ∷ js) ≡ true) y (own i (j ∷ js))
    by false e later = let z : least_row j js ≤ i = grind (arith, nat_tests, e) in let y : least_row j js ≡ min i (least_row j js) = omega (arith, z) in subst (λ k. among k (i ∷ j ∷ js) ≡ true) y (behind (least_row j js) i (j ∷ js) later)

greatest_own : (i : ℕ) (is : List ℕ) → among (greatest_row i is) (i ∷ is) ≡ true
greatest_own i [] = own i []
greatest_own i (j ∷ js) = by (nat_le i (greatest_row j js)) refl (greatest_own j js)
  where
    by : (b : Bool) → nat_le i (greatest_row j js) ≡ b → among (greatest_row j js) (j ∷ js) ≡ true → among (max i (greatest_row j js)) (i ∷ j ∷ js) ≡ true
    by true e later = let z : i ≤ greatest_row j js = grind (arith, nat_tests, e) in let y : greatest_row j js ≡ max i (greatest_row j js) = omega (arith, z) in subst (λ k. among k (i ∷ j ∷ js) ≡ true) y (behind (greatest_row j js) i (j ∷ js) later)
    by false e later = let z : greatest_row j js ≤ i = grind (arith, nat_tests, e) in let y : i ≡ max i (greatest_row j js) = omega (arith, z) in subst (λ k. among k (i ∷ j ∷ js) ≡ true) y (own i (j ∷ js))

-- the span of some of the rows lies in that of all
abbrev Spanned : (i : ℕ) (is : List ℕ) (j : ℕ) (js : List ℕ) → Type 0
Spanned i is j js = (least_row j js ≤ least_row i is) × (least_row i is ≤ greatest_row i is) × (greatest_row i is ≤ greatest_row j js)

spanned : (i : ℕ) (is : List ℕ) (j : ℕ) (js : List ℕ) → ((k : ℕ) → among k (i ∷ is) ≡ true → among k (j ∷ js) ≡ true) → Spanned i is j js
spanned i is j js h = (
  (bounded (least_row i is) j js (h (least_row i is) (least_own i is))).0,
  (bounded (least_row i is) i is (least_own i is)).1,
  (bounded (greatest_row i is) j js (h (greatest_row i is) (greatest_own i is))).1,
)

offsets_inside : (is js : List ℕ) → ((k : ℕ) → among k is ≡ true → among k js ≡ true) → (k : ℕ) → among k (offset_rows is) ≡ true → among k (offset_rows js) ≡ true
offsets_inside [] js h k w = absurd cc
offsets_inside (i ∷ is) [] h k w = absurd (let z : false ≡ true = h i (own i is) in cc)
offsets_inside (i ∷ is) (j ∷ js) h k w =
    let s = spanned i is j js h in
    let at = in_rows (least_row i is) (offset_count i is) k w in
    on_rows (least_row j js) (offset_count j js) k (omega (arith, at.0, s.0)) (omega (arith, at.0, at.1, s.0, s.1, s.2))

-- ---- leaves
leaf_fewer : (base : ℕ) (ps : List Place) (is js : List ℕ) → ((k : ℕ) → among k is ≡ true → among k js ≡ true) → (id : ℕ) → names_id id (leaf_wanted base ps is) ≡ true → names_id id (leaf_wanted base ps js) ≡ true
leaf_fewer base [] is js h id w = w
leaf_fewer base (p ∷ ps) is js h id w =
    names_append id (if holds_any base p.rows js then p ∷ [] else []) (leaf_wanted (base + p.rows) ps js)
    ∙ either (names_id id (if holds_any base p.rows is then p ∷ [] else [])) (names_id id (leaf_wanted (base + p.rows) ps is)) (names_id id (if holds_any base p.rows js then p ∷ [] else [])) (names_id id (leaf_wanted (base + p.rows) ps js))
    (sym (names_append id (if holds_any base p.rows is then p ∷ [] else []) (leaf_wanted (base + p.rows) ps is)) ∙ w)
    (held (holds_any base p.rows is) (holds_any base p.rows js) (any_inside (λ i. nat_le base i && nat_lt i (base + p.rows)) is js h))
    (leaf_fewer (base + p.rows) ps is js h id)
  where
    held : (b t : Bool) → (b ≡ true → t ≡ true) → names_id id (if b then p ∷ [] else []) ≡ true → names_id id (if t then p ∷ [] else []) ≡ true
    held true true f n = n
    held true false f n = absurd (let z = f refl in cc)
    held false t f n = absurd cc

-- ---- elements
nested : (n a k b m : ℕ) → (0 < k → (b ≤ a) × (a + k ≤ b + m)) → k ≤ m → m ≤ n → Fewer n (rows_on a k) (rows_on b m)
nested n a k b m h few most =
    let x = length_rows a k in
    let y = length_rows b m in record {
      inside = λ j w. let z = in_rows a k j w in let s = h (omega (arith, z.0, z.1)) in on_rows b m j (omega (arith, z.0, s.0)) (omega (arith, z.1, s.1));
      few = omega (arith, x, y, few);
      most = omega (arith, y, most);
    }

module _ (o : OffsetsData) (store : Store) where
  spans_fewer : (i : ℕ) (is : List ℕ) (j : ℕ) (js : List ℕ) → Spanned i is j js → Fewer o.elements (span_elements o store (i ∷ is)) (span_elements o store (j ∷ js))
  spans_fewer i is j js s =
      let at : ℕ → Marked = offset_marked o store in
      let low = least_offset o.elements at (least_row i is) (offset_count i is) in
      let high = greatest_offset at (least_row i is) (offset_count i is) in
      let from = least_offset o.elements at (least_row j js) (offset_count j js) in
      let to = greatest_offset at (least_row j js) (offset_count j js) in
      let inside : least_row i is + offset_count i is ≤ least_row j js + offset_count j js = omega (arith, s.0, s.1, s.2) in
      let down : from ≤ low = least_fewer o.elements at (least_row j js) (offset_count j js) (least_row i is) (offset_count i is) s.0 inside in
      let up : high ≤ to = greatest_fewer at (least_row j js) (offset_count j js) (least_row i is) (offset_count i is) s.0 inside in
      nested o.elements low (min o.elements high - low) from (min o.elements to - from) (λ some. (down, omega (arith, some, down, up))) (omega (arith, down, up)) (omega arith)

  pub span_whole : (is : List ℕ) → Fewer o.elements (span_elements o store is) (rows_on 0 o.elements)
  span_whole [] = let y = length_rows 0 o.elements in record { inside = λ j w. absurd cc; few = omega arith; most = omega (arith, y) }
  span_whole (i ∷ is) =
      let at : ℕ → Marked = offset_marked o store in
      let low = least_offset o.elements at (least_row i is) (offset_count i is) in
      let high = greatest_offset at (least_row i is) (offset_count i is) in
      nested o.elements low (min o.elements high - low) 0 o.elements (λ some. (omega arith, omega (arith, some))) (omega arith) (omega arith)

  pub whole_itself : Fewer o.elements (rows_on 0 o.elements) (rows_on 0 o.elements)
  whole_itself = let y = length_rows 0 o.elements in record { inside = λ j w. w; few = omega arith; most = omega (arith, y) }

  pub span_fewer : (is js : List ℕ) → ((k : ℕ) → among k is ≡ true → among k js ≡ true) → Fewer o.elements (span_elements o store is) (span_elements o store js)
  span_fewer [] [] h = record { inside = λ j w. w; few = omega arith; most = omega arith }
  span_fewer [] (j ∷ js) h = let own_span = spans_fewer j js j js (spanned j js j js (λ k w. w)) in record { inside = λ k w. absurd cc; few = omega arith; most = own_span.most }
  span_fewer (i ∷ is) [] h = absurd (let z : false ≡ true = h i (own i is) in cc)
  span_fewer (i ∷ is) (j ∷ js) h = spans_fewer i is j js (spanned i is j js h)

-- where some of the rows are all lists, all of them are
whole_still : (o : OffsetsData) (n : ℕ) (is js : List ℕ) → n < total_rows o.segments → Fewer n is js → is_whole o is ≡ true → is_whole o js ≡ true
whole_still o n [] js below f e = absurd cc
whole_still o n (i ∷ is) [] below f e = absurd (let z : false ≡ true = f.inside i (own i is) in cc)
whole_still o n (i ∷ is) (j ∷ js) below f e =
    let z : length (i ∷ is) + 1 ≡ total_rows o.segments = eqb-true (length (i ∷ is) + 1) (total_rows o.segments) e in
    let few = f.few in
    let most = f.most in
    eq-eqb (length (j ∷ js) + 1) (total_rows o.segments) (omega (arith, z, few, most, below))

-- ---- all has arrived
told_here : (store : Store) (ps : List Place) → are_here ps (all_of store) ≡ true
told_here store [] = refl
told_here store (p ∷ ps) = told_here store ps

come_complete : (ps : List Place) (here : Came) → are_here ps here ≡ true → Complete ps here
come_complete [] here h id = refl
come_complete (p ∷ ps) here h id = by (p.id == id) refl (come_complete ps here (and_right (is_some (here p.id)) (are_here ps here) h) id)
  where
    and_left : (a b : Bool) → (a && b) ≡ true → a ≡ true
    and_left true b z = refl
    and_left false b z = z

    and_right : (a b : Bool) → (a && b) ≡ true → b ≡ true
    and_right true b z = z
    and_right false b z = absurd cc

    there : {A : Type 0} (x : Option A) → is_some x ≡ true → is_none x ≡ false
    there None z = absurd cc
    there (Some y) z = refl

    by : (b : Bool) → (p.id == id) ≡ b → (names_id id ps && is_none (here id)) ≡ false → ((b || names_id id ps) && is_none (here id)) ≡ false
    by true e rest = ap (λ i. is_none (here i)) (sym (eqb-true p.id id e)) ∙ there (here p.id) (and_left (is_some (here p.id)) (are_here ps here) h)
    by false e rest = rest

-- elements that are known, if any
known_elements : (b : Bool) (id : ℕ) (ps : List Place) (c : Bool) → (b ≡ true → names_id id ps ≡ true → c ≡ true) → names_id id (if b then ps else []) ≡ true → c ≡ true
known_elements true id ps c g v = g refl v
known_elements false id ps c g v = absurd cc

module _ (store : Store) (here : Came) (holds : Holds store here) where
  elements_fewer : (o : OffsetsData) (n : ℕ) (is js : List ℕ) → n < total_rows o.segments → Fewer n is js → knows_elements o here is ≡ true → Fewer o.elements (element_rows o (arrived here) is) (element_rows o store js)
  elements_fewer o n is js below f known = by (is_whole o is) refl known
    where
      others : (b : Bool) → Fewer o.elements (span_elements o store is) (if b then rows_on 0 o.elements else span_elements o store js)
      others true = span_whole o store is
      others false = span_fewer o store is js f.inside

      by : (b : Bool) → is_whole o is ≡ b → (b || are_here (offsets_wanted o is) here) ≡ true → Fewer o.elements (element_rows o (arrived here) is) (element_rows o store js)
      by true e k =
          subst (λ b. Fewer o.elements (if b then rows_on 0 o.elements else span_elements o (arrived here) is) (element_rows o store js)) (sym e)
          (subst (λ b. Fewer o.elements (rows_on 0 o.elements) (if b then rows_on 0 o.elements else span_elements o store js)) (sym (whole_still o n is js below f e)) (whole_itself o store))
      by false e k =
          let same = elements_same o here store holds is (come_complete (offsets_wanted o is) here k) in
          let own_rows : span_elements o store is ≡ element_rows o (arrived here) is = ap (λ b. if b then rows_on 0 o.elements else span_elements o store is) (sym e) ∙ same in
          subst (λ xs. Fewer o.elements xs (element_rows o store js)) own_rows (others (is_whole o js))

  mutual
    pub fewer_wanted : (p : PlanTree) (n : ℕ) (is js : List ℕ) (id : ℕ) → Within p n → Fewer n is js → names_id id (wanted p here is) ≡ true → names_id id (wanted p (all_of store) js) ≡ true
    fewer_wanted (leaf d s gs) n is js id w f h = leaf_fewer 0 (places_of d s gs) is js f.inside id h
    fewer_wanted (rows d vs) n is js id w f h = absurd cc
    fewer_wanted (evaluate d e p) n is js id w f h = fewer_wanted p n is js id w f h
    fewer_wanted (over d e ps) n is js id w f h = all_fewer_wanted ps n is js id w f h
    fewer_wanted (constant d e) n is js id w f h = absurd cc
    fewer_wanted (lists d p o) n is js id w f h =
        ap (λ b. names_id id (offsets_wanted o js ++ (if is_whole o js || b then wanted p (all_of store) (element_rows o store js) else []))) (told_here store (offsets_wanted o js))
        ∙ ap (λ b. names_id id (offsets_wanted o js ++ (if b then wanted p (all_of store) (element_rows o store js) else []))) (or_true (is_whole o js))
        ∙ names_append id (offsets_wanted o js) (wanted p (all_of store) (element_rows o store js))
        ∙ either (names_id id (offsets_wanted o is)) (names_id id (if knows_elements o here is then wanted p here (element_rows o (arrived here) is) else []))
        (names_id id (offsets_wanted o js)) (names_id id (wanted p (all_of store) (element_rows o store js)))
        (sym (names_append id (offsets_wanted o is) (if knows_elements o here is then wanted p here (element_rows o (arrived here) is) else [])) ∙ h)
        (leaf_fewer 0 (offset_places o) (offset_rows is) (offset_rows js) (offsets_inside is js f.inside) id)
        (known_elements (knows_elements o here is) id (wanted p here (element_rows o (arrived here) is)) (names_id id (wanted p (all_of store) (element_rows o store js)))
        (λ k. fewer_wanted p o.elements (element_rows o (arrived here) is) (element_rows o store js) id w.1 (elements_fewer o n is js w.0 f k)))
    fewer_wanted (lengths o) n is js id w f h = leaf_fewer 0 (offset_places o) (offset_rows is) (offset_rows js) (offsets_inside is js f.inside) id h
    fewer_wanted (valid p v) n is js id w f h =
        names_append id (wanted v (all_of store) js) (wanted p (all_of store) js)
        ∙ either (names_id id (wanted v here is)) (names_id id (wanted p here is)) (names_id id (wanted v (all_of store) js)) (names_id id (wanted p (all_of store) js))
        (sym (names_append id (wanted v here is) (wanted p here is)) ∙ h) (fewer_wanted v n is js id w.0 f) (fewer_wanted p n is js id w.1 f)
    fewer_wanted (numbers k) n is js id w f h = absurd cc
    fewer_wanted (by_lengths d e t g p) n is js id w f h = fewer_wanted p n is js id w f h

    pub all_fewer_wanted : (ps : PlanTrees) (n : ℕ) (is js : List ℕ) (id : ℕ) → AllWithin ps n → Fewer n is js → names_id id (all_wanted ps here is) ≡ true → names_id id (all_wanted ps (all_of store) js) ≡ true
    all_fewer_wanted no_plans n is js id w f h = absurd cc
    all_fewer_wanted (plan p ps) n is js id w f h =
        names_append id (wanted p (all_of store) js) (all_wanted ps (all_of store) js)
        ∙ either (names_id id (wanted p here is)) (names_id id (all_wanted ps here is)) (names_id id (wanted p (all_of store) js)) (names_id id (all_wanted ps (all_of store) js))
        (sym (names_append id (wanted p here is) (all_wanted ps here is)) ∙ h) (fewer_wanted p n is js id w.0 f) (all_fewer_wanted ps n is js id w.1 f)

pub plans_rise : (p : PlanTree) (store : Store) (here : Came) (first : ℕ) (less mask : List Bool) (id : ℕ) → Holds store here → Within p (first + length mask) → IsWithin less mask
    → names_id id (wanted p here (true_rows first less)) ≡ true → names_id id (wanted p (all_of store) (true_rows first mask)) ≡ true
plans_rise p store here first less mask id holds w within h =
    let many = rows_most first mask in
    fewer_wanted store here holds p (first + length mask) (true_rows first less) (true_rows first mask) id w (record { inside = rows_inside first less mask within; few = rows_few first less mask within; most = omega (arith, many) }) h

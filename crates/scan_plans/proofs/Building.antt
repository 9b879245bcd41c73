-- Values that are read part by part.
use Rattle.std.proofs.Common.{◌≡◌, ℕ, ◌==◌, ◌+◌, ◌-◌, ◌<◌, ◌≤◌, Bool, true, false, ◌||◌, ◌&&◌, List, [], ◌∷◌, ◌++◌, map, length, get_or, Result, Ok, Err, Some, None, is_none, refl, ap, subst, ◌∙◌, sym, arith, append_assoc}
use Rattle.std.specs.Prelude.{if◌then◌else◌, slice_range}
use Rattle.std.specs.List.{list_any, items_where_true}
use Rattle.std.proofs.lemmas.Bool.Decides.{nat_tests}
use Rattle.std.proofs.lemmas.List.{append-nil, map-append}
use Rattle.std.proofs.lemmas.List.Folds.{list_any-append}
use Rattle.scan_values.specs.Arrays.{ArrayData, of_parts}
use Rattle.scan_values.specs.DataType.{DataType}
use Rattle.scan_values.specs.Marked.{Marked}
use Rattle.scan_values.specs.Val.{Val, marked}
use Rattle.scan_segments.specs.Source.{Store}
use Rattle.scan_spelling.specs.declared.spelling.Spelling.{Spelling}
use Rattle.scan_spelling.specs.Places.{Place, place_of, places_of, decoded}
use Rattle.scan_layout.specs.RowValue.{leaf_value, segment_value}
use Rattle.scan_splits.specs.Runs.{start_of}
use Rattle.scan_plans.specs.PlanTree.{leaf}
use Rattle.scan_plans.specs.Came.{Came, arrived}
use Rattle.scan_plans.specs.Meaning.{true_rows}
use Rattle.scan_plans.specs.Wants.{leaf_wanted, part_of}
use Rattle.scan_plans.specs.Reads.{fails, AddsSegment, ReadsSegment, AreValues, Reads}
use Rattle.scan_plans.specs.declared.fault.ReadFault.{ReadFault}
use Rattle.scan_plans.specs.declared.fault.ReadFault.TheVariants.{Corrupt, Overflow, NoMemory}
use Rattle.scan_plans.proofs.RowLemmas.{rows_part}
use Rattle.scan_plans.proofs.Segments.{moved_rows, segment_items}
use Rattle.scan_plans.proofs.Giving.{fails_spoils}
use Rattle.scan_plans.proofs.LeafWalk.{Segment, to_want, to_give, want_part, give_next}

pub fails_append : (ps qs : List Place) (store : Store) (id : ℕ) → fails (ps ++ qs) store id ≡ (fails ps store id || fails qs store id)
fails_append ps qs store id = list_any-append (λ (p : Place). (p.id == id) && is_none (decoded store p)) ps qs

-- no row is true
pub no_rows : (k : ℕ) (bits : List Bool) → list_any (λ b. b) bits ≡ false → true_rows k bits ≡ []
no_rows k [] h = refl
no_rows k (true ∷ bits) h = absurd cc
no_rows k (false ∷ bits) h = no_rows (k + 1) bits h

-- ---- with a segment
pub adds_none : (store : Store) (p : Place) (skip : ℕ) (bits : List Bool) (a : ArrayData) → a.dtype ≡ p.dtype → list_any (λ b. b) bits ≡ false → AddsSegment store p skip bits a (Ok a)
adds_none store p skip bits a d none = (
  d,
  sym (append-nil (map marked a.items)) ∙ ap (λ is. map marked a.items ++ map (segment_value store p) is) (sym (no_rows skip bits none)),
  λ id. ap (λ b. fails (if b then p ∷ [] else []) store id) none,
)

one_good : (store : Store) (p : Place) (vs : List Val) (id : ℕ) → decoded store p ≡ Some vs → fails (p ∷ []) store id ≡ false
one_good store p vs id h = rw h (neither (p.id == id))
  where
    neither : (b : Bool) → ((b && false) || false) ≡ false
    neither true = refl
    neither false = refl

one_bad : (store : Store) (p : Place) (id : ℕ) → id ≡ p.id → decoded store p ≡ None → fails (p ∷ []) store id ≡ true
one_bad store p id e h = rw (e, h, same_id p.id) refl
  where
    same_id : (n : ℕ) → (n == n) ≡ true
    same_id n = grind (arith, nat_tests)

-- with a segment that is read
pub adds_read : (store : Store) (p : Place) (skip : ℕ) (bits : List Bool) (a b read : ArrayData) → list_any (λ b. b) bits ≡ true → ReadsSegment store p (Ok read) → skip + length bits ≤ length read.items
    → a.dtype ≡ p.dtype → b ≡ of_parts a.dtype (a.items ++ items_where_true bits (slice_range read.items skip (skip + length bits))) → AddsSegment store p skip bits a (Ok b)
adds_read store p skip bits a b read some h long d e = (
  ap (λ (x : ArrayData). x.dtype) e ∙ d,
  ap (λ (x : ArrayData). map marked x.items) e ∙ map-append marked a.items (items_where_true bits (slice_range read.items skip (skip + length bits))) ∙ ap (λ xs. map marked a.items ++ xs) (segment_items store p read.items skip bits h.1 long),
  λ id. ap (λ t. fails (if t then p ∷ [] else []) store id) some ∙ one_good store p read.items id h.1,
)

pub adds_fault : (store : Store) (p : Place) (skip : ℕ) (bits : List Bool) (a : ArrayData) (f : ReadFault) → list_any (λ b. b) bits ≡ true → ReadsSegment store p (Err f) → AddsSegment store p skip bits a (Err f)
adds_fault store p skip bits a (Corrupt id) some h = ap (λ t. fails (if t then p ∷ [] else []) store id) some ∙ one_bad store p id h.0 h.1
adds_fault store p skip bits a Overflow some h = absurd h
adds_fault store p skip bits a NoMemory some h = tt

-- ---- a leaf, so far
pub record Built (t : DataType) (a : ArrayData) (rest all : List Marked) (want wanted : List Place) (store : Store) : Type 0 where
  pub dtype : a.dtype ≡ t
  pub items : map marked a.items ++ rest ≡ all
  pub same : (id : ℕ) → fails want store id ≡ fails wanted store id

pub built_start : (t : DataType) (a : ArrayData) (rest all : List Marked) (want wanted : List Place) (store : Store) → a ≡ of_parts t [] → rest ≡ all → want ≡ wanted → Built t a rest all want wanted store
built_start t a rest all want wanted store e r w = record {
  dtype = ap (λ (x : ArrayData). x.dtype) e;
  items = ap (λ (x : ArrayData). map marked x.items ++ rest) e ∙ r;
  same = λ id. ap (λ ps. fails ps store id) w;
}

-- the part of a segment
here_same : (store : Store) (p : Place) (first start : ℕ) (part : List Bool) → map (segment_value store p) (true_rows (first - start) part) ≡ map (λ i. segment_value store p (i - start)) (true_rows (first + (start - first)) part)
here_same store p first start part = let z : start + (first - start) ≡ first + (start - first) = omega arith in moved_rows store p start (first - start) part ∙ ap (λ j. map (λ i. segment_value store p (i - start)) (true_rows j part)) z

pub built_next : (d : DataType) (sp : Spelling) (store : Store) (gs : List Segment) (first : ℕ) (bits : List Bool) (k : ℕ) (o : Segment) (part : List Bool) (from to : ℕ) (all : List Marked) (wanted : List Place) (a b : ArrayData)
    → k < length gs → from ≡ start_of gs k → to ≡ start_of gs (k + 1) → part ≡ part_of first from to bits
    → Built d a (to_give d sp store gs first bits k) all (to_want d sp gs first bits k) wanted store
    → AddsSegment store (place_of d sp (get_or gs k o)) (first - from) part a (Ok b)
    → Built d b (to_give d sp store gs first bits (k + 1)) all (to_want d sp gs first bits (k + 1)) wanted store
built_next d sp store gs first bits k o part from to all wanted a b h x y e l r = record {
  dtype = r.0;
  items = ap (λ xs. xs ++ to_give d sp store gs first bits (k + 1)) r.1
      ∙ append_assoc (map marked a.items) (map (segment_value store p) (true_rows (first - from) part)) (to_give d sp store gs first bits (k + 1))
      ∙ ap (λ xs. map marked a.items ++ (xs ++ to_give d sp store gs first bits (k + 1))) moved
      ∙ ap (λ xs. map marked a.items ++ xs) (sym (give_next d sp store gs first bits k o h))
      ∙ l.items;
  same = λ id.
      sym (ap (λ ps. fails ps store id) (want_part d sp gs first bits k o part from to h x y e) ∙ fails_append (if list_any (λ b. b) part then p ∷ [] else []) (to_want d sp gs first bits (k + 1)) store id ∙ ap (λ b. b || fails (to_want d sp gs first bits (k + 1)) store id) (r.2 id))
      ∙ l.same id;
}
  where
    p : Place
    p = place_of d sp (get_or gs k o)

    moved : map (segment_value store p) (true_rows (first - from) part) ≡ map (λ i. segment_value store p (i - start_of gs k)) (rows_part first bits (start_of gs k) (start_of gs (k + 1)))
    moved = here_same store p first from part
        ∙ ap (λ s. map (λ i. segment_value store p (i - s)) (true_rows (first + (s - first)) part)) x
        ∙ ap (λ m. map (λ i. segment_value store p (i - start_of gs k)) (true_rows (first + (start_of gs k - first)) m)) (e ∙ ap (λ s. part_of first s to bits) x ∙ ap (λ t. part_of first (start_of gs k) t bits) y)

pub built_fault : (d : DataType) (sp : Spelling) (here : Came) (gs : List Segment) (first : ℕ) (bits : List Bool) (k : ℕ) (o : Segment) (part : List Bool) (from to : ℕ) (a : ArrayData) (f : ReadFault)
    → k < length gs → from ≡ start_of gs k → to ≡ start_of gs (k + 1) → part ≡ part_of first from to bits
    → Built d a (to_give d sp (arrived here) gs first bits k) (map (leaf_value d (arrived here) (places_of d sp gs)) (true_rows first bits)) (to_want d sp gs first bits k) (leaf_wanted 0 (places_of d sp gs) (true_rows first bits)) (arrived here)
    → AddsSegment (arrived here) (place_of d sp (get_or gs k o)) (first - from) part a (Err f)
    → Reads (leaf d sp gs) here (true_rows first bits) (Err f)
built_fault d sp here gs first bits k o part from to a (Corrupt id) h x y e l r = λ w. fails_spoils (leaf_wanted 0 (places_of d sp gs) (true_rows first bits)) here id (w id)
    (sym (l.same id) ∙ ap (λ ps. fails ps (arrived here) id) (want_part d sp gs first bits k o part from to h x y e) ∙ fails_append (if list_any (λ b. b) part then place_of d sp (get_or gs k o) ∷ [] else []) (to_want d sp gs first bits (k + 1)) (arrived here) id ∙ rw r refl)
built_fault d sp here gs first bits k o part from to a Overflow h x y e l r = absurd r
built_fault d sp here gs first bits k o part from to a NoMemory h x y e l r = tt

never : (is : List ℕ) → list_any (λ i. false) is ≡ false
never [] = refl
never (i ∷ is) = never is

pub built_end : (d : DataType) (sp : Spelling) (here : Came) (gs : List Segment) (is : List ℕ) (a : ArrayData) (rest : List Marked) (want : List Place)
    → Built d a rest (map (leaf_value d (arrived here) (places_of d sp gs)) is) want (leaf_wanted 0 (places_of d sp gs) is) (arrived here) → rest ≡ [] → want ≡ [] → AreValues (leaf d sp gs) here is a
built_end d sp here gs is a rest want l e w = record {
  dtype = l.dtype;
  items = sym (append-nil (map marked a.items)) ∙ ap (λ xs. map marked a.items ++ xs) (sym e) ∙ l.items;
  within = never is;
  found = λ id. sym (l.same id) ∙ ap (λ ps. fails ps (arrived here) id) w;
}

pub moved_adds : (store : Store) (p q : Place) (skip other : ℕ) (bits : List Bool) (a : ArrayData) (r : Result ArrayData ReadFault) → p ≡ q → skip ≡ other → AddsSegment store p skip bits a r → AddsSegment store q other bits a r
moved_adds store p q skip other bits a r e f h = subst (λ (n : ℕ). AddsSegment store q n bits a r) f (subst (λ (x : Place). AddsSegment store x skip bits a r) e h)

-- What a contract sees of the reading of offsets.
use Rattle.std.specs.Prelude.{◌≡◌, ◌≤◌, ℕ, ◌+◌, ◌-◌, Bool, true, false, ◌||◌, ◌&&◌, List, [], ◌∷◌, length, map, replicate, Option, Some, None, is_none, Result, Ok, Err, ℤ, pos, slice_range}
use Rattle.std.specs.List.{items_where_true}
use Rattle.scan_values.specs.Arrays.{ArrayData, of_parts}
use Rattle.scan_values.specs.DataType.{DataType}
use Rattle.scan_values.specs.Selections.{is_among}
use Rattle.scan_columns.specs.Nested.{cuts, list_of}
use Rattle.scan_columns.specs.Typed.{typed}
use Rattle.scan_segments.specs.Source.{Store}
use Rattle.scan_layout.specs.Touched.{row_at}
use Rattle.scan_plans.specs.OffsetsData.{OffsetsData, offset_at, offset_places}
use Rattle.scan_plans.specs.Came.{Came, arrived}
use Rattle.scan_plans.specs.Meaning.{true_rows}
use Rattle.scan_plans.specs.Lists.{rows_on, IsSpan, is_whole, element_rows, good_offset}
use Rattle.scan_plans.specs.ListItems.{sizes_in, first_in, last_in}
use Rattle.scan_plans.specs.Reads.{AllDecode}
use Rattle.scan_plans.specs.Wants.{leaf_wanted, offsets_wanted, knows_elements, lacks, names_id, offsets_spoiled, spoils, any_bad, Complete}
use Rattle.scan_plans.specs.declared.fault.ReadFault.{ReadFault}
use Rattle.scan_plans.specs.declared.fault.ReadFault.TheVariants.{Corrupt, Overflow, NoMemory}
use Rattle.scan_plans.specs.declared.lists.Cut.{Cut}
use Rattle.scan_plans.specs.declared.lists.Whole.{Whole}
use Rattle.scan_plans.specs.declared.lists.Span.{Span}

-- the span of the true rows of a mask, where there are any
abbrev pub Spans : ℕ → List Bool → Option Span → Type 0
Spans first bits None = true_rows first bits ≡ []
Spans first bits (Some s) = IsSpan (true_rows first bits) s.first s.mask × (s.first + length s.mask ≤ first + length bits)

-- no number is below the one before it, nor past the greatest
abbrev pub Climbs : ℕ → ℕ → List ℕ → Type 0
Climbs most before [] = Unit {0}
Climbs most before (n ∷ ns) = (before ≤ n) × (n ≤ most) × Climbs most n ns

-- these are the offsets of so many rows from one on, all are good, and each segment of them decodes
pub record AreOffsets (o : OffsetsData) (store : Store) (i n : ℕ) (ns : List ℕ) : Type 0 where
  pub at : map (offset_at o store) (rows_on i n) ≡ map (λ k. Some (pos k)) ns
  pub climbs : Climbs o.elements 0 ns
  pub found : AllDecode (leaf_wanted 0 (offset_places o) (rows_on i n)) store

-- one of these numbers is no good as the offset of its row, of which the segment of this id has the offset
abbrev pub bad_in : OffsetsData → ℕ → ℕ → List ℤ → ℕ → Bool
bad_in o before i [] id = false
bad_in o before i (z ∷ zs) id = (is_none (good_offset o.elements before z) && names_id id
    (leaf_wanted 0 (offset_places o) (i ∷ []))) || bad_in o (row_at z) (i + 1) zs id

-- numbers are offsets, all of which are good, or the segment of one has one that is not
abbrev pub Checks : {A : Type 0} → (A → List ℕ) → OffsetsData → ℕ → List ℤ → Result A ReadFault → Type 0
Checks items o i zs (Ok v) = (map pos (items v) ≡ zs) × Climbs o.elements 0 (items v)
Checks items o i zs (Err (Corrupt id)) = bad_in o 0 i zs id ≡ true
Checks items o i zs (Err Overflow) = ⊥
Checks items o i zs (Err NoMemory) = Unit {0}

-- so many offsets from one on, or, where nothing lacks, a segment that is no good
abbrev pub ReadsOffsets : {A : Type 0} → (A → List ℕ) → OffsetsData → Came → ℕ → ℕ → Result A ReadFault → Type 0
ReadsOffsets items o here i n (Ok v) = AreOffsets o (arrived here) i n (items v)
ReadsOffsets items o here i n (Err (Corrupt id)) =
    Complete (leaf_wanted 0 (offset_places o) (rows_on i n)) here
    → (spoils (leaf_wanted 0 (offset_places o) (rows_on i n)) here id || any_bad o (arrived here) 0
    (rows_on i n) id) ≡ true
ReadsOffsets items o here i n (Err Overflow) = ⊥
ReadsOffsets items o here i n (Err NoMemory) = Unit {0}

-- the offsets of lists at rows and between them
pub record IsCut (o : OffsetsData) (store : Store) (is : List ℕ) (c : Cut) : Type 0 where
  pub span : IsSpan is c.first c.mask
  pub offsets : AreOffsets o store c.first (length c.mask + 1) (c.offsets.items)

-- the offsets that rows of lists need, where there are any, or, where nothing lacks, a segment that is no good
abbrev pub Cuts : OffsetsData → Came → List ℕ → Result (Option Cut) ReadFault → Type 0
Cuts o here is (Ok None) = is ≡ []
Cuts o here is (Ok (Some c)) = IsCut o (arrived here) is c
Cuts o here is (Err (Corrupt id)) = Complete (offsets_wanted o is) here → offsets_spoiled o here is id ≡ true
Cuts o here is (Err Overflow) = ⊥
Cuts o here is (Err NoMemory) = Unit {0}

-- so many rows, from one on
abbrev pub AreRows : ℕ → ℕ → ℕ → List Bool → Type 0
AreRows start count first mask = (first ≡ start) × (mask ≡ replicate count true)

-- the rows of all elements, or of those of lists with these offsets
abbrev pub AreElements : Bool → OffsetsData → List ℕ → ℕ → List Bool → Type 0
AreElements true o offsets first mask = AreRows 0 o.elements first mask
AreElements false o offsets first mask = AreRows (first_in offsets) (last_in offsets - first_in offsets) first mask

-- the elements that are read for lists at rows, which have these offsets
abbrev pub AreRead : OffsetsData → List ℕ → List ℕ → ℕ → List Bool → Type 0
AreRead o is offsets first mask = AreElements (is_whole o is) o offsets first mask

-- the same, with the rows of the elements that are read
abbrev pub CutsWhole : OffsetsData → Came → List ℕ → Result (Option Whole) ReadFault → Type 0
CutsWhole o here is (Ok None) = is ≡ []
CutsWhole o here is (Ok (Some w)) = IsCut o (arrived here) is w.cut × AreRead o is (w.cut.offsets.items) w.rows.first w.rows.mask
CutsWhole o here is (Err (Corrupt id)) = Complete (offsets_wanted o is) here → offsets_spoiled o here is id ≡ true
CutsWhole o here is (Err Overflow) = ⊥
CutsWhole o here is (Err NoMemory) = Unit {0}

-- the rows of the elements that lists want, which are known
pub record WantsRows (o : OffsetsData) (here : Came) (is : List ℕ) (s : Span) : Type 0 where
  pub known : knows_elements o here is ≡ true
  pub rows : element_rows o (arrived here) is ≡ true_rows s.first s.mask
  pub within : s.first + length s.mask ≤ o.elements

abbrev pub ElementsOf : OffsetsData → Came → List ℕ → Result Span ReadFault → Type 0
ElementsOf o here is (Ok s) = WantsRows o here is s
ElementsOf o here is (Err (Corrupt id)) = offsets_spoiled o here is id ≡ true
ElementsOf o here is (Err Overflow) = ⊥
ElementsOf o here is (Err NoMemory) = Unit {0}

-- the ids of the offsets that lack are added
abbrev pub AddsOffsets : List ℕ → List ℕ → OffsetsData → Came → List ℕ → Type 0
AddsOffsets old new o here is = (id : ℕ) → is_among new id ≡ (is_among old id || lacks (offsets_wanted o is) here id)

-- and the elements that are wanted next, where they are known
abbrev pub NextOf : List ℕ → List ℕ → OffsetsData → Came → List ℕ → Result (Option Span) ReadFault → Type 0
NextOf old new o here is (Ok None) = AddsOffsets old new o here is × (knows_elements o here is ≡ false)
NextOf old new o here is (Ok (Some s)) = AddsOffsets old new o here is × WantsRows o here is s
NextOf old new o here is (Err (Corrupt id)) = offsets_spoiled o here is id ≡ true
NextOf old new o here is (Err Overflow) = ⊥
NextOf old new o here is (Err NoMemory) = Unit {0}

-- these ids are added
abbrev pub AddsIds : {A : Type 0} → List ℕ → List ℕ → List ℕ → Result A ReadFault → Type 0
AddsIds old ids new (Ok x) = (id : ℕ) → is_among new id ≡ (is_among old id || is_among ids id)
AddsIds old ids new (Err (Corrupt id)) = ⊥
AddsIds old ids new (Err Overflow) = ⊥
AddsIds old ids new (Err NoMemory) = Unit {0}

-- the elements of these lists are among so many that were read
abbrev pub HasElements : Whole → ℕ → Type 0
HasElements w n = (w.rows.first ≤ first_in (w.cut.offsets.items)) × (last_in (w.cut.offsets.items) ≤ w.rows.first + n)

-- of the elements that were read, from a row on, those of lists with these offsets
abbrev pub elements_in : List ℕ → ℕ → ArrayData → ArrayData
elements_in offsets first a = of_parts a.dtype (slice_range a.items (first_in offsets - first) (last_in offsets - first))

-- the lists of a cut that are asked for, cut out of all their elements
abbrev pub ListsOf : DataType → Cut → ArrayData → Result ArrayData ReadFault → Type 0
ListsOf d c elements (Ok a) = a ≡ of_parts d
    (items_where_true c.mask (typed list_of (cuts (sizes_in (c.offsets.items)) elements.items)
    (replicate (length c.mask) true)))
ListsOf d c elements (Err (Corrupt id)) = ⊥
ListsOf d c elements (Err Overflow) = ⊥
ListsOf d c elements (Err NoMemory) = Unit {0}

abbrev pub NoneOf : DataType → Result ArrayData ReadFault → Type 0
NoneOf d (Ok a) = a ≡ of_parts d []
NoneOf d (Err (Corrupt id)) = ⊥
NoneOf d (Err Overflow) = ⊥
NoneOf d (Err NoMemory) = Unit {0}

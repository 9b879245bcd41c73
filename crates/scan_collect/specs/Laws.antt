-- Laws of what is read to its end.
use Rattle.std.specs.Prelude.{◌≡◌, ◌≤◌, ◌==◌, ℕ, Bool, true, false, List, [], ◌∷◌, length, map, filter, take, min, count_by, Option, Some, None, IsPermutation}
use Rattle.std.specs.List.{list_all}
use Rattle.std.specs.declared.ops.Range.{Range}
use Rattle.scan_values.specs.Arrays.{ArrayData}
use Rattle.scan_values.specs.Marked.{Marked}
use Rattle.scan_values.specs.Val.{is_clean}
use Rattle.scan_segments.specs.Source.{Store}
use Rattle.scan_streams.specs.Grants.{HasRoom}
use Rattle.scan_streams.specs.Splits.{reach}
use Rattle.scan_streams.specs.Streams.{StreamData}
use Rattle.scan_readers.specs.Readers.{ReaderState, value_of}
use Rattle.scan_readers.specs.RowIdxData.{numbered_state}
use Rattle.scan_core.specs.BuilderData.{BuilderData, IsBuilder, conjuncts_in}
use Rattle.scan_core.specs.Given.{Rises, asked_rows, passes}
use Rattle.scan_core.specs.Prepared.{IsPrepared}
use Rattle.scan_core.specs.RowRanges.{is_past}
use Rattle.scan_core.specs.ScanData.{ScanData, IsScan}
use Rattle.scan_core.specs.Streaming.{IsStreamOf}
use Rattle.scan_collect.specs.Reads.{IsFresh, IsReadOf, values_given}

-- the first of rows, as many as a limit
abbrev pub up_to : Option ℕ → List ℕ → List ℕ
up_to None ks = ks
up_to (Some limit) ks = take limit ks

-- so many of a number of rows
abbrev pub count_within : Option ℕ → ℕ → ℕ
count_within None n = n
count_within (Some limit) n = min limit n

-- rows are the first of those that are asked for: in their order, or in some order
abbrev pub PicksFirst : Bool → Option ℕ → List ℕ → List ℕ → Type 0
PicksFirst true limit asked rows = rows ≡ up_to limit asked
PicksFirst false limit asked rows = (others : List ℕ) × IsPermutation asked others × (rows ≡ up_to limit others)

-- What is given of rows that are asked for, as many as a limit.
pub record GivesRows (ordered : Bool) (limit : Option ℕ) (asked : List ℕ) (value : ℕ → Marked) (given : List Marked) : Type 0 where
  -- the first of them, in their order or in some order, and none of them twice
  pub rows : List ℕ
  pub first : PicksFirst ordered limit asked rows
  pub once : (k : ℕ) → count_by (λ i. i == k) rows ≤ 1
  -- as many as the limit, or all where they are fewer
  pub count : length rows ≡ count_within limit (length asked)
  -- their values, none of which is damaged
  pub values : given ≡ map value rows
  pub clean : list_all is_clean given ≡ true

-- the rows that a builder asks for within a further range: the selected ones of its range at which each conjunct is true
abbrev pub rows_asked : {R M : Type 0} → ReaderState → BuilderData R M → Option (Range ℕ) → Store → List ℕ
rows_asked state b r store = filter (passes (numbered_state b.offset state) (conjuncts_in b.filter) store) (asked_rows b state.rows r)

-- the arrays that are read, without a fault, of a stream of a scan that a builder set up are the first of its rows
abbrev pub ReadsGiveTheFirstRows : Type 0 → Type 0 → Type 0
ReadsGiveTheFirstRows R M =
    (state : ReaderState) (b : BuilderData R M) (s : ScanData M) (r : Option (Range ℕ)) (t : StreamData M) (store : Store) (arrays : List ArrayData)
    → IsBuilder state b.projection b.filter b.natural → Rises b.selection → IsPrepared state b s → IsScan s → is_past r state.rows ≡ false
    → IsStreamOf s r t → HasRoom (t.feed).seat (reach (t.feed).splits) → (IsFresh store t.feed → IsReadOf store t.feed (values_given arrays))
    → GivesRows b.ordered b.limit (rows_asked state b r store) (value_of (numbered_state b.offset state) b.projection store) (values_given arrays)

-- ---- worked rows
abbrev pub WorkedRows : Type 0
WorkedRows =
    record {
      in_order : PicksFirst true (Some 2) (3 ∷ 5 ∷ 8 ∷ []) (3 ∷ 5 ∷ []);
      not_later : PicksFirst true (Some 2) (3 ∷ 5 ∷ 8 ∷ []) (3 ∷ 8 ∷ []) → ⊥;
      in_some_order : PicksFirst false (Some 2) (3 ∷ 5 ∷ 8 ∷ []) (8 ∷ 5 ∷ []);
      all : PicksFirst true None (3 ∷ 5 ∷ []) (3 ∷ 5 ∷ []);
      no_more : count_within (Some 4) 3 ≡ 3;
    }

-- What all splits of a scan give together.
use Rattle.std.specs.Prelude.{◌≡◌, ℕ, Bool, true, false, List, map, filter, Option}
use Rattle.std.specs.List.{flat_map, list_all}
use Rattle.std.specs.declared.ops.Range.{Range}
use Rattle.scan_values.specs.Marked.{Marked, is_true}
use Rattle.scan_values.specs.Selections.{picked_rows}
use Rattle.scan_values.specs.StrictSorted.{is_rising}
use Rattle.scan_values.specs.declared.selection.Selection.{Selection}
use Rattle.scan_values.specs.declared.selection.Selection.TheVariants.{All, IncludeByIndex, ExcludeByIndex}
use Rattle.scan_segments.specs.Source.{Store}
use Rattle.scan_expr.specs.Bound.{Bound}
use Rattle.scan_plans.specs.Futures.{items_of}
use Rattle.scan_readers.specs.Readers.{ReaderState, value_of}
use Rattle.scan_readers.specs.RowIdxData.{numbered_state}
use Rattle.scan_core.specs.BuilderData.{BuilderData, IsBuilder, conjuncts_in}
use Rattle.scan_core.specs.Prepared.{IsPrepared}
use Rattle.scan_core.specs.RowRanges.{is_past}
use Rattle.scan_core.specs.ScanData.{ScanData, IsScan, splits_of}
use Rattle.scan_core.specs.SplitData.{SplitData}
use Rattle.scan_core.specs.SplitRanges.{common}

-- each of several expressions is true in a row
abbrev pub passes : ReaderState → List Bound → Store → ℕ → Bool
passes s cs store i = list_all (λ (c : Bound). is_true (value_of s c store i)) cs

-- of a reader's rows those that a builder asks for within a further range: the selected ones of its range
abbrev pub asked_rows : {R M : Type 0} → BuilderData R M → ℕ → Option (Range ℕ) → List ℕ
asked_rows b n r = picked_rows (common b.range r) b.selection n

-- the values of its projection at those of them at which each conjunct of its filter is true
abbrev pub asked_values : {R M : Type 0} → ReaderState → BuilderData R M → Option (Range ℕ) → Store → List Marked
asked_values state b r store =
    let s = numbered_state b.offset state in
    map (value_of s b.projection store) (filter (passes s (conjuncts_in b.filter) store) (asked_rows b state.rows r))

-- the values that splits give, one split after the other
abbrev pub values_of : {M : Type 0} → List (SplitData M) → Store → List Marked
values_of fs store = flat_map (λ f. items_of f.future store) fs

-- the indices of a selection rise
abbrev pub Rises : Selection → Type 0
Rises All = Unit {0}
Rises (IncludeByIndex xs) = is_rising xs ≡ true
Rises (ExcludeByIndex xs) = Unit {0}

-- ---- the law
-- the splits of a scan that a builder set up give the values that it asks for, in the order of the rows
abbrev pub SplitsGiveWhatIsAsked : Type 0 → Type 0 → Type 0
SplitsGiveWhatIsAsked R M =
    (state : ReaderState) (b : BuilderData R M) (s : ScanData M) (r : Option (Range ℕ))
    → IsBuilder state b.projection b.filter b.natural → Rises b.selection → IsPrepared state b s → IsScan s → is_past r state.rows ≡ false
    → (store : Store) → values_of (splits_of s r) store ≡ asked_values state b r store

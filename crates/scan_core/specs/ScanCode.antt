-- How proofs store builders and scans.
use Rattle.std.specs.Prelude.{◌≡◌, ℕ, Bool, true, false, List, Option, Some, None, refl}
use Rattle.std.specs.Coded.{Coded, code_by, coded×, coded_bool, coded_list, coded_option, coded_ℕ}
use Rattle.std.specs.declared.ops.Range.{Range}
use Rattle.scan_values.specs.declared.selection.Selection.{Selection}
use Rattle.scan_values.specs.declared.selection.Selection.TheVariants.{All, IncludeByIndex, ExcludeByIndex}
use Rattle.scan_expr.specs.Bound.{Bound, bound_code}
use Rattle.scan_core.specs.BuilderData.{BuilderData}
use Rattle.scan_core.specs.ScanData.{ScanData}
use Rattle.scan_streams.specs.Plans.{PlansData, plans_code}
use Rattle.scan_core.specs.SplitRanges.{rows}
use Rattle.scan_core.specs.declared.split_by.SplitBy.{SplitBy}
use Rattle.scan_core.specs.declared.split_by.SplitBy.TheVariants.{Layout, RowCount}

abbrev pub range_code : Coded (Range ℕ)
range_code = code_by (ℕ × ℕ) (coded× coded_ℕ coded_ℕ) (λ r. (r.start, r.end)) (λ p. rows p.0 p.1) (λ _. refl)

-- a selection as whether it includes, with its numbers; None is all
abbrev pub Picks : Type 0
Picks = Option (Bool × List ℕ)

abbrev pub picks_of : Selection → Picks
picks_of All = None
picks_of (IncludeByIndex xs) = Some (true, xs)
picks_of (ExcludeByIndex xs) = Some (false, xs)

abbrev pub included : Bool → List ℕ → Selection
included true xs = IncludeByIndex xs
included false xs = ExcludeByIndex xs

abbrev pub of_picks : Picks → Selection
of_picks None = All
of_picks (Some p) = included p.0 p.1

pub of_picks-picks_of : (s : Selection) → of_picks (picks_of s) ≡ s
of_picks-picks_of All = refl
of_picks-picks_of (IncludeByIndex xs) = refl
of_picks-picks_of (ExcludeByIndex xs) = refl

abbrev pub selection_code : Coded Selection
selection_code = code_by Picks (coded_option (coded× coded_bool (coded_list coded_ℕ))) picks_of of_picks of_picks-picks_of

-- which rows, how many at most, in which order, and how many splits at once
abbrev pub Options : Type 0
Options = Option (Range ℕ) × (Selection × (Option ℕ × (Bool × ℕ)))

abbrev pub options_code : Coded Options
options_code = coded× (coded_option range_code) (coded× selection_code (coded× (coded_option coded_ℕ) (coded× coded_bool coded_ℕ)))

abbrev pub scan_code : {M : Type 0} → Coded M → Coded (ScanData M)
scan_code {M} m =
    code_by (PlansData × (ℕ × (List ℕ × (Options × M))))
    (coded× plans_code (coded× coded_ℕ (coded× (coded_list coded_ℕ) (coded× options_code m))))
    (λ s. (s.plans, (s.rows, (s.boundaries, ((s.range, (s.selection, (s.limit, (s.ordered, s.concurrency)))), s.step)))))
    (λ p. record {
      plans = p.0;
      rows = p.1.0;
      boundaries = p.1.1.0;
      range = p.1.1.1.0.0;
      selection = p.1.1.1.0.1.0;
      limit = p.1.1.1.0.1.1.0;
      ordered = p.1.1.1.0.1.1.1.0;
      concurrency = p.1.1.1.0.1.1.1.1;
      step = p.1.1.1.1;
    })
    (λ _. refl)

-- how it is split as its number of rows; None is by the layout
abbrev pub size_of : SplitBy → Option ℕ
size_of Layout = None
size_of (RowCount n) = Some n

abbrev pub of_size : Option ℕ → SplitBy
of_size None = Layout
of_size (Some n) = RowCount n

pub of_size-size_of : (by : SplitBy) → of_size (size_of by) ≡ by
of_size-size_of Layout = refl
of_size-size_of (RowCount n) = refl

-- the number of the first row, how it is split, and the natural boundaries
abbrev pub Cuts : Type 0
Cuts = ℕ × (SplitBy × Option (List ℕ))

abbrev pub cuts_code : Coded Cuts
cuts_code = coded× coded_ℕ (coded× (code_by (Option ℕ) (coded_option coded_ℕ) size_of of_size of_size-size_of) (coded_option (coded_list coded_ℕ)))

abbrev pub builder_code : {R M : Type 0} → Coded R → Coded M → Coded (BuilderData R M)
builder_code {R} {M} r m =
    code_by ((R × M) × ((Bound × Option Bound) × (Options × Cuts)))
    (coded× (coded× r m) (coded× (coded× bound_code (coded_option bound_code)) (coded× options_code cuts_code)))
    (λ b. (
      (b.reader, b.step),
      (
        (b.projection, b.filter),
        ((b.range, (b.selection, (b.limit, (b.ordered, b.concurrency)))), (b.offset, (b.split_by, b.natural))),
      ),
    ))
    (λ p. record {
      reader = p.0.0;
      projection = p.1.0.0;
      filter = p.1.0.1;
      ordered = p.1.1.0.1.1.1.0;
      range = p.1.1.0.0;
      selection = p.1.1.0.1.0;
      offset = p.1.1.1.0;
      split_by = p.1.1.1.1.0;
      natural = p.1.1.1.1.1;
      limit = p.1.1.0.1.1.0;
      concurrency = p.1.1.0.1.1.1.1;
      step = p.0.1;
    })
    (λ _. refl)

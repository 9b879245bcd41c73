-- The values of all rows of a reader.
use Rattle.std.proofs.Common.{◌≡◌, ℕ, true, List, [], ◌∷◌, map, filter, take, Option, None, Some, Result, Ok, Err, IfOk, refl, ap, subst, ◌∙◌}
use Rattle.vortex_scan.specs.Values.Marked.{Marked}
use Rattle.vortex_scan.specs.Values.Selections.{numbers}
use Rattle.vortex_scan.specs.Values.declared.selection.Selection.TheVariants.{All}
use Rattle.vortex_scan.specs.Segments.Source.{Store}
use Rattle.vortex_scan.specs.Expr.Bound.{bound_of}
use Rattle.vortex_scan.specs.Expr.Expr.{root}
use Rattle.vortex_scan.specs.Readers.Readers.{ReaderState}
use Rattle.vortex_scan.specs.Core.Given.{asked_values}
use Rattle.vortex_scan.specs.Core.Settings.{builder_by}
use Rattle.vortex_scan.specs.Core.declared.settings.ScanSettings.{ScanSettings}
use Rattle.vortex_scan.specs.Core.declared.split_by.SplitBy.TheVariants.{Layout}
use Rattle.vortex_scan.specs.Collect.Rows.{GivesFirst}

-- the settings of a scan of all rows, or of the first of them
abbrev pub all_with : {M : Type 0} → ReaderState → Option ℕ → M → ScanSettings M
all_with state limit step = record {
  projection = bound_of state.dtype root;
  filter = None;
  ordered = true;
  row_range = None;
  selection = All;
  row_offset = 0;
  split_by = Layout;
  natural_splits = None;
  limit = limit;
  concurrency = 4;
  step = step;
}

pub limited : {M : Type 0} (state : ReaderState) (count : ℕ) (s lent z : ScanSettings M) → s ≡ all_with state None s.step → lent ≡ s → z ≡ record lent { limit = Some count } → z ≡ all_with state (Some count) s.step
limited {M} state count s lent z is same e = e ∙ ap (λ (x : ScanSettings M). record x { limit = Some count }) (same ∙ is)

all_pass : (xs : List ℕ) → filter (λ i. true) xs ≡ xs
all_pass [] = refl
all_pass (x ∷ xs) = ap (λ ys. x ∷ ys) (all_pass xs)

module _ {R M : Type 0} (state : R → ReaderState) (old : R) (count : ℕ) (step : M) where
  all_values : (store : Store) → asked_values (state old) (builder_by old (all_with (state old) (Some count) step)) None store ≡ map ((state old).value store) (numbers 0 (state old).rows)
  all_values store = ap (map ((state old).value store)) (all_pass (filter (λ i. true) (numbers 0 (state old).rows)) ∙ all_pass (numbers 0 (state old).rows))

  pub all_given : {V F : Type 0} (reader : R) (settings : ScanSettings M) (holds : Option Store) (values : V → List Marked) (result : Result V F) → reader ≡ old → settings ≡ all_with (state old) None step
      → IfOk result (λ v. (store : Store) → holds ≡ Some store → GivesFirst settings.ordered settings.limit (asked_values (state reader) (builder_by reader settings) None store) (values v))
      → IfOk result (λ v. (store : Store) → holds ≡ Some store → values v ≡ map ((state old).value store) (numbers 0 (state old).rows))
  all_given reader settings holds values (Ok v) here is h = λ store told.
      let P : R × ScanSettings M → Type 0 = λ z. GivesFirst (z.1).ordered (z.1).limit (asked_values (state z.0) (builder_by z.0 z.1) None store) (values v) in
      let given : values v ≡ asked_values (state old) (builder_by old (all_with (state old) None step)) None store = subst P (λ i. (here i, is i)) (h store told) in
      given ∙ all_values store
  all_given reader settings holds values (Err f) here is h = tt

  pub first_given : {V F : Type 0} (reader : R) (settings : ScanSettings M) (holds : Option Store) (values : V → List Marked) (result : Result V F) → reader ≡ old → settings ≡ all_with (state old) (Some count) step
      → IfOk result (λ v. (store : Store) → holds ≡ Some store → GivesFirst settings.ordered settings.limit (asked_values (state reader) (builder_by reader settings) None store) (values v))
      → IfOk result (λ v. (store : Store) → holds ≡ Some store → values v ≡ take count (map ((state old).value store) (numbers 0 (state old).rows)))
  first_given reader settings holds values (Ok v) here is h = λ store told.
      let P : R × ScanSettings M → Type 0 = λ z. GivesFirst (z.1).ordered (z.1).limit (asked_values (state z.0) (builder_by z.0 z.1) None store) (values v) in
      let given : values v ≡ take count (asked_values (state old) (builder_by old (all_with (state old) (Some count) step)) None store) = subst P (λ i. (here i, is i)) (h store told) in
      given ∙ ap (take count) (all_values store)
  first_given reader settings holds values (Err f) here is h = tt

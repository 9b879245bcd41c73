-- A source of many files.
use Rattle.std.specs.Prelude.{◌≡◌, ◌==◌, ◌||◌, ℕ, Bool, true, false, List, length, Option, Result, Ok, Err, refl}
use Rattle.std.specs.Coded.{Coded, code_by, coded×, coded_list, coded_ℕ}
use Rattle.scan_values.specs.DataType.{DataType, data_type_code}
use Rattle.scan_opener.specs.Opener.{OpenerState}
use Rattle.scan_opener.specs.declared.opener.Opening.{Opening}
use Rattle.scan_multi_sources.specs.Children.{ChildData, child_code}
use Rattle.scan_multi_sources.specs.Opens.{Asks}
use Rattle.scan_sources.specs.declared.fault.SourceFault.{SourceFault}
use Rattle.scan_sources.specs.declared.fault.SourceFault.TheVariants.{ByteSizes, NoMemory}

-- the dtype of the rows, the files, and how many are opened at once
pub record MultiData (O : Type 0) : Type 0 where
  pub dtype : DataType
  pub children : List (ChildData O)
  pub concurrency : ℕ

-- a source by its fields
abbrev pub multi_data : {O : Type 0} → DataType → List (ChildData O) → ℕ → MultiData O
multi_data d cs n = record { dtype = d; children = cs; concurrency = n }

-- sources can be told from one another by numbers
abbrev pub multi_code : {O : Type 0} → Coded O → Coded (MultiData O)
multi_code {O} o =
    code_by (DataType × (List (ChildData O) × ℕ))
    (coded× data_type_code (coded× (coded_list (child_code o)) coded_ℕ))
    (λ m. (m.dtype, (m.children, m.concurrency)))
    (λ p. multi_data p.0 p.1.0 p.1.1)
    (λ _. refl)

-- there are no sizes, or one for each of so many files
abbrev pub fits_sizes : List (Option ℕ) → ℕ → Bool
fits_sizes ss n = length ss == 0 || length ss == n

-- an answer is `ByteSizes` exactly where sizes do not fit; where they do, want of memory is the one refusal
abbrev pub RefusesSizes : {T : Type 0} → Bool → Result T SourceFault → Type 0
RefusesSizes true (Ok x) = Unit {0}
RefusesSizes true (Err f) = f ≡ NoMemory
RefusesSizes false r = r ≡ Err ByteSizes

-- the opener of the file at a place is polled
abbrev pub AsksSource : {O : Type 0} → (O → OpenerState) → MultiData O → MultiData O → ℕ → Opening → Type 0
AsksSource {O} opener old new k r = (cs : List (ChildData O)) × Asks opener old.children cs k r × (new ≡ record old { children = cs })

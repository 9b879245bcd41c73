-- A file under a dtype, and what is wrong with one.
use Rattle.std.specs.Prelude.{ℕ, ◌+◌, List, [], ◌∷◌, Option, None, Some, option_map}
use Rattle.scan_values.specs.DataType.{DataType}
use Rattle.scan_expr.specs.declared.request.ScanRequest.{ScanRequest}
use Rattle.scan_opener.specs.Opener.{Given, skip, layout_of}
use Rattle.scan_multi.specs.Answer.{ToldFile}
use Rattle.scan_multi.specs.Checks.{rows_given}
use Rattle.scan_multi.specs.declared.scan.fault.RangeFault.TheVariants.{Past}
use Rattle.scan_multi.specs.declared.scan.fault.ScanFault.{ScanFault}
use Rattle.scan_multi.specs.declared.scan.fault.ScanFault.TheVariants as scan
use Rattle.scan_widen.specs.declared.behind.Behind.{Behind}
use Rattle.scan_widen.specs.Under.{behind, under}
use Rattle.scan_widened.specs.Faults.{given_fault}
use Rattle.scan_widened.specs.Identity.{beside}
use Rattle.scan_widened.specs.declared.fault.FileFault.{FileFault}
use Rattle.scan_widened.specs.declared.fault.FileFault.TheVariants as file
use Rattle.scan_union.specs.declared.fault.UnionFault.{UnionFault}
use Rattle.scan_union.specs.declared.fault.UnionFault.TheVariants as fault

-- what stands behind the segments of what an opener gives, under the dtype
abbrev pub behind_of : DataType → Given → List Behind
behind_of d skip = []
behind_of d (layout_of l) = behind d l

-- what an opener gives, under the dtype
abbrev pub given_under : DataType → Given → Given
given_under d skip = skip
given_under d (layout_of l) = layout_of (under 0 d l)

-- A file under the dtype: its layout there, and its segments there. Past the ids of all segments the store is the file's own.
abbrev pub file_under : DataType → ToldFile → ToldFile
file_under d f = record { given = given_under d f.given; store = beside (behind_of d f.given) f.store }

-- ---- how faults of a file are faults of a scan

-- want of memory has an answer of its own
abbrev pub of_scan : ScanFault → UnionFault
of_scan scan.NoMemory = fault.NoMemory
of_scan e = fault.Scan e

-- the same of a scan under a dtype, where these are the files' own segments: none is told where none stands behind
abbrev pub read_inner : (ℕ → ScanFault) → Option ℕ → UnionFault
read_inner f None = fault.NoMemory
read_inner f (Some id) = fault.Scan (f id)

abbrev pub fault_over : (ℕ → ℕ → Option ℕ) → ScanFault → UnionFault
fault_over inner (scan.Source place id) = read_inner (λ k. scan.Source place k) (inner place id)
fault_over inner (scan.Corrupt place id) = read_inner (λ k. scan.Corrupt place k) (inner place id)
fault_over inner e = of_scan e

abbrev pub of_file : ℕ → FileFault → UnionFault
of_file place file.NoMemory = fault.NoMemory
of_file place file.Opener = fault.Scan (scan.Opener place)
of_file place file.DTypeMismatch = fault.Scan (scan.DTypeMismatch place)
of_file place (file.Layout f) = fault.Scan (scan.Layout place f)
of_file place file.RowRangePast = fault.Scan (scan.RowRange (Past place))
of_file place file.TooManyRows = fault.Scan (scan.TooManyRows place)
of_file place file.TooManySegments = fault.TooManySegments place

-- the first fault of two
abbrev pub or_later : Option UnionFault → Option UnionFault → Option UnionFault
or_later None later = later
or_later (Some f) later = Some f

-- The first fault of what the openers give, in listed order: of files from a place on, where so many rows are before them.
abbrev pub first_given_fault : DataType → ScanRequest → ℕ → ℕ → List Given → Option UnionFault
first_given_fault d request place before [] = None
first_given_fault d request place before (g ∷ gs) =
    or_later (option_map (of_file place) (given_fault d request.row_range before g)) (first_given_fault d request (place + 1) (before + rows_given g) gs)

-- the same of files that are told
abbrev pub first_file_fault_from : DataType → ScanRequest → ℕ → ℕ → List ToldFile → Option UnionFault
first_file_fault_from d request place before [] = None
first_file_fault_from d request place before (f ∷ fs) =
    or_later (option_map (of_file place) (given_fault d request.row_range before f.given)) (first_file_fault_from d request (place + 1) (before + rows_given f.given) fs)

-- the first fault of files under the dtype, in listed order
abbrev pub first_file_fault : DataType → ScanRequest → List ToldFile → Option UnionFault
first_file_fault d request files = first_file_fault_from d request 0 0 files

-- Which openers a scan polls: those of the first files, and none long before its rows may be wanted.
use Rattle.std.specs.Prelude.{◌≢◌, ◌≡◌, ℕ, ◌<◌, ◌+◌, ◌-◌, List, true, false, All, map, sum, length, get_or, take}
use Rattle.scan_values.specs.DataType.{DataType}
use Rattle.scan_expr.specs.declared.request.ScanRequest.{ScanRequest}
use Rattle.scan_segments.specs.Faults.{Rose}
use Rattle.scan_segments.specs.Source.{SourceState}
use Rattle.scan_segments.specs.Cache.{CacheState}
use Rattle.scan_segments.specs.declared.segment.SegmentKey.{SegmentKey}
use Rattle.scan_opener.specs.Opener.{OpenerState}
use Rattle.scan_multi.specs.Answer.{ToldFile, part_of, answer}
use Rattle.scan_multi.specs.Before.{IsBelow}
use Rattle.scan_multi.specs.Lawful.{told, IsLawful}
use Rattle.scan_drive.specs.declared.files.ScanFile.{ScanFile}

-- how many items the part of a file holds
abbrev pub part_size : DataType → ScanRequest → ToldFile → ℕ
part_size d request f = length (part_of d request 0 f.store f.given)

-- some of these files, so many, whose parts hold fewer items together than the limit
pub record SomeAreFew (d : DataType) (request : ScanRequest) (files : List ToldFile) (count : ℕ) : Type 0 where
  pub places : List ℕ
  pub once : (i j : ℕ) → i < j → j < length places → get_or places i 0 ≢ get_or places j 0
  pub within : All (λ k. k < length files) places
  pub as_many : length places ≡ count
  pub few : (f : ToldFile) → IsBelow request.limit (sum (map (λ k. part_size d request (get_or files k f)) places))

module _ {O S : Type 0} (opener : O → OpenerState) (source : S → SourceState) (workers : ℕ) (d : DataType)
    (request : ScanRequest) (cache : CacheState SegmentKey) (old new : List (ScanFile O S)) where
  -- the count of polls of the opener at this place rose
  abbrev pub WasPolled : ℕ → ScanFile O S → Type 0
  WasPolled k f = (opener (get_or old k f).opener).polled < (opener (get_or new k f).opener).polled

  -- The openers that were polled are those of the first files, as far as their counts can rise. With a limit, over
  -- lawful objects: in an ordered scan a file's opener was polled only where the parts of the files before it, but for
  -- as many as there are workers, hold fewer items; else only where those of as many of the files do.
  pub record ArePolledLate : Type 0 where
    pub first : (i j : ℕ) (f : ScanFile O S) → i < j → j < length old → WasPolled j f
        → Rose (opener (get_or old i f).opener).polled (opener (get_or new i f).opener).polled
    pub ordered : request.ordered ≡ true → IsLawful opener source old cache → (k : ℕ) (f : ScanFile O S)
        → WasPolled k f → IsBelow request.limit
        (length (answer d request (take (k + 1 - workers) (told opener source old))))
    pub unordered : request.ordered ≡ false → IsLawful opener source old cache → (k : ℕ) (f : ScanFile O S)
        → WasPolled k f → SomeAreFew d request (take (k + 1) (told opener source old)) (k + 1 - workers)

-- What objects tell, and when they are lawful.
use Rattle.std.specs.Prelude.{◌≡◌, ℕ, ◌<◌, List, None, IfSome, IsSome, All, map, length, get_or, unwrap_or}
use Rattle.scan_segments.specs.Source.{SourceState, none_live}
use Rattle.scan_segments.specs.Cache.{CacheState}
use Rattle.scan_segments.specs.declared.segment.SegmentKey.{SegmentKey}
use Rattle.scan_opener.specs.Opener.{OpenerState, Given, skip}
use Rattle.scan_multi.specs.Answer.{ToldFile}
use Rattle.scan_multi.specs.Traffic.{KeepsContent}
use Rattle.scan_drive.specs.declared.files.ScanFile.{ScanFile}

module _ {O S : Type 0} (opener : O → OpenerState) (source : S → SourceState) where
  -- what the opener and the source of a file tell
  abbrev pub told_file : ScanFile O S → ToldFile
  told_file f = record { given = unwrap_or (opener f.opener).gives skip; store = unwrap_or (source f.source).holds (λ id. None) }

  -- what those of each file tell
  abbrev pub told : List (ScanFile O S) → List ToldFile
  told files = map told_file files

  -- it tells what it gives and holds
  pub record Tells (f : ScanFile O S) : Type 0 where
    pub gives : IsSome (opener f.opener).gives
    pub holds : IsSome (source f.source).holds

  -- what the cache keeps under a file's name is what the file's source holds
  abbrev pub Agrees : CacheState SegmentKey → ScanFile O S → Type 0
  Agrees cache f = KeepsContent f.source_id cache (source f.source)

  -- Each opener, each source and the cache tell, files of one source name have one content, and the cache agrees with it.
  pub record IsLawful (files : List (ScanFile O S)) (cache : CacheState SegmentKey) : Type 0 where
    pub tells : All Tells files
    pub same : (i j : ℕ) (d : ScanFile O S) → i < length files → j < length files
        → (get_or files i d).source_id ≡ (get_or files j d).source_id
        → (source (get_or files i d).source).holds ≡ (source (get_or files j d).source).holds
    pub cache_tells : IsSome cache.entries
    pub agrees : All (Agrees cache) files

  -- no request is live
  abbrev pub IsIdle : ScanFile O S → Type 0
  IsIdle f = (source f.source).live ≡ none_live

  -- each opener tells what it gives
  abbrev pub AllGive : List (ScanFile O S) → Type 0
  AllGive files = All (λ f. IsSome (opener f.opener).gives) files

  -- as far as the opener tells, what it gives has this fact
  abbrev pub Gives : (Given → Type 0) → ScanFile O S → Type 0
  Gives P f = IfSome (opener f.opener).gives P

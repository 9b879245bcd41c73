-- What the program writes for generated files.
use Rattle.std.specs.Prelude.{ℕ, ◌≡◌, ◌⊎◌, ◌*◌, List, [], ◌∷◌, ◌++◌, length, map, option_map}
use Rattle.scan_segments.specs.Cache.{CacheState, empty_cache}
use Rattle.scan_segments.specs.Faults.{capped}
use Rattle.scan_segments.specs.MemorySource.{source_state}
use Rattle.scan_segments.specs.declared.memory_source.MemorySource.{MemorySource}
use Rattle.scan_segments.specs.declared.segment.SegmentKey.{SegmentKey}
use Rattle.scan_values.specs.DataType.{DataType}
use Rattle.scan_expr.specs.declared.request.ScanRequest.{ScanRequest}
use Rattle.scan_spelling.specs.declared.spelling.Spelling.{Spelling}
use Rattle.scan_opener.specs.Opener.{layout_of}
use Rattle.scan_opener.specs.declared.opener.MemoryOpener.{MemoryOpener}
use Rattle.scan_drive.specs.Traffic.{asked_keys}
use Rattle.scan_drive.specs.declared.files.ScanFile.{ScanFile}
use Rattle.scan_multi.specs.Answer.{Item, ToldFile, answer}
use Rattle.scan_multi.specs.Output.{OutputData, given}
use Rattle.scan_multi.specs.Scans.{IsScan, ScanMoves}
use Rattle.scan_run.specs.declared.generate.totals.Totals.{Totals}
use Rattle.scan_run.specs.Io.{OutputState}
use Rattle.scan_run.specs.FileOf.{memory_opener}
use Rattle.scan_run.specs.Run.{WroteNone}
use Rattle.scan_run.specs.WriteAll.{WroteFront}
use Rattle.scan_run.specs.Words.{IsGenerate}
use Rattle.scan_run.specs.Generated.{table_type, generated_request}
use Rattle.scan_run.specs.GeneratedFiles.{layout_at, store_at, AreGenerated}
use Rattle.scan_run.specs.Totals.{id_in, length_in, total, totals_line}

-- what a file of n rows tells, the first of which has a number
abbrev pub told_at : Spelling → ℕ → ℕ → ToldFile
told_at s n first = record { given = layout_of (layout_at s first n); store = store_at s first n }

-- the rows that are asked of the three files
abbrev pub generated_answer : Spelling → ℕ → List Item
generated_answer s n = answer table_type generated_request (map (told_at s n) (0 ∷ n ∷ 2 * n ∷ []))

-- the number of some rows, and the sums of their ids and of the lengths of their lists
abbrev pub totals_of : List Item → Totals
totals_of items = record { rows = length items; ids = total id_in items; lengths = total length_in items }

-- what a scan of files over an empty cache gave, and what it left
pub record IsOutputOf (workers : ℕ) (d : DataType) (request : ScanRequest)
    (old new : List (ScanFile MemoryOpener MemorySource)) (out : OutputData) : Type 0 where
  pub cache : CacheState SegmentKey
  pub scan : IsScan memory_opener source_state workers d request old new empty_cache cache out
  pub moves : ScanMoves memory_opener source_state workers d request old new empty_cache cache

-- Generated files as they were made, and as a scan of them by one worker over an empty cache left them, with what it gave.
pub record IsFirstRun (s : Spelling) (n : ℕ) (old new : List (ScanFile MemoryOpener MemorySource)) (out : OutputData) : Type 0 where
  pub made : AreGenerated s n old
  pub scanned : IsOutputOf 1 table_type generated_request old new out
  pub gave : given out.chunks ≡ generated_answer s n
  pub asks : out.report.asks ≡ capped (length (asked_keys source_state old new))

-- the line of the rows that the run with one worker gave, which are those that are asked, and of the segments that it asked
-- the sources for
pub record IsLineOf (s : Spelling) (n : ℕ) (text : List ℕ) : Type 0 where
  pub old : List (ScanFile MemoryOpener MemorySource)
  pub new : List (ScanFile MemoryOpener MemorySource)
  pub out : OutputData
  pub run : IsFirstRun s n old new out
  pub is : text ≡ totals_line n (totals_of (given out.chunks)) out.report.asks

-- the words ask for generated files, and their line was written, and nothing else
pub record IsGenerated (words : List (List ℕ)) (output output' : OutputState) : Type 0 where
  pub rows : ℕ
  pub spelling : Spelling
  pub asked : IsGenerate words rows spelling
  pub text : List ℕ
  pub line : IsLineOf spelling rows text
  pub written : output'.written ≡ option_map (λ before. before ++ text) output.written

-- the words ask for generated files, and a front of their line was written
pub record FrontOfLine (words : List (List ℕ)) (output output' : OutputState) : Type 0 where
  pub rows : ℕ
  pub spelling : Spelling
  pub asked : IsGenerate words rows spelling
  pub text : List ℕ
  pub line : IsLineOf spelling rows text
  pub front : WroteFront text output output'

-- nothing was written, or a front of such a line
abbrev pub WroteFrontOfLine : List (List ℕ) → OutputState → OutputState → Type 0
WroteFrontOfLine words output output' = WroteNone output output' ⊎ FrontOfLine words output output'

-- the words ask for nothing
abbrev pub AskNothing : List (List ℕ) → Type 0
AskNothing words = (n : ℕ) (s : Spelling) → IsGenerate words n s → ⊥

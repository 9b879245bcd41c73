-- What a scan does to its files.
use Rattle.std.specs.Prelude.{◌≡◌, ℕ, ◌≤◌, ◌+◌, List, ◌++◌, All, Contains, get_or}
use Rattle.scan_values.specs.DataType.{DataType}
use Rattle.scan_expr.specs.declared.request.ScanRequest.{ScanRequest}
use Rattle.scan_segments.specs.Source.{SourceState}
use Rattle.scan_opener.specs.Opener.{OpenerState}
use Rattle.scan_multi.specs.Named.{named}
use Rattle.scan_multi.specs.Lawful.{told_file}
use Rattle.scan_drive.specs.Traffic.{asked_since}
use Rattle.scan_drive.specs.declared.files.ScanFile.{ScanFile}

module _ {O S : Type 0} (opener : O → OpenerState) (source : S → SourceState) where
  -- A file after calls of its opener and its source. It tells what it told, its faults did not fall and its turns did
  -- not rise, what can fail of it is the same, the opener was polled at most once more than it put off an answer, as
  -- many requests are live, and what was asked before stands first.
  pub record FileMoves (old new : ScanFile O S) : Type 0 where
    pub source_id : new.source_id ≡ old.source_id
    pub gives : (opener new.opener).gives ≡ (opener old.opener).gives
    pub opener_faults : (opener old.opener).faults ≤ (opener new.opener).faults
    pub opener_turns : (opener new.opener).turns ≤ (opener old.opener).turns
    pub opener_can_fail : (opener new.opener).can_fail ≡ (opener old.opener).can_fail
    pub polled : (opener old.opener).polled ≤ (opener new.opener).polled
    pub polls : (opener new.opener).polled + (opener new.opener).turns ≤ (opener old.opener).polled + (opener old.opener).turns + 1
    pub holds : (source new.source).holds ≡ (source old.source).holds
    pub source_faults : (source old.source).faults ≤ (source new.source).faults
    pub source_turns : (source new.source).turns ≤ (source old.source).turns
    pub source_can_fail : (source new.source).can_fail ≡ (source old.source).can_fail
    pub live : (source new.source).live ≡ (source old.source).live
    pub ids : List ℕ
    pub asked : (source new.source).asked ≡ (source old.source).asked ++ ids

  -- each file has moved
  abbrev pub EachMoves : List (ScanFile O S) → List (ScanFile O S) → Type 0
  EachMoves old new = (k : ℕ) (f : ScanFile O S) → FileMoves (get_or old k f) (get_or new k f)

  -- only named segments were asked for
  abbrev pub AsksNamed : DataType → ScanRequest → ScanFile O S → ScanFile O S → Type 0
  AsksNamed d request old new = All (Contains (named d request (told_file opener source old).given
      (told_file opener source old).store)) (asked_since (source old.source) (source new.source))

  -- of each file
  abbrev pub EachAsksNamed : DataType → ScanRequest → List (ScanFile O S) → List (ScanFile O S) → Type 0
  EachAsksNamed d request old new = (k : ℕ) (f : ScanFile O S) → AsksNamed d request (get_or old k f) (get_or new k f)

  -- no segment was asked
  abbrev pub NoneAsked : ScanFile O S → ScanFile O S → Type 0
  NoneAsked old new = (source new.source).asked ≡ (source old.source).asked

-- What a sink has taken of a drive, and what that is of the answer.
use Rattle.std.specs.Prelude.{◌≡◌, ◌++◌, ℕ, Bool, List, [], None, Option, All, Result, OnOk, map, slice_index_or}
use Rattle.scan_segments.specs.Source.{SourceState, Store}
use Rattle.scan_splits.specs.Arrivals.{Arrivals}
use Rattle.scan_drive.specs.Chunks.{given, HasRow}
use Rattle.scan_drive.specs.Desks.{Waiters}
use Rattle.scan_drive.specs.Ends.{limit_in}
use Rattle.scan_drive.specs.Files.{AllTell, answer}
use Rattle.scan_drive.specs.Grants.{IsGivenFront}
use Rattle.scan_drive.specs.Line.{exchanged, renamed}
use Rattle.scan_drive.specs.Moves.{tells}
use Rattle.scan_drive.specs.Openers.{OpenerState}
use Rattle.scan_drive.specs.Rounds.{IsLawful, Sound}
use Rattle.scan_drive.specs.Splits.{SplitState, Event}
use Rattle.scan_drive.specs.Trades.{CacheAgrees}
use Rattle.scan_drive.specs.Wants.{Cache}
use Rattle.scan_drive.specs.declared.delivery.Chunk.{Chunk}
use Rattle.scan_drive.specs.declared.files.ScanFile.{ScanFile}
use Rattle.scan_drive.specs.declared.round.Drive.{Drive}
use Rattle.scan_drive.specs.declared.rounds.Round.{Round}
use Rattle.scan_drive.specs.declared.rounds.Round.TheVariants as round
use Rattle.scan_drive.specs.declared.rounds.Wait.{Wait}
use Rattle.scan_drive.specs.declared.rounds.Wait.TheVariants.{Opened, Done, Stopped}
use Rattle.scan_drive.specs.declared.sink.Flow.{Flow}
use Rattle.scan_drive.specs.declared.sink.Flow.TheVariants.{More, Stop}

-- a drive that has given these chunks before those that wait
abbrev pub with_taken : {W R F : Type 0} → List (Chunk R) → Drive W R F → Drive W R F
with_taken ts d = record d { chunks = record { items = ts ++ d.chunks.items } }

module _ {S T R : Type 0} (made : Chunk R → T) (fits : T → Type 0) (takes : S → List T → S → Type 0) where
  -- a sink has taken what is made of chunks of which this holds
  pub record Hands (sink sink' : S) (P : List (Chunk R) → Type 0) : Type 0 where
    pub chunks : List (Chunk R)
    pub took : takes sink (map made chunks) sink'
    pub fitting : All fits (map made chunks)
    pub so : P chunks

  -- it has taken the first of those that waited, and where all went well the others wait still
  pub record HandsOver {U N : Type 0} (r : Result U N) (old new : List (Chunk R)) (sink sink' : S) : Type 0 where
    pub moved : List (Chunk R)
    pub rest : List (Chunk R)
    pub were : old ≡ moved ++ rest
    pub took : takes sink (map made moved) sink'
    pub fitting : All fits (map made moved)
    pub left : OnOk r (new ≡ rest)

-- the file that stands at a place
abbrev pub named_in : List ℕ → ℕ → ℕ
named_in order k = slice_index_or order k k

-- what is said of a drive, by whether more is wanted of it
abbrev pub EndsBy : Flow → Type 0 → Type 0 → Type 0
EndsBy Stop Full Whole = Full
EndsBy More Full Whole = Whole

-- what is said of rounds, by what they have come to
abbrev pub WaitsFor : Wait → Type 0 → (Round → Type 0) → Type 0
WaitsFor Opened Full Comes = Comes round.Opened
WaitsFor Done Full Comes = Comes round.Done
WaitsFor Stopped Full Comes = Full

-- what is made of a chunk of a place, by its file
abbrev pub made_by : {T R : Type 0} → (Chunk R → T) → (ℕ → ℕ) → Chunk R → T
made_by made f c = made (renamed f c)

module _ {O S W I R F : Type 0} (state : O → OpenerState I) (source : S → SourceState) (split : W → SplitState I)
    (comes : W → Arrivals → Store → Event → Type 0) (items : R → List I) where
  -- what was given since the start, where rounds have been made: a front of the answer, of chunks with rows
  pub record WaitTakes (files : List (ScanFile O S)) (c : Cache) (old : Drive W R F) (chunks : List (Chunk R)) : Type 0 where
    pub rows : All (HasRow items) old.chunks.items → All (HasRow items) chunks
    pub front : CacheAgrees source files c → AllTell (tells state source files) → Sound split comes items (tells state source files) old
        → IsGivenFront old.ordered (limit_in split comes items old) (answer (tells state source files)) (given items chunks)

module _ {O S I R : Type 0} (state : O → OpenerState I) (source : S → SourceState) (items : R → List I) (limit : Option ℕ) (ordered : Bool) where
  -- what was given of files, whatever is answered: chunks with rows, and over lawful objects a front of the answer
  pub record DriveTakes (files : List (ScanFile O S)) (c : Cache) (chunks : List (Chunk R)) : Type 0 where
    pub rows : All (HasRow items) chunks
    pub front : IsLawful state source files c → IsGivenFront ordered limit (answer (tells state source files)) (given items chunks)

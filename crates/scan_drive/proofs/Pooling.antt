-- What a run beside threads comes to is said of what was lent to it.
use Rattle.std.proofs.Common.{◌≡◌, ℕ, List, Result, subst}
use Rattle.scan_segments.specs.Source.{SourceState, Store}
use Rattle.scan_splits.specs.Arrivals.{Arrivals}
use Rattle.scan_drive.specs.Desks.{Waiters}
use Rattle.scan_drive.specs.LineRuns.{LineRuns}
use Rattle.scan_drive.specs.Openers.{OpenerState}
use Rattle.scan_drive.specs.Splits.{SplitState, Event}
use Rattle.scan_drive.specs.Wants.{Cache}
use Rattle.scan_drive.specs.declared.delivery.Chunk.{Chunk}
use Rattle.scan_drive.specs.declared.files.ScanFile.{ScanFile}
use Rattle.scan_drive.specs.declared.round.Drive.{Drive}
use Rattle.scan_drive.specs.declared.settling.RoundFault.{RoundFault}
use Rattle.scan_drive.specs.declared.sink.Flow.{Flow}

module _ {O S W R I F T K : Type 0} (state : O → OpenerState I) (polls : O → O → Type 0) (refuses : O → O → F → Type 0) (admits : O → O → List W → Type 0)
    (source : S → SourceState) (split : W → SplitState I) (comes : W → Arrivals → Store → Event → Type 0) (items : R → List I)
    (made : Chunk R → T) (fits : T → Type 0) (takes : K → List T → K → Type 0) (full : K → Type 0) where
  pub runs_there : (r : Result Flow (RoundFault F)) (sink sink' : K) (files : List (ScanFile O S)) (log : List (ℕ × ℕ)) (files' : List (ScanFile O S)) (desks : List Waiters)
      (c d : Cache) (old old' new new' : Drive W R F) → old ≡ old' → new ≡ new'
      → LineRuns state polls refuses admits source split comes items made fits takes full r sink sink' files log files' desks c d old new
      → LineRuns state polls refuses admits source split comes items made fits takes full r sink sink' files log files' desks c d old' new'
  runs_there r sink sink' files log files' desks c d old old' new new' e f h =
      subst (λ (n : Drive W R F). LineRuns state polls refuses admits source split comes items made fits takes full r sink sink' files log files' desks c d old' n) f
      (subst (λ (o : Drive W R F). LineRuns state polls refuses admits source split comes items made fits takes full r sink sink' files log files' desks c d o new) e h)

-- What a run over all files comes to, once what it gives is handed over.
use Rattle.std.specs.Prelude.{◌≡◌, [], ℕ, List, Result, IfOk, IfErr}
use Rattle.scan_segments.specs.Source.{SourceState, Store}
use Rattle.scan_splits.specs.Arrivals.{Arrivals}
use Rattle.scan_drive.specs.Desks.{Waiters}
use Rattle.scan_drive.specs.Handed.{with_taken, Hands, EndsBy, made_by}
use Rattle.scan_drive.specs.Line.{placed_by}
use Rattle.scan_drive.specs.Openers.{OpenerState}
use Rattle.scan_drive.specs.Splits.{SplitState, Event}
use Rattle.scan_drive.specs.Steps.{LineEnds, LineStops}
use Rattle.scan_drive.specs.Wants.{Cache}
use Rattle.scan_drive.specs.declared.delivery.Chunk.{Chunk}
use Rattle.scan_drive.specs.declared.files.ScanFile.{ScanFile}
use Rattle.scan_drive.specs.declared.round.Drive.{Drive}
use Rattle.scan_drive.specs.declared.settling.RoundFault.{RoundFault}
use Rattle.scan_drive.specs.declared.sink.Flow.{Flow}

module _ {O S W R I F T K : Type 0} (state : O → OpenerState I) (polls : O → O → Type 0) (refuses : O → O → F → Type 0) (admits : O → O → List W → Type 0)
    (source : S → SourceState) (split : W → SplitState I) (comes : W → Arrivals → Store → Event → Type 0) (items : R → List I)
    (made : Chunk R → T) (fits : T → Type 0) (takes : K → List T → K → Type 0) (full : K → Type 0) where
  -- how a run ends
  pub record LineRuns (r : Result Flow (RoundFault F)) (sink sink' : K) (files : List (ScanFile O S)) (log : List (ℕ × ℕ)) (files' : List (ScanFile O S))
      (desks : List Waiters) (c d : Cache) (old new : Drive W R F) : Type 0 where
    -- all was given and taken, or the sink wants no more
    pub comes_to : IfOk r (λ f. EndsBy f (full sink') (Hands (made_by made (placed_by log)) fits takes sink sink'
        (λ us. (new.chunks.items ≡ []) × LineEnds state polls refuses admits source split comes items files log files' desks c d old (with_taken us new))))
    -- or it ends without all rows, for a cause
    pub stops : IfErr r (λ e. (us : List (Chunk R)) × LineStops state polls refuses admits source split comes items files log files' c old (with_taken us new) e)

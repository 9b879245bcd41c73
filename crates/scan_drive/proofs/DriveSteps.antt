-- One call over all files: what it keeps and what it gives, once the files stand where they stood.
use Rattle.std.proofs.Common.{◌≡◌, ◌<◌, ◌∙◌, ◌++◌, ℕ, List, [], length, map, Bool, true, Result, Ok, Err, Some, ap, refl, sym, subst, arith, append-nil}
use Rattle.std.specs.List.Sorted.{SwapsInRange}
use Rattle.std.specs.Prelude.{All, IfOk, Option}
use Rattle.std.proofs.lemmas.List.{length-map}
use Rattle.std.proofs.lemmas.List.Elements.{All-nil}
use Rattle.scan_segments.specs.Source.{SourceState, Store}
use Rattle.scan_splits.specs.Arrivals.{Arrivals}
use Rattle.scan_drive.specs.Chunks.{given, HasRow}
use Rattle.scan_drive.specs.Desks.{Waiters, IsAwaited}
use Rattle.scan_drive.specs.Drives.{desk_at, IsIdle, SourcesMove, NoneOf}
use Rattle.scan_drive.specs.Drivings.{WasAdmitted}
use Rattle.scan_drive.specs.Ends.{limit_in}
use Rattle.scan_drive.specs.Files.{Told, answer}
use Rattle.scan_drive.specs.Forward.{LinePolls}
use Rattle.scan_drive.specs.Grants.{AreGiven}
use Rattle.scan_drive.specs.Ledger.{FilesKeepLedger, KeepsAllBalance}
use Rattle.scan_drive.specs.Handed.{with_taken, Hands, made_by, EndsBy, DriveTakes}
use Rattle.scan_drive.specs.Line.{exchanged, restored, placed_by, renamed, IsAnswered}
use Rattle.scan_drive.specs.Moves.{EachMoves, tell, tells}
use Rattle.scan_drive.specs.Openers.{OpenerState}
use Rattle.scan_drive.specs.Rounds.{IsLawful}
use Rattle.scan_drive.specs.Runnings.{Starts}
use Rattle.scan_drive.specs.Splits.{SplitState, Event}
use Rattle.scan_drive.specs.Steps.{LineKeeps, LineEnds, DriveKeeps, DriveGives}
use Rattle.scan_drive.specs.Trades.{FilesTrade}
use Rattle.scan_drive.specs.Traffic.{asked_keys, ended_since, IsReport}
use Rattle.scan_drive.specs.Wants.{Cache}
use Rattle.scan_drive.specs.declared.delivery.Chunk.{Chunk}
use Rattle.scan_drive.specs.declared.driving.DriveEnd.{DriveEnd}
use Rattle.scan_drive.specs.declared.files.ScanFile.{ScanFile}
use Rattle.scan_drive.specs.declared.report.ScanReport.{ScanReport}
use Rattle.scan_drive.specs.declared.round.Drive.{Drive}
use Rattle.scan_drive.specs.declared.settling.RoundFault.{RoundFault}
use Rattle.scan_drive.specs.declared.sink.Flow.{Flow}
use Rattle.scan_drive.specs.declared.sink.Flow.TheVariants.{More, Stop}
use Rattle.scan_drive.proofs.Driven.{answered, line_rest, moves_back}
use Rattle.scan_drive.proofs.DrivenBack.{back_report, back_puts}
use Rattle.scan_drive.proofs.ExchangedAnswer.{rows_renamed}
use Rattle.scan_drive.proofs.ExchangedBack.{back_trade, back_idle, back_each, tells_exchanged}
use Rattle.scan_drive.proofs.Exchanging.{length_exchanged}
use Rattle.scan_drive.proofs.Fronts.{front_along, front_none}
use Rattle.scan_drive.proofs.Lined.{lawful_exchanged}
use Rattle.scan_drive.proofs.LinePolls.{polls_back}
use Rattle.scan_drive.proofs.Moving.{moves_none}
use Rattle.scan_drive.proofs.Sinking.{hands_named}
use Rattle.scan_drive.proofs.Reckoning.{SameNames, ends_cache, ends_lookups}
use Rattle.scan_drive.proofs.Starting.{starts_limit, closed_trade, ledger_all, polls_self}
use Rattle.scan_drive.proofs.Tracing.{admitted_closed}
use Rattle.scan_drive.proofs.Trading.{files_self, files_then}

-- nothing is taken
pub takes_none : {O S I R : Type 0} (state : O → OpenerState I) (source : S → SourceState) (items : R → List I) (limit : Option ℕ) (ordered : Bool) (a : List (ScanFile O S)) (c : Cache) → DriveTakes state source items limit ordered a c []
takes_none state source items limit ordered a c = record { rows = All-nil (HasRow items); front = λ law. front_none items ordered limit (answer (tells state source a)) }

module _ {O S W R I F : Type 0} (state : O → OpenerState I) (polls : O → O → Type 0) (refuses : O → O → F → Type 0) (admits : O → O → List W → Type 0) (source : S → SourceState)
    (split : W → SplitState I) (comes : W → Arrivals → Store → Event → Type 0) (items : R → List I) (limit : Option ℕ) (ordered : Bool) (workers : ℕ) (a : List (ScanFile O S)) (c0 : Cache) (idle : All (IsIdle source) a) where
  -- nothing is done
  pub drive_rests : DriveKeeps state polls admits source items limit ordered workers a a c0 c0
  drive_rests = record {
    idle = idle;
    moves = moves_none state polls source (IsLawful state source a c0) a;
    trades = files_self source a c0;
    cache = ends_cache source a a c0 c0 (λ k f. refl) (ledger_all source a a c0 c0 idle (files_self source a c0));
    lookups = ends_lookups source a a c0 c0 (λ k f. refl) (ledger_all source a a c0 c0 idle (files_self source a c0));
    polled = polls_self state source items limit ordered workers c0 a;
  }

  -- rounds were run, and all that was live is dropped
  module _ (d0 : Drive W R F) (starts : Starts (length a) limit d0) (is : d0.ordered ≡ ordered) (log : List (ℕ × ℕ)) (b : List (ScanFile O S)) (desks : List Waiters) (c1 : Cache) (keeps : LineKeeps state polls source split comes items workers a log b desks c0 c1 d0)
      (e : List (ScanFile O S)) (rests : All (IsIdle source) e) (m : SourcesMove source NoneOf b e) where
    order : ordered ≡ true → log ≡ []
    order o = keeps.order (is ∙ o)

    long_b : length b ≡ length a
    long_b = keeps.moves.len ∙ length_exchanged log a

    long : length e ≡ length a
    long = m.len ∙ long_b

    moved : EachMoves state polls source (IsLawful state source a c0) a (restored log e)
    moved = moves_back state source items polls c0 log a b e keeps.places keeps.moves m

    pub drive_keeps : FilesKeepLedger source b e c1 c1 → DriveKeeps state polls admits source items limit ordered workers a (restored log e) c0 c1
    drive_keeps kept =
        let trades : FilesTrade source a (restored log e) c0 c1 = back_trade log a keeps.places e long source c0 c1 (files_then source (exchanged log a) b e c0 c1 c1 keeps.trades (closed_trade source b e c1 m kept)) in
        let names : SameNames source a (restored log e) = λ k f. (moved.at k f).name in
        let ledger = ledger_all source a (restored log e) c0 c1 idle trades in
        record {
          idle = back_idle log a keeps.places e long source rests;
          moves = moved;
          trades = trades;
          cache = ends_cache source a (restored log e) c0 c1 names ledger;
          lookups = ends_lookups source a (restored log e) c0 c1 names ledger;
          polled = polls_back state source items ordered workers limit c0 log a e long keeps.places order (line_rest state source items ordered workers limit c0 a log b e m.opener
              (subst (λ o. LinePolls state source items ordered workers o c0 a log b) starts.left (subst (λ k. LinePolls state source items k workers d0.left c0 a log b) is keeps.polled)));
        }

    -- what the sink has taken, by files
    pub drive_takes : (us : List (Chunk R)) → DriveTakes state source items d0.left d0.ordered (exchanged log a) c0 us → DriveTakes state source items limit ordered a c0 (map (renamed (placed_by log)) us)
    drive_takes us t = record {
      rows = rows_renamed items (placed_by log) us t.rows;
      front = λ law.
          (let f = front_along items ordered d0.ordered limit d0.left (answer (tells state source (exchanged log a))) (given items us) is starts.left (t.front (lawful_exchanged state source log a c0 keeps.places law)) in
          record {
            most = f.most;
            within = f.within;
            given = answered items (Some f.most) (tells state source a) log ordered order (subst (λ n. SwapsInRange n log) (sym (length-map a (tell state source))) keeps.places) us
                (subst (λ (ts : List (Told I)). AreGiven ordered (Some f.most) (answer ts) (given items us)) (tells_exchanged log a keeps.places state source) f.given);
          });
    }

    module _ (awaited : (k : ℕ) → k < length desks → IsAwaited (desk_at desks k)) (closes : All (IsIdle source) b → KeepsAllBalance source b e) where
      gives_of : (d1 : Drive W R F) (chunks : List (Chunk R)) (report : ScanReport) → chunks ≡ map (renamed (placed_by log)) d1.chunks.items → report ≡ d1.report → LineEnds state polls refuses admits source split comes items a log b desks c0 c1 d0 d1
          → DriveGives state polls admits source items limit ordered a (restored log e) c0 c1 chunks report
      gives_of d1 chunks report named counts r =
          let x : IsLawful state source (exchanged log a) c0 → AreGiven ordered limit (answer (tells state source (exchanged log a))) (given items d1.chunks.items) =
          subst (λ o. IsLawful state source (exchanged log a) c0 → AreGiven ordered o (answer (tells state source (exchanged log a))) (given items d1.chunks.items)) starts.left
          (subst (λ k. IsLawful state source (exchanged log a) c0 → AreGiven k d0.left (answer (tells state source (exchanged log a))) (given items d1.chunks.items)) is r.done) in
          let A : List (Chunk R) → Type 0 = λ xs. IsAnswered ordered limit (tells state source a) (given items xs) in
          let C : ScanReport → Type 0 = λ p. IsReport (length (asked_keys source a (restored log e))) (ended_since c0 c1) p in
          let lim : limit_in split comes items d0 ≡ limit = starts_limit (length a) limit d0 starts split comes items in
          record {
            answer = λ law. subst A (sym named) (answered items limit (tells state source a) log ordered order (subst (λ n. SwapsInRange n log) (sym (length-map a (tell state source))) keeps.places) d1.chunks.items
                (subst (λ (ts : List (Told I)). AreGiven ordered limit (answer ts) (given items d1.chunks.items)) (tells_exchanged log a keeps.places state source) (x (lawful_exchanged state source log a c0 keeps.places law))));
            some = subst (All (HasRow items)) (sym named) (rows_renamed items (placed_by log) d1.chunks.items r.rows);
            opened = λ none k f lt. back_each log a keeps.places e long (WasAdmitted state polls admits)
                (λ j h less. admitted_closed state polls admits source (exchanged log a) j b e m (r.opened (starts.left ∙ none) j (let l = length_exchanged log a in omega (arith, l, less))) h) k f lt;
            report = subst C (sym counts)
                (back_report source log a keeps.places (limit_in split comes items d0) b e desks c0 c1 d0 d1 idle (λ k f. (keeps.moves.at k f).name) starts.report r.balance keeps.moves.len m);
            puts = λ none. back_puts source log a keeps.places (limit_in split comes items d0) b e desks c0 c1 d0 d1 idle (λ k f. (keeps.moves.at k f).name) starts.report r.balance keeps.moves.len m keeps.agree awaited closes rests (lim ∙ none);
          }

      by_flow : {A B : Type 0} (f : Flow) (Full : Type 0) → (A → B) → EndsBy f Full A → EndsBy f Full B
      by_flow Stop Full to x = x
      by_flow More Full to x = to x

      -- what a drive comes to
      pub drive_gives : {K T : Type 0} (made : Chunk R → T) (fits : T → Type 0) (takes : K → List T → K → Type 0) (sink sink' : K) (Full : Type 0) (d1 : Drive W R F) (done : Result Flow (RoundFault F)) (out : Result DriveEnd (RoundFault F))
          → IfOk out (λ o. (done ≡ Ok o.flow) × (o.report ≡ d1.report))
          → IfOk done (λ f. EndsBy f Full (Hands (made_by made (placed_by log)) fits takes sink sink' (λ us. (d1.chunks.items ≡ []) × LineEnds state polls refuses admits source split comes items a log b desks c0 c1 d0 (with_taken us d1))))
          → IfOk out (λ o. EndsBy o.flow Full (Hands made fits takes sink sink' (λ chunks. DriveGives state polls admits source items limit ordered a (restored log e) c0 c1 chunks o.report)))
      drive_gives {T = T} made fits takes sink sink' Full d1 done (Ok o) h r = by_flow o.flow Full named
          (subst (λ (z : Result Flow (RoundFault F)). IfOk z (λ f. EndsBy f Full (Hands (made_by made (placed_by log)) fits takes sink sink' (λ us. (d1.chunks.items ≡ []) × LineEnds state polls refuses admits source split comes items a log b desks c0 c1 d0 (with_taken us d1))))) h.0 r)
        where
          named : Hands (made_by made (placed_by log)) fits takes sink sink' (λ us. (d1.chunks.items ≡ []) × LineEnds state polls refuses admits source split comes items a log b desks c0 c1 d0 (with_taken us d1)) → Hands made fits takes sink sink'
              (λ chunks. DriveGives state polls admits source items limit ordered a (restored log e) c0 c1 chunks o.report)
          named hs = hands_named made fits takes (placed_by log) sink sink' (λ us. (d1.chunks.items ≡ []) × LineEnds state polls refuses admits source split comes items a log b desks c0 c1 d0 (with_taken us d1)) (λ chunks. DriveGives state polls admits source items limit ordered a
              (restored log e) c0 c1 chunks o.report)
              (λ us w. gives_of (with_taken us d1) (map (renamed (placed_by log)) us) o.report (ap (map (renamed (placed_by log))) (sym (append-nil us) ∙ ap (λ xs. us ++ xs) (sym w.0))) h.1 w.1) hs
      drive_gives made fits takes sink sink' Full d1 done (Err x) h r = tt

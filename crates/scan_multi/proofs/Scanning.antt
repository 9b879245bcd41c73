-- What a scan does and answers, from what the drive over its files does and answers.
use Rattle.std.proofs.Common.{◌≡◌, ℕ, ◌<◌, List, Some, sym, arith, subst, length, get_or, map}
use Rattle.std.specs.Prelude.{None, IfSome, All}
use Rattle.scan_values.specs.DataType.{DataType}
use Rattle.scan_expr.specs.declared.request.ScanRequest.{ScanRequest}
use Rattle.scan_segments.specs.Source.{SourceState}
use Rattle.scan_segments.specs.Cache.{CacheState}
use Rattle.scan_segments.specs.declared.segment.SegmentKey.{SegmentKey}
use Rattle.scan_opener.specs.Opener.{OpenerState, Given, skip, layout_of}
use Rattle.scan_drive.specs.Chunks.{HasRoom, HasRow}
use Rattle.scan_drive.specs.Chunks as drive_chunks
use Rattle.scan_drive.specs.Drivings.{PollsEnd, StopsDrive, WasAdmitted}
use Rattle.scan_drive.specs.Handed.{Hands, DriveTakes, EndsBy}
use Rattle.scan_drive.specs.Line.{IsAnswered}
use Rattle.scan_drive.specs.Steps.{DriveGives}
use Rattle.scan_drive.specs.Trades.{FilesTrade}
use Rattle.scan_drive.specs.Traffic.{asked_keys, ended_since, CacheMoves, IsReport, LooksUpFirst, PutsWhatItAsked}
use Rattle.scan_drive.specs.declared.delivery.Chunk.{Chunk}
use Rattle.scan_drive.specs.declared.driving.DriveEnd.{DriveEnd}
use Rattle.scan_drive.specs.declared.files.ScanFile.{ScanFile}
use Rattle.scan_drive.specs.declared.report.ScanReport.{ScanReport}
use Rattle.scan_drive.specs.declared.settling.RoundFault.{RoundFault}
use Rattle.scan_file.specs.FileAsks.{FileAsk}
use Rattle.scan_file.specs.FileRows.{RowsData, row_items}
use Rattle.scan_file.specs.Openings.{GivesSplits}
use Rattle.scan_file.specs.declared.fault.FileFault.{FileFault}
use Rattle.scan_file.specs.declared.split.FileSplit.{FileSplit}
use Rattle.scan_multi.specs.Asked.{AsksFor, tale_of}
use Rattle.scan_multi.specs.Causes.{HasCause}
use Rattle.scan_multi.specs.Checks.{IsGood}
use Rattle.scan_multi.specs.Lawful.{told, IsLawful, IsIdle, Gives}
use Rattle.scan_multi.specs.Output.{ChunkData}
use Rattle.scan_multi.specs.Placed.{chunk_of, IsEven, placed}
use Rattle.scan_multi.specs.Request.{first_request_fault}
use Rattle.scan_multi.specs.Scans.{IsScan, IsRefusedFor, ScanMoves}
use Rattle.scan_multi.specs.Taken.{IsFront, TakesFront, TakesScan, EndsScan}
use Rattle.scan_multi.specs.declared.scan.fault.ScanFault.{ScanFault}
use Rattle.scan_multi.specs.declared.scan.fault.ScanFault.TheVariants as fault
use Rattle.scan_multi.proofs.Causing.{causes}
use Rattle.scan_multi.proofs.Chunking.{items_given, shaped_chunks, typed_chunks}
use Rattle.scan_multi.proofs.Complete.{complete}
use Rattle.scan_multi.proofs.Faults.{faultless_good}
use Rattle.scan_multi.proofs.Goods.{weaker}
use Rattle.scan_multi.proofs.Meaning.{Means}
use Rattle.scan_multi.proofs.Moving.{DriveMoves, each_moves, asks_named, polled_late, lawful_after}
use Rattle.scan_multi.proofs.Polling.{Polls, asked_state, refused_by, admitted_by, splits_given}
use Rattle.scan_multi.proofs.Requesting.{none_plain}
use Rattle.scan_multi.proofs.SplitChunks.{chunks_split, chunks_whole}
use Rattle.scan_multi.proofs.Telling.{IsLawful', tale, tale_is, lawful_drive}

module _ {O S : Type 0} (opener : O → OpenerState) (source : S → SourceState) (workers : ℕ) (d : DataType) (q : ScanRequest) (a : FileAsk) (asks : AsksFor d q a) (means : Means d q a)
    (c c' : CacheState SegmentKey) (old new : List (ScanFile O S)) (none : first_request_fault workers d q ≡ None) (room : HasRoom q.limit) where
  no-fault : (P : ScanFault → Type 0) → IfSome (first_request_fault workers d q) P
  no-fault P = subst (λ o. IfSome o P) (sym none) tt

  -- rows are wanted
  no-zero : q.limit ≡ Some 0 → ⊥
  no-zero z = let h : 0 < 0 = subst HasRoom z room in omega (arith, h)

  -- ---- whatever is answered
  pub scan_moved : DriveMoves opener source workers d q a asks c c' old new → PollsEnd (asked_state opener a) source row_items q.limit q.ordered workers c old new
      → FilesTrade source old new c c' → CacheMoves source old new c c' → IfSome (ended_since c c') (LooksUpFirst source old new)
      → All (IsIdle opener source) old → All (IsIdle opener source) new → ScanMoves opener source workers d q old new c c'
  scan_moved m p t e l idle idle' = record {
    moves = each_moves opener source workers d q a asks c c' old new m p idle idle';
    late = polled_late opener source workers d q a asks c c' old new m means p;
    count = m.len;
    idle = idle';
    named = asks_named opener source workers d q a asks c c' old new m means;
    entries = e;
    lawful = lawful_after opener source workers d q a asks c c' old new m t e;
    lookups = l;
    untouched = no-fault _;
    nothing = λ z. absurd (no-zero z);
  }

  -- ---- a fault
  refused-late : (e : ScanFault) → HasCause opener source workers d q c old new e → IsRefusedFor opener source workers d q old new c c' e
  refused-late e h = record {
    cause = h;
    early = none_plain workers d q none e;
    request_fault = λ other. no-fault _;
    nothing = λ z other. absurd (no-zero z);
    complete = complete opener source workers d q c old new e h;
  }

  pub refused_memory : IsRefusedFor opener source workers d q old new c c' fault.NoMemory
  refused_memory = refused-late fault.NoMemory tt

  pub refused_drive : (e : RoundFault FileFault)
      → StopsDrive (asked_state opener a) (Polls opener a) (refused_by opener a) (admitted_by opener a) source row_items q.limit q.ordered c old new e → IsRefusedFor opener source workers d q old new c c' (placed e)
  refused_drive e h = refused-late (placed e) (causes opener source workers d q a asks means c old new none e h)

  -- ---- an answer
  goods : (ws : List FileSplit) (g : Given) → GivesSplits a ws g → IsGood d q g
  goods ws skip h = tt
  goods ws (layout_of l) h = faultless_good d q a asks l h

  good-at : (f g : ScanFile O S) → WasAdmitted (asked_state opener a) (Polls opener a) (admitted_by opener a) f g → Gives opener source (IsGood d q) f
  good-at f g (ws, w) = weaker (opener f.opener).gives (GivesSplits a ws) (IsGood d q) (goods ws) (splits_given opener a f.opener g.opener ws w)

  module _ (chunks : List (Chunk RowsData)) (is : IsLawful' opener source a old c → IsAnswered q.ordered q.limit (tale opener source a old) (drive_chunks.given row_items chunks)) where
    told-is : IsLawful opener source old c → IsAnswered q.ordered q.limit (map (tale_of a) (told opener source old)) (drive_chunks.given row_items chunks)
    told-is l = subst (λ ts. IsAnswered q.ordered q.limit ts (drive_chunks.given row_items chunks)) (tale_is opener source a old l.tells) (is (lawful_drive opener source a old c l))

    pub scan_given : (report : ScanReport) → All (HasRow row_items) chunks → All IsEven (map chunk_of chunks)
        → (q.limit ≡ None → (k : ℕ) (f : ScanFile O S) → k < length old → WasAdmitted (asked_state opener a) (Polls opener a) (admitted_by opener a) (get_or old k f) (get_or new k f))
        → (q.limit ≡ None → IfSome (ended_since c c') (PutsWhatItAsked source old new c c'))
        → IsReport (length (asked_keys source old new)) (ended_since c c') report
        → IsScan opener source workers d q old new c c' (record { chunks = map chunk_of chunks; report = report })
    scan_given report some even opened puts counts = record {
      types = none;
      shape = shaped_chunks chunks some even;
      nothing = λ z. absurd (no-zero z);
      admits = λ l. record {
        chunks = typed_chunks d q a asks (told opener source old) q.limit q.ordered chunks (told-is l) some even;
        items = items_given d q a asks (told opener source old) q.limit q.ordered chunks (told-is l);
      };
      chunks = λ l. chunks_split d q a asks (told opener source old) q.limit q.ordered chunks (told-is l) some;
      whole = λ un all l. chunks_whole d q a asks (told opener source old) q.ordered q.limit chunks un all (told-is l) some;
      read = λ e k f lt. good-at (get_or old k f) (get_or new k f) (opened e k f lt);
      puts = puts;
      report = counts;
    }

  -- ---- what a sink has taken
  front_of : (chunks : List (Chunk RowsData)) → DriveTakes (asked_state opener a) source row_items q.limit q.ordered old c chunks → All IsEven (map chunk_of chunks) → IsLawful opener source old c
      → IsFront d q (told opener source old) (map chunk_of chunks)
  front_of chunks t even l =
      let f = t.front (lawful_drive opener source a old c l) in
      let is : IsAnswered q.ordered (Some f.most) (map (tale_of a) (told opener source old)) (drive_chunks.given row_items chunks) =
      subst (λ ts. IsAnswered q.ordered (Some f.most) ts (drive_chunks.given row_items chunks)) (tale_is opener source a old l.tells) f.given in
      record {
        most = f.most;
        within = f.within;
        chunks = typed_chunks d q a asks (told opener source old) (Some f.most) q.ordered chunks is t.rows even;
        items = items_given d q a asks (told opener source old) (Some f.most) q.ordered chunks is;
        splits = chunks_split d q a asks (told opener source old) (Some f.most) q.ordered chunks is t.rows;
      }

  module _ {K : Type 0} (takes : K → List ChunkData → K → Type 0) (sink sink' : K) where
    pub front_taken : Hands chunk_of IsEven takes sink sink' (DriveTakes (asked_state opener a) source row_items q.limit q.ordered old c) → TakesFront opener source takes d q old c sink sink'
    front_taken h = record { chunks = map chunk_of h.chunks; took = h.took; shape = shaped_chunks h.chunks h.so.rows h.fitting; nothing = λ z. absurd (no-zero z); front = front_of h.chunks h.so h.fitting }

    -- a sink has taken all that a drive gives, with this report
    abbrev TakesDrive : ScanReport → Type 0
    TakesDrive report = Hands chunk_of IsEven takes sink sink' (λ chunks. DriveGives (asked_state opener a) (Polls opener a) (admitted_by opener a) source row_items q.limit q.ordered old new c c' chunks report)

    all_taken : (report : ScanReport) → TakesDrive report → TakesScan opener source takes workers d q old new c c' sink sink' report
    all_taken report h =
        let g = h.so in
        record { chunks = map chunk_of h.chunks; took = h.took; scan = scan_given h.chunks g.answer report g.some h.fitting g.opened g.puts g.report }

    pub scan_ended : (Full : Type 0) (end : DriveEnd) → EndsBy end.flow Full (TakesDrive end.report) → EndsScan opener source takes workers d q old new c c' Full sink sink' end
    scan_ended Full end h = record {
      types = none;
      nothing = λ z. absurd (no-zero z);
      stop = λ e. subst (λ f. EndsBy f Full (TakesDrive end.report)) e h;
      whole = λ e. all_taken end.report (subst (λ f. EndsBy f Full (TakesDrive end.report)) e h);
    }

-- What one call over all files gives, once the files stand where they stood.
use Rattle.std.proofs.Common.{◌≡◌, ℕ, ◌<◌, List, [], ◌∷◌, length, map, get_or, Bool, true, false, Result, Ok, Err, inl, inr, refl, sym, ap, ◌∙◌, subst}
use Rattle.std.specs.Prelude.{◌⊎◌, IfOk, IfErr, Option}
use Rattle.std.specs.List.Sorted.{SwapsInRange}
use Rattle.std.proofs.lemmas.List.{length-map}
use Rattle.scan_segments.specs.Source.{SourceState, Store}
use Rattle.scan_splits.specs.Arrivals.{Arrivals}
use Rattle.scan_drive.specs.Before.{StopsBefore}
use Rattle.scan_drive.specs.Chunks.{given}
use Rattle.scan_drive.specs.Drives.{SourcesMove, NoneOf}
use Rattle.scan_drive.specs.Drivings.{StopsDrive}
use Rattle.scan_drive.specs.Files.{Told, answer}
use Rattle.scan_drive.specs.Forward.{LinePolls, fault_in}
use Rattle.scan_drive.specs.Grants.{AreGiven}
use Rattle.scan_drive.specs.Grounds.{IsGround}
use Rattle.scan_drive.specs.Handed.{with_taken}
use Rattle.scan_drive.specs.Line.{exchanged, restored, placed_by, renamed, IsAnswered}
use Rattle.scan_drive.specs.Moves.{EachMoves, tell, tells}
use Rattle.scan_drive.specs.Openers.{OpenerState}
use Rattle.scan_drive.specs.Polls.{opener_at}
use Rattle.scan_drive.specs.Rounds.{IsLawful}
use Rattle.scan_drive.specs.Runnings.{Starts, StopsRun}
use Rattle.scan_drive.specs.Splits.{SplitState, Event}
use Rattle.scan_drive.specs.Trades.{CacheAgrees}
use Rattle.scan_drive.specs.Wants.{Cache}
use Rattle.scan_drive.specs.declared.delivery.Chunk.{Chunk}
use Rattle.scan_drive.specs.declared.delivery.DriveFault.TheVariants as fault
use Rattle.scan_drive.specs.declared.driving.DriveEnd.{DriveEnd}
use Rattle.scan_drive.specs.declared.files.ScanFile.{ScanFile}
use Rattle.scan_drive.specs.declared.round.Drive.{Drive}
use Rattle.scan_drive.specs.declared.settling.RoundFault.{RoundFault}
use Rattle.scan_drive.specs.declared.sink.Flow.{Flow}
use Rattle.scan_drive.specs.declared.settling.RoundFault.TheVariants as why
use Rattle.scan_segments.specs.Faults.{Rose}
use Rattle.scan_drive.proofs.Exchanging.{length_exchanged}
use Rattle.scan_drive.proofs.ExchangedAnswer.{given_placed}
use Rattle.scan_drive.proofs.ExchangedBack.{cache_exchanged, back_moves, back_stops}
use Rattle.scan_drive.proofs.Moving.{each_then, each_under, each_sources}
use Rattle.scan_drive.proofs.Starting.{starts_sound}
use Rattle.scan_drive.proofs.Stopping.{stops_drive}
use Rattle.scan_drive.proofs.Tracing.{ground_closed}
use Rattle.scan_drive.proofs.Tracking.{fit_rest, late_rest}

named_same : {R : Type 0} (cs : List (Chunk R)) → map (renamed (placed_by [])) cs ≡ cs
named_same [] = refl
named_same (c ∷ cs) = ap (λ l. c ∷ l) (named_same cs)

module _ {R I : Type 0} (items : R → List I) (limit : Option ℕ) (tale : List (Told I)) (log : List (ℕ × ℕ)) where
  -- what is given, by files
  pub answered : (ordered : Bool) → (ordered ≡ true → log ≡ []) → SwapsInRange (length tale) log → (chunks : List (Chunk R)) → AreGiven ordered limit (answer (exchanged log tale)) (given items chunks) → IsAnswered ordered limit tale (given items (map (renamed (placed_by log)) chunks))
  answered true order r chunks e =
      let P : List (ℕ × ℕ) → Type 0 = λ ss. AreGiven true limit (answer tale) (given items (map (renamed (placed_by ss)) chunks)) in
      let Q : List (ℕ × ℕ) → Type 0 = λ ss. AreGiven true limit (answer (exchanged ss tale)) (given items chunks) in
      subst P (sym (order refl)) (ap (given items) (named_same chunks) ∙ subst Q (order refl) e)
  answered false order r chunks e = given_placed items limit tale log chunks r e

module _ {O S I R : Type 0} (state : O → OpenerState I) (source : S → SourceState) (items : R → List I) where
  -- the openers are as they were
  pub line_rest : (ordered : Bool) (workers : ℕ) (limit : Option ℕ) (c : Cache) (files : List (ScanFile O S)) (log : List (ℕ × ℕ)) (b e : List (ScanFile O S)) → ((k : ℕ) (f : ScanFile O S) → (get_or e k f).opener ≡ (get_or b k f).opener) →
      LinePolls state source items ordered workers limit c files log b → LinePolls state source items ordered workers limit c files log e
  line_rest ordered workers limit c files log b e same h = record {
    fit = fit_rest state (exchanged log files) b e same h.fit;
    late = λ o law. late_rest state items true workers limit (tells state source files) files b e same (h.late o law);
    line = record {
      edge = h.line.edge;
      within = h.line.within;
      polled = λ k f lt. subst (λ (o : O). Rose (opener_at state (exchanged log files) k f).polled (state o).polled) (sym (same k f)) (h.line.polled k f lt);
    };
    gives = λ law k f was. h.gives law k f (subst (λ (o : O). (opener_at state (exchanged log files) k f).polled < (state o).polled) (same k f) was);
  }

  pub moves_back : (polls : O → O → Type 0) (c : Cache) (log : List (ℕ × ℕ)) (a b e : List (ScanFile O S)) → SwapsInRange (length a) log → EachMoves state polls source (CacheAgrees source (exchanged log a) c) (exchanged log a) b → SourcesMove source NoneOf b e →
      EachMoves state polls source (IsLawful state source a c) a (restored log e)
  moves_back polls c log a b e r m k =
      let If : Type 0 = CacheAgrees source (exchanged log a) c in
      let all : EachMoves state polls source If (exchanged log a) e = each_then state polls source If (exchanged log a) b e m (each_sources state polls source If NoneOf b e k (λ k id f may h. absurd may)) in
      each_under state polls source If (IsLawful state source a c) (λ h. cache_exchanged log a r source c h.cache) a (restored log e) (back_moves log a r e (all.len ∙ length_exchanged log a) state polls source If all)

module _ {F : Type 0} (log : List (ℕ × ℕ)) (done : Result Flow (RoundFault F)) (out : Result DriveEnd (RoundFault F)) where
  -- why not all is
  abbrev pub FaultsOut : Type 0
  FaultsOut = IfErr out (λ e. (f : RoundFault F) × (done ≡ Err f) × (e ≡ fault_in (placed_by log) f))

  err_to : (P Q : RoundFault F → Type 0) → ((e : RoundFault F) → P e → Q e) → (z : Result DriveEnd (RoundFault F)) → IfErr z P → IfErr z Q
  err_to P Q to (Ok o) h = tt
  err_to P Q to (Err e) h = to e h

  pub out_fault : {O S W R I : Type 0} (state : O → OpenerState I) (polls : O → O → Type 0) (refuses : O → O → F → Type 0) (admits : O → O → List W → Type 0) (source : S → SourceState) (split : W → SplitState I) (comes : W → Arrivals → Store → Event → Type 0) (items : R → List I)
      (limit : Option ℕ) (ordered : Bool) (c : Cache) (a b e : List (ScanFile O S)) (d0 d1 : Drive W R F) → Starts (length a) limit d0 → (ordered ≡ true → log ≡ []) → SwapsInRange (length a) log → length b ≡ length a → SourcesMove source NoneOf b e → FaultsOut →
      IfErr done (λ x. (us : List (Chunk R)) × StopsRun state polls refuses source split comes items (exchanged log a) b c d0 (with_taken us d1) x) → IfErr done (λ x. ordered ≡ true → IsLawful state source a c → StopsBefore items limit (tells state source a) x) → IfErr done
      (IsGround state polls admits source (exchanged log a) b c) →
      IfErr out (StopsDrive state polls refuses admits source items limit ordered c a (restored log e))
  out_fault {O = O} {S = S} {R = R} state polls refuses admits source split comes items limit ordered c a b e d0 d1 s order r n m h run before ground =
      err_to (λ x. (f : RoundFault F) × (done ≡ Err f) × (x ≡ fault_in (placed_by log) f)) (StopsDrive state polls refuses admits source items limit ordered c a (restored log e)) go out h
    where
      length_e : length e ≡ length a
      length_e = m.len ∙ n

      at_places : (f : RoundFault F) → done ≡ Err f → StopsDrive state polls refuses admits source items limit ordered c (exchanged log a) e f
      at_places f is =
          let r = subst (λ (z : Result Flow (RoundFault F)). IfErr z (λ x. (us : List (Chunk R)) × StopsRun state polls refuses source split comes items (exchanged log a) b c d0 (with_taken us d1) x)) is run in
          stops_drive state polls refuses admits source split comes items limit ordered c (exchanged log a) b e d0 (with_taken r.0 d1) s.shut m.opener
          (starts_sound (length a) limit d0 s split comes items (tells state source (exchanged log a)) (length-map (exchanged log a) (tell state source) ∙ length_exchanged log a)) f
          (λ o. subst (λ (xs : List (ScanFile O S)). IsLawful state source xs c → StopsBefore items limit (tells state source xs) f) (sym (ap (λ ss. exchanged ss a) (order o)))
          (subst (λ (z : Result Flow (RoundFault F)). IfErr z (λ x. ordered ≡ true → IsLawful state source a c → StopsBefore items limit (tells state source a) x)) is before o))
          (ground_closed state polls admits source (exchanged log a) c b e f m (subst (λ (z : Result Flow (RoundFault F)). IfErr z (IsGround state polls admits source (exchanged log a) b c)) is ground))
          r.1

      go : (x : RoundFault F) → (f : RoundFault F) × (done ≡ Err f) × (x ≡ fault_in (placed_by log) f) → StopsDrive state polls refuses admits source items limit ordered c a (restored log e) x
      go x y = subst (StopsDrive state polls refuses admits source items limit ordered c a (restored log e)) (sym y.2) (back_stops log a r e length_e state polls refuses admits source items limit ordered c order y.0 (at_places y.0 y.1))

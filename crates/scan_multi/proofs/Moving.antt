-- What a drive does to files, as a scan says it.
use Rattle.std.proofs.Common.{◌≡◌, ℕ, suc, ◌+◌, ◌-◌, ◌<◌, ◌≤◌, List, [], ◌∷◌, ◌++◌, true, false, refl, sym, ap, ◌∙◌, arith, subst, length, get_or, drop, take, append-nil, inl, inr}
use Rattle.std.specs.Prelude.{◌⊎◌, IsSome, All, Contains}
use Rattle.std.proofs.Math.Seq.{drop-append_seam}
use Rattle.std.proofs.lemmas.Bool.{cases_lt}
use Rattle.std.proofs.lemmas.List.{get_or_past}
use Rattle.std.proofs.lemmas.List.Elements.{All-nil}
use Rattle.scan_values.specs.DataType.{DataType}
use Rattle.scan_expr.specs.declared.request.ScanRequest.{ScanRequest}
use Rattle.scan_segments.specs.Source.{SourceState}
use Rattle.scan_segments.specs.Cache.{CacheState}
use Rattle.scan_segments.specs.declared.segment.SegmentKey.{SegmentKey}
use Rattle.scan_opener.specs.Opener.{OpenerState}
use Rattle.scan_drive.specs.Drivings.{PollsEnd, GivesBefore}
use Rattle.scan_drive.specs.Line.{GivesSome}
use Rattle.scan_drive.specs.Moves as drive_moves
use Rattle.scan_drive.specs.Moves.{IsNamed, tell}
use Rattle.scan_drive.specs.Trades.{CacheAgrees, FilesTrade}
use Rattle.scan_drive.specs.Traffic.{asked_since, CacheMoves}
use Rattle.scan_drive.specs.declared.files.ScanFile.{ScanFile}
use Rattle.scan_file.specs.FileAsks.{FileAsk}
use Rattle.scan_file.specs.FileRows.{row_items}
use Rattle.scan_multi.specs.Answer.{answer}
use Rattle.scan_multi.specs.Asked.{AsksFor}
use Rattle.scan_multi.specs.Before.{IsBelow}
use Rattle.scan_multi.specs.Late.{SomeAreFew, WasPolled, ArePolledLate}
use Rattle.scan_multi.specs.Lawful.{told_file, told, Tells, IsLawful, IsIdle}
use Rattle.scan_multi.specs.Moves.{EachMoves, AsksNamed, EachAsksNamed}
use Rattle.scan_multi.specs.Named.{named}
use Rattle.scan_multi.proofs.Chunking.{reached, reached_some}
use Rattle.scan_multi.proofs.Meaning.{Means}
use Rattle.scan_multi.proofs.Orders.{among_at}
use Rattle.scan_multi.proofs.Polling.{Polls, asked_state, opens_keep}
use Rattle.scan_multi.proofs.Telling.{IsLawful', tale_is, tell_is, lawful_drive, content, still-tells}

-- the ids that came since
pub asked-is : (ids : List ℕ) (s t : SourceState) → t.asked ≡ s.asked ++ ids → asked_since s t ≡ ids
asked-is ids s t e = ap (drop (length s.asked)) e ∙ drop-append_seam s.asked ids

none-since : (s : SourceState) → asked_since s s ≡ []
none-since s = asked-is [] s s (sym (append-nil s.asked))

module _ {O S : Type 0} (opener : O → OpenerState) (source : S → SourceState) (workers : ℕ) (d : DataType) (q : ScanRequest) (a : FileAsk) (asks : AsksFor d q a) (c c' : CacheState SegmentKey) (old new : List (ScanFile O S)) where
  told-long : (files : List (ScanFile O S)) → length (told opener source files) ≡ length files
  told-long [] = refl
  told-long (f ∷ fs) = ap suc (told-long fs)

  -- the files of a drive have moved
  abbrev pub DriveMoves : Type 0
  DriveMoves = drive_moves.EachMoves (asked_state opener a) (Polls opener a) source (IsLawful' opener source a old c) old new

  module _ (m : DriveMoves) where
    -- of a place past the last nothing has changed
    past-old : (k : ℕ) (f : ScanFile O S) → length old ≤ k → get_or old k f ≡ get_or new k f
    past-old k f h = get_or_past old k f h ∙ sym (get_or_past new k f (let n = m.len in omega (arith, n, h)))

    live-still : All (IsIdle opener source) old → All (IsIdle opener source) new → (k : ℕ) (f : ScanFile O S) → (source (get_or new k f).source).live ≡ (source (get_or old k f).source).live
    live-still idle idle' k f = go (cases_lt k (length old)) where
      go : (k < length old) ⊎ (length old ≤ k) → (source (get_or new k f).source).live ≡ (source (get_or old k f).source).live
      go (inl lt) = idle' k f (let n = m.len in omega (arith, n, lt)) ∙ sym (idle k f lt)
      go (inr ge) = ap (λ (z : ScanFile O S). (source z.source).live) (sym (past-old k f ge))

    pub each_moves : PollsEnd (asked_state opener a) source row_items q.limit q.ordered workers c old new → All (IsIdle opener source) old → All (IsIdle opener source) new → EachMoves opener source old new
    each_moves p idle idle' k f =
        let at = m.at k f in
        let keeps = opens_keep opener a (get_or old k f).opener (get_or new k f).opener at.opens in
        record {
          source_id = at.name;
          gives = keeps.gives;
          opener_faults = keeps.faults;
          opener_turns = keeps.turns;
          opener_can_fail = keeps.can_fail;
          polled = keeps.polled;
          polls = p.most k f;
          holds = at.source_moves.holds;
          source_faults = at.source_moves.faults;
          source_turns = at.source_moves.turns;
          source_can_fail = at.source_moves.can_fail;
          live = live-still idle idle' k f;
          ids = at.source_moves.ids;
          asked = at.source_moves.asked;
        }

    -- ---- named segments
    module _ (means : Means d q a) where
      named-one : (f : ScanFile O S) (id : ℕ) → Tells opener source f → IsNamed (tell (asked_state opener a) source f) id
          → Contains (named d q (told_file opener source f).given (told_file opener source f).store) id
      named-one f id t h = means.named_of (told_file opener source f).given (told_file opener source f).store id (subst (λ z. IsNamed z id) (tell_is opener source a f t) h)

      pub asks_named : IsLawful opener source old c → EachAsksNamed opener source d q old new
      asks_named l k f = go (cases_lt k (length old)) where
        at : drive_moves.FileMoves (asked_state opener a) (Polls opener a) source (IsLawful' opener source a old c) (get_or old k f) (get_or new k f)
        at = m.at k f

        go : (k < length old) ⊎ (length old ≤ k) → AsksNamed opener source d q (get_or old k f) (get_or new k f)
        go (inl lt) =
            subst (All (Contains (named d q (told_file opener source (get_or old k f)).given (told_file opener source (get_or old k f)).store)))
            (sym (asked-is at.source_moves.ids (source (get_or old k f).source) (source (get_or new k f).source) at.source_moves.asked))
            (λ i e there. named-one (get_or old k f) (get_or at.source_moves.ids i e) (l.tells k f lt) (at.source_moves.may (get_or at.source_moves.ids i e) (among_at at.source_moves.ids i e there) (lawful_drive opener source a old c l)))
        go (inr ge) =
            subst (λ (z : ScanFile O S). AsksNamed opener source d q (get_or old k f) z) (past-old k f ge)
            (subst (All (Contains (named d q (told_file opener source (get_or old k f)).given (told_file opener source (get_or old k f)).store)))
            (sym (none-since (source (get_or old k f).source))) (All-nil (Contains (named d q (told_file opener source (get_or old k f)).given (told_file opener source (get_or old k f)).store))))

      -- ---- how late openers are polled
      pub polled_late : PollsEnd (asked_state opener a) source row_items q.limit q.ordered workers c old new → ArePolledLate opener source workers d q c old new
      polled_late p = record { first = λ i j f lt there w. p.first i j f lt there w; ordered = λ o l k f w. goes-on o l k f w; unordered = λ o l k f w. few o l k f w } where
        goes-on : q.ordered ≡ true → IsLawful opener source old c → (k : ℕ) (f : ScanFile O S) → WasPolled opener source workers d q c old new k f → IsBelow q.limit (length (answer d q (take (k + 1 - workers) (told opener source old))))
        goes-on o l k f w =
            let late = p.late o (lawful_drive opener source a old c l) k f w in
            (reached d q a asks (told opener source old) (k + 1 - workers) (subst (λ z. GivesBefore row_items true q.limit z (k + 1 - workers)) (tale_is opener source a old l.tells) late)).below

        there-is : (k : ℕ) (f : ScanFile O S) → WasPolled opener source workers d q c old new k f → (k < length old) ⊎ (length old ≤ k) → k < length old
        there-is k f w (inl lt) = lt
        there-is k f w (inr ge) =
            let e : (opener (get_or old k f).opener).polled ≡ (opener (get_or new k f).opener).polled = ap (λ (z : ScanFile O S). (opener z.opener).polled) (past-old k f ge) in
            absurd (omega (arith, e, w))

        few : q.ordered ≡ false → IsLawful opener source old c → (k : ℕ) (f : ScanFile O S) → WasPolled opener source workers d q c old new k f → SomeAreFew d q (take (k + 1) (told opener source old)) (k + 1 - workers)
        few o l k f w =
            let lt : k < length old = there-is k f w (cases_lt k (length old)) in
            let n : length (told opener source old) ≡ length old = told-long old in
            let some = p.some o (lawful_drive opener source a old c l) k f w in
            reached_some d q a asks (told opener source old) k (k + 1 - workers) (omega (arith, lt, n))
            (subst (λ z. GivesSome row_items q.limit z k (k + 1 - workers)) (tale_is opener source a old l.tells) some)

    -- ---- lawful objects
    pub lawful_after : FilesTrade source old new c c' → CacheMoves source old new c c' → IsLawful opener source old c → IsLawful opener source new c'
    lawful_after t moves l = record {
      tells = λ k f lt. tells k f (let n = m.len in omega (arith, n, lt));
      same = agrees.same;
      cache_tells = still-tells c.entries c'.entries _ moves.entries l.cache_tells;
      agrees = λ k f lt. content (get_or new k f).source_id c' (source (get_or new k f).source).holds (λ store e. agrees.trusts k f store lt e);
    } where
      agrees : CacheAgrees source new c'
      agrees = t.agrees (lawful_drive opener source a old c l).cache

      tells : (k : ℕ) (f : ScanFile O S) → k < length old → Tells opener source (get_or new k f)
      tells k f lt =
          let at = m.at k f in
          let was = l.tells k f lt in
          let keeps = opens_keep opener a (get_or old k f).opener (get_or new k f).opener at.opens in
          record { gives = subst IsSome (sym keeps.gives) was.gives; holds = subst IsSome (sym at.source_moves.holds) was.holds }

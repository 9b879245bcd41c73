-- A scan that touches no file: of no rows, or of a request with a fault.
use Rattle.std.proofs.Common.{◌≡◌, ℕ, ◌+◌, List, [], ◌∷◌, ◌++◌, Bool, true, false, refl, sym, ap, ◌∙◌, arith, subst, length, get_or, map, inl, append-nil}
use Rattle.std.specs.Prelude.{◌⊎◌, Option, None, Some, IfSome, All, Contains, option_map, option_and_then, drop}
use Rattle.std.proofs.Math.Seq.{drop-append_seam}
use Rattle.std.proofs.lemmas.List.Elements.{All-nil}
use Rattle.scan_values.specs.DataType.{DataType}
use Rattle.scan_expr.specs.Infer.{infer}
use Rattle.scan_expr.specs.Typing.{Fault}
use Rattle.scan_expr.specs.declared.request.ScanRequest.{ScanRequest}
use Rattle.scan_expr.specs.Typing.{request_fault}
use Rattle.scan_segments.specs.Source.{SourceState}
use Rattle.scan_segments.specs.Cache.{Entries, CacheState, Both}
use Rattle.scan_segments.specs.Events.{found_keys, missed_keys}
use Rattle.scan_segments.specs.declared.cache.CacheEvent.{CacheEvent}
use Rattle.scan_segments.specs.declared.segment.SegmentKey.{SegmentKey}
use Rattle.scan_opener.specs.Opener.{OpenerState}
use Rattle.scan_drive.specs.Traffic.{key_of, asked_keys, ended_since, Grows, capped_report, CacheMoves, IsFedBy, LooksUpFirst}
use Rattle.scan_drive.specs.Grants.{Allows}
use Rattle.scan_drive.specs.declared.driving.DriveEnd.{DriveEnd}
use Rattle.scan_drive.specs.declared.files.ScanFile.{ScanFile}
use Rattle.scan_drive.specs.declared.sink.Flow.{Flow}
use Rattle.scan_drive.specs.declared.sink.Flow.TheVariants as flow
use Rattle.scan_multi.specs.Answer.{Item, ToldFile, answer}
use Rattle.scan_multi.specs.Causes.{HasCause}
use Rattle.scan_multi.specs.Chunks.{AreSplits, IsFrontOf, cut}
use Rattle.scan_multi.specs.Checked.{IsRequestFault}
use Rattle.scan_multi.specs.Lawful.{told_file, told, IsIdle}
use Rattle.scan_multi.specs.Moves.{FileMoves}
use Rattle.scan_multi.specs.Named.{named}
use Rattle.scan_multi.specs.Output.{ChunkData, IsChunk, IsGiven, IsShaped}
use Rattle.scan_multi.specs.Placed.{no_counts}
use Rattle.scan_multi.specs.Request.{or_else, unless, of_bind, has_no_partitions, is_forward, first_request_fault}
use Rattle.scan_multi.specs.Scans.{IsScan, IsRefusedFor, ScanMoves}
use Rattle.scan_multi.specs.Taken.{TakesFront, EndsScan}
use Rattle.scan_multi.specs.declared.scan.fault.RangeFault.TheVariants.{Reversed, Past}
use Rattle.scan_multi.specs.declared.scan.fault.ScanFault.{ScanFault}
use Rattle.scan_multi.specs.declared.scan.fault.ScanFault.TheVariants as fault
use Rattle.scan_multi.proofs.Complete.{complete}
use Rattle.scan_multi.proofs.Moving.{asked-is}

-- ---- nothing happened
same-events : (o : Option (List (CacheEvent SegmentKey))) → o ≡ option_map (λ es. es ++ []) o
same-events None = refl
same-events (Some es) = ap Some (sym (append-nil es))

same-count : (o : Option ℕ) → Grows o o
same-count None = tt
same-count (Some n) = omega arith

least : (o : Option ℕ) → Allows o 0
least None = tt
least (Some n) = omega arith

-- what holds of no events holds of those that a cache tells
since : (c : CacheState SegmentKey) (P : List (CacheEvent SegmentKey) → Type 0) → P [] → IfSome (ended_since c c) P
since c P h = go c.ended where
  go : (o : Option (List (CacheEvent SegmentKey))) → IfSome (option_and_then (λ before. option_map (drop (length before)) o) o) P
  go None = tt
  go (Some es) = subst P (sym (ap (drop (length es)) (sym (append-nil es)) ∙ drop-append_seam es [])) h

any : {A : Type 0} (o : Option A) (P : A → Type 0) → ((x : A) → P x) → IfSome o P
any None P h = tt
any (Some x) P h = h x

none-given : (ordered : Bool) (items : List Item) → IsGiven ordered (Some 0) items []
none-given true items = refl
none-given false items = record { once = λ i j d lt there. absurd (omega (arith, there)); each = All-nil (Contains items); count = refl }

none-split : (ordered : Bool) (files : List ToldFile) (d : DataType) (q : ScanRequest) → AreSplits ordered d q files []
none-split true files d q = refl
none-split false files d q = All-nil (IsFrontOf (cut d q files (answer d q files)))

module _ {O S : Type 0} (opener : O → OpenerState) (source : S → SourceState) (files : List (ScanFile O S)) (c : CacheState SegmentKey) where
  none-asked : (fs : List (ScanFile O S)) → asked_keys source fs fs ≡ []
  none-asked [] = refl
  none-asked (f ∷ fs) = ap (λ ids. map (key_of f.source_id) ids ++ asked_keys source fs fs) (asked-is [] (source f.source) (source f.source) (sym (append-nil (source f.source).asked))) ∙ none-asked fs

  kept : (o : Option (Entries SegmentKey)) → Both o o (λ m n. (k : SegmentKey) (b : List ℕ) → n k ≡ Some b → (m k ≡ Some b) ⊎ IsFedBy source files files k b)
  kept None = refl
  kept (Some m) = λ k b e. inl e

  cache-still : CacheMoves source files files c c
  cache-still = record { entries = kept c.entries; events = []; ended = same-events c.ended; short = same-count c.short; faults = omega arith; turns = omega arith }

  file-still : (f : ScanFile O S) → FileMoves opener source f f
  file-still f = record {
    source_id = refl;
    gives = refl;
    opener_faults = omega arith;
    opener_turns = omega arith;
    opener_can_fail = refl;
    polled = omega arith;
    polls = omega arith;
    holds = refl;
    source_faults = omega arith;
    source_turns = omega arith;
    source_can_fail = refl;
    live = refl;
    ids = [];
    asked = sym (append-nil (source f.source).asked);
  }

  module _ (workers : ℕ) (d : DataType) (q : ScanRequest) where
    pub moves_still : All (IsIdle opener source) files → ScanMoves opener source workers d q files files c c
    moves_still idle = record {
      moves = λ k f. file-still (get_or files k f);
      late = record { first = λ i j f lt there w. absurd (omega (arith, w)); ordered = λ o l k f w. absurd (omega (arith, w)); unordered = λ o l k f w. absurd (omega (arith, w)) };
      count = refl;
      idle = idle;
      named = λ l k f.
          let P = Contains (named d q (told_file opener source (get_or files k f)).given (told_file opener source (get_or files k f)).store) in
          let s = source (get_or files k f).source in
          subst (All P) (sym (asked-is [] s s (sym (append-nil s.asked)))) (All-nil P);
      entries = cache-still;
      lawful = λ l. l;
      lookups = since c (LooksUpFirst source files files) (record { missed = λ k. rw (none-asked files) (omega arith); follow = λ k one. refl });
      untouched = any (first_request_fault workers d q) _ (λ f. (refl, refl));
      nothing = λ z. (refl, refl);
    }

    -- a limit of no rows
    pub scan_of_none : first_request_fault workers d q ≡ None → q.limit ≡ Some 0 → IsScan opener source workers d q files files c c (record { chunks = []; report = no_counts })
    scan_of_none none zero-rows = record {
      types = none;
      shape = All-nil IsShaped;
      nothing = λ z. (refl, refl);
      admits = λ l. record {
        chunks = All-nil (IsChunk (infer d q.projection));
        items = subst (λ z. IsGiven q.ordered z (answer d q (told opener source files)) []) (sym zero-rows) (none-given q.ordered (answer d q (told opener source files)));
      };
      chunks = λ l. none-split q.ordered (told opener source files) d q;
      whole = λ un e. let bad : ◌≡◌ {A = Option ℕ} (Some 0) None = sym zero-rows ∙ e in cc;
      read = λ e. let bad : ◌≡◌ {A = Option ℕ} (Some 0) None = sym zero-rows ∙ e in cc;
      puts = λ e. let bad : ◌≡◌ {A = Option ℕ} (Some 0) None = sym zero-rows ∙ e in cc;
      report = record {
        hits = 0;
        shared = 0;
        are = let n : length (asked_keys source files files) ≡ 0 = ap length (none-asked files) in sym (ap (capped_report 0 0) n);
        found = since c (λ es. length (found_keys es) ≡ 0) refl;
        missed = since c (λ es. length (missed_keys es) ≡ 0 + length (asked_keys source files files)) (let n : length (asked_keys source files files) ≡ 0 = ap length (none-asked files) in omega (arith, n));
      };
    }

    -- ---- a sink that takes nothing
    module _ {K : Type 0} (takes : K → List ChunkData → K → Type 0) (sink : K) (nothing : takes sink [] sink) where
      pub front_still : TakesFront opener source takes d q files c sink sink
      front_still = record {
        chunks = [];
        took = nothing;
        shape = All-nil IsShaped;
        nothing = λ z. refl;
        front = λ l. record {
          most = 0;
          within = least q.limit;
          chunks = All-nil (IsChunk (infer d q.projection));
          items = none-given q.ordered (answer d q (told opener source files));
          splits = none-split q.ordered (told opener source files) d q;
        };
      }

      pub ends_none : (Full : Type 0) → first_request_fault workers d q ≡ None → q.limit ≡ Some 0 → EndsScan opener source takes workers d q files files c c Full sink sink (record { flow = flow.More; report = no_counts })
      ends_none Full none zero-rows = record {
        types = none;
        nothing = λ z. refl;
        stop = λ e. cc;
        whole = λ e. record { chunks = []; took = nothing; scan = scan_of_none none zero-rows };
      }

    -- ---- a request with a fault
    -- faults of requests
    abbrev IsOfRequest : ScanFault → Type 0
    IsOfRequest fault.Concurrency = Unit {0}
    IsOfRequest fault.Partitions = Unit {0}
    IsOfRequest (fault.RowRange Reversed) = Unit {0}
    IsOfRequest (fault.Bind f) = Unit {0}
    IsOfRequest _ = ⊥

    kinds : (x y z : Bool) (f : Fault) (e : ScanFault) → or_else (or_else (unless x fault.Concurrency) (or_else (unless y fault.Partitions) (unless z (fault.RowRange Reversed)))) (of_bind f) ≡ Some e → IsOfRequest e
    kinds false y z f e h = subst IsOfRequest (let same : fault.Concurrency ≡ e = cc in same) tt
    kinds true false z f e h = subst IsOfRequest (let same : fault.Partitions ≡ e = cc in same) tt
    kinds true true false f e h = subst IsOfRequest (let same : fault.RowRange Reversed ≡ e = cc in same) tt
    kinds true true true None e h = cc
    kinds true true true (Some f) e h = subst IsOfRequest (let same : fault.Bind f ≡ e = cc in same) tt

    of-request : (e : ScanFault) → first_request_fault workers d q ≡ Some e → IsOfRequest e
    of-request e h = kinds _ (has_no_partitions q) (is_forward q.row_range) (request_fault d q.projection q.filter) e h

    cause-of : (e : ScanFault) → IsRequestFault workers d q e → HasCause opener source workers d q c files files e
    cause-of fault.NoMemory r = tt
    cause-of fault.Concurrency r = r.first (λ x. cc)
    cause-of fault.Partitions r = r.first (λ x. cc)
    cause-of (fault.RowRange Reversed) r = r.first (λ x. cc)
    cause-of (fault.Bind f) r = r.first (λ x. cc)
    cause-of (fault.RowRange (Past k)) r = absurd (of-request (fault.RowRange (Past k)) (r.first (λ x. cc)))
    cause-of (fault.Opener k) r = absurd (of-request (fault.Opener k) (r.first (λ x. cc)))
    cause-of (fault.Source k id) r = absurd (of-request (fault.Source k id) (r.first (λ x. cc)))
    cause-of (fault.DTypeMismatch k) r = absurd (of-request (fault.DTypeMismatch k) (r.first (λ x. cc)))
    cause-of (fault.Layout k f) r = absurd (of-request (fault.Layout k f) (r.first (λ x. cc)))
    cause-of (fault.Corrupt k id) r = absurd (of-request (fault.Corrupt k id) (r.first (λ x. cc)))
    cause-of (fault.TooManyRows k) r = absurd (of-request (fault.TooManyRows k) (r.first (λ x. cc)))
    cause-of (fault.Overflow k) r = absurd (of-request (fault.Overflow k) (r.first (λ x. cc)))

    pub refused_request : (e : ScanFault) → IsRequestFault workers d q e → IsRefusedFor opener source workers d q files files c c e
    refused_request e r = record {
      cause = cause-of e r;
      early = r.early;
      request_fault = λ other. subst (λ o. IfSome o (λ f. e ≡ f)) (sym (r.first other)) refl;
      nothing = λ z other. r.first other;
      complete = complete opener source workers d q c files files e (cause-of e r);
    }

-- ---- a sink that keeps all
module _ {O S K : Type 0} (opener : O → OpenerState) (source : S → SourceState) (takes : K → List ChunkData → K → Type 0) (workers : ℕ) (d : DataType) (q : ScanRequest) (old new : List (ScanFile O S)) (c c' : CacheState SegmentKey)
    (sink sink' : K) where
  pub kept_all : (now : List ChunkData) (end : DriveEnd) → EndsScan opener source takes workers d q old new c c' ⊥ sink sink' end → ((xs : List ChunkData) → takes sink xs sink' → now ≡ xs)
      → IsScan opener source workers d q old new c c' (record { chunks = now; report = end.report })
  kept_all now end h same = go end.flow refl
    where
      go : (f : Flow) → end.flow ≡ f → IsScan opener source workers d q old new c c' (record { chunks = now; report = end.report })
      go flow.More e =
          let w = h.whole e in
          subst (λ (xs : List ChunkData). IsScan opener source workers d q old new c c' (record { chunks = xs; report = end.report })) (sym (same w.chunks w.took)) w.scan
      go flow.Stop e = absurd (h.stop e)

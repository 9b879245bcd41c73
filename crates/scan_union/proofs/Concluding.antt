-- What a scan over a union answers, by what the scan of the files under the dtype does.
use Rattle.std.proofs.Common.{◌≡◌, ◌≢◌, ℕ, ◌<◌, ◌≤◌, ◌+◌, ◌^◌, List, [], ◌∷◌, length, map, arith, refl, sym, subst, ap, ◌∙◌, Bool, true, false, Option, Some, None, All, IfSome, IsSome, Contains, leb}
use Rattle.std.specs.Prelude.{nat_lt}
use Rattle.std.proofs.lemmas.Bool.Decides.{nat_tests}
use Rattle.std.proofs.lemmas.List.{append-nil}
use Rattle.std.proofs.lemmas.List.Elements.{All-nil, All-weaker}
use Rattle.scan_values.specs.DataType.{DataType, depth_of}
use Rattle.scan_expr.specs.Typing.{Fault, request_fault, bind_fault, filter_fault, depth_fault, or_fault}
use Rattle.scan_expr.specs.declared.request.ScanRequest.{ScanRequest}
use Rattle.scan_segments.specs.Cache.{CacheState, empty_cache}
use Rattle.scan_segments.specs.Source.{SourceState}
use Rattle.scan_segments.specs.declared.segment.SegmentKey.{SegmentKey}
use Rattle.scan_opener.specs.Opener.{Given, OpenerState}
use Rattle.scan_opener.specs.declared.opener.MemoryOpener.{MemoryOpener}
use Rattle.scan_drive.specs.declared.files.ScanFile.{ScanFile}
use Rattle.scan_multi.specs.Answer.{Item, answer}
use Rattle.scan_multi.specs.Causes.{HasCause}
use Rattle.scan_multi.specs.Checks.{rows_in}
use Rattle.scan_multi.specs.Lawful.{told, Tells, IsIdle, IsLawful, Agrees, AllGive}
use Rattle.scan_multi.specs.Output.{OutputData, ChunkData, Admits, IsChoice, IsGiven, given}
use Rattle.scan_multi.specs.Request.{first_plain_fault, first_request_fault, or_else, unless, of_bind, has_no_partitions, is_forward}
use Rattle.scan_multi.specs.Scans.{IsScan, IsRefusedFor, ScanMoves}
use Rattle.scan_multi.specs.declared.scan.fault.RangeFault.TheVariants.{Reversed, Past}
use Rattle.scan_multi.specs.declared.scan.fault.ScanFault.{ScanFault}
use Rattle.scan_multi.specs.declared.scan.fault.ScanFault.TheVariants as scan
use Rattle.scan_widened.specs.Sources.{UnionState, state_of, Follow}
use Rattle.scan_union.specs.Seats.{AreSeated, OpensFront, make_all, rest_of, back_all}
use Rattle.scan_union.specs.Under.{fault_over, of_scan, first_file_fault}
use Rattle.scan_union.specs.UnionAnswer.{union_answer}
use Rattle.scan_union.specs.UnionCauses.{HasUnionCause}
use Rattle.scan_union.specs.UnionScans.{IsUnionScan, IsUnionRefusedFor, UnionMoves}
use Rattle.scan_union.specs.declared.fault.UnionFault.TheVariants as fault
use Rattle.scan_union.specs.declared.seat.Seat.{Seat}
use Rattle.scan_union.proofs.Answering.{answers}
use Rattle.scan_union.proofs.Causing.{caused, inner_in, room_all}
use Rattle.scan_union.proofs.Judging.{judged, judged_late}
use Rattle.scan_union.proofs.Moved.{moved, moved_opened}
use Rattle.scan_union.proofs.Scanned.{Trip, trip_of, all_go, asks_behind, lawful_made}
use Rattle.scan_union.proofs.Spots.{memory, told_all, tells_made, polled_pairs, sound_all}

-- ---- a dtype over which a request types is shallow
first_none : (a b : Fault) → or_fault a b ≡ None → a ≡ None
first_none None b e = refl
first_none (Some f) b e = absurd cc

second_none : (x y : Option ScanFault) → or_else x y ≡ None → y ≡ None
second_none None y e = e
second_none (Some f) y e = absurd cc

bind_none : (x : Fault) → of_bind x ≡ None → x ≡ None
bind_none None e = refl
bind_none (Some f) e = absurd cc

pub deep_of : (workers : ℕ) (d : DataType) (request : ScanRequest) → first_request_fault workers d request ≡ None → depth_of d ≤ 64
deep_of workers d request e =
    let bound : request_fault d request.projection request.filter ≡ None = bind_none (request_fault d request.projection request.filter) (second_none (first_plain_fault workers request) (of_bind (request_fault d request.projection request.filter)) e) in
    let projection : bind_fault d request.projection ≡ None = first_none (bind_fault d request.projection) (filter_fault d request.filter) bound in
    let shallow : depth_fault d ≡ None = first_none (depth_fault d) _ projection in
    go (leb (depth_of d) 64) refl shallow
  where
    go : (b : Bool) → leb (depth_of d) 64 ≡ b → depth_fault d ≡ None → depth_of d ≤ 64
    go true p h = grind (arith, nat_tests, p)
    go false p h = let bad = rw p at h in absurd cc

-- ---- faults of the request
pub of_scan_is : (e : ScanFault) → e ≢ scan.NoMemory → of_scan e ≡ fault.Scan e
of_scan_is scan.NoMemory h = absurd (h refl)
of_scan_is scan.Concurrency h = refl
of_scan_is scan.Partitions h = refl
of_scan_is (scan.RowRange r) h = refl
of_scan_is (scan.Bind f) h = refl
of_scan_is (scan.Opener place) h = refl
of_scan_is (scan.DTypeMismatch place) h = refl
of_scan_is (scan.Layout place l) h = refl
of_scan_is (scan.TooManyRows place) h = refl
of_scan_is (scan.Source place id) h = refl
of_scan_is (scan.Corrupt place id) h = refl
of_scan_is (scan.Overflow place) h = refl

plain_scan : (workers : ℕ) (request : ScanRequest) (f : ScanFault) → first_plain_fault workers request ≡ Some f → of_scan f ≡ fault.Scan f
plain_scan workers request f e = go (nat_lt 0 workers) (has_no_partitions request) (is_forward request.row_range) e
  where
    go : (a b c : Bool) → or_else (unless a scan.Concurrency) (or_else (unless b scan.Partitions) (unless c (scan.RowRange Reversed))) ≡ Some f → of_scan f ≡ fault.Scan f
    go false b c h = let is : scan.Concurrency ≡ f = cc in subst (λ x. of_scan x ≡ fault.Scan x) is refl
    go true false c h = let is : scan.Partitions ≡ f = cc in subst (λ x. of_scan x ≡ fault.Scan x) is refl
    go true true false h = let is : scan.RowRange Reversed ≡ f = cc in subst (λ x. of_scan x ≡ fault.Scan x) is refl
    go true true true h = absurd cc

-- ---- what a limit of 0 gives
zero_items : (answer items : List Item) → IsGiven true (Some 0) [] items → IsGiven true (Some 0) answer items
zero_items answer items h = h

none_chosen : (answer items : List Item) → IsChoice (Some 0) [] items → IsChoice (Some 0) answer items
none_chosen answer [] h = record { once = h.once; each = All-nil (Contains answer); count = refl }
none_chosen answer (x ∷ items) h = let n = h.count in absurd (omega (arith, n))

pub zero_admits : (d : DataType) (request : ScanRequest) (answer : List Item) (chunks : List ChunkData) → request.limit ≡ Some 0 → Admits d request [] chunks → Admits d request answer chunks
zero_admits d request answer chunks z h = record { chunks = h.chunks; items = go request.ordered request.limit z h.items }
  where
    go : (b : Bool) (l : Option ℕ) → l ≡ Some 0 → IsGiven b l [] (given chunks) → IsGiven b l answer (given chunks)
    go true l e h = subst (λ x. IsGiven true x answer (given chunks)) (sym e) (subst (λ x. IsGiven true x [] (given chunks)) e h)
    go false l e h = subst (λ x. IsGiven false x answer (given chunks)) (sym e) (none_chosen answer (given chunks) (subst (λ x. IsGiven false x [] (given chunks)) e h))

module _ {O S : Type 0} (opener : O → OpenerState) (source : S → SourceState) (workers : ℕ) (d : DataType) (request : ScanRequest) where
  -- a request that is refused
  pub request_refused : (old : List (ScanFile O S)) (e : ScanFault) → IsRefusedFor opener source workers d request [] [] empty_cache empty_cache e → IsUnionRefusedFor opener source workers d request old old (of_scan e)
  request_refused old e r = judged opener source workers d request old old (of_scan e) (cause e r.cause) (early (first_plain_fault workers request) refl r.early)
      (λ other. late (first_request_fault workers d request) (r.request_fault (λ is. other (ap of_scan is))) (λ is. other (ap of_scan is)))
    where
      cause : (x : ScanFault) → HasCause opener source workers d request empty_cache [] [] x → HasUnionCause opener source workers d request old old (of_scan x)
      cause scan.NoMemory c = tt
      cause scan.Concurrency c = c
      cause scan.Partitions c = c
      cause (scan.RowRange Reversed) c = c
      cause (scan.RowRange (Past place)) c = let lt = c.there in absurd (omega (arith, lt))
      cause (scan.Bind f) c = c
      cause (scan.Opener place) c = let lt = c.there in absurd (omega (arith, lt))
      cause (scan.DTypeMismatch place) c = let lt = c.there in absurd (omega (arith, lt))
      cause (scan.Layout place l) c = let lt = c.there in absurd (omega (arith, lt))
      cause (scan.TooManyRows place) c = let lt = (c.0).there in absurd (omega (arith, lt))
      cause (scan.Source place id) c = let lt = c.there in absurd (omega (arith, lt))
      cause (scan.Corrupt place id) c = let lt = c.there in absurd (omega (arith, lt))
      cause (scan.Overflow place) c = let lt = c.there in absurd (omega (arith, lt))

      early : (o : Option ScanFault) → first_plain_fault workers request ≡ o → IfSome o (λ f. e ≡ f) → IfSome o (λ f. of_scan e ≡ fault.Scan f)
      early None p h = tt
      early (Some f) p h = ap of_scan h ∙ plain_scan workers request f p

      late : (o : Option ScanFault) → IfSome o (λ f. e ≡ f) → (e ≢ scan.NoMemory) → IfSome o (λ f. of_scan e ≡ fault.Scan f)
      late None h other = tt
      late (Some f) h other = of_scan_is e other ∙ ap fault.Scan h

  -- nothing is wanted
  pub nothing_wanted : (old : List (ScanFile O S)) (out : OutputData) → request.limit ≡ Some 0 → IsScan opener source workers d request [] [] empty_cache empty_cache out → IsUnionScan opener source workers d request old old out
  nothing_wanted old out z scanned = record {
    types = scanned.types;
    files = λ room. absurd (room z);
    admits = λ tells. zero_admits d request (union_answer d request (told opener source old)) out.chunks z (scanned.admits lawful);
  }
    where
      lawful : IsLawful opener source [] empty_cache
      lawful = record {
        tells = All-nil (Tells opener source);
        same = λ i j x li lj e. absurd (omega (arith, li));
        cache_tells = refl;
        agrees = All-nil (Agrees opener source empty_cache);
      }

  -- ---- files that were opened
  module _ (old mid : List (ScanFile O S)) (ss : List Seat) (made' : List (ScanFile MemoryOpener (UnionState S))) (gs : List Given)
      (seated : AreSeated opener source d request.row_range 0 0 old mid gs ss) (idle : All (IsIdle opener source) old) (types : first_request_fault workers d request ≡ None) (room : request.limit ≢ Some 0) where
    opens : OpensFront opener source old mid
    opens = record { front = old; opened = mid; rest = []; before = sym (append-nil old); after = sym (append-nil mid); polled = polled_pairs opener source d request.row_range 0 0 old mid gs ss seated }

    -- and no more
    pub opened_moves : UnionMoves opener source workers d request old mid
    opened_moves = moved_opened opener source workers d request old mid opens idle types room

    pub opened_short : IsUnionRefusedFor opener source workers d request old mid fault.NoMemory
    opened_short = judged_late opener source workers d request old mid fault.NoMemory types tt

    -- and scanned
    module _ (cache' : CacheState SegmentKey) (follow : All (λ m. Follow source m.source) made') (most : length old < 2 ^ 64)
        (scan_moves : ScanMoves memory (state_of source) workers d request (make_all source mid ss) made' empty_cache cache') where
      trip : Trip opener source d request old mid (back_all (map rest_of mid) made') (make_all source mid ss) made'
      trip = trip_of opener source d request old mid gs ss made' seated scan_moves.count follow scan_moves.moves most

      lawful : All (Tells opener source) old → IsLawful memory (state_of source) (make_all source mid ss) empty_cache
      lawful tells = lawful_made opener source d request old mid (back_all (map rest_of mid) made') (make_all source mid ss) made' trip (tells_made opener source d request.row_range 0 0 old mid gs ss seated tells)

      sound : AllGive opener source old → first_file_fault d request (told opener source old) ≡ None
      sound gives = sound_all opener source d request 0 0 old mid gs ss seated gives

      pub scanned_moves : UnionMoves opener source workers d request old (back_all (map rest_of mid) made')
      scanned_moves = moved opener source workers d request old mid (back_all (map rest_of mid) made') opens
          (all_go opener source d request old mid (back_all (map rest_of mid) made') (make_all source mid ss) made' trip idle) idle types room
          (asks_behind opener source d request old mid (back_all (map rest_of mid) made') (make_all source mid ss) made' trip (λ tells. scan_moves.named (lawful tells)))

      pub scanned_ok : (out : OutputData) → IsScan memory (state_of source) workers d request (make_all source mid ss) made' empty_cache cache' out
          → IsUnionScan opener source workers d request old (back_all (map rest_of mid) made') out
      scanned_ok out scanned = record {
        types = types;
        files = λ other gives. sound gives;
        admits = λ tells.
            let gives : AllGive opener source old = All-weaker (Tells opener source) (λ f. IsSome (opener f.opener).gives) (λ f t. t.gives) old tells in
            let same = told_all opener source d request.row_range 0 0 old mid gs ss seated tells in
            subst (λ items. Admits d request items out.chunks) (ap (answer d request) same ∙ answers d request (deep_of workers d request types) (told opener source old) (sound gives)) (scanned.admits (lawful tells));
      }

      pub scanned_err : (e : ScanFault) → IsRefusedFor memory (state_of source) workers d request (make_all source mid ss) made' empty_cache cache' e
          → IsUnionRefusedFor opener source workers d request old (back_all (map rest_of mid) made') (fault_over (inner_in made') e)
      scanned_err e refused =
          let few : 0 + rows_in (told memory (state_of source) (make_all source mid ss)) < 2 ^ 64 = room_all opener source d request 0 0 old mid gs ss seated (omega arith) in
          judged_late opener source workers d request old (back_all (map rest_of mid) made') (fault_over (inner_in made') e) types
          (caused opener source d request workers old mid (back_all (map rest_of mid) made') (make_all source mid ss) made' trip (told_all opener source d request.row_range 0 0 old mid gs ss seated) lawful sound
          (omega (arith, few)) (scan_moves.count ∙ trip.made_count) types room (deep_of workers d request types) e refused.cause)

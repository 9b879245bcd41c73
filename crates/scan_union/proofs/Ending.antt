-- How a scan of opened files ends, by what each of its steps did.
use Rattle.std.proofs.Common.{◌≡◌, ℕ, suc, ◌<◌, ◌^◌, List, [], ◌∷◌, length, map, arith, refl, sym, subst, ap, ◌∙◌, None, All}
use Rattle.std.proofs.lemmas.List.Elements.{All-nil, All-cons}
use Rattle.scan_values.specs.DataType.{DataType}
use Rattle.scan_expr.specs.declared.request.ScanRequest.{ScanRequest}
use Rattle.scan_segments.specs.Cache.{CacheState, empty_cache}
use Rattle.scan_segments.specs.Source.{SourceState}
use Rattle.scan_segments.specs.declared.segment.SegmentKey.{SegmentKey}
use Rattle.scan_opener.specs.Opener.{OpenerState}
use Rattle.scan_opener.specs.declared.opener.MemoryOpener.{MemoryOpener}
use Rattle.scan_drive.specs.declared.files.ScanFile.{ScanFile}
use Rattle.scan_multi.specs.Lawful.{IsIdle}
use Rattle.scan_multi.specs.Output.{OutputData}
use Rattle.scan_multi.specs.Request.{first_request_fault}
use Rattle.scan_multi.specs.Scans.{IsScan, IsRefusedFor, ScanMoves}
use Rattle.scan_multi.specs.declared.scan.fault.ScanFault.{ScanFault}
use Rattle.scan_widen.specs.Parts.{IsReadable}
use Rattle.scan_widened.specs.Sources.{UnionState, state_of, Follow}
use Rattle.scan_union.specs.Seats.{IsOpen, Seated, make_file, make_all, rest_of, back_all}
use Rattle.scan_union.specs.Under.{fault_over}
use Rattle.scan_union.specs.UnionScans.{IsUnionScan, IsUnionRefusedFor, UnionMoves}
use Rattle.scan_union.specs.declared.fault.UnionFault.{UnionFault}
use Rattle.scan_union.specs.declared.fault.UnionFault.TheVariants as fault
use Rattle.scan_union.specs.declared.seat.Rest.{Rest}
use Rattle.scan_union.specs.declared.seat.Seat.{Seat}
use Rattle.scan_union.proofs.Causing.{inner_in}
use Rattle.scan_union.proofs.Concluding.{opened_moves, scanned_moves, scanned_ok, scanned_err}
use Rattle.scan_union.proofs.Judging.{judged_late}
use Rattle.scan_union.proofs.Spots.{memory, made_count, idle_mid}
use Rattle.scan_union.proofs.Stopping.{readable_all}

module _ {O S : Type 0} (opener : O → OpenerState) (source : S → SourceState) (workers : ℕ) (d : DataType) (request : ScanRequest) where
  -- want of memory refuses a request without a fault
  pub short_of : (old new : List (ScanFile O S)) (e : UnionFault) → first_request_fault workers d request ≡ None → e ≡ fault.NoMemory → IsUnionRefusedFor opener source workers d request old new e
  short_of old new e types is = subst (λ x. IsUnionRefusedFor opener source workers d request old new x) (sym is) (judged_late opener source workers d request old new fault.NoMemory types tt)

  -- files under the dtype, as they are made
  pub idle_made : (mid : List (ScanFile O S)) (ss : List Seat) → All (IsIdle memory (state_of source)) (make_all source mid ss)
  idle_made [] ss = All-nil (IsIdle memory (state_of source))
  idle_made (t ∷ ts) [] = All-nil (IsIdle memory (state_of source))
  idle_made (t ∷ ts) (s ∷ ss) = All-cons (IsIdle memory (state_of source)) (make_file source t s) (make_all source ts ss) refl (idle_made ts ss)

  pub make_count : (mid : List (ScanFile O S)) (ss : List Seat) → length mid ≡ length ss → length (make_all source mid ss) ≡ length mid
  make_count [] ss n = refl
  make_count (t ∷ ts) [] n = absurd (omega (arith, n))
  make_count (t ∷ ts) (s ∷ ss) n = ap suc (make_count ts ss (omega (arith, n)))

  -- files that were opened have seats, and are idle if they were
  module _ (old mid : List (ScanFile O S)) (ss : List Seat) (seated : Seated opener source d request.row_range old mid ss) where
    pub seated_count : length mid ≡ length ss
    seated_count = let n = made_count opener source d request.row_range 0 0 old mid seated.0 ss seated.1 in n.1 ∙ sym n.2

    pub seated_idle : All (IsIdle opener source) old → All (IsIdle opener source) mid
    seated_idle idle = idle_mid opener source d request.row_range 0 0 old mid seated.0 ss seated.1 idle

    pub seated_readable : All (λ (s : Seat). All IsReadable (s.segments).items) ss
    seated_readable = readable_all opener source d request 0 0 old mid seated.0 ss seated.1

  -- files that were opened and no more
  module _ (old mid : List (ScanFile O S)) (ss : List Seat) (seated : Seated opener source d request.row_range old mid ss) (begun : IsOpen opener source workers d request old) where
    pub short_moves : UnionMoves opener source workers d request old mid
    short_moves = opened_moves opener source workers d request old mid ss [] seated.0 seated.1 begun.idle begun.types begun.room

    pub short_err : (e : UnionFault) → e ≡ fault.NoMemory → IsUnionRefusedFor opener source workers d request old mid e
    short_err e is = short_of old mid e begun.types is

  -- opened files, and what was done to them
  pub record Ends (mid new : List (ScanFile O S)) (ss : List Seat) (rests : List (Rest O)) (made made' : List (ScanFile MemoryOpener (UnionState S))) (cache cache' : CacheState SegmentKey) : Type 0 where
    pub kept : rests ≡ map rest_of mid
    pub makes : made ≡ make_all source mid ss
    pub back : new ≡ back_all rests made'
    pub follow : All (λ (m : ScanFile MemoryOpener (UnionState S)). Follow source m.source) made'
    pub empty : cache ≡ empty_cache
    pub moves : ScanMoves memory (state_of source) workers d request made made' cache cache'
    pub most : length mid < 2 ^ 64

  module _ (old mid new : List (ScanFile O S)) (ss : List Seat) (rests : List (Rest O)) (made made' : List (ScanFile MemoryOpener (UnionState S))) (cache cache' : CacheState SegmentKey)
      (ends : Ends mid new ss rests made made' cache cache') (seated : Seated opener source d request.row_range old mid ss) (begun : IsOpen opener source workers d request old) where
    moves : ScanMoves memory (state_of source) workers d request (make_all source mid ss) made' empty_cache cache'
    moves = subst (λ c. ScanMoves memory (state_of source) workers d request (make_all source mid ss) made' c cache') ends.empty
        (subst (λ ms. ScanMoves memory (state_of source) workers d request ms made' cache cache') ends.makes ends.moves)

    most : length old < 2 ^ 64
    most = let n = (made_count opener source d request.row_range 0 0 old mid seated.0 ss seated.1).1 in let m = ends.most in omega (arith, n, m)

    back : back_all (map rest_of mid) made' ≡ new
    back = sym (subst (λ rs. new ≡ back_all rs made') ends.kept ends.back)

    pub ends_moves : UnionMoves opener source workers d request old new
    ends_moves = subst (λ xs. UnionMoves opener source workers d request old xs) back
        (scanned_moves opener source workers d request old mid ss made' seated.0 seated.1 begun.idle begun.types begun.room cache' ends.follow most moves)

    pub ends_ok : (out : OutputData) → IsScan memory (state_of source) workers d request made made' cache cache' out → IsUnionScan opener source workers d request old new out
    ends_ok out scanned = subst (λ xs. IsUnionScan opener source workers d request old xs out) back
        (scanned_ok opener source workers d request old mid ss made' seated.0 seated.1 begun.idle begun.types begun.room cache' ends.follow most moves out
        (subst (λ c. IsScan memory (state_of source) workers d request (make_all source mid ss) made' c cache' out) ends.empty
        (subst (λ ms. IsScan memory (state_of source) workers d request ms made' cache cache' out) ends.makes scanned)))

    pub ends_err : (e : ScanFault) (x : UnionFault) → IsRefusedFor memory (state_of source) workers d request made made' cache cache' e → x ≡ fault_over (inner_in made') e → IsUnionRefusedFor opener source workers d request old new x
    ends_err e x refused is =
        subst (λ xs. IsUnionRefusedFor opener source workers d request old xs x) back
        (subst (λ y. IsUnionRefusedFor opener source workers d request old (back_all (map rest_of mid) made') y) (sym is)
        (scanned_err opener source workers d request old mid ss made' seated.0 seated.1 begun.idle begun.types begun.room cache' ends.follow most moves e
        (subst (λ c. IsRefusedFor memory (state_of source) workers d request (make_all source mid ss) made' c cache' e) ends.empty
        (subst (λ ms. IsRefusedFor memory (state_of source) workers d request ms made' cache cache' e) ends.makes refused))))

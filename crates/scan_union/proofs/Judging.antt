-- What follows of a fault from its cause.
use Rattle.std.proofs.Common.{◌≡◌, ◌≢◌, ℕ, zero, suc, ◌<◌, ◌+◌, List, [], ◌∷◌, take, length, arith, refl, sym, subst, ◌∙◌, Option, Some, None, All, IfSome, IsSome, get_or}
use Rattle.std.specs.Prelude.{option_map}
use Rattle.std.proofs.lemmas.List.Elements.{All-take, All-get_or, All-weaker}
use Rattle.std.proofs.lemmas.List.{length-map, get_or-map}
use Rattle.scan_values.specs.DataType.{DataType}
use Rattle.scan_expr.specs.Typing.{request_fault}
use Rattle.scan_expr.specs.declared.request.ScanRequest.{ScanRequest}
use Rattle.scan_segments.specs.Source.{SourceState}
use Rattle.scan_opener.specs.Opener.{OpenerState}
use Rattle.scan_drive.specs.declared.files.ScanFile.{ScanFile}
use Rattle.scan_multi.specs.Answer.{ToldFile}
use Rattle.scan_multi.specs.Checks.{rows_given}
use Rattle.scan_multi.specs.Lawful.{told, told_file, Tells, AllGive}
use Rattle.scan_multi.specs.Request.{first_plain_fault, first_request_fault, or_else, of_bind}
use Rattle.scan_multi.specs.Valid.{NoneFailed}
use Rattle.scan_multi.specs.declared.scan.fault.RangeFault.TheVariants.{Reversed, Past}
use Rattle.scan_multi.specs.declared.scan.fault.ScanFault.{ScanFault}
use Rattle.scan_multi.specs.declared.scan.fault.ScanFault.TheVariants as scan
use Rattle.scan_widened.specs.Faults.{given_fault}
use Rattle.scan_union.specs.Under.{first_file_fault, first_file_fault_from, of_file, or_later}
use Rattle.scan_union.specs.UnionCauses.{HasUnionCause, IsOpenerCause, IsUnreadCause}
use Rattle.scan_union.specs.UnionScans.{IsUnionRefusedFor, IsValidUnder, IsSoundUnder, NeverOverflowsUnder, NoOpenerFailed}
use Rattle.scan_union.specs.declared.fault.UnionFault.{UnionFault}
use Rattle.scan_union.specs.declared.fault.UnionFault.TheVariants as fault

-- a request without a fault has none that needs no memory
first_of : (x y : Option ScanFault) → or_else x y ≡ None → x ≡ None
first_of None y e = refl
first_of (Some f) y e = absurd cc

pub plain_none : (workers : ℕ) (d : DataType) (request : ScanRequest) → first_request_fault workers d request ≡ None → first_plain_fault workers request ≡ None
plain_none workers d request e = first_of (first_plain_fault workers request) (of_bind (request_fault d request.projection request.filter)) e

or_step : (x a b : Option UnionFault) (e : UnionFault) → (a ≡ Some e → b ≡ Some e) → or_later x a ≡ Some e → or_later x b ≡ Some e
or_step None a b e f h = f h
or_step (Some y) a b e f h = h

module _ {O S : Type 0} (opener : O → OpenerState) (source : S → SourceState) (workers : ℕ) (d : DataType) (request : ScanRequest) (old new : List (ScanFile O S)) where
  some_at : (xs : List (ScanFile O S)) (k : ℕ) → k < length xs → ScanFile O S
  some_at [] k lt = absurd (omega (arith, lt))
  some_at (x ∷ xs) k lt = x

  -- the first fault of the first files is that of all
  from_take : (n place before : ℕ) (fs : List (ScanFile O S)) (e : UnionFault) → first_file_fault_from d request place before (told opener source (take n fs)) ≡ Some e
      → first_file_fault_from d request place before (told opener source fs) ≡ Some e
  from_take zero place before fs e h = absurd cc
  from_take (suc n) place before [] e h = absurd cc
  from_take (suc n) place before (f ∷ fs) e h =
      let rows : ℕ = before + rows_given (told_file opener source f).given in
      or_step (option_map (of_file place) (given_fault d request.row_range before (told_file opener source f).given))
      (first_file_fault_from d request (place + 1) rows (told opener source (take n fs))) (first_file_fault_from d request (place + 1) rows (told opener source fs)) e
      (from_take n (place + 1) rows fs e) h

  abbrev pub IsFirst : UnionFault → Type 0
  IsFirst e = IfSome (first_file_fault d request (told opener source old)) (λ f. e ≡ f)

  is_first : (e : UnionFault) → first_file_fault d request (told opener source old) ≡ Some e → IsFirst e
  is_first e h = subst (λ o. IfSome o (λ f. e ≡ f)) (sym h) refl

  none_first : (e : UnionFault) → first_file_fault d request (told opener source old) ≡ None → IsFirst e
  none_first e h = subst (λ o. IfSome o (λ f. e ≡ f)) (sym h) tt

  -- ---- where openers tell, and none failed
  module _ (none : first_request_fault workers d request ≡ None) (gives : AllGive opener source old) where
    unread_first : (place : ℕ) (e : UnionFault) → IsUnreadCause opener source workers d request old new place e → first_file_fault d request (told opener source old) ≡ Some e
    unread_first place e c = from_take (place + 1) 0 0 old e (c.first (All-take (λ (x : ScanFile O S). IsSome (opener x.opener).gives) (place + 1) old gives))

    module _ (works : NoOpenerFailed opener source workers d request old new) where
      opener_works : (place : ℕ) → IsOpenerCause opener source workers d request old new place → ⊥
      opener_works place c = let f = some_at old place c.file.there in works place f c.file.there (c.file.fact f)

      request_sound : (f : ScanFault) → first_request_fault workers d request ≡ Some f → ⊥
      request_sound f e = let bad : None ≡ Some f = sym none ∙ e in absurd cc

      pub file_first : (e : UnionFault) → HasUnionCause opener source workers d request old new e → e ≢ fault.NoMemory → IsFirst e
      file_first fault.NoMemory c other = absurd (other refl)
      file_first (fault.TooManySegments place) c other = is_first (fault.TooManySegments place) (unread_first place (fault.TooManySegments place) c)
      file_first (fault.Scan scan.NoMemory) c other = absurd c
      file_first (fault.Scan scan.Concurrency) c other = absurd (request_sound scan.Concurrency c)
      file_first (fault.Scan scan.Partitions) c other = absurd (request_sound scan.Partitions c)
      file_first (fault.Scan (scan.RowRange Reversed)) c other = absurd (request_sound (scan.RowRange Reversed) c)
      file_first (fault.Scan (scan.RowRange (Past place))) c other = is_first (fault.Scan (scan.RowRange (Past place))) (unread_first place (fault.Scan (scan.RowRange (Past place))) c)
      file_first (fault.Scan (scan.Bind f)) c other = absurd (request_sound (scan.Bind f) c)
      file_first (fault.Scan (scan.Opener place)) c other = absurd (opener_works place c)
      file_first (fault.Scan (scan.DTypeMismatch place)) c other = is_first (fault.Scan (scan.DTypeMismatch place)) (unread_first place (fault.Scan (scan.DTypeMismatch place)) c)
      file_first (fault.Scan (scan.Layout place l)) c other = is_first (fault.Scan (scan.Layout place l)) (unread_first place (fault.Scan (scan.Layout place l)) c)
      file_first (fault.Scan (scan.TooManyRows place)) c other = is_first (fault.Scan (scan.TooManyRows place)) (unread_first place (fault.Scan (scan.TooManyRows place)) c)
      file_first (fault.Scan (scan.Source place id)) c other = none_first (fault.Scan (scan.Source place id)) (c.good gives)
      file_first (fault.Scan (scan.Corrupt place id)) c other = none_first (fault.Scan (scan.Corrupt place id)) (c.good gives)
      file_first (fault.Scan (scan.Overflow place)) c other = none_first (fault.Scan (scan.Overflow place)) (c.good gives)

  -- ---- where a scan is valid, and nothing failed
  gives_of : All (Tells opener source) old → AllGive opener source old
  gives_of tells = All-weaker (Tells opener source) (λ f. IsSome (opener f.opener).gives) (λ f t. t.gives) old tells

  module _ (tells : All (Tells opener source) old) (valid : IsValidUnder workers d request (told opener source old)) (fine : NoneFailed opener source old new) where
    no_request : (f : ScanFault) → first_request_fault workers d request ≡ Some f → ⊥
    no_request f e = let bad : None ≡ Some f = sym valid.no_fault ∙ e in absurd cc

    no_unread : (place : ℕ) (e : UnionFault) → IsUnreadCause opener source workers d request old new place e → ⊥
    no_unread place e c = let bad : None ≡ Some e = sym valid.good ∙ unread_first valid.no_fault (gives_of tells) place e c in absurd cc

    -- what holds of all that is told holds at a place
    told_at : (P : ToldFile → Type 0) (place : ℕ) (f : ScanFile O S) → All P (told opener source old) → place < length old → P (told_file opener source (get_or old place f))
    told_at P place f all there =
        let same : get_or (told opener source old) place (told_file opener source f) ≡ told_file opener source (get_or old place f) = get_or-map (told_file opener source) old place f (told_file opener source f) there in
        subst P same (All-get_or P (told opener source old) place (told_file opener source f) (let n : length (told opener source old) ≡ length old = length-map old (told_file opener source) in omega (arith, n, there)) all)

    pub complete : (e : UnionFault) → HasUnionCause opener source workers d request old new e → e ≡ fault.NoMemory
    complete fault.NoMemory c = refl
    complete (fault.TooManySegments place) c = absurd (no_unread place (fault.TooManySegments place) c)
    complete (fault.Scan scan.NoMemory) c = absurd c
    complete (fault.Scan scan.Concurrency) c = absurd (no_request scan.Concurrency c)
    complete (fault.Scan scan.Partitions) c = absurd (no_request scan.Partitions c)
    complete (fault.Scan (scan.RowRange Reversed)) c = absurd (no_request (scan.RowRange Reversed) c)
    complete (fault.Scan (scan.RowRange (Past place))) c = absurd (no_unread place (fault.Scan (scan.RowRange (Past place))) c)
    complete (fault.Scan (scan.Bind f)) c = absurd (no_request (scan.Bind f) c)
    complete (fault.Scan (scan.Opener place)) c = let f = some_at old place c.file.there in absurd ((fine place f c.file.there).0 (c.file.fact f))
    complete (fault.Scan (scan.DTypeMismatch place)) c = absurd (no_unread place (fault.Scan (scan.DTypeMismatch place)) c)
    complete (fault.Scan (scan.Layout place l)) c = absurd (no_unread place (fault.Scan (scan.Layout place l)) c)
    complete (fault.Scan (scan.TooManyRows place)) c = absurd (no_unread place (fault.Scan (scan.TooManyRows place)) c)
    complete (fault.Scan (scan.Source place id)) c = let f = some_at old place c.file.there in absurd ((fine place f c.file.there).1 (c.file.fact f).failed)
    complete (fault.Scan (scan.Corrupt place id)) c =
        let f = some_at old place c.file.there in
        absurd (told_at (IsSoundUnder d request) place f valid.sound c.file.there id ((c.file.fact f).damaged tells))
    complete (fault.Scan (scan.Overflow place)) c =
        let f = some_at old place c.file.there in
        absurd (told_at (NeverOverflowsUnder d request) place f valid.no_overflow c.file.there (c.file.fact f tells))

  -- ---- the whole
  pub judged : (e : UnionFault) → HasUnionCause opener source workers d request old new e → IfSome (first_plain_fault workers request) (λ f. e ≡ fault.Scan f)
      → (e ≢ fault.NoMemory → IfSome (first_request_fault workers d request) (λ f. e ≡ fault.Scan f)) → IsUnionRefusedFor opener source workers d request old new e
  judged e cause early request_fault = record {
    cause = cause;
    early = early;
    request_fault = request_fault;
    file_fault = λ other none room gives works. file_first none gives works e cause other;
    complete = λ tells valid fine. complete tells valid fine e cause;
  }

  -- of a request without a fault
  pub judged_late : (e : UnionFault) → first_request_fault workers d request ≡ None → HasUnionCause opener source workers d request old new e → IsUnionRefusedFor opener source workers d request old new e
  judged_late e types cause = judged e cause (subst (λ o. IfSome o (λ f. e ≡ fault.Scan f)) (sym (plain_none workers d request types)) tt)
      (λ other. subst (λ o. IfSome o (λ f. e ≡ fault.Scan f)) (sym types) tt)

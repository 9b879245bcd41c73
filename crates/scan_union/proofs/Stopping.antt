-- Why a scan over a union is refused where a file is not opened or can't be read.
use Rattle.std.proofs.Common.{◌≡◌, ◌≢◌, inl, inr, ℕ, suc, ◌<◌, ◌+◌, List, [], ◌∷◌, ◌++◌, length, take, arith, refl, sym, subst, ap, ◌∙◌, Some, None, All, IsSome, get_or, append_assoc, length-append}
use Rattle.std.specs.Prelude.{option_map, unwrap_or}
use Rattle.std.proofs.Math.Seq.{take-append_seam}
use Rattle.std.proofs.lemmas.List.Elements.{All-nil, All-cons, All-head, All-tail}
use Rattle.scan_values.specs.DataType.{DataType}
use Rattle.scan_expr.specs.declared.request.ScanRequest.{ScanRequest}
use Rattle.scan_segments.specs.Source.{SourceState}
use Rattle.scan_opener.specs.Opener.{Given, skip, OpenerState, OpenerFailed}
use Rattle.scan_drive.specs.declared.files.ScanFile.{ScanFile}
use Rattle.scan_multi.specs.Checks.{rows_given}
use Rattle.scan_multi.specs.Lawful.{told, AllGive}
use Rattle.scan_multi.specs.Request.{first_request_fault}
use Rattle.scan_widen.specs.Parts.{IsReadable}
use Rattle.scan_widened.specs.Faults.{given_fault, Gave, IsFileFault}
use Rattle.scan_widened.specs.declared.fault.FileFault.{FileFault}
use Rattle.scan_widened.specs.declared.fault.FileFault.TheVariants as file
use Rattle.scan_union.specs.Seats.{AreSeated, IsOpenFault, OpensFront, StopsAt, rows_all}
use Rattle.scan_union.specs.Under.{first_file_fault, first_file_fault_from, of_file, or_later}
use Rattle.scan_union.specs.UnionCauses.{HasUnionCause, IsOfUnionFile, IsOpenerCause, IsUnreadCause}
use Rattle.scan_union.specs.UnionScans.{IsUnionRefusedFor}
use Rattle.scan_union.specs.declared.fault.UnionFault.{UnionFault}
use Rattle.scan_union.specs.declared.seat.Seat.{Seat}
use Rattle.scan_union.proofs.Judging.{judged_late}
use Rattle.scan_union.proofs.Moved.{none_asked}
use Rattle.scan_union.proofs.Spots.{given_told, sound_all, made_count}

at_seam : {A : Type 0} (xs : List A) (y : A) (ys : List A) (d : A) → get_or (xs ++ y ∷ ys) (length xs) d ≡ y
at_seam [] y ys d = refl
at_seam (x ∷ xs) y ys d = at_seam xs y ys d

pub readable_all : {O S : Type 0} (opener : O → OpenerState) (source : S → SourceState) (d : DataType) (request : ScanRequest) (place before : ℕ) (old mid : List (ScanFile O S)) (gs : List Given) (ss : List Seat)
    → AreSeated opener source d request.row_range place before old mid gs ss → All (λ (s : Seat). All IsReadable (s.segments).items) ss
readable_all opener source d request place before [] [] [] [] h = All-nil (λ (s : Seat). All IsReadable (s.segments).items)
readable_all opener source d request place before [] [] [] (s ∷ ss) h = absurd h
readable_all opener source d request place before [] [] (g ∷ gs) ss h = absurd h
readable_all opener source d request place before [] (t ∷ ts) gs ss h = absurd h
readable_all opener source d request place before (f ∷ fs) [] gs ss h = absurd h
readable_all opener source d request place before (f ∷ fs) (t ∷ ts) [] ss h = absurd h
readable_all opener source d request place before (f ∷ fs) (t ∷ ts) (g ∷ gs) [] h = absurd h
readable_all opener source d request place before (f ∷ fs) (t ∷ ts) (g ∷ gs) (s ∷ ss) h =
    All-cons (λ (x : Seat). All IsReadable (x.segments).items) s ss (h.2).readable (readable_all opener source d request (place + 1) (before + rows_given g) fs ts gs ss h.3)

module _ {O S : Type 0} (opener : O → OpenerState) (source : S → SourceState) (workers : ℕ) (d : DataType) (request : ScanRequest) where
  -- the first fault is that of the file behind files that have none
  first_behind : (place before : ℕ) (old mid : List (ScanFile O S)) (gs : List Given) (ss : List Seat) (f : ScanFile O S) (e : UnionFault) → AreSeated opener source d request.row_range place before old mid gs ss
      → AllGive opener source (old ++ f ∷ [])
      → (IsSome (opener f.opener).gives → option_map (of_file (place + length old)) (given_fault d request.row_range (before + rows_all gs) (unwrap_or (opener f.opener).gives skip)) ≡ Some e)
      → first_file_fault_from d request place before (told opener source (old ++ f ∷ [])) ≡ Some e
  first_behind place before [] [] [] [] f e h all own =
      let is = own (All-head (λ (x : ScanFile O S). IsSome (opener x.opener).gives) f [] all) in
      let a : place + 0 ≡ place = omega arith in
      let b : before + 0 ≡ before = omega arith in
      let here : option_map (of_file place) (given_fault d request.row_range before (unwrap_or (opener f.opener).gives skip)) ≡ Some e =
      subst (λ n. option_map (of_file n) (given_fault d request.row_range before (unwrap_or (opener f.opener).gives skip)) ≡ Some e) a
      (subst (λ n. option_map (of_file (place + 0)) (given_fault d request.row_range n (unwrap_or (opener f.opener).gives skip)) ≡ Some e) b is) in
      ap (λ o. or_later o None) here
  first_behind place before [] [] [] (s ∷ ss) f e h all own = absurd h
  first_behind place before [] [] (g ∷ gs) ss f e h all own = absurd h
  first_behind place before [] (t ∷ ts) gs ss f e h all own = absurd h
  first_behind place before (x ∷ fs) [] gs ss f e h all own = absurd h
  first_behind place before (x ∷ fs) (t ∷ ts) [] ss f e h all own = absurd h
  first_behind place before (x ∷ fs) (t ∷ ts) (g ∷ gs) [] f e h all own = absurd h
  first_behind place before (x ∷ fs) (t ∷ ts) (g ∷ gs) (s ∷ ss) f e h all own =
      let some = All-head (λ (y : ScanFile O S). IsSome (opener y.opener).gives) x (fs ++ f ∷ []) all in
      let is : unwrap_or (opener x.opener).gives skip ≡ g = given_told opener source d request.row_range (opener x.opener).gives g some (h.0).told in
      let none : given_fault d request.row_range before (unwrap_or (opener x.opener).gives skip) ≡ None = ap (given_fault d request.row_range before) is ∙ h.1 in
      let a : place + suc (length fs) ≡ place + 1 + length fs = omega arith in
      let b : before + (rows_given g + rows_all gs) ≡ before + rows_given g + rows_all gs = omega arith in
      let later = first_behind (place + 1) (before + rows_given g) fs ts gs ss f e h.3 (All-tail (λ (y : ScanFile O S). IsSome (opener y.opener).gives) x (fs ++ f ∷ []) all)
      (λ told. subst (λ n. option_map (of_file n) (given_fault d request.row_range (before + rows_given g + rows_all gs) (unwrap_or (opener f.opener).gives skip)) ≡ Some e) a
      (subst (λ n. option_map (of_file (place + suc (length fs))) (given_fault d request.row_range n (unwrap_or (opener f.opener).gives skip)) ≡ Some e) b (own told))) in
      let rest : first_file_fault_from d request (place + 1) (before + rows_given (unwrap_or (opener x.opener).gives skip)) (told opener source (fs ++ f ∷ [])) ≡ Some e =
      (λ i. first_file_fault_from d request (place + 1) (before + rows_given (is i)) (told opener source (fs ++ f ∷ []))) ∙ later in
      λ i. or_later (option_map (of_file place) (none i)) (rest i)

  module _ (old new : List (ScanFile O S)) (types : first_request_fault workers d request ≡ None) (room : request.limit ≢ Some 0) (opens : OpensFront opener source old new) where
    module _ (e : UnionFault) (s : StopsAt opener source d request.row_range old new e) where
      there : length s.front < length old
      there = let n : length old ≡ length s.front + suc (length s.rest) = ap length s.before ∙ length-append s.front (s.file ∷ s.rest) in omega (arith, n)

      old_at : (x : ScanFile O S) → get_or old (length s.front) x ≡ s.file
      old_at x = ap (λ xs. get_or xs (length s.front) x) s.before ∙ at_seam s.front s.file s.rest x

      new_at : (x : ScanFile O S) → get_or new (length s.front) x ≡ s.polled
      new_at x =
          let n : length s.opened ≡ length s.front = (made_count opener source d request.row_range 0 0 s.front s.opened s.given s.seats s.seated).1 in
          ap (λ xs. get_or xs (length s.front) x) s.after ∙ (λ i. get_or (s.opened ++ s.polled ∷ s.rest) (sym n i) x) ∙ at_seam s.opened s.polled s.rest x

      front_only : take (length s.front) old ≡ s.front
      front_only = ap (take (length s.front)) s.before ∙ take-append_seam s.front (s.file ∷ s.rest)

      up_to : take (length s.front + 1) old ≡ s.front ++ s.file ∷ []
      up_to =
          let n : length (s.front ++ s.file ∷ []) ≡ length s.front + 1 = length-append s.front (s.file ∷ []) in
          ap (take (length s.front + 1)) (s.before ∙ sym (append_assoc s.front (s.file ∷ []) s.rest)) ∙ (λ i. take (sym n i) ((s.front ++ s.file ∷ []) ++ s.rest)) ∙ take-append_seam (s.front ++ s.file ∷ []) s.rest

      at_file : (P : ScanFile O S → ScanFile O S → Type 0) → P s.file s.polled → IsOfUnionFile opener source workers d request old new (length s.front) P
      at_file P h = record {
        late = types;
        room = room;
        there = there;
        fact = λ x. subst (λ y. P y (get_or new (length s.front) x)) (sym (old_at x)) (subst (λ y. P s.file y) (sym (new_at x)) h);
      }

      opener_cause : OpenerFailed (opener (s.file).opener) (opener (s.polled).opener) → IsOpenerCause opener source workers d request old new (length s.front)
      opener_cause bad = record {
        file = at_file (λ f g. OpenerFailed (opener f.opener) (opener g.opener)) bad;
        first = λ gives. subst (λ xs. first_file_fault d request (told opener source xs) ≡ None) (sym front_only)
            (sound_all opener source d request 0 0 s.front s.opened s.given s.seats s.seated (subst (λ xs. AllGive opener source xs) front_only gives));
      }

      unread_cause : (x : FileFault) → Gave (opener (s.file).opener) (λ g. given_fault d request.row_range (rows_all s.given) g ≡ Some x) → IsUnreadCause opener source workers d request old new (length s.front) (of_file (length s.front) x)
      unread_cause x gave = record {
        file = record { late = types; room = room; there = there; fact = λ y. none_asked opener source workers d request old new opens (length s.front) y };
        none = λ k y. none_asked opener source workers d request old new opens k y;
        first = λ gives. subst (λ xs. first_file_fault d request (told opener source xs) ≡ Some (of_file (length s.front) x)) (sym up_to)
            (first_behind 0 0 s.front s.opened s.given s.seats s.file (of_file (length s.front) x) s.seated (subst (λ xs. AllGive opener source xs) up_to gives)
            (λ some.
            let is : unwrap_or (opener (s.file).opener).gives skip ≡ gave.given = given_told opener source d request.row_range (opener (s.file).opener).gives gave.given some gave.told in
            let at : 0 + length s.front ≡ length s.front = omega arith in
            let rows : 0 + rows_all s.given ≡ rows_all s.given = omega arith in
            (λ i. option_map (of_file (at i)) (given_fault d request.row_range (rows i) (unwrap_or (opener (s.file).opener).gives skip)))
            ∙ ap (λ o. option_map (of_file (length s.front)) o) (ap (given_fault d request.row_range (rows_all s.given)) is ∙ gave.fact)));
      }

      stop_cause : (x : FileFault) → IsFileFault d request.row_range (rows_all s.given) (opener (s.file).opener) (opener (s.polled).opener) x → HasUnionCause opener source workers d request old new (of_file (length s.front) x)
      stop_cause file.NoMemory h = tt
      stop_cause file.Opener h = opener_cause h
      stop_cause file.DTypeMismatch h = unread_cause file.DTypeMismatch h
      stop_cause (file.Layout f) h = unread_cause (file.Layout f) h
      stop_cause file.RowRangePast h = unread_cause file.RowRangePast h
      stop_cause file.TooManyRows h = unread_cause file.TooManyRows h
      stop_cause file.TooManySegments h = unread_cause file.TooManySegments h

      pub stops_for : HasUnionCause opener source workers d request old new e
      stops_for = subst (λ x. HasUnionCause opener source workers d request old new x) (sym s.is) (stop_cause s.why s.fact)

    pub opened_err : (e : UnionFault) → IsOpenFault opener source d request.row_range old new e → IsUnionRefusedFor opener source workers d request old new e
    opened_err e (inl short) = judged_late opener source workers d request old new e types (subst (λ x. HasUnionCause opener source workers d request old new x) (sym short) tt)
    opened_err e (inr s) = judged_late opener source workers d request old new e types (stops_for e s)

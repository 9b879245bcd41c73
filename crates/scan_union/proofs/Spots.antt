-- Each file of a scan over a union: as it was, opened, under the other dtype, and put back.
use Rattle.std.proofs.Common.{◌≡◌, ℕ, zero, suc, ◌<◌, ◌+◌, List, [], ◌∷◌, length, map, arith, refl, sym, subst, ap, ◌∙◌, Option, Some, None, All, IfSome, IsSome, get_or}
use Rattle.std.specs.Prelude.{option_map, unwrap_or}
use Rattle.std.proofs.lemmas.List.Elements.{All-nil, All-cons, All-head, All-tail}
use Rattle.std.specs.declared.ops.Range.{Range}
use Rattle.scan_values.specs.DataType.{DataType}
use Rattle.scan_expr.specs.declared.request.ScanRequest.{ScanRequest}
use Rattle.scan_segments.specs.Source.{SourceState, Store}
use Rattle.scan_opener.specs.Opener.{Given, skip, OpenerState}
use Rattle.scan_opener.specs.OpenerMemory.{given_of}
use Rattle.scan_opener.specs.declared.opener.MemoryOpener.{MemoryOpener}
use Rattle.scan_drive.specs.declared.files.ScanFile.{ScanFile}
use Rattle.scan_multi.specs.Checks.{rows_given}
use Rattle.scan_multi.specs.Lawful.{told, told_file, Tells, IsIdle, AllGive}
use Rattle.scan_widen.specs.declared.behind.Behind.{Behind}
use Rattle.scan_widened.specs.Faults.{given_fault}
use Rattle.scan_widened.specs.Identity.{beside}
use Rattle.scan_widened.specs.Sources.{UnionState, state_of, Follow}
pub use Rattle.scan_union.specs.Made.{memory}
use Rattle.scan_union.specs.Seats.{Pairs, IsSeat, IsPolledFile, IsOpenedFile, AreSeated, make_file, make_all, rest_of, back_file, back_all}
use Rattle.scan_union.specs.Under.{behind_of, given_under, file_under, of_file, or_later, first_file_fault_from}
use Rattle.scan_union.specs.declared.seat.Seat.{Seat}

module _ {O S : Type 0} (opener : O → OpenerState) (source : S → SourceState) (d : DataType) (range : Option (Range ℕ)) where
  -- one file, by its place
  pub record Spot (old mid new : List (ScanFile O S)) (made made' : List (ScanFile MemoryOpener (UnionState S))) (k place : ℕ) : Type 0 where
    pub file : ScanFile O S
    pub opened : ScanFile O S
    pub given : Given
    pub seat : Seat
    pub after : ScanFile MemoryOpener (UnionState S)
    pub old_at : (x : ScanFile O S) → get_or old k x ≡ file
    pub mid_at : (x : ScanFile O S) → get_or mid k x ≡ opened
    pub new_at : (x : ScanFile O S) → get_or new k x ≡ back_file (rest_of opened) after
    pub made_at : (x : ScanFile MemoryOpener (UnionState S)) → get_or made k x ≡ make_file source opened seat
    pub after_at : (x : ScanFile MemoryOpener (UnionState S)) → get_or made' k x ≡ after
    pub opens : IsOpenedFile opener source file opened given
    pub before : ℕ
    pub sound : given_fault d range before given ≡ None
    pub seated : IsSeat d place given seat
    pub follow : Follow source after.source

  pub spot : (place before : ℕ) (old mid : List (ScanFile O S)) (gs : List Given) (ss : List Seat) (made' : List (ScanFile MemoryOpener (UnionState S)))
      → AreSeated opener source d range place before old mid gs ss → length made' ≡ length old → All (λ m. Follow source m.source) made' → (k : ℕ) → k < length old
      → Spot old mid (back_all (map rest_of mid) made') (make_all source mid ss) made' k (place + k)
  spot place before [] mid gs ss made' h n all k lt = absurd (omega (arith, lt))
  spot place before (f ∷ fs) [] gs ss made' h n all k lt = absurd h
  spot place before (f ∷ fs) (t ∷ ts) [] ss made' h n all k lt = absurd h
  spot place before (f ∷ fs) (t ∷ ts) (g ∷ gs) [] made' h n all k lt = absurd h
  spot place before (f ∷ fs) (t ∷ ts) (g ∷ gs) (s ∷ ss) [] h n all k lt = absurd (omega (arith, n))
  spot place before (f ∷ fs) (t ∷ ts) (g ∷ gs) (s ∷ ss) (m ∷ ms) h n all zero lt = record {
    file = f;
    opened = t;
    given = g;
    seat = s;
    after = m;
    old_at = λ x. refl;
    mid_at = λ x. refl;
    new_at = λ x. refl;
    made_at = λ x. refl;
    after_at = λ x. refl;
    opens = h.0;
    before = before;
    sound = h.1;
    seated = subst (λ p. IsSeat d p g s) (let e : place ≡ place + 0 = omega arith in e) h.2;
    follow = All-head (λ (x : ScanFile MemoryOpener (UnionState S)). Follow source x.source) m ms all;
  }
  spot place before (f ∷ fs) (t ∷ ts) (g ∷ gs) (s ∷ ss) (m ∷ ms) h n all (suc k) lt =
      let r = spot (place + 1) (before + rows_given g) fs ts gs ss ms h.3 (omega (arith, n)) (All-tail (λ (x : ScanFile MemoryOpener (UnionState S)). Follow source x.source) m ms all) k (omega (arith, lt)) in
      record {
        file = r.file;
        opened = r.opened;
        given = r.given;
        seat = r.seat;
        after = r.after;
        old_at = r.old_at;
        mid_at = r.mid_at;
        new_at = r.new_at;
        made_at = r.made_at;
        after_at = r.after_at;
        opens = r.opens;
        before = r.before;
        sound = r.sound;
        seated = subst (λ p. IsSeat d p r.given r.seat) (let e : place + 1 + k ≡ place + suc k = omega arith in e) r.seated;
        follow = r.follow;
      }

  -- ---- the lists
  pub made_count : (place before : ℕ) (old mid : List (ScanFile O S)) (gs : List Given) (ss : List Seat) → AreSeated opener source d range place before old mid gs ss
      → (length (make_all source mid ss) ≡ length old) × (length mid ≡ length old) × (length ss ≡ length old)
  made_count place before [] [] [] [] h = (refl, refl, refl)
  made_count place before [] [] [] (s ∷ ss) h = absurd h
  made_count place before [] [] (g ∷ gs) ss h = absurd h
  made_count place before [] (t ∷ ts) gs ss h = absurd h
  made_count place before (f ∷ fs) [] gs ss h = absurd h
  made_count place before (f ∷ fs) (t ∷ ts) [] ss h = absurd h
  made_count place before (f ∷ fs) (t ∷ ts) (g ∷ gs) [] h = absurd h
  made_count place before (f ∷ fs) (t ∷ ts) (g ∷ gs) (s ∷ ss) h = let r = made_count (place + 1) (before + rows_given g) fs ts gs ss h.3 in (ap suc r.0, ap suc r.1, ap suc r.2)

  pub polled_pairs : (place before : ℕ) (old mid : List (ScanFile O S)) (gs : List Given) (ss : List Seat) → AreSeated opener source d range place before old mid gs ss → Pairs (IsPolledFile opener source) old mid
  polled_pairs place before [] [] [] [] h = tt
  polled_pairs place before [] [] [] (s ∷ ss) h = absurd h
  polled_pairs place before [] [] (g ∷ gs) ss h = absurd h
  polled_pairs place before [] (t ∷ ts) gs ss h = absurd h
  polled_pairs place before (f ∷ fs) [] gs ss h = absurd h
  polled_pairs place before (f ∷ fs) (t ∷ ts) [] ss h = absurd h
  polled_pairs place before (f ∷ fs) (t ∷ ts) (g ∷ gs) [] h = absurd h
  polled_pairs place before (f ∷ fs) (t ∷ ts) (g ∷ gs) (s ∷ ss) h = ((h.0).polled, polled_pairs (place + 1) (before + rows_given g) fs ts gs ss h.3)

  -- ---- what a file tells
  pub given_told : (o : Option Given) (g : Given) → IsSome o → IfSome o (λ h. h ≡ g) → unwrap_or o skip ≡ g
  given_told None g some h = absurd cc
  given_told (Some x) g some h = h

  holds_told : (b : List Behind) (h : Option Store) → IsSome h → unwrap_or (option_map (beside b) h) (λ id. None) ≡ beside b (unwrap_or h (λ id. None))
  holds_told b None some = absurd cc
  holds_told b (Some x) some = refl

  pub told_made : (place : ℕ) (f t : ScanFile O S) (g : Given) (s : Seat) → IsOpenedFile opener source f t g → IsSeat d place g s → Tells opener source f
      → told_file memory (state_of source) (make_file source t s) ≡ file_under d (told_file opener source f)
  told_made place f t g s o seat tells =
      let is : unwrap_or (opener f.opener).gives skip ≡ g = given_told (opener f.opener).gives g tells.gives o.told in
      let gives : given_of (s.opener).gives ≡ given_under d (unwrap_or (opener f.opener).gives skip) = (seat.opener).gives ∙ ap (given_under d) (sym is) in
      let segs : (s.segments).items ≡ behind_of d (unwrap_or (opener f.opener).gives skip) = seat.segments ∙ ap (behind_of d) (sym is) in
      let holds : (source t.source).holds ≡ (source f.source).holds = ap (λ (x : S). (source x).holds) (o.polled).kept in
      let store : unwrap_or (option_map (beside (s.segments).items) (source t.source).holds) (λ id. None) ≡ beside (behind_of d (unwrap_or (opener f.opener).gives skip)) (unwrap_or (source f.source).holds (λ id. None)) =
      (λ i. unwrap_or (option_map (beside (segs i)) (holds i)) (λ id. None)) ∙ holds_told (behind_of d (unwrap_or (opener f.opener).gives skip)) (source f.source).holds tells.holds in
      λ i. record { given = gives i; store = store i }

  pub told_all : (place before : ℕ) (old mid : List (ScanFile O S)) (gs : List Given) (ss : List Seat) → AreSeated opener source d range place before old mid gs ss → All (Tells opener source) old
      → told memory (state_of source) (make_all source mid ss) ≡ map (file_under d) (told opener source old)
  told_all place before [] [] [] [] h all = refl
  told_all place before [] [] [] (s ∷ ss) h all = absurd h
  told_all place before [] [] (g ∷ gs) ss h all = absurd h
  told_all place before [] (t ∷ ts) gs ss h all = absurd h
  told_all place before (f ∷ fs) [] gs ss h all = absurd h
  told_all place before (f ∷ fs) (t ∷ ts) [] ss h all = absurd h
  told_all place before (f ∷ fs) (t ∷ ts) (g ∷ gs) [] h all = absurd h
  told_all place before (f ∷ fs) (t ∷ ts) (g ∷ gs) (s ∷ ss) h all =
      let one = told_made place f t g s h.0 h.2 (All-head (Tells opener source) f fs all) in
      let more = told_all (place + 1) (before + rows_given g) fs ts gs ss h.3 (All-tail (Tells opener source) f fs all) in
      λ i. one i ∷ more i

  tells_one : (t : ScanFile O S) (s : Seat) (h : Option Store) → (source t.source).holds ≡ h → IsSome h → Tells memory (state_of source) (make_file source t s)
  tells_one t s None e some = absurd cc
  tells_one t s (Some x) e some = record { gives = refl; holds = subst (λ o. IsSome (option_map (beside (s.segments).items) o)) (sym e) refl }

  pub tells_made : (place before : ℕ) (old mid : List (ScanFile O S)) (gs : List Given) (ss : List Seat) → AreSeated opener source d range place before old mid gs ss → All (Tells opener source) old
      → All (Tells memory (state_of source)) (make_all source mid ss)
  tells_made place before [] [] [] [] h all = All-nil (Tells memory (state_of source))
  tells_made place before [] [] [] (s ∷ ss) h all = absurd h
  tells_made place before [] [] (g ∷ gs) ss h all = absurd h
  tells_made place before [] (t ∷ ts) gs ss h all = absurd h
  tells_made place before (f ∷ fs) [] gs ss h all = absurd h
  tells_made place before (f ∷ fs) (t ∷ ts) [] ss h all = absurd h
  tells_made place before (f ∷ fs) (t ∷ ts) (g ∷ gs) [] h all = absurd h
  tells_made place before (f ∷ fs) (t ∷ ts) (g ∷ gs) (s ∷ ss) h all =
      let own = All-head (Tells opener source) f fs all in
      All-cons (Tells memory (state_of source)) (make_file source t s) (make_all source ts ss)
      (tells_one t s (source f.source).holds (ap (λ (x : S). (source x).holds) ((h.0).polled).kept) own.holds)
      (tells_made (place + 1) (before + rows_given g) fs ts gs ss h.3 (All-tail (Tells opener source) f fs all))

  -- ---- idle
  pub idle_mid : (place before : ℕ) (old mid : List (ScanFile O S)) (gs : List Given) (ss : List Seat) → AreSeated opener source d range place before old mid gs ss → All (IsIdle opener source) old → All (IsIdle opener source) mid
  idle_mid place before [] [] [] [] h all = All-nil (IsIdle opener source)
  idle_mid place before [] [] [] (s ∷ ss) h all = absurd h
  idle_mid place before [] [] (g ∷ gs) ss h all = absurd h
  idle_mid place before [] (t ∷ ts) gs ss h all = absurd h
  idle_mid place before (f ∷ fs) [] gs ss h all = absurd h
  idle_mid place before (f ∷ fs) (t ∷ ts) [] ss h all = absurd h
  idle_mid place before (f ∷ fs) (t ∷ ts) (g ∷ gs) [] h all = absurd h
  idle_mid place before (f ∷ fs) (t ∷ ts) (g ∷ gs) (s ∷ ss) h all = All-cons (IsIdle opener source) t ts
      (ap (λ (x : S). (source x).live) ((h.0).polled).kept ∙ All-head (IsIdle opener source) f fs all) (idle_mid (place + 1) (before + rows_given g) fs ts gs ss h.3 (All-tail (IsIdle opener source) f fs all))

module _ {O S : Type 0} (opener : O → OpenerState) (source : S → SourceState) (d : DataType) (request : ScanRequest) where
  -- no file has a fault, as far as openers tell
  pub sound_all : (place before : ℕ) (old mid : List (ScanFile O S)) (gs : List Given) (ss : List Seat) → AreSeated opener source d request.row_range place before old mid gs ss
      → AllGive opener source old → first_file_fault_from d request place before (told opener source old) ≡ None
  sound_all place before [] mid gs ss h all = refl
  sound_all place before (f ∷ fs) [] gs ss h all = absurd h
  sound_all place before (f ∷ fs) (t ∷ ts) [] ss h all = absurd h
  sound_all place before (f ∷ fs) (t ∷ ts) (g ∷ gs) [] h all = absurd h
  sound_all place before (f ∷ fs) (t ∷ ts) (g ∷ gs) (s ∷ ss) h all =
      let some = All-head (λ (x : ScanFile O S). IsSome (opener x.opener).gives) f fs all in
      let is : unwrap_or (opener f.opener).gives skip ≡ g = given_told opener source d request.row_range (opener f.opener).gives g some (h.0).told in
      let own : given_fault d request.row_range before (unwrap_or (opener f.opener).gives skip) ≡ None = ap (given_fault d request.row_range before) is ∙ h.1 in
      let more = sound_all (place + 1) (before + rows_given g) fs ts gs ss h.3 (All-tail (λ (x : ScanFile O S). IsSome (opener x.opener).gives) f fs all) in
      let rest : first_file_fault_from d request (place + 1) (before + rows_given (unwrap_or (opener f.opener).gives skip)) (told opener source fs) ≡ None =
      (λ i. first_file_fault_from d request (place + 1) (before + rows_given (is i)) (told opener source fs)) ∙ more in
      λ i. or_later (option_map (of_file place) (own i)) (rest i)

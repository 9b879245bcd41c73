-- The causes of the faults of a scan under a dtype, as those of a scan over a union.
use Rattle.std.proofs.Common.{◌≡◌, ◌≢◌, inl, inr, ℕ, ◌<◌, ◌≤◌, ◌+◌, ◌^◌, List, [], ◌∷◌, length, map, take, arith, refl, sym, subst, ap, ◌∙◌, Bool, true, false, Option, Some, None, All, IsSome, get_or}
use Rattle.std.specs.Prelude.{option_and_then, slice_get, ◌&&◌, nat_lt}
use Rattle.std.proofs.lemmas.List.Sums.{sum-map, sum_by-cons}
use Rattle.std.proofs.lemmas.Bool.Decides.{nat_tests}
use Rattle.std.proofs.lemmas.List.Elements.{All-nil, All-cons, All-get_or, All-weaker}
use Rattle.std.proofs.lemmas.Option.{slice_get-get_or}
use Rattle.std.specs.Option.{is_none}
use Rattle.scan_values.specs.DataType.{DataType, depth_of}
use Rattle.scan_expr.specs.declared.request.ScanRequest.{ScanRequest}
use Rattle.scan_segments.specs.Cache.{empty_cache}
use Rattle.scan_segments.specs.Source.{SourceState}
use Rattle.scan_segments.specs.Script.{ScriptState, has_number}
use Rattle.scan_layout.specs.Check.{first_fault}
use Rattle.scan_layout.specs.declared.fault.LayoutFault.{LayoutFault}
use Rattle.scan_layout.specs.Layout.{Layout, dtype_of, rows_of}
use Rattle.scan_layout.proofs.Forms.{well_formed}
use Rattle.scan_opener.specs.Opener.{Given, skip, layout_of, OpenerState, OpenerFailed}
use Rattle.scan_opener.specs.OpenerMemory.{given_of}
use Rattle.scan_opener.specs.declared.opener.MemoryOpener.{MemoryOpener}
use Rattle.scan_drive.specs.Drivings.{SourceFailed}
use Rattle.scan_drive.specs.Traffic.{WasAsked}
use Rattle.scan_drive.specs.declared.files.ScanFile.{ScanFile}
use Rattle.scan_multi.specs.Answer.{ToldFile, is_good, answer, is_within}
use Rattle.scan_multi.specs.Before.{GoesOn}
use Rattle.scan_multi.specs.Causes.{HasCause, IsOfFile, IsSourceCause, IsCorruptCause, MayHaveCome, IfLawful, Stops, AreTooMany}
use Rattle.scan_multi.specs.Checks.{rows_given, rows_in, IsGood, IsOfOtherType, IsIllFormed, EndsPast}
use Rattle.scan_multi.specs.Damaged.{IsDamaged}
use Rattle.scan_multi.specs.Lawful.{told, told_file, Tells, IsLawful, AllGive}
use Rattle.scan_multi.specs.Overflow.{OverflowsIn}
use Rattle.scan_multi.specs.Request.{first_request_fault}
use Rattle.scan_multi.specs.declared.scan.fault.RangeFault.TheVariants.{Reversed, Past}
use Rattle.scan_multi.specs.declared.scan.fault.ScanFault.{ScanFault}
use Rattle.scan_multi.specs.declared.scan.fault.ScanFault.TheVariants as scan
use Rattle.scan_multi.proofs.Complete.{counted-rows}
use Rattle.scan_widen.proofs.RowsAll.{rows_under, own_form, both}
use Rattle.scan_widened.specs.Faults.{given_fault}
use Rattle.scan_widened.specs.Identity.{inner_of}
use Rattle.scan_widened.specs.Sources.{UnionState, state_of, parts_of, fresh}
use Rattle.scan_widened.proofs.Files.{sound_file}
use Rattle.scan_widened.proofs.Inner.{stands_same}
pub use Rattle.scan_union.specs.Made.{inner_in}
use Rattle.scan_union.specs.Seats.{AreSeated, make_file, make_all}
use Rattle.scan_union.specs.Under.{behind_of, given_under, file_under, fault_over, read_inner, first_file_fault}
use Rattle.scan_union.specs.UnionCauses.{HasUnionCause, IsReadCause, IsUnionSource, IsUnionCorrupt, IsDamagedBehind, OverflowsUnder}
use Rattle.scan_union.specs.declared.fault.UnionFault.TheVariants as fault
use Rattle.scan_union.specs.declared.seat.Seat.{Seat}
use Rattle.scan_union.proofs.Answering.{good_layout, first_answers}
use Rattle.scan_union.proofs.Scanned.{Trip, file_moved, steps, inner_steps, inner_asked, same_place}
use Rattle.scan_union.proofs.Spots.{Spot, memory, told_made, given_told}

is_none_of : {A : Type 0} (o : Option A) → is_none o ≡ true → o ≡ None
is_none_of None e = refl
is_none_of (Some x) e = absurd cc

-- ---- rows
room_rows : (d : DataType) (request : ScanRequest) (before : ℕ) (g : Given) → given_fault d request.row_range before g ≡ None → before < 2 ^ 64 → before + rows_given g < 2 ^ 64
room_rows d request before skip none lt = omega (arith, lt)
room_rows d request before (layout_of l) none lt = go (nat_lt (rows_of l + 1) (2 ^ 64)) _ (nat_lt (before + rows_of l) (2 ^ 64)) refl (sound_file d request.row_range before l none).room
  where
    go : (a b c : Bool) → nat_lt (before + rows_of l) (2 ^ 64) ≡ c → (a && (b && c)) ≡ true → before + rows_of l < 2 ^ 64
    go true true true e h = grind (arith, nat_tests, e)
    go true true false e h = absurd cc
    go true false c e h = absurd cc
    go false b c e h = absurd cc

rows_same : (d : DataType) (g : Given) → rows_given (given_under d g) ≡ rows_given g
rows_same d skip = refl
rows_same d (layout_of l) = rows_under d 0 l

module _ {O S : Type 0} (opener : O → OpenerState) (source : S → SourceState) (d : DataType) (request : ScanRequest) where
  pub room_all : (place before : ℕ) (old mid : List (ScanFile O S)) (gs : List Given) (ss : List Seat) → AreSeated opener source d request.row_range place before old mid gs ss → before < 2 ^ 64
      → before + rows_in (told memory (state_of source) (make_all source mid ss)) < 2 ^ 64
  room_all place before [] [] [] [] h lt = omega (arith, lt)
  room_all place before [] [] [] (s ∷ ss) h lt = absurd h
  room_all place before [] [] (g ∷ gs) ss h lt = absurd h
  room_all place before [] (t ∷ ts) gs ss h lt = absurd h
  room_all place before (f ∷ fs) [] gs ss h lt = absurd h
  room_all place before (f ∷ fs) (t ∷ ts) [] ss h lt = absurd h
  room_all place before (f ∷ fs) (t ∷ ts) (g ∷ gs) [] h lt = absurd h
  room_all place before (f ∷ fs) (t ∷ ts) (g ∷ gs) (s ∷ ss) h lt =
      let here = room_rows d request before g h.1 lt in
      let more = room_all (place + 1) (before + rows_given g) fs ts gs ss h.3 here in
      let rows : ToldFile → ℕ = λ f. rows_given f.given in
      let one : ToldFile = told_file memory (state_of source) (make_file source t s) in
      let rest : List ToldFile = told memory (state_of source) (make_all source ts ss) in
      let own : rows one ≡ rows_given g = ap rows_given ((h.2).opener).gives ∙ rows_same d g in
      let all : rows_in (one ∷ rest) ≡ rows one + rows_in rest = sum-map rows (one ∷ rest) ∙ sum_by-cons rows one rest ∙ ap (λ n. rows one + n) (sym (sum-map rows rest)) in
      omega (arith, more, own, all)

  module _ (workers : ℕ) (old mid new : List (ScanFile O S)) (made made' : List (ScanFile MemoryOpener (UnionState S))) (trip : Trip opener source d request old mid new made made')
      (told_is : All (Tells opener source) old → told memory (state_of source) made ≡ map (file_under d) (told opener source old)) (lawful : All (Tells opener source) old → IsLawful memory (state_of source) made empty_cache)
      (sound : AllGive opener source old → first_file_fault d request (told opener source old) ≡ None) (few : rows_in (told memory (state_of source) made) < 2 ^ 64) (count : length made' ≡ length old)
      (types : first_request_fault workers d request ≡ None) (room : request.limit ≢ Some 0) (deep : depth_of d ≤ 64) where
    -- the file of a fault
    there_of : (place : ℕ) → place < length made → place < length old
    there_of place lt = let n = trip.made_count in omega (arith, lt, n)

    -- of a file that is not read whole
    read_cause : (place : ℕ) (P : ScanFile O S → ScanFile O S → Type 0) (Q : ScanFile MemoryOpener (UnionState S) → ScanFile MemoryOpener (UnionState S) → Type 0)
        → IsOfFile memory (state_of source) workers d request empty_cache made made' place Q → ((f : ScanFile O S) → P (get_or old place f) (get_or new place f)) → IsReadCause opener source workers d request old new place P
    read_cause place P Q c fact = record {
      file = record { late = types; room = room; there = there_of place c.there; fact = fact };
      good = sound;
      before = λ ordered tells.
          let none = sound (All-weaker (Tells opener source) (λ f. IsSome (opener f.opener).gives) (λ f t. t.gives) old tells) in
          subst (λ items. GoesOn request.limit items) (ap (λ fs. answer d request (take place fs)) (told_is tells) ∙ first_answers d request deep place (told opener source old) none) (c.before ordered (lawful tells));
    }

    -- ---- faults that do not come
    -- an opener that gives what it was made with does not fail
    no_opener : (place : ℕ) → IsOfFile memory (state_of source) workers d request empty_cache made made' place (λ f g. OpenerFailed (memory f.opener) (memory g.opener)) → ⊥
    no_opener place c =
        let p = trip.spots place (there_of place c.there) in
        let bad = (c.fact p.after).1 in
        let is : (memory (get_or made place p.after).opener).can_fail ≡ false =
        ap (λ (x : ScanFile MemoryOpener (UnionState S)). (memory x.opener).can_fail) (p.made_at p.after) ∙ ap (λ (s : ScriptState). has_number s.failing) ((p.seated).opener).script in
        let no : true ≡ false = sym bad ∙ is in absurd cc

    -- what it gives is good under the dtype
    good_given : (before : ℕ) (g : Given) → given_fault d request.row_range before g ≡ None → IsGood d request (given_under d g)
    good_given before skip none = tt
    good_given before (layout_of l) none = good_layout d request deep before l none

    not_other : (g : Given) → IsGood d request g → IsOfOtherType d g → ⊥
    not_other skip good h = h
    not_other (layout_of l) good h = h (own_dtype l good)
      where
        own_dtype : (l : Layout) → is_good d request l ≡ true → dtype_of l ≡ d
        own_dtype l e = (own_form l d (well_formed l d (is_none_of (first_fault l d) (both (is_none (first_fault l d)) (is_within request.row_range (rows_of l)) e).0)).1).0

    not_ill : (f : LayoutFault) (g : Given) → IsGood d request g → IsIllFormed d f g → ⊥
    not_ill f skip good h = h
    not_ill f (layout_of l) good h =
        let none : first_fault l d ≡ None = is_none_of (first_fault l d) (both (is_none (first_fault l d)) (is_within request.row_range (rows_of l)) good).0 in
        let bad : None ≡ Some f = sym none ∙ h.1 in absurd cc

    not_past : (g : Given) → IsGood d request g → EndsPast d request g → ⊥
    not_past skip good h = h
    not_past (layout_of l) good h =
        let yes = (both (is_none (first_fault l d)) (is_within request.row_range (rows_of l)) good).1 in
        let bad : true ≡ false = sym yes ∙ h.1 in absurd cc

    no_stop : (place : ℕ) (P : Given → Type 0) → ((g : Given) → IsGood d request g → P g → ⊥) → IsOfFile memory (state_of source) workers d request empty_cache made made' place (Stops memory (state_of source) workers d request empty_cache made made' P) → ⊥
    no_stop place P bad c =
        let p = trip.spots place (there_of place c.there) in
        let gave : P (given_of ((get_or made place p.after).opener).gives) = (c.fact p.after).1 in
        let is : given_of ((get_or made place p.after).opener).gives ≡ given_under d p.given =
        ap (λ (x : ScanFile MemoryOpener (UnionState S)). given_of (x.opener).gives) (p.made_at p.after) ∙ ((p.seated).opener).gives in
        bad (given_under d p.given) (good_given p.before p.given p.sound) (subst P is gave)

    all_give : (fs : List (ScanFile MemoryOpener (UnionState S))) → AllGive memory (state_of source) fs
    all_give [] = All-nil (λ f. IsSome (memory f.opener).gives)
    all_give (f ∷ fs) = All-cons (λ f. IsSome (memory f.opener).gives) f fs refl (all_give fs)

    not_many : (place : ℕ) → AreTooMany memory (state_of source) workers d request empty_cache made made' place → ⊥
    not_many place h =
        let many = h (all_give made) in
        let most = counted-rows request.ordered place (told memory (state_of source) made) in
        omega (arith, many, most, few)

    -- ---- the segment behind
    module _ (place : ℕ) (p : Spot opener source d request.row_range old mid new made made' place place) (lt : place < length old) where
      stands : (segment k : ℕ) → inner_in made' place segment ≡ Some k → inner_of ((p.seat).segments).items segment ≡ Some k
      stands segment k e =
          let there : slice_get made' place ≡ Some p.after = slice_get-get_or made' place p.after (omega (arith, lt, count)) ∙ ap Some (p.after_at p.after) in
          let here : inner_of ((p.after).source).behind segment ≡ Some k = ap (λ o. option_and_then (λ (f : ScanFile MemoryOpener (UnionState S)). inner_of (f.source).behind segment) o) (sym there) ∙ e in
          sym (stands_same (parts_of source (fresh source (p.opened).source ((p.seat).segments).items)) (parts_of source (p.after).source)
          (steps opener source d request p.opened p.seat p.after (file_moved opener source d request old mid new made made' trip place p)) segment) ∙ here

      over : (P : SourceState → SourceState → Type 0) → P (state_of source (get_or made place p.after).source) (state_of source (get_or made' place p.after).source) → P (state_of source (make_file source p.opened p.seat).source) (state_of source (p.after).source)
      over P h =
          subst (λ (x : ScanFile MemoryOpener (UnionState S)). P (state_of source x.source) (state_of source (p.after).source)) (p.made_at p.after)
          (subst (λ (y : ScanFile MemoryOpener (UnionState S)). P (state_of source (get_or made place p.after).source) (state_of source y.source)) (p.after_at p.after) h)

      own : (P : SourceState → SourceState → Type 0) → P (source (p.opened).source) (source ((p.after).source).inner) → (f : ScanFile O S) → P (source (get_or old place f).source) (source (get_or new place f).source)
      own P h f =
          subst (λ (x : ScanFile O S). P (source x.source) (source (get_or new place f).source)) (sym (p.old_at f))
          (subst (λ (y : ScanFile O S). P (source (p.file).source) (source y.source)) (sym (p.new_at f))
          (subst (λ (x : S). P (source x) (source ((p.after).source).inner)) ((p.opens).polled).kept h))

      asked_there : (segment k : ℕ) → inner_in made' place segment ≡ Some k → WasAsked segment (state_of source (get_or made place p.after).source) (state_of source (get_or made' place p.after).source)
          → (f : ScanFile O S) → WasAsked k (source (get_or old place f).source) (source (get_or new place f).source)
      asked_there segment k e was f =
          own (WasAsked k) (inner_asked opener source d request p.opened p.seat p.after segment k p.follow (file_moved opener source d request old mid new made made' trip place p) (stands segment k e) (over (WasAsked segment) was)) f

      failed_there : SourceFailed (state_of source (get_or made place p.after).source) (state_of source (get_or made' place p.after).source) → (f : ScanFile O S) → SourceFailed (source (get_or old place f).source) (source (get_or new place f).source)
      failed_there h f =
          let bad = over SourceFailed h in
          let follows = inner_steps opener source d request p.opened p.seat p.after p.follow (file_moved opener source d request old mid new made made' trip place p) in
          own SourceFailed (follows.failed bad.0, bad.1) f

      -- where its file tells
      tells_at : All (Tells opener source) old → Tells opener source p.file
      tells_at tells = subst (λ (x : ScanFile O S). Tells opener source x) (p.old_at p.file) (All-get_or (Tells opener source) old place p.file lt tells)

      told_at : All (Tells opener source) old → told_file memory (state_of source) (get_or made place p.after) ≡ file_under d (told_file opener source p.file)
      told_at tells = ap (told_file memory (state_of source)) (p.made_at p.after) ∙ told_made opener source d request.row_range place p.file p.opened p.given p.seat p.opens p.seated (tells_at tells)

      damaged_there : (segment k : ℕ) → inner_in made' place segment ≡ Some k → (IsLawful memory (state_of source) made empty_cache → IsDamaged d request (told_file memory (state_of source) (get_or made place p.after)) segment)
          → (f : ScanFile O S) → All (Tells opener source) old → IsDamagedBehind d request (told_file opener source (get_or old place f)) k
      damaged_there segment k e damaged f tells =
          let segs : ((p.seat).segments).items ≡ behind_of d (told_file opener source p.file).given =
          (p.seated).segments ∙ ap (behind_of d) (sym (given_told opener source d request.row_range (opener (p.file).opener).gives p.given (tells_at tells).gives (p.opens).told)) in
          subst (λ (x : ScanFile O S). IsDamagedBehind d request (told_file opener source x) k) (sym (p.old_at f))
          (record {
            segment = segment;
            stands = subst (λ bs. inner_of bs segment ≡ Some k) segs (stands segment k e);
            damaged = subst (λ (t : ToldFile). IsDamaged d request t segment) (told_at tells) (damaged (lawful tells));
          })

      overflows_there : (IsLawful memory (state_of source) made empty_cache → OverflowsIn d request (told_file memory (state_of source) (get_or made place p.after)).given (told_file memory (state_of source) (get_or made place p.after)).store)
          → (f : ScanFile O S) → All (Tells opener source) old → OverflowsUnder d request (told_file opener source (get_or old place f))
      overflows_there spills f tells =
          subst (λ (x : ScanFile O S). OverflowsUnder d request (told_file opener source x)) (sym (p.old_at f)) (subst (λ (t : ToldFile). OverflowsIn d request t.given t.store) (told_at tells) (spills (lawful tells)))

      -- the bytes of a segment came by an ask of the file itself
      came_there : (segment : ℕ) → MayHaveCome memory (state_of source) empty_cache made made' segment (get_or made place p.after)
          → WasAsked segment (state_of source (get_or made place p.after).source) (state_of source (get_or made' place p.after).source)
      came_there segment (inr kept) = absurd cc
      came_there segment (inl a) =
          let same : a.place ≡ place = same_place opener source d request old mid new made made' trip a.place place p.after (there_of a.place a.there) lt (a.named p.after) in
          subst (λ k. WasAsked segment (state_of source (get_or made k p.after).source) (state_of source (get_or made' k p.after).source)) same (a.asked p.after)

    -- ---- the faults
    of_source : (place segment : ℕ) (o : Option ℕ) → inner_in made' place segment ≡ o
        → IsOfFile memory (state_of source) workers d request empty_cache made made' place (IsSourceCause memory (state_of source) workers d request empty_cache made made' segment)
        → HasUnionCause opener source workers d request old new (read_inner (λ k. scan.Source place k) o)
    of_source place segment None e c = tt
    of_source place segment (Some k) e c =
        let lt = there_of place c.there in
        let p = trip.spots place lt in
        let h = c.fact p.after in
        read_cause place (IsUnionSource opener source workers d request old new k) (IsSourceCause memory (state_of source) workers d request empty_cache made made' segment) c
        (λ f. record { failed = failed_there place p lt h.failed f; asked = asked_there place p lt segment k e h.asked f })

    of_corrupt : (place segment : ℕ) (o : Option ℕ) → inner_in made' place segment ≡ o
        → IsOfFile memory (state_of source) workers d request empty_cache made made' place (IsCorruptCause memory (state_of source) workers d request empty_cache made made' segment)
        → HasUnionCause opener source workers d request old new (read_inner (λ k. scan.Corrupt place k) o)
    of_corrupt place segment None e c = tt
    of_corrupt place segment (Some k) e c =
        let lt = there_of place c.there in
        let p = trip.spots place lt in
        let h = c.fact p.after in
        read_cause place (IsUnionCorrupt opener source workers d request old new k) (IsCorruptCause memory (state_of source) workers d request empty_cache made made' segment) c
        (λ f. record { damaged = damaged_there place p lt segment k e h.damaged f; asked = asked_there place p lt segment k e (came_there place p lt segment h.came) f })

    of_overflow : (place : ℕ) → IsOfFile memory (state_of source) workers d request empty_cache made made' place (λ f g. IfLawful memory (state_of source) workers d request empty_cache made made' (λ t. OverflowsIn d request t.given t.store) f)
        → HasUnionCause opener source workers d request old new (fault.Scan (scan.Overflow place))
    of_overflow place c =
        let lt = there_of place c.there in
        let p = trip.spots place lt in
        read_cause place (λ f g. All (Tells opener source) old → OverflowsUnder d request (told_file opener source f))
        (λ f g. IfLawful memory (state_of source) workers d request empty_cache made made' (λ t. OverflowsIn d request t.given t.store) f) c
        (λ f. overflows_there place p lt (c.fact p.after) f)

    pub caused : (e : ScanFault) → HasCause memory (state_of source) workers d request empty_cache made made' e → HasUnionCause opener source workers d request old new (fault_over (inner_in made') e)
    caused scan.NoMemory c = tt
    caused scan.Concurrency c = c
    caused scan.Partitions c = c
    caused (scan.RowRange Reversed) c = c
    caused (scan.Bind f) c = c
    caused (scan.Opener place) c = absurd (no_opener place c)
    caused (scan.DTypeMismatch place) c = absurd (no_stop place (IsOfOtherType d) not_other c)
    caused (scan.Layout place l) c = absurd (no_stop place (IsIllFormed d l) (not_ill l) c)
    caused (scan.RowRange (Past place)) c = absurd (no_stop place (EndsPast d request) not_past c)
    caused (scan.TooManyRows place) c = absurd (not_many place c.1)
    caused (scan.Source place id) c = of_source place id (inner_in made' place id) refl c
    caused (scan.Corrupt place id) c = of_corrupt place id (inner_in made' place id) refl c
    caused (scan.Overflow place) c = of_overflow place c

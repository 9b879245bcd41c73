-- Why a look-up is refused.
use Rattle.std.proofs.Common.{◌≡◌, ◌<◌, ◌≤◌, ◌||◌, ℕ, zero, suc, Bool, true, false, cond, List, [], ◌∷◌, Option, Some, None, IfSome, filter, get_or, length, map, inl, inr, refl, sym, ap, ◌∙◌, subst, arith, eqb}
use Rattle.std.specs.Prelude.{◌⊎◌, ◌==◌, All, Contains, IsSome, unwrap_or, Result, Ok, Err, IfErr}
use Rattle.std.specs.List.{slice_get}
use Rattle.std.proofs.lemmas.Bool.Decides.{nat_tests}
use Rattle.std.proofs.lemmas.Option.{get_or_from_slice_get, slice_get_within}
use Rattle.scan_values.specs.DataType.{DataType}
use Rattle.scan_values.specs.Selections.{is_among}
use Rattle.scan_expr.specs.Bound.{Bound}
use Rattle.scan_segments.specs.Source.{SourceState, Store}
use Rattle.scan_layout.specs.Check.{first_fault}
use Rattle.scan_layout.specs.declared.fault.LayoutFault.{LayoutFault}
use Rattle.scan_opener.specs.Opener.{OpenerState, OpenerFailed, Given, skip, layout_of}
use Rattle.scan_drive.specs.Drivings.{CameOf, IsKeptIn, SourceFailed}
use Rattle.scan_drive.specs.Traffic.{WasAsked}
use Rattle.scan_drive.specs.Wants.{Cache}
use Rattle.scan_drive.specs.declared.files.ScanFile.{ScanFile}
use Rattle.scan_drive.proofs.Failing.{among_contains}
use Rattle.scan_multi.specs.Answer.{ToldFile}
use Rattle.scan_multi.specs.Causes.{MayHaveCome}
use Rattle.scan_multi.specs.Checks.{IsOfOtherType, IsIllFormed}
use Rattle.scan_multi.specs.Lawful.{told, told_file, Gives, IsIdle, IsLawful}
use Rattle.scan_multi.specs.Moves.{NoneAsked}
use Rattle.scan_multi.specs.Valid.{NoneFailed}
use Rattle.scan_seek.specs.KeptData.{KeptData}
use Rattle.scan_seek.specs.Keeps.{IsKept}
use Rattle.scan_seek.specs.Reads.{any_overflows, any_spoils}
use Rattle.scan_places.specs.Walks as walk
use Rattle.scan_places.specs.Walks.{kept_at, files_of, HasPlaceRow, TellsAt, GivesRow, LacksRow, IsOther, IsIll, Walks}
use Rattle.scan_places.specs.declared.fault.PlaceFault.{PlaceFault}
use Rattle.scan_places.specs.declared.fault.PlaceFault.TheVariants as place
use Rattle.scan_places.specs.declared.place.Place.{Place}
use Rattle.scan_places.proofs.Walking.{kept_after, one_file}
use Rattle.scan_lookup.specs.Asked.{named_rows, rows_at}
use Rattle.scan_lookup.specs.Causes.{AtPlace, Before, HasLookupCause, IsFlawedAt, IsNowhere, OfRead, OverflowsAt}
use Rattle.scan_lookup.specs.Faults.{of_place}
use Rattle.scan_lookup.specs.Lookups.{IsAnswerable, IsLookupRefusedFor}
use Rattle.scan_lookup.specs.Reading.{ReadsPlaces, OverStore, CameUnder, FailsRows, FailsReads}
use Rattle.scan_lookup.specs.Replies.{IsThere}
use Rattle.scan_lookup.specs.declared.fault.LookupFault.{LookupFault}
use Rattle.scan_lookup.specs.declared.fault.LookupFault.TheVariants as fault
use Rattle.scan_lookup.proofs.Answering.{agrees_mid}
use Rattle.scan_lookup.proofs.Distinct.{among_distinct}
use Rattle.scan_lookup.proofs.Replying.{before_all}
use Rattle.scan_lookup.proofs.Listing.{mapped_from}
use Rattle.scan_lookup.proofs.Slotting.{map_long, place_named, place_rows}
use Rattle.scan_lookup.proofs.Telling.{holds_it, is_flawed, of_dtype, overflows_there, told_at}

-- ---- what an opener gives, in the words of a scan
weaker : (o : Option Given) (P Q : Given → Type 0) → ((g : Given) → P g → Q g) → IfSome o P → IfSome o Q
weaker None P Q f h = tt
weaker (Some g) P Q f h = f g h

other_type : (d : DataType) (g : Given) → IsOther d g → IsOfOtherType d g
other_type d skip h = absurd h
other_type d (layout_of l) h = h

ill_formed : (d : DataType) (x : LayoutFault) (g : Given) → IsIll d x g → IsIllFormed d x g
ill_formed d x skip h = absurd h
ill_formed d x (layout_of l) h = h

-- a place that names a file
named_at : (places : List Place) (k : ℕ) → is_among (files_of places) k ≡ true → Contains (files_of places) k
named_at places k h = among_contains (files_of places) k h

named_at_row : (places : List Place) (k row : ℕ) → is_among (named_rows k places) row ≡ true → (n : ℕ) × (p : Place) × (slice_get places n ≡ Some p) × (p.file ≡ k) × (p.row ≡ row)
named_at_row [] k row h = absurd cc
named_at_row (p ∷ places) k row h = go (p.file == k) refl h (named_at_row places k row)
  where
    Found : List Place → Type 0
    Found ps = (n : ℕ) × (q : Place) × (slice_get ps n ≡ Some q) × (q.file ≡ k) × (q.row ≡ row)

    later : Found places → Found (p ∷ places)
    later (n, q, e, f, r) = (suc n, q, e, f, r)

    first : (b : Bool) → eqb p.row row ≡ b → p.file ≡ k → (b || is_among (named_rows k places) row) ≡ true → (is_among (named_rows k places) row ≡ true → Found places) → Found (p ∷ places)
    first true e f m ih = (zero, p, refl, f, grind (arith, nat_tests, e))
    first false e f m ih = later (ih m)

    go : (b : Bool) → (p.file == k) ≡ b → is_among (map (λ (z : Place). z.row) (cond b (p ∷ filter (λ (z : Place). z.file == k) places) (filter (λ (z : Place). z.file == k) places))) row ≡ true
        → (is_among (named_rows k places) row ≡ true → Found places) → Found (p ∷ places)
    go true e m ih = first (eqb p.row row) refl (grind (arith, nat_tests, e)) m ih
    go false e m ih = later (ih m)

row_named : (places : List Place) (k row : ℕ) → is_among (rows_at k places) row ≡ true → (n : ℕ) × (p : Place) × (slice_get places n ≡ Some p) × (p.file ≡ k) × (p.row ≡ row)
row_named places k row h = named_at_row places k row (among_distinct (named_rows k places) row h)

place_in : (places : List Place) (n : ℕ) (p : Place) → slice_get places n ≡ Some p → Contains places p
place_in places n p e = (n, slice_get_within places n p e, get_or_from_slice_get places n p p e)

module _ {O S : Type 0} (opener : O → OpenerState) (source : S → SourceState) (e : Bound) (places : List Place) (old : List (ScanFile O S)) (c : Cache) where
  -- ---- by its walk
  module _ (new : List (ScanFile O S)) (still : (k : ℕ) (f : ScanFile O S) → (get_or new k f).source ≡ (get_or old k f).source) where
    none_asked : (k : ℕ) (f : ScanFile O S) → NoneAsked opener source (get_or old k f) (get_or new k f)
    none_asked k f = ap (λ (s : SourceState). s.asked) (ap source (still k f))

    at : (u : PlaceFault) (h : walk.FailsPlaces opener e places old new u) (k : ℕ) (P : ScanFile O S → ScanFile O S → Type 0) → k ≡ h.place.file → k < length old → ((f : ScanFile O S) → P (get_or old k f) (get_or new k f))
        → AtPlace opener source e places c old new k P
    at u h k P is lt fact = record { number = h.number; place = h.place; there = h.listed; names = sym is; listed = lt; before = h.before; fact = fact }

    pub walk_cause : (u : PlaceFault) → walk.FailsPlaces opener e places old new u → HasLookupCause opener source e places c old new (of_place u)
    walk_cause place.NoMemory h = tt
    walk_cause (place.NoPlace n) h =
        (h.place, subst (λ k. slice_get places k ≡ Some h.place) (sym h.cause.0) h.listed, subst (λ k. Before opener source e places c old new k) (sym h.cause.0) h.before, go h.cause.1)
      where
        go : (length old ≤ h.place.file) ⊎ TellsAt opener (LacksRow e.scope h.place.row) h.place.file old → IsNowhere opener source e places c old new h.place
        go (inl le) = inl le
        go (inr t) = inr t
    walk_cause (place.Opener k) h =
        at (place.Opener k) h k (λ f g. OpenerFailed (opener f.opener) (opener g.opener)) h.cause.0 (subst (λ j. j < length old) (sym h.cause.0) h.cause.1)
        (λ f. subst (λ j. OpenerFailed (opener (get_or old j f).opener) (opener (get_or new j f).opener)) (sym h.cause.0) (h.cause.2 f))
    walk_cause (place.DTypeMismatch k) h =
        let tells : TellsAt opener (IsOther e.scope) k old = subst (λ j. TellsAt opener (IsOther e.scope) j old) (sym h.cause.0) h.cause.1 in
        at (place.DTypeMismatch k) h k (λ f g. NoneAsked opener source f g × Gives opener source (IsOfOtherType e.scope) f) h.cause.0 tells.0
        (λ f. (none_asked k f, weaker (opener (get_or old k f).opener).gives (IsOther e.scope) (IsOfOtherType e.scope) (other_type e.scope) (tells.1 f)))
    walk_cause (place.Layout k x) h =
        let tells : TellsAt opener (IsIll e.scope x) k old = subst (λ j. TellsAt opener (IsIll e.scope x) j old) (sym h.cause.0) h.cause.1 in
        at (place.Layout k x) h k (λ f g. NoneAsked opener source f g × Gives opener source (IsIllFormed e.scope x) f) h.cause.0 tells.0
        (λ f. (none_asked k f, weaker (opener (get_or old k f).opener).gives (IsIll e.scope x) (IsIllFormed e.scope x) (ill_formed e.scope x) (tells.1 f)))

  -- ---- by what is read
  module _ (mid new : List (ScanFile O S)) (kept0 kept : List KeptData) (d : Cache) (w : Walks opener e (files_of places) old mid kept0 kept) (r : ReadsPlaces source kept mid new c d places) (idle : All (IsIdle opener source) old)
      (there : All (HasPlaceRow mid kept) places) where
    from : (k : ℕ) (f : ScanFile O S) → source (get_or mid k f).source ≡ source (get_or old k f).source
    from k f = ap source (w.source k f)

    of_read : (k : ℕ) (P : ScanFile O S → ScanFile O S → Type 0) → is_among (files_of places) k ≡ true → ((f : ScanFile O S) → P (get_or old k f) (get_or new k f)) → OfRead opener source e places c old new k P
    of_read k P named fact = record { there = before_all opener source e places old mid new kept0 kept c d w r idle there; among = named_at places k named; fact = fact }

    kept_old : (k : ℕ) (f : ScanFile O S) → k < length old → IsKept e (opener (get_or old k f).opener) (kept_at kept k)
    kept_old k f lt = kept_after e (opener (get_or mid k f).opener) (opener (get_or old k f).opener) (kept_at kept k) (sym (w.polls k f).gives) (w.are_kept k f (let n = w.count in omega (arith, lt, n)))

    listed : (k : ℕ) → is_among (files_of places) k ≡ true → k < length old
    listed k named = let l = (place_named mid kept k places named there).0 in let n = w.count in omega (arith, l, n)

    over : (k : ℕ) (P : Store → Type 0) → k < length old → OverStore source mid c k P → IsLawful opener source old c → (f : ScanFile O S) → P (told_file opener source (get_or old k f)).store
    over k P lt h l f =
        h (agrees_mid opener source e places old mid new kept0 kept c d w r idle l) f (told_file opener source (get_or old k f)).store
        (ap (λ (s : SourceState). s.holds) (from k f) ∙ holds_it opener source e (get_or old k f) (l.tells k f lt))

    came : (k id : ℕ) (f : ScanFile O S) → CameOf source c mid new (get_or mid k f).source_id id → MayHaveCome opener source c old new id (get_or old k f)
    came k id f (inl a) = inl (record {
      place = a.place;
      there = let l = a.there in let n = w.count in omega (arith, l, n);
      named = λ g. sym (w.name a.place g) ∙ a.named g ∙ w.name k f;
      asked = λ g. subst (λ (s : SourceState). WasAsked id s (source (get_or new a.place g).source)) (from a.place g) (a.asked g);
    })
    came k id f (inr h) = inr (subst (λ (n : List ℕ). IsKeptIn c n id) (w.name k f) h)

    read_cause : (u : LookupFault) (k : ℕ) → is_among (files_of places) k ≡ true → FailsRows source kept mid new c (CameUnder source kept mid new c) k (rows_at k places) u → HasLookupCause opener source e places c old new u
    read_cause fault.NoMemory k named h = tt
    read_cause (fault.Bind b) k named h = absurd h
    read_cause (fault.NoPlace n) k named h = absurd h
    read_cause (fault.Opener j) k named h = absurd h
    read_cause (fault.DTypeMismatch j) k named h = absurd h
    read_cause (fault.Layout j x) k named h = absurd h
    read_cause (fault.Source j id) k named h =
        of_read j (λ f g. SourceFailed (source f.source) (source g.source) × WasAsked id (source f.source) (source g.source)) (subst (λ i. is_among (files_of places) i ≡ true) (sym h.0) named)
        (λ f. (
          subst (λ (s : SourceState). SourceFailed s (source (get_or new j f).source)) (from j f) (h.1 f),
          subst (λ (s : SourceState). WasAsked id s (source (get_or new j f).source)) (from j f) (h.2 f),
        ))
    read_cause (fault.Corrupt j id) k named h =
        let own : is_among (files_of places) j ≡ true = subst (λ i. is_among (files_of places) i ≡ true) (sym h.0) named in
        let lt = listed j own in
        of_read j (λ f g. (IsLawful opener source old c → IsFlawedAt e (told_file opener source f) (rows_at j places) id) × MayHaveCome opener source c old new id f) own
        (λ f. (
          λ l. is_flawed opener source e (get_or old j f) (l.tells j f lt) (kept_at kept j) (kept_old j f lt) (rows_at j places) (place_rows mid kept j places there) id
              (over j (λ store. any_spoils (kept_at kept j) (rows_at j places) store id ≡ true) lt
              (subst (λ rows. OverStore source mid c j (λ store. any_spoils (kept_at kept j) rows store id ≡ true)) (ap (λ i. rows_at i places) (sym h.0)) h.1) l f),
          came j id f (h.2 f),
        ))
    read_cause (fault.Overflow j row) k named h =
        let own : is_among (files_of places) j ≡ true = subst (λ i. is_among (files_of places) i ≡ true) (sym h.0) named in
        let lt = listed j own in
        let found = row_named places k row h.1 in (
          subst (Contains places) (λ i. record { file = (found.3 ∙ sym h.0) i; row = found.4 i }) (place_in places found.0 found.1 found.2),
          of_read j (λ f g. IsLawful opener source old c → OverflowsAt e row (told_file opener source f)) own
              (λ f l. overflows_there opener source e (get_or old j f) (l.tells j f lt) row (kept_at kept j) (kept_old j f lt)
              (over j (λ store. any_overflows (kept_at kept j) store row ≡ true) lt h.2 l f)),
        )

    pub reads_cause : (u : LookupFault) → FailsReads source kept mid new c places u → HasLookupCause opener source e places c old new u
    reads_cause u (inl is) = subst (HasLookupCause opener source e places c old new) (sym is) tt
    reads_cause u (inr h) = read_cause u h.file h.named h.fails

-- ---- what lawful objects that do not fail are refused by
module _ {O S : Type 0} (opener : O → OpenerState) (source : S → SourceState) (e : Bound) (places : List Place) (old new : List (ScanFile O S)) (c d : Cache) where
  told_here : (k : ℕ) (f : ScanFile O S) → k < length old → slice_get (told opener source old) k ≡ Some (told_file opener source (get_or old k f))
  told_here k f lt = told_at opener source old k f lt

  some_same : (x y : ToldFile) → Some x ≡ Some y → x ≡ y
  some_same x y q = cc

  is_given : (o : Option Given) (g : Given) → IsSome o → unwrap_or o skip ≡ g → o ≡ Some g
  is_given None g s q = cc
  is_given (Some x) g s q = ap Some q

  module _ (l : IsLawful opener source old c) (a : IsAnswerable e (told opener source old) places) (n : NoneFailed opener source old new) where
    -- a place that is there gives its row
    gives_row : (p : Place) → Contains places p → (lt : p.file < length old) (f : ScanFile O S) → GivesRow e.scope p.row (told_file opener source (get_or old p.file f)).given
    gives_row p (i, below, at) lt f =
        let t : IsThere e.scope (told opener source old) p = subst (IsThere e.scope (told opener source old)) at (a.there i p below) in
        subst (λ (x : ToldFile). GivesRow e.scope p.row x.given) (some_same t.0 (told_file opener source (get_or old p.file f)) (sym t.1 ∙ told_here p.file f lt)) t.2

    clash : (P : Given → Type 0) (p : Place) → Contains places p → (lt : p.file < length old) (f : ScanFile O S) → IfSome (opener (get_or old p.file f).opener).gives P → ((g : Given) → P g → GivesRow e.scope p.row g → ⊥) → ⊥
    clash P p there lt f h k = go (opener (get_or old p.file f).opener).gives (l.tells p.file f lt).gives h (gives_row p there lt f)
      where
        go : (o : Option Given) → IsSome o → IfSome o P → GivesRow e.scope p.row (unwrap_or o skip) → ⊥
        go None s q w = cc
        go (Some g) s q w = k g q w

    lacks_not : (row : ℕ) (g : Given) → LacksRow e.scope row g → GivesRow e.scope row g → ⊥
    lacks_not row skip h k = k
    lacks_not row (layout_of x) h k = omega (arith, h.1, k.1)

    fault_none : (o : Option LayoutFault) (x : LayoutFault) → o ≡ Some x → o ≡ None → ⊥
    fault_none None x p q = cc
    fault_none (Some y) x p q = cc

    ill_not : (x : LayoutFault) (row : ℕ) (g : Given) → IsIllFormed e.scope x g → GivesRow e.scope row g → ⊥
    ill_not x row skip h k = h
    ill_not x row (layout_of y) h k = fault_none (first_fault y e.scope) x h.1 k.0

    other_not : (row : ℕ) (g : Given) → IsOfOtherType e.scope g → GivesRow e.scope row g → ⊥
    other_not row skip h k = h
    other_not row (layout_of y) h k = h (of_dtype y e.scope k.0)

    nowhere : (p : Place) → Contains places p → IsNowhere opener source e places c old new p → ⊥
    nowhere p (i, below, at) (inl ge) =
        let t : IsThere e.scope (told opener source old) p = subst (IsThere e.scope (told opener source old)) at (a.there i p below) in
        let lt = slice_get_within (told opener source old) p.file t.0 t.1 in
        let many = map_long (told_file opener source) old in
        omega (arith, ge, lt, many)
    nowhere p there (inr h) = let f = one_file old p.file h.0 in clash (LacksRow e.scope p.row) p there h.0 f (h.1 f) (lacks_not p.row)

    file_of : (k : ℕ) → Contains (files_of places) k → (p : Place) × Contains places p × (p.file ≡ k)
    file_of k (i, lt, at) = mapped_from (λ (p : Place). p.file) places k (i, lt, at)

    read_there : (k : ℕ) → Contains (files_of places) k → k < length old
    read_there k h =
        let p = file_of k h in
        let t : IsThere e.scope (told opener source old) p.0 = subst (IsThere e.scope (told opener source old)) (p.1).2 (a.there (p.1).0 p.0 (p.1).1) in
        let lt = slice_get_within (told opener source old) (p.0).file t.0 t.1 in
        let many = map_long (told_file opener source) old in
        subst (λ j. j < length old) p.2 (omega (arith, lt, many))

    pub only_memory : (u : LookupFault) → HasLookupCause opener source e places c old new u → u ≡ fault.NoMemory
    only_memory fault.NoMemory h = refl
    only_memory (fault.Bind b) h = absurd h
    only_memory (fault.NoPlace k) h = absurd (nowhere h.0 (place_in places k h.0 h.1) h.3)
    only_memory (fault.Opener k) h = absurd (let f = one_file old k h.listed in (n k f h.listed).0 (h.fact f))
    only_memory (fault.DTypeMismatch k) h =
        let f = one_file old k h.listed in
        absurd (subst (λ j. (lt : j < length old) → NoneAsked opener source (get_or old j f) (get_or new j f) × Gives opener source (IsOfOtherType e.scope) (get_or old j f) → ⊥) h.names
        (λ lt q. clash (IsOfOtherType e.scope) h.place (place_in places h.number h.place h.there) lt f q.1 (other_not h.place.row)) h.listed (h.fact f))
    only_memory (fault.Layout k x) h =
        let f = one_file old k h.listed in
        absurd (subst (λ j. (lt : j < length old) → NoneAsked opener source (get_or old j f) (get_or new j f) × Gives opener source (IsIllFormed e.scope x) (get_or old j f) → ⊥) h.names
        (λ lt q. clash (IsIllFormed e.scope x) h.place (place_in places h.number h.place h.there) lt f q.1 (ill_not x h.place.row)) h.listed (h.fact f))
    only_memory (fault.Source k id) h = let lt = read_there k h.among in absurd (let f = one_file old k lt in (n k f lt).1 (h.fact f).0)
    only_memory (fault.Corrupt k id) h = let lt = read_there k h.among in absurd (let f = one_file old k lt in a.sound k id (told_file opener source (get_or old k f)) (told_here k f lt) ((h.fact f).0 l))
    only_memory (fault.Overflow k row) h =
        let lt = read_there k h.1.among in
        let f = one_file old k lt in
        absurd (never (record { file = k; row = row }) h.0 (told_file opener source (get_or old k f)) (told_here k f lt) (h.1.fact f l))
      where
        never : (p : Place) → Contains places p → (x : ToldFile) → slice_get (told opener source old) p.file ≡ Some x → OverflowsAt e p.row x → ⊥
        never p (i, below, at) = subst (λ (q : Place). (x : ToldFile) → slice_get (told opener source old) q.file ≡ Some x → OverflowsAt e q.row x → ⊥) at (a.no_overflow i p below)

  pub refused : (u : LookupFault) → HasLookupCause opener source e places c old new u → IsLookupRefusedFor opener source e places old new c d u
  refused u h = record { cause = h; complete = λ l a n. only_memory l a n u h }

  pub all_refused : {T : Type 0} (P : LookupFault → Type 0) → ((u : LookupFault) → P u → HasLookupCause opener source e places c old new u) → (x : Result T LookupFault) → IfErr x P → IfErr x (IsLookupRefusedFor opener source e places old new c d)
  all_refused P f (Ok a) h = tt
  all_refused P f (Err u) h = refused u (f u h)

-- The scan of a manifest's files under its dtype: why it stops, and what it gives.
use Rattle.std.proofs.Common.{◌≡◌, ℕ, zero, suc, ◌+◌, ◌<◌, ◌≤◌, List, [], ◌∷◌, length, get_or, take, Option, None, Some, refl, sym, ap, ◌∙◌, subst, arith}
use Rattle.std.specs.Prelude.{IsSome, All, Contains, option_map, slice_get, unwrap_or}
use Rattle.std.proofs.Transfers.{drop-appended}
use Rattle.std.proofs.lemmas.List.{take-map}
use Rattle.std.proofs.lemmas.List.Elements.{All-take, All-weaker}
use Rattle.scan_values.specs.DataType.{DataType}
use Rattle.scan_expr.specs.declared.request.ScanRequest.{ScanRequest}
use Rattle.scan_segments.specs.Source.{SourceState, Store}
use Rattle.scan_segments.specs.MemorySource.{source_state}
use Rattle.scan_opener.specs.Opener.{Given, skip}
use Rattle.scan_drive.specs.Traffic.{WasAsked, asked_since}
use Rattle.scan_multi.specs.Answer.{ToldFile}
use Rattle.scan_multi.specs.Checks.{rows_given}
use Rattle.scan_multi.specs.Lawful.{AllGive, Tells, told, told_file}
use Rattle.scan_multi.specs.Output.{OutputData, Admits}
use Rattle.scan_multi.specs.declared.scan.fault.RangeFault.TheVariants.{Reversed, Past}
use Rattle.scan_multi.specs.declared.scan.fault.ScanFault.TheVariants as scan
use Rattle.scan_manifest.specs.declared.manifest.FileSpec.{FileSpec}
use Rattle.scan_manifest.specs.declared.manifest.Manifest.{Manifest}
use Rattle.scan_run.specs.FileOf.{AreFilesOf, AreReady, IsFileOf, memory_opener}
use Rattle.scan_run.specs.Run.{given_by, told_by}
use Rattle.scan_run.proofs.Stopping.{File, told_same}
use Rattle.scan_widened.specs.Faults.{given_fault}
use Rattle.scan_union.specs.Under.{first_file_fault, first_file_fault_from, of_file, or_later}
use Rattle.scan_union.specs.UnionAnswer.{union_answer}
use Rattle.scan_union.specs.UnionCauses.{HasUnionCause, IsDamagedBehind, IsOfUnionFile, IsOpenerCause, IsReadCause, IsUnionSource, IsUnreadCause, OverflowsUnder, named_behind}
use Rattle.scan_union.specs.UnionScans.{IsUnionScan, UnionMoves}
use Rattle.scan_union.specs.declared.fault.UnionFault.{UnionFault}
use Rattle.scan_union.specs.declared.fault.UnionFault.TheVariants as fault
use Rattle.scan_union_run.specs.AskedOf.{IsAsked}
use Rattle.scan_union_run.specs.Unions.{AsksRows, CanFail, IsFailing, IsSpoilt, IsUnionStop, IsUnited, IsUnreadable, fault_among, has_fault, has_spoilt, of_opener, of_overflow, of_segment, of_source, stop_by, told_of}
use Rattle.scan_union_run.specs.declared.program.Asked.{Asked}

-- ---- the first fault of files is that of the first of them
later_fault : (o a b : Option UnionFault) (e : UnionFault) → (a ≡ Some e → b ≡ Some e) → or_later o a ≡ Some e → or_later o b ≡ Some e
later_fault None a b e h k = h k
later_fault (Some f) a b e h k = k

module _ (d : DataType) (request : ScanRequest) where
  -- a fault of the first so many files is one of the first of more
  first_stays : (place before n k : ℕ) (fs : List ToldFile) (e : UnionFault) → n ≤ k → first_file_fault_from d request place before (take n fs) ≡ Some e
      → first_file_fault_from d request place before (take k fs) ≡ Some e
  first_stays place before zero k fs e le h = let c : ◌≡◌ {A = Option UnionFault} None (Some e) = h in cc
  first_stays place before (suc n) zero fs e le h = absurd (omega (arith, le))
  first_stays place before (suc n) (suc k) [] e le h = h
  first_stays place before (suc n) (suc k) (f ∷ fs) e le h =
      later_fault (option_map (of_file place) (given_fault d request.row_range before f.given))
      (first_file_fault_from d request (place + 1) (before + rows_given f.given) (take n fs))
      (first_file_fault_from d request (place + 1) (before + rows_given f.given) (take k fs))
      e (first_stays (place + 1) (before + rows_given f.given) n k fs e (omega (arith, le))) h

  -- and one of all
  first_of_all : (place before n : ℕ) (fs : List ToldFile) (e : UnionFault) → first_file_fault_from d request place before (take n fs) ≡ Some e
      → first_file_fault_from d request place before fs ≡ Some e
  first_of_all place before zero fs e h = let c : ◌≡◌ {A = Option UnionFault} None (Some e) = h in cc
  first_of_all place before (suc n) [] e h = h
  first_of_all place before (suc n) (f ∷ fs) e h =
      later_fault (option_map (of_file place) (given_fault d request.row_range before f.given))
      (first_file_fault_from d request (place + 1) (before + rows_given f.given) (take n fs))
      (first_file_fault_from d request (place + 1) (before + rows_given f.given) fs)
      e (first_of_all (place + 1) (before + rows_given f.given) n fs e) h

pub stays_among : (m : Manifest) (n k : ℕ) (fs : List ToldFile) (e : UnionFault) → n ≤ k → fault_among m (take n fs) ≡ Some e → fault_among m (take k fs) ≡ Some e
stays_among m n k fs e le h = first_stays m.dtype m.request 0 0 n k fs e le h

pub of_all : (m : Manifest) (n : ℕ) (fs : List ToldFile) (e : UnionFault) → fault_among m (take n fs) ≡ Some e → fault_among m fs ≡ Some e
of_all m n fs e h = first_of_all m.dtype m.request 0 0 n fs e h

-- ---- the files of a manifest
-- the file at a place, and what it is made of
record Made (specs : List FileSpec) (place : ℕ) (f : File) : Type 0 where
  spec : FileSpec
  there : slice_get specs place ≡ Some spec
  among : Contains specs spec
  is : IsFileOf spec f

made_at : (specs : List FileSpec) (files : List File) → AreFilesOf specs files → (k : ℕ) (f : File) → k < length files → Made specs k (get_or files k f)
made_at [] [] are k f lt = absurd (omega arith)
made_at [] (x ∷ files) are k f lt = absurd are
made_at (s ∷ specs) [] are k f lt = absurd (omega arith)
made_at (s ∷ specs) (x ∷ files) are zero f lt = record { spec = s; there = refl; among = (0, omega arith, refl); is = are.0 }
made_at (s ∷ specs) (x ∷ files) are (suc k) f lt =
    let r = made_at specs files are.1 k f (omega arith) in
    let n = r.among.1 in
    record { spec = r.spec; there = r.there; among = (suc r.among.0, omega (arith, n), r.among.2); is = r.is }

told_spec : (spec : FileSpec) (f : File) → IsFileOf spec f → told_file memory_opener source_state f ≡ told_by spec
told_spec spec f is =
    let by : Option Given → Option Store → ToldFile = λ g s. record { given = unwrap_or g skip; store = unwrap_or s (λ id. None) } in
    ap (λ g. by g (source_state f.source).holds) is.gives ∙ ap (λ s. by (Some (given_by spec)) s) is.holds

-- some element of a list that is not empty
some : {A B : Type 0} (xs : List A) (k : ℕ) → k < length xs → (A → B) → B
some [] k lt h = absurd (omega arith)
some (x ∷ xs) k lt h = h x

-- what was asked since has this fact, where all of it has
asked_has : (P : ℕ → Type 0) (old new : SourceState) (id : ℕ) → All P (asked_since old new) → WasAsked id old new → P id
asked_has P old new id all w =
    let since : asked_since old new ≡ w.ids = drop-appended old.asked new.asked w.ids w.asked in
    let each : All P w.ids = subst (All P) since all in
    subst P w.among.2 (each w.among.0 id w.among.1)

module _ (m : Manifest) (made new : List File) (are : AreFilesOf m.files made) (tells : All (Tells memory_opener source_state) made) where
  told_is : told memory_opener source_state made ≡ told_of m
  told_is = told_same m.files made are

  told_first : (n : ℕ) → told memory_opener source_state (take n made) ≡ take n (told_of m)
  told_first n = sym (take-map (told_file memory_opener source_state) n made) ∙ ap (take n) told_is

  all_give : AllGive memory_opener source_state made
  all_give = All-weaker (Tells memory_opener source_state) (λ (f : File). IsSome (memory_opener f.opener).gives) (λ f t. t.gives) made tells

  first_give : (n : ℕ) → AllGive memory_opener source_state (take n made)
  first_give n = All-take (λ (f : File). IsSome (memory_opener f.opener).gives) n made all_give

  -- a fact of the files' first fault is one of what the manifest tells
  among_all : (o : Option UnionFault) → first_file_fault m.dtype m.request (told memory_opener source_state made) ≡ o → fault_among m (told_of m) ≡ o
  among_all o h = subst (λ (ts : List ToldFile). fault_among m ts ≡ o) told_is h

  among_first : (n : ℕ) (o : Option UnionFault) → first_file_fault m.dtype m.request (told memory_opener source_state (take n made)) ≡ o → fault_among m (take n (told_of m)) ≡ o
  among_first n o h = subst (λ (ts : List ToldFile). fault_among m ts ≡ o) (told_first n) h

  asks_rows : (place : ℕ) (P : File → File → Type 0) → IsOfUnionFile memory_opener source_state m.workers m.dtype m.request made new place P → AsksRows m
  asks_rows place P at = record { late = at.late; room = at.room }

  -- a fact of the file at a place, of what that is made of
  from_file : (place : ℕ) (P : File → File → Type 0) (Q : FileSpec → Type 0) → IsOfUnionFile memory_opener source_state m.workers m.dtype m.request made new place P
      → ((spec : FileSpec) (f g : File) → IsFileOf spec f → P f g → Q spec) → (spec : FileSpec) × (slice_get m.files place ≡ Some spec) × Contains m.files spec × Q spec
  from_file place P Q at h =
      some made place at.there
      (λ f. let r = made_at m.files made are place f at.there in (r.spec, r.there, r.among, h r.spec (get_or made place f) (get_or new place f) r.is (at.fact f)))

  unread : (place : ℕ) (e : UnionFault) → IsUnreadCause memory_opener source_state m.workers m.dtype m.request made new place e → IsUnreadable m
  unread place e at = record {
    asks = asks_rows place _ at.file;
    why = has_fault e (of_all m (place + 1) (told_of m) e (among_first (place + 1) (Some e) (at.first (first_give (place + 1)))));
  }

  spoilt : (place : ℕ) (P : File → File → Type 0) → IsReadCause memory_opener source_state m.workers m.dtype m.request made new place P
      → ((spec : FileSpec) (f g : File) → IsFileOf spec f → P f g → IsSpoilt m spec) → IsUnreadable m
  spoilt place P at h =
      let r = from_file place P (IsSpoilt m) at.file h in
      record { asks = asks_rows place P at.file; why = has_spoilt (among_all None (at.good all_give)) r.0 r.2 r.3 }

  opener_failed : (place : ℕ) → IsOpenerCause memory_opener source_state m.workers m.dtype m.request made new place → IsFailing m
  opener_failed place at =
      let none = among_first place None (at.first (first_give place)) in
      let r = from_file place _ (CanFail m place) at.file (λ spec f g is w. of_opener (sym is.opener_can_fail ∙ w.1) none) in
      record { asks = asks_rows place _ at.file; place = place; file = r.0; there = r.1; failing = r.3 }

  -- a source was asked only for segments of its file that may be asked
  asked_named : UnionMoves memory_opener source_state m.workers m.dtype m.request made new → (place id : ℕ) (x : File) (spec : FileSpec)
      → IsFileOf spec (get_or made place x) → WasAsked id (source_state (get_or made place x).source) (source_state (get_or new place x).source)
      → Contains (named_behind m.dtype m.request (told_by spec)) id
  asked_named moves place id x spec is w =
      let f : File = get_or made place x in
      let s : SourceState = source_state f.source in
      let t : SourceState = source_state (get_or new place x).source in
      let P : ℕ → Type 0 = Contains (named_behind m.dtype m.request (told_file memory_opener source_state f)) in
      let among = asked_has P s t id (moves.named tells place x) w in
      subst (λ (told : ToldFile). Contains (named_behind m.dtype m.request told) id) (told_spec spec f is) among

  source_failed : UnionMoves memory_opener source_state m.workers m.dtype m.request made new → (place id : ℕ)
      → IsReadCause memory_opener source_state m.workers m.dtype m.request made new place (IsUnionSource memory_opener source_state m.workers m.dtype m.request made new id) → IsFailing m
  source_failed moves place id at =
      some made place at.file.there
      (λ x. let r = made_at m.files made are place x at.file.there in
      let w = at.file.fact x in
      let named = asked_named moves place id x r.spec r.is w.asked in
      record {
        asks = asks_rows place _ at.file;
        place = place;
        file = r.spec;
        there = r.there;
        failing = of_source (sym r.is.source_can_fail ∙ w.failed.1) (among_all None (at.good all_give)) id named;
      })

  -- each cause is one that the manifest shows
  pub stopped : UnionMoves memory_opener source_state m.workers m.dtype m.request made new → (e : UnionFault)
      → HasUnionCause memory_opener source_state m.workers m.dtype m.request made new e → IsUnionStop m (stop_by e)
  stopped moves fault.NoMemory c = tt
  stopped moves (fault.TooManySegments place) at = unread place (fault.TooManySegments place) at
  stopped moves (fault.Scan scan.NoMemory) c = absurd c
  stopped moves (fault.Scan scan.Concurrency) c = (scan.Concurrency, c)
  stopped moves (fault.Scan scan.Partitions) c = (scan.Partitions, c)
  stopped moves (fault.Scan (scan.RowRange Reversed)) c = (scan.RowRange Reversed, c)
  stopped moves (fault.Scan (scan.Bind b)) c = (scan.Bind b, c)
  stopped moves (fault.Scan (scan.Opener place)) at = opener_failed place at
  stopped moves (fault.Scan (scan.Source place id)) at = source_failed moves place id at
  stopped moves (fault.Scan (scan.DTypeMismatch place)) at = unread place (fault.Scan (scan.DTypeMismatch place)) at
  stopped moves (fault.Scan (scan.Layout place l)) at = unread place (fault.Scan (scan.Layout place l)) at
  stopped moves (fault.Scan (scan.RowRange (Past place))) at = unread place (fault.Scan (scan.RowRange (Past place))) at
  stopped moves (fault.Scan (scan.TooManyRows place)) at = unread place (fault.Scan (scan.TooManyRows place)) at
  stopped moves (fault.Scan (scan.Corrupt place id)) at =
      spoilt place _ at (λ spec f g is w. of_segment id (subst (λ (t : ToldFile). IsDamagedBehind m.dtype m.request t id) (told_spec spec f is) (w.damaged tells)))
  stopped moves (fault.Scan (scan.Overflow place)) at =
      spoilt place _ at (λ spec f g is w. of_overflow (subst (λ (t : ToldFile). OverflowsUnder m.dtype m.request t) (told_spec spec f is) (w tells)))

  -- what a scan of the files that were made gives is what the manifest asks for
  pub united : (out : OutputData) → IsUnionScan memory_opener source_state m.workers m.dtype m.request made new out → IsUnited m out.chunks
  united out s = record {
    passes = s.types;
    files = λ room. among_all None (s.files room all_give);
    admits = subst (λ (ts : List ToldFile). Admits m.dtype m.request (union_answer m.dtype m.request ts) out.chunks) told_is (s.admits tells);
  }

-- ---- a scan of what is asked
module _ (a : Asked) (made new : List File) (ready : AreReady made) where
  pub asked_united : (out : OutputData) → IsUnionScan memory_opener source_state a.workers a.dtype a.request made new out
      → (m : Manifest) → IsAsked m a → AreFilesOf m.files made → IsUnited m out.chunks
  asked_united out s m is are = united m made new are ready.lawful.tells out (rw (is.dtype, is.request, is.workers) s)

  pub asked_stopped : UnionMoves memory_opener source_state a.workers a.dtype a.request made new → (e : UnionFault)
      → HasUnionCause memory_opener source_state a.workers a.dtype a.request made new e → (m : Manifest) → IsAsked m a → AreFilesOf m.files made → IsUnionStop m (stop_by e)
  asked_stopped moves e h m is are =
      stopped m made new are ready.lawful.tells (rw (is.dtype, is.request, is.workers) moves) e (rw (is.dtype, is.request, is.workers) h)

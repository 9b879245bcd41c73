-- The scan of a manifest's files: why it stops, and what it prints.
use Rattle.std.proofs.Common.{◌≡◌, ℕ, zero, suc, ◌^◌, ◌<◌, ◌≤◌, List, [], ◌∷◌, ◌++◌, length, get_or, map, true, Option, None, Some, refl, sym, ap, ◌∙◌, subst, arith}
use Rattle.std.specs.Prelude.{IfSome, IsSome, IfOk, Result, All, Contains, unwrap_or}
use Rattle.std.proofs.lemmas.Result.{IfOk-weaker}
use Rattle.std.specs.List.{AllByRecursion}
use Rattle.std.proofs.lemmas.List.Concat.{flat_map-append}
use Rattle.std.proofs.lemmas.List.{append-nil}
use Rattle.std.proofs.lemmas.List.Elements.{All-weaker, recursion_from_All}
use Rattle.scan_values.specs.DataType.{DataType}
use Rattle.scan_segments.specs.Source.{Store}
use Rattle.scan_segments.specs.MemorySource.{source_state}
use Rattle.scan_segments.specs.Cache.{empty_cache}
use Rattle.scan_segments.specs.declared.memory_source.MemorySource.{MemorySource}
use Rattle.scan_opener.specs.Opener.{Given, skip}
use Rattle.scan_multi.specs.Answer.{ToldFile, answer}
use Rattle.scan_multi.specs.Before.{ReachesFile}
use Rattle.scan_multi.specs.Output.{ChunkData, chunk_items, given, IsChunk, Admits}
use Rattle.scan_multi.specs.Causes.{counted, IsOfFile, HasCause}
use Rattle.scan_multi.specs.Checks.{IsRead, IsOfOtherType, IsIllFormed, EndsPast, rows_in}
use Rattle.scan_multi.specs.Damaged.{IsDamaged}
use Rattle.scan_multi.specs.Lawful.{told, told_file, IsLawful, Tells, Agrees, IsIdle, AllGive}
use Rattle.scan_multi.specs.Overflow.{OverflowsIn}
use Rattle.scan_multi.specs.Request.{first_request_fault}
use Rattle.scan_opener.specs.declared.opener.MemoryOpener.{MemoryOpener}
use Rattle.scan_drive.specs.declared.files.ScanFile.{ScanFile}
use Rattle.scan_multi.specs.declared.scan.fault.RangeFault.TheVariants.{Reversed, Past}
use Rattle.scan_multi.specs.declared.scan.fault.ScanFault.{ScanFault}
use Rattle.scan_multi.specs.declared.scan.fault.ScanFault.TheVariants as fault
use Rattle.scan_manifest.specs.declared.manifest.FileSpec.{FileSpec}
use Rattle.scan_manifest.specs.declared.manifest.Manifest.{Manifest}
use Rattle.scan_manifest.specs.declared.json.ParseFault.{ParseFault}
use Rattle.scan_manifest.specs.Manifest.{IsManifest, all_agree}
use Rattle.scan_manifest.proofs.CallerLemmas.{manifest_agrees, places_same}
use Rattle.scan_run.specs.declared.run.Asked.{Asked}
use Rattle.scan_run.specs.AskedOf.{IsAsked}
use Rattle.scan_run.specs.FileOf.{memory_opener, IsFileOf, AreFilesOf, AreReady}
use Rattle.scan_run.specs.Run.{CanFail, given_by, store_of, told_by, lines_of, IsScanned, IsBadFile, IsReached, IsUnreadable, of_opener, of_source, of_type, of_layout, of_range, of_segment, of_overflow, of_rows}
use Rattle.scan_run.specs.Printed.{chunks_lines}
use Rattle.scan_run.specs.Stops.{stop_of, IsStop, IsTextOf}

-- a file in memory
abbrev pub File : Type 0
File = ScanFile MemoryOpener MemorySource

told_is : {X : Type 0} (o : Option X) (x : X) (P : X → Type 0) → o ≡ Some x → IfSome o P → P x
told_is o x P e h = subst (λ q. IfSome q P) e h

told_some : {X : Type 0} (o : Option X) (x : X) → o ≡ Some x → IsSome o
told_some o x e = subst IsSome (sym e) refl

-- ---- the files of a manifest
-- the file at a place, and what it is made of
record At (specs : List FileSpec) (k : ℕ) (f : File) : Type 0 where
  spec : FileSpec
  there : Contains specs spec
  place : there.0 ≡ k
  is : IsFileOf spec f

file_at : (specs : List FileSpec) (files : List File) → AreFilesOf specs files → (k : ℕ) (f : File) → k < length files → At specs k (get_or files k f)
file_at [] [] are k f lt = absurd (omega arith)
file_at [] (x ∷ files) are k f lt = absurd are
file_at (s ∷ specs) [] are k f lt = absurd are
file_at (s ∷ specs) (x ∷ files) are zero f lt = record { spec = s; there = (0, omega arith, refl); place = refl; is = are.0 }
file_at (s ∷ specs) (x ∷ files) are (suc k) f lt =
    let r = file_at specs files are.1 k f (omega arith) in
    let n = r.there.1 in
    record { spec = r.spec; there = (suc r.there.0, omega (arith, n), r.there.2); place = ap suc r.place; is = r.is }

told_spec : (spec : FileSpec) (f : File) → IsFileOf spec f → told_file memory_opener source_state f ≡ told_by spec
told_spec spec f is =
    let by : Option Given → Option Store → ToldFile = λ g s. record { given = unwrap_or g skip; store = unwrap_or s (λ id. None) } in
    ap (λ g. by g (source_state f.source).holds) is.gives ∙ ap (λ s. by (Some (given_by spec)) s) is.holds

pub told_same : (specs : List FileSpec) (files : List File) → AreFilesOf specs files → told memory_opener source_state files ≡ map told_by specs
told_same [] [] are = refl
told_same [] (x ∷ files) are = absurd are
told_same (s ∷ specs) [] are = absurd are
told_same (s ∷ specs) (x ∷ files) are =
    ap (λ t. t ∷ told memory_opener source_state files) (told_spec s x are.0) ∙ ap (λ ts. told_by s ∷ ts) (told_same specs files are.1)

some : {A B : Type 0} (xs : List A) (k : ℕ) → k < length xs → (A → B) → B
some [] k lt h = absurd (omega arith)
some (x ∷ xs) k lt h = h x

module _ (m : Manifest) (made new : List File) (are : AreFilesOf m.files made) (lawful : IsLawful memory_opener source_state made empty_cache) where
  -- a file of the manifest of which this holds, and which the scan comes to
  record Found (place : ℕ) (Q : FileSpec → Type 0) : Type 0 where
    spec : FileSpec
    there : Contains m.files spec
    is_there : there.0 ≡ place
    fact : Q spec
    before : IsReached m there.0

  -- what was given before the file at a place
  reached : (place : ℕ) (P : File → File → Type 0) → IsOfFile memory_opener source_state m.workers m.dtype m.request empty_cache made new place P → IsReached m place
  reached place P at o = subst (λ ts. ReachesFile m.dtype m.request ts place) (told_same m.files made are) (at.before o lawful)

  -- a fact of the file at a place, of what that is made of
  from_file : (place : ℕ) (P : File → File → Type 0) (Q : FileSpec → Type 0) → IsOfFile memory_opener source_state m.workers m.dtype m.request empty_cache made new place P
      → ((spec : FileSpec) (f g : File) → IsFileOf spec f → P f g → Q spec) → Found place Q
  from_file place P Q at h = some made place at.there (λ f.
      let r = file_at m.files made are place f at.there in
      record { spec = r.spec; there = r.there; is_there = r.place; fact = h r.spec (get_or made place f) (get_or new place f) r.is (at.fact f); before = subst (IsReached m) (sym r.place) (reached place P at) })

  bad_file : (place : ℕ) (P : File → File → Type 0) → IsOfFile memory_opener source_state m.workers m.dtype m.request empty_cache made new place P
      → ((spec : FileSpec) (f g : File) → IsFileOf spec f → P f g → IsBadFile m place spec) → IsUnreadable m
  bad_file place P at h =
      let r = from_file place P (IsBadFile m place) at h in
      record { late = at.late; file = r.spec; there = r.there; bad = subst (λ k. IsBadFile m k r.spec) (sym r.is_there) r.fact; before = r.before }

  all_give : AllGive memory_opener source_state made
  all_give = All-weaker (Tells memory_opener source_state) (λ (f : File). IsSome (memory_opener f.opener).gives) (λ f t. t.gives) made lawful.tells

  too_many : (place : ℕ) → 2 ^ 64 ≤ rows_in (counted m.request.ordered place (told memory_opener source_state made))
      → 2 ^ 64 ≤ rows_in (counted m.request.ordered place (map told_by m.files))
  too_many place h = subst (λ ts. 2 ^ 64 ≤ rows_in (counted m.request.ordered place ts)) (told_same m.files made are) h

  -- each cause is one that the manifest shows
  pub stopped : (e : ScanFault) → HasCause memory_opener source_state m.workers m.dtype m.request empty_cache made new e → IsStop m (stop_of e)
  stopped fault.NoMemory c = tt
  stopped fault.Concurrency c = (fault.Concurrency, c)
  stopped fault.Partitions c = (fault.Partitions, c)
  stopped (fault.RowRange Reversed) c = (fault.RowRange Reversed, c)
  stopped (fault.Bind b) c = (fault.Bind b, c)
  stopped (fault.Opener place) at =
      let r = from_file place _ (λ spec. CanFail m spec) at (λ spec f g is w. of_opener (sym is.opener_can_fail ∙ w.1)) in
      record { late = at.late; file = r.spec; there = r.there; failing = r.fact; before = r.before }
  stopped (fault.Source place id) at =
      let r = from_file place _ (λ spec. CanFail m spec) at (λ spec f g is w. of_source (sym is.source_can_fail ∙ w.failed.1) (told_is _ (given_by spec) (IsRead m.dtype m.request) is.gives w.read)) in
      record { late = at.late; file = r.spec; there = r.there; failing = r.fact; before = r.before }
  stopped (fault.DTypeMismatch place) at = bad_file place _ at (λ spec f g is w. of_type (told_is _ (given_by spec) (IsOfOtherType m.dtype) is.gives w.1))
  stopped (fault.Layout place l) at = bad_file place _ at (λ spec f g is w. of_layout l (told_is _ (given_by spec) (IsIllFormed m.dtype l) is.gives w.1))
  stopped (fault.RowRange (Past place)) at = bad_file place _ at (λ spec f g is w. of_range (told_is _ (given_by spec) (EndsPast m.dtype m.request) is.gives w.1))
  stopped (fault.TooManyRows place) at = bad_file place _ at.0 (λ spec f g is w. of_rows (too_many place (at.1 all_give)))
  stopped (fault.Corrupt place id) at =
      bad_file place _ at (λ spec f g is w. of_segment id (subst (λ t. IsDamaged m.dtype m.request t id) (told_spec spec f is) (w.damaged lawful)))
  stopped (fault.Overflow place) at =
      bad_file place _ at (λ spec f g is w. of_overflow (subst (λ (t : ToldFile). OverflowsIn m.dtype m.request t.given t.store) (told_spec spec f is) (w lawful)))

  -- what a scan of the files that were made gives is what the manifest asks for
  pub scanned : (chunks : List ChunkData) → first_request_fault m.workers m.dtype m.request ≡ None
      → (IsLawful memory_opener source_state made empty_cache → Admits m.dtype m.request (answer m.dtype m.request (told memory_opener source_state made)) chunks) → IsScanned m chunks
  scanned chunks p a = record { passes = p; admits = subst (λ ts. Admits m.dtype m.request (answer m.dtype m.request ts) chunks) (told_same m.files made are) (a lawful) }

-- ---- the files together
same_length : (specs : List FileSpec) (files : List File) → AreFilesOf specs files → length files ≡ length specs
same_length [] [] are = refl
same_length [] (x ∷ files) are = absurd are
same_length (s ∷ specs) [] are = absurd are
same_length (s ∷ specs) (x ∷ files) are = let n = same_length specs files are.1 in omega (arith, n)

-- a fact of each file
each_file : (P : File → Type 0) (specs : List FileSpec) (files : List File) → ((spec : FileSpec) (f : File) → IsFileOf spec f → P f) → AreFilesOf specs files → All P files
each_file P specs files h are k f lt = let r = file_at specs files are k f lt in h r.spec (get_or files k f) r.is

-- the file at a place is made of what stands there
spec_at : (specs : List FileSpec) (files : List File) → AreFilesOf specs files → (k : ℕ) (s : FileSpec) (f : File) → k < length files → IsFileOf (get_or specs k s) (get_or files k f)
spec_at [] [] are k s f lt = absurd (omega arith)
spec_at [] (x ∷ files) are k s f lt = absurd are
spec_at (t ∷ specs) [] are k s f lt = absurd are
spec_at (t ∷ specs) (x ∷ files) are zero s f lt = are.0
spec_at (t ∷ specs) (x ∷ files) are (suc k) s f lt = spec_at specs files are.1 k s f (omega arith)

-- files of one name hold the same segments
same_held : (specs : List FileSpec) (files : List File) → all_agree specs ≡ true → AreFilesOf specs files → (i j : ℕ) (f : File) → i < length files → j < length files
    → (get_or files i f).source_id ≡ (get_or files j f).source_id → (source_state (get_or files i f).source).holds ≡ (source_state (get_or files j f).source).holds
same_held [] files h are i j f li lj e = let n = same_length [] files are in absurd (omega (arith, n))
same_held (s ∷ specs) files h are i j f li lj e =
    let n = same_length (s ∷ specs) files are in
    let a = spec_at (s ∷ specs) files are i s f li in
    let b = spec_at (s ∷ specs) files are j s f lj in
    let id : (get_or (s ∷ specs) i s).id ≡ (get_or (s ∷ specs) j s).id = sym a.source_id ∙ e ∙ b.source_id in
    let segments = places_same (s ∷ specs) i j s h (omega (arith, n)) (omega (arith, n)) id in
    a.holds ∙ ap (λ ss. Some (store_of ss)) segments ∙ sym b.holds

-- the objects of files that agree are lawful, with a cache that is empty
pub ready : (specs : List FileSpec) (files : List File) → all_agree specs ≡ true → AreFilesOf specs files → AreReady files
ready specs files h are = record {
  idle = each_file (IsIdle memory_opener source_state) specs files (λ spec f is. is.idle) are;
  lawful = record {
    tells = each_file (Tells memory_opener source_state) specs files (λ spec f is. record { gives = told_some _ (given_by spec) is.gives; holds = told_some _ (store_of spec.segments) is.holds }) are;
    same = same_held specs files h are;
    cache_tells = refl;
    agrees = each_file (Agrees memory_opener source_state empty_cache) specs files (λ spec f is id. tt) are;
  };
}

-- the files of the manifest that bytes are agree
pub files_agree : (o : Result Manifest ParseFault) (bytes : List ℕ) → IfOk o (λ m. IsManifest bytes m) → IfOk o (λ m. all_agree m.files ≡ true)
files_agree o bytes h = IfOk-weaker o _ _ (λ m i. manifest_agrees bytes m i) h

-- of files that are made one by one, where none is left
pub all_made : (specs : List FileSpec) (made : List File) (left : List FileSpec) (n : ℕ) → n ≡ length left → n ≡ 0 → ((rest : List File) → AreFilesOf left rest → AreFilesOf specs (made ++ rest)) → AreFilesOf specs made
all_made specs made [] n e z h = subst (AreFilesOf specs) (append-nil made) (h [] tt)
all_made specs made (s ∷ left) n e z h = absurd (omega (arith, e, z))

-- ---- a scan of what is asked
module _ (a : Asked) (made : List File) (ready : AreReady made) where
  pub asked_scanned : (chunks : List ChunkData) → first_request_fault a.workers a.dtype a.request ≡ None
      → (IsLawful memory_opener source_state made empty_cache → Admits a.dtype a.request (answer a.dtype a.request (told memory_opener source_state made)) chunks)
      → (m : Manifest) → IsAsked m a → AreFilesOf m.files made → IsScanned m chunks
  asked_scanned chunks p h m is are =
      scanned m made made are ready.lawful chunks (rw (is.dtype, is.request, is.workers) p) (rw (is.dtype, is.request) h)

  pub asked_stopped : (new : List File) (e : ScanFault) → HasCause memory_opener source_state a.workers a.dtype a.request empty_cache made new e
      → (m : Manifest) → IsAsked m a → AreFilesOf m.files made → IsStop m (stop_of e)
  asked_stopped new e h m is are = stopped m made new are ready.lawful e (rw (is.dtype, is.request, is.workers) h)

chunks_by : (d : DataType) (cs : List ChunkData) → AllByRecursion (IsChunk d) cs → chunks_lines cs ≡ lines_of d (given cs)
chunks_by d [] h = refl
chunks_by d (c ∷ cs) h =
    ap (λ t. lines_of t (chunk_items c) ++ chunks_lines cs) h.0.dtype
    ∙ ap (λ ys. lines_of d (chunk_items c) ++ ys) (chunks_by d cs h.1)
    ∙ sym (flat_map-append _ (chunk_items c) (given cs))

-- chunks of one dtype print their rows' lines
pub chunks_printed : (d : DataType) (cs : List ChunkData) → All (IsChunk d) cs → chunks_lines cs ≡ lines_of d (given cs)
chunks_printed d cs h = chunks_by d cs (recursion_from_All (IsChunk d) cs h)

-- the lines of what a manifest's scan gives
pub text_printed : (m : Manifest) (chunks : List ChunkData) (text : List ℕ) → IsScanned m chunks → text ≡ chunks_lines chunks → IsTextOf m text
text_printed m chunks text s e = (chunks, s, e ∙ chunks_printed _ chunks s.admits.chunks)

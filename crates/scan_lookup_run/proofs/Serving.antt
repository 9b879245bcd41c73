-- What a session gives that serves a job, and why one of its look-ups is refused.
use Rattle.std.proofs.Common.{◌≡◌, ◌≢◌, inl, inr, ℕ, zero, suc, ◌+◌, ◌<◌, ◌≤◌, true, List, [], ◌∷◌, ◌++◌, length, get_or, map, drop, flat_map, slice_get, Option, None, Some, refl, sym, ap, ◌∙◌, subst, arith, append_assoc, append-nil}
use Rattle.std.specs.Prelude.{All, Contains, IfSome, unwrap_or, Result, Ok, Err}
use Rattle.std.proofs.lemmas.List.{drop_all, drop_more, take_all}
use Rattle.std.proofs.lemmas.List.Elements.{All-nil, All-cons}
use Rattle.scan_values.specs.Arrays.{ArrayData}
use Rattle.scan_values.specs.Val.{Val, is_clean, is_clean-marked, marked, read_marked, read-marked}
use Rattle.scan_caches.specs.Bounded.{Bounded, keyed_state}
use Rattle.scan_expr.specs.Bound.{bound_of}
use Rattle.scan_expr.specs.Infer.{infer}
use Rattle.scan_expr.specs.Typing.{Fault, bind_fault}
use Rattle.scan_expr.specs.declared.op.BindFault.{BindFault}
use Rattle.scan_segments.specs.Cache.{CacheState, empty_cache}
use Rattle.scan_segments.specs.MemorySource.{source_state}
use Rattle.scan_segments.specs.Source.{Store}
use Rattle.scan_segments.specs.declared.memory_source.MemorySource.{MemorySource}
use Rattle.scan_segments.specs.declared.segment.SegmentKey.{SegmentKey}
use Rattle.scan_opener.specs.Opener.{Given, skip}
use Rattle.scan_opener.specs.declared.opener.MemoryOpener.{MemoryOpener}
use Rattle.scan_drive.specs.declared.files.ScanFile.{ScanFile}
use Rattle.scan_multi.specs.Answer.{ToldFile}
use Rattle.scan_multi.specs.Checks.{IsIllFormed, IsOfOtherType}
use Rattle.scan_multi.specs.Lawful.{Gives, IsLawful, told, told_file}
use Rattle.scan_multi.specs.Moves.{EachMoves, FileMoves}
use Rattle.scan_manifest.specs.declared.manifest.FileSpec.{FileSpec}
use Rattle.scan_run.specs.FileOf.{AreFilesOf, AreReady, IsFileOf, memory_opener}
use Rattle.scan_run.specs.Line.{line_of}
use Rattle.scan_run.specs.Run.{given_by, told_by}
use Rattle.scan_run.proofs.Stopping.{told_same}
use Rattle.scan_lookup.specs.Asked.{named_rows, rows_at}
use Rattle.scan_lookup.specs.Causes.{AtPlace, Before, HasLookupCause, IsFlawedAt, IsNowhere, IsTold, OfRead, OverflowsAt}
use Rattle.scan_lookup.specs.Lookups.{IsLookupRefusedFor, IsReply, LookupMoves, NeverOverflows}
use Rattle.scan_lookup.specs.Replies.{IsThere, reply_to}
use Rattle.scan_lookup.specs.Faults.{IsBound as IsTyped}
use Rattle.scan_lookup.specs.Session.{new_session}
use Rattle.scan_lookup.specs.declared.fault.LookupFault.{LookupFault}
use Rattle.scan_lookup.specs.declared.fault.LookupFault.TheVariants as fault
use Rattle.scan_places.specs.Walks.{GivesRow, LacksRow}
use Rattle.scan_places.specs.declared.place.Place.{Place}
use Rattle.scan_lookup.proofs.Distinct.{contains_distinct}
use Rattle.scan_lookup_run.specs.AskedOf.{IsAsked}
use Rattle.scan_lookup_run.specs.Replied.{IsAnswered, IsTextOf, lookup_lines, place_line, projected, reply_lines, told_files, value_at}
use Rattle.scan_lookup_run.specs.Runs.{CanFail, IsBadPlace, IsBound, IsEnd, of_layout, of_list, of_opener, of_overflow, of_row, of_segment, of_source, of_type, status_of_fault}
use Rattle.scan_lookup_run.specs.Served.{EndsBy, HasServed, HasServedAll, Serves, Session}
use Rattle.scan_lookup_run.specs.declared.program.Asked.{Asked}
use Rattle.scan_lookup_run.specs.declared.reading.Job.{Job}
use Rattle.scan_lookup_run.proofs.Listed.{all_joined, in_joined, in_slice, named_file, named_row}

-- a file in memory
abbrev File : Type 0
File = ScanFile MemoryOpener MemorySource

told_is : {X : Type 0} (o : Option X) (x : X) (P : X → Type 0) → o ≡ Some x → IfSome o P → P x
told_is o x P e h = subst (λ q. IfSome q P) e h

-- ---- the files of a job
-- the file at a place, and what it is made of
record At (specs : List FileSpec) (k : ℕ) (f : File) : Type 0 where
  spec : FileSpec
  there : slice_get specs k ≡ Some spec
  is : IsFileOf spec f

file_at : (specs : List FileSpec) (files : List File) → AreFilesOf specs files → (k : ℕ) (f : File) → k < length files → At specs k (get_or files k f)
file_at [] [] are k f lt = absurd (omega arith)
file_at [] (x ∷ files) are k f lt = absurd are
file_at (s ∷ specs) [] are k f lt = absurd are
file_at (s ∷ specs) (x ∷ files) are zero f lt = record { spec = s; there = refl; is = are.0 }
file_at (s ∷ specs) (x ∷ files) are (suc k) f lt = let r = file_at specs files are.1 k f (omega arith) in record { spec = r.spec; there = r.there; is = r.is }

some : {A B : Type 0} (xs : List A) (k : ℕ) → k < length xs → (A → B) → B
some [] k lt h = absurd (omega arith)
some (x ∷ xs) k lt h = h x

told_spec : (spec : FileSpec) (f : File) → IsFileOf spec f → told_file memory_opener source_state f ≡ told_by spec
told_spec spec f is =
    let by : Option Given → Option Store → ToldFile = λ g s. record { given = unwrap_or g skip; store = unwrap_or s (λ id. None) } in
    ap (λ g. by g (source_state f.source).holds) is.gives ∙ ap (λ s. by (Some (given_by spec)) s) is.holds

told_at : (specs : List FileSpec) (k : ℕ) (spec : FileSpec) → slice_get specs k ≡ Some spec → slice_get (map told_by specs) k ≡ Some (told_by spec)
told_at [] k spec e = cc
told_at (s ∷ specs) zero spec e = let same : s ≡ spec = cc in ap (λ x. Some (told_by x)) same
told_at (s ∷ specs) (suc k) spec e = told_at specs k spec e

same_length : (specs : List FileSpec) (files : List File) → AreFilesOf specs files → length files ≡ length specs
same_length [] [] are = refl
same_length [] (x ∷ files) are = absurd are
same_length (s ∷ specs) [] are = absurd are
same_length (s ∷ specs) (x ∷ files) are = let n = same_length specs files are.1 in omega (arith, n)

-- what has moved is made of the same
moved_file : (spec : FileSpec) (f g : File) → FileMoves memory_opener source_state f g → IsFileOf spec f → IsFileOf spec g
moved_file spec f g m is = record {
  source_id = m.source_id ∙ is.source_id;
  opener_can_fail = m.opener_can_fail ∙ is.opener_can_fail;
  gives = m.gives ∙ is.gives;
  holds = m.holds ∙ is.holds;
  source_can_fail = m.source_can_fail ∙ is.source_can_fail;
  idle = m.live ∙ is.idle;
}

pub moved_files : (specs : List FileSpec) (old new : List File) → EachMoves memory_opener source_state old new → length new ≡ length old → AreFilesOf specs old → AreFilesOf specs new
moved_files [] [] [] m n are = tt
moved_files [] [] (y ∷ new) m n are = absurd (omega (arith, n))
moved_files [] (x ∷ old) new m n are = absurd are
moved_files (s ∷ specs) [] new m n are = absurd are
moved_files (s ∷ specs) (x ∷ old) [] m n are = absurd (omega (arith, n))
moved_files (s ∷ specs) (x ∷ old) (y ∷ new) m n are = (moved_file s x y (m 0 x) are.0, moved_files specs old new (λ k f. m (suc k) f) (omega (arith, n)) are.1)

-- ---- values at places, and their lines
module _ (j : Job) where
  cleans : (ps : List Place) (vs : List Val) → map marked vs ≡ reply_to (projected j) (told_files j) ps → All (λ p. is_clean (value_at j p) ≡ true) ps
  cleans [] vs e = All-nil (λ p. is_clean (value_at j p) ≡ true)
  cleans (p ∷ ps) [] e = cc
  cleans (p ∷ ps) (v ∷ vs) e =
      let here : marked v ≡ value_at j p = cc in
      let rest : map marked vs ≡ reply_to (projected j) (told_files j) ps = cc in
      All-cons (λ q. is_clean (value_at j q) ≡ true) p ps (subst (λ m. is_clean m ≡ true) here (is_clean-marked v)) (cleans ps vs rest)

  -- the lines of a reply
  pub replied : (ps : List Place) (vs : List Val) → map marked vs ≡ reply_to (projected j) (told_files j) ps → reply_lines (infer j.dtype j.projection) ps vs ≡ lookup_lines j ps
  replied [] vs e = refl
  replied (p ∷ ps) [] e = cc
  replied (p ∷ ps) (v ∷ vs) e =
      let here : marked v ≡ value_at j p = cc in
      let rest : map marked vs ≡ reply_to (projected j) (told_files j) ps = cc in
      ap (λ x. line_of (infer j.dtype j.projection) p.file p.row x ++ reply_lines (infer j.dtype j.projection) ps vs) (sym (read-marked v) ∙ ap read_marked here)
      ∙ ap (λ xs. place_line j p ++ xs) (replied ps vs rest)

  module _ (old : List File) (are : AreFilesOf j.files old) where
    told_here : told memory_opener source_state old ≡ told_files j
    told_here = told_same j.files old are

    -- the file of a place is the one that its opener gives
    there_of : (p : Place) → p.file < length old → ((f : File) → Gives memory_opener source_state (GivesRow j.dtype p.row) (get_or old p.file f)) → IsThere j.dtype (told_files j) p
    there_of p lt h = some old p.file lt (λ f.
        let r = file_at j.files old are p.file f lt in
        (told_by r.spec, told_at j.files p.file r.spec r.there, told_is _ (given_by r.spec) (GivesRow j.dtype p.row) r.is.gives (h f)))

    -- why a look-up is refused, as the job shows it
    module _ (ps : List Place) (new : List File) (cache : CacheState SegmentKey) (bound : IsBound j) (among : Contains j.lookups ps) where
      bad : (p : Place) → Contains ps p → IsBadPlace j p → IsEnd j 4
      bad p n b = inr (inl (refl, record { bound = bound; place = p; among = in_joined j.lookups ps p among n; bad = b }))

      failed : (p : Place) (spec : FileSpec) → Contains ps p → slice_get j.files p.file ≡ Some spec → CanFail j p spec → IsEnd j 5
      failed p spec n at c = inr (inr (inl (refl, record { bound = bound; place = p; file = spec; named = record { among = in_joined j.lookups ps p among n; there = at }; failing = c })))

      nowhere : (p : Place) → Contains ps p → IsNowhere memory_opener source_state (projected j) ps cache old new p → IsEnd j 4
      nowhere p n (inl le) = let e = same_length j.files old are in bad p n (of_list (omega (arith, le, e)))
      nowhere p n (inr (lt, h)) = some old p.file lt (λ f.
          let r = file_at j.files old are p.file f lt in
          bad p n (of_row (told_by r.spec) (told_at j.files p.file r.spec r.there) (told_is _ (given_by r.spec) (LacksRow j.dtype p.row) r.is.gives (h f))))

      -- of the file of a place
      first_place : (s file : ℕ) (P : File → File → Type 0) → AtPlace memory_opener source_state (projected j) ps cache old new file P
          → ((p : Place) (spec : FileSpec) (f g : File) → Contains ps p → slice_get j.files p.file ≡ Some spec → IsFileOf spec f → P f g → IsEnd j s) → IsEnd j s
      first_place s file P at h = some old file at.listed (λ f.
          let r = file_at j.files old are file f at.listed in
          h at.place r.spec (get_or old file f) (get_or new file f) (in_slice ps at.number at.place at.there) (subst (λ k. slice_get j.files k ≡ Some r.spec) (sym at.names) r.there) r.is (at.fact f))

      -- a place that is there
      told_place : (p : Place) → Contains ps p → Before memory_opener source_state (projected j) ps cache old new (length ps) → IsTold memory_opener source_state (projected j) ps cache old new p
      told_place p (k, lt, e) b =
          subst (IsTold memory_opener source_state (projected j) ps cache old new) e
          (subst (All (IsTold memory_opener source_state (projected j) ps cache old new)) (take_all (length ps) ps (omega arith)) b k p lt)

      -- of a file that is read, at a place that names it
      read_place : (s file : ℕ) (P : File → File → Type 0) → OfRead memory_opener source_state (projected j) ps cache old new file P
          → (p : Place) → Contains ps p → p.file ≡ file
          → ((spec : FileSpec) (f g : File) → slice_get j.files p.file ≡ Some spec → IsFileOf spec f → GivesRow j.dtype p.row (given_by spec) → P f g → IsEnd j s) → IsEnd j s
      read_place s file P at p n e h =
          let t = told_place p n at.there in
          some old p.file t.0 (λ f.
          let r = file_at j.files old are p.file f t.0 in
          h r.spec (get_or old p.file f) (get_or new p.file f) r.there r.is (told_is _ (given_by r.spec) (GivesRow j.dtype p.row) r.is.gives (t.1 f))
          (subst (λ k. P (get_or old k f) (get_or new k f)) (sym e) (at.fact f)))

      -- a flaw of the rows that places name of a file is one at a place
      flawed_at : (file id : ℕ) (spec : FileSpec) → slice_get j.files file ≡ Some spec → IsFlawedAt (projected j) (told_by spec) (rows_at file ps) id → IsEnd j 4
      flawed_at file id spec e x =
          let r = named_row ps file x.row (contains_distinct (named_rows file ps) x.row x.asked) in
          bad r.place r.among (of_segment (told_by spec) (told_at j.files r.place.file spec (subst (λ k. slice_get j.files k ≡ Some spec) (sym r.file_is) e)) id (record {
            layout = x.layout;
            given = x.given;
            row = x.row;
            asked = (0, omega arith, r.row_is);
            segment = x.segment;
            there = x.there;
            needs = x.needs;
            is = x.is;
            flawed = x.flawed;
            among = x.among;
          }))

      corrupted : IsLawful memory_opener source_state old cache → (file id : ℕ) → HasLookupCause memory_opener source_state (projected j) ps cache old new (fault.Corrupt file id) → IsEnd j 4
      corrupted lawful file id at =
          let q = named_file ps file at.among in
          read_place 4 file _ at q.place q.among q.file_is (λ spec f g e is row w.
          flawed_at file id spec (subst (λ k. slice_get j.files k ≡ Some spec) q.file_is e) (subst (λ t. IsFlawedAt (projected j) t (rows_at file ps) id) (told_spec spec f is) (w.0 lawful)))

      pub ended : IsLawful memory_opener source_state old cache → (x : LookupFault) → HasLookupCause memory_opener source_state (projected j) ps cache old new x → IsEnd j (status_of_fault x)
      ended lawful fault.NoMemory c = inr (inr (inr refl))
      ended lawful (fault.Bind b) c = absurd c
      ended lawful (fault.NoPlace i) (p, e, before, n) = nowhere p (in_slice ps i p e) n
      ended lawful (fault.Opener file) at = first_place 5 file _ at (λ p spec f g n e is w. failed p spec n e (of_opener (sym is.opener_can_fail ∙ w.1)))
      ended lawful (fault.DTypeMismatch file) at =
          first_place 4 file _ at (λ p spec f g n e is w. bad p n (of_type (told_by spec) (told_at j.files p.file spec e) (told_is _ (given_by spec) (IsOfOtherType j.dtype) is.gives w.1)))
      ended lawful (fault.Layout file l) at =
          first_place 4 file _ at (λ p spec f g n e is w. bad p n (of_layout (told_by spec) (told_at j.files p.file spec e) l (told_is _ (given_by spec) (IsIllFormed j.dtype l) is.gives w.1)))
      ended lawful (fault.Source file id) at =
          let r = named_file ps file at.among in
          read_place 5 file _ at r.place r.among r.file_is (λ spec f g e is row w. failed r.place spec r.among e (of_source (sym is.source_can_fail ∙ w.0.1) row))
      ended lawful (fault.Corrupt file id) at = corrupted lawful file id at
      ended lawful (fault.Overflow file row) (n, at) =
          read_place 4 file _ at (record { file = file; row = row }) n refl (λ spec f g e is there w.
          bad (record { file = file; row = row }) n (of_overflow (told_by spec) (told_at j.files file spec e) (subst (λ t. OverflowsAt (projected j) row t) (told_spec spec f is) (w lawful))))

-- ---- a session that serves a job
module _ (j : Job) (s s' : Session) (ps : List Place) (serves : Serves j s) where
  -- it serves it after a look-up
  still : s'.projection ≡ s.projection → LookupMoves memory_opener source_state s.projection ps s.files s'.files s.kept s'.kept (keyed_state s.cache) (keyed_state s'.cache) → Serves j s'
  still e m = record {
    bound = serves.bound;
    projection = e ∙ serves.projection;
    files = moved_files j.files s.files s'.files m.moves m.count serves.files;
    lawful = m.lawful serves.lawful;
  }

  -- the places of a reply are answered
  module _ (a : ArrayData) (r : IsReply memory_opener source_state (projected j) ps s.files s'.files (keyed_state s.cache) (keyed_state s'.cache) a) where
    told_all : told memory_opener source_state s.files ≡ told_files j
    told_all = told_same j.files s.files serves.files

    values : map marked a.items ≡ reply_to (projected j) (told_files j) ps
    values = subst (λ ts. map marked a.items ≡ reply_to (projected j) ts ps) told_all (r.values serves.lawful)

    there : All (IsTold memory_opener source_state (projected j) ps (keyed_state s.cache) s.files s'.files) ps
    there = subst (All (IsTold memory_opener source_state (projected j) ps (keyed_state s.cache) s.files s'.files)) (take_all (length ps) ps (omega arith)) r.there

    fits : NeverOverflows (projected j) (told_files j) ps
    fits = subst (λ ts. NeverOverflows (projected j) ts ps) told_all (r.no_overflow serves.lawful)

    answered : All (IsAnswered j) ps
    answered k p lt =
        let q = get_or ps k p in
        let t = there k p lt in
        record { there = there_of j s.files serves.files q t.0 t.1; clean = cleans j ps a.items values k p lt; fits = fits k p lt }

    text_of : (out out' : List ℕ) → out' ≡ out ++ reply_lines a.dtype ps a.items → out' ≡ out ++ lookup_lines j ps
    text_of out out' e = e ∙ ap (λ d. out ++ reply_lines d ps a.items) r.dtype ∙ ap (λ xs. out ++ xs) (replied j ps a.items values)

  pub has_served : (a : ArrayData) (out out' : List ℕ) → s'.projection ≡ s.projection
      → LookupMoves memory_opener source_state s.projection ps s.files s'.files s.kept s'.kept (keyed_state s.cache) (keyed_state s'.cache)
      → IsReply memory_opener source_state s.projection ps s.files s'.files (keyed_state s.cache) (keyed_state s'.cache) a
      → out' ≡ out ++ reply_lines a.dtype ps a.items → HasServed j ps s' out out'
  has_served a out out' e m r text =
      let here = subst (λ b. IsReply memory_opener source_state b ps s.files s'.files (keyed_state s.cache) (keyed_state s'.cache) a) serves.projection r in
      record { serves = still e m; answered = answered a here; lines = text_of a here out out' text }

-- a look-up of a session that is refused
pub is_ended : (s : Session) (ps : List Place) (new : List File) (cache' : CacheState SegmentKey) (x : LookupFault)
    → IsLookupRefusedFor memory_opener source_state s.projection ps s.files new (keyed_state s.cache) cache' x → EndsBy ps s (status_of_fault x)
is_ended s ps new cache' x r j serves among =
    ended j s.files serves.files ps new (keyed_state s.cache) serves.bound among serves.lawful x
    (subst (λ e. HasLookupCause memory_opener source_state e ps (keyed_state s.cache) s.files new x) serves.projection r.cause)

-- ---- look-ups one after the other
-- of the first so many look-ups, the places are answered and the lines stand behind what stood there
pub record Serving (j : Job) (s : Session) (k : ℕ) (lists : List (List Place)) (old now : List ℕ) : Type 0 where
  pub serves : Serves j s
  pub answered : All (All (IsAnswered j)) (drop k lists) → All (All (IsAnswered j)) lists
  pub lines : now ++ flat_map (lookup_lines j) (drop k lists) ≡ old ++ flat_map (lookup_lines j) lists

pub first_served : (j : Job) (s : Session) (lists : List (List Place)) (old : List ℕ) → Serves j s → Serving j s 0 lists old old
first_served j s lists old h = record { serves = h; answered = λ all. all; lines = refl }

pub one_served : (j : Job) (s s' : Session) (k : ℕ) (lists : List (List Place)) (ps : List Place) (old now now' : List ℕ) → k < length lists → ps ≡ get_or lists k ps
    → Serving j s k lists old now → (Serves j s → HasServed j ps s' now now') → Serving j s' (k + 1) lists old now'
one_served j s s' k lists ps old now now' lt is v step =
    let h = step v.serves in
    let more : drop k lists ≡ ps ∷ drop (k + 1) lists = drop_more lists k ps lt ∙ ap (λ qs. qs ∷ drop (k + 1) lists) (sym is) in
    record {
      serves = h.serves;
      answered = λ rest. v.answered (subst (All (All (IsAnswered j))) (sym more) (All-cons (All (IsAnswered j)) ps (drop (k + 1) lists) h.answered rest));
      lines = ap (λ xs. xs ++ flat_map (lookup_lines j) (drop (k + 1) lists)) h.lines ∙ append_assoc now (lookup_lines j ps) (flat_map (lookup_lines j) (drop (k + 1) lists))
          ∙ ap (λ xs. now ++ flat_map (lookup_lines j) xs) (sym more) ∙ v.lines;
    }

pub all_served : (j : Job) (s : Session) (k : ℕ) (lists : List (List Place)) (old now : List ℕ) → length lists ≤ k → j.lookups ≡ lists → Serving j s k lists old now → HasServedAll j old now
all_served j s k lists old now le is v =
    let none : drop k lists ≡ [] = drop_all k lists le in
    record {
      answered = subst (All (All (IsAnswered j))) (sym is) (v.answered (subst (All (All (IsAnswered j))) (sym none) (All-nil (All (IsAnswered j)))));
      lines = sym (append-nil now) ∙ ap (λ xs. now ++ flat_map (lookup_lines j) xs) (sym none) ∙ v.lines ∙ ap (λ xs. old ++ flat_map (lookup_lines j) xs) (sym is);
    }

-- a look-up of a job
pub one_ended : (j : Job) (s : Session) (k : ℕ) (lists : List (List Place)) (ps : List Place) (old now : List ℕ) (status : ℕ) → k < length lists → ps ≡ get_or lists k ps → j.lookups ≡ lists
    → Serving j s k lists old now → EndsBy ps s status → IsEnd j status
one_ended j s k lists ps old now status lt is e v ends = ends j v.serves (subst (λ ls. Contains ls ps) (sym e) (k, lt, sym is))

-- ---- a session that is new
same_fault : (x y : LookupFault) → ◌≡◌ {A = Result Session LookupFault} (Err x) (Err y) → x ≡ y
same_fault x y e = cc

typed_none : (F : Fault) (s : Session) → IsTyped {T = Session} F (Ok s) → F ≡ None
typed_none None s h = refl
typed_none (Some f) s h = cc

module _ (a : Asked) (made : List File) (ready : AreReady made) (j : Job) (is : IsAsked j a) (are : AreFilesOf j.files made) where
  pub new_serves : (s : Session) (cache : Bounded) → bind_fault a.dtype a.projection ≡ None → keyed_state cache ≡ empty_cache → s ≡ new_session (bound_of a.dtype a.projection) made cache → Serves j s
  new_serves s cache bound empty e = subst (Serves j) (sym e) (record {
    bound = rw (is.dtype, is.projection) bound;
    projection = rw (is.dtype, is.projection) refl;
    files = are;
    lawful = subst (IsLawful memory_opener source_state made) (sym empty) ready.lawful;
  })

  pub made_lines : (text : List ℕ) → bind_fault a.dtype a.projection ≡ None → HasServedAll j [] text → IsTextOf j text
  made_lines text bound h = record {
    bound = rw (is.dtype, is.projection) bound;
    answered = all_joined (IsAnswered j) j.lookups h.answered;
    lines = h.lines;
  }

  -- a projection that does not bind
  pub unbound_end : (f : BindFault) → bind_fault a.dtype a.projection ≡ Some f → IsEnd j 3
  unbound_end f h = inl (refl, (f, rw (is.dtype, is.projection) h))

  -- what a session that could not be begun says of the job
  unbound_by : (F : Fault) → bind_fault a.dtype a.projection ≡ F → (x : LookupFault) → IsTyped {T = Session} F (Err x) → IsEnd j (status_of_fault x)
  unbound_by None q x h = absurd (no_value x h)
    where
      no_value : (x : LookupFault) → IsTyped {T = Session} None (Err x) → ⊥
      no_value x h = cc
  unbound_by (Some f) q x h = subst (λ y. IsEnd j (status_of_fault y)) (sym (same_fault x (fault.Bind f) h)) (unbound_end f q)

  pub new_end : (x : LookupFault) → (◌≢◌ {A = Result Session LookupFault} (Err x) (Err fault.NoMemory) → IsTyped {T = Session} (bind_fault a.dtype a.projection) (Err x)) → IsEnd j (status_of_fault x)
  new_end fault.NoMemory h = inr (inr (inr refl))
  new_end (fault.Bind f) h = unbound_by (bind_fault a.dtype a.projection) refl (fault.Bind f) (h (λ q. cc))
  new_end (fault.NoPlace n) h = unbound_by (bind_fault a.dtype a.projection) refl (fault.NoPlace n) (h (λ q. cc))
  new_end (fault.Opener k) h = unbound_by (bind_fault a.dtype a.projection) refl (fault.Opener k) (h (λ q. cc))
  new_end (fault.Source k id) h = unbound_by (bind_fault a.dtype a.projection) refl (fault.Source k id) (h (λ q. cc))
  new_end (fault.DTypeMismatch k) h = unbound_by (bind_fault a.dtype a.projection) refl (fault.DTypeMismatch k) (h (λ q. cc))
  new_end (fault.Layout k l) h = unbound_by (bind_fault a.dtype a.projection) refl (fault.Layout k l) (h (λ q. cc))
  new_end (fault.Corrupt k id) h = unbound_by (bind_fault a.dtype a.projection) refl (fault.Corrupt k id) (h (λ q. cc))
  new_end (fault.Overflow k row) h = unbound_by (bind_fault a.dtype a.projection) refl (fault.Overflow k row) (h (λ q. cc))

  -- of one that was begun, the lines
  pub new_lines : (s : Session) (cache : Bounded) (text : List ℕ) → (◌≢◌ {A = Result Session LookupFault} (Ok s) (Err fault.NoMemory) → IsTyped {T = Session} (bind_fault a.dtype a.projection) (Ok s))
      → keyed_state cache ≡ empty_cache → s ≡ new_session (bound_of a.dtype a.projection) made cache → (Serves j s → HasServedAll j [] text) → IsTextOf j text
  new_lines s cache text h empty e served =
      let bound = typed_none (bind_fault a.dtype a.projection) s (h (λ q. cc)) in
      made_lines text bound (served (new_serves s cache bound empty e))

  pub new_ends : (s : Session) (cache : Bounded) (status : ℕ) → (◌≢◌ {A = Result Session LookupFault} (Ok s) (Err fault.NoMemory) → IsTyped {T = Session} (bind_fault a.dtype a.projection) (Ok s))
      → keyed_state cache ≡ empty_cache → s ≡ new_session (bound_of a.dtype a.projection) made cache → (Serves j s → IsEnd j status) → IsEnd j status
  new_ends s cache status h empty e ends = ends (new_serves s cache (typed_none (bind_fault a.dtype a.projection) s (h (λ q. cc))) empty e)

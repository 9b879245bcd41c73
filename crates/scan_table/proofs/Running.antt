-- What a run of the program has done at each of its ends.
use Rattle.std.proofs.Common.{◌≡◌, ◌≢◌, ◌⊎◌, inl, inr, ℕ, ◌<◌, ◌≤◌, Bool, true, false, List, [], ◌∷◌, ◌++◌, map, Option, None, Some, nat_lt, refl, sym, ap, ◌∙◌, subst, arith}
use Rattle.std.specs.Prelude.{All, IfSome, IsSome, option_map}
use Rattle.std.specs.List.{AllByRecursion}
use Rattle.std.proofs.lemmas.List.Elements.{All-from_recursion, recursion_from_All}
use Rattle.scan_values.specs.DataType.{DataType, Name}
use Rattle.scan_expr.specs.Typing.{Fault, request_fault}
use Rattle.scan_segments.specs.Cache.{CacheState, empty_cache}
use Rattle.scan_segments.specs.Faults.{Rose}
use Rattle.scan_segments.specs.MemorySource.{source_state}
use Rattle.scan_segments.specs.declared.segment.SegmentKey.{SegmentKey}
use Rattle.scan_groups.specs.Rows.{IsFirstPast}
use Rattle.scan_groups.specs.declared.group.Group.{Group}
use Rattle.scan_manifest.specs.declared.manifest.FileSpec.{FileSpec}
use Rattle.scan_multi.specs.Answer.{ToldFile, answer}
use Rattle.scan_multi.specs.Checks.{IsGood}
use Rattle.scan_multi.specs.Lawful.{Gives, IsLawful, told}
use Rattle.scan_multi.specs.Request.{first_request_fault, has_no_partitions, is_forward, of_bind as scan_bind, or_else as scan_else, unless as scan_unless}
use Rattle.scan_multi.specs.declared.scan.fault.RangeFault.TheVariants.{Reversed, Past}
use Rattle.scan_multi.specs.declared.scan.fault.ScanFault.{ScanFault}
use Rattle.scan_multi.specs.declared.scan.fault.ScanFault.TheVariants as scan
use Rattle.scan_run.specs.FileOf.{AreFilesOf, AreReady, memory_opener}
use Rattle.scan_run.specs.Io.{InputState, OutputState}
use Rattle.scan_run.specs.ReadAll.{GaveAll, TookMore}
use Rattle.scan_opener.specs.Opener.{Given}
use Rattle.scan_run.specs.Run.{given_by, told_by}
use Rattle.scan_run.specs.Stops.{IsStop, status_of, stop_of}
use Rattle.scan_run.specs.WriteAll.{WroteFront}
use Rattle.scan_run.specs.declared.run.Stop.{Stop}
use Rattle.scan_run.specs.declared.run.Stop.TheVariants.{Unbound, Unreadable, Failed, NoMemory}
use Rattle.scan_run.proofs.Stopping.{File, stopped, told_same}
use Rattle.scan_table.specs.AskedOf.{IsAsked}
use Rattle.scan_table.specs.Jobs.{IsJob, scanned_by}
use Rattle.scan_table.specs.Request.{first_table_fault, of_bind, or_else, unless}
use Rattle.scan_table.specs.Runs.{EndsTable, HasTableEnd, IsEnd, IsFailed, IsFaulty, IsGiven, IsJobFound, IsNoJob, IsTableDone, IsTableReady, IsTextOf, IsTotalled, IsUntotalled, TableWrites, WroteFrontOfTable, group_lines, status_of_fault}
use Rattle.scan_table.specs.Scans.{HasTableCause, IsTable}
use Rattle.scan_table.specs.Spec.{all_measured, names_of, projection_of, request_of}
use Rattle.scan_table.specs.Tables.{IsTableOf, table_rows}
use Rattle.scan_table.specs.declared.fault.TableFault.{TableFault}
use Rattle.scan_table.specs.declared.fault.TableFault.TheVariants as fault
use Rattle.scan_table.specs.declared.program.Asked.{Asked}
use Rattle.scan_table.specs.declared.reading.Job.{Job}
use Rattle.scan_table.specs.declared.spec.TableSpec.{TableSpec}
use Rattle.scan_table.proofs.Checking.{no_first, no_plain_fault, no_read_fault_of}
use Rattle.scan_table.proofs.Concluding.{of_table}

-- ---- a table without a fault has a request without one
test_of : (b : Bool) (f : TableFault) → unless b f ≡ None → b ≡ true
test_of true f h = refl
test_of false f h = let e : ◌≡◌ {A = Option TableFault} (Some f) None = h in cc

bound_of : (f : Fault) → of_bind f ≡ None → f ≡ None
bound_of None h = refl
bound_of (Some f) h = let e : ◌≡◌ {A = Option TableFault} (Some (fault.Scan (scan.Bind f))) None = h in cc

second : (a b : Option TableFault) → or_else a b ≡ None → b ≡ None
second None b h = h
second (Some f) b h = let e : ◌≡◌ {A = Option TableFault} (Some f) None = h in cc

pub no_request_fault : (workers : ℕ) (d : DataType) (s : TableSpec) → first_table_fault workers d s ≡ None → first_request_fault workers d (request_of s) ≡ None
no_request_fault workers d s none =
    let plain = no_plain_fault workers d s none in
    let some = test_of (nat_lt 0 workers) (fault.Scan scan.Concurrency) (no_first (unless (nat_lt 0 workers) (fault.Scan scan.Concurrency)) (unless (is_forward s.row_range) (fault.Scan (scan.RowRange Reversed))) plain) in
    let forward = test_of (is_forward s.row_range) (fault.Scan (scan.RowRange Reversed)) (second (unless (nat_lt 0 workers) (fault.Scan scan.Concurrency)) (unless (is_forward s.row_range) (fault.Scan (scan.RowRange Reversed))) plain) in
    let f = request_fault d (projection_of s) s.filter in
    let bound = bound_of f (no_read_fault_of workers d s none) in
    ap (λ b. scan_else (scan_else (scan_unless b scan.Concurrency) (scan_else (scan_unless (has_no_partitions (request_of s)) scan.Partitions) (scan_unless (is_forward s.row_range) (scan.RowRange Reversed)))) (scan_bind f)) some
    ∙ ap (λ b. scan_else (scan_unless b (scan.RowRange Reversed)) (scan_bind f)) forward
    ∙ ap scan_bind bound

-- ---- what is told of files that were made is told of what they are made of
goods_by : (P : Given → Type 0) (specs : List FileSpec) (made : List File) → AreFilesOf specs made → AllByRecursion (Gives memory_opener source_state P) made → AllByRecursion (λ (f : FileSpec). P (given_by f)) specs
goods_by P [] [] are h = tt
goods_by P [] (f ∷ fs) are h = absurd are
goods_by P (spec ∷ specs) [] are h = absurd are
goods_by P (spec ∷ specs) (f ∷ fs) are h = (subst (λ o. IfSome o P) are.0.gives h.0, goods_by P specs fs are.1 h.1)

goods : (P : Given → Type 0) (specs : List FileSpec) (made : List File) → AreFilesOf specs made → All (Gives memory_opener source_state P) made → All (λ (f : FileSpec). P (given_by f)) specs
goods P specs made are h = All-from_recursion (λ (f : FileSpec). P (given_by f)) specs (goods_by P specs made are (recursion_from_All (Gives memory_opener source_state P) made h))

-- ---- a table of the files of a job
module _ (j : Job) (made new : List File) (are : AreFilesOf j.files made) (lawful : IsLawful memory_opener source_state made empty_cache) (c' : CacheState SegmentKey) where
  scan_end : (t : Stop) → first_table_fault j.workers j.dtype j.spec ≡ None → IsStop (scanned_by j) t → IsEnd j (status_of t)
  scan_end Unbound none (e, h) = absurd (let b : ◌≡◌ {A = Option ScanFault} None (Some e) = sym (no_request_fault j.workers j.dtype j.spec none) ∙ h in cc)
  scan_end Unreadable none h = inr (inl (refl, record { late = none; why = inl h }))
  scan_end Failed none h = inr (inr (inl (refl, record { late = none; failing = h })))
  scan_end NoMemory none h = inr (inr (inr refl))

  early_end : (e : ScanFault) → first_table_fault j.workers j.dtype j.spec ≡ Some (fault.Scan e) → IsEnd j (status_of (stop_of e))
  early_end scan.Concurrency h = inl (refl, (fault.Scan scan.Concurrency, h))
  early_end (scan.RowRange Reversed) h = inl (refl, (fault.Scan (scan.RowRange Reversed), h))
  early_end (scan.Bind f) h = inl (refl, (fault.Scan (scan.Bind f), h))
  early_end scan.NoMemory h = absurd (of_table j.workers j.dtype j.spec (fault.Scan scan.NoMemory) h)
  early_end (scan.Opener k) h = absurd (of_table j.workers j.dtype j.spec (fault.Scan (scan.Opener k)) h)
  early_end (scan.Source k id) h = absurd (of_table j.workers j.dtype j.spec (fault.Scan (scan.Source k id)) h)
  early_end (scan.DTypeMismatch k) h = absurd (of_table j.workers j.dtype j.spec (fault.Scan (scan.DTypeMismatch k)) h)
  early_end scan.Partitions h = absurd (of_table j.workers j.dtype j.spec (fault.Scan scan.Partitions) h)
  early_end (scan.RowRange (Past k)) h = absurd (of_table j.workers j.dtype j.spec (fault.Scan (scan.RowRange (Past k))) h)
  early_end (scan.Layout k f) h = absurd (of_table j.workers j.dtype j.spec (fault.Scan (scan.Layout k f)) h)
  early_end (scan.Corrupt k id) h = absurd (of_table j.workers j.dtype j.spec (fault.Scan (scan.Corrupt k id)) h)
  early_end (scan.TooManyRows k) h = absurd (of_table j.workers j.dtype j.spec (fault.Scan (scan.TooManyRows k)) h)
  early_end (scan.Overflow k) h = absurd (of_table j.workers j.dtype j.spec (fault.Scan (scan.Overflow k)) h)

  told_is : told memory_opener source_state made ≡ map told_by j.files
  told_is = told_same j.files made are

  pub table_end : (e : TableFault) → HasTableCause memory_opener source_state j.workers j.dtype j.spec made new empty_cache c' e → IsEnd j (status_of_fault e)
  table_end (fault.Scan e) (inl h) = early_end e h
  table_end (fault.Scan e) (inr (none, h)) = scan_end (stop_of e) none (stopped (scanned_by j) made new are lawful e h)
  table_end (fault.KeyType k) h = inl (refl, (fault.KeyType k, h))
  table_end (fault.MeasureType k) h = inl (refl, (fault.MeasureType k, h))
  table_end (fault.SumRange k) h =
      inr (inl (
        refl,
        record {
          late = h.types;
          why = inr (record {
            read = goods (IsGood j.dtype (request_of j.spec)) j.files made are h.read;
            clean = subst (λ (ts : List ToldFile). All (λ item. IsSome item.value) (answer j.dtype (request_of j.spec) ts)) told_is (h.clean lawful);
            past = (k, subst (λ (ts : List ToldFile). IsFirstPast (all_measured j.spec) (table_rows j.dtype j.spec ts) k) told_is (h.past lawful));
          });
        },
      ))
  table_end fault.NoMemory h = inr (inr (inr refl))

  pub totalled : (groups : List Group) → IsTable memory_opener source_state j.workers j.dtype j.spec made new empty_cache c' groups → IsTotalled j groups
  totalled groups t = record { passes = t.types; table = subst (λ (ts : List ToldFile). IsTableOf j.dtype j.spec ts groups) told_is (t.table lawful) }

-- ---- what is asked of files that were made
module _ (a : Asked) (made new : List File) (ready : AreReady made) (c' : CacheState SegmentKey) where
  pub made_lines : (groups : List Group) (names : List Name) (text : List ℕ) → IsTable memory_opener source_state a.workers a.dtype a.spec made new empty_cache c' groups → names ≡ names_of a.spec
      → text ≡ group_lines names groups → (j : Job) → IsAsked j a → AreFilesOf j.files made → IsTextOf j text
  made_lines groups names text t n e j is are = record {
    groups = groups;
    totalled = totalled j made new are ready.lawful c' groups (rw (is.dtype, is.spec, is.workers) t);
    lines = e ∙ ap (λ ns. group_lines ns groups) n ∙ ap (λ (s : TableSpec). group_lines (names_of s) groups) (sym is.spec);
  }

  pub made_end : (e : TableFault) → HasTableCause memory_opener source_state a.workers a.dtype a.spec made new empty_cache c' e → (j : Job) → IsAsked j a → AreFilesOf j.files made → IsEnd j (status_of_fault e)
  made_end e h j is are = table_end j made new are ready.lawful c' e (rw (is.dtype, is.spec, is.workers) h)

-- ---- the ends of a run
pub clash : {P : Type 0} (b w : Bool) → b ≡ w → b ≡ true → w ≡ false → P
clash b w p q r = let f : true ≡ false = sym q ∙ (p ∙ r) in cc

told_fact : (P : List ℕ → Type 0) (left : Option (List ℕ)) (bytes : List ℕ) → IfSome left (λ all. bytes ≡ all) → P bytes → IfSome left P
told_fact P None bytes e h = tt
told_fact P (Some all) bytes e h = subst P e h

pub no_job : (old new : InputState) (bytes : List ℕ) → GaveAll bytes old new → ((j : Job) → ¬ IsJob bytes j) → IsNoJob old new
no_job old new bytes g h = record { read = g.read; is = told_fact (λ all. (j : Job) → ¬ IsJob all j) old.left bytes g.all h }

found : (P : Job → Type 0) (old new : InputState) (j : Job) → IsGiven j old new → P j → IsJobFound old new P
found P old new j g p = record { read = g.all.read; job = j; is = told_fact (λ all. IsJob all j) old.left g.bytes g.all.all g.asks; fact = p }

module _ (s : ℕ) (old new : InputState) where
  pub end_done : EndsTable s old new → s ≢ 0
  end_done (inl (inl (e, r))) h = omega (arith, e, h)
  end_done (inl (inr (inl (e, r)))) h = omega (arith, e, h)
  end_done (inl (inr (inr e))) h = omega (arith, e, h)
  end_done (inr (j, g, inl (e, r))) h = omega (arith, e, h)
  end_done (inr (j, g, inr (inl (e, r)))) h = omega (arith, e, h)
  end_done (inr (j, g, inr (inr (inl (e, r))))) h = omega (arith, e, h)
  end_done (inr (j, g, inr (inr (inr e)))) h = omega (arith, e, h)

  pub end_words : EndsTable s old new → s ≢ 1
  end_words (inl (inl (e, r))) h = omega (arith, e, h)
  end_words (inl (inr (inl (e, r)))) h = omega (arith, e, h)
  end_words (inl (inr (inr e))) h = omega (arith, e, h)
  end_words (inr (j, g, inl (e, r))) h = omega (arith, e, h)
  end_words (inr (j, g, inr (inl (e, r)))) h = omega (arith, e, h)
  end_words (inr (j, g, inr (inr (inl (e, r))))) h = omega (arith, e, h)
  end_words (inr (j, g, inr (inr (inr e)))) h = omega (arith, e, h)

  end_refused : EndsTable s old new → s ≡ 2 → IsNoJob old new
  end_refused (inl (inl (e, r))) h = r
  end_refused (inl (inr (inl (e, r)))) h = absurd (omega (arith, e, h))
  end_refused (inl (inr (inr e))) h = absurd (omega (arith, e, h))
  end_refused (inr (j, g, inl (e, r))) h = absurd (omega (arith, e, h))
  end_refused (inr (j, g, inr (inl (e, r)))) h = absurd (omega (arith, e, h))
  end_refused (inr (j, g, inr (inr (inl (e, r))))) h = absurd (omega (arith, e, h))
  end_refused (inr (j, g, inr (inr (inr e)))) h = absurd (omega (arith, e, h))

  end_faulty : EndsTable s old new → s ≡ 3 → IsJobFound old new IsFaulty
  end_faulty (inl (inl (e, r))) h = absurd (omega (arith, e, h))
  end_faulty (inl (inr (inl (e, r)))) h = absurd (omega (arith, e, h))
  end_faulty (inl (inr (inr e))) h = absurd (omega (arith, e, h))
  end_faulty (inr (j, g, inl (e, r))) h = found IsFaulty old new j g r
  end_faulty (inr (j, g, inr (inl (e, r)))) h = absurd (omega (arith, e, h))
  end_faulty (inr (j, g, inr (inr (inl (e, r))))) h = absurd (omega (arith, e, h))
  end_faulty (inr (j, g, inr (inr (inr e)))) h = absurd (omega (arith, e, h))

  end_untotalled : EndsTable s old new → s ≡ 4 → IsJobFound old new IsUntotalled
  end_untotalled (inl (inl (e, r))) h = absurd (omega (arith, e, h))
  end_untotalled (inl (inr (inl (e, r)))) h = absurd (omega (arith, e, h))
  end_untotalled (inl (inr (inr e))) h = absurd (omega (arith, e, h))
  end_untotalled (inr (j, g, inl (e, r))) h = absurd (omega (arith, e, h))
  end_untotalled (inr (j, g, inr (inl (e, r)))) h = found IsUntotalled old new j g r
  end_untotalled (inr (j, g, inr (inr (inl (e, r))))) h = absurd (omega (arith, e, h))
  end_untotalled (inr (j, g, inr (inr (inr e)))) h = absurd (omega (arith, e, h))

  end_failed : EndsTable s old new → s ≡ 5 → IsJobFound old new IsFailed
  end_failed (inl (inl (e, r))) h = absurd (omega (arith, e, h))
  end_failed (inl (inr (inl (e, r)))) h = absurd (omega (arith, e, h))
  end_failed (inl (inr (inr e))) h = absurd (omega (arith, e, h))
  end_failed (inr (j, g, inl (e, r))) h = absurd (omega (arith, e, h))
  end_failed (inr (j, g, inr (inl (e, r)))) h = absurd (omega (arith, e, h))
  end_failed (inr (j, g, inr (inr (inl (e, r))))) h = found IsFailed old new j g r
  end_failed (inr (j, g, inr (inr (inr e)))) h = absurd (omega (arith, e, h))

  end_io : (output output' : OutputState) → EndsTable s old new → s ≡ 6 → (Rose old.faults new.faults ⊎ Rose output.faults output'.faults) ⊎ TookMore 67108864 old new
  end_io output output' (inl (inl (e, r))) h = absurd (omega (arith, e, h))
  end_io output output' (inl (inr (inl (e, inl r)))) h = inl (inl r)
  end_io output output' (inl (inr (inl (e, inr t)))) h = inr t
  end_io output output' (inl (inr (inr e))) h = absurd (omega (arith, e, h))
  end_io output output' (inr (j, g, inl (e, r))) h = absurd (omega (arith, e, h))
  end_io output output' (inr (j, g, inr (inl (e, r)))) h = absurd (omega (arith, e, h))
  end_io output output' (inr (j, g, inr (inr (inl (e, r))))) h = absurd (omega (arith, e, h))
  end_io output output' (inr (j, g, inr (inr (inr e)))) h = absurd (omega (arith, e, h))

  pub end_table : (output output' : OutputState) → EndsTable s old new → HasTableEnd s old new output output'
  end_table output output' e = record { refused = end_refused e; faulty = end_faulty e; untotalled = end_untotalled e; failed = end_failed e; io = end_io output output' e }

  pub end_below : EndsTable s old new → s < 8
  end_below (inl (inl (e, r))) = omega (arith, e)
  end_below (inl (inr (inl (e, r)))) = omega (arith, e)
  end_below (inl (inr (inr e))) = omega (arith, e)
  end_below (inr (j, g, inl (e, r))) = omega (arith, e)
  end_below (inr (j, g, inr (inl (e, r)))) = omega (arith, e)
  end_below (inr (j, g, inr (inr (inl (e, r))))) = omega (arith, e)
  end_below (inr (j, g, inr (inr (inr e)))) = omega (arith, e)

module _ (text bytes : List ℕ) (old new : InputState) (output output' : OutputState) (same : bytes ≡ text) where
  pub ready_done : IsTableReady text old new → output'.written ≡ option_map (λ before. before ++ bytes) output.written → IsTableDone old new output output'
  ready_done (j, g, t) w = record {
    read = g.all.read;
    job = j;
    is = told_fact (λ all. IsJob all j) old.left g.bytes g.all.all g.asks;
    text = text;
    lines = t;
    written = subst (λ xs. output'.written ≡ option_map (λ before. before ++ xs) output.written) same w;
  }

  pub ready_front : IsTableReady text old new → WroteFront bytes output output' → WroteFrontOfTable old new output output'
  ready_front (j, g, t) w = inr (record {
    read = g.all.read;
    job = j;
    is = told_fact (λ all. IsJob all j) old.left g.bytes g.all.all g.asks;
    text = text;
    lines = t;
    front = w.front;
    rest = w.rest;
    parts = sym same ∙ w.parts;
    written = w.written;
  })

-- ---- what stands at the other ends
module _ (old new : InputState) (output output' : OutputState) where
  pub no_end : (s : ℕ) → (2 ≤ s → s ≤ 6 → ⊥) → HasTableEnd s old new output output'
  no_end s h = record {
    refused = λ e. absurd (h (omega (arith, e)) (omega (arith, e)));
    faulty = λ e. absurd (h (omega (arith, e)) (omega (arith, e)));
    untotalled = λ e. absurd (h (omega (arith, e)) (omega (arith, e)));
    failed = λ e. absurd (h (omega (arith, e)) (omega (arith, e)));
    io = λ e. absurd (h (omega (arith, e)) (omega (arith, e)));
  }

  pub failed_end : Rose output.faults output'.faults → HasTableEnd 6 old new output output'
  failed_end r = record {
    refused = λ e. absurd (omega (arith, e));
    faulty = λ e. absurd (omega (arith, e));
    untotalled = λ e. absurd (omega (arith, e));
    failed = λ e. absurd (omega (arith, e));
    io = λ e. inl (inr r);
  }

  pub done_writes : WroteFrontOfTable old new output output' → TableWrites 0 old new output output'
  done_writes f = record { untouched = λ h k. absurd (omega (arith, h)); unwritten = λ e. absurd (omega (arith, e)); short = λ e. absurd (omega (arith, e)); front = f }

  pub failed_writes : Rose output.faults output'.faults → WroteFrontOfTable old new output output' → TableWrites 6 old new output output'
  failed_writes r f = record { untouched = λ h k. absurd (omega (arith, k)); unwritten = λ e. inl r; short = λ e. absurd (omega (arith, e)); front = f }

  pub short_writes : Rose output.short output'.short → WroteFrontOfTable old new output output' → TableWrites 7 old new output output'
  short_writes r f = record { untouched = λ h k. absurd (omega (arith, k)); unwritten = λ e. absurd (omega (arith, e)); short = λ e. inl r; front = f }

pub still_writes : (s : ℕ) (old new : InputState) (output : OutputState) → TableWrites s old new output output
still_writes s old new output = record { untouched = λ h k. refl; unwritten = λ e. inr refl; short = λ e. inr refl; front = inl refl }

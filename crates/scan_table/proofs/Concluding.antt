-- What a scan of a table's request says of the table.
use Rattle.std.proofs.Common.{◌≡◌, ◌≢◌, ◌⊎◌, inl, inr, ℕ, ◌+◌, Bool, true, false, List, [], ◌∷◌, Option, None, Some, nat_lt, refl, sym, ap, ◌∙◌, subst, IsPermutation}
use Rattle.std.specs.Prelude.{All, IfErr, IfOk, IfSome, Result, Ok, Err}
use Rattle.std.proofs.lemmas.List.Elements.{All-weaker}
use Rattle.scan_values.specs.DataType.{DataType, Name}
use Rattle.scan_values.specs.Kinds.{is_scalar_type}
use Rattle.scan_values.specs.NameFaults.{names_fault}
use Rattle.scan_expr.specs.Expr.{Expr}
use Rattle.scan_expr.specs.Infer.{infer}
use Rattle.scan_expr.specs.Typing.{Fault, of_names, request_fault}
use Rattle.scan_segments.specs.Source.{SourceState}
use Rattle.scan_segments.specs.Cache.{CacheState}
use Rattle.scan_segments.specs.declared.segment.SegmentKey.{SegmentKey}
use Rattle.scan_opener.specs.Opener.{OpenerState}
use Rattle.scan_drive.specs.declared.files.ScanFile.{ScanFile}
use Rattle.scan_groups.specs.Rows.{AreGroups, IsPast}
use Rattle.scan_groups.specs.Running.{HasGroupsCause}
use Rattle.scan_groups.specs.declared.fault.GroupsFault.{GroupsFault}
use Rattle.scan_groups.specs.declared.fault.GroupsFault.TheVariants as groups
use Rattle.scan_groups.specs.declared.group.Group.{Group}
use Rattle.scan_groups.proofs.Regrouping.{regrouped}
use Rattle.scan_multi.specs.Causes.{HasCause}
use Rattle.scan_multi.specs.Lawful.{told, IsLawful, IsIdle}
use Rattle.scan_multi.specs.Output.{ChunkData, IsChunk, OutputData}
use Rattle.scan_multi.specs.Scans.{IsScan, IsRefusedFor, ScanMoves}
use Rattle.scan_multi.specs.declared.scan.fault.RangeFault.TheVariants.{Reversed}
use Rattle.scan_multi.specs.declared.scan.fault.ScanFault.{ScanFault}
use Rattle.scan_multi.specs.declared.scan.fault.ScanFault.TheVariants as scan
use Rattle.scan_multi.proofs.Resting.{moves_still}
use Rattle.scan_table.specs.Faults.{of_scan, of_groups}
use Rattle.scan_table.specs.Request.{IsTableFault, first_plain_fault, first_table_fault, is_measured, key_fault, measure_fault, name_fault, of_bind, or_else, read_fault, type_fault, unless}
use Rattle.scan_table.specs.Scans.{HasTableCause, IsTable, IsTableRefusedFor, TableMoves}
use Rattle.scan_table.specs.Spec.{all_measured, key_count, names_of, projection_of, request_of}
use Rattle.scan_table.specs.Tables.{table_rows}
use Rattle.scan_table.specs.Totalled.{AreKeyed, chunk_rows, has_keys}
use Rattle.scan_table.specs.declared.fault.TableFault.{TableFault}
use Rattle.scan_table.specs.declared.fault.TableFault.TheVariants as fault
use Rattle.scan_multi.specs.Request.{is_forward}
use Rattle.scan_table.specs.declared.spec.Measure.{Measure}
use Rattle.scan_table.specs.declared.spec.TableSpec.{TableSpec}
use Rattle.scan_table.proofs.Answered.{clean_whole, first_past_forth, past_back, rows_whole}
use Rattle.scan_table.proofs.Checking.{no_first, no_plain_fault, no_type_fault}
use Rattle.scan_table.proofs.Scalars.{projection_has_keys}

-- ---- faults of tables alone
abbrev pub IsOfTable : TableFault → Type 0
IsOfTable (fault.Scan scan.Concurrency) = Unit {0}
IsOfTable (fault.Scan (scan.RowRange Reversed)) = Unit {0}
IsOfTable (fault.Scan (scan.Bind f)) = Unit {0}
IsOfTable (fault.KeyType key) = Unit {0}
IsOfTable (fault.MeasureType measure) = Unit {0}
IsOfTable _ = ⊥

either : (a b : Option TableFault) → IfSome a IsOfTable → IfSome b IsOfTable → IfSome (or_else a b) IsOfTable
either None b h k = k
either (Some f) b h k = h

tested : (b : Bool) (f : TableFault) → IsOfTable f → IfSome (unless b f) IsOfTable
tested true f h = tt
tested false f h = h

bound : (f : Fault) → IfSome (of_bind f) IsOfTable
bound None = tt
bound (Some f) = tt

keys_of : (d : DataType) (i : ℕ) (ks : List (Name × Expr)) → IfSome (key_fault d i ks) IsOfTable
keys_of d i [] = tt
keys_of d i (k ∷ ks) = either (unless (is_scalar_type (infer d k.1)) (fault.KeyType i)) (key_fault d (i + 1) ks) (tested (is_scalar_type (infer d k.1)) (fault.KeyType i) tt) (keys_of d (i + 1) ks)

measures_of : (d : DataType) (i : ℕ) (ms : List (Name × Measure)) → IfSome (measure_fault d i ms) IsOfTable
measures_of d i [] = tt
measures_of d i (m ∷ ms) = either (unless (is_measured d m.1) (fault.MeasureType i)) (measure_fault d (i + 1) ms) (tested (is_measured d m.1) (fault.MeasureType i) tt) (measures_of d (i + 1) ms)

some_is : (o : Option TableFault) (e : TableFault) → IfSome o IsOfTable → o ≡ Some e → IsOfTable e
some_is o e h k = let x : IfSome (Some e) IsOfTable = subst (λ p. IfSome p IsOfTable) k h in x

pub of_table : (workers : ℕ) (d : DataType) (s : TableSpec) (e : TableFault) → first_table_fault workers d s ≡ Some e → IsOfTable e
of_table workers d s e h =
    some_is (first_table_fault workers d s) e
    (either (first_plain_fault workers s) (or_else (name_fault s) (or_else (read_fault d s) (type_fault d s)))
    (either (unless (nat_lt 0 workers) (fault.Scan scan.Concurrency)) (unless (is_forward s.row_range) (fault.Scan (scan.RowRange Reversed)))
    (tested (nat_lt 0 workers) (fault.Scan scan.Concurrency) tt) (tested (is_forward s.row_range) (fault.Scan (scan.RowRange Reversed)) tt))
    (either (name_fault s) (or_else (read_fault d s) (type_fault d s)) (bound (of_names (names_fault [] (names_of s))))
    (either (read_fault d s) (type_fault d s) (bound (request_fault d (projection_of s) s.filter))
    (either (key_fault d 0 s.keys.items) (measure_fault d 0 s.measures.items) (keys_of d 0 s.keys.items) (measures_of d 0 s.measures.items)))))
    h

some_none : {A : Type 0} {X : Type 0} (o : Option A) (x : A) → o ≡ Some x → o ≡ None → X
some_none o x h k = absurd (let e : Some x ≡ None = sym h ∙ k in cc)

-- no fault of a table is want of memory in a scan
pub never_memory : (workers : ℕ) (d : DataType) (s : TableSpec) (e : TableFault) → IsTableFault workers d s e → e ≢ fault.Scan scan.NoMemory
never_memory workers d s e r same =
    let r' : IsTableFault workers d s (fault.Scan scan.NoMemory) = subst (IsTableFault workers d s) same r in
    of_table workers d s (fault.Scan scan.NoMemory) (r'.first (λ x. cc))

pub scan_never : (e : ScanFault) → of_scan e ≢ fault.Scan scan.NoMemory
scan_never scan.NoMemory h = cc
scan_never (scan.Opener k) h = cc
scan_never (scan.Source k id) h = cc
scan_never (scan.DTypeMismatch k) h = cc
scan_never (scan.Bind f) h = cc
scan_never scan.Partitions h = cc
scan_never (scan.RowRange f) h = cc
scan_never (scan.Layout k f) h = cc
scan_never (scan.Corrupt k id) h = cc
scan_never (scan.TooManyRows k) h = cc
scan_never scan.Concurrency h = cc
scan_never (scan.Overflow k) h = cc

pub groups_never : (f : GroupsFault) → of_groups f ≢ fault.Scan scan.NoMemory
groups_never (groups.SumRange k) h = cc
groups_never groups.NoMemory h = cc

module _ {O S : Type 0} (opener : O → OpenerState) (source : S → SourceState) (workers : ℕ) (d : DataType) (s : TableSpec)
    (old new : List (ScanFile O S)) (c c' : CacheState SegmentKey) where
  -- ---- a table with a fault
  table_cause : (e : TableFault) → IsTableFault workers d s e → HasTableCause opener source workers d s old new c c' e
  table_cause (fault.Scan f) r = inl (r.first (λ x. cc))
  table_cause (fault.KeyType k) r = r.first (λ x. cc)
  table_cause (fault.MeasureType k) r = r.first (λ x. cc)
  table_cause (fault.SumRange k) r = absurd (of_table workers d s (fault.SumRange k) (r.first (λ x. cc)))
  table_cause fault.NoMemory r = tt

  only_memory : (e : TableFault) → IsTableFault workers d s e → first_table_fault workers d s ≡ None → ((measure : ℕ) × (e ≡ fault.SumRange measure)) ⊎ (e ≡ fault.NoMemory)
  only_memory (fault.Scan f) r none = some_none (first_table_fault workers d s) (fault.Scan f) (r.first (λ x. cc)) none
  only_memory (fault.KeyType k) r none = some_none (first_table_fault workers d s) (fault.KeyType k) (r.first (λ x. cc)) none
  only_memory (fault.MeasureType k) r none = some_none (first_table_fault workers d s) (fault.MeasureType k) (r.first (λ x. cc)) none
  only_memory (fault.SumRange k) r none = inl (k, refl)
  only_memory fault.NoMemory r none = inr refl

  pub refused_table : (e : TableFault) → IsTableFault workers d s e → IsTableRefusedFor opener source workers d s old new c c' e
  refused_table e r = record {
    cause = table_cause e r;
    early = r.early;
    table_fault = λ ne. subst (λ o. IfSome o (λ f. e ≡ f)) (sym (r.first ne)) refl;
    complete = λ l none valid fine. only_memory e r none;
  }

  -- ---- a table without
  module _ (none : first_table_fault workers d s ≡ None) where
    pub moved : ScanMoves opener source workers d (request_of s) old new c c' → TableMoves opener source workers d s old new c c'
    moved m = record { scan = m; untouched = subst (λ o. IfSome o (λ f. (new ≡ old) × (c' ≡ c))) (sym none) tt }

    no_early : (e : TableFault) → IfSome (first_plain_fault workers s) (λ f. e ≡ f)
    no_early e = subst (λ o. IfSome o (λ f. e ≡ f)) (sym (no_plain_fault workers d s none)) tt

    no_fault : (e : TableFault) → IfSome (first_table_fault workers d s) (λ f. e ≡ f)
    no_fault e = subst (λ o. IfSome o (λ f. e ≡ f)) (sym none) tt

    scan_cause : (e : ScanFault) → HasCause opener source workers d (request_of s) c old new e → HasTableCause opener source workers d s old new c c' (of_scan e)
    scan_cause scan.NoMemory h = tt
    scan_cause (scan.Opener k) h = inr (none, h)
    scan_cause (scan.Source k id) h = inr (none, h)
    scan_cause (scan.DTypeMismatch k) h = inr (none, h)
    scan_cause (scan.Bind f) h = inr (none, h)
    scan_cause scan.Partitions h = inr (none, h)
    scan_cause (scan.RowRange f) h = inr (none, h)
    scan_cause (scan.Layout k f) h = inr (none, h)
    scan_cause (scan.Corrupt k id) h = inr (none, h)
    scan_cause (scan.TooManyRows k) h = inr (none, h)
    scan_cause scan.Concurrency h = inr (none, h)
    scan_cause (scan.Overflow k) h = inr (none, h)

    pub refused_scan : (e : ScanFault) → IsRefusedFor opener source workers d (request_of s) old new c c' e → IsTableRefusedFor opener source workers d s old new c c' (of_scan e)
    refused_scan e r = record {
      cause = scan_cause e r.cause;
      early = no_early (of_scan e);
      table_fault = λ ne. no_fault (of_scan e);
      complete = λ l n valid fine. inr (ap of_scan (r.complete l valid fine));
    }

    module _ (out : OutputData) (scanned : IsScan opener source workers d (request_of s) old new c c' out) where
      are_keyed : IsLawful opener source old c → AreKeyed (key_count s) out.chunks
      are_keyed l =
          let key = no_first (key_fault d 0 s.keys.items) (measure_fault d 0 s.measures.items) (no_type_fault workers d s none) in
          All-weaker (IsChunk (infer d (projection_of s))) (λ (x : ChunkData). has_keys (key_count s) x.values.dtype ≡ true)
          (λ x is. ap (has_keys (key_count s)) is.dtype ∙ projection_has_keys d s key) out.chunks (scanned.admits l).chunks

      rows_alike : IsLawful opener source old c → IsPermutation (chunk_rows (key_count s) out.chunks) (table_rows d s (told opener source old))
      rows_alike l = rows_whole (key_count s) d (request_of s) (told opener source old) (infer d (projection_of s)) out.chunks (scanned.admits l).chunks (scanned.whole refl refl l)

      groups_cause : (f : GroupsFault) → (AreKeyed (key_count s) out.chunks → HasGroupsCause (all_measured s) (chunk_rows (key_count s) out.chunks) f)
          → HasTableCause opener source workers d s old new c c' (of_groups f)
      groups_cause (groups.SumRange measure) h =
          record {
            types = none;
            read = scanned.read refl;
            clean = λ l. clean_whole d (request_of s) (told opener source old) out.chunks (scanned.whole refl refl l);
            past = λ l. first_past_forth (all_measured s) (chunk_rows (key_count s) out.chunks) (table_rows d s (told opener source old)) measure (rows_alike l) (h (are_keyed l));
          }
      groups_cause groups.NoMemory h = tt

      groups_told : (f : GroupsFault) → ((measure : ℕ) × (of_groups f ≡ fault.SumRange measure)) ⊎ (of_groups f ≡ fault.NoMemory)
      groups_told (groups.SumRange measure) = inl (measure, refl)
      groups_told groups.NoMemory = inr refl

      pub refused_groups : (f : GroupsFault) → (AreKeyed (key_count s) out.chunks → HasGroupsCause (all_measured s) (chunk_rows (key_count s) out.chunks) f)
          → IsTableRefusedFor opener source workers d s old new c c' (of_groups f)
      refused_groups f h = record {
        cause = groups_cause f h;
        early = no_early (of_groups f);
        table_fault = λ ne. no_fault (of_groups f);
        complete = λ l n valid fine. groups_told f;
      }

      pub is_table : (made : List Group) → (AreKeyed (key_count s) out.chunks → AreGroups (key_count s) (all_measured s) (chunk_rows (key_count s) out.chunks) made
          × ((i : ℕ) → IsPast (all_measured s) (chunk_rows (key_count s) out.chunks) i → ⊥)) → IsTable opener source workers d s old new c c' made
      is_table made h = record {
        types = none;
        table = λ l. record {
          clean = clean_whole d (request_of s) (told opener source old) out.chunks (scanned.whole refl refl l);
          groups = regrouped (key_count s) (all_measured s) (chunk_rows (key_count s) out.chunks) (table_rows d s (told opener source old)) made (rows_alike l) (h (are_keyed l)).0;
          sums = λ i p. (h (are_keyed l)).1 i (past_back (all_measured s) (chunk_rows (key_count s) out.chunks) (table_rows d s (told opener source old)) i (rows_alike l) p);
        };
        read = scanned.read refl;
      }

-- ---- nothing was touched
pub still : {O S : Type 0} (opener : O → OpenerState) (source : S → SourceState) (workers : ℕ) (d : DataType) (s : TableSpec) (files : List (ScanFile O S)) (c : CacheState SegmentKey)
    → All (IsIdle opener source) files → TableMoves opener source workers d s files files c c
still opener source workers d s files c idle = record {
  scan = moves_still opener source files c workers d (request_of s) idle;
  untouched = any (first_table_fault workers d s);
}
  where
    any : (o : Option TableFault) → IfSome o (λ f. (files ≡ files) × (c ≡ c))
    any None = tt
    any (Some f) = (refl, refl)

-- ---- answers
same_err : {A B : Type 0} (a b : B) → ◌≡◌ {A = Result A B} (Err a) (Err b) → a ≡ b
same_err a b e = cc

pub not_memory : {A : Type 0} (r : Result A TableFault) (e : TableFault) → r ≡ Err e → e ≢ fault.Scan scan.NoMemory → r ≢ Err (fault.Scan scan.NoMemory)
not_memory r e h ne k = ne (same_err e (fault.Scan scan.NoMemory) (sym h ∙ k))

pub groups_not_memory : {A : Type 0} (K : GroupsFault → Type 0) (r : Result A TableFault) → IfErr r (λ e. (f : GroupsFault) × (e ≡ of_groups f) × K f) → r ≢ Err (fault.Scan scan.NoMemory)
groups_not_memory K (Ok a) h k = cc
groups_not_memory K (Err e) (f, is, why) k = groups_never f (sym is ∙ same_err e (fault.Scan scan.NoMemory) k)

-- what an answer has under a premise
pub under : {A E : Type 0} (r : Result A E) (K : Type 0) (P Q : A → Type 0) → ((a : A) → (K → P a) → Q a) → (K → IfOk r P) → IfOk r Q
under (Ok a) K P Q f h = f a h
under (Err e) K P Q f h = tt

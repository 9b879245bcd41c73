-- What a run answers of its input, where all went well: bytes are one job at most.
use Rattle.std.proofs.Common.{◌≡◌, ◌⊎◌, inl, inr, ℕ, false, List, [], ◌++◌, length, map, Option, None, Some, nat_lt, refl, sym, ap, ◌∙◌, subst}
use Rattle.std.specs.Prelude.{IfSome, Contains}
use Rattle.std.specs.declared.ops.Range.{Range}
use Rattle.serde_json.specs.Data.{Data}
use Rattle.scan_values.specs.DataType.{DataType, Name}
use Rattle.scan_values.specs.NameFaults.{names_fault}
use Rattle.scan_values.specs.declared.ptype.Nullability.TheVariants.{NonNullable}
use Rattle.scan_values.specs.declared.selection.Selection.{Selection}
use Rattle.scan_values.specs.declared.selection.Selection.TheVariants.{All}
use Rattle.scan_expr.specs.Expr.{Expr, pack, parts_of}
use Rattle.scan_expr.specs.Typing.{of_names, request_fault}
use Rattle.scan_expr.specs.declared.request.ScanRequest.{ScanRequest}
use Rattle.scan_groups.specs.Rows.{IsFirstPast, Row}
use Rattle.scan_manifest.specs.CacheSize.{CacheSize}
use Rattle.scan_manifest.specs.declared.manifest.FileSpec.{FileSpec}
use Rattle.scan_manifest.specs.declared.manifest.Manifest.{Manifest}
use Rattle.scan_multi.specs.Answer.{answer}
use Rattle.scan_multi.specs.Request.{is_forward}
use Rattle.scan_multi.specs.declared.scan.fault.RangeFault.TheVariants.{Reversed}
use Rattle.scan_multi.specs.declared.scan.fault.ScanFault.TheVariants as scan
use Rattle.scan_run.specs.Io.{InputState, OutputState}
use Rattle.scan_run.specs.Run.{CanFail, IsBadFile, IsUnreadable, told_by}
use Rattle.scan_table.specs.Jobs.{Asks, IsJob, scanned_by}
use Rattle.scan_table.specs.Request.{key_fault, measure_fault, of_bind, or_else, unless}
use Rattle.scan_table.specs.Runs.{Answers, EndsTable, IsFaulty, IsGiven, IsPastAlone, IsPastIn, IsSound, IsTableReady, WentWell}
use Rattle.scan_table.specs.Spec.{key_names, key_parts, measure_names, measure_parts, measured_from, own_names}
use Rattle.scan_table.specs.Tables.{row_of}
use Rattle.scan_table.specs.declared.fault.TableFault.{TableFault}
use Rattle.scan_table.specs.declared.fault.TableFault.TheVariants as fault
use Rattle.scan_table.specs.declared.reading.Job.{Job}
use Rattle.scan_table.specs.declared.spec.Measure.{Measure}

-- ---- what is asked for, by its parts
record Parts : Type 0 where
  dtype : DataType
  files : List FileSpec
  workers : ℕ
  cache : CacheSize
  filter : Option Expr
  row_range : Option (Range ℕ)
  selection : Selection
  keys : List (Name × Expr)
  measures : List (Name × Measure)

abbrev parts : Job → Parts
parts j = record {
  dtype = j.dtype;
  files = j.files;
  workers = j.workers;
  cache = j.cache;
  filter = j.spec.filter;
  row_range = j.spec.row_range;
  selection = j.spec.selection;
  keys = j.spec.keys.items;
  measures = j.spec.measures.items;
}

abbrev read_by : Parts → List Expr
read_by p = key_parts p.keys ++ measure_parts p.measures

abbrev projected_by : Parts → Expr
projected_by p = pack (parts_of (own_names 0 (read_by p)) (read_by p)) NonNullable

abbrev request_by : Parts → ScanRequest
request_by p = record {
  projection = projected_by p;
  filter = p.filter;
  row_range = p.row_range;
  selection = p.selection;
  partition_selection = All;
  partition_range = None;
  ordered = false;
  limit = None;
}

abbrev manifest_by : Parts → Manifest
manifest_by p = record { dtype = p.dtype; files = p.files; request = request_by p; workers = p.workers; cache = p.cache }

abbrev fault_by : Parts → Option TableFault
fault_by p =
    or_else (or_else (unless (nat_lt 0 p.workers) (fault.Scan scan.Concurrency)) (unless (is_forward p.row_range) (fault.Scan (scan.RowRange Reversed))))
    (or_else (of_bind (of_names (names_fault [] (key_names p.keys ++ measure_names p.measures))))
    (or_else (of_bind (request_fault p.dtype (projected_by p) p.filter)) (or_else (key_fault p.dtype 0 p.keys) (measure_fault p.dtype 0 p.measures))))

abbrev rows_by : Parts → List Row
rows_by p = map (row_of (length p.keys)) (answer p.dtype (request_by p) (map told_by p.files))

abbrev PassesBy : Parts → Type 0
PassesBy p = fault_by p ≡ None

abbrev FaultyBy : Parts → Type 0
FaultyBy p = (e : TableFault) × (fault_by p ≡ Some e)

abbrev PastBy : Parts → Type 0
PastBy p = (measure : ℕ) × IsFirstPast (measured_from 0 p.measures) (rows_by p) measure

abbrev ReadsBy : Parts → Type 0
ReadsBy p = (f : FileSpec) (there : Contains p.files f) → IsBadFile (manifest_by p) there.0 f → ⊥

abbrev WorksBy : Parts → Type 0
WorksBy p = (f : FileSpec) → Contains p.files f → CanFail (manifest_by p) f → ⊥

-- ---- bytes are one job at most
same_some : {A : Type 0} (x y : A) → Some x ≡ Some y → x ≡ y
same_some x y e = cc

asked_once : (d : Data) (j k : Job) → Asks d j → Asks d k → parts j ≡ parts k
asked_once d j k a b =
    let m : a.manifest ≡ b.manifest = same_some a.manifest b.manifest (sym a.there ∙ b.there) in
    let keys : j.spec.keys.items ≡ k.spec.keys.items = same_some j.spec.keys.items k.spec.keys.items (sym a.keys ∙ b.keys) in
    let measures : j.spec.measures.items ≡ k.spec.measures.items = same_some j.spec.measures.items k.spec.measures.items (sym a.measures ∙ b.measures) in
    let dtype : j.dtype ≡ k.dtype = a.of.dtype ∙ ap (λ n. n.dtype) m ∙ sym b.of.dtype in
    let files : j.files ≡ k.files = a.of.files ∙ ap (λ n. n.files) m ∙ sym b.of.files in
    let workers : j.workers ≡ k.workers = a.of.workers ∙ ap (λ n. n.workers) m ∙ sym b.of.workers in
    let cache : j.cache ≡ k.cache = a.of.cache ∙ ap (λ n. n.cache) m ∙ sym b.of.cache in
    let filter : j.spec.filter ≡ k.spec.filter = a.of.filter ∙ ap (λ n. n.request.filter) m ∙ sym b.of.filter in
    let range : j.spec.row_range ≡ k.spec.row_range = a.of.row_range ∙ ap (λ n. n.request.row_range) m ∙ sym b.of.row_range in
    let selection : j.spec.selection ≡ k.spec.selection = a.of.selection ∙ ap (λ n. n.request.selection) m ∙ sym b.of.selection in
    λ i. record {
      dtype = dtype i;
      files = files i;
      workers = workers i;
      cache = cache i;
      filter = filter i;
      row_range = range i;
      selection = selection i;
      keys = keys i;
      measures = measures i;
    }

one_job : (bytes : List ℕ) (j k : Job) → IsJob bytes j → IsJob bytes k → parts j ≡ parts k
one_job bytes j k (d, s, a) (e, t, b) = asked_once e j k (subst (λ x. Asks x j) (same_some d e (sym s.1 ∙ t.1)) a) b

module _ (bytes : List ℕ) (j k : Job) (here : IsJob bytes j) (there : IsJob bytes k) where
  no_clash : {X : Type 0} → IsFaulty j → PassesBy (parts k) → X
  no_clash (e, h) passes = absurd (let c : None ≡ Some e = sym passes ∙ subst (λ p. fault_by p ≡ Some e) (one_job bytes j k here there) h in cc)

  past_too : IsPastIn j → IsPastIn k
  past_too h = subst PastBy (one_job bytes j k here there) h

  passes_too : PassesBy (parts j) → PassesBy (parts k)
  passes_too h = subst PassesBy (one_job bytes j k here there) h

  sound_too : IsSound j → IsSound k
  sound_too s = record {
    passes = passes_too s.passes;
    reads = subst ReadsBy (one_job bytes j k here there) s.reads;
    works = subst WorksBy (one_job bytes j k here there) s.works;
  }

-- ---- answers
given_asks : (bytes : List ℕ) (old new : InputState) (j : Job) → old.left ≡ Some bytes → IsGiven j old new → IsJob bytes j
given_asks bytes old new j e g = subst (λ xs. IsJob xs j) (subst (λ o. IfSome o (λ told. g.bytes ≡ told)) e g.all.all) g.asks

told_of : (P : List ℕ → Type 0) (bytes : List ℕ) (left : Option (List ℕ)) → left ≡ Some bytes → IfSome left P → P bytes
told_of P bytes left e h = subst (λ o. IfSome o P) e h

-- want of memory answers anything
out_of_memory : (bytes : List ℕ) (s : ℕ) → s ≡ 7 → Answers bytes s
out_of_memory bytes s e = record { none = λ h. inr e; faulty = λ j is f. inr e; past = λ j is ok p. inr e; lines = λ j is ok n. inr e }

module _ (bytes : List ℕ) (old new : InputState) (output output' : OutputState) (w : WentWell bytes old new output output') where
  -- what a job of these bytes answers with this status
  module _ (s : ℕ) (j : Job) (g : IsGiven j old new) where
    here : IsJob bytes j
    here = given_asks bytes old new j w.told g

    faulty_answers : s ≡ 3 → IsFaulty j → Answers bytes s
    faulty_answers e f = record {
      none = λ h. absurd (h j here);
      faulty = λ k is x. inl e;
      past = λ k is ok p. no_clash bytes j k here is f ok.passes;
      lines = λ k is ok n. no_clash bytes j k here is f ok.passes;
    }

    past_answers : s ≡ 4 → PassesBy (parts j) → IsPastIn j → Answers bytes s
    past_answers e passes p = record {
      none = λ h. absurd (h j here);
      faulty = λ k is x. no_clash bytes k j is here x passes;
      past = λ k is ok q. inl e;
      lines = λ k is ok n. absurd (n (past_too bytes j k here is p));
    }

    -- a file that is no good, or fails
    bad_answers : PassesBy (parts j) → (IsSound j → ⊥) → Answers bytes s
    bad_answers passes bad = record {
      none = λ h. absurd (h j here);
      faulty = λ k is x. no_clash bytes k j is here x passes;
      past = λ k is ok q. absurd (bad (sound_too bytes k j is here ok));
      lines = λ k is ok n. absurd (bad (sound_too bytes k j is here ok));
    }

  pub ready_answers : (text : List ℕ) → IsTableReady text old new → Answers bytes 0
  ready_answers text (j, g, t) =
      let is = given_asks bytes old new j w.told g in
      record {
        none = λ h. absurd (h j is);
        faulty = λ k at x. no_clash bytes k j at is x t.totalled.passes;
        past = λ k at ok p. let q = past_too bytes k j at is p in absurd (t.totalled.table.sums q.0 q.1.past);
        lines = λ k at ok n. inl refl;
      }

  pub end_answers : (s : ℕ) → EndsTable s old new → Answers bytes s
  end_answers s (inl (inl (e, r))) =
      let none = told_of (λ xs. (j : Job) → ¬ IsJob xs j) bytes old.left w.told r.is in
      record { none = λ h. inl e; faulty = λ j is x. absurd (none j is); past = λ j is ok p. absurd (none j is); lines = λ j is ok n. absurd (none j is) }
  end_answers s (inl (inr (inl (e, inl r)))) = absurd (w.read r)
  end_answers s (inl (inr (inl (e, inr t)))) = absurd (w.short t)
  end_answers s (inl (inr (inr e))) = out_of_memory bytes s e
  end_answers s (inr (j, g, inl (e, f))) = faulty_answers s j g e f
  end_answers s (inr (j, g, inr (inl (e, u)))) = by u.why
    where
      by : IsUnreadable (scanned_by j) ⊎ IsPastAlone j → Answers bytes s
      by (inl bad) = bad_answers s j g u.late (λ ok. ok.reads bad.file bad.there bad.bad)
      by (inr p) = past_answers s j g e u.late p.past
  end_answers s (inr (j, g, inr (inr (inl (e, f))))) = bad_answers s j g f.late (λ ok. ok.works f.failing.file f.failing.there f.failing.failing)
  end_answers s (inr (j, g, inr (inr (inr e)))) = out_of_memory bytes s e

pub short_answers : (bytes : List ℕ) → Answers bytes 7
short_answers bytes = out_of_memory bytes 7 refl

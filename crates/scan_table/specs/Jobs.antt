-- What the input of the program asks for: a manifest, keys and measures.
use Rattle.std.specs.Prelude.{◌≡◌, ◌&&◌, ◌||◌, ℕ, List, Bool, true, false, Option, None, Some, option_and_then, if◌then◌else◌, codes}
use Rattle.std.specs.Str.{bytes_eq}
use Rattle.std.specs.Option.{is_none}
use Rattle.serde_json.specs.Data.{Data, object, Items, no_items, item, Members, no_members, member}
use Rattle.serde_json.specs.Find.{get, as_array, as_str}
use Rattle.scan_values.specs.DataType.{Name}
use Rattle.scan_expr.specs.Expr.{Expr, is_root}
use Rattle.scan_manifest.specs.Exprs.{expr_in}
use Rattle.scan_manifest.specs.Json.{both, list_in}
use Rattle.scan_manifest.specs.Manifest.{Spells, manifest_in}
use Rattle.scan_manifest.specs.declared.manifest.Manifest.{Manifest}
use Rattle.scan_table.specs.Spec.{request_of}
use Rattle.scan_table.specs.declared.reading.Job.{Job}
use Rattle.scan_table.specs.declared.spec.Measure.{Measure}
use Rattle.scan_table.specs.declared.spec.Measure.TheVariants.{Count, Values, Sum, Least, Greatest}

abbrev pub is_job_key : List ℕ → Bool
is_job_key k = bytes_eq k (codes "manifest") || (bytes_eq k (codes "keys") || bytes_eq k (codes "measures"))

abbrev pub have_job_keys : Members → Bool
have_job_keys no_members = true
have_job_keys (member k d ms) = is_job_key k && have_job_keys ms

-- an object without a key of another name
abbrev pub has_job_form : Data → Bool
has_job_form (object ms) = have_job_keys ms
has_job_form _ = false

abbrev pub named_part : Data → Data → Option (Name × Expr)
named_part n e = both (λ name part. Some (name, part)) (as_str n) (expr_in e)

abbrev pub key_of : Items → Option (Name × Expr)
key_of (item n (item e no_items)) = named_part n e
key_of _ = None

-- a key, as `[name, E]`
abbrev pub key_in : Data → Option (Name × Expr)
key_in d = option_and_then key_of (as_array d)

abbrev pub measure_over : List ℕ → Expr → Option Measure
measure_over k e =
    if bytes_eq k (codes "values") then Some (Values e) else
    (if bytes_eq k (codes "sum") then Some (Sum e) else
    (if bytes_eq k (codes "least") then Some (Least e) else
    (if bytes_eq k (codes "greatest") then Some (Greatest e) else None)))

abbrev pub count_named : List ℕ → Option Measure
count_named k = if bytes_eq k (codes "count") then Some Count else None

abbrev pub count_in : Data → Option Measure
count_in k = option_and_then count_named (as_str k)

abbrev pub over_in : Data → Data → Option Measure
over_in k e = both (λ part kind. measure_over kind part) (expr_in e) (as_str k)

abbrev pub named_count : Data → Data → Option (Name × Measure)
named_count n k = both (λ name m. Some (name, m)) (as_str n) (count_in k)

abbrev pub named_over : Data → Data → Data → Option (Name × Measure)
named_over n k e = both (λ name m. Some (name, m)) (as_str n) (over_in k e)

abbrev pub measure_of : Items → Option (Name × Measure)
measure_of (item n (item k no_items)) = named_count n k
measure_of (item n (item k (item e no_items))) = named_over n k e
measure_of _ = None

-- a measure, as `[name, "count"]` or `[name, kind, E]`
abbrev pub measure_in : Data → Option (Name × Measure)
measure_in d = option_and_then measure_of (as_array d)

-- a request says nothing of order, limit and partitions
abbrev pub is_free : Data → Bool
is_free d = is_none (get (codes "ordered") d) && (is_none (get (codes "limit") d) && is_none (get (codes "partitions") d))

abbrev pub rooted : Manifest → Option Manifest
rooted m = if is_root m.request.projection then Some m else None

-- a manifest whose request says nothing of these, and whose projection is `$`
abbrev pub free_manifest_in : Data → Option Manifest
free_manifest_in d =
    option_and_then (λ r. if is_free r then option_and_then rooted (manifest_in d) else None) (get (codes "request") d)

abbrev pub manifest_at : Data → Option Manifest
manifest_at d = option_and_then free_manifest_in (get (codes "manifest") d)

abbrev pub keys_at : Data → Option (List (Name × Expr))
keys_at d = option_and_then (list_in key_in) (get (codes "keys") d)

abbrev pub measures_at : Data → Option (List (Name × Measure))
measures_at d = option_and_then (list_in measure_in) (get (codes "measures") d)

-- what a manifest asks of its files but for its projection
pub record IsOf (m : Manifest) (j : Job) : Type 0 where
  pub dtype : j.dtype ≡ m.dtype
  pub files : j.files ≡ m.files
  pub workers : j.workers ≡ m.workers
  pub cache : j.cache ≡ m.cache
  pub filter : j.spec.filter ≡ m.request.filter
  pub row_range : j.spec.row_range ≡ m.request.row_range
  pub selection : j.spec.selection ≡ m.request.selection

-- a JSON value asks for this
pub record Asks (d : Data) (j : Job) : Type 0 where
  pub form : has_job_form d ≡ true
  pub manifest : Manifest
  pub there : manifest_at d ≡ Some manifest
  pub of : IsOf manifest j
  pub keys : keys_at d ≡ Some j.spec.keys.items
  pub measures : measures_at d ≡ Some j.spec.measures.items

-- the bytes ask for this
abbrev pub IsJob : List ℕ → Job → Type 0
IsJob bytes j = (d : Data) × Spells bytes d × Asks d j

-- the manifest of its scan
abbrev pub scanned_by : Job → Manifest
scanned_by j = record { dtype = j.dtype; files = j.files; request = request_of j.spec; workers = j.workers; cache = j.cache }

-- What a JSON value says as a manifest, and which bytes are a manifest.
use Rattle.std.specs.Prelude.{◌≡◌, ◌&&◌, ◌||◌, not, ℕ, ◌^◌, ◌-◌, List, [], ◌∷◌, Bool, true, false, Option, None, Some, option_map, option_and_then, nat_le, is_some, if◌then◌else◌, codes, IsUtf8}
use Rattle.std.specs.Str.{bytes_eq}
use Rattle.std.specs.Ordering.{nat_cmp, is_eq}
use Rattle.std.specs.Map.{lookup}
use Rattle.std.specs.List.{list_all}
use Rattle.std.specs.BTreeMap.{insert_entry}
use Rattle.std.specs.Result.{result_ok}
use Rattle.std.specs.declared.ops.Range.{Range}
use Rattle.hex.specs.Hex.{decode_of}
use Rattle.serde_json.specs.Data.{Data, Items, no_items, item}
use Rattle.serde_json.specs.Find.{get, as_str, as_array}
use Rattle.serde_json.specs.Read.{read}
use Rattle.scan_values.specs.DataType.{DataType}
use Rattle.scan_values.specs.StrictSorted.{is_rising}
use Rattle.scan_values.specs.declared.selection.Selection.{Selection}
use Rattle.scan_values.specs.declared.selection.Selection.TheVariants.{All, IncludeByIndex, ExcludeByIndex}
use Rattle.scan_expr.specs.Expr.{Expr}
use Rattle.scan_expr.specs.declared.request.ScanRequest.{ScanRequest}
use Rattle.scan_caches.specs.declared.bounded.SegmentEviction.{SegmentEviction}
use Rattle.scan_caches.specs.declared.bounded.SegmentEviction.TheVariants.{Lru, TinyLfu}
use Rattle.scan_manifest.specs.declared.json.Form.TheVariants as form
use Rattle.scan_manifest.specs.declared.manifest.Calls.{Calls}
use Rattle.scan_manifest.specs.declared.manifest.FileSpec.{FileSpec}
use Rattle.scan_manifest.specs.CacheSize.{CacheSize}
use Rattle.scan_manifest.specs.declared.manifest.Manifest.{Manifest}
use Rattle.scan_manifest.specs.Json.{has_form, number_of, number_to, optional, flag_at, mark_at, pair_in, list_in, both}
use Rattle.scan_manifest.specs.DTypes.{dtype_in}
use Rattle.scan_manifest.specs.Layouts.{layout_in}
use Rattle.scan_manifest.specs.Exprs.{expr_in}

-- what a member is, where there is one
abbrev pub maybe : {T : Type 0} → (Data → Option T) → Option Data → Option (Option T)
maybe f None = Some None
maybe f (Some d) = option_map Some (f d)

-- numbers, each above the one before
abbrev pub rising : Option (List ℕ) → Option (List ℕ)
rising o = option_and_then (λ ns. if is_rising ns then Some ns else None) o

abbrev pub rising_in : Data → Option (List ℕ)
rising_in d = rising (list_in number_of d)

-- ---- a request

abbrev pub range_in : Data → Option (Range ℕ)
range_in d = option_and_then (λ p. both (λ s e. Some (record { start = s; end = e })) (number_of p.0) (number_of p.1)) (pair_in d)

-- one of the two, or all rows
abbrev pub selection_from : Option Data → Option Data → Option Selection
selection_from None None = Some All
selection_from (Some d) None = option_map IncludeByIndex (rising_in d)
selection_from None (Some d) = option_map ExcludeByIndex (rising_in d)
selection_from (Some d) (Some e) = None

abbrev pub selection_in : Data → Option Selection
selection_in d = selection_from (get (codes "include") d) (get (codes "exclude") d)

-- the projection and the filter
abbrev pub wanted_in : Data → Option (Expr × Option Expr)
wanted_in d = both (λ p f. Some (p, f)) (option_and_then expr_in (get (codes "projection") d)) (maybe expr_in (get (codes "filter") d))

abbrev pub request_in : Data → Option ScanRequest
request_in d = if has_form form.Request d then
    option_and_then (λ r. option_and_then (λ o. option_and_then (λ l. option_and_then (λ q. option_and_then (λ s. option_map (λ w.
    record { projection = w.0; filter = w.1; row_range = r; selection = s; partition_selection = All; partition_range = q; ordered = o; limit = l })
    (wanted_in d))
    (selection_in d))
    (maybe range_in (get (codes "partitions") d)))
    (maybe number_of (get (codes "limit") d)))
    (flag_at (codes "ordered") true d))
    (maybe range_in (get (codes "range") d))
    else None

-- ---- a file

-- a segment, as `[id, hex]`
abbrev pub segment_in : Data → Option (ℕ × List ℕ)
segment_in d = option_and_then (λ p. both (λ id text. option_map (λ bytes. (id, bytes)) (result_ok (decode_of text)))
    (number_to (2 ^ 32 - 1) p.0) (as_str p.1)) (pair_in d)

abbrev pub has_id : List (ℕ × List ℕ) → ℕ → Bool
has_id found id = is_some (lookup (λ k. is_eq (nat_cmp id k)) found)

-- segments by their ids, of which none is repeated
abbrev pub segments_from : List (ℕ × List ℕ) → Items → Option (List (ℕ × List ℕ))
segments_from found no_items = Some found
segments_from found (item d ds) = option_and_then (λ s. if has_id found s.0 then None else segments_from (insert_entry nat_cmp found s.0 s.1) ds) (segment_in d)

abbrev pub segments_in : Data → Option (List (ℕ × List ℕ))
segments_in d = option_and_then (segments_from []) (as_array d)

abbrev pub no_calls : Calls
no_calls = record { fail = []; pending = [] }

-- the numbers of the calls that fail, and of those that are pending
abbrev pub calls_in : Data → Option Calls
calls_in d = if has_form form.Calls d then
    both (λ f p. Some (record { fail = f; pending = p })) (optional [] rising_in (get (codes "fail") d)) (optional [] rising_in (get (codes "pending") d))
    else None

-- a file, whose dtype is its own or the manifest's
abbrev pub file_in : DataType → Data → Option FileSpec
file_in dtype d = if has_form form.File d then
    option_and_then (λ id. option_and_then
    (λ t. option_and_then (λ l. option_and_then
    (λ ss. option_and_then (λ skip. option_and_then (λ opener. option_map (λ source.
    record { id = id; layout = l; segments = ss; skip = skip; opener = opener; source = source })
    (optional no_calls calls_in (get (codes "source") d)))
    (optional no_calls calls_in (get (codes "open") d)))
    (mark_at (codes "skip") d))
    (option_and_then segments_in (get (codes "segments") d)))
    (option_and_then (layout_in t) (get (codes "layout") d)))
    (optional dtype dtype_in (get (codes "dtype") d)))
    (option_and_then as_str (get (codes "id") d))
    else None

abbrev pub same_segments : List (ℕ × List ℕ) → List (ℕ × List ℕ) → Bool
same_segments [] [] = true
same_segments [] (t ∷ ts) = false
same_segments (s ∷ ss) [] = false
same_segments (s ∷ ss) (t ∷ ts) = is_eq (nat_cmp s.0 t.0) && (bytes_eq s.1 t.1 && same_segments ss ts)

-- two files of one id have the same segments
abbrev pub agree : FileSpec → FileSpec → Bool
agree f g = not (bytes_eq f.id g.id) || same_segments f.segments g.segments

abbrev pub all_agree : List FileSpec → Bool
all_agree [] = true
all_agree (f ∷ fs) = list_all (agree f) fs && all_agree fs

-- ---- the manifest

abbrev pub eviction_named : List ℕ → Option SegmentEviction
eviction_named k = if bytes_eq k (codes "lru") then Some Lru else (if bytes_eq k (codes "use_counts") then Some TinyLfu else None)

abbrev pub from_one : Option ℕ → Option ℕ
from_one o = option_and_then (λ n. if nat_le 1 n then Some n else None) o

abbrev pub cache_in : Data → Option CacheSize
cache_in d = if has_form form.Cache d then
    option_and_then (λ bytes. option_and_then (λ entries. option_map (λ eviction. record { bytes = bytes; entries = entries; eviction = eviction })
    (option_and_then eviction_named (option_and_then as_str (get (codes "eviction") d))))
    (from_one (option_and_then (number_to 65536) (get (codes "entries") d))))
    (option_and_then number_of (get (codes "bytes") d))
    else None

abbrev pub usual_cache : CacheSize
usual_cache = record { bytes = 1048576; entries = 1024; eviction = Lru }

-- the rest of a manifest of this dtype and these files
abbrev pub manifest_with : Data → DataType → List FileSpec → Option Manifest
manifest_with d dtype files = if all_agree files then
    option_and_then (λ workers. option_and_then
    (λ cache. option_map (λ request.
    record { dtype = dtype; files = files; request = request; workers = workers; cache = cache })
    (option_and_then request_in (get (codes "request") d)))
    (optional usual_cache cache_in (get (codes "cache") d)))
    (optional 1 (number_to 256) (get (codes "workers") d))
    else None

abbrev pub files_in : DataType → Data → Option (List FileSpec)
files_in dtype d = option_and_then (list_in (file_in dtype)) (get (codes "files") d)

-- what a JSON value says
abbrev pub manifest_in : Data → Option Manifest
manifest_in d = if has_form form.Manifest d then
    option_and_then (λ dtype. option_and_then (manifest_with d dtype) (files_in dtype d)) (option_and_then dtype_in (get (codes "dtype") d))
    else None

-- the bytes spell this JSON value: they are UTF-8, and nothing follows it
abbrev pub Spells : List ℕ → Data → Type 0
Spells bytes d = IsUtf8 bytes × (read bytes ≡ Some d)

-- the bytes are this manifest
abbrev pub IsManifest : List ℕ → Manifest → Type 0
IsManifest bytes m = (d : Data) × Spells bytes d × (manifest_in d ≡ Some m)

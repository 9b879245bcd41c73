-- What the input of the program asks for: a manifest, and lists of places.
use Rattle.std.specs.Prelude.{◌≡◌, ◌&&◌, ◌||◌, ℕ, List, Bool, true, false, Option, None, Some, option_and_then, if◌then◌else◌, codes}
use Rattle.std.specs.Str.{bytes_eq}
use Rattle.serde_json.specs.Data.{Data, object, Items, no_items, item, Members, no_members, member}
use Rattle.serde_json.specs.Find.{get, as_array}
use Rattle.scan_places.specs.declared.place.Place.{Place}
use Rattle.scan_manifest.specs.Json.{both, list_in, number_of}
use Rattle.scan_manifest.specs.Manifest.{Spells, manifest_in}
use Rattle.scan_manifest.specs.declared.manifest.Manifest.{Manifest}
use Rattle.scan_lookup_run.specs.declared.reading.Job.{Job}

abbrev pub have_only : (List ℕ → Bool) → Members → Bool
have_only is no_members = true
have_only is (member k d ms) = is k && have_only is ms

-- an object whose keys are all such
abbrev pub has_only : (List ℕ → Bool) → Data → Bool
has_only is (object ms) = have_only is ms
has_only is _ = false

abbrev pub is_job_key : List ℕ → Bool
is_job_key k = bytes_eq k (codes "manifest") || bytes_eq k (codes "lookups")

abbrev pub is_projection_key : List ℕ → Bool
is_projection_key k = bytes_eq k (codes "projection")

abbrev pub place_at : Data → Data → Option Place
place_at f r = both (λ file row. Some (record { file = file; row = row })) (number_of f) (number_of r)

abbrev pub place_of : Items → Option Place
place_of (item f (item r no_items)) = place_at f r
place_of _ = None

-- a place, as `[file, row]`
abbrev pub place_in : Data → Option Place
place_in d = option_and_then place_of (as_array d)

-- the places of one look-up
abbrev pub places_in : Data → Option (List Place)
places_in d = list_in place_in d

abbrev pub lookups_at : Data → Option (List (List Place))
lookups_at d = option_and_then (list_in places_in) (get (codes "lookups") d)

-- a manifest whose request is a projection alone
abbrev pub projecting_in : Data → Option Manifest
projecting_in d = option_and_then (λ r. if has_only is_projection_key r then manifest_in d else None) (get (codes "request") d)

abbrev pub manifest_at : Data → Option Manifest
manifest_at d = option_and_then projecting_in (get (codes "manifest") d)

-- look-ups in the files of a manifest
abbrev pub job_of : Manifest → List (List Place) → Job
job_of m lookups = record { dtype = m.dtype; files = m.files; projection = m.request.projection; cache = m.cache; lookups = lookups }

-- what a JSON value asks for
abbrev pub job_in : Data → Option Job
job_in d = if has_only is_job_key d then both (λ m lookups. Some (job_of m lookups)) (manifest_at d) (lookups_at d) else None

-- the bytes ask for this
abbrev pub IsJob : List ℕ → Job → Type 0
IsJob bytes j = (d : Data) × Spells bytes d × (job_in d ≡ Some j)

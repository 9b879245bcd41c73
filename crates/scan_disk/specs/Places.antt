-- Where the segments of a file stand, as a JSON value says it.
use Rattle.std.specs.Prelude.{ℕ, ◌^◌, ◌-◌, List, [], Option, None, Some, option_map, option_and_then, is_some, if◌then◌else◌, refl}
use Rattle.std.specs.Ordering.{nat_cmp, is_eq}
use Rattle.std.specs.Map.{lookup}
use Rattle.std.specs.BTreeMap.{insert_entry}
use Rattle.std.specs.Result.{result_ok}
use Rattle.std.specs.Coded.{Coded, code_by, coded_list, coded×, coded_ℕ}
use Rattle.hex.specs.Hex.{decode_sized}
use Rattle.serde_json.specs.Data.{Data, Items, no_items, item}
use Rattle.serde_json.specs.Find.{as_str, as_array}
use Rattle.scan_manifest.specs.Json.{number_of, number_to}
use Rattle.scan_disk.specs.declared.place.Place.{Place}

-- a SHA-256, in hex
abbrev pub digest_in : Data → Option (List ℕ)
digest_in d = option_and_then (λ text. result_ok (decode_sized text 32)) (as_str d)

abbrev pub four_of : Items → Option (Data × (Data × (Data × Data)))
four_of (item a (item b (item c (item d no_items)))) = Some (a, (b, (c, d)))
four_of (item a (item b (item c (item d (item e ds))))) = None
four_of (item a (item b (item c no_items))) = None
four_of (item a (item b no_items)) = None
four_of (item a no_items) = None
four_of no_items = None

-- an array of four
abbrev pub four_in : Data → Option (Data × (Data × (Data × Data)))
four_in d = option_and_then four_of (as_array d)

-- where the bytes of a segment stand, and their digest
abbrev pub place_of : Data × (Data × Data) → Option Place
place_of p = option_and_then (λ o. option_and_then (λ n. option_map (λ h. record { offset = o; length = n; digest = h })
    (digest_in p.1.1)) (number_of p.1.0)) (number_of p.0)

-- a segment, as `[id, offset, length, digest]`
abbrev pub segment_in : Data → Option (ℕ × Place)
segment_in d = option_and_then (λ p. option_and_then (λ id. option_map (λ place. (id, place)) (place_of p.1)) (number_to (2 ^ 32 - 1) p.0)) (four_in d)

abbrev pub place_at : List (ℕ × Place) → ℕ → Option Place
place_at places id = lookup (λ k. is_eq (nat_cmp id k)) places

-- segments by their ids, of which none is repeated
abbrev pub segments_from : List (ℕ × Place) → Items → Option (List (ℕ × Place))
segments_from found no_items = Some found
segments_from found (item d ds) =
    option_and_then (λ s. if is_some (place_at found s.0) then None else segments_from (insert_entry nat_cmp found s.0 s.1) ds) (segment_in d)

abbrev pub segments_in : Data → Option (List (ℕ × Place))
segments_in d = option_and_then (segments_from []) (as_array d)

abbrev pub place_code : Coded Place
place_code = code_by (ℕ × (ℕ × List ℕ)) (coded× coded_ℕ (coded× coded_ℕ (coded_list coded_ℕ)))
    (λ p. (p.offset, (p.length, p.digest))) (λ t. record { offset = t.0; length = t.1.0; digest = t.1.1 }) (λ _. refl)

abbrev pub places_code : Coded (List (ℕ × Place))
places_code = coded_list (coded× coded_ℕ place_code)

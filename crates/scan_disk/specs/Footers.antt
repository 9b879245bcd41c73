-- What the footer of a file says.
use Rattle.std.specs.Prelude.{ℕ, List, [], Bool, Option, None, option_map, option_and_then, ◌&&◌, ◌||◌, true, false, if◌then◌else◌, codes}
use Rattle.std.specs.Str.{bytes_eq, is_utf8}
use Rattle.serde_json.specs.Data.{Data, null, boolean, number, string, array, object, no_items, item, Members, no_members, member}
use Rattle.serde_json.specs.Find.{get}
use Rattle.serde_json.specs.Read.{read}
use Rattle.scan_layout.specs.Layout.{Layout}
use Rattle.scan_manifest.specs.DTypes.{dtype_in}
use Rattle.scan_manifest.specs.Layouts.{layout_in}
use Rattle.scan_disk.specs.Places.{segments_in}
use Rattle.scan_disk.specs.declared.footer.Footer.{Footer}

abbrev pub is_footer_key : List ℕ → Bool
is_footer_key k = bytes_eq k (codes "dtype") || (bytes_eq k (codes "layout") || bytes_eq k (codes "segments"))

abbrev pub has_footer_keys : Members → Bool
has_footer_keys no_members = true
has_footer_keys (member k d ms) = is_footer_key k && has_footer_keys ms

-- an object with no other key
abbrev pub is_footer_form : Data → Bool
is_footer_form (object ms) = has_footer_keys ms
is_footer_form null = false
is_footer_form (boolean b) = false
is_footer_form (number n) = false
is_footer_form (string s) = false
is_footer_form (array ds) = false

-- the layout of a dtype
abbrev pub tree_in : Data → Data → Option Layout
tree_in dtype layout = option_and_then (λ t. layout_in t layout) (dtype_in dtype)

abbrev pub footer_in : Data → Option Footer
footer_in d = if is_footer_form d then
    option_and_then (λ dtype. option_and_then (λ layout. option_and_then (λ tree. option_map (λ places.
    record { layout = tree; places = places })
    (option_and_then segments_in (get (codes "segments") d)))
    (tree_in dtype layout))
    (get (codes "layout") d))
    (get (codes "dtype") d)
    else None

-- the bytes are one JSON value in UTF-8 that says a footer
abbrev pub footer_of : List ℕ → Option Footer
footer_of bytes = if is_utf8 bytes then option_and_then footer_in (read bytes) else None

-- a manifest with one file, of this dtype and layout, and no segments
abbrev pub manifest_of_tree : Data → Data → Data
manifest_of_tree dtype layout = object
    (member (codes "dtype") dtype
    (member (codes "files") (array (item (object
    (member (codes "id") (string []) (member (codes "layout") layout (member (codes "segments") (array no_items) no_members)))) no_items))
    (member (codes "request") (object (member (codes "projection") (string (codes "$")) no_members)) no_members)))

-- The keys that an object of each form may have.
use Rattle.std.specs.Prelude.{◌||◌, ℕ, List, Bool, codes}
use Rattle.std.specs.Str.{bytes_eq}
use Rattle.scan_manifest.specs.declared.json.Form.{Form}
use Rattle.scan_manifest.specs.declared.json.Form.TheVariants.{ListDType, StructDType, LeafLayout, StructLayout, ListLayout, File, Calls, Request, Cache, Manifest, Literal, Pack}

abbrev pub is_key : Form → List ℕ → Bool
is_key ListDType k = bytes_eq k (codes "list") || bytes_eq k (codes "nullable")
is_key StructDType k = bytes_eq k (codes "struct") || bytes_eq k (codes "nullable")
is_key LeafLayout k = bytes_eq k (codes "leaf") || (bytes_eq k (codes "rows") || bytes_eq k (codes "spelling"))
is_key StructLayout k = bytes_eq k (codes "struct") || bytes_eq k (codes "rows")
is_key ListLayout k = bytes_eq k (codes "list") || (bytes_eq k (codes "offsets") || bytes_eq k (codes "rows"))
is_key File k =
    bytes_eq k (codes "id") || (bytes_eq k (codes "layout") || (bytes_eq k (codes "segments") || (bytes_eq k (codes "dtype")
    || (bytes_eq k (codes "skip") || (bytes_eq k (codes "open") || bytes_eq k (codes "source"))))))
is_key Calls k = bytes_eq k (codes "fail") || bytes_eq k (codes "pending")
is_key Request k =
    bytes_eq k (codes "projection") || (bytes_eq k (codes "filter") || (bytes_eq k (codes "range") || (bytes_eq k (codes "include")
    || (bytes_eq k (codes "exclude") || (bytes_eq k (codes "ordered") || (bytes_eq k (codes "limit") || bytes_eq k (codes "partitions")))))))
is_key Cache k = bytes_eq k (codes "bytes") || (bytes_eq k (codes "entries") || bytes_eq k (codes "eviction"))
is_key Manifest k =
    bytes_eq k (codes "dtype") || (bytes_eq k (codes "files") || (bytes_eq k (codes "request") || (bytes_eq k (codes "workers") || bytes_eq k (codes "cache"))))
is_key Literal k = bytes_eq k (codes "lit") || bytes_eq k (codes "type")
is_key Pack k = bytes_eq k (codes "pack") || bytes_eq k (codes "nullable")

-- The bytes of segments under another dtype.
use Rattle.std.specs.Prelude.{ℕ, ◌-◌, ◌^◌, nat_lt, List, [], Option, None, Some, option_map, option_and_then, replicate, slice_get, if◌then◌else◌}
use Rattle.scan_values.specs.DataType.{DataType}
use Rattle.scan_segments.specs.Source.{Store}
use Rattle.scan_spelling.specs.declared.spelling.Spelling.TheVariants.{One}
use Rattle.scan_spelling.specs.Spelling.{decode}
use Rattle.scan_spelling.specs.Written.{spelled}
use Rattle.scan_widen.specs.declared.behind.Behind.{Behind}
use Rattle.scan_widen.specs.declared.behind.Behind.TheVariants.{Kept, Widened, Blank, Valid}
use Rattle.scan_widen.specs.declared.behind.Widening.{Widening}
use Rattle.scan_widen.specs.Blanks.{blank_val}

-- the values that bytes spell, spelled as ones of the other dtype
abbrev pub widened : Widening → List ℕ → Option (List ℕ)
widened w bytes = option_map (spelled One w.to) (decode w.spelling w.from w.rows bytes)

-- the bytes of a segment behind which this stands: of the bytes of the file's segment
abbrev pub read_behind : List ℕ → Behind → Option (List ℕ)
read_behind bytes (Kept id) = Some bytes
read_behind bytes (Widened w) = widened w bytes
read_behind bytes (Blank t rows) = None
read_behind bytes (Valid rows) = None

-- where there is no segment of the file
abbrev pub made_behind : Behind → List ℕ
made_behind (Kept id) = []
made_behind (Widened w) = []
made_behind (Blank t rows) = spelled One t (replicate rows (blank_val t))
made_behind (Valid rows) = replicate rows 1

-- by the segments of a file
abbrev pub bytes_behind : Store → Behind → Option (List ℕ)
bytes_behind store (Kept id) = store id
bytes_behind store (Widened w) = option_and_then (widened w) (store w.id)
bytes_behind store (Blank t rows) = Some (made_behind (Blank t rows))
bytes_behind store (Valid rows) = Some (made_behind (Valid rows))

-- the segments of a file behind which these stand
abbrev pub store_under : List Behind → Store → Store
store_under behind store id = option_and_then (bytes_behind store) (slice_get behind id)

-- the file's segment behind this, where there is one
abbrev pub inner_id : Behind → Option ℕ
inner_id (Kept id) = Some id
inner_id (Widened w) = Some w.id
inner_id (Blank t rows) = None
inner_id (Valid rows) = None

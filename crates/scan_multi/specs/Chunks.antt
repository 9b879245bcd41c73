-- The chunks of a scan: the rows that it gives, split by split.
use Rattle.std.specs.Prelude.{◌≡◌, ℕ, ◌==◌, ◌&&◌, ◌++◌, List, [], ◌∷◌, Bool, true, false, if◌then◌else◌, map, All, Contains, get_or, None}
use Rattle.scan_values.specs.DataType.{DataType}
use Rattle.scan_expr.specs.declared.request.ScanRequest.{ScanRequest}
use Rattle.scan_layout.specs.Layout.{Layout, rows_of}
use Rattle.scan_layout.specs.Edges.{edges}
use Rattle.scan_layout.specs.PickGroups.{split_of}
use Rattle.scan_opener.specs.Opener.{Given, skip, layout_of}
use Rattle.scan_multi.specs.Answer.{ToldFile, Item, answer}
use Rattle.scan_multi.specs.Named.{field_masks, range_from, range_to}
use Rattle.scan_multi.specs.Output.{ChunkData, chunk_items, given}

-- where the rows of a layout are split
abbrev pub splits_of : DataType → ScanRequest → Layout → List ℕ
splits_of d request l = edges l (field_masks d request) (range_from request.row_range) (range_to request.row_range (rows_of l))

-- where the rows of what an opener gives are split: nowhere, where it skips
abbrev pub splits_in : DataType → ScanRequest → Given → List ℕ
splits_in d request skip = []
splits_in d request (layout_of l) = splits_of d request l

-- where the rows of the file at a place are split
abbrev pub splits_at : DataType → ScanRequest → List ToldFile → ℕ → List ℕ
splits_at d request files place = splits_in d request (get_or files place (record { given = skip; store = λ id. None })).given

-- two items are of one file and of one split
abbrev pub is_beside : DataType → ScanRequest → List ToldFile → Item → Item → Bool
is_beside d request files a b = (a.file == b.file) && (split_of (splits_at d request files a.file) a.row == split_of (splits_at d request files a.file) b.row)

-- an item before groups, in the first of them where it is beside its first
abbrev pub join_first : (Item → Item → Bool) → Item → List (List Item) → List (List Item)
join_first same x [] = (x ∷ []) ∷ []
join_first same x ([] ∷ groups) = (x ∷ []) ∷ groups
join_first same x ((y ∷ ys) ∷ groups) = if same x y then (x ∷ y ∷ ys) ∷ groups else (x ∷ []) ∷ (y ∷ ys) ∷ groups

-- neighbours that are alike, together
abbrev pub grouped : (Item → Item → Bool) → List Item → List (List Item)
grouped same [] = []
grouped same (x ∷ xs) = join_first same x (grouped same xs)

-- neighbours of one file and one split, together
abbrev pub cut : DataType → ScanRequest → List ToldFile → List Item → List (List Item)
cut d request files items = grouped (is_beside d request files) items

-- the first items of one of these groups
pub record IsFrontOf (groups : List (List Item)) (items : List Item) : Type 0 where
  pub rest : List Item
  pub among : Contains groups (items ++ rest)

-- Chunks split by split: in order they are the items that they give, cut; else each is a front of a group of the answer.
-- That no group is met twice is said by their places, of which none comes twice.
abbrev pub AreSplits : Bool → DataType → ScanRequest → List ToldFile → List ChunkData → Type 0
AreSplits true d request files chunks = map chunk_items chunks ≡ cut d request files (given chunks)
AreSplits false d request files chunks = All (IsFrontOf (cut d request files (answer d request files))) (map chunk_items chunks)

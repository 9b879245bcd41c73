-- The rows that a scan of a table gave, and those of the answer.
use Rattle.std.proofs.Common.{◌≡◌, ℕ, Bool, true, false, not, List, [], ◌∷◌, ◌++◌, length, map, zip, flat_map, Option, None, Some, refl, sym, ap, ◌∙◌, subst, arith, IsPermutation}
use Rattle.std.specs.Prelude.{All, IsSome, if◌then◌else◌}
use Rattle.std.specs.List.{AllByRecursion, slice_get}
use Rattle.std.proofs.lemmas.List.{map-append}
use Rattle.std.proofs.lemmas.List.Elements.{All-nil, All-cons, All-append, recursion_from_All}
use Rattle.std.proofs.lemmas.List.Folds.{flat_map-map}
use Rattle.std.proofs.lemmas.List.Sorted.{IsPermutation-map, All-permutation}
use Rattle.scan_values.specs.DataType.{DataType}
use Rattle.scan_values.specs.Val.{Val}
use Rattle.scan_drive.proofs.Same.{joined_alike}
use Rattle.scan_groups.specs.Order.{same_key}
use Rattle.scan_groups.specs.Rows.{Row, group_of, values_at, is_in_range, is_sum_past, IsPast, IsFirstPast}
use Rattle.scan_groups.specs.declared.measure.Measured.{Measured}
use Rattle.scan_groups.specs.declared.measure.Measured.TheVariants.{Count, Values, Sum, Least, Greatest}
use Rattle.scan_groups.proofs.Permuting.{passed_alike}
use Rattle.scan_groups.proofs.Regrouping.{sums_alike, values_alike}
use Rattle.scan_expr.specs.declared.request.ScanRequest.{ScanRequest}
use Rattle.scan_multi.specs.Answer.{Item, ToldFile, answer}
use Rattle.scan_multi.specs.Chunks.{join_first, grouped, is_beside, cut}
use Rattle.scan_multi.specs.Output.{ChunkData, IsChunk, chunk_items, given}
use Rattle.scan_table.specs.Rows.{row_in}
use Rattle.scan_table.specs.Tables.{row_of}
use Rattle.scan_table.specs.Totalled.{chunk_rows, rows_in}

-- ---- the rows of chunks are those of what they give
abbrev pub item_of : ℕ → ℕ × Val → Item
item_of file r = record { file = file; row = r.0; value = Some r.1 }

zipped : (keys file : ℕ) (rs : List ℕ) (vs : List Val) → length rs ≡ length vs → map (row_of keys) (map (item_of file) (zip rs vs)) ≡ rows_in keys vs
zipped keys file [] [] e = refl
zipped keys file [] (v ∷ vs) e = absurd (omega (arith, e))
zipped keys file (r ∷ rs) [] e = absurd (omega (arith, e))
zipped keys file (r ∷ rs) (v ∷ vs) e = ap (λ xs. row_in keys v ∷ xs) (zipped keys file rs vs (omega (arith, e)))

rows_by : (keys : ℕ) (d : DataType) (cs : List ChunkData) → AllByRecursion (IsChunk d) cs → map (row_of keys) (given cs) ≡ chunk_rows keys cs
rows_by keys d [] h = refl
rows_by keys d (c ∷ cs) h =
    map-append (row_of keys) (chunk_items c) (given cs)
    ∙ ap (λ xs. xs ++ map (row_of keys) (given cs)) (zipped keys c.file c.rows c.values.items h.0.even)
    ∙ ap (λ ys. rows_in keys c.values.items ++ ys) (rows_by keys d cs h.1)

pub rows_given : (keys : ℕ) (d : DataType) (cs : List ChunkData) → All (IsChunk d) cs → map (row_of keys) (given cs) ≡ chunk_rows keys cs
rows_given keys d cs h = rows_by keys d cs (recursion_from_All (IsChunk d) cs h)

-- ---- what is given is not damaged
abbrev pub HasValue : Item → Type 0
HasValue item = IsSome item.value

some_items : (file : ℕ) (rs : List (ℕ × Val)) → All HasValue (map (item_of file) rs)
some_items file [] = All-nil HasValue
some_items file (r ∷ rs) = All-cons HasValue (item_of file r) (map (item_of file) rs) refl (some_items file rs)

pub some_given : (cs : List ChunkData) → All HasValue (given cs)
some_given [] = All-nil HasValue
some_given (c ∷ cs) = All-append HasValue (chunk_items c) (given cs) (some_items c.file (zip c.rows c.values.items)) (some_given cs)

-- ---- groups of neighbours, one after the other, are the items
module _ (same : Item → Item → Bool) where
  joined_first : (x : Item) (gs : List (List Item)) → flat_map (λ g. g) (join_first same x gs) ≡ x ∷ flat_map (λ g. g) gs
  joined_first x [] = refl
  joined_first x ([] ∷ gs) = refl
  joined_first x ((y ∷ ys) ∷ gs) = go (same x y)
    where
      go : (b : Bool) → flat_map (λ g. g) (if b then (x ∷ y ∷ ys) ∷ gs else (x ∷ []) ∷ (y ∷ ys) ∷ gs) ≡ x ∷ flat_map (λ g. g) ((y ∷ ys) ∷ gs)
      go true = refl
      go false = refl

  joined_groups : (xs : List Item) → flat_map (λ g. g) (grouped same xs) ≡ xs
  joined_groups [] = refl
  joined_groups (x ∷ xs) = joined_first x (grouped same xs) ∙ ap (λ ys. x ∷ ys) (joined_groups xs)

-- chunks that are the groups of an answer give the answer, in another order
pub given_whole : (d : DataType) (q : ScanRequest) (files : List ToldFile) (cs : List ChunkData) → IsPermutation (map chunk_items cs) (cut d q files (answer d q files)) → IsPermutation (given cs) (answer d q files)
given_whole d q files cs h =
    let id : List Item → List Item = λ g. g in
    let all = joined_alike id (map chunk_items cs) (cut d q files (answer d q files)) h in
    let left : flat_map id (map chunk_items cs) ≡ given cs = flat_map-map id chunk_items cs in
    let right : flat_map id (cut d q files (answer d q files)) ≡ answer d q files = joined_groups (is_beside d q files) (answer d q files) in
    subst (λ ys. IsPermutation (given cs) ys) right (subst (λ xs. IsPermutation xs (flat_map id (cut d q files (answer d q files)))) left all)

-- so their rows are the answer's
pub rows_whole : (keys : ℕ) (d : DataType) (q : ScanRequest) (files : List ToldFile) (t : DataType) (cs : List ChunkData) → All (IsChunk t) cs
    → IsPermutation (map chunk_items cs) (cut d q files (answer d q files)) → IsPermutation (chunk_rows keys cs) (map (row_of keys) (answer d q files))
rows_whole keys d q files t cs are h =
    subst (λ xs. IsPermutation xs (map (row_of keys) (answer d q files))) (rows_given keys t cs are)
    (IsPermutation-map (row_of keys) (given cs) (answer d q files) (given_whole d q files cs h))

pub clean_whole : (d : DataType) (q : ScanRequest) (files : List ToldFile) (cs : List ChunkData) → IsPermutation (map chunk_items cs) (cut d q files (answer d q files)) → All HasValue (answer d q files)
clean_whole d q files cs h = All-permutation HasValue (given cs) (answer d q files) (given_whole d q files cs h) (some_given cs)

-- ---- sums of rows in another order
past_same : (o : Option Measured) (xs ys : List Row) → IsPermutation xs ys → is_sum_past ys o ≡ is_sum_past xs o
past_same None xs ys h = refl
past_same (Some Count) xs ys h = refl
past_same (Some (Values place)) xs ys h = refl
past_same (Some (Sum place)) xs ys h = ap (λ z. not (is_in_range z)) (sums_alike (values_at place xs) (values_at place ys) (values_alike place xs ys h))
past_same (Some (Least place)) xs ys h = refl
past_same (Some (Greatest place)) xs ys h = refl

group_past : (ms : List Measured) (rows others : List Row) (i : ℕ) (k : List Val) → IsPermutation rows others → is_sum_past (group_of others k) (slice_get ms i) ≡ is_sum_past (group_of rows k) (slice_get ms i)
group_past ms rows others i k h = past_same (slice_get ms i) (group_of rows k) (group_of others k) (passed_alike (λ (row : Row). same_key row.key k) rows others h)

pub past_forth : (ms : List Measured) (rows others : List Row) (i : ℕ) → IsPermutation rows others → IsPast ms rows i → IsPast ms others i
past_forth ms rows others i h p = (p.0, group_past ms rows others i p.0 h ∙ p.1)

pub past_back : (ms : List Measured) (rows others : List Row) (i : ℕ) → IsPermutation rows others → IsPast ms others i → IsPast ms rows i
past_back ms rows others i h p = (p.0, sym (group_past ms rows others i p.0 h) ∙ p.1)

pub first_past_forth : (ms : List Measured) (rows others : List Row) (i : ℕ) → IsPermutation rows others → IsFirstPast ms rows i → IsFirstPast ms others i
first_past_forth ms rows others i h p = record { past = past_forth ms rows others i h p.past; first = λ j lt q. p.first j lt (past_back ms rows others j h q) }

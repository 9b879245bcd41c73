-- The chunks of a drive over files, as chunks of a scan.
use Rattle.std.proofs.Common.{◌≡◌, ◌≢◌, ℕ, ◌+◌, ◌<◌, Bool, true, false, List, [], ◌∷◌, ◌++◌, refl, sym, ap, ◌∙◌, arith, subst, length, map, take, append-nil}
use Rattle.std.specs.Prelude.{Option, None, Some, All, zip}
use Rattle.std.proofs.lemmas.Grind.{flat_map-append}
use Rattle.std.proofs.lemmas.List.Elements.{All-nil, All-cons, All-head, All-tail}
use Rattle.scan_values.specs.DataType.{DataType}
use Rattle.scan_values.specs.Marked.{Marked}
use Rattle.scan_values.specs.Val.{Val, marked, is_clean-marked, read-marked}
use Rattle.scan_drive.specs.Chunks.{HasRow, Fits}
use Rattle.scan_drive.specs.Chunks as drive_chunks
use Rattle.scan_drive.specs.Drivings.{GivesBefore}
use Rattle.scan_drive.specs.Files as drive
use Rattle.scan_drive.specs.Line.{GivesSome, IsAnswered}
use Rattle.scan_drive.specs.declared.delivery.Chunk.{Chunk}
use Rattle.scan_expr.specs.Infer.{infer}
use Rattle.scan_expr.specs.declared.request.ScanRequest.{ScanRequest}
use Rattle.scan_file.specs.FileAsks.{FileAsk}
use Rattle.scan_file.specs.FileRows.{RowsData, row_items}
use Rattle.scan_multi.specs.Answer.{ToldFile, answer}
use Rattle.scan_multi.specs.Asked.{Row, AreClean, AsksFor, clean_value, item_from, items_from, tale_of}
use Rattle.scan_multi.specs.Before.{IsBelow, ReachesFile}
use Rattle.scan_multi.specs.Late.{SomeAreFew}
use Rattle.scan_multi.specs.Output.{IsChoice, IsChunk, IsGiven, IsShaped, chunk_items, given}
use Rattle.scan_multi.specs.Placed.{chunk_of, IsEven}
use Rattle.scan_multi.proofs.Arranged.{choice_given, few_given, rows_typed_in}
use Rattle.scan_multi.proofs.Meaning.{AreOf}
use Rattle.scan_multi.proofs.Reached.{reaches, some_few}
use Rattle.scan_multi.proofs.RowTypes.{limited_typed, rows_typed, typed_behind}
use Rattle.scan_multi.proofs.Tales.{given_limited}

-- a value that was marked is clean, and is that value
value-is : (v : Val) → clean_value (marked v) ≡ Some v
value-is v = rw (is_clean-marked v) (ap Some (read-marked v))

module _ (file : ℕ) (t : DataType) where
  -- rows of a split, placed at its file
  abbrev at-file : drive.Item → Row
  at-file x = (file, x)

  abbrev typed : Val → DataType × Marked
  typed v = (t, marked v)

  pub rows_items : (ns : List ℕ) (vs : List Val) → items_from (map at-file (zip ns (map typed vs))) ≡ map (λ r. record { file = file; row = r.0; value = Some r.1 }) (zip ns vs)
  rows_items [] vs = refl
  rows_items (n ∷ ns) [] = refl
  rows_items (n ∷ ns) (v ∷ vs) = λ i. record { file = file; row = n; value = value-is v i } ∷ rows_items ns vs i

  pub rows_clean : (ns : List ℕ) (vs : List Val) → AreClean (map at-file (zip ns (map typed vs)))
  rows_clean [] vs = tt
  rows_clean (n ∷ ns) [] = tt
  rows_clean (n ∷ ns) (v ∷ vs) = (is_clean-marked v, rows_clean ns vs)

  first_typed : (u : DataType) (ns : List ℕ) (vs : List Val) (rest : List Row) → zip ns (map typed vs) ≢ [] → AreOf u (map at-file (zip ns (map typed vs)) ++ rest) → t ≡ u
  first_typed u [] vs rest some h = absurd (some refl)
  first_typed u (n ∷ ns) [] rest some h = absurd (some refl)
  first_typed u (n ∷ ns) (v ∷ vs) rest some h = h.0

some-row : (t : DataType) (ns : List ℕ) (vs : List Val) → zip ns (map (typed 0 t) vs) ≢ [] → 0 < length ns
some-row t [] vs h = absurd (h refl)
some-row t (n ∷ ns) vs h = omega arith

-- ---- rows, one after the other
clean-both : (xs ys : List Row) → AreClean xs → AreClean ys → AreClean (xs ++ ys)
clean-both [] ys h k = k
clean-both (x ∷ xs) ys h k = (h.0, clean-both xs ys h.1 k)

items-both : (xs ys : List Row) → items_from (xs ++ ys) ≡ items_from xs ++ items_from ys
items-both [] ys = refl
items-both (x ∷ xs) ys = ap (λ z. item_from x ∷ z) (items-both xs ys)

-- ---- the rows of chunks
-- all rows that chunks give
abbrev pub rows_in : List (Chunk RowsData) → List Row
rows_in chunks = drive.flattened (drive_chunks.given row_items chunks)

group-rows : (file : ℕ) (xs : List drive.Item) → drive.flattened (drive.grouped file xs) ≡ map (λ x. (file, x)) xs
group-rows file [] = refl
group-rows file (x ∷ xs) = append-nil (map (λ (y : drive.Item). (file, y)) (x ∷ xs))

more-rows : (c : Chunk RowsData) (cs : List (Chunk RowsData)) → rows_in (c ∷ cs) ≡ map (λ x. (c.file, x)) (row_items c.rows) ++ rows_in cs
more-rows c cs =
    flat_map-append drive.placed (drive.grouped c.file (row_items c.rows)) (drive_chunks.given row_items cs)
    ∙ ap (λ xs. xs ++ rows_in cs) (group-rows c.file (row_items c.rows))

pub chunks_clean : (chunks : List (Chunk RowsData)) → AreClean (rows_in chunks)
chunks_clean [] = tt
chunks_clean (c ∷ cs) =
    subst AreClean (sym (more-rows c cs)) (clean-both _ (rows_in cs) (rows_clean c.file (c.rows).values.dtype (c.rows).numbers (c.rows).values.items) (chunks_clean cs))

pub chunks_items : (chunks : List (Chunk RowsData)) → items_from (rows_in chunks) ≡ given (map chunk_of chunks)
chunks_items [] = refl
chunks_items (c ∷ cs) =
    ap items_from (more-rows c cs) ∙ items-both _ (rows_in cs)
    ∙ ap (λ xs. xs ++ items_from (rows_in cs)) (rows_items c.file (c.rows).values.dtype (c.rows).numbers (c.rows).values.items)
    ∙ ap (λ xs. chunk_items (chunk_of c) ++ xs) (chunks_items cs)

pub are_chunks : (t : DataType) (chunks : List (Chunk RowsData)) → All (HasRow row_items) chunks → All IsEven (map chunk_of chunks) → AreOf t (rows_in chunks) → All (IsChunk t) (map chunk_of chunks)
are_chunks t [] some even of = All-nil (IsChunk t)
are_chunks t (c ∷ cs) some even of =
    let here = subst (AreOf t) (more-rows c cs) of in
    let row : row_items c.rows ≢ [] = All-head (HasRow row_items) c cs some in
    All-cons (IsChunk t) (chunk_of c) (map chunk_of cs)
    (record {
      even = All-head IsEven (chunk_of c) (map chunk_of cs) even;
      some = some-row (c.rows).values.dtype (c.rows).numbers (c.rows).values.items row;
      dtype = first_typed c.file (c.rows).values.dtype t (c.rows).numbers (c.rows).values.items (rows_in cs) row here;
    })
    (are_chunks t cs (All-tail (HasRow row_items) c cs some) (All-tail IsEven (chunk_of c) (map chunk_of cs) even) (typed_behind t (map (λ x. (c.file, x)) (row_items c.rows)) (rows_in cs) here))

-- a chunk of a split with a row has as many rows as values, and one
pub shaped_chunks : (chunks : List (Chunk RowsData)) → All (HasRow row_items) chunks → All IsEven (map chunk_of chunks) → All IsShaped (map chunk_of chunks)
shaped_chunks [] some even = All-nil IsShaped
shaped_chunks (c ∷ cs) some even =
    All-cons IsShaped (chunk_of c) (map chunk_of cs)
    (record {
      even = All-head IsEven (chunk_of c) (map chunk_of cs) even;
      some = some-row (c.rows).values.dtype (c.rows).numbers (c.rows).values.items (All-head (HasRow row_items) c cs some);
    })
    (shaped_chunks cs (All-tail (HasRow row_items) c cs some) (All-tail IsEven (chunk_of c) (map chunk_of cs) even))

-- ---- in the words of a scan
below-of : (limit : Option ℕ) (n : ℕ) → Fits n limit → IsBelow limit n
below-of None n h = tt
below-of (Some k) n h = h

module _ (d : DataType) (q : ScanRequest) (a : FileAsk) (asks : AsksFor d q a) (files : List ToldFile) where
  -- all rows of the files before a place were given, and there was room for more
  pub reached : (k : ℕ) → GivesBefore row_items true q.limit (map (tale_of a) files) k → ReachesFile d q files k
  reached k g = reaches d q a asks files k (drive_chunks.given row_items g.chunks) g.more g.groups (chunks_clean g.chunks) (below-of q.limit _ g.room)

  -- all rows of so many of the files up to a place were given, and there was room for more
  pub reached_some : (k n : ℕ) → k < length files → GivesSome row_items q.limit (map (tale_of a) files) k n → SomeAreFew d q (take (k + 1) files) n
  reached_some k n l g =
      some_few d q files k n g.places l g.once g.within g.as_many
      (few_given d q a asks files g.places (drive_chunks.given row_items g.chunks) g.more g.groups (chunks_clean g.chunks) (below-of q.limit _ g.room))

  -- chunks of what a drive gives, in order or in some order, give as many items as the limit allows
  pub items_given : (limit : Option ℕ) (ordered : Bool) (chunks : List (Chunk RowsData)) → IsAnswered ordered limit (map (tale_of a) files) (drive_chunks.given row_items chunks)
      → IsGiven ordered limit (answer d q files) (given (map chunk_of chunks))
  items_given limit true chunks is = sym (chunks_items chunks) ∙ given_limited d q a asks files limit (drive_chunks.given row_items chunks) is (chunks_clean chunks)
  items_given limit false chunks is =
      subst (IsChoice limit (answer d q files)) (chunks_items chunks) (choice_given d q a asks files limit (drive_chunks.given row_items chunks) is (chunks_clean chunks))

  rows-typed : (limit : Option ℕ) (ordered : Bool) (gs : List (drive.Group drive.Item)) → IsAnswered ordered limit (map (tale_of a) files) gs → AreOf (infer d q.projection) (drive.flattened gs)
  rows-typed limit true gs is = limited_typed (infer d q.projection) (drive.answer (map (tale_of a) files)) (rows_typed d q a asks files) limit gs is
  rows-typed limit false gs is = rows_typed_in d q a asks files limit gs is

  -- each of them has the dtype of the projection
  pub typed_chunks : (limit : Option ℕ) (ordered : Bool) (chunks : List (Chunk RowsData)) → IsAnswered ordered limit (map (tale_of a) files) (drive_chunks.given row_items chunks) → All (HasRow row_items) chunks
      → All IsEven (map chunk_of chunks) → All (IsChunk (infer d q.projection)) (map chunk_of chunks)
  typed_chunks limit ordered chunks is some even = are_chunks (infer d q.projection) chunks some even (rows-typed limit ordered (drive_chunks.given row_items chunks) is)

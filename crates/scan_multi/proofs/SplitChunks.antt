-- The chunks of a scan are split where its files are.
use Rattle.std.proofs.Common.{◌≡◌, ◌≢◌, ℕ, Bool, true, false, true≢false, List, [], ◌∷◌, ◌++◌, IsPermutation, Option, None, Some, map, refl, sym, ap, subst, ◌∙◌}
use Rattle.std.specs.Prelude.{All}
use Rattle.std.proofs.lemmas.List.Elements.{All-head, All-tail}
use Rattle.scan_values.specs.DataType.{DataType}
use Rattle.scan_expr.specs.declared.request.ScanRequest.{ScanRequest}
use Rattle.scan_drive.specs.Chunks.{HasRow}
use Rattle.scan_drive.specs.Chunks as drive_chunks
use Rattle.scan_drive.specs.Files as drive
use Rattle.scan_drive.specs.Line.{IsAnswered}
use Rattle.scan_drive.specs.declared.delivery.Chunk.{Chunk}
use Rattle.scan_file.specs.FileAsks.{FileAsk}
use Rattle.scan_file.specs.FileRows.{RowsData, row_items}
use Rattle.scan_multi.specs.Answer.{ToldFile, answer}
use Rattle.scan_multi.specs.Asked.{AsksFor, tale_of}
use Rattle.scan_multi.specs.Chunks.{AreSplits, IsFrontOf, cut}
use Rattle.scan_multi.specs.Output.{chunk_items}
use Rattle.scan_multi.specs.Placed.{chunk_of}
use Rattle.scan_multi.proofs.Arranged.{fronts_given, groups_given}
use Rattle.scan_multi.proofs.Chunking.{chunks_clean, chunks_items, rows_items}
use Rattle.scan_multi.proofs.Cuts.{given_splits, group_items}
use Rattle.scan_multi.proofs.Pairing.{AreFull, full_before}

-- rows, of which there are some, are one group
one_group : (c : Chunk RowsData) (xs : List drive.Item) → xs ≢ [] → drive.grouped c.file xs ≡ (c.file, xs) ∷ []
one_group c [] some = absurd (some refl)
one_group c (x ∷ xs) some = refl

-- the items of chunks are those of the groups that they give
group_by_group : (chunks : List (Chunk RowsData)) → All (HasRow row_items) chunks → map chunk_items (map chunk_of chunks) ≡ map group_items (drive_chunks.given row_items chunks)
group_by_group [] some = refl
group_by_group (c ∷ cs) some =
    let row : row_items c.rows ≢ [] = All-head (HasRow row_items) c cs some in
    let rest = group_by_group cs (All-tail (HasRow row_items) c cs some) in
    let groups : drive_chunks.given row_items (c ∷ cs) ≡ (c.file, row_items c.rows) ∷ drive_chunks.given row_items cs = ap (λ gs. gs ++ drive_chunks.given row_items cs) (one_group c (row_items c.rows) row) in
    (λ z. sym (rows_items c.file (c.rows).values.dtype (c.rows).numbers (c.rows).values.items) z ∷ rest z) ∙ sym (ap (map group_items) groups)

-- of which none is without rows
given_full : (chunks : List (Chunk RowsData)) → AreFull (drive_chunks.given row_items chunks)
given_full [] = tt
given_full (c ∷ cs) = full_before c.file (row_items c.rows) (drive_chunks.given row_items cs) (given_full cs)

module _ (d : DataType) (q : ScanRequest) (a : FileAsk) (asks : AsksFor d q a) (files : List ToldFile) where
  -- chunks of what a drive gives are split where the files are
  pub chunks_split : (limit : Option ℕ) (ordered : Bool) (chunks : List (Chunk RowsData)) → IsAnswered ordered limit (map (tale_of a) files) (drive_chunks.given row_items chunks) → All (HasRow row_items) chunks
      → AreSplits ordered d q files (map chunk_of chunks)
  chunks_split limit true chunks is some =
      given_splits d q a asks files limit (drive_chunks.given row_items chunks) (map chunk_of chunks) is (chunks_clean chunks) (group_by_group chunks some) (sym (chunks_items chunks))
  chunks_split limit false chunks is some =
      subst (All (IsFrontOf (cut d q files (answer d q files)))) (sym (group_by_group chunks some))
      (fronts_given d q a asks files limit (drive_chunks.given row_items chunks) is (chunks_clean chunks) (given_full chunks))

  -- without an order and a limit they are the groups of the answer, each once
  pub chunks_whole : (ordered : Bool) (limit : Option ℕ) (chunks : List (Chunk RowsData)) → ordered ≡ false → limit ≡ None → IsAnswered ordered limit (map (tale_of a) files) (drive_chunks.given row_items chunks)
      → All (HasRow row_items) chunks → IsPermutation (map chunk_items (map chunk_of chunks)) (cut d q files (answer d q files))
  chunks_whole true limit chunks un none is some = absurd (true≢false un)
  chunks_whole false (Some n) chunks un none is some = absurd (some-not n none)
    where
      some-not : (n : ℕ) → ◌≡◌ {A = Option ℕ} (Some n) None → ⊥
      some-not n e = cc
  chunks_whole false None chunks un none is some =
      subst (λ z. IsPermutation z (cut d q files (answer d q files))) (sym (group_by_group chunks some))
      (groups_given d q a asks files (drive_chunks.given row_items chunks) is (chunks_clean chunks))

-- What a caller concludes of files on disk.
use Rattle.std.specs.Prelude.{◌≡◌, ℕ, ◌+◌, List, [], ◌∷◌, Option, None, Some, true, Ok}
use Rattle.std.specs.Result.{result_ok}
use Rattle.vortex_scan.specs.Values.Val.{Val}
use Rattle.vortex_scan.specs.Disk.Contents.{content_of}
use Rattle.vortex_scan.specs.Disk.Segments.{segment_of}
use Rattle.vortex_scan.specs.Disk.declared.footer.Footer.{Footer}
use Rattle.vortex_scan.specs.Multi.Answer.{Item, ToldFile}
use Rattle.vortex_scan.specs.Opener.Opener.{layout_of}

-- Two files that were opened tell these bytes, which are a whole file with this footer.
pub record AreOfFile (header file : Option (List ℕ)) (bytes : List ℕ) (f : Footer) : Type 0 where
  pub footer_told : header ≡ Some bytes
  pub told : file ≡ Some bytes
  pub is : content_of bytes ≡ Ok f

-- a file of these bytes: the layout of its footer, over the segments that it has with the digests that it tells
abbrev pub disk_file : List ℕ → Footer → ToldFile
disk_file bytes f = record { given = layout_of f.layout; store = λ id. result_ok (segment_of true None id bytes) }

-- rows of the first file, from this row on
abbrev pub items_from : ℕ → List Val → List Item
items_from row [] = []
items_from row (v ∷ vs) = record { file = 0; row = row; value = Some v } ∷ items_from (row + 1) vs

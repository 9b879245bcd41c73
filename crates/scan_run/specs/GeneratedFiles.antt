-- The objects in memory that are generated files.
use Rattle.std.specs.Prelude.{◌≡◌, ℕ, ◌*◌, List, [], ◌∷◌, Some, false, length, codes}
use Rattle.scan_segments.specs.Source.{Store, SourceState, none_live}
use Rattle.scan_segments.specs.MemorySource.{source_state}
use Rattle.scan_segments.specs.declared.memory_source.MemorySource.{MemorySource}
use Rattle.scan_spelling.specs.declared.spelling.Spelling.{Spelling}
use Rattle.scan_layout.specs.Layout.{Layout}
use Rattle.scan_opener.specs.Opener.{OpenerState, layout_of}
use Rattle.scan_opener.specs.declared.opener.MemoryOpener.{MemoryOpener}
use Rattle.scan_drive.specs.declared.files.ScanFile.{ScanFile}
use Rattle.scan_run.specs.FileOf.{memory_opener}
use Rattle.scan_run.specs.Run.{store_of}
use Rattle.scan_run.specs.Generated.{elements, file_segments, file_layout, numbered}

-- the layout of n rows, the first of which has a number
abbrev pub layout_at : Spelling → ℕ → ℕ → Layout
layout_at s first n = file_layout s (length (elements first n)) n

-- the segments of these rows, by their numbers
abbrev pub store_at : Spelling → ℕ → ℕ → Store
store_at s first n = store_of (numbered 0 (file_segments s first n))

-- it gives this layout, and can't fail
pub record GivesLayout (l : Layout) (o : OpenerState) : Type 0 where
  pub gives : o.gives ≡ Some (layout_of l)
  pub can_fail : o.can_fail ≡ false

-- it holds these rows, can't fail, and was asked nothing
pub record IsGeneratedSource (s : Spelling) (first n : ℕ) (source : SourceState) : Type 0 where
  pub holds : source.holds ≡ Some (store_at s first n)
  pub can_fail : source.can_fail ≡ false
  pub idle : source.live ≡ none_live

pub record IsGeneratedFile (s : Spelling) (text : List ℕ) (first n : ℕ) (f : ScanFile MemoryOpener MemorySource) : Type 0 where
  pub name : f.source_id ≡ text
  pub gives : GivesLayout (layout_at s first n) (memory_opener f.opener)
  pub holds : IsGeneratedSource s first n (source_state f.source)

-- three files of n rows, numbered from file to file
abbrev pub AreGenerated : Spelling → ℕ → List (ScanFile MemoryOpener MemorySource) → Type 0
AreGenerated s n (a ∷ b ∷ d ∷ []) =
    IsGeneratedFile s (codes "gen0") 0 n a × IsGeneratedFile s (codes "gen1") n n b × IsGeneratedFile s (codes "gen2") (2 * n) n d
AreGenerated s n _ = ⊥

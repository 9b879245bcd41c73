-- Of the sources that a manifest tells none has a live request.
use Rattle.std.specs.Prelude.{◌≡◌, List, [], ◌∷◌, All}
use Rattle.std.proofs.lemmas.List.Elements.{All-cons, All-nil}
use Rattle.scan_segments.specs.Source.{none_live}
use Rattle.scan_segments.specs.MemorySource.{source_state}
use Rattle.scan_segments.specs.declared.memory_source.MemorySource.{MemorySource}
use Rattle.scan_opener.specs.declared.opener.MemoryOpener.{MemoryOpener}
use Rattle.scan_drive.specs.declared.files.ScanFile.{ScanFile}
use Rattle.scan_manifest.specs.declared.manifest.FileSpec.{FileSpec}
use Rattle.scan_run.specs.FileOf.{AreFilesOf}

abbrev pub IsIdle : ScanFile MemoryOpener MemorySource → Type 0
IsIdle f = (source_state f.source).live ≡ none_live

pub all_idle : (specs : List FileSpec) (files : List (ScanFile MemoryOpener MemorySource)) → AreFilesOf specs files → All IsIdle files
all_idle [] [] are = All-nil IsIdle
all_idle [] (f ∷ files) are = absurd are
all_idle (s ∷ specs) [] are = absurd are
all_idle (s ∷ specs) (f ∷ files) are = All-cons IsIdle f files (are.0).idle (all_idle specs files are.1)

use Rattle.std.proofs.Common.{List, [], ◌∷◌, ◌++◌, refl, sym, ap, ◌∙◌, subst}
use Rattle.vortex_scan.specs.Opener.declared.opener.MemoryOpener.{MemoryOpener}
use Rattle.vortex_scan.specs.Drive.declared.files.ScanFile.{ScanFile}
use Rattle.uses.specs.Own.{AreOne, memory_opener, table_file, table_source}
use Rattle.uses.specs.declared.own_source.TableSource.{TableSource}
use Rattle.uses.proofs.Alone.{table_alone}
use Rattle.uses.proofs.own_source.table.Goals as goal

pub returns : goal.returns
returns c =
    let source : TableSource = record { segments = c.args.segments; requests = c.new-requests.result } in
    let file : ScanFile MemoryOpener TableSource = record { opener = c.new-opener.result; source = source; source_id = c.args.source_id } in
    let pushed = c.in_ok-push.ensures.items ∙ ap (λ (fs : List (ScanFile MemoryOpener TableSource)). fs ++ file ∷ []) c.new-files.ensures.items in
    subst (λ (fs : List (ScanFile MemoryOpener TableSource)). AreOne memory_opener table_source (table_file c.args.layout.value c.args.segments.items) fs) (sym pushed)
    (table_alone file c.args.layout c.args.segments c.new-opener.ensures.gives refl c.new-requests.ensures)

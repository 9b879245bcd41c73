use Rattle.std.proofs.Common.{◌≡◌, sym, subst}
use Rattle.std.specs.List.{slice_get}
use Rattle.std.specs.Prelude.{option_map}
use Rattle.scan_multi_sources.specs.FileView.{slot_view}
use Rattle.scan_multi_sources.proofs.Finding.{none_past}
use Rattle.scan_multi_sources.proofs.file_scan.FileScan.step.Goals as goal

pub begin-requires-clause-past : goal.begin-requires-clause-past
begin-requires-clause-past g c = none_past c.args.self.now.window c.args.at (subst (λ z. option_map slot_view z ≡ slice_get c.args.self.now.window c.args.at) c.in-Ok-None.field-0-is c.in-Ok-None.ensures)

pub look-requires-clause-slot : goal.look-requires-clause-slot
look-requires-clause-slot g c = sym (subst (λ z. option_map slot_view z ≡ slice_get c.args.self.now.window c.args.at) c.in-Ok-Some.field-0-is c.in-Ok-Some.ensures)

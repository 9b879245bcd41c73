use Rattle.scan_import.proofs.Jsons.{name_there}
use Rattle.scan_import.proofs.json.name_at.Goals as goal

pub unreachable-requires : goal.unreachable-requires
unreachable-requires c = name_there c.args.fields.now c.args.i c.requires c.in-None.ensures

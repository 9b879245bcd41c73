use Rattle.scan_import.proofs.Jsons.{dtype_there}
use Rattle.scan_import.proofs.json.dtype_at.Goals as goal

pub unreachable-requires : goal.unreachable-requires
unreachable-requires c = dtype_there c.args.fields.now c.args.i c.requires c.in-None.ensures

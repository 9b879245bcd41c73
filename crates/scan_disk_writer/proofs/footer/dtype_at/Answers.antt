use Rattle.scan_encode.proofs.Falling.{field_there}
use Rattle.scan_disk_writer.proofs.footer.dtype_at.Goals as goal

pub unreachable-requires : goal.unreachable-requires
unreachable-requires c = field_there c.args.fields.now c.args.i c.requires c.in-None.ensures

use Rattle.std.proofs.Common.{sym}
use Rattle.scan_spelling.specs.LeafColumns.{spelled}
use Rattle.scan_spelling.proofs.Lengths.{decode_length}
use Rattle.scan_spelling.proofs.column.LeafColumn.len.Goals as goal

pub returns : goal.returns
returns c = rw (← c.self.view_is) (sym (decode_length c.self.inside.spelling c.self.inside.dtype c.self.inside.rows c.self.inside.bytes (spelled c.self.inside.spelling c.self.inside.dtype c.self.inside.rows c.self.inside.bytes) c.self.invariant.0))

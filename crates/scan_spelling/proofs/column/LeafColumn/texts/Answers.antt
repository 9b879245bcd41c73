use Rattle.std.proofs.Common.{◌≡◌, length, arith}
use Rattle.scan_spelling.specs.LeafColumns.{spelled}
use Rattle.scan_spelling.proofs.Lengths.{decode_length}
use Rattle.scan_spelling.proofs.column.LeafColumn.texts.Goals as goal

pub text_run-requires-clause-within : goal.text_run-requires-clause-within
text_run-requires-clause-within c =
    let same : length c.args.self.now.items ≡ c.self.inside.rows =
    rw (← c.self.view_is) (decode_length c.self.inside.spelling c.self.inside.dtype c.self.inside.rows c.self.inside.bytes (spelled c.self.inside.spelling c.self.inside.dtype c.self.inside.rows c.self.inside.bytes) c.self.invariant.0) in
    omega (arith, c.requires.within, same)

use Rattle.std.proofs.Common.{◌≡◌, drop}
use Rattle.scan_readers.specs.KindView.{made_of}
use Rattle.scan_readers.specs.Made.{is_made}
use Rattle.scan_readers.proofs.kind.ReaderKind.is_made.Given as goal

abbrev pub invariant-loop-index : goal.invariant-loop-index
invariant-loop-index l = is_made (made_of l.fn.self) l.fn.path ≡ is_made (made_of l.reader) (drop l.index-index l.fn.path)

use Rattle.std.proofs.Common.{◌≡◌, None, replicate}
use Rattle.scan_readers.specs.declared.kind.ReaderKind.{ReaderKind}
use Rattle.std.specs.Prelude.{Option}
use Rattle.scan_readers.proofs.nested.unmade.Given as goal

abbrev pub invariant-loop-place : goal.invariant-loop-place
invariant-loop-place l = l.children.items ≡ replicate {A = Option ReaderKind} l._place None

use Rattle.std.proofs.Common.{◌≡◌, ◌++◌, List, length}
use Rattle.std.specs.Vec.Iter.{into_iter_items, into_iter_len}
use Rattle.scan_run.specs.FileOf.{AreFilesOf}
use Rattle.scan_run.proofs.Stopping.{File}
use Rattle.scan_run.proofs.run.make_files.Given as goal

abbrev pub invariant-loop-spec : goal.invariant-loop-spec
invariant-loop-spec l = record {
  len : into_iter_len l.spec-iterator ≡ length (into_iter_items l.spec-iterator);
  made : (rest : List File) → AreFilesOf (into_iter_items l.spec-iterator) rest → AreFilesOf l.fn.files (l.made.items ++ rest);
}

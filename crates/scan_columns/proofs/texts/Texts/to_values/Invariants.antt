use Rattle.std.proofs.Common.{◌≡◌, ◌++◌, drop, map}
use Rattle.scan_values.specs.Values.{val_of}
use Rattle.scan_columns.specs.Texts.{texts_in}
use Rattle.scan_columns.proofs.texts.Texts.to_values.Given as goal

abbrev pub invariant-loop-i : goal.invariant-loop-i
invariant-loop-i l = map val_of l.made.items ++ drop l.i (texts_in l.self) ≡ texts_in l.self

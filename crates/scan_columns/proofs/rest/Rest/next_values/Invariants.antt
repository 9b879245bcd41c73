use Rattle.std.proofs.Common.{◌≡◌, drop, take, map}
use Rattle.scan_values.specs.Values.{val_of}
use Rattle.scan_columns.proofs.rest.Rest.next_values.Given as goal

abbrev pub invariant-loop-i : goal.invariant-loop-i
invariant-loop-i l = record {
  items : map val_of l.made.items ≡ take l.i l.fn.self;
  rest : l.self ≡ drop l.i l.fn.self;
}

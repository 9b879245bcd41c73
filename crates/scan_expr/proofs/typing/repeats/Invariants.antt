use Rattle.std.proofs.Common.{◌≡◌, [], take, drop}
use Rattle.scan_values.specs.DataType.{Name}
use Rattle.scan_values.specs.NameFaults.{has_name}
use Rattle.scan_expr.specs.Typing.{repeats}
use Rattle.scan_expr.proofs.Placing.{is_seen}
use Rattle.scan_expr.proofs.typing.repeats.Given as goal

abbrev pub invariant-loop-name : goal.invariant-loop-name
invariant-loop-name l =
    record {
      same : repeats [] l.names ≡ repeats (take l.name-index l.names) (drop l.name-index l.names);
      seen : (n : Name) → is_seen l.seen n ≡ has_name n (take l.name-index l.names);
    }

use Rattle.std.proofs.Common.{◌≡◌, ◌++◌, take}
use Rattle.scan_table.specs.Spec.{key_names}
use Rattle.scan_table.proofs.request.push_key_names.Given as goal

abbrev pub invariant-loop-key : goal.invariant-loop-key
invariant-loop-key l = l.names.items ≡ l.fn.names.items ++ key_names (take l.key-index l.keys)

use Rattle.std.proofs.Common.{◌≡◌, ◌++◌, take}
use Rattle.scan_table.specs.Spec.{key_parts}
use Rattle.scan_table.proofs.request.push_key_parts.Given as goal

abbrev pub invariant-loop-key : goal.invariant-loop-key
invariant-loop-key l = l.parts.items ≡ l.fn.parts.items ++ key_parts (take l.key-index l.keys)

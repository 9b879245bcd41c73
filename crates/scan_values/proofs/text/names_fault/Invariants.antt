use Rattle.std.proofs.Common.{◌≡◌, [], take, drop, Bor}
use Rattle.std.specs.BTreeSet as set
use Rattle.std.specs.Ordering.{nat_cmp}
use Rattle.std.specs.Cmp.Lexicographic.{slice_cmp}
use Rattle.scan_values.specs.DataType.{Name}
use Rattle.scan_values.specs.NameFaults.{names_fault, has_name}
use Rattle.scan_values.proofs.text.names_fault.Given as goal

abbrev pub invariant-loop-name : goal.invariant-loop-name
invariant-loop-name l =
    record {
      same : names_fault [] l.names ≡ names_fault (take l.name-index l.names) (drop l.name-index l.names);
      seen : (q : Bor Name) → set.contains (λ a b. slice_cmp nat_cmp a.now b.now) l.seen q ≡ has_name q.now (take l.name-index l.names);
    }

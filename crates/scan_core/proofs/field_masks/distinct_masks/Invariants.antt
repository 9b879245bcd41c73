use Rattle.std.proofs.Common.{◌≡◌, map, take, Bor}
use Rattle.std.specs.declared.alloc.Global.{Global}
use Rattle.std.specs.declared.vec.Vec.{Vec}
use Rattle.std.specs.BTreeSet as set
use Rattle.scan_values.specs.DataType.{Name}
use Rattle.scan_core.specs.FieldMasks.{path_mask, firsts}
use Rattle.scan_core.specs.NameSets.{path_cmp, names_in}
use Rattle.scan_core.proofs.Masking.{has_path}
use Rattle.scan_core.proofs.field_masks.distinct_masks.Given as goal

abbrev pub invariant-loop-path : goal.invariant-loop-path
invariant-loop-path l =
    record {
      same : l.masks.items ≡ map path_mask (firsts (take l.path-index l.paths));
      seen : (q : Vec (Bor Name) Global) → set.contains path_cmp l.seen q ≡ has_path (names_in q) (take l.path-index l.paths);
    }

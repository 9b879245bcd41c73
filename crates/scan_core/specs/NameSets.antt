-- Names and paths of names in ordered sets.
use Rattle.std.specs.Prelude.{Bool, List, map}
use Rattle.std.specs.Borrow.{Bor}
use Rattle.std.specs.declared.alloc.Global.{Global}
use Rattle.std.specs.declared.vec.Vec.{Vec}
use Rattle.std.specs.declared.cmp.Ordering.{Ordering}
use Rattle.std.specs.Ordering.{nat_cmp}
use Rattle.std.specs.Cmp.Lexicographic.{slice_cmp}
use Rattle.std.specs.BTreeSet.{BTreeSet, contains_by}
use Rattle.scan_values.specs.DataType.{Name}

-- the name is one of these texts
abbrev pub is_seen : BTreeSet (Bor Name) → Name → Bool
is_seen seen n = contains_by (λ k. slice_cmp nat_cmp n k.now) seen

-- the order of paths: of the first names that differ
abbrev pub path_cmp : Vec (Bor Name) Global → Vec (Bor Name) Global → Ordering
path_cmp p q = slice_cmp (λ m n. slice_cmp nat_cmp m.now n.now) p.items q.items

-- the names of a path
abbrev pub names_in : Vec (Bor Name) Global → List Name
names_in p = map (λ n. n.now) p.items

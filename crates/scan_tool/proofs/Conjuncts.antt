-- The conjuncts of a filter have plans.
use Rattle.std.proofs.Common.{List, [], ◌∷◌, All}
use Rattle.std.proofs.lemmas.List.Elements.{All-from_recursion}
use Rattle.std.specs.List.{AllByRecursion}
use Rattle.scan_values.specs.DataType.{DataType}
use Rattle.scan_expr.specs.Bound.{Bound, bound_conjuncts}
use Rattle.scan_partition.specs.Partable.{IsPartable}
use Rattle.scan_core.specs.BuilderData.{IsFilter, AreFilters}
use Rattle.scan_core.proofs.Conjuncts.{conjuncts_are_filters}

each_partable : (d : DataType) (es : List Bound) → AreFilters d es → AllByRecursion IsPartable es
each_partable d [] h = tt
each_partable d (e ∷ es) h = ((h.0).over.bound, each_partable d es h.1)

pub conjuncts_partable : (f : Bound) → IsFilter f.scope f → All IsPartable (bound_conjuncts f)
conjuncts_partable f h = All-from_recursion IsPartable (bound_conjuncts f) (each_partable f.scope (bound_conjuncts f) (conjuncts_are_filters f.scope f h))

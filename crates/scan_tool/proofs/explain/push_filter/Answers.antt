use Rattle.std.proofs.Common.{◌≡◌, rules, subst, sym, All}
use Rattle.scan_expr.specs.Bound.{bound_conjuncts}
use Rattle.scan_partition.specs.Partable.{IsPartable}
use Rattle.scan_tool.proofs.Conjuncts.{conjuncts_partable}
use Rattle.scan_tool.proofs.explain.push_filter.Goals as goal

pub push_where-requires : goal.push_where-requires
push_where-requires c =
    let these : c.as_slice.result.now ≡ bound_conjuncts c.args.filter.now = search rules in
    subst (All IsPartable) (sym these) (conjuncts_partable c.args.filter.now c.requires)

use Rattle.std.proofs.Common.{◌++◌, ◌==◌, true, refl, ap, arith}
use Rattle.std.proofs.Math.ListN.{drop_of_length-le}
use Rattle.scan_values.specs.Shown.{comma}
use Rattle.scan_expr.specs.Shown.{shown_names}
use Rattle.scan_values.proofs.Left.{begun, goes_on, ended}
use Rattle.scan_expr.proofs.Showing.{next_name}
use Rattle.scan_expr.proofs.shown.show_names.Goals as goal

pub loop-i-init : goal.loop-i-init
loop-i-init g c = λ p. begun g.W.Write.write_str_gives _ _ p

pub loop-i-preserved : goal.loop-i-preserved
loop-i-preserved g c =
    λ p.
    let so_far = c.loop-i.invariant p in
    goes_on g.W.Write.write_str_gives _ _ _ _ (comma (c.loop-i.i == 0) ++ c.index-names-i.result) _ _
    (next_name c.args.names.now c.loop-i.i c.index-names-i.result (omega arith) c.index-names-i.is)
    so_far (c.in_ok-show_name.ensures so_far.wrote.plain (refl {a = true}))

pub returns : goal.returns
returns g c =
    λ p ok.
    ended g.W.Write.write_str_gives _ _ _ _
    (ap (λ ns. shown_names (c.loop-i.i == 0) ns) (drop_of_length-le c.args.names.now (omega arith)))
    (c.loop-i.invariant p)

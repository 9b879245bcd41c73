use Rattle.std.proofs.Common.{◌++◌, ◌+◌, ◌*◌, ◌<◌, true, refl, ap, arith, rules}
use Rattle.std.specs.Prelude.{codes}
use Rattle.std.proofs.Math.ListN.{drop_of_length-le}
use Rattle.std.proofs.Output.{has_written_of_eq}
use Rattle.scan_values.proofs.Left.{begun, goes_on, ended}
use Rattle.scan_layout.specs.Layout.{nodes, layout_size, nodes_size}
use Rattle.scan_layout.specs.LayoutView.{layouts_of}
use Rattle.scan_layout.specs.Shown.{indent, shown_layout, shown_nodes}
use Rattle.scan_layout.proofs.Showing.{next_child}
use Rattle.scan_layout.proofs.shown.+show.Goals as goal

pub show_nodes-show_child-requires : goal.show_nodes-show_child-requires
show_nodes-show_child-requires g t c =
    let e = (next_child c.args.depth c.args.children.now c.loop-child.child-index c.child-item.result (omega arith) c.child-item.is).0 in
    let smaller : 3 * layout_size (c.child-item.result).value + 1 < 3 * nodes_size (nodes (layouts_of c.args.children.now)) + 2 = omega (arith, e) in
    search rules

pub show_nodes-loop-child-init : goal.show_nodes-loop-child-init
show_nodes-loop-child-init g t c = λ p. begun g.W.Write.write_str_gives _ _ p

pub show_nodes-loop-child-preserved : goal.show_nodes-loop-child-preserved
show_nodes-loop-child-preserved g t c =
    λ p.
    let so_far = c.loop-child.invariant p in
    goes_on g.W.Write.write_str_gives _ _ _ _ (codes "\n" ++ (indent c.args.depth ++ shown_layout c.args.depth (c.child-item.result).value)) _ _
    (next_child c.args.depth c.args.children.now c.loop-child.child-index c.child-item.result (omega arith) c.child-item.is).1
    so_far (has_written_of_eq g.W.Write.write_str_gives _ _ _ _
    (ap (λ l. codes "\n" ++ (indent c.args.depth ++ shown_layout c.args.depth l)) c.deref.ensures) (c.in_ok-show_child.ensures so_far.wrote.plain (refl {a = true})))

pub show_nodes-returns : goal.show_nodes-returns
show_nodes-returns g t c =
    λ p ok.
    ended g.W.Write.write_str_gives _ _ _ _ (ap (λ rs. shown_nodes c.args.depth (nodes (layouts_of rs))) (drop_of_length-le c.args.children.now (omega arith))) (c.loop-child.invariant p)

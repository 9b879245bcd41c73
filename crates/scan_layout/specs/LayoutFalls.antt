-- The children of a layout are smaller than it.
use Rattle.std.specs.Prelude.{◌+◌, ◌≤◌, max, List, [], ◌∷◌}
use Rattle.std.proofs.Common.{arith}
use denote.Param.Weighed.{most}
use Rattle.std.specs.declared.alloc.Global.{Global}
use Rattle.std.specs.declared.rc.Rc.{Rc}
use Rattle.scan_layout.specs.Layout.{Layout, nodes, layout_size, nodes_size}
use Rattle.scan_layout.specs.LayoutView.{layouts_of}

pub most_le_nodes_size : (rs : List (Rc Layout Global)) → max (most (λ r. layout_size r.value + 1) rs) 0 ≤ nodes_size (nodes (layouts_of rs))
most_le_nodes_size [] = omega arith
most_le_nodes_size (r ∷ rs) = omega (arith, most_le_nodes_size rs)

-- The children of a layout are smaller than it.
use Rattle.std.proofs.Common.{ℕ, zero, suc, ◌<◌, List, [], ◌∷◌, length, get_or, arith}
use Rattle.std.specs.declared.alloc.Global.{Global}
use Rattle.std.specs.declared.rc.Rc.{Rc}
use Rattle.scan_layout.specs.Layout.{Layout, nodes, layout_size, nodes_size}
use Rattle.scan_layout.specs.LayoutView.{layouts_of}

pub child_below : (rs : List (Rc Layout Global)) (i : ℕ) (d : Rc Layout Global) → i < length rs → layout_size (get_or rs i d).value < nodes_size (nodes (layouts_of rs))
child_below [] i d h = absurd (omega arith)
child_below (r ∷ rs) zero d h = omega arith
child_below (r ∷ rs) (suc i) d h = let h' : i < length rs = omega arith in omega (arith, child_below rs i d h')

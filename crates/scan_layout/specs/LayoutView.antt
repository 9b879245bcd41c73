-- The layouts that shared nodes are.
use Rattle.std.specs.Prelude.{List, map}
use Rattle.std.specs.declared.alloc.Global.{Global}
use Rattle.std.specs.declared.rc.Rc.{Rc}
use Rattle.scan_layout.specs.Layout.{Layout}

abbrev pub layouts_of : List (Rc Layout Global) → List Layout
layouts_of rs = map (λ r. r.value) rs

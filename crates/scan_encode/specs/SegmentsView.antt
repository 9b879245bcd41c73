-- Segments, as contracts see them.
use Rattle.std.specs.Prelude.{ℕ, List, map}
use Rattle.std.specs.declared.alloc.Global.{Global}
use Rattle.std.specs.declared.vec.Vec.{Vec}

abbrev pub bytes_of : List (Vec ℕ Global) → List (List ℕ)
bytes_of vs = map (λ v. v.items) vs

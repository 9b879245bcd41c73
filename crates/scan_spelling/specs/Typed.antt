-- The values that typed cells are: of each valid slot what it holds, else null.
use Rattle.std.specs.Prelude.{Bool, cond, List, [], ◌∷◌}
use Rattle.scan_values.specs.Val.{Val, null_val}

abbrev pub typed : {A : Type 0} → (A → Val) → List A → List Bool → List Val
typed f [] bs = []
typed f (x ∷ xs) [] = []
typed f (x ∷ xs) (b ∷ bs) = cond b (f x) null_val ∷ typed f xs bs

-- Numbers one after another.
use Rattle.std.specs.Prelude.{ℕ, zero, suc, pos, List, [], ◌∷◌}
use Rattle.scan_values.specs.Val.{Val, int_val}

abbrev pub numbers_from : ℕ → ℕ → List Val
numbers_from k zero = []
numbers_from k (suc n) = int_val (pos k) ∷ numbers_from (suc k) n

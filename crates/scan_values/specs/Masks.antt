-- Masks, as lists of truth values.
use Rattle.std.specs.Prelude.{ℕ, zero, suc, Bool, true, false, ◌&&◌, List, [], ◌∷◌, Option, Some, None, count_by}
use Rattle.scan_values.specs.Val.{Val, null_val}

abbrev pub true_count : List Bool → ℕ
true_count = count_by (λ b. b)

-- the place of the last row that is true
abbrev pub later : Bool → Option ℕ → Option ℕ
later b (Some i) = Some (suc i)
later true None = Some 0
later false None = None

abbrev pub last_true : List Bool → Option ℕ
last_true [] = None
last_true (b ∷ bs) = later b (last_true bs)

-- the rows that are true in both
abbrev pub both_true : List Bool → List Bool → List Bool
both_true [] cs = []
both_true (b ∷ bs) [] = []
both_true (b ∷ bs) (c ∷ cs) = (b && c) ∷ both_true bs cs

-- of the true rows only the first n stay true
abbrev pub limited : ℕ → List Bool → List Bool
limited n [] = []
limited n (false ∷ bs) = false ∷ limited n bs
limited zero (true ∷ bs) = false ∷ limited zero bs
limited (suc n) (true ∷ bs) = true ∷ limited n bs

-- the k-th true row stays true where the k-th of the others is true
abbrev pub by_rank : List Bool → List Bool → List Bool
by_rank [] cs = []
by_rank (false ∷ bs) cs = false ∷ by_rank bs cs
by_rank (true ∷ bs) [] = false ∷ by_rank bs []
by_rank (true ∷ bs) (c ∷ cs) = c ∷ by_rank bs cs

-- the values, null where the mask is false
abbrev pub null_where_false : List Bool → List Val → List Val
null_where_false [] vs = []
null_where_false (b ∷ bs) [] = []
null_where_false (true ∷ bs) (v ∷ vs) = v ∷ null_where_false bs vs
null_where_false (false ∷ bs) (v ∷ vs) = null_val ∷ null_where_false bs vs

-- Masks that are all true.
use Rattle.std.proofs.Common.{◌≡◌, Bool, true, false, List, [], ◌∷◌, length, refl, ap, arith}
use Rattle.std.specs.List.{list_all, items_where_true}
use Rattle.scan_values.specs.Masks.{true_count, by_rank}
use Rattle.scan_values.proofs.MaskLemmas.{true_count-true, true_count-false}

abbrev pub AllTrue : List Bool → Type 0
AllTrue bs = list_all (λ b. b) bs ≡ true

-- under a mask that is all true the others stand as they are
pub by_rank-all : (bs cs : List Bool) → AllTrue bs → length cs ≡ true_count bs → by_rank bs cs ≡ cs
by_rank-all [] [] h e = refl
by_rank-all [] (c ∷ cs) h e = absurd (omega arith)
by_rank-all (true ∷ bs) [] h e = absurd (omega (arith, true_count-true bs))
by_rank-all (true ∷ bs) (c ∷ cs) h e = ap (λ ds. c ∷ ds) (by_rank-all bs cs h (omega (arith, true_count-true bs)))
by_rank-all (false ∷ bs) cs h e = cc

-- others that are all true take nothing away
pub by_rank-kept : (bs cs : List Bool) → AllTrue cs → length cs ≡ true_count bs → by_rank bs cs ≡ bs
by_rank-kept [] cs h e = refl
by_rank-kept (false ∷ bs) cs h e = ap (λ ds. false ∷ ds) (by_rank-kept bs cs h (omega (arith, true_count-false bs)))
by_rank-kept (true ∷ bs) [] h e = absurd (omega (arith, true_count-true bs))
by_rank-kept (true ∷ bs) (true ∷ cs) h e = ap (λ ds. true ∷ ds) (by_rank-kept bs cs h (omega (arith, true_count-true bs)))
by_rank-kept (true ∷ bs) (false ∷ cs) h e = cc

pub where_true-all : {A : Type 0} (bs : List Bool) (xs : List A) → AllTrue bs → length bs ≡ length xs → items_where_true bs xs ≡ xs
where_true-all [] [] h e = refl
where_true-all [] (x ∷ xs) h e = absurd (omega arith)
where_true-all (b ∷ bs) [] h e = absurd (omega arith)
where_true-all (true ∷ bs) (x ∷ xs) h e = ap (λ ys. x ∷ ys) (where_true-all bs xs h (omega arith))
where_true-all (false ∷ bs) (x ∷ xs) h e = cc

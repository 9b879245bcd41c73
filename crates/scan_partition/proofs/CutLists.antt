-- Lists of lent cuts.
use Rattle.std.proofs.Common.{◌≡◌, ℕ, zero, suc, List, [], ◌∷◌, ◌++◌, length, map, take, refl, ap, sym, ◌∙◌}
use Rattle.scan_expr.specs.Expr.{Expr}
use Rattle.scan_partition.specs.Items.{one, use_of}
use Rattle.scan_partition.specs.Partition.{Cut, cuts}
use Rattle.scan_partition.specs.Soles.{item_seen, cut_seen}
use Rattle.scan_partition.specs.declared.cuts.Cut.{Cut as LentCut}
use Rattle.scan_partition.proofs.Uses.{cuts_of_one}

pub map_one_more : {A B : Type 0} (f : A → B) (xs : List A) (x : A) → map f (xs ++ x ∷ []) ≡ map f xs ++ f x ∷ []
map_one_more f [] x = refl
map_one_more f (y ∷ ys) x = ap (λ zs. f y ∷ zs) (map_one_more f ys x)

pub pushed_cut : (old new : List LentCut) (c : LentCut) (e : Expr) → new ≡ old ++ c ∷ [] → use_of c.expr.now.expr ≡ one (item_seen c.item) → map cut_seen new ≡ map cut_seen old ++ cuts c.expr.now.expr
pushed_cut old new c e h u = ap (map cut_seen) h ∙ map_one_more cut_seen old c ∙ ap (λ cs. map cut_seen old ++ cs) (sym (cuts_of_one c.expr.now.expr (item_seen c.item) u))

map_take : {A B : Type 0} (f : A → B) (n : ℕ) (xs : List A) → map f (take n xs) ≡ take n (map f xs)
map_take f zero xs = refl
map_take f (suc n) [] = refl
map_take f (suc n) (x ∷ xs) = ap (λ ys. f x ∷ ys) (map_take f n xs)

take_first : {A B : Type 0} (f : A → B) (xs : List A) (ys : List B) → take (length xs) (map f xs ++ ys) ≡ map f xs
take_first f [] ys = refl
take_first f (x ∷ xs) ys = ap (λ zs. f x ∷ zs) (take_first f xs ys)

-- what was found of the parts, dropped for the whole
pub cut_whole : (old mid cut new : List LentCut) (n : ℕ) (cs : List Cut) (c : LentCut) (e : Expr) → n ≡ length old → map cut_seen mid ≡ map cut_seen old ++ cs → cut ≡ take n mid → new ≡ cut ++ c ∷ [] → use_of c.expr.now.expr ≡ one (item_seen c.item)
    → map cut_seen new ≡ map cut_seen old ++ cuts c.expr.now.expr
cut_whole old mid cut new n cs c e l m t p u =
    pushed_cut cut new c e p u
    ∙ ap (λ (ds : List Cut). ds ++ cuts c.expr.now.expr)
    (ap (map cut_seen) t ∙ map_take cut_seen n mid ∙ (λ i. take (l i) (m i)) ∙ take_first cut_seen old cs)

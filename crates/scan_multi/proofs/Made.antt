-- A list that is made of another one, item by item.
use Rattle.std.proofs.Common.{◌≡◌, List, [], ◌∷◌, ◌++◌, map, append_assoc, sym, ap, ◌∙◌}

pub one_more : {A B : Type 0} (f : A → B) (made made' : List B) (before rest : List A) (all : List B) (x : A) (y : B)
    → before ≡ x ∷ rest → made' ≡ made ++ y ∷ [] → y ≡ f x → made ++ map f before ≡ all → made' ++ map f rest ≡ all
one_more f made made' before rest all x y e p q inv =
    ap (λ ys. ys ++ map f rest) p ∙ append_assoc made (y ∷ []) (map f rest) ∙ ap (λ z. made ++ z ∷ map f rest) q
    ∙ ap (λ xs. made ++ map f xs) (sym e) ∙ inv

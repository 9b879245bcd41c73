-- Columns picked by their places, and the structs that a pack over columns is.
use Rattle.std.proofs.Common.{◌≡◌, ℕ, zero, suc, ◌+◌, ◌<◌, ◌≤◌, Bool, false, ◌||◌, nat_eq, List, [], ◌∷◌, ◌++◌, map, drop, length, get_or, set, refl, ap, sym, subst, ◌∙◌, arith, append_assoc}
use Rattle.std.specs.List.{list_any}
use Rattle.std.proofs.lemmas.Bool.{eqb-false}
use Rattle.std.proofs.lemmas.List.{length-append, length-map, append-nil, map-append, map-set, get_or-set_other, drop_more}
use Rattle.scan_values.specs.DataType.{DataType}
use Rattle.scan_values.specs.Val.{Val}
use Rattle.scan_expr.specs.Expr.{Expr}
use Rattle.scan_expr.specs.Bound.{Bound}
use Rattle.scan_columns.specs.declared.cells.Cells.{Cells}
use Rattle.scan_columns.specs.Cells.{vals_in}
use Rattle.scan_columns.specs.Nested.{AreLong}
use Rattle.scan_columns.specs.Evaluated.{value_in}
use Rattle.scan_columns.specs.Rows.{picked, AreBelow, beside, IsPlaced, IsFieldAt, AreColumnsOf, part_rows, bound_in}
use Rattle.scan_columns.proofs.Evaluation.{neither}
use Rattle.scan_columns.proofs.RowLemmas.{part_in, place_within, bound_long, parts_length}

-- ---- a place among so many
pub below_at : (n : ℕ) (ps : List ℕ) (k d : ℕ) → AreBelow n ps → k < length ps → get_or ps k d < n
below_at n [] k d h l = absurd (omega (arith, l))
below_at n (p ∷ ps) zero d h l = h.0
below_at n (p ∷ ps) (suc k) d h l = below_at n ps k d h.1 (omega (arith, l))

-- ---- a column that is moved out is at none of the later places
other_place : (cs : List Cells) (q : ℕ) (x : Cells) (p : ℕ) → nat_eq p q ≡ false → get_or (map vals_in (set cs q x)) p [] ≡ get_or (map vals_in cs) p []
other_place cs q x p h = ap (λ (z : List (List Val)). get_or z p []) (map-set vals_in cs q x) ∙ get_or-set_other (map vals_in cs) q p (vals_in x) [] (eqb-false p q h)

pub kept_places : (cs : List Cells) (q : ℕ) (x : Cells) (ps : List ℕ) → list_any (λ y. nat_eq y q) ps ≡ false → picked (map vals_in (set cs q x)) ps ≡ picked (map vals_in cs) ps
kept_places cs q x [] h = refl
kept_places cs q x (p ∷ ps) h =
    let both = neither (nat_eq p q) (list_any (λ y. nat_eq y q) ps) h in
    λ i. other_place cs q x p both.0 i ∷ kept_places cs q x ps both.1 i

-- ---- a loop that finds places
get_front : (xs ys : List (List Val)) (p : ℕ) → p < length xs → get_or (xs ++ ys) p [] ≡ get_or xs p []
get_front [] ys p l = absurd (omega (arith, l))
get_front (x ∷ xs) ys zero l = refl
get_front (x ∷ xs) ys (suc p) l = get_front xs ys p (omega (arith, l))

get_last : (xs : List (List Val)) (y : List Val) (p : ℕ) → p ≡ length xs → get_or (xs ++ (y ∷ [])) p [] ≡ y
get_last [] y zero e = refl
get_last [] y (suc p) e = absurd (omega (arith, e))
get_last (x ∷ xs) y zero e = absurd (omega (arith, e))
get_last (x ∷ xs) y (suc p) e = get_last xs y p (omega (arith, e))

front_picked : (xs ys : List (List Val)) (ps : List ℕ) → AreBelow (length xs) ps → picked (xs ++ ys) ps ≡ picked xs ps
front_picked xs ys [] h = refl
front_picked xs ys (p ∷ ps) h = λ i. get_front xs ys p h.0 i ∷ front_picked xs ys ps h.1 i

below_more : (m n : ℕ) (ps : List ℕ) (p : ℕ) → m ≤ n → AreBelow m ps → p < n → AreBelow n (ps ++ (p ∷ []))
below_more m n [] p h b l = (l, tt)
below_more m n (q ∷ ps) p h b l = (omega (arith, h, b.0), below_more m n ps p h b.1 l)

picked_more : (cs : List (List Val)) (ps : List ℕ) (p : ℕ) → picked cs (ps ++ (p ∷ [])) ≡ picked cs ps ++ (get_or cs p [] ∷ [])
picked_more cs [] p = refl
picked_more cs (q ∷ ps) p = λ i. get_or cs q [] ∷ picked_more cs ps p i

pub place_found : (f : Bound → List Val) (bs : List Bound) (k : ℕ) (b : Bound) (old new : List (List Val)) (ps more : List ℕ) (p : ℕ) → k < length bs → b ≡ get_or bs k b → IsPlaced old new p (f b) → more ≡ ps ++ (p ∷ [])
    → AreBelow (length old) ps → picked old ps ++ map f (drop k bs) ≡ map f bs → AreBelow (length new) more × (picked new more ++ map f (drop (k + 1) bs) ≡ map f bs)
place_found f bs k b old new ps more p l e at m below inv =
    let longer : length new ≡ length old + length at.0 = ap length at.1 ∙ length-append old at.0 in
    let before : picked new ps ≡ picked old ps = (λ i. picked (at.1 i) ps) ∙ front_picked old at.0 ps below in
    let all : AreBelow (length new) (ps ++ (p ∷ [])) = below_more (length old) (length new) ps p (omega (arith, longer)) below at.2 in
    let rest = map f (drop (k + 1) bs) in
    let same : picked new (ps ++ (p ∷ [])) ++ rest ≡ map f bs =
    (λ i. picked_more new ps p i ++ rest) ∙ (λ i. (before i ++ (at.3 i ∷ [])) ++ rest) ∙ append_assoc (picked old ps) (f b ∷ []) rest
    ∙ (λ i. picked old ps ++ (f (e i) ∷ rest)) ∙ ap (λ (r : List Bound). picked old ps ++ map f r) (sym (drop_more bs k b l)) ∙ inv in
    (subst (λ (z : List ℕ). AreBelow (length new) z) (sym m) all, subst (λ (z : List ℕ). picked new z ++ rest ≡ map f bs) (sym m) same)

pub next_none : (f : Bound → Bool) (bs : List Bound) (k : ℕ) (b : Bound) → k < length bs → b ≡ get_or bs k b → f b ≡ false → list_any f (drop k bs) ≡ list_any f (drop (k + 1) bs)
next_none f bs k b l e h = ap (list_any f) (drop_more bs k b l) ∙ (λ i. f (sym e i) || list_any f (drop (k + 1) bs)) ∙ (λ i. h i || list_any f (drop (k + 1) bs))

-- ---- where the values of a part stand
pub placed_field : (s : DataType) (e : Expr) (p n : ℕ) (cs ms : List Cells) → IsFieldAt s e p → AreColumnsOf s n (map vals_in cs) → IsPlaced (beside cs ms) (beside cs ms) p (map (value_in s e) (part_rows (map vals_in cs) n))
placed_field s e p n cs ms at over =
    let l : p < length (map vals_in cs) = place_within s e p n (map vals_in cs) at over in
    let within : p < length (beside cs ms) = omega (arith, l, length-append (map vals_in cs) (map vals_in ms)) in
    ([], sym (append-nil (beside cs ms)), within, get_front (map vals_in cs) (map vals_in ms) p l ∙ part_in s e p n (map vals_in cs) at over.1 l)

pub placed_last : (cs ms more : List Cells) (c : Cells) (p : ℕ) (vs : List Val) → more ≡ ms ++ (c ∷ []) → p ≡ length cs + length ms → vals_in c ≡ vs → IsPlaced (beside cs ms) (beside cs more) p vs
placed_last cs ms more c p vs m e v =
    let one : List (List Val) = vals_in c ∷ [] in
    let longer : beside cs more ≡ beside cs ms ++ one = ap (λ (z : List Cells). map vals_in cs ++ map vals_in z) m ∙ ap (λ z. map vals_in cs ++ z) (map-append vals_in ms (c ∷ [])) ∙ sym (append_assoc (map vals_in cs) (map vals_in ms) one) in
    let count : length (beside cs ms) ≡ length cs + length ms = length-append (map vals_in cs) (map vals_in ms) ∙ (λ i. length-map cs vals_in i + length-map ms vals_in i) in
    let place : p ≡ length (beside cs ms) = e ∙ sym count in
    let size : length (beside cs more) ≡ length (beside cs ms) + 1 = ap length longer ∙ length-append (beside cs ms) one in
    (one, longer, omega (arith, place, size), (λ i. get_or (longer i) p []) ∙ get_last (beside cs ms) (vals_in c) p place ∙ v)

-- ---- the structs of what was picked
pub picked_long : (columns : List (List Val)) (n : ℕ) (bs : List Bound) (made : List (List Val)) → made ≡ map (bound_in (part_rows columns n)) bs → AreLong n made
picked_long columns n bs made e =
    subst (λ (k : ℕ). AreLong k made) (parts_length columns n) (subst (λ (z : List (List Val)). AreLong (length (part_rows columns n)) z) (sym e) (bound_long (part_rows columns n) bs))

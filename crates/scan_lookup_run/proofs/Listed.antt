-- What lists of places have among them.
use Rattle.std.proofs.Common.{◌≡◌, ℕ, zero, suc, ◌==◌, Bool, true, false, List, [], ◌∷◌, ◌++◌, map, filter, flat_map, slice_get, Some, cond, refl, sym, subst, arith}
use Rattle.std.specs.Prelude.{All, Contains}
use Rattle.std.proofs.lemmas.Bool.{eqb-true}
use Rattle.std.proofs.lemmas.List.Elements.{All-nil, All-append}
use Rattle.scan_places.specs.declared.place.Place.{Place}

pub later : {A : Type 0} (y : A) (ys : List A) (x : A) → Contains ys x → Contains (y ∷ ys) x
later y ys x (k, lt, e) = (suc k, omega (arith, lt), e)

in_left : {A : Type 0} (xs ys : List A) (x : A) → Contains xs x → Contains (xs ++ ys) x
in_left [] ys x (k, lt, e) = absurd (omega (arith, lt))
in_left (z ∷ xs) ys x (zero, lt, e) = (0, omega arith, e)
in_left (z ∷ xs) ys x (suc k, lt, e) = later z (xs ++ ys) x (in_left xs ys x (k, omega (arith, lt), e))

in_right : {A : Type 0} (xs ys : List A) (x : A) → Contains ys x → Contains (xs ++ ys) x
in_right [] ys x n = n
in_right (z ∷ xs) ys x n = later z (xs ++ ys) x (in_right xs ys x n)

-- of one list among others
pub in_joined : {A : Type 0} (xss : List (List A)) (xs : List A) (x : A) → Contains xss xs → Contains xs x → Contains (flat_map (λ ys. ys) xss) x
in_joined [] xs x (k, lt, e) n = absurd (omega (arith, lt))
in_joined (ys ∷ xss) xs x (zero, lt, e) n = in_left ys (flat_map (λ zs. zs) xss) x (subst (λ zs. Contains zs x) (sym e) n)
in_joined (ys ∷ xss) xs x (suc k, lt, e) n = in_right ys (flat_map (λ zs. zs) xss) x (in_joined xss xs x (k, omega (arith, lt), e) n)

pub all_joined : {A : Type 0} (P : A → Type 0) (xss : List (List A)) → All (All P) xss → All P (flat_map (λ ys. ys) xss)
all_joined P [] h = All-nil P
all_joined P (xs ∷ xss) h = All-append P xs (flat_map (λ ys. ys) xss) (h 0 xs (omega arith)) (all_joined P xss (λ k d lt. h (suc k) d (omega (arith, lt))))

pub in_slice : {A : Type 0} (xs : List A) (i : ℕ) (x : A) → slice_get xs i ≡ Some x → Contains xs x
in_slice [] i x e = cc
in_slice (y ∷ ys) zero x e = let same : y ≡ x = cc in (0, omega arith, same)
in_slice (y ∷ ys) (suc i) x e = later y ys x (in_slice ys i x e)

-- a place among these that names a file
pub record Names (ps : List Place) (file : ℕ) : Type 0 where
  pub place : Place
  pub among : Contains ps place
  pub file_is : place.file ≡ file

pub named_file : (ps : List Place) (file : ℕ) → Contains (map (λ (p : Place). p.file) ps) file → Names ps file
named_file [] file (k, lt, e) = absurd (omega (arith, lt))
named_file (p ∷ ps) file (zero, lt, e) = record { place = p; among = (0, omega arith, refl); file_is = e }
named_file (p ∷ ps) file (suc k, lt, e) =
    let r = named_file ps file (k, omega (arith, lt), e) in
    record { place = r.place; among = later p ps r.place r.among; file_is = r.file_is }

-- one that names a file and a row
pub record NamesRow (ps : List Place) (file row : ℕ) : Type 0 where
  pub place : Place
  pub among : Contains ps place
  pub file_is : place.file ≡ file
  pub row_is : place.row ≡ row

abbrev rows_in : ℕ → List Place → List ℕ
rows_in file ps = map (λ (p : Place). p.row) (filter (λ (p : Place). p.file == file) ps)

row_here : (p : Place) (ps : List Place) (file row : ℕ) (b : Bool) → (p.file == file) ≡ b → (Contains (rows_in file ps) row → NamesRow ps file row)
    → Contains (map (λ (q : Place). q.row) (cond b (p ∷ filter (λ (q : Place). q.file == file) ps) (filter (λ (q : Place). q.file == file) ps))) row → NamesRow (p ∷ ps) file row
row_here p ps file row true is rest (zero, lt, e) = record { place = p; among = (0, omega arith, refl); file_is = eqb-true p.file file is; row_is = e }
row_here p ps file row true is rest (suc k, lt, e) =
    let r = rest (k, omega (arith, lt), e) in
    record { place = r.place; among = later p ps r.place r.among; file_is = r.file_is; row_is = r.row_is }
row_here p ps file row false is rest n =
    let r = rest n in
    record { place = r.place; among = later p ps r.place r.among; file_is = r.file_is; row_is = r.row_is }

pub named_row : (ps : List Place) (file row : ℕ) → Contains (rows_in file ps) row → NamesRow ps file row
named_row [] file row (k, lt, e) = absurd (omega (arith, lt))
named_row (p ∷ ps) file row n = row_here p ps file row (p.file == file) refl (named_row ps file row) n

-- One list and one struct, of the cells that hold them.
use Rattle.std.proofs.Common.{◌≡◌, ℕ, zero, suc, ◌+◌, ◌-◌, ◌<◌, ◌≤◌, Bool, true, false, cond, List, [], ◌∷◌, map, take, drop, length, get_or, refl, ap, sym, ◌∙◌, arith, subst}
use Rattle.std.specs.Prelude.{slice_get, slice_range, Some, All}
use Rattle.std.specs.List.{list_all}
use Rattle.std.proofs.lemmas.List.{length-drop}
use Rattle.std.proofs.lemmas.List.Elements.{All-nil, All-cons}
use Rattle.scan_values.specs.Val.{Val, null_val}
use Rattle.scan_columns.specs.declared.cells.Cells.{Cells}
use Rattle.scan_columns.specs.Cells.{vals_in, depth_in, deepest}
use Rattle.scan_columns.specs.Typed.{typed}
use Rattle.scan_columns.specs.Nested.{Deep, of_deep, cuts, total, list_of, struct_of, heads, rows_of, AreLong}
use Rattle.scan_columns.specs.Access.{IsListAt, IsStructAt, AreFieldsIn}
use Rattle.scan_columns.proofs.TypedLemmas.{typed_get}
use Rattle.scan_columns.proofs.NestedLemmas.{lists_length, lists_count, structs_length, structs_count, rows_length, shorter}

-- ---- lists
drop_none : (k : ℕ) → drop {A = Val} k [] ≡ []
drop_none zero = refl
drop_none (suc k) = refl

drop_on : (n k : ℕ) (es : List Val) → drop (n + k) es ≡ drop k (drop n es)
drop_on zero k es = let e : 0 + k ≡ k = omega arith in ap (λ m. drop m es) e
drop_on (suc n) k [] = drop_none (suc n + k) ∙ sym (drop_none k)
drop_on (suc n) k (x ∷ es) = let e : suc n + k ≡ suc (n + k) = omega arith in ap (λ m. drop m (x ∷ es)) e ∙ drop_on n k es

first_range : (n : ℕ) (es : List Val) → take n es ≡ slice_range es 0 (n + 0)
first_range n es = let e : n ≡ n + 0 - 0 = omega arith in ap (λ m. take m es) e

range_on : (n a b : ℕ) (es : List Val) → slice_range (drop n es) a b ≡ slice_range es (n + a) (n + b)
range_on n a b es =
    let e : b - a ≡ (n + b) - (n + a) = omega arith in
    ap (λ m. take m (drop a (drop n es))) e ∙ ap (take ((n + b) - (n + a))) (sym (drop_on n a es))

cut_at : (ns : List ℕ) (es : List Val) (i : ℕ) → i < length ns → get_or (cuts ns es) i [] ≡ slice_range es (total (take i ns)) (total (take (suc i) ns))
cut_at [] es i h = absurd (omega (arith, h))
cut_at (n ∷ ns) es zero h = first_range n es
cut_at (n ∷ ns) es (suc i) h = cut_at ns (drop n es) i (omega (arith, h)) ∙ range_on n (total (take i ns)) (total (take (suc i) ns)) es

cuts_many : (ns : List ℕ) (es : List Val) → length (cuts ns es) ≡ length ns
cuts_many [] es = refl
cuts_many (n ∷ ns) es = λ i. suc (cuts_many ns (drop n es) i)

total_rises : (ns : List ℕ) (i : ℕ) → total (take i ns) ≤ total (take (suc i) ns)
total_rises [] zero = omega arith
total_rises [] (suc i) = omega arith
total_rises (n ∷ ns) zero = omega arith
total_rises (n ∷ ns) (suc i) = omega (arith, total_rises ns i)

total_most : (ns : List ℕ) (i : ℕ) → total (take i ns) ≤ total ns
total_most ns zero = omega arith
total_most [] (suc i) = omega arith
total_most (n ∷ ns) (suc i) = omega (arith, total_most ns i)

pub list_there : (elements : Cells) (ns : List ℕ) (bs : List Bool) (now : Deep) (i from to : ℕ) → of_deep (depth_in elements) (typed list_of (cuts ns (vals_in elements)) bs) ≡ now
    → length bs ≡ length ns → total ns ≡ length (vals_in elements) → i < length ns → get_or bs i false ≡ true → from ≡ total (take i ns) → to ≡ total (take (i + 1) ns)
    → IsListAt now i elements from to
list_there elements ns bs now i from to is even whole lt there f t =
    let es = vals_in elements in
    let next : i + 1 ≡ suc i = omega arith in
    let end : to ≡ total (take (suc i) ns) = t ∙ ap (λ k. total (take k ns)) next in
    let long = cuts_many ns es in
    let one : Some (list_of (slice_range es (total (take i ns)) (total (take (suc i) ns)))) ≡ slice_get (typed list_of (cuts ns es) bs) i =
    (λ j. Some (list_of (sym (cut_at ns es i lt) j))) ∙ (λ j. Some (cond (sym there j) (list_of (get_or (cuts ns es) i [])) null_val))
    ∙ typed_get list_of (cuts ns es) bs i [] false (omega (arith, long)) (even ∙ sym long) in
    subst (λ (d : Deep). IsListAt d i elements from to) is
    (record {
      depth = refl;
      ordered = omega (arith, f, end, total_rises ns i);
      within = omega (arith, end, whole, total_most ns (suc i));
      is = (λ j. Some (list_of (slice_range es (f j) (end j)))) ∙ one;
    })

pub list_lost : (elements : Cells) (ns : List ℕ) (bs : List Bool) (now : Deep) (i : ℕ) → of_deep (depth_in elements) (typed list_of (cuts ns (vals_in elements)) bs) ≡ now
    → length bs ≡ length ns → i < length ns → get_or bs i false ≡ false → Some null_val ≡ slice_get now.items i
list_lost elements ns bs now i is even lt there =
    let es = vals_in elements in
    let long = cuts_many ns es in
    subst (λ (d : Deep). Some null_val ≡ slice_get d.items i) is
    ((λ j. Some (cond (sym there j) (list_of (get_or (cuts ns es) i [])) null_val)) ∙ typed_get list_of (cuts ns es) bs i [] false (omega (arith, long)) (even ∙ sym long))

-- ---- structs
first_row : (n : ℕ) (cs : List (List Val)) → AreLong (suc n) cs → heads cs ≡ map (λ c. get_or c 0 null_val) cs
first_row n [] h = refl
first_row n ([] ∷ cs) h = absurd (omega (arith, h.0))
first_row n ((v ∷ vs) ∷ cs) h = λ i. v ∷ first_row n cs h.1 i

next_row : (n i : ℕ) (cs : List (List Val)) → AreLong (suc n) cs → map (λ c. get_or c i null_val) (map (drop 1) cs) ≡ map (λ c. get_or c (suc i) null_val) cs
next_row n i [] h = refl
next_row n i ([] ∷ cs) h = absurd (omega (arith, h.0))
next_row n i ((v ∷ vs) ∷ cs) h = λ j. get_or vs i null_val ∷ next_row n i cs h.1 j

row_at : (n i : ℕ) (cs : List (List Val)) → AreLong n cs → i < n → get_or (rows_of n cs) i [] ≡ map (λ c. get_or c i null_val) cs
row_at zero i cs h lt = absurd (omega (arith, lt))
row_at (suc n) zero cs h lt = first_row n cs h
row_at (suc n) (suc i) cs h lt = row_at n i (map (drop 1) cs) (shorter n cs h) (omega (arith, lt)) ∙ next_row n i cs h

of_cells : (i : ℕ) (cs : List Cells) → map (λ c. get_or c i null_val) (map vals_in cs) ≡ map (λ c. get_or (vals_in c) i null_val) cs
of_cells i [] = refl
of_cells i (c ∷ cs) = λ j. get_or (vals_in c) i null_val ∷ of_cells i cs j

long_each : (n i : ℕ) (cs : List Cells) → AreLong n (map vals_in cs) → i < n → All (λ c. i < length (vals_in c)) cs
long_each n i [] h lt = All-nil (λ (c : Cells). i < length (vals_in c))
long_each n i (c ∷ cs) h lt = All-cons (λ (c : Cells). i < length (vals_in c)) c cs (omega (arith, h.0)) (long_each n i cs h.1 lt)

pub struct_there : (fields : List Cells) (bs : List Bool) (now : Deep) (i : ℕ) → of_deep (deepest fields) (typed struct_of (rows_of (length bs) (map vals_in fields)) bs) ≡ now
    → AreLong (length bs) (map vals_in fields) → i < length bs → get_or bs i false ≡ true → IsStructAt now i fields
struct_there fields bs now i is even lt there =
    let cs = map vals_in fields in
    let long = rows_length (length bs) cs in
    subst (λ (d : Deep). IsStructAt d i fields) is
    (record {
      depth = refl;
      long = long_each (length bs) i fields even lt;
      is = (λ j. Some (struct_of (sym (row_at (length bs) i cs even lt ∙ of_cells i fields) j)))
          ∙ (λ j. Some (cond (sym there j) (struct_of (get_or (rows_of (length bs) cs) i [])) null_val))
          ∙ typed_get struct_of (rows_of (length bs) cs) bs i [] false (omega (arith, long)) (sym long);
    })

pub struct_lost : (fields : List Cells) (bs : List Bool) (now : Deep) (i : ℕ) → of_deep (deepest fields) (typed struct_of (rows_of (length bs) (map vals_in fields)) bs) ≡ now
    → i < length bs → get_or bs i false ≡ false → Some null_val ≡ slice_get now.items i
struct_lost fields bs now i is lt there =
    let cs = map vals_in fields in
    let long = rows_length (length bs) cs in
    subst (λ (d : Deep). Some null_val ≡ slice_get d.items i) is
    ((λ j. Some (cond (sym there j) (struct_of (get_or (rows_of (length bs) cs) i [])) null_val)) ∙ typed_get struct_of (rows_of (length bs) cs) bs i [] false (omega (arith, long)) (sym long))

-- ---- no struct is null
all_there : {A : Type 0} (f : A → Val) (xs : List A) (bs : List Bool) → length bs ≡ length xs → list_all (λ b. b) bs ≡ true → typed f xs bs ≡ map f xs
all_there f [] bs h e = refl
all_there f (x ∷ xs) [] h e = absurd (omega (arith, h))
all_there f (x ∷ xs) (true ∷ bs) h e = λ i. f x ∷ all_there f xs bs (omega (arith, h)) e i
all_there f (x ∷ xs) (false ∷ bs) h e = cc

pub fields_there : (fields : List Cells) (bs : List Bool) (now : Deep) → of_deep (deepest fields) (typed struct_of (rows_of (length bs) (map vals_in fields)) bs) ≡ now
    → AreLong (length bs) (map vals_in fields) → list_all (λ b. b) bs ≡ true → AreFieldsIn now fields
fields_there fields bs now is even all =
    let cs = map vals_in fields in
    let count : length bs ≡ length (typed struct_of (rows_of (length bs) cs) bs) = sym (structs_length cs bs) in
    subst (λ (d : Deep). AreFieldsIn d fields) is
    (record {
      long = subst (λ n. AreLong n cs) count even;
      rows = all_there struct_of (rows_of (length bs) cs) bs (sym (rows_length (length bs) cs)) all ∙ (λ j. map struct_of (rows_of (count j) cs));
    })

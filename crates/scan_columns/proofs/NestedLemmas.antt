-- Lists and rows, kept as the cells within them.
use Rattle.std.specs.Prelude.{◌≡◌, ℕ, zero, suc, ◌+◌, ◌-◌, ◌≤◌, ◌<◌, Bool, true, false, not, List, [], ◌∷◌, ◌++◌, length, map, take, drop, replicate, slice_range, refl}
use Rattle.std.specs.List.{items_where_true}
use Rattle.std.proofs.Common.{arith, get_or, ◌∙◌, sym, ap}
use Rattle.std.proofs.lemmas.List.{length-append, length-replicate, length-take, length-drop}
use Rattle.scan_values.specs.Val.{Val, marked}
use Rattle.scan_values.specs.Masks.{both_true, null_where_false}
use Rattle.scan_expr.specs.Eval.{is_nothing}
use Rattle.scan_spelling.proofs.Cutting.{cuts_append}
pub use Rattle.scan_spelling.proofs.Cutting.{sizes_length, rises_sums, sizes_sums, sizes_onto, rises_onto, total_append, cuts_length}
use Rattle.scan_spelling.specs.LeafColumns.{is_here}
use Rattle.scan_columns.specs.Typed.{typed}
use Rattle.scan_columns.specs.Nested.{Deep, of_deep, list_of, struct_of, sizes, sums, Rises, total, cuts, spread, heads, rows_of, AreLong}
use Rattle.scan_columns.proofs.TypedLemmas.{typed_length, typed_where, typed_slice, typed_append, typed_mask, typed_nulls, typed_here, where_lengths, both_lengths}

-- ---- where lists end
pub start_at : (s : ℕ) (ks : List ℕ) (i d : ℕ) → Rises s ks → i < length ks → get_or ks i d ≡ s + total (take (suc i) (sizes s ks))
start_at s [] i d r h = absurd (omega (arith, h))
start_at s (k ∷ ks) zero d r h = omega (arith, r.0)
start_at s (k ∷ ks) (suc i) d r h = omega (arith, r.0, start_at k ks i d r.1 (omega (arith, h)))

sizes_take : (s : ℕ) (ks : List ℕ) (i : ℕ) → take i (sizes s ks) ≡ sizes s (take i ks)
sizes_take s ks zero = refl
sizes_take s [] (suc i) = refl
sizes_take s (k ∷ ks) (suc i) = λ j. (k - s) ∷ sizes_take k ks i j

sizes_drop : (s t : ℕ) (ks : List ℕ) (i : ℕ) → Rises s ks → i ≤ length ks → t ≡ s + total (take i (sizes s ks)) → sizes t (drop i ks) ≡ drop i (sizes s ks)
sizes_drop s t ks zero r h e = let same : t ≡ s = omega (arith, e) in λ j. sizes (same j) ks
sizes_drop s t [] (suc i) r h e = refl
sizes_drop s t (k ∷ ks) (suc i) r h e = sizes_drop k t ks i r.1 (omega (arith, h)) (omega (arith, e, r.0))

rises_drop : (s t : ℕ) (ks : List ℕ) (i : ℕ) → Rises s ks → i ≤ length ks → t ≡ s + total (take i (sizes s ks)) → Rises t (drop i ks)
rises_drop s t ks zero r h e = let same : t ≡ s = omega (arith, e) in rw same r
rises_drop s t [] (suc i) r h e = tt
rises_drop s t (k ∷ ks) (suc i) r h e = rises_drop k t ks i r.1 (omega (arith, h)) (omega (arith, e, r.0))

rises_take : (s : ℕ) (ks : List ℕ) (i : ℕ) → Rises s ks → Rises s (take i ks)
rises_take s ks zero r = tt
rises_take s [] (suc i) r = tt
rises_take s (k ∷ ks) (suc i) r = (r.0, rises_take k ks i r.1)

pub rises_slice : (t : ℕ) (ks : List ℕ) (i j : ℕ) → Rises 0 ks → i ≤ length ks → t ≡ total (take i (sizes 0 ks)) → Rises t (slice_range ks i j)
rises_slice t ks i j r h e = rises_take t (drop i ks) (j - i) (rises_drop 0 t ks i r h (omega (arith, e)))

pub sizes_slice : (t : ℕ) (ks : List ℕ) (i j : ℕ) → Rises 0 ks → i ≤ length ks → t ≡ total (take i (sizes 0 ks)) → sizes t (slice_range ks i j) ≡ slice_range (sizes 0 ks) i j
sizes_slice t ks i j r h e = sym (sizes_take t (drop i ks) (j - i)) ∙ (λ k. take (j - i) (sizes_drop 0 t ks i r h (omega (arith, e)) k))

pub take_length : {A : Type 0} (xs : List A) → take (length xs) xs ≡ xs
take_length [] = refl
take_length (x ∷ xs) = λ i. x ∷ take_length xs i

pub sizes_sum : (t : ℕ) (ks : List ℕ) → t ≡ total (take (length ks) (sizes 0 ks)) → t ≡ 0 + total (sizes 0 ks)
sizes_sum t ks e =
    let whole : take (length ks) (sizes 0 ks) ≡ sizes 0 ks = (λ i. take (sym (sizes_length 0 ks) i) (sizes 0 ks)) ∙ take_length (sizes 0 ks) in
    let sums : total (take (length ks) (sizes 0 ks)) ≡ total (sizes 0 ks) = ap total whole in
    omega (arith, e, sums)

-- ---- lists cut out of their elements
pub lists_length : (ns : List ℕ) (es : List Val) (bs : List Bool) → length bs ≡ length ns → length (typed list_of (cuts ns es) bs) ≡ length ns
lists_length ns es bs h = typed_length list_of (cuts ns es) bs (h ∙ sym (cuts_length ns es)) ∙ cuts_length ns es

pub lists_count : (k : ℕ) (ns : List ℕ) (es : List Val) (bs : List Bool) (now : Deep) → of_deep k (typed list_of (cuts ns es) bs) ≡ now → length bs ≡ length ns → length now.items ≡ length ns
lists_count k ns es bs now e h = ap (λ (d : Deep). length d.items) (sym e) ∙ lists_length ns es bs h

pub list_nulls : (ns : List ℕ) (es : List Val) (bs : List Bool) → length bs ≡ length ns → map not bs ≡ map (λ v. is_nothing (marked v)) (typed list_of (cuts ns es) bs)
list_nulls ns es bs h = typed_nulls list_of (cuts ns es) bs (λ x. refl) (h ∙ sym (cuts_length ns es))

pub lists_here : (ns : List ℕ) (es : List Val) (bs : List Bool) → length bs ≡ length ns → bs ≡ map is_here (typed list_of (cuts ns es) bs)
lists_here ns es bs h = typed_here list_of (cuts ns es) bs (λ x. refl) (h ∙ sym (cuts_length ns es))

pub lists_mask : (ns : List ℕ) (es : List Val) (bs ms : List Bool) → length bs ≡ length ns → typed list_of (cuts ns es) (both_true bs ms) ≡ null_where_false ms (typed list_of (cuts ns es) bs)
lists_mask ns es bs ms h = typed_mask list_of (cuts ns es) bs ms (h ∙ sym (cuts_length ns es))

take_take : {A : Type 0} (n m : ℕ) (xs : List A) → n ≤ m → take n (take m xs) ≡ take n xs
take_take zero m xs h = refl
take_take (suc n) zero xs h = absurd (omega (arith, h))
take_take (suc n) (suc m) [] h = refl
take_take (suc n) (suc m) (x ∷ xs) h = λ i. x ∷ take_take n m xs (omega (arith, h)) i

drop_take : {A : Type 0} (n m k : ℕ) (xs : List A) → k ≡ n + m → drop n (take k xs) ≡ take m (drop n xs)
drop_take zero m k xs h = let same : k ≡ m = omega (arith, h) in λ i. take (same i) xs
drop_take (suc n) m zero xs h = absurd (omega (arith, h))
drop_take (suc n) zero (suc k) [] h = refl
drop_take (suc n) (suc m) (suc k) [] h = refl
drop_take (suc n) m (suc k) (x ∷ xs) h = drop_take n m k xs (omega (arith, h))

pub drop_sum : {A : Type 0} (a b k : ℕ) (xs : List A) → k ≡ a + b → drop k xs ≡ drop b (drop a xs)
drop_sum zero b k xs h = let same : k ≡ b = omega (arith, h) in λ i. drop (same i) xs
drop_sum (suc a) b zero xs h = absurd (omega (arith, h))
drop_sum (suc a) zero (suc k) [] h = refl
drop_sum (suc a) (suc b) (suc k) [] h = refl
drop_sum (suc a) b (suc k) (x ∷ xs) h = drop_sum a b k xs (omega (arith, h))

cuts_drop : {A : Type 0} (i : ℕ) (ns : List ℕ) (es : List A) → cuts (drop i ns) (drop (total (take i ns)) es) ≡ drop i (cuts ns es)
cuts_drop zero ns es = refl
cuts_drop (suc i) [] es = refl
cuts_drop (suc i) (n ∷ ns) es = (λ j. cuts (drop i ns) (drop_sum n (total (take i ns)) (n + total (take i ns)) es refl j)) ∙ cuts_drop i ns (drop n es)

cuts_take : {A : Type 0} (k t : ℕ) (ns : List ℕ) (es : List A) → t ≡ total (take k ns) → cuts (take k ns) (take t es) ≡ take k (cuts ns es)
cuts_take zero t ns es h = refl
cuts_take (suc k) t [] es h = refl
cuts_take (suc k) t (n ∷ ns) es h =
    (λ i. take_take n t es (omega (arith, h)) i ∷ cuts (take k ns) (drop_take n (total (take k ns)) t es h i))
    ∙ (λ i. take n es ∷ cuts_take k (total (take k ns)) ns (drop n es) refl i)

total_split : (i k j : ℕ) (ns : List ℕ) → j ≡ i + k → total (take j ns) ≡ total (take i ns) + total (take k (drop i ns))
total_split zero k j ns h = let same : j ≡ k = omega (arith, h) in let sums : total (take j ns) ≡ total (take k ns) = (λ i. total (take (same i) ns)) in omega (arith, sums)
total_split (suc i) k zero ns h = absurd (omega (arith, h))
total_split (suc i) zero (suc j) [] h = refl
total_split (suc i) (suc k) (suc j) [] h = refl
total_split (suc i) k (suc j) (n ∷ ns) h = omega (arith, total_split i k j ns (omega (arith, h)))

total_range : (i j : ℕ) (ns : List ℕ) → i ≤ j → total (take j ns) ≡ total (take i ns) + total (slice_range ns i j)
total_range i j ns h = total_split i (j - i) j ns (omega (arith, h))

pub total_take : (j : ℕ) (ns : List ℕ) → total (take j ns) ≤ total ns
total_take zero ns = omega arith
total_take (suc j) [] = omega arith
total_take (suc j) (n ∷ ns) = omega (arith, total_take j ns)

pub total_ordered : (i j : ℕ) (ns : List ℕ) → i ≤ j → total (take i ns) ≤ total (take j ns)
total_ordered i j ns h = omega (arith, total_range i j ns h)

pub cuts_slice : {A : Type 0} (i j : ℕ) (ns : List ℕ) (es : List A) → i ≤ j → cuts (slice_range ns i j) (slice_range es (total (take i ns)) (total (take j ns))) ≡ slice_range (cuts ns es) i j
cuts_slice i j ns es h =
    let t : total (take j ns) - total (take i ns) ≡ total (take (j - i) (drop i ns)) = omega (arith, total_range i j ns h) in
    cuts_take (j - i) (total (take j ns) - total (take i ns)) (drop i ns) (drop (total (take i ns)) es) t ∙ (λ k. take (j - i) (cuts_drop i ns es k))

pub lists_slice : (i j : ℕ) (ns : List ℕ) (es : List Val) (bs : List Bool) → i ≤ j → length bs ≡ length ns
    → typed list_of (cuts (slice_range ns i j) (slice_range es (total (take i ns)) (total (take j ns)))) (slice_range bs i j) ≡ slice_range (typed list_of (cuts ns es) bs) i j
lists_slice i j ns es bs h e = (λ k. typed list_of (cuts_slice i j ns es h k) (slice_range bs i j)) ∙ typed_slice list_of i j (cuts ns es) bs (e ∙ sym (cuts_length ns es))

pub slice_length : {A : Type 0} (i j : ℕ) (xs : List A) → i ≤ j → j ≤ length xs → length (slice_range xs i j) ≡ j - i
slice_length i j xs h k = grind (arith, length-take, length-drop)

pub whole_slice : {A : Type 0} (i j : ℕ) (ns : List ℕ) (es : List A) → i ≤ j → total ns ≡ length es → total (slice_range ns i j) ≡ length (slice_range es (total (take i ns)) (total (take j ns)))
whole_slice i j ns es h e =
    let a = total_range i j ns h in
    let b = total_take j ns in
    omega (arith, a, slice_length (total (take i ns)) (total (take j ns)) es (total_ordered i j ns h) (omega (arith, b, e)))

pub lists_append : (ns ks : List ℕ) (es fs : List Val) (bs cs : List Bool) → length bs ≡ length ns → total ns ≡ length es
    → typed list_of (cuts (ns ++ ks) (es ++ fs)) (bs ++ cs) ≡ typed list_of (cuts ns es) bs ++ typed list_of (cuts ks fs) cs
lists_append ns ks es fs bs cs h e = (λ i. typed list_of (cuts_append ns ks es fs e i) (bs ++ cs)) ∙ typed_append list_of (cuts ns es) (cuts ks fs) bs cs (h ∙ sym (cuts_length ns es))

-- a filter of the lists, of their elements by lists
pub where_true : {A : Type 0} (n : ℕ) (ms : List Bool) (es : List A) → n ≤ length es → items_where_true (replicate n true ++ ms) es ≡ take n es ++ items_where_true ms (drop n es)
where_true zero ms es h = refl
where_true (suc n) ms [] h = absurd (omega (arith, h))
where_true (suc n) ms (e ∷ es) h = λ i. e ∷ where_true n ms es (omega (arith, h)) i

pub where_false : {A : Type 0} (n : ℕ) (ms : List Bool) (es : List A) → n ≤ length es → items_where_true (replicate n false ++ ms) es ≡ items_where_true ms (drop n es)
where_false zero ms es h = refl
where_false (suc n) ms [] h = absurd (omega (arith, h))
where_false (suc n) ms (e ∷ es) h = where_false n ms es (omega (arith, h))

take_whole : {A : Type 0} (n : ℕ) (xs ys : List A) → length xs ≡ n → take n (xs ++ ys) ≡ xs
take_whole zero [] ys h = refl
take_whole (suc n) [] ys h = absurd (omega (arith, h))
take_whole zero (x ∷ xs) ys h = absurd (omega (arith, h))
take_whole (suc n) (x ∷ xs) ys h = λ i. x ∷ take_whole n xs ys (omega (arith, h)) i

drop_whole : {A : Type 0} (n : ℕ) (xs ys : List A) → length xs ≡ n → drop n (xs ++ ys) ≡ ys
drop_whole zero [] ys h = refl
drop_whole (suc n) [] ys h = absurd (omega (arith, h))
drop_whole zero (x ∷ xs) ys h = absurd (omega (arith, h))
drop_whole (suc n) (x ∷ xs) ys h = drop_whole n xs ys (omega (arith, h))

pub take_count : {A : Type 0} (n : ℕ) (es : List A) → n ≤ length es → length (take n es) ≡ n
take_count zero es h = refl
take_count (suc n) [] h = absurd (omega (arith, h))
take_count (suc n) (e ∷ es) h = λ i. suc (take_count n es (omega (arith, h)) i)

pub cuts_where : {A : Type 0} (ms : List Bool) (ns : List ℕ) (es : List A) → length ms ≡ length ns → total ns ≡ length es → cuts (items_where_true ms ns) (items_where_true (spread ms ns) es) ≡ items_where_true ms (cuts ns es)
cuts_where [] ns es h e = refl
cuts_where (m ∷ ms) [] es h e = absurd (omega (arith, h))
cuts_where (true ∷ ms) (n ∷ ns) es h e =
    let within : n ≤ length es = omega (arith, e) in
    let rest : total ns ≡ length (drop n es) = omega (arith, e, length-drop n es) in
    (λ i. cuts (n ∷ items_where_true ms ns) (where_true n (spread ms ns) es within i))
    ∙ (λ i. take_whole n (take n es) (items_where_true (spread ms ns) (drop n es)) (take_count n es within) i ∷ cuts (items_where_true ms ns) (drop_whole n (take n es) (items_where_true (spread ms ns) (drop n es)) (take_count n es within) i))
    ∙ (λ i. take n es ∷ cuts_where ms ns (drop n es) (omega (arith, h)) rest i)
cuts_where (false ∷ ms) (n ∷ ns) es h e =
    let within : n ≤ length es = omega (arith, e) in
    let rest : total ns ≡ length (drop n es) = omega (arith, e, length-drop n es) in
    (λ i. cuts (items_where_true ms ns) (where_false n (spread ms ns) es within i)) ∙ cuts_where ms ns (drop n es) (omega (arith, h)) rest

pub lists_where : (ms : List Bool) (ns : List ℕ) (es : List Val) (bs : List Bool) → length ms ≡ length ns → length bs ≡ length ns → total ns ≡ length es
    → typed list_of (cuts (items_where_true ms ns) (items_where_true (spread ms ns) es)) (items_where_true ms bs) ≡ items_where_true ms (typed list_of (cuts ns es) bs)
lists_where ms ns es bs h k e = (λ i. typed list_of (cuts_where ms ns es h e i) (items_where_true ms bs)) ∙ typed_where list_of ms (cuts ns es) bs (k ∙ sym (cuts_length ns es))

pub whole_where : {A : Type 0} (ms : List Bool) (ns : List ℕ) (es : List A) → length ms ≡ length ns → total ns ≡ length es → total (items_where_true ms ns) ≡ length (items_where_true (spread ms ns) es)
whole_where [] ns es h e = refl
whole_where (m ∷ ms) [] es h e = absurd (omega (arith, h))
whole_where (true ∷ ms) (n ∷ ns) es h e =
    let within : n ≤ length es = omega (arith, e) in
    let rest : total ns ≡ length (drop n es) = omega (arith, e, length-drop n es) in
    let more = whole_where ms ns (drop n es) (omega (arith, h)) rest in
    let kept : length (items_where_true (replicate n true ++ spread ms ns) es) ≡ n + length (items_where_true (spread ms ns) (drop n es)) =
    ap length (where_true n (spread ms ns) es within) ∙ length-append (take n es) (items_where_true (spread ms ns) (drop n es)) ∙ (λ i. take_count n es within i + length (items_where_true (spread ms ns) (drop n es))) in
    omega (arith, more, kept)
whole_where (false ∷ ms) (n ∷ ns) es h e =
    let within : n ≤ length es = omega (arith, e) in
    let rest : total ns ≡ length (drop n es) = omega (arith, e, length-drop n es) in
    whole_where ms ns (drop n es) (omega (arith, h)) rest ∙ sym (ap length (where_false n (spread ms ns) es within))

pub spread_length : (ms : List Bool) (ns : List ℕ) → length ms ≡ length ns → length (spread ms ns) ≡ total ns
spread_length [] [] h = refl
spread_length [] (n ∷ ns) h = absurd (omega (arith, h))
spread_length (m ∷ ms) [] h = absurd (omega (arith, h))
spread_length (m ∷ ms) (n ∷ ns) h = omega (arith, length-append (replicate n m) (spread ms ns), length-replicate n m, spread_length ms ns (omega (arith, h)))

-- ---- rows of columns
pub rows_length : (n : ℕ) (cs : List (List Val)) → length (rows_of n cs) ≡ n
rows_length zero cs = refl
rows_length (suc n) cs = λ i. suc (rows_length n (map (drop 1) cs) i)

pub structs_length : (cs : List (List Val)) (bs : List Bool) → length (typed struct_of (rows_of (length bs) cs) bs) ≡ length bs
structs_length cs bs = typed_length struct_of (rows_of (length bs) cs) bs (sym (rows_length (length bs) cs)) ∙ rows_length (length bs) cs

pub structs_count : (k : ℕ) (cs : List (List Val)) (bs : List Bool) (now : Deep) → of_deep k (typed struct_of (rows_of (length bs) cs) bs) ≡ now → length now.items ≡ length bs
structs_count k cs bs now e = ap (λ (d : Deep). length d.items) (sym e) ∙ structs_length cs bs

pub struct_nulls : (cs : List (List Val)) (bs : List Bool) → map not bs ≡ map (λ v. is_nothing (marked v)) (typed struct_of (rows_of (length bs) cs) bs)
struct_nulls cs bs = typed_nulls struct_of (rows_of (length bs) cs) bs (λ x. refl) (sym (rows_length (length bs) cs))

pub structs_here : (cs : List (List Val)) (bs : List Bool) → bs ≡ map is_here (typed struct_of (rows_of (length bs) cs) bs)
structs_here cs bs = typed_here struct_of (rows_of (length bs) cs) bs (λ x. refl) (sym (rows_length (length bs) cs))

pub structs_mask : (cs : List (List Val)) (bs ms : List Bool) → length ms ≡ length bs → typed struct_of (rows_of (length (both_true bs ms)) cs) (both_true bs ms) ≡ null_where_false ms (typed struct_of (rows_of (length bs) cs) bs)
structs_mask cs bs ms h = (λ i. typed struct_of (rows_of (both_lengths bs ms h i) cs) (both_true bs ms)) ∙ typed_mask struct_of (rows_of (length bs) cs) bs ms (sym (rows_length (length bs) cs))

pub shorter : (n : ℕ) (cs : List (List Val)) → AreLong (suc n) cs → AreLong n (map (drop 1) cs)
shorter n [] h = tt
shorter n ([] ∷ cs) h = absurd (omega (arith, h.0))
shorter n ((v ∷ vs) ∷ cs) h = (omega (arith, h.0), shorter n cs h.1)

heads_where : (n : ℕ) (ms : List Bool) (cs : List (List Val)) → AreLong (suc n) cs → heads (map (items_where_true (true ∷ ms)) cs) ≡ heads cs
heads_where n ms [] h = refl
heads_where n ms ([] ∷ cs) h = absurd (omega (arith, h.0))
heads_where n ms ((v ∷ vs) ∷ cs) h = λ i. v ∷ heads_where n ms cs h.1 i

rest_where : (n : ℕ) (ms : List Bool) (cs : List (List Val)) → AreLong (suc n) cs → map (drop 1) (map (items_where_true (true ∷ ms)) cs) ≡ map (items_where_true ms) (map (drop 1) cs)
rest_where n ms [] h = refl
rest_where n ms ([] ∷ cs) h = absurd (omega (arith, h.0))
rest_where n ms ((v ∷ vs) ∷ cs) h = λ i. items_where_true ms vs ∷ rest_where n ms cs h.1 i

passed_where : (n : ℕ) (ms : List Bool) (cs : List (List Val)) → AreLong (suc n) cs → map (items_where_true (false ∷ ms)) cs ≡ map (items_where_true ms) (map (drop 1) cs)
passed_where n ms [] h = refl
passed_where n ms ([] ∷ cs) h = absurd (omega (arith, h.0))
passed_where n ms ((v ∷ vs) ∷ cs) h = λ i. items_where_true ms vs ∷ passed_where n ms cs h.1 i

rows_where : (ms bs : List Bool) (cs : List (List Val)) → AreLong (length bs) cs → rows_of (length (items_where_true ms bs)) (map (items_where_true ms) cs) ≡ items_where_true ms (rows_of (length bs) cs)
rows_where [] bs cs h = refl
rows_where (m ∷ ms) [] cs h = refl
rows_where (true ∷ ms) (b ∷ bs) cs h =
    (λ i. heads_where (length bs) ms cs h i ∷ rows_of (length (items_where_true ms bs)) (rest_where (length bs) ms cs h i))
    ∙ (λ i. heads cs ∷ rows_where ms bs (map (drop 1) cs) (shorter (length bs) cs h) i)
rows_where (false ∷ ms) (b ∷ bs) cs h = (λ i. rows_of (length (items_where_true ms bs)) (passed_where (length bs) ms cs h i)) ∙ rows_where ms bs (map (drop 1) cs) (shorter (length bs) cs h)

pub structs_where : (ms bs : List Bool) (cs : List (List Val)) → AreLong (length bs) cs
    → typed struct_of (rows_of (length (items_where_true ms bs)) (map (items_where_true ms) cs)) (items_where_true ms bs) ≡ items_where_true ms (typed struct_of (rows_of (length bs) cs) bs)
structs_where ms bs cs h = (λ i. typed struct_of (rows_where ms bs cs h i) (items_where_true ms bs)) ∙ typed_where struct_of ms (rows_of (length bs) cs) bs (sym (rows_length (length bs) cs))

pub long_where : (ms bs : List Bool) (cs : List (List Val)) → AreLong (length bs) cs → AreLong (length (items_where_true ms bs)) (map (items_where_true ms) cs)
long_where ms bs [] h = tt
long_where ms bs (c ∷ cs) h = (where_lengths ms bs c h.0, long_where ms bs cs h.1)

drop_columns : (k : ℕ) (cs : List (List Val)) → map (drop k) (map (drop 1) cs) ≡ map (drop (suc k)) cs
drop_columns k [] = refl
drop_columns zero ([] ∷ cs) = λ i. [] ∷ drop_columns zero cs i
drop_columns (suc k) ([] ∷ cs) = λ i. [] ∷ drop_columns (suc k) cs i
drop_columns k ((v ∷ vs) ∷ cs) = λ i. drop k vs ∷ drop_columns k cs i

same_columns : (cs : List (List Val)) → cs ≡ map (drop 0) cs
same_columns [] = refl
same_columns (c ∷ cs) = λ i. c ∷ same_columns cs i

rows_drop : (k r n : ℕ) (cs : List (List Val)) → n ≡ k + r → rows_of r (map (drop k) cs) ≡ drop k (rows_of n cs)
rows_drop zero r n cs h = let same : r ≡ n = omega (arith, h) in λ i. rows_of (same i) (sym (same_columns cs) i)
rows_drop (suc k) r zero cs h = absurd (omega (arith, h))
rows_drop (suc k) r (suc n) cs h = (λ i. rows_of r (sym (drop_columns k cs) i)) ∙ rows_drop k r n (map (drop 1) cs) (omega (arith, h))

heads_take : (k : ℕ) (cs : List (List Val)) → heads (map (take (suc k)) cs) ≡ heads cs
heads_take k [] = refl
heads_take k ([] ∷ cs) = heads_take k cs
heads_take k ((v ∷ vs) ∷ cs) = λ i. v ∷ heads_take k cs i

rest_take : (k : ℕ) (cs : List (List Val)) → map (drop 1) (map (take (suc k)) cs) ≡ map (take k) (map (drop 1) cs)
rest_take k [] = refl
rest_take zero ([] ∷ cs) = λ i. [] ∷ rest_take zero cs i
rest_take (suc k) ([] ∷ cs) = λ i. [] ∷ rest_take (suc k) cs i
rest_take k ((v ∷ vs) ∷ cs) = λ i. take k vs ∷ rest_take k cs i

rows_take : (k n : ℕ) (cs : List (List Val)) → k ≤ n → rows_of k (map (take k) cs) ≡ take k (rows_of n cs)
rows_take zero n cs h = refl
rows_take (suc k) zero cs h = absurd (omega (arith, h))
rows_take (suc k) (suc n) cs h =
    (λ i. heads_take k cs i ∷ rows_of k (rest_take k cs i)) ∙ (λ i. heads cs ∷ rows_take k n (map (drop 1) cs) (omega (arith, h)) i)

slice_columns : (i j : ℕ) (cs : List (List Val)) → map (λ c. slice_range c i j) cs ≡ map (take (j - i)) (map (drop i) cs)
slice_columns i j [] = refl
slice_columns i j (c ∷ cs) = λ k. slice_range c i j ∷ slice_columns i j cs k

pub structs_slice : (i j : ℕ) (bs : List Bool) (cs : List (List Val)) → i ≤ j → j ≤ length bs
    → typed struct_of (rows_of (length (slice_range bs i j)) (map (λ c. slice_range c i j) cs)) (slice_range bs i j) ≡ slice_range (typed struct_of (rows_of (length bs) cs) bs) i j
structs_slice i j bs cs h k =
    (λ l. typed struct_of (rows_of (slice_length i j bs h k l) (slice_columns i j cs l)) (slice_range bs i j))
    ∙ (λ l. typed struct_of (rows_take (j - i) (length bs - i) (map (drop i) cs) (omega (arith, h, k)) l) (slice_range bs i j))
    ∙ (λ l. typed struct_of (take (j - i) (rows_drop i (length bs - i) (length bs) cs (omega (arith, h, k)) l)) (slice_range bs i j))
    ∙ typed_slice struct_of i j (rows_of (length bs) cs) bs (sym (rows_length (length bs) cs))

pub long_slice : (i j : ℕ) (bs : List Bool) (cs : List (List Val)) → i ≤ j → j ≤ length bs → AreLong (length bs) cs → AreLong (length (slice_range bs i j)) (map (λ c. slice_range c i j) cs)
long_slice i j bs [] h k l = tt
long_slice i j bs (c ∷ cs) h k l = (slice_length i j c h (omega (arith, k, l.0)) ∙ sym (slice_length i j bs h k), long_slice i j bs cs h k l.1)

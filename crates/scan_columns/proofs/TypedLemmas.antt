-- What each kernel does to typed cells, once for every kind.
use Rattle.std.specs.Prelude.{◌≡◌, ℕ, zero, suc, ◌+◌, ◌-◌, take, slice_range, ◌<◌, ◌≤◌, ℤ, Bool, true, false, not, cond, List, [], ◌∷◌, length, map, drop, replicate, slice_get, Some, refl}
use Rattle.std.specs.List.{items_where_true}
use Rattle.std.specs.Ordering.{int_cmp}
use Rattle.std.proofs.Common.{arith, get_or, ◌++◌, ◌∙◌, sym, append_assoc}
use Rattle.scan_values.specs.Val.{Val, null_val, int_val, bool_val, text_val, list_val, struct_val, marked}
use Rattle.scan_values.specs.Marked.{integer, is_true}
use Rattle.scan_values.specs.Masks.{true_count, both_true, null_where_false}
use Rattle.scan_values.proofs.MaskLemmas.{true_count-true, true_count-false}
use Rattle.scan_values.specs.declared.ptype.Nullability.{Nullability}
use Rattle.scan_expr.specs.declared.op.Binary.{Binary}
use Rattle.scan_expr.specs.Eval.{comparison_value, holds, is_nothing}
use Rattle.scan_spelling.specs.LeafColumns.{is_here}
use Rattle.scan_columns.specs.Typed.{typed}
use Rattle.scan_columns.specs.Compared.{compare_val}

pub typed_length : {A : Type 0} (f : A → Val) (xs : List A) (bs : List Bool) → length bs ≡ length xs → length (typed f xs bs) ≡ length xs
typed_length f [] bs h = refl
typed_length f (x ∷ xs) [] h = absurd (omega (arith, h))
typed_length f (x ∷ xs) (b ∷ bs) h = λ i. suc (typed_length f xs bs (omega (arith, h)) i)

pub typed_get : {A : Type 0} (f : A → Val) (xs : List A) (bs : List Bool) (k : ℕ) (dx : A) (db : Bool) → k < length xs → length bs ≡ length xs → Some (cond (get_or bs k db) (f (get_or xs k dx)) null_val) ≡ slice_get (typed f xs bs) k
typed_get f [] bs k dx db lt h = absurd (omega (arith, lt))
typed_get f (y ∷ xs) [] k dx db lt h = absurd (omega (arith, h))
typed_get f (y ∷ xs) (c ∷ bs) zero dx db lt h = refl
typed_get f (y ∷ xs) (c ∷ bs) (suc k) dx db lt h = typed_get f xs bs k dx db (omega (arith, lt)) (omega (arith, h))

-- a filter of the values and of the bits is a filter of the cells
pub typed_where : {A : Type 0} (f : A → Val) (ms : List Bool) (xs : List A) (bs : List Bool) → length bs ≡ length xs → typed f (items_where_true ms xs) (items_where_true ms bs) ≡ items_where_true ms (typed f xs bs)
typed_where f [] xs bs h = refl
typed_where f (m ∷ ms) [] bs h = refl
typed_where f (m ∷ ms) (x ∷ xs) [] h = absurd (omega (arith, h))
typed_where f (true ∷ ms) (x ∷ xs) (b ∷ bs) h = λ i. cond b (f x) null_val ∷ typed_where f ms xs bs (omega (arith, h)) i
typed_where f (false ∷ ms) (x ∷ xs) (b ∷ bs) h = typed_where f ms xs bs (omega (arith, h))

pub where_lengths : {A B : Type 0} (ms : List Bool) (xs : List A) (bs : List B) → length bs ≡ length xs → length (items_where_true ms bs) ≡ length (items_where_true ms xs)
where_lengths [] xs bs h = refl
where_lengths (m ∷ ms) [] [] h = refl
where_lengths (m ∷ ms) [] (b ∷ bs) h = absurd (omega (arith, h))
where_lengths (m ∷ ms) (x ∷ xs) [] h = absurd (omega (arith, h))
where_lengths (true ∷ ms) (x ∷ xs) (b ∷ bs) h = λ i. suc (where_lengths ms xs bs (omega (arith, h)) i)
where_lengths (false ∷ ms) (x ∷ xs) (b ∷ bs) h = where_lengths ms xs bs (omega (arith, h))

-- the comparison of each integer with a literal
one : (op : Binary) (lit z : ℤ) (b : Bool) → cond b (bool_val (holds op (int_cmp z lit))) null_val ≡ compare_val op lit (cond b (int_val z) null_val)
one op lit z true = refl
one op lit z false = refl

pub typed_compare : (op : Binary) (lit : ℤ) (xs : List ℤ) (bs : List Bool) → typed bool_val (map (λ z. holds op (int_cmp z lit)) xs) bs ≡ map (compare_val op lit) (typed int_val xs bs)
typed_compare op lit [] bs = refl
typed_compare op lit (x ∷ xs) [] = refl
typed_compare op lit (x ∷ xs) (b ∷ bs) = λ i. one op lit x b i ∷ typed_compare op lit xs bs i

-- what a compared value is, as the expression has it, whatever the nullability
pub compared_marked : (op : Binary) (n : Nullability) (lit : ℤ) (v : Val) → marked (compare_val op lit v) ≡ comparison_value op n (marked v) (integer lit)
compared_marked op n lit null_val = refl
compared_marked op n lit (bool_val b) = refl
compared_marked op n lit (int_val z) = refl
compared_marked op n lit (text_val t) = refl
compared_marked op n lit (list_val vs) = refl
compared_marked op n lit (struct_val vs) = refl

pub compared_all : (op : Binary) (n : Nullability) (lit : ℤ) (vs : List Val) → map marked (map (compare_val op lit) vs) ≡ map (λ v. comparison_value op n (marked v) (integer lit)) vs
compared_all op n lit [] = refl
compared_all op n lit (v ∷ vs) = λ i. compared_marked op n lit v i ∷ compared_all op n lit vs i

-- a constant, filtered
pub where_constant : {A : Type 0} (v : A) (ms : List Bool) (k c : ℕ) → length ms ≡ k → c ≡ true_count ms → items_where_true ms (replicate k v) ≡ replicate c v
where_constant v [] zero zero h e = refl
where_constant v [] zero (suc c) h e = absurd (omega (arith, e))
where_constant v [] (suc k) c h e = absurd (omega (arith, h))
where_constant v (m ∷ ms) zero c h e = absurd (omega (arith, h))
where_constant v (true ∷ ms) (suc k) zero h e = absurd (omega (arith, e, true_count-true ms))
where_constant v (true ∷ ms) (suc k) (suc c) h e = λ i. v ∷ where_constant v ms k c (omega (arith, h)) (omega (arith, e, true_count-true ms)) i
where_constant v (false ∷ ms) (suc k) c h e = where_constant v ms k c (omega (arith, h)) (omega (arith, e, true_count-false ms))

pub constant_compare : (f : Val → Val) (v w : Val) (k : ℕ) → w ≡ f v → replicate k w ≡ map f (replicate k v)
constant_compare f v w zero h = refl
constant_compare f v w (suc k) h = λ i. h i ∷ constant_compare f v w k h i

-- a loop over places: the value at one, and the rest
pub drop_got : {A : Type 0} (xs : List A) (k j : ℕ) (x : A) → Some x ≡ slice_get xs k → j ≡ k + 1 → drop k xs ≡ x ∷ drop j xs
drop_got [] k j x h e = cc
drop_got (y ∷ xs) zero zero x h e = absurd (omega (arith, e))
drop_got (y ∷ xs) zero (suc j) x h e = let none : j ≡ 0 = omega (arith, e) in rw none cc
drop_got (y ∷ xs) (suc k) zero x h e = absurd (omega (arith, e))
drop_got (y ∷ xs) (suc k) (suc j) x h e = drop_got xs k j x h (omega (arith, e))

pub place_step : {A B : Type 0} (f : A → B) (xs : List A) (k : ℕ) (x : A) (made pushed : List B) → pushed ≡ made ++ (f x ∷ []) → Some x ≡ slice_get xs k → made ++ map f (drop k xs) ≡ map f xs → pushed ++ map f (drop (k + 1) xs) ≡ map f xs
place_step f xs k x made pushed p h inv = rw p (append_assoc made (f x ∷ []) (map f (drop (k + 1) xs)) ∙ (λ i. made ++ map f (sym (drop_got xs k (k + 1) x h refl) i)) ∙ inv)

pub typed_append : {A : Type 0} (f : A → Val) (xs ys : List A) (bs cs : List Bool) → length bs ≡ length xs → typed f (xs ++ ys) (bs ++ cs) ≡ typed f xs bs ++ typed f ys cs
typed_append f [] ys [] cs h = refl
typed_append f [] ys (b ∷ bs) cs h = absurd (omega (arith, h))
typed_append f (x ∷ xs) ys [] cs h = absurd (omega (arith, h))
typed_append f (x ∷ xs) ys (b ∷ bs) cs h = λ i. cond b (f x) null_val ∷ typed_append f xs ys bs cs (omega (arith, h)) i

pub typed_drop : {A : Type 0} (f : A → Val) (k : ℕ) (xs : List A) (bs : List Bool) → length bs ≡ length xs → typed f (drop k xs) (drop k bs) ≡ drop k (typed f xs bs)
typed_drop f zero xs bs h = refl
typed_drop f (suc k) [] bs h = refl
typed_drop f (suc k) (x ∷ xs) [] h = absurd (omega (arith, h))
typed_drop f (suc k) (x ∷ xs) (b ∷ bs) h = typed_drop f k xs bs (omega (arith, h))

pub typed_take : {A : Type 0} (f : A → Val) (k : ℕ) (xs : List A) (bs : List Bool) → typed f (take k xs) (take k bs) ≡ take k (typed f xs bs)
typed_take f zero xs bs = refl
typed_take f (suc k) [] bs = refl
typed_take f (suc k) (x ∷ xs) [] = refl
typed_take f (suc k) (x ∷ xs) (b ∷ bs) = λ i. cond b (f x) null_val ∷ typed_take f k xs bs i

pub typed_slice : {A : Type 0} (f : A → Val) (s e : ℕ) (xs : List A) (bs : List Bool) → length bs ≡ length xs → typed f (slice_range xs s e) (slice_range bs s e) ≡ slice_range (typed f xs bs) s e
typed_slice f s e xs bs h = typed_take f (e - s) (drop s xs) (drop s bs) ∙ (λ i. take (e - s) (typed_drop f s xs bs h i))

-- cells that are null where a mask is false
pub typed_mask : {A : Type 0} (f : A → Val) (xs : List A) (bs ms : List Bool) → length bs ≡ length xs → typed f xs (both_true bs ms) ≡ null_where_false ms (typed f xs bs)
typed_mask f [] [] [] h = refl
typed_mask f [] [] (m ∷ ms) h = none_masked m ms
  where
    none_masked : (m : Bool) (ms : List Bool) → [] ≡ null_where_false (m ∷ ms) []
    none_masked true ms = refl
    none_masked false ms = refl
typed_mask f [] (b ∷ bs) ms h = absurd (omega (arith, h))
typed_mask f (x ∷ xs) [] ms h = absurd (omega (arith, h))
typed_mask f (x ∷ xs) (b ∷ bs) [] h = refl
typed_mask f (x ∷ xs) (true ∷ bs) (true ∷ ms) h = λ i. f x ∷ typed_mask f xs bs ms (omega (arith, h)) i
typed_mask f (x ∷ xs) (true ∷ bs) (false ∷ ms) h = λ i. null_val ∷ typed_mask f xs bs ms (omega (arith, h)) i
typed_mask f (x ∷ xs) (false ∷ bs) (true ∷ ms) h = λ i. null_val ∷ typed_mask f xs bs ms (omega (arith, h)) i
typed_mask f (x ∷ xs) (false ∷ bs) (false ∷ ms) h = λ i. null_val ∷ typed_mask f xs bs ms (omega (arith, h)) i

pub both_lengths : (bs ms : List Bool) → length ms ≡ length bs → length (both_true bs ms) ≡ length bs
both_lengths [] ms h = refl
both_lengths (b ∷ bs) [] h = absurd (omega (arith, h))
both_lengths (b ∷ bs) (m ∷ ms) h = λ i. suc (both_lengths bs ms (omega (arith, h)) i)

-- the nulls are the slots without a value
pub typed_nulls : {A : Type 0} (f : A → Val) (xs : List A) (bs : List Bool) → ((x : A) → is_nothing (marked (f x)) ≡ false) → length bs ≡ length xs → map not bs ≡ map (λ v. is_nothing (marked v)) (typed f xs bs)
typed_nulls f [] [] there h = refl
typed_nulls f [] (b ∷ bs) there h = absurd (omega (arith, h))
typed_nulls f (x ∷ xs) [] there h = absurd (omega (arith, h))
typed_nulls f (x ∷ xs) (true ∷ bs) there h = λ i. sym (there x) i ∷ typed_nulls f xs bs there (omega (arith, h)) i
typed_nulls f (x ∷ xs) (false ∷ bs) there h = λ i. true ∷ typed_nulls f xs bs there (omega (arith, h)) i

pub int_nulls : (xs : List ℤ) (bs : List Bool) → length bs ≡ length xs → map not bs ≡ map (λ v. is_nothing (marked v)) (typed int_val xs bs)
int_nulls xs bs h = typed_nulls int_val xs bs (λ x. refl) h

pub bool_nulls : (xs bs : List Bool) → length bs ≡ length xs → map not bs ≡ map (λ v. is_nothing (marked v)) (typed bool_val xs bs)
bool_nulls xs bs h = typed_nulls bool_val xs bs (λ x. refl) h

-- what is there
pub typed_here : {A : Type 0} (f : A → Val) (xs : List A) (bs : List Bool) → ((x : A) → is_here (f x) ≡ true) → length bs ≡ length xs → bs ≡ map is_here (typed f xs bs)
typed_here f [] [] there h = refl
typed_here f [] (b ∷ bs) there h = absurd (omega (arith, h))
typed_here f (x ∷ xs) [] there h = absurd (omega (arith, h))
typed_here f (x ∷ xs) (true ∷ bs) there h = λ i. sym (there x) i ∷ typed_here f xs bs there (omega (arith, h)) i
typed_here f (x ∷ xs) (false ∷ bs) there h = λ i. false ∷ typed_here f xs bs there (omega (arith, h)) i

pub ints_here : (xs : List ℤ) (bs : List Bool) → length bs ≡ length xs → bs ≡ map is_here (typed int_val xs bs)
ints_here xs bs h = typed_here int_val xs bs (λ x. refl) h

pub bools_here : (xs bs : List Bool) → length bs ≡ length xs → bs ≡ map is_here (typed bool_val xs bs)
bools_here xs bs h = typed_here bool_val xs bs (λ x. refl) h

-- a truth value is true where its bit is and it is there
pub bool_truths : (xs bs : List Bool) → both_true xs bs ≡ map (λ v. is_true (marked v)) (typed bool_val xs bs)
bool_truths [] bs = refl
bool_truths (x ∷ xs) [] = refl
bool_truths (true ∷ xs) (true ∷ bs) = λ i. true ∷ bool_truths xs bs i
bool_truths (true ∷ xs) (false ∷ bs) = λ i. false ∷ bool_truths xs bs i
bool_truths (false ∷ xs) (true ∷ bs) = λ i. false ∷ bool_truths xs bs i
bool_truths (false ∷ xs) (false ∷ bs) = λ i. false ∷ bool_truths xs bs i

pub replicate_map : {A B : Type 0} (f : A → B) (x : A) (n : ℕ) → map f (replicate n x) ≡ replicate n (f x)
replicate_map f x zero = refl
replicate_map f x (suc n) = λ i. f x ∷ replicate_map f x n i

replicate_drop : {A : Type 0} (x : A) (k n r : ℕ) → n ≡ k + r → drop k (replicate n x) ≡ replicate r x
replicate_drop x zero n r h = let same : n ≡ r = omega (arith, h) in λ i. replicate (same i) x
replicate_drop x (suc k) zero r h = absurd (omega (arith, h))
replicate_drop x (suc k) (suc n) r h = replicate_drop x k n r (omega (arith, h))

replicate_take : {A : Type 0} (x : A) (k n : ℕ) → k ≤ n → take k (replicate n x) ≡ replicate k x
replicate_take x zero n h = refl
replicate_take x (suc k) zero h = absurd (omega (arith, h))
replicate_take x (suc k) (suc n) h = λ i. x ∷ replicate_take x k n (omega (arith, h)) i

pub constant_slice : {A : Type 0} (x : A) (s e n : ℕ) → s ≤ e → e ≤ n → slice_range (replicate n x) s e ≡ replicate (e - s) x
constant_slice x s e n h k = (λ i. take (e - s) (replicate_drop x s n (n - s) (omega (arith, h, k)) i)) ∙ replicate_take x (e - s) (n - s) (omega (arith, h, k))

-- a loop that reads values into slots
pub typed_step : {A : Type 0} (f : A → Val) (xs : List A) (bs : List Bool) (z : A) (b : Bool) (v : Val) (rest whole : List Val) → length bs ≡ length xs → v ≡ cond b (f z) null_val → typed f xs bs ++ (v ∷ rest) ≡ whole
    → typed f (xs ++ (z ∷ [])) (bs ++ (b ∷ [])) ++ rest ≡ whole
typed_step f xs bs z b v rest whole h is inv =
    (λ i. typed_append f xs (z ∷ []) bs (b ∷ []) h i ++ rest) ∙ append_assoc (typed f xs bs) (cond b (f z) null_val ∷ []) rest ∙ (λ i. typed f xs bs ++ (sym is i ∷ rest)) ∙ inv

pub pushed_even : {A B : Type 0} (xs : List A) (bs : List B) (z : A) (b : B) → length bs ≡ length xs → length (bs ++ (b ∷ [])) ≡ length (xs ++ (z ∷ []))
pushed_even [] [] z b h = refl
pushed_even [] (c ∷ bs) z b h = absurd (omega (arith, h))
pushed_even (x ∷ xs) [] z b h = absurd (omega (arith, h))
pushed_even (x ∷ xs) (c ∷ bs) z b h = λ i. suc (pushed_even xs bs z b (omega (arith, h)) i)

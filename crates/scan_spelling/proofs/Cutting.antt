-- Parts of a run, by where each ends; and a text more.
use Rattle.std.proofs.Common.{◌≡◌, ℕ, zero, suc, ◌+◌, ◌-◌, ◌≤◌, ◌<◌, Bool, true, false, get_or, slice_get, slice_range, Some, cond, List, [], ◌∷◌, ◌++◌, length, take, drop, ap, sym, ◌∙◌, refl, arith, ◌&&◌, length-append, length-drop}
use Rattle.std.specs.List.{list_all, items_where_true}
use Rattle.std.specs.Str.{is_utf8}
use Rattle.std.proofs.lemmas.List.Folds.{list_all-append}
use Rattle.std.proofs.lemmas.Str.{is_utf8-from_IsUtf8}
use Rattle.scan_values.specs.Val.{Val, null_val, text_val}
use Rattle.scan_spelling.specs.Typed.{typed}
use Rattle.scan_spelling.specs.Cuts.{sizes, Rises, sums, total, cuts, AreTexts}

-- ---- where parts end
pub sizes_length : (s : ℕ) (ks : List ℕ) → length (sizes s ks) ≡ length ks
sizes_length s [] = refl
sizes_length s (k ∷ ks) = λ i. suc (sizes_length k ks i)

pub rises_sums : (s : ℕ) (ns : List ℕ) → Rises s (sums s ns)
rises_sums s [] = tt
rises_sums s (n ∷ ns) = (omega arith, rises_sums (s + n) ns)

pub sizes_sums : (s : ℕ) (ns : List ℕ) → sizes s (sums s ns) ≡ ns
sizes_sums s [] = refl
sizes_sums s (n ∷ ns) = let e : s + n - s ≡ n = omega arith in λ i. e i ∷ sizes_sums (s + n) ns i

pub sizes_onto : (s t : ℕ) (ks ns : List ℕ) → Rises s ks → t ≡ s + total (sizes s ks) → sizes s (ks ++ sums t ns) ≡ sizes s ks ++ ns
sizes_onto s t [] ns r e = let same : t ≡ s = omega (arith, e) in (λ i. sizes s (sums (same i) ns)) ∙ sizes_sums s ns
sizes_onto s t (k ∷ ks) ns r e = λ i. (k - s) ∷ sizes_onto k t ks ns r.1 (omega (arith, e, r.0)) i

pub rises_onto : (s t : ℕ) (ks ns : List ℕ) → Rises s ks → t ≡ s + total (sizes s ks) → Rises s (ks ++ sums t ns)
rises_onto s t [] ns r e = let same : s ≡ t = omega (arith, e) in rw same (rises_sums t ns)
rises_onto s t (k ∷ ks) ns r e = (r.0, rises_onto k t ks ns r.1 (omega (arith, e, r.0)))

pub total_append : (ns ks : List ℕ) → total (ns ++ ks) ≡ total ns + total ks
total_append [] ks = omega arith
total_append (n ∷ ns) ks = omega (arith, total_append ns ks)

-- ---- the parts
pub cuts_length : {A : Type 0} (ns : List ℕ) (es : List A) → length (cuts ns es) ≡ length ns
cuts_length [] es = refl
cuts_length (n ∷ ns) es = λ i. suc (cuts_length ns (drop n es) i)

take_first : {A : Type 0} (n : ℕ) (xs ys : List A) → n ≤ length xs → take n (xs ++ ys) ≡ take n xs
take_first zero xs ys h = refl
take_first (suc n) [] ys h = absurd (omega (arith, h))
take_first (suc n) (x ∷ xs) ys h = λ i. x ∷ take_first n xs ys (omega (arith, h)) i

drop_first : {A : Type 0} (n : ℕ) (xs ys : List A) → n ≤ length xs → drop n (xs ++ ys) ≡ drop n xs ++ ys
drop_first zero xs ys h = refl
drop_first (suc n) [] ys h = absurd (omega (arith, h))
drop_first (suc n) (x ∷ xs) ys h = drop_first n xs ys (omega (arith, h))

pub cuts_append : {A : Type 0} (ns ks : List ℕ) (es fs : List A) → total ns ≡ length es → cuts (ns ++ ks) (es ++ fs) ≡ cuts ns es ++ cuts ks fs
cuts_append [] ks [] fs h = refl
cuts_append [] ks (e ∷ es) fs h = absurd (omega (arith, h))
cuts_append (n ∷ ns) ks es fs h =
    (λ i. take_first n es fs (omega (arith, h)) i ∷ cuts (ns ++ ks) (drop_first n es fs (omega (arith, h)) i))
    ∙ (λ i. take n es ∷ cuts_append ns ks (drop n es) fs (omega (arith, h, length-drop n es)) i)

take_length : {A : Type 0} (xs : List A) → take (length xs) xs ≡ xs
take_length [] = refl
take_length (x ∷ xs) = λ i. x ∷ take_length xs i

pub cuts_more : {A : Type 0} (ns : List ℕ) (es fs : List A) → total ns ≡ length es → cuts (ns ++ (length fs ∷ [])) (es ++ fs) ≡ cuts ns es ++ (fs ∷ [])
cuts_more ns es fs h = cuts_append ns (length fs ∷ []) es fs h ∙ (λ i. cuts ns es ++ (take_length fs i ∷ []))

pub texts_append : (ns ks : List ℕ) (es fs : List ℕ) → AreTexts ns es → AreTexts ks fs → AreTexts (ns ++ ks) (es ++ fs)
texts_append ns ks es fs a b = (
  total_append ns ks ∙ (λ i. a.0 i + b.0 i) ∙ sym (length-append es fs),
  ap (list_all is_utf8) (cuts_append ns ks es fs a.0) ∙ list_all-append is_utf8 (cuts ns es) (cuts ks fs) ∙ (λ i. a.1 i && b.1 i),
)

-- ---- the next row at which a mask is true
got_take : {A : Type 0} (n i : ℕ) (xs : List A) → i < n → slice_get (take n xs) i ≡ slice_get xs i
got_take zero i xs h = absurd (omega (arith, h))
got_take (suc n) i [] h = refl
got_take (suc n) zero (x ∷ xs) h = refl
got_take (suc n) (suc i) (x ∷ xs) h = got_take n i xs (omega (arith, h))

got_drop : {A : Type 0} (k i j : ℕ) (xs : List A) → j ≡ k + i → slice_get (drop k xs) i ≡ slice_get xs j
got_drop zero i j xs h = let same : i ≡ j = omega (arith, h) in λ l. slice_get xs (same l)
got_drop (suc k) i zero xs h = absurd (omega (arith, h))
got_drop (suc k) zero (suc j) [] h = refl
got_drop (suc k) (suc i) (suc j) [] h = refl
got_drop (suc k) i (suc j) (x ∷ xs) h = got_drop k i j xs (omega (arith, h))

where_next : {A : Type 0} (ms : List Bool) (xs : List A) (i j : ℕ) (x : A) → i < length ms → get_or ms i false ≡ true → Some x ≡ slice_get xs i → j ≡ suc i → items_where_true (drop i ms) (drop i xs) ≡ x ∷ items_where_true (drop j ms) (drop j xs)
where_next [] xs i j x l b h e = absurd (omega (arith, l))
where_next (m ∷ ms) [] i j x l b h e = absurd cc
where_next (m ∷ ms) (y ∷ xs) i zero x l b h e = absurd (omega (arith, e))
where_next (true ∷ ms) (y ∷ xs) zero (suc j) x l b h e = let none : j ≡ 0 = omega (arith, e) in let same : y ≡ x = cc in rw none (λ k. same k ∷ items_where_true ms xs)
where_next (false ∷ ms) (y ∷ xs) zero (suc j) x l b h e = absurd cc
where_next (m ∷ ms) (y ∷ xs) (suc i) (suc j) x l b h e = where_next ms xs i j x (omega (arith, l)) b h (omega (arith, e))

pub range_taken : (ms : List Bool) (vs : List Val) (first i : ℕ) (v : Val) → i < length ms → get_or ms i false ≡ true → Some v ≡ slice_get vs (first + i) →
    items_where_true (drop i ms) (drop i (slice_range vs first (first + length ms))) ≡ v ∷ items_where_true (drop (i + 1) ms) (drop (i + 1) (slice_range vs first (first + length ms)))
range_taken ms vs first i v low here is =
    let many : i < first + length ms - first = omega (arith, low) in
    let at : slice_get (slice_range vs first (first + length ms)) i ≡ slice_get vs (first + i) = got_take (first + length ms - first) i (drop first vs) many ∙ got_drop first i (first + i) vs refl in
    where_next ms (slice_range vs first (first + length ms)) i (i + 1) v low here (is ∙ sym at) (omega arith)

-- ---- no text, and one more
one_text : (text : List ℕ) → is_utf8 text ≡ true → AreTexts (length text ∷ []) text
one_text text u = (omega arith, ap (λ t. is_utf8 t && true) (take_length text) ∙ (λ i. u i && true))

pub none_utf8 : is_utf8 [] ≡ true
none_utf8 = is_utf8-from_IsUtf8 [] ([], (refl, refl))

pub record IsRun (bytes ends : List ℕ) (valid : List Bool) : Type 0 where
  pub even : length valid ≡ length ends
  pub rises : Rises 0 ends
  pub texts : AreTexts (sizes 0 ends) bytes

pub no_run : IsRun [] [] []
no_run = record { even = refl; rises = tt; texts = (refl, refl) }

abbrev pub run_values : List ℕ → List ℕ → List Bool → List Val
run_values bytes ends valid = typed text_val (cuts (sizes 0 ends) bytes) valid

pub typed_append : {A : Type 0} (f : A → Val) (xs ys : List A) (bs cs : List Bool) → length bs ≡ length xs → typed f (xs ++ ys) (bs ++ cs) ≡ typed f xs bs ++ typed f ys cs
typed_append f [] ys [] cs h = refl
typed_append f [] ys (b ∷ bs) cs h = absurd (omega (arith, h))
typed_append f (x ∷ xs) ys [] cs h = absurd (omega (arith, h))
typed_append f (x ∷ xs) ys (b ∷ bs) cs h = λ i. cond b (f x) null_val ∷ typed_append f xs ys bs cs (omega (arith, h)) i

module _ (bytes ends : List ℕ) (valid : List Bool) (text : List ℕ) (b : Bool) (r : IsRun bytes ends valid) where
  whole : length bytes ≡ 0 + total (sizes 0 ends)
  whole = omega (arith, r.texts.0)

  place : length (bytes ++ text) ∷ [] ≡ sums (length bytes) (length text ∷ [])
  place = λ i. length-append bytes text i ∷ []

  pub more_sizes : sizes 0 (ends ++ (length (bytes ++ text) ∷ [])) ≡ sizes 0 ends ++ (length text ∷ [])
  more_sizes = (λ i. sizes 0 (ends ++ place i)) ∙ sizes_onto 0 (length bytes) ends (length text ∷ []) r.rises whole

  pub run_more : is_utf8 text ≡ true → IsRun (bytes ++ text) (ends ++ (length (bytes ++ text) ∷ [])) (valid ++ (b ∷ []))
  run_more u = record {
    even = length-append valid (b ∷ []) ∙ (λ i. r.even i + 1) ∙ sym (length-append ends (length (bytes ++ text) ∷ []));
    rises = rw place (rises_onto 0 (length bytes) ends (length text ∷ []) r.rises whole);
    texts = rw more_sizes (texts_append (sizes 0 ends) (length text ∷ []) bytes text r.texts (one_text text u));
  }

  pub values_more : run_values (bytes ++ text) (ends ++ (length (bytes ++ text) ∷ [])) (valid ++ (b ∷ [])) ≡ run_values bytes ends valid ++ (cond b (text_val text) null_val ∷ [])
  values_more =
      (λ i. typed text_val (cuts (more_sizes i) (bytes ++ text)) (valid ++ (b ∷ [])))
      ∙ (λ i. typed text_val (cuts_more (sizes 0 ends) bytes text r.texts.0 i) (valid ++ (b ∷ [])))
      ∙ typed_append text_val (cuts (sizes 0 ends) bytes) (text ∷ []) valid (b ∷ []) (r.even ∙ sym (sizes_length 0 ends) ∙ sym (cuts_length (sizes 0 ends) bytes))

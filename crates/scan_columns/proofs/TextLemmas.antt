-- What each kernel does to texts in one buffer.
use Rattle.std.specs.Prelude.{◌≡◌, ℕ, zero, suc, ◌+◌, ◌-◌, ◌≤◌, ◌<◌, ◌&&◌, Bool, true, false, not, cond, List, [], ◌∷◌, ◌++◌, length, map, take, drop, slice_range, slice_get, Some, refl}
use Rattle.std.specs.List.{items_where_true, list_all}
use Rattle.std.specs.Str.{is_utf8, IsUtf8}
use Rattle.std.proofs.Common.{arith, get_or, ◌∙◌, sym, ap, append_assoc, drop-cons, add-one, replicate, subst}
use Rattle.std.proofs.lemmas.List.{length-drop}
use Rattle.std.proofs.lemmas.Str.{IsUtf8-from_is_utf8}
use Rattle.scan_values.specs.Val.{Val, text_val, null_val, marked}
use Rattle.scan_values.specs.Masks.{both_true, null_where_false}
use Rattle.scan_expr.specs.Eval.{is_nothing}
use Rattle.scan_spelling.specs.Cuts.{sizes, Rises, total, cuts, AreTexts}
use Rattle.scan_spelling.proofs.Cutting.{cuts_append, cuts_length, texts_append as pieces_append}
use Rattle.scan_spelling.specs.LeafColumns.{is_here}
use Rattle.scan_columns.specs.Typed.{typed}
use Rattle.scan_columns.specs.Nested.{spread}
use Rattle.scan_columns.specs.Texts.{text_vals}
use Rattle.scan_columns.proofs.TypedLemmas.{typed_length, typed_where, typed_slice, typed_append, typed_mask, typed_nulls, typed_here, drop_got}
use Rattle.scan_columns.proofs.NestedLemmas.{cuts_where, whole_where, cuts_slice, whole_slice, drop_sum, total_take, total_ordered, where_true, where_false}

pub texts_length : (ns es : List ℕ) (bs : List Bool) → length bs ≡ length ns → length (text_vals ns es bs) ≡ length ns
texts_length ns es bs h = typed_length text_val (cuts ns es) bs (h ∙ sym (cuts_length ns es)) ∙ cuts_length ns es

pub no_texts : AreTexts [] []
no_texts = (refl, refl)

pub text_nulls : (ns es : List ℕ) (bs : List Bool) → length bs ≡ length ns → map not bs ≡ map (λ v. is_nothing (marked v)) (text_vals ns es bs)
text_nulls ns es bs h = typed_nulls text_val (cuts ns es) bs (λ x. refl) (h ∙ sym (cuts_length ns es))

pub texts_here : (ns es : List ℕ) (bs : List Bool) → length bs ≡ length ns → bs ≡ map is_here (text_vals ns es bs)
texts_here ns es bs h = typed_here text_val (cuts ns es) bs (λ x. refl) (h ∙ sym (cuts_length ns es))

pub texts_mask : (ns es : List ℕ) (bs ms : List Bool) → length bs ≡ length ns → text_vals ns es (both_true bs ms) ≡ null_where_false ms (text_vals ns es bs)
texts_mask ns es bs ms h = typed_mask text_val (cuts ns es) bs ms (h ∙ sym (cuts_length ns es))

pub texts_where : (ms : List Bool) (ns es : List ℕ) (bs : List Bool) → length ms ≡ length ns → length bs ≡ length ns → total ns ≡ length es
    → text_vals (items_where_true ms ns) (items_where_true (spread ms ns) es) (items_where_true ms bs) ≡ items_where_true ms (text_vals ns es bs)
texts_where ms ns es bs h k e = (λ i. typed text_val (cuts_where ms ns es h e i) (items_where_true ms bs)) ∙ typed_where text_val ms (cuts ns es) bs (k ∙ sym (cuts_length ns es))

pub texts_slice : (i j : ℕ) (ns es : List ℕ) (bs : List Bool) → i ≤ j → length bs ≡ length ns
    → text_vals (slice_range ns i j) (slice_range es (total (take i ns)) (total (take j ns))) (slice_range bs i j) ≡ slice_range (text_vals ns es bs) i j
texts_slice i j ns es bs h e = (λ k. typed text_val (cuts_slice i j ns es h k) (slice_range bs i j)) ∙ typed_slice text_val i j (cuts ns es) bs (e ∙ sym (cuts_length ns es))

pub texts_append : (ns ks es fs : List ℕ) (bs cs : List Bool) → length bs ≡ length ns → total ns ≡ length es
    → text_vals (ns ++ ks) (es ++ fs) (bs ++ cs) ≡ text_vals ns es bs ++ text_vals ks fs cs
texts_append ns ks es fs bs cs h e = (λ i. typed text_val (cuts_append ns ks es fs e i) (bs ++ cs)) ∙ typed_append text_val (cuts ns es) (cuts ks fs) bs cs (h ∙ sym (cuts_length ns es))

-- ---- what is UTF-8 stays so
pub are_texts_append : (ns ks es fs : List ℕ) → AreTexts ns es → AreTexts ks fs → AreTexts (ns ++ ks) (es ++ fs)
are_texts_append ns ks es fs a b = pieces_append ns ks es fs a b

all_where : {A : Type 0} (p : A → Bool) (ms : List Bool) (xs : List A) → list_all p xs ≡ true → list_all p (items_where_true ms xs) ≡ true
all_where p [] xs h = refl
all_where p (m ∷ ms) [] h = refl
all_where p (true ∷ ms) (x ∷ xs) h = one (p x) (list_all p xs) (list_all p (items_where_true ms xs)) h (all_where p ms xs)
  where
    one : (a b c : Bool) → (a && b) ≡ true → (b ≡ true → c ≡ true) → (a && c) ≡ true
    one true b c h f = f h
    one false b c h f = absurd cc
all_where p (false ∷ ms) (x ∷ xs) h = all_where p ms xs (rest (p x) (list_all p xs) h)
  where
    rest : (a b : Bool) → (a && b) ≡ true → b ≡ true
    rest true b h = h
    rest false b h = absurd cc

all_drop : {A : Type 0} (p : A → Bool) (k : ℕ) (xs : List A) → list_all p xs ≡ true → list_all p (drop k xs) ≡ true
all_drop p zero xs h = h
all_drop p (suc k) [] h = refl
all_drop p (suc k) (x ∷ xs) h = all_drop p k xs (rest (p x) (list_all p xs) h)
  where
    rest : (a b : Bool) → (a && b) ≡ true → b ≡ true
    rest true b h = h
    rest false b h = absurd cc

all_take : {A : Type 0} (p : A → Bool) (k : ℕ) (xs : List A) → list_all p xs ≡ true → list_all p (take k xs) ≡ true
all_take p zero xs h = refl
all_take p (suc k) [] h = refl
all_take p (suc k) (x ∷ xs) h = one (p x) (list_all p xs) (list_all p (take k xs)) h (all_take p k xs)
  where
    one : (a b c : Bool) → (a && b) ≡ true → (b ≡ true → c ≡ true) → (a && c) ≡ true
    one true b c h f = f h
    one false b c h f = absurd cc

pub are_texts_where : (ms : List Bool) (ns es : List ℕ) → length ms ≡ length ns → AreTexts ns es → AreTexts (items_where_true ms ns) (items_where_true (spread ms ns) es)
are_texts_where ms ns es h a = (whole_where ms ns es h a.0, ap (list_all is_utf8) (cuts_where ms ns es h a.0) ∙ all_where is_utf8 ms (cuts ns es) a.1)

pub are_texts_slice : (i j : ℕ) (ns es : List ℕ) → i ≤ j → AreTexts ns es → AreTexts (slice_range ns i j) (slice_range es (total (take i ns)) (total (take j ns)))
are_texts_slice i j ns es h a = (whole_slice i j ns es h a.0, ap (list_all is_utf8) (cuts_slice i j ns es h) ∙ all_take is_utf8 (j - i) (drop i (cuts ns es)) (all_drop is_utf8 i (cuts ns es) a.1))

-- ---- one text
pub cut_within : (i j : ℕ) (ns es : List ℕ) → i ≤ j → total ns ≡ length es → (total (take i ns) ≤ total (take j ns)) × (total (take j ns) ≤ length es)
cut_within i j ns es h e = (total_ordered i j ns h, omega (arith, total_take j ns, e))

slice_sum : {A : Type 0} (n a b c d : ℕ) (xs : List A) → c ≡ n + a → d ≡ n + b → slice_range xs c d ≡ slice_range (drop n xs) a b
slice_sum n a b c d xs e f = let many : d - c ≡ b - a = omega (arith, e, f) in (λ i. take (many i) (drop_sum n a c xs e i))

pub cut_at : (ns es : List ℕ) (i j : ℕ) → i < length ns → j ≡ suc i → Some (slice_range es (total (take i ns)) (total (take j ns))) ≡ slice_get (cuts ns es) i
cut_at [] es i j h e = absurd (omega (arith, h))
cut_at (n ∷ ns) es i zero h e = absurd (omega (arith, e))
cut_at (n ∷ ns) es zero (suc j) h e =
    let none : j ≡ 0 = omega (arith, e) in
    let long : total (take (suc j) (n ∷ ns)) - 0 ≡ n = rw none (omega arith) in
    λ k. Some (take (long k) es)
cut_at (n ∷ ns) es (suc i) (suc j) h e =
    ap Some (slice_sum n (total (take i ns)) (total (take j ns)) (n + total (take i ns)) (n + total (take j ns)) es refl refl) ∙ cut_at ns (drop n es) i j (omega (arith, h)) (omega (arith, e))

pub text_there : (ns es t : List ℕ) (i : ℕ) → AreTexts ns es → Some t ≡ slice_get (cuts ns es) i → IsUtf8 t
text_there ns es t i a e = IsUtf8-from_is_utf8 t (all_at (cuts ns es) i t a.1 e)
  where
    all_at : (ts : List (List ℕ)) (i : ℕ) (t : List ℕ) → list_all is_utf8 ts ≡ true → Some t ≡ slice_get ts i → is_utf8 t ≡ true
    all_at [] i t h e = absurd cc
    all_at (u ∷ ts) zero t h e = let same : t ≡ u = cc in ap is_utf8 same ∙ first (is_utf8 u) (list_all is_utf8 ts) h
      where
        first : (a b : Bool) → (a && b) ≡ true → a ≡ true
        first true b h = refl
        first false b h = absurd cc
    all_at (u ∷ ts) (suc i) t h e = all_at ts i t (rest (is_utf8 u) (list_all is_utf8 ts) h) e
      where
        rest : (a b : Bool) → (a && b) ≡ true → b ≡ true
        rest true b h = h
        rest false b h = absurd cc

pub slot_at : (ns es t : List ℕ) (bs : List Bool) (i : ℕ) (d : Bool) → length bs ≡ length ns → Some t ≡ slice_get (cuts ns es) i → Some (cond (get_or bs i d) (text_val t) null_val) ≡ slice_get (text_vals ns es bs) i
slot_at ns es t bs i d h e = typed_slot (cuts ns es) bs i d t (h ∙ sym (cuts_length ns es)) e
  where
    typed_slot : (ts : List (List ℕ)) (bs : List Bool) (i : ℕ) (d : Bool) (t : List ℕ) → length bs ≡ length ts → Some t ≡ slice_get ts i → Some (cond (get_or bs i d) (text_val t) null_val) ≡ slice_get (typed text_val ts bs) i
    typed_slot [] bs i d t h e = absurd cc
    typed_slot (u ∷ ts) [] i d t h e = absurd (omega (arith, h))
    typed_slot (u ∷ ts) (b ∷ bs) zero d t h e = let same : t ≡ u = cc in λ k. Some (cond b (text_val (same k)) null_val)
    typed_slot (u ∷ ts) (b ∷ bs) (suc i) d t h e = typed_slot ts bs i d t (omega (arith, h)) e

-- ---- loops
pub value_step : (vs : List Val) (k : ℕ) (v : Val) (made : List Val) → Some v ≡ slice_get vs k → made ++ drop k vs ≡ vs → (made ++ (v ∷ [])) ++ drop (k + 1) vs ≡ vs
value_step vs k v made h inv = append_assoc made (v ∷ []) (drop (k + 1) vs) ∙ (λ i. made ++ sym (drop_got vs k (k + 1) v h refl) i) ∙ inv

-- a slot more, of those at which a mask is true
pub part_step : (start end : ℕ) (ends : List ℕ) (i : ℕ) (bits : List Bool) (bytes made : List ℕ) (whole : List ℕ) → i < length ends → i < length bits → end ≡ get_or ends i 0 → Rises start (drop i ends) → start + total (sizes start (drop i ends)) ≡ length bytes
    → made ++ items_where_true (spread (drop i bits) (sizes start (drop i ends))) (drop start bytes) ≡ whole
    → (start ≤ end) × (end ≤ length bytes) × Rises end (drop (i + 1) ends) × (end + total (sizes end (drop (i + 1) ends)) ≡ length bytes)
    × ((made ++ cond (get_or bits i false) (slice_range bytes start end) []) ++ items_where_true (spread (drop (i + 1) bits) (sizes end (drop (i + 1) ends))) (drop end bytes) ≡ whole)
part_step start end ends i bits bytes made whole low short e r w inv =
    let first : drop i ends ≡ end ∷ drop (i + 1) ends = rw (add-one, e) (drop-cons ends i 0 low) in
    let bit : drop i bits ≡ get_or bits i false ∷ drop (i + 1) bits = rw add-one (drop-cons bits i false short) in
    let rises : (start ≤ end) × Rises end (drop (i + 1) ends) = subst (λ ks. Rises start ks) first r in
    let many : start + ((end - start) + total (sizes end (drop (i + 1) ends))) ≡ length bytes = subst (λ ks. start + total (sizes start ks) ≡ length bytes) first w in
    let within : end ≤ length bytes = omega (arith, many, rises.0) in (
      rises.0,
      within,
      rises.1,
      omega (arith, many, rises.0),
      append_assoc made (cond (get_or bits i false) (slice_range bytes start end) []) (items_where_true (spread (drop (i + 1) bits) (sizes end (drop (i + 1) ends))) (drop end bytes))
          ∙ (λ k. made ++ one (get_or bits i false) (end - start) start end (spread (drop (i + 1) bits) (sizes end (drop (i + 1) ends))) bytes refl rises.0 within k)
          ∙ (λ k. made ++ items_where_true (spread (sym bit k) (sizes start (sym first k))) (drop start bytes)) ∙ inv,
    )
  where
    one : (b : Bool) (n start end : ℕ) (ms : List Bool) (bytes : List ℕ) → n ≡ end - start → start ≤ end → end ≤ length bytes
        → cond b (slice_range bytes start end) [] ++ items_where_true ms (drop end bytes) ≡ items_where_true (replicate n b ++ ms) (drop start bytes)
    one true n start end ms bytes e h k =
        let within : n ≤ length (drop start bytes) = omega (arith, e, h, k, length-drop start bytes) in
        (λ j. take (sym e j) (drop start bytes) ++ items_where_true ms (drop_sum start n end bytes (omega (arith, e, h)) j)) ∙ sym (where_true n ms (drop start bytes) within)
    one false n start end ms bytes e h k =
        let within : n ≤ length (drop start bytes) = omega (arith, e, h, k, length-drop start bytes) in
        (λ j. items_where_true ms (drop_sum start n end bytes (omega (arith, e, h)) j)) ∙ sym (where_false n ms (drop start bytes) within)

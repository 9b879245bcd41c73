-- The bytes of a run of numbers.
use Rattle.std.proofs.Common.{◌≡◌, ℕ, zero, suc, ◌+◌, ◌<◌, ◌≤◌, List, [], ◌∷◌, ◌++◌, length, map, take, drop, get_or, replicate, append_assoc, refl, sym, subst, ap, ◌∙◌, Bool, true, false, cond, arith, add-one, drop-cons, slice_range, Result, Ok, Err}
use Rattle.std.specs.Prelude.{ℤ, pos, OnOk, IfOk}
use Rattle.std.specs.List.{flat_map, items_where_true, list_all}
use Rattle.std.proofs.Math.ListN.{set, length-replicate}
use Rattle.std.proofs.lemmas.Grind.{take-set_at}
use Rattle.std.proofs.lemmas.List.{drop-set-lt}
use Rattle.std.proofs.lemmas.List.Concat.{flat_map-cons}
use Rattle.std.proofs.lemmas.List.Folds.{flat_map-map}
use Rattle.scan_values.specs.declared.ptype.PType.{PType}
use Rattle.scan_values.specs.declared.ptype.PType.TheVariants.{U8, U16, U32, U64, I8, I16, I32, I64}
use Rattle.scan_values.specs.declared.ptype.Nullability.{Nullability}
use Rattle.scan_values.specs.declared.ptype.Nullability.TheVariants.{NonNullable, Nullable}
use Rattle.scan_values.specs.declared.dtype.DTypeKind.{DTypeKind}
use Rattle.scan_values.specs.Val.{Val, null_val, int_val}
use Rattle.scan_spelling.specs.declared.spelling.Spelling.TheVariants.{One}
use Rattle.scan_spelling.specs.Spelling.{width}
use Rattle.scan_spelling.specs.Typed.{typed}
use Rattle.scan_spelling.specs.Written.{int_bytes, slots, flags, flag_of, slot_bytes, spelling_under}
use Rattle.scan_spelling.proofs.Columns.{whole_range}
use Rattle.scan_spelling.proofs.Runs.{where_all}
use Rattle.scan_widen.specs.Slots.{or_zero, bit, flags_before}

-- ---- in place
pub zero_step : (zs : List ℤ) (bs : List Bool) (i : ℕ) (x : ℤ) (whole : List ℤ) → i < length bs → length zs ≡ length bs → x ≡ get_or zs i x
    → take i zs ++ or_zero (drop i zs) (drop i bs) ≡ whole
    → take (i + 1) (set zs i (cond (get_or bs i false) x (pos 0))) ++ or_zero (drop (i + 1) (set zs i (cond (get_or bs i false) x (pos 0)))) (drop (i + 1) bs) ≡ whole
zero_step zs bs i x whole low even is inv =
    let b = get_or bs i false in
    let y : ℤ = cond b x (pos 0) in
    let inside : i < length zs = omega (arith, low, even) in
    let front : take (i + 1) (set zs i y) ≡ take i zs ++ y ∷ [] = take-set_at zs i (i + 1) y refl inside in
    let rest : drop (i + 1) (set zs i y) ≡ drop (i + 1) zs = drop-set-lt (i + 1) zs i y (omega arith) in
    let bits : drop i bs ≡ b ∷ drop (i + 1) bs = rw add-one (drop-cons bs i false low) in
    let items : drop i zs ≡ x ∷ drop (i + 1) zs = rw add-one (drop-cons zs i x inside ∙ (λ j. sym is j ∷ drop (suc i) zs)) in
    (λ j. front j ++ or_zero (rest j) (drop (i + 1) bs))
    ∙ append_assoc (take i zs) (y ∷ []) (or_zero (drop (i + 1) zs) (drop (i + 1) bs))
    ∙ (λ j. take i zs ++ or_zero (sym items j) (sym bits j))
    ∙ inv

pub zero_end : (zs : List ℤ) (bs : List Bool) (i : ℕ) (whole : List ℤ) → length bs ≤ i → length zs ≡ length bs → take i zs ++ or_zero (drop i zs) (drop i bs) ≡ whole → zs ≡ whole
zero_end zs bs i whole past even inv = sym (all zs i (omega (arith, past, even))) ∙ inv
  where
    all : (ys : List ℤ) (k : ℕ) → length ys ≤ k → take k ys ++ or_zero (drop k ys) (drop i bs) ≡ ys
    all [] zero h = refl
    all [] (suc k) h = refl
    all (y ∷ ys) zero h = absurd (omega (arith, h))
    all (y ∷ ys) (suc k) h = ap (λ zs. y ∷ zs) (all ys k (omega (arith, h)))

-- ---- bytes
pub on_bytes : {X E : Type 0} (r : Result X E) (new old x y : List ℕ) → x ≡ y → OnOk r (new ≡ old ++ x) → OnOk r (new ≡ old ++ y)
on_bytes r new old x y e h = subst (λ z. OnOk r (new ≡ old ++ z)) e h

same_words : (p q : PType) (zs : List ℤ) → ((z : ℤ) → int_bytes p z ≡ int_bytes q z) → flat_map (int_bytes p) zs ≡ flat_map (int_bytes q) zs
same_words p q [] h = refl
same_words p q (z ∷ zs) h = flat_map-cons (int_bytes p) z zs ∙ (λ i. h z i ++ same_words p q zs h i) ∙ sym (flat_map-cons (int_bytes q) z zs)

pub flat_words : (p q : PType) (zs : List ℤ) (ws : List (List ℕ)) → ws ≡ map (int_bytes p) zs → ((z : ℤ) → int_bytes p z ≡ int_bytes q z) → flat_map (λ x. x) ws ≡ flat_map (int_bytes q) zs
flat_words p q zs ws e h = ap (flat_map (λ x. x)) e ∙ flat_map-map (λ x. x) (int_bytes p) zs ∙ same_words p q zs h

zero_int : (p : PType) → int_bytes p (pos 0) ≡ replicate (width p) 0
zero_int U8 = refl
zero_int U16 = refl
zero_int U32 = refl
zero_int U64 = refl
zero_int I8 = refl
zero_int I16 = refl
zero_int I32 = refl
zero_int I64 = refl

one_slot : (p : PType) (b : Bool) (z : ℤ) → int_bytes p (cond b z (pos 0)) ≡ slot_bytes (DTypeKind.Primitive p) (cond b (int_val z) null_val)
one_slot p true z = refl
one_slot p false z = zero_int p

one_flag : (b : Bool) (z : ℤ) → bit b ≡ flag_of (cond b (int_val z) null_val)
one_flag true z = refl
one_flag false z = refl

run_slots : (p : PType) (zs : List ℤ) (bs : List Bool) → length bs ≡ length zs → flat_map (int_bytes p) (or_zero zs bs) ≡ slots (DTypeKind.Primitive p) (typed int_val zs bs)
run_slots p [] bs h = refl
run_slots p (z ∷ zs) [] h = absurd (omega (arith, h))
run_slots p (z ∷ zs) (b ∷ bs) h = flat_map-cons (int_bytes p) (cond b z (pos 0)) (or_zero zs bs) ∙ (λ i. one_slot p b z i ++ run_slots p zs bs (omega (arith, h)) i)

run_flags : (zs : List ℤ) (bs : List Bool) → length bs ≡ length zs → map bit bs ≡ flags (typed int_val zs bs)
run_flags [] [] h = refl
run_flags [] (b ∷ bs) h = absurd (omega (arith, h))
run_flags (z ∷ zs) [] h = absurd (omega (arith, h))
run_flags (z ∷ zs) (b ∷ bs) h = λ i. one_flag b z i ∷ run_flags zs bs (omega (arith, h)) i

pub run_bytes : (n : Nullability) (p : PType) (zs : List ℤ) (bs : List Bool) (vs : List Val) → length bs ≡ length zs → typed int_val zs bs ≡ vs → flags_before n (map bit bs) ++ flat_map (int_bytes p) (or_zero zs bs) ≡ spelling_under One n (DTypeKind.Primitive p) vs
run_bytes NonNullable p zs bs vs h e = run_slots p zs bs h ∙ ap (slots (DTypeKind.Primitive p)) e
run_bytes Nullable p zs bs vs h e = (λ i. run_flags zs bs h i ++ run_slots p zs bs h i) ∙ ap (λ us. flags us ++ slots (DTypeKind.Primitive p) us) e

-- ---- all rows
all_set : (n : ℕ) → list_all (λ b. b) (replicate n true) ≡ true
all_set zero = refl
all_set (suc n) = all_set n

pub all_rows : (vs : List Val) (ms : List Bool) (n : ℕ) → ms ≡ replicate n true → n ≡ length vs → items_where_true ms (slice_range vs 0 (0 + length ms)) ≡ vs
all_rows vs ms n e h =
    let long : length ms ≡ length vs = ap length e ∙ length-replicate n true ∙ h in
    ap (items_where_true ms) (whole_range vs (length ms) long)
    ∙ where_all ms vs long (ap (list_all (λ b. b)) e ∙ all_set n)

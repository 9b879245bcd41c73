-- Columns of one width, cut into segments.
use Rattle.std.proofs.Common.{◌≡◌, ℕ, zero, suc, ◌+◌, ◌-◌, ◌*◌, ◌<◌, ◌≤◌, min, pos, List, [], ◌∷◌, ◌++◌, map, take, drop, length, refl, sym, ap, ◌∙◌, subst, arith, Bool, length-append, append_assoc, add-zero, add-one, ◌%◌}
use Rattle.std.specs.Prelude.{slice_range}
use Rattle.std.specs.List.{flat_map}
use Rattle.std.proofs.Math.Nat.{mul-suc}
use Rattle.std.proofs.lemmas.List.{length-map}
use Rattle.std.proofs.Math.Seq.{drop-append-add, take-append-add, drop-nil, take-nil}
use Rattle.scan_values.specs.declared.ptype.PType.{PType}
use Rattle.scan_values.specs.declared.ptype.PType.TheVariants.{U8, U32}
use Rattle.scan_values.specs.declared.dtype.DTypeKind.{DTypeKind}
use Rattle.scan_values.specs.Selections.{numbers}
use Rattle.scan_values.specs.Val.{Val, int_val}
use Rattle.scan_spelling.specs.declared.spelling.Spelling.{Spelling}
use Rattle.scan_spelling.specs.declared.spelling.Spelling.TheVariants.{One, Two}
use Rattle.scan_spelling.specs.Written.{slots, slot_bytes, spelled}
use Rattle.scan_spelling.specs.Spelling.{width}
use Rattle.scan_spelling.proofs.RoundTrip.{int_bytes_length}
use Rattle.scan_run.specs.Generated.{id_of, element_of, elements_of, elements, offsets, offsets_from, pieces, piece_at, rows_of, numbered, number_type, spelled_piece, column_segments}
use Rattle.scan_run.specs.GeneratedBytes.{cut_bytes}
use Rattle.scan_run.proofs.Numbers.{numbers_step, count_numbers}
use Rattle.std.proofs.lemmas.List.FromFn.{length-map-range_with_len, length-range_with_len}

-- each slot has one width
abbrev pub AllWide : DTypeKind → ℕ → List Val → Type 0
AllWide k w [] = Unit {0}
AllWide k w (v ∷ vs) = (length (slot_bytes k v) ≡ w) × AllWide k w vs

pub wide_append : (k : DTypeKind) (w : ℕ) (us vs : List Val) → AllWide k w us → AllWide k w vs → AllWide k w (us ++ vs)
wide_append k w [] vs g h = h
wide_append k w (u ∷ us) vs g h = (g.0, wide_append k w us vs g.1 h)

pub wide_drop : (k : DTypeKind) (w i : ℕ) (vs : List Val) → AllWide k w vs → AllWide k w (drop i vs)
wide_drop k w zero vs h = h
wide_drop k w (suc i) [] h = tt
wide_drop k w (suc i) (v ∷ vs) h = wide_drop k w i vs h.1

pub wide_ids : (p : PType) (ns : List ℕ) → AllWide (DTypeKind.Primitive p) (width p) (map id_of ns)
wide_ids p [] = tt
wide_ids p (n ∷ ns) = (int_bytes_length p (pos n), wide_ids p ns)

wide_some : (p : PType) (g : ℕ) (js : List ℕ) → AllWide (DTypeKind.Primitive p) (width p) (map (element_of g) js)
wide_some p g [] = tt
wide_some p g (j ∷ js) = (int_bytes_length p _, wide_some p g js)

pub wide_elements : (p : PType) (ns : List ℕ) → AllWide (DTypeKind.Primitive p) (width p) (flat_map elements_of ns)
wide_elements p [] = tt
wide_elements p (n ∷ ns) = wide_append (DTypeKind.Primitive p) (width p) (elements_of n) (flat_map elements_of ns) (wide_some p n _) (wide_elements p ns)

pub wide_length : (k : DTypeKind) (w : ℕ) (vs : List Val) → AllWide k w vs → length (slots k vs) ≡ w * length vs
wide_length k w [] h = let e : 0 ≡ w * 0 = omega arith in e
wide_length k w (v ∷ vs) h =
    let e : w * suc (length vs) ≡ w * length vs + w = mul-suc w (length vs) in
    length-append (slot_bytes k v) (slots k vs) ∙ (ap (λ n. n + length (slots k vs)) h.0 ∙ (ap (λ n. w + n) (wide_length k w vs h.1) ∙ omega (arith, e)))

step_width : (w i m : ℕ) → m ≡ w → w * suc i ≡ m + w * i
step_width w i m e = let f : w * suc i ≡ w * i + w = mul-suc w i in omega (arith, f)

slots_drop : (k : DTypeKind) (w i : ℕ) (vs : List Val) → AllWide k w vs → drop (w * i) (slots k vs) ≡ slots k (drop i vs)
slots_drop k w zero vs h = let e : w * 0 ≡ 0 = omega arith in ap (λ n. drop n (slots k vs)) e
slots_drop k w (suc i) [] h = drop-nil (w * suc i)
slots_drop k w (suc i) (v ∷ vs) h =
    ap (λ n. drop n (slot_bytes k v ++ slots k vs)) (step_width w i (length (slot_bytes k v)) h.0)
    ∙ (drop-append-add (slot_bytes k v) (slots k vs) (w * i) ∙ slots_drop k w i vs h.1)

slots_take : (k : DTypeKind) (w i : ℕ) (vs : List Val) → AllWide k w vs → take (w * i) (slots k vs) ≡ slots k (take i vs)
slots_take k w zero vs h = let e : w * 0 ≡ 0 = omega arith in ap (λ n. take n (slots k vs)) e
slots_take k w (suc i) [] h = take-nil (w * suc i)
slots_take k w (suc i) (v ∷ vs) h =
    ap (λ n. take n (slot_bytes k v ++ slots k vs)) (step_width w i (length (slot_bytes k v)) h.0)
    ∙ (take-append-add (slot_bytes k v) (slots k vs) (w * i) ∙ ap (λ bs. slot_bytes k v ++ bs) (slots_take k w i vs h.1))

less_times : (w a b : ℕ) → w * b - w * a ≡ w * (b - a)
less_times w zero b =
    let e : w * (b - 0) ≡ w * b = ap (λ n. w * n) (omega arith) in
    let f : w * 0 ≡ 0 = omega arith in
    omega (arith, e, f)
less_times w (suc a) zero =
    let e : w * (0 - suc a) ≡ w * 0 = ap (λ n. w * n) (omega arith) in
    let f : w * 0 ≡ 0 = omega arith in
    omega (arith, e, f)
less_times w (suc a) (suc b) =
    let e : w * (suc b - suc a) ≡ w * (b - a) = ap (λ n. w * n) (omega arith) in
    let h : w * b - w * a ≡ w * (b - a) = less_times w a b in
    omega (arith, e, h, mul-suc w a, mul-suc w b)

cut_slots : (k : DTypeKind) (w : ℕ) (vs : List Val) (p : ℕ × ℕ) → AllWide k w vs → cut_bytes w (slots k vs) p ≡ slots k (slice_range vs p.0 p.1)
cut_slots k w vs p h =
    ap (λ n. take n (drop (w * p.0) (slots k vs))) (less_times w p.0 p.1)
    ∙ (ap (take (w * (p.1 - p.0))) (slots_drop k w p.0 vs h) ∙ slots_take k w (p.1 - p.0) (drop p.0 vs) (wide_drop k w p.0 vs h))

plain_spelled : (s : Spelling) (p : PType) (vs : List Val) → slots (DTypeKind.Primitive p) vs ≡ spelled s (number_type p) vs
plain_spelled One p vs = refl
plain_spelled Two p vs = refl

-- a column of integers is cut where its bytes are
pub plain_column : (s : Spelling) (p : PType) (vs : List Val) → AllWide (DTypeKind.Primitive p) (width p) vs
    → (cuts : List (ℕ × ℕ)) → map (cut_bytes (width p) (slots (DTypeKind.Primitive p) vs)) cuts ≡ map (spelled_piece s (number_type p) vs) cuts
plain_column s p vs h [] = refl
plain_column s p vs h (c ∷ cuts) =
    ap (λ b. b ∷ map (cut_bytes (width p) (slots (DTypeKind.Primitive p) vs)) cuts) (cut_slots (DTypeKind.Primitive p) (width p) vs c h ∙ plain_spelled s p (slice_range vs c.0 c.1))
    ∙ ap (λ bs. spelled_piece s (number_type p) vs c ∷ bs) (plain_column s p vs h cuts)

-- ---- the numbers of segments

pub pieces_step : (first m a b : ℕ) → a < b → numbered (first + a) (map rows_of (map (piece_at m) (numbers a b)))
    ≡ (first + a, rows_of (piece_at m a)) ∷ [] ++ numbered (first + (a + 1)) (map rows_of (map (piece_at m) (numbers (a + 1) b)))
pieces_step first m a b h =
    let e : first + a + 1 ≡ first + (a + 1) = omega arith in
    ap (λ ns. numbered (first + a) (map rows_of (map (piece_at m) ns))) (numbers_step a b h)
    ∙ ap (λ k. (first + a, rows_of (piece_at m a)) ∷ numbered k (map rows_of (map (piece_at m) (numbers (a + 1) b)))) e

pub length_offsets : (here : ℕ) (ms : List ℕ) → length (offsets_from here ms) ≡ length ms + 1
length_offsets here [] = refl
length_offsets here (m ∷ ms) = let e = length_offsets (here + m) ms in omega (arith, e)

pub count_offsets : (first n : ℕ) → length (offsets first n) ≡ n + 1
count_offsets first n =
    length-map _ _
    ∙ (length_offsets 0 (map (λ g. g % 4) (numbers first (first + n))) ∙ ap (λ m. m + 1) (count_numbers (λ g. g % 4) first n))

-- a column was pushed, of which these are the bytes
pub column_added : (s : Spelling) (p : PType) (vs : List Val) (old new : List (List ℕ)) (bytes : List ℕ) (rows : ℕ) → AllWide (DTypeKind.Primitive p) (width p) vs
    → bytes ≡ slots (DTypeKind.Primitive p) vs → length vs ≡ rows → new ≡ old ++ map (cut_bytes (width p) bytes) (pieces rows) → new ≡ old ++ column_segments s (number_type p) vs
column_added s p vs old new bytes rows h e n q =
    q ∙ (ap (λ bs. old ++ map (cut_bytes (width p) bs) (pieces rows)) e
    ∙ (ap (λ m. old ++ map (cut_bytes (width p) (slots (DTypeKind.Primitive p) vs)) (pieces m)) (sym n)
    ∙ ap (λ xs. old ++ xs) (plain_column s p vs h (pieces (length vs)))))

-- there are at most three elements a row
pub few_elements : (ns : List ℕ) → length (flat_map elements_of ns) ≤ 3 * length ns
few_elements [] = omega arith
few_elements (n ∷ ns) =
    let h = few_elements ns in
    let e : length (elements_of n) ≡ n % 4 - 0 = length-map-range_with_len (element_of n) 0 (n % 4 - 0) in
    let f : length (elements_of n ++ flat_map elements_of ns) ≡ length (elements_of n) + length (flat_map elements_of ns) = length-append (elements_of n) (flat_map elements_of ns) in
    omega (arith, h, e, f)

pub elements_short : (first n : ℕ) → length (elements first n) ≤ 3 * n
elements_short first n =
    let h = few_elements (numbers first (first + n)) in
    let e : length (numbers first (first + n)) ≡ first + n - first = length-range_with_len first (first + n - first) in
    omega (arith, h, e)

pub written_long : (written : List ℕ) (first n : ℕ) → written ≡ slots (DTypeKind.Primitive U8) (elements first n) → length written ≡ length (elements first n)
written_long written first n e =
    let h = wide_length (DTypeKind.Primitive U8) 1 (elements first n) (wide_elements U8 (numbers first (first + n))) in
    ap length e ∙ (h ∙ omega arith)

pub four_parts : {A : Type 0} (a b d e f w x y z : List A) → a ≡ [] → b ≡ a ++ w → d ≡ b ++ x → e ≡ d ++ y → f ≡ e ++ z → f ≡ w ++ (x ++ (y ++ z))
four_parts a b d e f w x y z p q r s t =
    let one : b ≡ w = q ∙ ap (λ v. v ++ w) p in
    let two : d ≡ w ++ x = r ∙ ap (λ v. v ++ x) one in
    let three : e ≡ (w ++ x) ++ y = s ∙ ap (λ v. v ++ y) two in
    let four : f ≡ ((w ++ x) ++ y) ++ z = t ∙ ap (λ v. v ++ z) three in
    four ∙ (append_assoc (w ++ x) y z ∙ append_assoc w x (y ++ z))

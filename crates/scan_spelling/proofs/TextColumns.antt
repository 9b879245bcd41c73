-- Segments of texts: which are spellings, and where a value stands.
use Rattle.std.proofs.Common.{◌≡◌, ℕ, zero, suc, ◌+◌, ◌-◌, ◌<◌, ◌≤◌, List, [], ◌∷◌, ◌++◌, length, get_or, take, drop, arith, refl, sym, ◌∙◌, ap, subst, false, true, Option, Some, None, is_some, slice_get, drop-drop, length-append, append_assoc, append-nil, drop-cons, add-one}
use Rattle.std.specs.Prelude.{option_map, option_and_then}
use Rattle.std.proofs.lemmas.List.{length-drop}
use Rattle.std.proofs.lemmas.Option.{slice_get-get_or}
use Rattle.std.specs.Int.{w32, from_le_bytes}
use Rattle.scan_values.specs.declared.dtype.DTypeKind.{DTypeKind}
use Rattle.scan_values.specs.Val.{Val, null_val}
use Rattle.scan_spelling.specs.Spelling.{part, framed, content, under_flag, cell, cells}
use Rattle.scan_spelling.specs.TextColumns.{ends_of, start_of, text_at}
use Rattle.scan_spelling.proofs.Lengths.{bind_some, map_some}
use Rattle.scan_spelling.proofs.Relation.{part_is}

-- ---- the ends are there where the values are
ends_none : (o : Option (List Val)) (e : Option (List ℕ)) (w : Option Val) (rest : List ℕ) (at : ℕ) (f : List ℕ → List ℕ) → is_some o ≡ is_some e →
    is_some (option_and_then {T = Val × List ℕ} (λ x. option_map (λ vs. x.0 ∷ vs) o) (option_map (λ v. (v, rest)) w)) ≡ is_some (option_and_then (λ v. option_map f e) w)
ends_none o e None rest at f h = refl
ends_none None None (Some v) rest at f h = refl
ends_none None (Some es) (Some v) rest at f h = absurd cc
ends_none (Some vs) None (Some v) rest at f h = absurd cc
ends_none (Some vs) (Some es) (Some v) rest at f h = refl

over_frame : (at flag : ℕ) (flags : List ℕ) (o : Option (List ℕ × List ℕ)) → ((at : ℕ) (bytes : List ℕ) → is_some (cells DTypeKind.Utf8 flags bytes) ≡ is_some (ends_of at flags bytes)) →
    is_some (option_and_then {T = Val × List ℕ} (λ x. option_map (λ vs. x.0 ∷ vs) (cells DTypeKind.Utf8 flags x.1)) (option_and_then {T = List ℕ × List ℕ} (λ p. option_map (λ v. (v, p.1)) (under_flag flag (content DTypeKind.Utf8 p.0))) o))
    ≡ is_some (option_and_then {T = List ℕ × List ℕ} (λ p. option_and_then (λ v. option_map (λ es. (at + 4 + length p.0) ∷ es) (ends_of (at + 4 + length p.0) flags p.1)) (under_flag flag (content DTypeKind.Utf8 p.0))) o)
over_frame at flag flags None h = refl
over_frame at flag flags (Some p) h = over_value (under_flag flag (content DTypeKind.Utf8 p.0))
  where
    over_value : (w : Option Val) →
        is_some (option_and_then {T = Val × List ℕ} (λ x. option_map (λ vs. x.0 ∷ vs) (cells DTypeKind.Utf8 flags x.1)) (option_map (λ v. (v, p.1)) w))
        ≡ is_some (option_and_then (λ v. option_map (λ es. (at + 4 + length p.0) ∷ es) (ends_of (at + 4 + length p.0) flags p.1)) w)
    over_value None = refl
    over_value (Some v) = ends_none (cells DTypeKind.Utf8 flags p.1) (ends_of (at + 4 + length p.0) flags p.1) (Some v) p.1 at (λ es. (at + 4 + length p.0) ∷ es) (h (at + 4 + length p.0) p.1)

pub ends_there : (at : ℕ) (flags bytes : List ℕ) → is_some (cells DTypeKind.Utf8 flags bytes) ≡ is_some (ends_of at flags bytes)
ends_there at [] [] = refl
ends_there at [] (b ∷ bytes) = refl
ends_there at (flag ∷ flags) bytes = over_frame at flag flags (framed bytes) (λ n more. ends_there n flags more)

-- ---- a frame's bytes
frame_is : (bytes text rest : List ℕ) → framed bytes ≡ Some (text, rest) → (head : List ℕ) × (length head ≡ 4) × (bytes ≡ head ++ (text ++ rest))
frame_is bytes text rest h =
    let split = bind_some (part 4 bytes) (λ p. part (from_le_bytes w32 p.0) p.1) (text, rest) h in
    let one = part_is 4 bytes split.0.0 split.0.1 split.1 in
    let two = part_is (from_le_bytes w32 split.0.0) split.0.1 text rest split.2 in
    (split.0.0, one.1, one.0 ∙ ap (λ s. split.0.0 ++ s) two.0)

drop_front : (xs ys : List ℕ) → drop (length xs) (xs ++ ys) ≡ ys
drop_front [] ys = refl
drop_front (x ∷ xs) ys = drop_front xs ys

take_front : (xs ys : List ℕ) → take (length xs) (xs ++ ys) ≡ xs
take_front [] ys = refl
take_front (x ∷ xs) ys = ap (λ zs. x ∷ zs) (take_front xs ys)

-- the text of the first slot, and the bytes after it
frame_text : (bytes text rest : List ℕ) → framed bytes ≡ Some (text, rest) → take (length text) (drop 4 bytes) ≡ text
frame_text bytes text rest h =
    let is = frame_is bytes text rest h in
    ap (λ s. take (length text) (drop 4 s)) is.2
    ∙ ap (λ n. take (length text) (drop n (is.0 ++ (text ++ rest)))) (sym is.1)
    ∙ ap (take (length text)) (drop_front is.0 (text ++ rest)) ∙ take_front text rest

frame_rest : (bytes text rest : List ℕ) → framed bytes ≡ Some (text, rest) → drop (4 + length text) bytes ≡ rest
frame_rest bytes text rest h =
    let is = frame_is bytes text rest h in
    sym (drop-drop (length text) 4 bytes)
    ∙ ap (λ s. drop (length text) (drop 4 s)) is.2
    ∙ ap (λ n. drop (length text) (drop n (is.0 ++ (text ++ rest)))) (sym is.1)
    ∙ ap (drop (length text)) (drop_front is.0 (text ++ rest)) ∙ drop_front text rest

some_same : {p q : List ℕ × List ℕ} → Some p ≡ Some q → p ≡ q
some_same s = cc

at_row : (whole : List ℕ) (flag : ℕ) (flags bytes : List ℕ) (from : ℕ) (w : bytes ≡ drop from whole) (text rest : List ℕ) (v : Val) (us : List Val) (ends : List ℕ) (j : ℕ) → j < length (flag ∷ flags) → framed bytes ≡ Some (text, rest) → under_flag flag (content DTypeKind.Utf8 text) ≡ Some v →
    ((more : ℕ) → rest ≡ drop (from + 4 + length text) whole → more < length flags →
    under_flag (get_or flags more 0) (content DTypeKind.Utf8 (take (get_or ends more 0 - (get_or ((from + 4 + length text) ∷ ends) more 0 + 4)) (drop (get_or ((from + 4 + length text) ∷ ends) more 0 + 4) whole))) ≡ slice_get us more) →
    under_flag (get_or (flag ∷ flags) j 0) (content DTypeKind.Utf8 (take (get_or ((from + 4 + length text) ∷ ends) j 0 - (get_or (from ∷ (from + 4 + length text) ∷ ends) j 0 + 4)) (drop (get_or (from ∷ (from + 4 + length text) ∷ ends) j 0 + 4) whole))) ≡ slice_get (v ∷ us) j
at_row whole flag flags bytes from w text rest v us ends zero l f here k =
    let size : (from + 4 + length text) - (from + 4) ≡ length text = omega arith in
    ap (λ n. under_flag flag (content DTypeKind.Utf8 (take n (drop (from + 4) whole)))) size
    ∙ ap (λ s. under_flag flag (content DTypeKind.Utf8 (take (length text) s))) (sym (drop-drop 4 from whole) ∙ ap (drop 4) (sym w))
    ∙ ap (λ s. under_flag flag (content DTypeKind.Utf8 s)) (frame_text bytes text rest f) ∙ here
at_row whole flag flags bytes from w text rest v us ends (suc j) l f here k =
    let place : rest ≡ drop (from + 4 + length text) whole =
    sym (frame_rest bytes text rest f) ∙ ap (drop (4 + length text)) w ∙ drop-drop (4 + length text) from whole ∙ ap (λ n. drop n whole) (omega arith) in
    k j place (omega arith)

-- ---- where a value stands: the bytes are those of the whole from a place on
pub text_place : (whole flags bytes : List ℕ) (from : ℕ) (vs : List Val) (es : List ℕ) (i : ℕ) →
    bytes ≡ drop from whole → cells DTypeKind.Utf8 flags bytes ≡ Some vs → ends_of from flags bytes ≡ Some es → i < length flags →
    under_flag (get_or flags i 0) (content DTypeKind.Utf8 (take (get_or es i 0 - (get_or (from ∷ es) i 0 + 4)) (drop (get_or (from ∷ es) i 0 + 4) whole))) ≡ slice_get vs i
text_place whole [] bytes from vs es i w h e low = absurd (omega arith)
text_place whole (flag ∷ flags) bytes from vs es i w h e low =
    let first = bind_some (cell DTypeKind.Utf8 flag bytes) (λ x. option_map (λ us. x.0 ∷ us) (cells DTypeKind.Utf8 flags x.1)) vs h in
    let others = map_some (cells DTypeKind.Utf8 flags first.0.1) (λ us. first.0.0 ∷ us) vs first.2 in
    let read = bind_some (framed bytes) (λ p. option_map (λ v. (v, p.1)) (under_flag flag (content DTypeKind.Utf8 p.0))) first.0 first.1 in
    let value = map_some (under_flag flag (content DTypeKind.Utf8 read.0.0)) (λ v. (v, read.0.1)) first.0 read.2 in
    let ends = bind_some (framed bytes) (λ p. option_and_then (λ v. option_map (λ us. (from + 4 + length p.0) ∷ us) (ends_of (from + 4 + length p.0) flags p.1)) (under_flag flag (content DTypeKind.Utf8 p.0))) es e in
    let one : ends.0 ≡ read.0 = some_same (sym ends.1 ∙ read.1) in
    let more = bind_some (under_flag flag (content DTypeKind.Utf8 ends.0.0)) (λ v. option_map (λ us. (from + 4 + length ends.0.0) ∷ us) (ends_of (from + 4 + length ends.0.0) flags ends.0.1)) es ends.2 in
    let after = map_some (ends_of (from + 4 + length ends.0.0) flags ends.0.1) (λ us. (from + 4 + length ends.0.0) ∷ us) es more.2 in
    let here : under_flag flag (content DTypeKind.Utf8 ends.0.0) ≡ Some first.0.0 = ap (λ q. under_flag flag (content DTypeKind.Utf8 q.0)) one ∙ value.1 ∙ ap (λ x. Some x.0) value.2 in
    let next : ends.0.1 ≡ first.0.1 = ap (λ q. q.1) one ∙ ap (λ x. x.1) value.2 in
    subst (λ us. under_flag (get_or (flag ∷ flags) i 0) (content DTypeKind.Utf8 (take (get_or us i 0 - (get_or (from ∷ us) i 0 + 4)) (drop (get_or (from ∷ us) i 0 + 4) whole))) ≡ slice_get vs i) after.2
    (subst (λ us. under_flag (get_or (flag ∷ flags) i 0) (content DTypeKind.Utf8 (take (get_or ((from + 4 + length ends.0.0) ∷ after.0) i 0 - (get_or (from ∷ (from + 4 + length ends.0.0) ∷ after.0) i 0 + 4)) (drop (get_or (from ∷ (from + 4 + length ends.0.0) ∷ after.0) i 0 + 4) whole)))
    ≡ slice_get us i) others.2
    (at_row whole flag flags bytes from w ends.0.0 ends.0.1 first.0.0 others.0 after.0 i low ends.1 here
    (λ j place inside. text_place whole flags ends.0.1 (from + 4 + length ends.0.0) others.0 after.0 j place (subst (λ b. cells DTypeKind.Utf8 flags b ≡ Some others.0) (sym next) others.1) after.1 inside)))

-- ---- ends one by one
abbrev pub with_ends : List ℕ → Option (List ℕ) → Option (List ℕ)
with_ends front o = option_map (λ es. front ++ es) o

joined : (front : List ℕ) (e : ℕ) (o : Option (List ℕ)) → with_ends front (option_map (λ es. e ∷ es) o) ≡ with_ends (front ++ e ∷ []) o
joined front e None = refl
joined front e (Some es) = ap Some (sym (append_assoc front (e ∷ []) es))

valued : (front : List ℕ) (e : ℕ) (o : Option (List ℕ)) (w : Option Val) → is_some w ≡ true → with_ends front (option_and_then (λ v. option_map (λ es. e ∷ es) o) w) ≡ with_ends (front ++ e ∷ []) o
valued front e o None h = absurd cc
valued front e o (Some v) h = joined front e o

unvalued : (front : List ℕ) (e : ℕ) (o : Option (List ℕ)) (w : Option Val) → is_some w ≡ false → with_ends front (option_and_then (λ v. option_map (λ es. e ∷ es) o) w) ≡ None
unvalued front e o None h = refl
unvalued front e o (Some v) h = absurd cc

pub ends_pushed : (front : List ℕ) (at : ℕ) (flags : List ℕ) (i : ℕ) (rest text after : List ℕ) → i < length flags → framed rest ≡ Some (text, after) → is_some (under_flag (get_or flags i 0) (content DTypeKind.Utf8 text)) ≡ true →
    with_ends front (ends_of at (drop i flags) rest) ≡ with_ends (front ++ (at + 4 + length text) ∷ []) (ends_of (at + 4 + length text) (drop (i + 1) flags) after)
ends_pushed front at flags i rest text after low f h =
    rw (drop-cons flags i 0 low, add-one, f)
    (valued front (at + 4 + length text) (ends_of (at + 4 + length text) (drop (suc i) flags) after) (under_flag (get_or flags i 0) (content DTypeKind.Utf8 text)) h)

pub ends_refused : (front : List ℕ) (at : ℕ) (flags : List ℕ) (i : ℕ) (rest text after : List ℕ) → i < length flags → framed rest ≡ Some (text, after) → is_some (under_flag (get_or flags i 0) (content DTypeKind.Utf8 text)) ≡ false →
    with_ends front (ends_of at (drop i flags) rest) ≡ None
ends_refused front at flags i rest text after low f h =
    rw (drop-cons flags i 0 low, f)
    (unvalued front (at + 4 + length text) (ends_of (at + 4 + length text) (drop (suc i) flags) after) (under_flag (get_or flags i 0) (content DTypeKind.Utf8 text)) h)

pub ends_unframed : (front : List ℕ) (at : ℕ) (flags : List ℕ) (i : ℕ) (rest : List ℕ) → i < length flags → framed rest ≡ None → with_ends front (ends_of at (drop i flags) rest) ≡ None
ends_unframed front at flags i rest low f = rw (drop-cons flags i 0 low, f) refl

pub ends_end : (front : List ℕ) (at : ℕ) (flags : List ℕ) (i : ℕ) (rest : List ℕ) → length flags ≤ i → length rest ≡ 0 → with_ends front (ends_of at (drop i flags) rest) ≡ Some front
ends_end front at [] zero [] h e = ap Some (append-nil front)
ends_end front at [] (suc i) [] h e = ap Some (append-nil front)
ends_end front at [] i (b ∷ rest) h e = absurd (omega arith)
ends_end front at (x ∷ flags) zero rest h e = absurd (omega arith)
ends_end front at (x ∷ flags) (suc i) rest h e = ends_end front at flags i rest (omega arith) e

pub ends_more : (front : List ℕ) (at : ℕ) (flags : List ℕ) (i : ℕ) (rest : List ℕ) → length flags ≤ i → (length rest ≡ 0 → ⊥) → with_ends front (ends_of at (drop i flags) rest) ≡ None
ends_more front at [] zero [] h n = absurd (n refl)
ends_more front at [] (suc i) [] h n = absurd (n refl)
ends_more front at [] zero (b ∷ rest) h n = refl
ends_more front at [] (suc i) (b ∷ rest) h n = refl
ends_more front at (x ∷ flags) zero rest h n = absurd (omega arith)
ends_more front at (x ∷ flags) (suc i) rest h n = ends_more front at flags i rest (omega arith) n

-- a slot's bytes leave the place within the whole
pub frame_size : (bytes text rest : List ℕ) → framed bytes ≡ Some (text, rest) → length bytes ≡ 4 + length text + length rest
frame_size bytes text rest h =
    let is = frame_is bytes text rest h in
    omega (arith, is.1, ap length is.2, length-append is.0 (text ++ rest), length-append text rest)

-- a slot's bytes are within the whole
place_of : (whole bytes : List ℕ) (from : ℕ) → bytes ≡ drop from whole → 0 < length bytes → from + length bytes ≤ length whole
place_of whole bytes from w h = let same : length bytes ≡ length (drop from whole) = ap length w in omega (arith, same, length-drop from whole)

within_row : (whole flags bytes : List ℕ) (from : ℕ) (w : bytes ≡ drop from whole) (text rest ends : List ℕ) (j : ℕ) → j < suc (length flags) → framed bytes ≡ Some (text, rest) →
    ((more : ℕ) → rest ≡ drop (from + 4 + length text) whole → more < length flags → (get_or ((from + 4 + length text) ∷ ends) more 0 + 4 ≤ get_or ends more 0) × (get_or ends more 0 ≤ length whole)) →
    (get_or (from ∷ (from + 4 + length text) ∷ ends) j 0 + 4 ≤ get_or ((from + 4 + length text) ∷ ends) j 0) × (get_or ((from + 4 + length text) ∷ ends) j 0 ≤ length whole)
within_row whole flags bytes from w text rest ends zero l f k =
    let size : length bytes ≡ 4 + length text + length rest = frame_size bytes text rest f in
    let inside : from + length bytes ≤ length whole = place_of whole bytes from w (omega (arith, size)) in
    (omega arith, omega (arith, size, inside))
within_row whole flags bytes from w text rest ends (suc j) l f k =
    let place : rest ≡ drop (from + 4 + length text) whole =
    sym (frame_rest bytes text rest f) ∙ ap (drop (4 + length text)) w ∙ drop-drop (4 + length text) from whole ∙ ap (λ n. drop n whole) (omega arith) in
    k j place (omega arith)

pub text_within : (whole flags bytes : List ℕ) (from : ℕ) (es : List ℕ) (i : ℕ) → bytes ≡ drop from whole → ends_of from flags bytes ≡ Some es → i < length flags →
    (get_or (from ∷ es) i 0 + 4 ≤ get_or es i 0) × (get_or es i 0 ≤ length whole)
text_within whole [] bytes from es i w e low = absurd (omega arith)
text_within whole (flag ∷ flags) bytes from es i w e low =
    let ends = bind_some (framed bytes) (λ p. option_and_then (λ v. option_map (λ us. (from + 4 + length p.0) ∷ us) (ends_of (from + 4 + length p.0) flags p.1)) (under_flag flag (content DTypeKind.Utf8 p.0))) es e in
    let more = bind_some (under_flag flag (content DTypeKind.Utf8 ends.0.0)) (λ v. option_map (λ us. (from + 4 + length ends.0.0) ∷ us) (ends_of (from + 4 + length ends.0.0) flags ends.0.1)) es ends.2 in
    let after = map_some (ends_of (from + 4 + length ends.0.0) flags ends.0.1) (λ us. (from + 4 + length ends.0.0) ∷ us) es more.2 in
    subst (λ us. (get_or (from ∷ us) i 0 + 4 ≤ get_or us i 0) × (get_or us i 0 ≤ length whole)) after.2
    (within_row whole flags bytes from w ends.0.0 ends.0.1 after.0 i low ends.1
    (λ j place inside. text_within whole flags ends.0.1 (from + 4 + length ends.0.0) after.0 j place after.1 inside))

pub ends_length : (from : ℕ) (flags bytes es : List ℕ) → ends_of from flags bytes ≡ Some es → length es ≡ length flags
ends_length from [] [] es e = let same : [] ≡ es = cc in ap length (sym same)
ends_length from [] (b ∷ bytes) es e = absurd cc
ends_length from (flag ∷ flags) bytes es e =
    let ends = bind_some (framed bytes) (λ p. option_and_then (λ v. option_map (λ us. (from + 4 + length p.0) ∷ us) (ends_of (from + 4 + length p.0) flags p.1)) (under_flag flag (content DTypeKind.Utf8 p.0))) es e in
    let more = bind_some (under_flag flag (content DTypeKind.Utf8 ends.0.0)) (λ v. option_map (λ us. (from + 4 + length ends.0.0) ∷ us) (ends_of (from + 4 + length ends.0.0) flags ends.0.1)) es ends.2 in
    let after = map_some (ends_of (from + 4 + length ends.0.0) flags ends.0.1) (λ us. (from + 4 + length ends.0.0) ∷ us) es more.2 in
    sym (ap length after.2) ∙ ap suc (ends_length (from + 4 + length ends.0.0) flags ends.0.1 after.0 after.1)

module _ (flags bytes : List ℕ) (vs : List Val) (ends : List ℕ) (i : ℕ) (h : cells DTypeKind.Utf8 flags bytes ≡ Some vs) (e : ends_of 0 flags bytes ≡ Some ends) (low : i < length flags) where
  pub row_place : under_flag (get_or flags i 0) (content DTypeKind.Utf8 (text_at ends bytes i)) ≡ slice_get vs i
  row_place = text_place bytes flags bytes 0 vs ends i refl h e low

  pub row_start : start_of ends i + 4 ≤ get_or ends i 0
  row_start = (text_within bytes flags bytes 0 ends i refl e low).0

  pub row_end : get_or ends i 0 ≤ length bytes
  row_end = (text_within bytes flags bytes 0 ends i refl e low).1

pub value_there : (o : Option Val) (vs : List Val) (i : ℕ) → o ≡ slice_get vs i → i < length vs → is_some o ≡ true
value_there o vs i e low = ap is_some (e ∙ slice_get-get_or vs i null_val low)

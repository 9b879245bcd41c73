-- The heads of fields, and the heads within heads.
use Rattle.std.proofs.Common.{◌≡◌, ℕ, zero, suc, ◌+◌, ◌<◌, ◌≤◌, ◌==◌, Bool, true, false, List, [], ◌∷◌, ◌++◌, length, take, get_or, map, refl, sym, ap, ◌∙◌, arith, Option, Some, None, option_map, subst, unwrap_or}
use Rattle.std.specs.Prelude.{slice_get}
use Rattle.std.proofs.lemmas.List.{take_more}
use Rattle.scan_values.specs.DataType.{DataType, Name, Fields, no_fields, field, bool_type, int_type, utf8_type, list_type, struct_type, fields_of, size_of, fields_size}
use Rattle.scan_values.specs.FieldLists.{names_of, dtypes_of}
use Rattle.scan_values.specs.Kinds.{element_of, struct_fields_of}
use Rattle.scan_lines.specs.Line.{element_in, fields_in}
use Rattle.scan_lines.specs.Heads.{head_text, heads_of, head_texts, names_in, dtypes_in, parts_of}
use Rattle.scan_lines.proofs.Texts.{is_first, first_is}

-- ---- one field of a struct
heads_there : (b : Bool) (fs : Fields) (k : ℕ) (t : List ℕ) (p : DataType) → k < length (head_texts b (names_in fs)) → t ≡ get_or (head_texts b (names_in fs)) k t
    → p ≡ get_or (dtypes_in fs) k p → Some (t, p) ≡ slice_get (heads_of b fs) k
heads_there b no_fields k t p lt ht hp = absurd (omega (arith, lt))
heads_there b (field n d fs) zero t p lt ht hp = λ i. Some (ht i, hp i)
heads_there b (field n d fs) (suc k) t p lt ht hp = heads_there false fs k t p (omega (arith, lt)) ht hp

heads_past : (b : Bool) (fs : Fields) (k : ℕ) → length (head_texts b (names_in fs)) ≤ k → None ≡ slice_get (heads_of b fs) k
heads_past b no_fields k le = refl
heads_past b (field n d fs) zero le = absurd (omega (arith, le))
heads_past b (field n d fs) (suc k) le = heads_past false fs k (omega (arith, le))

heads_many : (b : Bool) (fs : Fields) → length (head_texts b (names_in fs)) ≡ length (dtypes_in fs)
heads_many b no_fields = refl
heads_many b (field n d fs) = λ i. suc (heads_many false fs i)

pub parts_many : (d : DataType) (texts : List (List ℕ)) (parts : List DataType) → parts ≡ parts_of d → texts ≡ head_texts true (names_in (fields_in d)) → length texts ≤ length parts
parts_many (bool_type n) texts parts hp ht = let e = ap length ht in omega (arith, e)
parts_many (int_type p n) texts parts hp ht = let e = ap length ht in omega (arith, e)
parts_many (utf8_type n) texts parts hp ht = let e = ap length ht in omega (arith, e)
parts_many (list_type d n) texts parts hp ht = let e = ap length ht in omega (arith, e)
parts_many (struct_type fs n) texts parts hp ht = let e = ap length ht in let p = ap length hp in omega (arith, e, p, heads_many true fs)

pub field_there : (d : DataType) (texts : List (List ℕ)) (parts : List DataType) (k : ℕ) (t : List ℕ) (p : DataType) → parts ≡ parts_of d → texts ≡ head_texts true (names_in (fields_in d))
    → k < length texts → t ≡ get_or texts k t → p ≡ get_or parts k p → Some (t, p) ≡ slice_get (heads_of true (fields_in d)) k
field_there (bool_type n) texts parts k t p hp ht lt et ep = absurd (let e = ap length ht in omega (arith, e, lt))
field_there (int_type q n) texts parts k t p hp ht lt et ep = absurd (let e = ap length ht in omega (arith, e, lt))
field_there (utf8_type n) texts parts k t p hp ht lt et ep = absurd (let e = ap length ht in omega (arith, e, lt))
field_there (list_type d n) texts parts k t p hp ht lt et ep = absurd (let e = ap length ht in omega (arith, e, lt))
field_there (struct_type fs n) texts parts k t p hp ht lt et ep =
    heads_there true fs k t p (let e = ap length ht in omega (arith, e, lt)) (et ∙ ap (λ xs. get_or xs k t) ht) (ep ∙ ap (λ xs. get_or xs k p) hp)

pub field_past : (d : DataType) (texts : List (List ℕ)) (k : ℕ) → texts ≡ head_texts true (names_in (fields_in d)) → length texts ≤ k → None ≡ slice_get (heads_of true (fields_in d)) k
field_past d texts k ht le = heads_past true (fields_in d) k (let e = ap length ht in omega (arith, e, le))

-- ---- the element of a list
pub element_there : (d : DataType) (parts : List DataType) (e : DataType) → parts ≡ parts_of d → Some e ≡ element_of d → 0 < length parts
element_there (bool_type n) parts e hp is = absurd cc
element_there (int_type p n) parts e hp is = absurd cc
element_there (utf8_type n) parts e hp is = absurd cc
element_there (list_type d n) parts e hp is = let l = ap length hp in omega (arith, l)
element_there (struct_type fs n) parts e hp is = absurd cc

pub element_is : (d : DataType) (parts : List DataType) (e p : DataType) → parts ≡ parts_of d → Some e ≡ element_of d → p ≡ get_or parts 0 p → p ≡ element_in d
element_is (bool_type n) parts e p hp is at = absurd cc
element_is (int_type q n) parts e p hp is at = absurd cc
element_is (utf8_type n) parts e p hp is at = absurd cc
element_is (list_type d n) parts e p hp is at = at ∙ ap (λ xs. get_or xs 0 p) hp
element_is (struct_type fs n) parts e p hp is at = absurd cc

pub no_element : (d : DataType) → None ≡ element_of d → d ≡ element_in d
no_element d is = λ i. unwrap_or (is i) d

-- ---- texts, one by one
text_at : (b : Bool) (ns : List Name) (k : ℕ) (n : Name) → k < length ns → n ≡ get_or ns k n → get_or (head_texts b ns) k [] ≡ head_text (is_first k b) n
text_at b [] k n lt is = absurd (omega (arith, lt))
text_at b (m ∷ ns) zero n lt is = ap (head_text b) (sym is)
text_at b (m ∷ ns) (suc k) n lt is = text_at false ns k n (omega (arith, lt)) is

pub texts_many : (b : Bool) (ns : List Name) → length (head_texts b ns) ≡ length ns
texts_many b [] = refl
texts_many b (n ∷ ns) = λ i. suc (texts_many false ns i)

pub texts_more : (ns : List Name) (k : ℕ) (n : Name) (first : Bool) (t : List ℕ) (made more : List (List ℕ)) → k < length ns → n ≡ get_or ns k n → first ≡ (k == 0) → t ≡ head_text first n
    → made ≡ take k (head_texts true ns) → more ≡ made ++ (t ∷ []) → more ≡ take (k + 1) (head_texts true ns)
texts_more ns k n first t made more lt is f ht hm ha =
    ha ∙ (λ i. hm i ++ ((ht ∙ (λ j. head_text ((f ∙ sym (first_is k)) j) n) ∙ sym (text_at true ns k n lt is)) i ∷ []))
    ∙ sym (take_more (head_texts true ns) k [] (let l = texts_many true ns in omega (arith, l, lt)))

pub names_same : (fs : List (Name × DataType)) → names_of fs ≡ names_in (fields_of fs)
names_same [] = refl
names_same (f ∷ fs) = λ i. f.0 ∷ names_same fs i

pub dtypes_same : (fs : List (Name × DataType)) → dtypes_of fs ≡ dtypes_in (fields_of fs)
dtypes_same [] = refl
dtypes_same (f ∷ fs) = λ i. f.1 ∷ dtypes_same fs i

-- ---- parts, one by one
pub part_size : (fs : List (Name × DataType)) (i : ℕ) (d : DataType) → Some d ≡ slice_get (dtypes_of fs) i → size_of d + 1 ≤ fields_size (fields_of fs)
part_size [] i d is = absurd cc
part_size (f ∷ fs) zero d is = let e : d ≡ f.1 = cc in let s = ap size_of e in omega (arith, s)
part_size (f ∷ fs) (suc i) d is = let r = part_size fs i d is in omega (arith, r)

pub part_past : (fs : List (Name × DataType)) (i : ℕ) → None ≡ slice_get (dtypes_of fs) i → length fs ≤ i
part_past [] i is = omega arith
part_past (f ∷ fs) zero is = absurd cc
part_past (f ∷ fs) (suc i) is = let r = part_past fs i is in omega (arith, r)

pub parts_more : {A : Type 0} (xs : List A) (i : ℕ) (x : A) (made more : List A) → Some x ≡ slice_get xs i → made ≡ take i xs → more ≡ made ++ (x ∷ []) → more ≡ take (i + 1) xs
parts_more xs i x made more is hm ha = ha ∙ (λ j. hm j ++ (x ∷ [])) ∙ next xs i x is
  where
    next : {A : Type 0} (xs : List A) (i : ℕ) (x : A) → Some x ≡ slice_get xs i → take i xs ++ (x ∷ []) ≡ take (i + 1) xs
    next [] i x is = absurd cc
    next (y ∷ xs) zero x is = cc
    next (y ∷ xs) (suc i) x is = let e : suc i + 1 ≡ suc (i + 1) = omega arith in rw e (λ j. y ∷ next xs i x is j)

pub fields_sized : (d : DataType) (fs : Fields) → Some fs ≡ struct_fields_of d → size_of d ≡ fields_size fs + 1
fields_sized (bool_type n) fs is = absurd cc
fields_sized (int_type p n) fs is = absurd cc
fields_sized (utf8_type n) fs is = absurd cc
fields_sized (list_type d n) fs is = absurd cc
fields_sized (struct_type gs n) fs is = let e : gs ≡ fs = cc in ap (λ z. fields_size z + 1) e

pub element_sized : (d e : DataType) → Some e ≡ element_of d → size_of d ≡ size_of e + 1
element_sized (bool_type n) e is = absurd cc
element_sized (int_type p n) e is = absurd cc
element_sized (utf8_type n) e is = absurd cc
element_sized (list_type d n) e is = let s : d ≡ e = cc in ap (λ z. size_of z + 1) s
element_sized (struct_type fs n) e is = absurd cc

pub parts_struct : (d : DataType) (fs : List (Name × DataType)) (xs : List DataType) → Some (fields_of fs) ≡ struct_fields_of d → xs ≡ dtypes_of fs → xs ≡ parts_of d
parts_struct (bool_type n) fs xs is e = absurd cc
parts_struct (int_type p n) fs xs is e = absurd cc
parts_struct (utf8_type n) fs xs is e = absurd cc
parts_struct (list_type d n) fs xs is e = absurd cc
parts_struct (struct_type gs n) fs xs is e = let s : fields_of fs ≡ gs = cc in e ∙ dtypes_same fs ∙ ap dtypes_in s

pub parts_list : (d e : DataType) → Some e ≡ element_of d → (e ∷ []) ≡ parts_of d
parts_list (bool_type n) e is = absurd cc
parts_list (int_type p n) e is = absurd cc
parts_list (utf8_type n) e is = absurd cc
parts_list (list_type d n) e is = let s : e ≡ d = cc in ap (λ z. z ∷ []) s
parts_list (struct_type fs n) e is = absurd cc

pub parts_none : (d : DataType) → None ≡ element_of d → struct_fields_of d ≡ None → [] ≡ parts_of d
parts_none (bool_type n) is no_fields_in = refl
parts_none (int_type p n) is no_fields_in = refl
parts_none (utf8_type n) is no_fields_in = refl
parts_none (list_type d n) is no_fields_in = absurd cc
parts_none (struct_type fs n) is no_fields_in = absurd cc

pub texts_struct : (d : DataType) (fs : List (Name × DataType)) (ts : List (List ℕ)) → Some (fields_of fs) ≡ struct_fields_of d → ts ≡ head_texts true (names_of fs) → ts ≡ head_texts true (names_in (fields_in d))
texts_struct d fs ts is e = e ∙ ap (head_texts true) (names_same fs) ∙ (λ i. head_texts true (names_in (unwrap_or (is i) no_fields)))

-- The rows of several arrays, one after the other.
use Rattle.std.proofs.Common.{◌≡◌, ℕ, zero, suc, ◌+◌, ◌<◌, ◌≤◌, Bool, true, false, ◌&&◌, List, [], ◌∷◌, ◌++◌, length, get_or, map, drop, refl, sym, ap, ◌∙◌, subst, arith, append_assoc, append-nil, drop-cons, add-one}
use Rattle.std.specs.Prelude.{Option, Some, Result, IfOk}
use Rattle.std.specs.Borrow.{Bor}
use Rattle.std.specs.declared.alloc.Global.{Global}
use Rattle.std.specs.declared.rc.Rc.{Rc}
use Rattle.std.proofs.lemmas.List.{map-append, drop_all}
use Rattle.scan_values.specs.Arrays.{ArrayData}
use Rattle.scan_values.specs.DataType.{DataType}
use Rattle.scan_values.specs.Fits.{fits_all}
use Rattle.scan_values.specs.Val.{Val, vals_of, marked_all}
use Rattle.scan_values.specs.Values.{val_of}
use Rattle.scan_values.specs.declared.value.Value.{Value}
use Rattle.scan_layout.specs.Layout.{Layout}
use Rattle.scan_encode.specs.declared.fault.RowsFault.{RowsFault}
use Rattle.scan_encode.specs.declared.fault.RowsFault.TheVariants.{TooLong, Segments, NoMemory}
use Rattle.scan_encode.specs.Batches.{AreArraysOf, rows_of_all}
use Rattle.scan_encode.specs.Encoded.{IsOf, Holds}
use Rattle.scan_encode.specs.Faults.{IsUnwritten}
use Rattle.scan_encode.specs.Parts.{AllOf, given}
use Rattle.scan_encode.specs.Rows.{Row, texts_fit, all_texts_fit}
use Rattle.scan_encode.specs.RowsIn.{rows_in}
use Rattle.scan_encode.proofs.RowsOf.{of_append, of_given}
use Rattle.scan_encode.proofs.Whole.{whole_held}

and_assoc : (a b c : Bool) → (a && (b && c)) ≡ ((a && b) && c)
and_assoc true b c = refl
and_assoc false b c = refl

texts_join : (xs ys : List Val) → all_texts_fit (vals_of (xs ++ ys)) ≡ (all_texts_fit (vals_of xs) && all_texts_fit (vals_of ys))
texts_join [] ys = refl
texts_join (x ∷ xs) ys = ap (λ z. texts_fit x && z) (texts_join xs ys) ∙ and_assoc (texts_fit x) (all_texts_fit (vals_of xs)) (all_texts_fit (vals_of ys))

pub array_here : (bs : List ArrayData) (i : ℕ) (b : ArrayData) → i < length bs → b ≡ get_or bs i b → drop i bs ≡ b ∷ drop (i + 1) bs
array_here bs i b h e = drop-cons bs i b h ∙ (ap (λ z. z ∷ drop (suc i) bs) (sym e) ∙ ap (λ k. b ∷ drop k bs) (sym (add-one i)))

array_of : (d : DataType) (bs : List ArrayData) (i : ℕ) (b : ArrayData) (rest : List ArrayData) → AreArraysOf d bs → drop i bs ≡ b ∷ rest → b.dtype ≡ d
array_of d [] zero b rest h e = absurd cc
array_of d [] (suc i) b rest h e = absurd cc
array_of d (a ∷ bs) zero b rest h e = let s : a ≡ b = cc in ap (λ z. z.dtype) (sym s) ∙ h.0
array_of d (a ∷ bs) (suc i) b rest h e = array_of d bs i b rest h.1 e

-- what is lent of the arrays before a place
pub record Lent (d : DataType) (bs : List ArrayData) (i : ℕ) (rows : List Row) : Type 0 where
  pub same : rows ++ given (rows_of_all (drop i bs)) ≡ given (rows_of_all bs)
  pub fit : AllOf d rows
  pub texts : all_texts_fit (vals_of (rows_of_all (drop i bs))) ≡ all_texts_fit (vals_of (rows_of_all bs))

pub none_lent : (d : DataType) (bs : List ArrayData) (rows : List Row) → rows ≡ [] → Lent d bs 0 rows
none_lent d bs rows e = record {
  same = ap (λ z. z ++ given (rows_of_all bs)) e;
  fit = subst (AllOf d) (sym e) tt;
  texts = refl;
}

module _ (d : DataType) (bs : List ArrayData) (i : ℕ) (b : ArrayData) (vs : List Value) (k : Bool) (here : drop i bs ≡ b ∷ drop (i + 1) bs) (is : map val_of vs ≡ b.items)
    (tested : k ≡ all_texts_fit (vals_of (map val_of vs))) where
  tested_here : k ≡ all_texts_fit (vals_of b.items)
  tested_here = tested ∙ ap (λ z. all_texts_fit (vals_of z)) is

  split_here : all_texts_fit (vals_of (rows_of_all (drop i bs))) ≡ (all_texts_fit (vals_of b.items) && all_texts_fit (vals_of (rows_of_all (drop (i + 1) bs))))
  split_here = ap (λ z. all_texts_fit (vals_of (rows_of_all z))) here ∙ texts_join b.items (rows_of_all (drop (i + 1) bs))

  -- a text of the array is too long
  pub too_long : (rows : List Row) → Lent d bs i rows → k ≡ false → all_texts_fit (vals_of (rows_of_all bs)) ≡ false
  too_long rows l h = sym l.texts ∙ (split_here ∙ ap (λ z. z && all_texts_fit (vals_of (rows_of_all (drop (i + 1) bs)))) (sym tested_here ∙ h))

  -- one array more
  pub next_lent : (rows now : List Row) → AreArraysOf d bs → fits_all (marked_all (vals_of b.items)) b.dtype ≡ true → k ≡ true → now ≡ rows ++ given (map val_of vs) → Lent d bs i rows
      → Lent d bs (i + 1) now
  next_lent rows now of fits h e l =
      let type = array_of d bs i b (drop (i + 1) bs) of here in
      let joined : now ≡ rows ++ given b.items = e ∙ ap (λ z. rows ++ given z) is in
      record {
        same =
            ap (λ z. z ++ given (rows_of_all (drop (i + 1) bs))) joined
            ∙ (append_assoc rows (given b.items) (given (rows_of_all (drop (i + 1) bs)))
            ∙ (ap (λ z. rows ++ z) (sym (map-append Some b.items (rows_of_all (drop (i + 1) bs))))
            ∙ (ap (λ z. rows ++ given (rows_of_all z)) (sym here) ∙ l.same)));
        fit = subst (AllOf d) (sym joined) (of_append d rows (given b.items) l.fit (of_given d b.items (ap (λ z. fits_all (marked_all (vals_of b.items)) z) (sym type) ∙ fits) (sym tested_here ∙ h)));
        texts = sym (split_here ∙ ap (λ z. z && all_texts_fit (vals_of (rows_of_all (drop (i + 1) bs)))) (sym tested_here ∙ h)) ∙ l.texts;
      }

pub all_lent : (d : DataType) (bs : List ArrayData) (i : ℕ) (rows : List Row) → length bs ≤ i → Lent d bs i rows → rows ≡ given (rows_of_all bs)
all_lent d bs i rows h l = sym (append-nil rows) ∙ (ap (λ z. rows ++ given (rows_of_all z)) (sym (drop_all i bs h)) ∙ l.same)

pub all_short : (d : DataType) (bs : List ArrayData) (i : ℕ) (rows : List Row) → length bs ≤ i → Lent d bs i rows → all_texts_fit (vals_of (rows_of_all bs)) ≡ true
all_short d bs i rows h l = sym l.texts ∙ ap (λ z. all_texts_fit (vals_of (rows_of_all z))) (drop_all i bs h)

-- ---- the whole
pub unread : (rows : List Val) (segments : List (List ℕ)) (f : RowsFault) → IsUnwritten rows [] f → IsUnwritten rows segments f
unread rows segments TooLong h = h
unread rows segments Segments h = absurd (omega (arith, h))
unread rows segments NoMemory h = tt

pub all_held : (d : DataType) (is : List Val) (rows : List (Option (Bor Value))) (segments : List (List ℕ)) (r : Result (Rc Layout Global) RowsFault) → rows_in rows ≡ given is
    → IfOk r (λ l. IsOf d (rows_in rows) segments l.value) → IfOk r (λ l. Holds d is segments l.value)
all_held d is rows segments r e h = whole_held d is segments r (subst (λ z. IfOk r (λ l. IsOf d z segments l.value)) e h)

-- The places of an answer rise, so that as many of its items as there may be, none given twice, are a choice of them.
use Rattle.std.proofs.Common.{◌≡◌, ◌≢◌, ◌<◌, ◌≤◌, ◌+◌, ℕ, zero, suc, Bool, true, false, List, [], ◌∷◌, ◌++◌, filter, flat_map, get_or, length, map, take, inl, inr, refl, sym, ap, subst, ◌∙◌, arith}
use Rattle.std.specs.Prelude.{◌⊎◌, ◌==◌, ◌&&◌, Contains, Option, None, Some, IsPermutation, cond, if◌then◌else◌}
use Rattle.std.specs.List.{list_any, range_with_len, IsDistinct}
use Rattle.std.proofs.lemmas.Bool.{both_ways}
use Rattle.std.proofs.lemmas.List.Elements.{Contains-get_or}
use Rattle.std.proofs.lemmas.List.Sorted.{Contains-permutation, IsPermutation-sym, length_permutation}
use Rattle.std.proofs.lemmas.Map.Keys.{apart_from_distinct, IsDistinct-from_apart, IsDistinct-IsPermutation}
use Rattle.scan_values.specs.DataType.{DataType}
use Rattle.scan_values.specs.Selections.{picked_rows, selects}
use Rattle.scan_values.specs.Val.{Val}
use Rattle.scan_expr.specs.declared.request.ScanRequest.{ScanRequest}
use Rattle.std.specs.declared.ops.Range.{Range}
use Rattle.scan_segments.specs.Source.{Store}
use Rattle.scan_layout.specs.Layout.{Layout, rows_of}
use Rattle.scan_layout.specs.RowValue.{row_value}
use Rattle.scan_opener.specs.Opener.{Given, skip, layout_of}
use Rattle.scan_multi.specs.Answer.{Item, ToldFile, answer, answer_from, drops, finding, is_good, part_of, row_items, spills_at}
use Rattle.scan_multi.specs.Output.{IsChoice, limited, place_of}
use Rattle.scan_multi.proofs.Members.{In-from, In-to}
use Rattle.scan_multi.proofs.Orders.{either_way, other_numbers, same_numbers}
use Rattle.scan_multi.proofs.SplitItems.{tests}
use Rattle.scan_multi.proofs.Subs.{IsSub, sub_distinct, sub_in}
use Rattle.scan_expr.specs.Eval.{eval}

-- an item at a row of a file, or behind it
abbrev pub IsFrom : ℕ → ℕ → Item → Type 0
IsFrom file row item = (file < item.file) ⊎ ((file ≡ item.file) × (row ≤ item.row))

-- items from a row of a file on, each behind the one before
abbrev pub RiseFrom : ℕ → ℕ → List Item → Type 0
RiseFrom file row [] = Unit {0}
RiseFrom file row (x ∷ xs) = IsFrom file row x × RiseFrom x.file (x.row + 1) xs

-- all of one file
abbrev pub AreOf : ℕ → List Item → Type 0
AreOf file [] = Unit {0}
AreOf file (x ∷ xs) = (x.file ≡ file) × AreOf file xs

from_less : (file row row' : ℕ) (x : Item) → row ≤ row' → IsFrom file row' x → IsFrom file row x
from_less file row row' x l (inl h) = inl h
from_less file row row' x l (inr h) = inr (h.0, omega (arith, l, h.1))

rise_less : (file row row' : ℕ) (xs : List Item) → row ≤ row' → RiseFrom file row' xs → RiseFrom file row xs
rise_less file row row' [] l h = tt
rise_less file row row' (x ∷ xs) l h = (from_less file row row' x l h.0, h.1)

rise_before : (file row : ℕ) (xs : List Item) → RiseFrom (file + 1) 0 xs → RiseFrom file row xs
rise_before file row [] h = tt
rise_before file row (x ∷ xs) h = (go h.0, h.1)
  where
    go : IsFrom (file + 1) 0 x → IsFrom file row x
    go (inl l) = inl (omega (arith, l))
    go (inr e) = inl (omega (arith, e.0))

rise_append : (file row : ℕ) (xs ys : List Item) → RiseFrom file row xs → AreOf file xs → RiseFrom (file + 1) 0 ys → RiseFrom file row (xs ++ ys)
rise_append file row [] ys h o k = rise_before file row ys k
rise_append file row (x ∷ xs) ys h o k =
    let rest = rise_append file (x.row + 1) xs ys (subst (λ f. RiseFrom f (x.row + 1) xs) o.0 h.1) o.1 k in
    (h.0, subst (λ f. RiseFrom f (x.row + 1) (xs ++ ys)) (sym o.0) rest)

of_append : (file : ℕ) (xs ys : List Item) → AreOf file xs → AreOf file ys → AreOf file (xs ++ ys)
of_append file [] ys h k = k
of_append file (x ∷ xs) ys h k = (h.0, of_append file xs ys h.1 k)

-- ---- the items of a file
module _ (d : DataType) (request : ScanRequest) (file : ℕ) (l : Layout) (store : Store) where
  abbrev pub at_row : ℕ → Option Val → Item
  at_row i v = record { file = file; row = i; value = v }

  abbrev pub value_at : ℕ → Option Val
  value_at i = cond (spills_at d request i (row_value l store i)) None (finding (tests d request file l store i) (eval d request.projection (row_value l store i) i))

  row_before : (i : ℕ) (rest : List Item) → RiseFrom file (i + 1) rest → RiseFrom file i (row_items d request file l store i ++ rest)
  row_before i rest h = go (list_any drops (tests d request file l store i)) (value_at i)
    where
      go : (b : Bool) (v : Option Val) → RiseFrom file i (map (at_row i) (cond b [] (v ∷ [])) ++ rest)
      go true v = rise_less file i (i + 1) rest (omega arith) h
      go false v = (inr (refl, omega arith), h)

  row_of_file : (i : ℕ) → AreOf file (row_items d request file l store i)
  row_of_file i = go (list_any drops (tests d request file l store i)) (value_at i)
    where
      go : (b : Bool) (v : Option Val) → AreOf file (map (at_row i) (cond b [] (v ∷ [])))
      go true v = tt
      go false v = (refl, tt)

  rows_rise : (p : ℕ → Bool) (a n : ℕ) → RiseFrom file a (flat_map (row_items d request file l store) (filter p (range_with_len a n)))
  rows_rise p a zero = tt
  rows_rise p a (suc n) = go (p a) (rows_rise p (a + 1) n)
    where
      go : (b : Bool) → RiseFrom file (a + 1) (flat_map (row_items d request file l store) (filter p (range_with_len (a + 1) n)))
          → RiseFrom file a (flat_map (row_items d request file l store) (if b then a ∷ filter p (range_with_len (a + 1) n) else filter p (range_with_len (a + 1) n)))
      go true h = row_before a (flat_map (row_items d request file l store) (filter p (range_with_len (a + 1) n))) h
      go false h = rise_less file a (a + 1) (flat_map (row_items d request file l store) (filter p (range_with_len (a + 1) n))) (omega arith) h

  rows_of_file : (is : List ℕ) → AreOf file (flat_map (row_items d request file l store) is)
  rows_of_file [] = tt
  rows_of_file (i ∷ is) = of_append file (row_items d request file l store i) (flat_map (row_items d request file l store) is) (row_of_file i) (rows_of_file is)

  picked_rise : (r : Option (Range ℕ)) → RiseFrom file 0 (flat_map (row_items d request file l store) (picked_rows r request.selection (rows_of l)))
  picked_rise None = rows_rise (selects request.selection) 0 _
  picked_rise (Some r) = rise_less file 0 r.start (flat_map (row_items d request file l store) (picked_rows (Some r) request.selection (rows_of l))) (omega arith) (rows_rise (selects request.selection) r.start _)

pub part_rises : (d : DataType) (request : ScanRequest) (file : ℕ) (store : Store) (g : Given) → RiseFrom file 0 (part_of d request file store g) × AreOf file (part_of d request file store g)
part_rises d request file store skip = (tt, tt)
part_rises d request file store (layout_of l) = go (is_good d request l)
  where
    go : (b : Bool) → RiseFrom file 0 (cond b (flat_map (row_items d request file l store) (picked_rows request.row_range request.selection (rows_of l))) (record { file = file; row = 0; value = None } ∷ []))
        × AreOf file (cond b (flat_map (row_items d request file l store) (picked_rows request.row_range request.selection (rows_of l))) (record { file = file; row = 0; value = None } ∷ []))
    go true = (picked_rise d request file l store request.row_range, rows_of_file d request file l store (picked_rows request.row_range request.selection (rows_of l)))
    go false = ((inr (refl, omega arith), tt), (refl, tt))

-- the items of an answer rise
pub answer_rises : (d : DataType) (request : ScanRequest) (place : ℕ) (files : List ToldFile) → RiseFrom place 0 (answer_from d request place files)
answer_rises d request place [] = tt
answer_rises d request place (f ∷ files) =
    let p = part_rises d request place f.store f.given in
    rise_append place 0 (part_of d request place f.store f.given) (answer_from d request (place + 1) files) p.0 p.1 (answer_rises d request (place + 1) files)

-- ---- items that rise stand at different places
-- one behind another is behind what is before that
behind : (file row : ℕ) (x y : Item) → IsFrom file row x → IsFrom x.file (x.row + 1) y → IsFrom file row y
behind file row x y (inl l) (inl m) = inl (omega (arith, l, m))
behind file row x y (inl l) (inr m) = inl (omega (arith, l, m.0))
behind file row x y (inr l) (inl m) = inl (omega (arith, l.0, m))
behind file row x y (inr l) (inr m) = inr (l.0 ∙ m.0, omega (arith, l.1, m.1))

rise_at : (file row : ℕ) (xs : List Item) (j : ℕ) (d : Item) → RiseFrom file row xs → j < length xs → IsFrom file row (get_or xs j d)
rise_at file row [] j d h l = absurd (omega arith)
rise_at file row (x ∷ xs) zero d h l = h.0
rise_at file row (x ∷ xs) (suc j) d h l = behind file row x (get_or xs j d) h.0 (rise_at x.file (x.row + 1) xs j d h.1 (omega arith))

-- whether two items stand at one place
abbrev pub is_there : Item → Item → Bool
is_there x y = (x.file == y.file) && (x.row == y.row)

turned : (x y : Item) → is_there x y ≡ is_there y x
turned x y = λ z. either_way x.file y.file z && either_way x.row y.row z

apart : (x y : Item) → IsFrom x.file (x.row + 1) y → is_there x y ≡ false
apart x y (inl l) = ap (λ b. b && (x.row == y.row)) (other_numbers x.file y.file l)
apart x y (inr m) = ap (λ b. b && (x.row == y.row)) (same_numbers x.file y.file m.0) ∙ other_numbers x.row y.row (omega (arith, m.1))

all_apart : (file row : ℕ) (xs : List Item) (i j : ℕ) (d : Item) → RiseFrom file row xs → i < j → j < length xs → is_there (get_or xs i d) (get_or xs j d) ≡ false
all_apart file row [] i j d h l m = absurd (omega arith)
all_apart file row (x ∷ xs) i zero d h l m = absurd (omega arith)
all_apart file row (x ∷ xs) zero (suc j) d h l m = apart x (get_or xs j d) (rise_at x.file (x.row + 1) xs j d h.1 (omega arith))
all_apart file row (x ∷ xs) (suc i) (suc j) d h l m = all_apart x.file (x.row + 1) xs i j d h.1 (omega arith) (omega arith)

other_place : (x y : Item) → is_there x y ≡ false → place_of x ≢ place_of y
other_place x y h e =
    let f : (x.file == y.file) ≡ true = same_numbers x.file y.file (ap (λ (p : ℕ × ℕ). p.0) e) in
    let r : (x.row == y.row) ≡ true = same_numbers x.row y.row (ap (λ (p : ℕ × ℕ). p.1) e) in
    both_ways (is_there x y) h ((λ z. f z && r z))

-- ---- as many items as a limit allows
taken_long : (n : ℕ) (xs ys : List Item) → length xs ≡ length ys → length (take n xs) ≡ length (take n ys)
taken_long zero xs ys e = refl
taken_long (suc n) [] [] e = refl
taken_long (suc n) [] (y ∷ ys) e = absurd (omega (arith, e))
taken_long (suc n) (x ∷ xs) [] e = absurd (omega (arith, e))
taken_long (suc n) (x ∷ xs) (y ∷ ys) e = ap suc (taken_long n xs ys (omega (arith, e)))

limited_long : (limit : Option ℕ) (xs ys : List Item) → length xs ≡ length ys → length (limited limit xs) ≡ length (limited limit ys)
limited_long None xs ys e = e
limited_long (Some n) xs ys e = taken_long n xs ys e

-- items that stand among those of an answer, in whatever order these are, as many as the limit allows, are a choice of them
pub part_chosen : (d : DataType) (request : ScanRequest) (files : List ToldFile) (limit : Option ℕ) (items whole : List Item) → IsPermutation whole (answer d request files) → IsSub items whole
    → length items ≡ length (limited limit whole) → IsChoice limit (answer d request files) items
part_chosen d request files limit items whole p sub many = record {
  once = λ i j x l m. other_place (get_or items i x) (get_or items j x) (apart_from_distinct is_there items i j x (sub_distinct is_there items whole sub distinct) l m);
  each = λ k e l.
      let among : Contains whole (get_or items k e) = In-to (get_or items k e) whole (sub_in (get_or items k e) items whole sub (In-from (get_or items k e) items (Contains-get_or items k e l))) in
      Contains-permutation whole (answer d request files) (get_or items k e) p among;
  count = many ∙ limited_long limit whole (answer d request files) (sym (length_permutation whole (answer d request files) p));
}
  where
    distinct : IsDistinct is_there whole
    distinct =
        IsDistinct-IsPermutation is_there turned (answer d request files) whole (IsPermutation-sym whole (answer d request files) p)
        (IsDistinct-from_apart is_there (answer d request files) (λ i j x l m. all_apart 0 0 (answer d request files) i j x (answer_rises d request 0 files) l m))

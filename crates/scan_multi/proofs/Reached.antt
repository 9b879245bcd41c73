-- What was given before a file leaves the scan to go on.
use Rattle.std.proofs.Common.{◌≡◌, ◌<◌, ◌≤◌, ◌+◌, ◌==◌, ◌||◌, ℕ, zero, suc, List, [], ◌∷◌, ◌++◌, get_or, length, length-append, length-take, map, take, Option, None, Some, refl, sym, ap, subst, ◌∙◌, arith, get_or-take}
use Rattle.std.specs.Prelude.{Bool, true, false, All, IsSome, cond, flat_map, sum}
use Rattle.std.proofs.lemmas.Grind.{flat_map-append}
use Rattle.std.proofs.lemmas.List.{get_or_default, take-map}
use Rattle.std.proofs.lemmas.List.Sums.{sum_by-cons}
use Rattle.scan_values.specs.DataType.{DataType}
use Rattle.scan_values.specs.Marked.{Marked}
use Rattle.scan_values.specs.Selections.{is_among, picked_rows}
use Rattle.scan_values.specs.Val.{Val, is_clean, read_marked}
use Rattle.scan_expr.specs.declared.request.ScanRequest.{ScanRequest}
use Rattle.scan_segments.specs.Source.{Store}
use Rattle.scan_layout.specs.Layout.{Layout, rows_of}
use Rattle.scan_layout.specs.RowValue.{row_value}
use Rattle.scan_opener.specs.Opener.{Given, skip, layout_of}
use Rattle.scan_splits.specs.Wanted.{no_repeats}
use Rattle.scan_drive.specs.Files as drive
use Rattle.scan_file.specs.FileAsks.{FileAsk}
use Rattle.scan_multi.specs.Answer.{Item, ToldFile, answer, is_good, item_of, part_of, row_items}
use Rattle.scan_multi.specs.Asked.{AgreesTo, AreClean, AsksFor, Row, clean_value, items_from, tale_of}
use Rattle.scan_multi.specs.Before.{GoesOn, IsBelow, ReachesFile}
use Rattle.scan_multi.specs.Late.{SomeAreFew, part_size}
use Rattle.scan_multi.proofs.Agreeing.{agrees_all}
use Rattle.scan_multi.proofs.CutFiles.{no_file, part_at}
use Rattle.scan_multi.proofs.Orders.{among_at, same_numbers, stand_once}
use Rattle.scan_multi.proofs.Tales.{answers_agree}

-- ---- clean rows
clean_front : (xs ys : List Row) → AreClean (xs ++ ys) → AreClean xs
clean_front [] ys h = tt
clean_front (x ∷ xs) ys h = (h.0, clean_front xs ys h.1)

some_value : (m : Marked) → is_clean m ≡ true → IsSome (clean_value m)
some_value m h = subst (λ b. IsSome (cond b (Some (read_marked m)) None)) (sym h) refl

clean_items : (xs : List Row) → AreClean xs → All (λ item. IsSome item.value) (items_from xs)
clean_items [] h = λ k e l. absurd (omega arith)
clean_items (x ∷ xs) h = let rest = clean_items xs h.1 in λ k e l. go rest k e l
  where
    go : All (λ item. IsSome item.value) (items_from xs) → (k : ℕ) (e : Item) → k < length (items_from (x ∷ xs)) → IsSome (get_or (items_from (x ∷ xs)) k e).value
    go rest zero e l = some_value x.1.1.1 h.0
    go rest (suc k) e l = rest k e (omega arith)

below_less : (limit : Option ℕ) (m n : ℕ) → m ≤ n → IsBelow limit n → IsBelow limit m
below_less None m n l h = tt
below_less (Some k) m n l h = let below : n < k = h in omega (arith, l)

pub placed_length : (g : drive.Group drive.Item) → length (drive.placed g) ≡ length g.1
placed_length g = go g.1
  where
    go : (xs : List drive.Item) → length (map {B = Row} (λ x. (g.0, x)) xs) ≡ length xs
    go [] = refl
    go (x ∷ xs) = ap suc (go xs)

-- as many rows as there are in groups
pub counted : (gs : List (drive.Group drive.Item)) → length (drive.flattened gs) ≡ drive.count gs
counted [] = refl
counted (g ∷ gs) = length-append (drive.placed g) (drive.flattened gs) ∙ ap (λ n. n + length (drive.flattened gs)) (placed_length g) ∙ ap (λ n. length g.1 + n) (counted gs)

pub length_mapped : (xs : List Row) → length (items_from xs) ≡ length xs
length_mapped [] = refl
length_mapped (x ∷ xs) = ap suc (length_mapped xs)

-- all groups of some files were given, clean and with others behind them, and there is room: the scan goes on behind their items
pub goes_on : (limit : Option ℕ) (front more gs : List (drive.Group drive.Item)) (items : List Item) → AgreesTo (drive.flattened front) items → gs ≡ front ++ more → AreClean (drive.flattened gs) → IsBelow limit (drive.count gs)
    → GoesOn limit items
goes_on limit front more gs items agree e clean room =
    let rows : drive.flattened gs ≡ drive.flattened front ++ drive.flattened more = ap drive.flattened e ∙ flat_map-append drive.placed front more in
    let first : AreClean (drive.flattened front) = clean_front (drive.flattened front) (drive.flattened more) (subst AreClean rows clean) in
    let same : items_from (drive.flattened front) ≡ items = agrees_all (drive.flattened front) items agree first in
    let long : length (items_from (drive.flattened front)) ≡ length (drive.flattened front) = length_mapped (drive.flattened front) in
    let whole : length (drive.flattened gs) ≡ drive.count gs = counted gs in
    let sum_is : length (drive.flattened gs) ≡ length (drive.flattened front) + length (drive.flattened more) = ap length rows ∙ length-append (drive.flattened front) (drive.flattened more) in
    subst (GoesOn limit) same (record {
      clean = clean_items (drive.flattened front) first;
      below = below_less limit (length (items_from (drive.flattened front))) (drive.count gs) (omega (arith, long, whole, sum_is)) room;
    })

module _ (d : DataType) (request : ScanRequest) (a : FileAsk) (asks : AsksFor d request a) where
  -- the same, of the files before a place
  pub reaches : (files : List ToldFile) (place : ℕ) (gs more : List (drive.Group drive.Item)) → gs ≡ drive.answer (take place (map (tale_of a) files)) ++ more → AreClean (drive.flattened gs)
      → IsBelow request.limit (drive.count gs) → ReachesFile d request files place
  reaches files place gs more e clean room =
      goes_on request.limit (drive.answer (map (tale_of a) (take place files))) more gs (answer d request (take place files)) (answers_agree d request a asks (take place files))
      (e ∙ ap (λ t. drive.answer t ++ more) (take-map (tale_of a) place files)) clean room

-- ---- sizes
-- a part is as long wherever its file stands
row_length : (d : DataType) (request : ScanRequest) (p q : ℕ) (l : Layout) (store : Store) (i : ℕ) → length (row_items d request p l store i) ≡ length (row_items d request q l store i)
row_length d request p q l store i = go (item_of d request i (row_value l store i))
  where
    go : (vs : List (Option Val)) → length (map {B = Item} (λ v. record { file = p; row = i; value = v }) vs) ≡ length (map {B = Item} (λ v. record { file = q; row = i; value = v }) vs)
    go [] = refl
    go (v ∷ vs) = ap suc (go vs)

rows_length : (d : DataType) (request : ScanRequest) (p q : ℕ) (l : Layout) (store : Store) (is : List ℕ) → length (flat_map (row_items d request p l store) is) ≡ length (flat_map (row_items d request q l store) is)
rows_length d request p q l store [] = refl
rows_length d request p q l store (i ∷ is) =
    length-append (row_items d request p l store i) (flat_map (row_items d request p l store) is)
    ∙ (λ z. row_length d request p q l store i z + rows_length d request p q l store is z)
    ∙ sym (length-append (row_items d request q l store i) (flat_map (row_items d request q l store) is))

part_length : (d : DataType) (request : ScanRequest) (p q : ℕ) (store : Store) (g : Given) → length (part_of d request p store g) ≡ length (part_of d request q store g)
part_length d request p q store skip = refl
part_length d request p q store (layout_of l) = go (is_good d request l)
  where
    go : (b : Bool) → length (cond b (flat_map (row_items d request p l store) (picked_rows request.row_range request.selection (rows_of l))) (record { file = p; row = 0; value = None } ∷ []))
        ≡ length (cond b (flat_map (row_items d request q l store) (picked_rows request.row_range request.selection (rows_of l))) (record { file = q; row = 0; value = None } ∷ []))
    go true = rows_length d request p q l store (picked_rows request.row_range request.selection (rows_of l))
    go false = refl

module _ (d : DataType) (request : ScanRequest) (files : List ToldFile) where
  -- a file among the first ones
  taken_file : (k p : ℕ) (f : ToldFile) → k < length files → p ≤ k → get_or files p no_file ≡ get_or (take (k + 1) files) p f
  taken_file k p f l m = get_or_default files p no_file f (omega (arith, l, m)) ∙ sym (get_or-take (k + 1) files p f (omega (arith, m)))

  -- the parts of the files at places that are up to one hold as many items as these files do
  sizes_are : (k : ℕ) (f : ToldFile) (ps : List ℕ) → k < length files → ((p : ℕ) → is_among ps p ≡ true → p ≤ k)
      → length (flat_map (part_at d request files) ps) ≡ sum (map (λ p. part_size d request (get_or (take (k + 1) files) p f)) ps)
  sizes_are k f [] l h = refl
  sizes_are k f (p ∷ ps) l h =
      let e = taken_file k p f l (h p (ap (λ b. b || is_among ps p) (same_numbers p p refl))) in
      let rest = sizes_are k f ps l (λ q m. h q (or_true (p == q) (is_among ps q) m)) in
      length-append (part_at d request files p) (flat_map (part_at d request files) ps)
      ∙ (λ z. part_length d request p 0 (get_or files p no_file).store (get_or files p no_file).given z + rest z)
      ∙ (λ z. part_size d request (e z) + sum (map (λ q. part_size d request (get_or (take (k + 1) files) q f)) ps))
      ∙ sym (sum_by-cons (λ n. n) (part_size d request (get_or (take (k + 1) files) p f)) (map (λ q. part_size d request (get_or (take (k + 1) files) q f)) ps))
    where
      or_true : (x y : Bool) → y ≡ true → (x || y) ≡ true
      or_true true y m = refl
      or_true false y m = m

  -- files at some places, none twice, that hold fewer items than the limit
  pub some_few : (k n : ℕ) (ps : List ℕ) → k < length files → no_repeats ps ≡ true → ((p : ℕ) → is_among ps p ≡ true → p ≤ k) → length ps ≡ n → IsBelow request.limit (length (flat_map (part_at d request files) ps))
      → SomeAreFew d request (take (k + 1) files) n
  some_few k n ps l once within long few = record {
    places = ps;
    once = stand_once ps once;
    within = λ i e m.
        let low = within (get_or ps i e) (among_at ps i e m) in
        let taken = length-take (k + 1) files in
        omega (arith, low, taken, l);
    as_many = long;
    few = λ f. subst (IsBelow request.limit) (sizes_are k f ps l within) few;
  }

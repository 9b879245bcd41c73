-- Each row that a drive over files gives has the dtype of the projection.
use Rattle.std.proofs.Common.{◌≡◌, ◌+◌, ℕ, zero, suc, Bool, true, false, List, [], ◌∷◌, ◌++◌, flat_map, map, take, Option, Some, None, refl, sym, ap, subst, ◌∙◌}
use Rattle.std.proofs.lemmas.Grind.{flat_map-append}
use Rattle.std.specs.declared.ops.Range.{Range}
use Rattle.scan_values.specs.DataType.{DataType}
use Rattle.scan_expr.specs.Infer.{infer}
use Rattle.scan_expr.specs.declared.request.ScanRequest.{ScanRequest}
use Rattle.scan_segments.specs.Source.{Store}
use Rattle.scan_layout.specs.Layout.{Layout}
use Rattle.scan_opener.specs.Opener.{Given, skip, layout_of}
use Rattle.scan_drive.specs.Files as drive
use Rattle.scan_drive.proofs.Cutting.{first_rows}
use Rattle.scan_file.specs.FileAsks.{FileAsk, given_dtype}
use Rattle.scan_file.specs.FileRows.{unless_lost}
use Rattle.scan_file.specs.Openings.{layout_fault, part_unless}
use Rattle.scan_file.specs.Openings as opened
use Rattle.scan_file.specs.Parts.{is_lost, layout_part, picks, read_ranges, row_of, rows_given, split_rows}
use Rattle.scan_file.specs.declared.fault.FileFault.{FileFault}
use Rattle.scan_multi.specs.Answer.{ToldFile}
use Rattle.scan_multi.specs.Asked.{AsksFor, Row, tale_of}
use Rattle.scan_multi.proofs.Meaning.{AreOf}

-- rows one after the other
pub typed_append : (t : DataType) (xs ys : List Row) → AreOf t xs → AreOf t ys → AreOf t (xs ++ ys)
typed_append t [] ys h k = k
typed_append t (x ∷ xs) ys h k = (h.0, typed_append t xs ys h.1 k)

-- rows that stand first, and those behind them
pub typed_front : (t : DataType) (xs ys : List Row) → AreOf t (xs ++ ys) → AreOf t xs
typed_front t [] ys h = tt
typed_front t (x ∷ xs) ys h = (h.0, typed_front t xs ys h.1)

pub typed_behind : (t : DataType) (xs ys : List Row) → AreOf t (xs ++ ys) → AreOf t ys
typed_behind t [] ys h = h
typed_behind t (x ∷ xs) ys h = typed_behind t xs ys h.1

-- the first rows
typed_first : (t : DataType) (n : ℕ) (xs : List Row) → AreOf t xs → AreOf t (take n xs)
typed_first t zero xs h = tt
typed_first t (suc n) [] h = tt
typed_first t (suc n) (x ∷ xs) h = (h.0, typed_first t n xs h.1)

-- those of a group
pub placed_front : (t : DataType) (file n : ℕ) (xs : List drive.Item) → AreOf t (drive.placed (file, xs)) → AreOf t (drive.placed (file, take n xs))
placed_front t file zero xs h = tt
placed_front t file (suc n) [] h = tt
placed_front t file (suc n) (x ∷ xs) h = (h.0, placed_front t file n xs h.1)

-- the rows of groups, as far as a limit allows
pub limited_typed : (t : DataType) (whole : List (drive.Group drive.Item)) → AreOf t (drive.flattened whole) → (limit : Option ℕ) (gs : List (drive.Group drive.Item)) → gs ≡ drive.limited limit whole → AreOf t (drive.flattened gs)
limited_typed t whole h None gs e = subst (λ z. AreOf t (drive.flattened z)) (sym e) h
limited_typed t whole h (Some n) gs e = subst (AreOf t) (sym (ap drive.flattened e ∙ first_rows n whole)) (typed_first t n (drive.flattened whole) h)

-- rows of a split
abbrev pub ItemsTyped : DataType → List drive.Item → Type 0
ItemsTyped t [] = Unit {0}
ItemsTyped t (x ∷ xs) = (x.1.0 ≡ t) × ItemsTyped t xs

placed_typed : (t : DataType) (file : ℕ) (xs : List drive.Item) → ItemsTyped t xs → AreOf t (map {B = Row} (λ x. (file, x)) xs)
placed_typed t file [] h = tt
placed_typed t file (x ∷ xs) h = (h.0, placed_typed t file xs h.1)

grouped_typed : (t : DataType) (file : ℕ) (xs : List drive.Item) → ItemsTyped t xs → AreOf t (drive.flattened (drive.grouped file xs))
grouped_typed t file [] h = tt
grouped_typed t file (x ∷ xs) h = typed_append t (map {B = Row} (λ y. (file, y)) (x ∷ xs)) [] (placed_typed t file (x ∷ xs) h) tt

pub groups_typed : (t : DataType) (gs hs : List (drive.Group drive.Item)) → AreOf t (drive.flattened gs) → AreOf t (drive.flattened hs) → AreOf t (drive.flattened (gs ++ hs))
groups_typed t gs hs h k = subst (AreOf t) (sym (flat_map-append drive.placed gs hs)) (typed_append t (drive.flattened gs) (drive.flattened hs) h k)

module _ (a : FileAsk) where
  given_typed : (l : Layout) (store : Store) (is : List ℕ) → ItemsTyped (given_dtype a) (map {B = drive.Item} (λ i. (i, (given_dtype a, row_of a l store a.projection i))) is)
  given_typed l store [] = tt
  given_typed l store (i ∷ is) = (refl, given_typed l store is)

  split_typed : (l : Layout) (store : Store) (is : List ℕ) → ItemsTyped (given_dtype a) (split_rows a l store is)
  split_typed l store is = go (is_lost a l store is)
    where
      go : (b : Bool) → ItemsTyped (given_dtype a) (unless_lost b (given_dtype a) (rows_given a l store is))
      go true = (refl, tt)
      go false = given_typed l store _

  ranges_typed : (file : ℕ) (l : Layout) (store : Store) (rs : List (Range ℕ)) → AreOf (given_dtype a) (drive.flattened (flat_map (drive.grouped file) (map (λ r. split_rows a l store (picks a l r)) rs)))
  ranges_typed file l store [] = tt
  ranges_typed file l store (r ∷ rs) =
      groups_typed (given_dtype a) (drive.grouped file (split_rows a l store (picks a l r))) (flat_map (drive.grouped file) (map (λ q. split_rows a l store (picks a l q)) rs))
      (grouped_typed (given_dtype a) file (split_rows a l store (picks a l r)) (split_typed l store (picks a l r))) (ranges_typed file l store rs)

  -- each row of a file has the dtype of what is given
  pub part_typed : (file : ℕ) (store : Store) (g : Given) → AreOf (given_dtype a) (drive.flattened (drive.part_over file (opened.part_of a g) store))
  part_typed file store skip = tt
  part_typed file store (layout_of l) = go (layout_fault a l)
    where
      go : (o : Option FileFault) → AreOf (given_dtype a) (drive.flattened (drive.part_over file (part_unless a o (layout_part a l)) store))
      go None = ranges_typed file l store (read_ranges a l)
      go (Some x) = (refl, tt)

  files_typed : (files : List ToldFile) (place : ℕ) → AreOf (given_dtype a) (drive.flattened (drive.answer_from place (map (tale_of a) files)))
  files_typed [] place = tt
  files_typed (f ∷ files) place =
      groups_typed (given_dtype a) (drive.part_groups place (tale_of a f)) (drive.answer_from (place + 1) (map (tale_of a) files)) (part_typed place f.store f.given) (files_typed files (place + 1))

-- each row that a drive gives of files has the dtype of the projection
pub rows_typed : (d : DataType) (request : ScanRequest) (a : FileAsk) → AsksFor d request a → (files : List ToldFile) → AreOf (infer d request.projection) (drive.flattened (drive.answer (map (tale_of a) files)))
rows_typed d request a asks files = subst (λ t. AreOf t (drive.flattened (drive.answer (map (tale_of a) files)))) (ap given_dtype asks.is) (files_typed a files 0)

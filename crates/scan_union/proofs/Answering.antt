-- The answer of the files under a dtype is the answer of the union.
use Rattle.std.proofs.Common.{◌≡◌, ℕ, zero, suc, ◌<◌, ◌≤◌, ◌+◌, ◌-◌, min, List, [], ◌∷◌, ◌++◌, filter, flat_map, map, take, arith, refl, sym, ap, ◌∙◌, Bool, true, false, Option, Some, None}
use Rattle.std.specs.Prelude.{option_map, if◌then◌else◌}
use Rattle.std.specs.List.{range_with_len}
use Rattle.std.specs.declared.ops.Range.{Range}
use Rattle.scan_values.specs.DataType.{DataType, depth_of}
use Rattle.scan_values.specs.Val.{Val}
use Rattle.scan_values.specs.Selections.{picked_rows, selects}
use Rattle.scan_values.specs.declared.selection.Selection.{Selection}
use Rattle.scan_expr.specs.declared.request.ScanRequest.{ScanRequest}
use Rattle.scan_segments.specs.Source.{Store}
use Rattle.scan_layout.specs.Layout.{Layout, rows_of}
use Rattle.scan_layout.specs.Check.{first_fault}
use Rattle.scan_layout.proofs.Forms.{no_fault}
use Rattle.scan_opener.specs.Opener.{Given, skip, layout_of}
use Rattle.scan_multi.specs.Answer.{ToldFile, Item, item_of, row_items, part_of, answer_from, answer, is_good, is_within}
use Rattle.scan_multi.specs.Checks.{rows_given}
use Rattle.scan_widen.specs.Under.{behind, under}
use Rattle.scan_widened.specs.Faults.{given_fault, file_fault, is_within as is_within'}
use Rattle.scan_widened.specs.Identity.{beside}
use Rattle.scan_widened.specs.declared.fault.FileFault.{FileFault}
use Rattle.scan_widened.proofs.Files.{sound_file, files_are_widened}
use Rattle.scan_union.specs.Under.{behind_of, given_under, file_under, of_file, or_later, first_file_fault_from}
use Rattle.scan_union.specs.UnionAnswer.{is_good_under, union_items, union_part, union_answer_from, union_answer}
use Rattle.scan_union.specs.declared.fault.UnionFault.{UnionFault}

-- ---- rows that are picked
rows_same : (f g : ℕ → List Item) (p : ℕ → Bool) (a n : ℕ) → ((i : ℕ) → a ≤ i → i < a + n → f i ≡ g i) → flat_map f (filter p (range_with_len a n)) ≡ flat_map g (filter p (range_with_len a n))
rows_same f g p a zero same = refl
rows_same f g p a (suc n) same = go (p a) (rows_same f g p (a + 1) n (λ i lo hi. same i (omega (arith, lo)) (omega (arith, hi))))
  where
    go : (b : Bool) → flat_map f (filter p (range_with_len (a + 1) n)) ≡ flat_map g (filter p (range_with_len (a + 1) n))
        → flat_map f (if b then a ∷ filter p (range_with_len (a + 1) n) else filter p (range_with_len (a + 1) n)) ≡ flat_map g (if b then a ∷ filter p (range_with_len (a + 1) n) else filter p (range_with_len (a + 1) n))
    go true h = λ i. same a (omega arith) (omega arith) i ++ h i
    go false h = h

picked_same : (f g : ℕ → List Item) (r : Option (Range ℕ)) (s : Selection) (rows : ℕ) → ((i : ℕ) → i < rows → f i ≡ g i) → flat_map f (picked_rows r s rows) ≡ flat_map g (picked_rows r s rows)
picked_same f g None s rows same = rows_same f g (selects s) 0 (rows - 0) (λ i lo hi. same i (omega (arith, hi)))
picked_same f g (Some r) s rows same = rows_same f g (selects s) r.start (min r.end rows - r.start) (λ i lo hi. same i (omega (arith, lo, hi)))

-- a range ends within so many rows, by either crate
pub same_within : (r : Option (Range ℕ)) (rows : ℕ) → is_within r rows ≡ is_within' r rows
same_within None rows = refl
same_within (Some r) rows = refl

-- ---- a file
module _ (d : DataType) (request : ScanRequest) (deep : depth_of d ≤ 64) where
  pub good_layout : (before : ℕ) (l : Layout) → file_fault d request.row_range before l ≡ None → is_good d request (under 0 d l) ≡ true
  good_layout before l none =
      let sound = sound_file d request.row_range before l none in
      let w = files_are_widened d request.row_range before l none in
      let formed : first_fault (under 0 d l) d ≡ None = no_fault (under 0 d l) d (deep, w.form) in
      let within : is_within request.row_range (rows_of (under 0 d l)) ≡ true = ap (is_within request.row_range) w.rows ∙ same_within request.row_range (rows_of l) ∙ sound.within in
      rw (formed, within) refl

  good_under : (before : ℕ) (l : Layout) → file_fault d request.row_range before l ≡ None → is_good_under d request l ≡ true
  good_under before l none =
      let sound = sound_file d request.row_range before l none in
      let within : is_within request.row_range (rows_of l) ≡ true = same_within request.row_range (rows_of l) ∙ sound.within in
      rw (sound.fits, sound.formed, within) refl

  abbrev pub named_item : ℕ → ℕ → List (Option Val) → List Item
  named_item place i vs = map (λ v. record { file = place; row = i; value = v }) vs

  pub part_under : (place before : ℕ) (g : Given) (s : Store) → given_fault d request.row_range before g ≡ None
      → part_of d request place (beside (behind_of d g) s) (given_under d g) ≡ union_part d request place s g
  part_under place before skip s none = refl
  part_under place before (layout_of l) s none =
      let w = files_are_widened d request.row_range before l none in
      let u : Store = beside (behind d l) s in
      let items : flat_map (row_items d request place (under 0 d l) u) (picked_rows request.row_range request.selection (rows_of (under 0 d l)))
      ≡ flat_map (union_items d request place l s) (picked_rows request.row_range request.selection (rows_of l)) =
      (λ i. flat_map (row_items d request place (under 0 d l) u) (picked_rows request.row_range request.selection (w.rows i)))
      ∙ picked_same (row_items d request place (under 0 d l) u) (union_items d request place l s) request.row_range request.selection (rows_of l)
      (λ i lt. ap (λ v. named_item place i (item_of d request i v)) (w.values s i lt)) in
      rw (good_layout before l none, good_under before l none) items

  -- ---- the files
  none_parts : (x y : Option UnionFault) → or_later x y ≡ None → (x ≡ None) × (y ≡ None)
  none_parts None y e = (refl, e)
  none_parts (Some x) y e = absurd cc

  mapped_none : (place : ℕ) (x : Option FileFault) → option_map (of_file place) x ≡ None → x ≡ None
  mapped_none place None e = refl
  mapped_none place (Some x) e = absurd cc

  pub answer_under : (place before : ℕ) (fs : List ToldFile) → first_file_fault_from d request place before fs ≡ None
      → answer_from d request place (map (file_under d) fs) ≡ union_answer_from d request place fs
  answer_under place before [] none = refl
  answer_under place before (f ∷ fs) none =
      let parts = none_parts (option_map (of_file place) (given_fault d request.row_range before f.given)) (first_file_fault_from d request (place + 1) (before + rows_given f.given) fs) none in
      let own = part_under place before f.given f.store (mapped_none place (given_fault d request.row_range before f.given) parts.0) in
      let others = answer_under (place + 1) (before + rows_given f.given) fs parts.1 in
      λ i. own i ++ others i

  -- of the first files
  take_none : (n place before : ℕ) (fs : List ToldFile) → first_file_fault_from d request place before fs ≡ None → first_file_fault_from d request place before (take n fs) ≡ None
  take_none zero place before fs none = refl
  take_none (suc n) place before [] none = refl
  take_none (suc n) place before (f ∷ fs) none =
      let parts = none_parts (option_map (of_file place) (given_fault d request.row_range before f.given)) (first_file_fault_from d request (place + 1) (before + rows_given f.given) fs) none in
      let more = take_none n (place + 1) (before + rows_given f.given) fs parts.1 in
      λ i. or_later (parts.0 i) (more i)

  map_take : (n : ℕ) (fs : List ToldFile) → map (file_under d) (take n fs) ≡ take n (map (file_under d) fs)
  map_take zero fs = refl
  map_take (suc n) [] = refl
  map_take (suc n) (f ∷ fs) = λ i. file_under d f ∷ map_take n fs i

  pub answers : (fs : List ToldFile) → first_file_fault_from d request 0 0 fs ≡ None → answer d request (map (file_under d) fs) ≡ union_answer d request fs
  answers fs none = answer_under 0 0 fs none

  pub first_answers : (n : ℕ) (fs : List ToldFile) → first_file_fault_from d request 0 0 fs ≡ None → answer d request (take n (map (file_under d) fs)) ≡ union_answer d request (take n fs)
  first_answers n fs none = (λ i. answer d request (sym (map_take n fs) i)) ∙ answer_under 0 0 (take n fs) (take_none n 0 0 fs none)

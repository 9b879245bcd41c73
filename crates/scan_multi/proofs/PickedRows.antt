-- The picked rows of a file are those of its splits.
use Rattle.std.proofs.Common.{◌≡◌, ℕ, Bool, true, ◌==◌, List, [], ◌∷◌, ◌++◌, filter, Option, Some, None, refl, sym, ap, subst, ◌∙◌, arith}
use Rattle.std.specs.Prelude.{if◌then◌else◌}
use Rattle.std.specs.List.{flat_map}
use Rattle.std.specs.declared.ops.Range.{Range}
use Rattle.std.proofs.lemmas.Bool.Decides.{nat_tests}
use Rattle.scan_values.specs.DataType.{DataType}
use Rattle.scan_values.specs.Selections.{is_among, picked_rows}
use Rattle.scan_values.specs.StrictSorted.{is_rising}
use Rattle.scan_expr.specs.declared.request.ScanRequest.{ScanRequest}
use Rattle.scan_layout.specs.Edges.{edges}
use Rattle.scan_layout.specs.Layout.{Layout, rows_of}
use Rattle.scan_core.specs.Boundaries.{cut_rows, has_ends}
use Rattle.scan_core.specs.BuilderData.{range_or_all}
use Rattle.scan_core.specs.FieldMasks.{firsts, scan_paths}
use Rattle.scan_core.specs.SplitRanges.{Follow, last_from, neighbours, rows}
use Rattle.scan_core.proofs.Cutting.{cut_rows_rise, these_end}
use Rattle.scan_core.proofs.Following.{splits_of_all}
use Rattle.scan_core.proofs.Reaching.{EndsBy}
use Rattle.scan_core.proofs.Reading.{both_of, reached_rows}
use Rattle.scan_file.specs.FileAsks.{FileAsk}
use Rattle.scan_file.specs.Parts.{is_some_row, ask_range, split_points, picks, file_ranges, read_ranges}
use Rattle.scan_multi.specs.Answer.{is_within, is_good}
use Rattle.scan_multi.specs.Asked.{ask_of, AsksFor, IsAskable}
use Rattle.scan_multi.proofs.Faults.{good_parts}

-- ---- ranges without a row may be left out
module _ {A : Type 0} (f : A → List ℕ) where
  pub flat_kept : (xs : List A) → flat_map f (filter (λ x. is_some_row (f x)) xs) ≡ flat_map f xs
  flat_kept [] = refl
  flat_kept (x ∷ xs) = go (f x) refl (flat_kept xs)
    where
      go : (is : List ℕ) → f x ≡ is → flat_map f (filter (λ y. is_some_row (f y)) xs) ≡ flat_map f xs
          → flat_map f (if is_some_row is then x ∷ filter (λ y. is_some_row (f y)) xs else filter (λ y. is_some_row (f y)) xs) ≡ f x ++ flat_map f xs
      go [] e rest = rest ∙ sym (ap (λ ys. ys ++ flat_map f xs) e)
      go (i ∷ is) e rest = ap (λ ys. f x ++ ys) rest

-- ---- boundaries of all rows
bounds_follow : (n : ℕ) (bs : List ℕ) → has_ends 0 n bs ≡ true → ((x : ℕ) (xs : List ℕ) → bs ≡ x ∷ xs → Follow x (last_from x xs) (neighbours (x ∷ xs))) → Follow 0 n (neighbours bs)
bounds_follow n [] h follow = cc
bounds_follow n (x ∷ xs) h follow =
    let ends = both_of (x == 0) (last_from x xs == n) h in
    let first : x ≡ 0 = grind (arith, nat_tests, ends.0) in
    let last : last_from x xs ≡ n = grind (arith, nat_tests, ends.1) in
    subst (λ z. Follow 0 z (neighbours (x ∷ xs))) last (subst (λ z. Follow z (last_from x xs) (neighbours (x ∷ xs))) first (follow x xs refl))

pub all_follow : (test : ℕ → Bool) (n : ℕ) → Follow 0 n (neighbours (cut_rows test (rows 0 n)))
all_follow test n =
    bounds_follow n (cut_rows test (rows 0 n)) (these_end test (rows 0 n) (cut_rows test (rows 0 n)) (omega arith) refl)
    (λ x xs e. splits_of_all x xs (sym (ap (λ z. is_rising z) e) ∙ cut_rows_rise test (rows 0 n)))

module _ (d : DataType) (request : ScanRequest) (l : Layout) (askable : IsAskable d request) (within : is_within request.row_range (rows_of l) ≡ true) where
  -- the range ends by the rows
  ends_by : EndsBy (rows_of l) request.row_range
  ends_by = go request.row_range within
    where
      go : (r : Option (Range ℕ)) → is_within r (rows_of l) ≡ true → EndsBy (rows_of l) r
      go None w = tt
      go (Some r) w = grind (arith, nat_tests)

  points_rise : is_rising (split_points (ask_of d request) l) ≡ true
  points_rise = cut_rows_rise (is_among (edges l (firsts (scan_paths (ask_of d request).projection (ask_of d request).filter)) (ask_range (ask_of d request) l).start (ask_range (ask_of d request) l).end)) (ask_range (ask_of d request) l)

  points_follow : request.row_range ≡ None → Follow 0 (rows_of l) (neighbours (split_points (ask_of d request) l))
  points_follow none = subst (λ r. Follow 0 (rows_of l) (neighbours (cut_rows (is_among (edges l (firsts (scan_paths (ask_of d request).projection (ask_of d request).filter)) (range_or_all r (rows_of l)).start (range_or_all r (rows_of l)).end)) (range_or_all r (rows_of l))))) (sym none)
      (all_follow (is_among (edges l (firsts (scan_paths (ask_of d request).projection (ask_of d request).filter)) 0 (rows_of l))) (rows_of l))

  pub picked_of : picked_rows request.row_range request.selection (rows_of l) ≡ flat_map (picks (ask_of d request) l) (read_ranges (ask_of d request) l)
  picked_of =
      sym (reached_rows (rows_of l) (split_points (ask_of d request) l) request.row_range request.selection points_rise points_follow ends_by askable.selection)
      ∙ sym (flat_kept (picks (ask_of d request) l) (file_ranges (ask_of d request) l))

-- the picked rows of a good layout are those of its splits, one split after the other
pub picked_are : (d : DataType) (request : ScanRequest) (a : FileAsk) → AsksFor d request a → (l : Layout) → is_good d request l ≡ true
    → picked_rows request.row_range request.selection (rows_of l) ≡ flat_map (picks a l) (read_ranges a l)
picked_are d request a asks l good =
    picked_of d request l asks.askable (good_parts d request l good).1
    ∙ ap (λ z. flat_map (picks z l) (read_ranges z l)) (sym asks.is)

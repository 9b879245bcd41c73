-- What a drive over files gives is the answer of a scan, up to the first row that is not clean.
use Rattle.std.proofs.Common.{◌≡◌, ℕ, ◌+◌, true, List, [], ◌∷◌, ◌++◌, map, take, Option, Some, None, refl, sym, ap, subst, ◌∙◌, append-nil}
use Rattle.std.specs.Prelude.{cond}
use Rattle.std.specs.List.{flat_map}
use Rattle.std.specs.declared.ops.Range.{Range}
use Rattle.std.proofs.lemmas.Grind.{flat_map-append}
use Rattle.scan_values.specs.DataType.{DataType}
use Rattle.scan_values.specs.Selections.{picked_rows}
use Rattle.scan_expr.specs.declared.request.ScanRequest.{ScanRequest}
use Rattle.scan_segments.specs.Source.{Store}
use Rattle.scan_layout.specs.Layout.{Layout, rows_of}
use Rattle.scan_opener.specs.Opener.{Given, skip, layout_of}
use Rattle.scan_drive.specs.Files as drive
use Rattle.scan_drive.proofs.Cutting.{first_rows}
use Rattle.scan_file.specs.FileAsks.{FileAsk}
use Rattle.scan_file.specs.Openings.{layout_fault, part_unless}
use Rattle.scan_file.specs.Openings as opened
use Rattle.scan_file.specs.Parts.{layout_part, picks, read_ranges, split_rows}
use Rattle.scan_file.specs.declared.fault.FileFault.{FileFault}
use Rattle.scan_multi.specs.Answer.{Item, ToldFile, answer, answer_from, is_good, part_of, row_items}
use Rattle.scan_multi.specs.Asked.{AgreesTo, AreClean, AsksFor, ask_of, items_from, tale_of}
use Rattle.scan_multi.specs.Output.{limited}
use Rattle.scan_multi.proofs.Agreeing.{agrees_all, agrees_append, agrees_take}
use Rattle.scan_multi.proofs.Faults.{faultless_good, good_parts}
use Rattle.scan_multi.proofs.Judged.{conjuncts_judged}
use Rattle.scan_multi.proofs.PickedRows.{picked_are}
use Rattle.scan_multi.proofs.SplitItems.{split_agrees}

-- ---- groups
flattened_grouped : (file : ℕ) (xs : List drive.Item) → drive.flattened (drive.grouped file xs) ≡ map (λ x. (file, x)) xs
flattened_grouped file [] = refl
flattened_grouped file (x ∷ xs) = append-nil (map (λ (y : drive.Item). (file, y)) (x ∷ xs))

pub flattened_append : (gs hs : List (drive.Group drive.Item)) → drive.flattened (gs ++ hs) ≡ drive.flattened gs ++ drive.flattened hs
flattened_append gs hs = flat_map-append drive.placed gs hs

module _ (d : DataType) (request : ScanRequest) (asks : AsksFor d request (ask_of d request)) where
  module _ (file : ℕ) (l : Layout) (store : Store) (good : is_good d request l ≡ true) where
    -- the splits of some ranges
    ranges_agree : (rs : List (Range ℕ)) → AgreesTo (drive.flattened (flat_map (drive.grouped file) (map (λ r. split_rows (ask_of d request) l store (picks (ask_of d request) l r)) rs)))
        (flat_map (row_items d request file l store) (flat_map (picks (ask_of d request) l) rs))
    ranges_agree [] = refl
    ranges_agree (r ∷ rs) =
        let rows : List drive.Item = split_rows (ask_of d request) l store (picks (ask_of d request) l r) in
        let others : List (drive.Group drive.Item) = flat_map (drive.grouped file) (map (λ q. split_rows (ask_of d request) l store (picks (ask_of d request) l q)) rs) in
        let here = split_agrees d request file l store (conjuncts_judged d request l store asks.askable (good_parts d request l good).0) (picks (ask_of d request) l r) in
        let joined = agrees_append (map (λ x. (file, x)) rows) (drive.flattened others) (flat_map (row_items d request file l store) (picks (ask_of d request) l r)) (flat_map (row_items d request file l store) (flat_map (picks (ask_of d request) l) rs)) here (ranges_agree rs) in
        let these : drive.flattened (drive.grouped file rows ++ others) ≡ map (λ x. (file, x)) rows ++ drive.flattened others = flattened_append (drive.grouped file rows) others ∙ ap (λ xs. xs ++ drive.flattened others) (flattened_grouped file rows) in
        let all : flat_map (row_items d request file l store) (picks (ask_of d request) l r ++ flat_map (picks (ask_of d request) l) rs)
        ≡ flat_map (row_items d request file l store) (picks (ask_of d request) l r) ++ flat_map (row_items d request file l store) (flat_map (picks (ask_of d request) l) rs) =
        flat_map-append (row_items d request file l store) (picks (ask_of d request) l r) (flat_map (picks (ask_of d request) l) rs) in
        subst (AgreesTo (drive.flattened (drive.grouped file rows ++ others))) (sym all)
        (subst (λ xs. AgreesTo xs (flat_map (row_items d request file l store) (picks (ask_of d request) l r) ++ flat_map (row_items d request file l store) (flat_map (picks (ask_of d request) l) rs))) (sym these) joined)

    good_agrees : AgreesTo (drive.flattened (drive.part_over file (layout_part (ask_of d request) l) store)) (part_of d request file store (layout_of l))
    good_agrees =
        let picked = picked_are d request (ask_of d request) asks l good in
        let whole : part_of d request file store (layout_of l) ≡ flat_map (row_items d request file l store) (flat_map (picks (ask_of d request) l) (read_ranges (ask_of d request) l)) =
        ap (λ b. cond b (flat_map (row_items d request file l store) (picked_rows request.row_range request.selection (rows_of l))) (record { file = file; row = 0; value = None } ∷ [])) good
        ∙ ap (flat_map (row_items d request file l store)) picked in
        subst (AgreesTo (drive.flattened (drive.part_over file (layout_part (ask_of d request) l) store))) (sym whole) (ranges_agree (read_ranges (ask_of d request) l))

  -- what a drive gives of a file
  pub file_agrees : (file : ℕ) (f : ToldFile) → AgreesTo (drive.flattened (drive.part_groups file (tale_of (ask_of d request) f))) (part_of d request file f.store f.given)
  file_agrees file f = go f.given
    where
      go : (g : Given) → AgreesTo (drive.flattened (drive.part_over file (opened.part_of (ask_of d request) g) f.store)) (part_of d request file f.store g)
      go skip = refl
      go (layout_of l) = by (layout_fault (ask_of d request) l) refl
        where
          by : (o : Option FileFault) → layout_fault (ask_of d request) l ≡ o → AgreesTo (drive.flattened (drive.part_over file (part_unless (ask_of d request) o (layout_part (ask_of d request) l)) f.store)) (part_of d request file f.store (layout_of l))
          by None e = good_agrees file l f.store (faultless_good d request (ask_of d request) asks l e)
          by (Some x) e = λ c. cc

  pub files_agree : (files : List ToldFile) (place : ℕ) → AgreesTo (drive.flattened (drive.answer_from place (map (tale_of (ask_of d request)) files))) (answer_from d request place files)
  files_agree [] place = refl
  files_agree (f ∷ files) place =
      subst (λ xs. AgreesTo xs (part_of d request place f.store f.given ++ answer_from d request (place + 1) files))
      (sym (flattened_append (drive.part_groups place (tale_of (ask_of d request) f)) (drive.answer_from (place + 1) (map (tale_of (ask_of d request)) files))))
      (agrees_append (drive.flattened (drive.part_groups place (tale_of (ask_of d request) f))) (drive.flattened (drive.answer_from (place + 1) (map (tale_of (ask_of d request)) files)))
      (part_of d request place f.store f.given) (answer_from d request (place + 1) files) (file_agrees place f) (files_agree files (place + 1)))

-- of groups that agree to items, the first that are clean are the first items
pub limited_agree : (whole : List (drive.Group drive.Item)) (ms : List Item) → AgreesTo (drive.flattened whole) ms → (limit : Option ℕ) (gs : List (drive.Group drive.Item)) → gs ≡ drive.limited limit whole → AreClean (drive.flattened gs)
    → items_from (drive.flattened gs) ≡ limited limit ms
limited_agree whole ms h None gs e clean = agrees_all (drive.flattened gs) ms (subst (λ z. AgreesTo (drive.flattened z) ms) (sym e) h) clean
limited_agree whole ms h (Some n) gs e clean =
    let rows : drive.flattened gs ≡ take n (drive.flattened whole) = ap drive.flattened e ∙ first_rows n whole in
    ap items_from rows ∙ agrees_take n (drive.flattened whole) ms h (subst AreClean rows clean)

module _ (d : DataType) (request : ScanRequest) (a : FileAsk) (asks : AsksFor d request a) where
  -- what a drive gives of files is their answer, up to the first row that is not clean
  pub answers_agree : (files : List ToldFile) → AgreesTo (drive.flattened (drive.answer (map (tale_of a) files))) (answer d request files)
  answers_agree files = subst (λ z. AgreesTo (drive.flattened (drive.answer (map (tale_of z) files))) (answer d request files)) (sym asks.is) (files_agree d request (record { is = refl; askable = asks.askable }) files 0)

  -- clean groups of a drive, as far as the limit allows, are the items that the limit allows
  pub given_limited : (files : List ToldFile) (limit : Option ℕ) (gs : List (drive.Group drive.Item)) → gs ≡ drive.limited limit (drive.answer (map (tale_of a) files)) → AreClean (drive.flattened gs)
      → items_from (drive.flattened gs) ≡ limited limit (answer d request files)
  given_limited files limit gs e clean = limited_agree (drive.answer (map (tale_of a) files)) (answer d request files) (answers_agree files) limit gs e clean

-- What a drive gives of files in no order: a choice of the items of their answer, split by split.
use Rattle.std.proofs.Common.{◌≡◌, ℕ, zero, suc, List, [], ◌∷◌, ◌++◌, get_or, length, map, take, Option, None, refl, sym, ap, subst, ◌∙◌}
use Rattle.std.specs.Prelude.{All, IsPermutation}
use Rattle.std.specs.List.{flat_map}
use Rattle.std.proofs.lemmas.List.Sorted.{IsPermutation-map, IsPermutation-sym}
use Rattle.scan_values.specs.DataType.{DataType}
use Rattle.scan_expr.specs.Infer.{infer}
use Rattle.scan_expr.specs.declared.request.ScanRequest.{ScanRequest}
use Rattle.scan_drive.specs.Files as drive
use Rattle.scan_drive.specs.Grants.{AreFronts, AreSome, IsFront}
use Rattle.scan_drive.specs.Line.{answer_in}
use Rattle.scan_drive.proofs.Same.{joined_alike, rows_any}
use Rattle.scan_file.specs.FileAsks.{FileAsk}
use Rattle.scan_multi.specs.Answer.{ToldFile, answer, part_of}
use Rattle.scan_multi.specs.Asked.{AgreesTo, AreClean, AsksFor, ask_of, items_from, tale_of}
use Rattle.scan_multi.specs.Before.{IsBelow}
use Rattle.scan_multi.specs.Chunks.{IsFrontOf, cut}
use Rattle.scan_multi.specs.Output.{IsChoice}
use Rattle.scan_multi.proofs.Agreeing.{agrees_all, agrees_append}
use Rattle.scan_multi.proofs.Chosen.{part_chosen}
use Rattle.scan_multi.proofs.CutFiles.{no_file, part_at}
use Rattle.scan_multi.proofs.Cuts.{all_keyed, cut_alone, group_items}
use Rattle.scan_multi.proofs.FileParts.{AreParts, answer_parts}
use Rattle.scan_multi.proofs.Meaning.{AreOf}
use Rattle.scan_multi.proofs.Pairing.{AreFull, Arranges, arranged, clean_alike, fronts_among, joined, rows_alike}
use Rattle.scan_multi.proofs.Reached.{goes_on}
use Rattle.scan_multi.proofs.RowTypes.{placed_front, rows_typed, typed_append, typed_behind, typed_front}
use Rattle.scan_multi.proofs.Tales.{answers_agree, file_agrees, flattened_append}

-- ---- the dtypes of rows
typed_alike : (t : DataType) (gs hs : List (drive.Group drive.Item)) → IsPermutation gs hs → AreOf t (drive.flattened gs) → AreOf t (drive.flattened hs)
typed_alike t = rows_alike (AreOf t) (typed_append t) (λ xs ys h. (typed_front t xs ys h, typed_behind t xs ys h))

front_typed : (t : DataType) (g w : drive.Group drive.Item) → IsFront g w → AreOf t (drive.placed w) → AreOf t (drive.placed g)
front_typed t g w f h =
    let first : drive.placed g ≡ drive.placed (w.0, take f.most w.1) = λ z. drive.placed (f.file z, f.rows z) in
    subst (AreOf t) (sym first) (placed_front t w.0 f.most w.1 h)

-- the first rows of groups
fronts_typed : (t : DataType) (gs ws : List (drive.Group drive.Item)) → AreFronts gs ws → AreOf t (drive.flattened ws) → AreOf t (drive.flattened gs)
fronts_typed t [] ws f h = tt
fronts_typed t (g ∷ gs) [] f h = absurd f
fronts_typed t (g ∷ gs) (w ∷ ws) f h =
    typed_append t (drive.placed g) (drive.flattened gs)
    (front_typed t g w f.0 (typed_front t (drive.placed w) (drive.flattened ws) h))
    (fronts_typed t gs ws f.1 (typed_behind t (drive.placed w) (drive.flattened ws) h))

module _ (d : DataType) (request : ScanRequest) (a : FileAsk) (asks : AsksFor d request a) (files : List ToldFile) where
  -- what is asked, in the words of the request
  asks-itself : AsksFor d request (ask_of d request)
  asks-itself = record { is = refl; askable = asks.askable }

  -- ---- files at some places
  -- the groups of the file at a place
  abbrev pub groups_at : ℕ → List (drive.Group drive.Item)
  groups_at k = drive.part_groups k (drive.told_at (map (tale_of a) files) k)

  -- what holds of each file, and of none, holds at each place
  at_place : (P : drive.Told drive.Item → ToldFile → Type 0) → ((f : ToldFile) → P (tale_of a f) f) → P drive.untold no_file → (fs : List ToldFile) (k : ℕ) → P (drive.told_at (map (tale_of a) fs) k) (get_or fs k no_file)
  at_place P h none [] k = none
  at_place P h none (f ∷ fs) zero = h f
  at_place P h none (f ∷ fs) (suc k) = at_place P h none fs k

  agree-at : (k : ℕ) → AgreesTo (drive.flattened (groups_at k)) (part_at d request files k)
  agree-at k =
      at_place (λ t f. AgreesTo (drive.flattened (drive.part_groups k t)) (part_of d request k f.store f.given))
      (λ f. subst (λ z. AgreesTo (drive.flattened (drive.part_groups k (tale_of z f))) (part_of d request k f.store f.given)) (sym asks.is) (file_agrees d request asks-itself k f))
      refl files k

  -- the groups of the files at some places
  abbrev pub groups_in : List ℕ → List (drive.Group drive.Item)
  groups_in order = answer_in order (map (tale_of a) files)

  agree-in : (order : List ℕ) → AgreesTo (drive.flattened (groups_in order)) (flat_map (part_at d request files) order)
  agree-in [] = refl
  agree-in (k ∷ ks) =
      subst (λ xs. AgreesTo xs (part_at d request files k ++ flat_map (part_at d request files) ks)) (sym (flattened_append (groups_at k) (groups_in ks)))
      (agrees_append (drive.flattened (groups_at k)) (drive.flattened (groups_in ks)) (part_at d request files k) (flat_map (part_at d request files) ks) (agree-at k) (agree-in ks))

  -- the items of files at some places, all of which were given, with room for more
  pub few_given : (ps : List ℕ) (gs more : List (drive.Group drive.Item)) → IsPermutation gs (groups_in ps ++ more) → AreClean (drive.flattened gs) → IsBelow request.limit (drive.count gs)
      → IsBelow request.limit (length (flat_map (part_at d request files) ps))
  few_given ps gs more same clean room =
      (goes_on request.limit (groups_in ps) more (groups_in ps ++ more) (flat_map (part_at d request files) ps) (agree-in ps) refl
      (clean_alike gs (groups_in ps ++ more) same clean) (subst (IsBelow request.limit) (rows_any gs (groups_in ps ++ more) same) room)).below

  -- ---- what is given
  -- the groups of all files
  abbrev all_groups : List (drive.Group drive.Item)
  all_groups = drive.answer (map (tale_of a) files)

  -- each beside its items
  all-parts : AreParts d request files all_groups (answer d request files)
  all-parts = subst (λ z. AreParts d request files (drive.answer (map (tale_of z) files)) (answer d request files)) (sym asks.is) (answer_parts d request files asks-itself)

  module _ (limit : Option ℕ) (gs : List (drive.Group drive.Item)) (is : AreSome limit all_groups gs) where
    -- each row has the dtype of the projection
    pub rows_typed_in : AreOf (infer d request.projection) (drive.flattened gs)
    rows_typed_in =
        let all : AreOf (infer d request.projection) (drive.flattened (is.whole ++ is.others)) =
        typed_alike (infer d request.projection) all_groups (is.whole ++ is.others) (IsPermutation-sym (is.whole ++ is.others) all_groups is.among) (rows_typed d request a asks files) in
        fronts_typed (infer d request.projection) gs is.whole is.fronts
        (typed_front (infer d request.projection) (drive.flattened is.whole) (drive.flattened is.others) (subst (AreOf (infer d request.projection)) (flattened_append is.whole is.others) all))

    module _ (clean : AreClean (drive.flattened gs)) where
      in-turn : Arranges limit all-parts.parts gs
      in-turn = arranged limit all_groups gs all-parts.parts all-parts.each is clean

      -- clean rows are a choice of the items of the answer
      pub choice_given : IsChoice limit (answer d request files) (items_from (drive.flattened gs))
      choice_given =
          let alike : IsPermutation (joined (in-turn.fronts ++ in-turn.others)) (answer d request files) =
          subst (IsPermutation (joined (in-turn.fronts ++ in-turn.others))) all-parts.whole (joined_alike (λ xs. xs) (in-turn.fronts ++ in-turn.others) all-parts.parts in-turn.alike) in
          part_chosen d request files limit (items_from (drive.flattened gs)) (joined (in-turn.fronts ++ in-turn.others)) alike in-turn.sub in-turn.many

      -- each group is a front of a group of the answer
      pub fronts_given : AreFull gs → All (IsFrontOf (cut d request files (answer d request files))) (map group_items gs)
      fronts_given full = fronts_among limit all-parts.parts gs in-turn full (cut d request files (answer d request files)) all-parts.cuts

  -- without a limit the groups are those of the answer, each once
  pub groups_given : (gs : List (drive.Group drive.Item)) → AreSome None all_groups gs → AreClean (drive.flattened gs) → IsPermutation (map group_items gs) (cut d request files (answer d request files))
  groups_given gs is clean =
      let same : IsPermutation gs all_groups = is.free refl in
      let all-clean : AreClean (drive.flattened all_groups) = clean_alike gs all_groups same clean in
      let items : items_from (drive.flattened all_groups) ≡ answer d request files = agrees_all (drive.flattened all_groups) (answer d request files) (answers_agree d request a asks files) all-clean in
      let cuts : map group_items all_groups ≡ cut d request files (answer d request files) =
      sym (cut_alone d request files 0 0 all_groups (all_keyed d request a asks files) all-clean) ∙ ap (cut d request files) items in
      subst (IsPermutation (map group_items gs)) cuts (IsPermutation-map group_items gs all_groups same)

-- What a scan of a file on disk concludes.
use Rattle.std.proofs.Common.{◌≡◌, ℕ, zero, suc, ◌+◌, ◌-◌, ◌<◌, List, [], ◌∷◌, ◌++◌, Bool, true, false, cond, Option, None, Some, refl, sym, ap, ap₂, ◌∙◌, subst, length, map, filter, arith}
use Rattle.std.specs.Prelude.{IfOk, Result, Ok, Err, slice_get, zip}
use Rattle.std.specs.List.{range_with_len, flat_map}
use Rattle.std.specs.Result.{result_ok}
use Rattle.std.proofs.lemmas.List.{append-nil}
use Rattle.std.proofs.lemmas.List.Concat.{flat_map-cons}
use Rattle.vortex_scan.specs.Values.DataType.{DataType}
use Rattle.vortex_scan.specs.Values.Selections.{picked_rows, selects}
use Rattle.vortex_scan.specs.Values.Val.{Val, marked, is_clean, is_clean-marked, read_marked, read-marked}
use Rattle.vortex_scan.specs.Values.declared.selection.Selection.TheVariants as selection
use Rattle.vortex_scan.specs.Expr.Expr.{root}
use Rattle.vortex_scan.specs.Expr.declared.request.ScanRequest.{ScanRequest}
use Rattle.vortex_scan.specs.Segments.Requests.{Requested, is_live}
use Rattle.vortex_scan.specs.Segments.Source.{Store, none_live}
use Rattle.vortex_scan.specs.Layout.Layout.{Layout, rows_of}
use Rattle.vortex_scan.specs.Layout.RowValue.{row_value}
use Rattle.vortex_scan.specs.Opener.Opener.{Given, layout_of, skip}
use Rattle.vortex_scan.specs.Drive.declared.files.ScanFile.{ScanFile}
use Rattle.vortex_scan.specs.Disk.Contents.{content_of}
use Rattle.vortex_scan.specs.Disk.Given.{step}
use Rattle.vortex_scan.specs.Disk.OpenerView.{OpenerView, opener_state, given_by, given_in}
use Rattle.vortex_scan.specs.Disk.Segments.{segment_of, store_of}
use Rattle.vortex_scan.specs.Disk.SourceView.{SourceView, state_of}
use Rattle.vortex_scan.specs.Disk.declared.fault.DiskFault.{DiskFault}
use Rattle.vortex_scan.specs.Disk.declared.footer.Footer.{Footer}
use Rattle.vortex_scan.specs.DiskWriter.Written.{IsFileOf}
use Rattle.vortex_scan.specs.Multi.Answer.{Item, ToldFile, answer, is_good, item_of, part_of, row_items}
use Rattle.vortex_scan.specs.Multi.Lawful.{IsIdle}
use Rattle.vortex_scan.specs.Multi.Output.{ChunkData, IsGiven, chunk_items, given}
use Rattle.uses.specs.Disk.{AreOfFile, disk_file, items_from}
use Rattle.uses.specs.Own.{AreOne}
use Rattle.uses.specs.Uses.{all_of}
use Rattle.uses.proofs.Alone.{alone}

-- ---- one file
idle-none : (r : Requested) → r ≡ record { asked = []; live = [] } → is_live r ≡ none_live
idle-none r e = ap is_live e

module _ {F : Type 0} (bytes_of : F → Option (List ℕ)) (can_fail : F → Bool) (f : ScanFile (OpenerView F) (SourceView F)) where
  -- a file that was opened just now
  abbrev pub AsNew : F → Type 0
  AsNew file = f.source ≡ record { file = file; checks = true; known = None; refused = None; requests = record { asked = []; live = [] }; faults = 0 }

  pub file_idle : {file : F} → AsNew file → IsIdle (opener_state bytes_of can_fail) (state_of bytes_of can_fail) f
  file_idle {file} e = rw e refl

  pub file_alone : (header file : F) (bytes : List ℕ) (footer : Footer) → f.opener ≡ record { file = header; refused = None; faults = 0; polls = 0 } → AsNew file
      → AreOfFile (bytes_of header) (bytes_of file) bytes footer → AreOne (opener_state bytes_of can_fail) (state_of bytes_of can_fail) (disk_file bytes footer) (f ∷ [])
  file_alone header file bytes footer o s a =
      alone (opener_state bytes_of can_fail) (state_of bytes_of can_fail) f (disk_file bytes footer)
      (record { gives = rw (o, a.footer_told, a.is) refl; holds = rw (s, a.told) refl }) (file_idle s) (rw (o, s, a.footer_told, a.told, a.is) refl)

-- what holds of each Ok
pub ok_after : {A E : Type 0} {P Q : A → Type 0} (r : Result A E) → ((x : A) → P x → Q x) → IfOk r P → IfOk r Q
ok_after (Ok x) f p = f x p
ok_after (Err e) f p = tt

-- ---- what chunks give has a value
abbrev front_value : List Item → Option Val
front_value [] = None
front_value (x ∷ xs) = x.value

not_lost : (cs : List ChunkData) (file row : ℕ) → given cs ≡ record { file = file; row = row; value = None } ∷ [] → ⊥
not_lost [] file row e = absurd (cc e)
not_lost (c ∷ cs) file row e = go c.rows c.values.items (not_lost cs file row) (sym (flat_map-cons chunk_items c cs) ∙ e)
  where
    go : (rows : List ℕ) (vs : List Val) → (given cs ≡ record { file = file; row = row; value = None } ∷ [] → ⊥)
        → map (λ r. record { file = c.file; row = r.0; value = Some r.1 }) (zip rows vs) ++ given cs ≡ record { file = file; row = row; value = None } ∷ [] → ⊥
    go [] vs later e = later e
    go (r ∷ rs) [] later e = later e
    go (r ∷ rs) (v ∷ vs) later e = let values : Some v ≡ None = ap front_value e in absurd (cc values)

-- ---- a row of a file gives its value
module _ (d : DataType) (l : Layout) (store : Store) where
  item-is : (i : ℕ) (v : Val) → row_value l store i ≡ marked v → row_items d (all_of root) 0 l store i ≡ record { file = 0; row = i; value = Some v } ∷ []
  item-is i v e = rw (e, is_clean-marked v, read-marked v) refl

  items-are : (i : ℕ) (vs : List Val) → ((k : ℕ) (v : Val) → slice_get vs k ≡ Some v → row_value l store (i + k) ≡ marked v)
      → flat_map (row_items d (all_of root) 0 l store) (range_with_len i (length vs)) ≡ items_from i vs
  items-are i [] gives = refl
  items-are i (v ∷ vs) gives =
      let here : i + 0 ≡ i = omega arith in
      let first = item-is i v (subst (λ (n : ℕ). row_value l store n ≡ marked v) here (gives 0 v refl)) in
      let later = items-are (i + 1) vs (λ k w e. let there : i + suc k ≡ (i + 1) + k = omega arith in subst (λ (n : ℕ). row_value l store n ≡ marked w) there (gives (suc k) w e)) in
      flat_map-cons (row_items d (all_of root) 0 l store) i (range_with_len (i + 1) (length vs))
      ∙ ap₂ (λ xs ys. xs ++ ys) first later

  all_selected : (a n : ℕ) → filter (selects selection.All) (range_with_len a n) ≡ range_with_len a n
  all_selected a zero = refl
  all_selected a (suc n) = ap (λ xs. a ∷ xs) (all_selected (a + 1) n)

  part-is : (vs : List Val) → is_good d (all_of root) l ≡ true → rows_of l ≡ length vs → ((k : ℕ) (v : Val) → slice_get vs k ≡ Some v → row_value l store k ≡ marked v)
      → part_of d (all_of root) 0 store (layout_of l) ≡ items_from 0 vs
  part-is vs good size gives =
      let all : length vs - 0 ≡ length vs = omega arith in
      rw (good, size, all, all_selected 0 (length vs))
      (items-are 0 vs (λ k v e. let here : k ≡ 0 + k = omega arith in subst (λ (n : ℕ). row_value l store n ≡ marked v) here (gives k v e)))

  -- a part that chunks give is of a layout that is good
  pub given-are : (cs : List ChunkData) (vs : List Val) → given cs ≡ answer d (all_of root) (record { given = layout_of l; store = store } ∷ [])
      → rows_of l ≡ length vs → ((k : ℕ) (v : Val) → slice_get vs k ≡ Some v → row_value l store k ≡ marked v) → given cs ≡ items_from 0 vs
  given-are cs vs e size gives = go (is_good d (all_of root) l) refl (e ∙ append-nil (part_of d (all_of root) 0 store (layout_of l)))
    where
      go : (b : Bool) → is_good d (all_of root) l ≡ b → given cs ≡ part_of d (all_of root) 0 store (layout_of l) → given cs ≡ items_from 0 vs
      go true g w = w ∙ part-is vs g size gives
      go false g w = absurd (not_lost cs 0 0 (w ∙ rw g refl))

-- ---- a file of rows
module _ (d : DataType) (vs : List Val) (bytes : List ℕ) (is : IsFileOf d vs bytes) where
  pub record Opened : Type 0 where
    pub footer : Footer
    pub content : content_of bytes ≡ Ok footer
    pub layout : footer.layout ≡ is.layout

  pub opened : Opened
  opened = go (content_of bytes) refl
    where
      same : (r : Result Footer DiskFault) → content_of bytes ≡ r → step {B = Layout} (λ f. Ok f.layout) r ≡ Ok is.layout
      same r e = subst (λ (z : Result Footer DiskFault). step {B = Layout} (λ f. Ok f.layout) z ≡ Ok is.layout) e is.opens

      go : (r : Result Footer DiskFault) → content_of bytes ≡ r → Opened
      go (Ok f) e = record { footer = f; content = e; layout = cc (same (Ok f) e) }
      go (Err x) e = absurd (cc (same (Err x) e))

  pub rows-are : (f : Footer) (cs : List ChunkData) → f.layout ≡ is.layout
      → IsGiven true None (answer d (all_of root) (disk_file bytes f ∷ [])) (given cs) → given cs ≡ items_from 0 vs
  rows-are f cs e g =
      let stored = is.gives true (λ id. result_ok (segment_of true None id bytes)) refl in
      given-are d f.layout (λ id. result_ok (segment_of true None id bytes)) cs vs g (ap rows_of e ∙ is.of_rows)
      (λ k v z. ap (λ (l : Layout). row_value l (λ id. result_ok (segment_of true None id bytes)) k) e ∙ stored k v z)

-- ---- a request for all rows
pub all-is : (r : ScanRequest) → r.projection ≡ root → r.filter ≡ None → r.row_range ≡ None → r.selection ≡ selection.All → r.partition_selection ≡ selection.All → r.partition_range ≡ None
    → r.ordered ≡ true → r.limit ≡ None → r ≡ all_of root
all-is r p f w s t u o l = rw (p, f, w, s, t, u, o, l) refl

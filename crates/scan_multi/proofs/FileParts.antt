-- The groups that a drive gives of files, each beside the items of the answer that it stands for: those of its split.
use Rattle.std.proofs.Common.{◌≡◌, ◌≢◌, ◌<◌, ◌≤◌, ◌+◌, ℕ, Bool, true, false, List, [], ◌∷◌, ◌++◌, append-nil, flat_map, get_or, map, Option, Some, None, inl, inr, refl, sym, ap, subst, ◌∙◌, arith}
use Rattle.std.specs.Prelude.{◌⊎◌, ◌==◌, ◌&&◌, cond, if◌then◌else◌}
use Rattle.std.specs.declared.ops.Range.{Range}
use Rattle.std.proofs.lemmas.Grind.{flat_map-append}
use Rattle.scan_values.specs.DataType.{DataType}
use Rattle.scan_values.specs.Selections.{picked_rows, selects}
use Rattle.scan_values.specs.Val.{Val}
use Rattle.scan_expr.specs.declared.request.ScanRequest.{ScanRequest}
use Rattle.scan_segments.specs.Source.{Store}
use Rattle.scan_layout.specs.Layout.{Layout, rows_of}
use Rattle.scan_layout.specs.PickGroups.{split_of}
use Rattle.scan_layout.specs.RowValue.{row_value}
use Rattle.scan_opener.specs.Opener.{Given, skip, layout_of}
use Rattle.scan_core.specs.SplitRanges.{Follow}
use Rattle.scan_drive.specs.Files as drive
use Rattle.scan_file.specs.Openings.{layout_fault, part_unless}
use Rattle.scan_file.specs.Openings as opened
use Rattle.scan_file.specs.Parts.{file_ranges, is_some_row, layout_part, picks, read_ranges, split_rows}
use Rattle.scan_file.specs.declared.fault.FileFault.{FileFault}
use Rattle.scan_multi.specs.Answer.{Item, ToldFile, answer, answer_from, item_of, part_of, row_items}
use Rattle.scan_multi.specs.Asked.{AgreesTo, AsksFor, ask_of, tale_of}
use Rattle.scan_multi.specs.Chunks.{cut, is_beside, join_first, splits_at, splits_in}
use Rattle.scan_multi.proofs.Chosen.{answer_rises, part_rises}
use Rattle.scan_multi.proofs.CutFiles.{AreFrom, AreOff, IsOff, files_off, first_is, grouped_apart, others_from}
use Rattle.scan_multi.proofs.CutRanges.{ranges_split}
use Rattle.scan_multi.proofs.Faults.{faultless_good, faulty_bad, good_parts}
use Rattle.scan_multi.proofs.Grouping.{AreCut, AreIn, past_edge, range_in, some_passing}
use Rattle.scan_multi.proofs.Judged.{conjuncts_judged}
use Rattle.scan_multi.proofs.Keys.{split_in}
use Rattle.scan_multi.proofs.Members.{In, In-append, In-left, In-right}
use Rattle.scan_multi.proofs.Orders.{other_numbers, same_numbers}
use Rattle.scan_multi.proofs.Pairing.{AgreeEach, each_append, joined}
use Rattle.scan_multi.proofs.PickedRows.{picked_are}
use Rattle.scan_multi.proofs.ReadSpans.{edges_are, file_edges}
use Rattle.scan_multi.proofs.SplitItems.{split_agrees}

module _ (d : DataType) (request : ScanRequest) (files : List ToldFile) where
  -- groups, each beside the items of its split: these are all items in their order, and are cut apart from each other
  pub record AreParts (gs : List (drive.Group drive.Item)) (items : List Item) : Type 0 where
    pub parts : List (List Item)
    pub each : AgreeEach gs parts
    pub whole : joined parts ≡ items
    pub cuts : (p : List Item) → In p parts → p ≢ [] → In p (cut d request files items)

  no_parts : AreParts [] []
  no_parts = record { parts = []; each = tt; whole = refl; cuts = λ p i some. absurd i }

  parts_append : (gs hs : List (drive.Group drive.Item)) (xs ys : List Item) → AreParts gs xs → AreParts hs ys → AreOff (is_beside d request files) xs ys → AreParts (gs ++ hs) (xs ++ ys)
  parts_append gs hs xs ys h k off = record {
    parts = h.parts ++ k.parts;
    each = each_append gs hs h.parts k.parts h.each k.each;
    whole = flat_map-append (λ zs. zs) h.parts k.parts ∙ (λ z. h.whole z ++ k.whole z);
    cuts = λ p i some. subst (In p) (sym (grouped_apart (is_beside d request files) xs ys off)) (go p some (In-append p h.parts k.parts i));
  }
    where
      go : (p : List Item) → p ≢ [] → In p h.parts ⊎ In p k.parts → In p (cut d request files xs ++ cut d request files ys)
      go p some (inl i) = In-left p (cut d request files xs) (cut d request files ys) (h.cuts p i some)
      go p some (inr i) = In-right p (cut d request files xs) (cut d request files ys) (k.cuts p i some)

  -- ---- items of splits
  -- all of this split of a file
  abbrev pub AreOfSplit : ℕ → ℕ → List Item → Type 0
  AreOfSplit file k [] = Unit {0}
  AreOfSplit file k (x ∷ xs) = ((x.file ≡ file) × (split_in d request files file x.row ≡ k)) × AreOfSplit file k xs

  -- the first is of a split of the file from this one on
  abbrev pub BeginAt : ℕ → ℕ → List Item → Type 0
  BeginAt file c [] = Unit {0}
  BeginAt file c (x ∷ xs) = (x.file ≡ file) × (c ≤ split_in d request files file x.row)

  begin_less : (file c c' : ℕ) (xs : List Item) → c ≤ c' → BeginAt file c' xs → BeginAt file c xs
  begin_less file c c' [] l h = tt
  begin_less file c c' (x ∷ xs) l h = (h.0, omega (arith, l, h.1))

  begin_split : (file c k : ℕ) (xs ys : List Item) → c ≤ k → AreOfSplit file k xs → BeginAt file (k + 1) ys → BeginAt file c (xs ++ ys)
  begin_split file c k [] ys l h b = begin_less file c (k + 1) ys (omega (arith, l)) b
  begin_split file c k (x ∷ xs) ys l h b = let e : split_in d request files file x.row ≡ k = h.0.1 in (h.0.0, omega (arith, l, e))

  split_append : (file k : ℕ) (xs ys : List Item) → AreOfSplit file k xs → AreOfSplit file k ys → AreOfSplit file k (xs ++ ys)
  split_append file k [] ys h g = g
  split_append file k (x ∷ xs) ys h g = (h.0, split_append file k xs ys h.1 g)

  -- the number of the split of an item of the file
  number_of : (file : ℕ) (x : Item) → x.file ≡ file → split_in d request files x.file x.row ≡ split_in d request files file x.row
  number_of file x e = ap (λ f. split_in d request files f x.row) e

  beside_in : (file k : ℕ) (x y : Item) → (x.file ≡ file) × (split_in d request files file x.row ≡ k) → (y.file ≡ file) × (split_in d request files file y.row ≡ k) → is_beside d request files x y ≡ true
  beside_in file k x y h g =
      let same : (x.file == y.file) ≡ true = same_numbers x.file y.file (h.0 ∙ sym g.0) in
      let there : split_in d request files x.file x.row ≡ split_in d request files x.file y.row = number_of file x h.0 ∙ h.1 ∙ sym g.1 ∙ sym (ap (λ f. split_in d request files f y.row) h.0) in
      ap (λ b. b && (split_in d request files x.file x.row == split_in d request files x.file y.row)) same
      ∙ same_numbers (split_in d request files x.file x.row) (split_in d request files x.file y.row) there

  beside_off : (file k : ℕ) (x y : Item) → (x.file ≡ file) × (split_in d request files file x.row ≡ k) → (y.file ≡ file) × (k + 1 ≤ split_in d request files file y.row) → is_beside d request files x y ≡ false
  beside_off file k x y h g =
      let same : (x.file == y.file) ≡ true = same_numbers x.file y.file (h.0 ∙ sym g.0) in
      let a : split_in d request files x.file x.row ≡ k = number_of file x h.0 ∙ h.1 in
      let b : split_in d request files x.file y.row ≡ split_in d request files file y.row = ap (λ f. split_in d request files f y.row) h.0 in
      let up : split_in d request files x.file x.row < split_in d request files x.file y.row = omega (arith, a, b, g.1) in
      ap (λ t. t && (split_in d request files x.file x.row == split_in d request files x.file y.row)) same
      ∙ other_numbers (split_in d request files x.file x.row) (split_in d request files x.file y.row) up

  first_off : (file k : ℕ) (x : Item) (ys : List Item) → (x.file ≡ file) × (split_in d request files file x.row ≡ k) → BeginAt file (k + 1) ys → IsOff (is_beside d request files) x ys
  first_off file k x [] h b = tt
  first_off file k x (y ∷ ys) h b = beside_off file k x y h b

  split_off : (file k : ℕ) (xs ys : List Item) → AreOfSplit file k xs → BeginAt file (k + 1) ys → AreOff (is_beside d request files) xs ys
  split_off file k [] ys h b = tt
  split_off file k (x ∷ xs) ys h b = (first_off file k x ys h.0 b, split_off file k xs ys h.1 b)

  -- they are one group
  one_split : (file k : ℕ) (x : Item) (xs : List Item) → AreOfSplit file k (x ∷ xs) → cut d request files (x ∷ xs) ≡ (x ∷ xs) ∷ []
  one_split file k x [] h = refl
  one_split file k x (y ∷ ys) h =
      ap (join_first (is_beside d request files) x) (one_split file k y ys h.1)
      ∙ ap (λ b. if b then (x ∷ y ∷ ys) ∷ [] else (x ∷ []) ∷ (y ∷ ys) ∷ []) (beside_in file k x y h.0 h.1.0)

  -- a group of one split
  split_parts : (file k : ℕ) (g : drive.Group drive.Item) (xs : List Item) → AgreesTo (drive.placed g) xs → AreOfSplit file k xs → AreParts (g ∷ []) xs
  split_parts file k g xs agree of = record { parts = xs ∷ []; each = (agree, tt); whole = append-nil xs; cuts = λ p i some. go xs of p i some }
    where
      go : (ys : List Item) → AreOfSplit file k ys → (p : List Item) → In p (ys ∷ []) → p ≢ [] → In p (cut d request files ys)
      go [] h p (inl e) some = absurd (some e)
      go [] h p (inr i) some = absurd i
      go (y ∷ ys) h p (inl e) some = subst (In p) (sym (one_split file k y ys h)) (inl e)
      go (y ∷ ys) h p (inr i) some = absurd i

  -- ---- the splits of a layout
  module _ (file : ℕ) (l : Layout) (store : Store) (es : List ℕ) (at : splits_at d request files file ≡ es) where
    -- what the split of a range gives
    abbrev rows_in : Range ℕ → List drive.Item
    rows_in r = split_rows (ask_of d request) l store (picks (ask_of d request) l r)

    -- and the items that it stands for
    abbrev items_in : Range ℕ → List Item
    items_in r = flat_map (row_items d request file l store) (picks (ask_of d request) l r)

    -- the groups of those of some ranges that have a picked row
    abbrev groups_of : List (Range ℕ) → List (drive.Group drive.Item)
    groups_of rs = flat_map (drive.grouped file) (map rows_in (some_passing (selects request.selection) es rs))

    -- and their items
    abbrev items_of : List (Range ℕ) → List Item
    items_of rs = flat_map (row_items d request file l store) (flat_map (picks (ask_of d request) l) (some_passing (selects request.selection) es rs))

    row_split : (k i : ℕ) → split_of es i ≡ k → AreOfSplit file k (row_items d request file l store i)
    row_split k i e = go (item_of d request i (row_value l store i))
      where
        here : split_in d request files file i ≡ k
        here = ap (λ zs. split_of zs i) at ∙ e

        go : (vs : List (Option Val)) → AreOfSplit file k (map (λ v. record { file = file; row = i; value = v }) vs)
        go [] = tt
        go (v ∷ vs) = ((refl, here), go vs)

    rows_split : (k : ℕ) (is : List ℕ) → AreIn (split_of es) k is → AreOfSplit file k (flat_map (row_items d request file l store) is)
    rows_split k [] h = tt
    rows_split k (i ∷ is) h = split_append file k (row_items d request file l store i) (flat_map (row_items d request file l store) is) (row_split k i h.0) (rows_split k is h.1)

    module _ (agrees : (r : Range ℕ) → AgreesTo (map (λ x. (file, x)) (rows_in r)) (items_in r)) where
      -- of a range
      range_parts : (k : ℕ) (r : Range ℕ) → AreOfSplit file k (items_in r) → AreParts (drive.grouped file (rows_in r)) (items_in r)
      range_parts k r of = go (rows_in r) (agrees r)
        where
          go : (xs : List drive.Item) → AgreesTo (map (λ x. (file, x)) xs) (items_in r) → AreParts (drive.grouped file xs) (items_in r)
          go [] e = subst (AreParts []) (sym e) no_parts
          go (x ∷ xs) e = split_parts file k (file, x ∷ xs) (items_in r) e of

      -- before others
      range_before : (c : ℕ) (r : Range ℕ) (rs : List (Range ℕ)) → c ≤ split_of es r.start → AreIn (split_of es) (split_of es r.start) (picks (ask_of d request) l r)
          → AreParts (groups_of rs) (items_of rs) × BeginAt file (split_of es r.start + 1) (items_of rs) → AreParts (groups_of (r ∷ rs)) (items_of (r ∷ rs)) × BeginAt file c (items_of (r ∷ rs))
      range_before c r rs low i rest = go (is_some_row (picks (ask_of d request) l r))
        where
          passing : List (Range ℕ)
          passing = some_passing (selects request.selection) es rs

          of : AreOfSplit file (split_of es r.start) (items_in r)
          of = rows_split (split_of es r.start) (picks (ask_of d request) l r) i

          both : AreParts (drive.grouped file (rows_in r) ++ groups_of rs) (items_in r ++ items_of rs) × BeginAt file c (items_in r ++ items_of rs)
          both = (
            parts_append (drive.grouped file (rows_in r)) (groups_of rs) (items_in r) (items_of rs) (range_parts (split_of es r.start) r of) rest.0 (split_off file (split_of es r.start) (items_in r) (items_of rs) of rest.1),
            begin_split file c (split_of es r.start) (items_in r) (items_of rs) low of rest.1,
          )

          go : (b : Bool) → AreParts (flat_map (drive.grouped file) (map rows_in (if b then r ∷ passing else passing))) (flat_map (row_items d request file l store) (flat_map (picks (ask_of d request) l) (if b then r ∷ passing else passing)))
              × BeginAt file c (flat_map (row_items d request file l store) (flat_map (picks (ask_of d request) l) (if b then r ∷ passing else passing)))
          go true =
              subst (λ ys. AreParts (drive.grouped file (rows_in r) ++ groups_of rs) ys × BeginAt file c ys)
              (sym (flat_map-append (row_items d request file l store) (picks (ask_of d request) l r) (flat_map (picks (ask_of d request) l) passing))) both
          go false = (rest.0, begin_less file c (split_of es r.start + 1) (items_of rs) (omega (arith, low)) rest.1)

      ranges_parts : (a b : ℕ) (rs : List (Range ℕ)) → Follow a b rs → AreCut es rs → AreParts (groups_of rs) (items_of rs) × BeginAt file (split_of es a) (items_of rs)
      ranges_parts a b [] h k = (no_parts, tt)
      ranges_parts a b (r ∷ []) h k =
          range_before (split_of es a) r [] (let e : split_of es a ≡ split_of es r.start = ap (split_of es) (sym h.0) in omega (arith, e)) (range_in (selects request.selection) es r k) (no_parts, tt)
      ranges_parts a b (r ∷ q ∷ qs) h k =
          let rest = ranges_parts r.end b (q ∷ qs) h.2 k.2 in
          let up : split_of es r.start < split_of es r.end = past_edge r.start r.end r.end es k.1 h.1 (omega arith) in
          let same : split_of es a ≡ split_of es r.start = ap (split_of es) (sym h.0) in
          range_before (split_of es a) r (q ∷ qs) (omega (arith, same)) (range_in (selects request.selection) es r k.0)
          (rest.0, begin_less file (split_of es r.start + 1) (split_of es r.end) (items_of (q ∷ qs)) (omega (arith, up)) rest.1)

  -- ---- files
  module _ (asks : AsksFor d request (ask_of d request)) where
    good_parts_of : (file : ℕ) (store : Store) (l : Layout) → splits_at d request files file ≡ splits_in d request (layout_of l) → layout_fault (ask_of d request) l ≡ None
        → AreParts (drive.part_over file (layout_part (ask_of d request) l) store) (part_of d request file store (layout_of l))
    good_parts_of file store l at e =
        let good = faultless_good d request (ask_of d request) asks l e in
        let form = good_parts d request l good in
        let es : List ℕ = file_edges d request l asks.askable form.1 in
        let up = ranges_split es request.row_range (rows_of l) request.selection (asks.askable).range in
        let agrees : (r : Range ℕ) → AgreesTo (map (λ x. (file, x)) (split_rows (ask_of d request) l store (picks (ask_of d request) l r))) (flat_map (row_items d request file l store) (picks (ask_of d request) l r)) =
        λ r. split_agrees d request file l store (conjuncts_judged d request l store asks.askable form.0) (picks (ask_of d request) l r) in
        let parts = ranges_parts file l store es (at ∙ edges_are d request l asks.askable form.1) agrees up.start up.end (file_ranges (ask_of d request) l) up.follow up.cut in
        let whole : part_of d request file store (layout_of l) ≡ flat_map (row_items d request file l store) (flat_map (picks (ask_of d request) l) (read_ranges (ask_of d request) l)) =
        ap (λ b. cond b (flat_map (row_items d request file l store) (picked_rows request.row_range request.selection (rows_of l))) (record { file = file; row = 0; value = None } ∷ [])) good
        ∙ ap (flat_map (row_items d request file l store)) (picked_are d request (ask_of d request) asks l good) in
        subst (AreParts (drive.part_over file (layout_part (ask_of d request) l) store)) (sym whole) parts.0

    -- a file that is not read
    bad_parts_of : (file : ℕ) (store : Store) (l : Layout) (x : FileFault) → layout_fault (ask_of d request) l ≡ Some x
        → AreParts (drive.part_over file (part_unless (ask_of d request) (Some x) (layout_part (ask_of d request) l)) store) (part_of d request file store (layout_of l))
    bad_parts_of file store l x e =
        let bad = faulty_bad d request (ask_of d request) asks l x e in
        let one : part_of d request file store (layout_of l) ≡ record { file = file; row = 0; value = None } ∷ [] =
        ap (λ b. cond b (flat_map (row_items d request file l store) (picked_rows request.row_range request.selection (rows_of l))) (record { file = file; row = 0; value = None } ∷ [])) bad in
        subst (AreParts (drive.part_over file (part_unless (ask_of d request) (Some x) (layout_part (ask_of d request) l)) store)) (sym one)
        (split_parts file (split_in d request files file 0) _ (record { file = file; row = 0; value = None } ∷ []) (λ c. absurd (no_clean c)) ((refl, refl), tt))
      where
        no_clean : false ≡ true → ⊥
        no_clean h = cc

    file_parts : (file : ℕ) (store : Store) (g : Given) → splits_at d request files file ≡ splits_in d request g → AreParts (drive.part_over file (opened.part_of (ask_of d request) g) store) (part_of d request file store g)
    file_parts file store skip at = no_parts
    file_parts file store (layout_of l) at = go (layout_fault (ask_of d request) l) refl
      where
        go : (o : Option FileFault) → layout_fault (ask_of d request) l ≡ o → AreParts (drive.part_over file (part_unless (ask_of d request) o (layout_part (ask_of d request) l)) store) (part_of d request file store (layout_of l))
        go None e = good_parts_of file store l at e
        go (Some x) e = bad_parts_of file store l x e

    files_parts : (fs : List ToldFile) (place : ℕ) → AreFrom d request files place fs → AreParts (drive.answer_from place (map (tale_of (ask_of d request)) fs)) (answer_from d request place fs)
    files_parts [] place h = no_parts
    files_parts (f ∷ fs) place h =
        let here = first_is d request files place f fs h in
        let at : splits_at d request files place ≡ splits_in d request f.given = ap (λ (e : ToldFile). splits_in d request e.given) (sym here) in
        parts_append (drive.part_groups place (tale_of (ask_of d request) f)) (drive.answer_from (place + 1) (map (tale_of (ask_of d request)) fs)) (part_of d request place f.store f.given) (answer_from d request (place + 1) fs)
        (file_parts place f.store f.given at) (files_parts fs (place + 1) (others_from d request files place f fs h))
        (files_off d request files place (part_of d request place f.store f.given) (answer_from d request (place + 1) fs) (part_rises d request place f.store f.given).1 (answer_rises d request (place + 1) fs))

  -- the groups of files stand for the items of their answer
  pub answer_parts : AsksFor d request (ask_of d request) → AreParts (drive.answer (map (tale_of (ask_of d request)) files)) (answer d request files)
  answer_parts asks = files_parts asks files 0 (λ k f. ap (λ j. get_or files j f) (let z : 0 + k ≡ k = omega arith in z))

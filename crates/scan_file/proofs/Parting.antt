-- The splits of a file have what its part says.
use Rattle.std.proofs.Common.{◌≡◌, ◌≤◌, ◌==◌, ◌&&◌, ◌||◌, ℕ, Bool, true, false, List, [], ◌∷◌, map, filter, flat_map, Option, None, Some, IfSome, is_none, refl, sym, ap, subst, ◌∙◌, arith}
use Rattle.std.specs.Prelude.{not, nat_lt, if◌then◌else◌}
use Rattle.std.specs.List.{All, list_all, list_any}
use Rattle.std.specs.FinMap as finite
use Rattle.std.specs.Ordering.{nat_cmp}
use Rattle.std.specs.declared.ops.Range.{Range}
use Rattle.std.proofs.lemmas.Bool.Decides.{nat_tests}
use Rattle.std.proofs.lemmas.List.Concat.{flat_map-cons}
use Rattle.std.proofs.lemmas.List.Elements.{All-cons, All-nil}
use Rattle.std.proofs.lemmas.List.Folds.{list_any-append}
use Rattle.scan_values.specs.Selections.{is_among, numbers, row_mask, selects}
use Rattle.scan_values.specs.StrictSorted.{is_rising}
use Rattle.scan_segments.specs.Source.{Store}
use Rattle.scan_splits.specs.Arrivals.{Arrivals, Agrees}
use Rattle.scan_expr.specs.Needs.{needed_by}
use Rattle.scan_layout.specs.Edges.{edges}
use Rattle.scan_layout.specs.Layout.{Layout, rows_of}
use Rattle.scan_spelling.specs.Places.{Place}
use Rattle.scan_plans.specs.Came.{Came, Holds}
use Rattle.scan_plans.specs.Futures.{future_overflow, future_spoiled, future_wanted}
use Rattle.scan_plans.specs.Wants.{names_id}
use Rattle.scan_plans.specs.Wants as plan
use Rattle.scan_readers.specs.Flaws.{has_flaw}
use Rattle.scan_streams.specs.Plans.{PlansData}
use Rattle.scan_core.specs.BuilderData.{AreBoundaries, range_or_all}
use Rattle.scan_core.specs.FieldMasks.{firsts, scan_paths}
use Rattle.scan_core.specs.Given.{Rises}
use Rattle.scan_core.specs.RowRanges.{is_past, narrowed, AreRanges, IsRange}
use Rattle.scan_core.specs.SplitMeaning.{IsScanOf}
use Rattle.scan_core.specs.SplitRanges.{common, rows, span_of, split_ranges}
use Rattle.scan_core.proofs.Asking.{bounds_up}
use Rattle.scan_core.proofs.Cutting.{these_end, these_rise}
use Rattle.scan_core.proofs.Reaching.{reached_within}
use Rattle.scan_core.proofs.Reading.{narrowed_rows}
use Rattle.scan_core.proofs.Written.{in_turn_as_written}
use Rattle.scan_drive.specs.Files.{Item, Part, allows}
use Rattle.scan_drive.specs.Openers.{AreSplits}
use Rattle.scan_drive.specs.Runs.{new_run}
use Rattle.scan_drive.specs.Slots.{RunOk}
use Rattle.scan_drive.specs.Splits.{Event, wants, spoils}
use Rattle.scan_file.specs.FileAsks.{FileAsk, IsAsk, ask_conjuncts, ask_exprs, asked_dtype}
use Rattle.scan_file.specs.FileScans.{AreFileSplits, futures_in, may_give, range_future}
use Rattle.scan_file.specs.FileSplits.{FutureComes, split_state}
use Rattle.scan_file.specs.Openings.{ends_past}
use Rattle.scan_file.specs.Parts.{ask_range, ask_turn, file_ranges, file_rows, is_some_row, layout_part, needed_places, overflows_at, picks, read_ranges, split_points, split_rows}
use Rattle.scan_file.specs.declared.split.FileSplit.{FileSplit}
use Rattle.scan_file.proofs.Evaluating.{gives_split, mask_ends, mask_within, overflows_there}
use Rattle.scan_file.proofs.Naming.{Subs, conjuncts_over, spoils_sub, subs_all, wants_sub}

or_left : (a b : Bool) → a ≡ true → (a || b) ≡ true
or_left true b e = refl
or_left false b e = absurd cc

or_right : (a b : Bool) → b ≡ true → (a || b) ≡ true
or_right true b e = refl
or_right false b e = e

-- what one of the lists that are joined has, the whole has
any_front : {A : Type 0} (q : A → Bool) (f : Range ℕ → List A) (r : Range ℕ) (rs : List (Range ℕ)) → list_any q (f r) ≡ true → list_any q (flat_map f (r ∷ rs)) ≡ true
any_front q f r rs h = ap (list_any q) (flat_map-cons f r rs) ∙ list_any-append q (f r) (flat_map f rs) ∙ or_left (list_any q (f r)) (list_any q (flat_map f rs)) h

any_back : {A : Type 0} (q : A → Bool) (f : Range ℕ → List A) (r : Range ℕ) (rs : List (Range ℕ)) → list_any q (flat_map f rs) ≡ true → list_any q (flat_map f (r ∷ rs)) ≡ true
any_back q f r rs h = ap (list_any q) (flat_map-cons f r rs) ∙ list_any-append q (f r) (flat_map f rs) ∙ or_right (list_any q (f r)) (list_any q (flat_map f rs)) h

and_left : (a b : Bool) → (a && b) ≡ true → a ≡ true
and_left true b e = refl
and_left false b e = absurd cc

-- ---- the ranges of a file
common_none : (o : Option (Range ℕ)) → common o None ≡ o
common_none None = refl
common_none (Some r) = refl

range_order : (o : Option (Range ℕ)) (n : ℕ) → IfSome o (λ r. r.start ≤ r.end) → ends_past o n ≡ false → is_past o n ≡ false
range_order None n h e = refl
range_order (Some r) n h e = let a : nat_lt r.end r.start ≡ false = grind (arith, nat_tests, h) in rw (a, e) refl

range_ends : (a : FileAsk) (l : Layout) → IfSome a.range (λ r. r.start ≤ r.end) → ends_past a.range (rows_of l) ≡ false → ((ask_range a l).start ≤ (ask_range a l).end) × ((ask_range a l).end ≤ rows_of l)
range_ends a l h e = go a.range h e
  where
    go : (o : Option (Range ℕ)) → IfSome o (λ r. r.start ≤ r.end) → ends_past o (rows_of l) ≡ false → ((range_or_all o (rows_of l)).start ≤ (range_or_all o (rows_of l)).end) × ((range_or_all o (rows_of l)).end ≤ rows_of l)
    go None h e = (omega arith, omega arith)
    go (Some r) h e = (h, grind (arith, nat_tests, e))

ranges_within : (a : FileAsk) (l : Layout) → IfSome a.range (λ r. r.start ≤ r.end) → ends_past a.range (rows_of l) ≡ false → AreRanges (rows_of l) (file_ranges a l)
ranges_within a l h e =
    let n = rows_of l in
    let bs = split_points a l in
    let test = is_among (edges l (firsts (scan_paths a.projection a.filter)) (ask_range a l).start (ask_range a l).end) in
    let ends = range_ends a l h e in
    let rise : is_rising bs ≡ true = these_rise test (ask_range a l) bs refl in
    let bounds : AreBoundaries (ask_range a l).start (ask_range a l).end bs = record { rising = rise; ends = these_end test (ask_range a l) bs ends.0 refl } in
    subst (λ o. AreRanges n (split_ranges bs (common o (span_of a.selection n)))) (common_none a.range)
    (reached_within n bs a.range None a.selection rise (bounds_up n (ask_range a l).start (ask_range a l).end bs bounds ends.1) (range_order a.range n h e) refl)

filter_within : (n : ℕ) (p : Range ℕ → Bool) (rs : List (Range ℕ)) → AreRanges n rs → AreRanges n (filter p rs)
filter_within n p [] h = tt
filter_within n p (r ∷ rs) h = go (p r) (filter_within n p rs h.1)
  where
    go : (b : Bool) → AreRanges n (filter p rs) → AreRanges n (if b then r ∷ filter p rs else filter p rs)
    go true k = (h.0, k)
    go false k = k

-- ---- the splits that may give a row
any_true : (p : ℕ → Bool) (is : List ℕ) → not (list_all not (map p is)) ≡ is_some_row (filter p is)
any_true p [] = refl
any_true p (i ∷ is) = go (p i) (any_true p is)
  where
    go : (b : Bool) → not (list_all not (map p is)) ≡ is_some_row (filter p is) → not (not b && list_all not (map p is)) ≡ is_some_row (if b then i ∷ filter p is else filter p is)
    go true k = refl
    go false k = k

module _ (a : FileAsk) (l : Layout) (p : PlansData) (rises : Rises a.selection) where
  gives_picks : (r : Range ℕ) → may_give (range_future a p r) ≡ is_some_row (picks a l r)
  gives_picks r =
      any_true (selects a.selection) (numbers (narrowed a.selection r).start (narrowed a.selection r).end)
      ∙ ap is_some_row (narrowed_rows a.selection r rises)

  read_futures : (rs : List (Range ℕ)) → filter may_give (map (range_future a p) rs) ≡ map (range_future a p) (filter (λ r. is_some_row (picks a l r)) rs)
  read_futures [] = refl
  read_futures (r ∷ rs) = rw (gives_picks r) (go (is_some_row (picks a l r)) (read_futures rs))
    where
      go : (b : Bool) → filter may_give (map (range_future a p) rs) ≡ map (range_future a p) (filter (λ q. is_some_row (picks a l q)) rs)
          → (if b then range_future a p r ∷ filter may_give (map (range_future a p) rs) else filter may_give (map (range_future a p) rs))
          ≡ map (range_future a p) (if b then r ∷ filter (λ q. is_some_row (picks a l q)) rs else filter (λ q. is_some_row (picks a l q)) rs)
      go true k = ap (λ fs. range_future a p r ∷ fs) k
      go false k = k

-- ---- each split
same_head : {A : Type 0} (x y : A) (xs ys : List A) → x ∷ xs ≡ y ∷ ys → x ≡ y
same_head x y xs ys e = cc

same_tail : {A : Type 0} (x y : A) (xs ys : List A) → x ∷ xs ≡ y ∷ ys → xs ≡ ys
same_tail x y xs ys e = cc

none_arrived : (store : Store) → Agrees store finite.empty
none_arrived store id x e = absurd (let z : None ≡ Some x = sym (finite.get-empty nat_cmp id) ∙ e in cc)

module _ (a : FileAsk) (l : Layout) (p : PlansData) (means : IsScanOf (file_rows l) (ask_turn a l) a.projection p) (is : IsAsk a) (rises : Rises a.selection) where
  splits_give : (rs : List (Range ℕ)) (ws : List FileSplit) → AreRanges (rows_of l) rs → futures_in ws ≡ map (range_future a p) rs → (store : Store)
      → map (λ (w : FileSplit). (split_state w.future).rows store) ws ≡ map (λ r. split_rows a l store (picks a l r)) rs
  splits_give [] [] h e store = refl
  splits_give [] (w ∷ ws) h e store = absurd cc
  splits_give (r ∷ rs) [] h e store = absurd cc
  splits_give (r ∷ rs) (w ∷ ws) h e store =
      let one : (split_state w.future).rows store ≡ split_rows a l store (picks a l r) =
      ap (λ f. (split_state f).rows store) (same_head w.future (range_future a p r) (futures_in ws) (map (range_future a p) rs) e)
      ∙ gives_split a l p means rises r h.0 store in
      let others = splits_give rs ws h.1 (same_tail w.future (range_future a p r) (futures_in ws) (map (range_future a p) rs) e) store in
      λ k. one k ∷ others k

  -- its segments are those that its projection and its conjuncts need
  abbrev pub places_of : Store → Range ℕ → List Place
  places_of store r = needed_places a l store (narrowed a.selection r)

  abbrev pub is_needed : Place → Bool
  is_needed q = needed_by (asked_dtype a) (ask_exprs a) q.path

  subs : Subs is_needed (a.projection ∷ ask_conjuncts a)
  subs = subs_all (asked_dtype a) (a.projection ∷ ask_conjuncts a) (refl, conjuncts_over (asked_dtype a) a.filter is.filter)

  -- what it wants is named
  wants_named : (r : Range ℕ) → IsRange (rows_of l) r → (store : Store) (here : Came) (id : ℕ) → Holds store here → names_id id (future_wanted (range_future a p r) here) ≡ true → list_any (λ q. q.id == id) (places_of store r) ≡ true
  wants_named r w store here id holds h =
      let s = file_rows l in
      let cs = ask_conjuncts a in
      let picked = narrowed a.selection r in
      let mask = row_mask a.selection picked in
      wants_sub s is_needed store picked.start picked.end id cs a.projection mask (mask_ends a l p means rises r w) subs.0 subs.1
      ((in_turn_as_written s cs a.projection p picked.start mask means (mask_within a l p means rises r w)).wants store here id holds h)

  -- what it finds no good is named, and has a flaw
  spoils_named : (r : Range ℕ) → IsRange (rows_of l) r → (store : Store) (here : Came) (id : ℕ) → Holds store here → future_spoiled (range_future a p r) here id ≡ true
      → list_any (λ q. (q.id == id) && has_flaw l store q) (places_of store r) ≡ true
  spoils_named r w store here id holds h =
      let s = file_rows l in
      let cs = ask_conjuncts a in
      let picked = narrowed a.selection r in
      let mask = row_mask a.selection picked in
      spoils_sub s is_needed store picked.start picked.end id cs a.projection mask (mask_ends a l p means rises r w) subs.0 subs.1
      ((in_turn_as_written s cs a.projection p picked.start mask means (mask_within a l p means rises r w)).spoils store here id holds h)

  -- a split comes to nothing that the ranges do not
  run_ok : (part : Part Item) (store : Store) (r : Range ℕ) (w : FileSplit) → IsRange (rows_of l) r → w.future ≡ range_future a p r
      → (list_any (overflows_at a l store) (picks a l r) ≡ true → part.overflow store ≡ true)
      → ((id : ℕ) → list_any (λ q. q.id == id) (places_of store r) ≡ true → part.named store id ≡ true)
      → ((id : ℕ) → list_any (λ q. (q.id == id) && has_flaw l store q) (places_of store r) ≡ true → part.bad store id ≡ true)
      → RunOk (λ (x : FileSplit). split_state x.future) (λ (x : FileSplit) (h : Arrivals) (s : Store) (e : Event). FutureComes x.future h s e) part store (new_run w)
  run_ok part store r w within e over named bad = record {
    agrees = none_arrived store;
    overflow = λ h. over (overflows_there a l p means rises r within store (subst (λ f. future_overflow f store ≡ true) e h));
    within = λ more event x g c. go event c;
  }
    where
      lacks_named : (here : Came) (id : ℕ) → plan.lacks (future_wanted w.future here) here id ≡ true → names_id id (future_wanted (range_future a p r) here) ≡ true
      lacks_named here id h = subst (λ f. names_id id (future_wanted f here) ≡ true) e (and_left (names_id id (future_wanted w.future here)) (is_none (here id)) h)

      go : {more : Arrivals} (event : Event) → FutureComes w.future more store event → allows part store event ≡ true
      go (wants id) c = named id (wants_named r within store c.then id c.holds (lacks_named c.then id c.meets))
      go (spoils id) c = bad id (spoils_named r within store c.then id c.holds (subst (λ f. future_spoiled f c.then id ≡ true) e c.meets))

  all_ok : (part : Part Item) (store : Store) (rs : List (Range ℕ)) (ws : List FileSplit) → AreRanges (rows_of l) rs → futures_in ws ≡ map (range_future a p) rs
      → (list_any (overflows_at a l store) (flat_map (picks a l) rs) ≡ true → part.overflow store ≡ true)
      → ((id : ℕ) → list_any (λ q. q.id == id) (flat_map (places_of store) rs) ≡ true → part.named store id ≡ true)
      → ((id : ℕ) → list_any (λ q. (q.id == id) && has_flaw l store q) (flat_map (places_of store) rs) ≡ true → part.bad store id ≡ true)
      → All (λ w. RunOk (λ (x : FileSplit). split_state x.future) (λ (x : FileSplit) (h : Arrivals) (s : Store) (e : Event). FutureComes x.future h s e) part store (new_run w)) ws
  all_ok part store [] [] h e over named bad = All-nil (λ (y : FileSplit). RunOk (λ (x : FileSplit). split_state x.future) (λ (x : FileSplit) (h : Arrivals) (s : Store) (e : Event). FutureComes x.future h s e) part store (new_run y))
  all_ok part store [] (w ∷ ws) h e over named bad = absurd cc
  all_ok part store (r ∷ rs) [] h e over named bad = absurd cc
  all_ok part store (r ∷ rs) (w ∷ ws) h e over named bad =
      let over_at = overflows_at a l store in
      let named_at : ℕ → Place → Bool = λ id q. q.id == id in
      let bad_at : ℕ → Place → Bool = λ id q. (q.id == id) && has_flaw l store q in
      All-cons (λ (y : FileSplit). RunOk (λ (x : FileSplit). split_state x.future) (λ (x : FileSplit) (h : Arrivals) (s : Store) (e : Event). FutureComes x.future h s e) part store (new_run y)) w ws
      (run_ok part store r w h.0 (same_head w.future (range_future a p r) (futures_in ws) (map (range_future a p) rs) e)
      (λ k. over (any_front over_at (picks a l) r rs k)) (λ id k. named id (any_front (named_at id) (places_of store) r rs k)) (λ id k. bad id (any_front (bad_at id) (places_of store) r rs k)))
      (all_ok part store rs ws h.1 (same_tail w.future (range_future a p r) (futures_in ws) (map (range_future a p) rs) e)
      (λ k. over (any_back over_at (picks a l) r rs k)) (λ id k. named id (any_back (named_at id) (places_of store) r rs k)) (λ id k. bad id (any_back (bad_at id) (places_of store) r rs k)))

-- ---- the splits of a file
pub splits_are : (a : FileAsk) (l : Layout) (rows : ℕ) (ws : List FileSplit) → rows ≡ rows_of l → IsAsk a → Rises a.selection → ends_past a.range (rows_of l) ≡ false → AreFileSplits a l ws
    → AreSplits (λ (x : FileSplit). split_state x.future) (λ (x : FileSplit) (h : Arrivals) (s : Store) (e : Event). FutureComes x.future h s e) (layout_part a l) rows ws
splits_are a l rows ws n is rises past f =
    let rs = read_ranges a l in
    let within : AreRanges (rows_of l) rs = filter_within (rows_of l) (λ r. is_some_row (picks a l r)) (file_ranges a l) (ranges_within a l is.range past) in
    let futures : futures_in ws ≡ map (range_future a f.plans) rs = f.futures ∙ read_futures a l f.plans rises (file_ranges a l) in
    record {
      count = n;
      splits = λ store. splits_give a l f.plans f.means is rises rs ws within futures store;
      ok = λ store. all_ok a l f.plans f.means is rises (layout_part a l) store rs ws within futures (λ h. h) (λ id h. h) (λ id h. h);
    }

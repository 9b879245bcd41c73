-- The parts of a scan whose limit is not shared together give the first of what it is asked for.
use Rattle.std.proofs.Common.{◌≡◌, ◌≤◌, ◌<◌, ◌+◌, ◌-◌, ◌==◌, min, ℕ, zero, suc, Bool, true, false, not, nat_le, nat_lt, List, [], ◌∷◌, ◌++◌, length, map, filter, take, Option, Some, None, inl, inr, refl, ap, ap₂, sym, subst, ◌∙◌, append-nil, length-append, take-take, arith}
use Rattle.std.specs.Prelude.{◌⊎◌, max, is_some, option_map}
use Rattle.std.proofs.lemmas.Bool.Decides.{nat_tests}
use Rattle.std.proofs.lemmas.List.{length-map}
use Rattle.std.proofs.lemmas.List.Concat.{flat_map-cons}
use Rattle.std.proofs.lemmas.List.Sums.{length-filter}
use Rattle.std.specs.declared.ops.Range.{Range}
use Rattle.scan_values.specs.Marked.{Marked}
use Rattle.scan_values.specs.Selections.{numbers, picked_rows, row_count, selects}
use Rattle.scan_values.specs.declared.selection.Selection.{Selection}
use Rattle.scan_segments.specs.Source.{Store}
use Rattle.scan_expr.specs.Bound.{Bound}
use Rattle.scan_limit.specs.Seats.{SeatState}
use Rattle.scan_readers.specs.Readers.{ReaderState, value_of}
use Rattle.scan_readers.specs.RowIdxData.{numbered_state}
use Rattle.scan_streams.specs.Plans.{has_filter}
use Rattle.scan_core.specs.BuilderData.{IsBuilder, conjuncts_in, range_or_all}
use Rattle.scan_core.specs.Given.{Rises, asked_rows, asked_values, passes}
use Rattle.scan_core.specs.RowRanges.{is_past}
use Rattle.scan_core.specs.ScanData.{IsScan, ScanData}
use Rattle.scan_core.specs.SplitRanges.{common, rows}
use Rattle.scan_core.specs.Streaming.{IsOwnSeat, first_of, limit_if, streamed, values_in}
use Rattle.scan_sources.specs.Parts.{GiveTheFirst, GivesFirstOf, GivesParts, IsEnough, PartsGiveTheFirstRows, part_gives, parts_give}
use Rattle.scan_sources.specs.Requests.{IsScanOfRequest, builder_of, shared_limit}
use Rattle.scan_sources.specs.Scans.{IsReaderScan, PartsGiveTheirRows, ReaderScan, StartsScan, is_over, is_used, lessened, reader_scan}
use Rattle.scan_sources.specs.Splits.{ReaderSplit}
use Rattle.scan_sources.specs.declared.request.BoundScanRequest.{BoundScanRequest}
use Rattle.scan_sources.proofs.Covering.{all_left, has_row, or_left, or_right, parts_end, parts_follow, within}
use Rattle.scan_sources.proofs.Together.{asked_none, asked_parts, follow_up, not_past}

-- ---- the first of lists
module _ {A : Type 0} where
  take_none : (n : ℕ) → take {A = A} n [] ≡ []
  take_none zero = refl
  take_none (suc n) = refl

  take_both : (n : ℕ) (xs ys : List A) → take n (xs ++ ys) ≡ take n xs ++ take (n - length xs) ys
  take_both zero [] ys = refl
  take_both (suc n) [] ys = let e : suc n ≡ suc n - 0 = omega arith in ap (λ k. take k ys) e
  take_both zero (x ∷ xs) ys = let e : 0 ≡ 0 - length (x ∷ xs) = omega arith in ap (λ k. take k ys) e
  take_both (suc n) (x ∷ xs) ys =
      let e : n - length xs ≡ suc n - length (x ∷ xs) = omega arith in
      ap (λ (zs : List A). x ∷ zs) (take_both n xs ys ∙ ap (λ k. take n xs ++ take k ys) e)

  length_first : (k : ℕ) (xs : List A) → length (take k xs) ≡ min k (length xs)
  length_first k [] = ap length (take_none k) ∙ (let e : 0 ≡ min k 0 = omega arith in e)
  length_first zero (x ∷ xs) = let e : 0 ≡ min 0 (length (x ∷ xs)) = omega arith in e
  length_first (suc k) (x ∷ xs) = ap suc (length_first k xs) ∙ (let e : suc (min k (length xs)) ≡ min (suc k) (length (x ∷ xs)) = omega arith in e)

  -- what comes behind does not matter where there are enough
  take_enough : (k : ℕ) (xs ys : List A) → k ≤ length xs → take k xs ≡ take k (xs ++ ys)
  take_enough k xs ys l =
      let e : k - length xs ≡ 0 = omega arith in
      sym (take_both k xs ys ∙ ap (λ n. take k xs ++ take n ys) e ∙ append-nil (take k xs))

  -- lists that begin alike do so up to each earlier place
  begin_alike : (n k : ℕ) (xs ys : List A) → k ≤ n → take n xs ≡ take n ys → take k xs ≡ take k ys
  begin_alike n k xs ys l e = sym (take-take k n xs l) ∙ ap (take k) e ∙ take-take k n ys l

first_both : (o : Option ℕ) (xs ys : List Marked) → first_of o (xs ++ ys) ≡ first_of o xs ++ first_of (option_map (λ n. n - length xs) o) ys
first_both None xs ys = refl
first_both (Some n) xs ys = take_both n xs ys

first_onto : (o : Option ℕ) (xs us vs : List Marked) → first_of o us ≡ first_of o vs → first_of o (first_of o xs ++ us) ≡ first_of o (xs ++ vs)
first_onto None xs us vs e = ap (λ (ws : List Marked). xs ++ ws) e
first_onto (Some n) xs us vs e =
    let long = length_first n xs in
    let left : n - length (take n xs) ≡ n - length xs = omega (arith, long) in
    let low : n - length xs ≤ n = omega arith in
    let self : n ≤ n = omega arith in
    take_both n (take n xs) us
    ∙ ap₂ (λ (ys zs : List Marked). ys ++ zs) (take-take n n xs self) (ap (λ (k : ℕ). take k us) left ∙ begin_alike n (n - length xs) us vs low e)
    ∙ sym (take_both n xs vs)

first_none : (o : Option ℕ) → first_of o [] ≡ []
first_none None = refl
first_none (Some n) = take_none n

both_limits : (f : Bool) (o : Option ℕ) (vs : List Marked) → first_of (limit_if f o) (first_of (limit_if (not f) o) vs) ≡ first_of o vs
both_limits true o vs = refl
both_limits false o vs = refl

-- ---- what came of parts, and what is left of the limit that they had
record Came (f : Bool) (limit left : Option ℕ) (asked given : List Marked) : Type 0 where
  first : GivesFirstOf f limit asked given
  left_of : left ≡ lessened f limit (length given)

came_none : (f : Bool) (o : Option ℕ) → Came f o o [] []
came_none true o = record { first = refl; left_of = refl }
came_none false None = record { first = refl; left_of = refl }
came_none false (Some n) = record { first = sym (take_none n); left_of = let e : n ≡ n - 0 = omega arith in ap Some e }

-- of the limit that is left behind other rows more is taken off
taken_off : (o : Option ℕ) (xs given : List Marked) → option_map (λ n. n - length given) (option_map (λ n. n - length xs) o) ≡ option_map (λ n. n - length (first_of o xs ++ given)) o
taken_off None xs given = refl
taken_off (Some n) xs given =
    let both = length-append (take n xs) given in
    let long = length_first n xs in
    let e : n - length xs - length given ≡ n - length (take n xs ++ given) = omega (arith, both, long) in
    ap Some e

came_more : (f : Bool) (o left : Option ℕ) (count : ℕ) (xs ys given : List Marked) → (f ≡ false → count ≡ length xs) → Came f (lessened f o count) left ys given → Came f o left (xs ++ ys) (first_of o xs ++ given)
came_more true o left count xs ys given is c = record { first = first_onto o xs given ys c.first; left_of = c.left_of }
came_more false o left count xs ys given is c =
    let e : option_map (λ n. n - count) o ≡ option_map (λ n. n - length xs) o = ap (λ (k : ℕ). option_map (λ n. n - k) o) (is refl) in
    record {
      first = ap (λ (vs : List Marked). first_of o xs ++ vs) (c.first ∙ ap (λ (l : Option ℕ). first_of l ys) e) ∙ sym (first_both o xs ys);
      left_of = c.left_of ∙ ap (option_map (λ n. n - length given)) e ∙ taken_off o xs given;
    }

-- where there are as many as the limit, they are the first of whatever comes behind
enough_first : (f : Bool) (o : Option ℕ) (xs ys given : List Marked) → GivesFirstOf f o xs given → IsEnough o given → GivesFirstOf f o (xs ++ ys) given
enough_first f None xs ys given h some = absurd some
enough_first true (Some n) xs ys given h some =
    let same = ap length h in
    let mine = length_first n given in
    let long = length_first n xs in
    let low : n ≤ length xs = omega (arith, same, mine, long, some) in
    h ∙ take_enough n xs ys low
enough_first false (Some n) xs ys given h some =
    let same = ap length h in
    let long = length_first n xs in
    let low : n ≤ length xs = omega (arith, same, long, some) in
    h ∙ take_enough n xs ys low

-- so many were given, once nothing is left
zero_is : (n : ℕ) → (n == 0) ≡ true → n ≡ 0
zero_is n h = grind (arith, nat_tests, h)

used_enough : (f : Bool) (o left : Option ℕ) (given : List Marked) → left ≡ lessened f o (length given) → is_used left ≡ true → IsEnough o given
used_enough true None left given e h = let k : is_used None ≡ true = sym (ap is_used e) ∙ h in absurd cc
used_enough false None left given e h = let k : is_used None ≡ true = sym (ap is_used e) ∙ h in absurd cc
used_enough true (Some n) left given e h =
    let k = zero_is n (sym (ap is_used e) ∙ h) in
    omega (arith, k)
used_enough false (Some n) left given e h =
    let k = zero_is (n - length given) (sym (ap is_used e) ∙ h) in
    omega (arith, k)

-- ---- the rows that are asked for
no_filter : (o : Option Bound) → is_some o ≡ false → o ≡ None
no_filter None h = refl
no_filter (Some e) h = absurd cc

keeps_all : (xs : List ℕ) → filter (λ i. true) xs ≡ xs
keeps_all [] = refl
keeps_all (x ∷ xs) = ap (λ (ys : List ℕ). x ∷ ys) (keeps_all xs)

-- of a range within another
picked_within : (o : Option (Range ℕ)) (s : Selection) (n x y : ℕ) → (range_or_all o n).start ≤ x → y ≤ (range_or_all o n).end → y ≤ n → picked_rows (common o (Some (rows x y))) s n ≡ filter (selects s) (numbers x y)
picked_within None s n x y low high end = let e : min y n ≡ y = omega (arith, end) in ap (λ (k : ℕ). filter (selects s) (numbers x k)) e
picked_within (Some r) s n x y low high end =
    let a : max r.start x ≡ x = omega (arith, low) in
    let b : min (min r.end y) n ≡ y = omega (arith, high, end) in
    ap₂ (λ (i j : ℕ). filter (selects s) (numbers i j)) a b

-- all of a range are those within it
picked_whole : (o : Option (Range ℕ)) (s : Selection) (n : ℕ) → picked_rows (common o (Some (rows (range_or_all o n).start (range_or_all o n).end))) s n ≡ picked_rows (common o None) s n
picked_whole None s n = let e : min n n ≡ n = omega arith in ap (λ (k : ℕ). filter (selects s) (numbers 0 k)) e
picked_whole (Some r) s n =
    let start : max r.start r.start ≡ r.start = omega arith in
    let end : min r.end r.end ≡ r.end = omega arith in
    ap₂ (λ (i j : ℕ). filter (selects s) (numbers i (min j n))) start end

range_low : (o : Option (Range ℕ)) (n : ℕ) → is_past o n ≡ false → (range_or_all o n).start ≤ (range_or_all o n).end
range_low None n h = omega arith
range_low (Some r) n h = let e = or_left (nat_lt r.end r.start) (nat_lt n r.end) h in grind (arith, nat_tests, e)

-- ---- the parts of a scan, of which none shares a limit
module _ {M : Type 0} (law : PartsGiveTheirRows M) (state : ReaderState) (q : BoundScanRequest) (s : ScanData M) (builder : IsBuilder state q.projection q.filter None) (up : Rises q.selection)
    (is : IsScanOfRequest state q s) (scan : IsScan s) (filtered : has_filter s.plans ≡ is_some q.filter) (store : Store) where
  abbrev asked : ℕ → ℕ → List Marked
  asked x y = asked_values state (builder_of q s.step) (Some (rows x y)) store

  abbrev f : Bool
  f = has_filter s.plans

  one_gives : (x y : ℕ) (limit : Option ℕ) → x ≤ y → y ≤ state.rows → first_of (limit_if f limit) (values_in (streamed (record s { limit = limit }) (Some (rows x y))) store) ≡ first_of limit (asked x y)
  one_gives x y limit low high =
      ap (first_of (limit_if f limit)) (law state q s (rows x y) limit builder up is scan (not_past (rows x y) state.rows low high) store) ∙ both_limits f limit (asked x y)

  -- without a filter the selected rows of a part are asked for
  all_asked : (x y : ℕ) → (range_or_all q.row_range state.rows).start ≤ x → y ≤ (range_or_all q.row_range state.rows).end → y ≤ state.rows → f ≡ false → row_count s.selection (rows x y) ≡ length (asked x y)
  all_asked x y low high end none =
      let value = value_of (numbered_state 0 state) q.projection store in
      let none_in : q.filter ≡ None = no_filter q.filter (sym filtered ∙ none) in
      let picked = asked_rows (builder_of q s.step) state.rows (Some (rows x y)) in
      sym (
      ap (λ (o : Option Bound). length (map value (filter (passes (numbered_state 0 state) (conjuncts_in o) store) picked))) none_in
      ∙ length-map (filter (λ i. true) picked) value
      ∙ ap length (keeps_all picked ∙ picked_within q.row_range q.selection state.rows x y low high end)
      ∙ length-filter (selects q.selection) (numbers x y)
      ∙ ap (λ (t : Selection). row_count t (rows x y)) (sym is.selection)
      )

  module _ (end size : ℕ) (some : 0 < size) (last : end ≤ state.rows) (inside : end ≤ (range_or_all q.row_range state.rows).end) (new : ReaderScan M) where
    abbrev at : ℕ → Option ℕ → ReaderScan M
    at next left = reader_scan s next end size left None

    came : (next : ℕ) (left : Option ℕ) (ps : List (ReaderSplit M)) → (range_or_all q.row_range state.rows).start ≤ next → GivesParts (at next left) ps new → Came f left new.left (asked next new.next) (parts_give store ps)
    came next left [] low h =
        let none = ap (λ (n : ℕ). asked next n) (ap (λ (t : ReaderScan M). t.next) h) ∙ asked_none state (builder_of q s.step) store next in
        let P : Option ℕ × List Marked → Type 0 = λ z. Came f left z.0 z.1 [] in
        subst P (λ i. (sym (ap (λ (t : ReaderScan M). t.left) h) i, sym none i)) (came_none f left)
    came next left (p ∷ ps) low h =
        let up_to = min (next + size) end in
        let count = row_count s.selection (rows next up_to) in
        let here : next < up_to = has_row next size end some (or_left (nat_le end next) (is_used left) (h.0).0) in
        let high : up_to ≤ end = within next size end in
        let from : (range_or_all q.row_range state.rows).start ≤ up_to = omega (arith, low, here) in
        let order : next ≤ up_to = omega (arith, here) in
        let far : up_to ≤ state.rows = omega (arith, high, last) in
        let within_range : up_to ≤ (range_or_all q.row_range state.rows).end = omega (arith, high, inside) in
        let behind : up_to ≤ new.next = follow_up up_to new.next (map (λ (r : ReaderSplit M). r.range) ps) (parts_follow (at up_to (lessened f left count)) new ps some h.1) in
        let rest = came up_to (lessened f left count) ps from h.1 in
        let mine : part_gives store p ≡ first_of left (asked next up_to) = ap (part_gives store) (h.0).1 ∙ one_gives next up_to left order far in
        let given : parts_give store (p ∷ ps) ≡ first_of left (asked next up_to) ++ parts_give store ps =
        flat_map-cons (part_gives store) p ps ∙ ap (λ (vs : List Marked). vs ++ parts_give store ps) mine in
        let whole = asked_parts state (builder_of q s.step) store next up_to new.next order behind in
        let both = came_more f left new.left count (asked next up_to) (asked up_to new.next) (parts_give store ps) (all_asked next up_to low within_range far) rest in
        let P : List Marked × List Marked → Type 0 = λ z. Came f left new.left z.0 z.1 in
        subst P (λ i. (sym whole i, sym given i)) both

-- ---- all of them
no_seat : (o : Option ℕ) (seat : Option SeatState) → o ≡ None → IsOwnSeat o seat → seat ≡ None
no_seat o seat e h = subst (λ (l : Option ℕ). IsOwnSeat l seat) e h

module _ {M : Type 0} (law : PartsGiveTheirRows M) (state : ReaderState) (size : ℕ) (q : BoundScanRequest) (old new : ReaderScan M) (ps : List (ReaderSplit M)) (builder : IsBuilder state q.projection q.filter None)
    (up : Rises q.selection) (own : shared_limit q ≡ None) (starts : StartsScan state size q old) (lies : IsReaderScan old) (gives : GivesParts old ps new) (store : Store) where
  abbrev all_of : Option (Range ℕ) → List Marked
  all_of r = asked_values state (builder_of q (old.scan).step) r store

  abbrev filter_is : Bool
  filter_is = is_some q.filter

  first_row : (range_or_all q.row_range state.rows).start ≤ old.next
  first_row = let e = starts.next in omega (arith, e)

  last_row : old.end ≤ (range_or_all q.row_range state.rows).end
  last_row = let e = starts.end in omega (arith, e)

  no_further : old.end ≤ state.rows
  no_further = let e = lies.rows in let n = (starts.scan).rows in omega (arith, e, n)

  came_all : Came filter_is q.limit new.left (all_of (Some (rows old.next new.next))) (parts_give store ps)
  came_all =
      let no : old.seat ≡ None = no_seat (shared_limit q) old.seat own starts.seat in
      let alone = subst (λ (t : Option SeatState). GivesParts (reader_scan old.scan old.next old.end old.size old.left t) ps new) no gives in
      let came_so = came law state q old.scan builder up starts.scan lies.scan starts.filtered store old.end old.size lies.size no_further last_row new old.next old.left ps first_row alone in
      let P : Bool × Option ℕ → Type 0 = λ z. Came z.0 z.1 new.left (all_of (Some (rows old.next new.next))) (parts_give store ps) in
      subst P (λ i. (starts.filtered i, starts.left i)) came_so

  order : old.next ≤ old.end
  order =
      let not_past_rows : is_past q.row_range state.rows ≡ false =
      subst (λ (z : Option (Range ℕ) × ℕ). is_past z.0 z.1 ≡ false) (λ i. ((starts.scan).range i, (starts.scan).rows i)) (lies.scan).range in
      let low = range_low q.row_range state.rows not_past_rows in
      let first = starts.next in
      let last = starts.end in
      omega (arith, low, first, last)

  -- all rows of the request
  whole : all_of (Some (rows old.next old.end)) ≡ all_of None
  whole =
      let value = value_of (numbered_state 0 state) q.projection store in
      let passed = passes (numbered_state 0 state) (conjuncts_in q.filter) store in
      ap₂ (λ (x y : ℕ). all_of (Some (rows x y))) starts.next starts.end
      ∙ ap (λ (is : List ℕ). map value (filter passed is)) (picked_whole q.row_range q.selection state.rows)

  ends : (new.end ≡ old.end) × (new.next ≤ old.end)
  ends = parts_end old new ps gives order

  beyond : old.next ≤ new.next
  beyond = follow_up old.next new.next (map (λ (r : ReaderSplit M). r.range) ps) (parts_follow old new ps lies.size gives)

  enough : IsEnough q.limit (parts_give store ps) → GivesFirstOf filter_is q.limit (all_of None) (parts_give store ps)
  enough h =
      let all = asked_parts state (builder_of q (old.scan).step) store old.next new.next old.end beyond ends.1 in
      subst (λ (vs : List Marked). GivesFirstOf filter_is q.limit vs (parts_give store ps)) (sym all ∙ whole)
      (enough_first filter_is q.limit (all_of (Some (rows old.next new.next))) (all_of (Some (rows new.next old.end))) (parts_give store ps) came_all.first h)

  at_end : nat_le new.end new.next ≡ true → GivesFirstOf filter_is q.limit (all_of None) (parts_give store ps)
  at_end h =
      let same = ends.0 in
      let high = ends.1 in
      let past = all_left new.end new.next h in
      let is : new.next ≡ old.end = omega (arith, same, high, past) in
      subst (λ (vs : List Marked). GivesFirstOf filter_is q.limit vs (parts_give store ps)) (ap (λ (n : ℕ). all_of (Some (rows old.next n))) is ∙ whole) came_all.first

  over : (b : Bool) → is_used new.left ≡ b → is_over new ≡ true → GivesFirstOf filter_is q.limit (all_of None) (parts_give store ps)
  over true e h = enough (used_enough filter_is q.limit new.left (parts_give store ps) came_all.left_of e)
  over false e h = at_end (or_right (nat_le new.end new.next) (is_used new.left) h e)

  done : (is_over new ≡ true) ⊎ IsEnough q.limit (parts_give store ps) → GivesFirstOf filter_is q.limit (all_of None) (parts_give store ps)
  done (inl h) = over (is_used new.left) refl h
  done (inr h) = enough h

  pub give_first : GiveTheFirst state q store old new ps
  give_first = record { so_far = came_all.first; left = came_all.left_of; all = done }

pub parts_first : {M : Type 0} → PartsGiveTheirRows M → PartsGiveTheFirstRows M
parts_first law state size q old new ps builder up own starts lies gives store = give_first law state size q old new ps builder up own starts lies gives store

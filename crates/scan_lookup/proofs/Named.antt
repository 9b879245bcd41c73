-- What a row touches is named by a request of all rows.
use Rattle.std.proofs.Common.{◌≡◌, ◌<◌, ◌≤◌, ◌+◌, ◌-◌, ◌&&◌, ◌||◌, ℕ, Bool, true, false, List, [], ◌∷◌, filter, flat_map, map, inl, inr, refl, sym, ap, ◌∙◌, subst, arith}
use Rattle.std.specs.Prelude.{◌⊎◌, ◌==◌, Contains, cond, not}
use Rattle.std.specs.List.{list_any}
use Rattle.std.specs.declared.ops.Range.{Range}
use Rattle.std.proofs.lemmas.Bool.{cases_lt}
use Rattle.std.proofs.lemmas.Bool.Decides.{nat_tests}
use Rattle.scan_values.specs.Selections.{is_among, numbers, selects}
use Rattle.scan_values.specs.declared.selection.Selection.TheVariants.{All}
use Rattle.scan_expr.specs.Bound.{Bound}
use Rattle.scan_expr.specs.Needs.{needed, needed_by}
use Rattle.scan_expr.specs.declared.request.ScanRequest.{ScanRequest}
use Rattle.scan_segments.specs.Source.{Store}
use Rattle.scan_layout.specs.Edges.{edges}
use Rattle.scan_layout.specs.Form.{HasForm}
use Rattle.scan_layout.specs.Layout.{Layout, rows_of}
use Rattle.scan_layout.specs.Touched.{touched}
use Rattle.scan_spelling.specs.Places.{Place}
use Rattle.scan_opener.specs.Opener.{layout_of}
use Rattle.scan_readers.proofs.SomePlace.{touches_more}
use Rattle.scan_core.specs.FieldMasks.{firsts, scan_paths}
use Rattle.scan_core.specs.SplitRanges.{Follow}
use Rattle.scan_file.specs.Parts.{file_ranges, is_some_row, picks, read_ranges}
use Rattle.scan_multi.specs.Answer.{is_good}
use Rattle.scan_multi.specs.Asked.{IsAskable, ask_of}
use Rattle.scan_multi.specs.Named.{distinct, expressions, named, named_places, places_in, read_spans}
use Rattle.scan_multi.proofs.CutRanges.{in_range}
use Rattle.scan_multi.proofs.Members.{In, In-filter, In-flat_map, In-map, In-to}
use Rattle.scan_multi.proofs.NamedPlaces.{HeldBy, held_by}
use Rattle.scan_multi.proofs.PickedRows.{all_follow}
use Rattle.scan_multi.proofs.ReadSpans.{span_read}
use Rattle.scan_lookup.specs.Replies.{row_request}

-- ---- ids, each once
in_distinct : (n : ℕ) (ns : List ℕ) → In n ns → In n (distinct ns)
in_distinct n [] m = absurd m
in_distinct n (k ∷ ns) (inl e) = inl e
in_distinct n (k ∷ ns) (inr m) = go (n == k) refl (in_distinct n ns m)
  where
    go : (b : Bool) → (n == k) ≡ b → In n (distinct ns) → (n ≡ k) ⊎ In n (filter (λ j. not (j == k)) (distinct ns))
    go true e h = inl (grind (arith, nat_tests))
    go false e h = inr (In-filter (λ j. not (j == k)) n (distinct ns) h (ap not e))

-- ---- the range of a row
pub record Covers (rs : List (Range ℕ)) (x : ℕ) : Type 0 where
  pub at : Range ℕ
  pub there : In at rs
  pub from : at.start ≤ x
  pub to : x < at.end

covered : (a b : ℕ) (rs : List (Range ℕ)) (x : ℕ) → Follow a b rs → a ≤ x → x < b → Covers rs x
covered a b [] x f l m = absurd (omega (arith, f, l, m))
covered a b (r ∷ rs) x f l m = go (cases_lt x r.end) (λ ge. covered r.end b rs x f.2 ge m)
  where
    go : (x < r.end) ⊎ (r.end ≤ x) → (r.end ≤ x → Covers rs x) → Covers (r ∷ rs) x
    go (inl lt) ih = record { at = r; there = inl refl; from = (let s = f.0 in omega (arith, s, l)); to = lt }
    go (inr ge) ih = let c = ih ge in record { at = c.at; there = inr c.there; from = c.from; to = c.to }

below_end : (a b : ℕ) (rs : List (Range ℕ)) → Follow a b rs → a ≤ b
below_end a b [] f = omega (arith, f)
below_end a b (r ∷ rs) f = let rest = below_end r.end b rs f.2 in omega (arith, f.0, f.1, rest)

ends_below : (a b : ℕ) (rs : List (Range ℕ)) → Follow a b rs → (r : Range ℕ) → In r rs → r.end ≤ b
ends_below a b [] f r i = absurd i
ends_below a b (q ∷ rs) f r (inl e) = let rest = below_end q.end b rs f.2 in subst (λ (z : Range ℕ). z.end ≤ b) (sym e) rest
ends_below a b (q ∷ rs) f r (inr i) = ends_below q.end b rs f.2 r i

some_row : (is : List ℕ) (x : ℕ) → In x is → is_some_row is ≡ true
some_row [] x i = absurd i
some_row (y ∷ is) x i = refl

module _ (e : Bound) (l : Layout) (store : Store) (form : HasForm l e.scope) (good : is_good e.scope (row_request e.expr) l ≡ true) (row : ℕ) (below : row < rows_of l) where
  abbrev request : ScanRequest
  request = row_request e.expr

  askable : IsAskable e.scope request
  askable = record { filter = refl; range = tt; selection = tt }

  follow : Follow 0 (rows_of l) (file_ranges (ask_of e.scope request) l)
  follow = all_follow (is_among (edges l (firsts (scan_paths (ask_of e.scope request).projection (ask_of e.scope request).filter)) 0 (rows_of l))) (rows_of l)

  abbrev cover : Covers (file_ranges (ask_of e.scope request) l) row
  cover = covered 0 (rows_of l) (file_ranges (ask_of e.scope request) l) row follow (omega arith) below

  abbrev own : Range ℕ
  own = cover.at

  own_end : own.end ≤ rows_of l
  own_end = ends_below 0 (rows_of l) (file_ranges (ask_of e.scope request) l) follow own cover.there

  -- it is read
  picked : In row (picks (ask_of e.scope request) l own)
  picked = let from = cover.from in let to = cover.to in In-filter (selects All) row (numbers own.start own.end) (in_range own.start (own.end - own.start) row from (omega (arith, from, to))) refl

  read : In own (read_ranges (ask_of e.scope request) l)
  read = In-filter (λ r. is_some_row (picks (ask_of e.scope request) l r)) own (file_ranges (ask_of e.scope request) l) cover.there (some_row (picks (ask_of e.scope request) l own) row picked)

  span : In (own.start, own.end) (read_spans e.scope request l)
  span = span_read e.scope request l askable refl own read

  -- a segment of this id that a row touches, where the expression needs it
  module _ (id : ℕ) (place : Place) (there : In place (touched l store row (row + 1))) (needs : needed e.scope e.expr place.path ≡ true) (is : place.id ≡ id) where
    abbrev test : Place → Bool
    test p = (p.id == id) && needed_by e.scope (expressions request) p.path

    needs_by : (p : Place) → needed e.scope e.expr p.path ≡ true → needed_by e.scope (expressions request) p.path ≡ true
    needs_by p h = or_left (needed e.scope e.expr p.path) false h
      where
        or_left : (a b : Bool) → a ≡ true → (a || b) ≡ true
        or_left true b h = refl
        or_left false b h = absurd cc

    on : (p : Place) → p.id ≡ id → needed_by e.scope (expressions request) p.path ≡ true → test p ≡ true
    on p h k = let same : (p.id == id) ≡ true = grind (arith, nat_tests, h) in rw (same, k) refl

    any_of : (T : Place → Bool) (ps : List Place) (p : Place) → In p ps → T p ≡ true → list_any T ps ≡ true
    any_of T [] p i h = absurd i
    any_of T (q ∷ ps) p (inl e) h = let k : T q ≡ true = ap T (sym e) ∙ h in rw k refl
    any_of T (q ∷ ps) p (inr i) h = right (T q) (list_any T ps) (any_of T ps p i h)
      where
        right : (a b : Bool) → b ≡ true → (a || b) ≡ true
        right true b h = refl
        right false b h = h

    abbrev wide : HeldBy test (touched l store own.start own.end)
    wide = held_by test (touched l store own.start own.end)
        (touches_more l e.scope test store row (row + 1) own.start own.end form cover.from (let to = cover.to in omega (arith, to)) own_end
        (any_of test (touched l store row (row + 1)) place there (on place is (needs_by place needs))))

    and_both : (a b : Bool) → (a && b) ≡ true → (a ≡ true) × (b ≡ true)
    and_both true b h = (refl, h)
    and_both false b h = absurd cc

    held : (((wide.one).id == id) ≡ true) × (needed_by e.scope (expressions request) (wide.one).path ≡ true)
    held = and_both ((wide.one).id == id) (needed_by e.scope (expressions request) (wide.one).path) wide.holds

    among : In wide.one (places_in e.scope request l store)
    unfolding places_in
    among = In-filter (λ q. needed_by e.scope (expressions request) q.path) wide.one (flat_map (λ w. touched l store w.0 w.1) (read_spans e.scope request l))
        (In-flat_map (λ w. touched l store w.0 w.1) (own.start, own.end) wide.one (read_spans e.scope request l) span wide.there) held.1

    named_there : In wide.one (named_places e.scope request (layout_of l) store)
    named_there = subst (λ b. In wide.one (cond b (places_in e.scope request l store) [])) (sym good) among

    pub is_named : Contains (named e.scope (row_request e.expr) (layout_of l) store) id
    is_named =
        let same : (wide.one).id ≡ id = grind (arith, nat_tests, held.0) in
        let mapped : In (wide.one).id (map (λ (p : Place). p.id) (named_places e.scope request (layout_of l) store)) = In-map (λ (p : Place). p.id) wide.one (named_places e.scope request (layout_of l) store) named_there in
        In-to id (named e.scope request (layout_of l) store) (in_distinct id (map (λ (p : Place). p.id) (named_places e.scope request (layout_of l) store)) (subst (λ k. In k (map (λ (p : Place). p.id) (named_places e.scope request (layout_of l) store))) same mapped))

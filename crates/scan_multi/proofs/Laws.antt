-- What is no good of a file to a scan of it is damaged, and what overflows there overflows.
use Rattle.std.proofs.Common.{◌≡◌, ◌≤◌, ◌<◌, ◌-◌, ℕ, Bool, true, false, List, [], ◌∷◌, flat_map, map, filter, Option, Some, None, inl, inr, refl, sym, ap, subst, ◌∙◌, arith}
use Rattle.std.specs.Prelude.{◌⊎◌, ◌==◌, ◌&&◌, ◌||◌, Contains}
use Rattle.std.specs.List.{list_all, list_any}
use Rattle.std.proofs.lemmas.Bool.Decides.{nat_tests}
use Rattle.scan_values.specs.DataType.{DataType}
use Rattle.scan_values.specs.Marked.{Marked, lost, null, gone, boolean, integer, text, list, struct, is_true as true_value}
use Rattle.scan_values.specs.Selections.{numbers, picked_rows, selects}
use Rattle.std.specs.declared.ops.Range.{Range}
use Rattle.scan_expr.specs.Bound.{Bound, bound_of}
use Rattle.scan_expr.specs.Expr.{Expr, filter_conjuncts}
use Rattle.scan_expr.specs.declared.request.ScanRequest.{ScanRequest}
use Rattle.scan_segments.specs.Source.{Store}
use Rattle.scan_layout.specs.Layout.{Layout, rows_of}
use Rattle.scan_spelling.specs.Places.{Place}
use Rattle.scan_opener.specs.Opener.{Given, skip, layout_of}
use Rattle.scan_readers.specs.Flaws.{IsFlawed, has_flaw, of_bytes, of_offset}
use Rattle.scan_readers.proofs.Flawed.{flaw_is}
use Rattle.scan_core.specs.RowRanges.{narrowed}
use Rattle.scan_core.proofs.Reading.{narrowed_rows}
use Rattle.scan_file.specs.FileAsks.{FileAsk, ask_conjuncts}
use Rattle.scan_file.specs.Openings.{layout_fault, part_of, part_unless}
use Rattle.scan_file.specs.Parts.{holds_flaw, layout_part, overflows_at, overflows_in, passes as passes_in, picks, read_ranges}
use Rattle.scan_file.specs.Parts as part
use Rattle.scan_file.specs.declared.fault.FileFault.{FileFault}
use Rattle.scan_multi.specs.Answer.{is_good}
use Rattle.scan_multi.specs.Asked.{AsksFor, IsAskable, ask_of}
use Rattle.scan_multi.specs.Damaged as damaged
use Rattle.scan_multi.specs.Damaged.{HasBadOffset, IsDamaged}
use Rattle.scan_multi.specs.Named.{named, named_places, read_spans}
use Rattle.scan_multi.specs.Overflow as over
use Rattle.scan_multi.specs.Overflow.{MayOverflow, OverflowsIn, of_conjunct, of_projection}
use Rattle.scan_multi.proofs.CutRanges.{range_has}
use Rattle.scan_multi.proofs.Faults.{faultless_good, good_parts}
use Rattle.scan_multi.proofs.Meaning.{Means}
use Rattle.scan_multi.proofs.Members.{In, In-filter_back, In-to}
use Rattle.scan_multi.proofs.NamedPlaces.{found_in, held_by, id_named, place_named}
use Rattle.scan_multi.proofs.PickedRows.{picked_of}
use Rattle.scan_multi.proofs.ReadSpans.{span_read}
use Rattle.scan_multi.proofs.SplitItems.{conjuncts_are, passes_are, tests}

both_true : (a b : Bool) → (a && b) ≡ true → (a ≡ true) × (b ≡ true)
both_true true b h = (refl, h)
both_true false b h = cc

either : (a b : Bool) → (a || b) ≡ true → (a ≡ true) ⊎ (b ≡ true)
either true b h = inl refl
either false b h = inr h

-- ---- flaws
module _ (d : DataType) (request : ScanRequest) (a : FileAsk) (asks : AsksFor d request a) (l : Layout) (good : is_good d request l ≡ true) (store : Store) (id : ℕ) where
  damaged_at : (p : Place) → In p (part.named_places a l store) → p.id ≡ id → IsFlawed l store p → IsDamaged d request (record { given = layout_of l; store = store }) id
  damaged_at p i is (of_bytes bad) = damaged.of_bytes (record { place = p; among = In-to p (named_places d request (layout_of l) store) (place_named d request a asks l good store p i); is = is; bad = bad })
  damaged_at p i is (of_offset h) =
      let among = In-to p (named_places d request (layout_of l) store) (place_named d request a asks l good store p i) in
      damaged.of_offset l refl (record {
        list = h.list;
        there = h.there;
        row = h.row;
        bad = h.bad;
        place = h.place;
        holds = h.holds;
        among = subst (Contains (named_places d request (layout_of l) store)) (sym h.is) among;
        is = ap (λ (q : Place). q.id) h.is ∙ is;
      })

  flaw_damages : holds_flaw a l store id ≡ true → IsDamaged d request (record { given = layout_of l; store = store }) id
  flaw_damages h =
      let r = held_by (λ (p : Place). (p.id == id) && has_flaw l store p) (part.named_places a l store) h in
      let p : Place = r.one in
      let b = both_true (p.id == id) (has_flaw l store p) r.holds in
      damaged_at p r.there (grind (arith, nat_tests, b.0)) (flaw_is l store p b.1)

-- ---- overflow
same_true : (m : Marked) → over.is_true m ≡ true_value m
same_true lost = refl
same_true null = refl
same_true gone = refl
same_true (boolean b) = refl
same_true (integer z) = refl
same_true (text s) = refl
same_true (list ms) = refl
same_true (struct ms) = refl

all_true : (ms : List Marked) → list_all over.is_true ms ≡ list_all true_value ms
all_true [] = refl
all_true (m ∷ ms) = λ z. same_true m z && all_true ms z

-- a bound expression of some that are bound over one scope
pub record BoundOf (d : DataType) (c : Bound) (es : List Expr) : Type 0 where
  pub expr : Expr
  pub there : In expr es
  pub is : c ≡ bound_of d expr

bound_in : (d : DataType) (c : Bound) (es : List Expr) → In c (map (bound_of d) es) → BoundOf d c es
bound_in d c [] h = absurd h
bound_in d c (e ∷ es) (inl h) = record { expr = e; there = inl refl; is = h }
bound_in d c (e ∷ es) (inr h) = let r = bound_in d c es h in record { expr = r.expr; there = inr r.there; is = r.is }

module _ (d : DataType) (request : ScanRequest) (askable : IsAskable d request) (l : Layout) (good : is_good d request l ≡ true) (store : Store) where
  -- a picked row of a split lies in what is read of it
  in_span : (r : Range ℕ) (i : ℕ) → In i (picks (ask_of d request) l r) → ((narrowed request.selection r).start ≤ i) × (i < (narrowed request.selection r).end)
  in_span r i h =
      let q : Range ℕ = narrowed request.selection r in
      let there : In i (filter (selects request.selection) (numbers q.start q.end)) = subst (In i) (sym (narrowed_rows request.selection r askable.selection)) h in
      let w = range_has q.start (q.end - q.start) i (In-filter_back (selects request.selection) i (numbers q.start q.end) there).0 in
      (w.0, omega (arith, w.0, w.1))

  row_overflows : (i : ℕ) → In i (flat_map (picks (ask_of d request) l) (read_ranges (ask_of d request) l)) → overflows_at (ask_of d request) l store i ≡ true → MayOverflow d request l store
  row_overflows i there h =
      elim (either (list_any (λ c. overflows_in (ask_of d request) l store c i) (ask_conjuncts (ask_of d request))) (passes_in (ask_of d request) l store i && overflows_in (ask_of d request) l store (ask_of d request).projection i) h) [
        | inl conjunct ↦ by_conjunct conjunct
        | inr projection ↦ by_projection (both_true (passes_in (ask_of d request) l store i) (overflows_in (ask_of d request) l store (ask_of d request).projection i) projection)
      ]
    where
      by_conjunct : list_any (λ c. overflows_in (ask_of d request) l store c i) (ask_conjuncts (ask_of d request)) ≡ true → MayOverflow d request l store
      by_conjunct h =
          let r = found_in (picks (ask_of d request) l) i (read_ranges (ask_of d request) l) there in
          let c = held_by (λ (c : Bound). overflows_in (ask_of d request) l store c i) (ask_conjuncts (ask_of d request)) h in
          let e = bound_in d c.one (filter_conjuncts request.filter) (subst (In c.one) (conjuncts_are d request) c.there) in
          let span : ℕ × ℕ = ((narrowed request.selection r.at).start, (narrowed request.selection r.at).end) in
          let within = in_span r.at i r.of_it in
          of_conjunct span e.expr i (In-to span (read_spans d request l) (span_read d request l askable (good_parts d request l good).1 r.at r.there)) within.0 within.1 (In-to e.expr (filter_conjuncts request.filter) e.there)
          (sym (ap (λ (b : Bound). overflows_in (ask_of d request) l store b i) e.is) ∙ c.holds)

      by_projection : (passes_in (ask_of d request) l store i ≡ true) × (overflows_in (ask_of d request) l store (ask_of d request).projection i ≡ true) → MayOverflow d request l store
      by_projection h =
          let picked : In i (picked_rows request.row_range request.selection (rows_of l)) = subst (In i) (sym (picked_of d request l askable (good_parts d request l good).1)) there in
          of_projection i (In-to i (picked_rows request.row_range request.selection (rows_of l)) picked) (all_true (tests d request 0 l store i) ∙ sym (passes_are d request 0 l store i) ∙ h.0) h.1

  rows_overflow : list_any (overflows_at (ask_of d request) l store) (flat_map (picks (ask_of d request) l) (read_ranges (ask_of d request) l)) ≡ true → MayOverflow d request l store
  rows_overflow h = let r = held_by (overflows_at (ask_of d request) l store) (flat_map (picks (ask_of d request) l) (read_ranges (ask_of d request) l)) h in row_overflows r.one r.there r.holds

-- ---- what a file's part says
module _ (d : DataType) (request : ScanRequest) (a : FileAsk) (asks : AsksFor d request a) where
  names : (g : Given) (store : Store) (id : ℕ) → (part_of a g).named store id ≡ true → Contains (named d request g store) id
  names skip store id h = absurd cc
  names (layout_of l) store id h = go (layout_fault a l) refl h
    where
      go : (o : Option FileFault) → layout_fault a l ≡ o → (part_unless a o (layout_part a l)).named store id ≡ true → Contains (named d request (layout_of l) store) id
      go None e h = id_named d request a asks l (faultless_good d request a asks l e) store id h
      go (Some x) e h = absurd cc

  damages : (g : Given) (store : Store) (id : ℕ) → (part_of a g).bad store id ≡ true → IsDamaged d request (record { given = g; store = store }) id
  damages skip store id h = absurd cc
  damages (layout_of l) store id h = go (layout_fault a l) refl h
    where
      go : (o : Option FileFault) → layout_fault a l ≡ o → (part_unless a o (layout_part a l)).bad store id ≡ true → IsDamaged d request (record { given = layout_of l; store = store }) id
      go None e h = flaw_damages d request a asks l (faultless_good d request a asks l e) store id h
      go (Some x) e h = absurd cc

  spills : (g : Given) (store : Store) → (part_of a g).overflow store ≡ true → OverflowsIn d request g store
  spills skip store h = absurd cc
  spills (layout_of l) store h = go (layout_fault a l) refl h
    where
      go : (o : Option FileFault) → layout_fault a l ≡ o → (part_unless a o (layout_part a l)).overflow store ≡ true → OverflowsIn d request (layout_of l) store
      go None e h =
          let good = faultless_good d request a asks l e in
          (good, rows_overflow d request asks.askable l good store (subst (λ z. list_any (overflows_at z l store) (flat_map (picks z l) (read_ranges z l)) ≡ true) asks.is h))
      go (Some x) e h = absurd cc

  -- what the part of a file says is so in the words of a scan
  pub means_of : Means d request a
  means_of = record { named_of = names; bad = damages; overflow = spills }

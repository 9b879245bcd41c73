-- The parts of a request cover its range, and together give what it asks for.
use Rattle.std.proofs.Common.{◌≡◌, ◌≤◌, ◌+◌, ◌||◌, ◌==◌, not, ℕ, Bool, true, false, if◌then◌else◌, nat_lt, List, [], ◌∷◌, ◌++◌, map, Option, Some, None, inl, inr, refl, ap, ap₂, sym, subst, ◌∙◌, arith, IsPermutation}
use Rattle.std.specs.Prelude.{◌⊎◌, IfSome, min, option_map, ◌&&◌, is_some}
use Rattle.std.proofs.lemmas.Bool.Decides.{nat_tests}
use Rattle.std.proofs.lemmas.List.Concat.{flat_map-cons}
use Rattle.std.proofs.lemmas.List.Sorted.{IsPermutation-append, IsPermutation-refl}
use Rattle.std.specs.declared.ops.Range.{Range}
use Rattle.vortex_scan.specs.Values.DataType.{DataType}
use Rattle.vortex_scan.specs.Values.Fits.{is_bool_type}
use Rattle.vortex_scan.specs.Values.Marked.{Marked}
use Rattle.vortex_scan.specs.Values.Selections.{row_count}
use Rattle.vortex_scan.specs.Expr.Bound.{bound_of}
use Rattle.vortex_scan.specs.Expr.Expr.{Expr}
use Rattle.vortex_scan.specs.Expr.Infer.{infer}
use Rattle.vortex_scan.specs.Expr.Typing.{Fault, bind_fault, filter_fault, or_fault, request_fault, typed, unless}
use Rattle.vortex_scan.specs.Expr.declared.op.BindFault.TheVariants.{NotBool}
use Rattle.vortex_scan.specs.Expr.declared.request.ScanRequest.{ScanRequest}
use Rattle.vortex_scan.specs.Segments.Source.{Store}
use Rattle.vortex_scan.specs.Limit.Seats.{SeatState}
use Rattle.vortex_scan.specs.Partition.Partable.{BoundIsPartable}
use Rattle.vortex_scan.specs.Readers.Readers.{ReaderState}
use Rattle.vortex_scan.specs.Streams.Plans.{has_filter}
use Rattle.vortex_scan.specs.Core.BuilderData.{IsBuilder, IsFilter, IsOver, range_or_all}
use Rattle.vortex_scan.specs.Core.Given.{Rises, asked_values}
use Rattle.vortex_scan.specs.Core.RowRanges.{is_past}
use Rattle.vortex_scan.specs.Core.SplitRanges.{Follow}
use Rattle.vortex_scan.specs.Core.Streaming.{IsOwnSeat, first_of, limit_after, limit_if, streamed, values_in}
use Rattle.vortex_scan.specs.Collect.Reads.{values_given}
use Rattle.vortex_scan.specs.Collect.Rows.{GivesFirst}
use Rattle.vortex_scan.specs.Sources.Empties.{EmptyData, empty_data}
use Rattle.vortex_scan.specs.Sources.Faults as fault
use Rattle.vortex_scan.specs.Sources.Parts.{GivesFirstOf, GivesParts, PartsCoverTheScan, PartsGiveTheFirstRows, part_gives, parts_give}
use Rattle.vortex_scan.specs.Sources.Plain.{Plain}
use Rattle.vortex_scan.specs.Sources.Requests.{asked_count, bound_request, builder_of, request_dtype, shared_limit}
use Rattle.vortex_scan.specs.Sources.Scans.{ReaderScan, StartsScan, after_split, is_used, lessened, next_range, next_split, source_refusal}
use Rattle.vortex_scan.specs.Sources.Splits.{ReaderSplit, own_limit}
use Rattle.vortex_scan.specs.Sources.declared.fault.SourceFault.{SourceFault}
use Rattle.vortex_scan.specs.Sources.declared.fault.SourceFault.TheVariants as fault_is
use Rattle.vortex_scan.specs.Sources.Sources.{Starts}
use Rattle.vortex_scan.specs.Sources.declared.request.BoundScanRequest.{BoundScanRequest}
use Rattle.vortex_scan.specs.Sources.declared.scan.LayoutScan.{LayoutScan}
use Rattle.vortex_scan.specs.Sources.declared.scan.LayoutScan.TheVariants.{Empty, Splits}
use Rattle.uses.specs.InParts.{AreRead, CoverAndGive, GivesAsked, IsRead, ReadsParts, part_rows, part_values}
use Rattle.uses.specs.declared.in_parts.RowsOfPart.{RowsOfPart}

-- ---- what binds is over the reader's rows
left_none : (a b : Fault) → or_fault a b ≡ None → a ≡ None
left_none None b h = refl
left_none (Some f) b h = absurd cc

right_none : (a b : Fault) → or_fault a b ≡ None → b ≡ None
right_none None b h = h
right_none (Some f) b h = absurd cc

is_bool : (b : Bool) → unless b NotBool ≡ None → b ≡ true
is_bool true h = refl
is_bool false h = absurd cc

over_bound : BoundIsPartable → (d : DataType) (e : Expr) → bind_fault d e ≡ None → IsOver d (bound_of d e)
over_bound law d e h = record { scope = refl; bound = law d e (infer d e) (ap (λ (f : Fault). typed f (infer d e)) h) }

passes_bound : BoundIsPartable → (d : DataType) (o : Option Expr) → filter_fault d o ≡ None → IfSome (option_map (bound_of d) o) (IsFilter d)
passes_bound law d None h = tt
passes_bound law d (Some e) h = record {
  over = over_bound law d e (left_none (bind_fault d e) (unless (is_bool_type (infer d e)) NotBool) h);
  bool = is_bool (is_bool_type (infer d e)) (right_none (bind_fault d e) (unless (is_bool_type (infer d e)) NotBool) h);
}

first_none : (a b : Option SourceFault) → fault.first_of a b ≡ None → a ≡ None
first_none None b h = refl
first_none (Some f) b h = absurd cc

second_none : (a b : Option SourceFault) → fault.first_of a b ≡ None → b ≡ None
second_none None b h = h
second_none (Some f) b h = absurd cc

no_fault : (f : Fault) → option_map fault_is.Bind f ≡ None → f ≡ None
no_fault None h = refl
no_fault (Some g) h = absurd cc

-- a request that is not refused
module _ (law : BoundIsPartable) (state : ReaderState) (size : ℕ) (r : ScanRequest) (none : source_refusal state size r ≡ None) where
  bound_well : request_fault state.dtype r.projection r.filter ≡ None
  bound_well =
      no_fault (request_fault state.dtype r.projection r.filter)
      (second_none (fault.number_refusal size r.row_range state.rows) (fault.bind_refusal state.dtype r.projection r.filter) none)

  pub request_builder : IsBuilder state (bound_request state.dtype r).projection (bound_request state.dtype r).filter None
  request_builder = record {
    over = over_bound law state.dtype r.projection (left_none (bind_fault state.dtype r.projection) (filter_fault state.dtype r.filter) bound_well);
    passes = passes_bound law state.dtype r.filter (right_none (bind_fault state.dtype r.projection) (filter_fault state.dtype r.filter) bound_well);
    splits = tt;
  }

  pub request_within : is_past r.row_range state.rows ≡ false
  request_within = go (size == 0) (is_past r.row_range state.rows) (first_none (fault.number_refusal size r.row_range state.rows) (fault.bind_refusal state.dtype r.projection r.filter) none)
    where
      go : (a b : Bool) → (if a then Some fault_is.SplitSize else if b then Some fault_is.RowRange else None) ≡ None → b ≡ false
      go true b h = absurd cc
      go false true h = absurd cc
      go false false h = refl

-- ---- the limit of a request whose parts share none
no_seat : (o : Option ℕ) (seat : Option SeatState) → o ≡ None → IsOwnSeat o seat → seat ≡ None
no_seat o seat e h = subst (λ (l : Option ℕ). IsOwnSeat l seat) e h

pub starts_alone : (state : ReaderState) (size : ℕ) (q : BoundScanRequest) (s : ReaderScan Plain) → shared_limit q ≡ None → StartsScan state size q s → s.seat ≡ None
starts_alone state size q s e h = no_seat (shared_limit q) s.seat e h.seat

-- without an order there is no filter, or no limit
abbrev Loose : Bool → Option ℕ → Type 0
Loose filtered limit = (filtered ≡ false) ⊎ (limit ≡ None)

loose : (filtered ordered : Bool) (limit : Option ℕ) → (if filtered && not ordered then limit else None) ≡ None → ordered ≡ false → Loose filtered limit
loose false ordered limit h e = inl refl
loose true false limit h e = inr h
loose true true limit h e = absurd cc

-- then all that is given is the first of what is asked for
gives_exact : (filtered : Bool) (limit : Option ℕ) (asked given : List Marked) → Loose filtered limit → GivesFirstOf filtered limit asked given → given ≡ first_of limit asked
gives_exact false limit asked given l h = h
gives_exact true None asked given l h = h
gives_exact true (Some n) asked given (inl e) h = absurd cc
gives_exact true (Some n) asked given (inr e) h = absurd cc

-- and no part has a limit as arrays come
limit_off : (filtered : Bool) (limit : Option ℕ) (seat : Option SeatState) → Loose filtered limit → limit_if filtered (own_limit seat limit) ≡ None
limit_off false limit seat l = refl
limit_off true None None l = refl
limit_off true None (Some t) l = refl
limit_off true (Some n) seat (inl e) = absurd cc
limit_off true (Some n) seat (inr e) = absurd cc

lessened_none : (b : Bool) (n : ℕ) → lessened b None n ≡ None
lessened_none true n = refl
lessened_none false n = refl

left_none_on : (filtered : Bool) (limit : Option ℕ) (n : ℕ) → limit ≡ None → lessened filtered limit n ≡ None
left_none_on filtered limit n e = ap (λ (o : Option ℕ). lessened filtered o n) e ∙ lessened_none filtered n

loose_on : (filtered : Bool) (limit : Option ℕ) (n : ℕ) → Loose filtered limit → Loose filtered (lessened filtered limit n)
loose_on filtered limit n (inl e) = inl e
loose_on filtered limit n (inr e) = inr (left_none_on filtered limit n e)

-- ---- what was read of all parts
part_ordered : (s : ReaderScan Plain) (p : ReaderSplit Plain) (o : Bool) → p ≡ next_split s → (s.scan).ordered ≡ o → (p.scan).ordered ≡ o
part_ordered s p o is e = ap (λ (q : ReaderSplit Plain). (q.scan).ordered) is ∙ e

module _ (holds : Option Store) (store : Store) (told : holds ≡ Some store) where
  -- in order it is what they give
  in_order : (old new : ReaderScan Plain) (ps : List (ReaderSplit Plain)) (rs : List RowsOfPart) → GivesParts old ps new → AreRead holds ps rs → (old.scan).ordered ≡ true → part_values rs ≡ parts_give store ps
  in_order old new [] [] g h e = refl
  in_order old new [] (r ∷ rs) g h e = absurd h
  in_order old new (p ∷ ps) [] g h e = absurd h
  in_order old new (p ∷ ps) (r ∷ rs) g h e =
      let one : GivesFirst true (limit_after p.scan) (values_in (streamed p.scan (Some p.range)) store) (values_given r.arrays.items) =
      subst (λ (o : Bool). GivesFirst o (limit_after p.scan) (values_in (streamed p.scan (Some p.range)) store) (values_given r.arrays.items)) (part_ordered old p true (g.0).1 e) ((h.0).values store told) in
      flat_map-cons (λ (x : RowsOfPart). values_given x.arrays.items) r rs
      ∙ ap₂ (λ (xs ys : List Marked). xs ++ ys) one (in_order (after_split old) new ps rs g.1 h.1 e)
      ∙ sym (flat_map-cons (part_gives store) p ps)

  -- without an order it is that in some order
  one_shuffled : (s : ReaderScan Plain) (p : ReaderSplit Plain) (r : RowsOfPart) → p ≡ next_split s → IsRead holds p r → (s.scan).ordered ≡ false → Loose (has_filter (s.scan).plans) s.left → IsPermutation (part_gives store p) (values_given r.arrays.items)
  one_shuffled s p r is h e l =
      let all = values_in (streamed p.scan (Some p.range)) store in
      let off : limit_after p.scan ≡ None = ap (λ (q : ReaderSplit Plain). limit_after q.scan) is ∙ limit_off (has_filter (s.scan).plans) s.left s.seat l in
      let P : Bool × Option ℕ → Type 0 = λ z. GivesFirst z.0 z.1 all (values_given r.arrays.items) in
      let one : GivesFirst false None all (values_given r.arrays.items) = subst P (λ i. (part_ordered s p false is e i, off i)) (h.values store told) in
      let Q : List Marked × List Marked → Type 0 = λ z. IsPermutation z.0 z.1 in
      subst Q (λ i. (first_of (sym off i) all, sym one.2 i)) one.1

  shuffled : (old new : ReaderScan Plain) (ps : List (ReaderSplit Plain)) (rs : List RowsOfPart) → GivesParts old ps new → AreRead holds ps rs → (old.scan).ordered ≡ false → Loose (has_filter (old.scan).plans) old.left
      → IsPermutation (parts_give store ps) (part_values rs)
  shuffled old new [] [] g h e l = IsPermutation-refl []
  shuffled old new [] (r ∷ rs) g h e l = absurd h
  shuffled old new (p ∷ ps) [] g h e l = absurd h
  shuffled old new (p ∷ ps) (r ∷ rs) g h e l =
      let filtered = has_filter (old.scan).plans in
      let count = row_count (old.scan).selection (next_range old) in
      let one = one_shuffled old p r (g.0).1 h.0 e l in
      let rest = shuffled (after_split old) new ps rs g.1 h.1 e (loose_on filtered old.left count l) in
      let both = IsPermutation-append (part_gives store p) (values_given r.arrays.items) (parts_give store ps) (part_values rs) one rest in
      let Q : List Marked × List Marked → Type 0 = λ z. IsPermutation z.0 z.1 in
      subst Q (λ i. (sym (flat_map-cons (part_gives store) p ps) i, sym (flat_map-cons (λ (x : RowsOfPart). values_given x.arrays.items) r rs) i)) both

rows_read : (holds : Option Store) (ps : List (ReaderSplit Plain)) (rs : List RowsOfPart) → AreRead holds ps rs → map (λ (p : ReaderSplit Plain). p.range) ps ≡ part_rows rs
rows_read holds [] [] h = refl
rows_read holds [] (r ∷ rs) h = absurd h
rows_read holds (p ∷ ps) [] h = absurd h
rows_read holds (p ∷ ps) (r ∷ rs) h = ap₂ (λ (x : Range ℕ) (xs : List (Range ℕ)). x ∷ xs) (sym (h.0).rows) (rows_read holds ps rs h.1)

-- ---- all parts
or_left : (a b : Bool) → (a || b) ≡ false → a ≡ false
or_left false b h = refl
or_left true b h = absurd cc

range_low : (o : Option (Range ℕ)) (n : ℕ) → is_past o n ≡ false → (range_or_all o n).start ≤ (range_or_all o n).end
range_low None n h = omega arith
range_low (Some r) n h = let e = or_left (nat_lt r.end r.start) (nat_lt n r.end) h in grind (arith, nat_tests, e)

up_to_end : (next size end : ℕ) → min (next + size) end ≤ end
up_to_end next size end = omega arith

-- they don't pass the end, and without a limit none is left
no_further : (old new : ReaderScan Plain) (ps : List (ReaderSplit Plain)) → GivesParts old ps new → old.next ≤ old.end → new.next ≤ old.end
no_further old new [] h low = subst (λ (s : ReaderScan Plain). s.next ≤ old.end) (sym h) low
no_further old new (p ∷ ps) h low = no_further (after_split old) new ps h.1 (up_to_end old.next old.size old.end)

unlimited_on : (old new : ReaderScan Plain) (ps : List (ReaderSplit Plain)) → GivesParts old ps new → old.left ≡ None → new.left ≡ None
unlimited_on old new [] h e = ap (λ (s : ReaderScan Plain). s.left) h ∙ e
unlimited_on old new (p ∷ ps) h e =
    unlimited_on (after_split old) new ps h.1 (left_none_on (has_filter (old.scan).plans) old.left (row_count (old.scan).selection (next_range old)) e)

module _ (cover : PartsCoverTheScan Plain) (first : PartsGiveTheFirstRows Plain) (state : ReaderState) (size : ℕ) (q : BoundScanRequest) (old new : ReaderScan Plain) (parts : List RowsOfPart) (holds : Option Store)
    (builder : IsBuilder state q.projection q.filter None) (rises : Rises q.selection) (past : is_past q.row_range state.rows ≡ false) (own : shared_limit q ≡ None) (starts : StartsScan state size q old) (r : ReadsParts holds old new parts) where
  order : old.next ≤ old.end
  order =
      let low = range_low q.row_range state.rows past in
      let start = starts.next in
      let end = starts.end in
      omega (arith, low, start, end)

  parts_values : (store : Store) → holds ≡ Some store → GivesAsked q.ordered (is_some q.filter) q.limit (asked_values state (builder_of q (tt {0})) None store) (part_values parts)
  parts_values store told = by_order q.ordered refl
    where
      all : GivesFirstOf (is_some q.filter) q.limit (asked_values state (builder_of q (old.scan).step) None store) (parts_give store (r.has).splits)
      all = (first state size q old new (r.has).splits builder rises own starts r.lies (r.has).gives store).all (inl r.over)

      by_order : (o : Bool) → q.ordered ≡ o → GivesAsked o (is_some q.filter) q.limit (asked_values state (builder_of q (tt {0})) None store) (part_values parts)
      by_order true e =
          let same = in_order holds store told old new (r.has).splits parts (r.has).gives (r.has).read ((starts.scan).ordered ∙ e) in
          subst (λ (vs : List Marked). GivesFirstOf (is_some q.filter) q.limit (asked_values state (builder_of q (tt {0})) None store) vs) (sym same) all
      by_order false e =
          let l = loose (is_some q.filter) q.ordered q.limit own e in
          let exact = gives_exact (is_some q.filter) q.limit (asked_values state (builder_of q (tt {0})) None store) (parts_give store (r.has).splits) l all in
          let P : Bool × Option ℕ → Type 0 = λ z. Loose z.0 z.1 in
          let free : Loose (has_filter (old.scan).plans) old.left = subst P (λ i. (sym starts.filtered i, sym starts.left i)) l in
          subst (λ (vs : List Marked). IsPermutation vs (part_values parts)) exact
          (shuffled holds store told old new (r.has).splits parts (r.has).gives (r.has).read ((starts.scan).ordered ∙ e) free)

  pub cover_and_give : CoverAndGive state q holds parts
  cover_and_give =
      let h = r.has in
      let c = cover old new h.splits (r.lies).size h.gives in
      let P : ℕ × List (Range ℕ) → Type 0 = λ z. Follow z.0 new.next z.1 in
      record {
        last = new.next;
        follow = subst P (λ i. (starts.next i, rows_read holds h.splits parts h.read i)) c.follow;
        within = subst (λ (n : ℕ). new.next ≤ n) starts.end (no_further old new h.splits h.gives order);
        whole = λ none. c.covered order r.over (ap is_used (unlimited_on old new h.splits h.gives (starts.left ∙ none))) ∙ starts.end;
        values = parts_values;
      }

-- a request's scan in parts
pub splits_start : (state : ReaderState) (size : ℕ) (q : BoundScanRequest) (x : LayoutScan) (s : ReaderScan Plain) → x ≡ Splits s → Starts state size q x → StartsScan state size q s
splits_start state size q x s e h = let k : Starts state size q (Splits s) = subst (Starts state size q) e h in k.1

-- of which nothing is read
pub empty_starts : (state : ReaderState) (size : ℕ) (q : BoundScanRequest) (x : LayoutScan) (e : EmptyData) → x ≡ Empty e → Starts state size q x → e ≡ empty_data (request_dtype q) (asked_count q state.rows) 0
empty_starts state size q x e is h = let k : Starts state size q (Empty e) = subst (Starts state size q) is h in k.1

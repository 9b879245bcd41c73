-- Places, their groups, and the values in their slots.
use Rattle.std.proofs.Common.{◌≡◌, ◌<◌, ◌||◌, ℕ, zero, suc, Bool, true, false, cond, List, [], ◌∷◌, Option, Some, None, drop, filter, get_or, length, map, inl, inr, refl, sym, ap, ◌∙◌, subst, arith, eqb}
use Rattle.std.specs.Prelude.{◌⊎◌, ◌==◌, All, option_and_then, option_map}
use Rattle.std.specs.List.{slice_get}
use Rattle.std.proofs.lemmas.Bool.Decides.{nat_tests}
use Rattle.std.proofs.lemmas.List.Elements.{All-nil, All-cons, All-head, All-tail}
use Rattle.std.proofs.lemmas.Option.{get_or_from_slice_get, slice_get-get_or, slice_get-map, slice_get_within}
use Rattle.scan_values.specs.Marked.{Marked}
use Rattle.scan_values.specs.Selections.{is_among}
use Rattle.scan_values.specs.Val.{Val, marked}
use Rattle.scan_values.specs.Values.{val_of}
use Rattle.scan_values.specs.declared.value.Value.{Value}
use Rattle.scan_segments.specs.Source.{SourceState, Store}
use Rattle.scan_drive.specs.Trades.{CacheAgrees}
use Rattle.scan_drive.specs.Wants.{Cache}
use Rattle.scan_drive.specs.declared.files.ScanFile.{ScanFile}
use Rattle.scan_seek.specs.KeptData.{KeptData, unopened, skipped, flawed, ready}
use Rattle.scan_seek.specs.Keeps.{HasRow, IsRead}
use Rattle.scan_seek.specs.Reads.{value_at, values_of, any_overflows}
use Rattle.scan_places.specs.Walks.{kept_at, files_of, HasPlaceRow}
use Rattle.scan_places.specs.declared.place.Place.{Place}
use Rattle.scan_lookup.specs.Asked.{named_rows, rows_at}
use Rattle.scan_lookup.specs.Grouped.{IsGroupOf, StandsAt, StandAt, AreRowsOf, AreGrouped}
use Rattle.scan_lookup.specs.Reading.{Values, IsReadable, HasValue, slot_value, ReadsFile, ReadsGroups, ReadsPlaces, AllAreRead, IsValue, AreValues, CameUnder, FailsRows, FailsGroups, FailsReads}
use Rattle.scan_lookup.specs.declared.fault.LookupFault.{LookupFault}
use Rattle.scan_lookup.specs.declared.groups.Group.{Group}
use Rattle.scan_lookup.specs.declared.groups.Slot.{Slot}
use Rattle.scan_lookup.proofs.Distinct.{all_distinct}
use Rattle.scan_lookup.proofs.Gathering.{file_self}
use Rattle.scan_lookup.proofs.Listing.{got_at}

same_some : {X : Type 0} (x y : X) → Some x ≡ Some y → x ≡ y
same_some x y e = cc

-- ---- rows of places that are there
has_read : (k : KeptData) (row : ℕ) → HasRow k row → IsRead k
has_read unopened row h = absurd h
has_read skipped row h = absurd h
has_read (flawed l) row h = absurd h
has_read (ready l e) row h = tt

module _ {O S : Type 0} (files : List (ScanFile O S)) (kept : List KeptData) where
  pub place_named : (k : ℕ) (ps : List Place) → is_among (files_of ps) k ≡ true → All (HasPlaceRow files kept) ps → (k < length files) × IsRead (kept_at kept k)
  place_named k [] n h = absurd cc
  place_named k (p ∷ ps) n h = go (eqb p.file k) refl n (λ m. place_named k ps m (All-tail (HasPlaceRow files kept) p ps h))
    where
      first : HasPlaceRow files kept p
      first = All-head (HasPlaceRow files kept) p ps h

      go : (b : Bool) → eqb p.file k ≡ b → (b || is_among (files_of ps) k) ≡ true → (is_among (files_of ps) k ≡ true → (k < length files) × IsRead (kept_at kept k)) → (k < length files) × IsRead (kept_at kept k)
      go true e m ih = let is : p.file ≡ k = grind (arith, nat_tests, e) in subst (λ j. (j < length files) × IsRead (kept_at kept j)) is (first.0, has_read (kept_at kept p.file) p.row first.1)
      go false e m ih = ih m

  named_have : (k : ℕ) (ps : List Place) → All (HasPlaceRow files kept) ps → All (HasRow (kept_at kept k)) (named_rows k ps)
  named_have k [] h = All-nil (HasRow (kept_at kept k))
  named_have k (p ∷ ps) h = go (p.file == k) refl (named_have k ps (All-tail (HasPlaceRow files kept) p ps h))
    where
      first : HasPlaceRow files kept p
      first = All-head (HasPlaceRow files kept) p ps h

      go : (b : Bool) → (p.file == k) ≡ b → All (HasRow (kept_at kept k)) (named_rows k ps)
          → All (HasRow (kept_at kept k)) (map (λ (z : Place). z.row) (cond b (p ∷ filter (λ (z : Place). z.file == k) ps) (filter (λ (z : Place). z.file == k) ps)))
      go true e ih = let is : p.file ≡ k = grind (arith, nat_tests, e) in All-cons (HasRow (kept_at kept k)) p.row (named_rows k ps) (subst (λ j. HasRow (kept_at kept j) p.row) is first.1) ih
      go false e ih = ih

  pub place_rows : (k : ℕ) (ps : List Place) → All (HasPlaceRow files kept) ps → All (HasRow (kept_at kept k)) (rows_at k ps)
  place_rows k ps h = all_distinct (HasRow (kept_at kept k)) (named_rows k ps) (named_have k ps h)

  pub group_readable : (places : List Place) (gs : List Group) → All (HasPlaceRow files kept) places → AreRowsOf places gs → (n : ℕ) (g : Group) → slice_get gs n ≡ Some g → IsReadable files kept g
  group_readable places gs h are n g e =
      let named = place_named g.file places (are.named n g e) h in
      record { listed = named.0; read = named.1; rows = subst (All (HasRow (kept_at kept g.file))) (sym (are.rows n g e)) (place_rows g.file places h) }

  pub all_readable : (places : List Place) (gs : List Group) → All (HasPlaceRow files kept) places → AreRowsOf places gs → All (IsReadable files kept) gs
  all_readable places gs h are = λ i d lt. group_readable places gs h are i (get_or gs i d) (slice_get-get_or gs i d lt)

-- ---- the group of a file
group_named : (gs : List Group) (k : ℕ) (ps : List Place) (ss : List Slot) → StandAt gs ps ss → is_among (files_of ps) k ≡ true → (n : ℕ) × IsGroupOf k n gs
group_named gs k [] ss h n = absurd cc
group_named gs k (p ∷ ps) [] h n = absurd h
group_named gs k (p ∷ ps) (s ∷ ss) h n = go (eqb p.file k) refl n (group_named gs k ps ss h.1)
  where
    go : (b : Bool) → eqb p.file k ≡ b → (b || is_among (files_of ps) k) ≡ true → (is_among (files_of ps) k ≡ true → (j : ℕ) × IsGroupOf k j gs) → (j : ℕ) × IsGroupOf k j gs
    go true e m ih = let is : p.file ≡ k = grind (arith, nat_tests, e) in let o = h.0.of_file in (s.group, record { group = o.group; there = o.there; is = o.is ∙ is })
    go false e m ih = ih m

true_false : (b : Bool) → b ≡ true → b ≡ false → ⊥
true_false true p q = cc
true_false false p q = cc

bool_cases : (b : Bool) → (b ≡ true) ⊎ (b ≡ false)
bool_cases true = inl refl
bool_cases false = inr refl

module _ {O S : Type 0} (source : S → SourceState) (kept : List KeptData) (old new : List (ScanFile O S)) (c d : Cache) (places : List Place) (gs : List Group) (ss : List Slot) (are : AreGrouped places gs ss) where
  pub places_read : ReadsGroups source kept old new c d gs → ReadsPlaces source kept old new c d places
  places_read r = record { reads = r.reads; each = λ k f. each k f (bool_cases (is_among (files_of places) k)); unnamed = λ k off f. others k off f }
    where
      others : (k : ℕ) → is_among (files_of places) k ≡ false → (f : ScanFile O S) → get_or new k f ≡ get_or old k f
      others k off f = r.others k (λ n g e is. true_false (is_among (files_of places) k) (subst (λ j. is_among (files_of places) j ≡ true) is (are.are.named n g e)) off) f

      each : (k : ℕ) (f : ScanFile O S) → (is_among (files_of places) k ≡ true) ⊎ (is_among (files_of places) k ≡ false)
          → ReadsFile source (CacheAgrees source old c) (kept_at kept k) (rows_at k places) (get_or old k f) (get_or new k f)
      each k f (inl on) =
          let o = group_named gs k places ss are.slots on in
          let g = (o.1).group in
          let rows : g.rows.items ≡ rows_at k places = are.are.rows o.0 g (o.1).there ∙ ap (λ j. rows_at j places) (o.1).is in
          subst (λ zs. ReadsFile source (CacheAgrees source old c) (kept_at kept k) zs (get_or old k f) (get_or new k f)) rows
          (subst (λ j. ReadsFile source (CacheAgrees source old c) (kept_at kept j) g.rows.items (get_or old j f) (get_or new j f)) (o.1).is (r.each o.0 g (o.1).there f))
      each k f (inr off) =
          subst (λ (z : ScanFile O S). ReadsFile source (CacheAgrees source old c) (kept_at kept k) (rows_at k places) (get_or old k f) z) (sym (others k off f))
          (file_self source (CacheAgrees source old c) (kept_at kept k) (rows_at k places) (get_or old k f))

  pub named_fails : (u : LookupFault) → FailsGroups source kept old new c gs u → FailsReads source kept old new c places u
  named_fails u (inl e) = inl e
  named_fails u (inr h) = inr (record {
    file = h.group.file;
    named = are.are.named h.number h.group h.there;
    fails = subst (λ zs. FailsRows source kept old new c (CameUnder source kept old new c) h.group.file zs u) (are.are.rows h.number h.group h.there) h.fails;
  })

-- ---- the values in slots
got_index : (ws : List Marked) (vs : List Val) (i : ℕ) (v : Val) → map marked vs ≡ ws → slice_get vs i ≡ Some v → slice_get ws i ≡ Some (marked v)
got_index ws vs i v e g = ap (λ xs. slice_get xs i) (sym e) ∙ slice_get-map marked vs i ∙ ap (option_map marked) g

got_mapped : (f : ℕ → Marked) (rows : List ℕ) (i row : ℕ) (m : Marked) → slice_get rows i ≡ Some row → slice_get (map f rows) i ≡ Some m → m ≡ f row
got_mapped f rows i row m g h = same_some m (f row) (sym h ∙ slice_get-map f rows i ∙ ap (option_map f) g)

no_value : (i : ℕ) (m : Marked) → slice_get [] i ≡ Some m → ⊥
no_value i m e = cc

-- of values of rows the one at a number is that of the row there
value_of_row : (k : KeptData) (store : Store) (rows : List ℕ) (vs : List Val) (i row : ℕ) (v : Val) → map marked vs ≡ values_of k store rows → slice_get vs i ≡ Some v → slice_get rows i ≡ Some row → marked v ∷ [] ≡ values_of k store (row ∷ [])
value_of_row unopened store rows vs i row v e g h = absurd (no_value i (marked v) (got_index [] vs i v e g))
value_of_row skipped store rows vs i row v e g h = absurd (no_value i (marked v) (got_index [] vs i v e g))
value_of_row (flawed l) store rows vs i row v e g h = absurd (no_value i (marked v) (got_index [] vs i v e g))
value_of_row (ready l x) store rows vs i row v e g h = ap (λ (m : Marked). m ∷ []) (got_mapped (value_at l x store) rows i row (marked v) h (got_index (map (value_at l x store) rows) vs i v e g))

at_row : (P : ℕ → Type 0) (rows : List ℕ) (i row : ℕ) → All P rows → slice_get rows i ≡ Some row → P row
at_row P rows i row h g = subst P (get_or_from_slice_get rows i row row g) (h i row (slice_get_within rows i row g))

pub map_long : {A B : Type 0} (f : A → B) (xs : List A) → length (map f xs) ≡ length xs
map_long f [] = refl
map_long f (x ∷ xs) = ap suc (map_long f xs)

-- there is one at each number below
there_is : {A : Type 0} (xs : List A) (i : ℕ) → i < length xs → (x : A) × (slice_get xs i ≡ Some x)
there_is [] i lt = absurd (omega (arith, lt))
there_is (x ∷ xs) zero lt = (x, refl)
there_is (x ∷ xs) (suc i) lt = there_is xs i (omega (arith, lt))

pub value_own : (vss : List Values) (s : Slot) (h : HasValue vss s) (own : Values) → own ≡ get_or vss s.group own → own ≡ h.own
value_own vss s h own is = is ∙ get_or_from_slice_get vss s.group h.own own h.there

pub value_below : (vss : List Values) (s : Slot) (h : HasValue vss s) (own : Values) → own ≡ get_or vss s.group own → s.place < length own.items
value_below vss s h own is = subst (λ (o : Values). s.place < length o.items) (sym (value_own vss s h own is)) h.below

pub slot_is : (vss : List Values) (s : Slot) (h : HasValue vss s) (own : Values) → own ≡ get_or vss s.group own → (x : Value) → x ≡ get_or own.items s.place x → Some (val_of x) ≡ slot_value vss s
slot_is vss s h own is x e =
    let same : own ≡ h.own = value_own vss s h own is in
    let at : slice_get h.own.items s.place ≡ Some x = got_at h.own.items s.place x h.below (subst (λ (o : Values). x ≡ get_or o.items s.place x) same e) in
    sym (ap (option_and_then (λ (vs : Values). slice_get (map val_of vs.items) s.place)) h.there ∙ slice_get-map val_of h.own.items s.place ∙ ap (option_map val_of) at)

module _ {O S : Type 0} (source : S → SourceState) (kept : List KeptData) (files : List (ScanFile O S)) (c : Cache) (gs : List Group) (vss : List Values) (r : AllAreRead source kept files c gs vss) where
  own_values : (n : ℕ) (g : Group) → slice_get gs n ≡ Some g → (vs : Values) × (slice_get vss n ≡ Some vs)
  own_values n g e = there_is vss n (let lt = slice_get_within gs n g e in let many = r.count in omega (arith, lt, many))

  slot_there : (p : Place) (s : Slot) → StandsAt gs p s → HasValue vss s
  slot_there p s h =
      let g = h.of_file.group in
      let own = own_values s.group g h.of_file.there in
      let many = (r.each s.group g own.0 h.of_file.there own.1).count in
      let long = map_long val_of (own.0).items in
      let lt = slice_get_within g.rows.items s.place p.row h.row in
      record { own = own.0; there = own.1; below = omega (arith, many, long, lt) }

  pub slots_there : (ps : List Place) (ss : List Slot) → StandAt gs ps ss → All (HasValue vss) ss
  slots_there [] [] h = All-nil (HasValue vss)
  slots_there [] (s ∷ ss) h = absurd h
  slots_there (p ∷ ps) [] h = absurd h
  slots_there (p ∷ ps) (s ∷ ss) h = All-cons (HasValue vss) s ss (slot_there p s h.0) (slots_there ps ss h.1)

  value_there : (p : Place) (s : Slot) (v : Val) → StandsAt gs p s → Some v ≡ slot_value vss s → IsValue source kept files c p v
  value_there p s v h e =
      let o = h.of_file in
      let own = own_values s.group o.group o.there in
      let read = r.each s.group o.group own.0 o.there own.1 in
      let got : slice_get (map val_of (own.0).items) s.place ≡ Some v = sym (ap (option_and_then (λ (vs : Values). slice_get (map val_of vs.items) s.place)) own.1) ∙ sym e in
      record {
        value = λ a f store q.
            subst (λ j. marked v ∷ [] ≡ values_of (kept_at kept j) store (p.row ∷ [])) o.is
            (value_of_row (kept_at kept o.group.file) store o.group.rows.items (map val_of (own.0).items) s.place p.row v (read.values a f store (ap (λ j. (source (get_or files j f).source).holds) o.is ∙ q)) got h.row);
        no_overflow = λ a f store q.
            subst (λ j. any_overflows (kept_at kept j) store p.row ≡ false) o.is
            (at_row (λ row. any_overflows (kept_at kept o.group.file) store row ≡ false) o.group.rows.items s.place p.row (read.no_overflow a f store (ap (λ j. (source (get_or files j f).source).holds) o.is ∙ q)) h.row);
      }

  head_some : (v : Val) (o : Option Val) (xs ys : List (Option Val)) → Some v ∷ xs ≡ o ∷ ys → Some v ≡ o
  head_some v o xs ys e = ap (λ zs. get_or zs 0 None) e

  tail_some : (v : Val) (o : Option Val) (xs ys : List (Option Val)) → Some v ∷ xs ≡ o ∷ ys → xs ≡ ys
  tail_some v o xs ys e = ap (λ (zs : List (Option Val)). drop 1 zs) e

  no_more : (v : Val) (xs : List (Option Val)) → Some v ∷ xs ≡ [] → ⊥
  no_more v xs e = cc

  no_less : (o : Option Val) (xs : List (Option Val)) → [] ≡ o ∷ xs → ⊥
  no_less o xs e = cc

  pub values_there : (ps : List Place) (ss : List Slot) (vs : List Val) → StandAt gs ps ss → map Some vs ≡ map (slot_value vss) ss → AreValues source kept files c ps vs
  values_there [] [] [] h e = tt
  values_there [] [] (v ∷ vs) h e = absurd (no_more v (map Some vs) e)
  values_there [] (s ∷ ss) vs h e = absurd h
  values_there (p ∷ ps) [] vs h e = absurd h
  values_there (p ∷ ps) (s ∷ ss) [] h e = absurd (no_less (slot_value vss s) (map (slot_value vss) ss) e)
  values_there (p ∷ ps) (s ∷ ss) (v ∷ vs) h e = (
    value_there p s v h.0 (head_some v (slot_value vss s) (map Some vs) (map (slot_value vss) ss) e),
    values_there ps ss vs h.1 (tail_some v (slot_value vss s) (map Some vs) (map (slot_value vss) ss) e),
  )

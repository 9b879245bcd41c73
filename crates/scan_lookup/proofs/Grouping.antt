-- Places that are grouped by their files, one after the other.
use Rattle.std.proofs.Common.{◌≡◌, ◌≢◌, ◌<◌, ◌++◌, ◌||◌, ℕ, Bool, true, false, cond, List, [], ◌∷◌, Option, Some, None, length, map, set, inl, inr, refl, sym, ap, ◌∙◌, subst, arith, eqb, filter}
use Rattle.std.specs.Prelude.{◌⊎◌, ◌==◌}
use Rattle.std.specs.List.{slice_get}
use Rattle.std.specs.Ordering.{nat_cmp, is_eq}
use Rattle.std.specs.Cmp.{nat_cmp_total, eq_by_cmp_equiv}
use Rattle.std.specs.Map.{lookup}
use Rattle.std.specs.FinMap as map
use Rattle.std.proofs.lemmas.Bool.{cases_eq}
use Rattle.std.proofs.lemmas.Bool.Decides.{nat_tests}
use Rattle.std.proofs.lemmas.Option.{slice_get_within}
use Rattle.scan_values.specs.Selections.{is_among}
use Rattle.scan_segments.proofs.LiveSets.{at-id}
use Rattle.scan_segments.proofs.Lookups.{get-from_entries-lookup}
use Rattle.scan_places.specs.Walks.{files_of}
use Rattle.scan_places.specs.declared.place.Place.{Place}
use Rattle.std.specs.declared.alloc.Global.{Global}
use Rattle.std.specs.declared.vec.Vec.{Vec}
use Rattle.scan_multi.specs.Named.{distinct}
use Rattle.scan_lookup.specs.Asked.{named_rows, rows_at}
use Rattle.scan_lookup.specs.Grouped.{IsGroupOf, HasNumbers, AreNumbered, StandsAt, StandAt, AreRowsOf, AreGrouped, IsEmptyGroup, HasGroup, with_row, HasMore, NoneLeft, Adds}
use Rattle.scan_lookup.specs.Keyed.{KeyNumbers}
use Rattle.scan_lookup.specs.declared.groups.Group.{Group}
use Rattle.scan_lookup.specs.declared.groups.Slot.{Slot}
use Rattle.scan_lookup.proofs.Distinct.{among_at, at_among, distinct_more}
use Rattle.scan_lookup.proofs.Listing.{got_front, got_last, got_pushed, got_set, got_other}

-- ---- a number more
got : (m : KeyNumbers) (file n q : ℕ) → map.get (map.insert m file n) q ≡ cond (eqb file q) (Some n) (map.get m q)
got m file n q = map.get-insert nat_cmp_total m file n q ∙ ap (λ b. cond b (Some n) (map.get m q)) (at-id q file)

eqb_self : (n : ℕ) → eqb n n ≡ true
eqb_self n = grind (arith, nat_tests)

pub got_same : (m : KeyNumbers) (file n : ℕ) → map.get (map.insert m file n) file ≡ Some n
got_same m file n = got m file n file ∙ ap (λ b. cond b (Some n) (map.get m file)) (eqb_self file)

eqb_other : (file q : ℕ) → q ≢ file → eqb file q ≡ false
eqb_other file q ne = go (eqb file q) refl
  where
    go : (b : Bool) → eqb file q ≡ b → b ≡ false
    go true e = let is : file ≡ q = grind (arith, nat_tests, e) in absurd (ne (sym is))
    go false e = refl

pub got_else : (m : KeyNumbers) (file n q : ℕ) → q ≢ file → map.get (map.insert m file n) q ≡ map.get m q
got_else m file n q ne = got m file n q ∙ ap (λ b. cond b (Some n) (map.get m q)) (eqb_other file q ne)

number_is : (m n : ℕ) → Some m ≡ Some n → m ≡ n
number_is m n e = cc

none_some : (o : Option ℕ) (n : ℕ) → o ≡ None → o ≡ Some n → ⊥
none_some None n p q = cc
none_some (Some k) n p q = cc

none_number : (f n : ℕ) → map.get {X = ℕ} {R = nat_cmp} map.empty f ≡ Some n → ⊥
none_number f n e = none_some (map.get {X = ℕ} {R = nat_cmp} map.empty f) n (map.get-empty nat_cmp f) e

none_row : (n r : ℕ) → slice_get [] n ≡ Some r → ⊥
none_row n r e = cc

-- ---- a map of numbers, by its entries
pub inserted : (es later : List (ℕ × ℕ)) (file n : ℕ) → ((q : ℕ) → lookup (λ k. is_eq (nat_cmp q k)) later ≡ cond (is_eq (nat_cmp file q)) (Some n) (lookup (λ k. is_eq (nat_cmp q k)) es))
    → map.from_entries {R = nat_cmp} later ≡ map.insert (map.from_entries {R = nat_cmp} es) file n
inserted es later file n updates = map.same_map nat_cmp_total map.nat_cmp-IsAntisymmetric (map.from_entries later) (map.insert (map.from_entries es) file n) (λ q.
    get-from_entries-lookup later q ∙ updates q ∙ ap (λ b. cond b (Some n) (lookup (λ k. is_eq (nat_cmp q k)) es)) ((eq_by_cmp_equiv nat_cmp_total).symm file q)
    ∙ ap (cond (is_eq (nat_cmp q file)) (Some n)) (sym (get-from_entries-lookup es q)) ∙ sym (map.get-insert nat_cmp_total (map.from_entries es) file n q))

pub group_as : (file : ℕ) (old mid new : List Group) (m x y : KeyNumbers) (k n : ℕ) → n ≡ k → new ≡ mid → y ≡ x → HasGroup file k old mid m x → HasGroup file n old new m y
group_as file old mid new m x y k n p q r h =
    subst (λ j. HasGroup file j old new m y) (sym p) (subst (λ gs. HasGroup file k old gs m y) (sym q) (subst (λ z. HasGroup file k old mid m z) (sym r) h))

-- ---- a row more
numbers_none : (file : ℕ) (g : Group) → IsEmptyGroup file g → HasNumbers g
numbers_none file g h = record {
  there = λ r n e. absurd (none_number r n (ap (λ (m : KeyNumbers). map.get m r) (sym h.numbers) ∙ e));
  all = λ n r e. absurd (none_row n r (subst (λ (zs : List ℕ). slice_get zs n ≡ Some r) h.rows e));
}

module _ (g : Group) (h : HasNumbers g) (row : ℕ) where
  pub row_there : (n : ℕ) → map.get g.numbers row ≡ Some n → HasMore n row g g
  row_there n e =
      let at = h.there row n e in
      record {
        numbers = h;
        there = at;
        stay = λ k r is. is;
        file = refl;
        rows = sym (ap (λ (b : Bool). cond b g.rows.items (g.rows.items ++ row ∷ [])) (among_at g.rows.items n row at));
      }

  module _ (none : map.get g.numbers row ≡ None) where
    abbrev xs : List ℕ
    xs = g.rows.items

    abbrev more : KeyNumbers
    more = map.insert g.numbers row (length xs)

    there_row : (r k : ℕ) → map.get more r ≡ Some k → (r ≡ row) ⊎ (r ≢ row) → slice_get (xs ++ row ∷ []) k ≡ Some r
    there_row r k e (inl is) =
        let same : length xs ≡ k = number_is (length xs) k (sym (got_same g.numbers row (length xs)) ∙ ap (map.get more) (sym is) ∙ e) in
        subst (λ j. slice_get (xs ++ row ∷ []) j ≡ Some r) same (subst (λ q. slice_get (xs ++ row ∷ []) (length xs) ≡ Some q) (sym is) (got_last xs row))
    there_row r k e (inr ne) = got_front xs (row ∷ []) k r (h.there r k (sym (got_else g.numbers row (length xs) r ne) ∙ e))

    all_row : (k r : ℕ) → (slice_get xs k ≡ Some r) ⊎ ((k ≡ length xs) × (r ≡ row)) → map.get more r ≡ Some k
    all_row k r (inl e) =
        let was = h.all k r e in
        got_else g.numbers row (length xs) r (λ is. none_some (map.get g.numbers row) k none (ap (map.get g.numbers) (sym is) ∙ was)) ∙ was
    all_row k r (inr e) = ap (map.get more) e.1 ∙ got_same g.numbers row (length xs) ∙ ap Some (sym e.0)

    not_among : (b : Bool) → is_among xs row ≡ b → b ≡ false
    not_among false e = refl
    not_among true e = absurd (let at = at_among xs row e in none_some (map.get g.numbers row) at.0 none (h.all at.0 row at.1))

    pub row_new : (rows : Vec ℕ Global) (numbers : KeyNumbers) → rows.items ≡ g.rows.items ++ row ∷ [] → numbers ≡ map.insert g.numbers row (length g.rows.items) → (n : ℕ) → n ≡ length g.rows.items
        → HasMore n row g (record { file = g.file; rows = rows; numbers = numbers })
    row_new rows numbers p q n r = record {
      numbers = record {
        there = λ s k e. subst (λ (zs : List ℕ). slice_get zs k ≡ Some s) (sym p) (there_row s k (ap (λ (m : KeyNumbers). map.get m s) (sym q) ∙ e) (cases_eq s row));
        all = λ k s e. ap (λ (m : KeyNumbers). map.get m s) q ∙ all_row k s (got_pushed xs row k s (subst (λ (zs : List ℕ). slice_get zs k ≡ Some s) p e));
      };
      there = subst (λ (zs : List ℕ). slice_get zs n ≡ Some row) (sym p) (subst (λ j. slice_get (xs ++ row ∷ []) j ≡ Some row) (sym r) (got_last xs row));
      stay = λ k s e. subst (λ (zs : List ℕ). slice_get zs k ≡ Some s) (sym p) (got_front xs (row ∷ []) k s e);
      file = refl;
      rows = p ∙ sym (ap (λ (b : Bool). cond b xs (xs ++ row ∷ [])) (not_among (is_among xs row) refl));
    }

-- ---- a group more
module _ (m : KeyNumbers) (gs : List Group) (h : AreNumbered m gs) (file : ℕ) where
  pub group_there : (n : ℕ) → map.get m file ≡ Some n → HasGroup file n gs gs m m
  group_there n e = record { numbers = h; own = h.there file n e; stay = λ k g is. is; more = λ k g is. inl is; none = λ f is. is }

  module _ (none : map.get m file ≡ None) (x : Group) (of : IsEmptyGroup file x) where
    abbrev now : KeyNumbers
    now = map.insert m file (length gs)

    there_now : (f n : ℕ) → map.get now f ≡ Some n → (f ≡ file) ⊎ (f ≢ file) → IsGroupOf f n (gs ++ x ∷ [])
    there_now f n e (inl is) =
        let same : length gs ≡ n = number_is (length gs) n (sym (got_same m file (length gs)) ∙ ap (map.get now) (sym is) ∙ e) in
        record { group = x; there = subst (λ k. slice_get (gs ++ x ∷ []) k ≡ Some x) same (got_last gs x); is = of.of_file ∙ sym is }
    there_now f n e (inr ne) =
        let was = h.there f n (sym (got_else m file (length gs) f ne) ∙ e) in
        record { group = was.group; there = got_front gs (x ∷ []) n was.group was.there; is = was.is }

    all_now : (n : ℕ) (g : Group) → (slice_get gs n ≡ Some g) ⊎ ((n ≡ length gs) × (g ≡ x)) → map.get now g.file ≡ Some n
    all_now n g (inl e) =
        let was = h.all n g e in
        got_else m file (length gs) g.file (λ is. none_some (map.get m file) n none (ap (map.get m) (sym is) ∙ was)) ∙ was
    all_now n g (inr e) = ap (map.get now) (ap (λ (z : Group). z.file) e.1 ∙ of.of_file) ∙ got_same m file (length gs) ∙ ap Some (sym e.0)

    more_now : (k : ℕ) (g : Group) → (slice_get gs k ≡ Some g) ⊎ ((k ≡ length gs) × (g ≡ x)) → (slice_get gs k ≡ Some g) ⊎ ((g.file ≡ file) × (g.rows.items ≡ []) × (map.get m file ≡ None))
    more_now k g (inl e) = inl e
    more_now k g (inr e) = inr (ap (λ (z : Group). z.file) e.1 ∙ of.of_file, ap (λ (z : Group). z.rows.items) e.1 ∙ of.rows, none)

    numbers_now : (n : ℕ) (g : Group) → (slice_get gs n ≡ Some g) ⊎ ((n ≡ length gs) × (g ≡ x)) → HasNumbers g
    numbers_now n g (inl e) = h.own n g e
    numbers_now n g (inr e) = subst HasNumbers (sym e.1) (numbers_none file x of)

    none_now : (f : ℕ) → map.get now f ≡ None → (f ≡ file) ⊎ (f ≢ file) → map.get m f ≡ None
    none_now f e (inl is) = ap (map.get m) is ∙ none
    none_now f e (inr ne) = sym (got_else m file (length gs) f ne) ∙ e

    pub group_new : HasGroup file (length gs) gs (gs ++ x ∷ []) m (map.insert m file (length gs))
    group_new = record {
      numbers = record { there = λ f n e. there_now f n e (cases_eq f file); all = λ n g e. all_now n g (got_pushed gs x n g e); own = λ n g e. numbers_now n g (got_pushed gs x n g e) };
      own = record { group = x; there = got_last gs x; is = of.of_file };
      stay = λ k g e. got_front gs (x ∷ []) k g e;
      more = λ k g e. more_now k g (got_pushed gs x k g e);
      none = λ f e. none_now f e (cases_eq f file);
    }

-- ---- rows of a file
file_on : (m n : ℕ) → m ≡ n → (m == n) ≡ true
file_on m n e = grind (arith, nat_tests, e)

file_off : (m n : ℕ) → m ≢ n → (m == n) ≡ false
file_off m n ne = go (m == n) refl
  where
    go : (b : Bool) → (m == n) ≡ b → b ≡ false
    go true e = let is : m ≡ n = grind (arith, nat_tests, e) in absurd (ne is)
    go false e = refl

named_more : (file : ℕ) (done : List Place) (p : Place) → p.file ≡ file → named_rows file (done ++ p ∷ []) ≡ named_rows file done ++ p.row ∷ []
named_more file [] p is = let on = file_on p.file file is in rw on refl
named_more file (q ∷ done) p is = go (q.file == file) (named_more file done p is)
  where
    go : (b : Bool) → named_rows file (done ++ p ∷ []) ≡ named_rows file done ++ p.row ∷ []
        → map (λ (z : Place). z.row) (cond b (q ∷ filter (λ (z : Place). z.file == file) (done ++ p ∷ [])) (filter (λ (z : Place). z.file == file) (done ++ p ∷ [])))
        ≡ map (λ (z : Place). z.row) (cond b (q ∷ filter (λ (z : Place). z.file == file) done) (filter (λ (z : Place). z.file == file) done)) ++ p.row ∷ []
    go true ih = ap (λ (zs : List ℕ). q.row ∷ zs) ih
    go false ih = ih

named_else : (file : ℕ) (done : List Place) (p : Place) → p.file ≢ file → named_rows file (done ++ p ∷ []) ≡ named_rows file done
named_else file [] p ne = let off = file_off p.file file ne in rw off refl
named_else file (q ∷ done) p ne = go (q.file == file) (named_else file done p ne)
  where
    go : (b : Bool) → named_rows file (done ++ p ∷ []) ≡ named_rows file done
        → map (λ (z : Place). z.row) (cond b (q ∷ filter (λ (z : Place). z.file == file) (done ++ p ∷ [])) (filter (λ (z : Place). z.file == file) (done ++ p ∷ [])))
        ≡ map (λ (z : Place). z.row) (cond b (q ∷ filter (λ (z : Place). z.file == file) done) (filter (λ (z : Place). z.file == file) done))
    go true ih = ap (λ (zs : List ℕ). q.row ∷ zs) ih
    go false ih = ih

pub rows_more : (file : ℕ) (done : List Place) (p : Place) → p.file ≡ file → rows_at file (done ++ p ∷ []) ≡ with_row (rows_at file done) p.row
rows_more file done p is = ap distinct (named_more file done p is) ∙ distinct_more (named_rows file done) p.row

pub rows_else : (file : ℕ) (done : List Place) (p : Place) → p.file ≢ file → rows_at file (done ++ p ∷ []) ≡ rows_at file done
rows_else file done p ne = ap distinct (named_else file done p ne)

or_keeps : (a b c : Bool) → (b ≡ true → c ≡ true) → (a || b) ≡ true → (a || c) ≡ true
or_keeps true b c f h = refl
or_keeps false b c f h = f h

pub named_stays : (done : List Place) (p : Place) (file : ℕ) → is_among (files_of done) file ≡ true → is_among (files_of (done ++ p ∷ [])) file ≡ true
named_stays [] p file h = absurd cc
named_stays (q ∷ done) p file h = or_keeps (eqb q.file file) (is_among (files_of done) file) (is_among (files_of (done ++ p ∷ [])) file) (named_stays done p file) h

pub named_now : (done : List Place) (p : Place) (file : ℕ) → p.file ≡ file → is_among (files_of (done ++ p ∷ [])) file ≡ true
named_now [] p file is = let on : eqb p.file file ≡ true = grind (arith, nat_tests, is) in rw on refl
named_now (q ∷ done) p file is = right (eqb q.file file) (is_among (files_of (done ++ p ∷ [])) file) (named_now done p file is)
  where
    right : (a b : Bool) → b ≡ true → (a || b) ≡ true
    right true b h = refl
    right false b h = h

-- ---- one place more
module _ (p : Place) (old mid : List Group) (m m' : KeyNumbers) (n place : ℕ) (h : HasGroup p.file n old mid m m') (was now : Group) (there : slice_get mid n ≡ Some was) (more : HasMore place p.row was now) where
  abbrev new : List Group
  new = set mid n now

  below : n < length mid
  below = slice_get_within mid n was there

  same_group : (x y : Group) → Some x ≡ Some y → x ≡ y
  same_group x y e = cc

  -- the group that stands there
  was_file : was.file ≡ p.file
  was_file = ap (λ (z : Group). z.file) (same_group was h.own.group (sym there ∙ h.own.there)) ∙ h.own.is

  now_file : now.file ≡ p.file
  now_file = more.file ∙ was_file

  own_now : (k : ℕ) → k ≡ n → slice_get new k ≡ Some now
  own_now k e = subst (λ j. slice_get new j ≡ Some now) (sym e) (got_set mid n now below)

  -- what stands at a number
  at : (k : ℕ) (g : Group) → slice_get new k ≡ Some g → (k ≡ n) ⊎ (k ≢ n) → ((k ≡ n) × (g ≡ now)) ⊎ ((k ≢ n) × (slice_get mid k ≡ Some g))
  at k g e (inl is) = inl (is, same_group g now (sym e ∙ own_now k is))
  at k g e (inr ne) = inr (ne, sym (got_other mid n k now ne) ∙ e)

  numbers_there : (f k : ℕ) (o : IsGroupOf f k mid) → (k ≡ n) ⊎ (k ≢ n) → IsGroupOf f k new
  numbers_there f k o (inl is) =
      let e : o.group ≡ was = same_group o.group was (sym o.there ∙ ap (slice_get mid) is ∙ there) in
      record { group = now; there = own_now k is; is = more.file ∙ ap (λ (z : Group). z.file) (sym e) ∙ o.is }
  numbers_there f k o (inr ne) = record { group = o.group; there = got_other mid n k now ne ∙ o.there; is = o.is }

  numbers_all : (k : ℕ) (g : Group) → ((k ≡ n) × (g ≡ now)) ⊎ ((k ≢ n) × (slice_get mid k ≡ Some g)) → map.get m' g.file ≡ Some k
  numbers_all k g (inl e) = ap (map.get m') (ap (λ (z : Group). z.file) e.1 ∙ more.file) ∙ h.numbers.all n was there ∙ ap Some (sym e.0)
  numbers_all k g (inr e) = h.numbers.all k g e.1

  numbers_own : (k : ℕ) (g : Group) → ((k ≡ n) × (g ≡ now)) ⊎ ((k ≢ n) × (slice_get mid k ≡ Some g)) → HasNumbers g
  numbers_own k g (inl e) = subst HasNumbers (sym e.1) more.numbers
  numbers_own k g (inr e) = h.numbers.own k g e.1

  row_now : (rows : List ℕ) (k : ℕ) (r : ℕ) → rows ≡ was.rows.items → slice_get rows k ≡ Some r → slice_get now.rows.items k ≡ Some r
  row_now rows k r e s = more.stay k r (subst (λ (zs : List ℕ). slice_get zs k ≡ Some r) e s)

  stands_mid : (q : Place) (t : Slot) (o : IsGroupOf q.file t.group mid) → slice_get (o.group).rows.items t.place ≡ Some q.row → (t.group ≡ n) ⊎ (t.group ≢ n) → StandsAt new q t
  stands_mid q t o r (inl is) =
      let e : o.group ≡ was = same_group o.group was (sym o.there ∙ ap (slice_get mid) is ∙ there) in
      record {
        of_file = record { group = now; there = own_now t.group is; is = more.file ∙ ap (λ (z : Group). z.file) (sym e) ∙ o.is };
        row = row_now (o.group).rows.items t.place q.row (ap (λ (z : Group). z.rows.items) e) r;
      }
  stands_mid q t o r (inr ne) = record { of_file = record { group = o.group; there = got_other mid n t.group now ne ∙ o.there; is = o.is }; row = r }

  stays : (q : Place) (t : Slot) → StandsAt old q t → StandsAt new q t
  stays q t s = stands_mid q t (record { group = s.of_file.group; there = h.stay t.group s.of_file.group s.of_file.there; is = s.of_file.is }) s.row (cases_eq t.group n)

  abbrev slot : Slot
  slot = record { group = n; place = place }

  stands : StandsAt new p slot
  stands = record { of_file = record { group = now; there = own_now n refl; is = now_file }; row = more.there }

  module _ (done : List Place) (left : NoneLeft done m) (are : AreRowsOf done old) where
    -- of a group before the row is added
    rows_mid : (k : ℕ) (g : Group) → (slice_get old k ≡ Some g) ⊎ ((g.file ≡ p.file) × (g.rows.items ≡ []) × (map.get m p.file ≡ None)) → g.rows.items ≡ rows_at g.file done
    rows_mid k g (inl e) = are.rows k g e
    rows_mid k g (inr e) = e.1 ∙ sym (left p.file e.2) ∙ ap (λ f. rows_at f done) (sym e.0)

    rows_new : (k : ℕ) (g : Group) → ((k ≡ n) × (g ≡ now)) ⊎ ((k ≢ n) × (slice_get mid k ≡ Some g)) → g.rows.items ≡ rows_at g.file (done ++ p ∷ [])
    rows_new k g (inl e) =
        ap (λ (z : Group). z.rows.items) e.1 ∙ more.rows ∙ ap (λ (zs : List ℕ). with_row zs p.row) (rows_mid n was (h.more n was there))
        ∙ ap (λ f. with_row (rows_at f done) p.row) was_file ∙ sym (rows_more p.file done p refl) ∙ ap (λ f. rows_at f (done ++ p ∷ [])) (sym (ap (λ (z : Group). z.file) e.1 ∙ now_file))
    rows_new k g (inr e) = rows_mid k g (h.more k g e.1) ∙ sym (rows_else g.file done p (λ is. e.0 (one_number k g e.1 is)))
      where
        one_number : (k : ℕ) (g : Group) → slice_get mid k ≡ Some g → p.file ≡ g.file → k ≡ n
        one_number k g s is = number_is k n (sym (h.numbers.all k g s) ∙ ap (map.get m') (sym is ∙ sym was_file) ∙ h.numbers.all n was there)

    named_mid : (k : ℕ) (g : Group) → (slice_get old k ≡ Some g) ⊎ ((g.file ≡ p.file) × (g.rows.items ≡ []) × (map.get m p.file ≡ None)) → is_among (files_of (done ++ p ∷ [])) g.file ≡ true
    named_mid k g (inl e) = named_stays done p g.file (are.named k g e)
    named_mid k g (inr e) = named_now done p g.file (sym e.0)

    named_new : (k : ℕ) (g : Group) → ((k ≡ n) × (g ≡ now)) ⊎ ((k ≢ n) × (slice_get mid k ≡ Some g)) → is_among (files_of (done ++ p ∷ [])) g.file ≡ true
    named_new k g (inl e) = named_now done p g.file (sym (ap (λ (z : Group). z.file) e.1 ∙ now_file))
    named_new k g (inr e) = named_mid k g (h.more k g e.1)

    rows_done : AreRowsOf (done ++ p ∷ []) new
    rows_done = record { rows = λ k g e. rows_new k g (at k g e (cases_eq k n)); named = λ k g e. named_new k g (at k g e (cases_eq k n)) }

  none_done : (done : List Place) → NoneLeft done m → NoneLeft (done ++ p ∷ []) m'
  none_done done left file e = rows_else file done p (λ is. none_some (map.get m' file) n e (ap (map.get m') (sym is ∙ sym was_file) ∙ h.numbers.all n was there)) ∙ left file (h.none file e)

  pub adds : Adds p old (set mid n now) m m' (record { group = n; place = place })
  adds = record {
    numbers = record {
      there = λ f k e. numbers_there f k (h.numbers.there f k e) (cases_eq k n);
      all = λ k g e. numbers_all k g (at k g e (cases_eq k n));
      own = λ k g e. numbers_own k g (at k g e (cases_eq k n));
    };
    stands = stands;
    stay = stays;
    rows = rows_done;
    none = none_done;
  }

-- ---- places so far
pub record Grouping (done : List Place) (gs : List Group) (ss : List Slot) (m : KeyNumbers) : Type 0 where
  pub numbers : AreNumbered m gs
  pub are : AreRowsOf done gs
  pub left : NoneLeft done m
  pub slots : StandAt gs done ss

slots_stay : (old later : List Group) → ((q : Place) (t : Slot) → StandsAt old q t → StandsAt later q t) → (ps : List Place) (ss : List Slot) → StandAt old ps ss → StandAt later ps ss
slots_stay old later f [] [] h = tt
slots_stay old later f [] (s ∷ ss) h = absurd h
slots_stay old later f (p ∷ ps) [] h = absurd h
slots_stay old later f (p ∷ ps) (s ∷ ss) h = (f p s h.0, slots_stay old later f ps ss h.1)

slots_push : (gs : List Group) (ps : List Place) (ss : List Slot) (p : Place) (s : Slot) → StandAt gs ps ss → StandsAt gs p s → StandAt gs (ps ++ p ∷ []) (ss ++ s ∷ [])
slots_push gs [] [] p s h k = (k, tt)
slots_push gs [] (t ∷ ss) p s h k = absurd h
slots_push gs (q ∷ ps) [] p s h k = absurd h
slots_push gs (q ∷ ps) (t ∷ ss) p s h k = (h.0, slots_push gs ps ss p s h.1 k)

none_got : (k : ℕ) (g : Group) → slice_get [] k ≡ Some g → ⊥
none_got k g e = cc

pub grouping_none : Grouping [] [] [] map.empty
grouping_none = record {
  numbers = record { there = λ f n e. absurd (none_number f n e); all = λ n g e. absurd (none_got n g e); own = λ n g e. absurd (none_got n g e) };
  are = record { rows = λ n g e. absurd (none_got n g e); named = λ n g e. absurd (none_got n g e) };
  left = λ f e. refl;
  slots = tt;
}

pub grouping_next : (done : List Place) (old new : List Group) (ss : List Slot) (m m' : KeyNumbers) (p : Place) (s : Slot) → Grouping done old ss m → Adds p old new m m' s → Grouping (done ++ p ∷ []) new (ss ++ s ∷ []) m'
grouping_next done old new ss m m' p s g a = record {
  numbers = a.numbers;
  are = a.rows done g.left g.are;
  left = a.none done g.left;
  slots = slots_push new done ss p s (slots_stay old new a.stay done ss g.slots) a.stands;
}

pub grouping_done : (places : List Place) (gs : List Group) (ss : List Slot) (m : KeyNumbers) → Grouping places gs ss m → AreGrouped places gs ss
grouping_done places gs ss m g = record {
  are = g.are;
  once = λ i j x y a b is. number_is i j (sym (g.numbers.all i x a) ∙ ap (map.get m) is ∙ g.numbers.all j y b);
  slots = g.slots;
}

-- Files that are opened one after the other.
use Rattle.std.proofs.Common.{◌≡◌, ◌≢◌, ◌≤◌, ◌<◌, ◌+◌, ◌++◌, ◌||◌, ℕ, zero, suc, Bool, true, false, List, [], ◌∷◌, Option, Some, None, IfSome, get_or, set, take, length, map, inl, inr, refl, sym, ap, ◌∙◌, subst, arith, eqb, length-set, get_or-set_same, get_or-set_other}
use Rattle.std.specs.Prelude.{◌⊎◌, All, OnOk, IfErr, Result, Ok, Err}
use Rattle.std.specs.List.{slice_get}
use Rattle.std.proofs.lemmas.Bool.{cases_eq}
use Rattle.std.proofs.lemmas.Bool.Decides.{nat_tests}
use Rattle.std.proofs.lemmas.List.{get_or_default}
use Rattle.std.proofs.lemmas.List.Elements.{All-nil, All-cons, All-weaker, All-push, All-head}
use Rattle.scan_values.specs.DataType.{DataType}
use Rattle.scan_values.specs.Selections.{is_among}
use Rattle.scan_expr.specs.Bound.{Bound}
use Rattle.scan_layout.specs.Check.{first_fault}
use Rattle.scan_layout.specs.Layout.{Layout, dtype_of, rows_of}
use Rattle.scan_layout.specs.declared.fault.LayoutFault.{LayoutFault}
use Rattle.scan_opener.specs.Opener.{OpenerState, OpenerFailed, Given, skip, layout_of}
use Rattle.scan_drive.specs.declared.files.ScanFile.{ScanFile}
use Rattle.scan_drive.proofs.Failing.{rose_before, rose_more}
use Rattle.scan_seek.specs.KeptData.{KeptData, unopened, skipped, flawed, ready}
use Rattle.scan_seek.specs.Keeps.{is_open, IsFlawed, IsKept, HasRow, RowIs}
use Rattle.scan_seek.specs.declared.keeping.RowStanding.TheVariants as standing
use Rattle.scan_seek.specs.Polls.{IsPolledThrough}
use Rattle.scan_places.specs.Walks.{kept_at, files_of, GivesRow, LacksRow, IsOther, IsIll, OpensOne, FailsRow, Stays, HasPlaceRow, Walked, AreKept, OpensAt, Walks, FailsAt, FailsOpening, TellsAt, FailsPlace, FailsPlaces}
use Rattle.scan_places.specs.declared.fault.PlaceFault.{PlaceFault}
use Rattle.scan_places.specs.declared.fault.PlaceFault.TheVariants as fault
use Rattle.scan_places.specs.declared.place.Place.{Place}

true_false : (b : Bool) → b ≡ true → b ≡ false → ⊥
true_false true p q = cc
true_false false p q = cc

bool_cases : (b : Bool) → (b ≡ true) ⊎ (b ≡ false)
bool_cases true = inl refl
bool_cases false = inr refl

-- this number alone
not_one : (k j : ℕ) → is_among (k ∷ []) j ≡ false → j ≢ k
not_one k j n e = true_false (is_among (k ∷ []) j) (ap (is_among (k ∷ [])) e ∙ (let is : eqb k k ≡ true = grind (arith, nat_tests) in rw is refl)) n

is_one : (k j : ℕ) → is_among (k ∷ []) j ≡ true → k ≡ j
is_one k j n = go (eqb k j) refl n
  where
    go : (b : Bool) → eqb k j ≡ b → (b || false) ≡ true → k ≡ j
    go true e m = grind (arith, nat_tests)
    go false e m = absurd cc

pub polled_self : (o : OpenerState) → IsPolledThrough o o
polled_self o = record { gives = refl; faults = omega arith; turns = omega arith; can_fail = refl; grows = omega arith; most = omega arith }

-- what was told of an opener that gives the same
told_back : (P : Given → Type 0) (o p : Option Given) → p ≡ o → IfSome p P → IfSome o P
told_back P o p e h = subst (λ (z : Option Given). IfSome z P) e h

module _ {O S : Type 0} (opener : O → OpenerState) (e : Bound) where
  pub stays_self : (k : ℕ) (files : List (ScanFile O S)) (kept : List KeptData) → Stays k files files kept kept
  stays_self k files kept = record { file = λ f. refl; kept_is = refl }

  stays_then : (k : ℕ) (a b c : List (ScanFile O S)) (x y z : List KeptData) → Stays k a b x y → Stays k b c y z → Stays k a c x z
  stays_then k a b c x y z p q = record { file = λ f. q.file f ∙ p.file f; kept_is = q.kept_is ∙ p.kept_is }

  -- ---- one file of a list is opened
  pub opens_set : (files : List (ScanFile O S)) (kept : List KeptData) (k : ℕ) (x y : ScanFile O S) (p q : KeptData) → k < length files → k < length kept → x ≡ get_or files k x → p ≡ get_or kept k p
      → y.source ≡ x.source → y.source_id ≡ x.source_id → OpensOne opener e x.opener y.opener p q → OpensAt opener e k files (set files k y) kept (set kept k q)
  opens_set files kept k x y p q lt plt is kis src nm h = record {
    count = length-set files k y;
    even = length-set kept k q;
    source = λ f. ap (λ (z : ScanFile O S). z.source) (new f) ∙ src ∙ ap (λ (z : ScanFile O S). z.source) (old f);
    name = λ f. ap (λ (z : ScanFile O S). z.source_id) (new f) ∙ nm ∙ ap (λ (z : ScanFile O S). z.source_id) (old f);
    opens = λ f.
        subst (λ (z : ScanFile O S). OpensOne opener e z.opener (get_or (set files k y) k f).opener (kept_at kept k) (kept_at (set kept k q) k)) (old f)
        (subst (λ (z : ScanFile O S). OpensOne opener e x.opener z.opener (kept_at kept k) (kept_at (set kept k q) k)) (sym (new f))
        (subst (λ (z : KeptData). OpensOne opener e x.opener y.opener z (kept_at (set kept k q) k)) kold
        (subst (λ (z : KeptData). OpensOne opener e x.opener y.opener p z) (sym knew) h)));
    others = λ j ne. record { file = λ f. get_or-set_other files k j y f ne; kept_is = get_or-set_other kept k j q unopened ne };
  }
    where
      new : (f : ScanFile O S) → get_or (set files k y) k f ≡ y
      new f = get_or-set_same files k y f lt

      old : (f : ScanFile O S) → x ≡ get_or files k f
      old f = is ∙ get_or_default files k x f lt

      knew : kept_at (set kept k q) k ≡ q
      knew = get_or-set_same kept k q unopened plt

      kold : p ≡ kept_at kept k
      kold = kis ∙ get_or_default kept k p unopened plt

  -- ---- what that is to a walk
  module _ (k : ℕ) (old new : List (ScanFile O S)) (kept kept' : List KeptData) (o : OpensAt opener e k old new kept kept') where
    at_kept : AreKept opener e old kept → (j : ℕ) (f : ScanFile O S) → j < length new → (j ≡ k) ⊎ (j ≢ k) → IsKept e (opener (get_or new j f).opener) (kept_at kept' j)
    at_kept h j f lt (inl is) = subst (λ (i : ℕ). IsKept e (opener (get_or new i f).opener) (kept_at kept' i)) (sym is) (o.opens f).kept_is
    at_kept h j f lt (inr ne) =
        let s = o.others j ne in
        subst (λ (z : KeptData). IsKept e (opener (get_or new j f).opener) z) (sym s.kept_is)
        (subst (λ (z : ScanFile O S). IsKept e (opener z.opener) (kept_at kept j)) (sym (s.file f)) (h j f (let c = o.count in omega (arith, lt, c))))

    at_source : (j : ℕ) (f : ScanFile O S) → (j ≡ k) ⊎ (j ≢ k) → (get_or new j f).source ≡ (get_or old j f).source
    at_source j f (inl is) = subst (λ (i : ℕ). (get_or new i f).source ≡ (get_or old i f).source) (sym is) (o.source f)
    at_source j f (inr ne) = ap (λ (z : ScanFile O S). z.source) ((o.others j ne).file f)

    at_name : (j : ℕ) (f : ScanFile O S) → (j ≡ k) ⊎ (j ≢ k) → (get_or new j f).source_id ≡ (get_or old j f).source_id
    at_name j f (inl is) = subst (λ (i : ℕ). (get_or new i f).source_id ≡ (get_or old i f).source_id) (sym is) (o.name f)
    at_name j f (inr ne) = ap (λ (z : ScanFile O S). z.source_id) ((o.others j ne).file f)

    at_polls : (j : ℕ) (f : ScanFile O S) → (j ≡ k) ⊎ (j ≢ k) → IsPolledThrough (opener (get_or old j f).opener) (opener (get_or new j f).opener)
    at_polls j f (inl is) = subst (λ (i : ℕ). IsPolledThrough (opener (get_or old i f).opener) (opener (get_or new i f).opener)) (sym is) (o.opens f).polls
    at_polls j f (inr ne) = subst (λ (z : ScanFile O S). IsPolledThrough (opener (get_or old j f).opener) (opener z.opener)) (sym ((o.others j ne).file f)) (polled_self (opener (get_or old j f).opener))

    -- the same opener, source and name
    same_file : (a b : ScanFile O S) → b.opener ≡ a.opener → b.source ≡ a.source → b.source_id ≡ a.source_id → b ≡ a
    same_file a b p q r = λ i. record { opener = p i; source = q i; source_id = r i }

    stays_open : is_open (kept_at kept k) ≡ true → (f : ScanFile O S) → Stays k old new kept kept'
    stays_open on f = record {
      file = λ g. same_file (get_or old k g) (get_or new k g) ((o.opens g).still on).0 (o.source g) (o.name g);
      kept_is = ((o.opens f).still on).1;
    }

    at_opened : (f : ScanFile O S) (j : ℕ) → is_open (kept_at kept j) ≡ true → (j ≡ k) ⊎ (j ≢ k) → Stays j old new kept kept'
    at_opened f j on (inl is) = subst (λ (i : ℕ). Stays i old new kept kept') (sym is) (stays_open (subst (λ (i : ℕ). is_open (kept_at kept i) ≡ true) is on) f)
    at_opened f j on (inr ne) = o.others j ne

    pub walks_of : ScanFile O S → AreKept opener e old kept → length kept ≡ length old → Walks opener e (k ∷ []) old new kept kept'
    walks_of f h even = record {
      count = o.count;
      even = o.even ∙ even ∙ sym o.count;
      are_kept = λ j g lt. at_kept h j g lt (cases_eq j k);
      source = λ j g. at_source j g (cases_eq j k);
      name = λ j g. at_name j g (cases_eq j k);
      polls = λ j g. at_polls j g (cases_eq j k);
      unnamed = λ j n. o.others j (not_one k j n);
      opened = λ j on. at_opened f j on (cases_eq j k);
    }

    at_still : is_open (kept_at kept' k) ≡ true → (j : ℕ) → is_open (kept_at kept' j) ≡ false → (j ≡ k) ⊎ (j ≢ k) → Stays j old new kept kept'
    at_still on j off (inl is) = absurd (true_false (is_open (kept_at kept' k)) on (subst (λ (i : ℕ). is_open (kept_at kept' i) ≡ false) is off))
    at_still on j off (inr ne) = o.others j ne

    pub walked_of : (p : Place) → p.file ≡ k → k < length new → is_open (kept_at kept' k) ≡ true → HasRow (kept_at kept' k) p.row → Walked (p ∷ []) old new kept kept'
    walked_of p is lt on row = record {
      still = λ j off. at_still on j off (cases_eq j k);
      there = All-cons (HasPlaceRow new kept') p [] (subst (λ (i : ℕ). (i < length new) × HasRow (kept_at kept' i) p.row) (sym is) (lt, row)) (All-nil (HasPlaceRow new kept'));
    }

  -- no file is touched
  pub walks_self : (named : List ℕ) (files : List (ScanFile O S)) (kept : List KeptData) → AreKept opener e files kept → length kept ≡ length files → Walks opener e named files files kept kept
  walks_self named files kept h even = record {
    count = refl;
    even = even;
    are_kept = h;
    source = λ k f. refl;
    name = λ k f. refl;
    polls = λ k f. polled_self (opener (get_or files k f).opener);
    unnamed = λ k n. stays_self k files kept;
    opened = λ k on. stays_self k files kept;
  }

  pub walked_none : (files : List (ScanFile O S)) (kept : List KeptData) → Walked [] files files kept kept
  walked_none files kept = record { still = λ k off. stays_self k files kept; there = All-nil (HasPlaceRow files kept) }

  -- ---- one more place
  module _ (named : List ℕ) (k : ℕ) (done : List Place) (old mid new : List (ScanFile O S)) (x y z : List KeptData) (a : Walks opener e named old mid x y) (w : Walked done old mid x y)
      (b : Walks opener e (k ∷ []) mid new y z) (n : is_among named k ≡ true) where
    polls_so : (j : ℕ) (f : ScanFile O S) → (is_open (kept_at y j) ≡ true) ⊎ (is_open (kept_at y j) ≡ false) → IsPolledThrough (opener (get_or old j f).opener) (opener (get_or new j f).opener)
    polls_so j f (inl on) = subst (λ (q : ScanFile O S). IsPolledThrough (opener (get_or old j f).opener) (opener q.opener)) (sym ((b.opened j on).file f)) (a.polls j f)
    polls_so j f (inr off) = subst (λ (q : ScanFile O S). IsPolledThrough (opener q.opener) (opener (get_or new j f).opener)) ((w.still j off).file f) (b.polls j f)

    not_k : (j : ℕ) → is_among named j ≡ false → (is_among (k ∷ []) j ≡ true) ⊎ (is_among (k ∷ []) j ≡ false) → is_among (k ∷ []) j ≡ false
    not_k j off (inl on) = absurd (true_false (is_among named k) n (ap (is_among named) (is_one k j on) ∙ off))
    not_k j off (inr other) = other

    opened_so : (j : ℕ) → is_open (kept_at x j) ≡ true → Stays j old new x z
    opened_so j on = let s = a.opened j on in stays_then j old mid new x y z s (b.opened j (ap is_open s.kept_is ∙ on))

    pub walks_then : Walks opener e named old new x z
    walks_then = record {
      count = b.count ∙ a.count;
      even = b.even;
      are_kept = b.are_kept;
      source = λ j f. b.source j f ∙ a.source j f;
      name = λ j f. b.name j f ∙ a.name j f;
      polls = λ j f. polls_so j f (bool_cases (is_open (kept_at y j)));
      unnamed = λ j off. stays_then j old mid new x y z (a.unnamed j off) (b.unnamed j (not_k j off (bool_cases (is_among (k ∷ []) j))));
      opened = opened_so;
    }

    -- a file that has a row is open, and stays
    row_open : (q : KeptData) (row : ℕ) → HasRow q row → is_open q ≡ true
    row_open unopened row h = absurd h
    row_open skipped row h = absurd h
    row_open (flawed l) row h = absurd h
    row_open (ready l f) row h = refl

    row_so : (q : Place) → HasPlaceRow mid y q → HasPlaceRow new z q
    row_so q h =
        let s = b.opened q.file (row_open (kept_at y q.file) q.row h.1) in
        (let c = b.count in let l = h.0 in omega (arith, c, l), subst (λ (u : KeptData). HasRow u q.row) (sym s.kept_is) h.1)

    module _ (p : Place) (v : Walked (p ∷ []) mid new y z) where
      still_so : (j : ℕ) → is_open (kept_at z j) ≡ false → (is_open (kept_at y j) ≡ true) ⊎ (is_open (kept_at y j) ≡ false) → Stays j old new x z
      still_so j off (inl on) = absurd (true_false (is_open (kept_at z j)) (ap is_open (b.opened j on).kept_is ∙ on) off)
      still_so j off (inr was) = stays_then j old mid new x y z (w.still j was) (v.still j off)

      pub walked_then : Walked (done ++ p ∷ []) old new x z
      walked_then = record {
        still = λ j off. still_so j off (bool_cases (is_open (kept_at y j)));
        there = All-push (HasPlaceRow new z) done p (All-weaker (HasPlaceRow mid y) (HasPlaceRow new z) row_so done w.there)
            (All-head (HasPlaceRow new z) p [] v.there);
      }

  -- ---- what was told, as the openers were
  module _ (named : List ℕ) (old mid new : List (ScanFile O S)) (x y : List KeptData) (a : Walks opener e named old mid x y) where
    tells_before : (P : Given → Type 0) (k : ℕ) → TellsAt opener P k mid → TellsAt opener P k old
    tells_before P k h = (
      let c = a.count in let l = h.0 in omega (arith, c, l),
      λ f. told_back P (opener (get_or old k f).opener).gives (opener (get_or mid k f).opener).gives (a.polls k f).gives (h.1 f),
    )

    failed_before : (k : ℕ) (g : ScanFile O S) → OpenerFailed (opener (get_or mid k g).opener) (opener (get_or new k g).opener) → OpenerFailed (opener (get_or old k g).opener) (opener (get_or new k g).opener)
    failed_before k g h = (
      rose_before (opener (get_or old k g).opener).faults (opener (get_or mid k g).opener).faults (opener (get_or new k g).opener).faults (a.polls k g).faults h.0,
      sym (a.polls k g).can_fail ∙ h.1,
    )

    pub fails_before : (number : ℕ) (p : Place) (u : PlaceFault) → FailsPlace opener e number p mid new u → FailsPlace opener e number p old new u
    fails_before number p fault.NoMemory h = tt
    fails_before number p (fault.NoPlace n) h = (h.0, go h.1)
      where
        go : (length mid ≤ p.file) ⊎ TellsAt opener (LacksRow e.scope p.row) p.file mid → (length old ≤ p.file) ⊎ TellsAt opener (LacksRow e.scope p.row) p.file old
        go (inl le) = inl (let c = a.count in omega (arith, c, le))
        go (inr t) = inr (tells_before (LacksRow e.scope p.row) p.file t)
    fails_before number p (fault.Opener f) h = (h.0, (let c = a.count in let l = h.1 in omega (arith, c, l)), λ g. failed_before p.file g (h.2 g))
    fails_before number p (fault.DTypeMismatch f) h = (h.0, tells_before (IsOther e.scope) p.file h.1)
    fails_before number p (fault.Layout f l) h = (h.0, tells_before (IsIll e.scope l) p.file h.1)

    -- what is kept of a file with a row is what its opener gives
    given_row : (o : Option Given) (q : KeptData) (row : ℕ) (b : OpenerState) → b.gives ≡ o → IsKept e b q → HasRow q row → IfSome o (GivesRow e.scope row)
    given_row None q row b is k h = tt
    given_row (Some g) unopened row b is k h = absurd h
    given_row (Some g) skipped row b is k h = absurd h
    given_row (Some g) (flawed l) row b is k h = absurd h
    given_row (Some g) (ready l f) row b is k h =
        let given : g ≡ layout_of l = subst (λ (z : Option Given). IfSome z (λ i. i ≡ layout_of l)) is k.0 in
        subst (GivesRow e.scope row) (sym given) (k.1.2, h)

    pub told_row : (p : Place) → HasPlaceRow mid y p → TellsAt opener (GivesRow e.scope p.row) p.file old
    told_row p h = tells_before (GivesRow e.scope p.row) p.file (
      h.0,
      λ f. given_row (opener (get_or mid p.file f).opener).gives (kept_at y p.file) p.row (opener (get_or mid p.file f).opener) refl (a.are_kept p.file f h.0) h.1,
    )

    pub fails_places : (places : List Place) (number : ℕ) (p : Place) (u : PlaceFault) → slice_get places number ≡ Some p → Walked (take number places) old mid x y → FailsPlace opener e number p mid new u
        → FailsPlaces opener e places old new u
    fails_places places number p u there w h = record {
      number = number;
      place = p;
      listed = there;
      before = All-weaker (HasPlaceRow mid y) (λ (q : Place). TellsAt opener (GivesRow e.scope q.row) q.file old) told_row (take number places) w.there;
      cause = fails_before number p u h;
    }

  -- ---- why an opened file has no row, as far as its opener tells
  module _ (number : ℕ) (p : Place) (old new : List (ScanFile O S)) (kept kept' : List KeptData) (o : OpensAt opener e p.file old new kept kept') (lt : p.file < length old) where
    kept_so : (f : ScanFile O S) → IsKept e (opener (get_or new p.file f).opener) (kept_at kept' p.file)
    kept_so f = (o.opens f).kept_is

    from_kept : (P : Given → Type 0) (q : KeptData) → ((b : OpenerState) → IsKept e b q → IfSome b.gives P) → kept_at kept' p.file ≡ q → TellsAt opener P p.file old
    from_kept P q h is = (
      lt,
      λ f. told_back P (opener (get_or old p.file f).opener).gives (opener (get_or new p.file f).opener).gives (o.opens f).polls.gives
          (h (opener (get_or new p.file f).opener) (subst (IsKept e (opener (get_or new p.file f).opener)) is (kept_so f))),
    )

    if_given : (P : Given → Type 0) (x : Option Given) (g : Given) → IfSome x (λ i. i ≡ g) → P g → IfSome x P
    if_given P None g h q = tt
    if_given P (Some i) g h q = subst P (sym h) q

    row_fails : (q : KeptData) (u : PlaceFault) → kept_at kept' p.file ≡ q → FailsRow e.scope number p q u → FailsPlace opener e number p old new u
    row_fails skipped (fault.NoPlace n) is h = (h, inr (from_kept (LacksRow e.scope p.row) skipped (λ b k. if_given (LacksRow e.scope p.row) b.gives skip k tt) is))
    row_fails (ready l f) (fault.NoPlace n) is h = (h.0, inr (from_kept (LacksRow e.scope p.row) (ready l f) (λ b k. if_given (LacksRow e.scope p.row) b.gives (layout_of l) k.0 (k.1.2, h.1)) is))
    row_fails (flawed l) (fault.DTypeMismatch f) is h = (h.0, from_kept (IsOther e.scope) (flawed l) (λ b k. if_given (IsOther e.scope) b.gives (layout_of l) k.0 h.1) is)
    row_fails (flawed l) (fault.Layout f y) is h = (h.0, from_kept (IsIll e.scope y) (flawed l) (λ b k. if_given (IsIll e.scope y) b.gives (layout_of l) k.0 (h.1, h.2)) is)
    row_fails unopened fault.NoMemory is h = absurd h
    row_fails unopened (fault.NoPlace n) is h = absurd h
    row_fails unopened (fault.Opener f) is h = absurd h
    row_fails unopened (fault.DTypeMismatch f) is h = absurd h
    row_fails unopened (fault.Layout f y) is h = absurd h
    row_fails skipped fault.NoMemory is h = absurd h
    row_fails skipped (fault.Opener f) is h = absurd h
    row_fails skipped (fault.DTypeMismatch f) is h = absurd h
    row_fails skipped (fault.Layout f y) is h = absurd h
    row_fails (flawed l) fault.NoMemory is h = absurd h
    row_fails (flawed l) (fault.NoPlace n) is h = absurd h
    row_fails (flawed l) (fault.Opener f) is h = absurd h
    row_fails (ready l f) fault.NoMemory is h = absurd h
    row_fails (ready l f) (fault.Opener g) is h = absurd h
    row_fails (ready l f) (fault.DTypeMismatch g) is h = absurd h
    row_fails (ready l f) (fault.Layout g y) is h = absurd h

    pub place_fails : (u : PlaceFault) → FailsRow e.scope number p (kept_at kept' p.file) u → FailsPlace opener e number p old new u
    place_fails u h = row_fails (kept_at kept' p.file) u refl h

    pub opening_fails : (u : PlaceFault) → FailsAt opener p.file old new u → FailsPlace opener e number p old new u
    opening_fails fault.NoMemory h = tt
    opening_fails (fault.NoPlace n) h = absurd h
    opening_fails (fault.Opener f) h = (h.0, lt, h.1)
    opening_fails (fault.DTypeMismatch f) h = absurd h
    opening_fails (fault.Layout f y) h = absurd h

-- ---- what is kept after polls of an opener
pub kept_after : (e : Bound) (a b : OpenerState) (k : KeptData) → b.gives ≡ a.gives → IsKept e a k → IsKept e b k
kept_after e a b unopened same h = tt
kept_after e a b skipped same h = subst (λ (o : Option Given). IfSome o (λ g. g ≡ skip)) (sym same) h
kept_after e a b (flawed l) same h = (subst (λ (o : Option Given). IfSome o (λ g. g ≡ layout_of l)) (sym same) h.0, h.1)
kept_after e a b (ready l f) same h = (subst (λ (o : Option Given). IfSome o (λ g. g ≡ layout_of l)) (sym same) h.0, h.1)

not_open : (b : Bool) {X : Type 0} → b ≡ true → b ≡ false → X
not_open b on off = absurd (true_false b on off)

module _ {O : Type 0} (opener : O → OpenerState) (e : Bound) (old new : O) (kept : KeptData) where
  -- it was open
  pub opens_none : IsKept e (opener old) kept → OpensOne opener e old old kept kept
  opens_none h = record { polls = polled_self (opener old); kept_is = h; still = λ on. (refl, refl) }

  -- it is polled to its end
  pub opens_polled : (kept' : KeptData) → is_open kept ≡ false → IsPolledThrough (opener old) (opener new) → IsKept e (opener old) kept' → OpensOne opener e old new kept kept'
  opens_polled kept' off p h = record { polls = p; kept_is = kept_after e (opener old) (opener new) kept' p.gives h; still = λ on. not_open (is_open kept) on off }

pub is_opened : (k : KeptData) → k ≢ unopened → is_open k ≡ true
is_opened unopened n = absurd (n refl)
is_opened skipped n = refl
is_opened (flawed l) n = refl
is_opened (ready l e) n = refl

pub not_unopened : (k : KeptData) → is_open k ≡ true → k ≢ unopened
not_unopened unopened on is = true_false false on refl
not_unopened skipped on is = true_false (is_open skipped) refl (ap is_open is)
not_unopened (flawed l) on is = true_false (is_open (flawed l)) refl (ap is_open is)
not_unopened (ready l e) on is = true_false (is_open (ready l e)) refl (ap is_open is)

-- ---- one file of a list
pub open_set : {T E : Type 0} (r : Result T E) (kept : List KeptData) (k : ℕ) (q : KeptData) → k < length kept → OnOk r (is_open q ≡ true) → OnOk r (is_open (kept_at (set kept k q) k) ≡ true)
open_set (Ok x) kept k q lt h = ap is_open (get_or-set_same kept k q unopened lt) ∙ h
open_set (Err x) kept k q lt h = tt

module _ {O S : Type 0} (opener : O → OpenerState) where
  pub kept_here : (e : Bound) (files : List (ScanFile O S)) (kept : List KeptData) (k : ℕ) (x : ScanFile O S) (p : KeptData) → k < length files → k < length kept → x ≡ get_or files k x → p ≡ get_or kept k p
      → AreKept opener e files kept → IsKept e (opener x.opener) p
  kept_here e files kept k x p lt plt is kis h =
      subst (λ (q : KeptData). IsKept e (opener x.opener) q) (sym (kis ∙ get_or_default kept k p unopened plt))
      (subst (λ (z : ScanFile O S). IsKept e (opener z.opener) (kept_at kept k)) (sym is) (h k x lt))

  fails_one : (files : List (ScanFile O S)) (k : ℕ) (x y : ScanFile O S) → k < length files → x ≡ get_or files k x → (u : PlaceFault) → FailsOpening k (opener x.opener) (opener y.opener) u → FailsAt opener k files (set files k y) u
  fails_one files k x y lt is fault.NoMemory h = tt
  fails_one files k x y lt is (fault.Opener f) h = (
    h.0,
    λ g. subst (λ (z : ScanFile O S). OpenerFailed (opener z.opener) (opener (get_or (set files k y) k g).opener)) (is ∙ get_or_default files k x g lt)
        (subst (λ (z : ScanFile O S). OpenerFailed (opener x.opener) (opener z.opener)) (sym (get_or-set_same files k y g lt)) h.1),
  )
  fails_one files k x y lt is (fault.NoPlace n) h = absurd h
  fails_one files k x y lt is (fault.DTypeMismatch f) h = absurd h
  fails_one files k x y lt is (fault.Layout f l) h = absurd h

  pub fails_set : {T : Type 0} (r : Result T PlaceFault) (files : List (ScanFile O S)) (k : ℕ) (x y : ScanFile O S) → k < length files → x ≡ get_or files k x → IfErr r (FailsOpening k (opener x.opener) (opener y.opener))
      → IfErr r (FailsAt opener k files (set files k y))
  fails_set (Ok z) files k x y lt is h = tt
  fails_set (Err u) files k x y lt is h = fails_one files k x y lt is u h

-- ---- what an opened file has at a row
pub row_there : (d : DataType) (row : ℕ) (k : KeptData) → RowIs d row k standing.There → HasRow k row
row_there d row unopened h = absurd h
row_there d row skipped h = absurd h
row_there d row (flawed l) h = absurd h
row_there d row (ready l e) h = h

pub row_missing : (d : DataType) (number : ℕ) (p : Place) (k : KeptData) → RowIs d p.row k standing.Missing → FailsRow d number p k (fault.NoPlace number)
row_missing d number p unopened h = absurd h
row_missing d number p skipped h = refl
row_missing d number p (flawed l) h = absurd h
row_missing d number p (ready l e) h = (refl, h)

pub row_other : (d : DataType) (number : ℕ) (p : Place) (k : KeptData) → RowIs d p.row k standing.OtherDType → FailsRow d number p k (fault.DTypeMismatch p.file)
row_other d number p unopened h = absurd h
row_other d number p skipped h = absurd h
row_other d number p (flawed l) h = (refl, h)
row_other d number p (ready l e) h = absurd h

pub row_ill : (d : DataType) (number : ℕ) (p : Place) (k : KeptData) (x : LayoutFault) → RowIs d p.row k (standing.IllFormed x) → FailsRow d number p k (fault.Layout p.file x)
row_ill d number p unopened x h = absurd h
row_ill d number p skipped x h = absurd h
row_ill d number p (flawed l) x h = (refl, h.0, h.1)
row_ill d number p (ready l e) x h = absurd h

-- a kept layout that is not read has a fault under the expression's dtype
pub flawed_kept : (e : Bound) (o : OpenerState) (k : KeptData) → IsKept e o k → IsFlawed e.scope k
flawed_kept e o unopened h = tt
flawed_kept e o skipped h = tt
flawed_kept e o (flawed l) h = h.1.1
flawed_kept e o (ready l f) h = tt

-- a file of a list
pub one_file : {O S : Type 0} (files : List (ScanFile O S)) (k : ℕ) → k < length files → ScanFile O S
one_file [] k lt = absurd (omega (arith, lt))
one_file (f ∷ files) k lt = f

pub on_ok : {T E : Type 0} {P Q : Type 0} (r : Result T E) → (P → Q) → OnOk r P → OnOk r Q
on_ok (Ok x) f p = f p
on_ok (Err x) f p = tt

pub on_err : {T : Type 0} {P Q : PlaceFault → Type 0} (r : Result T PlaceFault) → ((u : PlaceFault) → P u → Q u) → IfErr r P → IfErr r Q
on_err (Ok x) f p = tt
on_err (Err u) f p = f u p

pub index_kept : (kept : List KeptData) (k : ℕ) (x : KeptData) → k < length kept → x ≡ get_or kept k x → x ≡ kept_at kept k
index_kept kept k x lt is = is ∙ get_or_default kept k x unopened lt

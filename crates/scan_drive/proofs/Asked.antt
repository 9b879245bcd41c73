-- The splits that wait for other segments now want them, one split after the other.
use Rattle.std.proofs.Common.{◌≡◌, ◌≢◌, ℕ, ◌<◌, ◌≤◌, List, [], ◌∷◌, length, set, get_or, Bool, true, false, not, ◌||◌, eqb, Some, inl, inr, refl, sym, ap, ◌∙◌, subst, arith, length-set, get_or-set_same, get_or-set_other}
use Rattle.std.specs.Prelude.{◌⊎◌}
use Rattle.std.proofs.lemmas.Bool.{cases_eq}
use Rattle.std.proofs.lemmas.Bool.Decides.{nat_tests}
use Rattle.std.proofs.lemmas.List.{get_or_default, get_or_past}
use Rattle.scan_values.specs.Selections.{is_among}
use Rattle.scan_segments.specs.Source.{SourceState, Store}
use Rattle.scan_splits.specs.Arrivals.{Arrivals}
use Rattle.scan_splits.specs.Wanted.{no_repeats}
use Rattle.scan_drive.specs.Asks.{LinkedBut, EachLinkedBut, WaitsThere}
use Rattle.scan_drive.specs.Desks.{Waiters, waits}
use Rattle.scan_drive.specs.Drives.{desk_at, SourcesMove, SlotsKeep}
use Rattle.scan_drive.specs.Files.{Part}
use Rattle.scan_drive.specs.Measures.{is_there, Advances, EachAdvances}
use Rattle.scan_drive.specs.Slots.{slot_at, nothing, is_reading, stage_waits, MayTake, SlotKeeps}
use Rattle.scan_drive.specs.Splits.{SplitState, Event}
use Rattle.scan_drive.specs.Trades.{Trusts, CacheAgrees}
use Rattle.scan_drive.specs.Wants.{Cache}
use Rattle.scan_drive.specs.declared.files.ScanFile.{ScanFile}
use Rattle.scan_drive.specs.declared.slot.Slot.{Slot}
use Rattle.scan_drive.specs.declared.slot.Stage.{Stage}
use Rattle.scan_drive.specs.declared.slot.Stage.TheVariants as stage
use Rattle.scan_drive.proofs.Handing.{le_or_lt, and_both, not_true, among_later, at_set, at_set_same, at_set_other}
use Rattle.scan_drive.proofs.Keeping.{keeps_then}
use Rattle.scan_drive.proofs.Nearing.{advances_then}

-- the first of a list without repeats is not among the others
pub not_later : (place : ℕ) (rest : List ℕ) → no_repeats (place ∷ rest) ≡ true → (q : ℕ) → is_among rest q ≡ true → q ≢ place
not_later place rest o q m e =
    let parts = and_both (not (is_among rest place)) (no_repeats rest) o in
    let bad = sym m ∙ ap (is_among rest) e ∙ not_true (is_among rest place) parts.0 in
    absurd cc

pub once_later : (place : ℕ) (rest : List ℕ) → no_repeats (place ∷ rest) ≡ true → no_repeats rest ≡ true
once_later place rest o = (and_both (not (is_among rest place)) (no_repeats rest) o).1

module _ {W R : Type 0} where
  -- a slot with a split that is read is there
  pub reading_within : (slots : List (Slot W R)) (place : ℕ) → is_reading (slot_at slots place).stage ≡ true → place < length slots
  reading_within slots place h = go (le_or_lt (length slots) place)
    where
      go : (length slots ≤ place) ⊎ (place < length slots) → place < length slots
      go (inr lt) = lt
      go (inl le) = let past : slot_at slots place ≡ nothing = get_or_past slots place nothing le in let bad = sym (ap (λ (s : Slot W R). is_reading s.stage) past) ∙ h in absurd cc

  pub reading_there : (x : Stage W R) → is_reading x ≡ true → is_there x ≡ true
  reading_there stage.Empty h = h
  reading_there (stage.Reads r) h = refl
  reading_there (stage.Read rows) h = refl
  reading_there (stage.Halted r k) h = refl

  -- nobody waits at the place of a split that wants other segments now
  pub but_new : (asking : List ℕ) (desks : List Waiters) (slots : List (Slot W R)) (k : ℕ) (d : Waiters) (place : ℕ) → EachLinkedBut asking desks slots → k < length desks → d ≡ get_or desks k d → is_among asking place ≡ true → (id : ℕ) → waits d id place ≡ false
  but_new asking desks slots k d place l lt e m id = ap (λ (w : Waiters). waits w id place) (e ∙ get_or_default desks k d [] lt) ∙ (l k lt).none id place m

  -- the wants of a split wait at the desk of its file now
  pub but_set : (place : ℕ) (rest : List ℕ) (desks : List Waiters) (slots : List (Slot W R)) (k : ℕ) (d e : Waiters) (s : Slot W R) → EachLinkedBut (place ∷ rest) desks slots → no_repeats (place ∷ rest) ≡ true → k < length desks → d ≡ get_or desks k d → place < length slots →
      k ≡ (slot_at slots place).file → s.file ≡ (slot_at slots place).file → WaitsThere place s d e → EachLinkedBut rest (set desks k e) (set slots place s)
  but_set place rest desks slots k d e s l once lt at plt file same w j jl = go (cases_eq j k)
    where
      new : List (Slot W R)
      new = set slots place s

      here : slot_at new place ≡ s
      here = at_set_same slots place s plt

      old : LinkedBut (place ∷ rest) k d slots
      old = subst (λ (x : Waiters). LinkedBut (place ∷ rest) k x slots) (sym (at ∙ get_or_default desks k d [] lt)) (l k lt)

      off : (q : ℕ) → q ≢ place → is_among rest q ≡ false → is_among (place ∷ rest) q ≡ false
      off q n m = go (eqb place q) refl
        where
          go : (b : Bool) → eqb place q ≡ b → (eqb place q || is_among rest q) ≡ false
          go true i = let is : q ≡ place = grind (arith, nat_tests) in absurd (n is)
          go false i = ap (λ b. b || is_among rest q) i ∙ m

      this : LinkedBut rest k e new
      this = record {
        file_is = λ id q v. file_is id q v (cases_eq q place);
        takes = λ id q v. takes id q v (cases_eq q place);
        live = λ id q f m v. live id q f m v (cases_eq q place);
        none = λ id q m. w.others id q (not_later place rest once q m) ∙ old.none id q (among_later place q rest m);
      }
        where
          file_is : (id q : ℕ) → waits e id q ≡ true → (q ≡ place) ⊎ (q ≢ place) → (slot_at new q).file ≡ k
          file_is id q v (inl is) = ap (λ i. (slot_at new i).file) is ∙ ap (λ (x : Slot W R). x.file) here ∙ same ∙ sym file
          file_is id q v (inr n) = ap (λ (x : Slot W R). x.file) (at_set_other slots place q s n) ∙ old.file_is id q (sym (w.others id q n) ∙ v)

          takes : (id q : ℕ) → waits e id q ≡ true → (q ≡ place) ⊎ (q ≢ place) → MayTake id (slot_at new q)
          takes id q v (inl is) = subst (λ i. MayTake id (slot_at new i)) (sym is) (subst (MayTake id) (sym here) (λ h. sym (w.here id) ∙ sym (ap (waits e id) is) ∙ v))
          takes id q v (inr n) = subst (MayTake id) (sym (at_set_other slots place q s n)) (old.takes id q (sym (w.others id q n) ∙ v))

          live : (id q : ℕ) → (slot_at new q).file ≡ k → is_among rest q ≡ false → stage_waits (slot_at new q).stage id ≡ true → (q ≡ place) ⊎ (q ≢ place) → waits e id q ≡ true
          live id q f m v (inl is) = ap (waits e id) is ∙ w.here id ∙ sym (ap (λ (x : Slot W R). stage_waits x.stage id) here) ∙ sym (ap (λ i. stage_waits (slot_at new i).stage id) is) ∙ v
          live id q f m v (inr n) =
              let x = at_set_other slots place q s n in
              w.others id q n ∙ old.live id q (sym (ap (λ (y : Slot W R). y.file) x) ∙ f) (off q n m) (sym (ap (λ (y : Slot W R). stage_waits y.stage id) x) ∙ v)

      other : j ≢ k → j < length desks → LinkedBut rest j (desk_at desks j) new
      other n jlt = record {
        file_is = λ id q v. let x = apart id q v in ap (λ (y : Slot W R). y.file) (at_set_other slots place q s x) ∙ b.file_is id q v;
        takes = λ id q v. subst (MayTake id) (sym (at_set_other slots place q s (apart id q v))) (b.takes id q v);
        live = λ id q f m v. live id q f m v (cases_eq q place);
        none = λ id q m. b.none id q (among_later place q rest m);
      }
        where
          b : LinkedBut (place ∷ rest) j (desk_at desks j) slots
          b = l j jlt

          apart : (id q : ℕ) → waits (desk_at desks j) id q ≡ true → q ≢ place
          apart id q v is = n (sym (b.file_is id q v) ∙ ap (λ i. (slot_at slots i).file) is ∙ sym file)

          live : (id q : ℕ) → (slot_at new q).file ≡ j → is_among rest q ≡ false → stage_waits (slot_at new q).stage id ≡ true → (q ≡ place) ⊎ (q ≢ place) → waits (desk_at desks j) id q ≡ true
          live id q f m v (inl is) = absurd (n (sym f ∙ ap (λ i. (slot_at new i).file) is ∙ ap (λ (x : Slot W R). x.file) here ∙ same ∙ sym file))
          live id q f m v (inr ne) =
              let x = at_set_other slots place q s ne in
              b.live id q (sym (ap (λ (y : Slot W R). y.file) x) ∙ f) (off q ne m) (sym (ap (λ (y : Slot W R). stage_waits y.stage id) x) ∙ v)

      go : (j ≡ k) ⊎ (j ≢ k) → LinkedBut rest j (desk_at (set desks k e) j) new
      go (inl is) = subst (λ i. LinkedBut rest i (desk_at (set desks k e) i) new) (sym is) (subst (λ (x : Waiters). LinkedBut rest k x new) (sym (get_or-set_same desks k e [] lt)) this)
      go (inr n) = let jlt : j < length desks = (let m = length-set desks k e in omega (arith, jl, m)) in subst (λ (x : Waiters). LinkedBut rest j x new) (sym (get_or-set_other desks k j e [] n)) (other n jlt)

  -- what is still to be asked for is as it was
  pub record Remains (rest all : List ℕ) (old now : List (Slot W R)) : Type 0 where
    pub once : no_repeats rest ≡ true
    pub among : (place : ℕ) → is_among rest place ≡ true → is_among all place ≡ true
    pub same : (place : ℕ) → is_among rest place ≡ true → slot_at now place ≡ slot_at old place

  pub remains_next : (place : ℕ) (rest all : List ℕ) (old now : List (Slot W R)) (s : Slot W R) → Remains (place ∷ rest) all old now → Remains rest all old (set now place s)
  remains_next place rest all old now s r = record {
    once = once_later place rest r.once;
    among = λ p m. r.among p (among_later place p rest m);
    same = λ p m. at_set_other now place p s (not_later place rest r.once p m) ∙ r.same p (among_later place p rest m);
  }

module _ {W I R : Type 0} (split : W → SplitState I) where
  -- one slot has moved
  pub all_set : (old now : List (Slot W R)) (place : ℕ) (s : Slot W R) → EachAdvances split old now → place < length now → Advances split (slot_at now place) s → EachAdvances split old (set now place s)
  all_set old now place s a lt h = record {
    len = length-set now place s ∙ a.len;
    at = at_set (λ q x. Advances split (slot_at old q) x) now place s lt (advances_then split (slot_at old place) (slot_at now place) s (a.at place) h) (λ q n. a.at q);
  }

module _ {O S W I R : Type 0} (source : S → SourceState) (split : W → SplitState I) (comes : W → Arrivals → Store → Event → Type 0) (items : R → List I) where
  -- one slot has moved, as far as the store of its file is told
  pub kept_set : (files now : List (ScanFile O S)) (May : ℕ → ℕ → Type 0) (before slots : List (Slot W R)) (place : ℕ) (s : Slot W R) (x : ScanFile O S) (c : Cache) → SourcesMove source May files now
      → SlotsKeep source split comes items files before slots → EachAdvances split before slots → place < length slots →
      x ≡ get_or now (slot_at slots place).file x → (slot_at slots place).file < length now → CacheAgrees source now c →
      ((p : Part I) (store : Store) → (source x.source).holds ≡ Some store → Trusts x.source_id store c → SlotKeeps split comes items p store (slot_at slots place) s) → SlotsKeep source split comes items files before (set slots place s)
  kept_set files now May before slots place s x c m h a lt e klt agrees k f p store q told =
      at_set (λ i y. (source (get_or files (slot_at before i).file f).source).holds ≡ Some store → SlotKeeps split comes items p store (slot_at before i) y) slots place s lt here (λ i n t. h f p store i t) q told
    where
      here : (source (get_or files (slot_at before place).file f).source).holds ≡ Some store → SlotKeeps split comes items p store (slot_at before place) s
      here t =
          let file : (slot_at slots place).file ≡ (slot_at before place).file = (a.at place).file_is in
          let at : x ≡ get_or now (slot_at slots place).file f = e ∙ get_or_default now (slot_at slots place).file x f klt in
          let holds : (source x.source).holds ≡ Some store = ap (λ (z : ScanFile O S). (source z.source).holds) at ∙ ap (λ j. (source (get_or now j f).source).holds) file ∙ (m.moves (slot_at before place).file f).holds ∙ t in
          let trust : Trusts x.source_id store c = subst (λ (z : ScanFile O S). Trusts z.source_id store c) (sym at) (agrees.trusts (slot_at slots place).file f store klt (sym (ap (λ (z : ScanFile O S). (source z.source).holds) at) ∙ holds)) in
          keeps_then split comes items p store (slot_at before place) (slot_at slots place) s (h f p store place t) (k p store holds trust)

-- Steps of a round over all files: the desks agree with the sources, and the links stay.
use Rattle.std.proofs.Common.{◌≡◌, ◌≢◌, ℕ, ◌+◌, ◌<◌, List, [], ◌∷◌, length, get_or, set, Bool, true, false, ◌||◌, eqb, inl, inr, refl, sym, ap, ◌∙◌, subst, arith, length-set, get_or-set_same, get_or-set_other}
use Rattle.std.specs.Prelude.{◌⊎◌, is_some}
use Rattle.std.proofs.lemmas.Bool.{cases_eq}
use Rattle.std.proofs.lemmas.Bool.Decides.{nat_tests}
use Rattle.std.proofs.lemmas.List.{get_or_default}
use Rattle.scan_values.specs.Selections.{is_among}
use Rattle.scan_segments.specs.Source.{SourceState, Store, none_live}
use Rattle.scan_splits.specs.Arrivals.{Arrivals}
use Rattle.scan_drive.specs.Desks.{Waiters, Agree}
use Rattle.scan_drive.specs.Drives.{desk_at, EachLinked, DesksAgree, IsIdle, SourcesMove, NoneOf, SlotsKeep}
use Rattle.scan_drive.specs.Links.{Linked, OfFile, KeepsTold}
use Rattle.scan_drive.specs.Slots.{slot_at, is_fresh, HasFresh, SlotKeeps}
use Rattle.scan_drive.specs.Sources.{SourceMoves}
use Rattle.scan_drive.specs.Splits.{SplitState, Event}
use Rattle.scan_drive.specs.declared.files.ScanFile.{ScanFile}
use Rattle.scan_drive.specs.declared.slot.Slot.{Slot}
use Rattle.scan_drive.proofs.Asking.{moves_self, moves_then}
use Rattle.scan_drive.proofs.Keeping.{keeps_refl, keeps_then}
use Rattle.scan_drive.proofs.Linking.{linked_other}

-- no request and a desk without any
pub none_agree : (live : ℕ → Bool) (d : Waiters) → live ≡ none_live → d ≡ [] → Agree live d
none_agree live d e f id = ap (λ (l : ℕ → Bool). l id) e ∙ sym (ap (λ (w : Waiters). is_some (Rattle.scan_drive.specs.Desks.waiters_at w id)) f)

module _ {O S : Type 0} (source : S → SourceState) where
  -- the source of a file agrees with its desk
  pub agree_at : (files : List (ScanFile O S)) (desks : List Waiters) (i : ℕ) (x : ScanFile O S) (d : Waiters) → DesksAgree source files desks → i < length files → x ≡ get_or files i x → d ≡ get_or desks i d → Agree (source x.source).live d
  agree_at files desks i x d a lt e f =
      let n : length desks ≡ length files = a.len in
      let at : d ≡ desk_at desks i = f ∙ get_or_default desks i d [] (omega (arith, n, lt)) in
      subst (λ (w : Waiters). Agree (source x.source).live w) (sym at) (subst (λ (z : ScanFile O S). Agree (source z.source).live (desk_at desks i)) (sym e) (a.at i x lt))

  pub agree_set : (files : List (ScanFile O S)) (desks : List Waiters) (i : ℕ) (y : ScanFile O S) (d : Waiters) → DesksAgree source files desks → i < length files → Agree (source y.source).live d → DesksAgree source (set files i y) (set desks i d)
  agree_set files desks i y d a lt h = record {
    len = length-set desks i d ∙ a.len ∙ sym (length-set files i y);
    at = λ k f l. go k f (let m = length-set files i y in omega arith) (cases_eq k i);
  }
    where
      dlt : i < length desks
      dlt = let n : length desks ≡ length files = a.len in omega arith

      go : (k : ℕ) (f : ScanFile O S) → k < length files → (k ≡ i) ⊎ (k ≢ i) → Agree (source (get_or (set files i y) k f).source).live (desk_at (set desks i d) k)
      go k f l (inl is) =
          let here : Agree (source (get_or (set files i y) i f).source).live (desk_at (set desks i d) i) = subst (λ (z : ScanFile O S). Agree (source z.source).live (desk_at (set desks i d) i)) (sym (get_or-set_same files i y f lt))
          (subst (λ (w : Waiters). Agree (source y.source).live w) (sym (get_or-set_same desks i d [] dlt)) h) in
          subst (λ j. Agree (source (get_or (set files i y) j f).source).live (desk_at (set desks i d) j)) (sym is) here
      go k f l (inr other) = subst (λ (z : ScanFile O S). Agree (source z.source).live (desk_at (set desks i d) k)) (sym (get_or-set_other files i k y f other))
          (subst (λ (w : Waiters). Agree (source (get_or files k f).source).live w) (sym (get_or-set_other desks i k d [] other)) (a.at k f l))

  pub sources_self : (May : ℕ → ℕ → Type 0) (files : List (ScanFile O S)) → SourcesMove source May files files
  sources_self May files = record { len = refl; opener = λ k f. refl; name = λ k f. refl; moves = λ k f. moves_self (May k) (source (get_or files k f).source) }

  pub sources_moved : (May : ℕ → ℕ → Type 0) (old now : List (ScanFile O S)) (i : ℕ) (x y : ScanFile O S) → SourcesMove source May old now → i < length now → x ≡ get_or now i x → y.opener ≡ x.opener → y.source_id ≡ x.source_id →
      SourceMoves (May i) (source x.source) (source y.source) →
      SourcesMove source May old (set now i y)
  sources_moved May old now i x y m lt e o s h = record {
    len = length-set now i y ∙ m.len;
    opener = λ k f. opener k f (cases_eq k i);
    name = λ k f. name k f (cases_eq k i);
    moves = λ k f. moves k f (cases_eq k i);
  }
    where
      at : (f : ScanFile O S) → x ≡ get_or now i f
      at f = e ∙ get_or_default now i x f lt

      opener : (k : ℕ) (f : ScanFile O S) → (k ≡ i) ⊎ (k ≢ i) → (get_or (set now i y) k f).opener ≡ (get_or old k f).opener
      opener k f (inl is) = ap (λ j. (get_or (set now i y) j f).opener) is ∙ ap (λ (z : ScanFile O S). z.opener) (get_or-set_same now i y f lt) ∙ o ∙ ap (λ (z : ScanFile O S). z.opener) (at f) ∙ m.opener i f ∙ sym (ap (λ j. (get_or old j f).opener) is)
      opener k f (inr other) = ap (λ (z : ScanFile O S). z.opener) (get_or-set_other now i k y f other) ∙ m.opener k f

      name : (k : ℕ) (f : ScanFile O S) → (k ≡ i) ⊎ (k ≢ i) → (get_or (set now i y) k f).source_id ≡ (get_or old k f).source_id
      name k f (inl is) = ap (λ j. (get_or (set now i y) j f).source_id) is ∙ ap (λ (z : ScanFile O S). z.source_id) (get_or-set_same now i y f lt) ∙ s ∙ ap (λ (z : ScanFile O S). z.source_id) (at f) ∙ m.name i f ∙ sym (ap (λ j. (get_or old j f).source_id) is)
      name k f (inr other) = ap (λ (z : ScanFile O S). z.source_id) (get_or-set_other now i k y f other) ∙ m.name k f

      moves : (k : ℕ) (f : ScanFile O S) → (k ≡ i) ⊎ (k ≢ i) → SourceMoves (May k) (source (get_or old k f).source) (source (get_or (set now i y) k f).source)
      moves k f (inl is) =
          let mid : SourceMoves (May i) (source (get_or now i f).source) (source y.source) = subst (λ (z : ScanFile O S). SourceMoves (May i) (source z.source) (source y.source)) (at f) h in
          let all = moves_then (May i) (source (get_or old i f).source) (source (get_or now i f).source) (source y.source) (m.moves i f) mid in
          subst (λ j. SourceMoves (May j) (source (get_or old j f).source) (source (get_or (set now i y) j f).source)) (sym is) (subst (λ (z : ScanFile O S). SourceMoves (May i) (source (get_or old i f).source) (source z.source)) (sym (get_or-set_same now i y f lt)) all)
      moves k f (inr other) = subst (λ (z : ScanFile O S). SourceMoves (May k) (source (get_or old k f).source) (source z.source)) (sym (get_or-set_other now i k y f other)) (m.moves k f)

  -- one file more is idle
  pub idle_set : (now : List (ScanFile O S)) (i : ℕ) (y : ScanFile O S) → i < length now → ((k : ℕ) (f : ScanFile O S) → k < i → IsIdle source (get_or now k f)) → (source y.source).live ≡ none_live → (k : ℕ) (f : ScanFile O S) → k < i + 1 →
      IsIdle source (get_or (set now i y) k f)
  idle_set now i y lt h e k f l = go (cases_eq k i)
    where
      go : (k ≡ i) ⊎ (k ≢ i) → IsIdle source (get_or (set now i y) k f)
      go (inl is) = ap (λ j. (source (get_or (set now i y) j f).source).live) is ∙ ap (λ (z : ScanFile O S). (source z.source).live) (get_or-set_same now i y f lt) ∙ e
      go (inr other) = ap (λ (z : ScanFile O S). (source z.source).live) (get_or-set_other now i k y f other) ∙ h k f (omega arith)

module _ {W R : Type 0} where
  -- one file's desk and slots have moved
  pub linked_set : (desks : List Waiters) (i : ℕ) (d : Waiters) (old new : List (Slot W R)) → EachLinked desks old → i < length desks → Linked i d new → OfFile i old new → EachLinked (set desks i d) new
  linked_set desks i d old new l lt h o k kl = go (cases_eq k i)
    where
      go : (k ≡ i) ⊎ (k ≢ i) → Linked k (desk_at (set desks i d) k) new
      go (inl is) = subst (λ j. Linked j (desk_at (set desks i d) j) new) (sym is) (subst (λ (w : Waiters). Linked i w new) (sym (get_or-set_same desks i d [] lt)) h)
      go (inr other) =
          let in_list : k < length desks = (let m = length-set desks i d in omega arith) in
          subst (λ (w : Waiters). Linked k w new) (sym (get_or-set_other desks i k d [] other)) (linked_other k i (desk_at desks k) old new other o (l k in_list))

  pub linked_at : (desks : List Waiters) (i : ℕ) (d : Waiters) (slots : List (Slot W R)) → EachLinked desks slots → i < length desks → d ≡ get_or desks i d → Linked i d slots
  linked_at desks i d slots l lt e = subst (λ (w : Waiters). Linked i w slots) (sym (e ∙ get_or_default desks i d [] lt)) (l i lt)

  -- a place whose split waits for something now is off the list
  pub fresh_popped : (old new : List (Slot W R)) (place : ℕ) (places rest : List ℕ) → places ≡ place ∷ rest → HasFresh old places → ((q : ℕ) → q ≢ place → slot_at new q ≡ slot_at old q) → is_fresh (slot_at new place).stage ≡ false → HasFresh new rest
  fresh_popped old new place places rest e h others off q f = go (eqb place q) refl
    where
      go : (b : Bool) → eqb place q ≡ b → is_among rest q ≡ true
      go true i = let same : place ≡ q = grind (arith, nat_tests) in let bad = sym off ∙ ap (λ k. is_fresh (slot_at new k).stage) same ∙ f in absurd cc
      go false i =
          let other : q ≢ place = λ s. (let on : eqb place q ≡ true = grind (arith, nat_tests) in let bad = sym i ∙ on in absurd cc) in
          let there = h q (sym (ap (λ (x : Slot W R). is_fresh x.stage) (others q other)) ∙ f) in
          sym (ap (λ b. b || is_among rest q) i) ∙ sym (ap (λ (xs : List ℕ). is_among xs q) e) ∙ there

module _ {O S W I R : Type 0} (source : S → SourceState) (split : W → SplitState I) (comes : W → Arrivals → Store → Event → Type 0) (items : R → List I) where
  -- the slots of one file have moved
  pub slots_kept : (old now : List (ScanFile O S)) (before slots next : List (Slot W R)) (k : ℕ) (x : ScanFile O S) → SourcesMove source NoneOf old now → SlotsKeep source split comes items old before slots → k < length now → x ≡ get_or now k x →
      KeepsTold split comes items (source x.source).holds slots next → OfFile k slots next → SlotsKeep source split comes items old before next
  slots_kept old now before slots next k x m h lt e t o g p store place told = keeps_then split comes items p store (slot_at before place) (slot_at slots place) (slot_at next place) first (go (cases_eq (slot_at slots place).file k))
    where
      first : SlotKeeps split comes items p store (slot_at before place) (slot_at slots place)
      first = h g p store place told

      go : ((slot_at slots place).file ≡ k) ⊎ ((slot_at slots place).file ≢ k) → SlotKeeps split comes items p store (slot_at slots place) (slot_at next place)
      go (inl is) =
          let at : x ≡ get_or now k g = e ∙ get_or_default now k x g lt in
          let same : k ≡ (slot_at before place).file = sym is ∙ first.file_is in
          let holds = ap (λ (z : ScanFile O S). (source z.source).holds) at ∙ (m.moves k g).holds ∙ ap (λ j. (source (get_or old j g).source).holds) same ∙ told in
          (t p store holds).at place
      go (inr other) = subst (λ (s : Slot W R). SlotKeeps split comes items p store (slot_at slots place) s) (sym (o.others place other)) (keeps_refl split comes items p store (slot_at slots place))

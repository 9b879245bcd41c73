-- Files move, and tell the same.
use Rattle.std.proofs.Common.{◌≡◌, ◌≢◌, ℕ, suc, zero, ◌+◌, ◌<◌, ◌≤◌, List, [], ◌∷◌, ◌++◌, length, get_or, set, Option, inl, inr, refl, sym, ap, ◌∙◌, subst, arith, length-set, get_or-set_same, get_or-set_other}
use Rattle.std.specs.Prelude.{◌⊎◌}
use Rattle.std.proofs.lemmas.Bool.{cases_eq}
use Rattle.std.proofs.lemmas.List.{get_or_default}
use Rattle.std.proofs.lemmas.List.Sums.{sum_by-set}
use Rattle.scan_segments.specs.Source.{SourceState, Store}
use Rattle.scan_splits.specs.Arrivals.{Arrivals}
use Rattle.scan_drive.specs.Drives.{SourcesMove}
use Rattle.scan_drive.specs.Files.{Part, Group, Told, told_at, untold, AllTell}
use Rattle.scan_drive.specs.Moves.{IsNamed, KeepsSources, tell, tells, FileMoves, EachMoves, KeepsRest, KeepsPhases, HoldsWhy, AllWait}
use Rattle.scan_drive.specs.Openers.{OpenerState, OpenerMoves, PolledOnce, Opens, Chain, SomePolls, IsHeldFor, IsRefused, PhaseKeeps}
use Rattle.scan_drive.specs.Phases.{phase_at, phase_left, PhaseOk, rest, rest_from, is_unopened, unopened}
use Rattle.scan_drive.specs.Splits.{SplitState, Event}
use Rattle.scan_drive.specs.declared.files.ScanFile.{ScanFile}
use Rattle.scan_drive.specs.declared.phase.Phase.{Phase}
use Rattle.scan_drive.specs.declared.phase.Phase.TheVariants as phase
use Rattle.scan_drive.proofs.Asking.{moves_self, moves_then, moves_weaker}

module _ {O : Type 0} (polls : O → O → Type 0) where
  chain_then : (a b c : O) (xs ys : List O) → Chain polls a xs b → Chain polls b ys c → Chain polls a (xs ++ ys) c
  chain_then a b c [] ys p q = subst (λ (o : O). Chain polls o ys c) p q
  chain_then a b c (x ∷ xs) ys p q = (p.0, chain_then x b c xs ys p.1 q)

  pub polled_self : (a : O) → SomePolls polls a a
  polled_self a = record { between = []; chain = refl }

  pub polled_once : (a b : O) → polls a b → SomePolls polls a b
  polled_once a b h = record { between = b ∷ []; chain = (h, refl) }

  pub polled_then : (a b c : O) → SomePolls polls a b → SomePolls polls b c → SomePolls polls a c
  polled_then a b c p q = record { between = p.between ++ q.between; chain = chain_then a b c p.between q.between p.chain q.chain }

module _ {O I : Type 0} (state : O → OpenerState I) (polls : O → O → Type 0) where
  pub opens_self : (a : O) → Opens state polls a a
  opens_self a = record { moves = record { gives = refl; faults = omega arith; turns = omega arith }; polled = polled_self polls a }

  states_then : (a b c : OpenerState I) → OpenerMoves a b → OpenerMoves b c → OpenerMoves a c
  states_then a b c p q = record { gives = q.gives ∙ p.gives; faults = let x = p.faults in let y = q.faults in omega arith; turns = let x = p.turns in let y = q.turns in omega arith }

  pub polled_opens : (a b : O) → PolledOnce (state a) (state b) → polls a b → Opens state polls a b
  polled_opens a b h p = record { moves = h.moves; polled = polled_once polls a b p }

  pub opens_then : (a b c : O) → Opens state polls a b → Opens state polls b c → Opens state polls a c
  opens_then a b c p q = record { moves = states_then (state a) (state b) (state c) p.moves q.moves; polled = polled_then polls a b c p.polled q.polled }

module _ {O S I : Type 0} (state : O → OpenerState I) (polls : O → O → Type 0) (source : S → SourceState) (If : Type 0) where
  pub told_same : (a b : ScanFile O S) → FileMoves state polls source If a b → tell state source b ≡ tell state source a
  told_same a b m = ap (λ (g : Option (Part I)). record { part = g; store = (source b.source).holds }) m.opens.moves.gives ∙ ap (λ (h : Option Store). record { part = (state a.opener).gives; store = h }) m.source_moves.holds

  pub file_self : (a : ScanFile O S) → FileMoves state polls source If a a
  file_self a = record { opens = opens_self state polls a.opener; source_moves = moves_self (λ id. If → IsNamed (tell state source a) id) (source a.source); name = refl }

  pub file_then : (a b c : ScanFile O S) → FileMoves state polls source If a b → FileMoves state polls source If b c → FileMoves state polls source If a c
  file_then a b c p q = record {
    opens = opens_then state polls a.opener b.opener c.opener p.opens q.opens;
    source_moves = moves_then (λ id. If → IsNamed (tell state source a) id) (source a.source) (source b.source) (source c.source) p.source_moves
        (moves_weaker (λ id. If → IsNamed (tell state source b) id) (λ id. If → IsNamed (tell state source a) id) (source b.source) (source c.source) (λ id n h. subst (λ (t : Told I). IsNamed t id) (told_same a b p) (n h)) q.source_moves);
    name = q.name ∙ p.name;
  }

  pub moves_none : (files : List (ScanFile O S)) → EachMoves state polls source If files files
  moves_none files = record { len = refl; at = λ k f. file_self (get_or files k f) }

  -- one file has moved
  pub moves_set : (old now : List (ScanFile O S)) (i : ℕ) (x y : ScanFile O S) → EachMoves state polls source If old now → i < length now → x ≡ get_or now i x → FileMoves state polls source If x y → EachMoves state polls source If old (set now i y)
  moves_set old now i x y m lt e h = record { len = length-set now i y ∙ m.len; at = λ k f. go k f (cases_eq k i) }
    where
      go : (k : ℕ) (f : ScanFile O S) → (k ≡ i) ⊎ (k ≢ i) → FileMoves state polls source If (get_or old k f) (get_or (set now i y) k f)
      go k f (inl is) =
          let at : x ≡ get_or now i f = e ∙ get_or_default now i x f lt in
          let here : FileMoves state polls source If (get_or now i f) y = subst (λ (z : ScanFile O S). FileMoves state polls source If z y) at h in
          subst (λ j. FileMoves state polls source If (get_or old j f) (get_or (set now i y) j f)) (sym is) (subst (FileMoves state polls source If (get_or old i f)) (sym (get_or-set_same now i y f lt)) (file_then (get_or old i f) (get_or now i f) y (m.at i f) here))
      go k f (inr other) = subst (FileMoves state polls source If (get_or old k f)) (sym (get_or-set_other now i k y f other)) (m.at k f)

  pub get_or-map : (files : List (ScanFile O S)) (i : ℕ) (t : Told I) (f : ScanFile O S) → i < length files → get_or (tells state source files) i t ≡ tell state source (get_or files i f)
  get_or-map [] i t f lt = absurd (omega arith)
  get_or-map (x ∷ files) zero t f lt = refl
  get_or-map (x ∷ files) (suc i) t f lt = get_or-map files i t f (omega arith)

  -- what a file tells now is what it told before
  pub told_now : (old now : List (ScanFile O S)) (i : ℕ) (x : ScanFile O S) → EachMoves state polls source If old now → i < length now → x ≡ get_or now i x → told_at (tells state source old) i ≡ tell state source x
  told_now old now i x m lt e =
      let n : length now ≡ length old = m.len in
      get_or-map old i untold x (omega arith) ∙ sym (told_same (get_or old i x) (get_or now i x) (m.at i x)) ∙ ap (tell state source) (sym e)

  same_lists : (old new : List (ScanFile O S)) → length new ≡ length old → ((k : ℕ) (f : ScanFile O S) → tell state source (get_or new k f) ≡ tell state source (get_or old k f)) → tells state source new ≡ tells state source old
  same_lists [] [] n h = refl
  same_lists [] (y ∷ new) n h = absurd (omega arith)
  same_lists (x ∷ old) [] n h = absurd (omega arith)
  same_lists (x ∷ old) (y ∷ new) n h = ap (λ t. t ∷ tells state source new) (h 0 x) ∙ ap (λ ts. tell state source x ∷ ts) (same_lists old new (omega arith) (λ k f. h (suc k) f))

  -- files that have moved tell the same
  pub tells_stay : (old new : List (ScanFile O S)) → EachMoves state polls source If old new → tells state source new ≡ tells state source old
  tells_stay old new m = same_lists old new m.len (λ k f. told_same (get_or old k f) (get_or new k f) (m.at k f))

  pub each_then : (a b c : List (ScanFile O S)) → EachMoves state polls source If a b → EachMoves state polls source If b c → EachMoves state polls source If a c
  each_then a b c p q = record { len = q.len ∙ p.len; at = λ k f. file_then (get_or a k f) (get_or b k f) (get_or c k f) (p.at k f) (q.at k f) }

-- under another premise that implies this one
pub each_under : {O S I : Type 0} (state : O → OpenerState I) (polls : O → O → Type 0) (source : S → SourceState) (P Q : Type 0) → (Q → P) → (a b : List (ScanFile O S)) → EachMoves state polls source P a b → EachMoves state polls source Q a b
each_under state polls source P Q w a b m = record {
  len = m.len;
  at = λ k f. (let h = m.at k f in record {
    opens = h.opens;
    source_moves = moves_weaker (λ id. P → IsNamed (tell state source (get_or a k f)) id) (λ id. Q → IsNamed (tell state source (get_or a k f)) id) (source (get_or a k f).source) (source (get_or b k f).source) (λ id n q. n (w q)) h.source_moves;
    name = h.name;
  });
}

-- calls of sources alone
pub each_sources : {O S I : Type 0} (state : O → OpenerState I) (polls : O → O → Type 0) (source : S → SourceState) (P : Type 0) (May : ℕ → ℕ → Type 0) (a b : List (ScanFile O S))
    → SourcesMove source May a b → ((k id : ℕ) (f : ScanFile O S) → May k id → P → IsNamed (tell state source (get_or a k f)) id) → EachMoves state polls source P a b
each_sources {O} state polls source P May a b m named = record {
  len = m.len;
  at = λ k f. record {
    opens = subst (λ (o : O). Opens state polls (get_or a k f).opener o) (sym (m.opener k f)) (opens_self state polls (get_or a k f).opener);
    source_moves = moves_weaker (May k) (λ id. P → IsNamed (tell state source (get_or a k f)) id) (source (get_or a k f).source) (source (get_or b k f).source) (λ id. named k id f) (m.moves k f);
    name = m.name k f;
  };
}

pub sources_set : {O S : Type 0} (old now : List (ScanFile O S)) (i : ℕ) (x y : ScanFile O S) → KeepsSources old now → i < length now → x ≡ get_or now i x → y.source ≡ x.source → KeepsSources old (set now i y)
sources_set {O} {S} old now i x y h lt e s k f = go (cases_eq k i)
  where
    go : (k ≡ i) ⊎ (k ≢ i) → (get_or (set now i y) k f).source ≡ (get_or old k f).source
    go (inl is) = ap (λ j. (get_or (set now i y) j f).source) is ∙ ap (λ (z : ScanFile O S). z.source) (get_or-set_same now i y f lt) ∙ s ∙ ap (λ (z : ScanFile O S). z.source) (e ∙ get_or_default now i x f lt) ∙ h i f ∙ sym (ap (λ j. (get_or old j f).source) is)
    go (inr other) = ap (λ (z : ScanFile O S). z.source) (get_or-set_other now i k y f other) ∙ h k f

was_unopened : {W F : Type 0} (r : Phase W F) → 1 ≤ is_unopened r → r ≡ phase.Unopened
was_unopened phase.Unopened l = refl
was_unopened (phase.Queued ws rows) l = absurd (omega arith)
was_unopened (phase.Held g) l = absurd (omega arith)

pub unopened_set_by : {W F : Type 0} (ps : List (Phase W F)) (i : ℕ) (x y : Phase W F) (b : ℕ) → i < length ps → x ≡ get_or ps i x → is_unopened y + b ≤ is_unopened x → unopened (set ps i y) + b ≤ unopened ps
unopened_set_by ps i x y b lt e h =
    let s = sum_by-set is_unopened ps i y x lt in
    let f : is_unopened x ≡ is_unopened (get_or ps i x) = ap is_unopened e in
    omega arith

module _ {W I F : Type 0} (split : W → SplitState I) (comes : W → Arrivals → Store → Event → Type 0) where
  pub rest_set : (tale : List (Told I)) (old now : List (Phase W F)) (i : ℕ) (x y : Phase W F) (t : Told I) → KeepsRest split comes tale old now → length tale ≡ length now → i < length now → x ≡ get_or now i x → told_at tale i ≡ t → PhaseKeeps split comes t.part x y →
      KeepsRest split comes tale old (set now i y)
  rest_set tale old now i x y t h n lt e is k all j = go (cases_eq j i)
    where
      tells_here : AllTell tale → (i < length tale) → PhaseKeeps split comes t.part x y → phase_left split comes i (told_at tale i) y ≡ phase_left split comes i (told_at tale i) x
      tells_here a l p = p.left i (told_at tale i) (ap (λ (u : Told I). u.part) is) (a i untold l)

      go : (j ≡ i) ⊎ (j ≢ i) → phase_left split comes j (told_at tale j) (phase_at (set now i y) j) ≡ phase_left split comes j (told_at tale j) (phase_at old j)
      go (inl same) =
          let left : Phase W F → List (Group I) = λ q. phase_left split comes i (told_at tale i) q in
          let here : left (phase_at (set now i y) i) ≡ left (phase_at old i) = ap left (get_or-set_same now i y phase.Unopened lt) ∙ tells_here all (omega (arith, n, lt)) k ∙ ap left (e ∙ get_or_default now i x phase.Unopened lt) ∙ h all i in
          subst (λ m. phase_left split comes m (told_at tale m) (phase_at (set now i y) m) ≡ phase_left split comes m (told_at tale m) (phase_at old m)) (sym same) here
      go (inr other) = ap (phase_left split comes j (told_at tale j)) (get_or-set_other now i j y phase.Unopened other) ∙ h all j

  pub phases_set_one : (tale : List (Told I)) (old now : List (Phase W F)) (i : ℕ) (x y : Phase W F) (t : Told I) → KeepsPhases split comes tale old now → i < length now → x ≡ get_or now i x → told_at tale i ≡ t → PhaseKeeps split comes t.part x y →
      KeepsPhases split comes tale old (set now i y)
  phases_set_one tale old now i x y t h lt e is k ok j = go (cases_eq j i)
    where
      at : x ≡ phase_at now i
      at = e ∙ get_or_default now i x phase.Unopened lt

      go : (j ≡ i) ⊎ (j ≢ i) → PhaseOk split comes (told_at tale j) (phase_at (set now i y) j)
      go (inl same) = subst (λ m. PhaseOk split comes (told_at tale m) (phase_at (set now i y) m)) (sym same) (subst (PhaseOk split comes (told_at tale i)) (sym (get_or-set_same now i y phase.Unopened lt))
          (k.ok (told_at tale i) (ap (λ (u : Told I). u.part) is) (subst (PhaseOk split comes (told_at tale i)) (sym at) (h ok i))))
      go (inr other) = subst (PhaseOk split comes (told_at tale j)) (sym (get_or-set_other now i j y phase.Unopened other)) (h ok j)

  rest_same : (place : ℕ) (ts : List (Told I)) (ps qs : List (Phase W F)) → length qs ≡ length ps → ((k : ℕ) → phase_left split comes (place + k) (told_at ts k) (phase_at qs k) ≡ phase_left split comes (place + k) (told_at ts k) (phase_at ps k)) →
      rest_from split comes place ts qs ≡ rest_from split comes place ts ps
  rest_same place [] ps qs n h = refl
  rest_same place (t ∷ ts) [] [] n h = refl
  rest_same place (t ∷ ts) [] (q ∷ qs) n h = absurd (omega arith)
  rest_same place (t ∷ ts) (p ∷ ps) [] n h = absurd (omega arith)
  rest_same place (t ∷ ts) (p ∷ ps) (q ∷ qs) n h =
      let z : place + 0 ≡ place = omega arith in
      let here : phase_left split comes place t q ≡ phase_left split comes place t p = subst (λ k. phase_left split comes k t q ≡ phase_left split comes k t p) z (h 0) in
      ap (λ gs. gs ++ rest_from split comes (place + 1) ts qs) here
      ∙ ap (λ gs. phase_left split comes place t p ++ gs) (rest_same (place + 1) ts ps qs (omega arith) (λ k. (let y : place + suc k ≡ place + 1 + k = omega arith in subst
      (λ m. phase_left split comes m (told_at ts k) (phase_at qs k) ≡ phase_left split comes m (told_at ts k) (phase_at ps k)) y (h (suc k)))))

  -- phases that have the groups that they had leave the same
  pub rest_stays : (tale : List (Told I)) (old new : List (Phase W F)) → length new ≡ length old → AllTell tale → KeepsRest split comes tale old new → rest split comes tale new ≡ rest split comes tale old
  rest_stays tale old new n all h = rest_same 0 tale old new n (λ k. (let z : k ≡ 0 + k = omega arith in subst (λ m. phase_left split comes m (told_at tale k) (phase_at new k) ≡ phase_left split comes m (told_at tale k) (phase_at old k)) z (h all k)))

module _ {O S W F I : Type 0} (state : O → OpenerState I) (polls : O → O → Type 0) (refuses : O → O → F → Type 0) (source : S → SourceState) where
  -- why files are not read, where one has moved
  pub why_set : (files now : List (ScanFile O S)) (old ps : List (Phase W F)) (i : ℕ) (x y : ScanFile O S) (p q : Phase W F) → EachMoves state polls source (Unit {0}) files now → i < length now → x ≡ get_or now i x → i < length ps → p ≡ get_or ps i p →
      Opens state polls x.opener y.opener → IsHeldFor refuses x.opener y.opener p q → HoldsWhy state polls refuses files now old ps → HoldsWhy state polls refuses files (set now i y) old (set ps i q)
  why_set files now old ps i x y p q m lt e plt pe o h inv k why is = go (cases_eq k i)
    where
      Why : ScanFile O S → ScanFile O S → Type 0
      Why a b = IsRefused state polls refuses a.opener b.opener why

      Goal : ℕ → Type 0
      Goal k = (phase_at old k ≡ phase.Held why) ⊎ ((f : ScanFile O S) → Why (get_or files k f) (get_or (set now i y) k f))

      px : p ≡ phase_at ps i
      px = pe ∙ get_or_default ps i p phase.Unopened plt

      ex : (f : ScanFile O S) → x ≡ get_or now i f
      ex f = e ∙ get_or_default now i x f lt

      later : (f : ScanFile O S) → Why (get_or files i f) (get_or now i f) → Why (get_or files i f) y
      later f r = record {
        before = r.before;
        after = r.after;
        opens = r.opens;
        said = r.said;
        later = opens_then state polls r.after (get_or now i f).opener y.opener r.later (subst (λ (w : ScanFile O S). Opens state polls w.opener y.opener) (ex f) o);
      }

      at : (f : ScanFile O S) → get_or (set now i y) i f ≡ y
      at f = get_or-set_same now i y f lt

      held : q ≡ phase.Held why → Goal i
      held qe = said (subst (IsHeldFor refuses x.opener y.opener p) qe h)
        where
          before : (phase_at old i ≡ phase.Held why) ⊎ ((f : ScanFile O S) → Why (get_or files i f) (get_or now i f)) → Goal i
          before (inl was) = inl was
          before (inr r) = inr (λ f. subst (Why (get_or files i f)) (sym (at f)) (later f (r f)))

          said : (p ≡ phase.Held why) ⊎ refuses x.opener y.opener why → Goal i
          said (inl was) = before (inv i why (sym px ∙ was))
          said (inr r) = inr (λ f. subst (Why (get_or files i f)) (sym (at f)) (record {
            before = x.opener;
            after = y.opener;
            opens = subst (λ (w : ScanFile O S). Opens state polls (get_or files i f).opener w.opener) (sym (ex f)) (m.at i f).opens;
            said = r;
            later = opens_self state polls y.opener;
          }))

      other : k ≢ i → (phase_at old k ≡ phase.Held why) ⊎ ((f : ScanFile O S) → Why (get_or files k f) (get_or now k f)) → Goal k
      other ne (inl was) = inl was
      other ne (inr r) = inr (λ f. subst (Why (get_or files k f)) (sym (get_or-set_other now i k y f ne)) (r f))

      go : (k ≡ i) ⊎ (k ≢ i) → Goal k
      go (inl same) = subst Goal (sym same) (held (sym (get_or-set_same ps i q phase.Unopened plt) ∙ sym (ap (λ j. phase_at (set ps i q) j) same) ∙ is))
      go (inr ne) = other ne (inv k why (sym (get_or-set_other ps i k q phase.Unopened ne) ∙ is))

  -- openers that have put off their answers, where one more has
  pub wait_set : (first i : ℕ) (files now : List (ScanFile O S)) (ps : List (Phase W F)) (x y : ScanFile O S) (p q : Phase W F) → EachMoves state polls source (Unit {0}) files now → i < length now → x ≡ get_or now i x → i < length ps → p ≡ get_or ps i p →
      is_unopened q ≤ is_unopened p → (p ≡ phase.Unopened → (state y.opener).turns < (state x.opener).turns) → AllWait state first i files now ps → AllWait state first (i + 1) files (set now i y) (set ps i q)
  wait_set first i files now ps x y p q m lt e plt pe less h inv k from to is f = go (cases_eq k i)
    where
      go : (k ≡ i) ⊎ (k ≢ i) → (state (get_or (set now i y) k f).opener).turns < (state (get_or files k f).opener).turns
      go (inl same) =
          let qe : q ≡ phase.Unopened = sym (get_or-set_same ps i q phase.Unopened plt) ∙ sym (ap (λ j. phase_at (set ps i q) j) same) ∙ is in
          let one : is_unopened q ≡ 1 = ap is_unopened qe in
          let pu : p ≡ phase.Unopened = was_unopened p (omega arith) in
          let fell = h pu in
          let old = (m.at i f).opens.moves.turns in
          let ex : x ≡ get_or now i f = e ∙ get_or_default now i x f lt in
          let xe : (state x.opener).turns ≡ (state (get_or now i f).opener).turns = ap (λ (w : ScanFile O S). (state w.opener).turns) ex in
          let there : (state y.opener).turns < (state (get_or files i f).opener).turns = omega arith in
          subst (λ j. (state (get_or (set now i y) j f).opener).turns < (state (get_or files j f).opener).turns) (sym same)
          (subst (λ (w : ScanFile O S). (state w.opener).turns < (state (get_or files i f).opener).turns) (sym (get_or-set_same now i y f lt)) there)
      go (inr ne) =
          let to' : k < i = z' ne in
          let was' = inv k from to' (sym (get_or-set_other ps i k q phase.Unopened ne) ∙ is) f in
          subst (λ (w : ScanFile O S). (state w.opener).turns < (state (get_or files k f).opener).turns) (sym (get_or-set_other now i k y f ne)) was'
        where
          z' : k ≢ i → k < i
          z' n = omega (arith, to, n)

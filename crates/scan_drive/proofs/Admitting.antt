-- Files that are open, and what their openers said of them.
use Rattle.std.proofs.Common.{◌≡◌, ◌≢◌, ℕ, ◌<◌, List, length, set, get_or, get_or-set_same, get_or-set_other, Option, Some, None, inl, inr, refl, sym, ap, ◌∙◌, subst}
use Rattle.std.specs.Prelude.{◌⊎◌, All, IfSome}
use Rattle.std.proofs.lemmas.Bool.{cases_eq}
use Rattle.std.proofs.lemmas.List.{get_or_default}
use Rattle.scan_segments.specs.Source.{SourceState, Store}
use Rattle.scan_splits.specs.Arrivals.{Arrivals}
use Rattle.scan_drive.specs.Files.{Part, Told, told_at}
use Rattle.scan_drive.specs.Filling.{OpensBy}
use Rattle.scan_drive.specs.Moves.{EachMoves}
use Rattle.scan_drive.specs.Openers.{OpenerState, Opens, IsOpen, StaysOpen, IsAdmitted, PhaseKeeps}
use Rattle.scan_drive.specs.Phases.{phase_at, PhaseOk, RowsOk, AllRowsOk, IsQueued}
use Rattle.scan_drive.specs.Runs.{new_run}
use Rattle.scan_drive.specs.Slots.{RunOk}
use Rattle.scan_drive.specs.Splits.{SplitState, Event}
use Rattle.scan_drive.specs.declared.files.ScanFile.{ScanFile}
use Rattle.scan_drive.specs.declared.phase.Phase.{Phase}
use Rattle.scan_drive.specs.declared.phase.Phase.TheVariants as phase
use Rattle.scan_drive.proofs.Moving.{opens_self, opens_then}
use Rattle.scan_drive.proofs.Turning.{rows_ok}

-- ---- phases that stay open
module _ {W F : Type 0} where
  pub open_same : (Said : List W → Type 0) (p : Phase W F) → StaysOpen Said p p
  open_same Said phase.Unopened = record { said = tt; stays = λ q. q }
  open_same Said (phase.Queued ws rows) = record { said = inl refl; stays = λ q. q }
  open_same Said (phase.Held f) = record { said = tt; stays = λ q. q }

  open_by : (Said More : List W → Type 0) → ((ws : List W) → Said ws → More ws) → (p q : Phase W F) → IsOpen Said p q → IsOpen More p q
  open_by Said More h p phase.Unopened o = tt
  open_by Said More h p (phase.Queued ws rows) (inl e) = inl e
  open_by Said More h p (phase.Queued ws rows) (inr s) = inr (h ws.items s)
  open_by Said More h p (phase.Held f) o = tt

  open_on : (Said : List W → Type 0) (p q r : Phase W F) → IsOpen Said p q → IsOpen Said q r → IsOpen Said p r
  open_on Said p q phase.Unopened a b = tt
  open_on Said p q (phase.Queued ws rows) a (inl e) = subst (IsOpen Said p) e a
  open_on Said p q (phase.Queued ws rows) a (inr s) = inr s
  open_on Said p q (phase.Held f) a b = tt

  pub stays_by : (Said More : List W → Type 0) → ((ws : List W) → Said ws → More ws) → (p q : Phase W F) → StaysOpen Said p q → StaysOpen More p q
  stays_by Said More h p q o = record { said = open_by Said More h p q o.said; stays = o.stays }

  pub stays_then : (Said : List W → Type 0) (p q r : Phase W F) → StaysOpen Said p q → StaysOpen Said q r → StaysOpen Said p r
  stays_then Said p q r a b = record { said = open_on Said p q r a.said b.said; stays = λ i. b.stays (a.stays i) }

  -- a file that was not open
  pub opens_now : (Said : List W → Type 0) (p q : Phase W F) → p ≡ phase.Unopened → IsOpen Said p q → StaysOpen Said p q
  opens_now Said p q e o = record { said = o; stays = λ i. absurd (subst (λ (z : Phase W F). IsQueued z) e i) }

-- ---- what openers said
module _ {O W I : Type 0} (state : O → OpenerState I) (polls : O → O → Type 0) (admits : O → O → List W → Type 0) where
  pub admitted_now : (a b : O) (ws : List W) → admits a b ws → IsAdmitted state polls admits a b ws
  admitted_now a b ws h = record { before = a; after = b; opens = opens_self state polls a; said = h; later = opens_self state polls b }

  pub admitted_later : (a b c : O) (ws : List W) → Opens state polls b c → IsAdmitted state polls admits a b ws → IsAdmitted state polls admits a c ws
  admitted_later a b c ws o h = record { before = h.before; after = h.after; opens = h.opens; said = h.said; later = opens_then state polls h.after b c h.later o }

  pub admitted_before : (a b c : O) (ws : List W) → Opens state polls a b → IsAdmitted state polls admits b c ws → IsAdmitted state polls admits a c ws
  admitted_before a b c ws o h = record { before = h.before; after = h.after; opens = opens_then state polls a b h.before o h.opens; said = h.said; later = h.later }

module _ {O S W I : Type 0} (state : O → OpenerState I) (polls : O → O → Type 0) (admits : O → O → List W → Type 0) where
  abbrev pub Said : List (ScanFile O S) → List (ScanFile O S) → ℕ → List W → Type 0
  Said files now k ws = (f : ScanFile O S) → IsAdmitted state polls admits (get_or files k f).opener (get_or now k f).opener ws

module _ {O S W F I : Type 0} (state : O → OpenerState I) (polls : O → O → Type 0) (admits : O → O → List W → Type 0) where
  pub opens_none : (files : List (ScanFile O S)) (ps : List (Phase W F)) → OpensBy state polls admits files files ps ps
  opens_none files ps k = open_same (λ ws. (f : ScanFile O S) → IsAdmitted state polls admits (get_or files k f).opener (get_or files k f).opener ws) (phase_at ps k)

module _ {O S W F I : Type 0} (state : O → OpenerState I) (polls : O → O → Type 0) (admits : O → O → List W → Type 0) (source : S → SourceState) where
  -- one file was polled
  pub opens_set : (files now : List (ScanFile O S)) (old ps : List (Phase W F)) (i : ℕ) (x y : ScanFile O S) (p q : Phase W F) → EachMoves state polls source (Unit {0}) files now → i < length now → x ≡ get_or now i x → i < length ps → p ≡ get_or ps i p →
      Opens state polls x.opener y.opener → StaysOpen (admits x.opener y.opener) p q → OpensBy state polls admits files now old ps → OpensBy state polls admits files (set now i y) old (set ps i q)
  opens_set files now old ps i x y p q m lt e plt pe o h inv k = go (cases_eq k i)
    where
      ex : (f : ScanFile O S) → x ≡ get_or now i f
      ex f = e ∙ get_or_default now i x f lt

      px : p ≡ phase_at ps i
      px = pe ∙ get_or_default ps i p phase.Unopened plt

      at : (f : ScanFile O S) (ws : List W) → IsAdmitted state polls admits (get_or files i f).opener y.opener ws → IsAdmitted state polls admits (get_or files i f).opener (get_or (set now i y) i f).opener ws
      at f ws = subst (λ (z : ScanFile O S). IsAdmitted state polls admits (get_or files i f).opener z.opener ws) (sym (get_or-set_same now i y f lt))

      later : (ws : List W) → Said state polls admits files now i ws → Said state polls admits files (set now i y) i ws
      later ws s f = at f ws (admitted_later state polls admits (get_or files i f).opener (get_or now i f).opener y.opener ws (subst (λ (z : ScanFile O S). Opens state polls z.opener y.opener) (ex f) o) (s f))

      said : (ws : List W) → admits x.opener y.opener ws → Said state polls admits files (set now i y) i ws
      said ws s f = at f ws (admitted_before state polls admits (get_or files i f).opener x.opener y.opener ws (subst (λ (z : ScanFile O S). Opens state polls (get_or files i f).opener z.opener) (sym (ex f)) (m.at i f).opens) (admitted_now state polls admits x.opener y.opener ws s))

      here : StaysOpen (Said state polls admits files (set now i y) i) (phase_at old i) q
      here = stays_then (Said state polls admits files (set now i y) i) (phase_at old i) p q
          (stays_by (Said state polls admits files now i) (Said state polls admits files (set now i y) i) later (phase_at old i) p (subst (StaysOpen (Said state polls admits files now i) (phase_at old i)) (sym px) (inv i)))
          (stays_by (admits x.opener y.opener) (Said state polls admits files (set now i y) i) said p q h)

      go : (k ≡ i) ⊎ (k ≢ i) → StaysOpen (Said state polls admits files (set now i y) k) (phase_at old k) (phase_at (set ps i q) k)
      go (inl is) = subst (λ j. StaysOpen (Said state polls admits files (set now i y) j) (phase_at old j) (phase_at (set ps i q) j)) (sym is) (subst (StaysOpen (Said state polls admits files (set now i y) i) (phase_at old i)) (sym (get_or-set_same ps i q phase.Unopened plt)) here)
      go (inr ne) = subst (StaysOpen (Said state polls admits files (set now i y) k) (phase_at old k)) (sym (get_or-set_other ps i k q phase.Unopened ne))
          (stays_by (Said state polls admits files now k) (Said state polls admits files (set now i y) k)
          (λ ws s f. subst (λ (z : ScanFile O S). IsAdmitted state polls admits (get_or files k f).opener z.opener ws) (sym (get_or-set_other now i k y f ne)) (s f)) (phase_at old k)
          (phase_at ps k) (inv k))

-- ---- how many rows they have
module _ {W I F : Type 0} where
  rows_part : (t u : Told I) → u.part ≡ t.part → (p : Phase W F) → RowsOk t p → RowsOk u p
  rows_part t u e phase.Unopened h = tt
  rows_part t u e (phase.Queued ws rows) h = subst (λ (o : Option (Part I)). IfSome o (λ p. rows ≡ p.row_count)) (sym e) h
  rows_part t u e (phase.Held f) h = tt

abbrev pub no_store : Option Store
no_store = None

abbrev pub storeless : {I : Type 0} → Told I → Told I
storeless t = record { part = t.part; store = None }

module _ {W I : Type 0} (split : W → SplitState I) (comes : W → Arrivals → Store → Event → Type 0) where
  none_told : (o : Option (Part I)) (ws : List W) → All (λ w. IfSome o (λ p. IfSome no_store (λ store. RunOk split comes p store (new_run w)))) ws
  none_told None ws k d l = tt
  none_told (Some p) ws k d l = tt

module _ {W I F : Type 0} (split : W → SplitState I) (comes : W → Arrivals → Store → Event → Type 0) where
  phase_by_rows : (t : Told I) (p : Phase W F) → RowsOk t p → PhaseOk split comes (storeless t) p
  phase_by_rows t phase.Unopened h = tt
  phase_by_rows t (phase.Queued ws rows) h = (none_told split comes t.part ws.items, h)
  phase_by_rows t (phase.Held f) h = tt

  -- what keeps the splits of a phase, whatever is told, keeps how many rows it has
  pub rows_keep : (p q : Phase W F) (t : Told I) → ((u : Told I) → PhaseOk split comes u p → PhaseOk split comes u q) → RowsOk t p → RowsOk t q
  rows_keep p q t k h = rows_part (storeless t) t refl q (rows_ok split comes (storeless t) q (k (storeless t) (phase_by_rows t p h)))

  pub rows_set : (tale : List (Told I)) (old now : List (Phase W F)) (i : ℕ) (x y : Phase W F) (t : Told I) → (AllRowsOk tale old → AllRowsOk tale now) → i < length now → x ≡ get_or now i x → told_at tale i ≡ t → PhaseKeeps split comes t.part x y → AllRowsOk tale old → AllRowsOk tale (set now i y)
  rows_set tale old now i x y t h lt e is k ok j = go (cases_eq j i)
    where
      at : x ≡ phase_at now i
      at = e ∙ get_or_default now i x phase.Unopened lt

      u : Told I
      u = told_at tale i

      part : u.part ≡ t.part
      part = ap (λ (z : Told I). z.part) is

      here : RowsOk u x → RowsOk u y
      here r = rows_part (storeless u) u refl y (rows_ok split comes (storeless u) y (k.ok (storeless u) part (phase_by_rows u x r)))

      go : (j ≡ i) ⊎ (j ≢ i) → RowsOk (told_at tale j) (phase_at (set now i y) j)
      go (inl same) = subst (λ m. RowsOk (told_at tale m) (phase_at (set now i y) m)) (sym same) (subst (λ (z : Phase W F). RowsOk u z) (sym (get_or-set_same now i y phase.Unopened lt)) (here (subst (λ (z : Phase W F). RowsOk u z) (sym at) (h ok i))))
      go (inr other) = subst (λ (z : Phase W F). RowsOk (told_at tale j) z) (sym (get_or-set_other now i j y phase.Unopened other)) (h ok j)

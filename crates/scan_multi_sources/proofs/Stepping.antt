-- What comes of a file that is looked at, as a step of a poll.
use Rattle.std.proofs.Common.{◌≡◌, ◌≢◌, ◌≤◌, ◌<◌, ◌+◌, ◌==◌, ◌||◌, not, ℕ, zero, suc, Bool, true, false}
use Rattle.std.proofs.Common.{List, [], ◌∷◌, length, length-append, Option, Some, None, Result, Ok, Err, inl, inr, refl, ap, sym, subst, ◌∙◌, arith}
use Rattle.std.proofs.lemmas.Bool.Decides.{nat_tests}
use Rattle.std.proofs.lemmas.List.{length-set}
use Rattle.std.proofs.lemmas.List.Edits.{length-remove}
use Rattle.std.specs.List.{slice_get}
use Rattle.std.specs.declared.alloc.Global.{Global}
use Rattle.std.specs.declared.rc.Rc.{Rc}
use Rattle.scan_layout.specs.Layout.{Layout}
use Rattle.scan_opener.specs.Opener.{OpenerState}
use Rattle.scan_opener.specs.declared.opener.Opening.{Opening}
use Rattle.scan_opener.specs.declared.opener.Opening.TheVariants as opening
use Rattle.scan_multi_sources.specs.Children.{is_open}
use Rattle.scan_multi_sources.specs.Files.{StageData, slot_data}
use Rattle.scan_multi_sources.specs.Files as file
use Rattle.scan_multi_sources.specs.MultiScans.{BeginsNext, Finds, MakesPartition, MayKeep, MultiScan, Passes, PassesOpened, PollsFile, begun, delivered_at, has_room, is_turn, kept_at, left_out}
use Rattle.scan_multi_sources.specs.Opens.{Found, Waited, found_of}
use Rattle.scan_multi_sources.specs.Opens as asks
use Rattle.scan_multi_sources.specs.Partitions.{PartitionData}
use Rattle.scan_multi_sources.specs.Polls.{Answers, AnswersBy, ComesTo, FailsOpened, GoesOn, IsStep, LooksAt, NoneBefore, StepsLast, StepsOn, weight}
use Rattle.scan_multi_sources.specs.declared.fault.MultiFault.{MultiFault}
use Rattle.scan_multi_sources.specs.declared.fault.MultiFault.TheVariants as fault
use Rattle.scan_multi_sources.specs.declared.scan.PartitionPoll.{PartitionPoll}
use Rattle.scan_multi_sources.specs.declared.scan.PartitionPoll.TheVariants as poll
use Rattle.scan_multi_sources.specs.declared.scan.Step.{Step}
use Rattle.scan_multi_sources.specs.declared.scan.Step.TheVariants.{Next, Answer}
use Rattle.scan_multi_sources.proofs.Before.{finds_looks, looks_begun, looks_delivered, looks_kept, looks_left, looks_next, polled_closed}
use Rattle.scan_multi_sources.proofs.Finding.{some_within}
use Rattle.scan_multi_sources.proofs.Going.{polled_children}
use Rattle.scan_multi_sources.proofs.Moving.{asks_wait}

-- ---- turns
not_turn : (b c : Bool) → (not b || c) ≡ false → (b ≡ true) × (c ≡ false)
not_turn true false h = (refl, refl)
not_turn true true h = absurd cc
not_turn false c h = absurd cc

above : (n : ℕ) → (n == 0) ≡ false → 0 < n
above zero h = absurd cc
above (suc n) h = omega arith

module _ {O : Type 0} where
  pub may_keep : (s : MultiScan O) (i : ℕ) (st : StageData) → is_turn s i ≡ false → MayKeep s st
  may_keep s i st h = λ e. (not_turn s.request.ordered (i == 0) h).0

  behind : (s : MultiScan O) (i : ℕ) → is_turn s i ≡ false → 0 < i
  behind s i h = above i (not_turn s.request.ordered (i == 0) h).1

  -- ---- going on
  pub waits_on : (s : MultiScan O) (i k : ℕ) (st : StageData) → slice_get s.window i ≡ Some (slot_data k st) → is_open s.source.children k ≡ false → i < length s.window → GoesOn s s i (i + 1) k asks.waits
  waits_on s i k st g closed l = record { passes = refl; nearer = omega (arith, l); waits = λ n. inr refl; before = λ b. looks_next s i k st g closed l b }

  pub kept_on : (s : MultiScan O) (i k : ℕ) (st : StageData) (f : Found) → i < length s.window → is_turn s i ≡ false → Passes s (kept_at s i k st) i k f → GoesOn s (kept_at s i k st) i (i + 1) k f
  kept_on s i k st f l turn p = record {
    passes = p;
    nearer = let n = length-set s.window i (slot_data k st) in omega (arith, n, l);
    waits = λ m. inl (behind s i turn);
    before = λ b. looks_kept s i k st l (not_turn s.request.ordered (i == 0) turn).0;
  }

  pub left_on : (s : MultiScan O) (i k : ℕ) (f : Found) → i < length s.window → Passes s (left_out s i) i k f → GoesOn s (left_out s i) i i k f
  left_on s i k f l p = record {
    passes = p;
    nearer = let n = length-remove s.window i l in omega (arith, n, l);
    waits = λ m. inl m;
    before = λ b. looks_left s i l b;
  }

  pub delivered_on : (s : MultiScan O) (i k : ℕ) (f : Found) → i < length s.window → Passes s (delivered_at s i) i k f → GoesOn s (delivered_at s i) i i k f
  delivered_on s i k f l p = record {
    passes = p;
    nearer = let n = length-remove s.window i l in omega (arith, n, l);
    waits = λ m. inl m;
    before = λ b. looks_delivered s i l b;
  }

  no_end : (s new : MultiScan O) (i k : ℕ) (f : Found) → Answers s new i k f poll.End → ⊥
  no_end s new i k asks.waits h = h
  no_end s new i k asks.short h = let e = h.0 in cc
  no_end s new i k asks.skipped h = h
  no_end s new i k (asks.found l) h = h.1
  no_end s new i k asks.fails h = let e = h.1 in cc

-- ---- steps
module _ {O : Type 0} (opener : O → OpenerState) where
  answers_by : (s looked new : MultiScan O) (i k : ℕ) (f : Found) (r : PartitionPoll) → Finds opener s looked i k f → NoneBefore s i → r ≢ poll.Pending → Answers looked new i k f r → AnswersBy opener s new r
  answers_by s looked new i k f poll.Pending is b ne h = absurd (ne refl)
  answers_by s looked new i k f (poll.Partition p) is b ne h = record { at = i; place = k; found = f; looked = looked; finds = is; answers = h; before = b }
  answers_by s looked new i k f poll.End is b ne h = absurd (no_end looked new i k f h)
  answers_by s looked new i k f (poll.Fault e) is b ne h = inr (record { at = i; place = k; found = f; looked = looked; finds = is; answers = h; before = b })

  pub comes_step : (s looked new : MultiScan O) (i k : ℕ) (f : Found) (r : Step) → Finds opener s looked i k f → LooksAt s i → weight looked i ≡ weight s i
      → (f ≡ asks.waits → Waited opener s.source.children new.source.children) → ComesTo looked new i k f r → IsStep opener s new i r
  comes_step s looked new i k f (Next n) is b same wait h = record {
    step = inr (record { at = i; place = k; found = f; looked = looked; finds = is; passes = h.passes });
    nearer = let m = h.nearer in omega (arith, m, same);
    waits = λ l. elim (h.waits l) [ inl a ↦ inl a | inr e ↦ inr (wait e) ];
    before = h.before (finds_looks opener is.stage s looked k f is.finds i b);
  }
  comes_step s looked new i k f (Answer r) is b same wait h = record { answer = answers_by s looked new i k f r is b.before h.0 h.1; waits = λ e. absurd (h.0 e) }

  pub polled_finds : (s looked : MultiScan O) (i k : ℕ) (r : Opening) → slice_get s.window i ≡ Some (slot_data k file.opening) → PollsFile opener s looked k r → Finds opener s looked i k (found_of r)
  polled_finds s looked i k r g h = record { stage = file.opening; slot = g; finds = (r, h, refl) }

  pub polled_window : (s looked : MultiScan O) (k : ℕ) (r : Opening) → PollsFile opener s looked k r → looked.window ≡ s.window
  polled_window s looked k r h = ap (λ z. z.window) h.2

  pub polled_weight : (s looked : MultiScan O) (i k : ℕ) (r : Opening) → PollsFile opener s looked k r → weight looked i ≡ weight s i
  polled_weight s looked i k r h = ap (λ z. weight z i) h.2

  pub polled_waits : (s looked : MultiScan O) (k : ℕ) → PollsFile opener s looked k opening.Pending → Waited opener s.source.children looked.source.children
  polled_waits s looked k h = let e = polled_children opener s looked k opening.Pending h in subst (λ z. Waited opener s.source.children z) (sym e) (asks_wait opener s.source.children (h.1.0) k h.1.1)

  -- what was kept is found
  pub kept_found : (s : MultiScan O) (i k : ℕ) (l : Layout) → slice_get s.window i ≡ Some (slot_data k (file.opened l)) → Finds opener s s i k (asks.found l)
  kept_found s i k l g = record { stage = file.opened l; slot = g; finds = (refl, refl) }

  pub kept_failed : (s : MultiScan O) (i k : ℕ) → slice_get s.window i ≡ Some (slot_data k file.failed) → Finds opener s s i k asks.fails
  kept_failed s i k g = record { stage = file.failed; slot = g; finds = (refl, refl) }

  -- ---- beginning
  pub full_step : (s : MultiScan O) (at : ℕ) → length s.window ≤ at → has_room s ≡ false → 0 < s.source.concurrency → StepsLast opener s s at poll.Pending
  full_step s at l room some = record { answer = refl; waits = λ e. grind (arith, nat_tests, l, room, some) }

  begun_step : (s : MultiScan O) (at k : ℕ) (ks : List ℕ) → length s.window ≤ at → LooksAt s at → s.waiting ≡ k ∷ ks → has_room s ≡ true → StepsOn opener s (begun s k ks) at at
  begun_step s at k ks l b next few = record {
    step = inl (record { place = k; rest = ks; next = next; few = few; then = refl });
    nearer = let n = length-append s.window (slot_data k file.opening ∷ []) in let m = ap length next in omega (arith, n, m, l);
    waits = λ m. inl m;
    before = looks_begun s at k ks b;
  }

  pub begin_step : (s new : MultiScan O) (at : ℕ) → length s.window ≤ at → LooksAt s at → has_room s ≡ true → BeginsNext s new (Ok true) → StepsOn opener s new at at
  begin_step s new at l b few h = subst (λ z. StepsOn opener s z at at) (sym h.3) (begun_step s at h.0 h.1 l b h.2 few)

  -- ---- an opener that was polled
  module _ (s looked : MultiScan O) (at k : ℕ) (slot : slice_get s.window at ≡ Some (slot_data k file.opening)) where
    pub polled_within : (r : Opening) → PollsFile opener s looked k r → at < length looked.window
    polled_within r h = subst (λ z. at < length z) (sym (polled_window s looked k r h)) (some_within s.window at (slot_data k file.opening) slot)

    polled_slot : (r : Opening) → PollsFile opener s looked k r → slice_get looked.window at ≡ Some (slot_data k file.opening)
    polled_slot r h = ap (λ ws. slice_get ws at) (polled_window s looked k r h) ∙ slot

    waits_there : PollsFile opener s looked k opening.Pending → GoesOn looked looked at (at + 1) k asks.waits
    waits_there h = waits_on looked at k file.opening (polled_slot opening.Pending h) (polled_closed opener s looked k h) (polled_within opening.Pending h)

    module _ (b : LooksAt s at) where
      pub open_pending : PollsFile opener s looked k opening.Pending → IsStep opener s looked at (Next (at + 1))
      open_pending h =
          comes_step s looked looked at k asks.waits (Next (at + 1)) (polled_finds s looked at k opening.Pending slot h) b (polled_weight s looked at k opening.Pending h) (λ e. polled_waits s looked k h)
          (waits_there h)

      pub open_skipped : (new : MultiScan O) → PollsFile opener s looked k opening.Skipped → new ≡ left_out looked at → IsStep opener s new at (Next at)
      open_skipped new h is =
          rw is (comes_step s looked (left_out looked at) at k asks.skipped (Next at) (polled_finds s looked at k opening.Skipped slot h) b (polled_weight s looked at k opening.Skipped h) (λ e. absurd cc) (left_on looked at k asks.skipped (polled_within opening.Skipped h) refl))

      pub open_short : PollsFile opener s looked k opening.NoMemory → IsStep opener s looked at (Answer (poll.Fault fault.NoMemory))
      open_short h =
          comes_step s looked looked at k asks.short (Answer (poll.Fault fault.NoMemory)) (polled_finds s looked at k opening.NoMemory slot h) b (polled_weight s looked at k opening.NoMemory h) (λ e. absurd cc) ((λ e. cc), (refl, refl))

      pub open_found : (l : Rc Layout Global) (new : MultiScan O) (r : Step) → PollsFile opener s looked k (opening.Opened l) → ComesTo looked new at k (asks.found l.value) r → IsStep opener s new at r
      open_found l new r h c = comes_step s looked new at k (asks.found l.value) r (polled_finds s looked at k (opening.Opened l) slot h) b (polled_weight s looked at k (opening.Opened l) h) (λ e. absurd cc) c

      pub open_failed : (new : MultiScan O) (r : Step) → PollsFile opener s looked k opening.Failed → ComesTo looked new at k asks.fails r → IsStep opener s new at r
      open_failed new r h c = comes_step s looked new at k asks.fails r (polled_finds s looked at k opening.Failed slot h) b (polled_weight s looked at k opening.Failed h) (λ e. absurd cc) c

  -- what was kept
  pub look_found : (s new : MultiScan O) (at k : ℕ) (l : Layout) (r : Step) → slice_get s.window at ≡ Some (slot_data k (file.opened l)) → LooksAt s at → ComesTo s new at k (asks.found l) r → IsStep opener s new at r
  look_found s new at k l r slot b c = comes_step s s new at k (asks.found l) r (kept_found s at k l slot) b refl (λ e. absurd cc) c

  pub look_failed : (s new : MultiScan O) (at k : ℕ) (r : Step) → slice_get s.window at ≡ Some (slot_data k file.failed) → LooksAt s at → ComesTo s new at k asks.fails r → IsStep opener s new at r
  look_failed s new at k r slot b c = comes_step s s new at k asks.fails r (kept_failed s at k slot) b refl (λ e. absurd cc) c

-- ---- a file in its turn
module _ {O : Type 0} (s : MultiScan O) (at k : ℕ) (l : Layout) (turn : is_turn s at ≡ true) where
  pub gives : (mid new : MultiScan O) (p : PartitionData) → MakesPartition s mid k l (Ok (Some p)) → new ≡ delivered_at mid at → ComesTo s new at k (asks.found l) (Answer (poll.Partition p))
  gives mid new p h is = ((λ e. cc), (turn, (h.0, h.1, h.2, is ∙ ap (λ z. delivered_at z at) h.3)))

  pub passes_over : (mid new : MultiScan O) → at < length s.window → MakesPartition s mid k l (Ok None) → new ≡ delivered_at mid at → ComesTo s new at k (asks.found l) (Next at)
  passes_over mid new within h is =
      let to : new ≡ delivered_at s at = is ∙ ap (λ z. delivered_at z at) h.2 in
      subst (λ z. ComesTo s z at k (asks.found l) (Next at)) (sym to) (delivered_on s at k (asks.found l) within (subst (λ b. PassesOpened b s (delivered_at s at) at k l) (sym turn) (h.0, h.1, refl)))

  pub short_of : (mid new : MultiScan O) → MakesPartition s mid k l (Err fault.NoMemory) → new ≡ kept_at mid at k (file.opened l) → ComesTo s new at k (asks.found l) (Answer (poll.Fault fault.NoMemory))
  short_of mid new h is = ((λ e. cc), (turn, is ∙ ap (λ z. kept_at z at k (file.opened l)) h))

  made_fault : (mid new : MultiScan O) (f : MultiFault) → f ≢ fault.NoMemory → MakesPartition s mid k l (Err f) → new ≡ delivered_at mid at → FailsOpened s new at k l f
  made_fault mid new fault.NoMemory ne h is = absurd (ne refl)
  made_fault mid new (fault.Opener n) ne h is = (h.0, is ∙ ap (λ z. delivered_at z at) h.1)
  made_fault mid new (fault.DTypeMismatch n) ne h is = (h.0, is ∙ ap (λ z. delivered_at z at) h.1)
  made_fault mid new (fault.Layout n e) ne h is = (h.0, is ∙ ap (λ z. delivered_at z at) h.1)
  made_fault mid new (fault.RowRange n) ne h is = (h.0, is ∙ ap (λ z. delivered_at z at) h.1)
  made_fault mid new (fault.TooManyRows n) ne h is = (h.0, is ∙ ap (λ z. delivered_at z at) h.1)

  pub faults : (mid new : MultiScan O) (f : MultiFault) → f ≢ fault.NoMemory → MakesPartition s mid k l (Err f) → new ≡ delivered_at mid at → ComesTo s new at k (asks.found l) (Answer (poll.Fault f))
  faults mid new f ne h is = ((λ e. cc), (turn, made_fault mid new f ne h is))

-- the window is as long once the partition is made
pub made_window : {O : Type 0} (s mid : MultiScan O) (k : ℕ) (l : Layout) (r : Result (Option PartitionData) MultiFault) → MakesPartition s mid k l r → mid.window ≡ s.window
made_window s mid k l (Ok (Some p)) h = ap (λ z. z.window) h.3
made_window s mid k l (Ok None) h = ap (λ z. z.window) h.2
made_window s mid k l (Err fault.NoMemory) h = ap (λ z. z.window) h
made_window s mid k l (Err (fault.Opener n)) h = ap (λ z. z.window) h.1
made_window s mid k l (Err (fault.DTypeMismatch n)) h = ap (λ z. z.window) h.1
made_window s mid k l (Err (fault.Layout n e)) h = ap (λ z. z.window) h.1
made_window s mid k l (Err (fault.RowRange n)) h = ap (λ z. z.window) h.1
made_window s mid k l (Err (fault.TooManyRows n)) h = ap (λ z. z.window) h.1

pub made_within : {O : Type 0} (s mid : MultiScan O) (at k : ℕ) (l : Layout) (r : Result (Option PartitionData) MultiFault) → MakesPartition s mid k l r → at < length s.window → at < length mid.window
made_within s mid at k l r h w = subst (λ z. at < length z) (sym (made_window s mid k l r h)) w

-- ---- a failure
pub fails_now : {O : Type 0} (s new : MultiScan O) (at k : ℕ) → is_turn s at ≡ true → new ≡ delivered_at s at → ComesTo s new at k asks.fails (Answer (poll.Fault (fault.Opener k)))
fails_now s new at k turn is = ((λ e. cc), (turn, refl, is))

pub fails_later : {O : Type 0} (s new : MultiScan O) (at k : ℕ) → at < length s.window → is_turn s at ≡ false → new ≡ kept_at s at k file.failed → ComesTo s new at k asks.fails (Next (at + 1))
fails_later s new at k within turn is = subst (λ z. ComesTo s z at k asks.fails (Next (at + 1))) (sym is) (kept_on s at k file.failed asks.fails within turn (turn, refl))

pub found_later : {O : Type 0} (s new : MultiScan O) (at k : ℕ) (l : Layout) → at < length s.window → is_turn s at ≡ false → new ≡ kept_at s at k (file.opened l) → ComesTo s new at k (asks.found l) (Next (at + 1))
found_later s new at k l within turn is =
    subst (λ z. ComesTo s z at k (asks.found l) (Next (at + 1))) (sym is) (kept_on s at k (file.opened l) (asks.found l) within turn (subst (λ b. PassesOpened b s (kept_at s at k (file.opened l)) at k l) (sym turn) refl))

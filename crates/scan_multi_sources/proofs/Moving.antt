-- What openers are while a scan is polled.
use Rattle.std.proofs.Common.{◌≡◌, ◌≤◌, ◌<◌, ℕ, List, get_or, length, map, set, Option, Some, None, refl, ap, sym, subst, ◌∙◌, arith}
use Rattle.std.proofs.lemmas.List.{map-set}
use Rattle.std.specs.List.{slice_get, slice_set}
use Rattle.scan_segments.specs.Faults.{Rose}
use Rattle.scan_opener.specs.Opener.{OpenerState, IsPolledOpen, PolledOnce}
use Rattle.scan_opener.specs.declared.opener.Opening.{Opening}
use Rattle.scan_opener.specs.declared.opener.Opening.TheVariants.{Pending, Opened, Skipped, Failed, NoMemory}
use Rattle.scan_multi_sources.specs.ChildView.{child_data}
use Rattle.scan_multi_sources.specs.Children.{ChildData, opened, deferred}
use Rattle.scan_multi_sources.specs.Opens.{Asks, AsksChild, AsksFile, Moves, Waited, faults_at, faults_of, turns_at, turns_of}
use Rattle.scan_multi_sources.specs.Opens as asks
use Rattle.scan_multi_sources.specs.declared.child.MultiLayoutChild.{MultiLayoutChild}
use Rattle.scan_multi_sources.proofs.Finding.{each_set, got, map_get}

polled_once : (old new : OpenerState) (r : Opening) → IsPolledOpen old new r → PolledOnce old new
polled_once old new Pending h = h.0
polled_once old new (Opened l) h = h.0
polled_once old new Skipped h = h.0
polled_once old new Failed h = h.0
polled_once old new NoMemory h = h

pub rose_wider : (a b c d : ℕ) → a ≤ b → c ≤ d → Rose b c → Rose a d
rose_wider a b c d h k r = grind (arith, h, k, r)

module _ {O : Type 0} (opener : O → OpenerState) where
  child_turns : (c d : ChildData O) (r : Opening) → AsksChild opener c d r → turns_of opener (Some d) ≤ turns_of opener (Some c)
  child_turns (opened l n) d r h = let is = h.0 in rw is (omega arith)
  child_turns (deferred o n) d r h = let is = h.1 in let once = polled_once (opener o) (opener h.0) r h.2 in rw is (once.turns)

  child_faults : (c d : ChildData O) (r : Opening) → AsksChild opener c d r → faults_of opener (Some c) ≤ faults_of opener (Some d)
  child_faults (opened l n) d r h = let is = h.0 in rw is (omega arith)
  child_faults (deferred o n) d r h = let is = h.1 in let once = polled_once (opener o) (opener h.0) r h.2 in rw is (once.faults)

  pub stays : (cs : List (ChildData O)) → Moves opener cs cs
  stays cs = record { turns = λ k. omega arith; faults = λ k. omega arith }

  pub moves_then : (a b c : List (ChildData O)) → Moves opener a b → Moves opener b c → Moves opener a c
  moves_then a b c h k = record {
    turns = λ i. let x = h.turns i in let y = k.turns i in omega (arith, x, y);
    faults = λ i. let x = h.faults i in let y = k.faults i in omega (arith, x, y);
  }

  -- ---- one is asked

  asked_moves : (o : Option (ChildData O)) (cs ds : List (ChildData O)) (k : ℕ) (r : Opening) → slice_get cs k ≡ o → AsksFile opener o cs ds k r → Moves opener cs ds
  asked_moves None cs ds k r g h = subst (λ z. Moves opener cs z) (sym h.0) (stays cs)
  asked_moves (Some c) cs ds k r g h =
      let d = h.0 in
      let to : Moves opener cs (slice_set cs k d) = record {
        turns = λ j. each_set (λ o p. turns_of opener p ≤ turns_of opener o) (λ o. omega arith) cs k c d g (child_turns c d r h.2) j;
        faults = λ j. each_set (λ o p. faults_of opener o ≤ faults_of opener p) (λ o. omega arith) cs k c d g (child_faults c d r h.2) j;
      } in
      subst (λ z. Moves opener cs z) (sym h.1) to

  pub asks_move : (cs ds : List (ChildData O)) (k : ℕ) (r : Opening) → Asks opener cs ds k r → Moves opener cs ds
  asks_move cs ds k r h = asked_moves (slice_get cs k) cs ds k r refl h

  -- an opener that puts off its answer loses a turn
  waiting_child : (c d : ChildData O) → AsksChild opener c d Pending → turns_of opener (Some d) < turns_of opener (Some c)
  waiting_child (opened l n) d h = absurd h.1
  waiting_child (deferred o n) d h = let is = h.1 in let fell = h.2.1 in rw is fell

  waited : (o : Option (ChildData O)) (cs ds : List (ChildData O)) (k : ℕ) → slice_get cs k ≡ o → AsksFile opener o cs ds k Pending → Waited opener cs ds
  waited None cs ds k g h = absurd (let no = h.1 in cc)
  waited (Some c) cs ds k g h =
      let d = h.0 in
      let now : turns_at opener ds k ≡ turns_of opener (Some d) = ap (λ z. turns_at opener z k) h.1 ∙ ap (turns_of opener) (got cs k c d g) in
      let then : turns_at opener cs k ≡ turns_of opener (Some c) = ap (turns_of opener) g in
      (k, rw (now, then) (waiting_child c d h.2))

  pub asks_wait : (cs ds : List (ChildData O)) (k : ℕ) → Asks opener cs ds k Pending → Waited opener cs ds
  asks_wait cs ds k h = waited (slice_get cs k) cs ds k refl h

  pub waited_wider : (a b c : List (ChildData O)) → Moves opener a b → Waited opener b c → Waited opener a c
  waited_wider a b c m w = (w.0, let x = m.turns w.0 in let y = w.1 in omega (arith, x, y))

  pub waited_then : (a b c : List (ChildData O)) → Waited opener a b → Moves opener b c → Waited opener a c
  waited_then a b c w m = (w.0, let x = m.turns w.0 in let y = w.1 in omega (arith, x, y))

  -- one that fails raises its count
  failing_child : (c d : ChildData O) → AsksChild opener c d Failed → Rose (faults_of opener (Some c)) (faults_of opener (Some d))
  failing_child (opened l n) d h = absurd h.1
  failing_child (deferred o n) d h = let is = h.1 in let rose = h.2.1.0 in rw is rose

  failed : (o : Option (ChildData O)) (cs ds : List (ChildData O)) (k : ℕ) → slice_get cs k ≡ o → AsksFile opener o cs ds k Failed → asks.Failed opener cs ds k
  failed None cs ds k g h = absurd (let no = h.1 in cc)
  failed (Some c) cs ds k g h =
      let d = h.0 in
      let now : faults_at opener ds k ≡ faults_of opener (Some d) = ap (λ z. faults_at opener z k) h.1 ∙ ap (faults_of opener) (got cs k c d g) in
      let then : faults_at opener cs k ≡ faults_of opener (Some c) = ap (faults_of opener) g in
      rw (now, then) (failing_child c d h.2)

  pub asks_fail : (cs ds : List (ChildData O)) (k : ℕ) → Asks opener cs ds k Failed → asks.Failed opener cs ds k
  asks_fail cs ds k h = failed (slice_get cs k) cs ds k refl h

  pub failed_wider : (a b c d : List (ChildData O)) (k : ℕ) → Moves opener a b → asks.Failed opener b c k → Moves opener c d → asks.Failed opener a d k
  failed_wider a b c d k m f n = rose_wider (faults_at opener a k) (faults_at opener b k) (faults_at opener c k) (faults_at opener d k) (m.faults k) (n.faults k) f

  -- the file at a place is asked
  pub asks_at : (xs : List (MultiLayoutChild O)) (k : ℕ) (x y : MultiLayoutChild O) (r : Opening) → k < length xs → x ≡ get_or xs k x → AsksChild opener (child_data x) (child_data y) r
      → Asks opener (map child_data xs) (map child_data (set xs k y)) k r
  asks_at xs k x y r within is h =
      subst (λ o. AsksFile opener o (map child_data xs) (map child_data (set xs k y)) k r) (sym (map_get child_data xs k x is within))
      (child_data y, map-set child_data xs k y, h)

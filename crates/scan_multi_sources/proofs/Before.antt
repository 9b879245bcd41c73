-- Files that were handed in opened, before the one that is looked at.
use Rattle.std.proofs.Common.{◌≡◌, ◌≤◌, ◌<◌, ◌+◌, ◌||◌, ℕ, zero, suc, Bool, true, false, List, [], ◌∷◌, length, take, Option, Some, None, refl, ap, sym, subst, ◌∙◌, length-append, arith}
use Rattle.std.proofs.lemmas.List.{length-set, take-append-le}
use Rattle.std.proofs.lemmas.List.Edits.{length-remove}
use Rattle.std.specs.List.{list_any, remove, slice_get}
use Rattle.scan_opener.specs.Opener.{OpenerState}
use Rattle.scan_opener.specs.declared.opener.Opening.{Opening}
use Rattle.scan_opener.specs.declared.opener.Opening.TheVariants as opening
use Rattle.scan_sources.specs.declared.request.BoundScanRequest.{BoundScanRequest}
use Rattle.scan_multi_sources.specs.Children.{ChildData, deferred, is_open, is_open_file, opened}
use Rattle.scan_multi_sources.specs.Files.{StageData, slot_data}
use Rattle.scan_multi_sources.specs.Files as file
use Rattle.scan_multi_sources.specs.MultiScans.{FindsAt, MultiScan, PollsFile, begun, delivered_at, kept_at, left_out}
use Rattle.scan_multi_sources.specs.Opens.{Asks, AsksChild, AsksFile, Found}
use Rattle.scan_multi_sources.specs.Polls.{LooksAt, begins_open}
use Rattle.scan_multi_sources.proofs.Finding.{each_set}

-- ---- lists
both_false : (a b : Bool) → a ≡ false → b ≡ false → (a || b) ≡ false
both_false true b h k = absurd cc
both_false false b h k = k

or_false : (a b : Bool) → (a || b) ≡ false → (a ≡ false) × (b ≡ false)
or_false true b h = absurd cc
or_false false b h = (refl, h)

take_none : {A : Type 0} (xs : List A) → take 0 xs ≡ []
take_none [] = refl
take_none (x ∷ xs) = refl

take_removed : {A : Type 0} (xs : List A) (i : ℕ) → take i (remove xs i) ≡ take i xs
take_removed [] zero = refl
take_removed [] (suc i) = refl
take_removed (x ∷ xs) zero = take_none xs
take_removed (x ∷ xs) (suc i) = ap (λ ys. x ∷ ys) (take_removed xs i)

any_same : {A : Type 0} (p q : A → Bool) → ((x : A) → p x ≡ q x) → (xs : List A) → list_any p xs ≡ list_any q xs
any_same p q h [] = refl
any_same p q h (x ∷ xs) = ap (λ b. b || list_any p xs) (h x) ∙ ap (λ b. q x || b) (any_same p q h xs)

module _ {A : Type 0} (p : A → Bool) where
  pub any_none : (xs : List A) → list_any p (take 0 xs) ≡ false
  any_none xs = ap (λ ys. list_any p ys) (take_none xs)

  any_suc : (xs : List A) (i : ℕ) (y : A) → slice_get xs i ≡ Some y → p y ≡ false → list_any p (take i xs) ≡ false → list_any p (take (suc i) xs) ≡ false
  any_suc [] i y g closed h = absurd cc
  any_suc (x ∷ xs) zero y g closed h = let is : x ≡ y = cc in both_false (p x) (list_any p (take zero xs)) (subst (λ z. p z ≡ false) (sym is) closed) (any_none xs)
  any_suc (x ∷ xs) (suc i) y g closed h = let both = or_false (p x) (list_any p (take i xs)) h in both_false (p x) (list_any p (take (suc i) xs)) both.0 (any_suc xs i y g closed both.1)

  any_next : (xs : List A) (i : ℕ) (y : A) → slice_get xs i ≡ Some y → p y ≡ false → list_any p (take i xs) ≡ false → list_any p (take (i + 1) xs) ≡ false
  any_next xs i y g closed h = let e : suc i ≡ i + 1 = omega arith in subst (λ n. list_any p (take n xs) ≡ false) e (any_suc xs i y g closed h)

-- ---- an opener that is polled
module _ {O : Type 0} (opener : O → OpenerState) where
  open_child : (c d : ChildData O) (r : Opening) → AsksChild opener c d r → is_open_file (Some d) ≡ is_open_file (Some c)
  open_child (opened l n) d r h = ap (λ z. is_open_file (Some z)) h.0
  open_child (deferred o n) d r h = ap (λ z. is_open_file (Some z)) h.1

  open_file : (o : Option (ChildData O)) (cs ds : List (ChildData O)) (k : ℕ) (r : Opening) → slice_get cs k ≡ o → AsksFile opener o cs ds k r → (j : ℕ) → is_open ds j ≡ is_open cs j
  open_file None cs ds k r g h j = ap (λ z. is_open z j) h.0
  open_file (Some c) cs ds k r g h j = ap (λ z. is_open z j) h.1 ∙ each_set (λ o p. is_open_file p ≡ is_open_file o) (λ o. refl) cs k c h.0 g (open_child c h.0 r h.2) j

  -- what is opened was handed in so
  pub asks_open : (cs ds : List (ChildData O)) (k : ℕ) (r : Opening) → Asks opener cs ds k r → (j : ℕ) → is_open ds j ≡ is_open cs j
  asks_open cs ds k r h j = open_file (slice_get cs k) cs ds k r refl h j

  closed : (o : Option (ChildData O)) (cs ds : List (ChildData O)) (k : ℕ) → slice_get cs k ≡ o → AsksFile opener o cs ds k opening.Pending → is_open cs k ≡ false
  closed None cs ds k g h = ap (λ z. is_open_file z) g
  closed (Some (opened l n)) cs ds k g h = absurd h.2.1
  closed (Some (deferred o n)) cs ds k g h = ap (λ z. is_open_file z) g

  -- a file that waits was not
  asks_closed : (cs ds : List (ChildData O)) (k : ℕ) → Asks opener cs ds k opening.Pending → is_open cs k ≡ false
  asks_closed cs ds k h = closed (slice_get cs k) cs ds k refl h

  pub polled_open : (s looked : MultiScan O) (k : ℕ) (r : Opening) → PollsFile opener s looked k r → (j : ℕ) → is_open looked.source.children j ≡ is_open s.source.children j
  polled_open s looked k r h j = ap (λ z. is_open z.source.children j) h.2 ∙ ap (λ z. is_open z.children j) h.1.2 ∙ asks_open s.source.children h.1.0 k r h.1.1 j

  pub polled_closed : (s looked : MultiScan O) (k : ℕ) → PollsFile opener s looked k opening.Pending → is_open looked.source.children k ≡ false
  polled_closed s looked k h = polled_open s looked k opening.Pending h k ∙ asks_closed s.source.children h.1.0 k h.1.1

module _ {O : Type 0} where
  -- ---- the same files, and the same openers
  looks_same : (s t : MultiScan O) (i : ℕ) → t.window ≡ s.window → t.request ≡ s.request → ((j : ℕ) → is_open t.source.children j ≡ is_open s.source.children j) → LooksAt s i → LooksAt t i
  looks_same s t i window request same h = record {
    within = subst (λ ws. i ≤ length ws) (sym window) h.within;
    before = λ o.
        ap (λ ws. list_any (begins_open t) (take i ws)) window
        ∙ any_same (begins_open t) (begins_open s) (λ w. same w.place) (take i s.window)
        ∙ h.before (sym (ap (λ (q : BoundScanRequest). q.ordered) request) ∙ o);
  }

  pub looks_start : (s : MultiScan O) → LooksAt s 0
  looks_start s = record { within = omega arith; before = λ o. any_none (begins_open s) s.window }

  pub finds_looks : (opener : O → OpenerState) (t : StageData) (s new : MultiScan O) (k : ℕ) (f : Found) → FindsAt opener t s new k f → (i : ℕ) → LooksAt s i → LooksAt new i
  finds_looks opener file.opening s new k f h i b = looks_same s new i (ap (λ z. z.window) h.1.2) (ap (λ z. z.request) h.1.2) (polled_open opener s new k h.0 h.1) b
  finds_looks opener (file.opened l) s new k f h i b = subst (λ z. LooksAt z i) (sym h.1) b
  finds_looks opener file.failed s new k f h i b = subst (λ z. LooksAt z i) (sym h.1) b

  -- ---- the next index
  pub looks_next : (s : MultiScan O) (i k : ℕ) (st : StageData) → slice_get s.window i ≡ Some (slot_data k st) → is_open s.source.children k ≡ false → i < length s.window → LooksAt s i → LooksAt s (i + 1)
  looks_next s i k st g closed l b = record { within = omega (arith, l); before = λ o. any_next (begins_open s) s.window i (slot_data k st) g closed (b.before o) }

  pub looks_kept : (s : MultiScan O) (i k : ℕ) (st : StageData) → i < length s.window → s.request.ordered ≡ true → LooksAt (kept_at s i k st) (i + 1)
  looks_kept s i k st l ordered = record {
    within = let n = length-set s.window i (slot_data k st) in omega (arith, n, l);
    before = λ o. let bad : true ≡ false = sym ordered ∙ o in absurd cc;
  }

  pub looks_left : (s : MultiScan O) (i : ℕ) → i < length s.window → LooksAt s i → LooksAt (left_out s i) i
  looks_left s i l b = record {
    within = let n = length-remove s.window i l in omega (arith, n, l);
    before = λ o. ap (λ ws. list_any (begins_open s) ws) (take_removed s.window i) ∙ b.before o;
  }

  pub looks_delivered : (s : MultiScan O) (i : ℕ) → i < length s.window → LooksAt s i → LooksAt (delivered_at s i) i
  looks_delivered s i l b = record {
    within = let n = length-remove s.window i l in omega (arith, n, l);
    before = λ o. ap (λ ws. list_any (begins_open s) ws) (take_removed s.window i) ∙ b.before o;
  }

  pub looks_begun : (s : MultiScan O) (i k : ℕ) (ks : List ℕ) → LooksAt s i → LooksAt (begun s k ks) i
  looks_begun s i k ks b = record {
    within = let n = length-append s.window (slot_data k file.opening ∷ []) in let w = b.within in omega (arith, n, w);
    before = λ o. ap (λ ws. list_any (begins_open s) ws) (take-append-le i s.window (slot_data k file.opening ∷ []) b.within) ∙ b.before o;
  }

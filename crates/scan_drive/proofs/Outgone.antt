-- A step over the chunks that wait is the same step behind those that were taken before.
use Rattle.std.proofs.Common.{◌≡◌, ℕ, ◌+◌, List, [], ◌∷◌, ◌++◌, Bool, true, false, Option, Some, None, refl, sym, ap, ◌∙◌, subst, arith, append_assoc, All, IsPermutation, zero, suc}
use Rattle.std.specs.Prelude.{option_map}
use Rattle.std.proofs.lemmas.List.Elements.{All-nil, All-cons, All-head, All-tail, All-append}
use Rattle.scan_segments.specs.Source.{Store}
use Rattle.scan_splits.specs.Arrivals.{Arrivals}
use Rattle.scan_drive.specs.Actives.{groups_left}
use Rattle.scan_drive.specs.Chunks.{given, limit_of, HasRow, IsOf, KeepsRows, KeepsFiles, IsMore, IsCut, IsHeld, IsDeliverFault}
use Rattle.scan_drive.specs.Desks.{Waiters}
use Rattle.scan_drive.specs.Files.{Group, count}
use Rattle.scan_drive.specs.Forward.{Rephased, KeepsLine}
use Rattle.scan_drive.specs.Grants.{AreSame, AreGiven}
use Rattle.scan_drive.specs.Handed.{with_taken}
use Rattle.scan_drive.specs.Outgoing.{Outgoing}
use Rattle.scan_drive.specs.Rounds.{Stands}
use Rattle.scan_drive.specs.Splits.{SplitState, Event}
use Rattle.scan_drive.specs.declared.active.Active.{Active}
use Rattle.scan_drive.specs.declared.delivery.Chunk.{Chunk}
use Rattle.scan_drive.specs.declared.delivery.DriveFault.{DriveFault}
use Rattle.scan_drive.specs.declared.delivery.DriveFault.TheVariants as fault
use Rattle.scan_drive.specs.declared.files.ScanFile.{ScanFile}
use Rattle.scan_drive.specs.declared.phase.Phase.{Phase}
use Rattle.scan_drive.specs.declared.round.Drive.{Drive}
use Rattle.scan_drive.specs.declared.slot.Halt.{Halt}
use Rattle.scan_drive.specs.declared.slot.Halt.TheVariants as halt
use Rattle.scan_drive.specs.declared.slot.Slot.{Slot}
use Rattle.scan_drive.proofs.Fronts.{given_append}
use Rattle.scan_drive.proofs.Giving.{count_append, cut_past}
use Rattle.scan_drive.proofs.Same.{same_refl, same_append, fronts_itself, fronts_append, rows_cut}
use Rattle.std.proofs.lemmas.List.Sorted.{IsPermutation-append_right}

-- ---- what holds of all elements of two lists
module _ {X : Type 0} (P : X → Type 0) where
  pub all_first : (xs ys : List X) → All P (xs ++ ys) → All P xs
  all_first [] ys h = All-nil P
  all_first (x ∷ xs) ys h = All-cons P x xs (All-head P x (xs ++ ys) h) (all_first xs ys (All-tail P x (xs ++ ys) h))

  pub all_second : (xs ys : List X) → All P (xs ++ ys) → All P ys
  all_second [] ys h = h
  all_second (x ∷ xs) ys h = all_second xs ys (All-tail P x (xs ++ ys) h)

  pub all_behind : (ts xs ys : List X) → (All P xs → All P ys) → All P (ts ++ xs) → All P (ts ++ ys)
  all_behind ts xs ys f h = All-append P ts ys (all_first ts xs h) (f (all_second ts xs h))

limit_more : (a n m : ℕ) (l k : Option ℕ) → limit_of m k ≡ limit_of n l → limit_of (a + m) k ≡ limit_of (a + n) l
limit_more a n m l k e = over m k ∙ ap (λ o. option_map (λ x. a + x) o) e ∙ sym (over n l)
  where
    over : (n : ℕ) (l : Option ℕ) → limit_of (a + n) l ≡ option_map (λ x. a + x) (limit_of n l)
    over n None = refl
    over n (Some x) = ap Some (let z : a + n + x ≡ a + (n + x) = omega arith in z)

module _ {W R F : Type 0} where
  pub stands_taken : (ts : List (Chunk R)) (n : ℕ) (d : Drive W R F) → Stands n d → Stands n (with_taken ts d)
  stands_taken ts n d s = record { lens = s.lens; first = s.first; below = s.below; ready = s.ready; room = s.room; budget = s.budget }

  pub stands_back : (ts : List (Chunk R)) (n : ℕ) (d : Drive W R F) → Stands n (with_taken ts d) → Stands n d
  stands_back ts n d s = record { lens = s.lens; first = s.first; below = s.below; ready = s.ready; room = s.room; budget = s.budget }

  pub rest_taken : (ts : List (Chunk R)) (d e : Drive W R F) → (e.chunks ≡ d.chunks) × (e.left ≡ d.left) × (e.report ≡ d.report) × (e.ordered ≡ d.ordered) × (e.budget ≡ d.budget)
      → ((with_taken ts e).chunks ≡ (with_taken ts d).chunks) × (e.left ≡ d.left) × (e.report ≡ d.report) × (e.ordered ≡ d.ordered) × (e.budget ≡ d.budget)
  rest_taken ts d e r = (λ i. record { items = ts ++ (r.0 i).items }, r.1, r.2, r.3, r.4)

  -- what is handed over stands behind what was taken
  pub moved_over : (ts us moved rest : List (Chunk R)) (d : Drive W R F) (o : Outgoing (Chunk R)) → d.chunks.items ≡ moved ++ rest → o.items ≡ rest → with_taken (ts ++ us) d ≡ with_taken (ts ++ (us ++ moved)) (record d { chunks = o })
  moved_over ts us moved rest d o were left = λ i. record d { chunks = record { items = same i } }
    where
      same : (ts ++ us) ++ d.chunks.items ≡ (ts ++ (us ++ moved)) ++ o.items
      same =
          ap (λ xs. (ts ++ us) ++ xs) were ∙ sym (append_assoc (ts ++ us) moved rest) ∙ ap (λ xs. xs ++ rest) (append_assoc ts us moved)
          ∙ ap (λ xs. (ts ++ (us ++ moved)) ++ xs) (sym left)

  rephased_taken : (ts : List (Chunk R)) (ps : List (Phase W F)) (d e : Drive W R F) → Rephased ps d e → Rephased ps (with_taken ts d) (with_taken ts e)
  rephased_taken ts ps d e r = record {
    phases_are = r.phases_are;
    active = r.active;
    chunks = λ i. record { items = ts ++ (r.chunks i).items };
    first = r.first;
    tally = r.tally;
    left = r.left;
    report = r.report;
    ordered = r.ordered;
    budget = r.budget;
    unclaimed = r.unclaimed;
  }

  pub line_taken : {O S : Type 0} (ts : List (Chunk R)) (workers : ℕ) (log log' : List (ℕ × ℕ)) (files files' : List (ScanFile O S)) (desks desks' : List Waiters) (d e : Drive W R F)
      → KeepsLine workers log log' files files' desks desks' d e → KeepsLine workers log log' files files' desks desks' (with_taken ts d) (with_taken ts e)
  line_taken ts workers log log' files files' desks desks' d e k = record {
    last = k.last;
    frees = k.frees;
    there = k.there;
    brings = record {
      places = k.brings.places;
      log_is = k.brings.log_is;
      files_are = k.brings.files_are;
      desks_are = k.brings.desks_are;
      rephased = rephased_taken ts _ d e k.brings.rephased;
      spare = k.brings.spare;
      within = k.brings.within;
      none = λ n. ap (with_taken ts) (k.brings.none n);
    };
  }

module _ {R I : Type 0} (items : R → List I) (ts : List (Chunk R)) where
  pub rows_taken : (xs ys : List (Chunk R)) → KeepsRows items xs ys → KeepsRows items (ts ++ xs) (ts ++ ys)
  rows_taken xs ys k = all_behind (HasRow items) ts xs ys k

  counted : (xs : List (Chunk R)) → count (given items (ts ++ xs)) ≡ count (given items ts) + count (given items xs)
  counted xs = ap count (given_append items ts xs) ∙ count_append (given items ts) (given items xs)

  limits : (xs ys : List (Chunk R)) (l k : Option ℕ) → limit_of (count (given items ys)) k ≡ limit_of (count (given items xs)) l → limit_of (count (given items (ts ++ ys))) k ≡ limit_of (count (given items (ts ++ xs))) l
  limits xs ys l k e =
      ap (λ n. limit_of n k) (counted ys) ∙ limit_more (count (given items ts)) (count (given items xs)) (count (given items ys)) l k e ∙ sym (ap (λ n. limit_of n l) (counted xs))

  joined : (xs : List (Chunk R)) (gs : List (Group I)) → given items (ts ++ xs) ++ gs ≡ given items ts ++ (given items xs ++ gs)
  joined xs gs = ap (λ hs. hs ++ gs) (given_append items ts xs) ∙ append_assoc (given items ts) (given items xs) gs

  same_taken : (b : Bool) (xs ys : List (Chunk R)) (gs hs : List (Group I)) → AreSame b (given items ys ++ hs) (given items xs ++ gs) → AreSame b (given items (ts ++ ys) ++ hs) (given items (ts ++ xs) ++ gs)
  same_taken b xs ys gs hs h =
      subst (λ ks. AreSame b ks (given items (ts ++ xs) ++ gs)) (sym (joined ys hs)) (subst (λ ks. AreSame b (given items ts ++ (given items ys ++ hs)) ks) (sym (joined xs gs))
      (same_append b (given items ts) (given items ts) (given items ys ++ hs) (given items xs ++ gs) (same_refl b (given items ts)) h))

  -- what is given up to a limit
  given_taken : (b : Bool) (n : ℕ) (all : List (Group I)) (ys : List (Chunk R)) → AreGiven b (Some n) all (given items ys) → AreGiven b (Some (count (given items ts) + n)) (given items ts ++ all) (given items (ts ++ ys))
  given_taken b n all ys h = subst (AreGiven b (Some (count (given items ts) + n)) (given items ts ++ all)) (sym (given_append items ts ys)) (go b h)
    where
      gs : List (Group I)
      gs = given items ts

      never : ◌≡◌ {A = Option ℕ} (Some (count gs + n)) None → ⊥
      never e = cc

      go : (c : Bool) → AreGiven c (Some n) all (given items ys) → AreGiven c (Some (count gs + n)) (gs ++ all) (gs ++ given items ys)
      go true e = ap (λ hs. gs ++ hs) e ∙ sym (cut_past items ts n all)
      go false k = record {
        whole = gs ++ k.whole;
        others = k.others;
        among = subst (λ ws. IsPermutation ws (gs ++ all)) (sym (append_assoc gs k.whole k.others)) (IsPermutation-append_right gs (k.whole ++ k.others) all k.among);
        fronts = fronts_append gs gs (given items ys) k.whole (fronts_itself gs) k.fronts;
        rows = (let a = count_append gs (given items ys) in let b = count_append gs all in let r = k.rows in let p = rows_cut n all in let q = rows_cut (count gs + n) (gs ++ all) in omega (arith, a, b, r, p, q));
        free = λ none. absurd (never none);
      }

module _ {W R : Type 0} where
  pub files_taken : (ts : List (Chunk R)) (slots : List (Slot W R)) (xs ys : List (Chunk R)) → KeepsFiles slots xs ys → KeepsFiles slots (ts ++ xs) (ts ++ ys)
  files_taken ts slots xs ys k n w = all_behind (IsOf n) ts xs ys (k n w)

module _ {W I R : Type 0} (split : W → SplitState I) (comes : W → Arrivals → Store → Event → Type 0) (items : R → List I) (ts : List (Chunk R)) where
  pub more_taken : (ordered : Bool) (old new : Active W R) (xs ys : List (Chunk R)) (l k : Option ℕ) → IsMore split comes items ordered old new xs ys l k → IsMore split comes items ordered old new (ts ++ xs) (ts ++ ys) l k
  more_taken ordered old new xs ys l k m = record {
    groups = λ tale all ok. same_taken items ts ordered xs ys (groups_left split comes items tale old) (groups_left split comes items tale new) (m.groups tale all ok);
    counts = record { limit = limits items ts xs ys l k m.counts.limit; room = m.counts.room };
    order = m.order;
  }

  pub cut_taken : (ordered : Bool) (old : Active W R) (xs ys : List (Chunk R)) (l : Option ℕ) → IsCut split comes items ordered old xs ys l → IsCut split comes items ordered old (ts ++ xs) (ts ++ ys) l
  cut_taken ordered old xs ys l c = record {
    most = count (given items ts) + c.most;
    was = ap (λ n. limit_of n l) (counted items ts xs) ∙ limit_more (count (given items ts)) c.most (count (given items xs)) (Some 0) l (c.was ∙ ap Some (let z : c.most ≡ c.most + 0 = omega arith in z)) ∙ ap Some (let z : count (given items ts) + c.most + 0 ≡ count
        (given items ts) + c.most = omega arith in z);
    met = counted items ts ys ∙ ap (λ n. count (given items ts) + n) c.met;
    groups = λ tale all ok later. subst (λ gs. AreGiven ordered (Some (count (given items ts) + c.most)) gs (given items (ts ++ ys))) (sym (joined items ts xs (groups_left split comes items tale old ++ later)))
        (given_taken items ts ordered c.most (given items xs ++ (groups_left split comes items tale old ++ later)) ys (c.groups tale all ok later));
  }

  pub fault_taken : (old new : Active W R) (xs ys : List (Chunk R)) (l k : Option ℕ) (e : DriveFault) → IsDeliverFault split comes items old new xs ys l k e → IsDeliverFault split comes items old new (ts ++ xs) (ts ++ ys) l k e
  fault_taken old new xs ys l k fault.NoMemory h = tt
  fault_taken old new xs ys l k (fault.Source file id) h = record { turn = h.turn; rows = rows_taken items ts xs ys h.rows; more = more_taken true old new xs ys l k h.more }
  fault_taken old new xs ys l k (fault.Corrupt file id) h = record { turn = h.turn; rows = rows_taken items ts xs ys h.rows; more = more_taken true old new xs ys l k h.more }
  fault_taken old new xs ys l k (fault.Overflow file) h = record { turn = h.turn; rows = rows_taken items ts xs ys h.rows; more = more_taken true old new xs ys l k h.more }

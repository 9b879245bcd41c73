-- Wants and polls of one segment, as steps.
use Rattle.std.proofs.Common.{◌≡◌, ◌≤◌, ◌<◌, ◌++◌, ◌||◌, ℕ, Bool, true, false, cond, List, [], ◌∷◌, Option, Some, None, is_some, inl, inr, refl, sym, ap, ◌∙◌, subst, arith, append-nil, eqb, nat_eq}
use Rattle.std.specs.Prelude.{◌⊎◌, IfSome, IsSome, OnOk, OnErr, IfErr, Result, Ok, Err}
use Rattle.std.specs.FinMap as map
use Rattle.std.specs.Cmp.{nat_cmp_total}
use Rattle.std.proofs.lemmas.Bool.Decides.{nat_tests}
use Rattle.scan_values.specs.Selections.{is_among}
use Rattle.scan_segments.specs.Cache.{Entries, Loses, Stores, Both}
use Rattle.scan_segments.specs.Cached.{Offers}
use Rattle.scan_segments.specs.Source.{SourceState, Store, Begins, TellsBytes, TellsNone}
use Rattle.scan_segments.specs.declared.segment.SegmentKey.{SegmentKey}
use Rattle.scan_segments.proofs.LiveSets.{at-id}
use Rattle.scan_splits.specs.Arrivals.{Arrivals, Agrees, content}
use Rattle.scan_splits.specs.declared.inbox.Arrival.{Arrival}
use Rattle.scan_splits.specs.declared.inbox.Arrival.TheVariants as arrival
use Rattle.scan_drive.specs.Desks.{Waiters, waiters_at, Agree, Moves, Asks, Tells, Replies, Stay}
use Rattle.scan_drive.specs.Drivings.{IsKeptIn, SourceFailed}
use Rattle.scan_drive.specs.Ledger.{KeepsLedger, KeepsWant, KeepsReply}
use Rattle.scan_drive.specs.Sources.{SourceMoves, NoId}
use Rattle.scan_drive.specs.Trades.{Trusts, Trades}
use Rattle.scan_drive.specs.Traffic.{key_of}
use Rattle.scan_drive.specs.Wants.{Cache, OnlyLoses, IsHit, IsMiss, IsWanted, IsUnwanted, PutsWhatCame, counted}
use Rattle.scan_drive.specs.declared.cached.Wanted.{Wanted}
use Rattle.scan_drive.specs.declared.cached.Wanted.TheVariants as wanted
use Rattle.scan_drive.specs.declared.desk.Reply.{Reply}
use Rattle.scan_drive.specs.declared.desk.Reply.TheVariants as reply
use Rattle.scan_drive.proofs.Balancing.{same_asked}
use Rattle.scan_drive.proofs.Desking.{moved}
use Rattle.scan_drive.proofs.Failing.{rose_before, asked_ids}
use Rattle.scan_drive.proofs.Keeping.{agrees_arrival}
use Rattle.scan_drive.proofs.Serving.{kept_less}
use Rattle.scan_drive.proofs.Trading.{trades_came, trusted}
use Rattle.scan_fetch.specs.declared.fetching.Miss.{Miss}
use Rattle.scan_fetch.specs.declared.fetching.Miss.TheVariants as miss
use Rattle.scan_fetch.specs.Fetches.{KeepsCounts, Point, point, is_live, is_here, IsApart, MayAsk, Stays, IsMet, Goes, Settles, Wants, Meets, Takes, Came, FailsOver, Misses}
use Rattle.scan_fetch.proofs.Stepping.{Step, Lets, goes_by, goes_self, step_leaves}

-- ---- an inbox with an arrival more
pub got : (a : Arrivals) (id : ℕ) (v : Arrival) (q : ℕ) → map.get (map.insert a id v) q ≡ cond (eqb id q) (Some v) (map.get a q)
got a id v q = map.get-insert nat_cmp_total a id v q ∙ ap (λ b. cond b (Some v) (map.get a q)) (at-id q id)

same_number : (m n : ℕ) → eqb m n ≡ true → m ≡ n
same_number m n e = grind (arith, nat_tests)

eqb_self : (n : ℕ) → eqb n n ≡ true
eqb_self n = grind (arith, nat_tests)

here_self : (a : Arrivals) (id : ℕ) (v : Arrival) → is_some (map.get (map.insert a id v) id) ≡ true
here_self a id v = ap is_some (got a id v id ∙ ap (λ b. cond b (Some v) (map.get a id)) (eqb_self id))

here_more : (a : Arrivals) (id : ℕ) (v : Arrival) (q : ℕ) → is_some (map.get a q) ≡ true → is_some (map.get (map.insert a id v) q) ≡ true
here_more a id v q h = ap is_some (got a id v q) ∙ go (eqb id q)
  where
    go : (b : Bool) → is_some (cond b (Some v) (map.get a q)) ≡ true
    go true = refl
    go false = h

here_was : (a : Arrivals) (id : ℕ) (v : Arrival) (q : ℕ) → is_some (map.get (map.insert a id v) q) ≡ true → (id ≡ q) ⊎ (is_some (map.get a q) ≡ true)
here_was a id v q h = go (eqb id q) refl (sym (ap is_some (got a id v q)) ∙ h)
  where
    go : (b : Bool) → eqb id q ≡ b → is_some (cond b (Some v) (map.get a q)) ≡ true → (id ≡ q) ⊎ (is_some (map.get a q) ≡ true)
    go true e k = inl (same_number id q e)
    go false e k = inr k

holds_more : (store : Store) (a : Arrivals) (id : ℕ) (v : Arrival) → store id ≡ content v → Agrees store a → Agrees store (map.insert a id v)
holds_more store a id v t h = agrees_arrival store a id v t h

other_none : (a : Arrivals) (id : ℕ) (v : Arrival) (q : ℕ) → (id ≡ q → ⊥) → map.get a q ≡ None → map.get (map.insert a id v) q ≡ None
other_none a id v q n h = got a id v q ∙ go (eqb id q) refl
  where
    go : (b : Bool) → eqb id q ≡ b → cond b (Some v) (map.get a q) ≡ None
    go true e = absurd (n (same_number id q e))
    go false e = h

none_some : (o : Option Arrival) → o ≡ None → is_some o ≡ true → ⊥
none_some None e h = cc
none_some (Some v) e h = cc

true_false : (b : Bool) → b ≡ true → b ≡ false → ⊥
true_false true p q = cc
true_false false p q = cc

only_one : (x id : ℕ) → is_among (x ∷ []) id ≡ true → x ≡ id
only_one x id n = go (eqb x id) refl n
  where
    go : (b : Bool) → eqb x id ≡ b → (b || false) ≡ true → x ≡ id
    go true e k = same_number x id e
    go false e k = absurd cc

-- ---- a cache of which entries only went
both_loses : (n : List ℕ) (store : Store) (o p : Option (Entries SegmentKey)) → Both o p Loses → IsSome o → IfSome o (λ m. (id : ℕ) (b : List ℕ) → m (key_of n id) ≡ Some b → store id ≡ Some b)
    → IsSome p × IfSome p (λ m. (id : ℕ) (b : List ℕ) → m (key_of n id) ≡ Some b → store id ≡ Some b)
both_loses n store None p b t u = absurd cc
both_loses n store (Some x) None b t u = absurd b
both_loses n store (Some x) (Some y) b t u = (refl, λ id v e. u id v (b (key_of n id) v e))

loses_trusts : (n : List ℕ) (store : Store) (c d : Cache) → OnlyLoses c d → Trusts n store c → Trusts n store d
loses_trusts n store c d l t = let r = both_loses n store c.entries d.entries l t.tells t.agrees in record { tells = r.0; agrees = r.1 }

looked_trades : (name : List ℕ) (s t : SourceState) (c d : Cache) → OnlyLoses c d → KeepsLedger name s t c d → Trades name s t c d
looked_trades name s t c d l ledger = record { trusts = λ n store h u. loses_trusts n store c d l u; ledger = ledger }

-- ---- a want for which memory is short
module _ (name ids : List ℕ) (s t : SourceState) (c d : Cache) (old new : Waiters) (a : Arrivals) (u : IsUnwanted c d s t old new) (ledger : KeepsLedger name s t c d) where
  unwanted_live : (id : ℕ) → t.live id ≡ true → s.live id ≡ true
  unwanted_live id l = sym (ap (λ (f : ℕ → Bool). f id) u.source.live) ∙ l

  pub unwanted_step : Step name ids (point s c old a) (point t d new a)
  unwanted_step = record {
    holds = u.source.holds;
    faults = u.source.faults;
    turns = u.source.turns;
    can_fail = u.source.can_fail;
    more = [];
    asked = u.source.asked ∙ sym (append-nil s.asked);
    of = λ id n. absurd cc;
    fresh = λ id n m. absurd cc;
    once = refl;
    live_is = λ id l. inl (unwanted_live id l);
    arrives = λ id h. inl h;
    kept = λ id k. inl (kept_less c d name id u.cache.moves.entries k);
    tells = λ store h v k. k;
    trades = looked_trades name s t c d u.cache.moves.entries ledger;
  }

  pub unwanted_lives : (id : ℕ) → t.live id ≡ true → (s.live id ≡ true) ⊎ (is_among ids id ≡ true)
  unwanted_lives id l = inl (unwanted_live id l)

  pub unwanted_apart : IsApart (point s c old a) → IsApart (point t d new a)
  unwanted_apart h id l = h id (unwanted_live id l)

-- ---- a want that the cache has
module _ (key : SegmentKey) (bytes : List ℕ) (s t : SourceState) (c d : Cache) (old new : Waiters) (a b : Arrivals) (is : IsHit key bytes c d s t old new)
    (ledger : KeepsLedger key.source_id s t c d) (dead : s.live key.segment ≡ false) (b_is : (b ≡ map.insert a key.segment (arrival.Bytes bytes)) ⊎ (b ≡ a)) where
  kept_bytes : (o : Option (Entries SegmentKey)) → IfSome o (λ m. m key ≡ Some bytes) → IfSome o (λ m. IsSome (m (key_of key.source_id key.segment)))
  kept_bytes None h = tt
  kept_bytes (Some m) h = ap is_some h

  kept_there : IsKeptIn c key.source_id key.segment
  kept_there = kept_bytes c.entries is.got.1

  hit_arrives : (b ≡ map.insert a key.segment (arrival.Bytes bytes)) ⊎ (b ≡ a) → (id : ℕ) → is_some (map.get b id) ≡ true → (is_some (map.get a id) ≡ true) ⊎ ((s.live id ≡ true) ⊎ IsKeptIn c key.source_id id)
  hit_arrives (inl e) id h = go (here_was a key.segment (arrival.Bytes bytes) id (subst (λ (x : Arrivals). is_some (map.get x id) ≡ true) e h))
    where
      go : (key.segment ≡ id) ⊎ (is_some (map.get a id) ≡ true) → (is_some (map.get a id) ≡ true) ⊎ ((s.live id ≡ true) ⊎ IsKeptIn c key.source_id id)
      go (inl same) = inr (inr (subst (λ (i : ℕ). IsKeptIn c key.source_id i) same kept_there))
      go (inr k) = inl k
  hit_arrives (inr e) id h = inl (subst (λ (x : Arrivals). is_some (map.get x id) ≡ true) e h)

  hit_tells : (b ≡ map.insert a key.segment (arrival.Bytes bytes)) ⊎ (b ≡ a) → (store : Store) → Trusts key.source_id store c → Agrees store a → Agrees store b
  hit_tells (inl e) store u h = subst (λ (x : Arrivals). Agrees store x) (sym e) (holds_more store a key.segment (arrival.Bytes bytes) (trusted key.source_id store c key.segment bytes u is.got.1) h)
  hit_tells (inr e) store u h = subst (λ (x : Arrivals). Agrees store x) (sym e) h

  hit_same : Step key.source_id (key.segment ∷ []) (point s c old a) (point s d new b)
  hit_same = record {
    holds = refl;
    faults = omega arith;
    turns = omega arith;
    can_fail = refl;
    more = [];
    asked = sym (append-nil s.asked);
    of = λ id n. absurd cc;
    fresh = λ id n m. absurd cc;
    once = refl;
    live_is = λ id l. inl l;
    arrives = hit_arrives b_is;
    kept = λ id k. inl (kept_less c d key.source_id id is.got.0.entries k);
    tells = λ store h u k. hit_tells b_is store u k;
    trades = looked_trades key.source_id s s c d is.got.0.entries (subst (λ (x : SourceState). KeepsLedger key.source_id s x c d) is.source ledger);
  }

  pub hit_step : Step key.source_id (key.segment ∷ []) (point s c old a) (point t d new b)
  hit_step = subst (λ (x : SourceState). Step key.source_id (key.segment ∷ []) (point s c old a) (point x d new b)) (sym is.source) hit_same

  hit_more : (b ≡ map.insert a key.segment (arrival.Bytes bytes)) ⊎ (b ≡ a) → (id : ℕ) → is_some (map.get a id) ≡ true → is_some (map.get b id) ≡ true
  hit_more (inl e) id h = subst (λ (x : Arrivals). is_some (map.get x id) ≡ true) (sym e) (here_more a key.segment (arrival.Bytes bytes) id h)
  hit_more (inr e) id h = subst (λ (x : Arrivals). is_some (map.get x id) ≡ true) (sym e) h

  pub hit_stays : Stays (point s c old a) (point t d new b)
  hit_stays id h = hit_more b_is id h

  hit_met : (id : ℕ) → IsMet (point s c old a) id → IsMet (point s d new b) id
  hit_met id (inl l) = inl l
  hit_met id (inr h) = inr (hit_more b_is id h)

  pub hit_goes : KeepsCounts key.source_id s t c d → Goes (MayAsk key.source_id (key.segment ∷ [])) key.source_id (point s c old a) (point t d new b)
  unfolding hit_same
  hit_goes counts =
      subst (λ (x : SourceState). Goes (MayAsk key.source_id (key.segment ∷ [])) key.source_id (point s c old a) (point x d new b)) (sym is.source)
      (goes_by key.source_id (key.segment ∷ []) (point s c old a) (point s d new b) hit_same hit_met (λ id n. absurd cc)
      (subst (λ (x : SourceState). KeepsCounts key.source_id s x c d) is.source counts))

  pub hit_lives : (id : ℕ) → t.live id ≡ true → (s.live id ≡ true) ⊎ (is_among (key.segment ∷ []) id ≡ true)
  hit_lives id l = inl (subst (λ (x : SourceState). x.live id ≡ true) is.source l)

  hit_none : (b ≡ map.insert a key.segment (arrival.Bytes bytes)) ⊎ (b ≡ a) → (id : ℕ) → s.live id ≡ true → map.get a id ≡ None → map.get b id ≡ None
  hit_none (inl e) id l n = subst (λ (x : Arrivals). map.get x id ≡ None) (sym e)
      (other_none a key.segment (arrival.Bytes bytes) id (λ same. true_false (s.live id) l (ap s.live (sym same) ∙ dead)) n)
  hit_none (inr e) id l n = subst (λ (x : Arrivals). map.get x id ≡ None) (sym e) n

  pub hit_apart : IsApart (point s c old a) → IsApart (point t d new b)
  hit_apart h id l = let was : s.live id ≡ true = subst (λ (x : SourceState). x.live id ≡ true) is.source l in hit_none b_is id was (h id was)

-- ---- a want that is asked for
module _ (key : SegmentKey) (place : ℕ) (s t : SourceState) (c d : Cache) (old new : Waiters) (a : Arrivals) (is : IsMiss key place c d s t old new)
    (ledger : KeepsLedger key.source_id s t c d) (agree : Agree s.live old) (dead : waiters_at old key.segment ≡ None) (lacks : map.get a key.segment ≡ None) where
  begins : Begins key.segment s t
  begins = subst (λ (o : Option (List ℕ)). Asks o key.segment s t) dead is.source

  off : s.live key.segment ≡ false
  off = agree key.segment ∙ ap is_some dead

  live_now : (id : ℕ) → t.live id ≡ cond (nat_eq id key.segment) true (s.live id)
  live_now id = ap (λ (f : ℕ → Bool). f id) begins.live

  pub asked_live : (id : ℕ) → t.live id ≡ true → (s.live id ≡ true) ⊎ (is_among (key.segment ∷ []) id ≡ true)
  asked_live id l = go (nat_eq id key.segment) refl (sym (live_now id) ∙ l)
    where
      go : (b : Bool) → nat_eq id key.segment ≡ b → cond b true (s.live id) ≡ true → (s.live id ≡ true) ⊎ (is_among (key.segment ∷ []) id ≡ true)
      go true e k = inr (let same : eqb key.segment id ≡ true = grind (arith, nat_tests) in rw same refl)
      go false e k = inl k

  one : (id : ℕ) → is_among (key.segment ∷ []) id ≡ true → key.segment ≡ id
  one id n = only_one key.segment id n

  not_met : (id : ℕ) → is_among (key.segment ∷ []) id ≡ true → IsMet (point s c old a) id → ⊥
  not_met id n (inl l) = true_false (s.live id) l (ap s.live (sym (one id n)) ∙ off)
  not_met id n (inr h) = none_some (map.get a id) (ap (map.get a) (sym (one id n)) ∙ lacks) h

  pub asked_step : Step key.source_id (key.segment ∷ []) (point s c old a) (point t d new a)
  asked_step = record {
    holds = begins.holds;
    faults = begins.faults;
    turns = begins.turns;
    can_fail = begins.can_fail;
    more = key.segment ∷ [];
    asked = begins.asked;
    of = λ id n. n;
    fresh = not_met;
    once = refl;
    live_is = asked_live;
    arrives = λ id h. inl h;
    kept = λ id k. inl (kept_less c d key.source_id id is.looked.entries k);
    tells = λ store h u k. k;
    trades = looked_trades key.source_id s t c d is.looked.entries ledger;
  }

  live_self : t.live key.segment ≡ true
  live_self = live_now key.segment ∙ (let same : nat_eq key.segment key.segment ≡ true = grind (arith, nat_tests) in rw same refl)

  pub asked_met : IsMet (point t d new a) key.segment
  asked_met = inl live_self

  still_live : (id : ℕ) → s.live id ≡ true → t.live id ≡ true
  still_live id l = live_now id ∙ go (nat_eq id key.segment)
    where
      go : (b : Bool) → cond b true (s.live id) ≡ true
      go true = refl
      go false = l

  met_so : (id : ℕ) → IsMet (point s c old a) id → IsMet (point t d new a) id
  met_so id (inl l) = inl (still_live id l)
  met_so id (inr h) = inr h

  pub asked_goes : KeepsCounts key.source_id s t c d → Goes (MayAsk key.source_id (key.segment ∷ [])) key.source_id (point s c old a) (point t d new a)
  unfolding asked_step
  asked_goes counts = goes_by key.source_id (key.segment ∷ []) (point s c old a) (point t d new a) asked_step met_so (λ id n. subst (λ (i : ℕ). IsMet (point t d new a) i) (one id n) asked_met) counts

  pub asked_apart : IsApart (point s c old a) → IsApart (point t d new a)
  asked_apart h id l = go (asked_live id l)
    where
      go : (s.live id ≡ true) ⊎ (is_among (key.segment ∷ []) id ≡ true) → map.get a id ≡ None
      go (inl was) = h id was
      go (inr n) = ap (map.get a) (sym (one id n)) ∙ lacks

-- how a want is counted
pub counts_want : (name : List ℕ) (s t : SourceState) (c d : Cache) (w : Wanted) → KeepsWant name s t c d w → KeepsCounts name s t c d
counts_want name s t c d w k report = (counted w report, λ lost. k report lost)

on_ok : {T E : Type 0} {P Q : Type 0} (r : Result T E) → (P → Q) → OnOk r P → OnOk r Q
on_ok (Ok x) f p = f p
on_ok (Err e) f p = tt

always : {T E : Type 0} {P : Type 0} (r : Result T E) → P → OnOk r P
always (Ok x) p = p
always (Err e) p = tt

-- an arrival is delivered, or the inbox is as before
pub delivered : {T E : Type 0} {P Q : Type 0} (r : Result T E) → OnOk r P → OnErr r Q → P ⊎ Q
delivered (Ok x) p q = inl p
delivered (Err e) p q = inr q

-- ---- a poll of a live segment
-- what a reply brings
abbrev pub Brings : SegmentKey → Reply → Arrivals → Arrivals → Type 0
Brings key reply.Pending a b = b ≡ a
Brings key (reply.Came v places) a b = (b ≡ map.insert a key.segment v) ⊎ (b ≡ a)
Brings key (reply.Failed places) a b = b ≡ a
Brings key reply.NoMemory a b = b ≡ a

told_content : (s : SourceState) (id : ℕ) (v : Arrival) (store : Store) → s.holds ≡ Some store → Tells s id v → store id ≡ content v
told_content s id (arrival.Bytes bytes) store e t = subst (λ (o : Option Store). IfSome o (λ x. x id ≡ Some bytes)) e t
told_content s id arrival.Missing store e t = subst (λ (o : Option Store). IfSome o (λ x. x id ≡ None)) e t

module _ (key : SegmentKey) (s t : SourceState) (c d : Cache) (old new : Waiters) (a b : Arrivals) (m : SourceMoves NoId s t) (ledger : KeepsLedger key.source_id s t c d)
    (live : s.live key.segment ≡ true) where
  pub was_live : (id : ℕ) → t.live id ≡ true → s.live id ≡ true
  was_live id l = go (m.live id l)
    where
      go : (s.live id ≡ true) ⊎ (is_among m.ids id ≡ true) → s.live id ≡ true
      go (inl k) = k
      go (inr n) = absurd (m.may id n)

  live_at : (id : ℕ) → key.segment ≡ id → s.live id ≡ true
  live_at id same = ap s.live (sym same) ∙ live

  at_insert : (v : Arrival) (id : ℕ) → (b ≡ map.insert a key.segment v) ⊎ (b ≡ a) → is_some (map.get b id) ≡ true → (is_some (map.get a id) ≡ true) ⊎ ((s.live id ≡ true) ⊎ IsKeptIn c key.source_id id)
  at_insert v id (inr e) h = inl (subst (λ (x : Arrivals). is_some (map.get x id) ≡ true) e h)
  at_insert v id (inl e) h = go (here_was a key.segment v id (subst (λ (x : Arrivals). is_some (map.get x id) ≡ true) e h))
    where
      go : (key.segment ≡ id) ⊎ (is_some (map.get a id) ≡ true) → (is_some (map.get a id) ≡ true) ⊎ ((s.live id ≡ true) ⊎ IsKeptIn c key.source_id id)
      go (inl same) = inr (inl (live_at id same))
      go (inr k) = inl k

  comes_of : (r : Reply) → Brings key r a b → (id : ℕ) → is_some (map.get b id) ≡ true → (is_some (map.get a id) ≡ true) ⊎ ((s.live id ≡ true) ⊎ IsKeptIn c key.source_id id)
  comes_of reply.Pending e id h = inl (subst (λ (x : Arrivals). is_some (map.get x id) ≡ true) e h)
  comes_of (reply.Came v places) e id h = at_insert v id e h
  comes_of (reply.Failed places) e id h = inl (subst (λ (x : Arrivals). is_some (map.get x id) ≡ true) e h)
  comes_of reply.NoMemory e id h = inl (subst (λ (x : Arrivals). is_some (map.get x id) ≡ true) e h)

  same_cache : d ≡ c → (id : ℕ) → IsKeptIn d key.source_id id → IsKeptIn c key.source_id id ⊎ (s.live id ≡ true)
  same_cache e id k = inl (subst (λ (x : Cache). IsKeptIn x key.source_id id) e k)

  put_cache : (bytes : List ℕ) → Offers key bytes c d → (id : ℕ) → IsKeptIn d key.source_id id → IsKeptIn c key.source_id id ⊎ (s.live id ≡ true)
  put_cache bytes o id k = go c.entries d.entries o.entries k
    where
      at : (x y : Entries SegmentKey) → Stores key bytes x y → (o : Option (List ℕ)) → y (key_of key.source_id id) ≡ o → IsSome o → IsSome (x (key_of key.source_id id)) ⊎ (s.live id ≡ true)
      at x y l None e q = absurd cc
      at x y l (Some v) e q = by (l (key_of key.source_id id) v e)
        where
          by : (x (key_of key.source_id id) ≡ Some v) ⊎ ((key_of key.source_id id ≡ key) × (v ≡ bytes)) → IsSome (x (key_of key.source_id id)) ⊎ (s.live id ≡ true)
          by (inl was) = inl (ap is_some was)
          by (inr put) = inr (live_at id (ap (λ (z : SegmentKey). z.segment) (sym put.0)))

      go : (o p : Option (Entries SegmentKey)) → Both o p (Stores key bytes) → IfSome p (λ z. IsSome (z (key_of key.source_id id))) → IfSome o (λ z. IsSome (z (key_of key.source_id id))) ⊎ (s.live id ≡ true)
      go None p l q = inl tt
      go (Some x) None l q = absurd l
      go (Some x) (Some y) l q = at x y l (y (key_of key.source_id id)) refl q

  kept_of : (r : Reply) → PutsWhatCame key c d r → (id : ℕ) → IsKeptIn d key.source_id id → IsKeptIn c key.source_id id ⊎ (s.live id ≡ true)
  kept_of reply.Pending e = same_cache e
  kept_of (reply.Came (arrival.Bytes bytes) places) o = put_cache bytes o
  kept_of (reply.Came arrival.Missing places) e = same_cache e
  kept_of (reply.Failed places) e = same_cache e
  kept_of reply.NoMemory e = same_cache e

  tells_same : b ≡ a → (store : Store) → Agrees store a → Agrees store b
  tells_same e store h = subst (λ (x : Arrivals). Agrees store x) (sym e) h

  tells_came : (v : Arrival) → Tells s key.segment v → (b ≡ map.insert a key.segment v) ⊎ (b ≡ a) → (store : Store) → s.holds ≡ Some store → Agrees store a → Agrees store b
  tells_came v w (inr e) store q h = tells_same e store h
  tells_came v w (inl e) store q h = subst (λ (x : Arrivals). Agrees store x) (sym e) (holds_more store a key.segment v (told_content s key.segment v store q w) h)

  tells_of : (r : Reply) → Replies key.segment s t old new r → Brings key r a b → (store : Store) → s.holds ≡ Some store → Agrees store a → Agrees store b
  tells_of reply.Pending w e store q h = tells_same e store h
  tells_of (reply.Came v places) w e store q h = tells_came v w.2 e store q h
  tells_of (reply.Failed places) w e store q h = tells_same e store h
  tells_of reply.NoMemory w e store q h = tells_same e store h

  pub polled_step : (r : Reply) → Replies key.segment s t old new r → PutsWhatCame key c d r → Brings key r a b → Step key.source_id [] (point s c old a) (point t d new b)
  polled_step r w p e = record {
    holds = m.holds;
    faults = m.faults;
    turns = m.turns;
    can_fail = m.can_fail;
    more = [];
    asked = same_asked s t m ∙ sym (append-nil s.asked);
    of = λ id n. absurd cc;
    fresh = λ id n k. absurd cc;
    once = refl;
    live_is = λ id l. inl (was_live id l);
    arrives = comes_of r e;
    kept = kept_of r p;
    tells = λ store q u h. tells_of r w e store q h;
    trades = trades_came key s t old new c d r w p ledger;
  }

  -- nothing came
  pub same_apart : b ≡ a → IsApart (point s c old a) → IsApart (point t d new b)
  same_apart e h id l = subst (λ (x : Arrivals). map.get x id ≡ None) (sym e) (h id (was_live id l))

  pub same_stays : b ≡ a → Stays (point s c old a) (point t d new b)
  same_stays e id h = subst (λ (x : Arrivals). is_some (map.get x id) ≡ true) (sym e) h

  -- something came
  module _ (v : Arrival) (places : List ℕ) (w : Replies key.segment s t old new (reply.Came v places)) (agree : Agree s.live old) (agree' : Agree t.live new) where
    gone : (id : ℕ) → t.live id ≡ is_some (cond (eqb id key.segment) None (waiters_at old id))
    gone id = agree' id ∙ ap is_some (moved key.segment None old new w.1 id)

    not_self : (id : ℕ) → t.live id ≡ true → key.segment ≡ id → ⊥
    not_self id l same = true_false (t.live id) l (gone id ∙ (let is : eqb id key.segment ≡ true = grind (arith, nat_tests) in rw is refl))

    pub came_taken : (id : ℕ) → t.live id ≡ true → (s.live id ≡ true) × (is_among (key.segment ∷ []) id ≡ false)
    came_taken id l = (was_live id l, by (eqb key.segment id) refl)
      where
        by : (z : Bool) → eqb key.segment id ≡ z → (z || false) ≡ false
        by true q = absurd (not_self id l (same_number key.segment id q))
        by false q = refl

    came_none : (id : ℕ) → t.live id ≡ true → (b ≡ map.insert a key.segment v) ⊎ (b ≡ a) → map.get a id ≡ None → map.get b id ≡ None
    came_none id l (inl e) n = subst (λ (x : Arrivals). map.get x id ≡ None) (sym e) (other_none a key.segment v id (not_self id l) n)
    came_none id l (inr e) n = subst (λ (x : Arrivals). map.get x id ≡ None) (sym e) n

    pub came_apart : (b ≡ map.insert a key.segment v) ⊎ (b ≡ a) → IsApart (point s c old a) → IsApart (point t d new b)
    came_apart e h id l = came_none id l e (h id (was_live id l))

    pub came_stays : (b ≡ map.insert a key.segment v) ⊎ (b ≡ a) → Stays (point s c old a) (point t d new b)
    came_stays (inl e) id h = subst (λ (x : Arrivals). is_some (map.get x id) ≡ true) (sym e) (here_more a key.segment v id h)
    came_stays (inr e) id h = subst (λ (x : Arrivals). is_some (map.get x id) ≡ true) (sym e) h

    module _ (e : b ≡ map.insert a key.segment v) where
      pub came_here : is_here (point t d new b) key.segment ≡ true
      came_here = subst (λ (x : Arrivals). is_some (map.get x key.segment) ≡ true) (sym e) (here_self a key.segment v)

      still : (id : ℕ) → s.live id ≡ true → (z : Bool) → eqb id key.segment ≡ z → IsMet (point t d new b) id
      still id l true q = inr (subst (λ (i : ℕ). is_here (point t d new b) i ≡ true) (sym (same_number id key.segment q)) came_here)
      still id l false q = inl (gone id ∙ rw q (sym (agree id) ∙ l))

      came_met : (id : ℕ) → IsMet (point s c old a) id → IsMet (point t d new b) id
      came_met id (inl l) = still id l (eqb id key.segment) refl
      came_met id (inr h) = inr (came_stays (inl e) id h)

      pub came_goes : PutsWhatCame key c d (reply.Came v places) → KeepsCounts key.source_id s t c d → Goes (MayAsk key.source_id []) key.source_id (point s c old a) (point t d new b)
      unfolding polled_step
      came_goes p counts = goes_by key.source_id [] (point s c old a) (point t d new b) (polled_step (reply.Came v places) w p (inl e)) came_met (λ id n. absurd cc) counts

  -- it is pending
  pub pending_goes : t.turns < s.turns → new ≡ old → b ≡ a → PutsWhatCame key c d reply.Pending → Agree s.live old → Agree t.live new → KeepsCounts key.source_id s t c d → Goes (MayAsk key.source_id []) key.source_id (point s c old a) (point t d new b)
  unfolding polled_step
  pending_goes lt same e p agree agree' counts = goes_by key.source_id [] (point s c old a) (point t d new b) (polled_step reply.Pending (same, lt) p e) met (λ id n. absurd cc) counts
    where
      met : (id : ℕ) → IsMet (point s c old a) id → IsMet (point t d new b) id
      met id (inl l) = inl (agree' id ∙ ap (λ (x : Waiters). is_some (waiters_at x id)) same ∙ sym (agree id) ∙ l)
      met id (inr h) = inr (same_stays e id h)

  -- it failed
  pub failed_over : (places : List ℕ) → Replies key.segment s t old new (reply.Failed places) → FailsOver (MayAsk key.source_id []) key.source_id key.segment (point s c old a) (point t d new b)
  failed_over places w may first k f =
      let h = f.left in (
        (rose_before (first.source).faults s.faults t.faults h.faults w.2, sym h.can_fail ∙ w.3),
        asked_ids key.segment first.source t h.ids (same_asked s t m ∙ h.asked) (h.live_asked key.segment live),
      )

-- a poll that did not fail keeps the counts
pub counts_came : (name : List ℕ) (s t : SourceState) (c d : Cache) (v : Arrival) (places : List ℕ) → KeepsReply name s t c d (reply.Came v places) → KeepsCounts name s t c d
counts_came name s t c d v places k report = (report, λ lost. k report lost)

pub counts_pending : (name : List ℕ) (s t : SourceState) (c d : Cache) → KeepsReply name s t c d reply.Pending → KeepsCounts name s t c d
counts_pending name s t c d k report = (report, λ lost. k report lost)

-- ---- what calls do
live_none : (s : SourceState) (old : Waiters) (id : ℕ) → Agree s.live old → waiters_at old id ≡ None → s.live id ≡ false
live_none s old id agree none = agree id ∙ ap is_some none

live_some : (s : SourceState) (old : Waiters) (id : ℕ) → Agree s.live old → is_some (waiters_at old id) ≡ true → s.live id ≡ true
live_some s old id agree some = agree id ∙ some

pub unwanted_wants : (name ids : List ℕ) (s t : SourceState) (c d : Cache) (old new : Waiters) (a : Arrivals) → IsUnwanted c d s t old new → KeepsLedger name s t c d → Agree t.live new
    → IsApart (point s c old a) → Wants name ids (point s c old a) (point t d new a)
unwanted_wants name ids s t c d old new a u ledger agree apart = record {
  agree = agree;
  apart = unwanted_apart name ids s t c d old new a u ledger apart;
  leaves = step_leaves name ids (point s c old a) (point t d new a) (unwanted_step name ids s t c d old new a u ledger);
  lives = unwanted_lives name ids s t c d old new a u ledger;
  stays = λ id h. h;
}

module _ (key : SegmentKey) (bytes : List ℕ) (s t : SourceState) (c d : Cache) (old new : Waiters) (a b : Arrivals) (is : IsHit key bytes c d s t old new)
    (ledger : KeepsLedger key.source_id s t c d) (before : Agree s.live old) (dead : waiters_at old key.segment ≡ None) where
  pub hit_wants : (b ≡ map.insert a key.segment (arrival.Bytes bytes)) ⊎ (b ≡ a) → Agree t.live new → IsApart (point s c old a) → Wants key.source_id (key.segment ∷ []) (point s c old a) (point t d new b)
  hit_wants b_is agree apart =
      let off : s.live key.segment ≡ false = live_none s old key.segment before dead in
      record {
        agree = agree;
        apart = hit_apart key bytes s t c d old new a b is ledger off b_is apart;
        leaves = step_leaves key.source_id (key.segment ∷ []) (point s c old a) (point t d new b) (hit_step key bytes s t c d old new a b is ledger off b_is);
        lives = hit_lives key bytes s t c d old new a b is ledger off b_is;
        stays = hit_stays key bytes s t c d old new a b is ledger off b_is;
      }

  pub hit_meets : b ≡ map.insert a key.segment (arrival.Bytes bytes) → KeepsCounts key.source_id s t c d → Meets key.source_id (key.segment ∷ []) (point s c old a) (point t d new b)
  hit_meets e counts =
      let off : s.live key.segment ≡ false = live_none s old key.segment before dead in
      let there : is_here (point t d new b) key.segment ≡ true = subst (λ (x : Arrivals). is_some (map.get x key.segment) ≡ true) (sym e) (here_self a key.segment (arrival.Bytes bytes)) in
      record {
        goes = hit_goes key bytes s t c d old new a b is ledger off (inl e) counts;
        met = λ id n. inr (subst (λ (i : ℕ). is_here (point t d new b) i ≡ true) (only_one key.segment id n) there);
      }

module _ (key : SegmentKey) (place : ℕ) (s t : SourceState) (c d : Cache) (old new : Waiters) (a : Arrivals) (is : IsMiss key place c d s t old new)
    (ledger : KeepsLedger key.source_id s t c d) (before : Agree s.live old) (dead : waiters_at old key.segment ≡ None) (lacks : map.get a key.segment ≡ None) where
  pub asked_wants : Agree t.live new → IsApart (point s c old a) → Wants key.source_id (key.segment ∷ []) (point s c old a) (point t d new a)
  asked_wants agree apart = record {
    agree = agree;
    apart = asked_apart key place s t c d old new a is ledger before dead lacks apart;
    leaves = step_leaves key.source_id (key.segment ∷ []) (point s c old a) (point t d new a) (asked_step key place s t c d old new a is ledger before dead lacks);
    lives = asked_live key place s t c d old new a is ledger before dead lacks;
    stays = λ id h. h;
  }

  pub asked_meets : KeepsCounts key.source_id s t c d → Meets key.source_id (key.segment ∷ []) (point s c old a) (point t d new a)
  asked_meets counts = record {
    goes = asked_goes key place s t c d old new a is ledger before dead lacks counts;
    met = λ id n. subst (λ (i : ℕ). IsMet (point t d new a) i) (only_one key.segment id n) (asked_met key place s t c d old new a is ledger before dead lacks);
  }

-- a want is settled
module _ (key : SegmentKey) (place : ℕ) (s t : SourceState) (c d : Cache) (old new : Waiters) (a b : Arrivals) (ledger : KeepsLedger key.source_id s t c d)
    (before : Agree s.live old) (dead : waiters_at old key.segment ≡ None) (lacks : map.get a key.segment ≡ None) (agree : Agree t.live new) (apart : IsApart (point s c old a)) where
  to_same : b ≡ a → Wants key.source_id (key.segment ∷ []) (point s c old a) (point t d new a) → Wants key.source_id (key.segment ∷ []) (point s c old a) (point t d new b)
  to_same e w = subst (λ (x : Arrivals). Wants key.source_id (key.segment ∷ []) (point s c old a) (point t d new x)) (sym e) w

  shared_not : {X : Type 0} → is_some (waiters_at old key.segment) ≡ true → X
  shared_not some = absurd (true_false (is_some (waiters_at old key.segment)) some (ap is_some dead))

  pub settled_wants : {T E : Type 0} (r : Result T E) (w : Wanted) → IsWanted key place c d s t old new w → Settles key.segment w a b r → Wants key.source_id (key.segment ∷ []) (point s c old a) (point t d new b)
  settled_wants r (wanted.Hit bytes) is q = hit_wants key bytes s t c d old new a b is ledger before dead (delivered r q.0 q.1) agree apart
  settled_wants r wanted.Shared is q = shared_not is.1
  settled_wants r wanted.Asked is q = to_same q.0 (asked_wants key place s t c d old new a is.0 ledger before dead lacks agree apart)

  pub settled_meets : {T E : Type 0} (r : Result T E) (w : Wanted) → IsWanted key place c d s t old new w → Settles key.segment w a b r → KeepsCounts key.source_id s t c d
      → OnOk r (Meets key.source_id (key.segment ∷ []) (point s c old a) (point t d new b))
  settled_meets r (wanted.Hit bytes) is q counts = on_ok r (λ e. hit_meets key bytes s t c d old new a b is ledger before dead e counts) q.0
  settled_meets r wanted.Shared is q counts = shared_not is.1
  settled_meets r wanted.Asked is q counts = always r (subst (λ (x : Arrivals). Meets key.source_id (key.segment ∷ []) (point s c old a) (point t d new x)) (sym q.0) (asked_meets key place s t c d old new a is.0 ledger before dead lacks counts))

module _ (key : SegmentKey) (s t : SourceState) (c d : Cache) (old new : Waiters) (a b : Arrivals) (m : SourceMoves NoId s t) (ledger : KeepsLedger key.source_id s t c d)
    (before : Agree s.live old) (some : is_some (waiters_at old key.segment) ≡ true) (agree : Agree t.live new) (apart : IsApart (point s c old a)) where
  pub live : s.live key.segment ≡ true
  live = live_some s old key.segment before some

  -- nothing came of a poll
  pub same_takes : (r : Reply) → Replies key.segment s t old new r → PutsWhatCame key c d r → Brings key r a b → b ≡ a → Takes key.source_id (point s c old a) (point t d new b)
  same_takes r w p e same = record {
    agree = agree;
    apart = same_apart key s t c d old new a b m ledger live same apart;
    leaves = step_leaves key.source_id [] (point s c old a) (point t d new b) (polled_step key s t c d old new a b m ledger live r w p e);
    stays = same_stays key s t c d old new a b m ledger live same;
  }

  -- something came
  module _ (v : Arrival) (places : List ℕ) (w : Replies key.segment s t old new (reply.Came v places)) (p : PutsWhatCame key c d (reply.Came v places)) where
    pub came_takes : (b ≡ map.insert a key.segment v) ⊎ (b ≡ a) → Takes key.source_id (point s c old a) (point t d new b)
    came_takes e = record {
      agree = agree;
      apart = came_apart key s t c d old new a b m ledger live v places w before agree e apart;
      leaves = step_leaves key.source_id [] (point s c old a) (point t d new b) (polled_step key s t c d old new a b m ledger live (reply.Came v places) w p e);
      stays = came_stays key s t c d old new a b m ledger live v places w before agree e;
    }

    pub came_came : b ≡ map.insert a key.segment v → KeepsCounts key.source_id s t c d → Came key.source_id (key.segment ∷ []) (point s c old a) (point t d new b)
    came_came e counts = record {
      goes = came_goes key s t c d old new a b m ledger live v places w before agree e p counts;
      taken = came_taken key s t c d old new a b m ledger live v places w before agree;
      here = λ id n. subst (λ (i : ℕ). is_here (point t d new b) i ≡ true) (only_one key.segment id n) (came_here key s t c d old new a b m ledger live v places w before agree e);
    }

-- ---- an arrival, or want of memory
pub came_cases : {T : Type 0} {P Q : Type 0} (r : Result T Miss) → OnOk r P → IfErr r (λ e. (e ≡ miss.NoMemory) × Q) → P ⊎ Q
came_cases (Ok x) p q = inl p
came_cases (Err e) p q = inr q.1

pub came_on_ok : {T : Type 0} {P Q : Type 0} (r : Result T Miss) → (P → Q) → OnOk r P → OnOk r Q
came_on_ok (Ok x) f p = f p
came_on_ok (Err e) f p = tt

pub no_miss : {T : Type 0} (Q : Type 0) (lets : Lets) (name : List ℕ) (p q : Point) (r : Result T Miss) → IfErr r (λ e. (e ≡ miss.NoMemory) × Q) → IfErr r (Misses lets name p q)
no_miss Q lets name p q (Ok x) h = tt
no_miss Q lets name p q (Err e) h = subst (Misses lets name p q) (sym h.0) tt

-- ---- one that is live or has arrived is passed by
pub met_wants : (name : List ℕ) (id : ℕ) (p : Point) → Agree (p.source).live p.desk → IsApart p → Wants name (id ∷ []) p p
met_wants name id p agree apart = record {
  agree = agree;
  apart = apart;
  leaves = λ may first m f. f.left;
  lives = λ i l. inl l;
  stays = λ i h. h;
}

pub met_meets : (name : List ℕ) (id : ℕ) (p : Point) → IsMet p id → Meets name (id ∷ []) p p
met_meets name id p met = record { goes = goes_self (MayAsk name (id ∷ [])) name p; met = λ i n. subst (λ (k : ℕ). IsMet p k) (only_one id i n) met }

pub missed_on_err : {T : Type 0} {P Q : Miss → Type 0} (r : Result T Miss) → ((e : Miss) → P e → Q e) → IfErr r P → IfErr r Q
missed_on_err (Ok x) f p = tt
missed_on_err (Err e) f p = f e p

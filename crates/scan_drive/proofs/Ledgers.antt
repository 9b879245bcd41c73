-- The ledger of a scan, after one step of one file.
use Rattle.std.proofs.Common.{◌≡◌, ℕ, ◌+◌, ◌≤◌, List, [], ◌∷◌, ◌++◌, Bool, true, false, cond, eqb, refl, sym, ap, ◌∙◌, subst, arith, append-nil, inl, inr}
use Rattle.std.specs.Prelude.{◌⊎◌, Some, option_map}
use Rattle.std.proofs.lemmas.Bool.Decides.{nat_tests}
use Rattle.scan_segments.specs.Faults.{RaisedByOne}
use Rattle.scan_segments.specs.Source.{SourceState, TellsBytes}
use Rattle.scan_segments.specs.Cache.{Entries, Loses, Stores, Both, happened}
use Rattle.scan_segments.specs.Cached.{Moves}
use Rattle.scan_segments.specs.Events.{missed_keys, offered_keys, times}
use Rattle.scan_segments.specs.Keys.{same_key}
use Rattle.scan_segments.specs.declared.cache.CacheEvent.TheVariants.{Missed, Offered}
use Rattle.scan_segments.specs.declared.segment.SegmentKey.{SegmentKey}
use Rattle.scan_drive.specs.Ledger.{Book, IsAt, moved, IsKept, IsLive, IsAlone, open_after, IsFedIn, Feeds, Ledger}
use Rattle.scan_drive.specs.Wants.{Cache}
use Rattle.scan_drive.proofs.Books.{Rests, IsAsked, IsEnded, rests_ended, kept_rests, kept_asked, each_moved, alone_moved, live_rests, live_asked, live_ended, live_at, fed_moved, fed_at}
use Rattle.scan_drive.proofs.Caching.{both_trans, ended_on, grows_same, grows_raised}
use Rattle.scan_drive.proofs.KeyTimes.{Events, times_cons, times_append, key_same, key_self, missed_append, offered_append, follow_more, open_more, open_missed, open_put, follow_put}
use Rattle.scan_drive.proofs.Sums.{asks_asked, opens_asked, asks_rest, opens_less, opens_ended}
use Rattle.scan_drive.proofs.Weighing.{one_if}

pub one_key : (k x : SegmentKey) → times k (x ∷ []) ≡ one_if (same_key k x)
one_key k x = times_cons k x [] ∙ (let z : one_if (same_key k x) + 0 ≡ one_if (same_key k x) = omega arith in z)

pub offered_more : (k : SegmentKey) (es more : Events) → offered_keys more ≡ [] → times k (offered_keys (es ++ more)) ≡ times k (offered_keys es)
offered_more k es more none = ap (times k) (offered_append es more) ∙ times_append k (offered_keys es) (offered_keys more) ∙ ap (λ xs. times k (offered_keys es) + times k xs) none ∙ (let z : times k (offered_keys es) + 0 ≡ times k (offered_keys es) = omega arith in z)

pub missed_more : (k : SegmentKey) (es more : Events) → times k (missed_keys es) ≤ times k (missed_keys (es ++ more))
missed_more k es more = let e = ap (times k) (missed_append es more) ∙ times_append k (missed_keys es) (missed_keys more) in omega (arith, e)

module _ (name : List ℕ) (s t : SourceState) (k : ℕ) (bs : List Book) (at : IsAt k name s bs) (first c d : Cache) (h : Ledger bs first c) where
  -- entries that only went
  pub feeds_lost : (more : List ℕ) → t.asked ≡ s.asked ++ more → Both c.entries d.entries Loses → Both first.entries d.entries (Feeds (moved k t bs))
  feeds_lost more e m = both_trans (Feeds bs) Loses (Feeds (moved k t bs)) (λ x y z p q key bytes is. go x key bytes (p key bytes (q key bytes is))) first.entries c.entries d.entries h.entries m
    where
      go : (x : Entries SegmentKey) (key : SegmentKey) (bytes : List ℕ) → (x key ≡ Some bytes) ⊎ IsFedIn bs key bytes → (x key ≡ Some bytes) ⊎ IsFedIn (moved k t bs) key bytes
      go x key bytes (inl is) = inl is
      go x key bytes (inr fed) = inr (fed_moved key bytes k name s t more bs e at h.kept fed)

  -- lookups, and nothing is asked
  abbrev pub ledger_looks : (more : Events) → offered_keys more ≡ [] → Rests s t → Moves Loses (option_map (λ es. es ++ more) c.ended) c d → Ledger (moved k t bs) first d
  ledger_looks more none r m = record {
    kept = each_moved IsKept name s t k bs (λ b g n is. kept_rests b s t g is r) at h.kept;
    events = h.events ++ more;
    ended = m.ended_is ∙ ap (option_map (λ es. es ++ more)) h.ended ∙ ended_on first.ended h.events more;
    short = grows_same first.short c.short d.short h.short m.short;
    faults = let p = h.faults in let q = m.faults in omega arith;
    turns = let p = h.turns in let q = m.turns in omega arith;
    entries = feeds_lost [] (r.asked ∙ sym (append-nil s.asked)) m.entries;
    missed = λ key. let p = h.missed key in let e = asks_rest name s t k bs at h.kept r.asked key in let q = missed_more key h.events more in omega (arith, p, e, q);
    each = λ key.
        let p = h.each key in
        let e = asks_rest name s t k bs at h.kept r.asked key in
        let l = opens_less name s t k bs at h.kept r key in
        let q = offered_more key h.events more none in
        omega (arith, p, e, l, q);
    follow = λ key alone. follow_more key false h.events more none (h.follow key (alone_moved key.source_id k t bs alone));
    pending = λ key alone live. open_more key false h.events more none (h.pending key (alone_moved key.source_id k t bs alone) (live_rests key k name s t bs r.live at live));
  }

-- a lookup that missed, and the key is asked for
module _ (key : SegmentKey) (s t : SourceState) (k : ℕ) (bs : List Book) (at : IsAt k key.source_id s bs) (first c d : Cache) (h : Ledger bs first c) (a : IsAsked key.segment s t) where
  pub asked_pending : (x : SegmentKey) → IsAlone x.source_id (moved k t bs) → IsLive x bs ⊎ ((x.source_id ≡ key.source_id) × (x.segment ≡ key.segment)) → open_after x false (h.events ++ Missed key ∷ []) ≡ true
  asked_pending x alone (inl live) = open_more x false h.events (Missed key ∷ []) refl (h.pending x (alone_moved x.source_id k t bs alone) live)
  asked_pending x alone (inr is) =
      let same : key ≡ x = λ i. record { source_id = sym is.0 i; segment = sym is.1 i } in
      open_missed x false h.events key (subst (λ y. same_key x y ≡ true) (sym same) (key_self x))

  abbrev pub ledger_asked : Moves Loses (happened (Missed key) c.ended) c d → Ledger (moved k t bs) first d
  ledger_asked m = record {
    kept = each_moved IsKept key.source_id s t k bs (λ b g n is. kept_asked b s t g is key.segment a) at h.kept;
    events = h.events ++ Missed key ∷ [];
    ended = m.ended_is ∙ ap (option_map (λ es. es ++ Missed key ∷ [])) h.ended ∙ ended_on first.ended h.events (Missed key ∷ []);
    short = grows_same first.short c.short d.short h.short m.short;
    faults = let p = h.faults in let q = m.faults in omega arith;
    turns = let p = h.turns in let q = m.turns in omega arith;
    entries = feeds_lost key.source_id s t k bs at first c d h (key.segment ∷ []) a.asked m.entries;
    missed = λ x.
        let p = h.missed x in
        let e = asks_asked key.source_id s t k bs at h.kept key.segment a x in
        let q = ap (times x) (missed_append h.events (Missed key ∷ [])) ∙ times_append x (missed_keys h.events) (key ∷ []) in
        let o = one_key x key in
        omega (arith, p, e, q, o);
    each = λ x.
        let p = h.each x in
        let e = asks_asked key.source_id s t k bs at h.kept key.segment a x in
        let l = opens_asked key.source_id s t k bs at h.kept key.segment a x in
        let q = offered_more x h.events (Missed key ∷ []) refl in
        omega (arith, p, e, l, q);
    follow = λ x alone. follow_more x false h.events (Missed key ∷ []) refl (h.follow x (alone_moved x.source_id k t bs alone));
    pending = λ x alone live. asked_pending x alone (live_asked x k key.source_id key.segment s t bs a.live at live);
  }

-- a request that ended with bytes, which are put into the cache
module _ (key : SegmentKey) (bytes : List ℕ) (s t : SourceState) (k : ℕ) (bs : List Book) (at : IsAt k key.source_id s bs) (first c d : Cache) (h : Ledger bs first c) (x : IsEnded key.segment s t) (told : TellsBytes s key.segment bytes) where
  pub rests : Rests s t
  rests = rests_ended key.segment s t x

  pub feeds_put : Both c.entries d.entries (Stores key bytes) → Both first.entries d.entries (Feeds (moved k t bs))
  feeds_put m = both_trans (Feeds bs) (Stores key bytes) (Feeds (moved k t bs)) (λ f g n p q y b is. go f g y b p (q y b is)) first.entries c.entries d.entries h.entries m
    where
      on : (y : SegmentKey) (b : List ℕ) → IsFedIn bs y b → IsFedIn (moved k t bs) y b
      on y b fed = fed_moved y b k key.source_id s t [] bs (x.asked ∙ sym (append-nil s.asked)) at h.kept fed

      was : (f : Entries SegmentKey) (y : SegmentKey) (b : List ℕ) → (f y ≡ Some b) ⊎ IsFedIn bs y b → (f y ≡ Some b) ⊎ IsFedIn (moved k t bs) y b
      was f y b (inl is) = inl is
      was f y b (inr fed) = inr (on y b fed)

      go : (f g : Entries SegmentKey) (y : SegmentKey) (b : List ℕ) → Feeds bs f g → (g y ≡ Some b) ⊎ ((y ≡ key) × (b ≡ bytes)) → (f y ≡ Some b) ⊎ IsFedIn (moved k t bs) y b
      go f g y b p (inl is) = was f y b (p y b is)
      go f g y b p (inr is) = inr (subst (λ (q : SegmentKey × List ℕ). IsFedIn (moved k t bs) q.0 q.1) (λ i. (sym is.0 i, sym is.1 i)) (on key bytes (fed_at key bytes k s bs x.was told at h.kept)))

  -- while a lookup of the key that missed stands open
  pub put_open : (y : SegmentKey) → IsAlone y.source_id (moved k t bs) → same_key y key ≡ true → open_after y false h.events ≡ true
  put_open y alone on =
      let same : y ≡ key = key_same y key on in
      let there : IsLive y bs = subst (λ z. IsLive z bs) (sym same) (live_at key k s bs x.was at) in
      h.pending y (alone_moved y.source_id k t bs alone) there

  pub put_pending : (y : SegmentKey) → IsAlone y.source_id (moved k t bs) → IsLive y (moved k t bs) → (b : Bool) → same_key y key ≡ b → open_after y false (h.events ++ Offered key ∷ []) ≡ true
  put_pending y alone live true on =
      let same : y ≡ key = key_same y key on in
      let off : t.live key.segment ≡ false = x.live key.segment ∙ ap (λ b. cond b false (s.live key.segment)) (let e : eqb key.segment key.segment ≡ true = grind (arith, nat_tests) in e) in
      let only : IsAlone key.source_id bs = alone_moved key.source_id k t bs (subst (λ z. IsAlone z.source_id (moved k t bs)) same alone) in
      absurd (live_ended key k s t bs off only at (subst (λ z. IsLive z (moved k t bs)) same live))
  put_pending y alone live false off = open_put y false h.events key off (h.pending y (alone_moved y.source_id k t bs alone) (live_rests y k key.source_id s t bs rests.live at live))

  module _ (entries : Both c.entries d.entries (Stores key bytes)) (faults : c.faults ≤ d.faults) (turns : d.turns ≤ c.turns) where
    abbrev pub ledger_put : d.ended ≡ happened (Offered key) c.ended → d.short ≡ c.short → Ledger (moved k t bs) first d
    ledger_put ended short = record {
      kept = each_moved IsKept key.source_id s t k bs (λ b g n is. kept_rests b s t g is rests) at h.kept;
      events = h.events ++ Offered key ∷ [];
      ended = ended ∙ ap (option_map (λ es. es ++ Offered key ∷ [])) h.ended ∙ ended_on first.ended h.events (Offered key ∷ []);
      short = grows_same first.short c.short d.short h.short short;
      faults = let p = h.faults in omega (arith, p, faults);
      turns = let p = h.turns in omega (arith, p, turns);
      entries = feeds_put entries;
      missed = λ y. let p = h.missed y in let e = asks_rest key.source_id s t k bs at h.kept x.asked y in let q = missed_more y h.events (Offered key ∷ []) in omega (arith, p, e, q);
      each = λ y.
          let p = h.each y in
          let e = asks_rest key.source_id s t k bs at h.kept x.asked y in
          let l = opens_ended key.source_id s t k bs at h.kept key.segment x y in
          let q = ap (times y) (offered_append h.events (Offered key ∷ [])) ∙ times_append y (offered_keys h.events) (key ∷ []) in
          let o = one_key y key in
          omega (arith, p, e, l, q, o);
      follow = λ y alone. follow_put y false h.events key (put_open y alone) (h.follow y (alone_moved y.source_id k t bs alone));
      pending = λ y alone live. put_pending y alone live (same_key y key) refl;
    }

    -- the put found no memory
    abbrev pub ledger_short : d.ended ≡ c.ended → RaisedByOne c.short d.short → Ledger (moved k t bs) first d
    ledger_short ended short = record {
      kept = each_moved IsKept key.source_id s t k bs (λ b g n is. kept_rests b s t g is rests) at h.kept;
      events = h.events;
      ended = ended ∙ h.ended;
      short = grows_raised first.short c.short d.short h.short short;
      faults = let p = h.faults in omega (arith, p, faults);
      turns = let p = h.turns in omega (arith, p, turns);
      entries = feeds_put entries;
      missed = λ y. let p = h.missed y in let e = asks_rest key.source_id s t k bs at h.kept x.asked y in omega (arith, p, e);
      each = λ y.
          let p = h.each y in
          let e = asks_rest key.source_id s t k bs at h.kept x.asked y in
          let l = opens_less key.source_id s t k bs at h.kept rests y in
          omega (arith, p, e, l);
      follow = λ y alone. h.follow y (alone_moved y.source_id k t bs alone);
      pending = λ y alone live. h.pending y (alone_moved y.source_id k t bs alone) (live_rests y k key.source_id s t bs rests.live at live);
    }

-- The counts of a scan, after one step of one file.
use Rattle.std.proofs.Common.{◌≡◌, ℕ, zero, suc, ◌+◌, List, [], ◌∷◌, ◌++◌, length, Bool, true, false, refl, sym, ap, ◌∙◌, subst, arith, append-nil, length-append, inl, inr}
use Rattle.std.specs.Prelude.{Option, None, Some, IfSome, IsSome, is_some, option_map}
use Rattle.std.proofs.Math.Nat.{le_refl}
use Rattle.scan_segments.specs.Faults.{capped, one_more, RaisedByOne}
use Rattle.scan_segments.specs.Source.{SourceState, Store, TellsBytes, TellsNone}
use Rattle.scan_segments.specs.Cache.{Loses, happened}
use Rattle.scan_segments.specs.Cached.{Moves, Offers}
use Rattle.scan_segments.specs.Events.{missed_keys, found_keys, offered_keys}
use Rattle.scan_segments.specs.declared.cache.CacheEvent.TheVariants.{Missed, Found, Offered}
use Rattle.scan_segments.specs.declared.segment.SegmentKey.{SegmentKey}
use Rattle.scan_drive.specs.Ledger.{Book, ask_count, held_asked, held_open, total, Each, IsAt, moved, IsKept, Balance}
use Rattle.scan_drive.specs.Traffic.{capped_report, with_hit, with_miss}
use Rattle.scan_drive.specs.Wants.{Cache}
use Rattle.scan_drive.specs.declared.report.ScanReport.{ScanReport}
use Rattle.scan_drive.proofs.Books.{Rests, Stands, IsAsked, IsEnded, rests_stands, rests_ended}
use Rattle.scan_drive.proofs.Caching.{both_same, counts_same, counts_raised}
use Rattle.scan_drive.proofs.KeyTimes.{Events, missed_append, found_append, offered_append}
use Rattle.scan_drive.proofs.Ledgers.{ledger_looks, ledger_asked, ledger_put, ledger_short}
use Rattle.scan_drive.proofs.Sums.{count_asked, held_asked_more, held_open_more, held_ended, count_rest, held_rest, held_open_rest}
use Rattle.scan_drive.proofs.Wanting.{ended_none}
use Rattle.scan_drive.proofs.Weighing.{one_if, holds_id}

-- ---- the report
one_more_is : (n : ℕ) → one_more (capped n) ≡ capped (n + 1)
one_more_is n = omega arith

hit_report : (h s a : ℕ) → with_hit (capped_report h s a) ≡ capped_report (h + 1) s a
hit_report h s a = λ i. record { wants = (one_more_is (h + s + a) ∙ ap capped (let e : h + s + a + 1 ≡ h + 1 + s + a = omega arith in e)) i; hits = one_more_is h i; shared = capped s; asks = capped a }

ask_report : (h s a : ℕ) → with_miss true (capped_report h s a) ≡ capped_report h s (a + 1)
ask_report h s a = λ i. record { wants = (one_more_is (h + s + a) ∙ ap capped (let e : h + s + a + 1 ≡ h + s + (a + 1) = omega arith in e)) i; hits = capped h; shared = capped s; asks = one_more_is a i }

share_report : (h s a : ℕ) → with_miss false (capped_report h s a) ≡ capped_report h (s + 1) a
share_report h s a = λ i. record { wants = (one_more_is (h + s + a) ∙ ap capped (let e : h + s + a + 1 ≡ h + (s + 1) + a = omega arith in e)) i; hits = capped h; shared = one_more_is s i; asks = capped a }

-- ---- events
missed_length : (a b : Events) → length (missed_keys (a ++ b)) ≡ length (missed_keys a) + length (missed_keys b)
missed_length a b = ap length (missed_append a b) ∙ length-append (missed_keys a) (missed_keys b)

found_length : (a b : Events) → length (found_keys (a ++ b)) ≡ length (found_keys a) + length (found_keys b)
found_length a b = ap length (found_append a b) ∙ length-append (found_keys a) (found_keys b)

-- events of which none found bytes
found_same : (a b : Events) → length (found_keys b) ≡ 0 → length (found_keys a) ≡ length (found_keys (a ++ b))
found_same a b none = let e = found_length a b in omega (arith, e, none)

offered_length : (a b : Events) → length (offered_keys (a ++ b)) ≡ length (offered_keys a) + length (offered_keys b)
offered_length a b = ap length (offered_append a b) ∙ length-append (offered_keys a) (offered_keys b)

-- ---- what is told

told_moved : (k : ℕ) (t : SourceState) (bs : List Book) → Each (λ b. IsSome b.first.holds) (moved k t bs) → Each (λ b. IsSome b.first.holds) bs
told_moved k t [] h = h
told_moved zero t (b ∷ bs) h = h
told_moved (suc k) t (b ∷ bs) h = (h.0, told_moved k t bs h.1)

told_at : (k : ℕ) (name : List ℕ) (s : SourceState) (bs : List Book) → IsAt k name s bs → Each IsKept bs → Each (λ b. IsSome b.first.holds) bs → IsSome s.holds
told_at k name s [] at each h = absurd at
told_at zero name s (b ∷ bs) at each h = subst (λ o. IsSome o) (sym each.0.holds ∙ ap (λ (z : SourceState). z.holds) at.1) h.0
told_at (suc k) name s (b ∷ bs) at each h = told_at k name s bs at each.1 h.1

not_held : (o : Option Store) (id : ℕ) → IfSome o (λ store. store id ≡ None) → holds_id o id ≡ false
not_held None id h = refl
not_held (Some store) id h = ap is_some h

is_held : (o : Option Store) (id : ℕ) (bytes : List ℕ) → IsSome o → IfSome o (λ store. store id ≡ Some bytes) → holds_id o id ≡ true
is_held None id bytes t h = absurd cc
is_held (Some store) id bytes t h = ap is_some h

-- a cache that was not called
pub moves_none : (c : Cache) → Moves Loses (option_map (λ es. es ++ []) c.ended) c c
moves_none c = record { entries = both_same Loses (λ a k v is. is) c.entries; ended_is = ended_none c.ended; short = refl; faults = le_refl c.faults; turns = le_refl c.turns }

module _ (name : List ℕ) (s t : SourceState) (k : ℕ) (bs : List Book) (at : IsAt k name s bs) (first : Cache) (report : ScanReport) (lost : Bool) where
  -- a want that the cache has
  pub balance_hit : (c d : Cache) (key : SegmentKey) → Stands s t → Moves Loses (happened (Found key) c.ended) c d → Balance bs first c report lost → Balance (moved k t bs) first d (with_hit report) lost
  balance_hit c d key r m b = record {
    ledger = ledger_looks name s t k bs at first c d b.ledger (Found key ∷ []) refl (rests_stands s t r) m;
    totals = record {
      shared = b.totals.shared;
      counts = ap with_hit b.totals.counts ∙ hit_report (length (found_keys es)) b.totals.shared (total ask_count bs) ∙ (λ i. capped_report (sym (found_length es (Found key ∷ [])) i) b.totals.shared (sym (count_rest name s t k bs at b.ledger.kept r.asked) i));
      lookups = let e = missed_length es (Found key ∷ []) in let n = count_rest name s t k bs at b.ledger.kept r.asked in let l = b.totals.lookups in omega (arith, e, n, l);
      puts = λ kept told.
          let h = held_rest name s t k bs at b.ledger.kept r.asked in
          let o = held_open_rest name s t k bs at b.ledger.kept r in
          let p = offered_length es (Found key ∷ []) in
          counts_same (total held_asked bs) (length (offered_keys es)) (total held_open bs) (total held_asked (moved k t bs)) (length (offered_keys (es ++ Found key ∷ []))) (total held_open (moved k t bs)) first.short c.short d.short
          (b.totals.puts kept (told_moved k t bs told)) m.short (omega (arith, h, o, p));
    };
  }
    where
      es : Events
      es = b.ledger.events

  -- a want that is shared
  pub balance_shared : (c d : Cache) (key : SegmentKey) → Stands s t → Moves Loses (happened (Missed key) c.ended) c d → Balance bs first c report lost → Balance (moved k t bs) first d (with_miss false report) lost
  balance_shared c d key r m b = record {
    ledger = ledger_looks name s t k bs at first c d b.ledger (Missed key ∷ []) refl (rests_stands s t r) m;
    totals = record {
      shared = b.totals.shared + 1;
      counts = ap (with_miss false) b.totals.counts ∙ share_report (length (found_keys es)) b.totals.shared (total ask_count bs)
          ∙ (λ i. capped_report (found_same es (Missed key ∷ []) refl i) (b.totals.shared + 1) (sym (count_rest name s t k bs at b.ledger.kept r.asked) i));
      lookups = let e = missed_length es (Missed key ∷ []) in let n = count_rest name s t k bs at b.ledger.kept r.asked in let l = b.totals.lookups in omega (arith, e, n, l);
      puts = λ kept told.
          let h = held_rest name s t k bs at b.ledger.kept r.asked in
          let o = held_open_rest name s t k bs at b.ledger.kept r in
          let p = offered_length es (Missed key ∷ []) in
          counts_same (total held_asked bs) (length (offered_keys es)) (total held_open bs) (total held_asked (moved k t bs)) (length (offered_keys (es ++ Missed key ∷ []))) (total held_open (moved k t bs)) first.short c.short d.short
          (b.totals.puts kept (told_moved k t bs told)) m.short (omega (arith, h, o, p));
    };
  }
    where
      es : Events
      es = b.ledger.events

  -- nothing is asked, and no request begins or ends
  pub balance_stands : (c : Cache) → Stands s t → Balance bs first c report lost → Balance (moved k t bs) first c report lost
  balance_stands c r b = record {
    ledger = ledger_looks name s t k bs at first c c b.ledger [] refl (rests_stands s t r) (moves_none c);
    totals = record {
      shared = b.totals.shared;
      counts = b.totals.counts ∙ (λ i. capped_report (length (found_keys (sym (append-nil es) i))) b.totals.shared (sym (count_rest name s t k bs at b.ledger.kept r.asked) i));
      lookups = let e = missed_length es [] in let n = count_rest name s t k bs at b.ledger.kept r.asked in let l = b.totals.lookups in omega (arith, e, n, l);
      puts = λ kept told.
          let h = held_rest name s t k bs at b.ledger.kept r.asked in
          let o = held_open_rest name s t k bs at b.ledger.kept r in
          let p = offered_length es [] in
          counts_same (total held_asked bs) (length (offered_keys es)) (total held_open bs) (total held_asked (moved k t bs)) (length (offered_keys (es ++ []))) (total held_open (moved k t bs)) first.short c.short c.short
          (b.totals.puts kept (told_moved k t bs told)) refl (omega (arith, h, o, p));
    };
  }
    where
      es : Events
      es = b.ledger.events

  -- requests are given up, or fail
  pub balance_lost : (c : Cache) → Rests s t → Balance bs first c report lost → Balance (moved k t bs) first c report true
  balance_lost c r b = record {
    ledger = ledger_looks name s t k bs at first c c b.ledger [] refl r (moves_none c);
    totals = record {
      shared = b.totals.shared;
      counts = b.totals.counts ∙ (λ i. capped_report (length (found_keys (sym (append-nil es) i))) b.totals.shared (sym (count_rest name s t k bs at b.ledger.kept r.asked) i));
      lookups = let e = missed_length es [] in let n = count_rest name s t k bs at b.ledger.kept r.asked in let l = b.totals.lookups in omega (arith, e, n, l);
      puts = λ kept told. absurd cc;
    };
  }
    where
      es : Events
      es = b.ledger.events

  -- a request of what is missing ends
  pub balance_missing : (c : Cache) (id : ℕ) → IsEnded id s t → TellsNone s id → Balance bs first c report lost → Balance (moved k t bs) first c report lost
  balance_missing c id x none b = record {
    ledger = ledger_looks name s t k bs at first c c b.ledger [] refl (rests_ended id s t x) (moves_none c);
    totals = record {
      shared = b.totals.shared;
      counts = b.totals.counts ∙ (λ i. capped_report (length (found_keys (sym (append-nil es) i))) b.totals.shared (sym (count_rest name s t k bs at b.ledger.kept x.asked) i));
      lookups = let e = missed_length es [] in let n = count_rest name s t k bs at b.ledger.kept x.asked in let l = b.totals.lookups in omega (arith, e, n, l);
      puts = λ kept told.
          let h = held_rest name s t k bs at b.ledger.kept x.asked in
          let o = held_ended name s t k bs at b.ledger.kept id x in
          let z : one_if (holds_id s.holds id) ≡ 0 = ap one_if (not_held s.holds id none) in
          let p = offered_length es [] in
          counts_same (total held_asked bs) (length (offered_keys es)) (total held_open bs) (total held_asked (moved k t bs)) (length (offered_keys (es ++ []))) (total held_open (moved k t bs)) first.short c.short c.short
          (b.totals.puts kept (told_moved k t bs told)) refl (omega (arith, h, o, p, z));
    };
  }
    where
      es : Events
      es = b.ledger.events

module _ (key : SegmentKey) (s t : SourceState) (k : ℕ) (bs : List Book) (at : IsAt k key.source_id s bs) (first : Cache) (report : ScanReport) (lost : Bool) where
  -- a want that is asked for
  pub balance_asked : (c d : Cache) → IsAsked key.segment s t → Moves Loses (happened (Missed key) c.ended) c d → Balance bs first c report lost → Balance (moved k t bs) first d (with_miss true report) lost
  balance_asked c d a m b = record {
    ledger = ledger_asked key s t k bs at first c d b.ledger a m;
    totals = record {
      shared = b.totals.shared;
      counts = ap (with_miss true) b.totals.counts ∙ ask_report (length (found_keys es)) b.totals.shared (total ask_count bs)
          ∙ (λ i. capped_report (found_same es (Missed key ∷ []) refl i) b.totals.shared (sym (count_asked key.source_id s t k bs at b.ledger.kept key.segment a) i));
      lookups = let e = missed_length es (Missed key ∷ []) in let n = count_asked key.source_id s t k bs at b.ledger.kept key.segment a in let l = b.totals.lookups in omega (arith, e, n, l);
      puts = λ kept told.
          let h = held_asked_more key.source_id s t k bs at b.ledger.kept key.segment a in
          let o = held_open_more key.source_id s t k bs at b.ledger.kept key.segment a in
          let p = offered_length es (Missed key ∷ []) in
          counts_same (total held_asked bs) (length (offered_keys es)) (total held_open bs) (total held_asked (moved k t bs)) (length (offered_keys (es ++ Missed key ∷ []))) (total held_open (moved k t bs)) first.short c.short d.short
          (b.totals.puts kept (told_moved k t bs told)) m.short (omega (arith, h, o, p));
    };
  }
    where
      es : Events
      es = b.ledger.events

  module _ (c d : Cache) (bytes : List ℕ) (x : IsEnded key.segment s t) (is : TellsBytes s key.segment bytes) (put : Offers key bytes c d) (b : Balance bs first c report lost) where
    abbrev es : Events
    es = b.ledger.events

    -- the request of what is there was open
    was_open : Each (λ y. IsSome y.first.holds) bs → total held_open bs ≡ 1 + total held_open (moved k t bs)
    was_open told =
        let o = held_ended key.source_id s t k bs at b.ledger.kept key.segment x in
        let z : one_if (holds_id s.holds key.segment) ≡ 1 = ap one_if (is_held s.holds key.segment bytes (told_at k key.source_id s bs at b.ledger.kept told) is) in
        omega (arith, o, z)

    balance_stored : d.ended ≡ happened (Offered key) c.ended → d.short ≡ c.short → Balance (moved k t bs) first d report lost
    balance_stored ended short = record {
      ledger = ledger_put key bytes s t k bs at first c d b.ledger x is put.entries put.faults put.turns ended short;
      totals = record {
        shared = b.totals.shared;
        counts = b.totals.counts
            ∙ (λ i. capped_report (found_same es (Offered key ∷ []) refl i) b.totals.shared (sym (count_rest key.source_id s t k bs at b.ledger.kept x.asked) i));
        lookups = let e = missed_length es (Offered key ∷ []) in let n = count_rest key.source_id s t k bs at b.ledger.kept x.asked in let l = b.totals.lookups in omega (arith, e, n, l);
        puts = λ kept told.
            let h = held_rest key.source_id s t k bs at b.ledger.kept x.asked in
            let o = was_open (told_moved k t bs told) in
            let p = offered_length es (Offered key ∷ []) in
            counts_same (total held_asked bs) (length (offered_keys es)) (total held_open bs) (total held_asked (moved k t bs)) (length (offered_keys (es ++ Offered key ∷ []))) (total held_open (moved k t bs)) first.short c.short d.short
            (b.totals.puts kept (told_moved k t bs told)) short (omega (arith, h, o, p));
      };
    }

    balance_short : d.ended ≡ c.ended → RaisedByOne c.short d.short → Balance (moved k t bs) first d report lost
    balance_short ended short = record {
      ledger = ledger_short key bytes s t k bs at first c d b.ledger x is put.entries put.faults put.turns ended short;
      totals = record {
        shared = b.totals.shared;
        counts = b.totals.counts ∙ (λ i. capped_report (length (found_keys es)) b.totals.shared (sym (count_rest key.source_id s t k bs at b.ledger.kept x.asked) i));
        lookups = let n = count_rest key.source_id s t k bs at b.ledger.kept x.asked in let l = b.totals.lookups in omega (arith, n, l);
        puts = λ kept told.
            let h = held_rest key.source_id s t k bs at b.ledger.kept x.asked in
            let o = was_open (told_moved k t bs told) in
            counts_raised (total held_asked bs) (length (offered_keys es)) (total held_open bs) (total held_asked (moved k t bs)) (length (offered_keys es)) (total held_open (moved k t bs)) first.short c.short d.short
            (b.totals.puts kept (told_moved k t bs told)) short (omega (arith, h, o));
      };
    }

    -- bytes came, and were put
    pub balance_put : Balance (moved k t bs) first d report lost
    balance_put = elim put.noted [ inl n ↦ balance_stored n.0 n.1 | inr n ↦ balance_short n.0 n.1 ]

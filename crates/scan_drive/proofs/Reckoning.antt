-- What the ledger of files says at the end of a scan.
use Rattle.std.proofs.Common.{◌≡◌, ℕ, suc, ◌+◌, ◌-◌, ◌^◌, ◌<◌, ◌≤◌, List, [], ◌∷◌, ◌++◌, length, map, drop, get_or, Bool, true, false, ◌||◌, eqb, nat_eq, refl, sym, ap, ◌∙◌, subst, arith, length-append, inl, inr}
use Rattle.std.specs.Prelude.{◌⊎◌, All, Option, None, Some, IfSome, IsSome, option_map, option_and_then}
use Rattle.std.specs.Cmp.Lexicographic.{pointwise}
use Rattle.std.proofs.Math.Seq.{drop-append_seam}
use Rattle.std.proofs.lemmas.List.{length-map}
use Rattle.std.proofs.lemmas.List.Elements.{All-head, All-tail}
use Rattle.scan_values.specs.Selections.{is_among}
use Rattle.scan_segments.proofs.LiveSets.{contains}
use Rattle.scan_segments.specs.Events.{times, missed_keys, found_keys, offered_keys}
use Rattle.scan_segments.specs.Source.{has, SourceState, none_live}
use Rattle.scan_segments.specs.declared.segment.SegmentKey.{SegmentKey}
use Rattle.scan_drive.specs.Ledger.{count_held, asks, ask_count, held_asked, held_open, total, Each, IsKept, Lacks, IsAlone, IsFedIn, Feeds, Ledger, Balance, books_of}
use Rattle.scan_drive.specs.Traffic.{key_of, asked_since, ended_since, capped_report, IsReport, asked_keys, held_of, held_asks, named_so, LooksUpFirst, PutsWhatItAsked, IsFedBy, CacheMoves}
use Rattle.scan_drive.specs.Wants.{Cache}
use Rattle.scan_drive.specs.declared.files.ScanFile.{ScanFile}
use Rattle.scan_drive.specs.declared.report.ScanReport.{ScanReport}
use Rattle.scan_drive.proofs.Books.{kept_ids}
use Rattle.scan_drive.proofs.Caching.{both_weaker}
use Rattle.scan_drive.proofs.KeyTimes.{Events, times_append, names_same, names_self}
use Rattle.scan_drive.proofs.Weighing.{open_nothing}

-- what holds of the events holds of those that a cache tells
since : (c d : Cache) (events : Events) (P : Events → Type 0) → d.ended ≡ option_map (λ es. es ++ events) c.ended → P events → IfSome (ended_since c d) P
since c d events P e h = go c.ended d.ended e where
  go : (o p : Option Events) → p ≡ option_map (λ es. es ++ events) o → IfSome (option_and_then (λ before. option_map (drop (length before)) p) o) P
  go None p q = tt
  go (Some before) p q = subst (λ z. IfSome (option_map (drop (length before)) z) P) (sym q) (subst P (sym (drop-append_seam before events)) h)

among_has : (ids : List ℕ) (id : ℕ) → is_among ids id ≡ true → has id ids ≡ true
among_has [] id h = h
among_has (x ∷ xs) id h = go (eqb x id) h (among_has xs id) where
  go : (b : Bool) → (b || is_among xs id) ≡ true → (is_among xs id ≡ true → has id xs ≡ true) → (b || has id xs) ≡ true
  go true h ih = refl
  go false h ih = ih h

module _ {O S : Type 0} (source : S → SourceState) where
  -- the names are as they were
  abbrev pub SameNames : List (ScanFile O S) → List (ScanFile O S) → Type 0
  SameNames old new = (k : ℕ) (f : ScanFile O S) → (get_or new k f).source_id ≡ (get_or old k f).source_id

  -- ---- sums over files
  asks_keys : (key : SegmentKey) (old new : List (ScanFile O S)) → SameNames old new → total (asks key) (books_of source old new) ≡ times key (asked_keys source old new)
  asks_keys key [] new m = refl
  asks_keys key (f ∷ fs) [] m = refl
  asks_keys key (f ∷ fs) (g ∷ gs) m =
      let ids = asked_since (source f.source) (source g.source) in
      let rest = asks_keys key fs gs (λ k. m (suc k)) in
      let name = ap (λ n. times key (map (key_of n) ids)) (m 0 g) in
      let all = times_append key (map (key_of f.source_id) ids) (asked_keys source fs gs) in
      omega (arith, rest, name, all)

  count_keys : (old new : List (ScanFile O S)) → total ask_count (books_of source old new) ≡ length (asked_keys source old new)
  count_keys [] new = refl
  count_keys (f ∷ fs) [] = refl
  count_keys (f ∷ fs) (g ∷ gs) =
      let ids = asked_since (source f.source) (source g.source) in
      let rest = count_keys fs gs in
      let all = length-append (map (key_of f.source_id) ids) (asked_keys source fs gs) in
      let one : length (map (key_of f.source_id) ids) ≡ length ids = rw length-map refl in
      omega (arith, rest, all, one)

  held_keys : (old new : List (ScanFile O S)) → total held_asked (books_of source old new) ≡ held_asks source old new
  held_keys [] new = refl
  held_keys (f ∷ fs) [] = refl
  held_keys (f ∷ fs) (g ∷ gs) = ap (λ n. held_of source f g + n) (held_keys fs gs)

  none_open : (old new : List (ScanFile O S)) → All (λ f. (source f.source).live ≡ none_live) new → total held_open (books_of source old new) ≡ 0
  none_open [] new idle = refl
  none_open (f ∷ fs) [] idle = refl
  none_open (f ∷ fs) (g ∷ gs) idle =
      let none : (source g.source).live ≡ none_live = All-head (λ (h : ScanFile O S). (source h.source).live ≡ none_live) g gs idle in
      let ids = asked_since (source f.source) (source g.source) in
      let e = ap (count_held (source f.source).holds) (open_nothing (source g.source).live ids (λ id. ap (λ (live : ℕ → Bool). live id) none)) in
      let rest = none_open fs gs (All-tail (λ (h : ScanFile O S). (source h.source).live ≡ none_live) g gs idle) in
      omega (arith, e, rest)

  all_told : (old new : List (ScanFile O S)) → All (λ f. IsSome (source f.source).holds) old → Each (λ b. IsSome b.first.holds) (books_of source old new)
  all_told [] new told = tt
  all_told (f ∷ fs) [] told = tt
  all_told (f ∷ fs) (g ∷ gs) told = (All-head (λ (h : ScanFile O S). IsSome (source h.source).holds) f fs told, all_told fs gs (All-tail (λ (h : ScanFile O S). IsSome (source h.source).holds) f fs told))

  -- ---- names
  lacks_named : (name : List ℕ) (old new : List (ScanFile O S)) → SameNames old new → named_so source name old ≡ 0 → Lacks name (books_of source old new)
  lacks_named name [] new m n = tt
  lacks_named name (f ∷ fs) [] m n = tt
  lacks_named name (f ∷ fs) (g ∷ gs) m n = go (pointwise nat_eq name f.source_id) refl n (lacks_named name fs gs (λ k. m (suc k)))
    where
      other : pointwise nat_eq name f.source_id ≡ false → g.source_id ≡ name → ⊥
      other off is = let on : pointwise nat_eq name f.source_id ≡ true = subst (λ z. pointwise nat_eq name z ≡ true) (sym is ∙ m 0 g) (names_self name) in let bad : false ≡ true = sym off ∙ on in absurd cc

      go : (b : Bool) → pointwise nat_eq name f.source_id ≡ b → named_so source name (f ∷ fs) ≡ 0 → (named_so source name fs ≡ 0 → Lacks name (books_of source fs gs)) → Lacks name (books_of source (f ∷ fs) (g ∷ gs))
      go true e n ih = let z : suc (named_so source name fs) ≡ 0 = rw e at n in absurd (omega (arith, z))
      go false e n ih = let z : named_so source name fs ≡ 0 = rw e at n in (other e, ih z)

  pub alone_named : (name : List ℕ) (old new : List (ScanFile O S)) → SameNames old new → named_so source name old ≤ 1 → IsAlone name (books_of source old new)
  alone_named name [] new m n = tt
  alone_named name (f ∷ fs) [] m n = tt
  alone_named name (f ∷ fs) (g ∷ gs) m n = go (pointwise nat_eq name f.source_id) refl n (alone_named name fs gs (λ k. m (suc k)))
    where
      other : pointwise nat_eq name f.source_id ≡ false → g.source_id ≡ name → ⊥
      other off is = let on : pointwise nat_eq name f.source_id ≡ true = subst (λ z. pointwise nat_eq name z ≡ true) (sym is ∙ m 0 g) (names_self name) in let bad : false ≡ true = sym off ∙ on in absurd cc

      go : (b : Bool) → pointwise nat_eq name f.source_id ≡ b → named_so source name (f ∷ fs) ≤ 1 → (named_so source name fs ≤ 1 → IsAlone name (books_of source fs gs)) → IsAlone name (books_of source (f ∷ fs) (g ∷ gs))
      go true e n ih = let z : suc (named_so source name fs) ≤ 1 = rw e at n in inl (m 0 g ∙ sym (names_same name f.source_id e), lacks_named name fs gs (λ k. m (suc k)) (omega (arith, z)))
      go false e n ih = let z : named_so source name fs ≤ 1 = rw e at n in inr (other e, ih z)

  -- ---- what the sources gave
  fed_by : (key : SegmentKey) (bytes : List ℕ) (old new : List (ScanFile O S)) → SameNames old new → Each IsKept (books_of source old new) → IsFedIn (books_of source old new) key bytes → IsFedBy source old new key bytes
  fed_by key bytes [] new m each fed = absurd fed
  fed_by key bytes (f ∷ fs) [] m each fed = absurd fed
  fed_by key bytes (f ∷ fs) (g ∷ gs) m each (inl fed) = record {
    place = 0;
    there = omega arith;
    name = λ z. sym (m 0 g) ∙ fed.0;
    asked = λ z. record {
      ids = each.0.ids;
      asked = each.0.asked;
      among = contains key.segment each.0.ids (among_has each.0.ids key.segment (subst (λ ids. is_among ids key.segment ≡ true) (kept_ids (record { name = g.source_id; first = source f.source; now = source g.source }) each.0) fed.1));
    };
    told = λ z. fed.2;
  }
  fed_by key bytes (f ∷ fs) (g ∷ gs) m each (inr fed) =
      let rest = fed_by key bytes fs gs (λ k. m (suc k)) each.1 fed in
      record {
        place = suc rest.place;
        there = let lt = rest.there in omega arith;
        name = λ z. rest.name z;
        asked = λ z. rest.asked z;
        told = λ z. rest.told z;
      }

  module _ (old new : List (ScanFile O S)) (c d : Cache) (m : SameNames old new) where
    pub ends_cache : Ledger (books_of source old new) c d → CacheMoves source old new c d
    ends_cache l = record {
      entries = both_weaker (Feeds (books_of source old new)) (λ a b. (k : SegmentKey) (v : List ℕ) → b k ≡ Some v → (a k ≡ Some v) ⊎ IsFedBy source old new k v)
          (λ a b p k v is. elim (p k v is) [ inl q ↦ inl q | inr q ↦ inr (fed_by k v old new m l.kept q) ]) c.entries d.entries l.entries;
      events = l.events;
      ended = l.ended;
      short = l.short;
      faults = l.faults;
      turns = l.turns;
    }

    pub ends_lookups : Ledger (books_of source old new) c d → IfSome (ended_since c d) (LooksUpFirst source old new)
    ends_lookups l = since c d l.events (LooksUpFirst source old new) l.ended (record {
      missed = λ k. let p = l.missed k in let e = asks_keys k old new m in omega (arith, p, e);
      follow = λ k one. l.follow k (alone_named k.source_id old new m one);
    })

    module _ (report : ScanReport) where
      pub ends_report : (lost : Bool) → Balance (books_of source old new) c d report lost → IsReport (length (asked_keys source old new)) (ended_since c d) report
      ends_report lost b = record {
        hits = length (found_keys b.ledger.events);
        shared = b.totals.shared;
        are = b.totals.counts ∙ ap (capped_report (length (found_keys b.ledger.events)) b.totals.shared) (count_keys old new);
        found = since c d b.ledger.events (λ es. length (found_keys es) ≡ length (found_keys b.ledger.events)) b.ledger.ended refl;
        missed = since c d b.ledger.events (λ es. length (missed_keys es) ≡ b.totals.shared + length (asked_keys source old new)) b.ledger.ended (b.totals.lookups ∙ ap (λ n. b.totals.shared + n) (count_keys old new));
      }

      counts_end : (h p o g : ℕ) (x y : Option ℕ) → h ≡ g → o ≡ 0 → IfSome x (λ before. IfSome y (λ now. now < 2 ^ 64 - 1 → h + before ≡ p + now + o)) → IfSome x (λ before. IfSome y (λ now. now < 2 ^ 64 - 1 → g + before ≡ p + now))
      counts_end h p o g None y e z q = tt
      counts_end h p o g (Some a) None e z q = tt
      counts_end h p o g (Some a) (Some b) e z q = λ lt. let r = q lt in omega (arith, e, z, r)

      pub ends_puts : All (λ f. (source f.source).live ≡ none_live) new → Balance (books_of source old new) c d report false → IfSome (ended_since c d) (PutsWhatItAsked source old new c d)
      ends_puts idle b = since c d b.ledger.events (PutsWhatItAsked source old new c d) b.ledger.ended (record {
        each = λ k. let p = b.ledger.each k in let e = asks_keys k old new m in omega (arith, p, e);
        all = λ told. counts_end (total held_asked (books_of source old new)) (length (offered_keys b.ledger.events)) (total held_open (books_of source old new)) (held_asks source old new) c.short d.short (held_keys old new) (none_open old new idle)
            (b.totals.puts refl (all_told old new told));
      })

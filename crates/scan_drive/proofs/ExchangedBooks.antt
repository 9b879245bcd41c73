-- The books of files of which two are exchanged.
use Rattle.scan_drive.specs.Traffic.{capped_report}
use Rattle.std.proofs.Common.{◌≡◌, ◌⊎◌, ℕ, zero, suc, ◌+◌, ◌-◌, ◌^◌, ◌<◌, ◌≤◌, List, [], ◌∷◌, length, get_or, Bool, true, Option, Some, None, IfSome, IsSome, sum_by, swap, inl, inr, refl, sym, ap, ◌∙◌, subst, arith, ◌||◌}
use Rattle.std.proofs.lemmas.List.{same_lists}
use Rattle.std.proofs.lemmas.List.Edits.{length-swap}
use Rattle.std.proofs.lemmas.List.Sums.{sum_by-cons}
use Rattle.scan_values.specs.Selections.{is_among}
use Rattle.scan_segments.specs.Cache.{Entries, Both}
use Rattle.scan_segments.specs.Events.{missed_keys, offered_keys, times, found_keys}
use Rattle.scan_segments.specs.Source.{SourceState, TellsBytes}
use Rattle.scan_segments.specs.declared.cache.CacheEvent.{CacheEvent}
use Rattle.scan_segments.specs.declared.segment.SegmentKey.{SegmentKey}
use Rattle.scan_drive.specs.Ledger.{Book, new_ids, asks, opens, ask_count, held_asked, held_open, total, Each, IsKept, IsLive, IsAlone, IsFedIn, Feeds, Ledger, Totals, Balance, books_of, FilesKeepLedger, FilesKeepBalance}
use Rattle.scan_drive.specs.Losses.{FilesBalance}
use Rattle.scan_drive.specs.Wants.{Cache}
use Rattle.scan_drive.specs.declared.files.ScanFile.{ScanFile}
use Rattle.scan_drive.specs.declared.report.ScanReport.{ScanReport}
use Rattle.scan_drive.specs.declared.slot.Slot.{Slot}
use Rattle.scan_drive.specs.Line.{exchange}
use Rattle.scan_drive.proofs.Exchanging.{exchange_below, exchange_twice, swap_at, swap_twice, sum_by_swapped, at_swapped}

-- ---- sums
total_sum : (f : Book → ℕ) (bs : List Book) → total f bs ≡ sum_by f bs
total_sum f [] = refl
total_sum f (b ∷ bs) = ap (λ n. f b + n) (total_sum f bs) ∙ sym (sum_by-cons f b bs)

-- ---- facts of each book, and of one of them
pub each_at : (P : Book → Type 0) (bs : List Book) → Each P bs → (k : ℕ) (d : Book) → k < length bs → P (get_or bs k d)
each_at P [] h k d lt = absurd (omega arith)
each_at P (b ∷ bs) h zero d lt = h.0
each_at P (b ∷ bs) h (suc k) d lt = each_at P bs h.1 k d (omega arith)

pub each_of : (P : Book → Type 0) (bs : List Book) → ((k : ℕ) (d : Book) → k < length bs → P (get_or bs k d)) → Each P bs
each_of P [] h = tt
each_of P (b ∷ bs) h = (h 0 b (omega arith), each_of P bs (λ k d lt. h (suc k) d (omega arith)))

record AtSome (P : Book → Type 0) (bs : List Book) : Type 0 where
  place : ℕ
  there : place < length bs
  fact : (d : Book) → P (get_or bs place d)

later : (P : Book → Type 0) (b : Book) (bs : List Book) → AtSome P bs → AtSome P (b ∷ bs)
later P b bs h = record { place = suc h.place; there = (let z = h.there in omega arith); fact = h.fact }

abbrev IsFed : SegmentKey → List ℕ → Book → Type 0
IsFed k bytes b = (b.name ≡ k.source_id) × (is_among (new_ids b) k.segment ≡ true) × TellsBytes b.first k.segment bytes

fed_at : (k : SegmentKey) (bytes : List ℕ) (bs : List Book) → IsFedIn bs k bytes → AtSome (IsFed k bytes) bs
fed_at k bytes [] h = absurd h
fed_at k bytes (b ∷ bs) (inl h) = record { place = 0; there = omega arith; fact = λ d. h }
fed_at k bytes (b ∷ bs) (inr h) = later (IsFed k bytes) b bs (fed_at k bytes bs h)

fed_of : (k : SegmentKey) (bytes : List ℕ) (bs : List Book) (p : ℕ) → p < length bs → ((d : Book) → IsFed k bytes (get_or bs p d)) → IsFedIn bs k bytes
fed_of k bytes [] p lt h = absurd (omega arith)
fed_of k bytes (b ∷ bs) zero lt h = inl (h b)
fed_of k bytes (b ∷ bs) (suc p) lt h = inr (fed_of k bytes bs p (omega arith) h)

abbrev IsOpen : SegmentKey → Book → Type 0
IsOpen k b = (b.name ≡ k.source_id) × (b.now.live k.segment ≡ true)

live_at : (k : SegmentKey) (bs : List Book) → IsLive k bs → AtSome (IsOpen k) bs
live_at k [] h = absurd h
live_at k (b ∷ bs) (inl h) = record { place = 0; there = omega arith; fact = λ d. h }
live_at k (b ∷ bs) (inr h) = later (IsOpen k) b bs (live_at k bs h)

live_of : (k : SegmentKey) (bs : List Book) (p : ℕ) → p < length bs → ((d : Book) → IsOpen k (get_or bs p d)) → IsLive k bs
live_of k [] p lt h = absurd (omega arith)
live_of k (b ∷ bs) zero lt h = inl (h b)
live_of k (b ∷ bs) (suc p) lt h = inr (live_of k bs p (omega arith) h)

-- at most one book has this name, by places
record IsOnce (name : List ℕ) (bs : List Book) : Type 0 where
  tells : (k : ℕ) (d : Book) → k < length bs → ((get_or bs k d).name ≡ name) ⊎ ((get_or bs k d).name ≡ name → ⊥)
  once : (p q : ℕ) (d : Book) → p < length bs → q < length bs → (get_or bs p d).name ≡ name → (get_or bs q d).name ≡ name → p ≡ q

once_later : (name : List ℕ) (b : Book) (bs : List Book) → (b.name ≡ name → ⊥) → IsOnce name bs → IsOnce name (b ∷ bs)
once_later name b bs differs rest = record { tells = tells; once = once }
  where
    tells : (k : ℕ) (d : Book) → k < length (b ∷ bs) → ((get_or (b ∷ bs) k d).name ≡ name) ⊎ ((get_or (b ∷ bs) k d).name ≡ name → ⊥)
    tells zero d lt = inr differs
    tells (suc k) d lt = rest.tells k d (omega arith)

    once : (p q : ℕ) (d : Book) → p < length (b ∷ bs) → q < length (b ∷ bs) → (get_or (b ∷ bs) p d).name ≡ name → (get_or (b ∷ bs) q d).name ≡ name → p ≡ q
    once zero q d l m e f = absurd (differs e)
    once (suc p) zero d l m e f = absurd (differs f)
    once (suc p) (suc q) d l m e f = ap suc (rest.once p q d (omega arith) (omega arith) e f)

once_of : (name : List ℕ) (bs : List Book) → IsAlone name bs → IsOnce name bs
once_of name [] h = record { tells = λ k d lt. absurd (omega arith); once = λ p q d l m e f. absurd (omega arith) }
once_of name (b ∷ bs) (inl h) = record { tells = tells; once = once }
  where
    none : (k : ℕ) (d : Book) → k < length bs → (get_or bs k d).name ≡ name → ⊥
    none = each_at (λ (x : Book). x.name ≡ name → ⊥) bs h.1

    tells : (k : ℕ) (d : Book) → k < length (b ∷ bs) → ((get_or (b ∷ bs) k d).name ≡ name) ⊎ ((get_or (b ∷ bs) k d).name ≡ name → ⊥)
    tells zero d lt = inl h.0
    tells (suc k) d lt = inr (none k d (omega arith))

    once : (p q : ℕ) (d : Book) → p < length (b ∷ bs) → q < length (b ∷ bs) → (get_or (b ∷ bs) p d).name ≡ name → (get_or (b ∷ bs) q d).name ≡ name → p ≡ q
    once zero zero d l m e f = refl
    once zero (suc q) d l m e f = absurd (none q d (omega arith) f)
    once (suc p) q d l m e f = absurd (none p d (omega arith) e)
once_of name (b ∷ bs) (inr h) = once_later name b bs h.0 (once_of name bs h.1)

alone_of : (name : List ℕ) (bs : List Book) → IsOnce name bs → IsAlone name bs
alone_of name [] h = tt
alone_of name (b ∷ bs) h = go (h.tells 0 b (omega arith)) (alone_of name bs rest)
  where
    rest : IsOnce name bs
    rest = record {
      tells = λ k d lt. h.tells (suc k) d (omega arith);
      once = λ p q d l m e f. (let z : suc p ≡ suc q = h.once (suc p) (suc q) d (omega arith) (omega arith) e f in omega arith);
    }

    go : (b.name ≡ name) ⊎ (b.name ≡ name → ⊥) → IsAlone name bs → IsAlone name (b ∷ bs)
    go (inl e) after = inl (e, each_of (λ (x : Book). x.name ≡ name → ⊥) bs (λ k d lt f. (let z : 0 ≡ suc k = h.once 0 (suc k) d (omega arith) (omega arith) e f in absurd (omega arith))))
    go (inr n) after = inr (n, after)

-- ---- two books are exchanged
module _ (bs : List Book) (i j : ℕ) (p : i < length bs) (q : j < length bs) where
  l : length (swap bs i j) ≡ length bs
  l = length-swap bs i j

  back : (k : ℕ) (d : Book) → get_or (swap bs i j) (exchange i j k) d ≡ get_or bs k d
  back k d = swap_at bs i j (exchange i j k) d p q ∙ ap (λ n. get_or bs n d) (exchange_twice i j k)

  pub total_swapped : (f : Book → ℕ) → total f (swap bs i j) ≡ total f bs
  total_swapped f = total_sum f (swap bs i j) ∙ sum_by_swapped f bs i j p q ∙ sym (total_sum f bs)

  pub each_swapped : (P : Book → Type 0) → Each P bs → Each P (swap bs i j)
  each_swapped P h = each_of P (swap bs i j) (λ k d lt. at_swapped P bs i j k d p q (each_at P bs h (exchange i j k) d (exchange_below (length bs) i j k p q (omega (arith, l)))))

  pub each_unswapped : (P : Book → Type 0) → Each P (swap bs i j) → Each P bs
  each_unswapped P h = each_of P bs (λ k d lt. subst P (back k d) (each_at P (swap bs i j) h (exchange i j k) d (let z = exchange_below (length bs) i j k p q lt in omega (arith, l))))

  fed_swapped : (k : SegmentKey) (bytes : List ℕ) → IsFedIn bs k bytes → IsFedIn (swap bs i j) k bytes
  fed_swapped k bytes h =
      let a : AtSome (IsFed k bytes) bs = fed_at k bytes bs h in
      let lt : exchange i j a.place < length (swap bs i j) = (let z = exchange_below (length bs) i j a.place p q a.there in omega (arith, l)) in
      fed_of k bytes (swap bs i j) (exchange i j a.place) lt (λ d. subst (IsFed k bytes) (sym (back a.place d)) (a.fact d))

  pub live_unswapped : (k : SegmentKey) → IsLive k (swap bs i j) → IsLive k bs
  live_unswapped k h =
      let a : AtSome (IsOpen k) (swap bs i j) = live_at k (swap bs i j) h in
      let in_list : a.place < length bs = (let z = a.there in omega (arith, l)) in
      live_of k bs (exchange i j a.place) (exchange_below (length bs) i j a.place p q in_list) (λ d. subst (IsOpen k) (swap_at bs i j a.place d p q) (a.fact d))

  pub alone_unswapped : (name : List ℕ) → IsAlone name (swap bs i j) → IsAlone name bs
  alone_unswapped name h =
      let o : IsOnce name (swap bs i j) = once_of name (swap bs i j) h in
      let below : (k : ℕ) → k < length bs → exchange i j k < length (swap bs i j) = λ k lt. (let z = exchange_below (length bs) i j k p q lt in omega (arith, l)) in
      alone_of name bs (record {
        tells = λ k d lt. subst (λ (b : Book). (b.name ≡ name) ⊎ (b.name ≡ name → ⊥)) (back k d) (o.tells (exchange i j k) d (below k lt));
        once = λ m n d lt mt e f.
            sym (exchange_twice i j m)
            ∙ ap (exchange i j) (o.once (exchange i j m) (exchange i j n) d (below m lt) (below n mt) (ap (λ (b : Book). b.name) (back m d) ∙ e) (ap (λ (b : Book). b.name) (back n d) ∙ f))
            ∙ exchange_twice i j n;
      })

  pub entries_swapped : (m n : Option (Entries SegmentKey)) → Both m n (Feeds bs) → Both m n (Feeds (swap bs i j))
  entries_swapped None None h = h
  entries_swapped None (Some n) h = h
  entries_swapped (Some m) None h = h
  entries_swapped (Some m) (Some n) h = λ k bytes e. go k bytes (h k bytes e)
    where
      go : (k : SegmentKey) (bytes : List ℕ) → (m k ≡ Some bytes) ⊎ IsFedIn bs k bytes → (m k ≡ Some bytes) ⊎ IsFedIn (swap bs i j) k bytes
      go k bytes (inl e) = inl e
      go k bytes (inr f) = inr (fed_swapped k bytes f)

  module _ (c d : Cache) (led : Ledger bs c d) where
    pub swapped_missed : (k : SegmentKey) → total (asks k) (swap bs i j) ≤ times k (missed_keys led.events)
    swapped_missed k = let e = total_swapped (asks k) in let m = led.missed k in omega arith

    pub swapped_each : (k : SegmentKey) → times k (offered_keys led.events) + total (opens k) (swap bs i j) ≤ total (asks k) (swap bs i j)
    swapped_each k = let e = total_swapped (asks k) in let f = total_swapped (opens k) in let m = led.each k in omega arith

    abbrev pub ledger_swapped : Ledger (swap bs i j) c d
    ledger_swapped = record {
      kept = each_swapped IsKept led.kept;
      events = led.events;
      ended = led.ended;
      short = led.short;
      faults = led.faults;
      turns = led.turns;
      entries = entries_swapped c.entries d.entries led.entries;
      missed = swapped_missed;
      each = swapped_each;
      follow = λ k a. led.follow k (alone_unswapped k.source_id a);
      pending = λ k a o. led.pending k (alone_unswapped k.source_id a) (live_unswapped k o);
    }

  pub balance_swapped : (c d : Cache) (report : ScanReport) (lost : Bool) → Balance bs c d report lost → Balance (swap bs i j) c d report lost
  balance_swapped c d report lost b = record { ledger = ledger_swapped c d b.ledger; totals = totals_swapped b.ledger.events b.totals }
    where
      puts_swapped : (short now : Option ℕ) (events : List (CacheEvent SegmentKey))
          → IfSome short (λ before. IfSome now (λ now. now < 2 ^ 64 - 1 → total held_asked bs + before ≡ length (offered_keys events) + now + total held_open bs))
          → IfSome short (λ before. IfSome now (λ now. now < 2 ^ 64 - 1 → total held_asked (swap bs i j) + before ≡ length (offered_keys events) + now + total held_open (swap bs i j)))
      puts_swapped None now events h = h
      puts_swapped (Some before) None events h = h
      puts_swapped (Some before) (Some now) events h = λ small. (let e = total_swapped held_asked in let f = total_swapped held_open in let z = h small in omega arith)

      totals_swapped : (events : List (CacheEvent SegmentKey)) → Totals bs c d events report lost → Totals (swap bs i j) c d events report lost
      totals_swapped events t = record {
        shared = t.shared;
        counts = subst (λ n. report ≡ capped_report (length (found_keys events)) t.shared n) (sym (total_swapped ask_count)) t.counts;
        lookups = (let e = total_swapped ask_count in let m = t.lookups in omega arith);
        puts = λ kept told. puts_swapped c.short d.short events (t.puts kept (each_unswapped (λ (b : Book). IsSome b.first.holds) told));
      }

-- ---- the books of files
module _ {O S : Type 0} (source : S → SourceState) where
  abbrev book_of : ScanFile O S → ScanFile O S → Book
  book_of f g = record { name = g.source_id; first = source f.source; now = source g.source }

  pub length_books : (a b : List (ScanFile O S)) → length b ≡ length a → length (books_of source a b) ≡ length a
  length_books [] b m = refl
  length_books (x ∷ a) [] m = absurd (omega arith)
  length_books (x ∷ a) (y ∷ b) m = ap suc (length_books a b (omega arith))

  books_at : (a b : List (ScanFile O S)) (k : ℕ) (d : Book) (f g : ScanFile O S) → length b ≡ length a → k < length a → get_or (books_of source a b) k d ≡ book_of (get_or a k f) (get_or b k g)
  books_at [] b k d f g m lt = absurd (omega arith)
  books_at (x ∷ a) [] k d f g m lt = absurd (omega arith)
  books_at (x ∷ a) (y ∷ b) zero d f g m lt = refl
  books_at (x ∷ a) (y ∷ b) (suc k) d f g m lt = books_at a b k d f g (omega arith) (omega arith)

  pub books_swapped : (a b : List (ScanFile O S)) (i j : ℕ) → length b ≡ length a → i < length a → j < length a → books_of source (swap a i j) (swap b i j) ≡ swap (books_of source a b) i j
  books_swapped [] b i j m p q = absurd (omega arith)
  books_swapped (x ∷ a') b i j m p q = same_lists (books_of source (swap a i j) (swap b i j)) (swap (books_of source a b) i j) (long ∙ la ∙ sym (lb ∙ length_books a b m)) (λ k d lt.
      let in_list : k < length (swap a i j) = omega (arith, long) in
      let ex : exchange i j k < length a = exchange_below (length a) i j k p q (omega (arith, la)) in
      books_at (swap a i j) (swap b i j) k d x x same in_list
      ∙ ap (λ f. book_of f (get_or (swap b i j) k x)) (swap_at a i j k x p q)
      ∙ ap (book_of (get_or a (exchange i j k) x)) (swap_at b i j k x (omega (arith, m)) (omega (arith, m)))
      ∙ sym (books_at a b (exchange i j k) d x x m ex)
      ∙ sym (swap_at (books_of source a b) i j k d (let z = length_books a b m in omega arith) (let z = length_books a b m in omega arith)))
    where
      a : List (ScanFile O S)
      a = x ∷ a'

      la : length (swap a i j) ≡ length a
      la = length-swap a i j

      same : length (swap b i j) ≡ length (swap a i j)
      same = length-swap b i j ∙ m ∙ sym la

      long : length (books_of source (swap a i j) (swap b i j)) ≡ length (swap a i j)
      long = length_books (swap a i j) (swap b i j) same

      lb : length (swap (books_of source a b) i j) ≡ length (books_of source a b)
      lb = length-swap (books_of source a b) i j

  module _ (a b : List (ScanFile O S)) (i j : ℕ) (m : length b ≡ length a) (p : i < length a) (q : j < length a) where
    long : length (books_of source a b) ≡ length a
    long = length_books a b m

    pub books_ledger : (c d : Cache) → Ledger (books_of source a b) c d → Ledger (books_of source (swap a i j) (swap b i j)) c d
    books_ledger c d h = subst (λ bs. Ledger bs c d) (sym (books_swapped a b i j m p q)) (ledger_swapped (books_of source a b) i j (omega (arith, long)) (omega (arith, long)) c d h)

    pub books_balance : (c d : Cache) (report : ScanReport) (lost : Bool) → Balance (books_of source a b) c d report lost → Balance (books_of source (swap a i j) (swap b i j)) c d report lost
    books_balance c d report lost h =
        subst (λ bs. Balance bs c d report lost) (sym (books_swapped a b i j m p q)) (balance_swapped (books_of source a b) i j (omega (arith, long)) (omega (arith, long)) c d report lost h)

  -- calls keep the ledger and the counts over exchanged files as they do over these
  module _ (a b : List (ScanFile O S)) (i j : ℕ) (m : length b ≡ length a) (p : i < length a) (q : j < length a) where
    la : length (swap a i j) ≡ length a
    la = length-swap a i j

    pub swap_keeps_ledger : (c d : Cache) → FilesKeepLedger source a b c d → FilesKeepLedger source (swap a i j) (swap b i j) c d
    swap_keeps_ledger c d h first cache n led =
        let lf : length (swap first i j) ≡ length first = length-swap first i j in
        let pf : i < length first = omega (arith, la) in
        let qf : j < length first = omega (arith, la) in
        let before : Ledger (books_of source (swap first i j) (swap (swap a i j) i j)) cache c = books_ledger first (swap a i j) i j n pf qf cache c led in
        let old : Ledger (books_of source (swap first i j) a) cache c = subst (λ z. Ledger (books_of source (swap first i j) z) cache c) (swap_twice a i j p q) before in
        let new : Ledger (books_of source (swap first i j) b) cache d = h (swap first i j) cache (omega (arith, la)) old in
        subst (λ z. Ledger (books_of source z (swap b i j)) cache d) (swap_twice first i j pf qf) (books_ledger (swap first i j) b i j (omega (arith, la, m)) (omega arith) (omega arith) cache d new)

    pub swap_keeps_balance : (c d : Cache) (report after : ScanReport) (lost gone : Bool) → FilesKeepBalance source a b c d report after lost gone → FilesKeepBalance source (swap a i j) (swap b i j) c d report after lost gone
    swap_keeps_balance c d report after lost gone h first cache n bal =
        let lf : length (swap first i j) ≡ length first = length-swap first i j in
        let pf : i < length first = omega (arith, la) in
        let qf : j < length first = omega (arith, la) in
        let before : Balance (books_of source (swap first i j) (swap (swap a i j) i j)) cache c report lost = books_balance first (swap a i j) i j n pf qf cache c report lost bal in
        let old : Balance (books_of source (swap first i j) a) cache c report lost = subst (λ z. Balance (books_of source (swap first i j) z) cache c report lost) (swap_twice a i j p q) before in
        let new : Balance (books_of source (swap first i j) b) cache d after gone = h (swap first i j) cache (omega (arith, la)) old in
        subst (λ z. Balance (books_of source z (swap b i j)) cache d after gone) (swap_twice first i j pf qf) (books_balance (swap first i j) b i j (omega (arith, la, m)) (omega arith) (omega arith) cache d after gone new)

    pub swap_balance : {W R : Type 0} (c d : Cache) (report after : ScanReport) (slots : List (Slot W R)) → FilesBalance source a b c d report after slots → FilesBalance source (swap a i j) (swap b i j) c d report after slots
    swap_balance c d report after slots h = record {
      failed = h.failed;
      keeps = λ lost. swap_keeps_balance c d report after lost (h.failed || lost) (h.keeps lost);
      halted = h.halted;
    }

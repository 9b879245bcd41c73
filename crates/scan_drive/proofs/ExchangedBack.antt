-- What holds of files at other places, and of them after a scan, holds of the files once they are put back.
use Rattle.std.proofs.Common.{◌≡◌, ℕ, ◌+◌, ◌<◌, ◌≤◌, ◌^◌, List, [], ◌∷◌, length, take, get_or, Bool, true, false, All, IsSome, Option, sum_by, swap, inl, inr, refl, sym, ap, ◌∙◌, subst, arith}
use Rattle.std.specs.List.Sorted.{SwapsInRange}
use Rattle.std.proofs.lemmas.List.{length-map}
use Rattle.std.proofs.lemmas.List.Sorted.{sum_by-IsPermutation}
use Rattle.std.proofs.lemmas.List.Sums.{sum_by-cons}
use Rattle.scan_segments.specs.Source.{SourceState}
use Rattle.scan_drive.specs.Drives.{IsIdle}
use Rattle.scan_drive.specs.Drivings.{IsAskedUnder, CameOf, GivesBefore, IsFaultOf, StopsSource, StopsCorrupt, StopsOverflow, StopsRefused, StopsUnread, AreTooMany, StopsDrive}
use Rattle.scan_drive.specs.Files.{Told}
use Rattle.scan_drive.specs.Forward.{fault_in}
use Rattle.scan_drive.specs.Line.{exchanged, restored, placed_by}
use Rattle.scan_drive.specs.Losses.{FilesBalance}
use Rattle.scan_drive.specs.Moves.{EachMoves, tell, tells}
use Rattle.scan_drive.specs.Openers.{OpenerState}
use Rattle.scan_drive.specs.Rounds.{IsLawful}
use Rattle.scan_drive.specs.Trades.{CacheAgrees, FilesTrade}
use Rattle.scan_drive.specs.Traffic.{WasAsked}
use Rattle.scan_drive.specs.Turns.{rows_in, rows_of}
use Rattle.scan_drive.specs.Wants.{Cache}
use Rattle.scan_drive.specs.declared.delivery.DriveFault.TheVariants as fault
use Rattle.scan_drive.specs.declared.files.ScanFile.{ScanFile}
use Rattle.scan_drive.specs.declared.report.ScanReport.{ScanReport}
use Rattle.scan_drive.specs.declared.settling.RoundFault.{RoundFault}
use Rattle.scan_drive.specs.declared.settling.RoundFault.TheVariants as why
use Rattle.scan_drive.specs.declared.slot.Slot.{Slot}
use Rattle.scan_drive.proofs.Exchanging.{exchanged_at, exchanged_restored, length_exchanged, length_restored, placed_below, permutation_exchanged, all_exchanged, all_restored, map_exchanged, exchanges, restores}
use Rattle.scan_drive.proofs.ExchangedBooks.{swap_balance}
use Rattle.scan_drive.proofs.ExchangedFiles.{swap_moves, swap_cache, swap_trade, swap_each_there}

-- ---- rows of all files
rows_sum : {I : Type 0} (tale : List (Told I)) → rows_of tale ≡ sum_by (λ (t : Told I). rows_in t.part) tale
rows_sum [] = refl
rows_sum {I} (t ∷ ts) = ap (λ n. rows_in t.part + n) (rows_sum ts) ∙ sym (sum_by-cons (λ (t : Told I). rows_in t.part) t ts)

pub rows_exchanged : {I : Type 0} (ss : List (ℕ × ℕ)) (tale : List (Told I)) → SwapsInRange (length tale) ss → rows_of (exchanged ss tale) ≡ rows_of tale
rows_exchanged {I} ss tale r =
    rows_sum (exchanged ss tale) ∙ sum_by-IsPermutation (λ (t : Told I). rows_in t.part) tale (exchanged ss tale) (permutation_exchanged ss tale r) ∙ sym (rows_sum tale)

module _ {O S : Type 0} (ss : List (ℕ × ℕ)) (a : List (ScanFile O S)) (r : SwapsInRange (length a) ss) where
  -- the cache agrees with the files wherever they stand
  pub cache_exchanged : (source : S → SourceState) (c : Cache) → CacheAgrees source a c → CacheAgrees source (exchanged ss a) c
  cache_exchanged source c h =
      exchanges (λ (x : List (ScanFile O S)) (y : List (ScanFile O S)). CacheAgrees source x c) (length a)
      (λ x y i j l m p q k. swap_cache i j source x c (omega (arith, l)) (omega (arith, l)) k) ss a a r refl refl h

  pub tells_exchanged : {I : Type 0} (state : O → OpenerState I) (source : S → SourceState) → tells state source (exchanged ss a) ≡ exchanged ss (tells state source a)
  tells_exchanged state source = map_exchanged (tell state source) ss a r

  -- ---- relations of the files at first and now
  module _ (e : List (ScanFile O S)) (m : length e ≡ length a) where
    range_e : SwapsInRange (length e) ss
    range_e = subst (λ n. SwapsInRange n ss) (sym m) r

    pub back_moves : {I : Type 0} (state : O → OpenerState I) (polls : O → O → Type 0) (source : S → SourceState) (If : Type 0) → EachMoves state polls source If (exchanged ss a) e → EachMoves state polls source If a (restored ss e)
    back_moves state polls source If h =
        restores (EachMoves state polls source If) (length a) (λ x y i j l n p q k. swap_moves i j state polls source If x y (omega (arith, l)) (omega (arith, l)) k) ss a e r refl m h

    pub back_trade : (source : S → SourceState) (c d : Cache) → FilesTrade source (exchanged ss a) e c d → FilesTrade source a (restored ss e) c d
    back_trade source c d h =
        restores (λ x y. FilesTrade source x y c d) (length a) (λ x y i j l n p q k. swap_trade i j source x y c d (omega (arith, l)) (omega (arith, l)) k) ss a e r refl m h

    pub back_balance : {W R : Type 0} (source : S → SourceState) (c d : Cache) (report after : ScanReport) (slots : List (Slot W R)) → FilesBalance source (exchanged ss a) e c d report after slots → FilesBalance source a (restored ss e) c d report after slots
    back_balance source c d report after slots h =
        restores (λ x y. FilesBalance source x y c d report after slots) (length a)
        (λ x y i j l n p q k. swap_balance source x y i j (n ∙ sym l) (omega (arith, l)) (omega (arith, l)) c d report after slots k) ss a e r refl m h

    pub back_idle : (source : S → SourceState) → All (IsIdle source) e → All (IsIdle source) (restored ss e)
    back_idle source h = all_restored (IsIdle source) ss e range_e h

    -- what holds of the file at a place holds of it where it stood
    pub back_at : (P Q : ScanFile O S → ScanFile O S → Type 0) → ((f g : ScanFile O S) → P f g → Q f g) → (k : ℕ) (f : ScanFile O S) → P (get_or (exchanged ss a) k f) (get_or e k f) → Q (get_or a (placed_by ss k) f) (get_or (restored ss e) (placed_by ss k) f)
    back_at P Q to k f h =
        to (get_or a (placed_by ss k) f) (get_or (restored ss e) (placed_by ss k) f)
        (subst (λ x. P x (get_or (restored ss e) (placed_by ss k) f)) (exchanged_at ss a k f r) (subst (P (get_or (exchanged ss a) k f)) now h))
      where
        now : get_or e k f ≡ get_or (restored ss e) (placed_by ss k) f
        now = ap (λ xs. get_or xs k f) (sym (exchanged_restored ss e range_e)) ∙ exchanged_at ss (restored ss e) k f (subst (λ n. SwapsInRange n ss) (sym (length_restored ss e)) range_e)

    -- of each file that is there
    pub back_each : (P : ScanFile O S → ScanFile O S → Type 0) → ((k : ℕ) (f : ScanFile O S) → k < length (exchanged ss a) → P (get_or (exchanged ss a) k f) (get_or e k f)) → (k : ℕ) (f : ScanFile O S) → k < length a → P (get_or a k f) (get_or (restored ss e) k f)
    back_each P h k f lt =
        restores (λ x y. (f : ScanFile O S) → Holds x y f) (length a) keeps ss a e r refl m (λ f k lt. h k f lt) f k lt
      where
        Holds : List (ScanFile O S) → List (ScanFile O S) → ScanFile O S → Type 0
        Holds x y f = (k : ℕ) → k < length x → P (get_or x k f) (get_or y k f)

        keeps : (x y : List (ScanFile O S)) (i j : ℕ) → length x ≡ length a → length y ≡ length a → i < length a → j < length a → ((f : ScanFile O S) → Holds x y f) → (f : ScanFile O S) → Holds (swap x i j) (swap y i j) f
        keeps x y i j l n p q g f k lt = swap_each_there i j P x y (n ∙ sym l) (omega (arith, l)) (omega (arith, l)) (λ k f lt. g f k lt) k f lt

    -- ---- why a drive ends without all rows
    module _ {W R I F : Type 0} (state : O → OpenerState I) (polls : O → O → Type 0) (refuses : O → O → F → Type 0) (admits : O → O → List W → Type 0) (source : S → SourceState) (items : R → List I) (limit : Option ℕ) (ordered : Bool) (c : Cache)
        (order : ordered ≡ true → ss ≡ []) where
      asked_back : (name : List ℕ) (id : ℕ) → IsAskedUnder source name id (exchanged ss a) e → IsAskedUnder source name id a (restored ss e)
      asked_back name id h = record {
        place = placed_by ss h.place;
        there = placed_below (length a) ss h.place r (let z = h.there in let l = length_exchanged ss a in omega arith);
        named = λ f. back_at (λ (x y : ScanFile O S). x.source_id ≡ name) (λ (x y : ScanFile O S). x.source_id ≡ name) (λ x y z. z) h.place f (h.named f);
        asked = λ f. back_at (λ (x y : ScanFile O S). WasAsked id (source x.source) (source y.source)) (λ (x y : ScanFile O S). WasAsked id (source x.source) (source y.source)) (λ x y z. z) h.place f (h.asked f);
      }

      came_back : (name : List ℕ) (id : ℕ) → CameOf source c (exchanged ss a) e name id → CameOf source c a (restored ss e) name id
      came_back name id (inl h) = inl (asked_back name id h)
      came_back name id (inr h) = inr h

      -- in order no place was exchanged
      before_back : (k : ℕ) → (ordered ≡ true → IsLawful state source (exchanged ss a) c → GivesBefore items true limit (tells state source (exchanged ss a)) k) → ordered ≡ true → IsLawful state source a c
          → GivesBefore items true limit (tells state source a) (placed_by ss k)
      before_back k h o =
          let none : ss ≡ [] = order o in
          subst (λ n. IsLawful state source a c → GivesBefore items true limit (tells state source a) n) (sym (ap (λ xs. placed_by xs k) none))
          (subst (λ xs. IsLawful state source (exchanged xs a) c → GivesBefore items true limit (tells state source (exchanged xs a)) k) none (h o))

      fault_back : (P Q : ScanFile O S → ScanFile O S → Type 0) → ((f g : ScanFile O S) → P f g → Q f g) → (k : ℕ) → IsFaultOf state polls refuses admits source items limit ordered c (exchanged ss a) e k P
          → IsFaultOf state polls refuses admits source items limit ordered c a (restored ss e) (placed_by ss k) Q
      fault_back P Q to k h = record {
        there = placed_below (length a) ss k r (let z = h.there in let l = length_exchanged ss a in omega arith);
        fact = λ f. back_at P Q to k f (h.fact f);
        before = before_back k h.before;
      }

      all_give : All (λ (f : ScanFile O S). IsSome (state f.opener).gives) a → All (λ (f : ScanFile O S). IsSome (state f.opener).gives) (exchanged ss a)
      all_give h = all_exchanged (λ (f : ScanFile O S). IsSome (state f.opener).gives) ss a r h

      many_back : (b : Bool) → (b ≡ true → ss ≡ []) → (k : ℕ) → AreTooMany state polls refuses admits source items limit ordered c (exchanged ss a) e b k → AreTooMany state polls refuses admits source items limit ordered c a (restored ss e) b (placed_by ss k)
      many_back true none k h = λ all.
          (let z : ss ≡ [] = none refl in
          subst (λ n. 2 ^ 64 ≤ rows_of (take (n + 1) (tells state source a))) (sym (ap (λ xs. placed_by xs k) z))
          (subst (λ xs. 2 ^ 64 ≤ rows_of (take (k + 1) (tells state source (exchanged xs a)))) z (h (all_give all))))
      many_back false none k h = λ all.
          subst (λ n. 2 ^ 64 ≤ n) (ap rows_of (tells_exchanged state source) ∙ rows_exchanged ss (tells state source a) (subst (λ n. SwapsInRange n ss) (sym (length-map a (tell state source))) r)) (h (all_give all))

      pub back_stops : (x : RoundFault F) → StopsDrive state polls refuses admits source items limit ordered c (exchanged ss a) e x → StopsDrive state polls refuses admits source items limit ordered c a (restored ss e) (fault_in (placed_by ss) x)
      back_stops (why.Split fault.NoMemory) h = tt
      back_stops (why.Split (fault.Source k id)) h =
          fault_back (StopsSource state polls refuses admits source items limit ordered c (exchanged ss a) e id) (StopsSource state polls refuses admits source items limit ordered c a (restored ss e) id)
          (λ f g x. record { failed = x.failed; asked = x.asked; admitted = x.admitted }) k h
      back_stops (why.Split (fault.Corrupt k id)) h =
          fault_back (StopsCorrupt state polls refuses admits source items limit ordered c (exchanged ss a) e id) (StopsCorrupt state polls refuses admits source items limit ordered c a (restored ss e) id)
          (λ f g x. record { bad = λ agrees. x.bad (cache_exchanged source c agrees); came = came_back f.source_id id x.came; admitted = x.admitted }) k h
      back_stops (why.Split (fault.Overflow k)) h =
          fault_back (StopsOverflow state polls refuses admits source items limit ordered c (exchanged ss a) e) (StopsOverflow state polls refuses admits source items limit ordered c a (restored ss e))
          (λ f g x agrees. x (cache_exchanged source c agrees)) k h
      back_stops (why.TooManyRows k) h = (
        fault_back (StopsUnread state polls refuses admits source items limit ordered c (exchanged ss a) e) (StopsUnread state polls refuses admits source items limit ordered c a (restored ss e))
            (λ f g x. record { none = x.none; admitted = x.admitted; rows = x.rows }) k h.0,
        many_back ordered order k h.1,
      )
      back_stops (why.Refused k x) h =
          fault_back (StopsRefused state polls refuses admits source items limit ordered c (exchanged ss a) e x) (StopsRefused state polls refuses admits source items limit ordered c a (restored ss e) x)
          (λ f g y. y) k h

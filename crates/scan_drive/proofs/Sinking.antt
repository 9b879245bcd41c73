-- What a sink has taken, after one step and another.
use Rattle.std.proofs.Common.{◌≡◌, ◌⊎◌, ℕ, zero, suc, ◌<◌, ◌≤◌, List, [], ◌∷◌, ◌++◌, length, map, Bool, true, false, Result, Ok, Err, Option, Some, None, inl, inr, refl, sym, ap, ◌∙◌, subst, arith, append_assoc, append-nil, All}
use Rattle.std.specs.List.{swap}
use Rattle.std.specs.List.Sorted.{SwapsInRange}
use Rattle.std.specs.Prelude.{IfOk}
use Rattle.std.proofs.lemmas.List.{map-append}
use Rattle.std.proofs.lemmas.List.Elements.{All-nil, All-cons, All-append}
use Rattle.std.proofs.lemmas.List.Edits.{length-swap}
use Rattle.scan_segments.specs.Source.{SourceState, Store}
use Rattle.scan_splits.specs.Arrivals.{Arrivals}
use Rattle.scan_drive.specs.Chunks.{given, HasRow, IsOf, KeepsRows}
use Rattle.scan_drive.specs.Desks.{Waiters}
use Rattle.scan_drive.specs.Ends.{limit_in}
use Rattle.scan_drive.specs.Files.{AllTell, answer}
use Rattle.scan_drive.specs.Filling.{AreCounted}
use Rattle.scan_drive.specs.Forward.{Spare, AreSpare}
use Rattle.scan_drive.specs.Grants.{AreGiven, Allows, IsGivenFront}
use Rattle.scan_drive.specs.Handed.{with_taken, Hands, HandsOver, made_by, WaitTakes, DriveTakes}
use Rattle.scan_drive.specs.Line.{exchange, placed_by, renamed}
use Rattle.scan_drive.specs.Moves.{tells}
use Rattle.scan_drive.specs.Openers.{OpenerState}
use Rattle.scan_drive.specs.Phases.{phase_at, IsQueued}
use Rattle.scan_drive.specs.Rounds.{Sound}
use Rattle.scan_drive.specs.Runnings.{GoesOn}
use Rattle.scan_drive.specs.Splits.{SplitState, Event}
use Rattle.scan_drive.specs.Taking.{IsTaking}
use Rattle.scan_drive.specs.Trades.{CacheAgrees}
use Rattle.scan_drive.specs.Wants.{Cache}
use Rattle.scan_drive.specs.declared.delivery.Chunk.{Chunk}
use Rattle.scan_drive.specs.declared.files.ScanFile.{ScanFile}
use Rattle.scan_drive.specs.declared.phase.Phase.{Phase}
use Rattle.scan_drive.specs.declared.phase.Phase.TheVariants as phase
use Rattle.scan_drive.specs.declared.phase.Tally.{Tally}
use Rattle.scan_drive.specs.declared.round.Drive.{Drive}
use Rattle.scan_drive.proofs.ExchangedDrive.{spare_counted}
use Rattle.scan_drive.proofs.Exchanging.{exchange_before, at_swapped}
use Rattle.scan_drive.proofs.Fronts.{front_sound, front_done, front_along}
use Rattle.scan_drive.proofs.LinePolls.{placed_append}
use Rattle.scan_drive.proofs.Outgone.{all_first}

module _ {S T R : Type 0} (made : Chunk R → T) (fits : T → Type 0) (takes : S → List T → S → Type 0) (taking : IsTaking takes) where
  -- nothing is taken
  pub hands_none : (xs : S) (P : List (Chunk R) → Type 0) → P [] → Hands made fits takes xs xs P
  hands_none xs P p = record { chunks = []; took = taking.none xs; fitting = All-nil fits; so = p }

  pub took_then : (xs ys zs : S) (us vs : List (Chunk R)) → takes xs (map made us) ys → takes ys (map made vs) zs → takes xs (map made (us ++ vs)) zs
  took_then xs ys zs us vs a b = subst (λ ts. takes xs ts zs) (sym (map-append made us vs)) (taking.more xs ys zs (map made us) (map made vs) a b)

  -- nothing more is
  pub took_no_more : (xs ys zs : S) (us : List (Chunk R)) → takes xs (map made us) ys → takes ys [] zs → takes xs (map made us) zs
  took_no_more xs ys zs us a b = subst (λ ts. takes xs ts zs) (append-nil (map made us)) (taking.more xs ys zs (map made us) [] a b)

  pub fits_then : (us vs : List (Chunk R)) → All fits (map made us) → All fits (map made vs) → All fits (map made (us ++ vs))
  fits_then us vs f g = subst (All fits) (sym (map-append made us vs)) (All-append fits (map made us) (map made vs) f g)

  -- more is
  pub hands_then : (xs ys zs : S) (us vs : List (Chunk R)) (P : List (Chunk R) → Type 0) → takes xs (map made us) ys → All fits (map made us) → takes ys (map made vs) zs → All fits (map made vs) → P (us ++ vs) → Hands made fits takes xs zs P
  hands_then xs ys zs us vs P a f b g p = record { chunks = us ++ vs; took = took_then xs ys zs us vs a b; fitting = fits_then us vs f g; so = p }

  -- another thing holds of it
  pub hands_to : (xs ys : S) (P Q : List (Chunk R) → Type 0) → ((us : List (Chunk R)) → P us → Q us) → Hands made fits takes xs ys P → Hands made fits takes xs ys Q
  hands_to xs ys P Q to h = record { chunks = h.chunks; took = h.took; fitting = h.fitting; so = to h.chunks h.so }

  -- it has where that is so, and else nothing more
  pub by_first : (xs ys zs : S) (us vs : List (Chunk R)) (b : Bool) (P : List (Chunk R) → Type 0) → takes xs (map made us) ys → All fits (map made us) → takes ys (map made vs) zs → All fits (map made vs)
      → (b ≡ true → P (us ++ vs)) → (b ≡ false → takes ys [] zs) → P us → Hands made fits takes xs zs P
  by_first xs ys zs us vs b P a f c g some none so = go b refl
    where
      go : (d : Bool) → b ≡ d → Hands made fits takes xs zs P
      go true is = hands_then xs ys zs us vs P a f c g (some is)
      go false is = record { chunks = us; took = took_no_more xs ys zs us a (none is); fitting = f; so = so }

-- ---- chunks that wait are handed over, one after the other
module _ {S T R : Type 0} (made : Chunk R → T) (fits : T → Type 0) (takes : S → List T → S → Type 0) (taking : IsTaking takes) (xs ys : S) (old : List (Chunk R)) (waiting : List (Chunk R)) (h : Hands made fits takes xs ys (λ us. old ≡ us ++ waiting)) where
  -- none waits any more
  pub over_all : (new : List (Chunk R)) {U N : Type 0} (u : U) → waiting ≡ [] → new ≡ [] → HandsOver made fits takes {N = N} (Ok u) old new xs ys
  over_all new u none gone = record { moved = h.chunks; rest = []; were = h.so ∙ ap (λ vs. h.chunks ++ vs) none; took = h.took; fitting = h.fitting; left = gone }

  module _ (x : Chunk R) (new : List (Chunk R)) (is : waiting ≡ x ∷ new) where
    -- the sink had no memory for one
    pub over_short : {U N : Type 0} (n : N) (zs : S) → takes ys [] zs → HandsOver made fits takes {U = U} (Err n) old new xs zs
    over_short n zs same = record { moved = h.chunks; rest = x ∷ new; were = h.so ∙ ap (λ vs. h.chunks ++ vs) is; took = took_no_more made fits takes taking xs ys zs h.chunks h.took same; fitting = h.fitting; left = tt }

    module _ (t : T) (zs : S) (took : takes ys (t ∷ []) zs) (made_is : t ≡ made x) (fit : fits t) where
      one : takes ys (map made (x ∷ [])) zs
      one = subst (λ z. takes ys (z ∷ []) zs) made_is took

      good : All fits (map made (x ∷ []))
      good = All-cons fits (made x) [] (subst fits made_is fit) (All-nil fits)

      parts : old ≡ (h.chunks ++ x ∷ []) ++ new
      parts = h.so ∙ ap (λ vs. h.chunks ++ vs) is ∙ sym (append_assoc h.chunks (x ∷ []) new)

      -- it has taken one more
      pub over_more : Hands made fits takes xs zs (λ us. old ≡ us ++ new)
      over_more = hands_then made fits takes taking xs ys zs h.chunks (x ∷ []) (λ us. old ≡ us ++ new) h.took h.fitting one good parts

      -- and wants no more
      pub over_stop : {U N : Type 0} (u : U) → HandsOver made fits takes {N = N} (Ok u) old new xs zs
      over_stop u = record {
        moved = h.chunks ++ x ∷ [];
        rest = new;
        were = parts;
        took = took_then made fits takes taking xs ys zs h.chunks (x ∷ []) h.took one;
        fitting = fits_then made fits takes taking h.chunks (x ∷ []) h.fitting good;
        left = refl;
      }

-- what is made of chunks of places, under another name of each
module _ {S T R : Type 0} (made : Chunk R → T) (fits : T → Type 0) (takes : S → List T → S → Type 0) where
  map_by : (f : ℕ → ℕ) (us : List (Chunk R)) → map (made_by made f) us ≡ map made (map (renamed f) us)
  map_by f [] = refl
  map_by f (c ∷ cs) = ap (λ zs. made (renamed f c) ∷ zs) (map_by f cs)

  pub hands_named : (f : ℕ → ℕ) (xs ys : S) (P Q : List (Chunk R) → Type 0) → ((us : List (Chunk R)) → P us → Q (map (renamed f) us)) → Hands (made_by made f) fits takes xs ys P → Hands made fits takes xs ys Q
  hands_named f xs ys P Q to h = record {
    chunks = map (renamed f) h.chunks;
    took = subst (λ ts. takes xs ts ys) (map_by f h.chunks) h.took;
    fitting = subst (All fits) (map_by f h.chunks) h.fitting;
    so = to h.chunks h.so;
  }

  same_names : (f g : ℕ → ℕ) (n : ℕ) → ((k : ℕ) → k < n → f k ≡ g k) → (us : List (Chunk R)) → All (IsOf n) us → map (made_by made f) us ≡ map (made_by made g) us
  same_names f g n e [] h = refl
  same_names f g n e (c ∷ cs) h =
      let here = e c.file (h 0 c (omega arith)) in
      let later = same_names f g n e cs (λ j d lt. h (suc j) d (omega (arith, lt))) in
      λ i. made (record { file = here i; rows = c.rows }) ∷ later i

  -- chunks that were taken under names, and more under these, are taken under others that are the same for all files that they are of
  pub hands_both : (taking : IsTaking takes) (f g : ℕ → ℕ) (n : ℕ) (xs ys zs : S) (us vs : List (Chunk R)) → ((k : ℕ) → k < n → f k ≡ g k) → All (IsOf n) (us ++ vs)
      → takes xs (map (made_by made f) us) ys → All fits (map (made_by made f) us) → takes ys (map (made_by made f) vs) zs → All fits (map (made_by made f) vs)
      → (P : List (Chunk R) → Type 0) → P (us ++ vs) → Hands (made_by made g) fits takes xs zs P
  hands_both taking f g n xs ys zs us vs e low a p b q P so =
      let same = same_names f g n e (us ++ vs) low in
      record {
        chunks = us ++ vs;
        took = subst (λ ts. takes xs ts zs) same (took_then (made_by made f) fits takes taking xs ys zs us vs a b);
        fitting = subst (All fits) same (fits_then (made_by made f) fits takes taking us vs p q);
        so = so;
      }

-- ---- no file that is counted is exchanged
module _ {W F : Type 0} where
  counted_swapped : (i j first : ℕ) (t : Tally) (ps : List (Phase W F)) → Spare i j ps → AreCounted first t ps → AreCounted first t (swap ps i j)
  counted_swapped i j first t ps s h =
      let le = spare_counted i j ps s first t h in
      let a = s.apart in
      let w = s.within in
      record {
        from = h.from;
        queued = λ k lt. at_swapped IsQueued ps i j k phase.Unopened (omega (arith, a, w)) w (subst (λ m. IsQueued (phase_at ps m)) (sym (exchange_before t.files i j k le (omega (arith, le, a)) lt)) (h.queued k lt));
      }

  pub placed_stays : (ss : List (ℕ × ℕ)) (first : ℕ) (t : Tally) (ps : List (Phase W F)) → AreSpare ss ps → AreCounted first t ps → (k : ℕ) → k < t.files → placed_by ss k ≡ k
  placed_stays [] first t ps spare h k lt = refl
  placed_stays (s ∷ ss) first t ps spare h k lt =
      let le = spare_counted s.0 s.1 ps spare.0 first t h in
      let a = spare.0.apart in
      ap (exchange s.0 s.1) (placed_stays ss first t (swap ps s.0 s.1) spare.1 (counted_swapped s.0 s.1 first t ps spare.0 h) k lt) ∙ exchange_before t.files s.0 s.1 k le (omega (arith, le, a)) lt

  -- such files have the names that they had
  pub placed_on : (log ss : List (ℕ × ℕ)) (first : ℕ) (t : Tally) (ps : List (Phase W F)) → AreSpare ss ps → AreCounted first t ps → (k : ℕ) → k < t.files → placed_by log k ≡ placed_by (log ++ ss) k
  placed_on log ss first t ps spare h k lt = sym (placed_append log ss k ∙ ap (placed_by log) (placed_stays ss first t ps spare h k lt))

-- ---- a wait
module _ {O S W I R F : Type 0} (state : O → OpenerState I) (polls : O → O → Type 0) (refuses : O → O → F → Type 0) (source : S → SourceState) (split : W → SplitState I) (comes : W → Arrivals → Store → Event → Type 0) (items : R → List I) where
  -- a drive that goes on has given a front of the answer
  pub takes_going : (n : ℕ) (a b : List (ScanFile O S)) (ks : List Waiters) (c : Cache) (d0 v : Drive W R F) (us vs : List (Chunk R)) → v.chunks.items ≡ us ++ vs → KeepsRows items d0.chunks.items v.chunks.items
      → GoesOn state polls refuses source split comes items n a b ks c d0 v → WaitTakes state source split comes items a c d0 us
  takes_going n a b ks c d0 v us vs e rows g = record {
    rows = λ h. all_first (HasRow items) us vs (subst (All (HasRow items)) e (rows h));
    front = λ agrees all s. front_along items d0.ordered v.ordered (limit_in split comes items d0) (limit_in split comes items v) (answer (tells state source a)) (given items us) g.ordered g.limit
        (front_sound split comes items (tells state source a) v us vs e all (g.sound agrees s));
  }

  -- so has one that has given all
  pub takes_done : (a : List (ScanFile O S)) (c : Cache) (d0 v : Drive W R F) (us vs : List (Chunk R)) → v.chunks.items ≡ us ++ vs → KeepsRows items d0.chunks.items v.chunks.items
      → (CacheAgrees source a c → AllTell (tells state source a) → Sound split comes items (tells state source a) d0 → AreGiven d0.ordered (limit_in split comes items d0) (answer (tells state source a)) (given items v.chunks.items))
      → WaitTakes state source split comes items a c d0 us
  takes_done a c d0 v us vs e rows done = record {
    rows = λ h. all_first (HasRow items) us vs (subst (All (HasRow items)) e (rows h));
    front = λ agrees all s. front_done items d0.ordered (limit_in split comes items d0) (answer (tells state source a)) v.chunks.items us vs e (done agrees all s);
  }

module _ {O S W I R F : Type 0} (state : O → OpenerState I) (source : S → SourceState) (split : W → SplitState I) (comes : W → Arrivals → Store → Event → Type 0) (items : R → List I) where
  -- so has one of which it is known what it has given
  pub takes_front : (a : List (ScanFile O S)) (c : Cache) (d0 v v' : Drive W R F) (us vs : List (Chunk R)) → v'.chunks.items ≡ us ++ vs → KeepsRows items d0.chunks.items v'.chunks.items → v.ordered ≡ d0.ordered
      → limit_in split comes items v ≡ limit_in split comes items d0
      → (CacheAgrees source a c → AllTell (tells state source a) → Sound split comes items (tells state source a) d0 → IsGivenFront v.ordered (limit_in split comes items v) (answer (tells state source a)) (given items v'.chunks.items))
      → WaitTakes state source split comes items a c d0 us
  takes_front a c d0 v v' us vs e rows ordered limit front = record {
    rows = λ h. all_first (HasRow items) us vs (subst (All (HasRow items)) e (rows h));
    front = λ agrees all s.
        (let f = front_along items d0.ordered v.ordered (limit_in split comes items d0) (limit_in split comes items v) (answer (tells state source a)) (given items v'.chunks.items) ordered limit (front agrees all s) in
        let g = front_done items d0.ordered (Some f.most) (answer (tells state source a)) v'.chunks.items us vs e f.given in
        record { most = g.most; within = lower (limit_in split comes items d0) f.most g.most f.within g.within; given = g.given });
  }
    where
      lower : (l : Option ℕ) (m n : ℕ) → Allows l m → n ≤ m → Allows l n
      lower None m n a le = tt
      lower (Some k) m n a le = omega (arith, a, le)

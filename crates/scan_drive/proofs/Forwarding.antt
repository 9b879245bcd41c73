-- A drive since its start, after files that are open were brought before those that are not.
use Rattle.std.proofs.Common.{◌≡◌, ℕ, ◌<◌, List, [], ◌∷◌, ◌++◌, length, Bool, true, false, refl, sym, ap, ◌∙◌, subst, arith, append_assoc, append-nil}
use Rattle.std.specs.Prelude.{All}
use Rattle.std.specs.List.{swap}
use Rattle.std.specs.Vec.{with_item}
use Rattle.std.proofs.lemmas.List.Edits.{length-swap, swap_is}
use Rattle.scan_segments.specs.Source.{SourceState, Store}
use Rattle.scan_splits.specs.Arrivals.{Arrivals}
use Rattle.scan_drive.specs.Chunks.{HasRow}
use Rattle.scan_drive.specs.Desks.{Waiters}
use Rattle.scan_drive.specs.Drives.{FilesWithin}
use Rattle.scan_drive.specs.Forward.{Spare, AreSpare, Rephased, LineEdge}
use Rattle.scan_drive.specs.Files.{Told}
use Rattle.scan_drive.specs.Line.{exchanged}
use Rattle.scan_drive.specs.Moves.{tell, tells}
use Rattle.scan_drive.specs.Openers.{OpenerState}
use Rattle.scan_drive.specs.Phases.{phase_at}
use Rattle.scan_drive.specs.Rounds.{Stands, Sound}
use Rattle.scan_drive.specs.Splits.{SplitState, Event}
use Rattle.scan_drive.specs.Trades.{CacheAgrees}
use Rattle.scan_drive.specs.Wants.{Cache}
use Rattle.scan_drive.specs.declared.active.Active.{Active}
use Rattle.scan_drive.specs.declared.files.ScanFile.{ScanFile}
use Rattle.scan_drive.specs.declared.phase.Phase.TheVariants as phase
use Rattle.scan_drive.specs.declared.report.ScanReport.{ScanReport}
use Rattle.scan_drive.specs.declared.round.Drive.{Drive}
use Rattle.std.proofs.lemmas.List.{length-map}
use Rattle.scan_drive.proofs.Accounting.{Goes}
use Rattle.scan_drive.proofs.Exchanging.{swap_twice}
use Rattle.scan_drive.proofs.ExchangedBooks.{swap_balance}
use Rattle.scan_drive.proofs.ExchangedDrive.{spare_counted, grounded_low, swap_grounded, swap_stands, swap_linked, swap_limit, swap_why, swap_order}
use Rattle.scan_drive.proofs.ExchangedPolls.{swap_stand}
use Rattle.scan_drive.proofs.ExchangedGroups.{swap_sound}
use Rattle.scan_drive.proofs.ExchangedFiles.{swap_agree, swap_moves, swap_cache, swap_trade, swap_tells}
use Rattle.scan_drive.proofs.LinePolls.{edge_swap}
use Rattle.scan_drive.proofs.Lining.{Runs}
use Rattle.scan_drive.proofs.Moving.{each_under}

module _ {O S W R I F : Type 0} (state : O → OpenerState I) (polls : O → O → Type 0) (refuses : O → O → F → Type 0) (admits : O → O → List W → Type 0) (source : S → SourceState)
    (split : W → SplitState I) (comes : W → Arrivals → Store → Event → Type 0) (items : R → List I) (c0 : Cache) (d0 : Drive W R F) where
  module _ (i j : ℕ) (a b : List (ScanFile O S)) (ks : List Waiters) (c : Cache) (v w : Drive W R F) (s : Spare i j v.phases.items) (e : Rephased (swap v.phases.items i j) v w) (free : v.ordered ≡ false) (r : Runs state polls refuses admits source split comes items c0 d0 a b ks c v) where
    p : i < length a
    p = let x = s.apart in let y = s.within in let z = r.stands.lens in omega (arith, x, y, z)

    q : j < length a
    q = let y = s.within in let z = r.stands.lens in omega (arith, y, z)

    pb : i < length b
    pb = let z = r.moves.len in let x = p in omega (arith, x, z)

    qb : j < length b
    qb = let z = r.moves.len in let x = q in omega (arith, x, z)

    long : length a ≡ length v.phases.items
    long = sym r.stands.lens

    low : FilesWithin i v.active.slots.items
    low = grounded_low i j v w e s source a b long r.moves.len state polls admits c0 c r.grounded

    back : CacheAgrees source (swap a i j) c0 → CacheAgrees source a c0
    back h = subst (λ (xs : List (ScanFile O S)). CacheAgrees source xs c0) (swap_twice a i j p q)
        (swap_cache i j source (swap a i j) c0 (let l = length-swap a i j in let x = p in omega (arith, l, x)) (let l = length-swap a i j in let x = q in omega (arith, l, x)) h)

    keeps : Goes source (swap a i j) (swap b i j) c0 c d0.report w.report d0.active.slots.items w.active.slots.items
    keeps = subst (λ (x : Active W R). Goes source (swap a i j) (swap b i j) c0 c d0.report w.report d0.active.slots.items x.slots.items) (sym e.active)
        (subst (λ (x : ScanReport). Goes source (swap a i j) (swap b i j) c0 c d0.report x d0.active.slots.items v.active.slots.items) (sym e.report)
        (r.keeps.0, swap_balance source a b i j r.moves.len p q c0 c d0.report v.report v.active.slots.items r.keeps.1))

    pub runs_swap : Runs state polls refuses admits source split comes items c0 d0 (swap a i j) (swap b i j) (swap ks i j) c w
    runs_swap = record {
      agree = swap_agree i j source b ks pb qb r.agree;
      moves = each_under state polls source (CacheAgrees source a c0) (CacheAgrees source (swap a i j) c0) back (swap a i j) (swap b i j) (swap_moves i j state polls source (CacheAgrees source a c0) a b p q r.moves);
      trades = swap_trade i j source a b c0 c p q r.trades;
      grounded = swap_grounded i j v w e s source a b long r.moves.len state polls admits c0 c r.grounded;
      keeps = keeps;
      rows = subst (All (HasRow items)) (sym (ap (λ cs. cs.items) e.chunks)) r.rows;
      stands = subst (λ n. Stands n w) (sym (length-swap a i j)) (swap_stands i j v w e s (length a) r.stands);
      links = swap_linked i j v w e s ks (r.agree.len ∙ r.moves.len ∙ long) low r.links;
      limit = swap_limit i j v w e split comes items ∙ r.limit;
      why = swap_why i j v w e s state polls refuses a b long r.moves.len r.why;
      sound = λ h. subst (λ (ts : List (Told I)). Sound split comes items ts w) (sym (swap_tells i j state source a p q)) (swap_sound split comes items i j v w e s (tells state source a) (length-map a (tell state source) ∙ long) free
          (λ place t. low place (r.stands.ready.filled place t)) (spare_counted i j v.phases.items s v.first v.tally r.grounded.counted) r.grounded.given (r.sound (back h)));
      order = swap_order i j v w e r.order;
      ordered = e.ordered ∙ r.ordered;
      stand = swap_stand state i j v w e s a b long r.moves.len r.stand;
    }

  -- a drive in the middle of several exchanges
  abbrev pub mid_of : ℕ → ℕ → Drive W R F → Drive W R F
  mid_of i j v = record v { phases = with_item (with_item v.phases i (phase_at v.phases.items j)) j (phase_at v.phases.items i) }

  mid_is : (i j : ℕ) (v : Drive W R F) → i < length v.phases.items → j < length v.phases.items → Rephased (swap v.phases.items i j) v (mid_of i j v)
  mid_is i j v p q = record { phases_are = swap_is v.phases.items i j phase.Unopened p q; active = refl; chunks = refl; first = refl; tally = refl; left = refl; report = refl; ordered = refl; budget = refl; unclaimed = refl }

  from_mid : (ss : List (ℕ × ℕ)) (i j : ℕ) (v w : Drive W R F) → Rephased (swap v.phases.items i j) v (mid_of i j v) → Rephased (exchanged ss (swap v.phases.items i j)) v w → Rephased (exchanged ss (mid_of i j v).phases.items) (mid_of i j v) w
  from_mid ss i j v w m e = record { phases_are = e.phases_are ∙ ap (exchanged ss) (sym m.phases_are); active = e.active; chunks = e.chunks; first = e.first; tally = e.tally; left = e.left; report = e.report; ordered = e.ordered; budget = e.budget; unclaimed = e.unclaimed }

  never : (t : ℕ × ℕ) (ss : List (ℕ × ℕ)) (P : Type 0) → t ∷ ss ≡ [] → P
  never t ss P bad = absurd cc

  -- where places are exchanged there is no order
  unordered : (t : ℕ × ℕ) (ss : List (ℕ × ℕ)) (b : Bool) → (b ≡ true → t ∷ ss ≡ []) → b ≡ false
  unordered t ss true h = never t ss (true ≡ false) (h refl)
  unordered t ss false h = refl

  pub runs_line : (ss : List (ℕ × ℕ)) (log : List (ℕ × ℕ)) (a b : List (ScanFile O S)) (ks : List Waiters) (c : Cache) (v w : Drive W R F) → AreSpare ss v.phases.items → Rephased (exchanged ss v.phases.items) v w → (ss ≡ [] → w ≡ v) → (v.ordered ≡ true → ss ≡ []) →
      Runs state polls refuses admits source split comes items c0 d0 a b ks c v → LineEdge state log a b →
      Runs state polls refuses admits source split comes items c0 d0 (exchanged ss a) (exchanged ss b) (exchanged ss ks) c w × LineEdge state (log ++ ss) (exchanged ss a) (exchanged ss b)
  runs_line [] log a b ks c v w spare e none o r g = (
    subst (λ (u : Drive W R F). Runs state polls refuses admits source split comes items c0 d0 a b ks c u) (sym (none refl)) r,
    subst (λ ss. LineEdge state ss a b) (sym (append-nil log)) g,
  )
  runs_line (s ∷ []) log a b ks c v w spare e none o r g = (
    runs_swap s.0 s.1 a b ks c v w spare.0 e (unordered s [] v.ordered o) r,
    edge_swap state log s.0 s.1 a b v.phases.items r.moves.len spare.0.apart (q s.0 s.1 a b ks c v w spare.0 e (unordered s [] v.ordered o) r) spare.0.opened r.stand g,
  )
  runs_line (s ∷ t ∷ ss) log a b ks c v w spare e none o r g =
      let m : Drive W R F = mid_of s.0 s.1 v in
      let free : v.ordered ≡ false = unordered s (t ∷ ss) v.ordered o in
      let to_mid : Rephased (swap v.phases.items s.0 s.1) v m = mid_is s.0 s.1 v (let x = spare.0.apart in let y = spare.0.within in omega (arith, x, y)) spare.0.within in
      let rest : Runs state polls refuses admits source split comes items c0 d0 (exchanged (s ∷ t ∷ ss) a) (exchanged (s ∷ t ∷ ss) b) (exchanged (s ∷ t ∷ ss) ks) c w × LineEdge state ((log ++ s ∷ []) ++ t ∷ ss) (exchanged (s ∷ t ∷ ss) a) (exchanged (s ∷ t ∷ ss) b) =
      runs_line (t ∷ ss) (log ++ s ∷ []) (swap a s.0 s.1) (swap b s.0 s.1) (swap ks s.0 s.1) c m w (subst (AreSpare (t ∷ ss)) (sym to_mid.phases_are) spare.1) (from_mid (t ∷ ss) s.0 s.1 v w to_mid e) (never t ss (w ≡ m))
      (λ x. never s (t ∷ ss) (t ∷ ss ≡ []) (o x))
      (runs_swap s.0 s.1 a b ks c v m spare.0 to_mid free r)
      (edge_swap state log s.0 s.1 a b v.phases.items r.moves.len spare.0.apart (q s.0 s.1 a b ks c v m spare.0 to_mid free r) spare.0.opened r.stand g)
      in
      (rest.0, subst (λ xs. LineEdge state xs (exchanged (s ∷ t ∷ ss) a) (exchanged (s ∷ t ∷ ss) b)) (append_assoc log (s ∷ []) (t ∷ ss)) rest.1)

-- The report of a drive, and what it put, of files that are put back.
use Rattle.std.proofs.Common.{◌≡◌, ℕ, ◌<◌, List, [], ◌∷◌, length, get_or, false, All, Option, None, IfSome, refl, sym, ◌∙◌, subst, arith}
use Rattle.std.specs.List.Sorted.{SwapsInRange}
use Rattle.scan_segments.specs.Source.{SourceState}
use Rattle.scan_drive.specs.Accounts.{AllServed, RunEnds}
use Rattle.scan_drive.specs.Desks.{Waiters, IsAwaited}
use Rattle.scan_drive.specs.Drives.{desk_at, DesksAgree, IsIdle, SourcesMove, NoneOf}
use Rattle.scan_drive.specs.Ledger.{Balance, books_of, KeepsAllBalance}
use Rattle.scan_drive.specs.Line.{exchanged, restored}
use Rattle.scan_drive.specs.Losses.{FilesBalance}
use Rattle.scan_drive.specs.Sources.{SourceMoves}
use Rattle.scan_drive.specs.Traffic.{ended_since, capped_report, IsReport, asked_keys, PutsWhatItAsked}
use Rattle.scan_drive.specs.Wants.{Cache}
use Rattle.scan_drive.specs.declared.files.ScanFile.{ScanFile}
use Rattle.scan_drive.specs.declared.report.ScanReport.{ScanReport}
use Rattle.scan_drive.specs.declared.round.Drive.{Drive}
use Rattle.scan_drive.proofs.Exchanging.{length_exchanged, length_restored, all_exchanged, all_restored, restores}
use Rattle.scan_drive.proofs.ExchangedBack.{back_balance}
use Rattle.scan_drive.proofs.ExchangedBooks.{books_balance}
use Rattle.scan_drive.proofs.ExchangedFiles.{swap_each}
use Rattle.scan_drive.proofs.Halting.{round_balance}
use Rattle.scan_drive.proofs.Reckoning.{SameNames, ends_puts}
use Rattle.scan_drive.proofs.Starting.{served_idle, driven_report}

module _ {O S : Type 0} where
  -- a fact of each of the files, after other calls, once both are put back
  pub restored_each : (P : ScanFile O S → ScanFile O S → Type 0) (log : List (ℕ × ℕ)) (b e : List (ScanFile O S)) → length e ≡ length b → SwapsInRange (length b) log
      → ((k : ℕ) (f : ScanFile O S) → P (get_or b k f) (get_or e k f)) → (k : ℕ) (f : ScanFile O S) → P (get_or (restored log b) k f) (get_or (restored log e) k f)
  restored_each P [] b e m r h = h
  restored_each P (s ∷ log) b e m r h =
      let lb : length (restored log b) ≡ length b = length_restored log b in
      let le : length (restored log e) ≡ length e = length_restored log e in
      let x = r.0 in
      let y = r.1 in
      swap_each s.0 s.1 P (restored log b) (restored log e) (le ∙ m ∙ sym lb) (omega arith) (omega arith) (restored_each P log b e m r.2 h)

module _ {O S : Type 0} (source : S → SourceState) (log : List (ℕ × ℕ)) (a : List (ScanFile O S)) (r : SwapsInRange (length a) log) where
  pub names_back : (e : List (ScanFile O S)) → length e ≡ length a → SameNames source (exchanged log a) e → SameNames source a (restored log e)
  names_back e m h =
      restores (SameNames source) (length a) (λ x y i j l n p q k. swap_each i j (λ (f g : ScanFile O S). g.source_id ≡ f.source_id) x y (n ∙ sym l) (omega (arith, l)) (omega (arith, l)) k) log a e r refl m h

  -- calls that ask for nothing
  pub moves_back : (b e : List (ScanFile O S)) → length b ≡ length a → SourcesMove source NoneOf b e → SourcesMove source NoneOf (restored log b) (restored log e)
  moves_back b e n m = record {
    len = length_restored log e ∙ m.len ∙ sym (length_restored log b);
    opener = restored_each (λ (f g : ScanFile O S). g.opener ≡ f.opener) log b e m.len range m.opener;
    name = restored_each (λ (f g : ScanFile O S). g.source_id ≡ f.source_id) log b e m.len range m.name;
    moves = restored_each (λ (f g : ScanFile O S). SourceMoves (λ id. ⊥) (source f.source) (source g.source)) log b e m.len range m.moves;
  }
    where
      range : SwapsInRange (length b) log
      range = subst (λ k. SwapsInRange k log) (sym n) r

  -- a drive whose last round is done, and whose requests are dropped then
  module _ {W R F : Type 0} (limit : Option ℕ) (b e : List (ScanFile O S)) (desks : List Waiters) (c d : Cache) (old new : Drive W R F) (idle : All (IsIdle source) a) (names : SameNames source (exchanged log a) b) (zeros : old.report ≡ capped_report 0 0 0)
      (k : RunEnds source limit (exchanged log a) b desks c d old new) (n : length b ≡ length (exchanged log a)) (m : SourcesMove source NoneOf b e) where
    nb : length b ≡ length a
    nb = n ∙ length_exchanged log a

    ends : RunEnds source limit a (restored log b) desks c d old new
    ends = record { slots = k.slots; stay = k.stay; balance = back_balance log a r b nb source c d old.report new.report k.slots k.balance; served = k.served }

    pub back_report : IsReport (length (asked_keys source a (restored log e))) (ended_since c d) new.report
    back_report =
        driven_report source limit a (restored log b) (restored log e) desks c d old new idle (names_back b nb names) zeros ends (length_restored log b ∙ nb) (moves_back b e nb m)

    names_now : SameNames source (exchanged log a) e
    names_now i f = m.name i f ∙ names i f

    pub back_puts : DesksAgree source b desks → ((i : ℕ) → i < length desks → IsAwaited (desk_at desks i)) → (All (IsIdle source) b → KeepsAllBalance source b e) → All (IsIdle source) e → limit ≡ None
        → IfSome (ended_since c d) (PutsWhatItAsked source a (restored log e) c d)
    back_puts agree awaited closes rests none =
        let served : AllServed desks k.slots = k.served none in
        let from_start : FilesBalance source (exchanged log a) b c d (capped_report 0 0 0) new.report k.slots = subst (λ (y : ScanReport). FilesBalance source (exchanged log a) b c d y new.report k.slots) zeros k.balance in
        let balance : Balance (books_of source (exchanged log a) b) c d new.report false = round_balance source (exchanged log a) b c d new.report k.slots (all_exchanged (IsIdle source) log a r idle) served.halts from_start in
        let closed : Balance (books_of source (exchanged log a) e) c d new.report false = closes (served_idle source b desks k.slots agree served awaited) d new.report false (exchanged log a) c n balance in
        let ne : length e ≡ length a = m.len ∙ nb in
        let books : Balance (books_of source a (restored log e)) c d new.report false =
        restores (λ x y. Balance (books_of source x y) c d new.report false) (length a) (λ x y i j l z p q g. books_balance source x y i j (z ∙ sym l) (omega (arith, l)) (omega (arith, l)) c d new.report false g) log a e r refl ne closed in
        ends_puts source a (restored log e) c d (names_back e ne names_now) new.report (all_restored (IsIdle source) log e (subst (λ x. SwapsInRange x log) (sym ne) r) rests) books

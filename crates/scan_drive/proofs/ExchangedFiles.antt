-- Files of which two are exchanged: what holds of each still does.
use Rattle.std.proofs.lemmas.List.{length-map}
use Rattle.std.proofs.Common.{◌≡◌, ℕ, ◌<◌, List, [], length, get_or, swap, sym, ◌∙◌, subst, arith, Some}
use Rattle.std.proofs.lemmas.List.Edits.{length-swap}
use Rattle.scan_segments.specs.Source.{SourceState}
use Rattle.scan_drive.specs.Desks.{Waiters, Agree}
use Rattle.scan_drive.specs.Drives.{DesksAgree}
use Rattle.scan_drive.specs.Files.{Tells, AllTell}
use Rattle.scan_drive.specs.Line.{exchange}
use Rattle.scan_drive.specs.Moves.{FileMoves, EachMoves, tell, tells}
use Rattle.scan_drive.specs.Openers.{OpenerState}
use Rattle.scan_drive.specs.Rounds.{IsLawful}
use Rattle.scan_drive.specs.Trades.{Trusts, CacheAgrees, FilesTrade}
use Rattle.scan_drive.specs.Wants.{Cache}
use Rattle.scan_drive.specs.declared.files.ScanFile.{ScanFile}
use Rattle.scan_drive.proofs.Exchanging.{exchange_below, swap_at, swap_twice, all_swapped, map_swapped, at_swapped, both_swapped}
use Rattle.scan_drive.proofs.ExchangedBooks.{swap_keeps_ledger}

module _ {O S : Type 0} (i j : ℕ) where
  -- a fact of each file, as it was and as it is
  pub swap_each : (P : ScanFile O S → ScanFile O S → Type 0) (a b : List (ScanFile O S)) → length b ≡ length a → i < length a → j < length a
      → ((k : ℕ) (f : ScanFile O S) → P (get_or a k f) (get_or b k f)) → (k : ℕ) (f : ScanFile O S) → P (get_or (swap a i j) k f) (get_or (swap b i j) k f)
  swap_each P a b m p q h k f = both_swapped P a b i j k f f p q (omega (arith, m)) (omega (arith, m)) (h (exchange i j k) f)

  -- of each file that is there
  pub swap_each_there : (P : ScanFile O S → ScanFile O S → Type 0) (a b : List (ScanFile O S)) → length b ≡ length a → i < length a → j < length a
      → ((k : ℕ) (f : ScanFile O S) → k < length a → P (get_or a k f) (get_or b k f)) → (k : ℕ) (f : ScanFile O S) → k < length (swap a i j) → P (get_or (swap a i j) k f) (get_or (swap b i j) k f)
  swap_each_there P a b m p q h k f lt =
      let l = length-swap a i j in
      both_swapped P a b i j k f f p q (omega (arith, m)) (omega (arith, m)) (h (exchange i j k) f (exchange_below (length a) i j k p q (omega arith)))

  pub swap_agree : (source : S → SourceState) (b : List (ScanFile O S)) (ks : List Waiters) → i < length b → j < length b → DesksAgree source b ks → DesksAgree source (swap b i j) (swap ks i j)
  swap_agree source b ks p q h = record {
    len = length-swap ks i j ∙ h.len ∙ sym (length-swap b i j);
    at = λ k f lt. (let m = h.len in let l = length-swap b i j in
        both_swapped (λ (g : ScanFile O S) (d : Waiters). Agree (source g.source).live d) b ks i j k f [] p q (omega arith) (omega arith) (h.at (exchange i j k) f (exchange_below (length b) i j k p q (omega arith))));
  }

  pub swap_moves : {I : Type 0} (state : O → OpenerState I) (polls : O → O → Type 0) (source : S → SourceState) (If : Type 0) (a b : List (ScanFile O S)) → i < length a → j < length a
      → EachMoves state polls source If a b → EachMoves state polls source If (swap a i j) (swap b i j)
  swap_moves state polls source If a b p q h = record {
    len = length-swap b i j ∙ h.len ∙ sym (length-swap a i j);
    at = swap_each (FileMoves state polls source If) a b h.len p q h.at;
  }

  pub swap_cache : (source : S → SourceState) (a : List (ScanFile O S)) (c : Cache) → i < length a → j < length a → CacheAgrees source a c → CacheAgrees source (swap a i j) c
  swap_cache source a c p q h = record {
    same = λ m n f lt mt. subst (λ (g : ScanFile O S). g.source_id ≡ (get_or (swap a i j) n f).source_id → (source g.source).holds ≡ (source (get_or (swap a i j) n f).source).holds) (sym (swap_at a i j m f p q))
        (subst (λ (e : ScanFile O S). (get_or a (exchange i j m) f).source_id ≡ e.source_id → (source (get_or a (exchange i j m) f).source).holds ≡ (source e.source).holds) (sym (swap_at a i j n f p q))
        (h.same (exchange i j m) (exchange i j n) f (below m lt) (below n mt)));
    trusts = λ k f store lt. at_swapped (λ (g : ScanFile O S). (source g.source).holds ≡ Some store → Trusts g.source_id store c) a i j k f p q (h.trusts (exchange i j k) f store (below k lt));
  }
    where
      below : (k : ℕ) → k < length (swap a i j) → exchange i j k < length a
      below k lt = let l = length-swap a i j in exchange_below (length a) i j k p q (omega arith)

  pub swap_trade : (source : S → SourceState) (a b : List (ScanFile O S)) (c d : Cache) → i < length a → j < length a → FilesTrade source a b c d → FilesTrade source (swap a i j) (swap b i j) c d
  swap_trade source a b c d p q h = record {
    len = length-swap b i j ∙ h.len ∙ sym (length-swap a i j);
    agrees = λ k.
        (let l : length (swap a i j) ≡ length a = length-swap a i j in
        let m : length b ≡ length a = h.len in
        let was : CacheAgrees source a c = subst (λ z. CacheAgrees source z c) (swap_twice a i j p q) (swap_cache source (swap a i j) c (omega arith) (omega arith) k) in
        swap_cache source b d (omega arith) (omega arith) (h.agrees was));
    ledger = swap_keeps_ledger source a b i j h.len p q c d h.ledger;
  }

  pub swap_tells : {I : Type 0} (state : O → OpenerState I) (source : S → SourceState) (a : List (ScanFile O S)) → i < length a → j < length a → tells state source (swap a i j) ≡ swap (tells state source a) i j
  swap_tells state source a p q = map_swapped (tell state source) a i j p q

  pub swap_lawful : {I : Type 0} (state : O → OpenerState I) (source : S → SourceState) (a : List (ScanFile O S)) (c : Cache) → i < length a → j < length a → IsLawful state source a c → IsLawful state source (swap a i j) c
  swap_lawful state source a c p q h = record {
    tell = subst AllTell (sym (swap_tells state source a p q)) (all_swapped Tells (tells state source a) i j (long p) (long q) h.tell);
    cache = swap_cache source a c p q h.cache;
  }
    where
      long : {k : ℕ} → k < length a → k < length (tells state source a)
      long {k} lt = let l = length-map a (tell state source) in omega arith

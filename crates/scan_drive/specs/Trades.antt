-- What calls of sources do to a cache that they share.
use Rattle.std.specs.Prelude.{◌≡◌, ◌<◌, ℕ, List, Some, IfSome, IsSome, length, slice_index_or}
use Rattle.scan_segments.specs.Source.{SourceState, Store}
use Rattle.scan_drive.specs.Ledger.{KeepsLedger, FilesKeepLedger}
use Rattle.scan_drive.specs.Traffic.{key_of}
use Rattle.scan_drive.specs.Wants.{Cache}
use Rattle.scan_drive.specs.declared.files.ScanFile.{ScanFile}

-- the cache tells what it keeps, and what it keeps under this name is what the store has
pub record Trusts (name : List ℕ) (store : Store) (c : Cache) : Type 0 where
  pub tells : IsSome c.entries
  pub agrees : IfSome c.entries (λ m. (id : ℕ) (b : List ℕ) → m (key_of name id) ≡ Some b → store id ≡ Some b)

-- calls of a source of this name, and of a cache: what the cache keeps under a name still is what a store has, where it is
-- the store of the source, if the name is its; and the ledger is kept
pub record Trades (name : List ℕ) (s t : SourceState) (c d : Cache) : Type 0 where
  pub trusts : (n : List ℕ) (store : Store) → (n ≡ name → s.holds ≡ Some store) → Trusts n store c → Trusts n store d
  pub ledger : KeepsLedger name s t c d

module _ {O S : Type 0} (source : S → SourceState) where
  -- files of one name have one store, and what the cache keeps under a name is what that has
  pub record CacheAgrees (files : List (ScanFile O S)) (c : Cache) : Type 0 where
    pub same : (i j : ℕ) (f : ScanFile O S) → i < length files → j < length files
        → (slice_index_or files i f).source_id ≡ (slice_index_or files j f).source_id
        → (source (slice_index_or files i f).source).holds ≡ (source (slice_index_or files j f).source).holds
    pub trusts : (k : ℕ) (f : ScanFile O S) (store : Store) → k < length files
        → (source (slice_index_or files k f).source).holds ≡ Some store
        → Trusts (slice_index_or files k f).source_id store c

  -- the same of calls of the sources of files
  pub record FilesTrade (old new : List (ScanFile O S)) (c d : Cache) : Type 0 where
    pub len : length new ≡ length old
    pub agrees : CacheAgrees old c → CacheAgrees new d
    pub ledger : FilesKeepLedger source old new c d

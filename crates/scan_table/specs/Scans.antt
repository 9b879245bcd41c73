-- What a table of files means, why it is refused, and what is left.
use Rattle.std.specs.Prelude.{◌≡◌, ◌≢◌, ◌⊎◌, ℕ, List, None, Some, IfSome, IsSome, All}
use Rattle.scan_values.specs.DataType.{DataType}
use Rattle.scan_segments.specs.Source.{SourceState}
use Rattle.scan_segments.specs.Cache.{CacheState}
use Rattle.scan_segments.specs.declared.segment.SegmentKey.{SegmentKey}
use Rattle.scan_opener.specs.Opener.{OpenerState}
use Rattle.scan_drive.specs.declared.files.ScanFile.{ScanFile}
use Rattle.scan_multi.specs.Answer.{answer}
use Rattle.scan_multi.specs.Causes.{HasCause}
use Rattle.scan_multi.specs.Checks.{IsGood}
use Rattle.scan_multi.specs.Lawful.{told, IsLawful, Gives}
use Rattle.scan_multi.specs.Scans.{ScanMoves}
use Rattle.scan_multi.specs.Valid.{IsValid, NoneFailed}
use Rattle.scan_groups.specs.Rows.{IsFirstPast}
use Rattle.scan_groups.specs.declared.group.Group.{Group}
use Rattle.scan_table.specs.Request.{first_plain_fault, first_table_fault}
use Rattle.scan_table.specs.declared.spec.TableSpec.{TableSpec}
use Rattle.scan_table.specs.Spec.{all_measured, request_of}
use Rattle.scan_table.specs.Tables.{IsTableOf, table_rows}
use Rattle.scan_table.specs.declared.fault.TableFault.{TableFault}
use Rattle.scan_table.specs.declared.fault.TableFault.TheVariants as fault

-- a table of files over a cache: as they were, and as it leaves them
module _ {O S : Type 0} (opener : O → OpenerState) (source : S → SourceState) (workers : ℕ) (d : DataType) (s : TableSpec)
    (old new : List (ScanFile O S)) (cache cache' : CacheState SegmentKey) where
  -- What an answer means.
  pub record IsTable (groups : List Group) : Type 0 where
    -- the table has no fault
    pub types : first_table_fault workers d s ≡ None
    -- over lawful objects: the groups of the answer's rows, none of which is damaged, and no sum of which is past 64 bits
    pub table : IsLawful opener source old cache → IsTableOf d s (told opener source old) groups
    -- each file is skipped or of a good layout, as far as its opener tells
    pub read : All (Gives opener source (IsGood d (request_of s))) old

  -- Some sum is past 64 bits, this measure's first.
  pub record IsPastSum (measure : ℕ) : Type 0 where
    -- the table has no fault
    pub types : first_table_fault workers d s ≡ None
    -- each file is skipped or of a good layout, as far as its opener tells
    pub read : All (Gives opener source (IsGood d (request_of s))) old
    -- over lawful objects: no row of the answer is damaged
    pub clean : IsLawful opener source old cache → All (λ item. IsSome item.value) (answer d (request_of s) (told opener source old))
    -- over lawful objects: some group of its rows has a sum of this measure past 64 bits, and none one of an earlier measure
    pub past : IsLawful opener source old cache → IsFirstPast (all_measured s) (table_rows d s (told opener source old)) measure

  -- the cause of each fault
  abbrev pub HasTableCause : TableFault → Type 0
  HasTableCause (fault.Scan e) = (first_table_fault workers d s ≡ Some (fault.Scan e))
      ⊎ ((first_table_fault workers d s ≡ None) × HasCause opener source workers d (request_of s) cache old new e)
  HasTableCause (fault.KeyType key) = first_table_fault workers d s ≡ Some (fault.KeyType key)
  HasTableCause (fault.MeasureType measure) = first_table_fault workers d s ≡ Some (fault.MeasureType measure)
  HasTableCause (fault.SumRange measure) = IsPastSum measure
  HasTableCause fault.NoMemory = Unit {0}

  -- Why there is no table, by this fault.
  pub record IsTableRefusedFor (e : TableFault) : Type 0 where
    -- the fault has its cause, as far as objects tell
    pub cause : HasTableCause e
    -- no workers and a reversed range are told wherever they are, the first of them
    pub early : IfSome (first_plain_fault workers s) (λ f. e ≡ f)
    -- a table with a fault is refused by it, or by want of memory
    pub table_fault : e ≢ fault.NoMemory → IfSome (first_table_fault workers d s) (λ f. e ≡ f)
    -- a valid table of lawful objects that do not fail is refused by a sum that is past 64 bits, or by want of memory
    pub complete : IsLawful opener source old cache → first_table_fault workers d s ≡ None
        → IsValid workers d (request_of s) (told opener source old)
        → NoneFailed opener source old new → ((measure : ℕ) × (e ≡ fault.SumRange measure)) ⊎ (e ≡ fault.NoMemory)

  -- What making a table does to its files and to the cache, whatever comes of it.
  pub record TableMoves : Type 0 where
    -- what a scan of its request does
    pub scan : ScanMoves opener source workers d (request_of s) old new cache cache'
    -- before a table with a fault is refused, nothing is touched
    pub untouched : IfSome (first_table_fault workers d s) (λ f. (new ≡ old) × (cache' ≡ cache))

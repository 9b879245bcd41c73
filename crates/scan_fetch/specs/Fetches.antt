-- What has been fetched of a source since a first point.
use Rattle.std.specs.Prelude.{◌≡◌, ◌⊎◌, ◌≤◌, ◌++◌, ℕ, Bool, true, false, List, [], None, Some, is_some, OnOk, OnErr, Result}
use Rattle.std.specs.FinMap as map
use Rattle.scan_values.specs.Selections.{is_among}
use Rattle.scan_segments.specs.Source.{SourceState, Store}
use Rattle.scan_splits.specs.Arrivals.{Arrivals, Agrees}
use Rattle.scan_splits.specs.Wanted.{no_repeats}
use Rattle.scan_drive.specs.Desks.{Waiters, Agree}
use Rattle.scan_drive.specs.Drivings.{IsKeptIn, SourceFailed}
use Rattle.scan_drive.specs.Ledger.{KeepsReport}
use Rattle.scan_drive.specs.Trades.{Trusts, Trades}
use Rattle.scan_drive.specs.Traffic.{WasAsked}
use Rattle.scan_drive.specs.Wants.{Cache}
use Rattle.scan_splits.specs.declared.inbox.Arrival.TheVariants as arrival
use Rattle.scan_drive.specs.declared.cached.Wanted.{Wanted}
use Rattle.scan_drive.specs.declared.cached.Wanted.TheVariants as wanted
use Rattle.scan_drive.specs.declared.report.ScanReport.{ScanReport}
use Rattle.scan_fetch.specs.declared.fetching.Miss.{Miss}
use Rattle.scan_fetch.specs.declared.fetching.Miss.TheVariants as miss

-- a source of this name holds this store, and what the cache keeps under the name is what that has
pub record IsTold (name : List ℕ) (store : Store) (s : SourceState) (c : Cache) : Type 0 where
  pub holds : s.holds ≡ Some store
  pub trusts : Trusts name store c

-- the counts over the ledger are kept, whatever they were, and no request is lost: all that came was put
abbrev pub KeepsCounts : List ℕ → SourceState → SourceState → Cache → Cache → Type 0
KeepsCounts name s t c d = (report : ScanReport) → (after : ScanReport) × KeepsReport name s t c d report after

-- a source, a cache, what is live of the source, and what has arrived
pub record Point : Type 0 where
  pub source : SourceState
  pub cache : Cache
  pub desk : Waiters
  pub here : Arrivals

abbrev pub point : SourceState → Cache → Waiters → Arrivals → Point
point s c d h = record { source = s; cache = c; desk = d; here = h }

-- an id is live
abbrev pub is_live : Point → ℕ → Bool
is_live p id = (p.source).live id

-- something has arrived of an id
abbrev pub is_here : Point → ℕ → Bool
is_here p id = is_some (map.get p.here id)

-- of an id that is live nothing has arrived
abbrev pub IsApart : Point → Type 0
IsApart p = (id : ℕ) → is_live p id ≡ true → map.get p.here id ≡ None

-- What is left of calls since a first point, of which nothing had arrived. What may be asked for depends on the store.
pub record HasLeft (may : Store → ℕ → Bool) (name : List ℕ) (first now : Point) : Type 0 where
  pub holds : (now.source).holds ≡ (first.source).holds
  pub faults : (first.source).faults ≤ (now.source).faults
  pub turns : (now.source).turns ≤ (first.source).turns
  pub can_fail : (now.source).can_fail ≡ (first.source).can_fail
  -- each id was asked for once, and only those that may be
  pub ids : List ℕ
  pub asked : (now.source).asked ≡ (first.source).asked ++ ids
  pub once : no_repeats ids ≡ true
  pub live_asked : (id : ℕ) → is_live now id ≡ true → is_among ids id ≡ true
  pub may_be : (store : Store) → IsTold name store first.source first.cache → (id : ℕ) → is_among ids id ≡ true → may store id ≡ true
  -- what has arrived was asked for, or the cache kept it at first; and it is what the store has
  pub arrived : (id : ℕ) → is_here now id ≡ true → (is_among ids id ≡ true) ⊎ IsKeptIn first.cache name id
  pub kept : (id : ℕ) → is_among ids id ≡ false → IsKeptIn now.cache name id → IsKeptIn first.cache name id
  pub tells : (store : Store) → IsTold name store first.source first.cache → Agrees store now.here
  pub trades : Trades name first.source now.source first.cache now.cache

-- an id is live, or has arrived
abbrev pub IsMet : Point → ℕ → Type 0
IsMet p id = (is_live p id ≡ true) ⊎ (is_here p id ≡ true)

-- each of these ids is so
abbrev pub AreMet : List ℕ → Point → Type 0
AreMet ids p = (id : ℕ) → is_among ids id ≡ true → IsMet p id

-- each of these ids has arrived
abbrev pub AreHere : List ℕ → Point → Type 0
AreHere ids p = (id : ℕ) → is_among ids id ≡ true → is_here p id ≡ true

-- the same where nothing failed: what was asked for is live or has arrived
pub record HasFetched (may : Store → ℕ → Bool) (name : List ℕ) (first now : Point) : Type 0 where
  pub left : HasLeft may name first now
  pub ends : AreMet left.ids now

-- these ids may be asked for
abbrev pub MayAsk : List ℕ → List ℕ → (Store → ℕ → Bool) → Point → Type 0
MayAsk name ids may first = (store : Store) (id : ℕ) → IsTold name store first.source first.cache → is_among ids id ≡ true → may store id ≡ true

-- what is left of calls from one point to another that ask for no more than they are let
abbrev pub Leaves : ((Store → ℕ → Bool) → Point → Type 0) → List ℕ → Point → Point → Type 0
Leaves lets name old new = (may : Store → ℕ → Bool) (first : Point) → lets may first → HasFetched may name first old → HasLeft may name first new

-- what has arrived stays
abbrev pub Stays : Point → Point → Type 0
Stays old new = (id : ℕ) → is_here old id ≡ true → is_here new id ≡ true

-- Such calls of which none failed: what was asked for is live or has arrived, so is what was so before, and the counts are kept.
pub record Goes (lets : (Store → ℕ → Bool) → Point → Type 0) (name : List ℕ) (old new : Point) : Type 0 where
  pub fetches : (may : Store → ℕ → Bool) (first : Point) → lets may first → HasFetched may name first old → HasFetched may name first new
  pub met : (id : ℕ) → IsMet old id → IsMet new id
  pub counts : KeepsCounts name old.source new.source old.cache new.cache

-- only these ids have become live
abbrev pub MayLive : List ℕ → Point → Point → Type 0
MayLive ids old new = (id : ℕ) → is_live new id ≡ true → (is_live old id ≡ true) ⊎ (is_among ids id ≡ true)

-- these ids are no longer live, and no other has become so
abbrev pub AreTaken : List ℕ → Point → Point → Type 0
AreTaken ids old new = (id : ℕ) → is_live new id ≡ true → (is_live old id ≡ true) × (is_among ids id ≡ false)

-- where none was live, none is
abbrev pub StaysIdle : Point → Point → Type 0
StaysIdle old new = ((id : ℕ) → is_live old id ≡ false) → (id : ℕ) → is_live new id ≡ false

-- what the cache had of a segment has arrived, unless memory is short
abbrev pub Settles : {T E : Type 0} → ℕ → Wanted → Arrivals → Arrivals → Result T E → Type 0
Settles id (wanted.Hit bytes) a b r = OnOk r (b ≡ map.insert a id (arrival.Bytes bytes)) × OnErr r (b ≡ a)
Settles id wanted.Shared a b r = (b ≡ a) × OnErr r ⊥
Settles id wanted.Asked a b r = (b ≡ a) × OnErr r ⊥

-- ---- what calls do
-- Segments are wanted: whatever comes of it.
pub record Wants (name ids : List ℕ) (old new : Point) : Type 0 where
  pub agree : Agree (new.source).live new.desk
  pub apart : IsApart new
  pub leaves : Leaves (MayAsk name ids) name old new
  pub lives : MayLive ids old new
  pub stays : Stays old new

-- where memory is enough: each of them is live or has arrived
pub record Meets (name ids : List ℕ) (old new : Point) : Type 0 where
  pub goes : Goes (MayAsk name ids) name old new
  pub met : AreMet ids new

-- Segments are polled: whatever comes of it, nothing more is asked for.
pub record Takes (name : List ℕ) (old new : Point) : Type 0 where
  pub agree : Agree (new.source).live new.desk
  pub apart : IsApart new
  pub leaves : Leaves (MayAsk name []) name old new
  pub stays : Stays old new

-- where nothing failed: each of them has arrived
pub record Came (name ids : List ℕ) (old new : Point) : Type 0 where
  pub goes : Goes (MayAsk name []) name old new
  pub taken : AreTaken ids old new
  pub here : AreHere ids new

-- Segments are brought: whatever comes of it.
pub record Brings (name ids : List ℕ) (old new : Point) : Type 0 where
  pub agree : Agree (new.source).live new.desk
  pub apart : IsApart new
  pub leaves : Leaves (MayAsk name ids) name old new
  pub stays : Stays old new

-- where nothing failed: each of them has arrived, and none is live where none was
pub record Brought (name ids : List ℕ) (old new : Point) : Type 0 where
  pub goes : Goes (MayAsk name ids) name old new
  pub idle : StaysIdle old new
  pub here : AreHere ids new

-- a source failed over an id that was asked for since the first point
abbrev pub FailsOver : ((Store → ℕ → Bool) → Point → Type 0) → List ℕ → ℕ → Point → Point → Type 0
FailsOver lets name id old new =
    (may : Store → ℕ → Bool) (first : Point) → lets may first → HasFetched may name first old
    → SourceFailed first.source new.source × WasAsked id first.source new.source

-- why segments have not arrived
abbrev pub Misses : ((Store → ℕ → Bool) → Point → Type 0) → List ℕ → Point → Point → Miss → Type 0
Misses lets name old new (miss.Source id) = FailsOver lets name id old new
Misses lets name old new miss.NoMemory = Unit {0}

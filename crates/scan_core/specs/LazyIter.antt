-- Iterators over a builder's scan, which is set up at the first call.
use Rattle.std.specs.Prelude.{◌≡◌, ◌⊎◌, Option, Some, None, Result, Ok, Err}
use Rattle.std.specs.Coded.{Coded, coded×}
use Rattle.scan_values.specs.Arrays.{ArrayData}
use Rattle.scan_values.specs.DataType.{DataType}
use Rattle.scan_segments.specs.Source.{SourceState, none_live}
use Rattle.scan_readers.specs.Readers.{ReaderState}
use Rattle.scan_streams.specs.Iters.{IterData, iter_code, iter_data, as_poll}
use Rattle.scan_streams.specs.Sources.{SourceMoves}
use Rattle.scan_streams.specs.Streams.{StreamData, Answers, MayFeed, SameStream}
use Rattle.scan_streams.specs.declared.fault.StreamFault.{StreamFault}
use Rattle.scan_streams.specs.declared.fault.StreamFault.TheVariants as fault
use Rattle.scan_streams.specs.declared.setup.SetupFault.{SetupFault}
use Rattle.scan_streams.specs.declared.setup.SetupFault.TheVariants.{NoMemory}
use Rattle.scan_core.specs.BuilderData.{BuilderData}
use Rattle.scan_core.specs.LazyData.{LazyData, lazy_code, waits, begun, over, builder_dtype, Begins, RefusesSetup}
use Rattle.scan_core.specs.ScanCode.{builder_code}

-- a builder and a source, or an iterator over the source
abbrev pub LazyIter : Type 0 → Type 0 → Type 0 → Type 0
LazyIter R M S = LazyData (BuilderData R M × S) (IterData M S)

abbrev pub lazy_iter_code : {R M S : Type 0} → Coded R → Coded M → Coded S → Coded (LazyIter R M S)
lazy_iter_code r m s = lazy_code (coded× (builder_code r m) s) (iter_code m s)

abbrev pub iter_dtype : {R M S : Type 0} → LazyIter R M S → DataType
iter_dtype (waits p) = builder_dtype p.0
iter_dtype (begun i) = (i.stream).feed.dtype
iter_dtype (over d) = d

-- its step may be applied to any array
abbrev pub IterApplies : {R M S : Type 0} → (M → Type 0) → LazyIter R M S → Type 0
IterApplies applies (waits p) = applies (p.0).step
IterApplies applies (begun i) = applies (i.stream).step
IterApplies applies (over d) = Unit {0}

-- a source that waits has no live request
abbrev pub IsIdle : {R M S : Type 0} → (S → SourceState) → LazyIter R M S → Type 0
IsIdle source (waits p) = (source p.1).live ≡ none_live
IsIdle source (begun i) = Unit {0}
IsIdle source (over d) = Unit {0}

-- an iterator that waits is begun, or refused; any other is as it was
abbrev pub IsIterStarted : {R M S : Type 0} → (R → ReaderState) → LazyIter R M S → LazyIter R M S → Result (Unit {0}) SetupFault → Type 0
IsIterStarted {R} {M} state (waits p) new (Ok u) = (t : StreamData M) × ((new ≡ begun (iter_data t p.1)) × Begins (state (p.0).reader) p.0 t)
IsIterStarted state (waits p) new (Err f) = (new ≡ over (builder_dtype p.0)) × RefusesSetup (state (p.0).reader) p.0 f
IsIterStarted state (begun i) new r = (new ≡ begun i) × (r ≡ Ok tt)
IsIterStarted state (over d) new r = (new ≡ over d) × (r ≡ Ok tt)

-- what comes next of an iterator that is begun
pub record NextsBegun {R M S A F : Type 0} (source : S → SourceState) (answers : M → ArrayData → Result A F → Type 0)
    (i : IterData M S) (new : LazyIter R M S) (r : Option (Result A (StreamFault F))) : Type 0 where
  pub after : IterData M S
  pub now : new ≡ begun after
  pub moves : SourceMoves (MayFeed (source i.source).holds (i.stream).feed) (source i.source) (source after.source)
  pub same : SameStream i.stream after.stream
  pub answer : Answers answers (source i.source) (source after.source) i.stream after.stream (as_poll r)

-- what comes first, where the scan is set up
pub record NextsFirst {R M S A F : Type 0} (state : R → ReaderState) (source : S → SourceState)
    (answers : M → ArrayData → Result A F → Type 0) (b : BuilderData R M) (s : S) (new : LazyIter R M S)
    (r : Option (Result A (StreamFault F))) : Type 0 where
  pub stream : StreamData M
  pub begins : Begins (state b.reader) b stream
  pub nexts : NextsBegun source answers (iter_data stream s) new r

-- what comes first, where the scan is refused
pub record RefusesNext {R M S A F : Type 0} (state : R → ReaderState) (b : BuilderData R M) (new : LazyIter R M S)
    (r : Option (Result A (StreamFault F))) : Type 0 where
  pub why : SetupFault
  pub fault : r ≡ Some (Err (fault.Setup why))
  pub refuses : RefusesSetup (state b.reader) b why
  pub over : new ≡ over (builder_dtype b)

-- what comes next
abbrev pub NextsLazy : {R M S A F : Type 0} → (R → ReaderState) → (S → SourceState)
    → (M → ArrayData → Result A F → Type 0) → LazyIter R M S → LazyIter R M S → Option (Result A (StreamFault F))
    → Type 0
NextsLazy state source answers (waits p) new r = RefusesNext state p.0 new r ⊎ NextsFirst state source answers p.0 p.1 new r
NextsLazy state source answers (begun i) new r = NextsBegun source answers i new r
NextsLazy state source answers (over d) new r = (r ≡ None) × (new ≡ over d)

-- what comes next of one that waits no more
abbrev pub NextsStarted : {R M S A F : Type 0} → (S → SourceState) → (M → ArrayData → Result A F → Type 0)
    → LazyIter R M S → LazyIter R M S → Option (Result A (StreamFault F)) → Type 0
NextsStarted source answers (waits p) new r = (r ≡ None) × (new ≡ waits p)
NextsStarted source answers (begun i) new r = NextsBegun source answers i new r
NextsStarted source answers (over d) new r = (r ≡ None) × (new ≡ over d)

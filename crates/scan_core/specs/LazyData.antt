-- Streams and iterators of a builder's scan, which is set up when they are first asked.
use Rattle.std.specs.Prelude.{◌≡◌, ◌⊎◌, ℕ, Bool, true, false, List, [], Option, Some, None, Result, Ok, Err, refl}
use Rattle.std.specs.Coded.{Coded, code_by, coded×, coded⊎}
use Rattle.std.specs.declared.ops.Range.{Range}
use mathlib.Core.Logic.{inl, inr}
use Rattle.scan_values.specs.Arrays.{ArrayData}
use Rattle.scan_values.specs.DataType.{DataType, data_type_code}
use Rattle.scan_segments.specs.Source.{SourceState, Store}
use Rattle.scan_expr.specs.Infer.{infer}
use Rattle.scan_readers.specs.Readers.{ReaderState}
use Rattle.scan_streams.specs.Iters.{IterData, iter_code, iter_data, as_poll}
use Rattle.scan_streams.specs.Sources.{SourceMoves}
use Rattle.scan_streams.specs.Streams.{StreamData, stream_code, Answers, MayFeed, SameStream}
use Rattle.scan_streams.specs.declared.fault.StreamFault.{StreamFault}
use Rattle.scan_streams.specs.declared.fault.StreamFault.TheVariants as fault
use Rattle.scan_streams.specs.declared.fault.StreamPoll.{StreamPoll}
use Rattle.scan_streams.specs.declared.fault.StreamPoll.TheVariants as poll
use Rattle.scan_streams.specs.declared.setup.SetupFault.{SetupFault}
use Rattle.scan_streams.specs.declared.setup.SetupFault.TheVariants.{NoMemory}
use Rattle.scan_core.specs.BuilderData.{BuilderData}
use Rattle.scan_core.specs.Prepared.{IsPrepared}
use Rattle.scan_core.specs.ScanCode.{builder_code}
use Rattle.scan_core.specs.ScanData.{ScanData}
use Rattle.scan_core.specs.Setup.{setup_fault}
use Rattle.scan_core.specs.Streaming.{IsStreamOf}

-- a builder whose scan is not set up yet; what came of it; or where it was refused, the dtype of its projection
pub data LazyData (B T : Type 0) : Type 0 where
  waits : B → LazyData B T
  begun : T → LazyData B T
  over : DataType → LazyData B T

abbrev pub LazyParts : Type 0 → Type 0 → Type 0
LazyParts B T = B ⊎ (T ⊎ DataType)

abbrev pub lazy_parts : {B T : Type 0} → LazyData B T → LazyParts B T
lazy_parts (waits b) = inl b
lazy_parts (begun t) = inr (inl t)
lazy_parts (over d) = inr (inr d)

abbrev pub lazy_of : {B T : Type 0} → LazyParts B T → LazyData B T
lazy_of (inl b) = waits b
lazy_of (inr (inl t)) = begun t
lazy_of (inr (inr d)) = over d

abbrev pub lazy_again : {B T : Type 0} → (l : LazyData B T) → lazy_of (lazy_parts l) ≡ l
lazy_again (waits b) = refl
lazy_again (begun t) = refl
lazy_again (over d) = refl

abbrev pub lazy_code : {B T : Type 0} → Coded B → Coded T → Coded (LazyData B T)
lazy_code {B} {T} b t = code_by (LazyParts B T) (coded⊎ b (coded⊎ t data_type_code)) lazy_parts lazy_of lazy_again

-- nothing was asked yet
abbrev pub is_waiting : {B T : Type 0} → LazyData B T → Bool
is_waiting (waits b) = true
is_waiting (begun t) = false
is_waiting (over d) = false

-- something came of the builder
abbrev pub has_begun : {B T : Type 0} → LazyData B T → Bool
has_begun (waits b) = false
has_begun (begun t) = true
has_begun (over d) = false

-- a lazy stream
abbrev pub LazyStream : Type 0 → Type 0 → Type 0
LazyStream R M = LazyData (BuilderData R M) (StreamData M)

abbrev pub lazy_stream_code : {R M : Type 0} → Coded R → Coded M → Coded (LazyStream R M)
lazy_stream_code r m = lazy_code (builder_code r m) (stream_code m)

-- the dtype of a builder's projection
abbrev pub builder_dtype : {R M : Type 0} → BuilderData R M → DataType
builder_dtype b = infer (b.projection).scope (b.projection).expr

abbrev pub lazy_dtype : {R M : Type 0} → LazyStream R M → DataType
lazy_dtype (waits b) = builder_dtype b
lazy_dtype (begun t) = (t.feed).dtype
lazy_dtype (over d) = d

-- the ids that are live
abbrev pub lazy_live : {R M : Type 0} → LazyStream R M → List ℕ
lazy_live (waits b) = []
lazy_live (begun t) = (t.feed).live
lazy_live (over d) = []

-- its step may be applied to any array
abbrev pub LazyApplies : {R M : Type 0} → (M → Type 0) → LazyStream R M → Type 0
LazyApplies applies (waits b) = applies b.step
LazyApplies applies (begun t) = applies t.step
LazyApplies applies (over d) = Unit {0}

-- the stream of all rows of the scan that a builder sets up
pub record IsStreamOfBuilder {R M : Type 0} (state : ReaderState) (b : BuilderData R M) (t : StreamData M) : Type 0 where
  pub scan : ScanData M
  pub prepared : IsPrepared state b scan
  pub stream : IsStreamOf scan None t

-- why no scan is set up: by the first thing that is wrong with a builder's settings, or where nothing is for want of memory
abbrev pub RefusesSetup : {R M : Type 0} → ReaderState → BuilderData R M → SetupFault → Type 0
RefusesSetup state b f = (setup_fault b state.rows ≡ Some f) ⊎ ((setup_fault b state.rows ≡ None) × (f ≡ NoMemory))

-- what is begun of a builder
pub record Begins {R M : Type 0} (state : ReaderState) (b : BuilderData R M) (t : StreamData M) : Type 0 where
  pub lawful : setup_fault b state.rows ≡ None
  pub stream : IsStreamOfBuilder state b t

-- an id that may be asked: by the stream, or by the one that is begun
abbrev pub MayAskLazy : {R M : Type 0} → (R → ReaderState) → Option Store → LazyStream R M → ℕ → Type 0
MayAskLazy {R} {M} state holds (waits b) id = (t : StreamData M) × (IsStreamOfBuilder (state b.reader) b t × MayFeed holds t.feed id)
MayAskLazy state holds (begun t) id = MayFeed holds t.feed id
MayAskLazy state holds (over d) id = ⊥

-- a poll of a stream that is begun
pub record PollsBegun {R M A F : Type 0} (answers : M → ArrayData → Result A F → Type 0) (s t : SourceState)
    (before : StreamData M) (new : LazyStream R M) (r : StreamPoll A F) : Type 0 where
  pub after : StreamData M
  pub now : new ≡ begun after
  pub same : SameStream before after
  pub answer : Answers answers s t before after r

-- the first poll, where the scan is set up
pub record PollsFirst {R M A F : Type 0} (state : R → ReaderState) (answers : M → ArrayData → Result A F → Type 0)
    (s t : SourceState) (b : BuilderData R M) (new : LazyStream R M) (r : StreamPoll A F) : Type 0 where
  pub stream : StreamData M
  pub begins : Begins (state b.reader) b stream
  pub polls : PollsBegun answers s t stream new r

-- the first poll, where the scan is refused: a fault, and nothing of the source is touched
pub record RefusesFirst {R M A F : Type 0} (state : R → ReaderState) (s t : SourceState) (b : BuilderData R M)
    (new : LazyStream R M) (r : StreamPoll A F) : Type 0 where
  pub why : SetupFault
  pub fault : r ≡ poll.Fault (fault.Setup why)
  pub refuses : RefusesSetup (state b.reader) b why
  pub over : new ≡ over (builder_dtype b)
  pub source : t ≡ s

-- a poll
abbrev pub PollsLazy : {R M A F : Type 0} → (R → ReaderState) → (M → ArrayData → Result A F → Type 0) → SourceState
    → SourceState → LazyStream R M → LazyStream R M → StreamPoll A F → Type 0
PollsLazy state answers s t (waits b) new r = RefusesFirst state s t b new r ⊎ PollsFirst state answers s t b new r
PollsLazy state answers s t (begun before) new r = PollsBegun answers s t before new r
PollsLazy state answers s t (over d) new r = (r ≡ poll.End) × ((new ≡ over d) × (t ≡ s))

-- a stream whose scan is to be set up is begun, or refused; any other is as it was
abbrev pub IsStarted : {R M : Type 0} → (R → ReaderState) → LazyStream R M → LazyStream R M → Result (Unit {0}) SetupFault → Type 0
IsStarted {R} {M} state (waits b) new (Ok u) = (t : StreamData M) × ((new ≡ begun t) × Begins (state b.reader) b t)
IsStarted state (waits b) new (Err f) = (new ≡ over (builder_dtype b)) × RefusesSetup (state b.reader) b f
IsStarted state (begun t) new r = (new ≡ begun t) × (r ≡ Ok tt)
IsStarted state (over d) new r = (new ≡ over d) × (r ≡ Ok tt)

-- a poll of a stream whose scan is set up, or was refused; of one that is to be set up it gives the end
abbrev pub PollsStarted : {R M A F : Type 0} → (M → ArrayData → Result A F → Type 0) → SourceState → SourceState
    → LazyStream R M → LazyStream R M → StreamPoll A F → Type 0
PollsStarted answers s t (waits b) new r = (r ≡ poll.End) × ((new ≡ waits b) × (t ≡ s))
PollsStarted answers s t (begun before) new r = PollsBegun answers s t before new r
PollsStarted answers s t (over d) new r = (r ≡ poll.End) × ((new ≡ over d) × (t ≡ s))

-- an iterator over a source of the rows of a scan within a further range, of which nothing has been read
abbrev pub IsIterOf : {M S : Type 0} → ScanData M → Option (Range ℕ) → S → IterData M S → Type 0
IsIterOf s r source i = IsStreamOf s r i.stream × (i.source ≡ source)

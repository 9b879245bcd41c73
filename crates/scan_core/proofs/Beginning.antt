-- Streams that builders begin.
use Rattle.std.proofs.Common.{◌≡◌, ℕ, Bool, true, false, [], Option, None, Result, Ok, Err, IfOk, refl, sym, ap, subst, ◌∙◌}
use mathlib.Core.Logic.{inl, inr}
use Rattle.scan_values.specs.Arrays.{ArrayData}
use Rattle.scan_readers.specs.Readers.{ReaderState}
use Rattle.scan_segments.specs.Source.{SourceState, Store}
use Rattle.scan_streams.specs.Feeds.{FeedData}
use Rattle.scan_streams.specs.Sources.{SourceMoves}
use Rattle.scan_streams.specs.Streams.{StreamData, Answers, LiveAs, SameStream}
use Rattle.scan_streams.specs.declared.fault.StreamFault.TheVariants as fault
use Rattle.scan_streams.specs.declared.fault.StreamPoll.{StreamPoll}
use Rattle.scan_streams.specs.declared.fault.StreamPoll.TheVariants as poll
use Rattle.scan_streams.specs.declared.setup.SetupFault.{SetupFault}
use Rattle.scan_streams.proofs.Asking.{moves_weaker}
use Rattle.scan_core.specs.BuilderData.{BuilderData}
use Rattle.scan_core.specs.LazyData.{LazyStream, waits, begun, over, is_waiting, has_begun, builder_dtype, lazy_live, IsStarted, IsStreamOfBuilder, LazyApplies}
use Rattle.scan_core.specs.LazyData.{MayAskLazy, PollsBegun, PollsLazy, PollsStarted, RefusesSetup}
use Rattle.scan_core.specs.LazyState.{lazy_state, state_fault, Comes}
use Rattle.scan_core.specs.Prepared.{IsPrepared}
use Rattle.scan_core.specs.ScanData.{ScanData}
use Rattle.scan_core.specs.Streaming.{IsStreamOf}
use Rattle.scan_core.specs.declared.begin.State.{State}
use Rattle.scan_core.specs.declared.begin.State.TheVariants.{Waiting, Running, Refused, Short}

pub begun_ok : {R M E : Type 0} (state : ReaderState) (b : BuilderData R M) (s : ScanData M) (r : Result (StreamData M) E) → IsPrepared state b s → IfOk r (λ t. IsStreamOf s None t) → IfOk r (λ t. IsStreamOfBuilder state b t)
begun_ok state b s (Ok t) p h = record { scan = s; prepared = p; stream = h }
begun_ok state b s (Err f) p h = tt

-- ---- a stream whose scan is set up when it is first asked
pub started_by : {R M : Type 0} (state : R → ReaderState) (old new : State R M) → is_waiting (lazy_state old) ≡ true → Comes state old new → IsStarted state (lazy_state old) (lazy_state new) (state_fault new)
started_by state (Waiting b) (Waiting c) h k = absurd k
started_by state (Waiting b) (Running t) h k = (t, (refl, k))
started_by state (Waiting b) (Refused c f) h k = (ap (λ z. over (builder_dtype z)) k.0, k.1)
started_by state (Waiting b) (Short d) h k = (ap over k.0, k.1)
started_by state (Running t) new h k = cc
started_by state (Refused b f) new h k = cc
started_by state (Short d) new h k = cc

pub not_started : {R M : Type 0} (state : R → ReaderState) (l : LazyStream R M) → is_waiting l ≡ false → IsStarted state l l (Ok tt)
not_started state (waits b) h = cc
not_started state (begun t) h = (refl, refl)
not_started state (over d) h = (refl, refl)

-- nothing of the new stream is live
pub idle_begun : {R M : Type 0} (state : ReaderState) (b : BuilderData R M) (t : StreamData M) → IsStreamOfBuilder state b t → (t.feed).live ≡ []
idle_begun state b t h = ap (λ (f : FeedData). f.live) ((h.stream).stream).feed

pub step_begun : {R M : Type 0} (state : ReaderState) (b : BuilderData R M) (t : StreamData M) → IsStreamOfBuilder state b t → t.step ≡ b.step
step_begun state b t h = ((h.stream).stream).step ∙ (h.prepared).step

pub started_live : {R M : Type 0} (state : R → ReaderState) (old new : LazyStream R M) (r : Result (Unit {0}) SetupFault) → IsStarted state old new r → lazy_live new ≡ lazy_live old
started_live state (waits b) new (Ok u) h = ap lazy_live (h.1).0 ∙ idle_begun (state b.reader) b h.0 ((h.1).1).stream
started_live state (waits b) new (Err f) h = ap lazy_live h.0
started_live state (begun t) new r h = ap lazy_live h.0
started_live state (over d) new r h = ap lazy_live h.0

pub live_started : {R M : Type 0} (state : R → ReaderState) (live : ℕ → Bool) (old new : LazyStream R M) (r : Result (Unit {0}) SetupFault) → IsStarted state old new r → LiveAs live (lazy_live old) → LiveAs live (lazy_live new)
live_started state live old new r h l = subst (LiveAs live) (sym (started_live state old new r h)) l

pub started_applies : {R M : Type 0} (applies : M → Type 0) (state : R → ReaderState) (old new : LazyStream R M) (r : Result (Unit {0}) SetupFault) → r ≡ Ok tt → IsStarted state old new r → LazyApplies applies old → LazyApplies applies new
started_applies applies state (waits b) new (Ok u) e h a =
    let there : applies (h.0).step = subst applies (sym (step_begun (state b.reader) b h.0 ((h.1).1).stream)) a in
    subst (LazyApplies applies) (sym (h.1).0) there
started_applies applies state (waits b) new (Err f) e h a = cc
started_applies applies state (begun t) new r e h a = subst (LazyApplies applies) (sym h.0) a
started_applies applies state (over d) new r e h a = subst (LazyApplies applies) (sym h.0) a

started_may : {R M : Type 0} (state : R → ReaderState) (holds : Option Store) (old new : LazyStream R M) (r : Result (Unit {0}) SetupFault) → r ≡ Ok tt → IsStarted state old new r → (id : ℕ) → MayAskLazy state holds new id → MayAskLazy state holds old id
started_may state holds (waits b) new (Ok u) e h id m = (h.0, (((h.1).1).stream, subst (λ l. MayAskLazy state holds l id) (h.1).0 m))
started_may state holds (waits b) new (Err f) e h id m = cc
started_may state holds (begun t) new r e h id m = subst (λ l. MayAskLazy state holds l id) h.0 m
started_may state holds (over d) new r e h id m = subst (λ l. MayAskLazy state holds l id) h.0 m

pub started_moves : {R M : Type 0} (state : R → ReaderState) (old new : LazyStream R M) (r : Result (Unit {0}) SetupFault) (s t : SourceState) → r ≡ Ok tt → IsStarted state old new r → SourceMoves (MayAskLazy state s.holds new) s t → SourceMoves (MayAskLazy state s.holds old) s t
started_moves state old new r s t e h m = moves_weaker (MayAskLazy state s.holds new) (MayAskLazy state s.holds old) s t (started_may state s.holds old new r e h) m

-- ---- polls
pub polls_running : {R M A F : Type 0} (answers : M → ArrayData → Result A F → Type 0) (s u : SourceState) (st : State R M) (t after : StreamData M) (r : StreamPoll A F)
    → st ≡ Running t → SameStream t after → Answers answers s u t after r → PollsStarted answers s u (lazy_state st) (begun after) r
polls_running {R} answers s u st t after r e same a = subst (λ (z : State R _). PollsStarted answers s u (lazy_state z) (begun after) r) (sym e) (record { after = after; now = refl; same = same; answer = a })

pub idle_poll : {R M A F : Type 0} (answers : M → ArrayData → Result A F → Type 0) (s : SourceState) (l : LazyStream R M) → has_begun l ≡ false → PollsStarted answers s s l l poll.End
idle_poll answers s (waits b) h = (refl, (refl, refl))
idle_poll answers s (begun t) h = cc
idle_poll answers s (over d) h = (refl, (refl, refl))

pub started_polls : {R M A F : Type 0} (state : R → ReaderState) (answers : M → ArrayData → Result A F → Type 0) (s t : SourceState) (old mid new : LazyStream R M) (r : Result (Unit {0}) SetupFault) (p : StreamPoll A F)
    → r ≡ Ok tt → IsStarted state old mid r → PollsStarted answers s t mid new p → PollsLazy state answers s t old new p
started_polls {R} {M} {A} {F} state answers s t (waits b) mid new (Ok u) p e h q =
    let polls : PollsBegun answers s t h.0 new p = subst (λ (l : LazyStream R M). PollsStarted answers s t l new p) (h.1).0 q in
    inr (record { stream = h.0; begins = (h.1).1; polls = polls })
started_polls state answers s t (waits b) mid new (Err f) p e h q = cc
started_polls {R} {M} state answers s t (begun u) mid new r p e h q = subst (λ (l : LazyStream R M). PollsStarted answers s t l new p) h.0 q
started_polls {R} {M} state answers s t (over d) mid new r p e h q = subst (λ (l : LazyStream R M). PollsStarted answers s t l new p) h.0 q

pub refused_poll : {R M A F : Type 0} (state : R → ReaderState) (answers : M → ArrayData → Result A F → Type 0) (s : SourceState) (old new : LazyStream R M) (r : Result (Unit {0}) SetupFault) (f : SetupFault)
    → r ≡ Err f → IsStarted state old new r → PollsLazy state answers s s old new (poll.Fault (fault.Setup f))
refused_poll state answers s (waits b) new (Ok u) f e h = cc
refused_poll state answers s (waits b) new (Err g) f e h =
    let same : g ≡ f = cc in
    inl (record { why = f; fault = refl; refuses = subst (RefusesSetup (state b.reader) b) same h.1; over = h.0; source = refl })
refused_poll state answers s (begun t) new r f e h = let no = sym h.1 ∙ e in cc
refused_poll state answers s (over d) new r f e h = let no = sym h.1 ∙ e in cc

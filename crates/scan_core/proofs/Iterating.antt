-- Iterators that builders begin.
use Rattle.std.proofs.Common.{◌≡◌, ◌⊎◌, ℕ, Bool, true, false, List, [], Option, Some, None, Result, Ok, Err, refl, sym, ap, subst, ◌∙◌}
use mathlib.Core.Logic.{inl, inr}
use Rattle.scan_values.specs.Arrays.{ArrayData}
use Rattle.scan_readers.specs.Readers.{ReaderState}
use Rattle.scan_segments.specs.Source.{SourceState}
use Rattle.scan_streams.specs.Iters.{IterData, iter_data, as_poll}
use Rattle.scan_streams.specs.Sources.{SourceMoves}
use Rattle.scan_streams.specs.Streams.{StreamData, Answers, MayFeed, SameStream}
use Rattle.scan_streams.specs.declared.fault.StreamFault.{StreamFault}
use Rattle.scan_streams.specs.declared.fault.StreamFault.TheVariants as fault
use Rattle.scan_streams.specs.declared.setup.SetupFault.{SetupFault}
use Rattle.scan_core.specs.BuilderData.{BuilderData}
use Rattle.scan_core.specs.LazyData.{waits, begun, over, is_waiting, has_begun, builder_dtype, RefusesSetup}
use Rattle.scan_core.specs.LazyIter.{LazyIter, IsIdle, IsIterStarted, IterApplies, NextsBegun, NextsLazy, NextsStarted}
use Rattle.scan_core.specs.LazyIterState.{iter_fault, iter_state, over_source, IsFresh, IterComes}
use Rattle.scan_core.specs.LazyState.{IsBegun}
use Rattle.scan_core.specs.declared.begin.State.{State}
use Rattle.scan_core.specs.declared.begin.State.TheVariants as state
use Rattle.scan_core.specs.declared.scan_iter.IterState.{IterState}
use Rattle.scan_core.specs.declared.scan_iter.IterState.TheVariants.{Waiting, Running, Refused, Short}
use Rattle.scan_core.proofs.Beginning.{idle_begun, step_begun}

pub iter_started_by : {R M S : Type 0} (from : R → ReaderState) (old new : IterState R M S) → is_waiting (iter_state old) ≡ true → IterComes from old new → IsIterStarted from (iter_state old) (iter_state new) (iter_fault new)
iter_started_by from (Waiting w s) new h k = k
iter_started_by from (Running i) new h k = cc
iter_started_by from (Refused w f) new h k = cc
iter_started_by from (Short d) new h k = cc

pub iter_not_started : {R M S : Type 0} (from : R → ReaderState) (l : LazyIter R M S) → is_waiting l ≡ false → IsIterStarted from l l (Ok tt)
iter_not_started from (waits p) h = cc
iter_not_started from (begun i) h = (refl, refl)
iter_not_started from (over d) h = (refl, refl)

-- ---- what comes of a builder, over a source
pub fresh_begun : {R M : Type 0} (from : R → ReaderState) (b : BuilderData R M) (st : State R M) → IsBegun from b st → IsFresh st
fresh_begun from b (state.Waiting w) h = tt
fresh_begun from b (state.Running t) h = idle_begun (from b.reader) b t h.stream
fresh_begun from b (state.Refused w f) h = tt
fresh_begun from b (state.Short d) h = tt

pub begun_over : {R M S : Type 0} (from : R → ReaderState) (b : BuilderData R M) (s : S) (st : State R M) → IsBegun from b st → IsIterStarted from (waits (b, s)) (iter_state (over_source st s)) (iter_fault (over_source st s))
begun_over from b s (state.Waiting w) h = absurd h
begun_over from b s (state.Running t) h = (t, (refl, h))
begun_over from b s (state.Refused w f) h = (ap (λ z. over (builder_dtype z)) h.0, h.1)
begun_over from b s (state.Short d) h = (ap over h.0, h.1)

pub idle_over : {R M S : Type 0} (from : R → ReaderState) (source : S → SourceState) (b : BuilderData R M) (s : S) (st : State R M) → IsBegun from b st → IsIdle source (iter_state (over_source st s))
idle_over from source b s (state.Waiting w) h = absurd h
idle_over from source b s (state.Running t) h = tt
idle_over from source b s (state.Refused w f) h = tt
idle_over from source b s (state.Short d) h = tt

-- ---- what comes next
pub iter_applies : {R M S : Type 0} (applies : M → Type 0) (from : R → ReaderState) (old new : LazyIter R M S) (r : Result (Unit {0}) SetupFault) → r ≡ Ok tt → IsIterStarted from old new r → IterApplies applies old → IterApplies applies new
iter_applies applies from (waits p) new (Ok u) e h a =
    let there : applies (h.0).step = subst applies (sym (step_begun (from (p.0).reader) p.0 h.0 ((h.1).1).stream)) a in
    subst (IterApplies applies) (sym (h.1).0) there
iter_applies applies from (waits p) new (Err f) e h a = cc
iter_applies applies from (begun i) new r e h a = subst (IterApplies applies) (sym h.0) a
iter_applies applies from (over d) new r e h a = subst (IterApplies applies) (sym h.0) a

pub nexts_running : {R M S A F : Type 0} (source : S → SourceState) (answers : M → ArrayData → Result A F → Type 0) (st : IterState R M S) (i after : IterData M S) (r : Option (Result A (StreamFault F)))
    → st ≡ Running i → SourceMoves (MayFeed (source i.source).holds (i.stream).feed) (source i.source) (source after.source) → SameStream i.stream after.stream
    → Answers answers (source i.source) (source after.source) i.stream after.stream (as_poll r) → NextsStarted source answers (iter_state st) (begun after) r
nexts_running {R} {M} {S} source answers st i after r e m same a = subst (λ (z : IterState R M S). NextsStarted source answers (iter_state z) (begun after) r) (sym e) (record { after = after; now = refl; moves = m; same = same; answer = a })

pub idle_next : {R M S A F : Type 0} (source : S → SourceState) (answers : M → ArrayData → Result A F → Type 0) (l : LazyIter R M S) → has_begun l ≡ false → NextsStarted source answers l l None
idle_next source answers (waits p) h = (refl, refl)
idle_next source answers (begun i) h = cc
idle_next source answers (over d) h = (refl, refl)

pub started_nexts : {R M S A F : Type 0} (from : R → ReaderState) (source : S → SourceState) (answers : M → ArrayData → Result A F → Type 0) (old mid new : LazyIter R M S) (r : Result (Unit {0}) SetupFault) (o : Option (Result A (StreamFault F)))
    → r ≡ Ok tt → IsIterStarted from old mid r → NextsStarted source answers mid new o → NextsLazy from source answers old new o
started_nexts {R} {M} {S} from source answers (waits p) mid new (Ok u) o e h q =
    let nexts : NextsBegun source answers (iter_data h.0 p.1) new o = subst (λ (l : LazyIter R M S). NextsStarted source answers l new o) (h.1).0 q in
    inr (record { stream = h.0; begins = (h.1).1; nexts = nexts })
started_nexts from source answers (waits p) mid new (Err f) o e h q = cc
started_nexts {R} {M} {S} from source answers (begun i) mid new r o e h q = subst (λ (l : LazyIter R M S). NextsStarted source answers l new o) h.0 q
started_nexts {R} {M} {S} from source answers (over d) mid new r o e h q = subst (λ (l : LazyIter R M S). NextsStarted source answers l new o) h.0 q

pub refused_next : {R M S A F : Type 0} (from : R → ReaderState) (source : S → SourceState) (answers : M → ArrayData → Result A F → Type 0) (old new : LazyIter R M S) (r : Result (Unit {0}) SetupFault) (f : SetupFault)
    → r ≡ Err f → IsIterStarted from old new r → NextsLazy from source answers old new (Some (Err (fault.Setup f)))
refused_next from source answers (waits p) new (Ok u) f e h = cc
refused_next from source answers (waits p) new (Err g) f e h =
    let same : g ≡ f = cc in
    inl (record { why = f; fault = refl; refuses = subst (RefusesSetup (from (p.0).reader) p.0) same h.1; over = h.0 })
refused_next from source answers (begun i) new r f e h = let no = sym h.1 ∙ e in cc
refused_next from source answers (over d) new r f e h = let no = sym h.1 ∙ e in cc

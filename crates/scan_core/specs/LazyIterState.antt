-- What a lazy iterator keeps.
use Rattle.std.specs.Prelude.{◌≡◌, [], Result, Ok, Err}
use Rattle.scan_readers.specs.Readers.{ReaderState}
use Rattle.scan_streams.specs.Iters.{iter_data}
use Rattle.scan_streams.specs.declared.setup.SetupFault.{SetupFault}
use Rattle.scan_streams.specs.declared.setup.SetupFault.TheVariants.{NoMemory}
use Rattle.scan_core.specs.LazyData.{waits, begun, over, builder_dtype}
use Rattle.scan_core.specs.LazyIter.{LazyIter, IsIterStarted}
use Rattle.scan_core.specs.declared.begin.State.{State}
use Rattle.scan_core.specs.declared.begin.State.TheVariants as state
use Rattle.scan_core.specs.declared.scan_iter.IterState.{IterState}
use Rattle.scan_core.specs.declared.scan_iter.IterState.TheVariants.{Waiting, Running, Refused, Short}

abbrev pub iter_state : {R M S : Type 0} → IterState R M S → LazyIter R M S
iter_state (Waiting w s) = waits (w.builder, s)
iter_state (Running i) = begun i
iter_state (Refused w f) = over (builder_dtype w.builder)
iter_state (Short d) = over d

-- why there is no iterator
abbrev pub iter_fault : {R M S : Type 0} → IterState R M S → Result (Unit {0}) SetupFault
iter_fault (Waiting w s) = Ok tt
iter_fault (Running i) = Ok tt
iter_fault (Refused w f) = Err f
iter_fault (Short d) = Err NoMemory

-- nothing of a stream is live
abbrev pub IsFresh : {R M : Type 0} → State R M → Type 0
IsFresh (state.Waiting w) = Unit {0}
IsFresh (state.Running t) = (t.feed).live ≡ []
IsFresh (state.Refused w f) = Unit {0}
IsFresh (state.Short d) = Unit {0}

-- what comes of a builder, over a source
abbrev pub over_source : {R M S : Type 0} → State R M → S → IterState R M S
over_source (state.Waiting w) s = Waiting w s
over_source (state.Running t) s = Running (iter_data t s)
over_source (state.Refused w f) s = Refused w f
over_source (state.Short d) s = Short d

-- what comes of a state, once a builder in it is begun
abbrev pub IterComes : {R M S : Type 0} → (R → ReaderState) → IterState R M S → IterState R M S → Type 0
IterComes state (Waiting w s) new = IsIterStarted state (waits (w.builder, s)) (iter_state new) (iter_fault new)
IterComes state (Running i) new = new ≡ Running i
IterComes state (Refused w f) new = new ≡ Refused w f
IterComes state (Short d) new = new ≡ Short d

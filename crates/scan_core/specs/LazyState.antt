-- What a lazy stream keeps.
use Rattle.std.specs.Prelude.{◌≡◌, Result, Ok, Err}
use Rattle.scan_readers.specs.Readers.{ReaderState}
use Rattle.scan_streams.specs.declared.setup.SetupFault.{SetupFault}
use Rattle.scan_streams.specs.declared.setup.SetupFault.TheVariants.{NoMemory}
use Rattle.scan_core.specs.BuilderData.{BuilderData}
use Rattle.scan_core.specs.LazyData.{LazyStream, waits, begun, over, builder_dtype, Begins, RefusesSetup}
use Rattle.scan_core.specs.declared.begin.State.{State}
use Rattle.scan_core.specs.declared.begin.State.TheVariants.{Waiting, Running, Refused, Short}

abbrev pub lazy_state : {R M : Type 0} → State R M → LazyStream R M
lazy_state (Waiting w) = waits w.builder
lazy_state (Running t) = begun t
lazy_state (Refused w f) = over (builder_dtype w.builder)
lazy_state (Short d) = over d

-- why there is no stream
abbrev pub state_fault : {R M : Type 0} → State R M → Result (Unit {0}) SetupFault
state_fault (Waiting b) = Ok tt
state_fault (Running t) = Ok tt
state_fault (Refused b f) = Err f
state_fault (Short d) = Err NoMemory

-- what comes of a builder: the stream of its scan; or nothing, where it is refused, or memory is short
abbrev pub IsBegun : {R M : Type 0} → (R → ReaderState) → BuilderData R M → State R M → Type 0
IsBegun state b (Waiting c) = ⊥
IsBegun state b (Running t) = Begins (state b.reader) b t
IsBegun state b (Refused w f) = (w.builder ≡ b) × RefusesSetup (state b.reader) b f
IsBegun state b (Short d) = (d ≡ builder_dtype b) × RefusesSetup (state b.reader) b NoMemory

-- what comes of a state, once a builder in it is begun
abbrev pub Comes : {R M : Type 0} → (R → ReaderState) → State R M → State R M → Type 0
Comes state (Waiting w) new = IsBegun state w.builder new
Comes state (Running t) new = new ≡ Running t
Comes state (Refused b f) new = new ≡ Refused b f
Comes state (Short d) new = new ≡ Short d

-- The items of a stream over a source of its own.
use Rattle.std.specs.Prelude.{Option, None, Some, Result, Ok, Err, refl}
use Rattle.std.specs.Coded.{Coded, code_by, coded×}
use Rattle.scan_streams.specs.Streams.{StreamData, stream_code}
use Rattle.scan_streams.specs.declared.fault.StreamFault.{StreamFault}
use Rattle.scan_streams.specs.declared.fault.StreamPoll.{StreamPoll}
use Rattle.scan_streams.specs.declared.fault.StreamPoll.TheVariants as poll

-- the stream and the source
pub record IterData (M S : Type 0) : Type 0 where
  pub stream : StreamData M
  pub source : S

abbrev pub iter_data : {M S : Type 0} → StreamData M → S → IterData M S
iter_data t s = record { stream = t; source = s }

abbrev pub iter_code : {M S : Type 0} → Coded M → Coded S → Coded (IterData M S)
iter_code {M} {S} m s = code_by (StreamData M × S) (coded× (stream_code m) s) (λ a. (a.stream, a.source))
    (λ p. record { stream = p.0; source = p.1 }) (λ _. refl)

-- an answer as that of a poll
abbrev pub as_poll : {A F : Type 0} → Option (Result A (StreamFault F)) → StreamPoll A F
as_poll None = poll.End
as_poll (Some (Ok x)) = poll.Item x
as_poll (Some (Err f)) = poll.Fault f

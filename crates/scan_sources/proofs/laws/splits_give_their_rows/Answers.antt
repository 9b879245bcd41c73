use Rattle.std.proofs.Common.{ap, ◌∙◌, Some}
use Rattle.scan_core.specs.Streaming.{first_of, limit_before}
use Rattle.scan_sources.specs.Requests.{builder_of}
use Rattle.scan_sources.proofs.laws.splits_give_their_rows.Goals as goal

pub returns : goal.returns
returns g c = λ state q s r limit h up p scan past store.
    c.streams_give_the_first_rows.ensures (record s { limit = limit }) (Some r) store
    ∙ ap (first_of (limit_before (record s { limit = limit }))) (c.splits_give_what_is_asked.ensures state (builder_of q s.step) s (Some r) h up p scan past store)

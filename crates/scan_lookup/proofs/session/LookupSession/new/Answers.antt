use Rattle.scan_lookup.proofs.Sessions.{bound_parts, session_bound, session_made, session_unbound}
use Rattle.scan_lookup.proofs.session.LookupSession.new.Goals as goal

pub begun-requires-clause-parts : goal.begun-requires-clause-parts
begun-requires-clause-parts g c = bound_parts c.args.dtype.now c.args.projection.now c.in-Ok.bound c.in-Ok.ensures

pub returns-in-Ok-clause-made : goal.returns-in-Ok-clause-made
returns-in-Ok-clause-made g c = session_made c.args.dtype.now c.args.projection.now c.in-Ok.bound c.in-Ok.ensures c.args.files.items c.args.cache c.begun.result c.begun.ensures.made

pub returns-in-Ok-clause-bound : goal.returns-in-Ok-clause-bound
returns-in-Ok-clause-bound g c = session_bound c.args.dtype.now c.args.projection.now c.in-Ok.bound c.in-Ok.ensures c.begun.result c.begun.ensures.short

pub returns-in-Err-clause-bound : goal.returns-in-Err-clause-bound
returns-in-Err-clause-bound g c = session_unbound c.args.dtype.now c.args.projection.now c.in-Err.fault c.from.result c.from.ensures c.in-Err.ensures

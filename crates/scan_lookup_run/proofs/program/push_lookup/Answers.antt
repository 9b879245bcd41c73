use Rattle.scan_caches.specs.Bounded.{keyed_state}
use Rattle.scan_lookup_run.proofs.Serving.{has_served, is_ended}
use Rattle.scan_lookup_run.proofs.program.push_lookup.Goals as goal

pub push_reply-requires : goal.push_reply-requires
push_reply-requires g c = c.in-Ok.ensures.ok.count

pub returns-in-Ok-push_reply-clause-ok : goal.returns-in-Ok-push_reply-clause-ok
returns-in-Ok-push_reply-clause-ok g c = λ j serves.
    has_served j c.args.session.now c.look_up.new.self c.args.places.now serves c.in-Ok.reply c.args.out.now.items c.push_reply.new.out.items c.look_up.ensures.projection c.look_up.ensures.moves c.in-Ok.ensures.ok
    c.in-Ok-push_reply.ensures

pub returns-clause-err : goal.returns-clause-err
returns-clause-err g c = is_ended c.args.session.now c.args.places.now (c.look_up.new.self).files (keyed_state (c.look_up.new.self).cache) c.in-Err.fault c.in-Err.ensures.err

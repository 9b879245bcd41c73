use Rattle.scan_widened.proofs.Tied.{polled, gives_told, polls_rests}
use Rattle.scan_widened.proofs.source.poll_shared.Goals as goal

pub returns-clause-tied : goal.returns-clause-tied
returns-clause-tied g c = λ behind st least tied.
    polled g.S.Fits.fits (g.S.SegmentSource.state c.args.source.now) (g.S.SegmentSource.state c.poll.new.source) c.args.before behind c.args.table.now c.poll.new.self st tied c.poll.ensures.agree least c.args.holder.now.id c.poll.ensures.step

pub returns-clause-told : goal.returns-clause-told
returns-clause-told g c = λ behind st least tied.
    gives_told (g.S.SegmentSource.state c.poll.new.source) c.args.before behind c.poll.new.self st c.args.holder.now.id c.poll.result
    (polled g.S.Fits.fits (g.S.SegmentSource.state c.args.source.now) (g.S.SegmentSource.state c.poll.new.source) c.args.before behind c.args.table.now c.poll.new.self st tied c.poll.ensures.agree least c.args.holder.now.id c.poll.ensures.step)
    c.poll.ensures.gives

pub returns-clause-rests : goal.returns-clause-rests
returns-clause-rests g c = polls_rests g.S.Fits.fits (g.S.SegmentSource.state c.args.source.now) (g.S.SegmentSource.state c.poll.new.source) c.args.table.now c.poll.new.self c.args.holder.now.id c.poll.ensures.step

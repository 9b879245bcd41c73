use Rattle.scan_widened.proofs.Polling.{told_missing, told_read}
use Rattle.scan_widened.proofs.source.poll_held.Goals as goal

pub returns-in-Bytes-clause-told : goal.returns-in-Bytes-clause-told
returns-in-Bytes-clause-told g c = λ all st least tied.
    told_read (g.S.SegmentSource.state c.poll_shared.new.source) c.args.before c.args.behind c.args.holder.now.id c.in-Bytes.bytes c.read_over.result c.requires.inner (c.in-Bytes.ensures.told all st least tied) c.read_over.ensures

pub returns-in-Missing-clause-told : goal.returns-in-Missing-clause-told
returns-in-Missing-clause-told g c = λ all st least tied.
    told_missing (g.S.SegmentSource.state c.poll_shared.new.source) c.args.before c.args.behind c.args.holder.now.id c.requires.inner (c.in-Missing.ensures.told all st least tied)

use Rattle.scan_disk_writer.proofs.Taking.{sealed_as}
use Rattle.scan_disk_writer.proofs.file.append_sealed.Goals as goal

pub returns-clause-taken : goal.returns-clause-taken
returns-clause-taken g c =
    sealed_as c.args.footer.now c.digest-digest.result (g.W.BytesOut.taken c.args.out.now) (g.W.BytesOut.taken c.append.new.self) (g.W.BytesOut.taken c.append-2.new.self) c.append-2.result
    c.digest-digest.ensures c.in_ok-append.ensures.taken c.append-2.ensures.taken

use Rattle.scan_disk.specs.Contents.{magic}
use Rattle.scan_disk_writer.specs.FileBytes.{sealed}
use Rattle.scan_disk_writer.proofs.Taking.{three, word_as}
use Rattle.scan_disk_writer.proofs.file.append_end.Goals as goal

pub returns-clause-taken : goal.returns-clause-taken
returns-clause-taken g c =
    word_as c.args.footer.now c.length_bytes-word.result (g.W.BytesOut.taken c.args.out.now) (g.W.BytesOut.taken c.append-2.new.self) c.append-2.result c.length_bytes-word.ensures
    (three (g.W.BytesOut.taken c.args.out.now) (g.W.BytesOut.taken c.append_sealed.new.out) (g.W.BytesOut.taken c.append.new.self) (g.W.BytesOut.taken c.append-2.new.self) (sealed c.args.footer.now)
    c.length_bytes-word.result magic c.append-2.result c.in_ok-append_sealed.ensures.taken c.in_ok-append.ensures.taken c.append-2.ensures.taken)

use Rattle.uses.proofs.Parting.{over_read, part_seat, reads_kept}
use Rattle.uses.proofs.in_parts.read_part.Goals as goal

pub keep_part-requires-clause-own : goal.keep_part-requires-clause-own
keep_part-requires-clause-own g c = part_seat c.args.scan.now c.next_partition.new.self c.in-Ok-Some.part c.requires.own (rw c.in-Ok-Some.field-0-is at c.in-Ok-Some.ensures.gives)

pub returns-in-Ok-Some-clause-reads : goal.returns-in-Ok-Some-clause-reads
returns-in-Ok-Some-clause-reads g c =
    reads_kept (g.S.SegmentSource.state c.args.segments.now).holds c.args.scan.now c.next_partition.new.self c.in-Ok-Some.part c.args.read.now.items c.keep_part.new.read.items c.keep_part.result
    (rw c.in-Ok-Some.field-0-is at c.in-Ok-Some.ensures.gives) c.next_partition.ensures.lies c.keep_part.ensures.keeps

pub returns-in-Ok-None-clause-reads : goal.returns-in-Ok-None-clause-reads
returns-in-Ok-None-clause-reads g c = over_read c.args.scan.now c.next_partition.new.self c.args.read.now.items (rw c.in-Ok-None.field-0-is at c.in-Ok-None.ensures.gives) c.next_partition.ensures.lies

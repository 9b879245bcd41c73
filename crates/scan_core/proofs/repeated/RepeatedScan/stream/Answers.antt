use Rattle.std.proofs.Common.{◌≤◌, map, subst, sym}
use Rattle.scan_streams.specs.Splits.{new_split, reach}
use Rattle.scan_core.specs.RowRanges.{most_in}
use Rattle.scan_core.proofs.Executing.{begun_room}
use Rattle.scan_core.proofs.repeated.RepeatedScan.stream.Goals as goal

pub returns-clause-room : goal.returns-clause-room
returns-clause-room g c =
    let n = most_in c.args.row_range c.args.self.now.rows in
    let few = subst (λ q. reach (map new_split q) ≤ n) (sym c.queue-2.view_is) c.in_ok-queue.ensures.reach in
    begun_room _ n c.new-2.result c.new-2.ensures few c.requires.room

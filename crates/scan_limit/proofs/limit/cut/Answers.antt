use Rattle.std.proofs.Common.{arith}
use Rattle.scan_limit.proofs.Moves.{splits}
use Rattle.scan_limit.proofs.limit.cut.Goals as goal

pub split_seat-requires : goal.split_seat-requires
split_seat-requires g c =
    let room = c.requires.room in
    let amount = c.requires.amount in
    (c.requires.own, c.requires.word, splits c.args.shared.now.key c.args.seat.now.id g.A.Amount.amount c.args.seat.now.me.0 (omega arith))

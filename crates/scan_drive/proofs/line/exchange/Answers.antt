use Rattle.std.proofs.Common.{◌<◌, ◌+◌, List, length, refl, arith}
use Rattle.scan_drive.specs.declared.phase.Phase.{Phase}
use Rattle.scan_drive.proofs.Brought.{brought_none, brought_one, spare_by}
use Rattle.scan_drive.proofs.line.exchange.Goals as goal

pub returns-in_err-push : goal.returns-in_err-push
returns-in_err-push g c =
    brought_none (c.args.place + 1) c.args.exchanges.now.items c.push.new.self.items c.args.files.now.items c.args.desks.now.items c.args.drive.now c.in_err-push.ensures.items

pub returns : goal.returns
returns g c =
    let ps : List (Phase g.row.W.Denot g.row.F.Denot) = c.args.drive.now.phases.items in
    let x : Phase g.row.W.Denot g.row.F.Denot = c.index.result.now in
    brought_one c.args.front c.args.place c.args.exchanges.now.items c.push.new.self.items c.args.files.now.items c.swap.new.self.items c.args.desks.now.items c.swap-2.new.self.items c.args.drive.now (record c.args.drive.now { phases = c.swap-3.new.self })
    c.in_ok-push.ensures.items c.swap.ensures.items c.swap-2.ensures.items
    (record { phases_are = c.swap-3.ensures.items; active = refl; chunks = refl; first = refl; tally = refl; left = refl; report = refl; ordered = refl; budget = refl; unclaimed = refl })
    (spare_by c.args.front c.args.place ps x c.requires.apart c.requires.within c.index.ensures (c.is_shut.ensures.shut c.if-not-is_shut.false) c.requires.opened)

pub returns-then-not-is_shut : goal.returns-then-not-is_shut
returns-then-not-is_shut g c =
    brought_none (c.args.place + 1) c.args.exchanges.now.items c.args.exchanges.now.items c.args.files.now.items c.args.desks.now.items c.args.drive.now refl

use Rattle.std.proofs.Common.{◌+◌, refl, ◌∙◌, arith}
use Rattle.scan_drive.proofs.Brought.{brought_none, brought_then, brought_phases, brought_files, brought_desks}
use Rattle.scan_drive.proofs.line.bring_between.Goals as goal

pub loop-place-init : goal.loop-place-init
loop-place-init g c = record {
  brings = brought_none c.args.last c.args.exchanges.now.items c.args.exchanges.now.items c.args.files.now.items c.args.desks.now.items c.args.drive.now refl;
  phases = refl;
  files = refl;
  desks = refl;
  to = omega arith;
}

pub returns-in_err-exchange : goal.returns-in_err-exchange
returns-in_err-exchange g c =
    brought_then (c.loop-place.place + 1) c.args.last c.args.exchanges.now.items c.loop-place.exchanges.items c.exchange.new.exchanges.items c.args.files.now.items c.loop-place.files.items c.exchange.new.files.items
    c.args.desks.now.items c.loop-place.desks.items c.exchange.new.desks.items c.args.drive.now c.loop-place.drive c.exchange.new.drive (omega arith) c.loop-place.invariant.brings c.exchange.ensures

pub loop-place-preserved : goal.loop-place-preserved
loop-place-preserved g c =
    let inv = c.loop-place.invariant in
    let one = c.exchange.ensures in
    let m = c.loop-place.place + 1 in
    record {
      brings =
          brought_then m c.args.last c.args.exchanges.now.items c.loop-place.exchanges.items c.exchange.new.exchanges.items c.args.files.now.items c.loop-place.files.items c.exchange.new.files.items
          c.args.desks.now.items c.loop-place.desks.items c.exchange.new.desks.items c.args.drive.now c.loop-place.drive c.exchange.new.drive (omega arith) inv.brings one;
      phases =
          brought_phases m c.loop-place.exchanges.items c.exchange.new.exchanges.items c.loop-place.files.items c.exchange.new.files.items c.loop-place.desks.items c.exchange.new.desks.items c.loop-place.drive c.exchange.new.drive one ∙ inv.phases;
      files =
          brought_files m c.loop-place.exchanges.items c.exchange.new.exchanges.items c.loop-place.files.items c.exchange.new.files.items c.loop-place.desks.items c.exchange.new.desks.items c.loop-place.drive c.exchange.new.drive one ∙ inv.files;
      desks =
          brought_desks m c.loop-place.exchanges.items c.exchange.new.exchanges.items c.loop-place.files.items c.exchange.new.files.items c.loop-place.desks.items c.exchange.new.desks.items c.loop-place.drive c.exchange.new.drive one ∙ inv.desks;
      to = (let x = inv.to in omega (arith, x));
    }

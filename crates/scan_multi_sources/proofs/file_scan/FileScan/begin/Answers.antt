use Rattle.std.proofs.Common.{◌≡◌, true, ◌∙◌, Ok, sym, rules}
use Rattle.scan_multi_sources.specs.MultiScans.{BeginsNext, has_room}
use Rattle.scan_multi_sources.proofs.Stepping.{begin_step, full_step}
use Rattle.scan_multi_sources.proofs.file_scan.FileScan.begin.Goals as goal

pub returns-then-not-has_room : goal.returns-then-not-has_room
returns-then-not-has_room g c = full_step g.O.LayoutReaderFactory.opener c.args.self.now c.args.at c.requires.past (sym c.has_room.ensures.room ∙ c.if-not-has_room.true) c.has_room.ensures.some

pub returns-in-Ok-true : goal.returns-in-Ok-true
returns-in-Ok-true g c =
    let few : has_room c.args.self.now ≡ true = search rules in
    let h : BeginsNext c.args.self.now c.begin_next.new.self (Ok true) = search rules in
    begin_step g.O.LayoutReaderFactory.opener c.args.self.now c.begin_next.new.self c.args.at c.requires.past c.requires.before few h

use Rattle.std.proofs.Common.{◌≡◌, ◌∙◌, sym}
use Rattle.scan_places.proofs.Walking.{opens_none, opens_polled, is_opened}
use Rattle.scan_places.proofs.walk.open_one.Goals as goal

pub returns-then-is_open-clause-opens : goal.returns-then-is_open-clause-opens
returns-then-is_open-clause-opens g c = opens_none g.O.LayoutReaderFactory.opener c.args.projection.now c.args.opener.now c.args.opener.now c.args.kept.now c.requires.kept

pub returns-in-Ok-clause-opens : goal.returns-in-Ok-clause-opens
returns-in-Ok-clause-opens g c =
    opens_polled g.O.LayoutReaderFactory.opener c.args.projection.now c.args.opener.now c.open.new.opener c.args.kept.now c.in-Ok.opened (sym c.is_open.ensures ∙ c.if-is_open.false) c.open.ensures.moves c.in-Ok.ensures.ok

pub returns-in-Ok-clause-open : goal.returns-in-Ok-clause-open
returns-in-Ok-clause-open g c = is_opened c.in-Ok.opened c.in-Ok.ensures.open

pub returns-in-Err-clause-opens : goal.returns-in-Err-clause-opens
returns-in-Err-clause-opens g c =
    opens_polled g.O.LayoutReaderFactory.opener c.args.projection.now c.args.opener.now c.open.new.opener c.args.kept.now c.args.kept.now (sym c.is_open.ensures ∙ c.if-is_open.false) c.open.ensures.moves c.requires.kept

pub returns-in-Err-clause-fault : goal.returns-in-Err-clause-fault
returns-in-Err-clause-fault g c = c.fault_of.ensures (g.O.LayoutReaderFactory.opener c.args.opener.now) (g.O.LayoutReaderFactory.opener c.open.new.opener) c.in-Err.ensures.fault

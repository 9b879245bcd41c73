use Rattle.std.proofs.Common.{sym, ◌∙◌, subst}
use Rattle.scan_streams.specs.Desks.{Agree}
use Rattle.scan_streams.proofs.Stepping.{look_step, look_source, look_halts, give_step, turn_desk, turn_ordered, end_step, fetch_step}
use Rattle.scan_streams.proofs.reading.Reading.advance.Goals as goal

pub returns-in-Some-clause-source : goal.returns-in-Some-clause-source
returns-in-Some-clause-source g c =
    let state = g.S.SegmentSource.state in
    look_source c.in-Some.place c.args.self.now c.first_news.new.self (state c.args.source.now).holds (state c.args.source.now) (state c.look_at.new.source) c.in-Some.ensures c.look_at.ensures.source

pub returns-in-Some-clause-advances : goal.returns-in-Some-clause-advances
returns-in-Some-clause-advances g c =
    let state = g.S.SegmentSource.state in
    look_step c.look_at.result c.in-Some.place c.args.self.now c.first_news.new.self c.look_at.new.self (state c.args.source.now) (state c.look_at.new.source) c.requires.stands c.in-Some.ensures c.look_at.ensures.looks

pub returns-in-Some-clause-halts : goal.returns-in-Some-clause-halts
returns-in-Some-clause-halts g c =
    let state = g.S.SegmentSource.state in
    look_halts c.look_at.result c.in-Some.place c.args.self.now c.first_news.new.self (state c.args.source.now) (state c.look_at.new.source) c.in-Some.ensures c.look_at.ensures.halts

pub returns-in-Some-turn-clause-agree : goal.returns-in-Some-turn-clause-agree
returns-in-Some-turn-clause-agree g c =
    let desk = c.give.ensures.desk ∙ turn_desk c.first_news.result c.in-Some-turn.place c.args.self.now c.first_news.new.self c.turn.new.self c.in_default.not-Some c.first_news.ensures c.in-Some-turn.ensures in
    subst (Agree (g.S.SegmentSource.state c.args.source.now).live) (sym desk) c.requires.agree

pub returns-in-Some-turn-clause-ordered : goal.returns-in-Some-turn-clause-ordered
returns-in-Some-turn-clause-ordered g c = c.give.ensures.ordered ∙ turn_ordered c.first_news.result c.in-Some-turn.place c.args.self.now c.first_news.new.self c.turn.new.self c.in_default.not-Some c.first_news.ensures c.in-Some-turn.ensures

pub returns-in-Some-turn-clause-advances : goal.returns-in-Some-turn-clause-advances
returns-in-Some-turn-clause-advances g c =
    give_step c.give.result c.first_news.result c.in-Some-turn.place c.args.self.now c.first_news.new.self c.turn.new.self c.give.new.self (g.S.SegmentSource.state c.args.source.now) c.requires.stands c.in_default.not-Some c.first_news.ensures c.in-Some-turn.ensures c.give.ensures.gives

pub returns-then-is_empty-clause-advances : goal.returns-then-is_empty-clause-advances
returns-then-is_empty-clause-advances g c =
    end_step c.first_news.result c.turn.result c.args.self.now c.first_news.new.self c.turn.new.self (g.S.SegmentSource.state c.args.source.now) c.requires.stands c.in_default.not-Some c.first_news.ensures c.in_default-turn.not-Some c.turn.ensures (c.is_empty.ensures.none c.if-is_empty.true)

pub returns-clause-advances : goal.returns-clause-advances
returns-clause-advances g c =
    let state = g.S.SegmentSource.state in
    fetch_step c.fetch_live.result c.first_news.result c.turn.result c.args.self.now c.first_news.new.self c.turn.new.self c.fetch_live.new.self (state c.args.source.now) (state c.fetch_live.new.source)
    c.requires.stands c.in_default.not-Some c.first_news.ensures c.in_default-turn.not-Some c.turn.ensures (c.is_empty.ensures.some c.if-is_empty.false) c.fetch_live.ensures.fetches

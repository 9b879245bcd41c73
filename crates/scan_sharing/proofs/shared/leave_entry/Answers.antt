use Rattle.std.proofs.Common.{◌≡◌, true, false, Some, None, ap, sym, ◌∙◌, refl, arith}
use Rattle.scan_sharing.specs.Sharing.{entry_at, is_live}
use Rattle.scan_sharing.specs.SharedTables.{without_number}
use Rattle.scan_sharing.proofs.Slots.{here, leaves, left_some, left_none, moves_twice}
use Rattle.scan_sharing.proofs.TableSteps.{stays_agree, ends_agree, live_without}
use Rattle.scan_sharing.proofs.shared.leave_entry.Goals as goal

pub returns-then-take_holder-clause-step : goal.returns-then-take_holder-clause-step
returns-then-take_holder-clause-step g c =
    let es = c.args.entries.now.entries in
    leaves c.args.id c.args.number _ es c.take_holder.new.entries.entries (left_some c.args.number (entry_at es c.args.id) c.requires.held (sym c.take_holder.ensures.others ∙ c.if-take_holder.true)) c.take_holder.ensures.moves

pub returns-then-take_holder-clause-agree : goal.returns-then-take_holder-clause-agree
returns-then-take_holder-clause-agree g c =
    let es = c.args.entries.now.entries in
    let others = sym c.take_holder.ensures.others ∙ c.if-take_holder.true in
    stays_agree (g.S.SegmentSource.state c.args.source.now).live c.args.id c.args.number es c.take_holder.new.entries.entries c.requires.agree c.requires.held others
    (leaves c.args.id c.args.number _ es c.take_holder.new.entries.entries (left_some c.args.number (entry_at es c.args.id) c.requires.held others) c.take_holder.ensures.moves)

pub drop_request-requires : goal.drop_request-requires
drop_request-requires g c =
    let es = c.args.entries.now.entries in
    c.requires.agree c.args.id ∙ sym (live_without c.args.number (entry_at es c.args.id) c.requires.held)
    ∙ sym (ap is_live (here c.args.id (Some (without_number c.args.number (entry_at es c.args.id))) es c.take_holder.new.entries.entries c.take_holder.ensures.moves)) ∙ sym c.end_entry.ensures.live ∙ c.if-end_entry.true

pub returns-then-end_entry-clause-step : goal.returns-then-end_entry-clause-step
returns-then-end_entry-clause-step g c =
    let es = c.args.entries.now.entries in
    leaves c.args.id c.args.number None es c.end_entry.new.entries.entries (left_none c.args.number (entry_at es c.args.id) (sym c.take_holder.ensures.others ∙ c.if-take_holder.false))
    (moves_twice c.args.id None (Some (without_number c.args.number (entry_at es c.args.id))) es c.take_holder.new.entries.entries c.end_entry.new.entries.entries c.take_holder.ensures.moves c.end_entry.ensures.moves)

pub returns-else-end_entry-clause-step : goal.returns-else-end_entry-clause-step
returns-else-end_entry-clause-step g c =
    let es = c.args.entries.now.entries in
    leaves c.args.id c.args.number None es c.end_entry.new.entries.entries (left_none c.args.number (entry_at es c.args.id) (sym c.take_holder.ensures.others ∙ c.if-take_holder.false))
    (moves_twice c.args.id None (Some (without_number c.args.number (entry_at es c.args.id))) es c.take_holder.new.entries.entries c.end_entry.new.entries.entries c.take_holder.ensures.moves c.end_entry.ensures.moves)

pub returns-then-end_entry-clause-agree : goal.returns-then-end_entry-clause-agree
returns-then-end_entry-clause-agree g c =
    let es = c.args.entries.now.entries in
    let others = sym c.take_holder.ensures.others ∙ c.if-take_holder.false in
    let live : is_live (entry_at es c.args.id) ≡ true = sym (live_without c.args.number (entry_at es c.args.id) c.requires.held)
    ∙ sym (ap is_live (here c.args.id (Some (without_number c.args.number (entry_at es c.args.id))) es c.take_holder.new.entries.entries
    c.take_holder.ensures.moves)) ∙ sym c.end_entry.ensures.live ∙ c.if-end_entry.true in
    ends_agree (g.S.SegmentSource.state c.args.source.now).live (g.S.SegmentSource.state c.drop_request.new.self).live c.args.id c.args.number true es c.end_entry.new.entries.entries c.requires.agree c.requires.held others live c.drop_request.ensures.live
    (leaves c.args.id c.args.number None es c.end_entry.new.entries.entries (left_none c.args.number (entry_at es c.args.id) others)
    (moves_twice c.args.id None (Some (without_number c.args.number (entry_at es c.args.id))) es c.take_holder.new.entries.entries c.end_entry.new.entries.entries c.take_holder.ensures.moves c.end_entry.ensures.moves))

pub returns-else-end_entry-clause-agree : goal.returns-else-end_entry-clause-agree
returns-else-end_entry-clause-agree g c =
    let es = c.args.entries.now.entries in
    let others = sym c.take_holder.ensures.others ∙ c.if-take_holder.false in
    let live : is_live (entry_at es c.args.id) ≡ false = sym (live_without c.args.number (entry_at es c.args.id) c.requires.held)
    ∙ sym (ap is_live (here c.args.id (Some (without_number c.args.number (entry_at es c.args.id))) es c.take_holder.new.entries.entries
    c.take_holder.ensures.moves)) ∙ sym c.end_entry.ensures.live ∙ c.if-end_entry.false in
    ends_agree (g.S.SegmentSource.state c.args.source.now).live (g.S.SegmentSource.state c.args.source.now).live c.args.id c.args.number false es c.end_entry.new.entries.entries c.requires.agree c.requires.held others live refl
    (leaves c.args.id c.args.number None es c.end_entry.new.entries.entries (left_none c.args.number (entry_at es c.args.id) others)
    (moves_twice c.args.id None (Some (without_number c.args.number (entry_at es c.args.id))) es c.take_holder.new.entries.entries c.end_entry.new.entries.entries c.take_holder.ensures.moves c.end_entry.ensures.moves))

pub returns-then-take_holder-clause-owed : goal.returns-then-take_holder-clause-owed
returns-then-take_holder-clause-owed g c = c.take_holder.ensures.owed

pub returns-then-end_entry-clause-owed : goal.returns-then-end_entry-clause-owed
returns-then-end_entry-clause-owed g c = omega (arith, c.take_holder.ensures.owed, c.end_entry.ensures.owed)

pub returns-else-end_entry-clause-owed : goal.returns-else-end_entry-clause-owed
returns-else-end_entry-clause-owed g c = omega (arith, c.take_holder.ensures.owed, c.end_entry.ensures.owed)

use Rattle.std.proofs.Common.{◌≡◌, ◌∙◌, List, ℕ, subst, sym, ap}
use Rattle.scan_streams.specs.Slots.{handed_all}
use Rattle.scan_streams.specs.Looks.{EachGoes}
use Rattle.scan_streams.specs.Readings.{Linked}
use Rattle.scan_streams.specs.declared.slot.Slot.{Slot}
use Rattle.scan_streams.proofs.Sweeping.{wait_all, each_goes, links_after}
use Rattle.scan_streams.proofs.look.poll_one.Goals as goal

pub returns-in-Ok-clause-goes : goal.returns-in-Ok-clause-goes
returns-in-Ok-clause-goes g c =
    let s = g.S.SegmentSource.state c.args.source.now in
    let slots = c.args.slots.now.items in
    let ps = c.in-Came.places in
    let now : c.hand.new.slots.items ≡ handed_all c.args.id c.in-Came.arrival ps slots = c.in-Ok.ensures.slots ∙ ap (λ (xs : List ℕ). handed_all c.args.id c.in-Came.arrival xs slots) c.as_slice.ensures.places in
    subst (λ (ss : List Slot). EachGoes s.holds slots ss) (sym now) (each_goes s c.args.id c.in-Came.arrival ps slots (wait_all c.args.id ps c.args.desk.now slots c.requires.links c.in-Came.ensures.replies.0) c.as_slice.ensures.distinct c.in-Came.ensures.replies.2)

pub returns-in-Ok-clause-links : goal.returns-in-Ok-clause-links
returns-in-Ok-clause-links g c =
    let slots = c.args.slots.now.items in
    let ps = c.in-Came.places in
    let now : c.hand.new.slots.items ≡ handed_all c.args.id c.in-Came.arrival ps slots = c.in-Ok.ensures.slots ∙ ap (λ (xs : List ℕ). handed_all c.args.id c.in-Came.arrival xs slots) c.as_slice.ensures.places in
    subst (λ (ss : List Slot). Linked c.poll.new.self ss) (sym now) (links_after c.args.id c.in-Came.arrival ps c.args.desk.now c.poll.new.self slots c.requires.links c.in-Came.ensures.replies.0 c.in-Came.ensures.replies.1 c.as_slice.ensures.distinct)

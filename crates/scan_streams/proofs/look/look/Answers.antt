use Rattle.std.proofs.Common.{◌≡◌, ◌∙◌, ◌<◌, subst, arith, length, length-set, set, not}
use Rattle.std.proofs.lemmas.List.{get_or_default}
use Rattle.scan_streams.specs.Looks.{FoundWaits, FoundDone, HaltsAt, Among, Asked}
use Rattle.scan_streams.specs.Slots.{slot_at, wanted_in}
use Rattle.scan_streams.specs.Sources.{SourceMoves}
use Rattle.scan_streams.proofs.Handing.{at_set_same}
use Rattle.scan_streams.specs.declared.slot.Slot.{Slot}
use Rattle.scan_streams.specs.declared.slot.Slot.TheVariants as slot
use Rattle.scan_streams.proofs.Settling.{new_place, may_ask, waits_looked, done_looked, waits_links, done_links, waits_steps, done_steps, halts_at}
use Rattle.scan_streams.proofs.look.look.Goals as goal

pub ask_slot-requires-clause-new : goal.ask_slot-requires-clause-new
ask_slot-requires-clause-new g c =
    let slots = c.args.slots.now.items in
    let lt : c.args.place < length slots = omega (arith, c.if-place-len.false, c.len.ensures, c.args.slots.now.ok) in
    let is : c.index_mut.result.now ≡ slot_at slots c.args.place = c.index_mut.ensures.value ∙ get_or_default slots c.args.place c.index_mut.result.now slot.Empty lt in
    let f : FoundWaits (slot_at slots c.args.place) c.poll_slot.new.slot = subst (λ (x : Slot). FoundWaits x c.poll_slot.new.slot) is (rw c.in-Ok-Waits.field-0-is at c.in-Ok-Waits.ensures.looks) in
    new_place c.args.desk.now slots c.args.place c.poll_slot.new.slot c.requires.links f

pub returns-in-Ok-clause-source : goal.returns-in-Ok-clause-source
returns-in-Ok-clause-source g c =
    let slots = c.args.slots.now.items in
    let lt : c.args.place < length slots = omega (arith, c.if-place-len.false, c.len.ensures, c.args.slots.now.ok) in
    let is : c.index_mut.result.now ≡ slot_at slots c.args.place = c.index_mut.ensures.value ∙ get_or_default slots c.args.place c.index_mut.result.now slot.Empty lt in
    let f : FoundWaits (slot_at slots c.args.place) c.poll_slot.new.slot = subst (λ (x : Slot). FoundWaits x c.poll_slot.new.slot) is (rw c.in-Ok-Waits.field-0-is at c.in-Ok-Waits.ensures.looks) in
    may_ask (g.S.SegmentSource.state c.args.source.now).holds (slot_at slots c.args.place) c.poll_slot.new.slot (g.S.SegmentSource.state c.args.source.now) (g.S.SegmentSource.state c.ask_slot.new.source) f
    (subst (λ (y : Slot). SourceMoves (Among (wanted_in y)) (g.S.SegmentSource.state c.args.source.now) (g.S.SegmentSource.state c.ask_slot.new.source))
    (c.index.ensures ∙ get_or_default (set slots c.args.place c.poll_slot.new.slot) c.args.place c.index.result.now slot.Empty (rw (length-set slots c.args.place c.poll_slot.new.slot) lt) ∙ at_set_same slots c.args.place c.poll_slot.new.slot lt) c.ask_slot.ensures.source)

pub returns-in-Err-ask_slot-clause-source : goal.returns-in-Err-ask_slot-clause-source
returns-in-Err-ask_slot-clause-source g c =
    let slots = c.args.slots.now.items in
    let lt : c.args.place < length slots = omega (arith, c.if-place-len.false, c.len.ensures, c.args.slots.now.ok) in
    let is : c.index_mut.result.now ≡ slot_at slots c.args.place = c.index_mut.ensures.value ∙ get_or_default slots c.args.place c.index_mut.result.now slot.Empty lt in
    let f : FoundWaits (slot_at slots c.args.place) c.poll_slot.new.slot = subst (λ (x : Slot). FoundWaits x c.poll_slot.new.slot) is (rw c.in-Ok-Waits.field-0-is at c.in-Ok-Waits.ensures.looks) in
    may_ask (g.S.SegmentSource.state c.args.source.now).holds (slot_at slots c.args.place) c.poll_slot.new.slot (g.S.SegmentSource.state c.args.source.now) (g.S.SegmentSource.state c.ask_slot.new.source) f
    (subst (λ (y : Slot). SourceMoves (Among (wanted_in y)) (g.S.SegmentSource.state c.args.source.now) (g.S.SegmentSource.state c.ask_slot.new.source))
    (c.index.ensures ∙ get_or_default (set slots c.args.place c.poll_slot.new.slot) c.args.place c.index.result.now slot.Empty (rw (length-set slots c.args.place c.poll_slot.new.slot) lt) ∙ at_set_same slots c.args.place c.poll_slot.new.slot lt) c.ask_slot.ensures.source)

pub returns-in-Ok-clause-looked : goal.returns-in-Ok-clause-looked
returns-in-Ok-clause-looked g c =
    let slots = c.args.slots.now.items in
    let lt : c.args.place < length slots = omega (arith, c.if-place-len.false, c.len.ensures, c.args.slots.now.ok) in
    let is : c.index_mut.result.now ≡ slot_at slots c.args.place = c.index_mut.ensures.value ∙ get_or_default slots c.args.place c.index_mut.result.now slot.Empty lt in
    let f : FoundWaits (slot_at slots c.args.place) c.poll_slot.new.slot = subst (λ (x : Slot). FoundWaits x c.poll_slot.new.slot) is (rw c.in-Ok-Waits.field-0-is at c.in-Ok-Waits.ensures.looks) in
    waits_looked (g.S.SegmentSource.state c.args.source.now).holds slots c.args.place c.poll_slot.new.slot f

pub returns-in-Ok-clause-links : goal.returns-in-Ok-clause-links
returns-in-Ok-clause-links g c =
    let slots = c.args.slots.now.items in
    let lt : c.args.place < length slots = omega (arith, c.if-place-len.false, c.len.ensures, c.args.slots.now.ok) in
    let is : c.index_mut.result.now ≡ slot_at slots c.args.place = c.index_mut.ensures.value ∙ get_or_default slots c.args.place c.index_mut.result.now slot.Empty lt in
    let f : FoundWaits (slot_at slots c.args.place) c.poll_slot.new.slot = subst (λ (x : Slot). FoundWaits x c.poll_slot.new.slot) is (rw c.in-Ok-Waits.field-0-is at c.in-Ok-Waits.ensures.looks) in
    waits_links c.args.desk.now c.ask_slot.new.desk slots c.args.place c.poll_slot.new.slot lt c.requires.links f
    (subst (λ (y : Slot). Asked (wanted_in y) c.args.place c.args.desk.now c.ask_slot.new.desk)
    (c.index.ensures ∙ get_or_default (set slots c.args.place c.poll_slot.new.slot) c.args.place c.index.result.now slot.Empty (rw (length-set slots c.args.place c.poll_slot.new.slot) lt) ∙ at_set_same slots c.args.place c.poll_slot.new.slot lt) c.in-Ok.ensures.asked)

pub returns-in-Ok-clause-steps : goal.returns-in-Ok-clause-steps
returns-in-Ok-clause-steps g c =
    let slots = c.args.slots.now.items in
    let lt : c.args.place < length slots = omega (arith, c.if-place-len.false, c.len.ensures, c.args.slots.now.ok) in
    let is : c.index_mut.result.now ≡ slot_at slots c.args.place = c.index_mut.ensures.value ∙ get_or_default slots c.args.place c.index_mut.result.now slot.Empty lt in
    let f : FoundWaits (slot_at slots c.args.place) c.poll_slot.new.slot = subst (λ (x : Slot). FoundWaits x c.poll_slot.new.slot) is (rw c.in-Ok-Waits.field-0-is at c.in-Ok-Waits.ensures.looks) in
    let s = waits_steps slots c.args.place c.poll_slot.new.slot lt f in
    omega (arith, s)

pub returns-in-Ok-list_if-clause-looked : goal.returns-in-Ok-list_if-clause-looked
returns-in-Ok-list_if-clause-looked g c =
    let slots = c.args.slots.now.items in
    let lt : c.args.place < length slots = omega (arith, c.if-place-len.false, c.len.ensures, c.args.slots.now.ok) in
    let is : c.index_mut.result.now ≡ slot_at slots c.args.place = c.index_mut.ensures.value ∙ get_or_default slots c.args.place c.index_mut.result.now slot.Empty lt in
    let f : FoundDone (slot_at slots c.args.place) c.poll_slot.new.slot = subst (λ (x : Slot). FoundDone x c.poll_slot.new.slot) is (rw c.in-Ok-Done.field-0-is at c.in-Ok-Done.ensures.looks) in
    done_looked (g.S.SegmentSource.state c.args.source.now).holds slots c.args.place c.poll_slot.new.slot f

pub returns-in-Ok-list_if-clause-links : goal.returns-in-Ok-list_if-clause-links
returns-in-Ok-list_if-clause-links g c =
    let slots = c.args.slots.now.items in
    let lt : c.args.place < length slots = omega (arith, c.if-place-len.false, c.len.ensures, c.args.slots.now.ok) in
    let is : c.index_mut.result.now ≡ slot_at slots c.args.place = c.index_mut.ensures.value ∙ get_or_default slots c.args.place c.index_mut.result.now slot.Empty lt in
    let f : FoundDone (slot_at slots c.args.place) c.poll_slot.new.slot = subst (λ (x : Slot). FoundDone x c.poll_slot.new.slot) is (rw c.in-Ok-Done.field-0-is at c.in-Ok-Done.ensures.looks) in
    done_links c.args.desk.now slots c.args.place c.poll_slot.new.slot lt c.requires.links f

pub returns-in-Ok-list_if-clause-steps : goal.returns-in-Ok-list_if-clause-steps
returns-in-Ok-list_if-clause-steps g c =
    let slots = c.args.slots.now.items in
    let lt : c.args.place < length slots = omega (arith, c.if-place-len.false, c.len.ensures, c.args.slots.now.ok) in
    let is : c.index_mut.result.now ≡ slot_at slots c.args.place = c.index_mut.ensures.value ∙ get_or_default slots c.args.place c.index_mut.result.now slot.Empty lt in
    let f : FoundDone (slot_at slots c.args.place) c.poll_slot.new.slot = subst (λ (x : Slot). FoundDone x c.poll_slot.new.slot) is (rw c.in-Ok-Done.field-0-is at c.in-Ok-Done.ensures.looks) in
    done_steps slots c.args.place c.poll_slot.new.slot (not c.args.ordered) c.args.done.now.items c.list_if.new.list.items lt f c.in-Ok-list_if.ensures

pub returns-in-Err-clause-halts : goal.returns-in-Err-clause-halts
returns-in-Err-clause-halts g c =
    let slots = c.args.slots.now.items in
    let lt : c.args.place < length slots = omega (arith, c.if-place-len.false, c.len.ensures, c.args.slots.now.ok) in
    let is : c.index_mut.result.now ≡ slot_at slots c.args.place = c.index_mut.ensures.value ∙ get_or_default slots c.args.place c.index_mut.result.now slot.Empty lt in
    halts_at (g.S.SegmentSource.state c.args.source.now) (g.S.SegmentSource.state c.args.source.now) (slot_at slots c.args.place) c.in-Err.halt (subst (λ (x : Slot). HaltsAt x c.in-Err.halt) is c.in-Err.ensures.halts)

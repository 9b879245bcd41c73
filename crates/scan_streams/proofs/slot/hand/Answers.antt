use Rattle.std.proofs.Common.{◌≡◌, ◌∙◌, ◌+◌, ◌∷◌, List, ℕ, drop, get_or, ap, subst, arith, length, ◌<◌}
use Rattle.std.proofs.lemmas.List.{get_or_default}
use Rattle.scan_streams.specs.Slots.{slot_at, handed}
use Rattle.scan_streams.specs.declared.slot.Slot.TheVariants as slot
use Rattle.scan_streams.proofs.Handing.{Hands, drop_next, hands_news, head_within}
use Rattle.scan_streams.proofs.slot.hand.Goals as goal

pub loop-place-preserved : goal.loop-place-preserved
loop-place-preserved c =
    let i = c.loop-place.place-index in
    let ps = c.args.places.now in
    let p = get_or ps i 0 in
    let now = c.loop-place.slots.items in
    let lt : i < length ps = omega (arith, c.loop-place-test.true) in
    let h : Hands c.args.id c.args.arrival.now (p ∷ drop (i + 1) ps) ps c.args.slots.now.items now c.args.news.now.items c.loop-place.news.items =
    subst (λ (rest : List ℕ). Hands c.args.id c.args.arrival.now rest ps c.args.slots.now.items now c.args.news.now.items c.loop-place.news.items) (drop_next ps i 0 lt) c.loop-place.invariant in
    let in_list : p < length now = head_within c.args.id c.args.arrival.now p (drop (i + 1) ps) ps c.args.slots.now.items now c.args.news.now.items c.loop-place.news.items h in
    let is : c.hand_one.new.slot ≡ handed c.args.id c.args.arrival.now (slot_at now p) = c.in_ok-ready.ensures.ok ∙ ap (handed c.args.id c.args.arrival.now) (c.index_mut.ensures.value ∙ get_or_default now p c.index_mut.result.now slot.Empty in_list) in
    hands_news c.args.id c.args.arrival.now p (drop (i + 1) ps) ps c.args.slots.now.items now c.args.news.now.items c.loop-place.news.items c.list_if.new.list.items c.hand_one.new.slot c.in_ok-ready.ready h is c.in_ok-ready.ensures.fresh c.in_ok-list_if.ensures

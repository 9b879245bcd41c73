use Rattle.std.proofs.Common.{◌<◌, ◌∙◌, length, ap, arith, sym}
use Rattle.std.proofs.lemmas.List.{get_or_default}
use Rattle.scan_drive.specs.declared.slot.Slot.{Slot}
use Rattle.scan_drive.proofs.Seating.{found}
use Rattle.scan_drive.proofs.Windows.{busy_start, busy_more, busy_end, turn_within}
use Rattle.scan_drive.proofs.round.count_busy.Goals as goal

pub index-requires : goal.index-requires
index-requires g c =
    let turns = c.args.turns.now.items in
    let lt : c.loop-i.i < length turns = omega (arith, c.loop-i-test.true, c.len-i-end.ensures, c.args.turns.now.ok) in
    let there = turn_within turns c.requires.0 c.args.slots.now.items c.loop-i.i c.index-place.result.now lt c.index-place.ensures c.requires.1 in
    omega (arith, there, c.args.slots.now.ok)

pub loop-i-init : goal.loop-i-init
loop-i-init g c = busy_start c.args.turns.now.items c.args.slots.now.items c.args.first

pub loop-i-preserved : goal.loop-i-preserved
loop-i-preserved g c =
    let turns = c.args.turns.now.items in
    let slots = c.args.slots.now.items in
    let i = c.loop-i.i in
    let place = c.index-place.result.now in
    let lt : i < length turns = omega (arith, c.loop-i-test.true, c.len-i-end.ensures, c.args.turns.now.ok) in
    let there = turn_within turns c.requires.0 slots i place lt c.index-place.ensures c.requires.1 in
    let file = ap (λ (s : Slot g.row.W.Denot g.row.R.Denot). s.file) (found slots place c.index.result.now there c.index.ensures) in
    busy_more turns slots c.args.first i c.loop-i.busy c.loop-i.last c.index.result.now.file c.count_file-busy.result lt
    (λ d. ap (λ p. (Rattle.scan_drive.specs.Slots.slot_at slots p).file) (sym (c.index-place.ensures ∙ get_or_default turns i place d lt)) ∙ file) c.count_file-busy.ensures c.loop-i.invariant

pub returns-clause-busy : goal.returns-clause-busy
returns-clause-busy g c =
    busy_end c.args.turns.now.items c.args.slots.now.items c.args.first c.loop-i.i c.loop-i.busy c.loop-i.last (omega (arith, c.loop-i-test.false, c.len-i-end.ensures, c.args.turns.now.ok)) c.loop-i.invariant

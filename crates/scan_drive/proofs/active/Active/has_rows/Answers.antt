use Rattle.std.proofs.Common.{arith, ◌≡◌, ap, sym, ◌∙◌, drop, List, ℕ, get_or}
use Rattle.scan_drive.specs.Slots.{slot_at, is_read}
use Rattle.scan_drive.specs.declared.slot.Slot.{Slot}
use Rattle.scan_drive.proofs.Seating.{first_within, found}
use Rattle.scan_drive.proofs.active.Active.has_rows.Goals as goal

pub index-requires : goal.index-requires
index-requires g c =
    let lt = first_within c.args.self.now.turns.items (drop 1 c.args.self.now.turns.items) c.args.self.now.free.items c.in-Some.place c.args.self.now.slots.items c.requires c.in-Some.ensures in
    omega (arith, lt, c.args.self.now.slots.ok)

pub returns-in-Some : goal.returns-in-Some
returns-in-Some g c place later is =
    let slots = c.args.self.now.slots.items in
    let lt = first_within c.args.self.now.turns.items (drop 1 c.args.self.now.turns.items) c.args.self.now.free.items c.in-Some.place slots c.requires c.in-Some.ensures in
    let at = found slots c.in-Some.place c.index.result.now lt c.index.ensures in
    let same : c.in-Some.place ≡ place = ap (λ (ts : List ℕ). get_or ts 0 0) (sym c.in-Some.ensures ∙ is) in
    c.has_rows.ensures ∙ ap (λ (s : Slot g.row.W.Denot g.row.R.Denot). is_read s.stage) (sym at) ∙ ap (λ k. is_read (slot_at slots k).stage) same

use Rattle.std.proofs.Common.{List, ℕ, sym, subst}
use Rattle.scan_drive.specs.Actives.{AreSeats, Becomes}
use Rattle.scan_drive.specs.Runs.{RunData, new_run}
use Rattle.scan_drive.specs.declared.slot.Slot.{Slot}
use Rattle.scan_drive.specs.declared.slot.Stage.TheVariants as stage
use Rattle.scan_drive.proofs.Seating.{free_within, seated_room}
use Rattle.scan_drive.proofs.active.Active.seat.Goals as goal

pub put-requires : goal.put-requires
put-requires g c = free_within c.args.self.now.turns.items c.args.self.now.free.items c.args.self.now.slots.items c.requires

pub returns : goal.returns
returns g c =
    let old = c.args.self.now in
    let place = c.in_ok-place.place in
    let new = c.put.new.slots.items in
    let s : Slot g.row.W.Denot g.row.R.Denot = record { file = c.args.file; stage = stage.Reads (new_run c.args.work) } in
    let b : Becomes place s old.slots.items new = subst (λ (r : RunData g.row.W.Denot). Becomes place (record { file = c.args.file; stage = stage.Reads r }) old.slots.items new) c.new.ensures c.in_ok-place.ensures.becomes in
    let room = seated_room old.turns.items old.free.items c.put.new.free.items place s old.slots.items new c.requires b c.in_ok-place.ensures.room in
    record {
      place = place;
      turns = c.in_ok-push_back.ensures.items;
      unused = room.1;
      becomes = b;
      seated = subst (λ (turns : List ℕ). AreSeats turns c.put.new.free.items new) (sym c.in_ok-push_back.ensures.items) room.0;
    }

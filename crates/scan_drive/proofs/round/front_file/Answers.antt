use Rattle.std.proofs.Common.{arith, ap, drop}
use Rattle.scan_drive.specs.declared.slot.Slot.{Slot}
use Rattle.scan_drive.proofs.Seating.{first_within, found}
use Rattle.scan_drive.proofs.round.front_file.Goals as goal

pub index-requires : goal.index-requires
index-requires g c =
    let turns = c.args.turns.now.items in
    let lt = first_within turns (drop 1 turns) c.requires.0 c.in-Some.place c.args.slots.now.items c.requires.1 c.in-Some.ensures in
    omega (arith, lt, c.args.slots.now.ok)

pub returns-in-Some : goal.returns-in-Some
returns-in-Some g c =
    let turns = c.args.turns.now.items in
    let place = c.in-Some.place in
    let lt = first_within turns (drop 1 turns) c.requires.0 place c.args.slots.now.items c.requires.1 c.in-Some.ensures in
    record {
      place = place;
      later = drop 1 turns;
      turns_are = c.in-Some.ensures;
      file_is = ap (λ (s : Slot g.row.W.Denot g.row.R.Denot). s.file) (found c.args.slots.now.items place c.index.result.now lt c.index.ensures);
    }

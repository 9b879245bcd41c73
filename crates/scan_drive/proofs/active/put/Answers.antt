use Rattle.std.proofs.Common.{arith, ap, ◌∙◌, ◌≡◌, true}
use Rattle.scan_values.specs.Selections.{is_among}
use Rattle.scan_drive.proofs.Handing.{among_head}
use Rattle.scan_drive.proofs.Seating.{becomes_set}
use Rattle.scan_drive.proofs.active.put.Goals as goal

pub index_mut-requires : goal.index_mut-requires
index_mut-requires g c =
    let there : is_among c.args.free.now.items c.in-Some.place ≡ true = ap (λ xs. is_among xs c.in-Some.place) c.in-Some.ensures.items ∙ among_head c.in-Some.place c.pop_front.new.self.items in
    let lt = c.requires c.in-Some.place there in
    omega (arith, lt, c.args.slots.now.ok)

pub returns-in-Some-clause-becomes : goal.returns-in-Some-clause-becomes
returns-in-Some-clause-becomes g c =
    let there : is_among c.args.free.now.items c.in-Some.place ≡ true = ap (λ xs. is_among xs c.in-Some.place) c.in-Some.ensures.items ∙ among_head c.in-Some.place c.pop_front.new.self.items in
    becomes_set c.args.slots.now.items c.in-Some.place c.args.slot (c.requires c.in-Some.place there)

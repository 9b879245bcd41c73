use Rattle.std.proofs.Common.{arith, ◌<◌, ◌≡◌, ◌++◌, ◌∷◌, [], length, ap, sym, ◌∙◌, subst, drop, List, ℕ, refl, length-set, get_or}
use Rattle.scan_drive.specs.Actives.{AreSeats, Becomes}
use Rattle.scan_drive.specs.Slots.{is_read, is_halted}
use Rattle.scan_drive.specs.declared.slot.Slot.{Slot}
use Rattle.scan_drive.specs.declared.slot.Stage.TheVariants as stage
use Rattle.scan_drive.proofs.Seating.{first_within, seated_freed, slot_is, becomes_set, found, set_again, none_of}
use Rattle.scan_drive.proofs.active.Active.take_front.Goals as goal

pub index-requires : goal.index-requires
index-requires g c =
    let lt = first_within c.args.self.now.turns.items (drop 1 c.args.self.now.turns.items) c.args.self.now.free.items c.in-Some.place c.args.self.now.slots.items c.requires c.in-Some.ensures in
    omega (arith, lt, c.args.self.now.slots.ok)

pub index-requires-2 : goal.index-requires-2
index-requires-2 g c =
    let lt = first_within c.args.self.now.turns.items (drop 1 c.args.self.now.turns.items) c.args.self.now.free.items c.in-Some.place c.args.self.now.slots.items c.requires c.in-Some.ensures in
    omega (arith, lt, c.args.self.now.slots.ok)

pub returns-in-Some-halt_of : goal.returns-in-Some-halt_of
returns-in-Some-halt_of g c =
    let old = c.args.self.now in
    let place = c.in-Some.place in
    let lt = first_within old.turns.items (drop 1 old.turns.items) old.free.items place old.slots.items c.requires c.in-Some.ensures in
    let x : Slot g.row.W.Denot g.row.R.Denot = c.index.result.now in
    let y : Slot g.row.W.Denot g.row.R.Denot = c.index-2.result.now in
    let at = found old.slots.items place x lt c.index.ensures in
    let same : x ≡ y = sym at ∙ found old.slots.items place y lt c.index-2.ensures in
    let run = c.in-Some-halt_of.ensures.some.0 in
    let why : x.stage ≡ stage.Halted run c.in-Some-halt_of.halt = ap (λ (s : Slot g.row.W.Denot g.row.R.Denot). s.stage) same ∙ c.in-Some-halt_of.ensures.some.1 in
    (record { place = place; later = drop 1 old.turns.items; run = run; turns = c.in-Some.ensures; was = at ∙ slot_is x (stage.Halted run c.in-Some-halt_of.halt) why }, record { slots = refl; turns = refl; free = refl })

pub index_mut-requires : goal.index_mut-requires
index_mut-requires g c =
    let lt = first_within c.args.self.now.turns.items (drop 1 c.args.self.now.turns.items) c.args.self.now.free.items c.in-Some.place c.args.self.now.slots.items c.requires c.in-Some.ensures in
    omega (arith, lt, c.args.self.now.slots.ok)

pub returns-in-None : goal.returns-in-None
returns-in-None g c =
    let old = c.args.self.now in
    let place = c.in-Some.place in
    let lt = first_within old.turns.items (drop 1 old.turns.items) old.free.items place old.slots.items c.requires c.in-Some.ensures in
    let x : Slot g.row.W.Denot g.row.R.Denot = c.index_mut.result.now in
    let y : Slot g.row.W.Denot g.row.R.Denot = c.index-2.result.now in
    let at = found old.slots.items place x lt c.index_mut.ensures.value in
    let same = found old.slots.items place y lt c.index-2.ensures in (
      record {
        slots = set_again old.slots.items place x c.take_rows.new.slot c.index_mut.ensures.value c.in-None.ensures.0;
        turns = refl;
        free = refl;
      },
      record {
        place = place;
        later = drop 1 old.turns.items;
        turns = c.in-Some.ensures;
        unread = ap (λ (s : Slot g.row.W.Denot g.row.R.Denot). is_read s.stage) at ∙ c.in-None.ensures.1;
        wanted = ap (λ (s : Slot g.row.W.Denot g.row.R.Denot). is_halted s.stage) same ∙ c.halt_of.ensures.none (none_of c.halt_of.result c.in_default-halt_of.not-Some);
      },
    )

pub returns-in_ok-push_back-in-Some-take_rows : goal.returns-in_ok-push_back-in-Some-take_rows
returns-in_ok-push_back-in-Some-take_rows g c =
    let old = c.args.self.now in
    let place = c.in-Some.place in
    let lt = first_within old.turns.items (drop 1 old.turns.items) old.free.items place old.slots.items c.requires c.in-Some.ensures in
    let x : Slot g.row.W.Denot g.row.R.Denot = c.index.result.now in
    let y : Slot g.row.W.Denot g.row.R.Denot = c.index_mut.result.now in
    let at = found old.slots.items place x lt c.index.ensures in
    let same : y ≡ x = sym (found old.slots.items place y lt c.index_mut.ensures.value) ∙ at in
    let taken = c.in-Some-take_rows.ensures in
    let read : x.stage ≡ stage.Read c.in-Some-take_rows.rows = sym (ap (λ (s : Slot g.row.W.Denot g.row.R.Denot). s.stage) same) ∙ taken.0 in
    let empty : Slot g.row.W.Denot g.row.R.Denot = record { file = x.file; stage = stage.Empty } in
    let now : c.take_rows.new.slot ≡ empty = taken.1 ∙ ap (λ (s : Slot g.row.W.Denot g.row.R.Denot). record { file = s.file; stage = stage.Empty }) same in
    let new = Rattle.std.proofs.Common.set old.slots.items place c.take_rows.new.slot in
    let b : Becomes place empty old.slots.items new = subst (λ (s : Slot g.row.W.Denot g.row.R.Denot). Becomes place s old.slots.items new) now (becomes_set old.slots.items place c.take_rows.new.slot lt) in
    let turns : old.turns.items ≡ place ∷ c.pop_front.new.self.items = c.in-Some.ensures ∙ ap (λ (xs : List ℕ). place ∷ xs) (sym c.pop_front.ensures.rest) in
    record {
      place = place;
      turns = turns;
      was = at ∙ slot_is x (stage.Read c.in-Some-take_rows.rows) read;
      becomes = b;
      seated = subst (λ (free : List ℕ). AreSeats c.pop_front.new.self.items free new) (sym c.in_ok-push_back-in-Some-take_rows.ensures.items) (seated_freed old.turns.items c.pop_front.new.self.items old.free.items place empty old.slots.items new c.requires turns refl b
          (length-set old.slots.items place c.take_rows.new.slot));
    }

use Rattle.std.proofs.Common.{◌++◌, ◌∙◌, refl, sym, ap, subst}
use Rattle.scan_drive.specs.Chunks.{given}
use Rattle.scan_drive.specs.Drivings.{GivesBefore}
use Rattle.scan_drive.specs.Ends.{limit_in}
use Rattle.scan_drive.specs.Files.{answer}
use Rattle.scan_drive.specs.Grants.{AreGiven}
use Rattle.scan_drive.specs.Handed.{with_taken}
use Rattle.scan_drive.specs.declared.round.Drive.{Drive}
use Rattle.scan_drive.proofs.Ending.{cut_none, done_all, done_cut, sound_more, stops_more, stops_file, settled}
use Rattle.scan_values.specs.Selections.{is_among}
use Rattle.scan_drive.proofs.Accounting.{runs_out}
use Rattle.scan_drive.proofs.Leading.{split_before, gives_idle}
use Rattle.scan_drive.proofs.Fronts.{gave_more, gave_held}
use Rattle.scan_drive.proofs.Outgone.{more_taken, cut_taken, fault_taken, files_taken, rows_taken}
use Rattle.scan_drive.proofs.settling.settle.Goals as goal

pub returns-then-not-is_idle-clause-waits : goal.returns-then-not-is_idle-clause-waits
returns-then-not-is_idle-clause-waits g c ts =
    let split = g.W.SplitWork.split in
    let comes = g.W.SplitWork.comes in
    let items = g.W.SplitWork.items in
    let d : Drive g.row.W.Denot g.row.W-Rows.Denot g.row.F.Denot = with_taken ts c.args.drive.now in
    let e : Drive g.row.W.Denot g.row.W-Rows.Denot g.row.F.Denot = record d { budget = c.give_out.new.budget; active = c.give_out.new.active; chunks = record { items = ts ++ c.give_out.new.chunks.items }; left = c.give_out.new.left } in
    let is = c.in-Ok-Some.field-0-is in
    let w = c.in-Ok-Some.ensures in
    let more = more_taken split comes items ts d.ordered d.active c.give_out.new.active c.args.drive.now.chunks.items c.give_out.new.chunks.items d.left c.give_out.new.left (rw is at w.gives) in
    let waits = rw is at w.waits in
    settled split comes items c.in-Ok-Some.asking.items d e refl refl refl refl refl (files_taken ts d.active.slots.items c.args.drive.now.chunks.items c.give_out.new.chunks.items w.keeps.files) waits.ready waits.halts waits.asks waits.once waits.links
    waits.named w.keeps.ok more waits.steps (λ none end. c.is_idle.ensures.some c.if-not-is_idle.true none) waits.grants

pub returns-in-Open-clause-waits : goal.returns-in-Open-clause-waits
returns-in-Open-clause-waits g c ts =
    let split = g.W.SplitWork.split in
    let comes = g.W.SplitWork.comes in
    let items = g.W.SplitWork.items in
    let d : Drive g.row.W.Denot g.row.W-Rows.Denot g.row.F.Denot = with_taken ts c.args.drive.now in
    let e : Drive g.row.W.Denot g.row.W-Rows.Denot g.row.F.Denot = record d { budget = c.give_out.new.budget; active = c.give_out.new.active; chunks = record { items = ts ++ c.give_out.new.chunks.items }; left = c.give_out.new.left } in
    let is = c.in-Ok-Some.field-0-is in
    let w = c.in-Ok-Some.ensures in
    let more = more_taken split comes items ts d.ordered d.active c.give_out.new.active c.args.drive.now.chunks.items c.give_out.new.chunks.items d.left c.give_out.new.left (rw is at w.gives) in
    let waits = rw is at w.waits in
    let f : Drive g.row.W.Denot g.row.W-Rows.Denot g.row.F.Denot = record e { phases = c.end_of.new.phases } in
    let o = c.in-Open.ensures in
    settled split comes items c.in-Ok-Some.asking.items d f o.0 refl refl refl refl (files_taken ts d.active.slots.items c.args.drive.now.chunks.items c.give_out.new.chunks.items w.keeps.files) waits.ready waits.halts waits.asks waits.once waits.links waits.named w.keeps.ok more
    waits.steps (λ no end. o.1 (subst (λ ps. Rattle.scan_drive.specs.Rounds.IsEnd d.first d.tally ps) o.0 end)) waits.grants

pub returns-in-Open-clause-follows : goal.returns-in-Open-clause-follows
returns-in-Open-clause-follows g c =
    let waits = rw c.in-Ok-Some.field-0-is at c.in-Ok-Some.ensures.waits in
    waits.follows

pub returns-then-not-is_idle-clause-follows : goal.returns-then-not-is_idle-clause-follows
returns-then-not-is_idle-clause-follows g c =
    let waits = rw c.in-Ok-Some.field-0-is at c.in-Ok-Some.ensures.waits in
    waits.follows

pub returns-in-Done-clause-all : goal.returns-in-Done-clause-all
returns-in-Done-clause-all g c e0 ts =
    let split = g.W.SplitWork.split in
    let comes = g.W.SplitWork.comes in
    let items = g.W.SplitWork.items in
    let d : Drive g.row.W.Denot g.row.W-Rows.Denot g.row.F.Denot = with_taken ts c.args.drive.now in
    let e : Drive g.row.W.Denot g.row.W-Rows.Denot g.row.F.Denot = record d { budget = c.give_out.new.budget; active = c.give_out.new.active; chunks = record { items = ts ++ c.give_out.new.chunks.items }; left = c.give_out.new.left } in
    let is = c.in-Ok-Some.field-0-is in
    let w = c.in-Ok-Some.ensures in
    let more = more_taken split comes items ts d.ordered d.active c.give_out.new.active c.args.drive.now.chunks.items c.give_out.new.chunks.items d.left c.give_out.new.left (rw is at w.gives) in
    let waits = rw is at w.waits in
    let none = c.is_idle.ensures.none c.if-not-is_idle.false in
    let seats = waits.ready c.requires.stands.0 c.requires.stands.1.ready in
    record {
      done = λ tale all s. subst (λ l. AreGiven d.ordered l (answer tale) (given items e.chunks.items)) more.counts.limit
          (done_all split comes items tale e (sound_more split comes items tale d e more (w.keeps.ok tale) refl refl refl s) none c.requires.stands.1.below c.in-Done.ensures.1 all);
      out = λ free. runs_out c.in-Ok-Some.asking.items d.active.slots.items c.give_out.new.active.slots.items (λ place. seats.seated.empty place (ap (λ ts. is_among ts place) none)) waits.halts waits.links;
      spent = λ unlimited. c.in-Done.ensures.1;
    }

pub returns-in-Ok-None-clause-all : goal.returns-in-Ok-None-clause-all
returns-in-Ok-None-clause-all g c e0 ts =
    let split = g.W.SplitWork.split in
    let comes = g.W.SplitWork.comes in
    let items = g.W.SplitWork.items in
    let d : Drive g.row.W.Denot g.row.W-Rows.Denot g.row.F.Denot = with_taken ts c.args.drive.now in
    let cut = cut_taken split comes items ts d.ordered d.active c.args.drive.now.chunks.items c.give_out.new.chunks.items d.left (rw c.in-Ok-None.field-0-is at c.in-Ok-None.ensures.gives) in
    record {
      done = λ tale all s. done_cut split comes items tale d (ts ++ c.give_out.new.chunks.items) cut s all;
      out = λ free. (let bad = sym free ∙ cut.was in absurd cc);
      spent = λ none. absurd (cut_none split comes items d.ordered d.active d.chunks.items (ts ++ c.give_out.new.chunks.items) d.left none cut);
    }

pub returns-in-Err-clause-stops : goal.returns-in-Err-clause-stops
returns-in-Err-clause-stops g c ts =
    let split = g.W.SplitWork.split in
    let comes = g.W.SplitWork.comes in
    let items = g.W.SplitWork.items in
    let d : Drive g.row.W.Denot g.row.W-Rows.Denot g.row.F.Denot = with_taken ts c.args.drive.now in
    record {
      fault = λ tale s. c.in-Err.ensures.stops.cause tale s.ok;
      before = λ ordered tale s. split_before g.W.SplitWork.split g.W.SplitWork.comes g.W.SplitWork.items tale d c.give_out.new.active (ts ++ c.give_out.new.chunks.items) c.give_out.new.left c.in-Err.fault ordered s.0 s.1 c.requires.stands.1.below s.2
          (fault_taken g.W.SplitWork.split g.W.SplitWork.comes g.W.SplitWork.items ts d.active c.give_out.new.active c.args.drive.now.chunks.items c.give_out.new.chunks.items d.left c.give_out.new.left c.in-Err.fault (c.in-Err.ensures.stops.fault ordered));
      settles = c.in-Err.ensures.stops.stops;
      gave = λ first tale.
          (let h = gave_held split comes items d c.give_out.new.active (ts ++ c.give_out.new.chunks.items) c.give_out.new.left c.in-Err.fault
          (λ ordered. fault_taken split comes items ts d.active c.give_out.new.active c.args.drive.now.chunks.items c.give_out.new.chunks.items d.left c.give_out.new.left c.in-Err.fault (c.in-Err.ensures.stops.fault ordered)) first tale in
          record { rows = h.rows; front = h.front });
    }

pub returns-in-TooMany-clause-stops : goal.returns-in-TooMany-clause-stops
returns-in-TooMany-clause-stops g c ts =
    let split = g.W.SplitWork.split in
    let comes = g.W.SplitWork.comes in
    let items = g.W.SplitWork.items in
    let d : Drive g.row.W.Denot g.row.W-Rows.Denot g.row.F.Denot = with_taken ts c.args.drive.now in
    let e : Drive g.row.W.Denot g.row.W-Rows.Denot g.row.F.Denot = record d { budget = c.give_out.new.budget; active = c.give_out.new.active; chunks = record { items = ts ++ c.give_out.new.chunks.items }; left = c.give_out.new.left } in
    let is = c.in-Ok-Some.field-0-is in
    let w = c.in-Ok-Some.ensures in
    let more = more_taken split comes items ts d.ordered d.active c.give_out.new.active c.args.drive.now.chunks.items c.give_out.new.chunks.items d.left c.give_out.new.left (rw is at w.gives) in
    let waits = rw is at w.waits in
    let none = c.is_idle.ensures.none c.if-not-is_idle.false in
    let f : Drive g.row.W.Denot g.row.W-Rows.Denot g.row.F.Denot = record e { phases = c.end_of.new.phases } in
    let o = c.in-TooMany.ensures in
    record {
      fault = λ tale s. (
        stops_more split comes items tale d f more (w.keeps.ok tale) o.0 refl refl s,
        none,
        refl,
        subst (λ ps. Rattle.scan_drive.specs.Turns.IsTooMany d.first d.tally (Rattle.scan_drive.specs.Phases.phase_at ps d.first)) (sym o.0) o.1,
      );
      before = λ ordered tale s. subst (λ b. GivesBefore items b (limit_in split comes items d) tale d.first) ordered
          (gives_idle split comes items tale d c.give_out.new.active (ts ++ c.give_out.new.chunks.items) c.give_out.new.left s.0 s.1 c.requires.stands.1.below more none);
      settles = (refl, o.1);
      gave = λ first tale.
          (let h = gave_more split comes items tale d c.give_out.new.active (ts ++ c.give_out.new.chunks.items) c.give_out.new.left
          (rows_taken items ts c.args.drive.now.chunks.items c.give_out.new.chunks.items w.keeps.rows) more in
          record { rows = h.rows; front = h.front });
    }

pub returns-in-Refused-clause-stops : goal.returns-in-Refused-clause-stops
returns-in-Refused-clause-stops g c ts =
    let split = g.W.SplitWork.split in
    let comes = g.W.SplitWork.comes in
    let items = g.W.SplitWork.items in
    let d : Drive g.row.W.Denot g.row.W-Rows.Denot g.row.F.Denot = with_taken ts c.args.drive.now in
    let e : Drive g.row.W.Denot g.row.W-Rows.Denot g.row.F.Denot = record d { budget = c.give_out.new.budget; active = c.give_out.new.active; chunks = record { items = ts ++ c.give_out.new.chunks.items }; left = c.give_out.new.left } in
    let is = c.in-Ok-Some.field-0-is in
    let w = c.in-Ok-Some.ensures in
    let more = more_taken split comes items ts d.ordered d.active c.give_out.new.active c.args.drive.now.chunks.items c.give_out.new.chunks.items d.left c.give_out.new.left (rw is at w.gives) in
    let waits = rw is at w.waits in
    let none = c.is_idle.ensures.none c.if-not-is_idle.false in
    let f : Drive g.row.W.Denot g.row.W-Rows.Denot g.row.F.Denot = record e { phases = c.end_of.new.phases } in
    let o = c.in-Refused.ensures in
    record {
      fault = λ tale s. (
        stops_file split comes items tale d e f d.first c.in-Refused.fault o.0 o.1 refl refl refl refl refl (stops_more split comes items tale d e more (w.keeps.ok tale) refl refl refl s),
        none,
        refl,
        o.0,
      );
      before = λ ordered tale s. subst (λ b. GivesBefore items b (limit_in split comes items d) tale d.first) ordered
          (gives_idle split comes items tale d c.give_out.new.active (ts ++ c.give_out.new.chunks.items) c.give_out.new.left s.0 s.1 c.requires.stands.1.below more none);
      settles = (refl, o.0);
      gave = λ first tale.
          (let h = gave_more split comes items tale d c.give_out.new.active (ts ++ c.give_out.new.chunks.items) c.give_out.new.left
          (rows_taken items ts c.args.drive.now.chunks.items c.give_out.new.chunks.items w.keeps.rows) more in
          record { rows = h.rows; front = h.front });
    }

pub returns-then-not-is_idle-clause-some : goal.returns-then-not-is_idle-clause-some
returns-then-not-is_idle-clause-some g c = c.in-Ok-Some.ensures.keeps.rows

pub returns-in-Open-clause-some : goal.returns-in-Open-clause-some
returns-in-Open-clause-some g c = c.in-Ok-Some.ensures.keeps.rows

pub returns-in-Done-clause-some : goal.returns-in-Done-clause-some
returns-in-Done-clause-some g c = c.in-Ok-Some.ensures.keeps.rows

pub returns-in-Ok-None-clause-some : goal.returns-in-Ok-None-clause-some
returns-in-Ok-None-clause-some g c = c.in-Ok-None.ensures.keeps.rows

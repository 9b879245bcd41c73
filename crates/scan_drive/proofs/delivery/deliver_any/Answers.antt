use Rattle.std.proofs.Common.{arith, ◌≡◌, ◌<◌, ◌≤◌, ◌+◌, length, List, false, Some, None, IfSome, unwrap_or, ap, sym, ◌∙◌, subst}
use Rattle.std.specs.Prelude.{◌⊎◌}
use Rattle.scan_drive.specs.Actives.{AllOk, IsNext, Rotates, Seated}
use Rattle.scan_drive.specs.Chunks.{IsCause, IsDelivered, Gives}
use Rattle.scan_drive.specs.Files.{Item, Told}
use Rattle.scan_drive.specs.Lost.{StopsOver}
use Rattle.scan_drive.specs.Steps.{GivesRows}
use Rattle.scan_drive.specs.Turns.{GivesOn, TurnsWait}
use Rattle.scan_drive.specs.declared.active.Active.{Active}
use Rattle.scan_drive.specs.declared.active.Front.{Front}
use Rattle.scan_drive.specs.declared.delivery.Delivered.{Delivered}
use Rattle.scan_drive.specs.declared.delivery.Delivered.TheVariants as delivered
use Rattle.scan_drive.specs.declared.delivery.DriveFault.{DriveFault}
use Rattle.scan_drive.specs.declared.delivery.DriveFault.TheVariants as faults
use Rattle.scan_drive.proofs.Giving.{front_ok, files_rows}
use Rattle.scan_drive.proofs.Freely.{ok_on, ok_under, err_under, over_none, over_some, over_rows, over_waits, over_halted, over_more, over_gives, over_wait, over_reads, over_cut, held_seated, held_ok, held_more, held_gives, held_wait, held_cause}
use Rattle.scan_drive.proofs.delivery.deliver_any.Goals as goal

pub loop-turn-init : goal.loop-turn-init
loop-turn-init g c = over_none g.W.SplitWork.split g.W.SplitWork.comes g.W.SplitWork.items c.args.active.now c.args.chunks.now.items c.args.left.now c.requires.seated c.requires.room

pub take_next-requires : goal.take_next-requires
take_next-requires g c = c.loop-turn.invariant.seated

pub unreachable-requires : goal.unreachable-requires
unreachable-requires g c =
    let f = subst (λ (x : Front g.row.W-Rows.Denot). IsNext c.loop-turn.active c.take_next.new.self x) c.in-Ok-Nothing.field-0-is c.in-Ok-Nothing.ensures in
    let lt : c.loop-turn.turn < length c.args.active.now.turns.items = omega (arith, c.loop-turn-test.true, c.len-turns.ensures, c.args.active.now.turns.ok) in
    over_some g.W.SplitWork.split g.W.SplitWork.comes g.W.SplitWork.items c.args.active.now c.loop-turn.active c.args.chunks.now.items c.loop-turn.chunks.items c.args.left.now c.loop-turn.left c.loop-turn.why c.loop-turn.turn c.loop-turn.invariant lt f.0

pub unreachable-unreachable : goal.unreachable-unreachable
unreachable-unreachable g c =
    let f = subst (λ (x : Front g.row.W-Rows.Denot). IsNext c.loop-turn.active c.take_next.new.self x) c.in-Ok-Nothing.field-0-is c.in-Ok-Nothing.ensures in
    let lt : c.loop-turn.turn < length c.args.active.now.turns.items = omega (arith, c.loop-turn-test.true, c.len-turns.ensures, c.args.active.now.turns.ok) in
    over_some g.W.SplitWork.split g.W.SplitWork.comes g.W.SplitWork.items c.args.active.now c.loop-turn.active c.args.chunks.now.items c.loop-turn.chunks.items c.args.left.now c.loop-turn.left c.loop-turn.why c.loop-turn.turn c.loop-turn.invariant lt f.0

pub returns-in-Ok-Full-clause-seated : goal.returns-in-Ok-Full-clause-seated
returns-in-Ok-Full-clause-seated g c =
    let f = subst (λ (x : Front g.row.W-Rows.Denot). IsNext c.loop-turn.active c.take_next.new.self x) c.in-Ok-Rows.field-0-is c.in-Ok-Rows.ensures in
    f.seated

pub returns-in-Ok-Full-clause-gives : goal.returns-in-Ok-Full-clause-gives
returns-in-Ok-Full-clause-gives g c is = absurd cc

pub returns-in-Ok-Full-clause-delivered : goal.returns-in-Ok-Full-clause-delivered
returns-in-Ok-Full-clause-delivered g c =
    let f = subst (λ (x : Front g.row.W-Rows.Denot). IsNext c.loop-turn.active c.take_next.new.self x) c.in-Ok-Rows.field-0-is c.in-Ok-Rows.ensures in
    let given = subst (λ (d : Delivered). Gives g.W.SplitWork.items c.in-Ok-Rows.file (g.W.SplitWork.items c.in-Ok-Rows.rows) c.loop-turn.chunks.items c.give.new.chunks.items c.loop-turn.left c.give.new.left d) c.in-Ok-Full.field-0-is c.in-Ok-Full.ensures.gives in
    over_cut g.W.SplitWork.split g.W.SplitWork.comes g.W.SplitWork.items c.in-Ok-Rows.file c.in-Ok-Rows.rows c.args.active.now c.loop-turn.active c.take_next.new.self c.args.chunks.now.items
    c.loop-turn.chunks.items c.give.new.chunks.items c.args.left.now c.loop-turn.left c.loop-turn.why c.loop-turn.turn c.loop-turn.invariant f given

pub returns-in-Ok-Full-clause-reads : goal.returns-in-Ok-Full-clause-reads
returns-in-Ok-Full-clause-reads g c un is = absurd cc

pub loop-turn-preserved : goal.loop-turn-preserved
loop-turn-preserved g c =
    let f = subst (λ (x : Front g.row.W-Rows.Denot). IsNext c.loop-turn.active c.take_next.new.self x) c.in-Ok-Rows.field-0-is c.in-Ok-Rows.ensures in
    let lt : c.loop-turn.turn < length c.args.active.now.turns.items = omega (arith, c.loop-turn-test.true, c.len-turns.ensures, c.args.active.now.turns.ok) in
    let given = subst (λ (d : Delivered). Gives g.W.SplitWork.items c.in-Ok-Rows.file (g.W.SplitWork.items c.in-Ok-Rows.rows) c.loop-turn.chunks.items c.give.new.chunks.items c.loop-turn.left c.give.new.left d) c.in-Ok-More.field-0-is c.in-Ok-More.ensures.gives in
    over_rows g.W.SplitWork.split g.W.SplitWork.comes g.W.SplitWork.items c.in-Ok-Rows.file c.in-Ok-Rows.rows c.args.active.now c.loop-turn.active c.take_next.new.self c.args.chunks.now.items
    c.loop-turn.chunks.items c.give.new.chunks.items c.args.left.now c.loop-turn.left c.give.new.left c.loop-turn.why c.loop-turn.turn c.loop-turn.invariant lt f given c.in-Ok-More.ensures.some
    c.in-Ok-More.ensures.file

pub loop-turn-preserved-in-Ok-Waits : goal.loop-turn-preserved-in-Ok-Waits
loop-turn-preserved-in-Ok-Waits g c =
    let f = subst (λ (x : Front g.row.W-Rows.Denot). IsNext c.loop-turn.active c.take_next.new.self x) c.in-Ok-Waits.field-0-is c.in-Ok-Waits.ensures in
    let lt : c.loop-turn.turn < length c.args.active.now.turns.items = omega (arith, c.loop-turn-test.true, c.len-turns.ensures, c.args.active.now.turns.ok) in
    over_waits g.W.SplitWork.split g.W.SplitWork.comes g.W.SplitWork.items c.args.active.now c.loop-turn.active c.take_next.new.self c.args.chunks.now.items c.loop-turn.chunks.items c.args.left.now c.loop-turn.left c.loop-turn.why c.loop-turn.turn c.loop-turn.invariant lt f

pub loop-turn-preserved-in-Ok-Halted : goal.loop-turn-preserved-in-Ok-Halted
loop-turn-preserved-in-Ok-Halted g c =
    let f = subst (λ (x : Front g.row.W-Rows.Denot). IsNext c.loop-turn.active c.take_next.new.self x) c.in-Ok-Halted.field-0-is c.in-Ok-Halted.ensures in
    let lt : c.loop-turn.turn < length c.args.active.now.turns.items = omega (arith, c.loop-turn-test.true, c.len-turns.ensures, c.args.active.now.turns.ok) in
    let is = c.first_fault-why.ensures ∙ ap (λ (e : DriveFault). Some (unwrap_or c.loop-turn.why e)) c.held.ensures in
    over_halted g.W.SplitWork.split g.W.SplitWork.comes g.W.SplitWork.items c.in-Ok-Halted.file c.in-Ok-Halted.halt c.args.active.now c.loop-turn.active c.take_next.new.self c.args.chunks.now.items
    c.loop-turn.chunks.items c.args.left.now c.loop-turn.left c.loop-turn.why c.first_fault-why.result c.loop-turn.turn c.loop-turn.invariant lt f is

pub returns-in-Some-clause-cause : goal.returns-in-Some-clause-cause
returns-in-Some-clause-cause g c tale ok = subst (λ o. IfSome o (IsCause tale)) c.in-Some.is (c.loop-turn.invariant.cause tale ok)

pub returns-in-Some-clause-stops : goal.returns-in-Some-clause-stops
returns-in-Some-clause-stops g c = subst (λ o. IfSome o (StopsOver c.args.active.now.slots.items)) c.in-Some.is c.loop-turn.invariant.stops

pub returns-in-None-clause-seated : goal.returns-in-None-clause-seated
returns-in-None-clause-seated g c = c.loop-turn.invariant.seated

pub returns-in-None-clause-gives : goal.returns-in-None-clause-gives
returns-in-None-clause-gives g c is =
    let le : length c.args.active.now.turns.items ≤ c.loop-turn.turn = omega (arith, c.loop-turn-test.false, c.len-turns.ensures, c.args.active.now.turns.ok) in (
      over_gives g.W.SplitWork.split g.W.SplitWork.comes g.W.SplitWork.items c.args.active.now c.loop-turn.active c.args.chunks.now.items c.loop-turn.chunks.items c.args.left.now c.loop-turn.left c.loop-turn.why
          c.loop-turn.turn c.loop-turn.invariant le,
      over_wait g.W.SplitWork.split g.W.SplitWork.comes g.W.SplitWork.items c.args.active.now c.loop-turn.active c.args.chunks.now.items c.loop-turn.chunks.items
          c.args.left.now c.loop-turn.left c.loop-turn.why c.loop-turn.turn c.loop-turn.invariant le c.in-None.is,
    )

pub returns-in-None-clause-delivered : goal.returns-in-None-clause-delivered
returns-in-None-clause-delivered g c =
    let le : length c.args.active.now.turns.items ≤ c.loop-turn.turn = omega (arith, c.loop-turn-test.false, c.len-turns.ensures, c.args.active.now.turns.ok) in
    over_more g.W.SplitWork.split g.W.SplitWork.comes g.W.SplitWork.items c.args.active.now c.loop-turn.active c.args.chunks.now.items c.loop-turn.chunks.items c.args.left.now c.loop-turn.left c.loop-turn.why c.loop-turn.turn c.loop-turn.invariant le

pub returns-in-None-clause-reads : goal.returns-in-None-clause-reads
returns-in-None-clause-reads g c un is =
    let le : length c.args.active.now.turns.items ≤ c.loop-turn.turn = omega (arith, c.loop-turn-test.false, c.len-turns.ensures, c.args.active.now.turns.ok) in
    over_reads g.W.SplitWork.split g.W.SplitWork.comes g.W.SplitWork.items c.args.active.now c.loop-turn.active c.args.chunks.now.items c.loop-turn.chunks.items c.args.left.now c.loop-turn.left c.loop-turn.why c.loop-turn.turn c.loop-turn.invariant le

pub returns-in-Ok-Full-clause-keeps : goal.returns-in-Ok-Full-clause-keeps
returns-in-Ok-Full-clause-keeps g c =
    let f = subst (λ (x : Front g.row.W-Rows.Denot). IsNext c.loop-turn.active c.take_next.new.self x) c.in-Ok-Rows.field-0-is c.in-Ok-Rows.ensures in
    let inv = c.loop-turn.invariant in
    let e = c.in-Ok-Full.ensures in
    record {
      ok = λ tale ok. front_ok g.W.SplitWork.split g.W.SplitWork.comes g.W.SplitWork.items tale c.in-Ok-Rows.file c.in-Ok-Rows.rows c.loop-turn.active c.take_next.new.self inv.seated f (inv.ok tale ok);
      rows = λ h. e.some (inv.some h);
      files = files_rows c.in-Ok-Rows.file c.in-Ok-Rows.rows c.args.active.now.slots.items c.loop-turn.active c.take_next.new.self c.args.chunks.now.items c.loop-turn.chunks.items c.give.new.chunks.items inv.at f inv.files e.file;
    }

pub returns-in-None-clause-keeps : goal.returns-in-None-clause-keeps
returns-in-None-clause-keeps g c =
    let inv = c.loop-turn.invariant in
    record { ok = inv.ok; rows = inv.some; files = inv.files }

pub has_rows-requires : goal.has_rows-requires
has_rows-requires g c = c.loop-turn.invariant.seated

pub returns-then-has_rows-clause-seated : goal.returns-then-has_rows-clause-seated
returns-then-has_rows-clause-seated g c =
    let split = g.W.SplitWork.split in
    let comes = g.W.SplitWork.comes in
    let items = g.W.SplitWork.items in
    let old : Active g.row.W.Denot g.row.W-Rows.Denot = c.args.active.now in
    let mid : Active g.row.W.Denot g.row.W-Rows.Denot = c.loop-turn.active in
    let new : Active g.row.W.Denot g.row.W-Rows.Denot = c.hold.new.active in
    let before = c.args.chunks.now.items in
    let chunks = c.loop-turn.chunks.items in
    let left = c.args.left.now in
    let here = c.loop-turn.left in
    let why = c.loop-turn.why in
    let i = c.loop-turn.turn in
    let s = c.loop-turn.invariant in
    let lt : i < length old.turns.items = omega (arith, c.loop-turn-test.true, c.len-turns.ensures, old.turns.ok) in
    let le : length old.turns.items ≤ i + 1 = omega (arith, c.is_held.ensures.last c.if-is_held.true, c.len-turns.ensures, old.turns.ok) in
    let Held : Delivered → Type 0 = λ d. (d ≡ delivered.More) × (why ≡ None) × Rotates mid new in
    ok_on c.hold.result Held (Seated new) (λ d p. held_seated split comes items old mid new before chunks left here why i s lt le p.2) c.hold.ensures.waits

pub returns-then-has_rows-clause-keeps : goal.returns-then-has_rows-clause-keeps
returns-then-has_rows-clause-keeps g c =
    let split = g.W.SplitWork.split in
    let comes = g.W.SplitWork.comes in
    let items = g.W.SplitWork.items in
    let old : Active g.row.W.Denot g.row.W-Rows.Denot = c.args.active.now in
    let mid : Active g.row.W.Denot g.row.W-Rows.Denot = c.loop-turn.active in
    let new : Active g.row.W.Denot g.row.W-Rows.Denot = c.hold.new.active in
    let before = c.args.chunks.now.items in
    let chunks = c.loop-turn.chunks.items in
    let left = c.args.left.now in
    let here = c.loop-turn.left in
    let why = c.loop-turn.why in
    let i = c.loop-turn.turn in
    let s = c.loop-turn.invariant in
    let lt : i < length old.turns.items = omega (arith, c.loop-turn-test.true, c.len-turns.ensures, old.turns.ok) in
    let le : length old.turns.items ≤ i + 1 = omega (arith, c.is_held.ensures.last c.if-is_held.true, c.len-turns.ensures, old.turns.ok) in
    let Held : Delivered → Type 0 = λ d. (d ≡ delivered.More) × (why ≡ None) × Rotates mid new in
    ok_on c.hold.result Held (GivesRows split comes items old new before chunks)
    (λ d p. record { ok = λ tale ok. held_ok split comes items old mid new before chunks left here why i s lt le p.2 tale ok; rows = s.some; files = s.files }) c.hold.ensures.waits

pub returns-then-has_rows-clause-gives : goal.returns-then-has_rows-clause-gives
returns-then-has_rows-clause-gives g c =
    let split = g.W.SplitWork.split in
    let comes = g.W.SplitWork.comes in
    let items = g.W.SplitWork.items in
    let old : Active g.row.W.Denot g.row.W-Rows.Denot = c.args.active.now in
    let mid : Active g.row.W.Denot g.row.W-Rows.Denot = c.loop-turn.active in
    let new : Active g.row.W.Denot g.row.W-Rows.Denot = c.hold.new.active in
    let before = c.args.chunks.now.items in
    let chunks = c.loop-turn.chunks.items in
    let left = c.args.left.now in
    let here = c.loop-turn.left in
    let why = c.loop-turn.why in
    let i = c.loop-turn.turn in
    let s = c.loop-turn.invariant in
    let lt : i < length old.turns.items = omega (arith, c.loop-turn-test.true, c.len-turns.ensures, old.turns.ok) in
    let le : length old.turns.items ≤ i + 1 = omega (arith, c.is_held.ensures.last c.if-is_held.true, c.len-turns.ensures, old.turns.ok) in
    let Held : Delivered → Type 0 = λ d. (d ≡ delivered.More) × (why ≡ None) × Rotates mid new in
    let some : 1 < length mid.turns.items = omega (arith, c.is_held.ensures.others c.if-is_held.true, c.len.ensures, mid.turns.ok) in
    ok_under c.hold.result Held (λ d. d ≡ delivered.More → GivesOn split old new × TurnsWait new)
    (λ d p is. (held_gives split comes items old mid new before chunks left here why i s lt le p.2, held_wait split comes items old mid new before chunks left here why i s lt le p.2 some p.1)) c.hold.ensures.waits

pub returns-then-has_rows-clause-delivered : goal.returns-then-has_rows-clause-delivered
returns-then-has_rows-clause-delivered g c =
    let split = g.W.SplitWork.split in
    let comes = g.W.SplitWork.comes in
    let items = g.W.SplitWork.items in
    let old : Active g.row.W.Denot g.row.W-Rows.Denot = c.args.active.now in
    let mid : Active g.row.W.Denot g.row.W-Rows.Denot = c.loop-turn.active in
    let new : Active g.row.W.Denot g.row.W-Rows.Denot = c.hold.new.active in
    let before = c.args.chunks.now.items in
    let chunks = c.loop-turn.chunks.items in
    let left = c.args.left.now in
    let here = c.loop-turn.left in
    let why = c.loop-turn.why in
    let i = c.loop-turn.turn in
    let s = c.loop-turn.invariant in
    let lt : i < length old.turns.items = omega (arith, c.loop-turn-test.true, c.len-turns.ensures, old.turns.ok) in
    let le : length old.turns.items ≤ i + 1 = omega (arith, c.is_held.ensures.last c.if-is_held.true, c.len-turns.ensures, old.turns.ok) in
    let Held : Delivered → Type 0 = λ d. (d ≡ delivered.More) × (why ≡ None) × Rotates mid new in
    ok_under c.hold.result Held (λ d. IsDelivered split comes items false old new before chunks left here d)
    (λ d p. subst (λ x. IsDelivered split comes items false old new before chunks left here x) (sym p.0) (held_more split comes items old mid new before chunks left here why i s lt le p.2)) c.hold.ensures.waits

pub returns-then-has_rows-clause-cause : goal.returns-then-has_rows-clause-cause
returns-then-has_rows-clause-cause g c =
    let why = c.loop-turn.why in
    err_under c.hold.result (λ e. (e ≡ faults.NoMemory) ⊎ (why ≡ Some e)) (λ e. (tale : List (Told Item)) → AllOk g.W.SplitWork.split g.W.SplitWork.comes g.W.SplitWork.items tale c.args.active.now → IsCause tale e)
    (λ e p tale ok. held_cause tale why e (c.loop-turn.invariant.cause tale ok) p) c.hold.ensures.fault

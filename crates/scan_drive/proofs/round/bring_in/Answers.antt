use Rattle.std.proofs.Common.{◌≡◌, ◌∙◌, List, length, sym, subst, refl, arith}
use Rattle.std.proofs.lemmas.List.{length-map}
use Rattle.scan_drive.specs.Ends.{limit_in}
use Rattle.scan_drive.specs.Handed.{with_taken}
use Rattle.scan_drive.specs.Moves.{tell, tells}
use Rattle.scan_drive.specs.declared.phase.Phase.{Phase}
use Rattle.scan_drive.specs.declared.round.Drive.{Drive}
use Rattle.scan_drive.specs.declared.files.ScanFile.{ScanFile}
use Rattle.scan_drive.proofs.Halting.{halts_seats}
use Rattle.scan_drive.proofs.Lasting.{brought, stands_new, sound_new, why_after}
use Rattle.scan_drive.proofs.Outgone.{stands_taken}
use Rattle.scan_drive.proofs.Standing.{linked_seated}
use Rattle.scan_drive.proofs.Tracking.{stand_phases, late_polled}
use Rattle.scan_drive.proofs.Tracing.{brought_grounds}
use Rattle.scan_drive.proofs.Windows.{gives_in_window}
use Rattle.scan_drive.proofs.round.bring_in.Goals as goal

pub window_end-last-requires : goal.window_end-last-requires
window_end-last-requires g c = (c.args.drive.now.active.free.items, c.requires.stands.ready.seated)

pub activate-requires-clause-below : goal.activate-requires-clause-below
activate-requires-clause-below g c κs lives k lt =
    subst (λ (p : Phase g.row.W.Denot g.row.F.Denot). Rattle.scan_drive.specs.Phases.IsSpent p) (sym (c.open_files.ensures.below k lt)) (c.requires.stands.below k lt)

pub activate-requires-clause-seated : goal.activate-requires-clause-seated
activate-requires-clause-seated g c κs lives = c.requires.stands.ready.seated

pub open_files-requires-clause-below : goal.open_files-requires-clause-below
open_files-requires-clause-below g c κs lives = c.requires.stands.below

pub returns-clause-brings : goal.returns-clause-brings
returns-clause-brings g c ts =
    let state = g.X.SplitOpener.state c.args.context.now in
    let polls = g.X.SplitOpener.polls in
    let source = g.S.SegmentSource.state in
    let split = g.W.SplitWork.split in
    let comes = g.W.SplitWork.comes in
    let items = g.W.SplitWork.items in
    let files : List (ScanFile g.row.O.Denot g.row.S.Denot) = c.args.files.now.items in
    let files1 : List (ScanFile g.row.O.Denot g.row.S.Denot) = c.open_files.new.files.items in
    let mid : List (Phase g.row.W.Denot g.row.F.Denot) = c.open_files.new.phases.items in
    let old : Drive g.row.W.Denot g.row.W-Rows.Denot g.row.F.Denot = with_taken ts c.args.drive.now in
    let new : Drive g.row.W.Denot g.row.W-Rows.Denot g.row.F.Denot = record old { phases = c.activate.new.phases; active = c.activate.new.active; tally = c.activate.new.tally; first = c.in_ok-drive.field-0; unclaimed = c.activate.new.unclaimed } in
    let stands = stands_taken ts (length files) c.args.drive.now c.requires.stands in
    let all = c.open_files.ensures in
    let o = c.in_ok-opened.ensures.opens in
    let a = c.in_ok-drive.ensures in
    let tale = tells state source files in
    let n : length tale ≡ length mid = length-map files (tell state source) ∙ sym stands.lens ∙ sym all.len in
    record {
      stands = stands_new split (length files) old new mid stands all.len a.len a.below a.seated a.goes.seats refl refl refl;
      links = λ desks l. linked_seated (length mid) desks old.active.slots.items new.active.slots.items a.goes.seats.at l;
      halts = halts_seats split old.first new.first old.active new.active mid new.phases.items a.goes.seats;
      sound = λ s. sound_new split comes items tale old new mid all.len n (o.ok s.phases) o.left refl refl (a.goes.left tale n) (a.goes.ok tale n) (a.goes.counted tale n) s;
      why = why_after state polls (g.X.SplitOpener.refuses c.args.context.now) files files1 old.phases.items mid new.phases.items o.why a.goes.held;
      grounds = λ cache first before h.
          (let m : length (tells state source first) ≡ length mid = length-map first (tell state source) ∙ sym h.moves.len ∙ sym stands.lens ∙ sym all.len in
          brought_grounds state polls (g.X.SplitOpener.admits c.args.context.now) source first before files files1 cache old new mid all.keeps.moves all.keeps.sources o.splits stands.lens all.len o.rows
          (λ r t. a.goes.fills.rows (tells state source first) m r t) a.goes.fills refl h);
      opened = (let x = a.opened in let y = o.opened in omega (arith, x, y));
      steps = λ is. brought state polls source split c.args.workers c.room_for-room.result c.window_end-last.result files files1 old new mid c.room_for-room.ensures all.keeps.moves (o.same is) stands.lens (o.waits is)
          (λ none lt. c.window_end-last.ensures.some none (omega (arith, lt, c.len.ensures)) c.requires.workers) a.goes.seats a.stuck;
      order = λ h. a.goes.seats.order 0 h;
      polled = λ start h. stand_phases state start files1 mid new.phases.items a.goes.seats.shut (o.polled start h);
    }

pub returns-clause-polls : goal.returns-clause-polls
returns-clause-polls g c ts = record {
  grows = c.open_files.ensures.keeps.grows;
  fit = c.open_files.ensures.keeps.fit;
  late = λ h start l.
      (let d : Drive g.row.W.Denot g.row.W-Rows.Denot g.row.F.Denot = with_taken ts c.args.drive.now in
      let tale = tells (g.X.SplitOpener.state c.args.context.now) g.S.SegmentSource.state c.args.files.now.items in
      late_polled (g.X.SplitOpener.state c.args.context.now) g.W.SplitWork.items d.ordered c.args.workers d.first c.window_end-last.result (limit_in g.W.SplitWork.split g.W.SplitWork.comes g.W.SplitWork.items d) tale start c.args.files.now.items c.open_files.new.files.items
      c.open_files.ensures.keeps.others (gives_in_window g.W.SplitWork.split g.W.SplitWork.comes g.W.SplitWork.items c.args.workers c.window_end-last.result tale d h.0 h.1 h.2 c.requires.stands.below c.requires.stands.room
      (let n = length-map c.args.files.now.items (tell (g.X.SplitOpener.state c.args.context.now) g.S.SegmentSource.state) in let f = c.requires.stands.first in omega (arith, n, f)) c.window_end-last.ensures.window) l);
}

pub returns-in_err-opened-clause-polls : goal.returns-in_err-opened-clause-polls
returns-in_err-opened-clause-polls g c ts = record {
  grows = c.open_files.ensures.keeps.grows;
  fit = c.open_files.ensures.keeps.fit;
  late = λ h start l.
      (let d : Drive g.row.W.Denot g.row.W-Rows.Denot g.row.F.Denot = with_taken ts c.args.drive.now in
      let tale = tells (g.X.SplitOpener.state c.args.context.now) g.S.SegmentSource.state c.args.files.now.items in
      late_polled (g.X.SplitOpener.state c.args.context.now) g.W.SplitWork.items d.ordered c.args.workers d.first c.window_end-last.result (limit_in g.W.SplitWork.split g.W.SplitWork.comes g.W.SplitWork.items d) tale start c.args.files.now.items c.open_files.new.files.items
      c.open_files.ensures.keeps.others (gives_in_window g.W.SplitWork.split g.W.SplitWork.comes g.W.SplitWork.items c.args.workers c.window_end-last.result tale d h.0 h.1 h.2 c.requires.stands.below c.requires.stands.room
      (let n = length-map c.args.files.now.items (tell (g.X.SplitOpener.state c.args.context.now) g.S.SegmentSource.state) in let f = c.requires.stands.first in omega (arith, n, f)) c.window_end-last.ensures.window) l);
}

pub returns-in_err-drive-clause-polls : goal.returns-in_err-drive-clause-polls
returns-in_err-drive-clause-polls g c ts = record {
  grows = c.open_files.ensures.keeps.grows;
  fit = c.open_files.ensures.keeps.fit;
  late = λ h start l.
      (let d : Drive g.row.W.Denot g.row.W-Rows.Denot g.row.F.Denot = with_taken ts c.args.drive.now in
      let tale = tells (g.X.SplitOpener.state c.args.context.now) g.S.SegmentSource.state c.args.files.now.items in
      late_polled (g.X.SplitOpener.state c.args.context.now) g.W.SplitWork.items d.ordered c.args.workers d.first c.window_end-last.result (limit_in g.W.SplitWork.split g.W.SplitWork.comes g.W.SplitWork.items d) tale start c.args.files.now.items c.open_files.new.files.items
      c.open_files.ensures.keeps.others (gives_in_window g.W.SplitWork.split g.W.SplitWork.comes g.W.SplitWork.items c.args.workers c.window_end-last.result tale d h.0 h.1 h.2 c.requires.stands.below c.requires.stands.room
      (let n = length-map c.args.files.now.items (tell (g.X.SplitOpener.state c.args.context.now) g.S.SegmentSource.state) in let f = c.requires.stands.first in omega (arith, n, f)) c.window_end-last.ensures.window) l);
}

pub returns-clause-moves : goal.returns-clause-moves
returns-clause-moves g c = c.open_files.ensures.keeps.moves

pub returns-clause-sources : goal.returns-clause-sources
returns-clause-sources g c = c.open_files.ensures.keeps.sources

pub returns-in_err-opened-clause-moves : goal.returns-in_err-opened-clause-moves
returns-in_err-opened-clause-moves g c = c.open_files.ensures.keeps.moves

pub returns-in_err-opened-clause-sources : goal.returns-in_err-opened-clause-sources
returns-in_err-opened-clause-sources g c = c.open_files.ensures.keeps.sources

pub returns-in_err-drive-clause-moves : goal.returns-in_err-drive-clause-moves
returns-in_err-drive-clause-moves g c = c.open_files.ensures.keeps.moves

pub returns-in_err-drive-clause-sources : goal.returns-in_err-drive-clause-sources
returns-in_err-drive-clause-sources g c = c.open_files.ensures.keeps.sources

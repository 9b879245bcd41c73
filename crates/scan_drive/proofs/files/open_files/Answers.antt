use Rattle.std.proofs.Common.{inl, ◌∙◌, ◌<◌, ◌+◌, set, ◌≡◌, ◌≢◌, arith, length, length-set, refl, get_or-set_other, List}
use Rattle.std.proofs.lemmas.List.{get_or_default}
use Rattle.scan_drive.specs.Moves.{IsNamed, tell, tells, FileMoves}
use Rattle.scan_drive.specs.Openers.{as_number}
use Rattle.scan_drive.specs.declared.files.ScanFile.{ScanFile}
use Rattle.scan_drive.specs.declared.phase.Phase.{Phase}
use Rattle.scan_drive.specs.declared.phase.Phase.TheVariants as phases
use Rattle.scan_drive.proofs.Admitting.{opens_none, opens_set, rows_set}
use Rattle.scan_drive.proofs.Asking.{moves_self}
use Rattle.scan_drive.proofs.Moving.{moves_none, moves_set, sources_set, told_now, unopened_set_by, rest_set, phases_set_one, why_set, wait_set}
use Rattle.scan_drive.proofs.Resting.{set_again}
use Rattle.scan_drive.proofs.Tracking.{stand_fit, polled_below, fit_set, grows_set, polled_set, stand_set, rest_set as still_set, rest_done}
use Rattle.scan_drive.proofs.files.open_files.Goals as goal

pub loop-i-init : goal.loop-i-init
loop-i-init g c = record {
  len = refl;
  moves = moves_none (g.X.SplitOpener.state c.args.context.now) g.X.SplitOpener.polls g.S.SegmentSource.state (Unit {0}) c.args.files.now.items;
  sources = λ k f. refl;
  opened = omega arith;
  same = λ e. refl;
  waits = λ e k from to is f. absurd (omega arith);
  why = λ k f is. inl is;
  splits = opens_none (g.X.SplitOpener.state c.args.context.now) g.X.SplitOpener.polls (g.X.SplitOpener.admits c.args.context.now) c.args.files.now.items c.args.phases.now.items;
  rows = λ h. h;
  below = λ k lt. refl;
  left = λ all k. refl;
  ok = λ h. h;
  within = λ k from past. from;
  rest = λ k f h. refl;
  grows = λ k f. omega arith;
  polled = λ start h. (h, polled_below (g.X.SplitOpener.state c.args.context.now) start c.args.files.now.items c.args.phases.now.items c.args.first h c.requires.below);
}

pub loop-i-preserved : goal.loop-i-preserved
loop-i-preserved g c =
    let state = g.X.SplitOpener.state c.args.context.now in
    let polls = g.X.SplitOpener.polls in
    let refuses = g.X.SplitOpener.refuses c.args.context.now in
    let source = g.S.SegmentSource.state in
    let inv = c.loop-i.invariant in
    let i = c.loop-i.i in
    let old : List (ScanFile g.row.O.Denot g.row.S.Denot) = c.args.files.now.items in
    let now : List (ScanFile g.row.O.Denot g.row.S.Denot) = c.loop-i.files.items in
    let ps : List (Phase g.row.W.Denot g.row.F.Denot) = c.loop-i.phases.items in
    let x : ScanFile g.row.O.Denot g.row.S.Denot = c.index_mut-file.result.now in
    let y : ScanFile g.row.O.Denot g.row.S.Denot = record x { opener = c.open_file.new.opener } in
    let p : Phase g.row.W.Denot g.row.F.Denot = c.index_mut-phase.result.now in
    let q : Phase g.row.W.Denot g.row.F.Denot = c.open_file.new.phase in
    let n : length now ≡ length old = inv.moves.len in
    let lt : i < length now = omega (arith, n, c.requires.within) in
    let plt : i < length ps = omega (arith, n, inv.len, c.requires.within, c.requires.same) in
    let v = c.index_mut-file.ensures.value in
    let w = c.index_mut-phase.ensures.value in
    let moved : FileMoves state polls source (Unit {0}) x y = record { opens = c.open_file.ensures.opens; source_moves = moves_self (λ id. Unit {0} → IsNamed (tell state source x) id) (source x.source); name = refl } in
    let told = told_now state polls source (Unit {0}) old now i x inv.moves lt v in
    let tale : length (tells state source old) ≡ length old = Rattle.std.proofs.lemmas.List.length-map old (tell state source) in
    record {
      len = length-set ps i q ∙ inv.len;
      moves = moves_set state polls source (Unit {0}) old now i x y inv.moves lt v moved;
      sources = sources_set old now i x y inv.sources lt v refl;
      opened =
          let u = unopened_set_by ps i p q (as_number c.in_ok-opened.opened) plt w c.in_ok-opened.ensures.opened in
          let e = c.either-any.ensures.number in
          omega arith;
      same = λ is. (let both = c.either-any.ensures.none is in set_again ps i p q w (c.in_ok-opened.ensures.same both.1) ∙ inv.same both.0);
      waits = λ is. (let both = c.either-any.ensures.none is in
          wait_set state polls refuses source c.args.first i old now ps x y p q inv.moves lt v plt w (let u = c.in_ok-opened.ensures.opened in omega arith) (λ u. c.in_ok-opened.ensures.waits both.1 u) (inv.waits both.0));
      why = why_set state polls refuses source old now c.args.phases.now.items ps i x y p q inv.moves lt v plt w c.open_file.ensures.opens c.in_ok-opened.ensures.held inv.why;
      splits = opens_set state polls (g.X.SplitOpener.admits c.args.context.now) source old now c.args.phases.now.items ps i x y p q inv.moves lt v plt w c.open_file.ensures.opens c.in_ok-opened.ensures.splits inv.splits;
      rows = rows_set g.W.SplitWork.split g.W.SplitWork.comes (tells state source old) c.args.phases.now.items ps i p q (tell state source x) inv.rows plt w told c.in_ok-opened.ensures.keeps;
      below = λ k h. (let ne : k ≢ i = omega (arith, h, c.loop-i.auto.i) in get_or-set_other ps i k q phases.Unopened ne ∙ inv.below k h);
      left = rest_set g.W.SplitWork.split g.W.SplitWork.comes (tells state source old) c.args.phases.now.items ps i p q (tell state source x) inv.left (omega (arith, tale, inv.len, c.requires.same)) plt w told c.in_ok-opened.ensures.keeps;
      ok = phases_set_one g.W.SplitWork.split g.W.SplitWork.comes (tells state source old) c.args.phases.now.items ps i p q (tell state source x) inv.ok plt w told c.in_ok-opened.ensures.keeps;
      within = λ k from past. omega (arith, past);
      rest = still_set c.args.first i old now y c.loop-i.auto.i inv.rest;
      grows = grows_set state old now i x y p lt v c.open_file.ensures.once inv.grows;
      polled = λ start h. (let s = inv.polled start h in (
        stand_set state start now ps i x y p q lt v plt w c.open_file.ensures.once s.0 c.in_ok-opened.opened s.1 c.in_ok-opened.ensures.opened c.in_ok-opened.ensures.waits,
        polled_set state start now ps i x y p q lt v plt w c.open_file.ensures.once s.0 s.1,
      ));
    }

pub returns-in_err-opened-clause-keeps : goal.returns-in_err-opened-clause-keeps
returns-in_err-opened-clause-keeps g c =
    let state = g.X.SplitOpener.state c.args.context.now in
    let polls = g.X.SplitOpener.polls in
    let source = g.S.SegmentSource.state in
    let inv = c.loop-i.invariant in
    let i = c.loop-i.i in
    let old : List (ScanFile g.row.O.Denot g.row.S.Denot) = c.args.files.now.items in
    let now : List (ScanFile g.row.O.Denot g.row.S.Denot) = c.loop-i.files.items in
    let ps : List (Phase g.row.W.Denot g.row.F.Denot) = c.loop-i.phases.items in
    let x : ScanFile g.row.O.Denot g.row.S.Denot = c.index_mut-file.result.now in
    let y : ScanFile g.row.O.Denot g.row.S.Denot = record x { opener = c.open_file.new.opener } in
    let p : Phase g.row.W.Denot g.row.F.Denot = c.index_mut-phase.result.now in
    let q : Phase g.row.W.Denot g.row.F.Denot = c.open_file.new.phase in
    let v = c.index_mut-file.ensures.value in
    let once = c.open_file.ensures.once in
    let n : length now ≡ length old = inv.moves.len in
    let lt : i < length now = omega (arith, n, c.requires.within) in
    let plt : i < length ps = omega (arith, n, inv.len, c.requires.within, c.requires.same) in
    record {
      moves = moves_set state polls source (Unit {0}) old now i x y inv.moves lt v (record { opens = c.open_file.ensures.opens; source_moves = moves_self (λ id. Unit {0} → IsNamed (tell state source x) id) (source x.source); name = refl });
      sources = sources_set old now i x y inv.sources lt v refl;
      others = rest_done c.args.first (i + 1) c.args.last old (set now i y) (λ k from past. omega (arith, past)) (still_set c.args.first i old now y c.loop-i.auto.i inv.rest);
      grows = grows_set state old now i x y p lt v once inv.grows;
      fit = λ start h. (let s = inv.polled start h in fit_set state start now ps i x y p q lt v plt c.index_mut-phase.ensures.value once s.0 s.1);
    }

pub returns-clause-keeps : goal.returns-clause-keeps
returns-clause-keeps g c =
    let inv = c.loop-i.invariant in
    record {
      moves = inv.moves;
      sources = inv.sources;
      others = rest_done c.args.first c.loop-i.i c.args.last c.args.files.now.items c.loop-i.files.items inv.within inv.rest;
      grows = inv.grows;
      fit = λ start h. stand_fit (g.X.SplitOpener.state c.args.context.now) start c.loop-i.files.items c.loop-i.phases.items (inv.polled start h).0;
    }

pub returns-clause-opens : goal.returns-clause-opens
returns-clause-opens g c =
    let inv = c.loop-i.invariant in
    record {
      opened = inv.opened;
      same = inv.same;
      waits = λ e k from to. inv.waits e k from (omega (arith, to, c.loop-i-test.false));
      left = inv.left;
      ok = inv.ok;
      why = inv.why;
      polled = λ start h. (inv.polled start h).0;
      splits = inv.splits;
      rows = inv.rows;
    }

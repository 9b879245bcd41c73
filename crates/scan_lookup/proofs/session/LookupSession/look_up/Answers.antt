use Rattle.std.proofs.Common.{List, ap, subst}
use Rattle.std.specs.Prelude.{IfErr, IfOk}
use Rattle.scan_drive.specs.declared.files.ScanFile.{ScanFile}
use Rattle.scan_lookup.specs.Lookups.{IsLookupRefusedFor, IsReply, LookupMoves}
use Rattle.scan_lookup.specs.Session.{SessionData}
use Rattle.scan_lookup.proofs.session.LookupSession.look_up.Goals as goal

pub look-requires-clause-parts : goal.look-requires-clause-parts
look-requires-clause-parts g c = c.self.invariant.parts

pub look-requires-clause-even : goal.look-requires-clause-even
look-requires-clause-even g c = c.self.invariant.even

pub look-requires-clause-kept : goal.look-requires-clause-kept
look-requires-clause-kept g c = c.self.invariant.are_kept

pub look-requires-clause-idle : goal.look-requires-clause-idle
look-requires-clause-idle g c = c.self.invariant.idle

pub invariant_of-self : goal.invariant_of-self
invariant_of-self g c = record { parts = c.self.invariant.parts; even = c.look.ensures.even; are_kept = c.look.ensures.kept; idle = c.look.ensures.moves.idle }

pub returns-clause-projection : goal.returns-clause-projection
returns-clause-projection g c = ap (λ (s : SessionData g.row.O.Denot g.row.S.Denot g.row.C.Denot). s.projection) c.self.view_is

pub returns-clause-ok : goal.returns-clause-ok
returns-clause-ok g c =
    let opener = g.O.LayoutReaderFactory.opener in
    let source = g.S.SegmentSource.state in
    let cache = g.C.KeyedSegmentCache.cache in
    let new : List (ScanFile g.row.O.Denot g.row.S.Denot) = c.look.new.files.items in
    let d = cache c.look.new.cache in
    subst (λ (s : SessionData g.row.O.Denot g.row.S.Denot g.row.C.Denot). IfOk c.look.result (IsReply opener source s.projection c.args.places.now s.files new (cache s.cache) d)) c.self.view_is c.look.ensures.ok

pub returns-clause-open : goal.returns-clause-open
returns-clause-open g c = c.look.ensures.open

pub returns-clause-err : goal.returns-clause-err
returns-clause-err g c =
    let opener = g.O.LayoutReaderFactory.opener in
    let source = g.S.SegmentSource.state in
    let cache = g.C.KeyedSegmentCache.cache in
    let new : List (ScanFile g.row.O.Denot g.row.S.Denot) = c.look.new.files.items in
    let d = cache c.look.new.cache in
    subst (λ (s : SessionData g.row.O.Denot g.row.S.Denot g.row.C.Denot). IfErr c.look.result (IsLookupRefusedFor opener source s.projection c.args.places.now s.files new (cache s.cache) d)) c.self.view_is c.look.ensures.err

pub returns-clause-moves : goal.returns-clause-moves
returns-clause-moves g c =
    let opener = g.O.LayoutReaderFactory.opener in
    let source = g.S.SegmentSource.state in
    let cache = g.C.KeyedSegmentCache.cache in
    let new : List (ScanFile g.row.O.Denot g.row.S.Denot) = c.look.new.files.items in
    let d = cache c.look.new.cache in
    subst (λ (s : SessionData g.row.O.Denot g.row.S.Denot g.row.C.Denot). LookupMoves opener source s.projection c.args.places.now s.files new s.kept c.look.new.kept.items (cache s.cache) d) c.self.view_is c.look.ensures.moves

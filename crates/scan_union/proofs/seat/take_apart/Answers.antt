use Rattle.std.proofs.Common.{rules, ◌≡◌, ◌++◌, [], ◌∷◌, All, List, length, arith, ap, ◌∙◌}
use Rattle.std.specs.Vec.Iter.{into_iter_items}
use Rattle.scan_drive.specs.declared.files.ScanFile.{ScanFile}
use Rattle.scan_segments.specs.Source.{none_live}
use Rattle.scan_widen.specs.Parts.{IsReadable}
use Rattle.scan_union.specs.Seats.{make_file, rest_of}
use Rattle.scan_union.specs.declared.seat.Seat.{Seat}
use Rattle.scan_union.proofs.Parting.{head_of, tail_of, even_tails, rests_step, made_step}
use Rattle.scan_union.proofs.seat.take_apart.Goals as goal

pub new-requires-clause-readable : goal.new-requires-clause-readable
new-requires-clause-readable g c =
    head_of (λ (s : Seat). All IsReadable (s.segments).items) (into_iter_items c.loop-file.file-iterator.b) (into_iter_items c.next.new.self.b) c.in-Some.seat (c.in-Some.ensures.steps.1).0 c.loop-file.invariant.readable

pub loop-file-preserved : goal.loop-file-preserved
loop-file-preserved g c =
    let inv = c.loop-file.invariant in
    let steps = c.in-Some.ensures.steps in
    let f : ScanFile g.row.O.Denot g.row.S.Denot = c.in-Some.file in
    let s : Seat = c.in-Some.seat in
    let xs : List (ScanFile g.row.O.Denot g.row.S.Denot) = into_iter_items c.loop-file.file-iterator.a in
    let ys : List (ScanFile g.row.O.Denot g.row.S.Denot) = into_iter_items c.next.new.self.a in
    let ss : List Seat = into_iter_items c.loop-file.file-iterator.b in
    let ts : List Seat = into_iter_items c.next.new.self.b in
    let kept : c.push_reserved.new.self.items ≡ c.loop-file.rests.items ++ rest_of f ∷ [] = search (rules, c.push_reserved.ensures.items) in
    let made : c.push_reserved-in-loop-file.new.self.items ≡ c.loop-file.made.items ++ make_file g.S.SegmentSource.state f s ∷ [] = search (rules, c.push_reserved-in-loop-file.ensures.items, c.new.ensures) in
    record {
      rests = rests_step c.loop-file.rests.items c.push_reserved.new.self.items xs ys f (steps.0).0 kept ∙ inv.rests;
      made = made_step g.S.SegmentSource.state c.loop-file.made.items c.push_reserved-in-loop-file.new.self.items xs ys ss ts f s (steps.0).0 (steps.1).0 made ∙ inv.made;
      even = even_tails xs ys ss ts f s (steps.0).0 (steps.1).0 inv.even;
      room_rests = let a = ap length (steps.0).0 in let l = c.push_reserved.ensures.len in let k = c.push_reserved.ensures.capacity in let r = inv.room_rests in omega (arith, a, l, k, r);
      room_made = let a = ap length (steps.0).0 in let l = c.push_reserved-in-loop-file.ensures.len in let k = c.push_reserved-in-loop-file.ensures.capacity in let r = inv.room_made in omega (arith, a, l, k, r);
      idle = tail_of (λ (x : ScanFile g.row.O.Denot g.row.S.Denot). (g.S.SegmentSource.state x.source).live ≡ none_live) xs ys f (steps.0).0 inv.idle;
      readable = tail_of (λ (x : Seat). All IsReadable (x.segments).items) ss ts s (steps.1).0 inv.readable;
    }

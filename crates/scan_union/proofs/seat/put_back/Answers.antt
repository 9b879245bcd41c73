use Rattle.std.proofs.Common.{rules, ◌≡◌, ◌++◌, [], ◌∷◌, All, List, length, arith, sym, subst, ap, ◌∙◌}
use Rattle.std.proofs.lemmas.List.Elements.{All-nil, All-cons}
use Rattle.std.specs.Vec.Iter.{into_iter_items}
use Rattle.scan_drive.specs.declared.files.ScanFile.{ScanFile}
use Rattle.scan_opener.specs.declared.opener.MemoryOpener.{MemoryOpener}
use Rattle.scan_widened.specs.Sources.{UnionState, Follow}
use Rattle.scan_union.specs.Seats.{back_all, back_file}
use Rattle.scan_union.proofs.Parting.{ended, even_tails, back_step, back_end}
use Rattle.scan_union.proofs.seat.put_back.Goals as goal

pub loop-rest-init : goal.loop-rest-init
loop-rest-init g c =
    let first : into_iter_items c.into_iter-rest-iterator.result.a ≡ c.args.rests.items = search rules in
    let second : into_iter_items c.into_iter-rest-iterator.result.b ≡ c.args.made.items = search rules in
    record {
      back = λ i. c.args.files.now.items ++ back_all (first i) (second i);
      even = ap length first ∙ c.requires.even ∙ ap length (sym second);
      first = search rules;
      second = search rules;
      room = let n = ap length first in let r = c.requires.room in omega (arith, n, r);
      follow = λ h. subst (λ (ms : List (ScanFile MemoryOpener (UnionState g.row.S.Denot))). All (λ (m : ScanFile MemoryOpener (UnionState g.row.S.Denot)). Follow g.S.SegmentSource.state m.source) ms) second h;
    }

pub loop-rest-preserved : goal.loop-rest-preserved
loop-rest-preserved g c =
    let inv = c.loop-rest.invariant in
    let steps = c.in-Some.ensures.steps in
    let m : ScanFile MemoryOpener (UnionState g.row.S.Denot) = c.in-Some.file in
    let P : ScanFile MemoryOpener (UnionState g.row.S.Denot) → Type 0 = λ m. Follow g.S.SegmentSource.state m.source in
    let pushed : c.push_reserved.new.self.items ≡ c.loop-rest.files.items ++ back_file c.in-Some.rest m ∷ [] = search (rules, c.push_reserved.ensures.items, c.into_inner.ensures.inner) in
    let own : P m = c.into_inner.ensures.follows in
    record {
      back = back_step c.loop-rest.files.items c.push_reserved.new.self.items (into_iter_items c.loop-rest.rest-iterator.a) (into_iter_items c.next.new.self.a) (into_iter_items c.loop-rest.rest-iterator.b) (into_iter_items c.next.new.self.b)
          c.in-Some.rest m (steps.0).0 (steps.1).0 pushed ∙ inv.back;
      even = even_tails (into_iter_items c.loop-rest.rest-iterator.a) (into_iter_items c.next.new.self.a) (into_iter_items c.loop-rest.rest-iterator.b) (into_iter_items c.next.new.self.b) c.in-Some.rest m (steps.0).0 (steps.1).0 inv.even;
      first = let a = ap length (steps.0).0 in let n = (steps.0).1 in let l = inv.first in omega (arith, a, n, l);
      second = let a = ap length (steps.1).0 in let n = (steps.1).1 in let l = inv.second in omega (arith, a, n, l);
      room = let a = ap length (steps.0).0 in let l = c.push_reserved.ensures.len in let k = c.push_reserved.ensures.capacity in let r = inv.room in omega (arith, a, l, k, r);
      follow = λ h. inv.follow (subst (λ (ms : List (ScanFile MemoryOpener (UnionState g.row.S.Denot))). All P ms) (sym (steps.1).0) (All-cons P m (into_iter_items c.next.new.self.b) own h));
    }

pub returns-clause-back : goal.returns-clause-back
returns-clause-back g c =
    let inv = c.loop-rest.invariant in
    let none = ended c.loop-rest.rest-iterator.a c.loop-rest.rest-iterator.b inv.first inv.second inv.even c.in-None.ensures.steps in
    back_end c.loop-rest.files.items (into_iter_items c.loop-rest.rest-iterator.a) (into_iter_items c.loop-rest.rest-iterator.b) none ∙ inv.back

pub returns-clause-follow : goal.returns-clause-follow
returns-clause-follow g c =
    let inv = c.loop-rest.invariant in
    let none = ended c.loop-rest.rest-iterator.a c.loop-rest.rest-iterator.b inv.first inv.second inv.even c.in-None.ensures.steps in
    let P : ScanFile MemoryOpener (UnionState g.row.S.Denot) → Type 0 = λ m. Follow g.S.SegmentSource.state m.source in
    inv.follow (subst (λ (ms : List (ScanFile MemoryOpener (UnionState g.row.S.Denot))). All P ms) (sym none) (All-nil P))

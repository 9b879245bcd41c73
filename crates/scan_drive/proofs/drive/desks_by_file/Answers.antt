use Rattle.std.proofs.Common.{◌≡◌, ◌≤◌, ◌<◌, ◌+◌, ◌∷◌, ◌++◌, [], ℕ, List, true, map, subst, sym, arith}
use Rattle.std.specs.Prelude.{All}
use Rattle.std.proofs.lemmas.List.Elements.{All-push}
use Rattle.std.proofs.lemmas.List.Sorted.{All-permutation}
use Rattle.scan_values.specs.Selections.{is_among}
use Rattle.scan_drive.proofs.Bringing.{places, places_pushed, places_sorted}
use Rattle.scan_drive.proofs.drive.desks_by_file.Goals as goal

pub loop-place-preserved : goal.loop-place-preserved
loop-place-preserved c =
    let old = c.loop-place.found.items in
    let place = c.loop-place.place in
    record {
      within = subst (All (λ (p : ℕ × ℕ). p.1 < c.args.last)) (sym c.in_ok-push.ensures.items) (All-push (λ (p : ℕ × ℕ). p.1 < c.args.last) old (c.file.result, place) c.loop-place.invariant.within c.loop-place-test.true);
      all = λ k from to. subst (λ (xs : List (ℕ × ℕ)). is_among (places xs) k ≡ true) (sym c.in_ok-push.ensures.items) (places_pushed c.args.first place k c.file.result old c.loop-place.invariant.all from to);
    }

pub returns-clause-within : goal.returns-clause-within
returns-clause-within c = All-permutation (λ (p : ℕ × ℕ). p.1 < c.args.last) c.loop-place.found.items c.sort_unstable.new.self.items c.sort_unstable.ensures.permutation c.loop-place.invariant.within

pub returns-clause-all : goal.returns-clause-all
returns-clause-all c k from to = places_sorted k c.loop-place.found.items c.sort_unstable.new.self.items c.sort_unstable.ensures.permutation (c.loop-place.invariant.all k from (omega (arith, to, c.loop-place-test.false)))

pub returns-clause-order : goal.returns-clause-order
returns-clause-order c = c.sort_unstable.ensures.sorted

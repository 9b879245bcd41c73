use borrow.Author.Rules.{rules}
use Rattle.std.proofs.Common.{◌≡◌, ◌+◌, Some, None, arith}
use Rattle.std.specs.Prelude.{slice_range}
use Rattle.std.specs.List.{position}
use Rattle.scan_values.specs.Masks.{last_true}
use Rattle.scan_plans.proofs.Spanning.{none_first, none_last, span_some, span_order, last_inside}
use Rattle.scan_plans.proofs.lists.span_of.Goals as goal

pub returns-in_default : goal.returns-in_default
returns-in_default c = let none : position (λ b. b) c.args.mask.now ≡ None = search (rules, c.first.ensures, c.in_default.is) in none_first c.args.first c.args.mask.now none

pub returns-in_default-last : goal.returns-in_default-last
returns-in_default-last c = let none : last_true c.args.mask.now ≡ None = search (rules, c.last.ensures, c.in_default-last.is) in none_last c.args.first c.args.mask.now none

pub overflow_add-last : goal.overflow_add-last
overflow_add-last c =
    let last : last_true c.args.mask.now ≡ Some c.in-Some-last.last = search (rules, c.last.ensures, c.in-Some-last.is) in
    let z = last_inside c.args.mask.now c.in-Some-last.last last in
    omega (arith, z, c.requires)

pub slice-requires-clause-ordered : goal.slice-requires-clause-ordered
slice-requires-clause-ordered c =
    let first : position (λ b. b) c.args.mask.now ≡ Some c.in-Some.start = search (rules, c.first.ensures, c.in-Some.is) in
    let last : last_true c.args.mask.now ≡ Some c.in-Some-last.last = search (rules, c.last.ensures, c.in-Some-last.is) in
    let z = span_order c.args.mask.now c.in-Some.start c.in-Some-last.last first last in
    omega (arith, z)

pub slice-requires-clause-within : goal.slice-requires-clause-within
slice-requires-clause-within c =
    let last : last_true c.args.mask.now ≡ Some c.in-Some-last.last = search (rules, c.last.ensures, c.in-Some-last.is) in
    let z = last_inside c.args.mask.now c.in-Some-last.last last in
    omega (arith, z)

pub returns : goal.returns
returns c =
    let first : position (λ b. b) c.args.mask.now ≡ Some c.in-Some.start = search (rules, c.first.ensures, c.in-Some.is) in
    let last : last_true c.args.mask.now ≡ Some c.in-Some-last.last = search (rules, c.last.ensures, c.in-Some-last.is) in
    let part : c.in_ok-part.part ≡ slice_range c.args.mask.now c.in-Some.start (c.in-Some-last.last + 1) = search (rules, c.in_ok-part.ensures) in
    span_some c.args.first c.args.mask.now c.in-Some.start c.in-Some-last.last c.in_ok-part.part first last part

use borrow.Author.Rules.{rules}
use Rattle.std.proofs.Common.{◌≡◌, ◌<◌, ◌+◌, ◌++◌, [], ◌∷◌, drop, map, cond, length, ap, sym, ◌∙◌, refl, add-one}
use Rattle.std.proofs.Math.Seq.{drop-cons}
use Rattle.scan_values.specs.Values.{val_of}
use Rattle.scan_values.specs.Val.{int_val, null_val}
use Rattle.scan_columns.specs.Typed.{typed}
use Rattle.scan_columns.proofs.TypedLemmas.{typed_step, pushed_even}
use Rattle.scan_columns.proofs.ints.ints_of.Goals as goal

pub loop-value-preserved : goal.loop-value-preserved
loop-value-preserved c =
    let xs = c.loop-value.numbers.items in
    let bs = c.loop-value.valid.items in
    let values = c.args.values.now in
    let k = c.loop-value.value-index in
    let below : k < length values = c.loop-value-test.true in
    let nums : c.push.new.self.items ≡ xs ++ (c.in-Some.number ∷ []) = search (rules, c.in_ok-push-in-Some.ensures.items) in
    let there : c.push-in-Some.new.self.items ≡ bs ++ (c.in-Some.there ∷ []) = search (rules, c.in_ok-push-in-Some-2.ensures.items) in
    let cell : val_of c.value-item.result ≡ cond c.in-Some.there (int_val c.in-Some.number) null_val = search (rules, c.in-Some.ensures) in
    let next : drop k values ≡ c.value-item.result ∷ drop (k + 1) values = rw (drop-cons values k c.value-item.result, ← c.value-item.is, add-one) refl in
    record {
      even = rw (nums, there) (pushed_even xs bs c.in-Some.number c.in-Some.there c.loop-value.invariant.even);
      same = rw (nums, there) (typed_step int_val xs bs c.in-Some.number c.in-Some.there (val_of c.value-item.result) (map val_of (drop (k + 1) values)) (map val_of values)
          c.loop-value.invariant.even cell (ap (λ ws. typed int_val xs bs ++ map val_of ws) (sym next) ∙ c.loop-value.invariant.same));
    }

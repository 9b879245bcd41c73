use borrow.Author.Rules.{rules}
use Rattle.std.proofs.Common.{◌≡◌, ◌++◌, ◌∷◌, [], List, length, map, ap, ◌∙◌}
use Rattle.scan_plans.specs.FutureView.{future_of}
use Rattle.scan_plans.specs.Futures.{FutureData, masked_data, future_dtype, items_of, rows_of}
use Rattle.scan_plans.specs.Masks.{MaskData, mask_of}
use Rattle.scan_plans.specs.Meaning.{value_at, plan_dtype}
use Rattle.scan_plans.proofs.Outer.{under_more, dtype_more, nulled_length}
use Rattle.scan_plans.proofs.future.ArrayFuture.masked.Goals as goal

pub returns-clause-dtype : goal.returns-clause-dtype
returns-clause-dtype c =
    let f = c.args.self in
    let pushed : c.push.new.self.items ≡ c.masked.inside.outer.items ++ c.args.mask ∷ [] = search (rules, c.in_ok-push.ensures.items) in
    let e : future_of c.masked.inside.source c.push.new.self.items ≡ masked_data f c.args.mask = ap (λ (ms : List MaskData). future_of c.masked.inside.source ms) pushed ∙ ap (λ (g : FutureData). masked_data g c.args.mask) c.masked.view_is in
    ap future_dtype e ∙ dtype_more f.outer c.args.mask (plan_dtype f.tree)

pub returns-clause-items : goal.returns-clause-items
returns-clause-items c = λ store.
    let f = c.args.self in
    let pushed : c.push.new.self.items ≡ c.masked.inside.outer.items ++ c.args.mask ∷ [] = search (rules, c.in_ok-push.ensures.items) in
    let e : future_of c.masked.inside.source c.push.new.self.items ≡ masked_data f c.args.mask = ap (λ (ms : List MaskData). future_of c.masked.inside.source ms) pushed ∙ ap (λ (g : FutureData). masked_data g c.args.mask) c.masked.view_is in
    ap (λ (g : FutureData). items_of g store) e ∙ under_more store f.outer c.args.mask (map (value_at f.tree store) (rows_of f store))

pub returns-clause-length : goal.returns-clause-length
returns-clause-length c = λ store.
    let f = c.args.self in
    let pushed : c.push.new.self.items ≡ c.masked.inside.outer.items ++ c.args.mask ∷ [] = search (rules, c.in_ok-push.ensures.items) in
    let e : future_of c.masked.inside.source c.push.new.self.items ≡ masked_data f c.args.mask = ap (λ (ms : List MaskData). future_of c.masked.inside.source ms) pushed ∙ ap (λ (g : FutureData). masked_data g c.args.mask) c.masked.view_is in
    ap (λ (g : FutureData). length (items_of g store)) e ∙ ap length (under_more store f.outer c.args.mask (map (value_at f.tree store) (rows_of f store))) ∙ nulled_length (mask_of c.args.mask store) (items_of f store)

use borrow.Author.Rules.{rules}
use Rattle.std.proofs.Common.{◌≡◌, ◌∙◌, ◌+◌, ◌++◌, Some, List, [], ◌∷◌, ap, drop, map, slice_get}
use Rattle.std.proofs.lemmas.List.{map-append}
use Rattle.scan_values.specs.Val.{Val}
use Rattle.scan_values.specs.Values.{val_of}
use Rattle.scan_values.specs.declared.value.Value.{Value}
use Rattle.scan_columns.specs.Texts.{texts_in}
use Rattle.scan_columns.proofs.TextLemmas.{value_step}
use Rattle.scan_columns.proofs.texts.Texts.to_values.Goals as goal

pub loop-i-preserved : goal.loop-i-preserved
loop-i-preserved c =
    let vs : List Val = texts_in c.args.self.now in
    let x : Value = c.in_ok-value.field-0 in
    let made : List Value = c.loop-i.made.items in
    let pushed : c.push.new.self.items ≡ made ++ (x ∷ []) = search (rules, c.in_ok-push.ensures.items) in
    let here : Some (val_of x) ≡ slice_get vs c.loop-i.i = search (rules, c.in_ok-value.ensures) in
    ap (λ (xs : List Value). map val_of xs ++ drop (c.loop-i.i + 1) vs) pushed
    ∙ ap (λ (ys : List Val). ys ++ drop (c.loop-i.i + 1) vs) (map-append val_of made (x ∷ []))
    ∙ value_step vs c.loop-i.i (val_of x) (map val_of made) here c.loop-i.invariant

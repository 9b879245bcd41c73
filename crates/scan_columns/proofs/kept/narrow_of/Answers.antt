use Rattle.std.proofs.Common.{rules, ◌≡◌, ◌+◌, ◌<◌, ◌++◌, ◌∷◌, ◌∙◌, [], drop, get_or, length, pos, sym, add-one, append_assoc, drop-cons}
use Rattle.scan_columns.proofs.kept.narrow_of.Goals as goal

pub loop-number-preserved : goal.loop-number-preserved
loop-number-preserved c =
    let xs = c.args.numbers.now in
    let i = c.loop-number.number-index in
    let low : i < length xs = c.loop-number-test.true in
    let next : drop i xs ≡ get_or xs i (pos 0) ∷ drop (i + 1) xs = rw add-one (drop-cons xs i (pos 0) low) in
    let made : c.push.new.self.items ≡ c.loop-number.made.items ++ get_or xs i (pos 0) ∷ [] = search (rules, c.in_ok-push.ensures.items, c.in-Ok.ensures) in
    (λ j. made j ++ drop (i + 1) xs) ∙ append_assoc c.loop-number.made.items (get_or xs i (pos 0) ∷ []) (drop (i + 1) xs)
    ∙ (λ j. c.loop-number.made.items ++ sym next j) ∙ c.loop-number.invariant

use Rattle.std.proofs.Common.{◌≡◌, ◌==◌, ◌++◌, ◌∷◌, [], ◌∙◌, refl, arith, rules, true}
use Rattle.std.proofs.lemmas.List.{take_all}
use Rattle.scan_lines.specs.Heads.{head_text, head_texts}
use Rattle.scan_lines.proofs.Heading.{texts_more, texts_many}
use Rattle.scan_lines.proofs.heads.texts_of.Goals as goal

pub returns : goal.returns
returns c =
    let n = texts_many true c.args.names.now in
    c.loop-k.invariant ∙ take_all c.loop-k.k (head_texts true c.args.names.now) (omega (arith, n))

pub loop-k-preserved : goal.loop-k-preserved
loop-k-preserved c =
    let pushed : c.push.new.self.items ≡ c.loop-k.made.items ++ (c.in_ok-of_field.field-0 ∷ []) = search (rules, c.in_ok-push.ensures.items) in
    texts_more c.args.names.now c.loop-k.k c.index-names-k.result (c.loop-k.k == 0) c.in_ok-of_field.field-0 c.loop-k.made.items c.push.new.self.items
    (omega arith) c.index-names-k.is refl c.in_ok-of_field.ensures c.loop-k.invariant pushed

use Rattle.std.proofs.Common.{◌≡◌, ◌∙◌, sym, length, replicate}
use Rattle.std.proofs.lemmas.List.{length-replicate}
use Rattle.scan_values.specs.Values.{val_of}
use Rattle.scan_columns.proofs.TypedLemmas.{where_constant}
use Rattle.scan_columns.proofs.constant.Constant.filter.Goals as goal

pub returns : goal.returns
returns c =
    let even : length c.args.m.now ≡ length (replicate c.self.inside.len (val_of c.self.inside.value)) = c.requires ∙ (λ i. length (sym c.self.view_is i)) in
    let same : length c.args.m.now ≡ c.self.inside.len = even ∙ length-replicate c.self.inside.len (val_of c.self.inside.value) in
    rw (c.new.ensures, c.in_ok-value.ensures, ← c.self.view_is)
    (sym (where_constant (val_of c.self.inside.value) c.args.m.now c.self.inside.len c.true_count.result same c.true_count.ensures.count))

use Rattle.std.proofs.Common.{◌≡◌, ◌≤◌, ◌∙◌, sym, arith, length, replicate}
use Rattle.std.proofs.lemmas.List.{length-replicate}
use Rattle.scan_values.specs.Values.{val_of}
use Rattle.scan_columns.proofs.TypedLemmas.{constant_slice}
use Rattle.scan_columns.proofs.constant.Constant.slice.Goals as goal

pub returns : goal.returns
returns c =
    let even : length c.args.self.now ≡ length (replicate c.self.inside.len (val_of c.self.inside.value)) = λ i. length (sym c.self.view_is i) in
    let same : length c.args.self.now ≡ c.self.inside.len = even ∙ length-replicate c.self.inside.len (val_of c.self.inside.value) in
    let within : c.args.r.end ≤ c.self.inside.len = omega (arith, same, c.requires.within) in
    rw (c.new.ensures, c.in_ok-value.ensures, ← c.self.view_is)
    (sym (constant_slice (val_of c.self.inside.value) c.args.r.start c.args.r.end c.self.inside.len c.requires.ordered within))

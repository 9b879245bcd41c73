use Rattle.std.proofs.Common.{sym, ap, ◌∙◌}
use Rattle.std.proofs.lemmas.Slice.Zip.{firsts-zip}
use Rattle.scan_values.specs.FieldLists.{names_of}
use Rattle.scan_values.proofs.dtype.FieldList.names.Goals as goal

pub returns : goal.returns
returns c = sym (firsts-zip _ _ (sym c.self.invariant)) ∙ ap names_of c.self.view_is

use Rattle.std.proofs.Common.{sym, ap, ◌∙◌}
use Rattle.std.proofs.lemmas.Slice.Zip.{seconds-zip}
use Rattle.scan_values.specs.FieldLists.{dtypes_of}
use Rattle.scan_values.proofs.dtype.FieldList.dtypes.Goals as goal

pub returns : goal.returns
returns c = c.as_slice.ensures.value ∙ sym (seconds-zip _ _ (sym c.self.invariant)) ∙ ap dtypes_of c.self.view_is

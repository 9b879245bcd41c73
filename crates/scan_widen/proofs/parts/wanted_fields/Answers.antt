use Rattle.scan_values.specs.DataType.{fields_of}
use Rattle.scan_layout.specs.Layout.{dtype_of}
use Rattle.scan_widen.proofs.Forming.{fields_fit_in, struct_validity_of}
use Rattle.scan_widen.proofs.parts.wanted_fields.Goals as goal

pub returns-clause-fits : goal.returns-clause-fits
returns-clause-fits c = fields_fit_in (dtype_of c.args.node.now) c.args.dtype.now (fields_of c.fields_of.result.now) c.requires.fits c.fields_of.ensures

pub returns-clause-validity : goal.returns-clause-validity
returns-clause-validity c = struct_validity_of c.args.node.now c.args.dtype.now c.requires.form c.requires.record c.requires.fits

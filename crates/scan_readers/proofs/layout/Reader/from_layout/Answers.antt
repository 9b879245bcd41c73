use Rattle.scan_readers.proofs.layout.Reader.from_layout.Goals as goal

pub of_layout-requires : goal.of_layout-requires
of_layout-requires g c = record { form = c.requires.form }

use Rattle.scan_columns.proofs.unary.lent_field.Goals as goal

pub returns-in-GetItem-Structs : goal.returns-in-GetItem-Structs
returns-in-GetItem-Structs c = rw (c.in-GetItem-Structs.is-0, c.in-GetItem-Structs.is-1) c.lent_field.ensures

use Rattle.scan_partition.specs.Dividing.{parting}
use Rattle.scan_partition.proofs.Pieces.{group_fits, pieces_done}
use Rattle.scan_partition.proofs.divide.pieces_of.Goals as goal

pub part_of_group-requires : goal.part_of_group-requires
part_of_group-requires c = group_fits (parting c.args.how c.args.scope.now.value) c.args.groups.now c.loop-group.group-index c.group-item.result c.loop-group-test.true c.group-item.is c.requires

pub returns-clause-items : goal.returns-clause-items
returns-clause-items c = pieces_done _ c.args.groups.now _ c.loop-group.group-index c.loop-group-test.false c.loop-group.invariant.items

pub returns-clause-names : goal.returns-clause-names
returns-clause-names c = pieces_done _ c.args.groups.now _ c.loop-group.group-index c.loop-group-test.false c.loop-group.invariant.names

pub returns-clause-dtypes : goal.returns-clause-dtypes
returns-clause-dtypes c = pieces_done _ c.args.groups.now _ c.loop-group.group-index c.loop-group-test.false c.loop-group.invariant.dtypes

pub returns-clause-parts : goal.returns-clause-parts
returns-clause-parts c = pieces_done _ c.args.groups.now _ c.loop-group.group-index c.loop-group-test.false c.loop-group.invariant.parts

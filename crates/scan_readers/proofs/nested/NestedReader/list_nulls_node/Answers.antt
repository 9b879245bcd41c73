use Rattle.std.proofs.Common.{subst, sym}
use Rattle.scan_readers.specs.ListKids.{IsValidityOf}
use Rattle.scan_readers.specs.ListPlans.{IsNeverNull}
use Rattle.scan_readers.proofs.ListKids.{never_null, maybe_null, never_plan, nulls_plan}
use Rattle.scan_readers.proofs.nested.NestedReader.list_nulls_node.Goals as goal

pub never_null_node-requires-clause-scope : goal.never_null_node-requires-clause-scope
never_null_node-requires-clause-scope c = subst IsNeverNull (sym c.requires.scope) (never_null c.args.self.now.layout c.requires.list (subst (IsValidityOf c.args.self.now.layout) c.in-None.is c.in_ok-validity_leaf.ensures.leaf))

pub nulls_node-requires-clause-validity : goal.nulls_node-requires-clause-validity
nulls_node-requires-clause-validity c = (maybe_null c.args.self.now.layout c.in-Some.validity c.requires.list (subst (IsValidityOf c.args.self.now.layout) c.in-Some.is c.in_ok-validity_leaf.ensures.leaf)).1

pub returns-in-None-clause-plan : goal.returns-in-None-clause-plan
returns-in-None-clause-plan c = never_plan c.args.self.now.layout c.args.expr.now c.never_null_node.result c.requires.list (subst (IsValidityOf c.args.self.now.layout) c.in-None.is c.in_ok-validity_leaf.ensures.leaf) c.requires.scope c.never_null_node.ensures.plan

pub returns-in-Some-clause-plan : goal.returns-in-Some-clause-plan
returns-in-Some-clause-plan c = nulls_plan c.args.self.now.layout c.args.expr.now c.in-Some.validity c.nulls_node.result c.requires.list (subst (IsValidityOf c.args.self.now.layout) c.in-Some.is c.in_ok-validity_leaf.ensures.leaf) c.requires.scope c.nulls_node.ensures.plan

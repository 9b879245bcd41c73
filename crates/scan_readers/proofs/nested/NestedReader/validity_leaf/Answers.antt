use Rattle.std.proofs.Common.{◌≡◌, None, refl, sym, subst, ◌∙◌}
use Rattle.scan_values.specs.declared.ptype.Nullability.{Nullability}
use Rattle.scan_layout.specs.Layout.{kids_of}
use Rattle.scan_readers.specs.ListKids.{validity_kid}
use Rattle.scan_readers.specs.Reached.{validity_parts}
use Rattle.scan_readers.specs.StructPlans.{Asks, AsksAll}
use Rattle.scan_readers.proofs.ListKids.{validity_leaf}
use Rattle.scan_readers.proofs.ListWalk.{asks_none, all_none}
use Rattle.scan_readers.proofs.nested.NestedReader.validity_leaf.Goals as goal

pub child_leaf-requires : goal.child_leaf-requires
child_leaf-requires c = validity_leaf c.args.self.now.layout c.requires (sym c.nullability.ensures ∙ c.in-Nullable.is)

pub returns-in_err-child_leaf-in-Nullable-clause-asks : goal.returns-in_err-child_leaf-in-Nullable-clause-asks
returns-in_err-child_leaf-in-Nullable-clause-asks c = subst (λ (n : Nullability). Asks (validity_parts n) c.args.self.now c.child_leaf.new.self) (sym (sym c.nullability.ensures ∙ c.in-Nullable.is)) (c.child_leaf.ensures.asks _)

pub returns-in-NonNullable-clause-asks : goal.returns-in-NonNullable-clause-asks
returns-in-NonNullable-clause-asks c = asks_none _ _

pub returns-in-NonNullable-clause-all : goal.returns-in-NonNullable-clause-all
returns-in-NonNullable-clause-all c = subst (λ (n : Nullability). AsksAll (validity_parts n) c.args.self.now c.args.self.now) (sym (sym c.nullability.ensures ∙ c.in-NonNullable.is)) (all_none c.args.self.now)

pub returns-in-NonNullable-clause-leaf : goal.returns-in-NonNullable-clause-leaf
returns-in-NonNullable-clause-leaf c = subst (λ (n : Nullability). None ≡ validity_kid n (kids_of c.args.self.now.layout)) (sym (sym c.nullability.ensures ∙ c.in-NonNullable.is)) refl

pub returns-in_ok-child_leaf-in-Nullable-clause-asks : goal.returns-in_ok-child_leaf-in-Nullable-clause-asks
returns-in_ok-child_leaf-in-Nullable-clause-asks c = subst (λ (n : Nullability). Asks (validity_parts n) c.args.self.now c.child_leaf.new.self) (sym (sym c.nullability.ensures ∙ c.in-Nullable.is)) (c.child_leaf.ensures.asks _)

pub returns-in_ok-child_leaf-in-Nullable-clause-all : goal.returns-in_ok-child_leaf-in-Nullable-clause-all
returns-in_ok-child_leaf-in-Nullable-clause-all c = subst (λ (n : Nullability). AsksAll (validity_parts n) c.args.self.now c.child_leaf.new.self) (sym (sym c.nullability.ensures ∙ c.in-Nullable.is)) (c.in_ok-child_leaf-in-Nullable.ensures.all _)

pub returns-in_ok-child_leaf-in-Nullable-clause-leaf : goal.returns-in_ok-child_leaf-in-Nullable-clause-leaf
returns-in_ok-child_leaf-in-Nullable-clause-leaf c = sym c.in_ok-child_leaf-in-Nullable.ensures.leaf ∙ sym (λ i. validity_kid ((sym c.nullability.ensures ∙ c.in-Nullable.is) i) (kids_of c.args.self.now.layout))

use Rattle.std.proofs.Common.{◌≡◌, [], None, Some, Ok, Err, refl, sym, ap, ◌∙◌, rules}
use Rattle.scan_values.specs.DataType.{fields_of}
use Rattle.scan_values.specs.NameFaults.{names_fault}
use Rattle.scan_expr.specs.Bound.{exprs_of}
use Rattle.scan_expr.specs.Expr.{pack, parts_of}
use Rattle.scan_expr.specs.Infer.{infer_all}
use Rattle.scan_expr.proofs.Binds.{pack_named, deep_pack, shallow_pack}
use Rattle.scan_expr.proofs.bind.bind_pack.Goals as goal

pub returns-in-Some : goal.returns-in-Some
returns-in-Some c = λ ne.
    let o : Some c.in-Some.fault ≡ names_fault [] c.args.names.now = sym c.in-Some.is ∙ c.in_ok-fault.ensures ∙ ap (names_fault []) c.as_slice.ensures in
    rw (pack_named c.args.scope.now.value c.args.names.now c.args.children.items (Some c.in-Some.fault) c.requires.even o, ← c.fault_of.ensures) refl

pub returns-in_err-dtype : goal.returns-in_err-dtype
returns-in_err-dtype c = λ ne.
    let s = c.args.scope.now.value in
    let ps = parts_of c.args.names.now (exprs_of c.args.children.items) in
    let o : None ≡ names_fault [] c.args.names.now = sym c.in_default.is ∙ c.in_ok-fault.ensures ∙ ap (names_fault []) c.as_slice.ensures in
    let f = c.in_err-dtype.field-0.0 in
    let is : c.from_residual-in_err-dtype.result ≡ Err f = search rules in
    let fields : fields_of c.in_ok-pack_fields.field-0 ≡ infer_all s ps = rw (← c.deref.ensures.value) (c.in_ok-pack_fields.ensures.fields s (rw (c.deref.ensures.value) c.requires.scopes)) in
    is ∙ rw (pack_named s c.args.names.now c.args.children.items None c.requires.even o) (deep_pack (fields_of c.in_ok-pack_fields.field-0) (infer_all s ps) c.args.n f s (pack ps c.args.n) fields c.in_err-dtype.ensures)

pub returns : goal.returns
returns c = λ ne.
    let s = c.args.scope.now.value in
    let ps = parts_of c.args.names.now (exprs_of c.args.children.items) in
    let o : None ≡ names_fault [] c.args.names.now = sym c.in_default.is ∙ c.in_ok-fault.ensures ∙ ap (names_fault []) c.as_slice.ensures in
    let fields : fields_of c.in_ok-pack_fields.field-0 ≡ infer_all s ps = rw (← c.deref.ensures.value) (c.in_ok-pack_fields.ensures.fields s (rw (c.deref.ensures.value) c.requires.scopes)) in
    let scope : c.in_ok-clone.field-0.value ≡ s = c.in_ok-clone.ensures.cases in
    let names : c.in_ok-names.names ≡ c.args.names.now = c.in_ok-names.ensures in
    rw (pack_named s c.args.names.now c.args.children.items None c.requires.even o, shallow_pack (fields_of c.in_ok-pack_fields.field-0) (infer_all s ps) c.args.n c.in_ok-dtype.dtype fields c.in_ok-dtype.ensures)
    (ap Ok (rw (c.over_many.ensures, scope, names) refl))

pub over_many-requires-clause-faultless : goal.over_many-requires-clause-faultless
over_many-requires-clause-faultless c = rw (← c.deref.ensures.value) c.in_ok-pack_fields.ensures.faultless

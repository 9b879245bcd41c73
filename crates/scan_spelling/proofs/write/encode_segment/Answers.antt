use Rattle.std.proofs.Common.{subst, sym, ◌∙◌, ap, All, ◌++◌, Result, Ok, Err}
use Rattle.std.specs.Result.{IsErrOf}
use Rattle.scan_spelling.specs.declared.spelling.EncodeFault.{EncodeFault}
use Rattle.std.proofs.lemmas.List.Elements.{All-map}
use Rattle.scan_values.specs.Values.{val_of}
use Rattle.scan_values.specs.Kinds.{kind_of}
use Rattle.scan_values.specs.DataType.{nullability_of}
use Rattle.scan_spelling.specs.Written.{IsOfKind, TextFits, IsText, spelling_under}
use Rattle.scan_spelling.proofs.Encoding.{of_kind, again, all_unmapped}
use Rattle.scan_spelling.proofs.write.encode_segment.Goals as goal

pub push_rows-requires : goal.push_rows-requires
push_rows-requires c =
    subst (λ kind. All (λ v. IsOfKind kind (val_of v)) c.as_slice-items.result.now) (sym (c.kind-kind.ensures ∙ ap kind_of c.dtype.ensures))
    (of_kind c.args.a.now.dtype c.as_slice-items.result.now c.args.a.now.items c.as_slice-items.ensures.items c.requires c.as_slice-items.ensures.fit)

pub returns-in-Ok-clause-again : goal.returns-in-Ok-clause-again
returns-in-Ok-clause-again c =
    again c.args.spelling c.args.a.now.dtype c.args.a.now.items c.push_rows.new.out.items c.requires c.as_slice-items.ensures.fit
    (subst (All TextFits) c.as_slice-items.ensures.items (All-map TextFits val_of c.as_slice-items.result.now c.in-Ok.ensures.short))
    (subst (All IsText) c.as_slice-items.ensures.items (All-map IsText val_of c.as_slice-items.result.now c.in-Ok.ensures.text))
    c.in-Ok.ensures.bytes
    (c.in-Ok.ensures.written ∙ (λ i. (c.in_ok-out.ensures.items i) ++ spelling_under c.args.spelling ((c.nullability.ensures ∙ ap nullability_of c.dtype-2.ensures) i) ((c.kind-kind.ensures ∙ ap kind_of c.dtype.ensures) i) (c.as_slice-items.ensures.items i)))

pub returns-in-Ok-clause-short : goal.returns-in-Ok-clause-short
returns-in-Ok-clause-short c = subst (All TextFits) c.as_slice-items.ensures.items (All-map TextFits val_of c.as_slice-items.result.now c.in-Ok.ensures.short)

abbrev fault_or : {T : Type 0} → EncodeFault → Result T EncodeFault → EncodeFault
fault_or d (Ok x) = d
fault_or d (Err e) = e

-- the same fault, of results of other types
retold : {T U : Type 0} (e f : EncodeFault) → IsErrOf {T = T} (Err e) f → IsErrOf {T = U} (Err e) f
retold e f h = ap Err (ap (fault_or e) h)

pub returns-in-Err-clause-long : goal.returns-in-Err-clause-long
returns-in-Err-clause-long c h g =
    let short : All (λ v. TextFits (val_of v)) c.as_slice-items.result.now = all_unmapped TextFits c.as_slice-items.result.now c.args.a.now.items c.as_slice-items.ensures.items g in
    c.in-Err.ensures.long (retold c.in-Err.fault EncodeFault.TooLong h) short

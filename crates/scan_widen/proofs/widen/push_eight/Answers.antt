use Rattle.std.proofs.Common.{rules, ◌≡◌, ◌++◌, ◌∙◌, ap, refl}
use Rattle.std.specs.Prelude.{OnOk}
use Rattle.std.specs.List.{flat_map}
use Rattle.scan_values.specs.declared.ptype.PType.TheVariants.{U64, I64}
use Rattle.scan_spelling.specs.Written.{int_bytes}
use Rattle.scan_widen.proofs.RunBytes.{flat_words, on_bytes}
use Rattle.scan_widen.proofs.widen.push_eight.Goals as goal

pub returns-clause-unsigned : goal.returns-clause-unsigned
returns-clause-unsigned c =
    let flat = c.as_flattened.ensures.value ∙ ap (flat_map (λ x. x)) c.deref.ensures.value ∙ flat_words I64 U64 c.args.numbers.now c.in_ok-words.words.items c.in_ok-words.ensures (λ z. refl) in
    let added : OnOk c.extend_from_slice.result (c.extend_from_slice.new.self.items ≡ c.args.out.now.items ++ c.as_flattened.result.now) = search rules in
    on_bytes c.extend_from_slice.result c.extend_from_slice.new.self.items c.args.out.now.items c.as_flattened.result.now (flat_map (int_bytes U64) c.args.numbers.now) flat added

pub returns-clause-signed : goal.returns-clause-signed
returns-clause-signed c =
    let flat = c.as_flattened.ensures.value ∙ ap (flat_map (λ x. x)) c.deref.ensures.value ∙ flat_words I64 I64 c.args.numbers.now c.in_ok-words.words.items c.in_ok-words.ensures (λ z. refl) in
    let added : OnOk c.extend_from_slice.result (c.extend_from_slice.new.self.items ≡ c.args.out.now.items ++ c.as_flattened.result.now) = search rules in
    on_bytes c.extend_from_slice.result c.extend_from_slice.new.self.items c.args.out.now.items c.as_flattened.result.now (flat_map (int_bytes I64) c.args.numbers.now) flat added

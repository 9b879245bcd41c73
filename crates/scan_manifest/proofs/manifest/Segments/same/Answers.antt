use Rattle.std.proofs.Common.{◌≡◌, length, sym, ap, ◌∙◌, bytes_eq}
use Rattle.scan_manifest.specs.Manifest.{same_segments}
use Rattle.scan_manifest.proofs.Firsts.{uneven, both_end, ended, other_id, other_bytes, same_here, even_here, not_true, not_false}
use Rattle.scan_manifest.proofs.manifest.Segments.same.Goals as goal

pub returns-then-len : goal.returns-then-len
returns-then-len c = rw (← c.self.view_is, ← c.other.view_is) (sym (uneven c.self.inside.map.entries c.other.inside.map.entries (λ e. c.if-len.true (c.len.ensures.len ∙ e ∙ sym c.len-2.ensures.len))))

pub loop-id-init : goal.loop-id-init
loop-id-init c =
    let first : c.into_iter-id-iterator.result.a ≡ c.args.self.now = ap (λ z. z.a) c.into_iter-id-iterator.ensures.into_iter_gives ∙ c.zip-id-items.ensures.first ∙ c.iter.ensures.rest ∙ c.self.view_is in
    let second : c.into_iter-id-iterator.result.b ≡ c.args.other.now = ap (λ z. z.b) c.into_iter-id-iterator.ensures.into_iter_gives ∙ c.zip-id-items.ensures.second ∙ c.iter-2.ensures.rest ∙ c.other.view_is in
    let long : length c.args.self.now ≡ length c.args.other.now = ap length (sym c.self.view_is) ∙ sym c.len.ensures.len ∙ c.if-len.false ∙ c.len-2.ensures.len ∙ ap length c.other.view_is in
    record {
      same = ap (λ s. same_segments s c.args.other.now) (sym first) ∙ ap (same_segments c.into_iter-id-iterator.result.a) (sym second);
      even = ap length first ∙ long ∙ ap length (sym second);
    }

pub returns-then-ne : goal.returns-then-ne
returns-then-ne c =
    sym (c.loop-id.invariant.same ∙ other_id c.loop-id.id-iterator.a c.loop-id.id-iterator.b c.next.new.self.a c.next.new.self.b
    c.in-Some.id.now c.in-Some.other_id.now c.in-Some.bytes.now c.in-Some.other_bytes.now c.in-Some.ensures.steps.0 c.in-Some.ensures.steps.1
    (not_true _ _ c.ne.ensures c.if-ne.true))

pub returns-then-ne-2 : goal.returns-then-ne-2
returns-then-ne-2 c =
    sym (c.loop-id.invariant.same ∙ other_bytes c.loop-id.id-iterator.a c.loop-id.id-iterator.b c.next.new.self.a c.next.new.self.b
    c.in-Some.id.now c.in-Some.other_id.now c.in-Some.bytes.now c.in-Some.other_bytes.now c.in-Some.ensures.steps.0 c.in-Some.ensures.steps.1
    (ap (λ xs. bytes_eq xs c.in-Some.other_bytes.now) (sym c.as_slice.ensures) ∙ ap (bytes_eq c.as_slice.result.now) (sym c.as_slice-in-loop-id.ensures)
    ∙ not_true _ _ c.ne-in-loop-id.ensures c.if-ne-2.true))

pub loop-id-preserved : goal.loop-id-preserved
loop-id-preserved c = record {
  same =
      c.loop-id.invariant.same ∙ same_here c.loop-id.id-iterator.a c.loop-id.id-iterator.b c.next.new.self.a c.next.new.self.b
      c.in-Some.id.now c.in-Some.other_id.now c.in-Some.bytes.now c.in-Some.other_bytes.now c.in-Some.ensures.steps.0 c.in-Some.ensures.steps.1
      (not_false _ _ c.ne.ensures c.if-ne.false)
      (ap (λ xs. bytes_eq xs c.in-Some.other_bytes.now) (sym c.as_slice.ensures) ∙ ap (bytes_eq c.as_slice.result.now) (sym c.as_slice-in-loop-id.ensures)
      ∙ not_false _ _ c.ne-in-loop-id.ensures c.if-ne-2.false);
  even = even_here c.loop-id.id-iterator.a c.loop-id.id-iterator.b c.next.new.self.a c.next.new.self.b
      c.in-Some.id.now c.in-Some.other_id.now c.in-Some.bytes.now c.in-Some.other_bytes.now c.in-Some.ensures.steps.0 c.in-Some.ensures.steps.1
      c.loop-id.invariant.even;
}

pub returns : goal.returns
returns c = sym (c.loop-id.invariant.same ∙ both_end c.loop-id.id-iterator.a c.loop-id.id-iterator.b c.loop-id.invariant.even (ended c.loop-id.id-iterator.a c.loop-id.id-iterator.b c.in-None.ensures.steps))

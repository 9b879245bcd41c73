use Rattle.std.proofs.Common.{◌≤◌, ◌∷◌, [], map, ap, length, arith, ◌∙◌}
use Rattle.std.proofs.lemmas.List.{map-append}
use Rattle.scan_conditions.specs.Parts.{part_of}
use Rattle.scan_conditions.proofs.Lexing.{spells_all, spells_begun, spells_more}
use Rattle.scan_conditions.proofs.lexer.parts_of.Goals as goal

pub parts-init : goal.parts-init
parts-init c = spells_begun c.as_bytes-bytes.result.now c.spaces_end-at.result (map part_of c.new-parts.result.items) (ap (map part_of) c.new-parts.ensures.items) c.spaces_end-at.ensures

pub parts-preserved : goal.parts-preserved
parts-preserved c =
    spells_more c.as_bytes-bytes.result.now (map part_of c.parts.parts.items) (map part_of c.push.new.self.items) (part_of c.in_ok-part.part) c.parts.at c.in_ok-part.part.end c.spaces_end-next.result c.parts.invariant c.in_ok-part.ensures c.spaces_end-next.ensures
    (ap (map part_of) c.in_ok-push.ensures.items ∙ map-append part_of c.parts.parts.items (c.in_ok-part.part ∷ []))

pub returns-then-at-bytes : goal.returns-then-at-bytes
returns-then-at-bytes c =
    let past : length c.as_bytes-bytes.result.now ≤ c.parts.at = omega arith in
    spells_all c.as_bytes-bytes.result.now c.args.text.now (map part_of c.parts.parts.items) c.parts.at c.as_bytes-bytes.ensures.value c.parts.invariant past

pub returns : goal.returns
returns c =
    let past : length c.as_bytes-bytes.result.now ≤ c.parts.at = omega arith in
    spells_all c.as_bytes-bytes.result.now c.args.text.now (map part_of c.parts.parts.items) c.parts.at c.as_bytes-bytes.ensures.value c.parts.invariant past

use Rattle.std.proofs.Common.{List, refl, sym, subst, ◌∙◌}
use Rattle.uses.specs.InParts.{HasParts}
use Rattle.uses.specs.declared.in_parts.RowsOfPart.{RowsOfPart}
use Rattle.uses.proofs.Parting.{part_nearer, parts_none, parts_read, read_more, still_none}
use Rattle.uses.proofs.in_parts.read_parts.Goals as goal

pub parts-init : goal.parts-init
parts-init g c =
    let holds = (g.S.SegmentSource.state c.args.segments.now).holds in
    let scan = c.args.scan.now in
    record {
      none = c.requires.own;
      idle = c.requires.idle;
      holds = refl;
      has = subst (λ (ps : List RowsOfPart). HasParts holds scan scan ps) (sym c.new-read.ensures.items) (parts_none holds scan);
    }

pub parts-preserved : goal.parts-preserved
parts-preserved g c =
    let state = g.S.SegmentSource.state in
    let holds = (state c.args.segments.now).holds in
    let first = c.args.scan.now in
    let has = read_more holds (state c.parts.segments).holds first c.parts.scan c.read_part.new.scan c.parts.read.items c.read_part.new.read.items c.parts.invariant.holds c.parts.invariant.has c.in-More.ensures.reads in
    record {
      none = still_none holds first c.read_part.new.scan c.read_part.new.read.items c.requires.own has;
      idle = c.read_part.ensures.idle;
      holds = c.read_part.ensures.holds ∙ c.parts.invariant.holds;
      has = has;
    }

pub parts-smaller : goal.parts-smaller
parts-smaller g c = part_nearer (g.S.SegmentSource.state c.parts.segments).holds c.parts.scan c.read_part.new.scan c.parts.read.items c.read_part.new.read.items c.in-More.ensures.reads

pub returns-in-Last-clause-parts : goal.returns-in-Last-clause-parts
returns-in-Last-clause-parts g c =
    parts_read (g.S.SegmentSource.state c.args.segments.now).holds c.args.scan.now c.parts.scan c.read_part.new.scan c.parts.read.items c.read_part.new.read.items c.requires.own c.parts.invariant.has c.in-Last.ensures.reads

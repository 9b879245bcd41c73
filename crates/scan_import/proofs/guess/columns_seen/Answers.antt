use Rattle.std.proofs.Common.{◌≡◌, ◌∷◌, ◌++◌, ◌∙◌, [], refl, true, length, rules}
use Rattle.csv.specs.Records.{fields_of}
use Rattle.scan_import.proofs.Columns.{read_all, read_more, still_plain}
use Rattle.scan_import.proofs.guess.columns_seen.Goals as goal

pub loop-row-init : goal.loop-row-init
loop-row-init g c =
    let start = c.into_iter-row-iterator.ensures.into_iter_gives ∙ refl in
    let rdr = c.into_records-row-items.ensures.rdr in
    let left = c.into_records-row-items.ensures.left in
    let count : length c.in_ok-columns.columns.items ≡ c.args.count = search rules in
    rw (start, rdr) (record { plain = c.requires; turns = left; count = count; read = λ bytes names w. ([], w) })

pub loop-row-preserved : goal.loop-row-preserved
loop-row-preserved g c =
    let inv = c.loop-row.invariant in
    let a = c.loop-row.row-iterator.rdr in
    let b = c.next.new.self.rdr in
    let f = fields_of c.in-Ok.row in
    let s = rw (c.in-Some.is, c.in-Ok.is) at ((c.next.ensures.steps inv.turns inv.plain.trims).0 inv.plain.ready) in
    record {
      plain = still_plain g.R.Read.remaining a b true f inv.plain s.0 s.1;
      turns = s.3;
      count = c.with_row-columns.ensures ∙ inv.count;
      read = λ bytes names w. ((inv.read bytes names w).0 ++ f ∷ [], read_more g.R.Read.remaining bytes (names ∷ (inv.read bytes names w).0) a b f inv.plain.config s.0 (inv.read bytes names w).1);
    }

pub returns-clause-read : goal.returns-clause-read
returns-clause-read g c =
    let inv = c.loop-row.invariant in
    let s = rw c.in-None.is at ((c.next.ensures.steps inv.turns inv.plain.trims).0 inv.plain.ready) in
    λ bytes names w. ((inv.read bytes names w).0, read_all g.R.Read.remaining bytes (names ∷ (inv.read bytes names w).0) c.loop-row.row-iterator.rdr c.next.new.self.rdr inv.plain.config s (inv.read bytes names w).1)

use Rattle.std.proofs.Common.{◌∷◌, ◌++◌, ◌∙◌, [], refl, true}
use Rattle.csv.specs.Records.{fields_of}
use Rattle.scan_values.specs.FieldLists.{dtypes_of}
use Rattle.scan_import.specs.Cells.{record_in}
use Rattle.scan_import.proofs.Columns.{read_all, read_more, rows_all, rows_step, still_plain}
use Rattle.scan_import.proofs.csv_rows.rows_left.Goals as goal

pub loop-row-init : goal.loop-row-init
loop-row-init g c =
    let start = c.into_iter-row-iterator.ensures.into_iter_gives ∙ refl in
    let rdr = c.into_records-row-items.ensures.rdr in
    let left = c.into_records-row-items.ensures.left in
    rw (start, rdr, c.new-rows.ensures.items) (record { plain = c.requires.plain; turns = left; read = λ bytes names w. ([], w, refl) })

pub loop-row-preserved : goal.loop-row-preserved
loop-row-preserved g c =
    let inv = c.loop-row.invariant in
    let a = c.loop-row.row-iterator.rdr in
    let b = c.next.new.self.rdr in
    let f = fields_of c.in-Ok.row in
    let s = rw (c.in-Some.is, c.in-Ok.is) at ((c.next.ensures.steps inv.turns inv.plain.trims).0 inv.plain.ready) in
    record {
      plain = still_plain g.R.Read.remaining a b true f inv.plain s.0 s.1;
      turns = s.3;
      read = λ bytes names w. (
        (inv.read bytes names w).0 ++ f ∷ [],
        read_more g.R.Read.remaining bytes (names ∷ (inv.read bytes names w).0) a b f inv.plain.config s.0 (inv.read bytes names w).1,
        rows_step (record_in (dtypes_of c.args.fields.now) c.args.columns.now) (inv.read bytes names w).0 f c.loop-row.rows.items c.push.new.self.items c.in_ok-value-in-Ok.value c.in_ok-push-in-Ok.ensures.items c.in_ok-value-in-Ok.ensures (inv.read bytes names w).2,
      );
    }

pub returns : goal.returns
returns g c =
    let inv = c.loop-row.invariant in
    let s = rw c.in-None.is at ((c.next.ensures.steps inv.turns inv.plain.trims).0 inv.plain.ready) in
    λ bytes names w. rows_all (dtypes_of c.args.fields.now) c.args.columns.now bytes names (inv.read bytes names w).0 c.loop-row.rows.items
    (read_all g.R.Read.remaining bytes (names ∷ (inv.read bytes names w).0) c.loop-row.row-iterator.rdr c.next.new.self.rdr inv.plain.config s (inv.read bytes names w).1) (inv.read bytes names w).2

use Rattle.std.proofs.Common.{◌∷◌, [], List, ℕ, Bool, true, sym, subst}
use Rattle.csv.specs.Reading.{ReadRecord}
use Rattle.csv.specs.Records.{fields_of}
use Rattle.scan_import.specs.CsvReader.{WasRead}
use Rattle.scan_import.proofs.Columns.{read_more, still_plain}
use Rattle.scan_import.proofs.csv_rows.names_of.Goals as goal

pub returns-clause-plain : goal.returns-clause-plain
returns-clause-plain g c =
    let p = c.requires in
    still_plain g.R.Read.remaining c.args.reader.now c.read_record.new.self c.in-Ok.found (fields_of c.read_record.new.row) p (c.in-Ok.ensures.reads p.trims p.ready) (c.in-Ok.ensures.ready p.trims)

pub returns-clause-read : goal.returns-clause-read
returns-clause-read g c =
    let p = c.requires in
    let a = c.args.reader.now in
    let b = c.read_record.new.self in
    let f = fields_of c.read_record.new.row in
    let was : ReadRecord g.R.Read.remaining a b true f = subst (λ (t : Bool). ReadRecord g.R.Read.remaining a b t f) c.if-not-found.false (c.in-Ok.ensures.reads p.trims p.ready) in
    λ bytes w. subst (λ (n : List (List ℕ)). WasRead g.R.Read.remaining bytes (n ∷ []) b) (sym c.in_ok-names.ensures) (read_more g.R.Read.remaining bytes [] a b f p.config was w)

use Rattle.std.proofs.Common.{◌≡◌, length, ap, arith}
use Rattle.scan_import.specs.Csv.{ShowsNames}
use Rattle.scan_import.proofs.Columns.{if_told}
use Rattle.scan_import.proofs.guess.dtype_of_csv.Goals as goal

pub returns : goal.returns
returns g c =
    if_told (g.R.Read.remaining c.args.input) (λ bytes. ShowsNames bytes c.in_ok-dtype.dtype) (λ bytes e.
    let was = c.in_ok-names.ensures.read bytes (c.reader_of-reader.ensures.fresh bytes e) in
    let seen = c.in_ok-columns.ensures.read bytes c.in_ok-names.names.items was in
    let count : length c.in_ok-dtypes.dtypes.items ≡ length c.in_ok-names.names.items = omega (arith, c.in_ok-dtypes.ensures, ap length c.as_slice.ensures.value, c.in_ok-columns.ensures.count, c.len.ensures, c.in_ok-names.names.ok.0) in
    record {
      names = c.in_ok-names.names.items;
      records = seen.0;
      are = seen.1;
      dtypes = c.in_ok-dtypes.dtypes.items;
      count = count;
      is = c.in_ok-dtype.ensures;
    })

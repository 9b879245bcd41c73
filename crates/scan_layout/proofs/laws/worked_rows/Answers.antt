use Rattle.std.specs.Prelude.{refl}
use Rattle.scan_layout.proofs.laws.worked_rows.Goals as goal

pub returns : goal.returns
returns c =
    record {
      struct_form = refl;
      struct_first = refl;
      struct_null = refl;
      struct_touches = refl;
      cut_first = refl;
      cut_null = refl;
      list_form = refl;
      list_empty = refl;
      list_of_three = refl;
      empty_touches = refl;
      three_touches = refl;
      falls = refl;
      first_null = refl;
      second_null = refl;
      no_offset = refl;
      one_offset = refl;
      splits = refl;
      grid = refl;
      least_grid = refl;
      mapped = refl;
      not_first = refl;
      not_last = refl;
      bits_written = refl;
      bits_read = refl;
      null_bit_ignored = refl;
      spare_flag = refl;
      spare_bool = refl;
      bytes_first = refl;
      bits_after = refl;
      ints_by_bits = refl;
      null_by_bits = refl;
      there_by_bits = refl;
    }

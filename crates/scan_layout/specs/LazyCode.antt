-- How lazy children are kept as numbers, and read back.
use Rattle.std.specs.Prelude.{List, Option, refl}
use Rattle.std.specs.Coded.{Coded, code_by, coded×, coded_ℕ, coded_list, coded_option}
use Rattle.scan_values.specs.DataType.{DataType, Name, data_type_code}
use Rattle.scan_layout.specs.Contexts.{Context, context_code}
use Rattle.scan_layout.specs.Layout.{Layout}
use Rattle.scan_layout.specs.LayoutCode.{layouts_code}
use Rattle.scan_layout.specs.Lazy.{Children}

abbrev pub Parts : Type 0 → Type 0 → Type 0 → Type 0
Parts V K M = List Layout × (List DataType × (List Name × (Context V × (K × List (Option M)))))

module _ {V K M : Type 0} where
  abbrev pub parts_code : Coded V → Coded K → Coded M → Coded (Parts V K M)
  parts_code v k m =
      coded× layouts_code (coded× (coded_list data_type_code)
      (coded× (coded_list (coded_list coded_ℕ))
      (coded× (context_code v) (coded× k (coded_list (coded_option m))))))

  abbrev pub to_parts : Children V K M → Parts V K M
  to_parts c = (c.nodes, (c.dtypes, (c.names, (c.ctx, (c.opener, c.made)))))

  abbrev pub of_parts : Parts V K M → Children V K M
  of_parts p = record { nodes = p.0; dtypes = p.1.0; names = p.1.1.0; ctx = p.1.1.1.0; opener = p.1.1.1.1.0; made = p.1.1.1.1.1 }

  abbrev pub children_code : Coded V → Coded K → Coded M → Coded (Children V K M)
  children_code v k m = code_by (Parts V K M) (parts_code v k m) to_parts of_parts (λ _. refl)

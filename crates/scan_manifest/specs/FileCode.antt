-- How a file of a manifest is kept.
use Rattle.std.specs.Prelude.{ℕ, List, Bool, refl}
use Rattle.std.specs.Coded.{Coded, code_by, coded_list, coded×, coded_ℕ, coded_bool}
use Rattle.scan_layout.specs.Layout.{Layout}
use Rattle.scan_layout.specs.LayoutCode.{layout_code}
use Rattle.scan_manifest.specs.declared.manifest.FileSpec.{FileSpec}

abbrev pub Numbers : Type 0
Numbers = List ℕ × List ℕ

abbrev pub Parts : Type 0
Parts = List ℕ × (Layout × (List (ℕ × List ℕ) × (Bool × (Numbers × Numbers))))

abbrev pub numbers_code : Coded Numbers
numbers_code = coded× (coded_list coded_ℕ) (coded_list coded_ℕ)

abbrev pub file_code : Coded FileSpec
file_code = code_by Parts (coded× (coded_list coded_ℕ)
    (coded× layout_code (coded× (coded_list (coded× coded_ℕ (coded_list coded_ℕ)))
    (coded× coded_bool (coded× numbers_code numbers_code)))))
    (λ f. (f.id, (f.layout, (f.segments, (f.skip, ((f.opener.fail, f.opener.pending), (f.source.fail, f.source.pending)))))))
    (λ p. record {
      id = p.0;
      layout = p.1.0;
      segments = p.1.1.0;
      skip = p.1.1.1.0;
      opener = record { fail = p.1.1.1.1.0.0; pending = p.1.1.1.1.0.1 };
      source = record { fail = p.1.1.1.1.1.0; pending = p.1.1.1.1.1.1 };
    })
    (λ _. refl)

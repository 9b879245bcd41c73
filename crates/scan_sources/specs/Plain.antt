-- The step of a scan that makes nothing else of its arrays.
use Rattle.std.specs.Prelude.{refl}
use Rattle.std.specs.Coded.{Coded, code_by}
use base.Stored.{coded_unit}
use Rattle.scan_streams.specs.declared.map_step.Identity.{Identity}

abbrev pub Plain : Type 0
Plain = Identity (Unit {0})

abbrev pub plain_code : Coded Plain
plain_code = code_by (Unit {0}) coded_unit (λ _. tt) (λ _. record { fault = record {} }) (λ _. refl)

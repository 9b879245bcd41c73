use Rattle.std.proofs.Common.{◌≡◌, drop}
use Rattle.std.specs.List.{list_all}
use Rattle.scan_conditions.specs.Spelling.{is_digit}
use Rattle.scan_conditions.specs.Written.{digits_behind}
use Rattle.scan_conditions.proofs.leaf.number_of.Given as goal

abbrev pub invariant-loop-c : goal.invariant-loop-c
invariant-loop-c l = record {
  same : digits_behind l.number (drop l.c-index l.digits) ≡ digits_behind 0 l.digits;
  all : list_all is_digit (drop l.c-index l.digits) ≡ list_all is_digit l.digits;
}

use Rattle.std.proofs.Common.{◌≡◌, ◌++◌, drop, true}
use Rattle.std.specs.List.{list_all}
use Rattle.scan_conditions.specs.Spelling.{is_word}
use Rattle.scan_conditions.proofs.lexer.word_bytes.Given as goal

abbrev pub invariant-word : goal.invariant-word
invariant-word l = record {
  front : drop l.at l.bytes ≡ l.content.items ++ drop l.end-2 l.bytes;
  all : list_all is_word l.content.items ≡ true;
}

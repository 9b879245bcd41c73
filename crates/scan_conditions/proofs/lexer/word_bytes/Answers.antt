use Rattle.std.proofs.Common.{◌++◌, ap, drop, sym, ◌∙◌}
use Rattle.std.specs.List.{list_all}
use Rattle.scan_conditions.specs.Spelling.{is_word}
use Rattle.scan_conditions.proofs.Lexing.{word_all, word_more}
use Rattle.scan_conditions.proofs.lexer.word_bytes.Goals as goal

pub word-init : goal.word-init
word-init c = record {
  front = ap (λ m. m ++ drop c.args.at c.args.bytes.now) (sym c.new-content.ensures.items);
  all = ap (list_all is_word) c.new-content.ensures.items;
}

pub word-preserved : goal.word-preserved
word-preserved c = record {
  front = word_more (drop c.args.at c.args.bytes.now) c.word.content.items c.push.new.self.items c.args.bytes.now c.word.end c.in-Some.c c.word.invariant.front (sym c.in-Some.ensures.value) c.in_ok-push.ensures.items;
  all = word_all c.word.content.items c.push.new.self.items c.in-Some.c c.word.invariant.all (sym c.is_word.ensures ∙ c.if-not-is_word.false) c.in_ok-push.ensures.items;
}

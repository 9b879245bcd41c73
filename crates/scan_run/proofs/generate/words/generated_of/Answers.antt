use Rattle.std.specs.Prelude.{string_bytes}
use Rattle.scan_run.proofs.Wording.{two_words, three_words}
use Rattle.scan_run.proofs.generate.words.generated_of.Goals as goal

pub returns-in-len2-clause-none : goal.returns-in-len2-clause-none
returns-in-len2-clause-none c = λ e n s h.
    c.asked_by.ensures.none e n s
    (two_words string_bytes n s c.args.words.now c.name-item.result c.rows-item.result _ _ c.in-len2.len_at_least c.in-len2.len_below c.name-item.is c.rows-item.is c.as_str.ensures.value c.as_str-in-len2.ensures.value h)

pub returns-in-len3-clause-none : goal.returns-in-len3-clause-none
returns-in-len3-clause-none c = λ e n s h.
    c.asked_by-in-len3.ensures.none e n s
    (three_words string_bytes n s c.args.words.now c.name-item-then-words-lt4.result c.rows-item-then-words-lt4.result c.spelling-item.result _ _ _ c.in-len3.len_at_least c.in-len3.len_below
    c.name-item-then-words-lt4.is c.rows-item-then-words-lt4.is c.spelling-item.is c.as_str-in-len3.ensures.value c.as_str-in-len3-2.ensures.value c.as_str-in-len3-3.ensures.value h)

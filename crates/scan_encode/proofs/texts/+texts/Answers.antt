use Rattle.std.proofs.Common.{arith}
use Rattle.scan_encode.proofs.Falling.{one_size}
use Rattle.scan_encode.proofs.texts.+texts.Goals as goal

pub all_texts_fit-texts_fit-requires : goal.all_texts_fit-texts_fit-requires
all_texts_fit-texts_fit-requires t c =
    let size = one_size c.args.values.now c.loop-value.value-index c.value-item.result (omega arith) c.value-item.is in (omega (arith, size), tt)

use Rattle.std.proofs.Common.{vec_items}
use Rattle.day.proofs.Prefixes.{Before}
use Rattle.day.proofs.decoding.decode.Given as goal

abbrev pub invariant-loop-word : goal.invariant-loop-word
invariant-loop-word l = Before l.words l.word-index (vec_items l.calls)

use Rattle.std.proofs.Common.{◌-◌, vec_len}
use Rattle.stream.proofs.fill_opening.Given as goal

-- 4 bytes, and 4 for each of 4096 words
abbrev pub decreases-loop-input : goal.decreases-loop-input
decreases-loop-input g l = 16388 - vec_len l.pending

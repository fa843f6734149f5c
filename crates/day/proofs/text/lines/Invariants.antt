use Rattle.std.proofs.Common.{◌≡◌, length, take, string_bytes}
use Rattle.day.specs.Text.{lines_text}
use Rattle.day.proofs.text.lines.Given as goal

abbrev pub invariant-loop-call : goal.invariant-loop-call
invariant-loop-call l = string_bytes l.text ≡ lines_text (take (length l.yielded) l.calls) (take (length l.yielded) l.answers)

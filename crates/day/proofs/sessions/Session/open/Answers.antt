use Rattle.std.proofs.Common.{[], length, refl, ap, arith}
use Rattle.day.proofs.sessions.Session.open.Goals as goal

pub returns : goal.returns
returns c =
    let spelled = c.words-words.ensures.spelled in
    record {
      calls = [];
      answers = [];
      bytes_ask_for_the_calls = record { rest = []; whole = refl; lawful = tt; ends = refl };
      job_is_at_the_moment_after_them = c.open.ensures;
      text_has_the_answers = refl;
      other_bytes_are_pending = c.new.ensures.items;
      place_is_of_the_next_word = omega (arith, ap length spelled.encoded, spelled.lawful.words_within);
    }

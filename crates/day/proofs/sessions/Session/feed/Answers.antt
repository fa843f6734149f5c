use Rattle.std.proofs.Common.{ℕ, ◌*◌, List, drop, string_bytes, refl, ap, ◌∙◌, subst, arith}
use Rattle.std.proofs.lemmas.Result.{err_from_is_err_and}
use Rattle.job.specs.Records.{ledger}
use Rattle.sheet.specs.Reading.{tree}
use Rattle.day.specs.Turning.{Turned}
use Rattle.day.proofs.Feeding.{goes_on, used_within}
use Rattle.day.proofs.Unfinished.{nothing_run}
use Rattle.day.proofs.sessions.Session.feed.Goals as goal

pub returns-in_err-extend_from_slice : goal.returns-in_err-extend_from_slice
returns-in_err-extend_from_slice c =
    let p = err_from_is_err_and c.from_residual.result c.from_residual.ensures.1 in
    rw p.1 (record { turned = nothing_run _ c.args.self.now.job c.args.self.now.job _ refl; goes_on = λ start given told fed. tt })

pub overflow_mul-turn : goal.overflow_mul-turn
overflow_mul-turn c =
    let held = c.extend_from_slice.new.self in
    omega (arith, used_within _ _ _ _ _ _ _ _ c.in_ok-turn.ensures, c.as_slice-pending.ensures.len, held.ok, held.small)

pub drain-requires-clause-in_bounds : goal.drain-requires-clause-in_bounds
drain-requires-clause-in_bounds c = omega (arith, used_within _ _ _ _ _ _ _ _ c.in_ok-turn.ensures, c.as_slice-pending.ensures.len)

pub returns : goal.returns
returns c =
    let turn = c.in_ok-turn.turn in
    let arrived = c.in_ok-extend_from_slice.ensures.items in
    let answered =
    subst
    (λ (bs : List ℕ). Turned (tree c.args.sheet.now) (ledger c.args.self.now.job) bs c.args.self.now.place (string_bytes turn.text) turn.used turn.stopped (ledger c.take_turn.new.job))
    (c.as_slice-pending.ensures.value ∙ arrived) c.in_ok-turn.ensures in
    let left = c.drop-drain.ensures.items ∙ c.drain.ensures.kept ∙ ap (drop (4 * turn.used)) arrived in
    record {
      turned = record { pending_is_answered = answered; unused_bytes_stay = left; place_moves_on = c.saturating_add-self.ensures };
      goes_on = λ start given told fed.
          goes_on (tree c.args.sheet.now) start given told c.args.self.now fed
          (record { job = c.take_turn.new.job; pending = c.drop-drain.new.self.0; place = c.saturating_add-self.result })
          c.args.bytes.now (string_bytes turn.text) turn.used turn.stopped answered left c.saturating_add-self.ensures;
    }

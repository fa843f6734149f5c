use Rattle.std.proofs.Common.{◌≡◌, ℕ, Bool, true, false, cond, eqb, List, [], ◌++◌, length, vec_items, string_bytes, ap, ◌∙◌}
use Rattle.std.proofs.lemmas.Result.{IfOk-weaker}
use Rattle.day.specs.Sessions.{WholeDay}
use Rattle.day.specs.Text.{stop_text}
use Rattle.day.proofs.Feeding.{ends}
use Rattle.day.proofs.sessions.Session.end.Goals as goal

told_by : (b : Bool) (empty : ℕ → Bool) (n m place : ℕ) → b ≡ empty n → n ≡ m → (text : List ℕ) → text ≡ cond b [] (stop_text place) → text ≡ cond (empty m) [] (stop_text place)
told_by b empty n m place test same text h = h ∙ ap (λ (x : Bool). cond x [] (stop_text place)) (test ∙ ap empty same)

pub returns-then-is_empty : goal.returns-then-is_empty
returns-then-is_empty c =
    let held = c.args.self.now.pending in
    let told = told_by true (λ n. eqb n 0) _ _ c.args.self.now.place c.if-is_empty.ensures held.ok.0 _ c.new.ensures.bytes in
    record { told = told; ended = λ t start given said fed. ends t start given said c.args.self.now fed _ told }

pub returns : goal.returns
returns c =
    let held = c.args.self.now in
    let by = told_by false (λ n. eqb n 0) _ _ held.place c.if-is_empty.ensures held.pending.ok.0 in
    record {
      told = IfOk-weaker c.to_string.result (λ text. string_bytes text ≡ stop_text held.place) (λ text. string_bytes text ≡ cond (eqb (length (vec_items held.pending)) 0) [] (stop_text held.place)) (λ text h. by _ h) c.to_string.ensures.ok;
      ended = λ t start given said fed.
          IfOk-weaker c.to_string.result (λ text. string_bytes text ≡ stop_text held.place) (λ text. WholeDay t start given (said ++ string_bytes text)) (λ text h. ends t start given said held fed _ (by _ h)) c.to_string.ensures.ok;
    }

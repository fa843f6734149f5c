-- Words ask for one list of calls.
use Rattle.std.proofs.Common.{◌≡◌, ℕ, ◌+◌, ◌*◌, ◌^◌, Bool, true, false, List, [], ◌∷◌, ◌++◌, sym, refl, ap, ◌∙◌, arith}
use Rattle.std.specs.List.{flat_map}
use Rattle.job.specs.declared.calls.Call.{Call}
use Rattle.job.specs.declared.calls.Call.TheVariants.{Do, Strike, Allow}
use Rattle.day.specs.Calls.{kind, step, encode_call, Lawful, Unfit, Decoded}

abbrev code : Call → ℕ
code c = kind c * 2 ^ 28 + step c

same_call : (c d : Call) → Lawful c → Lawful d → code c ≡ code d → c ≡ d
same_call (Do m) (Do n) h k e = ap Do (omega arith)
same_call (Do m) (Strike n) h k e = absurd (omega arith)
same_call (Do m) (Allow n) h k e = absurd (omega arith)
same_call (Strike m) (Do n) h k e = absurd (omega arith)
same_call (Strike m) (Strike n) h k e = ap Strike (omega arith)
same_call (Strike m) (Allow n) h k e = absurd (omega arith)
same_call (Allow m) (Do n) h k e = absurd (omega arith)
same_call (Allow m) (Strike n) h k e = absurd (omega arith)
same_call (Allow m) (Allow n) h k e = ap Allow (omega arith)

unfit_some : (ws : List ℕ) → Unfit ws → ws ≡ [] → ⊥
unfit_some [] u e = omega (arith, u.some)
unfit_some (w ∷ ws) u e = let z : ◌≡◌ {A = ℕ} 0 1 = cc in omega arith

-- where no call is read no other can be
module _ {ws : List ℕ} where
  no_more : (s : Bool) (d : Call) (ds : List Call) (t : Bool) → Decoded ws [] s → Decoded ws (d ∷ ds) t → ⊥
  no_more true d ds t x y = x.ends.no_call d (flat_map encode_call ds ++ y.rest) y.lawful.0 (sym x.whole ∙ y.whole)
  no_more false d ds t x y =
      let none : ws ≡ [] = x.whole ∙ x.ends in
      let z : ◌≡◌ {A = ℕ} 0 1 = cc in
      omega arith

  same_end : (s t : Bool) → Decoded ws [] s → Decoded ws [] t → s ≡ t
  same_end true true x y = refl
  same_end true false x y = absurd (unfit_some x.rest x.ends (sym x.whole ∙ y.whole ∙ y.ends))
  same_end false true x y = absurd (unfit_some y.rest y.ends (sym y.whole ∙ x.whole ∙ x.ends))
  same_end false false x y = refl

pub decoded_same : (ws : List ℕ) (cs ds : List Call) (s t : Bool) → Decoded ws cs s → Decoded ws ds t → (cs ≡ ds) × (s ≡ t)
decoded_same ws [] [] s t x y = (refl, same_end s t x y)
decoded_same ws [] (d ∷ ds) s t x y = absurd (no_more s d ds t x y)
decoded_same ws (c ∷ cs) [] s t x y = absurd (no_more t c cs s y x)
decoded_same ws (c ∷ cs) (d ∷ ds) s t x y =
    let both = sym x.whole ∙ y.whole in
    let heads : code c ≡ code d = cc in
    let tails : flat_map encode_call cs ++ x.rest ≡ flat_map encode_call ds ++ y.rest = cc in
    let same = same_call c d x.lawful.0 y.lawful.0 heads in
    let more =
    decoded_same (flat_map encode_call cs ++ x.rest) cs ds s t
    (record { rest = x.rest; whole = refl; lawful = x.lawful.1; ends = x.ends })
    (record { rest = y.rest; whole = tails; lawful = y.lawful.1; ends = y.ends }) in
    let calls = more.0 in
    (cc, more.1)

-- Words that begin with the words of calls.
use Rattle.std.proofs.Common.{◌≡◌, ℕ, ◌+◌, ◌<◌, ◌≤◌, true, false, List, [], ◌∷◌, ◌++◌, length, get_or, take, drop, refl, append-nil, arith}
use Rattle.std.specs.List.{flat_map}
use Rattle.std.proofs.lemmas.List.{take-append-drop, drop_more, take_more, take_all, flat_map_more}
use Rattle.job.specs.declared.calls.Call.{Call}
use Rattle.day.specs.Calls.{AllLawful, fits, encode_call, Unfit, Decoded}
use Rattle.day.proofs.Rejoining.{lawful_append}

-- the words before place i ask for these calls
abbrev pub Before : List ℕ → ℕ → List Call → Type 0
Before ws i cs = (take i ws ≡ flat_map encode_call cs) × AllLawful cs

unfit_first : (w : ℕ) (ws : List ℕ) → ((c : Call) → fits w c → ⊥) → Unfit (w ∷ ws)
unfit_first w ws none = record {
  some = omega arith;
  no_call = λ c more lawful e. none c (cc, lawful);
}

pub before_more : (ws : List ℕ) (i : ℕ) (cs : List Call) (c : Call) → Before ws i cs → i < length ws → fits (get_or ws i 0) c → Before ws (i + 1) (cs ++ c ∷ [])
before_more ws i cs c h within f =
    let e = take_more ws i 0 within in
    let j = flat_map_more encode_call [] cs c in
    (cc, lawful_append cs (c ∷ []) h.1 (f.1, tt))

pub stops : (ws : List ℕ) (i : ℕ) (cs : List Call) → Before ws i cs → i < length ws → ((c : Call) → fits (get_or ws i 0) c → ⊥) → Decoded ws cs true
stops ws i cs h within none =
    let d = drop_more ws i 0 within in
    let e = take-append-drop i ws in
    record {
      rest = get_or ws i 0 ∷ drop (i + 1) ws;
      whole = cc;
      lawful = h.1;
      ends = unfit_first (get_or ws i 0) (drop (i + 1) ws) none;
    }

pub ends : (ws : List ℕ) (i : ℕ) (cs : List Call) → Before ws i cs → length ws ≤ i → Decoded ws cs false
ends ws i cs h past =
    let e = take_all i ws past in
    let n = append-nil (flat_map encode_call cs) in
    record { rest = []; whole = cc; lawful = h.1; ends = refl }

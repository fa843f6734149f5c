-- Bytes that arrive in parts ask for the same calls.
use Rattle.std.proofs.Common.{◌≡◌, ℕ, suc, ◌*◌, ◌≤◌, Bool, true, false, List, [], ◌∷◌, ◌++◌, length, drop, sym, refl, ap, ◌∙◌, subst, true≢false, append_assoc, append-nil, arith}
use Rattle.std.proofs.lemmas.List.{length-append}
use Rattle.std.specs.List.{flat_map}
use Rattle.job.specs.declared.calls.Call.{Call}
use Rattle.day.specs.Bytes.{word, whole_words}
use Rattle.day.specs.Calls.{encode_call, AllLawful, Decoded}

four_more : (n : ℕ) (a b c d : ℕ) (rest : List ℕ) → drop (4 * suc n) (a ∷ b ∷ c ∷ d ∷ rest) ≡ drop (4 * n) rest
four_more n a b c d rest =
    let e : 4 * suc n ≡ suc (suc (suc (suc (4 * n)))) = omega arith in
    ap (λ (k : ℕ). drop k (a ∷ b ∷ c ∷ d ∷ rest)) e

-- what makes no word yet goes before what comes next
words_split : (bs more : List ℕ) → whole_words (bs ++ more) ≡ whole_words bs ++ whole_words (drop (4 * length (whole_words bs)) bs ++ more)
words_split [] more = refl
words_split (a ∷ []) more = refl
words_split (a ∷ b ∷ []) more = refl
words_split (a ∷ b ∷ c ∷ []) more = refl
words_split (a ∷ b ∷ c ∷ d ∷ rest) more =
    let e = words_split rest more in
    let f = four_more (length (whole_words rest)) a b c d rest in
    ap (λ (ws : List ℕ). word a b c d ∷ ws) e
    ∙ ap (λ (bs : List ℕ). word a b c d ∷ (whole_words rest ++ whole_words (bs ++ more))) (sym f)

pub lawful_append : (cs ds : List Call) → AllLawful cs → AllLawful ds → AllLawful (cs ++ ds)
lawful_append [] ds h k = k
lawful_append (c ∷ cs) ds h k = (h.0, lawful_append cs ds h.1 k)

encode_append : (cs ds : List Call) → flat_map encode_call (cs ++ ds) ≡ flat_map encode_call cs ++ flat_map encode_call ds
encode_append [] ds = refl
encode_append (c ∷ cs) ds = ap (λ (ws : List ℕ). encode_call c ++ ws) (encode_append cs ds)

pub length_encoded : (cs : List Call) → length (flat_map encode_call cs) ≡ length cs
length_encoded [] = refl
length_encoded (c ∷ cs) = ap suc (length_encoded cs)

words_within : (bs : List ℕ) → 4 * length (whole_words bs) ≤ length bs
words_within [] = omega arith
words_within (a ∷ []) = omega arith
words_within (a ∷ b ∷ []) = omega arith
words_within (a ∷ b ∷ c ∷ []) = omega arith
words_within (a ∷ b ∷ c ∷ d ∷ rest) = omega (arith, words_within rest)

-- the calls take no more bytes than there are
pub calls_within : (bs : List ℕ) (cs : List Call) (s : Bool) → Decoded (whole_words bs) cs s → 4 * length cs ≤ length bs
calls_within bs cs s x =
    omega (arith, words_within bs, ap length x.whole, length-append (flat_map encode_call cs) x.rest, length_encoded cs)

pub whole_calls : (ws : List ℕ) (cs : List Call) → Decoded ws cs false → ws ≡ flat_map encode_call cs
whole_calls ws cs x =
    x.whole ∙ ap (λ (r : List ℕ). flat_map encode_call cs ++ r) x.ends ∙ append-nil (flat_map encode_call cs)

decoded_join : (ws vs : List ℕ) (cs ds : List Call) (s : Bool) → Decoded ws cs false → Decoded vs ds s → Decoded (ws ++ vs) (cs ++ ds) s
decoded_join ws vs cs ds s x y =
    let all = whole_calls ws cs x in
    let e = encode_append cs ds in
    let a = append_assoc (flat_map encode_call cs) (flat_map encode_call ds) y.rest in
    let v = y.whole in
    record { rest = y.rest; whole = cc; lawful = lawful_append cs ds x.lawful y.lawful; ends = y.ends }

-- bytes of whole calls, and more bytes behind them
pub decoded_on : (bs : List ℕ) (cs : List Call) (stopped : Bool) (used : ℕ) → used ≡ length cs → Decoded (whole_words bs) cs stopped → stopped ≡ false → (more : List ℕ) (ds : List Call) (s : Bool) → Decoded (whole_words (drop (4 * used) bs ++ more)) ds s → Decoded (whole_words (bs ++ more)) (cs ++ ds) s
decoded_on bs cs true used counted x go more ds s y = absurd (true≢false go)
decoded_on bs cs false used counted x go more ds s y =
    let long : length (whole_words bs) ≡ used = ap length (whole_calls (whole_words bs) cs x) ∙ length_encoded cs ∙ sym counted in
    let split = words_split bs more ∙ ap (λ (k : ℕ). whole_words bs ++ whole_words (drop (4 * k) bs ++ more)) long in
    subst (λ (ws : List ℕ). Decoded ws (cs ++ ds) s) (sym split) (decoded_join (whole_words bs) (whole_words (drop (4 * used) bs ++ more)) cs ds s x y)

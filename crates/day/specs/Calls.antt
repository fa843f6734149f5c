-- Calls as words: a call's kind stands in the top four bits of its word, its step in the other 28.
use Rattle.std.specs.Prelude.{◌≡◌, ℕ, ◌+◌, ◌*◌, ◌^◌, ◌<◌, Bool, List, [], ◌∷◌, ◌++◌, length, MatchBool, ◌≢◌}
use Rattle.std.specs.List.{flat_map}
use Rattle.job.specs.declared.calls.Call.{Call}
use Rattle.job.specs.declared.calls.Call.TheVariants.{Do, Strike, Allow}

abbrev pub kind : Call → ℕ
kind (Do n) = 1
kind (Strike n) = 2
kind (Allow n) = 3

abbrev pub step : Call → ℕ
step (Do n) = n
step (Strike n) = n
step (Allow n) = n

-- the words that ask for a call
abbrev pub encode_call : Call → List ℕ
encode_call c = (kind c * 2 ^ 28 + step c) ∷ []

-- a call that words can ask for
abbrev pub Lawful : Call → Type 0
Lawful c = step c < 2 ^ 28

abbrev pub fits : ℕ → Call → Type 0
fits w c = (w ∷ [] ≡ encode_call c) × Lawful c

-- words that begin with no call's
pub record Unfit (ws : List ℕ) : Type 0 where
  pub some : 0 < length ws
  pub no_call : (c : Call) (more : List ℕ) → Lawful c → ws ≢ encode_call c ++ more

abbrev pub AllLawful : List Call → Type 0
AllLawful [] = Unit {0}
AllLawful (c ∷ cs) = Lawful c × AllLawful cs

-- the words ask for these calls, and for nothing more unless they stop at a word that fits nothing
pub record Decoded (ws : List ℕ) (cs : List Call) (stopped : Bool) : Type 0 where
  pub rest : List ℕ
  pub whole : ws ≡ flat_map encode_call cs ++ rest
  pub lawful : AllLawful cs
  pub ends : MatchBool stopped (Unfit rest) (rest ≡ [])

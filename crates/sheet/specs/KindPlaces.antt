-- Where the parts of a sheet begin.
use Rattle.std.specs.Prelude.{◌≡◌, ℕ, zero, suc, ◌<◌, Bool, true, false, List, [], ◌∷◌, length, Some, None, Option, ◌==◌}
use Rattle.std.specs.Borrow.{Bor}
use Rattle.sheet.specs.declared.kinds.Kind.{Kind}
use Rattle.sheet.specs.Kinds.{code, row}

-- a word is of this kind
abbrev pub is_of : Kind → ℕ → Bool
is_of kind w = code (row w).kind == code kind

-- from the first word on, or on from the next one, by whether the first is of the kind that is sought
abbrev pub walk_on : Bool → ℕ → List ℕ → (ℕ → List ℕ) → List ℕ
walk_on true zero ws go = ws
walk_on true (suc k) ws go = go k
walk_on false k ws go = go k

-- the words from the word of this kind that has number k among its kind on
unfoldable pub from_kind : Kind → ℕ → List ℕ → List ℕ
from_kind kind k [] = []
from_kind kind k (w ∷ ws) = walk_on (is_of kind w) k (w ∷ ws) (λ j. from_kind kind j ws)

-- what a search for that word tells
abbrev pub Finds : Kind → ℕ → List ℕ → Option (Bor (List ℕ)) → Type 0
Finds kind k ws None = from_kind kind k ws ≡ []
Finds kind k ws (Some part) = (part.now ≡ from_kind kind k ws) × (0 < length part.now)

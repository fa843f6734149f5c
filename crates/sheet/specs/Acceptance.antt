-- What it means that words are accepted: they spell a lawful sheet.
use Rattle.std.specs.Prelude.{◌≡◌, ℕ, List, length, Ok}
use Rattle.sheet.specs.declared.survey.Counts.{Counts}
use Rattle.sheet.specs.Trees.{Tree}
use Rattle.sheet.specs.Encoding.{encode}
use Rattle.sheet.specs.Lawful.{Lawful}
use Rattle.sheet.specs.Decoding.{tree_of}
use Rattle.sheet.specs.Survey.{survey}

abbrev pub counts : Tree → Counts
counts t = record { facts = t.facts; steps = length t.steps; goals = length t.goals }

-- the words are the encoding of this lawful tree
pub record Spells (ws : List ℕ) (t : Tree) : Type 0 where
  pub lawful : Lawful t
  pub encoded : encode t ≡ ws

-- words are accepted, with the counts of their tree, exactly when they are the encoding of a lawful sheet
pub record AcceptedExactlyWhenLawful : Type 0 where
  pub lawful_is_accepted : (ws : List ℕ) (t : Tree) → Spells ws t → survey ws ≡ Ok (counts t)
  pub accepted_is_lawful : (ws : List ℕ) (c : Counts) → survey ws ≡ Ok c → Spells ws (tree_of ws)
  pub spelled_once : (ws : List ℕ) (t : Tree) → Spells ws t → tree_of ws ≡ t

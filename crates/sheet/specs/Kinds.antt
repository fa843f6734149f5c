-- The kinds of words. A word's top four bits are its kind, the other 28 its argument.
use Rattle.std.specs.Prelude.{ℕ, ◌/◌, ◌%◌, ◌^◌, Bool, ◌&&◌, List, [], ◌∷◌, ◌==◌, nat_le, nat_lt, slice_index_or}
use Rattle.sheet.specs.declared.kinds.Kind.{Kind}
use Rattle.sheet.specs.declared.kinds.Argument.{Argument}
use Rattle.sheet.specs.declared.kinds.Follows.{Follows}
use Rattle.sheet.specs.declared.kinds.Place.{Place}
use Rattle.sheet.specs.declared.kinds.Row.{Row}
use Rattle.sheet.specs.declared.kinds.Argument.TheVariants.{Zero, Fact, Count, Work, Facts}

-- the number of a kind, in a word's top four bits
abbrev pub code : Kind → ℕ
code Kind.Never = 0
code Kind.Always = 1
code Kind.Fact = 2
code Kind.Not = 3
code Kind.All = 4
code Kind.Any = 5
code Kind.Set = 6
code Kind.Clear = 7
code Kind.Group = 8
code Kind.When = 9
code Kind.Step = 10
code Kind.Goal = 11
code Kind.Sheet = 12
code Kind.Start = 13
code Kind.End = 14
code Kind.Unused = 15

abbrev line : Kind → Argument → Follows → Place → Row
line k a f p = record { kind = k; argument = a; follows = f; place = p }

abbrev pub kinds : List Row
kinds =
    line Kind.Never Argument.Zero Follows.Nothing Place.Formula
    ∷ line Kind.Always Argument.Zero Follows.Nothing Place.Formula
    ∷ line Kind.Fact Argument.Fact Follows.Nothing Place.Formula
    ∷ line Kind.Not Argument.Zero Follows.Formula Place.Formula
    ∷ line Kind.All Argument.Count Follows.Formulas Place.Formula
    ∷ line Kind.Any Argument.Count Follows.Formulas Place.Formula
    ∷ line Kind.Set Argument.Fact Follows.Nothing Place.Effect
    ∷ line Kind.Clear Argument.Fact Follows.Nothing Place.Effect
    ∷ line Kind.Group Argument.Count Follows.Effects Place.Effect
    ∷ line Kind.When Argument.Zero Follows.Guarded Place.Effect
    ∷ line Kind.Step Argument.Work Follows.Guarded Place.Step
    ∷ line Kind.Goal Argument.Zero Follows.Formula Place.Goal
    ∷ line Kind.Sheet Argument.Facts Follows.Nothing Place.First
    ∷ line Kind.Start Argument.Fact Follows.Nothing Place.Start
    ∷ line Kind.End Argument.Zero Follows.Nothing Place.End
    ∷ line Kind.Unused Argument.Zero Follows.Nothing Place.Nowhere
    ∷ []

-- what a word of kind 15, which has no use, has
abbrev blank : Row
blank = line Kind.Unused Argument.Zero Follows.Nothing Place.Nowhere

abbrev pub row : ℕ → Row
row w = slice_index_or kinds (w / 2 ^ 28) blank

abbrev pub argument : ℕ → ℕ
argument w = w % 2 ^ 28

-- minutes stand in bits 0 to 15 of a step's argument, its grade above them
abbrev pub minutes : ℕ → ℕ
minutes w = argument w % 2 ^ 16

abbrev pub grade : ℕ → ℕ
grade w = argument w / 2 ^ 16

abbrev allowed : Argument → ℕ → ℕ → Bool
allowed Zero n w = argument w == 0
allowed Fact n w = nat_lt (argument w) n
allowed Count n w = nat_le (argument w) 16
allowed Work n w = nat_le (minutes w) 1000 && nat_le (grade w) 9
allowed Facts n w = nat_le (argument w) 64

-- the argument of a word is one that its kind may have, where there are n facts
abbrev pub fits : ℕ → ℕ → Bool
fits n w = allowed (row w).argument n w

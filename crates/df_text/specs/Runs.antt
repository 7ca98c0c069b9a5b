-- How far a text goes along the parts of a pattern before the next star.
use Rattle.std.specs.Prelude.{List, [], ◌∷◌, if◌then◌else◌}
use Rattle.df_model.specs.Values.{Bytes}
use Rattle.df_model.specs.Patterns.{Part, takes}

pub data Ran : Type 0 where
  Matched : Ran
  Failed : Ran
  -- the parts behind the star, and the text that is left there
  AtStar : List Part → Bytes → Ran

abbrev pub ran : List Part → Bytes → Ran
ran [] [] = Ran.Matched
ran [] (b ∷ bs) = Ran.Failed
ran (Part.Star ∷ ps) text = Ran.AtStar ps text
ran (Part.Any ∷ ps) [] = Ran.Failed
ran (Part.Any ∷ ps) (b ∷ bs) = ran ps bs
ran (Part.One x ∷ ps) [] = Ran.Failed
ran (Part.One x ∷ ps) (b ∷ bs) = if takes (Part.One x) b then ran ps bs else Ran.Failed
ran (Part.Class negated ranges ∷ ps) [] = Ran.Failed
ran (Part.Class negated ranges ∷ ps) (b ∷ bs) = if takes (Part.Class negated ranges) b then ran ps bs else Ran.Failed

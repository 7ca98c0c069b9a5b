-- Several sets combined one after another.
use Rattle.std.specs.Prelude.{List, [], ◌∷◌, map}
use Rattle.std.specs.Borrow.{Bor}
use Rattle.df_colls.specs.Roomy.{RoomyMembers}
use Rattle.df_model.specs.Members.{intersection, difference}
use Rattle.df_model.specs.Members as members
use Rattle.df_model.specs.Values.{Members}
use Rattle.df_model.specs.Meaning.Sets.{inter, union, diff}
use Rattle.df_sets.specs.declared.combination.Combine.{Combine}
use Rattle.df_sets.specs.declared.combination.Combine.TheVariants.{Inter, Union, Diff}

-- what the combination of several sets is
abbrev pub combined : Combine → List Members → Members
combined Inter = inter
combined Union = union
combined Diff = diff

-- what is combined so far, and one more set
abbrev pub stepped : Combine → Members → Members → Members
stepped Inter so_far set = intersection so_far set
stepped Union so_far set = members.union so_far set
stepped Diff so_far set = difference so_far set

-- what is combined so far, and further sets one after another
abbrev pub folded : Combine → Members → List Members → Members
folded op so_far [] = so_far
folded op so_far (set ∷ sets) = folded op (stepped op so_far set) sets

-- what some lent sets contain
abbrev pub lent_members : List (Bor RoomyMembers) → List Members
lent_members = map (λ set. set.now.members)

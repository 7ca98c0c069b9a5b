use Rattle.std.proofs.Common.{◌≡◌, ◌<◌, ap, ◌∙◌, arith}
use Rattle.df_model.specs.Members.{empty, len}
use Rattle.df_model.specs.Outcomes.{count}
use Rattle.df_model.specs.Replies.{encoding_of}
use Rattle.df_model.specs.Meaning.Sets.{with_members}
use Rattle.df_sets.proofs.MemberLaws.{adds_to_none}
use Rattle.df_sets.proofs.add.add_to_none.Goals as goal

pub returns : goal.returns
returns c =
    let set = c.add_each.new.set.members in
    let made : set ≡ with_members c.args.words.items empty = c.add_each.ensures ∙ ap (with_members c.args.words.items) (c.reserve.ensures.members ∙ c.new-set.ensures) in
    let some : 0 < len set = grind (arith, c.if-is_empty.ensures) in
    let both = adds_to_none c.args.words.items set made some in
    record { reply = c.in_ok-put_count.ensures ∙ ap (λ n. encoding_of (count n)) c.len-2.ensures ∙ ap encoding_of both.0; change = both.1; fits = tt; alters = tt }
